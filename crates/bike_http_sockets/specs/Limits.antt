-- What the system's numbers say.
use Rattle.std.specs.Prelude.{◌≡◌, ◌⊎◌, ℤ, pos, Option, Some}

-- a listener is gone: EBADF, EINVAL, ENOTSOCK or EOPNOTSUPP
abbrev pub IsGone : Option ℤ → Type 0
IsGone code = (code ≡ Some (pos 9)) ⊎ ((code ≡ Some (pos 22)) ⊎ ((code ≡ Some (pos 88)) ⊎ (code ≡ Some (pos 95))))
