-- How long a page of a database file is.
use Rattle.std.specs.Prelude.{ℕ, ◌+◌, ◌*◌, ◌==◌, nat_le, if◌then◌else◌}

-- The length of a page by the two bytes of its header: 1 stands for 65,536. One that no database has counts as 4,096,
-- with which the engine makes its own.
abbrev pub page_length_of : ℕ → ℕ → ℕ
page_length_of high low = by (high * 256 + low) where
  by : ℕ → ℕ
  by length = if length == 1 then 65536 else (if nat_le 512 length then length else 4096)
