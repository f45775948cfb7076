-- Either of two disks.
use Rattle.std.specs.Prelude.{ℕ, Bool, List, IsTrue}
use Rattle.bike_read_only.specs.declared.source.Source.{Source}
use Rattle.bike_read_only.specs.declared.source.Source.TheVariants.{File, Copy}

-- what one of the two shows
abbrev pub from_either {ℓ} : {A B : Type 0} {R : Type ℓ} → (A → R) → (B → R) → Source A B → R
from_either of_file of_copy (File file) = of_file file
from_either of_file of_copy (Copy copy) = of_copy copy

-- either that is clean is fair
pub fair_either : {A B : Type 0} {a_clean : A → Bool} {b_clean : B → Bool} {a_fair : A → ℕ → Bool}
    {b_fair : B → ℕ → Bool}
    → ((file : A) (key : ℕ) → IsTrue (a_clean file) → IsTrue (a_fair file key))
    → ((copy : B) (key : ℕ) → IsTrue (b_clean copy) → IsTrue (b_fair copy key))
    → (it : Source A B) (key : ℕ) → IsTrue (from_either a_clean b_clean it) → IsTrue (from_either a_fair b_fair it key)
fair_either of_file of_copy (File file) = of_file file
fair_either of_file of_copy (Copy copy) = of_copy copy

-- what either shows may stay of it
pub stays_either : {A B : Type 0} {a_seen : A → List ℕ} {b_seen : B → List ℕ} (a_left : A → List ℕ → Type 0)
    (b_left : B → List ℕ → Type 0)
    → ((file : A) → a_left file (a_seen file)) → ((copy : B) → b_left copy (b_seen copy))
    → (it : Source A B) → from_either a_left b_left it (from_either a_seen b_seen it)
stays_either a_left b_left of_file of_copy (File file) = of_file file
stays_either a_left b_left of_file of_copy (Copy copy) = of_copy copy
