-- How many reads are made, and how many bytes they give.
use Rattle.std.proofs.Common.{◌≡◌, ℕ, ◌+◌, ◌-◌, ◌<◌, ◌≤◌, Bool, cond, List, [], ◌∷◌, length, ap, arith, Option, None, Some, inl, inr}
use Rattle.std.specs.Bool.{⊤}
use Rattle.std.proofs.lemmas.Bool.Decides.{eqb_tells}
use Rattle.std.proofs.lemmas.List.{length-append}
use Rattle.std.specs.Io.BufRead.{drop_through}
use Rattle.std.specs.Io.KnownBytes.{Consumes, prepend_known}
use Rattle.bike_stream.specs.declared.buffer.TheConstants.{READ_LENGTH}
use Rattle.bike_stream.specs.Reads.{most_ahead}
use Rattle.bike_stream.specs.Taking.{Taking}
use Rattle.bike_stream.proofs.Takings.{taking_fill}

-- a line takes its bytes, and its line feed where it has one
through_short : (b : ℕ) (bytes : List ℕ) → length (drop_through 10 (b ∷ bytes)) ≤ length bytes
through_short b [] = elim (eqb_tells b 10) [ inl is ↦ rw is.0 (omega arith) | inr isnt ↦ rw isnt.0 (omega arith) ]
through_short b (c ∷ bytes) = elim (eqb_tells b 10) [
  | inl is ↦ rw is.0 (omega arith)
  | inr isnt ↦ rw isnt.0 (let rest = through_short c bytes in omega (arith, rest))
]

pub through_shorter : (bytes : List ℕ) → 0 < length bytes → length (drop_through 10 bytes) < length bytes
through_shorter [] any = absurd (omega arith)
through_shorter (b ∷ bytes) any = let rest = through_short b bytes in omega (arith, rest)

-- where the reader's bytes are known, each read gave one at least
abbrev pub GivesBytes : Option (List ℕ) → Option (List ℕ) → ℕ → ℕ → Type 0
GivesBytes None new before after = ⊤
GivesBytes (Some text) None before after = ⊥
GivesBytes (Some text) (Some left) before after = before + length left ≤ after + length text

-- one read more, which gave bytes
gives_more : (known old new : Option (List ℕ)) (before reads fewer : ℕ) (got : List ℕ) → GivesBytes known old before reads → Consumes old new got → 0 < length got
    → reads ≡ fewer + 1 → GivesBytes known new before fewer
gives_more None old new before reads fewer got gives takes any one = tt
gives_more (Some text) None new before reads fewer got gives takes any one = absurd gives
gives_more (Some text) (Some xs) None before reads fewer got gives takes any one = absurd takes
gives_more (Some text) (Some xs) (Some ys) before reads fewer got gives takes any one = omega (arith, gives, ap length takes, length-append got ys)

-- What is held before a piece is taken: a byte at least, however it came.
pub record IsFilled (most : ℕ) (text first rest : Option (List ℕ)) (started : Bool) (held line : List ℕ) (before reads limit : ℕ) : Type 0 where
  pub taking : Taking most text started (prepend_known held rest) line
  pub any : 0 < length held
  pub within : most_ahead held reads + cond started 1 0 ≤ limit
  pub made : reads ≤ before
  pub bytes : GivesBytes first rest before reads

-- by one read more
pub filled_now : (most : ℕ) (text first old new : Option (List ℕ)) (started : Bool) (held got line : List ℕ) (before reads ahead : ℕ) → held ≡ [] → ¬ (reads ≡ 0)
    → Taking most text started (prepend_known held old) line → most_ahead held reads + cond started 1 0 ≤ ahead → reads ≤ before → GivesBytes first old before reads
    → Consumes old new got → 0 < length got → length got ≤ READ_LENGTH → IsFilled most text first new started got line before (reads - 1) ahead
filled_now most text first old new started held got line before reads ahead none some taking within made gives takes any bound =
    let one : reads ≡ (reads - 1) + 1 = omega (arith, some) in
    record {
      taking = taking_fill most text old new started held got line none taking takes;
      any = any;
      within = omega (arith, within, bound, one);
      made = omega arith;
      bytes = gives_more first old new before reads (reads - 1) got gives takes any one;
    }
