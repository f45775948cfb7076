-- The types that rows of the old `counts` spell, one row after another.
use Rattle.std.proofs.Common.{◌≡◌, ◌<◌, ◌+◌, inl, inr, ℕ, zero, suc, Bool, true, false, List, [], ◌∷◌, ◌++◌, length, take, get_or, Option, Some, None, if◌then◌else◌, refl, sym, ap, ◌∙◌, arith}
use Rattle.std.specs.Prelude.{option_map, option_and_then}
use Rattle.std.proofs.lemmas.List.{take_more}
use Rattle.sqlite_value.specs.Order.{Row}
use Rattle.sqlite_rules.specs.Lists.{Has}
use Rattle.bike_book.specs.declared.by_type.CountedType.{CountedType}
use Rattle.bike_book.specs.ByType.{are_none}
use Rattle.bike_recognition.specs.EarlierVersions.Counts.{old_count_read, counted_first, old_types}

-- ---- one that spells none

got_has : (rows : List Row) (i : ℕ) (row : Row) → i < length rows → row ≡ get_or rows i row → Has rows row
got_has [] i row within is = absurd (omega (arith, within))
got_has (r ∷ rows) zero row within is = inl is
got_has (r ∷ rows) (suc i) row within is = inr (got_has rows i row (omega (arith, within)) is)

none_told : (rows : List Row) (row : Row) → Has rows row → old_count_read row ≡ None → old_types rows ≡ None
none_told [] row has none = absurd has
none_told (r ∷ rows) row (inl is) none = rw (sym is, none) refl
none_told (r ∷ rows) row (inr later) none = rw (none_told rows row later none) (by (old_count_read r))
  where
    by : (o : Option CountedType) → option_and_then (λ first. option_map (counted_first first) None) o ≡ None
    by None = refl
    by (Some c) = refl

pub none_spelled : (rows : List Row) (i : ℕ) (row : Row) → i < length rows → row ≡ get_or rows i row → old_count_read row ≡ None → old_types rows ≡ None
none_spelled rows i row within is none = none_told rows row (got_has rows i row within is) none

-- ---- one more that spells one

first_before : (c : CountedType) (types more : List CountedType) → counted_first c (types ++ more) ≡ counted_first c types ++ more
first_before c types more = by (are_none c.counts)
  where
    by : (b : Bool) → (if b then types ++ more else (record { type_id = c.type_id; counts = c.counts } ∷ (types ++ more)))
        ≡ (if b then types else (record { type_id = c.type_id; counts = c.counts } ∷ types)) ++ more
    by true = refl
    by false = refl

types_then : (rows : List Row) (row : Row) (types : List CountedType) (c : CountedType) → old_types rows ≡ Some types → old_count_read row ≡ Some c
    → old_types (rows ++ row ∷ []) ≡ Some (types ++ counted_first c [])
types_then [] row types c told read = let none : [] ≡ types = cc in rw (read, sym none) refl
types_then (r ∷ rows) row types c told read = by (old_count_read r) (old_types rows) refl told (λ ts is. types_then rows row ts c is read)
  where
    by : (o : Option CountedType) (p : Option (List CountedType)) → old_types rows ≡ p → option_and_then (λ first. option_map (counted_first first) p) o ≡ Some types
        → ((ts : List CountedType) → old_types rows ≡ Some ts → old_types (rows ++ row ∷ []) ≡ Some (ts ++ counted_first c []))
        → option_and_then (λ first. option_map (counted_first first) (old_types (rows ++ row ∷ []))) o ≡ Some (types ++ counted_first c [])
    by None p is told next = absurd cc
    by (Some f) None is told next = absurd cc
    by (Some f) (Some ts) is told next =
        let types_are : counted_first f ts ≡ types = cc in
        rw (next ts is) (ap Some (first_before f ts (counted_first c []) ∙ ap (λ l. l ++ counted_first c []) types_are))

pub types_more : (rows : List Row) (i : ℕ) (row : Row) (types : List CountedType) (c : CountedType) → i < length rows → row ≡ get_or rows i row
    → old_types (take i rows) ≡ Some types → old_count_read row ≡ Some c → old_types (take (i + 1) rows) ≡ Some (types ++ counted_first c [])
types_more rows i row types c within is told read =
    ap old_types (take_more rows i row within ∙ ap (λ r. take i rows ++ r ∷ []) (sym is)) ∙ types_then (take i rows) row types c told read
