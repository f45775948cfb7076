-- The verdict on further names: the least of what three passes over their lines find.
use Rattle.std.proofs.Common.{◌≡◌, ℕ, ◌++◌, length, Bool, true, false, not, ◌&&◌, Option, Some, None, is_some, refl, sym, ap, ◌∙◌, arith}
use Rattle.std.specs.Prelude.{take, nat_lt, option_map}
use Rattle.std.specs.Option.{IsSomeAnd}
use Rattle.std.specs.Str.{bytes_eq}
use Rattle.std.proofs.lemmas.Bool.{ltb-true, lt-ltb, and_from}
use Rattle.std.proofs.lemmas.List.{take-append-le}
use Rattle.sqlite_value.specs.Order.{Row}
use Rattle.sqlite_rules.specs.Lists.{Has}
use Rattle.bike_fields.proofs.Lengths.{both_hold}
use Rattle.bike_catalogue.specs.Rows.{SystemRow}
use Rattle.bike_operator.specs.declared.limits.TheConstants.{MOST_FURTHER_NAMES}
use Rattle.bike_operator.specs.Operator.{Operator}
use Rattle.bike_operator.specs.Names.{is_own_language}
use Rattle.bike_book.specs.Tables.{Tables, MoreNames}
use Rattle.bike_readings.specs.Readings.{name_read}
use Rattle.bike_readings.specs.ReadOff.{operator_of}
use Rattle.bike_readings.specs.Demands.{names_before, IsGoodName}
use Rattle.bike_readings.specs.Rules.{AreInOrder}
use Rattle.bike_readings.proofs.RowRules.{some_and, some_with}
use Rattle.bike_judges.specs.declared.query.Query.TheVariants as query
use Rattle.bike_judges.specs.Lines.{lines_of}
use Rattle.bike_judges.specs.Passes.{first_failing}
use Rattle.bike_judges.specs.Verdicts.{IsTableVerdict}
use Rattle.bike_judges.specs.Least.{least_key}
use Rattle.bike_judges.proofs.LineLaw.{lines_verdict, rows_verdict}
use Rattle.bike_catalogue_rules.specs.Names.{FurtherName, system_key, is_own_id, is_further, may_follow, first_misnamed, has_place, has_offer}
use Rattle.bike_catalogue_rules.specs.declared.names.SystemKey.{SystemKey}
use Rattle.bike_catalogue_rules.proofs.NameLines.{place_named, offer_named, named_parts, places_line, offers_line, place_is, offer_is}
use Rattle.bike_catalogue_rules.proofs.NameRules.{is_placed, misnamed_failing}
use Rattle.bike_catalogue_rules.proofs.RowVerdicts.{IsTestOf, test_verdict, both, both_verdict}
use Rattle.bike_catalogue_rules.proofs.Widths.{AreWide}

was_false : (b : Bool) → not b ≡ true → b ≡ false
was_false true e = absurd cc
was_false false e = refl

-- ---- one name

module _ (s : Operator) (below : ℕ) (e : FurtherName) where
  abbrev before : ℕ
  before = length (names_before s e.0 e.1 e.2.language)

  -- it may follow those before it, and what has it is there
  record PassesAll : Type 0 where
    follows : may_follow (option_map system_key s.system) before e ≡ true
    place : place_named s e.0 e.1 ≡ true
    offer : offer_named s e.0 e.1 ≡ true

  -- so it is good,
  passes_good : PassesAll → IsGoodName s below e
  passes_good it = go s.system refl (both_hold (nat_lt before MOST_FURTHER_NAMES) (is_further (option_map system_key s.system) e) it.follows).1 where
    go : (o : Option SystemRow) → s.system ≡ o → is_further (option_map system_key o) e ≡ true → IsGoodName s below e
    go None set further = absurd cc
    go (Some x) set further =
        let parts = both_hold (is_own_id (system_key x) e.0 e.1) (not (bytes_eq x.language e.2.language)) further in
        record {
          set = ap is_some set;
          named = named_parts s x set e.0 e.1
              ∙ and_from (is_own_id (system_key x) e.0 e.1) (place_named s e.0 e.1 && offer_named s e.0 e.1) parts.0 (and_from (place_named s e.0 e.1) (offer_named s e.0 e.1) it.place it.offer);
          further = ap (λ (o : Option SystemRow). is_own_language o e.2.language) set ∙ was_false (bytes_eq x.language e.2.language) parts.1;
          room = ltb-true before MOST_FURTHER_NAMES (both_hold (nat_lt before MOST_FURTHER_NAMES) (is_further (option_map system_key s.system) e) it.follows).0;
        }

  -- and only so
  good_passes : IsGoodName s below e → PassesAll
  good_passes good = go s.system refl where
    go : (o : Option SystemRow) → s.system ≡ o → PassesAll
    go None set = absurd (let some : is_some s.system ≡ true = good.set in let none : is_some s.system ≡ false = ap is_some set in cc)
    go (Some x) set =
        let parts = both_hold (is_own_id (system_key x) e.0 e.1) (place_named s e.0 e.1 && offer_named s e.0 e.1) (sym (named_parts s x set e.0 e.1) ∙ good.named) in
        let there = both_hold (place_named s e.0 e.1) (offer_named s e.0 e.1) parts.1 in
        let apart : not (bytes_eq x.language e.2.language) ≡ true = ap not (sym (ap (λ (o : Option SystemRow). is_own_language o e.2.language) set) ∙ good.further) in
        let further : is_further (option_map system_key s.system) e ≡ true =
        ap (λ (o : Option SystemRow). is_further (option_map system_key o) e) set ∙ and_from (is_own_id (system_key x) e.0 e.1) (not (bytes_eq x.language e.2.language)) parts.0 apart in
        record {
          follows = and_from (nat_lt before MOST_FURTHER_NAMES) (is_further (option_map system_key s.system) e) (lt-ltb before MOST_FURTHER_NAMES good.room) further;
          place = there.0;
          offer = there.1;
        }

module _ (t : Tables) (up : AreInOrder t) (wide : AreWide t) (own : Option SystemKey) (own_is : own ≡ option_map system_key (operator_of t).system) where
  abbrev s : Operator
  s = operator_of t

  abbrev placed : ℕ → Row → Bool
  placed n r = is_placed own s (name_read r)

  abbrev with_place : ℕ → Row → Bool
  with_place n r = has_place n (places_line t r)

  abbrev with_offer : ℕ → Row → Bool
  with_offer n r = has_offer n (offers_line t r)

  abbrev test : ℕ → Row → Bool
  test = both t MoreNames (both t MoreNames placed with_place) with_offer

  name_test : IsTestOf t MoreNames test
  name_test = record {
    may_lack = λ key. tt;
    good = λ below r has passes.
        let two = both_hold (placed below r && with_place below r) (with_offer below r) passes in
        let one = both_hold (placed below r) (with_place below r) two.0 in
        good below r has (name_read r) refl one.0 one.1 two.1;
    passes = λ below r has good.
        let it = some_with (IsGoodName s below) (name_read r) good in
        let each = good_passes s below it.value it.fact in
        and_from (placed below r && with_place below r) (with_offer below r)
        (and_from (placed below r) (with_place below r)
        ((λ i. is_placed (own_is i) s (it.value_is i)) ∙ each.follows)
        (place_is t up wide r has it.value it.value_is below ∙ each.place))
        (offer_is t up wide r has it.value it.value_is below ∙ each.offer);
  }
    where
      good : (below : ℕ) (r : Row) → Has t.more_names r → (o : Option FurtherName) → name_read r ≡ o → is_placed own s (name_read r) ≡ true → with_place below r ≡ true → with_offer below r ≡ true
          → IsSomeAnd (name_read r) (IsGoodName s below)
      good below r has None read follows place offer = absurd (let never : is_placed own s None ≡ true = ap (is_placed own s) (sym read) ∙ follows in cc)
      good below r has (Some e) read follows place offer =
          some_and (IsGoodName s below) (name_read r) e read
          (passes_good s below e (record {
            follows = (λ i. is_placed (sym own_is i) s (sym read i)) ∙ follows;
            place = sym (place_is t up wide r has e read below) ∙ place;
            offer = sym (offer_is t up wide r has e read below) ∙ offer;
          }))

  line_key : (r rest : Row) → Has t.more_names r → take 3 (r ++ rest) ≡ take 3 r
  line_key r rest has = let four = wide.more_names r has in take-append-le 3 r rest (omega (arith, four))

  -- THE VERDICT on names
  pub names_verdict : (a b c : Option Row) → first_misnamed own None 0 (lines_of query.Names t) ≡ a → first_failing has_place (take 3) 0 (lines_of query.NamePlaces t) ≡ b
      → first_failing has_offer (take 3) 0 (lines_of query.NameOffers t) ≡ c
      → IsTableVerdict t MoreNames (least_key (least_key a b) c)
  names_verdict a b c order place offer =
      let first = rows_verdict t MoreNames up placed (take 3) (λ r has. refl) a (sym (misnamed_failing t up own) ∙ order) in
      let second = lines_verdict t MoreNames up (places_line t) has_place (take 3) (λ r has. line_key r _ has) b place in
      let third = lines_verdict t MoreNames up (offers_line t) has_offer (take 3) (λ r has. line_key r _ has) c offer in
      test_verdict t MoreNames test name_test (least_key (least_key a b) c)
      (both_verdict t MoreNames (both t MoreNames placed with_place) with_offer (least_key a b) c (both_verdict t MoreNames placed with_place a b first second) third)
