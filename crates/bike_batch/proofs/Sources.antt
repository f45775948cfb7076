-- The three tables of a span, as what is walked.
use Rattle.std.proofs.Common.{◌≡◌, ℕ, suc, ◌+◌, ◌<◌, ◌≤◌, if◌then◌else◌, length-append, ◌&&◌, List, [], ◌∷◌, ◌++◌, length, Bool, true, false, cond, Option, Some, None, Result, refl, sym, ap, ◌∙◌, subst}
use Rattle.std.proofs.Common.{arith}
use Rattle.std.specs.Prelude.{nat_lt, option_map}
use Rattle.std.specs.List.{filter, filter_map, cons_option, flat_map}
use Rattle.std.proofs.lemmas.List.Folds.{flat_map-map}
use Rattle.std.proofs.lemmas.Bool.{and_parts, ltb-true}
use Rattle.sqlite_trees.specs.declared.store.Store.{Ghosts}
use Rattle.bike_ledger.specs.Entries.{Entry}
use Rattle.bike_ledger.specs.Ledger.{refunded_of}
use Rattle.bike_operator.specs.declared.records.Rental.{Rental}
use Rattle.bike_operator.specs.declared.records.Closing.{Closing}
use Rattle.bike_operator.specs.Operator.{Operator, AcceptedRequest, item_at}
use Rattle.bike_operator.specs.Requests.{RequestTexts, request_texts}
use Rattle.bike_operator.specs.Sound.{IsSound}
use Rattle.bike_laws.proofs.SingleSteps.ItemLemmas.{number_of_place}
use Rattle.bike_book.specs.Stored.{numbers_from, with_numbers}
use Rattle.bike_operator.specs.declared.rental_info.ClosingInfo.{ClosingInfo}
use Rattle.bike_operator.specs.declared.rental_info.RentalInfo.{RentalInfo}
use Rattle.bike_queries.specs.Infos.{closing_info, rental_info}
use Rattle.bike_queries.specs.Spans.{ended_info, lies_in, ends_in}
use Rattle.bike_queries.specs.Requests.{request_after}
use Rattle.bike_day_texts.specs.declared.fault.LineFault.{LineFault}
use Rattle.bike_day_texts.specs.declared.table.DayTable.TheVariants.{Entries, Rentals, Requests}
use Rattle.csv.specs.Writing.{default_writer, row_body, is_blank, end_text}
use Rattle.bike_day_texts.specs.Ended.{info_row}
use Rattle.bike_day_texts.specs.Rows.{EndedRow, line_of, columns_of, header_line, entry_fields, entry_line, ended_fields, ended_line, request_fields, request_line}
use Rattle.bike_day_texts.specs.Writing.{WritesLine}
use Rattle.bike_desk.specs.Desk.{DeskValue}
use Rattle.bike_batch.specs.declared.day_fault.DayTableFault.{DayTableFault}
use Rattle.bike_batch.specs.Walking.{WritesTable}
use Rattle.bike_batch.specs.Days.{ended_row, ended_in, span_text}
use Rattle.bike_batch.proofs.Lists.{IsNumbered, find_first}
use Rattle.bike_batch.proofs.WalkLemmas.{Source, AsksLine, text, table_as}

-- a line ends in a line feed
pub lines_end : (fields : List (List ℕ)) → 0 < length (line_of fields)
unfolding line_of
lines_end fields =
    let blank = if is_blank default_writer fields then default_writer.quote ∷ default_writer.quote ∷ [] else [] in
    let one : length (end_text default_writer.terminator) ≡ 1 = refl in
    omega (arith, one, length-append (row_body default_writer fields) (blank ++ end_text default_writer.terminator), length-append blank (end_text default_writer.terminator))

-- ---- entries

-- the numbers of items are their places
numbered_by_place : {X : Type 0} (number : X → ℕ) (n : ℕ) (xs : List X) → ((k : ℕ) (x : X) → item_at k xs ≡ Some x
    → number x ≡ n + k) → IsNumbered number n xs
numbered_by_place number n [] h = tt
numbered_by_place number n (x ∷ xs) h =
    (omega (arith, h 0 x refl), numbered_by_place number (suc n) xs (λ k y is. omega (arith, h (suc k) y is)))

pub numbered_entries : (s : Operator) → IsSound s → IsNumbered (λ e. e.number) (suc s.entries.archived) s.entries.items
numbered_entries s sound = numbered_by_place (λ e. e.number) (suc s.entries.archived) s.entries.items
    (λ k e is. omega (arith, (sound.ledger.entries (s.entries.archived + suc k) e (number_of_place k s.entries e is)).number_is))

pub few_entries : (s : Operator) → IsSound s → length s.entries.items ≤ 100000000
few_entries s sound = omega (arith, sound.ledger.few_entries)

abbrev pub entries : ℕ → ℕ → Source Entry Entry
entries begin until = record {
  header = header_line Entries;
  number = λ e. e.number;
  passes = λ e. lies_in begin until e.at;
  line = entry_line;
  held = λ s. s.entries.items;
  shows = λ s e. e;
  answers = λ s found. found;
  answers_none = λ s. refl;
  answers_some = λ s e. refl;
  archived = λ s. s.entries.archived;
  numbered = numbered_entries;
  headed = lines_end (columns_of Entries);
  lined = λ e passes. lines_end (entry_fields e);
}

pub entry_asks : (begin until : ℕ) (e : Entry) (b c : Option (List ℕ)) (result : Result (Unit {0}) LineFault)
    → WritesLine b c (entry_line e) result
    → AsksLine (entries begin until) e b c result
entry_asks begin until e b c result wrote s x passes same = subst (λ (y : Entry). WritesLine b c (entry_line y) result) same wrote

-- ---- rentals that ended

pub numbered_from : {X : Type 0} (n : ℕ) (xs : List X) → IsNumbered (λ (e : ℕ × X). e.0) n (numbers_from n xs)
numbered_from n [] = tt
numbered_from n (x ∷ xs) = (refl, numbered_from (suc n) xs)

length_from : {X : Type 0} (n : ℕ) (xs : List X) → length (numbers_from n xs) ≡ length xs
length_from n [] = refl
length_from n (x ∷ xs) = ap suc (length_from (suc n) xs)

pub few_rentals : (s : Operator) → IsSound s → length (with_numbers s.rentals) ≤ 100000000
few_rentals s sound = omega (arith, length_from (suc s.rentals.archived) s.rentals.items, sound.rentals.few_rentals, sound.ledger.few_entries)

-- the line of a rental that was closed so
abbrev pub closed_line : ℕ → Rental → Option Closing → List ℕ
closed_line number r None = []
closed_line number r (Some c) = ended_line (ended_row number r c)

pub closed_lines : (begin until number : ℕ) (r : Rental) (o : Option Closing) → ends_in begin until o ≡ true → 0 < length (closed_line number r o)
closed_lines begin until number r None ends = absurd cc
closed_lines begin until number r (Some c) ends = lines_end (ended_fields (ended_row number r c))

abbrev pub rentals : ℕ → ℕ → Source (ℕ × Rental) (ℕ × RentalInfo)
rentals begin until = record {
  header = header_line Rentals;
  number = λ e. e.0;
  passes = λ e. ends_in begin until e.1.closing;
  line = λ e. closed_line e.0 e.1 e.1.closing;
  held = λ s. with_numbers s.rentals;
  shows = λ s e. ended_info s.entries.items e;
  answers = λ s found. option_map (ended_info s.entries.items) found;
  answers_none = λ s. refl;
  answers_some = λ s e. refl;
  archived = λ s. s.rentals.archived;
  numbered = λ s sound. numbered_from (suc s.rentals.archived) s.rentals.items;
  headed = lines_end (columns_of Rentals);
  lined = λ e passes. closed_lines begin until e.0 e.1 e.1.closing passes;
}

-- what was shown of a closed rental is its row
pub rental_asks : (begin until : ℕ) (y : ℕ × RentalInfo) (b c : Option (List ℕ)) (result : Result (Unit {0}) LineFault)
    → ((closing : ClosingInfo) → y.1.closing ≡ Some closing → WritesLine b c (ended_line (info_row y.0 y.1 closing)) result)
    → AsksLine (rentals begin until) y b c result
rental_asks begin until y b c result wrote s x passes same =
    let shown : ℕ × RentalInfo = ended_info s.entries.items x in
    go x.1.closing refl passes
    (subst (λ (z : ℕ × RentalInfo). (closing : ClosingInfo) → z.1.closing ≡ Some closing
    → WritesLine b c (ended_line (info_row z.0 z.1 closing)) result) same wrote) where
      go : (o : Option Closing) → x.1.closing ≡ o → ends_in begin until o ≡ true
          → ((closing : ClosingInfo) → option_map (closing_info (refunded_of x.0 s.entries.items)) x.1.closing ≡ Some closing
          → WritesLine b c (ended_line (info_row x.0 (rental_info (refunded_of x.0 s.entries.items) x.1) closing)) result)
          → WritesLine b c (closed_line x.0 x.1 x.1.closing) result
      go None is ends h = absurd cc
      go (Some closing) is ends h =
          subst (λ (o : Option Closing). WritesLine b c (closed_line x.0 x.1 o) result) (sym is)
          (h (closing_info (refunded_of x.0 s.entries.items) closing) (ap (option_map (closing_info (refunded_of x.0 s.entries.items))) is))

-- ---- the lines of the rentals that ended are those of their rows

module _ (begin until : ℕ) where
  abbrev line_at : ℕ × Rental → List ℕ
  line_at e = closed_line e.0 e.1 e.1.closing

  abbrev ended : List (ℕ × Rental) → List (ℕ × Rental)
  ended = filter (λ e. ends_in begin until e.1.closing)

  abbrev rows : List (ℕ × Rental) → List EndedRow
  rows = filter_map (λ e. ended_in begin until e.0 e.1 e.1.closing)

  one_more : (e : ℕ × Rental) (o : Option Closing) → e.1.closing ≡ o → (xs : List (ℕ × Rental)) (ys : List EndedRow)
      → flat_map line_at xs ≡ flat_map ended_line ys
      → flat_map line_at (cond (ends_in begin until o) (e ∷ xs) xs) ≡ flat_map ended_line
      (cons_option (ended_in begin until e.0 e.1 o) ys)
  one_more e None is xs ys same = same
  one_more e (Some c) is xs ys same = go (lies_in begin until c.finish) where
    go : (b : Bool) → flat_map line_at (cond b (e ∷ xs) xs) ≡ flat_map ended_line
        (cons_option (cond b (Some (ended_row e.0 e.1 c)) None) ys)
    go true =
        ap (λ (o : Option Closing). closed_line e.0 e.1 o ++ flat_map line_at xs) is
        ∙ ap (λ (bytes : List ℕ). ended_line (ended_row e.0 e.1 c) ++ bytes) same
    go false = same

  ended_lines : (es : List (ℕ × Rental)) → flat_map line_at (ended es) ≡ flat_map ended_line (rows es)
  ended_lines [] = refl
  ended_lines (e ∷ es) = one_more e e.1.closing refl (ended es) (rows es) (ended_lines es)

  pub rentals_text : (s : Operator) → text (rentals begin until) s ≡ span_text s Rentals begin until
  rentals_text s = ap (λ (bytes : List ℕ). header_line Rentals ++ bytes) (ended_lines (with_numbers s.rentals))

  -- so a table of their lines is the table of the rentals
  pub rentals_told : {S A : Type 0} (g : Ghosts S) {d e : DeskValue S} {a b : Option (List ℕ)} {result : Result A DayTableFault}
      → WritesTable g d e a b result (text (rentals begin until)) → WritesTable g d e a b result (λ s. span_text s Rentals begin until)
  rentals_told g w = table_as g (text (rentals begin until)) (λ s. span_text s Rentals begin until) rentals_text w

-- ---- accepted requests

abbrev pub requests : ℕ → ℕ → Source (ℕ × AcceptedRequest) RequestTexts
requests begin until = record {
  header = header_line Requests;
  number = λ e. e.0;
  passes = λ e. lies_in begin until e.1.moment;
  line = λ e. request_line (request_texts e);
  held = λ s. with_numbers s.history;
  shows = λ s e. request_texts e;
  answers = λ s found. option_map request_texts found;
  answers_none = λ s. refl;
  answers_some = λ s e. refl;
  archived = λ s. s.history.archived;
  numbered = λ s sound. numbered_from (suc s.history.archived) s.history.items;
  headed = lines_end (columns_of Requests);
  lined = λ e passes. lines_end (request_fields (request_texts e));
}

pub request_asks : (begin until : ℕ) (y : RequestTexts) (b c : Option (List ℕ)) (result : Result (Unit {0}) LineFault)
    → WritesLine b c (request_line y) result
    → AsksLine (requests begin until) y b c result
request_asks begin until y b c result wrote s x passes same = subst (λ (z : RequestTexts). WritesLine b c (request_line z) result) same wrote

module _ (begin until : ℕ) where
  -- a request that was found has a later number than the one that was told
  pub found_later : (s : Operator) (number : ℕ) (y : RequestTexts) → Some y ≡ option_map request_texts (request_after s number begin until)
      → number < y.number
  found_later s number y is = go (request_after s number begin until) refl is where
    go : (o : Option (ℕ × AcceptedRequest)) → request_after s number begin until ≡ o → Some y ≡ option_map request_texts o → number < y.number
    go None found same = absurd cc
    go (Some e) found same =
        let first = find_first (λ (x : ℕ × AcceptedRequest). nat_lt number x.0 && lies_in begin until x.1.moment) e (with_numbers s.history) found in
        let later = ltb-true number e.0 (and_parts (nat_lt number e.0) (lies_in begin until e.1.moment) first.passes).0 in
        let shown : y ≡ request_texts e = cc in
        omega (arith, later, ap (λ (x : RequestTexts). x.number) shown)

  pub requests_text : (s : Operator) → text (requests begin until) s ≡ span_text s Requests begin until
  requests_text s =
      ap (λ (bytes : List ℕ). header_line Requests ++ bytes)
      (sym (flat_map-map request_line request_texts (filter (λ e. lies_in begin until e.1.moment) (with_numbers s.history))))

  pub requests_told : {S A : Type 0} (g : Ghosts S) {d e : DeskValue S} {a b : Option (List ℕ)} {result : Result A DayTableFault}
      → WritesTable g d e a b result (text (requests begin until)) → WritesTable g d e a b result (λ s. span_text s Requests begin until)
  requests_told g w = table_as g (text (requests begin until)) (λ s. span_text s Requests begin until) requests_text w
