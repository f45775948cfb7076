-- The text of a command may stand in a line, and has at most 2,000 bytes: by the kinds of its fields.
use Rattle.std.proofs.Common.{◌≡◌, ℕ, ℤ, pos, neg_ℤ, ◌≤ℤ◌, ◌≤◌, ◌+◌, ◌*◌, List, [], ◌∷◌, ◌++◌, Bool, true, false, cond, ◌&&◌, Option, Some, None, refl, sym, ap₂, subst, arith}
use Rattle.std.proofs.Common.{codes, decimal, length, map, append-nil}
use Rattle.std.specs.Prelude.{nat_le}
use Rattle.std.specs.Char.{is_ascii_digit}
use Rattle.std.specs.List.{list_all, join_with_byte}
use Rattle.std.specs.Str.{is_utf8}
use Rattle.std.proofs.lemmas.Bool.Decides.{nat_tests}
use Rattle.std.proofs.lemmas.Int.{ints}
use Rattle.std.proofs.lemmas.Option.{same_Some}
use Rattle.std.proofs.lemmas.Str.{IsUtf8-from_is_utf8}
use Rattle.bike_fixed.specs.Coordinate.{IsCoordinate, minus_text, fraction}
use Rattle.bike_fixed.specs.Text.{micro_text}
use Rattle.bike_fixed.proofs.Spellings.{micro_text_spelled}
use Rattle.bike_fields.specs.Bytes.{is_ident, is_ident_byte, is_language_byte, is_upper, is_ascii_field, is_name, is_name_byte, is_printable, has_length}
use Rattle.bike_fields.specs.NameKinds.{kind_text}
use Rattle.bike_fields.specs.Values.{SegmentRow, IsSegment, IsRange, IsEnd as IsSegmentEnd}
use Rattle.bike_fields.specs.Vehicle.{form_text, propulsion_text}
use Rattle.bike_fields.specs.declared.name_kind.NameKind.{NameKind}
use Rattle.bike_fields.specs.declared.name_kind.NameKind.TheVariants as named
use Rattle.bike_fields.specs.declared.vehicle.Form.{Form}
use Rattle.bike_fields.specs.declared.vehicle.Form.TheVariants.{Bicycle, CargoBicycle}
use Rattle.bike_fields.specs.declared.vehicle.Propulsion.{Propulsion}
use Rattle.bike_fields.specs.declared.vehicle.Propulsion.TheVariants.{Human, ElectricAssist}
use Rattle.bike_fields.proofs.Lengths.{both_hold}
use Rattle.bike_texts.specs.declared.ends.OrderEnd.{OrderEnd}
use Rattle.bike_texts.specs.declared.ends.OrderEnd.TheVariants.{Depot, Station}
use Rattle.bike_texts.specs.declared.ends.Side.{Side}
use Rattle.bike_texts.specs.declared.ends.Side.TheVariants.{From, To}
use Rattle.bike_texts.specs.Fields.{Field, Number, Fixed, Id, Language, Currency, Name, Ascii, Degrees, Metres, Segments, End, Choice, IdOrNone, IsEnd, IsGood, AreGood, AreSegments}
use Rattle.bike_texts.specs.Fields.{end_text, escapes_of, field_text, fields_text, segment_end_text, segment_text, segments_text, side_text}
use Rattle.bike_texts.proofs.Absent.{all_weaker}
use Rattle.bike_texts.proofs.Chains.{pick}
use Rattle.bike_commands.specs.declared.command.Command.{Command}
use Rattle.bike_commands.specs.Commands.{word_of, IsCommand, text_of}
use Rattle.bike_texts.specs.Kinds.{Kind, Numbers, Idents, Languages, Currencies, Names, Asciis, Choices, Coordinates, Forms, Ranges, SegmentLists, Ends, IdentsOrNone, Sides, NameKinds, ◌&◌, Value}
use Rattle.bike_texts.specs.Kinds.{fields_with}
use Rattle.bike_requests.specs.Readers.{Row, rows, row_by}
use Rattle.bike_requests.proofs.CommandLaws.{of_row}
use Rattle.bike_requests.proofs.KindLaws.{fields_text_append}
use Rattle.bike_requests.proofs.LineTexts.{FitsLine, appended, behind_tab, decimal_fits, digits_fits, escaped_fits, printable_fits, signed_fits, within, word_fits}

-- ---- texts that stand as they are

ident_byte : (b : ℕ) → is_ident_byte b ≡ true → is_printable b ≡ true
ident_byte b h = grind (arith, nat_tests, h)

language_byte : (b : ℕ) → is_language_byte b ≡ true → is_printable b ≡ true
language_byte b h = grind (arith, nat_tests, h)

upper_byte : (b : ℕ) → is_upper b ≡ true → is_printable b ≡ true
upper_byte b h = grind (arith, nat_tests, h)

-- a text of the right length, with bytes of a set
pub of_bytes : (least most : ℕ) (is_byte : ℕ → Bool) → ((b : ℕ) → is_byte b ≡ true → is_printable b ≡ true) → (bs : List ℕ) → (has_length least most bs && list_all is_byte bs) ≡ true
    → FitsLine most bs
of_bytes least most is_byte printable bs h =
    let t = both_hold (has_length least most bs) (list_all is_byte bs) h in
    let short = both_hold (nat_le least (length bs)) (nat_le (length bs) most) t.0 in
    printable_fits bs (grind (arith, nat_tests, short.1)) (all_weaker is_byte is_printable printable bs t.1)

pub ident_fits : (bs : List ℕ) → is_ident bs ≡ true → FitsLine 36 bs
ident_fits = of_bytes 1 36 is_ident_byte ident_byte

-- ---- texts with escapes

ascii_fits : (bs : List ℕ) → is_ascii_field bs ≡ true → FitsLine 400 (escapes_of bs)
ascii_fits bs h = let plain = of_bytes 1 200 is_printable (λ b p. p) bs h in escaped_fits bs (omega (arith, plain.short)) plain.utf8

name_fits : (bs : List ℕ) → is_name bs ≡ true → FitsLine 240 (escapes_of bs)
name_fits bs h =
    let all = both_hold (has_length 1 120 bs && list_all is_name_byte bs) (is_utf8 bs) h in
    let bytes = both_hold (has_length 1 120 bs) (list_all is_name_byte bs) all.0 in
    let bounds = both_hold (nat_le 1 (length bs)) (nat_le (length bs) 120) bytes.0 in
    let short : length bs ≤ 120 = grind (arith, nat_tests, bounds.1) in
    escaped_fits bs (omega (arith, short)) (IsUtf8-from_is_utf8 bs all.1)

-- ---- coordinates

minus_fits : (minus : Bool) → FitsLine 1 (minus_text minus)
minus_fits true = word_fits (codes "-") refl
minus_fits false = word_fits [] refl

fraction_fits : (part : List ℕ) → length part ≤ 6 → list_all is_ascii_digit part ≡ true → FitsLine 7 (fraction part)
fraction_fits [] short h = word_fits [] refl
fraction_fits (d ∷ ds) short h = appended (word_fits {most = 1} (codes ".") refl) (digits_fits {most = 6} (d ∷ ds) short h)

coordinate_fits : (text : List ℕ) (z : ℤ) → IsCoordinate text z → FitsLine 11 text
coordinate_fits text z c =
    subst (FitsLine 11) (sym c.spelled) (appended (minus_fits c.minus) (appended (digits_fits c.whole c.few_whole c.whole_digits) (fraction_fits c.part c.few_part c.part_digits)))

-- ---- segments

colon : {n : ℕ} {text : List ℕ} → FitsLine n text → FitsLine (1 + n) (58 ∷ text)
colon h = appended (word_fits {most = 1} (codes ":") refl) h

segment_end_fits : (start : ℕ) (end : Option ℕ) → IsSegmentEnd start end → FitsLine 20 (segment_end_text end)
segment_end_fits start None good = word_fits (codes "-") refl
segment_end_fits start (Some n) good = decimal_fits n (omega (arith, good.0))

segment_fits : (s : SegmentRow) → IsSegment s → FitsLine 84 (segment_text s)
segment_fits s good =
    let low : neg_ℤ (pos 9223372036854775808) ≤ℤ s.rate = omega (arith, ints, good.rate.0) in
    let high : s.rate ≤ℤ pos 9223372036854775807 = omega (arith, ints, good.rate.1) in
    let start = decimal_fits s.start (omega (arith, good.start)) in
    let interval = decimal_fits s.interval (omega (arith, good.interval)) in
    appended start (colon (appended (signed_fits s.rate low high) (colon (appended interval (colon (segment_end_fits s.start s.end good.end))))))

joined_fits : (s : SegmentRow) (ss : List SegmentRow) → AreSegments (s ∷ ss) → FitsLine (85 * length (s ∷ ss)) (join_with_byte 59 (map segment_text (s ∷ ss)))
joined_fits s [] good = within (omega arith) (segment_fits s good.0)
joined_fits s (t ∷ ss) good =
    let others = appended (word_fits {most = 1} (codes ";") refl) (joined_fits t ss good.1) in
    within (omega arith) (appended (segment_fits s good.0) others)

segments_fits : (ss : List SegmentRow) → AreSegments ss → length ss ≤ 8 → FitsLine 680 (segments_text ss)
segments_fits [] good few = word_fits (codes "-") refl
segments_fits (s ∷ ss) good few = within (omega (arith, few)) (joined_fits s ss good)

-- ---- words of a list

form_fits : (form : Form) → FitsLine 13 (form_text form)
form_fits Bicycle = word_fits (form_text Bicycle) refl
form_fits CargoBicycle = word_fits (form_text CargoBicycle) refl

propulsion_fits : (propulsion : Propulsion) → FitsLine 15 (propulsion_text propulsion)
propulsion_fits Human = word_fits (propulsion_text Human) refl
propulsion_fits ElectricAssist = word_fits (propulsion_text ElectricAssist) refl

side_fits : (side : Side) → FitsLine 4 (side_text side)
side_fits From = word_fits (side_text From) refl
side_fits To = word_fits (side_text To) refl

kind_fits : (kind : NameKind) → FitsLine 11 (kind_text kind)
kind_fits named.System = word_fits (kind_text named.System) refl
kind_fits named.Station = word_fits (kind_text named.Station) refl
kind_fits named.Type = word_fits (kind_text named.Type) refl
kind_fits named.Plan = word_fits (kind_text named.Plan) refl
kind_fits named.Description = word_fits (kind_text named.Description) refl
kind_fits named.Region = word_fits (kind_text named.Region) refl

chosen_fits : (word other : List ℕ) → list_all is_printable word ≡ true → list_all is_printable other ≡ true → (b : Bool) → FitsLine (length word + length other) (cond b word other)
chosen_fits word other w o true = printable_fits word (omega arith) w
chosen_fits word other w o false = printable_fits other (omega arith) o

-- ---- values of several forms

end_fits : (end : OrderEnd) → IsEnd end → FitsLine 36 (end_text end)
end_fits Depot good = word_fits (codes "*") refl
end_fits (Station station) good = ident_fits station good

ident_or_none_fits : (id : Option (List ℕ)) → IsGood (IdOrNone id) → FitsLine 36 (field_text (IdOrNone id))
ident_or_none_fits None good = word_fits (codes "*") refl
ident_or_none_fits (Some id) good = ident_fits id good

metres_fits : (propulsion : Propulsion) (n : ℕ) → IsRange propulsion n → FitsLine 20 (decimal n)
metres_fits Human n good = decimal_fits n (omega (arith, good))
metres_fits ElectricAssist n good = decimal_fits n (omega (arith, good.1))

-- ---- fields of a kind

field_fits : {n : ℕ} (f : Field) → FitsLine n (field_text f) → FitsLine (1 + n) (fields_text (f ∷ []))
unfolding fields_text
field_fits f h = rw (append-nil (field_text f)) (behind_tab h)

fields_fits : {m n : ℕ} (fs gs : List Field) → FitsLine m (fields_text fs) → FitsLine n (fields_text gs) → FitsLine (m + n) (fields_text (fs ++ gs))
fields_fits fs gs a b = rw (fields_text_append fs gs) (appended a b)

good_parts : (fs gs : List Field) → AreGood (fs ++ gs) → AreGood fs × AreGood gs
good_parts [] gs good = (tt, good)
good_parts (f ∷ fs) gs good = let others = good_parts fs gs good.1 in ((good.0, others.0), others.1)

-- the words of its choices can be printed
abbrev has_words : Kind → Bool
has_words (Choices word other) = list_all is_printable word && list_all is_printable other
has_words (k & l) = has_words k && has_words l
has_words _ = true

-- the most bytes of its fields, with a TAB before each
abbrev most_bytes : Kind → ℕ
most_bytes (Numbers least greatest) = 21
most_bytes Idents = 37
most_bytes Languages = 36
most_bytes Currencies = 4
most_bytes Names = 241
most_bytes Asciis = 401
most_bytes (Choices word other) = 1 + (length word + length other)
most_bytes (Coordinates greatest) = 12
most_bytes Forms = 14
most_bytes Ranges = 37
most_bytes SegmentLists = 681
most_bytes Ends = 37
most_bytes IdentsOrNone = 37
most_bytes Sides = 5
most_bytes NameKinds = 12
most_bytes (k & l) = most_bytes k + most_bytes l

values_fits : (k : Kind) (v : Value k) → has_words k ≡ true → AreGood (fields_with k v) → FitsLine (most_bytes k) (fields_text (fields_with k v))
values_fits (Numbers least greatest) n words good = field_fits (Number least greatest n) (decimal_fits n (omega (arith, good.0.1, good.0.2)))
values_fits Idents id words good = field_fits (Id id) (ident_fits id good.0)
values_fits Languages language words good = field_fits (Language language) (of_bytes 2 35 is_language_byte language_byte language good.0)
values_fits Currencies currency words good = field_fits (Currency currency) (of_bytes 3 3 is_upper upper_byte currency good.0)
values_fits Names name words good = field_fits (Name name) (name_fits name good.0)
values_fits Asciis ascii words good = field_fits (Ascii ascii) (ascii_fits ascii good.0)
values_fits (Choices word other) b words good =
    let t = both_hold (list_all is_printable word) (list_all is_printable other) words in
    field_fits (Choice word other b) (chosen_fits word other t.0 t.1 b)
values_fits (Coordinates greatest) z words good =
    let spelled = micro_text_spelled z (omega (arith, ints, good.0.0, good.0.2), omega (arith, ints, good.0.1, good.0.2)) in
    field_fits (Degrees greatest z) (coordinate_fits (micro_text z) z spelled)
values_fits Forms form words good = field_fits (Fixed (form_text form)) (form_fits form)
values_fits Ranges r words good =
    fields_fits (Fixed (propulsion_text r.0) ∷ []) (Metres r.0 r.1 ∷ []) (field_fits (Fixed (propulsion_text r.0)) (propulsion_fits r.0))
    (field_fits (Metres r.0 r.1) (metres_fits r.0 r.1 good.1.0))
values_fits SegmentLists segments words good = field_fits (Segments segments) (segments_fits segments good.0.0 good.0.1)
values_fits Ends end words good = field_fits (End end) (end_fits end good.0)
values_fits IdentsOrNone id words good = field_fits (IdOrNone id) (ident_or_none_fits id good.0)
values_fits Sides side words good = field_fits (Fixed (side_text side)) (side_fits side)
values_fits NameKinds kind words good = field_fits (Fixed (kind_text kind)) (kind_fits kind)
values_fits (k & l) v words good =
    let t = both_hold (has_words k) (has_words l) words in
    let g = good_parts (fields_with k v.0) (fields_with l v.1) good in
    fields_fits (fields_with k v.0) (fields_with l v.1) (values_fits k v.0 t.0 g.0) (values_fits l v.1 t.1 g.1)

-- ---- commands

-- the texts of a row have at most 2,000 bytes
abbrev row_fits : Row → Bool
row_fits r = list_all is_printable r.word && has_words r.kind && nat_le (length r.word + most_bytes r.kind) 2000

passes : (p : Row → Bool) (rs : List Row) → list_all p rs ≡ true → (word : List ℕ) (r : Row) → row_by rs word ≡ Some r → p r ≡ true
passes p [] all word r e = absurd cc
passes p (s ∷ rs) all word r e =
    let t = both_hold (p s) (list_all p rs) all in
    pick {word = word} {w = s.word} e (λ same e. subst (λ (q : Row). p q ≡ true) (same_Some s r e) t.0) (λ e. passes p rs t.1 word r e)

pub command_fits : (c : Command) → IsCommand c → FitsLine 2000 (text_of c)
command_fits c good =
    let h = of_row c good in
    let test = both_hold (list_all is_printable h.row.word && has_words h.row.kind) (nat_le (length h.row.word + most_bytes h.row.kind) 2000) (passes row_fits rows refl (word_of c) h.row h.found) in
    let words = both_hold (list_all is_printable h.row.word) (has_words h.row.kind) test.0 in
    let few : length h.row.word + most_bytes h.row.kind ≤ 2000 = grind (arith, nat_tests, test.1) in
    let text : text_of c ≡ h.row.word ++ fields_text (fields_with h.row.kind h.values) = ap₂ (λ (word : List ℕ) (fs : List Field). word ++ fields_text fs) h.word h.fields in
    let fields = values_fits h.row.kind h.values words.1 (subst AreGood h.fields good) in
    subst (FitsLine 2000) (sym text) (within few (appended (printable_fits h.row.word (omega arith) words.0) fields))
