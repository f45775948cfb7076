-- The texts of commands, of replies and of bicycles by type are UTF-8.
use Rattle.std.proofs.Common.{◌≡◌, ℕ, ℤ, suc, pos, negsuc, neg_ℤ, ◌≤◌, ◌<◌, ◌^◌, ◌≤ℤ◌, List, [], ◌∷◌, ◌++◌, map, Bool, true, false, cond, leb, Option, Some, None, refl, sym, subst, inl, inr, arith}
use Rattle.std.proofs.Common.{codes, decimal}
use Rattle.std.specs.Fmt.{signed_decimal}
use Rattle.std.specs.List.{list_all, join_with_byte, AllByRecursion}
use Rattle.std.specs.Char.{IsScalar, is_ascii_digit}
use Rattle.std.specs.Str.{IsUtf8, is_utf8, chars, all_scalars}
use Rattle.std.proofs.Math.Utf8.{encode, encodes}
use Rattle.std.proofs.lemmas.Bool.Decides.{nat_tests, eqb_tells}
use Rattle.std.proofs.lemmas.Fmt.{IsAscii-decimal}
use Rattle.std.proofs.lemmas.Int.{ints}
use Rattle.std.proofs.lemmas.Str.{IsUtf8-nil, IsUtf8-append, IsUtf8-encode, IsUtf8-from_ascii, IsUtf8-from_is_utf8, is_utf8-from_IsUtf8, encodes-chars, scalars-chars}
use Rattle.bike_fixed.specs.Coordinate.{IsCoordinate, minus_text, fraction}
use Rattle.bike_fixed.specs.Text.{micro_text}
use Rattle.bike_fixed.proofs.Spellings.{micro_text_spelled}
use Rattle.bike_fields.specs.Bytes.{is_ident, is_printable}
use Rattle.bike_fields.specs.Caller.{IsCaller, caller_text}
use Rattle.bike_fields.specs.declared.caller.Caller.{Caller}
use Rattle.bike_fields.specs.declared.caller.Caller.TheVariants.{Office, Staff, Rider, Dock, Crew, Import}
use Rattle.bike_fields.proofs.Lengths.{both_hold}
use Rattle.bike_fields.specs.Values.{SegmentRow, IsSegment, IsRange, IsEnd as IsSegmentEnd}
use Rattle.bike_fields.specs.declared.vehicle.Form.{Form}
use Rattle.bike_fields.specs.declared.vehicle.Form.TheVariants.{Bicycle, CargoBicycle}
use Rattle.bike_fields.specs.declared.vehicle.Propulsion.{Propulsion}
use Rattle.bike_fields.specs.declared.vehicle.Propulsion.TheVariants.{Human, ElectricAssist}
use Rattle.bike_fields.specs.Vehicle.{form_text, propulsion_text}
use Rattle.bike_texts.specs.declared.ends.OrderEnd.TheVariants as end
use Rattle.bike_texts.specs.declared.ends.Side.{Side}
use Rattle.bike_texts.specs.declared.ends.Side.TheVariants.{From, To}
use Rattle.bike_texts.specs.Fields.{Field, Number, Signed, Fixed, Id, Language, Currency, Name, Ascii, Degrees, Metres, Segments, End, IdOrNone, AreSegments, IsGood, AreGood, escapes_of, segment_text}
use Rattle.bike_texts.specs.Fields.{segment_end_text, segments_text, field_text, fields_text, side_text}
use Rattle.bike_commands.specs.declared.command.Command.{Command}
use Rattle.bike_commands.specs.declared.command.Command.TheVariants as command
use Rattle.bike_commands.specs.Commands.{word_of, fields_of, IsCommand, text_of}
use Rattle.bike_commands.specs.declared.reply.Reply.{Reply}
use Rattle.bike_commands.specs.declared.reply.Reply.TheVariants.{Done, Balance, Started, Ended, Ordered, Refused}
use Rattle.bike_commands.specs.Replies.{reply_word, reply_fields, IsReply, reply_text}
use Rattle.bike_operator.specs.Sound.{is_refused}
use Rattle.bike_book.specs.declared.by_type.CountedType.{CountedType}
use Rattle.bike_book.specs.ByType.{counted_text, by_type_text}
use Rattle.bike_texts.proofs.Escaping.{char_stays, escapes_of-append}
use Rattle.bike_readings.proofs.ColumnLaws.{ascii_utf8, word_utf8, named_printable, ident_utf8, language_utf8, currency_utf8, ascii_field_utf8, name_utf8}

printed : (word : List ℕ) → list_all is_printable word ≡ true → IsUtf8 word
printed word h = IsUtf8-from_is_utf8 word (word_utf8 word h)

-- ---- numbers

decimal_utf8 : (n : ℕ) → n < 2 ^ 64 → IsUtf8 (decimal n)
decimal_utf8 n small = IsUtf8-from_ascii (decimal n) (IsAscii-decimal n small)

signed_utf8 : (z : ℤ) → neg_ℤ (pos 9223372036854775808) ≤ℤ z → z ≤ℤ pos 9223372036854775807 → IsUtf8 (signed_decimal z)
signed_utf8 (pos n) low high = decimal_utf8 n (omega (arith, ints, high))
signed_utf8 (negsuc n) low high = IsUtf8-append (codes "-") (decimal (suc n)) (printed (codes "-") refl) (decimal_utf8 (suc n) (omega (arith, ints, low)))

digits_utf8 : (bs : List ℕ) → list_all is_ascii_digit bs ≡ true → IsUtf8 bs
digits_utf8 bs h = IsUtf8-from_is_utf8 bs (ascii_utf8 is_ascii_digit digit_small bs h)
  where
    digit_small : (b : ℕ) → is_ascii_digit b ≡ true → b < 128
    digit_small b d = grind (arith, nat_tests, d)

minus_utf8 : (minus : Bool) → IsUtf8 (minus_text minus)
minus_utf8 true = printed (codes "-") refl
minus_utf8 false = IsUtf8-nil

fraction_utf8 : (part : List ℕ) → IsUtf8 part → IsUtf8 (fraction part)
fraction_utf8 [] h = IsUtf8-nil
fraction_utf8 (d ∷ ds) h = IsUtf8-append (codes ".") (d ∷ ds) (printed (codes ".") refl) h

coordinate_utf8 : (text : List ℕ) (z : ℤ) → IsCoordinate text z → IsUtf8 text
coordinate_utf8 text z c =
    subst IsUtf8 (sym c.spelled) (IsUtf8-append (minus_text c.minus) (c.whole ++ fraction c.part) (minus_utf8 c.minus)
    (IsUtf8-append c.whole (fraction c.part) (digits_utf8 c.whole c.whole_digits) (fraction_utf8 c.part (digits_utf8 c.part c.part_digits))))

-- ---- joined texts

abbrev AllUtf8 : List (List ℕ) → Type 0
AllUtf8 [] = Unit {0}
AllUtf8 (p ∷ ps) = IsUtf8 p × AllUtf8 ps

joined_utf8 : (separator : ℕ) → IsUtf8 (separator ∷ []) → (ps : List (List ℕ)) → AllUtf8 ps → IsUtf8 (join_with_byte separator ps)
joined_utf8 separator one [] h = IsUtf8-nil
joined_utf8 separator one (p ∷ []) h = h.0
joined_utf8 separator one (p ∷ q ∷ qs) h =
    IsUtf8-append p (separator ∷ join_with_byte separator (q ∷ qs)) h.0 (IsUtf8-append (separator ∷ []) (join_with_byte separator (q ∷ qs)) one (joined_utf8 separator one (q ∷ qs) h.1))

-- ---- segments

segment_end_utf8 : (start : ℕ) (end : Option ℕ) → IsSegmentEnd start end → IsUtf8 (segment_end_text end)
segment_end_utf8 start None g = printed (codes "-") refl
segment_end_utf8 start (Some n) g = decimal_utf8 n (omega (arith, g.0))

segment_utf8 : (s : SegmentRow) → IsSegment s → IsUtf8 (segment_text s)
segment_utf8 s g =
    let low : neg_ℤ (pos 9223372036854775808) ≤ℤ s.rate = omega (arith, ints, g.rate.0) in
    let high : s.rate ≤ℤ pos 9223372036854775807 = omega (arith, ints, g.rate.1) in
    joined_utf8 58 (printed (codes ":") refl) (decimal s.start ∷ signed_decimal s.rate ∷ decimal s.interval ∷ segment_end_text s.end ∷ [])
    (decimal_utf8 s.start (omega (arith, g.start)), (signed_utf8 s.rate low high, (decimal_utf8 s.interval (omega (arith, g.interval)), (segment_end_utf8 s.start s.end g.end, tt))))

each_segment_utf8 : (ss : List SegmentRow) → AreSegments ss → AllUtf8 (map segment_text ss)
each_segment_utf8 [] g = tt
each_segment_utf8 (s ∷ ss) g = (segment_utf8 s g.0, each_segment_utf8 ss g.1)

segments_utf8 : (ss : List SegmentRow) → AreSegments ss → IsUtf8 (segments_text ss)
segments_utf8 [] g = printed (codes "-") refl
segments_utf8 (s ∷ ss) g = joined_utf8 59 (printed (codes ";") refl) (map segment_text (s ∷ ss)) (each_segment_utf8 (s ∷ ss) g)

-- ---- bicycles by type

-- its type is an identifier, and its counts are numbers of 64 bits
abbrev pub IsWritten : CountedType → Type 0
IsWritten c = (is_ident c.type_id ≡ true) × (c.counts.available < 2 ^ 64) × (c.counts.disabled < 2 ^ 64)

counted_utf8 : (c : CountedType) → IsWritten c → IsUtf8 (counted_text c)
counted_utf8 c g =
    joined_utf8 58 (printed (codes ":") refl) (c.type_id ∷ decimal c.counts.available ∷ decimal c.counts.disabled ∷ [])
    (IsUtf8-from_is_utf8 c.type_id (ident_utf8 c.type_id g.0), (decimal_utf8 c.counts.available g.1, (decimal_utf8 c.counts.disabled g.2, tt)))

each_counted_utf8 : (cs : List CountedType) → AllByRecursion IsWritten cs → AllUtf8 (map counted_text cs)
each_counted_utf8 [] g = tt
each_counted_utf8 (c ∷ cs) g = (counted_utf8 c g.0, each_counted_utf8 cs g.1)

pub by_type_utf8 : (cs : List CountedType) → AllByRecursion IsWritten cs → is_utf8 (by_type_text cs) ≡ true
by_type_utf8 [] g = word_utf8 (codes "-") refl
by_type_utf8 (c ∷ cs) g = is_utf8-from_IsUtf8 (by_type_text (c ∷ cs)) (joined_utf8 59 (printed (codes ";") refl) (map counted_text (c ∷ cs)) (each_counted_utf8 (c ∷ cs) g))

-- ---- texts with escapes

escape_utf8 : (c : ℕ) → IsScalar c → IsUtf8 (escapes_of (encode c))
unfolding encode escapes_of
escape_utf8 c scalar =
    elim (eqb_tells c 92) [
      | inl w ↦ at 92 w.1 (printed (codes "\\\\") refl)
      | inr v ↦ elim
          (eqb_tells c 9) [
            | inl w ↦ at 9 w.1 (printed (codes "\\t") refl)
            | inr x ↦ elim
                (eqb_tells c 10) [
                  | inl w ↦ at 10 w.1 (printed (codes "\\n") refl)
                  | inr y ↦ elim
                      (eqb_tells c 13) [ inl w ↦ at 13 w.1 (printed (codes "\\r") refl) | inr z ↦ subst IsUtf8 (sym (char_stays c v.1 x.1 y.1 z.1)) (IsUtf8-encode c scalar) ]
                ]
          ]
    ]
  where
    at : (d : ℕ) → c ≡ d → IsUtf8 (escapes_of (encode d)) → IsUtf8 (escapes_of (encode c))
    at d is h = subst (λ (e : ℕ). IsUtf8 (escapes_of (encode e))) (sym is) h

escapes_utf8 : (cs : List ℕ) → all_scalars cs ≡ true → IsUtf8 (escapes_of (encodes cs))
unfolding escapes_of
escapes_utf8 [] h = IsUtf8-nil
escapes_utf8 (c ∷ cs) h =
    let b = both_hold _ (all_scalars cs) h in
    subst IsUtf8 (sym (escapes_of-append (encode c) (encodes cs))) (IsUtf8-append (escapes_of (encode c)) (escapes_of (encodes cs)) (escape_utf8 c b.0) (escapes_utf8 cs b.1))

escaped_utf8 : (bs : List ℕ) → is_utf8 bs ≡ true → IsUtf8 (escapes_of bs)
escaped_utf8 bs h =
    let utf8 = IsUtf8-from_is_utf8 bs h in
    subst (λ (t : List ℕ). IsUtf8 (escapes_of t)) (encodes-chars bs utf8) (escapes_utf8 (chars bs) (scalars-chars bs utf8))

-- ---- fields

-- a fixed word can be printed
abbrev IsWord : Field → Type 0
IsWord (Fixed word) = list_all is_printable word ≡ true
IsWord f = Unit {0}

abbrev AreWords : List Field → Type 0
AreWords [] = Unit {0}
AreWords (f ∷ fs) = IsWord f × AreWords fs

metres_small : (propulsion : Propulsion) (n : ℕ) → IsRange propulsion n → n < 2 ^ 64
metres_small Human n h = omega (arith, h)
metres_small ElectricAssist n h = omega (arith, h.1)

field_utf8 : (f : Field) → IsGood f → IsWord f → IsUtf8 (field_text f)
field_utf8 (Number least greatest n) g w = decimal_utf8 n (omega (arith, g.1, g.2))
field_utf8 (Signed least greatest z) g w = signed_utf8 z (omega (arith, ints, g.0, g.2)) (omega (arith, ints, g.1, g.3))
field_utf8 (Fixed word) g w = printed word w
field_utf8 (Id bs) g w = IsUtf8-from_is_utf8 bs (ident_utf8 bs g)
field_utf8 (Language bs) g w = IsUtf8-from_is_utf8 bs (language_utf8 bs g)
field_utf8 (Currency bs) g w = IsUtf8-from_is_utf8 bs (currency_utf8 bs g)
field_utf8 (Name bs) g w = escaped_utf8 bs (name_utf8 bs g)
field_utf8 (Ascii bs) g w = escaped_utf8 bs (ascii_field_utf8 bs g)
field_utf8 (Degrees greatest z) g w = coordinate_utf8 (micro_text z) z (micro_text_spelled z (omega (arith, ints, g.0, g.2), omega (arith, ints, g.1, g.2)))
field_utf8 (Metres propulsion n) g w = decimal_utf8 n (metres_small propulsion n g)
field_utf8 (Segments ss) g w = segments_utf8 ss g.0
field_utf8 (End end.Depot) g w = printed (codes "*") refl
field_utf8 (End (end.Station station)) g w = IsUtf8-from_is_utf8 station (ident_utf8 station g)

tab_utf8 : IsUtf8 (9 ∷ [])
tab_utf8 = IsUtf8-from_is_utf8 (9 ∷ []) (ascii_utf8 (λ b. leb b 127) (λ b h. let low : b ≤ 127 = grind (arith, nat_tests, h) in omega (arith, low)) (9 ∷ []) refl)

fields_utf8 : (fs : List Field) → AreGood fs → AreWords fs → IsUtf8 (fields_text fs)
unfolding fields_text
fields_utf8 [] g w = IsUtf8-nil
fields_utf8 (f ∷ fs) g w = IsUtf8-append (9 ∷ []) (field_text f ++ fields_text fs) tab_utf8 (IsUtf8-append (field_text f) (fields_text fs) (field_utf8 f g.0 w.0) (fields_utf8 fs g.1 w.1))

-- ---- commands

abbrev Printable : List ℕ → Type 0
Printable word = list_all is_printable word ≡ true

form_word : (form : Form) → Printable (form_text form)
form_word Bicycle = refl
form_word CargoBicycle = refl

propulsion_word : (propulsion : Propulsion) → Printable (propulsion_text propulsion)
propulsion_word Human = refl
propulsion_word ElectricAssist = refl

side_word : (side : Side) → Printable (side_text side)
side_word From = refl
side_word To = refl

choice_word : (word other : List ℕ) → Printable word → Printable other → (b : Bool) → Printable (cond b word other)
choice_word word other w o true = w
choice_word word other w o false = o

flag_word : (b : Bool) → Printable (cond b (codes "true") (codes "false"))
flag_word = choice_word (codes "true") (codes "false") refl refl

region_word : (region : Option (List ℕ)) → IsWord (IdOrNone region)
region_word None = refl
region_word (Some id) = tt

-- fields among which no word of a list stands
abbrev is_plain : Field → Bool
is_plain (Fixed word) = false
is_plain f = true

plain_word : (f : Field) → is_plain f ≡ true → IsWord f
plain_word (Fixed word) plain = absurd cc
plain_word f plain = tt

plain_words : (fs : List Field) → list_all is_plain fs ≡ true → AreWords fs
plain_words [] plain = tt
plain_words (f ∷ fs) plain =
    let h = both_hold (is_plain f) (list_all is_plain fs) plain in
    (plain_word f h.0, plain_words fs h.1)

command_words : (c : Command) → AreWords (fields_of c)
command_words (command.AddPlan p) = (tt, (tt, (tt, (flag_word p.taxable, (tt, (tt, tt))))))
command_words (command.AddType t) = (tt, (tt, (form_word t.form, (propulsion_word t.propulsion, (tt, (tt, tt))))))
command_words (command.SetStation station installed renting returning) = (tt, (flag_word installed, (flag_word renting, (flag_word returning, tt))))
command_words (command.MarkDock station dock broken) = (tt, (tt, (choice_word (codes "broken") (codes "working") refl refl broken, tt)))
command_words (command.MarkBike bike disabled) = (tt, (choice_word (codes "disabled") (codes "fit") refl refl disabled, tt))
command_words (command.SetRider rider blocked) = (tt, (choice_word (codes "blocked") (codes "open") refl refl blocked, tt))
command_words (command.Unload truck order bike side dock) = (tt, (tt, (tt, (side_word side, (tt, tt)))))
command_words (command.SetRegion station region) = (tt, (region_word region, tt))
command_words (command.AddName kind id language name) = (named_printable kind, (tt, (tt, (tt, tt))))
command_words (command.SetName kind id language name) = (named_printable kind, (tt, (tt, (tt, tt))))
command_words (command.RemoveName kind id language) = (named_printable kind, (tt, (tt, tt)))
command_words c = plain_words (fields_of c) refl

word_printable : (c : Command) → Printable (word_of c)
word_printable (command.SetSystem s) = refl
word_printable c = refl

pub command_utf8 : (c : Command) → IsCommand c → is_utf8 (text_of c) ≡ true
command_utf8 c g =
    is_utf8-from_IsUtf8 (text_of c) (IsUtf8-append (word_of c) (fields_text (fields_of c)) (printed (word_of c) (word_printable c)) (fields_utf8 (fields_of c) g (command_words c)))

-- ---- replies that are no refusal

reply_utf8_by : (r : Reply) → IsReply r → Printable (reply_word r) → AreWords (reply_fields r) → is_utf8 (reply_text r) ≡ true
reply_utf8_by r g word words =
    is_utf8-from_IsUtf8 (reply_text r) (IsUtf8-append (reply_word r) (fields_text (reply_fields r)) (printed (reply_word r) word) (fields_utf8 (reply_fields r) g words))

pub reply_utf8 : (r : Reply) → IsReply r → is_refused r ≡ false → is_utf8 (reply_text r) ≡ true
reply_utf8 Done g taken = reply_utf8_by Done g refl tt
reply_utf8 (Balance balance) g taken = reply_utf8_by (Balance balance) g refl (tt, tt)
reply_utf8 (Started rental bike) g taken = reply_utf8_by (Started rental bike) g refl (tt, (tt, tt))
reply_utf8 (Ended fare balance) g taken = reply_utf8_by (Ended fare balance) g refl (tt, (tt, tt))
reply_utf8 (Ordered order) g taken = reply_utf8_by (Ordered order) g refl (tt, tt)
reply_utf8 (Refused refusal) g taken = absurd cc

-- ---- callers

pub caller_utf8 : (c : Caller) → IsCaller c → is_utf8 (caller_text c) ≡ true
caller_utf8 Office g = word_utf8 (codes "office") refl
caller_utf8 (Staff name) g = is_utf8-from_IsUtf8 (caller_text (Staff name)) (IsUtf8-append (codes "office:") name (printed (codes "office:") refl) (IsUtf8-from_is_utf8 name (ident_utf8 name g)))
caller_utf8 (Rider n) g = is_utf8-from_IsUtf8 (caller_text (Rider n)) (IsUtf8-append (codes "rider:") (decimal n) (printed (codes "rider:") refl) (decimal_utf8 n (omega (arith, g.1))))
caller_utf8 (Dock station) g =
    is_utf8-from_IsUtf8 (caller_text (Dock station)) (IsUtf8-append (codes "dock:") station (printed (codes "dock:") refl) (IsUtf8-from_is_utf8 station (ident_utf8 station g)))
caller_utf8 (Crew n) g = is_utf8-from_IsUtf8 (caller_text (Crew n)) (IsUtf8-append (codes "crew:") (decimal n) (printed (codes "crew:") refl) (decimal_utf8 n (omega (arith, g.1))))
caller_utf8 (Import name) g = is_utf8-from_IsUtf8 (caller_text (Import name)) (IsUtf8-append (codes "import:") name (printed (codes "import:") refl) (IsUtf8-from_is_utf8 name (ident_utf8 name g)))
