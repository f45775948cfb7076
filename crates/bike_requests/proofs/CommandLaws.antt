-- Commands are read exactly, both ways, in a whole text.
use Rattle.std.proofs.Common.{◌≡◌, ℕ, List, [], ◌∷◌, ◌&&◌, ◌==◌, Bool, true, false, not, cond, Option, Some, None, Result, Ok, Err, refl, sym, ap, ◌∙◌, subst, arith, codes}
use Rattle.std.specs.Prelude.{IfSome, IfOk, IfErr, IsErr, IsErrAnd, IsSome, option_map, int_le, length, pos, neg_ℤ, ℤ, ◌≤ℤ◌}
use Rattle.std.specs.declared.alloc.AllocError.{AllocError}
use Rattle.std.specs.List.{slice_split, join_with_byte, list_all}
use Rattle.std.proofs.lemmas.Bool.{le-leb}
use Rattle.std.proofs.lemmas.Int.{ints}
use Rattle.std.proofs.lemmas.Option.{option_and_then_some, same_Some}
use Rattle.std.proofs.lemmas.List.Splits.{join_with_byte-slice_split}
use Rattle.bike_fields.specs.Values.{IsRange, is_range, IsLatitude, is_latitude, position_of_fields, position_within}
use Rattle.bike_catalogue.specs.Rows.{plan_of_fields, plan_within, type_of_fields, type_within, station_of_fields, station_within}
use Rattle.bike_fields.specs.declared.vehicle.Propulsion.{Propulsion}
use Rattle.bike_fields.specs.declared.vehicle.Propulsion.TheVariants.{Human, ElectricAssist}
use Rattle.bike_fields.specs.Reads.{IsReadAs}
use Rattle.bike_fields.proofs.Lengths.{both_hold}
use Rattle.bike_texts.specs.Parts.{Parts}
use Rattle.bike_texts.specs.Fields.{Field, HasNoTab, AreGood}
use Rattle.bike_texts.specs.Reading.{◌>>=◌, part_at}
use Rattle.bike_texts.specs.Kinds.{Kind, Value, reads, fields_with}
use Rattle.bike_texts.proofs.Splitting.{is_tab}
use Rattle.bike_texts.proofs.TabFree.{AreRead, split_join, parts_no_tab, part_is}
use Rattle.bike_texts.proofs.Chains.{pick}
use Rattle.bike_commands.specs.declared.command.Command.{Command}
use Rattle.bike_commands.specs.declared.command.Command.TheVariants as command
use Rattle.bike_commands.specs.Commands.{word_of, fields_of, IsCommand, IsSpelling}
use Rattle.bike_requests.specs.declared.unread.Unread.{Unread}
use Rattle.bike_requests.specs.declared.unread.Unread.TheVariants.{BadField, NoMemory}
use Rattle.bike_requests.specs.Unread.{IsReading, all_at}
use Rattle.bike_requests.specs.Spelling.{SpellsCommand}
use Rattle.bike_requests.specs.Readers.{Row, rows, row_by, made_at, plan_kind, type_kind, station_kind, position_kind, command_by, command_at}
use Rattle.bike_requests.proofs.KindLaws.{is_fit, exact, all_sound, all_full}

-- ---- the rows

-- what a row makes has its word and its fields
abbrev IsRow : Row → Type 0
IsRow r = (v : Value r.kind) (c : Command) → r.made v ≡ Some c → (r.word ≡ word_of c) × (fields_of c ≡ fields_with r.kind v)

infixr 5 ◌⊕◌
data AreRows : List Row → Type 0 where
  none : AreRows []
  ◌⊕◌ : {r : Row} {rs : List Row} → IsRow r → AreRows rs → AreRows (r ∷ rs)

-- a row without a test, and one with a test across its fields
plain : {word : List ℕ} {fields : List Field} {d c : Command} → Some d ≡ Some c → word ≡ word_of d → fields_of d ≡ fields → (word ≡ word_of c) × (fields_of c ≡ fields)
plain {word = word} {fields = fields} {d = d} {c = c} e w f = subst (λ (x : Command). (word ≡ word_of x) × (fields_of x ≡ fields)) (same_Some d c e) (w, f)

kept : {A : Type 0} {word : List ℕ} {fields : List Field} {c : Command} (wrap : A → Command) (test : Bool) (a : A) → option_map wrap (cond test (Some a) None) ≡ Some c
    → word ≡ word_of (wrap a) → fields_of (wrap a) ≡ fields → (word ≡ word_of c) × (fields_of c ≡ fields)
kept wrap true a e w f = plain e w f
kept wrap false a e w f = absurd cc

are_rows : AreRows rows
are_rows =
    (λ v c e. plain e refl refl) ⊕ (λ v c e. kept command.AddPlan _ _ e refl refl) ⊕ (λ v c e. kept command.AddType _ _ e refl refl) ⊕ (λ v c e. plain e refl refl)
    ⊕ (λ v c e. kept command.AddStation _ _ e refl refl) ⊕ (λ v c e. plain e refl refl) ⊕ (λ v c e. plain e refl refl) ⊕ (λ v c e. plain e refl refl) ⊕ (λ v c e. plain e refl refl)
    ⊕ (λ v c e. plain e refl refl) ⊕ (λ v c e. plain e refl refl) ⊕ (λ v c e. plain e refl refl) ⊕ (λ v c e. plain e refl refl) ⊕ (λ v c e. plain e refl refl) ⊕ (λ v c e. plain e refl refl)
    ⊕ (λ v c e. plain e refl refl) ⊕ (λ v c e. plain e refl refl) ⊕ (λ v c e. plain e refl refl) ⊕ (λ v c e. plain e refl refl) ⊕ (λ v c e. plain e refl refl) ⊕ (λ v c e. plain e refl refl)
    ⊕ (λ v c e. plain e refl refl) ⊕ (λ v c e. plain e refl refl) ⊕ (λ v c e. plain e refl refl) ⊕ (λ v c e. plain e refl refl) ⊕ (λ v c e. plain e refl refl) ⊕ (λ v c e. plain e refl refl)
    ⊕ (λ v c e. plain e refl refl) ⊕ (λ v c e. kept (command.MoveStation v.0) _ _ e refl refl) ⊕ (λ v c e. plain e refl refl) ⊕ none

abbrev has_no_tab : Row → Bool
has_no_tab r = list_all (λ b. not (b == 9)) r.word

are_fit : list_all (λ r. has_no_tab r && is_fit r.kind) rows ≡ true
are_fit = refl

-- the row of a word
record IsRowOf (word : List ℕ) (r : Row) : Type 0 where
  same : word ≡ r.word
  free : has_no_tab r ≡ true
  fit : is_fit r.kind ≡ true
  law : IsRow r

row_is : (rs : List Row) → AreRows rs → list_all (λ r. has_no_tab r && is_fit r.kind) rs ≡ true → (word : List ℕ) (r : Row) → row_by rs word ≡ Some r → IsRowOf word r
row_is [] none fit word r e = absurd cc
row_is (s ∷ rs) (law ⊕ laws) fit word r e =
    let all = both_hold (has_no_tab s && is_fit s.kind) (list_all (λ q. has_no_tab q && is_fit q.kind) rs) fit in
    let here = both_hold (has_no_tab s) (is_fit s.kind) all.0 in
    pick e (λ same e. subst (IsRowOf word) (same_Some s r e) (record { same = same; free = here.0; fit = here.1; law = law })) (λ e.
    row_is rs laws all.1 word r e)

-- ---- each command is made by the row of its word

record IsMade (c : Command) : Type 0 where
  row : Row
  found : row_by rows (word_of c) ≡ Some row
  values : Value row.kind
  made : AreGood (fields_of c) → row.made values ≡ Some c

by_row : {c : Command} {r : Row} → row_by rows (word_of c) ≡ Some r → (v : Value r.kind) → (AreGood (fields_of c) → r.made v ≡ Some c) → IsMade c
by_row {r = r} found v made = record { row = r; found = found; values = v; made = made }

range_holds : (propulsion : Propulsion) (n : ℕ) → IsRange propulsion n → is_range propulsion n ≡ true
range_holds Human n h = rw h refl
range_holds ElectricAssist n h = rw (le-leb _ _ h.0, le-leb _ _ h.1) refl

le_tested : (a b : ℤ) → a ≤ℤ b → int_le a b ≡ true
le_tested a b h = grind (arith, ints)

latitude_holds : (z : ℤ) → IsLatitude z → is_latitude z ≡ true
latitude_holds z h = rw (le_tested (neg_ℤ (pos 90000000)) z h.0, le_tested z (pos 90000000) h.1) refl

is_made : (c : Command) → IsMade c
is_made (command.SetSystem s) = by_row refl (s.system_id, (s.language, (s.name, (s.opening_hours, (s.feed_contact_email, (s.timezone, (s.currency, (s.base_url, s.ttl)))))))) (λ g. refl)
is_made (command.AddPlan p) = by_row refl (p.plan_id, (p.name, (p.price, (p.taxable, (p.description, p.segments))))) (λ g. rw (le-leb (length p.segments) 8 g.1.1.1.1.1.0.1) refl)
is_made (command.AddType t) = by_row refl (t.type_id, (t.name, (t.form, ((t.propulsion, t.max_range), t.plan_id)))) (λ g. rw (range_holds t.propulsion t.max_range g.1.1.1.1.0) refl)
is_made (command.SetPlan type_id plan) = by_row refl (type_id, plan) (λ g. refl)
is_made (command.AddStation s) = by_row refl (s.station_id, (s.name, (s.lat, (s.lon, s.docks)))) (λ g. rw (latitude_holds s.lat (g.1.1.0.0, g.1.1.0.1)) refl)
is_made (command.SetStation station installed renting returning) = by_row refl (station, (installed, (renting, returning))) (λ g. refl)
is_made (command.MarkDock station dock broken) = by_row refl (station, (dock, broken)) (λ g. refl)
is_made (command.AddBike bike type_id) = by_row refl (bike, type_id) (λ g. refl)
is_made (command.MarkBike bike disabled) = by_row refl (bike, disabled) (λ g. refl)
is_made (command.RetireBike bike) = by_row refl bike (λ g. refl)
is_made (command.AddTruck truck capacity) = by_row refl (truck, capacity) (λ g. refl)
is_made (command.AddRider rider) = by_row refl rider (λ g. refl)
is_made (command.SetRider rider blocked) = by_row refl (rider, blocked) (λ g. refl)
is_made (command.TopUp rider amount) = by_row refl (rider, amount) (λ g. refl)
is_made (command.Start rider station dock) = by_row refl (rider, (station, dock)) (λ g. refl)
is_made (command.End bike station dock) = by_row refl (bike, (station, dock)) (λ g. refl)
is_made (command.Recover rental) = by_row refl rental (λ g. refl)
is_made (command.Refund rental amount) = by_row refl (rental, amount) (λ g. refl)
is_made (command.OpenOrder truck from_end to_end type_id count) = by_row refl (truck, (from_end, (to_end, (type_id, count)))) (λ g. refl)
is_made (command.Load truck order bike) = by_row refl (truck, (order, bike)) (λ g. refl)
is_made (command.Unload truck order bike side dock) = by_row refl (truck, (order, (bike, (side, dock)))) (λ g. refl)
is_made (command.CloseOrder order) = by_row refl order (λ g. refl)
is_made (command.AddRegion r) = by_row refl (r.region_id, r.name) (λ g. refl)
is_made (command.SetRegion station region) = by_row refl (station, region) (λ g. refl)
is_made (command.AddName kind id language name) = by_row refl (kind, (id, (language, name))) (λ g. refl)
is_made (command.SetName kind id language name) = by_row refl (kind, (id, (language, name))) (λ g. refl)
is_made (command.RemoveName kind id language) = by_row refl (kind, (id, language)) (λ g. refl)
is_made (command.ChangeSystem x) = by_row refl (x.name, (x.opening_hours, (x.feed_contact_email, (x.timezone, (x.base_url, x.ttl))))) (λ g. refl)
is_made (command.MoveStation station p) = by_row refl (station, (p.lat, p.lon)) (λ g. rw (latitude_holds p.lat (g.1.0.0, g.1.0.1)) refl)
is_made (command.AddDocks station count) = by_row refl (station, count) (λ g. refl)

-- A test across a row's fields holds of fields that are read: so nothing is read of the row where nothing is read of its fields, and memory is asked for only by a command.
not_made : (k : Kind) → is_fit k ≡ true → (made : Value k → Option Command) → ((v : Value k) → AreGood (fields_with k v) → IsSome (made v)) → (ps : Parts) (e : Unread) (s : Result Command Unread)
    → IsReading {A = Value k} (all_at (reads k) ps) (Err e) → IsErr s × IsErrAnd s (λ x. x ≡ e) → IsReading (all_at (reads k) ps >>= made) s
not_made k fit made holds ps e (Ok c) read passed = absurd cc
not_made k fit made holds ps e (Err x) read passed = subst (λ (y : Unread). IsReading {A = Command} (all_at (reads k) ps >>= made) (Err y)) (sym passed.1) (by e read) where
  some : (o : Option (Value k)) → all_at (reads k) ps ≡ o → IsSome o → IsSome (o >>= made)
  some None e is = absurd cc
  some (Some v) e is = holds v (all_sound (exact k fit) ps v e).good

  by : (e : Unread) → IsReading {A = Value k} (all_at (reads k) ps) (Err e) → IsReading {A = Command} (all_at (reads k) ps >>= made) (Err e)
  by BadField nothing = rw nothing refl
  by NoMemory is = some (all_at (reads k) ps) refl is

pub plan_not_made : (ps : Parts) (e : Unread) (s : Result Command Unread) → IsReading {A = Value plan_kind} (all_at (reads plan_kind) ps) (Err e) → IsErr s × IsErrAnd s (λ x. x ≡ e)
    → IsReading (command_by (codes "add-plan") ps) s
unfolding command_by
plan_not_made =
    not_made plan_kind refl (λ v. option_map command.AddPlan (plan_within (plan_of_fields v.0 v.1.0 v.1.1.0 v.1.1.1.0 v.1.1.1.1.0 v.1.1.1.1.1)))
    (λ v g. rw (le-leb (length v.1.1.1.1.1) 8 g.1.1.1.1.1.0.1) refl)

pub type_not_made : (ps : Parts) (e : Unread) (s : Result Command Unread) → IsReading {A = Value type_kind} (all_at (reads type_kind) ps) (Err e) → IsErr s × IsErrAnd s (λ x. x ≡ e)
    → IsReading (command_by (codes "add-type") ps) s
unfolding command_by
type_not_made =
    not_made type_kind refl (λ v. option_map command.AddType (type_within (type_of_fields v.0 v.1.0 v.1.1.0 v.1.1.1.0.0 v.1.1.1.0.1 v.1.1.1.1)))
    (λ v g. rw (range_holds v.1.1.1.0.0 v.1.1.1.0.1 g.1.1.1.1.0) refl)

pub station_not_made : (ps : Parts) (e : Unread) (s : Result Command Unread) → IsReading {A = Value station_kind} (all_at (reads station_kind) ps) (Err e) → IsErr s × IsErrAnd s (λ x. x ≡ e)
    → IsReading (command_by (codes "add-station") ps) s
unfolding command_by
station_not_made =
    not_made station_kind refl (λ v. option_map command.AddStation (station_within (station_of_fields v.0 v.1.0 v.1.1.0 v.1.1.1.0 v.1.1.1.1)))
    (λ v g. rw (latitude_holds v.1.1.0 (g.1.1.0.0, g.1.1.0.1)) refl)

pub position_not_made : (ps : Parts) (e : Unread) (s : Result Command Unread) → IsReading {A = Value position_kind} (all_at (reads position_kind) ps) (Err e) → IsErr s × IsErrAnd s (λ x. x ≡ e)
    → IsReading (command_by (codes "move-station") ps) s
unfolding command_by
position_not_made =
    not_made position_kind refl (λ v. option_map (command.MoveStation v.0) (position_within (position_of_fields v.1.0 v.1.1))) (λ v g. rw (latitude_holds v.1.0 (g.1.0.0, g.1.0.1)) refl)

-- the command's word and fields are those of a row
pub record IsOfRow (c : Command) : Type 0 where
  pub row : Row
  pub found : row_by rows (word_of c) ≡ Some row
  pub values : Value row.kind
  pub word : word_of c ≡ row.word
  pub fields : fields_of c ≡ fields_with row.kind values

pub of_row : (c : Command) → IsCommand c → IsOfRow c
of_row c good =
    let m = is_made c in
    let is = (row_is rows are_rows are_fit (word_of c) m.row m.found).law m.values c (m.made good) in
    record { row = m.row; found = m.found; values = m.values; word = sym is.0; fields = is.1 }

pub word_no_tab : (c : Command) → HasNoTab (word_of c)
word_no_tab c =
    let m = is_made c in
    let r = row_is rows are_rows are_fit (word_of c) m.row m.found in
    subst HasNoTab (sym r.same) r.free

-- ---- all parts

-- the parts are the command's word and fields
pub record IsReadOf (ps : Parts) (c : Command) : Type 0 where
  pub parts : Parts
  pub split : ps ≡ word_of c ∷ parts
  pub read : AreRead (fields_of c) parts

pub parts_sound : (ps : Parts) (c : Command) → command_at ps ≡ Some c → IsReadOf ps c
unfolding command_at command_by
parts_sound ps c e =
    option_and_then_some (λ x. row_by rows x.0 >>= λ r. made_at r x.1) (part_at ps) c e (λ x p e.
    option_and_then_some (λ r. made_at r x.1) (row_by rows x.0) c e (λ r found e.
    option_and_then_some r.made (all_at (reads r.kind) x.1) c e (λ v read made.
    let row = row_is rows are_rows are_fit x.0 r found in
    let is = row.law v c made in
    record {
      parts = x.1;
      split = part_is ps x p ∙ ap (λ (w : List ℕ). w ∷ x.1) (row.same ∙ is.0);
      read = subst (λ (fs : List Field). AreRead fs x.1) (sym is.1) (all_sound (exact r.kind row.fit) x.1 v read);
    })))

pub parts_full : (ps : Parts) (c : Command) → IsReadOf ps c → command_at ps ≡ Some c
unfolding command_at command_by
parts_full ps c h =
    let m = is_made c in
    let row = row_is rows are_rows are_fit (word_of c) m.row m.found in
    let made = m.made h.read.good in
    let is = row.law m.values c made in
    let read : all_at (reads m.row.kind) h.parts ≡ Some m.values = all_full (exact m.row.kind row.fit) h.parts m.values (subst (λ (fs : List Field). AreRead fs h.parts) is.1 h.read) in
    rw (h.split, m.found, read) made

-- the text spells the command, whose fields keep their bounds
pub record IsRead (text : List ℕ) (c : Command) : Type 0 where
  pub spelled : IsSpelling text c
  pub good : IsCommand c

pub command_sound : (text : List ℕ) (c : Command) → command_at (slice_split is_tab text) ≡ Some c → IsRead text c
command_sound text c e =
    let h = parts_sound (slice_split is_tab text) c e in
    record {
      spelled = record { parts = h.parts; each = h.read.each; joined = sym (join_with_byte-slice_split 9 text) ∙ ap (join_with_byte 9) h.split };
      good = h.read.good;
    }

pub command_full : (text : List ℕ) (c : Command) → IsRead text c → command_at (slice_split is_tab text) ≡ Some c
command_full text c h =
    let read : AreRead (fields_of c) h.spelled.parts = record { each = h.spelled.each; good = h.good } in
    parts_full (slice_split is_tab text) c (record {
      parts = h.spelled.parts;
      split = ap (slice_split is_tab) h.spelled.joined ∙ split_join (word_of c) h.spelled.parts (word_no_tab c) (parts_no_tab (fields_of c) h.spelled.parts read);
      read = read;
    })

both_laws : (text : List ℕ) (o : Option Command) → o ≡ command_at (slice_split is_tab text)
    → IfSome o (λ c. IsSpelling text c × IsCommand c) × ((c : Command) → IsCommand c → IsSpelling text c → o ≡ Some c)
both_laws text o e = (found o e, λ c good spelled. e ∙ command_full text c (record { spelled = spelled; good = good })) where
  found : (o : Option Command) → o ≡ command_at (slice_split is_tab text) → IfSome o (λ c. IsSpelling text c × IsCommand c)
  found None e = tt
  found (Some c) e = let s = command_sound text c (sym e) in (s.spelled, s.good)

pub read_found : (text : List ℕ) (r : Result (Option Command) AllocError) → IsReadAs (command_at (slice_split is_tab text)) r → IfOk r (λ o. IfSome o (λ c. IsSpelling text c × IsCommand c))
read_found text (Ok o) e = (both_laws text o e).0
read_found text (Err x) e = tt

pub read_only : (text : List ℕ) (r : Result (Option Command) AllocError) → IsReadAs (command_at (slice_split is_tab text)) r
    → IfOk r (λ o. (c : Command) → IsCommand c → IsSpelling text c → o ≡ Some c)
read_only text (Ok o) e = (both_laws text o e).1
read_only text (Err x) e = tt

pub read_spared : (text : List ℕ) (r : Result (Option Command) AllocError) → IsReadAs (command_at (slice_split is_tab text)) r → IfErr r (λ _. SpellsCommand text)
read_spared text (Ok o) e = tt
read_spared text (Err x) e = spells (command_at (slice_split is_tab text)) refl e where
  spells : (o : Option Command) → command_at (slice_split is_tab text) ≡ o → IsSome o → SpellsCommand text
  spells None is some = absurd cc
  spells (Some c) is some = let s = command_sound text c is in record { command = c; spelled = s.spelled; good = s.good }
