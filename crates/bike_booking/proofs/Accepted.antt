-- An accepted request, as row changes.
use Rattle.std.proofs.Common.{◌≡◌, ◌+◌, ◌<◌, ◌≤◌, ℕ, ℤ, List, ◌∷◌, ◌++◌, append_assoc, Option, Some, None, Ok, refl, sym, ap, ap₂, ◌∙◌, subst, subst₂}
use Rattle.std.specs.Prelude.{◌+ℤ◌, IfSome, is_some, false}
use Rattle.std.specs.Borrow.{Bor}
use Rattle.std.specs.FinMap as fin
use Rattle.std.specs.FinMap.{FinMap}
use Rattle.std.specs.FinSet.{FinSet}
use Rattle.std.specs.Ordering.{nat_cmp}
use Rattle.bike_ledger.specs.Entries.{Entry}
use Rattle.bike_ledger.specs.Ledger.{credit, given_back, balance_of, refunded_of}
use Rattle.bike_commands.specs.declared.request.Request.{Request}
use Rattle.bike_commands.specs.Replies.{reply_text}
use Rattle.bike_operator.specs.declared.records.Bike.{Bike}
use Rattle.bike_operator.specs.declared.records.Order.{Order}
use Rattle.bike_operator.specs.declared.records.Rental.{Rental}
use Rattle.bike_catalogue.specs.Rows.{more_docks}
use Rattle.bike_fields.specs.declared.name_kind.NameKind.{NameKind}
use Rattle.bike_fields.specs.declared.name_kind.NameKind.TheVariants as named
use Rattle.bike_operator.specs.Operator.{Operator, Station, Rider, AcceptedRequest, Numbered, texts_cmp, last_number, with_item}
use Rattle.bike_operator.specs.View.{before_of, rider_balance}
use Rattle.bike_laws.proofs.NameLemmas.{get_inserted, get_other, changed_found, changed_other, Either, either}
use Rattle.bike_laws.proofs.NameLemmas.Either.{Same, Other}
use Rattle.bike_operator.specs.Changes.{entry_added}
use Rattle.bike_operator.specs.Steps.{key_changed, new_rider, own_name_set, with_report, dock_marked}
use Rattle.bike_operator.specs.Runs.{after_acceptance}
use Rattle.bike_operator.specs.Sound.{IsSound}
use Rattle.bike_laws.proofs.SingleSteps.ItemLemmas.{last_added, last_changed}
use Rattle.bike_laws.proofs.SingleSteps.MapLemmas.{text_order, known_changed}
use Rattle.bike_laws.proofs.SingleSteps.Moment.{reports}
use Rattle.bike_laws.proofs.SingleSteps.NameLemmas.{KeepsNamed, same_named, names_kept}
use Rattle.bike_book.specs.declared.row_change.RowChange.TheVariants as row
use Rattle.bike_book.specs.Stored.{Listed, IsListing}
use Rattle.bike_book.specs.Writes.{RowWrite, Add, write_of, writes_of}
use Rattle.bike_book.specs.Between.{Leads}
use Rattle.bike_book.specs.Tables.{Entries}
use Rattle.bike_book.specs.Rows.{entry_row}
use Rattle.bike_book.specs.NotThere.{NoTypesYet}
use Rattle.bike_book.specs.CloseLaws.{after_close, AreTextsOf, AreNumbersWith}
use Rattle.bike_book.proofs.CloseBooks.{close_quiet, close_entry, close_refund}
use Rattle.bike_book.proofs.SoundNumbers.{no_refunds, no_balance}
use Rattle.bike_booking.proofs.Ends.{sound_ends}
use Rattle.bike_accepted.specs.declared.movement.Movement.{Movement}
use Rattle.bike_accepted.specs.declared.movement.Movement.TheVariants as moved
use Rattle.bike_accepted.specs.declared.change.Change.{Change}
use Rattle.bike_accepted.specs.declared.change.Change.TheVariants as change
use Rattle.bike_accepted.specs.declared.accepted.BookedEntry.{BookedEntry}
use Rattle.bike_accepted.specs.declared.accepted.Accepted.{Accepted}
use Rattle.bike_accepted.specs.Effects.{bike_in, after_change, where_moved, where_changed, entry_of, changed_by, effect_of, Decides}
use Rattle.bike_accepted.specs.Found.{IsMovedFound, IsFound, IsRefundFound, IsBookedFound}
use Rattle.bike_booking.specs.declared.stored.Stored.{Stored}
use Rattle.bike_booking.specs.declared.texts.KeptTexts.{KeptTexts}
use Rattle.bike_booking.specs.Stored.{IsMovedStored}
use Rattle.bike_booking.specs.Figures.{figures_of, rentals_after, orders_after, entries_after, figures_with, FiguresFollow}
use Rattle.bike_booking.specs.Writes.{refund_writes, close_rows, where_moved_writes, where_changed_writes, where_booked_writes, writes_of_accepted}
use Rattle.bike_booking.specs.Booking.{IsAccepted, BooksAccepted}
use Rattle.bike_booking.proofs.Written.{leads_none, leads_then}
use Rattle.bike_booking.proofs.NextFigures.{figures_next}
use Rattle.bike_booking.proofs.MovedBooks.{books_moved}
use Rattle.bike_booking.proofs.MovedTypes.{no_types_left}
use Rattle.bike_booking.proofs.ChangedBooks.{IsReady, books_change}

-- ---- what a move and a record leave

-- the moment, the ledger, what is kept, riders, rentals and names
pub record Leaves (s n : Operator) : Type 0 where
  pub now : n.now ≡ s.now
  pub entries : n.entries ≡ s.entries
  pub history : n.history ≡ s.history
  pub riders : n.riders ≡ s.riders
  pub rentals : n.rentals ≡ s.rentals
  pub orders : n.orders ≡ s.orders
  pub more_names : n.more_names ≡ s.more_names
  pub named : KeepsNamed s n

none_left : (s : Operator) → Leaves s s
none_left s = record { now = refl; entries = refl; history = refl; riders = refl; rentals = refl; orders = refl; more_names = refl; named = same_named s s refl }

bike_left : (s : Operator) (bikes : FinMap nat_cmp Bike) → Leaves s (record s { bikes = bikes })
bike_left s bikes = record { now = refl; entries = refl; history = refl; riders = refl; rentals = refl; orders = refl; more_names = refl; named = same_named s (record s { bikes = bikes }) refl }

mark_left : (s : Operator) (broken : FinSet texts_cmp) → Leaves s (record s { broken = broken })
mark_left s broken = record { now = refl; entries = refl; history = refl; riders = refl; rentals = refl; orders = refl; more_names = refl; named = same_named s (record s { broken = broken }) refl }

station_left : (s : Operator) (station : List ℕ) (f : Station → Station) → Leaves s (record s { stations = key_changed s.stations station f })
station_left s station f = record {
  now = refl;
  entries = refl;
  history = refl;
  riders = refl;
  rentals = refl;
  orders = refl;
  more_names = refl;
  named = record { system = refl; plans = λ id there. there; types = λ id there. there; regions = λ id there. there; stations = λ id there. known_changed text_order s.stations station f id there };
}

reported : (now : ℕ) (station : List ℕ) (s n : Operator) → Leaves s n → Leaves s (with_report station now n)
reported now station s n h = record {
  now = h.now;
  entries = h.entries;
  history = h.history;
  riders = h.riders;
  rentals = h.rentals;
  orders = h.orders;
  more_names = h.more_names;
  named = record {
    system = h.named.system;
    plans = h.named.plans;
    types = h.named.types;
    regions = h.named.regions;
    stations = λ id there. known_changed text_order n.stations station (reports now) id (h.named.stations id there);
  };
}

moved_left : (now : ℕ) (mo : Option Movement) (s : Operator) → Leaves s (where_moved now mo s)
moved_left now None s = none_left s
moved_left now (Some (moved.Away bike type_id was becomes)) s = bike_left s (fin.insert s.bikes bike (bike_in type_id becomes))
moved_left now (Some (moved.AtDock at bike type_id was becomes)) s =
    let bikes = fin.insert s.bikes bike (bike_in type_id becomes) in reported now at.station.now s (record s { bikes = bikes }) (bike_left s bikes)
moved_left now (Some (moved.AddDocks station was count)) s = station_left s station.now (λ x. record x { row = more_docks count.now x.row })
moved_left now (Some (moved.Marked at held broken)) s =
    let n = dock_marked at.station.now at.dock broken s in reported now at.station.now s n (mark_left s n.broken)

ready : (s n : Operator) → IsSound s → Leaves s n → NoTypesYet n → IsReady n
ready s n sound h types = record {
  types = types;
  names = names_kept s n h.more_names h.named sound.names;
  refunds = λ rental above. ap (λ (es : Numbered Entry). refunded_of rental es.items) h.entries ∙ no_refunds s sound rental (subst (λ (rs : Numbered Rental). last_number rs < rental) h.rentals above);
  balance = λ rider none. ap (λ (es : Numbered Entry). balance_of rider es.items) h.entries ∙ no_balance s sound rider (ap (λ (m : FinMap nat_cmp Rider). fin.get m rider) (sym h.riders) ∙ none);
}

-- a name in the system's language leaves the moment, the ledger, what is kept, rentals and orders
record LeavesLedger (s n : Operator) : Type 0 where
  now : n.now ≡ s.now
  entries : n.entries ≡ s.entries
  history : n.history ≡ s.history
  rentals : n.rentals ≡ s.rentals
  orders : n.orders ≡ s.orders

own_name_left : (kind : NameKind) (id name : List ℕ) (s : Operator) → LeavesLedger s (own_name_set kind id name s)
own_name_left named.System id name s = record { now = refl; entries = refl; history = refl; rentals = refl; orders = refl }
own_name_left named.Station id name s = record { now = refl; entries = refl; history = refl; rentals = refl; orders = refl }
own_name_left named.«Type» id name s = record { now = refl; entries = refl; history = refl; rentals = refl; orders = refl }
own_name_left named.Plan id name s = record { now = refl; entries = refl; history = refl; rentals = refl; orders = refl }
own_name_left named.Description id name s = record { now = refl; entries = refl; history = refl; rentals = refl; orders = refl }
own_name_left named.Region id name s = record { now = refl; entries = refl; history = refl; rentals = refl; orders = refl }

own_name_riders : (kind : NameKind) (id name : List ℕ) (s : Operator) → (own_name_set kind id name s).riders ≡ s.riders
own_name_riders named.System id name s = refl
own_name_riders named.Station id name s = refl
own_name_riders named.«Type» id name s = refl
own_name_riders named.Plan id name s = refl
own_name_riders named.Description id name s = refl
own_name_riders named.Region id name s = refl

-- a record leaves the ledger, what is kept and the moment
abbrev LeavesKept : Operator → Operator → Type 0
LeavesKept s n = (n.entries ≡ s.entries) × (n.history ≡ s.history) × (n.now ≡ s.now)

change_left : (c : Change) (s : Operator) → LeavesKept s (after_change c s)
change_left (change.SetOwnName kind id name) s = let left = own_name_left kind id.now name.now s in (left.entries, left.history, left.now)
change_left c s = (refl, refl, refl)

changed_left : (co : Option Change) (s : Operator) → LeavesKept s (where_changed co s)
changed_left None s = (refl, refl, refl)
changed_left (Some c) s = change_left c s

-- what a rider has of archived entries stays: a new rider has nothing of them
before_left : (co : Option Change) (s : Operator) → IfSome co (IsFound s) → (rider : ℕ) → before_of (fin.get (where_changed co s).riders rider) ≡ before_of (fin.get s.riders rider)
before_left None s found rider = refl
before_left (Some (change.AddRider r)) s found rider = go (either rider r) where
  go : Either rider r → before_of (fin.get (fin.insert s.riders r new_rider) rider) ≡ before_of (fin.get s.riders rider)
  go (Same same) =
      ap (λ (n : ℕ). before_of (fin.get (fin.insert s.riders r new_rider) n)) same ∙ ap before_of (get_inserted s.riders r new_rider)
      ∙ sym (ap (λ (n : ℕ). before_of (fin.get s.riders n)) same ∙ ap before_of found)
  go (Other apart) = ap before_of (get_other s.riders r new_rider rider apart)
before_left (Some (change.SetRider r blocked)) s found rider = go (either rider r) (fin.get s.riders r) refl where
  sets : Rider → Rider
  sets x = record x { is_blocked = blocked }

  go : Either rider r → (o : Option Rider) → fin.get s.riders r ≡ o → before_of (fin.get (key_changed s.riders r sets) rider) ≡ before_of (fin.get s.riders rider)
  go (Other apart) o e = ap before_of (changed_other s.riders r sets rider apart)
  go (Same same) None e = let none : is_some (fin.get s.riders r) ≡ false = ap is_some e in absurd cc
  go (Same same) (Some x) e =
      ap (λ (n : ℕ). before_of (fin.get (key_changed s.riders r sets) n)) same ∙ ap before_of (changed_found s.riders r sets x e)
      ∙ sym (ap (λ (n : ℕ). before_of (fin.get s.riders n)) same ∙ ap before_of e)
before_left (Some (change.SetOwnName kind id name)) s found rider = ap (λ (m : FinMap nat_cmp Rider). before_of (fin.get m rider)) (own_name_riders kind id.now name.now s)
before_left (Some c) s found rider = refl

-- ---- the parts of an acceptance

leads_moved : (s : Operator) (m : Listed) (now : ℕ) (n : Stored) → IsSound s → IsListing s m → (mo : Option Movement) → IfSome mo (IsMovedFound s) → IfSome mo (IsMovedStored s m n)
    → (w : Listed) × Leads (where_moved_writes now n mo) s m (where_moved now mo s) w
leads_moved s m now n sound listing None found stored = (m, leads_none s m listing)
leads_moved s m now n sound listing (Some mo) found stored = books_moved s m now n sound.catalogue sound.bikes listing mo found stored

leads_changed : (s : Operator) (m : Listed) → IsReady s → IsListing s m → (co : Option Change) → IfSome co (IsFound s) → Leads (where_changed_writes co) s m (where_changed co s) m
leads_changed s m is_ready listing None found = leads_none s m listing
leads_changed s m is_ready listing (Some c) found = books_change s m listing is_ready c found

-- the operator after an accepted request is what was decided of the one before, closed
accepted_closed : (s : Operator) (now : ℕ) (q : Request) (a : Accepted) → Decides s now q.command (Ok a) → (changed_by now a s).history ≡ s.history
    → after_acceptance s now q ≡ after_close now q a.reply (effect_of now a s)
accepted_closed s now q a decides stays =
    let history : (effect_of now a s).history ≡ s.history = go (entry_of a.entry) in
    λ i. record (sym decides.2 i) { now = now; history = with_item (record { moment = now; request = q; reply = sym decides.1 i }) (sym history i) }
  where
    go : (e : Option Entry) → (entry_added e (changed_by now a s)).history ≡ s.history
    go None = stays
    go (Some e) = stays

module _ (s : Operator) (m : Listed) (now : ℕ) (q : Request) (a : Accepted) (n : Stored) (number : ℕ) (texts : KeptTexts) (h : IsAccepted s m now q a n number texts) where
  abbrev moved_next : Operator
  moved_next = where_moved now a.moved s

  abbrev next : Operator
  next = changed_by now a s

  left : Leaves s moved_next
  left = moved_left now a.moved s

  entries : next.entries ≡ s.entries
  entries = (changed_left a.change moved_next).0 ∙ left.entries

  history : next.history ≡ s.history
  history = (changed_left a.change moved_next).1 ∙ left.history

  -- what a rider has stays, whatever the record is
  balance_stays : (rider : ℕ) → rider_balance next rider ≡ rider_balance s rider
  balance_stays rider =
      ap₂ (λ (z : ℤ) (es : Numbered Entry). z +ℤ balance_of rider es.items)
      (before_left a.change moved_next h.found.change rider ∙ ap (λ (m : FinMap nat_cmp Rider). before_of (fin.get m rider)) left.riders) entries

  later : next.now ≤ now
  later = subst (λ (k : ℕ). k ≤ now) (sym ((changed_left a.change moved_next).2 ∙ left.now)) h.later

  numbered : number ≡ last_number next.history + 1
  numbered = h.number_is ∙ ap (λ (l : Numbered AcceptedRequest). last_number l + 1) (sym history)

  texts_are : AreTextsOf q a.reply texts.caller.now texts.key.now texts.command.now texts.reply.now
  texts_are = record { caller_is = h.texts_are.caller; key_is = h.texts_are.key; command_is = h.texts_are.command; reply_is = h.texts_are.reply ∙ ap reply_text (sym h.decides.1) }

  numbers : (b : BookedEntry) → IsBookedFound s b → AreNumbersWith next b.entry b.balance
  numbers b found = record {
    number_is = found.number_is ∙ ap (λ (es : Numbered Entry). last_number es + 1) (sym entries);
    balance_is = found.balance_is ∙ ap (λ (z : ℤ). z +ℤ credit b.entry.kind b.entry.amount) (sym (balance_stays b.entry.rider));
  }

  -- the entry, where there is one, and the close
  abbrev Closes : Listed → Option BookedEntry → Type 0
  Closes w o = Leads (where_booked_writes o ++ writes_of (close_rows now number texts)) next w (after_close now q a.reply (entry_added (entry_of o) next)) w

  closes : (w : Listed) → IsListing next w → (o : Option BookedEntry) → IfSome o (IsBookedFound s) → Closes w o
  closes w listing None found = close_quiet next w now q a.reply number texts.caller texts.key texts.command texts.reply listing later numbered texts_are
  closes w listing (Some b) found = go b.refunded found.refunded_is where
    go : (o : Option ℤ) → IsRefundFound s b.entry o
        → Leads ((Add Entries (entry_row b.entry.number b.entry) ∷ write_of (row.SetBalance b.entry.rider b.balance) ∷ refund_writes b.entry.rental o)
        ++ writes_of (close_rows now number texts)) next w (after_close now q a.reply (entry_added (Some b.entry) next)) w
    go None none =
        let e : Bor Entry = record { ref_ptr = (0, 0); now = b.entry } in
        close_entry next w now q a.reply number texts.caller texts.key texts.command texts.reply listing later numbered texts_are e b.balance (numbers b found) none
    go (Some refunded) is =
        let e : Bor Entry = record { ref_ptr = (0, 0); now = b.entry } in
        close_refund next w now q a.reply number texts.caller texts.key texts.command texts.reply listing later numbered texts_are e b.balance refunded (numbers b found)
        (is ∙ ap (λ (es : Numbered Entry). refunded_of b.entry.rental es.items +ℤ given_back b.entry.kind b.entry.amount) (sym entries))

  pub leads_accepted : (w : Listed) × Leads (writes_of_accepted now n number texts a) s m (after_acceptance s now q) w
  leads_accepted =
      let one = leads_moved s m now n h.sound h.listing a.moved h.found.moved h.stored in
      let w = one.0 in
      let two = leads_changed moved_next w (ready s moved_next h.sound left (no_types_left now a.moved s h.sound h.found.moved)) one.1.listing a.change h.found.change in
      let three = closes w two.listing a.entry h.found.entry in
      let ms = where_moved_writes now n a.moved in
      let cs = where_changed_writes a.change in
      let es = where_booked_writes a.entry in
      let ks = writes_of (close_rows now number texts) in
      let end = after_close now q a.reply (effect_of now a s) in
      let both = leads_then ms cs s moved_next next m w w one.1 two in
      let all : Leads ((ms ++ cs) ++ (es ++ ks)) s m end w = leads_then (ms ++ cs) (es ++ ks) s next end m w w both three in
      (w, subst₂ (λ (ws : List RowWrite) (o : Operator). Leads ws s m o w) (sym (append_assoc (ms ++ cs) es ks)) (sym (accepted_closed s now q a h.decides history)) all)

-- ---- the law

pub books_accepted : BooksAccepted
books_accepted s m now q a n number texts rows h are =
    let l = leads_accepted s m now q a n number texts h in
    record {
      listed = l.0;
      leads = sound_ends rows s (after_acceptance s now q) m l.0 h.sound.bikes h.sound_after.bikes (subst (λ (ws : List RowWrite). Leads ws s m (after_acceptance s now q) l.0) (sym are) l.1);
    }

-- what an accepted request leaves of the ledger before its entry
changed_by_left : (now : ℕ) (a : Accepted) (s : Operator) → ((changed_by now a s).entries ≡ s.entries) × ((changed_by now a s).history ≡ s.history)
changed_by_left now a s =
    let before = moved_left now a.moved s in
    let after = changed_left a.change (where_moved now a.moved s) in (after.0 ∙ before.entries, after.1 ∙ before.history)

-- ---- figures

-- how many rentals and orders there are after a record
rentals_with : (co : Option Change) (s : Operator) → IfSome co (IsFound s) → rentals_after (last_number s.rentals) co ≡ last_number (where_changed co s).rentals
rentals_with None s found = refl
rentals_with (Some (change.AddRental rental rider bike plan from_station start)) s found = found ∙ sym (last_added s.rentals _)
rentals_with (Some (change.CloseRental rental to_station finish fare)) s found = sym (last_changed rental _ s.rentals)
rentals_with (Some (change.SetOwnName kind id name)) s found = ap (λ (rs : Numbered Rental). last_number rs) (sym (own_name_left kind id.now name.now s).rentals)
rentals_with (Some c) s found = refl

orders_with : (co : Option Change) (s : Operator) → IfSome co (IsFound s) → orders_after (last_number s.orders) co ≡ last_number (where_changed co s).orders
orders_with None s found = refl
orders_with (Some (change.AddOrder order truck from_end to_end type_id count)) s found = found ∙ sym (last_added s.orders _)
orders_with (Some (change.SetOrder order delivered is_open)) s found = sym (last_changed order _ s.orders)
orders_with (Some (change.SetOwnName kind id name)) s found = ap (λ (os : Numbered Order). last_number os) (sym (own_name_left kind id.now name.now s).orders)
orders_with (Some c) s found = refl

-- the figures of the ledger with an entry
record LedgerWith (s next : Operator) (o : Option BookedEntry) : Type 0 where
  entries : entries_after (last_number s.entries) o ≡ last_number (entry_added (entry_of o) next).entries
  rentals : (entry_added (entry_of o) next).rentals ≡ next.rentals
  orders : (entry_added (entry_of o) next).orders ≡ next.orders
  history : (entry_added (entry_of o) next).history ≡ next.history

ledger_with : (s n : Operator) (o : Option BookedEntry) → n.entries ≡ s.entries → IfSome o (IsBookedFound s) → LedgerWith s n o
ledger_with s n None same found = record {
  entries = ap (λ (es : Numbered Entry). last_number es) (sym same);
  rentals = refl;
  orders = refl;
  history = refl;
}
ledger_with s n (Some b) same found = record {
  entries = found.number_is ∙ ap (λ (es : Numbered Entry). last_number es + 1) (sym same) ∙ sym (last_added n.entries b.entry);
  rentals = refl;
  orders = refl;
  history = refl;
}

pub figures_follow : FiguresFollow
figures_follow s now q a figures decides found follows =
    let mid = where_moved now a.moved s in
    let next = changed_by now a s in
    let before = moved_left now a.moved s in
    let left = changed_by_left now a s in
    let end = effect_of now a s in
    let ledger = ledger_with s next a.entry left.0 found.entry in
    let closed = accepted_closed s now q a decides left.1 in
    let rentals = ap (λ (rs : Numbered Rental). rentals_after (last_number rs) a.change) (sym before.rentals) ∙ rentals_with a.change mid found.change
    ∙ ap (λ (rs : Numbered Rental). last_number rs) (sym ledger.rentals) in
    let orders = ap (λ (os : Numbered Order). orders_after (last_number os) a.change) (sym before.orders) ∙ orders_with a.change mid found.change
    ∙ ap (λ (os : Numbered Order). last_number os) (sym ledger.orders) in
    let requests : last_number s.history + 1 ≡ last_number (after_close now q a.reply end).history =
    ap (λ (l : Numbered AcceptedRequest). last_number l + 1) (sym (ledger.history ∙ left.1)) ∙ sym (last_added end.history _) in
    let all : figures_with (figures_of s) now a (last_number s.history + 1) ≡ figures_of (after_close now q a.reply end) =
    λ i. record { now = now; rentals = rentals i; orders = orders i; entries = ledger.entries i; requests = requests i } in
    figures_next (figures_of s) now a follows ∙ all ∙ ap figures_of (sym closed)
