-- A feed of the system that the desk has.
use Rattle.std.proofs.Common.{◌≡◌, ℕ, List, ◌++◌, Bool, true, false, not, Option, Some, None, Result, Ok, Err, OnOk, OnErr, refl, sym, ap, ◌∙◌, subst, arith}
use Rattle.std.specs.Prelude.{MatchOption}
use Rattle.std.specs.Result.{IsErrAnd}
use Rattle.std.specs.Io.KnownBytes.{Keeps, Appends}
use Rattle.std.proofs.KnownBytes.{Appends-nil, Keeps-refl}
use Rattle.sqlite_trees.specs.declared.store.Store.{Ghosts}
use Rattle.sqlite.specs.State.{HasCleanDisk}
use Rattle.bike_stream.specs.Writing.{AppendsFront}
use Rattle.bike_catalogue.specs.Rows.{SystemRow}
use Rattle.bike_json.specs.Outputs.{OutputState}
use Rattle.bike_json.specs.Tree.{Tree, comma, text_of}
use Rattle.bike_json.specs.State.{Place, Wrote, outset, has_more}
use Rattle.bike_json.proofs.Series.{Wrote_as}
use Rattle.bike_feed_texts.specs.declared.feed.Feed.{Feed}
use Rattle.bike_feed_texts.specs.Trees.{feed_tree}
use Rattle.bike_feed_texts.specs.Writing.{WroteValue}
use Rattle.bike_operator.specs.Operator.{Operator}
use Rattle.bike_desk.specs.Desk.{DeskValue, desk_state, IsAt}
use Rattle.bike_desk.specs.declared.fault.DeskFault.{DeskFault}
use Rattle.bike_desk.specs.declared.fault.DeskFault.TheVariants.{NoMemory, StoreFailed, Stopped}
use Rattle.bike_desk.specs.Queries.{Queries}
use Rattle.bike_feeds.specs.declared.fault.FeedFault.{FeedFault}
use Rattle.bike_feeds.specs.declared.fault.FeedFault.TheVariants.{SystemMissing, Write, Desk}
use Rattle.bike_feeds.specs.Publishing.{LeavesDesk, feed_text, IsPublished, IsBegun}
use Rattle.bike_feeds.specs.Listings.{elements, listing_text}
use Rattle.bike_feeds.specs.declared.listing.Listing.{Listing}
use Rattle.bike_feeds.specs.Walking.{StaysAt, WritesItems, WritesText}
use Rattle.bike_feeds.proofs.DeskLemmas.{earlier, stays_still, stays_asked, leaves_ok, leaves_missing, leaves_then}
use Rattle.bike_feeds.proofs.TextLemmas.{text_told, text_cut, text_passed}

-- ---- one feed of a system

-- the text of one list
pub listed : {S A : Type 0} (g : Ghosts S) (x : SystemRow) (moment : ℕ) {list : Listing} (kind : Listing) (is : list ≡ kind) {d e : DeskValue S} {a b : OutputState} {result : Result A FeedFault}
    → WritesText g d e a b result (λ s. listing_text s x list moment) → WritesText g d e a b result (λ s. listing_text s x kind moment)
listed g x moment kind is {d} {e} {a} {b} {result} w = subst (λ (l : Listing). WritesText g d e a b result (λ s. listing_text s x l moment)) is w

-- the elements of one list
pub elements_as : {S A : Type 0} (g : Ghosts S) (x : SystemRow) {list : Listing} (kind : Listing) (is : list ≡ kind) {d e : DeskValue S} {p q : Place} {a b : OutputState} {result : Result A FeedFault}
    → WritesItems g d e p q a b result (λ s. elements s x kind) → WritesItems g d e p q a b result (λ s. elements s x list)
elements_as g x kind is {d} {e} {p} {q} {a} {b} {result} w = subst (λ (l : Listing). WritesItems g d e p q a b result (λ s. elements s x l)) (sym is) w

value_wrote : {p t : Place} {a b : OutputState} {v : Tree} → p ≡ outset → WroteValue p t a b v → Wrote p t a b (text_of v)
value_wrote {p} {t} {a} {b} {v} start w = Wrote_as (ap (λ (y : Place). comma (has_more y.top) ++ text_of v) start) w.are

module _ {S : Type 0} (g : Ghosts S) (x : SystemRow) (moment : ℕ) {feed : Feed} (kind : Feed) (is : feed ≡ kind) where
  pub feed_as : {A : Type 0} {d e : DeskValue S} {a b : OutputState} {result : Result A FeedFault}
      → WritesText g d e a b result (λ s. feed_text s x kind moment) → WritesText g d e a b result (λ s. feed_text s x feed moment)
  feed_as {A} {d} {e} {a} {b} {result} w = subst (λ (f : Feed). WritesText g d e a b result (λ s. feed_text s x f moment)) (sym is) w

  -- a feed that depends on no more than the system
  module _ {d : DeskValue S} {p t : Place} {a b : OutputState} (start : p ≡ outset) (going : d.is_stopped ≡ false)
      (wrote : (s : Operator) → WroteValue p t a b (feed_tree s x kind moment)) where
    pub value_done : {A : Type 0} (v : A) → true ≡ not t.failed → WritesText g d d a b (Ok v) (λ s. feed_text s x feed moment)
    value_done v well =
        feed_as (text_told g (λ s. feed_text s x kind moment) v v start (leaves_ok g v (stays_still g d going)) (λ clean s at. value_wrote start (wrote s)) going well)

    pub value_cut : {A : Type 0} (v : A) (result : Result A FeedFault) → IsErrAnd result (λ told. told ≡ Write) → false ≡ not t.failed
        → WritesText g d d a b result (λ s. feed_text s x feed moment)
    value_cut v result told failed = feed_as (text_passed g (λ s. feed_text s x kind moment) Write result told
        (text_cut g (λ s. feed_text s x kind moment) v start (leaves_ok g v (stays_still g d going)) (λ clean s at. value_wrote start (wrote s)) going failed))

-- ---- the system that the desk has

begun_by : (s : Operator) (feed : Feed) (moment : ℕ) (a : Option (List ℕ)) (o : Option SystemRow) → MatchOption o (Keeps a a) (λ x. AppendsFront a a (feed_text s x feed moment))
begun_by s feed moment a None = Keeps-refl a
begun_by s feed moment a (Some x) = (0, omega arith, Appends-nil a)

-- nothing is written
pub nothing_begun : (s : Operator) (feed : Feed) (moment : ℕ) (a : Option (List ℕ)) → IsBegun s feed moment a a
nothing_begun s feed moment a = begun_by s feed moment a s.system

pub on_err : {A E P : Type 0} (r : Result A E) → P → OnErr r P
on_err (Ok x) h = tt
on_err (Err e) h = h

-- a desk that answered was going on
was_going : {S A : Type 0} (g : Ghosts S) {d e : DeskValue S} {says : Operator → A → Type 0} (x : A) → Queries g d e (Ok x) says → d.is_stopped ≡ false
was_going g {d} x q = go d.is_stopped refl where
  go : (b : Bool) → d.is_stopped ≡ b → d.is_stopped ≡ false
  go true is = let it = (q.stays is).0 in absurd cc
  go false is = is

published : {A : Type 0} (s : Operator) (x : SystemRow) (feed : Feed) (moment : ℕ) (a b : Option (List ℕ)) (r : Result A FeedFault) → s.system ≡ Some x
    → OnOk r (Appends a b (feed_text s x feed moment)) → OnOk r (IsPublished s feed moment a b)
published s x feed moment a b (Ok y) set h = (x, set, h)
published s x feed moment a b (Err e) set h = tt

begun : {A : Type 0} (s : Operator) (x : SystemRow) (feed : Feed) (moment : ℕ) (a b : Option (List ℕ)) (r : Result A FeedFault) → s.system ≡ Some x
    → OnErr r (AppendsFront a b (feed_text s x feed moment)) → OnErr r (IsBegun s feed moment a b)
begun s x feed moment a b (Ok y) set h = tt
begun s x feed moment a b (Err e) set h = subst (λ (o : Option SystemRow). MatchOption o (Keeps a b) (λ y. AppendsFront a b (feed_text s y feed moment))) (sym set) h

module _ {S : Type 0} (g : Ghosts S) {d e : DeskValue S} (o : Option SystemRow) (q : Queries g d e (Ok o) (λ s x. x ≡ s.system)) where
  asked : StaysAt g d e
  asked = stays_asked g o (was_going g o q) q

  pub publish_missing : {A : Type 0} → o ≡ None → LeavesDesk g d e {A = A} (Err SystemMissing)
  publish_missing none = leaves_missing g asked (λ clean s at. sym (q.ok clean s at).0 ∙ none)

  has : (x : SystemRow) → o ≡ Some x → HasCleanDisk (desk_state g e) → (s : Operator) → IsAt g d s → s.system ≡ Some x
  has x is clean s at = sym (q.ok clean s at).0 ∙ is

  pub publish_leaves : {A : Type 0} {f : DeskValue S} {a b : OutputState} {result : Result A FeedFault} {text : Operator → List ℕ}
      → WritesText g e f a b result text → LeavesDesk g d f result
  publish_leaves w = leaves_then g asked w.desk

  module _ {A : Type 0} {f : DeskValue S} (x : SystemRow) (is : o ≡ Some x) (feed : Feed) (moment : ℕ) {a b : OutputState} (result : Result A FeedFault)
      (w : WritesText g e f a b result (λ s. feed_text s x feed moment)) where
    pub publish_whole : HasCleanDisk (desk_state g f) → (s : Operator) → IsAt g d s → OnOk result (IsPublished s feed moment a.bytes b.bytes)
    publish_whole clean s at =
        let before = earlier g e f w.desk.clean clean in
        published s x feed moment a.bytes b.bytes result (has x is before s at) (w.whole clean s (asked.same before s at))

    pub publish_front : HasCleanDisk (desk_state g f) → (s : Operator) → IsAt g d s → OnErr result (IsBegun s feed moment a.bytes b.bytes)
    publish_front clean s at =
        let before = earlier g e f w.desk.clean clean in
        begun s x feed moment a.bytes b.bytes result (has x is before s at) (w.front clean s (asked.same before s at))

-- the first question failed, of a desk that may be stopped
leaves_first : {S A B : Type 0} (g : Ghosts S) {says : Operator → A → Type 0} {d e : DeskValue S} (fault : DeskFault) → Queries g d e (Err fault) says
    → LeavesDesk g d e {A = B} (Err (Desk fault))
leaves_first {S} g fault q = record {
  clean = q.clean;
  same = λ clean s at. tt;
  missing = λ clean s at is. absurd cc;
  write = λ clean s at is. absurd cc;
  no_memory = λ clean s at is. let same : fault ≡ NoMemory = cc in subst (λ (x : DeskValue S). IsAt g x s) (sym (q.no_memory (ap (λ (x : DeskFault). Err x) same))) at;
  rests = q.rests;
  left = q.left;
  goes_on = tt;
  stops = λ is. let same : fault ≡ StoreFailed = cc in q.stops (ap (λ (x : DeskFault). Err x) same);
  stopped = λ is. let same : fault ≡ Stopped = cc in q.stopped (ap (λ (x : DeskFault). Err x) same);
  stays = λ is_stopped. let both = q.stays is_stopped in (let same : fault ≡ Stopped = (let r = both.0 in cc) in ap (λ (x : DeskFault). Err (Desk x)) same, both.1);
}

pub leaves_unasked : {S A B : Type 0} (g : Ghosts S) {says : Operator → A → Type 0} {d e : DeskValue S} (fault : DeskFault) (result : Result B FeedFault)
    → IsErrAnd result (λ told. told ≡ Desk fault) → Queries g d e (Err fault) says → LeavesDesk g d e result
leaves_unasked g fault (Ok x) told q = absurd told
leaves_unasked {B = B} g {d = d} {e = e} fault (Err other) told q = subst (λ (f : FeedFault). LeavesDesk g d e {A = B} (Err f)) (sym told) (leaves_first g fault q)
