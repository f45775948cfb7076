-- The text of a whole feed, from its parts.
use Rattle.std.proofs.Common.{◌≡◌, ℕ, ◌<◌, List, ◌++◌, length, Bool, true, false, not, Result, Ok, Err, inl, inr, refl, sym, ap, ◌∙◌, subst, arith, length-append}
use Rattle.std.specs.Result.{IsErrAnd}
use Rattle.sqlite_trees.specs.declared.store.Store.{Ghosts}
use Rattle.sqlite.specs.State.{HasCleanDisk}
use Rattle.bike_stream.specs.Writing.{AppendsFront}
use Rattle.bike_catalogue.specs.Rows.{MoreNameRow, SystemRow}
use Rattle.bike_json.specs.Outputs.{OutputState, IsSameOutput}
use Rattle.bike_json.specs.Tree.{Items, text_of, items_text}
use Rattle.bike_json.specs.State.{Place, Wrote, MayFail, outset}
use Rattle.bike_json.proofs.Series.{Wrote_then, Wrote_as, Wrote_ok, Wrote_err, Wrote_front, fails_first}
use Rattle.bike_json.proofs.Rows.{cut_short}
use Rattle.bike_feed_texts.specs.Writing.{list_head_text, list_end_text, information_head_text, information_end_text}
use Rattle.bike_feed_texts.specs.declared.feed.Feed.TheVariants.{SystemInformation}
use Rattle.bike_feed_texts.specs.Trees.{feed_tree}
use Rattle.bike_feed_texts.proofs.Frames.{list_text, information_text}
use Rattle.bike_fields.specs.declared.name_kind.NameKind.TheVariants as named
use Rattle.bike_operator.specs.Operator.{Operator}
use Rattle.bike_operator.specs.Names.{further_names}
use Rattle.bike_desk.specs.Desk.{DeskValue, desk_state, IsAt}
use Rattle.bike_desk.specs.Queries.{Queries}
use Rattle.bike_feeds.specs.declared.fault.FeedFault.{FeedFault}
use Rattle.bike_feeds.specs.declared.fault.FeedFault.TheVariants.{Write}
use Rattle.bike_feeds.specs.Publishing.{LeavesDesk}
use Rattle.bike_feeds.specs.Walking.{WritesItems, WritesText, MayEnd}
use Rattle.bike_feeds.specs.Listings.{list_name, elements, listing_text}
use Rattle.bike_feeds.specs.declared.listing.Listing.{Listing}
use Rattle.bike_feeds.proofs.WalkLemmas.{written}
use Rattle.bike_feeds.proofs.Lists.{languages}
use Rattle.bike_feeds.proofs.DeskLemmas.{same_fault, earlier, stays_still, left_well, leaves_ok, leaves_write, leaves_same}

goes_on : (failed : Bool) → true ≡ not failed → failed ≡ false
goes_on true h = absurd (cc h)
goes_on false h = refl

-- why the elements of a list may end, behind its head and before its end
list_ends : (a b : OutputState) (head list tail : List ℕ) → IsSameOutput a b → 0 < length tail → MayEnd b (length head) list → MayFail a 0 (head ++ (list ++ tail))
list_ends a b head list tail same more (inl refuses) = inl (sym same ∙ refuses)
list_ends a b head list tail same more (inr most) = inr (omega (arith, length-append head (list ++ tail), length-append list tail, more, most))

module _ {S : Type 0} (g : Ghosts S) (text : Operator → List ℕ) where
  -- all was written from the outset, and the desk stays
  pub text_told : {A B : Type 0} {d e : DeskValue S} {p t : Place} {a b : OutputState} (x : A) (u : B) → p ≡ outset → LeavesDesk g d e (Ok u)
      → (HasCleanDisk (desk_state g e) → (s : Operator) → IsAt g d s → Wrote p t a b (text s)) → d.is_stopped ≡ false → true ≡ not t.failed
      → WritesText g d e a b (Ok x) text
  text_told x u start leaves wrote going well = record {
    desk = leaves_ok g x (left_well g u going leaves);
    takes_none = λ is. absurd cc;
    whole = λ clean s at. (Wrote_ok {E = FeedFault} (Ok x) (wrote clean s at) (ap (λ (y : Place). y.failed) start) well).0;
    front = λ clean s at. tt;
    cause = λ clean s at is. absurd cc;
  }

  -- a write failed
  pub text_cut : {A B : Type 0} {d e : DeskValue S} {p t : Place} {a b : OutputState} (u : B) → p ≡ outset → LeavesDesk g d e (Ok u)
      → (HasCleanDisk (desk_state g e) → (s : Operator) → IsAt g d s → Wrote p t a b (text s)) → d.is_stopped ≡ false → false ≡ not t.failed
      → WritesText g d e a b {A = A} (Err Write) text
  text_cut {A} {a = a} u start leaves wrote going failed = record {
    desk = leaves_write g (left_well g u going leaves);
    takes_none = λ is. absurd cc;
    whole = λ clean s at. tt;
    front = λ clean s at. (Wrote_err {A = A} (Err Write) (wrote clean s at) (ap (λ (y : Place). y.failed) start) failed).0;
    cause = λ clean s at is.
        subst (λ n. MayFail a n (text s)) (ap (λ (y : Place). y.count) start) (Wrote_err {A = A} (Err Write) (wrote clean s at) (ap (λ (y : Place). y.failed) start) failed).1;
  }

  -- the fault that a function hands on
  pub text_passed : {A : Type 0} {d e : DeskValue S} {a b : OutputState} (fault : FeedFault) (result : Result A FeedFault) → IsErrAnd result (λ told. told ≡ fault)
      → WritesText g d e a b {A = A} (Err fault) text → WritesText g d e a b result text
  text_passed fault (Ok x) is w = absurd is
  text_passed {A} {d} {e} {a} {b} fault (Err told) is w = subst (λ (f : FeedFault). WritesText g d e a b {A = A} (Err f) text) (sym is) w

-- What stands before the items of a list and behind them, and the whole text.
pub record Parts : Type 0 where
  pub head : List ℕ
  pub them : Operator → Items
  pub tail : Operator → List ℕ
  pub text : Operator → List ℕ
  pub is : (s : Operator) → text s ≡ head ++ (items_text false (them s) ++ tail s)
  pub some : (s : Operator) → 0 < length (tail s)

-- a feed whose data are a list
abbrev pub list_parts : SystemRow → ℕ → Listing → Parts
list_parts x moment list = record {
  head = list_head_text x moment (list_name list);
  them = λ s. elements s x list;
  tail = λ s. list_end_text;
  text = λ s. listing_text s x list moment;
  is = λ s. list_text x moment (list_name list) (elements s x list);
  some = λ s. omega arith;
}

-- the feed of the system
abbrev pub information_parts : SystemRow → ℕ → Parts
information_parts x moment = record {
  head = information_head_text x moment;
  them = written (languages x);
  tail = λ s. information_end_text x (further_names s named.System x.system_id);
  text = λ s. text_of (feed_tree s x SystemInformation moment);
  is = λ s. information_text s x moment;
  some = λ s. omega arith;
}

module _ {S : Type 0} (g : Ghosts S) (t : Parts) where
  abbrev items_of : Operator → List ℕ
  items_of s = items_text false (t.them s)

  -- the head, all elements and the end
  list_wrote : {A : Type 0} {d e : DeskValue S} {p q r v : Place} {a b c f : OutputState} (u : A) → Wrote p q a b t.head → WritesItems g d e q r b c (Ok u) t.them
      → (HasCleanDisk (desk_state g e) → (s : Operator) → IsAt g d s → Wrote r v c f (t.tail s)) → HasCleanDisk (desk_state g e) → (s : Operator) → IsAt g d s → Wrote p v a f (t.text s)
  list_wrote u head them end clean s at = Wrote_as (sym (t.is s)) (Wrote_then head (Wrote_then (them.all clean s at) (end clean s at)))

  pub list_done : {A B : Type 0} {d e : DeskValue S} {p q r v : Place} {a b c f : OutputState} (x : B) (u : A) → p ≡ outset → Wrote p q a b t.head
      → WritesItems g d e q r b c (Ok u) t.them → (HasCleanDisk (desk_state g e) → (s : Operator) → IsAt g d s → Wrote r v c f (t.tail s)) → d.is_stopped ≡ false
      → true ≡ not v.failed → WritesText g d e a f (Ok x) t.text
  list_done x u start head them end going well = text_told g t.text x u start them.desk (list_wrote u head them end) going well

  -- a write failed: in the head, or behind the elements
  pub head_cut : {A : Type 0} {d : DeskValue S} {p q : Place} {a b : OutputState} (result : Result A FeedFault) → IsErrAnd result (λ told. told ≡ Write) → p ≡ outset
      → Wrote p q a b t.head → d.is_stopped ≡ false → false ≡ not q.failed → WritesText g d d a b result t.text
  head_cut {A} {a = a} {b = b} result told start head going failed = text_passed g t.text Write result told (record {
    desk = leaves_write g (stays_still g _ going);
    takes_none = λ is. absurd cc;
    whole = λ clean s at. tt;
    front = λ clean s at.
        let longer : 0 < length (items_of s ++ t.tail s) = omega (arith, length-append (items_of s) (t.tail s), t.some s) in
        subst (AppendsFront a.bytes b.bytes) (sym (t.is s)) (Wrote_front (items_of s ++ t.tail s) head (ap (λ (y : Place). y.failed) start) longer);
    cause = λ clean s at told.
        let why = (Wrote_err {A = A} (Err Write) head (ap (λ (y : Place). y.failed) start) failed).1 in
        subst (λ n. MayFail a n (t.text s)) (ap (λ (y : Place). y.count) start)
        (subst (MayFail a _) (sym (t.is s)) (fails_first a _ t.head (items_of s ++ t.tail s) why));
  })

  pub end_cut : {A B : Type 0} {d e : DeskValue S} {p q r v : Place} {a b c f : OutputState} (result : Result B FeedFault) (u : A) → IsErrAnd result (λ told. told ≡ Write)
      → p ≡ outset → Wrote p q a b t.head → WritesItems g d e q r b c (Ok u) t.them
      → (HasCleanDisk (desk_state g e) → (s : Operator) → IsAt g d s → Wrote r v c f (t.tail s)) → d.is_stopped ≡ false → false ≡ not v.failed → WritesText g d e a f result t.text
  end_cut result u told start head them end going failed = text_passed g t.text Write result told (text_cut g t.text u start them.desk (list_wrote u head them end) going failed)

  -- a fault in the midst of the elements, or behind them
  pub list_failed : {A B : Type 0} {d e : DeskValue S} {p q r : Place} {a b c : OutputState} (fault : FeedFault) (result : Result B FeedFault) → IsErrAnd result (λ told. told ≡ fault)
      → p ≡ outset → Wrote p q a b t.head → WritesItems g d e q r b c {A = A} (Err fault) t.them → true ≡ not q.failed → WritesText g d e a c result t.text
  list_failed {p = p} {q = q} {a = a} {b = b} {c = c} fault result told start head them well = text_passed g t.text fault result told (record {
    desk = leaves_same g fault them.desk;
    takes_none = λ is. them.takes_none (same_fault is);
    whole = λ clean s at. tt;
    front = λ clean s at. subst (AppendsFront a.bytes c.bytes) (sym (t.is s)) (cut_short (t.tail s) head (them.front clean s at) (ap (λ (y : Place). y.failed) start) (t.some s));
    cause = λ clean s at write.
        let counted = (Wrote_ok {A = Unit {0}} {E = FeedFault} (Ok tt) head (ap (λ (y : Place). y.failed) start) well).1 in
        let none : p.count ≡ 0 = ap (λ (y : Place). y.count) start in
        let from : q.count ≡ length t.head = omega (arith, counted, none) in
        subst (MayFail a 0) (sym (t.is s))
        (list_ends a b t.head (items_of s) (t.tail s) head.same (t.some s)
        (subst (λ n. MayEnd b n (items_of s)) from (them.cause clean s at (goes_on q.failed well) (same_fault write))));
  })

-- the end of the feed of the system, with the names that were answered behind the languages
module _ {S A B : Type 0} (g : Ghosts S) (x : SystemRow) (items : B → List MoreNameRow) {u : A} {d e f : DeskValue S} {p q v : Place} {a b c : OutputState}
    {all : Operator → Items} where
  pub information_ends : {id : List ℕ} {lent : List MoreNameRow} (answer : B) → WritesItems g d e p q a b (Ok u) all
      → Queries g e f (Ok answer) (λ s names. items names ≡ further_names s named.System id) → id ≡ x.system_id → lent ≡ items answer
      → Wrote q v b c (information_end_text x lent)
      → HasCleanDisk (desk_state g f) → (s : Operator) → IsAt g d s → Wrote q v b c (information_end_text x (further_names s named.System x.system_id))
  information_ends answer them query same is wrote clean s at =
      let known = (query.ok clean s (them.desk.same (earlier g e f query.clean clean) s at)).0 in
      subst (λ names. Wrote q v b c (information_end_text x names)) (is ∙ (known ∙ ap (further_names s named.System) same)) wrote
