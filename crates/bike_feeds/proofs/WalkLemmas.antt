-- A list that is read from the desk one element after another, and written as it is read.
use Rattle.std.proofs.Common.{◌≡◌, ◌≢◌, ◌≤◌, ◌<◌, ◌⊎◌, ℕ, List, [], ◌∷◌, ◌++◌, map, find, length, Bool, true, false, not, IsTrue, Option, Some, None, Result, Ok, Err, inl, inr, refl, sym, ap, ◌∙◌, T}
use Rattle.std.proofs.Common.{subst, arith, append_assoc, append-nil, length-append}
use Rattle.std.specs.Prelude.{slice_get}
use Rattle.std.specs.Result.{IsErrAnd}
use Rattle.std.specs.Ordering.{is_lt}
use Rattle.std.specs.Cmp.Lexicographic.{nat_list_cmp_total}
use Rattle.std.specs.FinMap.{FinMap, entries, entries_sorted, values}
use Rattle.std.specs.FinMap.Entries as list
use Rattle.sqlite_trees.specs.declared.store.Store.{Ghosts}
use Rattle.sqlite.specs.State.{HasCleanDisk}
use Rattle.bike_json.specs.Outputs.{OutputState}
use Rattle.bike_json.specs.Rows.{items}
use Rattle.bike_json.specs.Tree.{Tree, Items, text, comma, text_of, items_text}
use Rattle.bike_json.specs.Escapes.{string_text}
use Rattle.bike_json.specs.State.{Place, Writes, IsAt as IsIn, greatest_count, takes_array_end, has_more, after_value}
use Rattle.bike_json.specs.declared.level.Level.{Level}
use Rattle.bike_json.specs.declared.level.Level.TheVariants.{Start, Done, EmptyArray, FilledArray, EmptyObject, FilledObject, NamedObject}
use Rattle.bike_json.proofs.Rows.{SoFar, rows_start, rows_next, rows_end, rows_front}
use Rattle.bike_feed_texts.specs.Writing.{WroteValue}
use Rattle.bike_operator.specs.Operator.{Operator, text_cmp}
use Rattle.bike_queries.specs.After.{IsNext}
use Rattle.bike_desk.specs.declared.fault.DeskFault.{DeskFault}
use Rattle.bike_desk.specs.declared.fault.DeskFault.TheVariants.{NoMemory}
use Rattle.bike_desk.specs.Desk.{DeskValue, desk_state, IsAt}
use Rattle.bike_desk.specs.Queries.{Queries}
use Rattle.bike_feeds.specs.declared.fault.FeedFault.{FeedFault}
use Rattle.bike_feeds.specs.declared.fault.FeedFault.TheVariants.{Write, Desk}
use Rattle.bike_feeds.specs.Walking.{StaysAt, WritesItems, MayEnd}
use Rattle.bike_feeds.proofs.After.{next_entry}
use Rattle.bike_feeds.proofs.DeskLemmas.{earlier, stays_still, stays_asked, stays_then, left_well, leaves_ok, leaves_write, leaves_failed, wants_none}

still_inside : (level : Level) → IsTrue (takes_array_end level) → IsTrue (takes_array_end (after_value level))
still_inside Start h = absurd cc
still_inside Done h = absurd cc
still_inside EmptyArray h = refl
still_inside FilledArray h = refl
still_inside EmptyObject h = absurd cc
still_inside FilledObject h = absurd cc
still_inside NamedObject h = absurd cc

longer : (more : Bool) (v : Tree) → 0 < length (text_of v) → 0 < length (comma more ++ text_of v)
longer true v some = omega arith
longer false v some = some

pub text_some : (bytes : List ℕ) → 0 < length (text_of (text bytes))
unfolding string_text
text_some bytes = omega arith

count_grows : (f g : Bool) (m n : ℕ) (a b : OutputState) (x : List ℕ) → 0 < length x → true ≡ not g → Writes f g m n a b x → m < n
count_grows true true m n a b x more ok w = absurd (cc ok)
count_grows true false m n a b x more ok w = absurd (cc w.0)
count_grows false true m n a b x more ok w = absurd (cc ok)
count_grows false false m n a b x more ok w = omega (arith, w.1, more)

-- each element that is written counts
pub grows : {p q : Place} {a b : OutputState} {v : Tree} → 0 < length (text_of v) → WroteValue p q a b v → true ≡ not q.failed → p.count < q.count
grows {p} {q} {a} {b} {v} some w ok = count_grows p.failed q.failed p.count q.count a b _ (longer (has_more p.top) v some) ok w.are.are

has_failed : (failed : Bool) → false ≡ not failed → failed ≡ true
has_failed true h = refl
has_failed false h = absurd (cc h)

may_end : (failed : Bool) (m n : ℕ) (a b : OutputState) (x y : List ℕ) → Writes false failed m n a b x → (failed ≡ true) ⊎ (greatest_count ≤ n) → MayEnd a m (x ++ y)
may_end true m n a b x y (front, inl refuses) h = inl refuses
may_end true m n a b x y (front, inr more) h = inr (omega (arith, length-append x y, more))
may_end false m n a b x y w (inl h) = absurd (cc h)
may_end false m n a b x y w (inr most) = inr (omega (arith, length-append x y, w.1, most))

-- why a list may end before its last element
ends_early : {X : Type 0} (tree : X → Tree) {p q : Place} {a b : OutputState} {all left : List X} → SoFar tree p q a b all left → p.failed ≡ false
    → (q.failed ≡ true) ⊎ (greatest_count ≤ q.count) → MayEnd a p.count (items_text false (items tree all))
ends_early tree {p} {q} {a} {b} s e h =
    subst (MayEnd a p.count) (sym s.split) (may_end q.failed p.count q.count a b s.front _ (rw e at s.wrote.are) h)

-- What is read one after another, with its identifiers; how it is written; and all rows that are written, of which these are the last.
pub record Walk (X : Type 0) : Type 0 where
  pub id : X → List ℕ
  pub tree : Operator → X → Tree
  pub rows : Operator → List X
  pub held : Operator → List (List ℕ × X)
  pub sorted : (s : Operator) → T (list.is_sorted text_cmp (held s))

-- all that is written, as items
abbrev pub written : {X : Type 0} → Walk X → Operator → Items
written w = λ s. items (w.tree s) (w.rows s)

-- a map's values
abbrev pub map_walk : {X : Type 0} → (X → List ℕ) → (Operator → X → Tree) → (Operator → FinMap text_cmp X) → Walk X
map_walk id tree map = record { id = id; tree = tree; rows = λ s. values (map s); held = λ s. entries (map s); sorted = λ s. entries_sorted (map s) }

module _ {S X : Type 0} (g : Ghosts S) (w : Walk X) where
  -- Questions were answered and rows written, so that this holds of the operator.
  pub record Goes (is : Operator → Type 0) (old new : DeskValue S) (from to : Place) : Type 0 where
    pub stays : StaysAt g old new
    pub inside : IsTrue (takes_array_end to.top)
    pub round : to.round ≡ from.round
    pub at : HasCleanDisk (desk_state g new) → (s : Operator) → IsAt g old s → is s

  goes_as : {is so : Operator → Type 0} {d e : DeskValue S} {p q : Place} → ((s : Operator) → is s → so s) → Goes is d e p q → Goes so d e p q
  goes_as means h = record { stays = h.stays; inside = h.inside; round = h.round; at = λ clean s at. means s (h.at clean s at) }

  -- a question between
  pub goes_asked : {A : Type 0} {says : Operator → A → Type 0} {is : Operator → Type 0} {d e f : DeskValue S} {p q : Place} (answer : A)
      → Goes is d e p q → Queries g e f (Ok answer) says → Goes is d f p q
  goes_asked {e = e} {f = f} answer h query = record {
    stays = stays_then g h.stays (stays_asked g answer h.stays.goes_on query);
    inside = h.inside;
    round = h.round;
    at = λ clean s at. h.at (earlier g e f query.clean clean) s at;
  }

  -- some rows are written
  pub record IsUnder (from to : Place) (before after : OutputState) (s : Operator) : Type 0 where
    pub left : List X
    pub wrote : SoFar (w.tree s) from to before after (w.rows s) left

  -- all but those that are read
  pub record IsBegun (from to : Place) (before after : OutputState) (s : Operator) : Type 0 where
    pub wrote : SoFar (w.tree s) from to before after (w.rows s) (map (λ e. e.1) (w.held s))

  -- A front of what is read is written; the first of the others was answered, or none where there is none.
  pub record IsAhead (next : Option X) (from to : Place) (before after : OutputState) (s : Operator) : Type 0 where
    pub front : List (List ℕ × X)
    pub rest : List (List ℕ × X)
    pub split : w.held s ≡ front ++ rest
    pub first : IsNext w.id (slice_get rest 0) next
    pub wrote : SoFar (w.tree s) from to before after (w.rows s) (map (λ e. e.1) rest)

  -- A front is written, of which this is the last.
  pub record IsBehind (x : X) (from to : Place) (before after : OutputState) (s : Operator) : Type 0 where
    pub front : List (List ℕ × X)
    pub last : List ℕ × X
    pub rest : List (List ℕ × X)
    pub split : w.held s ≡ front ++ last ∷ rest
    pub same : w.id x ≡ last.0
    pub wrote : SoFar (w.tree s) from to before after (w.rows s) (map (λ e. e.1) rest)

  -- before the first answer, after an answer, after a row was written, and anywhere
  abbrev pub Begun : DeskValue S → DeskValue S → Place → Place → OutputState → OutputState → Type 0
  Begun old new from to before after = Goes (IsBegun from to before after) old new from to

  abbrev pub Under : DeskValue S → DeskValue S → Place → Place → OutputState → OutputState → Type 0
  Under old new from to before after = Goes (IsUnder from to before after) old new from to

  abbrev pub Walks : Option X → DeskValue S → DeskValue S → Place → Place → OutputState → OutputState → Type 0
  Walks next old new from to before after = Goes (IsAhead next from to before after) old new from to

  abbrev pub Passes : X → DeskValue S → DeskValue S → Place → Place → OutputState → OutputState → Type 0
  Passes x old new from to before after = Goes (IsBehind x from to before after) old new from to

  pub begun_under : {d e : DeskValue S} {p q : Place} {a b : OutputState} → Begun d e p q a b → Under d e p q a b
  begun_under h = goes_as (λ s it. record { left = _; wrote = it.wrote }) h

  pub ahead_under : {d e : DeskValue S} {p q : Place} {a b : OutputState} {next : Option X} → Walks next d e p q a b → Under d e p q a b
  ahead_under h = goes_as (λ s it. record { left = _; wrote = it.wrote }) h

  pub behind_under : {d e : DeskValue S} {p q : Place} {a b : OutputState} {x : X} → Passes x d e p q a b → Under d e p q a b
  behind_under h = goes_as (λ s it. record { left = _; wrote = it.wrote }) h

  -- ---- the way

  -- nothing is asked yet, and nothing written
  pub begins : {d : DeskValue S} {p : Place} {a : OutputState} → d.is_stopped ≡ false → p.top ≡ EmptyArray → ((s : Operator) → w.rows s ≡ map (λ e. e.1) (w.held s))
      → Begun d d p p a a
  begins {p = p} {a = a} going top all = record {
    stays = stays_still g _ going;
    inside = rw top refl;
    round = refl;
    at = λ clean s at. record { wrote = subst (SoFar (w.tree s) p p a a (w.rows s)) (all s) (rows_start (w.tree s) p a (w.rows s) top) };
  }

  -- a question behind which the walk begins
  pub begins_asked : {A : Type 0} {says : Operator → A → Type 0} {d e : DeskValue S} {p : Place} {a : OutputState} (answer : A) → d.is_stopped ≡ false → p.top ≡ EmptyArray
      → ((s : Operator) → w.rows s ≡ map (λ e. e.1) (w.held s)) → Queries g d e (Ok answer) says → Begun d e p p a a
  begins_asked answer going top all query = goes_asked answer (begins going top all) query

  -- a first row is written that isn't read
  pub begins_behind : {d : DeskValue S} {p q : Place} {a b : OutputState} (x : X) → d.is_stopped ≡ false → p.top ≡ EmptyArray
      → ((s : Operator) → w.rows s ≡ x ∷ map (λ e. e.1) (w.held s)) → ((s : Operator) → WroteValue p q a b (w.tree s x)) → IsIn q (after_value p.top) p.round
      → Begun d d p q a b
  begins_behind {p = p} {a = a} x going top all wrote place = record {
    stays = stays_still g _ going;
    inside = subst (λ l. IsTrue (takes_array_end l)) (sym place.0) (still_inside p.top (rw top refl));
    round = place.1;
    at = λ clean s at. record { wrote = rows_next (w.tree s) (rows_start (w.tree s) p a (w.rows s) top) (all s) (wrote s).are place };
  }

  -- the first answer
  pub walk_begins : {A : Type 0} {says : Operator → A → Type 0} {d e f : DeskValue S} {p q : Place} {a b : OutputState} (answer : A) (next : Option X)
      → Begun d e p q a b → Queries g e f (Ok answer) says
      → (HasCleanDisk (desk_state g f) → (s : Operator) → IsAt g d s → says s answer → IsNext w.id (slice_get (w.held s) 0) next) → Walks next d f p q a b
  walk_begins {e = e} {f = f} answer next h query means = record {
    stays = stays_then g h.stays (stays_asked g answer h.stays.goes_on query);
    inside = h.inside;
    round = h.round;
    at = λ clean s at.
        let before = earlier g e f query.clean clean in
        record { front = []; rest = w.held s; split = refl; first = means clean s at (query.ok clean s (h.stays.same before s at)).0; wrote = (h.at before s at).wrote };
  }

  -- the row is written
  module _ {p q r : Place} {a b c : OutputState} (x : X) (s : Operator) (wrote : WroteValue q r b c (w.tree s x)) (place : IsIn r (after_value q.top) q.round) where
    one_behind : (front rest : List (List ℕ × X)) → w.held s ≡ front ++ rest → IsNext w.id (slice_get rest 0) (Some x)
        → SoFar (w.tree s) p q a b (w.rows s) (map (λ e. e.1) rest) → IsBehind x p r a c s
    one_behind front [] split first so_far = absurd first
    one_behind front (e ∷ rest) split first so_far = record {
      front = front;
      last = e;
      rest = rest;
      split = split;
      same = first.1;
      wrote = rows_next (w.tree s) so_far (ap (λ (y : X). y ∷ map (λ (z : List ℕ × X). z.1) rest) (sym first.0)) wrote.are place;
    }

  pub walk_writes : {d e : DeskValue S} {p q r : Place} {a b c : OutputState} (x : X) → Walks (Some x) d e p q a b
      → (HasCleanDisk (desk_state g e) → (s : Operator) → IsAt g d s → WroteValue q r b c (w.tree s x)) → IsIn r (after_value q.top) q.round → Passes x d e p r a c
  walk_writes {q = q} x h wrote place = record {
    stays = h.stays;
    inside = subst (λ l. IsTrue (takes_array_end l)) (sym place.0) (still_inside q.top h.inside);
    round = place.1 ∙ h.round;
    at = λ clean s at. let it = h.at clean s at in one_behind x s (wrote clean s at) place it.front it.rest it.split it.first it.wrote;
  }

  -- the next answer
  pub walk_goes : {A : Type 0} {says : Operator → A → Type 0} {d e f : DeskValue S} {p q : Place} {a b : OutputState} {x : X} (asked : List ℕ) (answer : A) (next : Option X)
      → Passes x d e p q a b → Queries g e f (Ok answer) says → asked ≡ w.id x
      → (HasCleanDisk (desk_state g f) → (s : Operator) → IsAt g d s → says s answer → IsNext w.id (find (λ e. is_lt (text_cmp asked e.0)) (w.held s)) next) → Walks next d f p q a b
  walk_goes {e = e} {f = f} {x = x} asked answer next h query for_it means = record {
    stays = stays_then g h.stays (stays_asked g answer h.stays.goes_on query);
    inside = h.inside;
    round = h.round;
    at = λ clean s at.
        let before = earlier g e f query.clean clean in
        let it = h.at before s at in
        let after = ap (λ (i : List ℕ). find (λ (y : List ℕ × X). is_lt (text_cmp i y.0)) (w.held s)) (for_it ∙ it.same)
        ∙ next_entry nat_list_cmp_total (w.held s) it.front it.last it.rest (w.sorted s) it.split in
        record {
          front = it.front ++ it.last ∷ [];
          rest = it.rest;
          split = it.split ∙ sym (append_assoc it.front (it.last ∷ []) it.rest);
          first = subst (λ o. IsNext w.id o next) after (means clean s at (query.ok clean s (h.stays.same before s at)).0);
          wrote = it.wrote;
        };
  }

  -- ---- ends

  -- the fault that a function hands on
  items_told : {A : Type 0} {d e : DeskValue S} {p q : Place} {a b : OutputState} (fault : FeedFault) (result : Result A FeedFault) → IsErrAnd result (λ told. told ≡ fault)
      → WritesItems g d e p q a b {A = A} (Err fault) (written w) → WritesItems g d e p q a b result (written w)
  items_told fault (Ok x) is h = absurd is
  items_told {A} {d} {e} {p} {q} {a} {b} fault (Err told) is h = subst (λ (f : FeedFault). WritesItems g d e p q a b {A = A} (Err f) (written w)) (sym is) h

  -- a question that failed
  pub asked_failed : {A B : Type 0} {says : Operator → A → Type 0} {d e f : DeskValue S} {p q : Place} {a b : OutputState} (fault : DeskFault) (result : Result B FeedFault)
      → IsErrAnd result (λ told. told ≡ Desk fault) → Under d e p q a b → Queries g e f (Err fault) says → ◌≢◌ {A = Result A DeskFault} (Err fault) (Err NoMemory)
      → WritesItems g d f p q a b result (written w)
  asked_failed {e = e} {f = f} fault result told h query none = items_told (Desk fault) result told (record {
    desk = leaves_failed g fault h.stays query;
    takes_none = wants_none fault none;
    all = λ clean s at. tt;
    front = λ clean s at. rows_front (w.tree s) (h.at (earlier g e f query.clean clean) s at).wrote;
    cause = λ clean s at going is. absurd cc;
    inside = h.inside;
    round = h.round;
  })

  ends_cut : {A : Type 0} {d e : DeskValue S} {p q : Place} {a b : OutputState} → Under d e p q a b → (q.failed ≡ true) ⊎ (greatest_count ≤ q.count)
      → WritesItems g d e p q a b {A = A} (Err Write) (written w)
  ends_cut h why = record {
    desk = leaves_write g h.stays;
    takes_none = λ is. absurd cc;
    all = λ clean s at. tt;
    front = λ clean s at. rows_front (w.tree s) (h.at clean s at).wrote;
    cause = λ clean s at going is. ends_early (w.tree s) (h.at clean s at).wrote going why;
    inside = h.inside;
    round = h.round;
  }

  -- a write that failed
  pub write_failed : {A : Type 0} {d e : DeskValue S} {p q : Place} {a b : OutputState} (result : Result A FeedFault) → IsErrAnd result (λ told. told ≡ Write)
      → Under d e p q a b → false ≡ not q.failed → WritesItems g d e p q a b result (written w)
  write_failed {q = q} result told h failed = items_told Write result told (ends_cut h (inl (has_failed q.failed failed)))

  -- the count reaches its greatest
  pub walk_cut : {A : Type 0} {d e : DeskValue S} {p q : Place} {a b : OutputState} {next : Option X} → Walks next d e p q a b → greatest_count ≤ q.count
      → WritesItems g d e p q a b {A = A} (Err Write) (written w)
  walk_cut h most = ends_cut (ahead_under h) (inr most)

  all_written : (s : Operator) {p q : Place} {a b : OutputState} (rest : List (List ℕ × X)) → IsNext w.id (slice_get rest 0) None
      → SoFar (w.tree s) p q a b (w.rows s) (map (λ e. e.1) rest) → map (λ (e : List ℕ × X). e.1) rest ≡ []
  all_written s [] first wrote = refl
  all_written s (e ∷ rest) first wrote = absurd first

  -- all was read
  pub walk_ends : {A : Type 0} {d e : DeskValue S} {p q : Place} {a b : OutputState} (x : A) → Walks None d e p q a b → WritesItems g d e p q a b (Ok x) (written w)
  walk_ends x h = record {
    desk = leaves_ok g x h.stays;
    takes_none = λ is. absurd cc;
    all = λ clean s at. let it = h.at clean s at in rows_end (w.tree s) it.wrote (all_written s it.rest it.first it.wrote);
    front = λ clean s at. tt;
    cause = λ clean s at going is. absurd cc;
    inside = h.inside;
    round = h.round;
  }

module _ {S A : Type 0} {g : Ghosts S} {all : Operator → Items} {d e f : DeskValue S} {p q : Place} {a b : OutputState} (u : A)
    (them : WritesItems g d e p q a b (Ok u) all) (going : d.is_stopped ≡ false) where
  -- a question behind all rows
  pub items_asked : {B : Type 0} {says : Operator → B → Type 0} (answer : B) → Queries g e f (Ok answer) says → WritesItems g d f p q a b (Ok u) all
  items_asked answer query =
      let stays = left_well g u going them.desk in
      record {
        desk = leaves_ok g u (stays_then g stays (stays_asked g answer stays.goes_on query));
        takes_none = λ is. absurd cc;
        all = λ clean s at. them.all (earlier g e f query.clean clean) s at;
        front = λ clean s at. tt;
        cause = λ clean s at going is. absurd cc;
        inside = them.inside;
        round = them.round;
      }

  -- or one that failed
  pub items_unasked : {B : Type 0} {says : Operator → B → Type 0} (fault : DeskFault) → Queries g e f (Err fault) says → ◌≢◌ {A = Result B DeskFault} (Err fault) (Err NoMemory)
      → WritesItems g d f p q a b {A = A} (Err (Desk fault)) all
  items_unasked fault query none = record {
    desk = leaves_failed g fault (left_well g u going them.desk) query;
    takes_none = wants_none fault none;
    all = λ clean s at. tt;
    front = λ clean s at. record { front = _; rest = []; split = sym (append-nil _); wrote = them.all (earlier g e f query.clean clean) s at };
    cause = λ clean s at going is. absurd cc;
    inside = them.inside;
    round = them.round;
  }
