-- Further names, which are asked for only where there are any.
use Rattle.std.proofs.Common.{◌≡◌, ◌≢◌, ◌≤◌, ℕ, List, [], ◌∷◌, map, Bool, true, false, Option, Some, None, option_map, Result, Ok, Err, refl, sym, ap, ◌∙◌, subst, arith}
use Rattle.std.specs.Prelude.{is_some, slice_get, IfOk}
use Rattle.std.specs.Result.{IsErrAnd}
use Rattle.std.specs.FinMap.{FinMap, entries}
use Rattle.sqlite_trees.specs.View.{doubt}
use Rattle.sqlite_trees.specs.declared.store.Store.{Ghosts}
use Rattle.sqlite.specs.State.{HasCleanDisk}
use Rattle.bike_catalogue.specs.Rows.{MoreNameRow, SystemRow}
use Rattle.bike_json.specs.Outputs.{OutputState}
use Rattle.bike_json.specs.Tree.{Tree}
use Rattle.bike_json.specs.State.{Place, IsAt as IsIn, after_value}
use Rattle.bike_fields.specs.declared.name_kind.NameKind.{NameKind}
use Rattle.bike_fields.specs.declared.name_kind.NameKind.TheVariants as named
use Rattle.bike_operator.specs.Operator.{Operator, Station, text_cmp}
use Rattle.bike_operator.specs.Names.{further_names}
use Rattle.bike_feed_texts.specs.Trees.{names_by_language}
use Rattle.bike_feed_texts.specs.Writing.{WroteValue}
use Rattle.bike_feed_texts.proofs.Languages.{no_further_names}
use Rattle.bike_queries.specs.After.{next_language}
use Rattle.bike_desk.specs.declared.fault.DeskFault.{DeskFault}
use Rattle.bike_desk.specs.declared.fault.DeskFault.TheVariants.{NoMemory}
use Rattle.bike_desk.specs.Desk.{DeskValue, desk_state, IsAt}
use Rattle.bike_desk.specs.Queries.{Queries}
use Rattle.bike_queries.specs.Pages.{AreNamedStations, IsNamedStation, IsTold}
use Rattle.bike_queries.specs.declared.stations.NamedStation.{NamedStation}
use Rattle.bike_feeds.proofs.DeskLemmas.{earlier, going_only}
use Rattle.bike_feeds.proofs.Lists.{listed}
use Rattle.bike_feeds.proofs.WalkLemmas.{Walks, Passes, goes_asked, walk_writes}

-- ---- the two questions

-- where no language is first, there is none
no_first : (es : List (List ℕ × List ℕ)) → is_some (option_map (λ e. e.0) (slice_get es 0)) ≡ false → ◌≡◌ {A = List (List ℕ)} (map (λ e. e.0) es) []
no_first [] none = refl
no_first (e ∷ es) none = absurd (cc none)

pub told_first : (s : Operator) (first : Option (List ℕ)) → first ≡ next_language None s → IsTold (is_some first) s
told_first s first is none = no_first (entries (names_by_language s)) (sym (ap is_some is) ∙ none)

-- the fault of one question as that of another
told_of : {A B : Type 0} (fault other : DeskFault) {y : DeskFault} → other ≡ fault → ◌≡◌ {A = Result B DeskFault} (Err other) (Err y) → ◌≡◌ {A = Result A DeskFault} (Err fault) (Err y)
told_of fault other told is = cc

told_as : {A B : Type 0} (fault other : DeskFault) {y : DeskFault} → other ≡ fault → ◌≡◌ {A = Result A DeskFault} (Err fault) (Err y) → ◌≡◌ {A = Result B DeskFault} (Err other) (Err y)
told_as fault other told is = cc

module _ {S A : Type 0} (g : Ghosts S) {says : Operator → A → Type 0} {d e : DeskValue S} where
  -- an answer that follows from the one that came
  pub answers_so : {B : Type 0} {so : Operator → B → Type 0} (x : A) (y : B) → ((s : Operator) → says s x → so s y) → Queries g d e (Ok x) says → Queries g d e (Ok y) so
  answers_so x y means query = record {
    clean = query.clean;
    ok = λ clean s at. (means s (query.ok clean s at).0, (query.ok clean s at).1);
    rests = query.rests;
    goes_on = query.goes_on;
    left = query.left;
    no_memory = λ is. absurd cc;
    stops = λ is. absurd cc;
    stopped = λ is. absurd cc;
    stays = λ is_stopped. absurd (let it = (query.stays is_stopped).0 in cc it);
  }

if_ok : {A E : Type 0} {P Q : A → Type 0} (r : Result A E) → ((x : A) → P x → Q x) → IfOk r P → IfOk r Q
if_ok (Ok x) means h = means x h
if_ok (Err e) means h = tt

-- whatever was answered
pub tells_so : {S A : Type 0} (g : Ghosts S) {says so : Operator → A → Type 0} {d e : DeskValue S} (r : Result A DeskFault) → ((s : Operator) (x : A) → says s x → so s x)
    → Queries g d e r says → Queries g d e r so
tells_so g r means query = record {
  clean = query.clean;
  ok = λ clean s at. if_ok r (λ x h. (means s x h.0, h.1)) (query.ok clean s at);
  rests = query.rests;
  goes_on = query.goes_on;
  left = query.left;
  no_memory = query.no_memory;
  stops = query.stops;
  stopped = query.stopped;
  stays = query.stays;
}

module _ {S A C : Type 0} (g : Ghosts S) {says : Operator → A → Type 0} {so : Operator → C → Type 0} {d e : DeskValue S} where
  -- a question that failed
  pub fails_so : (fault : DeskFault) (result : Result C DeskFault) → IsErrAnd result (λ told. told ≡ fault) → Queries g d e {A = A} (Err fault) says → Queries g d e result so
  fails_so fault (Ok x) told query = absurd told
  fails_so fault (Err other) told query = record {
    clean = query.clean;
    ok = λ clean s at. tt;
    rests = query.rests;
    goes_on = tt;
    left = query.left;
    no_memory = λ is. query.no_memory (told_of fault other told is);
    stops = λ is. query.stops (told_of fault other told is);
    stopped = λ is. query.stopped (told_of fault other told is);
    stays = λ is_stopped. let it = query.stays is_stopped in (told_as fault other told it.0, it.1);
  }

-- it is no want of memory, where the first one isn't
pub no_want_so : {A C : Type 0} (fault : DeskFault) (result : Result C DeskFault) → IsErrAnd result (λ told. told ≡ fault)
    → ◌≢◌ {A = Result A DeskFault} (Err fault) (Err NoMemory) → ◌≢◌ {A = Result C DeskFault} result (Err NoMemory)
no_want_so fault (Ok x) told none = absurd told
no_want_so fault (Err other) told none = λ is. none (told_of fault other told is)

module _ {S A B C : Type 0} (g : Ghosts S) {says : Operator → A → Type 0} {and : Operator → B → Type 0} {so : Operator → C → Type 0} {d e f : DeskValue S} where
  -- one that failed behind one that was answered
  pub fails_behind : (x : A) (fault : DeskFault) (result : Result C DeskFault) → IsErrAnd result (λ told. told ≡ fault) → d.is_stopped ≡ false
      → Queries g d e (Ok x) says → Queries g e f {A = B} (Err fault) and → ◌≢◌ {A = Result B DeskFault} (Err fault) (Err NoMemory) → Queries g d f result so
  fails_behind x fault (Ok y) told going first second takes_none = absurd told
  fails_behind x fault (Err other) told going first second takes_none = record {
    clean = omega (arith, first.clean, second.clean);
    ok = λ clean s at. tt;
    rests = λ clean s at on. let before = earlier g e f second.clean clean in second.rests clean s (first.ok before s at).1 on ∙ first.rests before s at first.goes_on;
    goes_on = tt;
    left = λ clean s at db h.
        let before = earlier g e f second.clean clean in
        first.left before s at db (second.left clean s (first.ok before s at).1 db h);
    no_memory = λ is. absurd (takes_none (told_of fault other told is));
    stops = λ is. second.stops (told_of fault other told is);
    stopped = λ is. absurd (going_only _ first.goes_on (second.stopped (told_of fault other told is)));
    stays = λ is_stopped. absurd (going_only _ going is_stopped);
  }

  -- two that were answered
  pub both_answered : (x : A) (y : B) (z : C) → d.is_stopped ≡ false → ((s : Operator) → says s x → and s y → so s z)
      → Queries g d e (Ok x) says → Queries g e f (Ok y) and → Queries g d f (Ok z) so
  both_answered x y z going means first second = record {
    clean = omega (arith, first.clean, second.clean);
    ok = λ clean s at.
        let one = first.ok (earlier g e f second.clean clean) s at in
        let two = second.ok clean s one.1 in
        (means s one.0 two.0, two.1);
    rests = λ clean s at on. let before = earlier g e f second.clean clean in second.rests clean s (first.ok before s at).1 on ∙ first.rests before s at first.goes_on;
    goes_on = second.goes_on;
    left = λ clean s at db h.
        let before = earlier g e f second.clean clean in
        first.left before s at db (second.left clean s (first.ok before s at).1 db h);
    no_memory = λ is. absurd cc;
    stops = λ is. absurd cc;
    stopped = λ is. absurd cc;
    stays = λ is_stopped. absurd (going_only _ going is_stopped);
  }

-- nothing is asked
pub unasked : {S A : Type 0} (g : Ghosts S) {says : Operator → A → Type 0} {d : DeskValue S} (x : A) → d.is_stopped ≡ false → ((s : Operator) → says s x)
    → Queries g d d (Ok x) says
unasked g x going means = record {
  clean = omega arith;
  ok = λ clean s at. (means s, at);
  rests = λ clean s at on. refl;
  goes_on = going;
  left = λ clean s at db h. h;
  no_memory = λ is. absurd cc;
  stops = λ is. absurd cc;
  stopped = λ is. absurd cc;
  stays = λ is_stopped. absurd (going_only _ going is_stopped);
}

-- no names, where it is told that there are none
pub names_unasked : (s : Operator) (kind : NameKind) (id : List ℕ) (translated : Bool) (items : List MoreNameRow) → items ≡ [] → translated ≡ false
    → IsTold translated s → items ≡ further_names s kind id
names_unasked s kind id translated items empty none told = empty ∙ sym (no_further_names s kind id (told none))

-- stations without names are those with their names, where it is told that there are none
named_by : (s : Operator) (translated : Bool) → IsTold translated s → (e : List ℕ × Station) (x : NamedStation) → IsNamedStation translated s e x → IsNamedStation true s e x
named_by s true told e x it = it
named_by s false told e x it = (it.0, it.1 ∙ sym (no_further_names s named.Station e.0 (told refl)))

pub all_named : (s : Operator) (translated : Bool) → IsTold translated s → (es : List (List ℕ × Station)) (xs : List NamedStation) → AreNamedStations translated s es xs → AreNamedStations true s es xs
all_named s translated told [] [] all = tt
all_named s translated told [] (x ∷ xs) all = absurd all
all_named s translated told (e ∷ es) [] all = absurd all
all_named s translated told (e ∷ es) (x ∷ xs) all = (named_by s translated told e x all.0, all_named s translated told es xs all.1)

-- ---- what was told, between the questions

module _ {S : Type 0} (g : Ghosts S) where
  pub record Told (translated : Bool) (old new : DeskValue S) : Type 0 where
    pub are : HasCleanDisk (desk_state g new) → (s : Operator) → IsAt g old s → IsTold translated s

  -- behind the first question, and one more
  pub told_begins : {A : Type 0} {says : Operator → A → Type 0} {d e f : DeskValue S} {r : Result A DeskFault} (translated : Bool)
      → Queries g d e (Ok translated) (λ s t. IsTold t s) → Queries g e f r says → Told translated d f
  told_begins {e = e} {f = f} translated query then = record { are = λ clean s at. (query.ok (earlier g e f then.clean clean) s at).0 }

  pub told_later : {translated : Bool} {d e f : DeskValue S} → Told translated d e → doubt (desk_state g e).is_clean ≤ doubt (desk_state g f).is_clean → Told translated d f
  told_later {e = e} {f = f} told le = record { are = λ clean s at. told.are (earlier g e f le clean) s at }

  -- at one more
  pub told_asked : {A : Type 0} {says : Operator → A → Type 0} {translated : Bool} {d e f : DeskValue S} {r : Result A DeskFault} → Told translated d e
      → Queries g e f r says → HasCleanDisk (desk_state g f) → (s : Operator) → IsAt g d s → IsTold translated s
  told_asked {e = e} {f = f} told query clean s at = told.are (earlier g e f query.clean clean) s at

  -- its names were answered, and it is written with them
  module _ {X N : Type 0} (tree : SystemRow → X → N → Tree) (element : Operator → SystemRow → X → Tree) (key : X → List ℕ) (held : Operator → FinMap text_cmp X) (x : SystemRow) where
    pub named_writes : (translated : Bool) (it : X) (names : N) {d e f : DeskValue S} {p q r : Place} {a b c : OutputState} → Told translated d e
        → Walks g (listed key element held x) (Some it) d e p q a b
        → Queries g e f (Ok names) (λ s names. IsTold translated s → (y : SystemRow) → tree y it names ≡ element s y it)
        → IsIn r (after_value q.top) q.round → WroteValue q r b c (tree x it names) → Passes g (listed key element held x) it d f p r a c
    named_writes translated it names {e = e} {f = f} {q = q} {r = r} {b = b} {c = c} told walks query place wrote =
        walk_writes g (listed key element held x) it (goes_asked g (listed key element held x) names walks query) (λ clean s at.
        let before = earlier g e f query.clean clean in
        let same = (query.ok clean s (walks.stays.same before s at)).0 (told.are before s at) x in
        subst (λ (t : Tree). WroteValue q r b c t) same wrote) place
