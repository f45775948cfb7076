-- A table whose rows are read from the desk one after another, and written as they are read.
use Rattle.std.proofs.Common.{◌≡◌, ℕ, suc, ◌+◌, ◌<◌, ◌≤◌, List, [], ◌∷◌, ◌++◌, length, take, find, Bool, true, IsTrue, Option, Some, None, Result, Ok, Err, refl, sym, ap, ◌∙◌, subst, arith, append_assoc}
use Rattle.std.proofs.Common.{append-nil, length-append}
use Rattle.std.specs.Result.{IsErrAnd}
use Rattle.std.specs.Io.KnownBytes.{Keeps, Appends}
use Rattle.std.proofs.KnownBytes.{Appends-nil, Appends-trans, Appends-kept, Keeps-refl}
use Rattle.std.proofs.Math.Seq.{take-append_seam, take-append-add}
use Rattle.std.proofs.lemmas.List.{take-append-le}
use Rattle.sqlite_trees.specs.declared.store.Store.{Ghosts}
use Rattle.sqlite.specs.State.{HasCleanDisk}
use Rattle.bike_stream.specs.Writing.{AppendsFront}
use Rattle.bike_operator.specs.Operator.{Operator}
use Rattle.bike_operator.specs.Sound.{IsSound}
use Rattle.bike_day_texts.specs.declared.fault.LineFault.{LineFault}
use Rattle.bike_day_texts.specs.declared.fault.LineFault.TheVariants as line
use Rattle.bike_day_texts.specs.Writing.{WritesLine}
use Rattle.bike_desk.specs.declared.fault.DeskFault.{DeskFault}
use Rattle.bike_desk.specs.declared.fault.DeskFault.TheVariants.{NoMemory, StoreFailed, Stopped}
use Rattle.bike_desk.specs.Desk.{DeskValue, desk_state, IsAt}
use Rattle.bike_desk.specs.Queries.{Queries}
use Rattle.bike_desk.proofs.KeepLemmas.{kept_stores}
use Rattle.bike_batch.specs.declared.day_fault.DayTableFault.{DayTableFault}
use Rattle.bike_batch.specs.declared.day_fault.DayTableFault.TheVariants.{Write, Desk}
use Rattle.bike_batch.specs.Ends.{AppendsSome, AppendsUntil}
use Rattle.bike_batch.specs.DayLines.{line_fault}
use Rattle.bike_batch.specs.Walking.{StaysAt, WritesText, WritesTable}
use Rattle.bike_batch.proofs.Lists.{IsNumbered, is_next, next_behind, next_first, find_first, none_of, lines, lines_then, lines_skip, lines_first, lines_more}
use Rattle.bike_batch.proofs.DeskLemmas.{earlier, going_only, stays_asked, stays_then, leaves_first, leaves_failed, leaves_ok, leaves_write, leaves_short}

-- ---- fronts

pub front_first : (a b : Option (List ℕ)) (x y : List ℕ) → AppendsFront a b x → AppendsFront a b (x ++ y)
front_first a b x y h =
    let short : h.0 ≤ length x = omega (arith, h.1) in
    (h.0, omega (arith, length-append x y, h.1), rw (take-append-le h.0 x y short) h.2)

pub front_then : (a b c : Option (List ℕ)) (x y : List ℕ) → Appends a b x → AppendsFront b c y → AppendsFront a c (x ++ y)
front_then a b c x y h k = (
  length x + k.0,
  omega (arith, length-append x y, k.1),
  rw (take-append-add x y k.0)
      (Appends-trans a b c x (take k.0 y) h k.2),
)

pub some_first : (a b : Option (List ℕ)) (x y : List ℕ) → Appends a b x → AppendsSome a b (x ++ y)
some_first a b x y h = (length x, rw (take-append_seam x y) h)

-- where something is left, it isn't all
pub part_first : (a b : Option (List ℕ)) (x y : List ℕ) → 0 < length y → Appends a b x → AppendsFront a b (x ++ y)
part_first a b x y more h = (length x, omega (arith, length-append x y, more), rw (take-append_seam x y) h)

-- a question to the desk takes no memory
pub until_some : (fault : DeskFault) (a b : Option (List ℕ)) (text : List ℕ) → (fault ≡ NoMemory → ⊥) → AppendsSome a b text → AppendsUntil fault a b text
until_some NoMemory a b text other some = absurd (other refl)
until_some StoreFailed a b text other some = some
until_some Stopped a b text other some = some

-- ---- what is walked

-- a table's rows: what the operator holds, in order of its numbers; which of it has a row, and its line; what the desk answers of it
pub record Source (X Y : Type 0) : Type 0 where
  pub header : List ℕ
  pub number : X → ℕ
  pub passes : X → Bool
  pub line : X → List ℕ
  pub held : Operator → List X
  pub shows : Operator → X → Y
  pub answers : Operator → Option X → Option Y
  pub answers_none : (s : Operator) → answers s None ≡ None
  pub answers_some : (s : Operator) (x : X) → answers s (Some x) ≡ Some (shows s x)
  pub archived : Operator → ℕ
  pub numbered : (s : Operator) → IsSound s → IsNumbered number (suc (archived s)) (held s)
  -- no line is empty
  pub headed : 0 < length header
  pub lined : (x : X) → passes x ≡ true → 0 < length (line x)

module _ {X Y : Type 0} (t : Source X Y) where
  -- the lines of those that have a row
  abbrev pub rows_text : List X → List ℕ
  rows_text = lines t.passes t.line

  abbrev pub text : Operator → List ℕ
  text s = t.header ++ rows_text (t.held s)

  -- the answer to the question for the first of a later number
  abbrev pub IsAnswer : ℕ → Operator → Option Y → Type 0
  IsAnswer asked s next = next ≡ t.answers s (find (is_next t.number t.passes asked) (t.held s))

  -- the line of what was answered is asked to be written
  abbrev pub AsksLine : Y → Option (List ℕ) → Option (List ℕ) → Result (Unit {0}) LineFault → Type 0
  AsksLine y b c result = (s : Operator) (x : X) → t.passes x ≡ true → y ≡ t.shows s x → WritesLine b c (t.line x) result

module _ {S X Y : Type 0} (g : Ghosts S) (t : Source X Y) where
  sound_of : (d : DeskValue S) (s : Operator) → IsAt g d s → IsSound s
  sound_of d s at = (kept_stores (desk_state g d) s at.keeps).sound

  -- The rows of a front are written; the first of the others was answered, or none where there is none.
  pub record IsAhead (s : Operator) (next : Option Y) (count : ℕ) (before after : Option (List ℕ)) : Type 0 where
    pub front : List X
    pub rest : List X
    pub split : t.held s ≡ front ++ rest
    pub first : next ≡ t.answers s (find t.passes rest)
    pub many : count ≤ length front
    pub wrote : Appends before after (t.header ++ rows_text t front)

  -- The same, where the first of the others has a row.
  pub record IsBefore (s : Operator) (y : Y) (count : ℕ) (before after : Option (List ℕ)) : Type 0 where
    pub front : List X
    pub at : X
    pub rest : List X
    pub split : t.held s ≡ front ++ at ∷ rest
    pub passes : t.passes at ≡ true
    pub same : y ≡ t.shows s at
    pub many : count ≤ length front
    pub wrote : Appends before after (t.header ++ rows_text t front)

  -- The rows of a front are written, of which this is the last.
  pub record IsBehind (s : Operator) (y : Y) (count : ℕ) (before after : Option (List ℕ)) : Type 0 where
    pub front : List X
    pub last : X
    pub rest : List X
    pub split : t.held s ≡ front ++ last ∷ rest
    pub same : y ≡ t.shows s last
    pub many : count ≤ length front
    pub wrote : Appends before after (t.header ++ rows_text t (front ++ last ∷ []))

  -- after an answer
  pub record Walks (next : Option Y) (count : ℕ) (old new : DeskValue S) (before after : Option (List ℕ)) : Type 0 where
    pub stays : StaysAt g old new
    pub ahead : HasCleanDisk (desk_state g new) → (s : Operator) → IsAt g old s → IsAhead s next count before after

  -- after a row was written
  pub record Passes (y : Y) (count : ℕ) (old new : DeskValue S) (before after : Option (List ℕ)) : Type 0 where
    pub stays : StaysAt g old new
    pub behind : HasCleanDisk (desk_state g new) → (s : Operator) → IsAt g old s → IsBehind s y count before after

  -- the header behind the first answer
  pub walk_begins : {d e : DeskValue S} {a b : Option (List ℕ)} (next : Option Y) → Queries g d e (Ok next) (IsAnswer t 0)
      → Appends a b t.header
      → Walks next 0 d e a b
  walk_begins {a = a} {b = b} next q head = record {
    stays = stays_asked g next q;
    ahead = λ clean s at. record {
      front = [];
      rest = t.held s;
      split = refl;
      first = (q.ok clean s at).0 ∙ ap (t.answers s) (next_first t.number t.passes (t.archived s) (t.held s) (t.numbered s (sound_of _ s at)));
      many = omega arith;
      wrote = subst (Appends a b) (sym (append-nil t.header)) head;
    };
  }

  -- the row that was answered
  module _ (s : Operator) (y : Y) (count : ℕ) (a b : Option (List ℕ)) where
    before_it : IsAhead s (Some y) count a b → IsBefore s y count a b
    before_it it = go (find t.passes it.rest) refl where
      go : (o : Option X) → find t.passes it.rest ≡ o → IsBefore s y count a b
      go None is = let none : Some y ≡ None = it.first ∙ (ap (t.answers s) is ∙ t.answers_none s) in absurd cc
      go (Some x) is =
          let found = find_first t.passes x it.rest is in
          let shown_is : Some y ≡ Some (t.shows s x) = it.first ∙ (ap (t.answers s) is ∙ t.answers_some s x) in
          record {
            front = it.front ++ found.skipped;
            at = x;
            rest = found.rest;
            split = it.split ∙ (ap (λ (xs : List X). it.front ++ xs) found.split
                ∙ sym (append_assoc it.front found.skipped (x ∷ found.rest)));
            passes = found.passes;
            same = cc;
            many = omega (arith, it.many, length-append it.front found.skipped);
            wrote = subst (λ (bytes : List ℕ). Appends a b (t.header ++ bytes))
                (sym (lines_skip t.passes t.line it.front found.skipped found.none)) it.wrote;
          }

    -- the whole text, as far as it is written, the row's line, and the rest
    text_at : (it : IsBefore s y count a b) → text t s ≡ (t.header ++ rows_text t it.front) ++ (t.line it.at ++ rows_text t it.rest)
    text_at it =
        ap (λ (xs : List X). t.header ++ rows_text t xs) it.split
        ∙ (ap (λ (bytes : List ℕ). t.header ++ bytes) (lines_then t.passes t.line it.front (it.at ∷ it.rest)
        ∙ ap (λ (bytes : List ℕ). rows_text t it.front ++ bytes) (lines_first t.passes t.line it.at it.rest it.passes))
        ∙ sym (append_assoc t.header (rows_text t it.front) (t.line it.at ++ rows_text t it.rest)))

    behind_it : (c : Option (List ℕ)) (it : IsBefore s y count a b) → Appends b c (t.line it.at) → IsBehind s y count a c
    behind_it c it more = record {
      front = it.front;
      last = it.at;
      rest = it.rest;
      split = it.split;
      same = it.same;
      many = it.many;
      wrote = subst (Appends a c) (append_assoc t.header (rows_text t it.front) (t.line it.at)
          ∙ ap (λ (bytes : List ℕ). t.header ++ bytes) (sym (lines_more t.passes t.line it.front it.at it.passes)))
          (Appends-trans a b c (t.header ++ rows_text t it.front) (t.line it.at) it.wrote more);
    }

    cut_at : (c : Option (List ℕ)) (it : IsBefore s y count a b) → AppendsFront b c (t.line it.at) → AppendsFront a c (text t s)
    cut_at c it more =
        subst (AppendsFront a c) (sym (text_at it))
        (front_then a b c (t.header ++ rows_text t it.front) (t.line it.at ++ rows_text t it.rest) it.wrote
        (front_first b c (t.line it.at) (rows_text t it.rest) more))

    none_at : (c : Option (List ℕ)) (it : IsBefore s y count a b) → Keeps b c → AppendsFront a c (text t s)
    none_at c it kept =
        subst (AppendsFront a c) (sym (text_at it))
        (part_first a c (t.header ++ rows_text t it.front) (t.line it.at ++ rows_text t it.rest)
        (omega (arith, length-append (t.line it.at) (rows_text t it.rest), t.lined it.at it.passes))
        (Appends-kept a b c (t.header ++ rows_text t it.front) it.wrote kept))

  pub walk_writes : {count : ℕ} {d e : DeskValue S} {a b c : Option (List ℕ)} (y : Y) → Walks (Some y) count d e a b
      → AsksLine t y b c (Ok tt)
      → Passes y count d e a c
  walk_writes {count = count} {a = a} {b = b} {c = c} y w wrote = record {
    stays = w.stays;
    behind = λ clean s at.
        let it = before_it s y count a b (w.ahead clean s at) in
        behind_it s y count a b c it (wrote s it.at it.passes it.same);
  }

  -- the next answer
  pub walk_goes : {count : ℕ} {d e f : DeskValue S} {a b : Option (List ℕ)} {y : Y} (asked : ℕ) (next : Option Y)
      → Passes y count d e a b → Queries g e f (Ok next) (IsAnswer t asked) → ((s : Operator) (x : X) → y ≡ t.shows s x
      → asked ≡ t.number x)
      → Walks next (count + 1) d f a b
  walk_goes {e = e} {f = f} {y = y} asked next w q for_it = record {
    stays = stays_then g w.stays (stays_asked g next q);
    ahead = λ clean s at.
        let clean_before = earlier g e f q.clean clean in
        let it = w.behind clean_before s at in
        let sorted : IsNumbered t.number (suc (t.archived s)) (it.front ++ it.last ∷ it.rest) = subst (IsNumbered t.number (suc (t.archived s))) it.split
        (t.numbered s (sound_of _ s at)) in
        let after = ap (λ (n : ℕ). find (is_next t.number t.passes n) (t.held s)) (for_it s it.last it.same)
        ∙ (ap (find (is_next t.number t.passes (t.number it.last))) it.split
        ∙ next_behind t.number t.passes (suc (t.archived s)) it.front it.last it.rest sorted) in
        record {
          front = it.front ++ it.last ∷ [];
          rest = it.rest;
          split = it.split ∙ sym (append_assoc it.front (it.last ∷ []) it.rest);
          first = (q.ok clean s (w.stays.same clean_before s at)).0 ∙ ap (t.answers s) after;
          many = omega (arith, it.many, length-append it.front (it.last ∷ []));
          wrote = it.wrote;
        };
  }

  -- how many rows are written isn't told
  pub walk_uncounted : {next : Option Y} {count : ℕ} {d e : DeskValue S} {a b : Option (List ℕ)} → Walks next count d e a b → Walks next 0 d e a b
  walk_uncounted w = record {
    stays = w.stays;
    ahead = λ clean s at.
        let it = w.ahead clean s at in
        record { front = it.front; rest = it.rest; split = it.split; first = it.first; many = omega arith; wrote = it.wrote };
  }

  -- ---- ends

  -- a desk that answered wasn't stopped
  not_stopped : {d e : DeskValue S} {P : Type 0} → StaysAt g d e → IsTrue d.is_stopped → P
  not_stopped p stopped = absurd (going_only _ p.went_on stopped)

  -- no row is left
  pub walk_ends : {A : Type 0} {count : ℕ} {d e : DeskValue S} {a b : Option (List ℕ)} (u : A) → Walks None count d e a b
      → WritesTable g d e a b (Ok u) (text t)
  walk_ends {a = a} {b = b} u w = record {
    desk = leaves_ok g u w.stays;
    wrote = λ clean s at.
        let it = w.ahead clean s at in
        let whole : text t s ≡ t.header ++ rows_text t it.front =
        ap (λ (bytes : List ℕ). t.header ++ bytes) (ap (rows_text t) it.split
        ∙ lines_skip t.passes t.line it.front it.rest (none_of t.passes it.rest (nothing_found s it.rest it.first))) in
        subst (Appends a b) (sym whole) it.wrote;
    nothing = not_stopped w.stays;
    day = tt;
  } where
    nothing_found : (s : Operator) (rest : List X) → None ≡ t.answers s (find t.passes rest) → find t.passes rest ≡ None
    nothing_found s rest is = go (find t.passes rest) is where
      go : (o : Option X) → None ≡ t.answers s o → o ≡ None
      go None is = refl
      go (Some x) is = let one : None ≡ Some (t.shows s x) = is ∙ t.answers_some s x in absurd cc

  -- what never comes: there are fewer rows than turns
  pub walk_runs_out : {A : Type 0} {count : ℕ} {next : Option Y} {d e : DeskValue S} {a b : Option (List ℕ)}
      → ((s : Operator) → IsSound s → length (t.held s) ≤ 100000000)
      → Walks next count d e a b → 100000000 < count
      → WritesTable g d e a b {A = A} (Err Write) (text t)
  walk_runs_out few w many = record {
    desk = leaves_write g w.stays;
    wrote = λ clean s at.
        let it = w.ahead clean s at in
        absurd (omega (arith, many, it.many, length-append it.front it.rest, ap length it.split, few s (sound_of _ s at)));
    nothing = not_stopped w.stays;
    day = tt;
  }

  -- a fault of the desk at the first question, before anything is written
  pub first_failed : {A : Type 0} {d e : DeskValue S} {a : Option (List ℕ)} (fault : DeskFault) → (fault ≡ NoMemory → ⊥)
      → Queries g d e (Err fault) (IsAnswer t 0)
      → WritesTable g d e a a {A = A} (Err (Desk fault)) (text t)
  first_failed {a = a} fault other q = record {
    desk = leaves_first g fault q;
    wrote = λ clean s at. until_some fault a a (text t s) other (some_first a a [] (text t s) (Appends-nil a));
    nothing = λ stopped. Keeps-refl a;
    day = tt;
  }

  -- or behind a row
  pub next_failed : {A : Type 0} {count : ℕ} {d e f : DeskValue S} {a b : Option (List ℕ)} {y : Y} (asked : ℕ) (fault : DeskFault)
      → (fault ≡ NoMemory → ⊥)
      → Passes y count d e a b → Queries g e f (Err fault) (IsAnswer t asked) → WritesTable g d f a b {A = A} (Err (Desk fault)) (text t)
  next_failed {e = e} {f = f} {a = a} {b = b} asked fault other w q = record {
    desk = leaves_failed g fault w.stays q;
    wrote = λ clean s at.
        let it = w.behind (earlier g e f q.clean clean) s at in
        let split : text t s ≡ (t.header ++ rows_text t (it.front ++ it.last ∷ [])) ++ rows_text t it.rest =
        ap (λ (xs : List X). t.header ++ rows_text t xs) (it.split ∙ sym (append_assoc it.front (it.last ∷ []) it.rest))
        ∙ (ap (λ (bytes : List ℕ). t.header ++ bytes) (lines_then t.passes t.line (it.front ++ it.last ∷ []) it.rest)
        ∙ sym (append_assoc t.header (rows_text t (it.front ++ it.last ∷ [])) (rows_text t it.rest))) in
        until_some fault a b (text t s) other
        (subst (AppendsSome a b) (sym split) (some_first a b (t.header ++ rows_text t (it.front ++ it.last ∷ []))
        (rows_text t it.rest) it.wrote));
    nothing = not_stopped w.stays;
    day = tt;
  }

  -- the header wasn't written whole
  pub header_failed : {A : Type 0} {d e : DeskValue S} {a b : Option (List ℕ)} (next : Option Y) (fault : LineFault)
      → Queries g d e (Ok next) (IsAnswer t 0) → WritesLine {A = Unit {0}} a b t.header (Err fault)
      → WritesTable g d e a b {A = A} (Err (line_fault fault)) (text t)
  header_failed {a = a} {b = b} next line.Write q wrote = record {
    desk = leaves_write g (stays_asked g next q);
    wrote = λ clean s at. front_first a b t.header (rows_text t (t.held s)) wrote;
    nothing = not_stopped (stays_asked g next q);
    day = tt;
  }
  header_failed {a = a} {b = b} next line.NoMemory q kept = record {
    desk = leaves_short g (stays_asked g next q);
    wrote = λ clean s at.
        part_first a b [] (text t s) (omega (arith, length-append t.header (rows_text t (t.held s)), t.headed)) (Appends-kept a a b [] (Appends-nil a) kept);
    nothing = not_stopped (stays_asked g next q);
    day = tt;
  }

  -- nor a row
  pub row_failed : {A : Type 0} {count : ℕ} {d e : DeskValue S} {a b c : Option (List ℕ)} (y : Y) (fault : LineFault)
      → Walks (Some y) count d e a b
      → AsksLine t y b c (Err fault) → WritesTable g d e a c {A = A} (Err (line_fault fault)) (text t)
  row_failed {count = count} {a = a} {b = b} {c = c} y line.Write w wrote = record {
    desk = leaves_write g w.stays;
    wrote = λ clean s at.
        let it = before_it s y count a b (w.ahead clean s at) in
        cut_at s y count a b c it (wrote s it.at it.passes it.same);
    nothing = not_stopped w.stays;
    day = tt;
  }
  row_failed {count = count} {a = a} {b = b} {c = c} y line.NoMemory w kept = record {
    desk = leaves_short g w.stays;
    wrote = λ clean s at.
        let it = before_it s y count a b (w.ahead clean s at) in
        none_at s y count a b c it (kept s it.at it.passes it.same);
    nothing = not_stopped w.stays;
    day = tt;
  }

-- ---- the same end

module _ {S : Type 0} (g : Ghosts S) (text : Operator → List ℕ) where
  -- the fault that a function hands on
  pub table_told : {A : Type 0} {d e : DeskValue S} {a b : Option (List ℕ)} (fault : DayTableFault) (result : Result A DayTableFault)
      → IsErrAnd result (λ told. told ≡ fault) → WritesTable g d e a b {A = A} (Err fault) text → WritesTable g d e a b result text
  table_told fault (Ok x) is w = absurd is
  table_told {A} {d} {e} {a} {b} fault (Err told) is w = subst (λ (f : DayTableFault). WritesTable g d e a b {A = A}
      (Err f) text) (sym is) w

  -- the same text
  pub table_as : {A : Type 0} {d e : DeskValue S} {a b : Option (List ℕ)} {result : Result A DayTableFault} (other : Operator → List ℕ)
      → ((s : Operator) → text s ≡ other s) → WritesTable g d e a b result text → WritesTable g d e a b result other
  table_as {a = a} {b = b} {result = result} other same w = record {
    desk = w.desk;
    wrote = λ clean s at. subst (λ (bytes : List ℕ). WritesText a b bytes result) (same s) (w.wrote clean s at);
    nothing = w.nothing;
    day = w.day;
  }
