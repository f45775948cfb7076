-- All rows of a walk, each read where the engine has it.
use Rattle.std.proofs.Common.{◌≡◌, false, List, [], ◌∷◌, ◌++◌, Option, Some, None, Result, Ok, Err, IsErr, IfOk, OnOk, OnErr, refl, sym, ap, ap₂, subst, ◌∙◌, append_assoc, append-nil}
use Rattle.std.specs.Borrow.{MutBor}
use Rattle.std.specs.List.{AllZip}
use Rattle.std.proofs.lemmas.Slice.Zip.{all_zipped_more}
use Rattle.sqlite_value.specs.Order.{Row}
use Rattle.sqlite_trees.specs.declared.store.Store.{Ghosts}
use Rattle.sqlite.specs.declared.rows.stream.Rows.{Rows}
use Rattle.sqlite.specs.Effect.{Database}
use Rattle.sqlite.specs.Held.{Held, state}
use Rattle.sqlite.specs.State.{HasCleanDisk, IsUnchanged, Survives}
use Rattle.sqlite.proofs.StateLemmas.{survives_weaker}
use Rattle.bike_sql.specs.Calls.{ReadsWhere, WalksWhere}
use Rattle.bike_sql.specs.Outcome.{IsLeft}
use Rattle.bike_sql.specs.Walk.{IsWalking, GoesOn}
use Rattle.bike_sql.proofs.ChainLaws.{reads_as, reads_both, reads_failed, reads_refused}
use Rattle.bike_book.specs.Tables.{Tables}
use Rattle.bike_book.specs.Stored.{tables_for}
use Rattle.bike_schema.specs.Answers.{Answers}
use Rattle.bike_schema.specs.Tables.{IsOurs, tables_of}
use Rattle.bike_schema.proofs.AnswerLemmas.{reads_weaker}
use Rattle.bike_schema.specs.declared.fault.StatementFault.{StatementFault}
use Rattle.bike_office_reads.specs.Collect.{ReadsNext, WalksOver}

module _ {S X : Type 0} (g : Ghosts S) (Reads : Row → X → Type 0) where
  -- ---- one step

  -- a row was read where the walk stands
  pub one_read : (new : Held S) (row : Row) (x : X) → Reads row x → (left : List Row) → GoesOn g new left (Some row) → ReadsNext g Reads new left (Some x)
  one_read new row x read left on = (row, on.0, on.1, read, on.2)

  pub next_read : (old new : Held S) (result : Result (Option X) StatementFault)
      → (HasCleanDisk (state g new) → IfOk result (λ x. (left : List Row) → IsWalking g old left → ReadsNext g Reads new left x))
      → (HasCleanDisk (state g new) → OnOk result (IsUnchanged (state g old) (state g new))) → (HasCleanDisk (state g new) → OnErr result (IsLeft (state g old) (state g new)))
      → (old.in_transaction ≡ false → new.in_transaction ≡ false)
      → Survives (state g old) (state g new) (λ _. ⊥) → ReadsWhere g IsOurs old new result (λ db x. (left : List Row) → IsWalking g old left → ReadsNext g Reads new left x)
  next_read old new result next same failed mode survives = record {
    found = λ clean ours. next clean;
    same = λ clean ours. same clean;
    failed = λ clean ours. failed clean;
    quiet = record { mode = mode; survives = survives_weaker (state g old) (state g new) _ _ (λ clean db none. absurd none) survives };
  }

  -- ---- one after another

  -- of all rows these were read, and the others are to come
  pub record HaveRead (all : List Row) (now : Held S) (xs : List X) : Type 0 where
    pub taken : List Row
    pub rest : List Row
    pub split : all ≡ taken ++ rest
    pub read : AllZip Reads taken xs
    pub walking : IsWalking g now rest

  -- so far, wherever the walk began
  abbrev pub ReadSoFar : Held S → Held S → List X → Type 0
  ReadSoFar begun now xs =
      (first : Held S) (all : Database → List Row) → WalksOver g first begun all → ReadsWhere g IsOurs first now {X = Unit {0}} {E = StatementFault} (Ok tt) (λ db _. HaveRead (all db) now xs)

  pub none_read : (now : Held S) → ReadSoFar now now []
  none_read now first all begun = reads_as begun (λ db it. record { taken = []; rest = all db; split = refl; read = tt; walking = it })

  one_more : (all : List Row) (old new : Held S) (xs : List X) (x : X) → HaveRead all old xs → ((left : List Row) → IsWalking g old left → ReadsNext g Reads new left (Some x))
      → HaveRead all new (xs ++ x ∷ [])
  one_more all old new xs x was next =
      let on = next was.rest was.walking in
      let split : all ≡ was.taken ++ on.0 ∷ on.1 = was.split ∙ ap (λ (rest : List Row). was.taken ++ rest) on.2 in
      record {
        taken = was.taken ++ on.0 ∷ [];
        rest = on.1;
        split = split ∙ sym (append_assoc was.taken (on.0 ∷ []) on.1);
        read = all_zipped_more Reads was.taken xs on.0 x was.read on.3;
        walking = on.4;
      }

  all_read : (all : List Row) (old new : Held S) (xs : List X) → HaveRead all old xs → ((left : List Row) → IsWalking g old left → ReadsNext g Reads new left None) → AllZip Reads all xs
  all_read all old new xs was next =
      let whole : all ≡ was.taken = was.split ∙ ap (λ (rest : List Row). was.taken ++ rest) (next was.rest was.walking) ∙ append-nil was.taken in
      subst (λ (rows : List Row). AllZip Reads rows xs) (sym whole) was.read

  module _ (begun old new : Held S) (xs : List X) (so_far : ReadSoFar begun old xs) where
    -- what a step tells
    abbrev pub Steps : Result (Option X) StatementFault → Type 0
    Steps result = ReadsWhere g IsOurs old new result (λ db y. (left : List Row) → IsWalking g old left → ReadsNext g Reads new left y)

    pub goes_on : (x : Option X) → Steps (Ok x) → (value : X) → x ≡ Some value → ReadSoFar begun new (xs ++ value ∷ [])
    goes_on x step value is first all it =
        reads_as (reads_both (so_far first all it) step) (λ db both. one_more (all db) old new xs value both.0 (λ left walks. subst (ReadsNext g Reads new left) is (both.1 left walks)))

    module _ {Y : Type 0} (items : Y → List X) (first : Held S) (all : Database → List Row) (it : WalksOver g first begun all) where
      abbrev pub Collects : Result Y StatementFault → Type 0
      Collects result = ReadsWhere g IsOurs first new result (λ db y. AllZip Reads (all db) (items y))

      pub ends : (x : Option X) → Steps (Ok x) → x ≡ None → (y : Y) → items y ≡ xs → Collects (Ok y)
      ends x step is y same =
          reads_as (reads_both (so_far first all it) step) (λ db both. subst (AllZip Reads (all db)) (sym same)
          (all_read (all db) old new xs both.0 (λ left walks. subst (ReadsNext g Reads new left) is (both.1 left walks))))

      -- a row couldn't be read, or found no room
      pub fails : (step : Result (Option X) StatementFault) → Steps step → (result : Result Y StatementFault) → IsErr result → Collects result
      fails (Ok x) step result is = reads_refused {X = Option X} {E = StatementFault} (reads_both (so_far first all it) step) is
      fails (Err f) step result is = reads_failed {X = Option X} {E = StatementFault} (reads_both (so_far first all it) step) is

      -- the walk ended at no row
      pub gives_up : (result : Result Y StatementFault) → IsErr result → (old ≡ new) → Collects result
      gives_up result is same =
          reads_refused {X = Unit {0}} {E = StatementFault} (subst (λ now. ReadsWhere g IsOurs first now {X = Unit {0}} {E = StatementFault} (Ok tt) (λ db _. Unit {0})) same
          (reads_as (so_far first all it) (λ db _. tt))) is

-- ---- the whole walk

-- What began as a walk over these rows is read to its end.
pub begins : {S E : Type 0} {g : Ghosts S} {conn : MutBor (Held S)} {rows : Rows S g} {all : Database → List Row} → WalksWhere g IsOurs conn {E = E} (Ok rows) all
    → WalksOver g conn.now rows.conn.now all
begins walks = record { found = walks.begun; same = walks.same; failed = λ clean ours. tt; quiet = walks.quiet }

-- Where each row was read as it stands, these are the rows of the operator's tables.
pub all_same : (rows xs : List Row) → AllZip (λ row x. row ≡ x) rows xs → xs ≡ rows
all_same [] [] zipped = refl
all_same [] (x ∷ xs) zipped = absurd zipped
all_same (r ∷ rows) [] zipped = absurd zipped
all_same (r ∷ rows) (x ∷ xs) zipped = ap₂ (λ (y : Row) (ys : List Row). y ∷ ys) (sym zipped.0) (all_same rows xs zipped.1)

pub rows_answered : {S Y E : Type 0} {g : Ghosts S} {old new : Held S} {result : Result Y E} (items : Y → List Row) (rows : Tables → List Row)
    → ReadsWhere g IsOurs old new result (λ db y. AllZip (λ row x. row ≡ x) (rows (tables_of db)) (items y)) → Answers g old new result (λ s m y. items y ≡ rows (tables_for s m))
rows_answered items rows read = reads_weaker read (λ db y zipped s h. all_same (rows (tables_of db)) (items y) zipped ∙ ap rows h.tables)
