-- An import, row by row.
use Rattle.std.proofs.Common.{◌≡◌, ℕ, ◌+◌, List, [], ◌∷◌, ◌++◌, length, Option, Some, Result, Ok, Err, false, refl, sym, ap, ◌∙◌, subst, arith, inl, inr}
use Rattle.std.proofs.lemmas.List.{length-append}
use Rattle.csv.specs.Records.{AllText}
use Rattle.csv.specs.declared.reader.Reader.{Reader}
use Rattle.sqlite_trees.specs.declared.store.Store.{Ghosts}
use Rattle.bike_commands.specs.declared.reply.Reply.{Reply}
use Rattle.bike_operator.specs.Operator.{Operator}
use Rattle.bike_operator.specs.Runs.{Call, step, after, replies}
use Rattle.bike_operator.specs.Sound.{IsCall, AreCalls, is_refused}
use Rattle.bike_laws.proofs.RunLemmas.{after-append, replies-append}
use Rattle.bike_schema.specs.Stands.{AllLeft, TreesStandFor}
use Rattle.bike_desk.specs.Desk.{DeskValue, desk_state, IsAt, KeepsDatabase}
use Rattle.bike_desk.specs.declared.fault.DeskFault.TheVariants.{NoMemory, StoreFailed, Stopped}
use Rattle.bike_batch.specs.declared.import_fault.ImportFault.{ImportFault}
use Rattle.bike_batch.specs.declared.import_fault.ImportFault.TheVariants.{BadHeader, Unreadable, Row, Read, TooManyRows, Desk}
use Rattle.bike_batch.specs.Rows.{Record, header, call_of, ChangesNothing, AreCallsOf, AreAccepted, Accepts}
use Rattle.bike_batch.specs.StationTables.{StandsBehind, Takes, FindsNone, MeetsFault, MeetsHeaderFault}
use Rattle.bike_batch.specs.ImportServing.{ServesRow}
use Rattle.bike_batch.specs.Imports.{AllChangeNothing, Imports, StandsAfterSome}
use Rattle.bike_batch.proofs.Reading.{begins}

-- ---- one row more

calls_push : (moment : ℕ) (name : List ℕ) (number : ℕ) (rows : List Record) (calls : List Call) (row : Record) (c : Call) → AreCallsOf moment name number rows calls
    → call_of moment name (number + length rows) row ≡ Some c → AreCallsOf moment name number (rows ++ row ∷ []) (calls ++ c ∷ [])
calls_push moment name number [] [] row c are is =
    let place : number + length {A = Record} [] ≡ number = omega arith in
    (subst (λ n. call_of moment name n row ≡ Some c) place is, tt)
calls_push moment name number [] (d ∷ calls) row c are is = absurd are
calls_push moment name number (r ∷ rows) [] row c are is = absurd are
calls_push moment name number (r ∷ rows) (d ∷ calls) row c are is =
    let place : number + length (r ∷ rows) ≡ (number + 1) + length rows = omega arith in
    (are.0, calls_push moment name (number + 1) rows calls row c are.1 (subst (λ n. call_of moment name n row ≡ Some c) place is))

good_push : (calls : List Call) (c : Call) → AreCalls calls → IsCall c → AreCalls (calls ++ c ∷ [])
good_push [] c are is = (is, tt)
good_push (d ∷ calls) c are is = (are.0, good_push calls c are.1 is)

accepted_push : (told : List Reply) (reply : Reply) → AreAccepted told → is_refused reply ≡ false → AreAccepted (told ++ reply ∷ [])
accepted_push [] reply are is = (is, tt)
accepted_push (r ∷ told) reply are is = (are.0, accepted_push told reply are.1 is)

accepts_push : (moment : ℕ) (name : List ℕ) (s : Operator) (rows : List Record) (calls : List Call) (row : Record) (c : Call) → Accepts moment name s rows calls
    → call_of moment name (length rows + 1) row ≡ Some c → IsCall c → is_refused (step (after s calls) c.0 c.1).0 ≡ false
    → Accepts moment name s (rows ++ row ∷ []) (calls ++ c ∷ [])
accepts_push moment name s rows calls row c all is good accepted =
    let place : length rows + 1 ≡ 1 + length rows = omega arith in
    record {
      read = calls_push moment name 1 rows calls row c all.read (subst (λ n. call_of moment name n row ≡ Some c) place is);
      good = good_push calls c all.good good;
      accepted = subst AreAccepted (sym (replies-append s calls (c ∷ []))) (accepted_push (replies s calls) (step (after s calls) c.0 c.1).0 all.accepted accepted);
    }

-- ---- the rows so far

-- the desk is at the operator at which it was, and its database is as it was
pub record Rests {S : Type 0} (g : Ghosts S) (old new : DeskValue S) (s : Operator) : Type 0 where
  pub at : IsAt g new s
  pub same : KeepsDatabase g old new

module _ {S R : Type 0} (g : Ghosts S) (remaining : R → Option (List ℕ)) (s : Operator) (moment : ℕ) (name : List ℕ) (input : Option (List ℕ)) where
  -- so many rows are accepted, and the reader stands behind them
  pub record Importing (desk : DeskValue S) (table : Reader R) (count : ℕ) : Type 0 where
    pub rows : List Record
    pub calls : List Call
    pub behind : StandsBehind remaining input (header ∷ rows) table
    pub accepts : Accepts moment name s rows calls
    pub at : IsAt g desk (after s calls)
    pub counted : length rows ≡ count

  module _ (desk : DeskValue S) (old new : Reader R) where
    -- the header was taken
    pub importing_begins : StandsBehind remaining input [] old → Takes remaining old new header → IsAt g desk s → Importing desk new 0
    importing_begins start takes at = record {
      rows = [];
      calls = [];
      behind = takes input [] start;
      accepts = record { read = tt; good = tt; accepted = tt };
      at = at;
      counted = refl;
    }

    -- no header was taken
    pub lacks_header : StandsBehind remaining input [] old → IsAt g desk s → (fault : ImportFault) → MeetsHeaderFault remaining old fault → Imports g desk s moment name input (Err fault)
    lacks_header start at BadHeader meets = record { text = meets input start; at = at }
    lacks_header start at Read meets = record { rows = []; calls = []; text = inl refl; accepts = record { read = tt; good = tt; accepted = tt }; at = at }
    lacks_header start at (Desk NoMemory) meets = record { rows = []; calls = []; text = inl refl; accepts = record { read = tt; good = tt; accepted = tt }; at = at }
    lacks_header start at (Desk StoreFailed) meets = absurd meets
    lacks_header start at (Desk Stopped) meets = absurd meets
    lacks_header start at TooManyRows meets = absurd meets
    lacks_header start at (Unreadable n) meets = absurd meets
    lacks_header start at (Row n refusal) meets = absurd meets

    module _ (count : ℕ) (i : Importing desk old count) where
      -- the table ended
      pub importing_ends : FindsNone remaining old → Imports g desk s moment name input (Ok count)
      importing_ends none = record {
        rows = i.rows;
        calls = i.calls;
        text = none input (header ∷ i.rows) i.behind;
        accepts = i.accepts;
        at = i.at;
        counted = sym i.counted;
      }

      -- the reading broke off between two rows
      importing_breaks : Imports g desk s moment name input (Err Read)
      importing_breaks = record {
        rows = i.rows;
        calls = i.calls;
        text = inr (begins remaining input (header ∷ i.rows) old i.behind);
        accepts = i.accepts;
        at = i.at;
      }

      -- so many rows were served that no more is
      pub importing_most : count ≡ 1000000 → Imports g desk s moment name input (Err TooManyRows)
      importing_most most = record {
        rows = i.rows;
        calls = i.calls;
        text = begins remaining input (header ∷ i.rows) old i.behind;
        accepts = i.accepts;
        at = i.at;
        counted = i.counted ∙ most;
      }

      -- the next record wasn't taken
      pub importing_unread : (fault : ImportFault) → MeetsFault remaining old (count + 1) fault → Imports g desk s moment name input (Err fault)
      importing_unread (Unreadable n) meets =
          let it = meets.1 input (header ∷ i.rows) i.behind in
          record {
            rows = i.rows;
            calls = i.calls;
            fields = it.0;
            text = it.2;
            no_row = λ row. it.1 row.1;
            accepts = i.accepts;
            at = i.at;
            counted = meets.0 ∙ ap (λ n. n + 1) (sym i.counted);
          }
      importing_unread Read meets = importing_breaks
      importing_unread (Desk NoMemory) meets = importing_breaks
      importing_unread (Desk StoreFailed) meets = absurd meets
      importing_unread (Desk Stopped) meets = absurd meets
      importing_unread TooManyRows meets = absurd meets
      importing_unread BadHeader meets = absurd meets
      importing_unread (Row n refusal) meets = absurd meets

      module _ (next : DeskValue S) (fields : Record) (takes : Takes remaining old new fields) where
        numbered : (P : ℕ → Type 0) → P (count + 1) → P (length i.rows + 1)
        numbered P p = subst (λ n. P (n + 1)) (sym i.counted) p

        -- the next row was accepted
        pub importing_more : (x : Unit {0}) → ServesRow g next (after s i.calls) (count + 1) fields (call_of moment name (count + 1) fields) (Ok x) → Importing next new (count + 1)
        importing_more x it =
            let is = numbered (λ n. call_of moment name n fields ≡ Some it.0) it.1 in
            record {
              rows = i.rows ++ fields ∷ [];
              calls = i.calls ++ it.0 ∷ [];
              behind = takes input (header ∷ i.rows) i.behind;
              accepts = accepts_push moment name s i.rows i.calls fields it.0 i.accepts is it.2.good it.2.accepted;
              at = subst (IsAt g next) (sym (after-append s i.calls (it.0 ∷ []))) it.2.at;
              counted = length-append i.rows (fields ∷ []) ∙ ap (λ n. n + 1) i.counted;
            }

        -- the next row changes nothing
        pub importing_none : AllChangeNothing moment name s input → ChangesNothing s (call_of moment name (count + 1) fields)
        importing_none none =
            subst (λ n. ChangesNothing s (call_of moment name (n + 1) fields)) i.counted
            (none i.rows fields (begins remaining input ((header ∷ i.rows) ++ fields ∷ []) new (takes input (header ∷ i.rows) i.behind)))

        -- so it is accepted without a change
        pub importing_rests : (first : DeskValue S) (x : Unit {0}) → Rests g first desk s → ChangesNothing s (call_of moment name (count + 1) fields)
            → ServesRow g next s (count + 1) fields (call_of moment name (count + 1) fields) (Ok x) → KeepsDatabase g desk next → Rests g first next s
        importing_rests first x was none it same = record { at = subst (IsAt g next) (subst (ChangesNothing s) it.1 none) it.2.at; same = same ∙ was.same }

        -- the next record is no row, or is refused, or the desk failed at it
        pub importing_refused : AllText fields → (fault : ImportFault) → ServesRow g next (after s i.calls) (count + 1) fields (call_of moment name (count + 1) fields) (Err fault)
            → Imports g next s moment name input (Err fault)
        importing_refused text (Unreadable n) it = record {
          rows = i.rows;
          calls = i.calls;
          fields = fields;
          text = begins remaining input ((header ∷ i.rows) ++ fields ∷ []) new (takes input (header ∷ i.rows) i.behind);
          no_row = λ row. it.1 row.0;
          accepts = i.accepts;
          at = it.2;
          counted = it.0 ∙ ap (λ n. n + 1) (sym i.counted);
        }
        importing_refused text (Row n refusal) it = record {
          rows = i.rows;
          calls = i.calls;
          row = fields;
          text = begins remaining input ((header ∷ i.rows) ++ fields ∷ []) new (takes input (header ∷ i.rows) i.behind);
          is_row = (it.1, text);
          refused = rw it.0 it.2;
          accepts = i.accepts;
          at = it.3;
          counted = it.0 ∙ ap (λ n. n + 1) (sym i.counted);
        }
        importing_refused text (Desk NoMemory) it = record {
          rows = i.rows;
          calls = i.calls;
          text = inr (begins remaining input (header ∷ i.rows) old i.behind);
          accepts = i.accepts;
          at = it;
        }
        importing_refused text (Desk StoreFailed) it = record {
          rows = i.rows;
          calls = i.calls;
          row = fields;
          call = it.0;
          text = begins remaining input ((header ∷ i.rows) ++ fields ∷ []) new (takes input (header ∷ i.rows) i.behind);
          accepts = i.accepts;
          next = numbered (λ n. call_of moment name n fields ≡ Some it.0) it.1;
          fails = it.2;
        }
        importing_refused text (Desk Stopped) it = absurd it
        importing_refused text BadHeader it = absurd it
        importing_refused text Read it = absurd it
        importing_refused text TooManyRows it = absurd it

-- ---- what a crash may leave

module _ {S : Type 0} (g : Ghosts S) (desk : DeskValue S) (s : Operator) (moment : ℕ) (name : List ℕ) (input : Option (List ℕ)) where
  pub left_of : (result : Result ℕ ImportFault) → Imports g desk s moment name input result → AllLeft (desk_state g desk) (StandsAfterSome s)
  left_of (Ok count) i db h = (i.calls, i.accepts.good, i.at.keeps.left db h)
  left_of (Err BadHeader) i db h = ([], tt, i.at.keeps.left db h)
  left_of (Err (Unreadable number)) i db h = (i.calls, i.accepts.good, i.at.keeps.left db h)
  left_of (Err (Row number refusal)) i db h = (i.calls, i.accepts.good, i.at.keeps.left db h)
  left_of (Err Read) i db h = (i.calls, i.accepts.good, i.at.keeps.left db h)
  left_of (Err TooManyRows) i db h = (i.calls, i.accepts.good, i.at.keeps.left db h)
  left_of (Err (Desk NoMemory)) i db h = (i.calls, i.accepts.good, i.at.keeps.left db h)
  left_of (Err (Desk StoreFailed)) i db h = elim (i.fails.left db h) [
    | inl before ↦ (i.calls, i.accepts.good, before)
    | inr later ↦ (i.calls ++ i.call ∷ [], good_push i.calls i.call i.accepts.good i.fails.good, subst (λ o. TreesStandFor o db) (sym (after-append s i.calls (i.call ∷ []))) later)
  ]
  left_of (Err (Desk Stopped)) i db h = absurd i
