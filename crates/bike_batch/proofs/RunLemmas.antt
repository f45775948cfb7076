-- A run over lines, line by line.
use Rattle.std.proofs.Common.{◌≡◌, ℕ, zero, suc, ◌+◌, ◌<◌, ◌≤◌, List, [], ◌∷◌, ◌++◌, length, take, refl, sym, ap, ◌∙◌, subst, arith, append_assoc, Option, None, Some, IsTrue, false, true, Result, Ok}
use Rattle.std.proofs.Common.{Err, inl, inr}
use Rattle.std.specs.Prelude.{◌≢◌, IsErrAnd}
use Rattle.std.proofs.lemmas.List.{append-nil, length-append}
use Rattle.std.specs.Io.KnownBytes.{Appends, Keeps, prepend_known}
use Rattle.sqlite.specs.Store.{Ghosts}
use Rattle.bike_operator.specs.Operator.{Operator}
use Rattle.bike_operator.specs.Runs.{Call, step, after}
use Rattle.bike_operator.specs.Sound.{AreCalls}
use Rattle.bike_commands.specs.declared.reply.Reply.{Reply}
use Rattle.bike_commands.specs.Replies.{reply_text}
use Rattle.bike_commands.specs.Requests.{IsLine, line_length}
use Rattle.bike_requests.specs.Spelling.{SpellsRequest}
use Rattle.bike_schema.specs.Stands.{AllLeft}
use Rattle.bike_desk.specs.Desk.{DeskValue, desk_state, IsAt, KeepsDatabase, TreesStandForEither}
use Rattle.bike_desk.specs.declared.fault.DeskFault.{DeskFault}
use Rattle.bike_desk.specs.declared.fault.DeskFault.TheVariants.{NoMemory, StoreFailed, Stopped}
use Rattle.bike_stream.specs.Lines.{lines_of, first_line, IsFree}
use Rattle.bike_stream.specs.Taking.{Takes, Interrupts}
use Rattle.bike_stream.specs.Reads.{ReadsBytes, idle_reads}
use Rattle.bike_stream.specs.declared.buffer.ReadFault.{ReadFault}
use Rattle.bike_stream.specs.declared.buffer.ReadFault.TheVariants.{Failed, TooMany}
use Rattle.bike_stream.specs.Writing.{AppendsFront}
use Rattle.bike_stream.proofs.LineLemmas.{lines_next}
use Rattle.bike_batch.specs.declared.line_fault.LinesFault.{LinesFault}
use Rattle.bike_batch.specs.declared.line_fault.LinesFault.TheVariants.{Read, TooManyReads, Write, Desk}
use Rattle.bike_batch.specs.Faults.{read_fault}
use Rattle.bike_desk.specs.Runs.{LeavesEither}
use Rattle.bike_batch.specs.LineServing.{RepliesAt, GoesOn}
use Rattle.bike_batch.specs.Answers.{IsReadAs, AreReadAs, ChangesNothing, after_line, after_lines, answer, answers}
use Rattle.bike_batch.specs.declared.lines.TheConstants.{MOST_READS}
use Rattle.bike_batch.specs.Runs.{AreLinesOf, AllChangeNothing, IsReadTo, IsReadWhole, TakesMostReads, desk_fault, ServesSome, Answered, AnswersAll, BreaksOff, WantsMemory, DoesNothing, AnswersInto}
use Rattle.bike_batch.specs.Runs.{FailsAt, RanLines}
use Rattle.bike_batch.proofs.LineLemmas.{spells, after_none}

-- ---- what is kept of a line is enough to read it

take_whole : (n : ℕ) (xs : List ℕ) → length (take n xs) < n → take n xs ≡ xs
take_whole zero xs h = absurd (omega arith)
take_whole (suc n) [] h = refl
take_whole (suc n) (x ∷ xs) h = ap (λ (ys : List ℕ). x ∷ ys) (take_whole n xs (omega (arith, h)))

take_all : (n : ℕ) (xs : List ℕ) → length xs ≤ n → take n xs ≡ xs
take_all zero [] h = refl
take_all zero (x ∷ xs) h = absurd (omega arith)
take_all (suc n) [] h = refl
take_all (suc n) (x ∷ xs) h = ap (λ (ys : List ℕ). x ∷ ys) (take_all n xs (omega (arith, h)))

-- with room for one byte more than the longest line
pub read_as_whole : (most : ℕ) → line_length < most → (line : List ℕ) (c : Option Call) → IsReadAs (take most line) c → IsReadAs line c
read_as_whole most room line (Some c) h =
    let whole : take most line ≡ line = take_whole most line (omega (arith, h.0.short, room)) in
    (subst (λ (l : List ℕ). IsLine l c.0 c.1) whole h.0, h.1, h.2)
read_as_whole most room line None h =
    λ t q moment good is. h t q moment good (subst (λ (l : List ℕ). IsLine l t q) (sym (take_all most line (omega (arith, is.short, room)))) is)

-- ---- one line more

pub appends_both : (a b c : Option (List ℕ)) (xs ys : List ℕ) → Appends a b xs → Appends b c ys → Appends a c (xs ++ ys)
appends_both None b c xs ys p q = tt
appends_both (Some a) None c xs ys p q = absurd p
appends_both (Some a) (Some b) None xs ys p q = absurd q
appends_both (Some a) (Some b) (Some c) xs ys p q = q ∙ (ap (λ t. t ++ ys) p ∙ append_assoc a xs ys)

read_push : (lines : List (List ℕ)) (calls : List (Option Call)) (line : List ℕ) (c : Option Call) → AreReadAs lines calls → IsReadAs line c → AreReadAs (lines ++ line ∷ []) (calls ++ c ∷ [])
read_push [] [] line c h r = (r, tt)
read_push [] (d ∷ calls) line c h r = absurd h
read_push (l ∷ lines) [] line c h r = absurd h
read_push (l ∷ lines) (d ∷ calls) line c h r = (h.0, read_push lines calls line c h.1 r)

after_push : (s : Operator) (calls : List (Option Call)) (c : Option Call) → after_lines s (calls ++ c ∷ []) ≡ after_line (after_lines s calls) c
after_push s [] c = refl
after_push s (d ∷ calls) c = after_push (after_line s d) calls c

answers_push : (s : Operator) (calls : List (Option Call)) (c : Option Call) → answers s (calls ++ c ∷ []) ≡ answers s calls ++ answer (after_lines s calls) c
answers_push s [] c = append-nil _
answers_push s (d ∷ calls) c =
    ap (λ t. answer s d ++ t) (answers_push (after_line s d) calls c) ∙ sym (append_assoc (answer s d) (answers (after_line s d) calls) (answer (after_lines (after_line s d) calls) c))

-- ---- the next line

-- the next line as it is named: whole, where the text is known, and else as it is kept
abbrev pub next_line : Option (List ℕ) → Option (List ℕ) → List ℕ → List ℕ
next_line None pending line = line
next_line (Some text) None line = line
next_line (Some text) (Some rest) line = first_line rest

-- the lines after it, where the text is known
abbrev pub later_lines : Option (List ℕ) → List (List ℕ)
later_lines None = []
later_lines (Some rest) = lines_of rest

module _ (most : ℕ) (room : line_length < most) where
  next_read : (input pending left : Option (List ℕ)) (line : List ℕ) (c : Option Call) → Takes most pending left true line → IsReadAs line c → IsReadAs (next_line input pending line) c
  next_read None pending left line c taken read = read
  next_read (Some text) None left line c taken read = read
  next_read (Some text) (Some rest) None line c taken read = absurd taken
  next_read (Some text) (Some rest) (Some more) line c taken read = read_as_whole most room (first_line rest) c (subst (λ (l : List ℕ). IsReadAs l c) taken.1 read)

  next_spells : (input pending left : Option (List ℕ)) (line : List ℕ) → Takes most pending left true line → SpellsRequest line → SpellsRequest (next_line input pending line)
  next_spells input pending left line taken it =
      let c : Call = (it.moment, it.request) in
      spells (next_line input pending line) c (next_read input pending left line (Some c) taken (it.spelled, it.good, it.moment_good))

  next_text : (input pending left : Option (List ℕ)) (done : List (List ℕ)) (line : List ℕ) → IsReadTo input pending done [] → Takes most pending left true line
      → AreLinesOf input (done ++ next_line input pending line ∷ later_lines left)
  next_text None pending left done line text taken = tt
  next_text (Some all) None left done line text taken = absurd text
  next_text (Some all) (Some rest) None done line text taken = absurd taken
  next_text (Some all) (Some rest) (Some more) done line text taken =
      text ∙ ap (λ (ls : List (List ℕ)). done ++ ls) (lines_next rest taken.0 ∙ ap (λ (l : List ℕ). first_line rest ∷ lines_of l) (sym taken.2))

  -- where no line of the text changes anything, what is kept of the next one doesn't
  next_none : (input pending left : Option (List ℕ)) (done : List (List ℕ)) (line : List ℕ) (s : Operator) → IsReadTo input pending done [] → Takes most pending left true line
      → AllChangeNothing s input → ChangesNothing s line
  next_none input pending left done line s text taken none t q moment good is =
      let read = next_read input pending left line (Some (t, q)) taken (is, good, moment) in
      none done (later_lines left) (next_line input pending line) (next_text input pending left done line text taken) t q moment good read.0

  next_rest : (input pending left : Option (List ℕ)) (done : List (List ℕ)) (line : List ℕ) → IsReadTo input pending done [] → Takes most pending left true line
      → IsReadTo input left (done ++ next_line input pending line ∷ []) []
  next_rest None pending left done line text taken = tt
  next_rest (Some all) None left done line text taken = absurd text
  next_rest (Some all) (Some rest) None done line text taken = absurd taken
  next_rest (Some all) (Some rest) (Some more) done line text taken =
      next_text (Some all) (Some rest) (Some more) done line text taken ∙ sym (append_assoc done (first_line rest ∷ []) (lines_of more))

-- nothing is left
no_rest : (most : ℕ) (input pending left : Option (List ℕ)) (done : List (List ℕ)) (line : List ℕ) → IsReadTo input pending done [] → Takes most pending left false line → AreLinesOf input done
no_rest most None pending left done line text taken = tt
no_rest most (Some all) None left done line text taken = absurd text
no_rest most (Some all) (Some rest) None done line text taken = absurd taken
no_rest most (Some all) (Some rest) (Some more) done line text taken = text ∙ ap (λ (t : List ℕ). done ++ lines_of t) taken.0 ∙ append-nil done

whole_read : (most : ℕ) (input pending ahead : Option (List ℕ)) (done : List (List ℕ)) (held line : List ℕ) → IsReadTo input pending done [] → Takes most pending (prepend_known held ahead) false line
    → IsReadWhole input ahead
whole_read most None pending ahead done held line text taken = tt
whole_read most (Some all) None ahead done held line text taken = absurd text
whole_read most (Some all) (Some rest) None done held line text taken = tt
whole_read most (Some all) (Some rest) (Some more) done [] line text taken = taken.1
whole_read most (Some all) (Some rest) (Some more) done (b ∷ held) line text taken = absurd (let none = taken.1 in cc)

-- what was read and isn't answered is the front of a line
front_left : (input pending ahead : Option (List ℕ)) (done : List (List ℕ)) (most : ℕ) (line : List ℕ) → IsReadTo input pending done [] → Interrupts most pending ahead line
    → (front : List ℕ) × IsFree front × IsReadTo input ahead done front
front_left None pending ahead done most line text taken = ([], refl, tt)
front_left (Some all) None ahead done most line text taken = absurd text
front_left (Some all) (Some rest) None done most line text taken = absurd taken.1
front_left (Some all) (Some rest) (Some more) done most line text taken = (taken.1.0, taken.1.2, text ∙ ap (λ (t : List ℕ). done ++ lines_of t) taken.1.1)

-- ---- the lines so far

-- so many lines are answered, and the others are those of the bytes that are still to come
pub record Running {S : Type 0} (g : Ghosts S) (desk : DeskValue S) (s : Operator) (input pending old new : Option (List ℕ)) (count : ℕ) : Type 0 where
  pub done : List (List ℕ)
  pub calls : List (Option Call)
  pub text : IsReadTo input pending done []
  pub counted : length done ≡ count
  pub before : Answered g desk s old new done calls

-- the desk is at the operator at which it was, and its database is as it was
pub record Rests {S : Type 0} (g : Ghosts S) (old new : DeskValue S) (s : Operator) : Type 0 where
  pub at : IsAt g new s
  pub same : KeepsDatabase g old new

appends_nothing : (w : Option (List ℕ)) → Appends w w []
appends_nothing None = tt
appends_nothing (Some a) = sym (append-nil a)

keeps_same : (known : Option (List ℕ)) → Keeps known known
keeps_same None = tt
keeps_same (Some a) = refl

pub prepend_none : (known : Option (List ℕ)) → prepend_known [] known ≡ known
prepend_none None = refl
prepend_none (Some text) = refl

read_none : (known : Option (List ℕ)) → IsReadTo known known [] []
read_none None = tt
read_none (Some text) = refl

module _ {S : Type 0} (g : Ghosts S) (s : Operator) (input w0 : Option (List ℕ)) where
  -- nothing was read yet
  pub running_begins : (desk : DeskValue S) (held : List ℕ) → held ≡ [] → IsAt g desk s → Running g desk s input (prepend_known held input) w0 w0 0
  running_begins desk held none at = rw (none, prepend_none input) (record {
    done = [];
    calls = [];
    text = read_none input;
    counted = refl;
    before = record { read = tt; at = at; written = appends_nothing w0 };
  })

  pub nothing_done : (desk : DeskValue S) → IsAt g desk s → DoesNothing g desk s input input w0 w0
  nothing_done desk at = record { read = keeps_same input; before = record { read = tt; at = at; written = appends_nothing w0 } }

  module _ (desk : DeskValue S) (pending w : Option (List ℕ)) (count : ℕ) (r : Running g desk s input pending w0 w count) where
    module _ (next : DeskValue S) (left : Option (List ℕ)) (most : ℕ) (room : line_length < most) (line : List ℕ) (taken : Takes most pending left true line) where
      -- the next line was served and its answer written
      running_step : (w' : Option (List ℕ)) (c : Option Call) → IsReadAs line c → IsAt g next (after_line (after_lines s r.calls) c) → Appends w w' (answer (after_lines s r.calls) c)
          → Running g next s input left w0 w' (count + 1)
      running_step w' c read at written =
          let line' = next_line input pending line in
          record {
            done = r.done ++ line' ∷ [];
            calls = r.calls ++ c ∷ [];
            text = next_rest most room input pending left r.done line r.text taken;
            counted = length-append r.done (line' ∷ []) ∙ ap (λ n. n + 1) r.counted;
            before = record {
              read = read_push r.done r.calls line' c r.before.read (next_read most room input pending left line c taken read);
              at = subst (IsAt g next) (sym (after_push s r.calls c)) at;
              written = subst (Appends w0 w') (sym (answers_push s r.calls c)) (appends_both w0 w w' (answers s r.calls) (answer (after_lines s r.calls) c) r.before.written written);
            };
          }

      -- the next line was served, and a front of its answer written
      running_into : (w' : Option (List ℕ)) (c : Option Call) → IsReadAs line c → IsAt g next (after_line (after_lines s r.calls) c) → AppendsFront w w' (answer (after_lines s r.calls) c)
          → (ahead : Option (List ℕ))
          → AnswersInto g next s input ahead w0 w'
      running_into w' c read at written ahead = record {
        done = r.done;
        line = next_line input pending line;
        rest = later_lines left;
        calls = r.calls;
        call = c;
        count = written.0;
        text = next_text most room input pending left r.done line r.text taken;
        read = r.before.read;
        next = next_read most room input pending left line c taken read;
        at = at;
        short = written.1;
        written = appends_both w0 w w' (answers s r.calls) (take written.0 (answer (after_lines s r.calls) c)) r.before.written written.2;
      }

      -- memory was refused for the next line
      running_wants : SpellsRequest line → IsAt g next (after_lines s r.calls) → (ahead : Option (List ℕ)) → WantsMemory g next s input ahead w0 w
      running_wants spelled at ahead = record {
        done = r.done;
        line = next_line input pending line;
        rest = later_lines left;
        calls = r.calls;
        text = next_text most room input pending left r.done line r.text taken;
        spelled = next_spells most room input pending left line taken spelled;
        before = record { read = r.before.read; at = at; written = r.before.written };
      }

      -- the store failed at the next line
      running_fails : (c : Call) → IsReadAs line (Some c) → IsTrue next.is_stopped → LeavesEither g next (after_lines s r.calls) c
          → (ahead : Option (List ℕ)) → FailsAt g next s input ahead w0 w
      running_fails c read stopped all ahead = record {
        done = r.done;
        line = next_line input pending line;
        rest = later_lines left;
        calls = r.calls;
        call = c;
        text = next_text most room input pending left r.done line r.text taken;
        read = r.before.read;
        next = next_read most room input pending left line (Some c) taken read;
        stopped = stopped;
        left = all;
        written = r.before.written;
      }

      -- the same, by what is said of the reply
      pub running_replied : (w' : Option (List ℕ)) (reply : Reply) → RepliesAt g desk next line (after_lines s r.calls) (Ok reply) → Appends w w' (reply_text reply ++ 10 ∷ [])
          → Running g next s input left w0 w' (count + 1)
      running_replied w' reply it written = running_step w' it.0 it.1 it.3 (subst (λ (x : Reply). Appends w w' (reply_text x ++ 10 ∷ [])) it.2 written)

      pub running_written : (w' : Option (List ℕ)) (reply : Reply) → RepliesAt g desk next line (after_lines s r.calls) (Ok reply) → AppendsFront w w' (reply_text reply ++ 10 ∷ [])
          → (ahead : Option (List ℕ))
          → RanLines g next s input ahead w0 w' (Err Write)
      running_written w' reply it written ahead = running_into w' it.0 it.1 it.3 (subst (λ (x : Reply). AppendsFront w w' (reply_text x ++ 10 ∷ [])) it.2 written) ahead

      pub running_refused : (fault : DeskFault) → RepliesAt g desk next line (after_lines s r.calls) (Err fault) → GoesOn g desk next (Err fault) → (ahead : Option (List ℕ))
          → RanLines g next s input ahead w0 w (Err (Desk fault))
      running_refused NoMemory it on ahead = inr (running_wants it.0 it.1 ahead)
      running_refused StoreFailed it on ahead = running_fails it.0 it.1 on it.2 ahead
      running_refused Stopped it on ahead = absurd it

      -- the next line changes nothing
      pub running_none : AllChangeNothing s input → ChangesNothing s line
      running_none none = next_none most room input pending left r.done line s r.text taken none

      -- so neither operator nor database are changed
      pub running_rests : (first : DeskValue S) (reply : Reply) → Rests g first desk s → ChangesNothing s line → RepliesAt g desk next line s (Ok reply) → KeepsDatabase g desk next
          → Rests g first next s
      running_rests first reply was none it same = record { at = subst (IsAt g next) (after_none s line it.0 none it.1) it.3; same = same ∙ was.same }

    -- the reading of the next line failed
    running_breaks : (most : ℕ) (line : List ℕ) (ahead : Option (List ℕ)) → Interrupts most pending ahead line → BreaksOff g desk s input ahead w0 w
    running_breaks most line ahead taken =
        let it = front_left input pending ahead r.done most line r.text taken in
        record { done = r.done; front = it.0; calls = r.calls; text = it.2; unended = it.1; before = r.before }

    -- the input ended
    pub running_ends : (most : ℕ) (held line : List ℕ) (ahead : Option (List ℕ)) → Takes most pending (prepend_known held ahead) false line → AnswersAll g desk s input ahead w0 w count
    running_ends most held line ahead taken = record {
      lines = r.done;
      calls = r.calls;
      text = no_rest most input pending (prepend_known held ahead) r.done line r.text taken;
      ended = whole_read most input pending ahead r.done held line r.text taken;
      all = r.before;
      counted = sym r.counted;
    }

    pub running_unread : (most : ℕ) (line : List ℕ) (ahead : Option (List ℕ)) (fault : ReadFault) → Interrupts most pending ahead line → (fault ≡ TooMany → TakesMostReads input ahead)
        → RanLines g desk s input ahead w0 w (Err (read_fault fault))
    running_unread most line ahead Failed taken bound = running_breaks most line ahead taken
    running_unread most line ahead TooMany taken bound = (running_breaks most line ahead taken, bound refl)

-- what a `?` tells
pub err_is : (result : Result ℕ LinesFault) (fault : LinesFault) → IsErrAnd result (λ told. told ≡ fault) → result ≡ Err fault
err_is (Ok count) fault told = absurd told
err_is (Err e) fault told = ap Err told

-- the desk didn't fail for its store
pub desk_other : (result : Result ℕ LinesFault) (fault : DeskFault) (reply : Result Reply DeskFault) → result ≡ Err (Desk fault) → reply ≡ Err fault → result ≢ Err (Desk StoreFailed)
    → reply ≢ Err StoreFailed
desk_other result fault reply told is other failed =
    let same : fault ≡ StoreFailed = cc in
    other (told ∙ ap (λ (f : DeskFault). Err (Desk f)) same)

-- ---- how many reads

-- each read so far gave a byte, but one, which found the end
abbrev pub Spends : Option (List ℕ) → Option (List ℕ) → List ℕ → ℕ → ℕ → Type 0
Spends input ahead held most reads = ReadsBytes input ahead held most reads (Ok true)

pub spends_none : (input : Option (List ℕ)) (most : ℕ) → Spends input input [] most most
spends_none None most = tt
spends_none (Some text) most = omega arith

-- a line more: there was a byte of it, so the end wasn't found before
pub spends_line : (keep : ℕ) (input old new : Option (List ℕ)) (held left line : List ℕ) (most reads fewer : ℕ) → Spends input old held most reads
    → Takes keep (prepend_known held old) (prepend_known left new) true line → ReadsBytes old new left reads fewer (Ok true) → Spends input new left most fewer
spends_line keep None old new held left line most reads fewer spent taken given = tt
spends_line keep (Some text) None new held left line most reads fewer spent taken given = absurd spent
spends_line keep (Some text) (Some xs) None held left line most reads fewer spent taken given = absurd taken
spends_line keep (Some text) (Some xs) (Some ys) held left line most reads fewer spent taken given =
    let none = none_idle (held ++ xs) taken.0 in
    omega (arith, spent, none, given)
  where
    none_idle : (ahead : List ℕ) → 0 < length ahead → idle_reads (Ok true) ahead ≡ 0
    none_idle [] any = absurd (omega arith)
    none_idle (b ∷ ahead) any = refl

-- the bound on reads ended the run
pub spends_most : (input old new : Option (List ℕ)) (held left : List ℕ) (reads : ℕ) → Spends input old held MOST_READS reads → ReadsBytes old new left reads 0 (Err TooMany) → TakesMostReads input new
spends_most None old new held left reads spent given = tt
spends_most (Some text) None new held left reads spent given = absurd spent
spends_most (Some text) (Some xs) None held left reads spent given = absurd given
spends_most (Some text) (Some xs) (Some ys) held left reads spent given =
    let one = idle_most (held ++ xs) in
    omega (arith, spent, given, one)
  where
    idle_most : (ahead : List ℕ) → idle_reads (Ok true) ahead ≤ 1
    idle_most [] = omega arith
    idle_most (b ∷ ahead) = omega arith

-- ---- what is kept

-- the requests among what lines are read as
abbrev asked : List (Option Call) → List Call
asked [] = []
asked (None ∷ cs) = asked cs
asked (Some c ∷ cs) = c ∷ asked cs

asked_good : (lines : List (List ℕ)) (cs : List (Option Call)) → AreReadAs lines cs → AreCalls (asked cs)
asked_good [] [] read = tt
asked_good [] (c ∷ cs) read = absurd read
asked_good (line ∷ lines) [] read = absurd read
asked_good (line ∷ lines) (None ∷ cs) read = asked_good lines cs read.1
asked_good (line ∷ lines) (Some c ∷ cs) read = (record { moment = read.0.2; request = read.0.1 }, asked_good lines cs read.1)

asked_after : (s : Operator) (cs : List (Option Call)) → after_lines s cs ≡ after s (asked cs)
asked_after s [] = refl
asked_after s (None ∷ cs) = asked_after s cs
asked_after s (Some c ∷ cs) = asked_after (step s c.0 c.1).1 cs

pub after_one : (s : Operator) (cs : List Call) (c : Call) → after s (cs ++ c ∷ []) ≡ (step (after s cs) c.0 c.1).1
after_one s [] c = refl
after_one s (d ∷ cs) c = after_one (step s d.0 d.1).1 cs c

module _ {S : Type 0} (g : Ghosts S) (desk : DeskValue S) (s : Operator) where
  served : (lines : List (List ℕ)) (cs : List (Option Call)) → AreReadAs lines cs → IsAt g desk (after_lines s cs) → ServesSome g desk s None
  served lines cs read at = record { calls = asked cs; good = asked_good lines cs read; ends = subst (IsAt g desk) (asked_after s cs) at }

  wanted : (lines : List (List ℕ)) (cs : List (Option Call)) → AreReadAs lines cs → IsAt g desk (after_lines s cs) → ServesSome g desk s (Some NoMemory)
  wanted lines cs read at = record { calls = asked cs; good = asked_good lines cs read; ends = subst (IsAt g desk) (asked_after s cs) at }

  -- whatever is known of input and output
  pub kept_of : (input ahead w0 w : Option (List ℕ)) (result : Result ℕ LinesFault) → RanLines g desk s input ahead w0 w result → ServesSome g desk s (desk_fault result)
  kept_of input ahead w0 w (Ok count) r = served r.lines r.calls r.all.read r.all.at
  kept_of input ahead w0 w (Err Read) r = served r.done r.calls r.before.read r.before.at
  kept_of input ahead w0 w (Err TooManyReads) r = served r.0.done r.0.calls r.0.before.read r.0.before.at
  kept_of input ahead w0 w (Err Write) r =
      served (r.done ++ r.line ∷ []) (r.calls ++ r.call ∷ []) (read_push r.done r.calls r.line r.call r.read r.next) (subst (IsAt g desk) (sym (after_push s r.calls r.call)) r.at)
  kept_of input ahead w0 w (Err (Desk NoMemory)) (inl r) = wanted [] [] r.before.read r.before.at
  kept_of input ahead w0 w (Err (Desk NoMemory)) (inr r) = wanted r.done r.calls r.before.read r.before.at
  kept_of input ahead w0 w (Err (Desk StoreFailed)) r =
      let same = asked_after s r.calls in
      record {
        calls = asked r.calls;
        good = asked_good r.done r.calls r.read;
        ends = (
          r.stopped,
          r.call,
          record { moment = r.next.2; request = r.next.1 },
          rw (after_one s (asked r.calls) r.call)
              (subst (λ (o : Operator). AllLeft (desk_state g desk) (TreesStandForEither o (step o r.call.0 r.call.1).1)) same r.left),
        );
      }
  kept_of input ahead w0 w (Err (Desk Stopped)) r = absurd r
