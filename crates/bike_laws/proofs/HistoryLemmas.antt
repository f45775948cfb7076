-- A list of requests, and the history that it adds.
use Rattle.std.proofs.Common.{◌≡◌, ℕ, List, [], ◌∷◌, ◌++◌, Bool, true, false, Option, Some, None, refl, sym, ap, ◌∙◌, subst, append_assoc, append-nil, arith}
use Rattle.std.proofs.Math.Seq.{drop-append_seam}
use Rattle.std.specs.Prelude.{length, drop, max, is_none, ◌&&◌, if◌then◌else◌}
use Rattle.bike_commands.specs.declared.reply.Reply.{Reply}
use Rattle.bike_commands.specs.declared.refusal.Refusal.{Refusal}
use Rattle.bike_commands.specs.declared.request.Request.{Request}
use Rattle.bike_operator.specs.Operator.{Operator, AcceptedRequest, Numbered, key_in, kept_under, no_operator}
use Rattle.bike_operator.specs.Steps.{refusal_of, reply_of}
use Rattle.bike_operator.specs.Runs.{Call, step, after, replies, outcome, outcome_with_kept, after_acceptance}
use Rattle.bike_laws.specs.Retries.{is_accepted, acceptance}
use Rattle.bike_laws.proofs.RetryLemmas.{accepted_step, accepted_last}
use Rattle.bike_laws.specs.History.{accepted_of, calls_of, replies_of, last_moment_of, IsInOrder, IsServedAgain, IsMadeAgain}

-- a request that isn't accepted changes nothing
refused_stays : (s : Operator) (now : ℕ) (q : Request) (o : Option Refusal) → is_none o ≡ false → (outcome s now q o).1 ≡ s
refused_stays s now q (Some r) e = refl
refused_stays s now q None e = absurd cc

unaccepted_stays : (s : Operator) (t : ℕ) (q : Request) (o : Option AcceptedRequest) → is_none o && is_none (refusal_of s q.command) ≡ false → (outcome_with_kept s t q o).1 ≡ s
unaccepted_stays s t q (Some a) e = refl
unaccepted_stays s t q None e = refused_stays s (max t s.now) q (refusal_of s q.command) e

-- the later of the later moment and the operator's is the later one
max_again : (t now : ℕ) → max (max t now) now ≡ max t now
max_again t now = omega (arith)

-- an accepted request is served at its recorded moment as it was
step_again : (s : Operator) (t : ℕ) (q : Request) → is_accepted s q ≡ true → step s (max t s.now) q ≡ step s t q
step_again s t q e =
    accepted_step s (max t s.now) q e
    ∙ ap (λ (now : ℕ). (reply_of s now q.command, after_acceptance s now q)) (max_again t s.now)
    ∙ sym (accepted_step s t q e)

-- the moment after an accepted request is the recorded one
now_after : (s : Operator) (t : ℕ) (q : Request) → is_accepted s q ≡ true → (step s t q).1.now ≡ max t s.now
now_after s t q e = ap (λ (x : Reply × Operator). x.1.now) (accepted_step s t q e)

-- THE HISTORY IS THE CITY

-- what a list adds stands behind what was there
history_after : (s : Operator) (cs : List Call) → (after s cs).history.items ≡ s.history.items ++ accepted_of s cs
history_after s [] = sym (append-nil s.history.items)
history_after s (c ∷ cs) = tells (is_accepted s c.1) refl (history_after (step s c.0 c.1).1 cs) where
  tells : (b : Bool) → is_accepted s c.1 ≡ b
      → (after (step s c.0 c.1).1 cs).history.items ≡ (step s c.0 c.1).1.history.items ++ accepted_of (step s c.0 c.1).1 cs
      → (after (step s c.0 c.1).1 cs).history.items ≡ s.history.items ++ ((if b then acceptance s c.0 c.1 ∷ [] else []) ++ accepted_of (step s c.0 c.1).1 cs)
  tells true e rest =
      rest ∙ ap (λ (h : Numbered AcceptedRequest). h.items ++ accepted_of (step s c.0 c.1).1 cs) (accepted_last s c.0 c.1 e)
      ∙ append_assoc s.history.items (acceptance s c.0 c.1 ∷ []) (accepted_of (step s c.0 c.1).1 cs)
  tells false e rest =
      rest
      ∙ ap (λ (o : Operator). o.history.items ++ accepted_of (step s c.0 c.1).1 cs)
      (unaccepted_stays s c.0 c.1 (kept_under (key_in c.1) s.history.items) e)

-- the history behind the first request, by whether that is accepted
operator_again : (s : Operator) (cs : List Call) → after s (calls_of (accepted_of s cs)) ≡ after s cs
operator_again s [] = refl
operator_again s (c ∷ cs) = tells (is_accepted s c.1) refl (operator_again (step s c.0 c.1).1 cs) where
  tells : (b : Bool) → is_accepted s c.1 ≡ b
      → after (step s c.0 c.1).1 (calls_of (accepted_of (step s c.0 c.1).1 cs)) ≡ after (step s c.0 c.1).1 cs
      → after s (calls_of ((if b then acceptance s c.0 c.1 ∷ [] else []) ++ accepted_of (step s c.0 c.1).1 cs)) ≡ after s (c ∷ cs)
  tells true e rest =
      ap (λ (x : Reply × Operator). after x.1 (calls_of (accepted_of (step s c.0 c.1).1 cs))) (step_again s c.0 c.1 e) ∙ rest
  tells false e rest =
      ap (λ (o : Operator). after o (calls_of (accepted_of (step s c.0 c.1).1 cs)))
      (sym (unaccepted_stays s c.0 c.1 (kept_under (key_in c.1) s.history.items) e)) ∙ rest

answers_again : (s : Operator) (cs : List Call) → replies s (calls_of (accepted_of s cs)) ≡ replies_of (accepted_of s cs)
answers_again s [] = refl
answers_again s (c ∷ cs) = tells (is_accepted s c.1) refl (answers_again (step s c.0 c.1).1 cs) where
  tells : (b : Bool) → is_accepted s c.1 ≡ b
      → replies (step s c.0 c.1).1 (calls_of (accepted_of (step s c.0 c.1).1 cs)) ≡ replies_of (accepted_of (step s c.0 c.1).1 cs)
      → replies s (calls_of ((if b then acceptance s c.0 c.1 ∷ [] else []) ++ accepted_of (step s c.0 c.1).1 cs))
      ≡ replies_of ((if b then acceptance s c.0 c.1 ∷ [] else []) ++ accepted_of (step s c.0 c.1).1 cs)
  tells true e rest =
      ap (λ (x : Reply × Operator). x.0 ∷ replies x.1 (calls_of (accepted_of (step s c.0 c.1).1 cs))) (step_again s c.0 c.1 e)
      ∙ ap (λ (l : List Reply). (step s c.0 c.1).0 ∷ l) rest
  tells false e rest =
      ap (λ (o : Operator). replies o (calls_of (accepted_of (step s c.0 c.1).1 cs)))
      (sym (unaccepted_stays s c.0 c.1 (kept_under (key_in c.1) s.history.items) e)) ∙ rest

-- it is what stands behind what was there
-- nothing is archived by requests
archived_after : (s : Operator) (cs : List Call) → (after s cs).history.archived ≡ s.history.archived
archived_after s [] = refl
archived_after s (c ∷ cs) = archived_after (step s c.0 c.1).1 cs ∙ tells (is_accepted s c.1) refl where
  tells : (b : Bool) → is_accepted s c.1 ≡ b → (step s c.0 c.1).1.history.archived ≡ s.history.archived
  tells true e = ap (λ (h : Numbered AcceptedRequest). h.archived) (accepted_last s c.0 c.1 e)
  tells false e = ap (λ (o : Operator). o.history.archived) (unaccepted_stays s c.0 c.1 (kept_under (key_in c.1) s.history.items) e)

behind_are : (s : Operator) (cs : List Call) → drop (length s.history.items) (after s cs).history.items ≡ accepted_of s cs
behind_are s cs = ap (λ (h : List AcceptedRequest). drop (length s.history.items) h) (history_after s cs) ∙ drop-append_seam s.history.items (accepted_of s cs)

pub served_again : (s : Operator) (cs : List Call) → IsServedAgain s cs
served_again s cs = record { added = history_after s cs; none_archived = archived_after s cs; behind = behind_are s cs; operator = operator_again s cs; answers = answers_again s cs }

pub made_again : (cs : List Call) → IsMadeAgain (after no_operator cs)
made_again cs = record {
  operator = ap (λ (h : List AcceptedRequest). after no_operator (calls_of h)) (history_after no_operator cs) ∙ operator_again no_operator cs;
  answers =
      ap (λ (h : List AcceptedRequest). replies no_operator (calls_of h)) (history_after no_operator cs)
      ∙ answers_again no_operator cs
      ∙ ap replies_of (sym (history_after no_operator cs));
}

-- the operator's moment is that of the last in its history
pub now_is_last : (s : Operator) (cs : List Call) → (after s cs).now ≡ last_moment_of s.now (accepted_of s cs)
now_is_last s [] = refl
now_is_last s (c ∷ cs) = tells (is_accepted s c.1) refl (now_is_last (step s c.0 c.1).1 cs) where
  tells : (b : Bool) → is_accepted s c.1 ≡ b
      → (after (step s c.0 c.1).1 cs).now ≡ last_moment_of (step s c.0 c.1).1.now (accepted_of (step s c.0 c.1).1 cs)
      → (after s (c ∷ cs)).now ≡ last_moment_of s.now ((if b then acceptance s c.0 c.1 ∷ [] else []) ++ accepted_of (step s c.0 c.1).1 cs)
  tells true e rest = rest ∙ ap (λ (now : ℕ). last_moment_of now (accepted_of (step s c.0 c.1).1 cs)) (now_after s c.0 c.1 e)
  tells false e rest =
      rest ∙ ap (λ (o : Operator). last_moment_of o.now (accepted_of (step s c.0 c.1).1 cs))
      (unaccepted_stays s c.0 c.1 (kept_under (key_in c.1) s.history.items) e)

-- no moment of a history lies before the operator's, nor before one that stands earlier
pub in_order : (s : Operator) (cs : List Call) → IsInOrder s.now (accepted_of s cs)
in_order s [] = tt
in_order s (c ∷ cs) = tells (is_accepted s c.1) refl (in_order (step s c.0 c.1).1 cs) where
  tells : (b : Bool) → is_accepted s c.1 ≡ b
      → IsInOrder (step s c.0 c.1).1.now (accepted_of (step s c.0 c.1).1 cs)
      → IsInOrder s.now ((if b then acceptance s c.0 c.1 ∷ [] else []) ++ accepted_of (step s c.0 c.1).1 cs)
  tells true e rest =
      (omega (arith), subst (λ (now : ℕ). IsInOrder now (accepted_of (step s c.0 c.1).1 cs)) (now_after s c.0 c.1 e) rest)
  tells false e rest =
      subst (λ (o : Operator). IsInOrder o.now (accepted_of (step s c.0 c.1).1 cs))
      (unaccepted_stays s c.0 c.1 (kept_under (key_in c.1) s.history.items) e) rest
