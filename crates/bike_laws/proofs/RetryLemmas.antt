-- What is kept, and requests that come again.
use Rattle.std.proofs.Common.{◌≡◌, ℕ, zero, suc, ◌+◌, ◌≤◌, List, [], ◌∷◌, ◌++◌, Bool, true, false, cond, Option, Some, None, refl, sym, ap, ◌∙◌, arith}
use Rattle.std.specs.Prelude.{max, is_none, is_some, ◌&&◌}
use Rattle.std.specs.FinMap as finmap
use Rattle.std.proofs.lemmas.Option.{same_Some}
use Rattle.std.specs.Ordering.{eq_by_cmp, is_eq}
use Rattle.std.specs.declared.cmp.Ordering.{Ordering}
use Rattle.std.specs.declared.cmp.Ordering.TheVariants.{Less, Equal, Greater}
use Rattle.std.specs.Cmp.{IsTotalOrder, tied_itself}
use Rattle.std.specs.Cmp.Lexicographic.{nat_list_cmp_total, lists_total}
use Rattle.bike_commands.specs.declared.reply.Reply.{Reply}
use Rattle.bike_commands.specs.declared.reply.Reply.TheVariants.{Refused}
use Rattle.bike_commands.specs.declared.refusal.Refusal.{Refusal}
use Rattle.bike_commands.specs.declared.refusal.Refusal.TheVariants as refusal
use Rattle.bike_commands.specs.declared.request.Request.{Request}
use Rattle.bike_operator.specs.Operator.{Operator, AcceptedRequest, Key, key_in, kept_under, texts_cmp, item_at, with_item, Numbered}
use Rattle.bike_operator.specs.Steps.{refusal_of, reply_of}
use Rattle.bike_operator.specs.Runs.{Call, is_same, step, after, after_acceptance, outcome, outcome_with_kept}
use Rattle.bike_laws.specs.Retries.{is_kept, is_accepted, acceptance, Keeps, accepts, times_accepted, without_retries}
use Rattle.bike_laws.proofs.FoundLemmas.{both_true, nothing}
use Rattle.bike_laws.proofs.RunLemmas.{after-append}

pub texts_total : IsTotalOrder texts_cmp
texts_total = lists_total nat_list_cmp_total

pub texts_same : finmap.IsAntisymmetric texts_cmp
texts_same = finmap.slice_cmp-IsAntisymmetric (finmap.slice_cmp-IsAntisymmetric finmap.nat_cmp-IsAntisymmetric)

pub key_itself : (key : Key) → eq_by_cmp texts_cmp key key ≡ true
key_itself key = ap is_eq (tied_itself texts_total key)

pub same_key : (a b : Key) → eq_by_cmp texts_cmp a b ≡ true → a ≡ b
same_key a b e = tells (texts_cmp a b) refl e where
  tells : (r : Ordering) → texts_cmp a b ≡ r → is_eq r ≡ true → a ≡ b
  tells Less is e = absurd cc
  tells Equal is e = texts_same a b is
  tells Greater is e = absurd cc

-- ---- what a history keeps

-- what is kept stays so, whatever is accepted behind it
pub kept_on : (key : Key) (h l : List AcceptedRequest) (a : AcceptedRequest) → kept_under key h ≡ Some a → kept_under key (h ++ l) ≡ Some a
kept_on key [] l a e = absurd cc
kept_on key (x ∷ h) l a e = go (eq_by_cmp texts_cmp key (key_in x.request)) e (kept_on key h l a) where
  go : (b : Bool) → cond b (Some x) (kept_under key h) ≡ Some a → (kept_under key h ≡ Some a → kept_under key (h ++ l) ≡ Some a)
      → cond b (Some x) (kept_under key (h ++ l)) ≡ Some a
  go true e behind = e
  go false e behind = behind e

-- the last of a history is kept where none before it has its caller and key
pub kept_last : (key : Key) (h : List AcceptedRequest) (a : AcceptedRequest) → kept_under key h ≡ None
    → kept_under key (h ++ a ∷ []) ≡ cond (eq_by_cmp texts_cmp key (key_in a.request)) (Some a) None
kept_last key [] a e = refl
kept_last key (x ∷ h) a e = go (eq_by_cmp texts_cmp key (key_in x.request)) e (kept_last key h a) where
  go : (b : Bool) → cond b (Some x) (kept_under key h) ≡ None
      → (kept_under key h ≡ None → kept_under key (h ++ a ∷ []) ≡ cond (eq_by_cmp texts_cmp key (key_in a.request)) (Some a) None)
      → cond b (Some x) (kept_under key (h ++ a ∷ [])) ≡ cond (eq_by_cmp texts_cmp key (key_in a.request)) (Some a) None
  go true e behind = absurd cc
  go false e behind = behind e

-- no request of a history has a caller and key that it doesn't keep
pub none_under : (key : Key) (h : List AcceptedRequest) (n : ℕ) (a : AcceptedRequest) → kept_under key h ≡ None → item_at n h ≡ Some a
    → eq_by_cmp texts_cmp key (key_in a.request) ≡ false
none_under key [] n a e found = absurd cc
none_under key (x ∷ h) n a e found = go (eq_by_cmp texts_cmp key (key_in x.request)) refl n e found (λ k. none_under key h k a) where
  go : (b : Bool) → eq_by_cmp texts_cmp key (key_in x.request) ≡ b → (n : ℕ) → cond b (Some x) (kept_under key h) ≡ None → item_at n (x ∷ h) ≡ Some a
      → ((k : ℕ) → kept_under key h ≡ None → item_at k h ≡ Some a → eq_by_cmp texts_cmp key (key_in a.request) ≡ false)
      → eq_by_cmp texts_cmp key (key_in a.request) ≡ false
  go true is n e found behind = absurd cc
  go false is zero e found behind = ap (λ (y : AcceptedRequest). eq_by_cmp texts_cmp key (key_in y.request)) (sym (same_Some x a found)) ∙ is
  go false is (suc n) e found behind = behind n e found

-- ---- one step

-- where the key is kept, nothing changes
kept_step : (s : Operator) (t : ℕ) (q : Request) (a : AcceptedRequest) → kept_under (key_in q) s.history.items ≡ Some a → step s t q ≡ outcome_with_kept s t q (Some a)
kept_step s t q a e = ap (outcome_with_kept s t q) e

kept_stays_put : (s : Operator) (t : ℕ) (q : Request) (o : Option AcceptedRequest) → is_some o ≡ true → (outcome_with_kept s t q o).1 ≡ s
kept_stays_put s t q None e = absurd cc
kept_stays_put s t q (Some a) e = refl

-- an accepted request
pub accepted_step : (s : Operator) (t : ℕ) (q : Request) → is_accepted s q ≡ true → step s t q ≡ (reply_of s (max t s.now) q.command, after_acceptance s (max t s.now) q)
accepted_step s t q e =
    let parts = both_true (is_none (kept_under (key_in q) s.history.items)) (is_none (refusal_of s q.command)) e in
    ap (outcome_with_kept s t q) (nothing (kept_under (key_in q) s.history.items) parts.0) ∙ ap (outcome s (max t s.now) q) (nothing (refusal_of s q.command) parts.1)

-- it stands at the end of the history
pub accepted_last : (s : Operator) (t : ℕ) (q : Request) → is_accepted s q ≡ true → (step s t q).1.history ≡ with_item (acceptance s t q) s.history
accepted_last s t q e =
    let is = accepted_step s t q e in
    ap (λ (r : Reply × Operator). r.1.history) is
    ∙ ap (λ (r : Reply × Operator). with_item (record { moment = max t s.now; request = q; reply = r.0 }) s.history) (sym is)

pub first_kept : (s : Operator) (t : ℕ) (q : Request) → is_accepted s q ≡ true → Keeps (step s t q).1 (acceptance s t q)
first_kept s t q e =
    let parts = both_true (is_none (kept_under (key_in q) s.history.items)) (is_none (refusal_of s q.command)) e in
    ap (λ (h : Numbered AcceptedRequest). kept_under (key_in q) h.items) (accepted_last s t q e)
    ∙ kept_last (key_in q) s.history.items (acceptance s t q) (nothing (kept_under (key_in q) s.history.items) parts.0)
    ∙ ap (λ b. cond b (Some (acceptance s t q)) None) (key_itself (key_in q))

-- what is kept stays so through a step
decided_keeps : (s : Operator) (now : ℕ) (q : Request) (o : Option Refusal) (key : Key) (a : AcceptedRequest) → kept_under key s.history.items ≡ Some a
    → kept_under key (outcome s now q o).1.history.items ≡ Some a
decided_keeps s now q (Some r) key a some = some
decided_keeps s now q None key a some = kept_on key s.history.items _ a some

answered_keeps : (s : Operator) (t : ℕ) (q : Request) (o : Option AcceptedRequest) (key : Key) (a : AcceptedRequest) → kept_under key s.history.items ≡ Some a
    → kept_under key (outcome_with_kept s t q o).1.history.items ≡ Some a
answered_keeps s t q (Some kept) key a some = some
answered_keeps s t q None key a some = decided_keeps s (max t s.now) q (refusal_of s q.command) key a some

step_keeps : (s : Operator) (t : ℕ) (q : Request) (key : Key) (a : AcceptedRequest) → kept_under key s.history.items ≡ Some a → kept_under key (step s t q).1.history.items ≡ Some a
step_keeps s t q key a some = answered_keeps s t q (kept_under (key_in q) s.history.items) key a some

-- ---- lists

keeps_on : (s : Operator) (cs : List Call) (key : Key) (a : AcceptedRequest) → kept_under key s.history.items ≡ Some a → kept_under key (after s cs).history.items ≡ Some a
keeps_on s [] key a some = some
keeps_on s (c ∷ cs) key a some = keeps_on (step s c.0 c.1).1 cs key a (step_keeps s c.0 c.1 key a some)

pub stays_kept : (s : Operator) (cs : List Call) (a : AcceptedRequest) → Keeps s a → Keeps (after s cs) a
stays_kept s cs a some = keeps_on s cs (key_in a.request) a some

-- the first request is still kept when a request with its caller and key comes
kept_later : (s : Operator) (t : ℕ) (q p : Request) (cs : List Call) → is_accepted s q ≡ true → key_in p ≡ key_in q
    → kept_under (key_in p) (after (step s t q).1 cs).history.items ≡ Some (acceptance s t q)
kept_later s t q p cs e i =
    ap (λ (k : Key). kept_under k (after (step s t q).1 cs).history.items) i
    ∙ stays_kept (step s t q).1 cs (acceptance s t q) (first_kept s t q e)

pub answered_again : (s : Operator) (t u : ℕ) (q p : Request) (cs : List Call) → is_accepted s q ≡ true → key_in p ≡ key_in q → is_same q.command p.command ≡ true
    → step (after (step s t q).1 cs) u p ≡ ((step s t q).0, after (step s t q).1 cs)
answered_again s t u q p cs e i same =
    kept_step (after (step s t q).1 cs) u p (acceptance s t q) (kept_later s t q p cs e i)
    ∙ ap (λ b. (cond b (step s t q).0 (Refused refusal.KeyReused), after (step s t q).1 cs)) same

pub refused_again : (s : Operator) (t u : ℕ) (q p : Request) (cs : List Call) → is_accepted s q ≡ true → key_in p ≡ key_in q → is_same q.command p.command ≡ false
    → step (after (step s t q).1 cs) u p ≡ (Refused refusal.KeyReused, after (step s t q).1 cs)
refused_again s t u q p cs e i other =
    kept_step (after (step s t q).1 cs) u p (acceptance s t q) (kept_later s t q p cs e i)
    ∙ ap (λ b. (cond b (step s t q).0 (Refused refusal.KeyReused), after (step s t q).1 cs)) other

-- ---- acceptance

none_accepted : (s : Operator) (key : Key) (q : Request) (k : AcceptedRequest) → kept_under key s.history.items ≡ Some k → accepts s key q ≡ false
none_accepted s key q k some = tells (eq_by_cmp texts_cmp key (key_in q)) refl where
  tells : (b : Bool) → eq_by_cmp texts_cmp key (key_in q) ≡ b → (b && is_accepted s q) ≡ false
  tells true e = ap (λ (o : Option AcceptedRequest). is_none o && is_none (refusal_of s q.command)) (ap (λ (z : Key). kept_under z s.history.items) (sym (same_key key (key_in q) e)) ∙ some)
  tells false e = refl

no_times : (s : Operator) (key : Key) (k : AcceptedRequest) (cs : List Call) → kept_under key s.history.items ≡ Some k → times_accepted s key cs ≡ 0
no_times s key k [] some = refl
no_times s key k (c ∷ cs) some =
    let later = no_times (step s c.0 c.1).1 key k cs (step_keeps s c.0 c.1 key k some) in
    let first = ap {B = ℕ} (λ b. cond b 1 0) (none_accepted s key c.1 k some) in
    omega (arith, later, first)

pub at_most_once : (s : Operator) (key : Key) (cs : List Call) → times_accepted s key cs ≤ 1
at_most_once s key [] = omega arith
at_most_once s key (c ∷ cs) = tells (accepts s key c.1) refl (at_most_once (step s c.0 c.1).1 key cs) where
  then_none : accepts s key c.1 ≡ true → times_accepted (step s c.0 c.1).1 key cs ≡ 0
  then_none e =
      let parts = both_true (eq_by_cmp texts_cmp key (key_in c.1)) (is_accepted s c.1) e in
      no_times (step s c.0 c.1).1 key (acceptance s c.0 c.1) cs
      (ap (λ (z : Key). kept_under z (step s c.0 c.1).1.history.items) (same_key key (key_in c.1) parts.0) ∙ first_kept s c.0 c.1 parts.1)

  tells : (b : Bool) → accepts s key c.1 ≡ b → times_accepted (step s c.0 c.1).1 key cs ≤ 1 → cond b 1 0 + times_accepted (step s c.0 c.1).1 key cs ≤ 1
  tells true e later = let none = then_none e in omega (arith, none)
  tells false e later = omega (arith, later)

-- ---- lists without retries

pub one_left_out : (s : Operator) (cs ds : List Call) (c : Call) → is_kept (after s cs) c.1 ≡ true → after s (cs ++ c ∷ ds) ≡ after s (cs ++ ds)
one_left_out s cs ds c kept =
    after-append s cs (c ∷ ds)
    ∙ ap (λ (r : Operator). after r ds) (kept_stays_put (after s cs) c.0 c.1 (kept_under (key_in c.1) (after s cs).history.items) kept)
    ∙ sym (after-append s cs ds)

pub all_left_out : (s : Operator) (cs : List Call) → after s (without_retries s cs) ≡ after s cs
all_left_out s [] = refl
all_left_out s (c ∷ cs) = tells (is_kept s c.1) refl (all_left_out s cs) (all_left_out (step s c.0 c.1).1 cs) where
  tells : (b : Bool) → is_kept s c.1 ≡ b → after s (without_retries s cs) ≡ after s cs → after (step s c.0 c.1).1 (without_retries (step s c.0 c.1).1 cs) ≡ after (step s c.0 c.1).1 cs
      → after s (cond b (without_retries s cs) (c ∷ without_retries (step s c.0 c.1).1 cs)) ≡ after s (c ∷ cs)
  tells true e here later = here ∙ ap (λ (r : Operator). after r cs) (sym (kept_stays_put s c.0 c.1 (kept_under (key_in c.1) s.history.items) e))
  tells false e here later = later
