-- The requests of sessions that act, as one list, and what is answered in it.
use Rattle.std.proofs.Common.{◌≡◌, ℕ, zero, suc, ◌≤◌, List, [], ◌∷◌, ◌++◌, length, take, drop, refl, sym, ap, ◌∙◌, append_assoc, append-nil, arith}
use Rattle.std.proofs.Math.Seq.{drop-append_seam}
use Rattle.bike_commands.specs.declared.reply.Reply.{Reply}
use Rattle.bike_operator.specs.Operator.{Operator}
use Rattle.bike_operator.specs.Runs.{Call, step, after, replies}
use Rattle.bike_operator.specs.Sound.{IsSound, AreCalls}
use Rattle.bike_laws.proofs.RunLemmas.{after-append, replies-append}
use Rattle.bike_laws.proofs.OrderLemmas.{lists_sound}
use Rattle.bike_laws.proofs.RetryLemmas.{at_most_once, answered_again, refused_again, all_left_out}
use Rattle.bike_laws.specs.Sessions.{Session, IsSession, AreSessions, AreCallsOf, all_calls, after_sessions, answers_given, AcceptsOnce, AnswersAgain, RefusesOthers, LeavesRetriesOut}

pub calls-append : (xs ys : List Session) → all_calls (xs ++ ys) ≡ all_calls xs ++ all_calls ys
calls-append [] ys = refl
calls-append (x ∷ xs) ys = ap (λ (l : List Call). take x.acting x.calls ++ l) (calls-append xs ys) ∙ sym (append_assoc (take x.acting x.calls) (all_calls xs) (all_calls ys))

length_of_replies : (s : Operator) (cs : List Call) → length (replies s cs) ≡ length cs
length_of_replies s [] = refl
length_of_replies s (c ∷ cs) = ap suc (length_of_replies (step s c.0 c.1).1 cs)

-- the first replies to a front of a list, whatever follows it, are the first replies to the list
first_replies : (n a : ℕ) (s : Operator) (cs ds : List Call) → n ≤ a → a ≤ length cs → take n (replies s (take a cs ++ ds)) ≡ take n (replies s cs)
first_replies zero a s cs ds few within = refl
first_replies (suc n) zero s cs ds few within = absurd (omega (arith, few))
first_replies (suc n) (suc a) s [] ds few within = absurd (omega (arith, within))
first_replies (suc n) (suc a) s (c ∷ cs) ds few within =
    ap (λ (l : List Reply). (step s c.0 c.1).0 ∷ l) (first_replies n a (step s c.0 c.1).1 cs ds (omega (arith, few)) (omega (arith, within)))

pub replies-take : (n : ℕ) (s : Operator) (cs : List Call) → replies s (take n cs) ≡ take n (replies s cs)
replies-take zero s cs = refl
replies-take (suc n) s [] = refl
replies-take (suc n) s (c ∷ cs) = ap (λ (l : List Reply). (step s c.0 c.1).0 ∷ l) (replies-take n (step s c.0 c.1).1 cs)

-- behind the replies to a front stand the replies of the operator after it
replies_behind : (s : Operator) (cs ds : List Call) → drop (length cs) (replies s (cs ++ ds)) ≡ replies (after s cs) ds
replies_behind s cs ds =
    ap (λ (l : List Reply). drop (length cs) l) (replies-append s cs ds)
    ∙ ap (λ (n : ℕ). drop n (replies s cs ++ replies (after s cs) ds)) (sym (length_of_replies s cs))
    ∙ drop-append_seam (replies s cs) (replies (after s cs) ds)

pub answered_among_calls : (s : Operator) (xs ys : List Session) (x : Session) → IsSession x
    → take x.answered (replies (after_sessions s xs) x.calls) ≡ take x.answered (drop (length (all_calls xs)) (replies s (all_calls (xs ++ x ∷ ys))))
answered_among_calls s xs ys x good = sym (
    ap (λ (cs : List Call). take x.answered (drop (length (all_calls xs)) (replies s cs))) (calls-append xs (x ∷ ys))
    ∙ ap (λ (l : List Reply). take x.answered l) (replies_behind s (all_calls xs) (take x.acting x.calls ++ all_calls ys))
    ∙ first_replies x.answered x.acting (after s (all_calls xs)) x.calls (all_calls ys) good.answers good.few)

both_are : (cs ds : List Call) → AreCalls cs → AreCalls ds → AreCalls (cs ++ ds)
both_are [] ds a b = b
both_are (c ∷ cs) ds a b = (a.0, both_are cs ds a.1 b)

taken_are : (n : ℕ) (cs : List Call) → AreCalls cs → AreCalls (take n cs)
taken_are zero cs a = tt
taken_are (suc n) [] a = tt
taken_are (suc n) (c ∷ cs) a = (a.0, taken_are n cs a.1)

calls_are : (xs : List Session) → AreCallsOf xs → AreCalls (all_calls xs)
calls_are [] a = tt
calls_are (x ∷ xs) a = both_are (take x.acting x.calls) (all_calls xs) (taken_are x.acting x.calls a.0) (calls_are xs a.1)

pub sessions_sound : (s : Operator) (xs : List Session) → AreCallsOf xs → IsSound s → IsSound (after_sessions s xs)
sessions_sound s xs good sound = lists_sound s (all_calls xs) (calls_are xs good) sound

pub accepts_once : (s : Operator) (xs : List Session) → AcceptsOnce s xs
accepts_once s xs = λ key. at_most_once s key (all_calls xs)

pub answers_again : (s : Operator) (xs : List Session) → AnswersAgain s xs
answers_again s xs = λ before between later first next whole accepted key same.
    rw (after-append s before (first ∷ between)) (answered_again (after s before) first.0 next.0 first.1 next.1 between accepted key same)

pub refuses_others : (s : Operator) (xs : List Session) → RefusesOthers s xs
refuses_others s xs = λ before between later first next whole accepted key other.
    rw (after-append s before (first ∷ between)) (refused_again (after s before) first.0 next.0 first.1 next.1 between accepted key other)

pub leaves_retries_out : (s : Operator) (xs : List Session) → LeavesRetriesOut s xs
leaves_retries_out s xs = all_left_out s (all_calls xs)

-- a session more

pub sessions-next : (xs : List Session) (x : Session) → AreSessions xs → IsSession x → AreSessions (xs ++ x ∷ [])
sessions-next [] x are is = (is, tt)
sessions-next (y ∷ ys) x are is = (are.0, sessions-next ys x are.1 is)

pub after_sessions-next : (s : Operator) (xs : List Session) (x : Session)
    → after_sessions s (xs ++ x ∷ []) ≡ after (after_sessions s xs) (take x.acting x.calls)
after_sessions-next s xs x =
    ap (after s) (calls-append xs (x ∷ []))
    ∙ ap (λ (l : List Call). after s (all_calls xs ++ l)) (append-nil (take x.acting x.calls))
    ∙ after-append s (all_calls xs) (take x.acting x.calls)

-- what is answered in a session stands behind what was answered in those before it
pub answers-next : (s : Operator) (xs : List Session) (x : Session)
    → answers_given s (xs ++ x ∷ []) ≡ answers_given s xs ++ take x.answered (replies (after_sessions s xs) x.calls) ∷ []
answers-next s [] x = refl
answers-next s (y ∷ ys) x =
    let then = after s (take y.acting y.calls) in
    ap (λ (l : List (List Reply)). take y.answered (replies s y.calls) ∷ l) (
    answers-next then ys x
    ∙ ap (λ (o : Operator). answers_given then ys ++ take x.answered (replies o x.calls) ∷ []) (sym (after-append s (take y.acting y.calls) (all_calls ys))))
