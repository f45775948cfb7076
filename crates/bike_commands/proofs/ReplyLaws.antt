-- Replies are read exactly: both directions, kind by kind, then for the whole text.
use Rattle.std.proofs.Common.{◌≡◌, ℕ, ℤ, List, [], ◌∷◌, Bool, true, false, cond, Option, Some, None, refl, sym, ap, ◌∙◌, subst, inl, inr, lit<, codes, arith, pos, neg_ℤ}
use Rattle.std.specs.Prelude.{IfSome, find, ◌==◌}
use Rattle.std.specs.List.{slice_split, join_with_byte}
use Rattle.std.proofs.lemmas.Option.{option_and_then_some, same_Some, none-some}
use Rattle.std.proofs.lemmas.Bool.Decides.{eqb_tells}
use Rattle.std.proofs.lemmas.Int.{ints}
use Rattle.std.proofs.lemmas.List.Splits.{join_with_byte-slice_split}
use Rattle.bike_fixed.specs.declared.cents.TheConstants.{GREATEST_FARE}
use Rattle.bike_fixed.specs.Whole.{number_of as whole_of}
use Rattle.bike_texts.specs.Parts.{Parts}
use Rattle.bike_texts.specs.Fields.{Field, Number, Signed, Fixed, HasNoTab}
use Rattle.bike_texts.specs.Reading.{part_at, i64_of, fare_of}
use Rattle.bike_texts.proofs.Splitting.{is_tab}
use Rattle.bike_texts.proofs.TabFree.{AreRead, split_join, parts_no_tab, part_is}
use Rattle.bike_texts.proofs.Chains.{IsReader, number_reader, signed_reader, word_reader, Rest, takes, ends, gives, given_all, pick}
use Rattle.bike_texts.proofs.OneSpelling.{spelled_text, HaveOneText, one_spelling}
use Rattle.bike_commands.specs.declared.refusal.Refusal.{Refusal}
use Rattle.bike_commands.specs.declared.refusal.Refusal.TheVariants as r
use Rattle.bike_commands.specs.declared.reply.Reply.{Reply}
use Rattle.bike_commands.specs.declared.reply.Reply.TheVariants.{Done, Balance, Started, Ended, Ordered, Refused}
use Rattle.bike_commands.specs.Refusals.{number_of, name_of, refusals, refusal_of}
use Rattle.bike_commands.specs.Replies.{Any, reply_word, reply_fields, IsReply, reply_text}
use Rattle.bike_commands.specs.ReplyReaders.{done_at, balance_at, started_at, ended_at, ordered_at, named_at, refused_at, reply_by, reply_at}

-- ---- refusals

first_passes : {A : Type 0} (p : A → Bool) (y x : A) (more : Option A) (b : Bool) → p y ≡ b → cond b (Some y) more ≡ Some x → (more ≡ Some x → p x ≡ true) → p x ≡ true
first_passes p y x more true t e rest = ap p (sym (same_Some y x e)) ∙ t
first_passes p y x more false f e rest = rest e

-- what is found passes the test
found_passes : {A : Type 0} (p : A → Bool) (xs : List A) (x : A) → find p xs ≡ Some x → p x ≡ true
found_passes p [] x e = absurd cc
found_passes p (y ∷ ys) x e = first_passes p y x (find p ys) (p y) refl e (found_passes p ys x)

refusal_is : (refusal : Refusal) → refusal_of (number_of refusal) ≡ Some refusal
unfolding refusal_of
refusal_is r.UnknownStation = refl
refusal_is r.UnknownDock = refl
refusal_is r.UnknownBike = refl
refusal_is r.UnknownRider = refl
refusal_is r.UnknownRental = refl
refusal_is r.UnknownType = refl
refusal_is r.UnknownPlan = refl
refusal_is r.UnknownTruck = refl
refusal_is r.UnknownOrder = refl
refusal_is r.AlreadyThere = refl
refusal_is r.BadField = refl
refusal_is r.DockEmpty = refl
refusal_is r.DockFull = refl
refusal_is r.DockBroken = refl
refusal_is r.BikeDisabled = refl
refusal_is r.NotRenting = refl
refusal_is r.NotReturning = refl
refusal_is r.RiderBlocked = refl
refusal_is r.BalanceNegative = refl
refusal_is r.RiderIsRiding = refl
refusal_is r.NotRented = refl
refusal_is r.NotInDepot = refl
refusal_is r.BikeRetired = refl
refusal_is r.TruckTooSmall = refl
refusal_is r.WrongPlace = refl
refusal_is r.WrongType = refl
refusal_is r.OrderClosed = refl
refusal_is r.OrderFilled = refl
refusal_is r.BikesOnTruck = refl
refusal_is r.RefundTooLarge = refl
refusal_is r.RentalOpen = refl
refusal_is r.LimitReached = refl
refusal_is r.KeyReused = refl
refusal_is r.TruckFull = refl
refusal_is r.RentalClosed = refl
refusal_is r.WrongTruckOrEnds = refl
refusal_is r.UnknownRegion = refl
refusal_is r.SystemMissing = refl
refusal_is r.UnknownName = refl

name_no_tab : (refusal : Refusal) → HasNoTab (name_of refusal)
name_no_tab r.UnknownStation = refl
name_no_tab r.UnknownDock = refl
name_no_tab r.UnknownBike = refl
name_no_tab r.UnknownRider = refl
name_no_tab r.UnknownRental = refl
name_no_tab r.UnknownType = refl
name_no_tab r.UnknownPlan = refl
name_no_tab r.UnknownTruck = refl
name_no_tab r.UnknownOrder = refl
name_no_tab r.AlreadyThere = refl
name_no_tab r.BadField = refl
name_no_tab r.DockEmpty = refl
name_no_tab r.DockFull = refl
name_no_tab r.DockBroken = refl
name_no_tab r.BikeDisabled = refl
name_no_tab r.NotRenting = refl
name_no_tab r.NotReturning = refl
name_no_tab r.RiderBlocked = refl
name_no_tab r.BalanceNegative = refl
name_no_tab r.RiderIsRiding = refl
name_no_tab r.NotRented = refl
name_no_tab r.NotInDepot = refl
name_no_tab r.BikeRetired = refl
name_no_tab r.TruckTooSmall = refl
name_no_tab r.WrongPlace = refl
name_no_tab r.WrongType = refl
name_no_tab r.OrderClosed = refl
name_no_tab r.OrderFilled = refl
name_no_tab r.BikesOnTruck = refl
name_no_tab r.RefundTooLarge = refl
name_no_tab r.RentalOpen = refl
name_no_tab r.LimitReached = refl
name_no_tab r.KeyReused = refl
name_no_tab r.TruckFull = refl
name_no_tab r.RentalClosed = refl
name_no_tab r.WrongTruckOrEnds = refl
name_no_tab r.UnknownRegion = refl
name_no_tab r.SystemMissing = refl
name_no_tab r.UnknownName = refl

refusal_sound : (number : ℕ) (refusal : Refusal) → refusal_of number ≡ Some refusal → number ≡ number_of refusal
unfolding refusal_of
refusal_sound number refusal e = elim (eqb_tells (number_of refusal) number) [
  | inl w ↦ sym w.1
  | inr w ↦ absurd (let t = found_passes (λ x. number_of x == number) refusals refusal e in let f = w.0 in cc)
]

-- a look-up that finds what has the number, wherever something has it, is the definition's
pub refusal_found : (number : ℕ) (found : Option Refusal) → IfSome found (λ refusal. number_of refusal ≡ number) → ((refusal : Refusal) → number_of refusal ≡ number → found ≡ Some refusal)
    → refusal_of number ≡ found
refusal_found number (Some refusal) is only = ap refusal_of (sym is) ∙ refusal_is refusal
refusal_found number None is only = none (refusal_of number) refl where
  none : (o : Option Refusal) → refusal_of number ≡ o → o ≡ None
  none None e = refl
  none (Some refusal) e = absurd (none-some refusal (only refusal (sym (refusal_sound number refusal e))))

-- ---- each kind

abbrev pub Left : List ℕ → Reply → List Field → Parts → Type 0
Left = Rest reply_word reply_fields

balance_reader : IsReader i64_of Any
balance_reader = signed_reader (neg_ℤ (pos 9223372036854775808)) (pos 9223372036854775807) (omega (arith, ints)) (omega (arith, ints))

fare_reader : IsReader fare_of (Signed (pos 0) GREATEST_FARE)
fare_reader = signed_reader (pos 0) GREATEST_FARE (omega (arith, ints)) (omega (arith, ints))

serial_reader : IsReader (whole_of 1 100000000) (Number 1 100000000)
serial_reader = number_reader 1 100000000 (lit< tt)

bike_reader : IsReader (whole_of 1 999999) (Number 1 999999)
bike_reader = number_reader 1 999999 (lit< tt)

refusal_number : IsReader (whole_of 1 39) (Number 1 39)
refusal_number = number_reader 1 39 (lit< tt)

done_sound : (ps : Parts) (reply : Reply) → done_at ps ≡ Some reply → Left (codes "ok") reply [] ps
unfolding done_at
done_sound ps reply e = ends Done ps refl refl e

done_full : (ps : Parts) → AreRead [] ps → done_at ps ≡ Some Done
unfolding done_at
done_full ps e = given_all ps e

balance_sound : (ps : Parts) (reply : Reply) → balance_at ps ≡ Some reply → Left (codes "balance") reply [] ps
unfolding balance_at
balance_sound ps reply e = takes _ ps balance_reader e (λ z ps e. ends (Balance z) ps refl refl e)

balance_full : (z : ℤ) (ps : Parts) → AreRead (Any z ∷ []) ps → balance_at ps ≡ Some (Balance z)
unfolding balance_at
balance_full z ps e = gives _ z ps balance_reader e given_all

started_sound : (ps : Parts) (reply : Reply) → started_at ps ≡ Some reply → Left (codes "rental") reply [] ps
unfolding started_at
started_sound ps reply e = takes _ ps serial_reader e (λ n ps e. takes _ ps bike_reader e (λ b ps e. ends (Started n b) ps refl refl e))

started_full : (rental bike : ℕ) (ps : Parts) → AreRead (reply_fields (Started rental bike)) ps → started_at ps ≡ Some (Started rental bike)
unfolding started_at
started_full rental bike ps e = gives _ rental ps serial_reader e (λ ps e. gives _ bike ps bike_reader e given_all)

ended_sound : (ps : Parts) (reply : Reply) → ended_at ps ≡ Some reply → Left (codes "fare") reply [] ps
unfolding ended_at
ended_sound ps reply e = takes _ ps fare_reader e (λ f ps e. takes _ ps balance_reader e (λ z ps e. ends (Ended f z) ps refl refl e))

ended_full : (fare balance : ℤ) (ps : Parts) → AreRead (reply_fields (Ended fare balance)) ps → ended_at ps ≡ Some (Ended fare balance)
unfolding ended_at
ended_full fare balance ps e = gives _ fare ps fare_reader e (λ ps e. gives _ balance ps balance_reader e given_all)

ordered_sound : (ps : Parts) (reply : Reply) → ordered_at ps ≡ Some reply → Left (codes "order") reply [] ps
unfolding ordered_at
ordered_sound ps reply e = takes _ ps serial_reader e (λ n ps e. ends (Ordered n) ps refl refl e)

ordered_full : (order : ℕ) (ps : Parts) → AreRead (reply_fields (Ordered order)) ps → ordered_at ps ≡ Some (Ordered order)
unfolding ordered_at
ordered_full order ps e = gives _ order ps serial_reader e given_all

named_sound : (refusal : Refusal) (ps : Parts) (reply : Reply) → named_at refusal ps ≡ Some reply → Left (codes "refused") reply (Number 1 39 (number_of refusal) ∷ []) ps
unfolding named_at
named_sound refusal ps reply e = takes _ ps (word_reader (name_of refusal) (name_no_tab refusal)) e (λ u ps e. ends (Refused refusal) ps refl refl e)

named_full : (refusal : Refusal) (ps : Parts) → AreRead (Fixed (name_of refusal) ∷ []) ps → named_at refusal ps ≡ Some (Refused refusal)
unfolding named_at
named_full refusal ps e = gives _ tt ps (word_reader (name_of refusal) (name_no_tab refusal)) e given_all

refused_sound : (ps : Parts) (reply : Reply) → refused_at ps ≡ Some reply → Left (codes "refused") reply [] ps
unfolding refused_at
refused_sound ps reply e = takes _ ps refusal_number e (λ n ps e.
    option_and_then_some (λ refusal. named_at refusal ps) (refusal_of n) reply e (λ refusal found named.
    subst (λ (k : ℕ). Left (codes "refused") reply (Number 1 39 k ∷ []) ps) (sym (refusal_sound n refusal found)) (named_sound refusal ps reply named)))

refused_full : (refusal : Refusal) (ps : Parts) → AreRead (reply_fields (Refused refusal)) ps → refused_at ps ≡ Some (Refused refusal)
unfolding refused_at
refused_full refusal ps e = gives _ (number_of refusal) ps refusal_number e (λ ps e. rw (refusal_is refusal) (named_full refusal ps e))

by_word_sound : (word : List ℕ) (ps : Parts) (reply : Reply) → reply_by word ps ≡ Some reply → Left word reply [] ps
unfolding reply_by
by_word_sound word ps reply e =
    pick e (λ w e. subst (λ v. Left v reply [] ps) (sym w) (done_sound ps reply e)) (λ e.
    pick e (λ w e. subst (λ v. Left v reply [] ps) (sym w) (balance_sound ps reply e)) (λ e.
    pick e (λ w e. subst (λ v. Left v reply [] ps) (sym w) (started_sound ps reply e)) (λ e.
    pick e (λ w e. subst (λ v. Left v reply [] ps) (sym w) (ended_sound ps reply e)) (λ e.
    pick e (λ w e. subst (λ v. Left v reply [] ps) (sym w) (ordered_sound ps reply e)) (λ e.
    pick e (λ w e. subst (λ v. Left v reply [] ps) (sym w) (refused_sound ps reply e)) (λ e. absurd cc))))))

by_word_full : (reply : Reply) (ps : Parts) → AreRead (reply_fields reply) ps → reply_by (reply_word reply) ps ≡ Some reply
unfolding reply_by
by_word_full Done ps e = done_full ps e
by_word_full (Balance z) ps e = balance_full z ps e
by_word_full (Started rental bike) ps e = started_full rental bike ps e
by_word_full (Ended fare balance) ps e = ended_full fare balance ps e
by_word_full (Ordered order) ps e = ordered_full order ps e
by_word_full (Refused refusal) ps e = refused_full refusal ps e

reply_word_no_tab : (reply : Reply) → HasNoTab (reply_word reply)
reply_word_no_tab Done = refl
reply_word_no_tab (Balance z) = refl
reply_word_no_tab (Started rental bike) = refl
reply_word_no_tab (Ended fare balance) = refl
reply_word_no_tab (Ordered order) = refl
reply_word_no_tab (Refused refusal) = refl

reply_one_text : (reply : Reply) → HaveOneText (reply_fields reply)
reply_one_text Done = tt
reply_one_text (Balance z) = (tt, tt)
reply_one_text (Started rental bike) = (tt, (tt, tt))
reply_one_text (Ended fare balance) = (tt, (tt, tt))
reply_one_text (Ordered order) = (tt, tt)
reply_one_text (Refused refusal) = (tt, (tt, tt))

-- ---- the whole text

-- the text is the reply's, whose numbers keep their bounds
pub record IsReadReply (text : List ℕ) (reply : Reply) : Type 0 where
  pub spelled : text ≡ reply_text reply
  pub good : IsReply reply

pub reply_sound : (text : List ℕ) (reply : Reply) → reply_at (slice_split is_tab text) ≡ Some reply → IsReadReply text reply
unfolding reply_at
reply_sound text reply e =
    option_and_then_some (λ x. reply_by x.0 x.1) (part_at (slice_split is_tab text)) reply e (λ x p s.
    let rest = by_word_sound x.0 x.1 reply s in
    let read : AreRead (reply_fields reply) x.1 = subst (λ (fs : List Field). AreRead fs x.1) (sym rest.whole) rest.read in
    let parts : slice_split is_tab text ≡ reply_word reply ∷ x.1 = part_is (slice_split is_tab text) x p ∙ ap (λ (w : List ℕ). w ∷ x.1) rest.word_is in
    record {
      spelled = sym (join_with_byte-slice_split 9 text) ∙ ap (join_with_byte 9) parts ∙ one_spelling (reply_word reply) (reply_fields reply) x.1 (reply_one_text reply) read;
      good = read.good;
    })

pub reply_full : (text : List ℕ) (reply : Reply) → IsReadReply text reply → reply_at (slice_split is_tab text) ≡ Some reply
unfolding reply_at
reply_full text reply h =
    let written = spelled_text (reply_word reply) (reply_fields reply) h.good in
    let read : AreRead (reply_fields reply) written.parts = record { each = written.each; good = h.good } in
    let split : slice_split is_tab text ≡ reply_word reply ∷ written.parts = ap (slice_split is_tab) (h.spelled ∙ written.joined) ∙ split_join (reply_word reply) written.parts (reply_word_no_tab reply) (parts_no_tab (reply_fields reply) written.parts read) in
    rw split (by_word_full reply written.parts read)

pub read_found : (text : List ℕ) (o : Option Reply) → o ≡ reply_at (slice_split is_tab text) → IfSome o (λ r. (text ≡ reply_text r) × IsReply r)
read_found text None e = tt
read_found text (Some r) e = let s = reply_sound text r (sym e) in (s.spelled, s.good)

pub read_only : (text : List ℕ) (o : Option Reply) → o ≡ reply_at (slice_split is_tab text) → (r : Reply) → IsReply r → text ≡ reply_text r → o ≡ Some r
read_only text o e r good spelled = e ∙ reply_full text r (record { spelled = spelled; good = good })
