-- How one exchange ends, whose bytes are known.
use Rattle.std.proofs.Common.{◌≡◌, ◌⊎◌, ℕ, List, [], take, drop, refl, sym, subst, ap, ◌∙◌, take-append-drop, Bool, true, false, IsTrue, Option, Some, None, Result, Ok, Err, IsSomeAnd, inl, inr}
use Rattle.std.specs.Io.KnownBytes.{Keeps}
use Rattle.sqlite_trees.specs.declared.store.Store.{Ghosts}
use Rattle.bike_operator.specs.Operator.{Operator}
use Rattle.bike_schema.specs.Stands.{AllLeft}
use Rattle.bike_desk.specs.Desk.{DeskValue, desk_state, IsAt, TreesStandForEither}
use Rattle.bike_http.specs.Exchange.{Response, bytes_of, response_status, Answers}
use Rattle.bike_http.specs.Telling.{unavailable, IsUndone, TellsFor, Serves, Rests}
use Rattle.bike_http.specs.declared.exchange.Served.{Served}
use Rattle.bike_http.specs.declared.exchange.Served.TheVariants.{Empty, Status}
use Rattle.bike_http.specs.declared.exchange.ServeFault.{ServeFault}
use Rattle.bike_http.specs.declared.exchange.ServeFault.TheVariants.{Read, Write, Cut}
use Rattle.bike_http.proofs.Told.{tells_any}
use Rattle.bike_http_connection.specs.Asking.{Coming, AsksAs}
use Rattle.bike_server.specs.Answering.{BeginsWith, IsResponse, IsRefused, StopsAt, Exchanges}

-- ---- bytes

begins-take : (k : ℕ) (bytes : List ℕ) → BeginsWith bytes (take k bytes)
begins-take k bytes = (drop k bytes, sym (take-append-drop k bytes))

-- known bytes stay known
pub known_keeps : (known : Option (List ℕ)) → Keeps known known
known_keeps None = tt
known_keeps (Some bytes) = refl

split : (b : Bool) → (b ≡ false) ⊎ (b ≡ true)
split false = inl refl
split true = inr refl

-- ---- the desk

module _ {S : Type 0} (g : Ghosts S) (desk : DeskValue S) (s : Operator) (coming : Coming) (read : List ℕ) (asks : AsksAs read coming.input) where
  -- what is read asks for what the client asks for
  heard : (response : Response) (next : Operator) → Answers (Some read) s coming.moment response next → Answers (Some coming.input) s coming.moment response next
  heard response next it = record { asked = it.asked; received = asks (Some it.asked) it.received; good = it.good; gives = it.gives; leads = it.leads }

  -- the desk stopped at what was asked
  abbrev Halts : Type 0
  Halts = (response : Response) × (next : Operator) × Answers (Some coming.input) s coming.moment response next × IsTrue desk.is_stopped
      × AllLeft (desk_state g desk) (TreesStandForEither s next)

  halted : (it : Halts) (served : Result Served ServeFault) (sent : List ℕ) → IsRefused it.0 served sent
      → StopsAt g desk s coming (record { served = served; sent = sent })
  halted it served sent refused = record { stopped = it.3; response = it.0; next = it.1; asks = it.2; refused = refused; left = it.4 }

  undone : (response : Response) (next : Operator) → Answers (Some read) s coming.moment response next → IsUndone g desk s next → IsAt g desk s ⊎ Halts
  undone response next answers it = elim (split desk.is_stopped) [
    | inl on ↦ inl (it.goes_on on)
    | inr off ↦ inr (response, next, heard response next answers, off, it.left)
  ]

  told : (response : Response) → TellsFor g desk s coming.moment (Some read) response
      → ((next : Operator) × IsResponse s coming response next × IsAt g desk next) ⊎ ((response ≡ unavailable) × Halts)
  told response (inl it) = inl (s, inr (it.0, refl), it.2)
  told response (inr it) = elim (tells_any g desk s it.answers.asked it.told) [
    | inl same ↦ inl (it.next, inl (subst (λ (r : Response). Answers (Some coming.input) s coming.moment r it.next) (sym same.0) (heard it.response it.next it.answers)), same.1)
    | inr none ↦ elim (undone it.response it.next it.answers none.1) [
      | inl at ↦ inl (s, inr (none.0, refl), at)
      | inr halts ↦ inr (none.0, halts)
    ]
  ]

  -- what was written is sent
  whole : (old : DeskValue S) (sent : List ℕ) (served : Result Served ServeFault) → IsAt g old s
      → Rests old desk (Some []) (Some sent) served → Serves g desk s coming.moment (Some read) (Some []) (Some sent) served
      → Exchanges g desk s coming (record { served = served; sent = sent })
  whole old sent (Ok Empty) at rests it = inl (s, (asks None it, rests.1, refl), subst (λ (d : DeskValue S). IsAt g d s) (sym rests.0) at)
  whole old sent (Ok (Status status)) at rests it = elim (told it.0 it.1) [
    | inl on ↦ inl (on.0, (it.0, on.1, it.2, it.3), on.2)
    | inr off ↦ inr (halted off.1 (Ok (Status status)) sent (it.2 ∙ ap response_status off.0, it.3 ∙ ap bytes_of off.0))
  ]
  whole old sent (Err Read) at rests it = inl (s, (rests.1, refl), subst (λ (d : DeskValue S). IsAt g d s) (sym rests.0) at)
  whole old sent (Err Write) at rests it =
      let begins : BeginsWith (bytes_of it.0) sent =
      subst (λ (xs : List ℕ). BeginsWith (bytes_of it.0) xs) (sym it.2.2) (begins-take it.2.0 (bytes_of it.0))
      in
      elim (told it.0 it.1) [
        | inl on ↦ inl (on.0, (it.0, on.1, begins), on.2)
        | inr off ↦ inr (halted off.1 (Err Write) sent (subst (λ (r : Response). BeginsWith (bytes_of r) sent) off.0 begins))
      ]
  whole old sent (Err Cut) at rests it = absurd it

  -- what was written is known
  written_known : (old : DeskValue S) (after : Option (List ℕ)) (served : Result Served ServeFault)
      → Rests old desk (Some []) after served → Serves g desk s coming.moment (Some read) (Some []) after served
      → (written : List ℕ) × (after ≡ Some written)
  written_known old (Some written) served rests it = (written, refl)
  written_known old None (Ok Empty) rests it = absurd rests.1
  written_known old None (Ok (Status status)) rests it = absurd it.3
  written_known old None (Err Read) rests it = absurd rests.1
  written_known old None (Err Write) rests it = absurd it.2.2
  written_known old None (Err Cut) rests it = absurd it

  -- how an exchange ends, by what was written
  pub exchanges : (old : DeskValue S) (input before after : Option (List ℕ)) (served : Result Served ServeFault)
      → input ≡ Some read → before ≡ Some [] → IsAt g old s → Rests old desk before after served
      → Serves g desk s coming.moment input before after served
      → IsSomeAnd after (λ sent. Exchanges g desk s coming (record { served = served; sent = sent }))
  exchanges old input before after served comes none at rests serves =
      let served_now : Serves g desk s coming.moment (Some read) (Some []) after served =
      subst (λ (i : Option (List ℕ)). Serves g desk s coming.moment i (Some []) after served) comes
      (subst (λ (b : Option (List ℕ)). Serves g desk s coming.moment input b after served) none serves)
      in
      let rests_now : Rests old desk (Some []) after served = subst (λ (b : Option (List ℕ)). Rests old desk b after served) none rests in
      let known = written_known old after served rests_now served_now in
      subst (λ (o : Option (List ℕ)). IsSomeAnd o (λ sent. Exchanges g desk s coming (record { served = served; sent = sent }))) (sym known.1)
      (whole old known.0 served at
      (subst (λ (o : Option (List ℕ)). Rests old desk (Some []) o served) known.1 rests_now)
      (subst (λ (o : Option (List ℕ)). Serves g desk s coming.moment (Some read) (Some []) o served) known.1 served_now))
