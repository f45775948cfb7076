-- What a request to act is made of keeps its bounds.
use Rattle.std.proofs.Common.{◌≡◌, ℕ, ◌<◌, ◌≤◌, ◌^◌, List, Bool, true, false, ◌&&◌, if◌then◌else◌, nat_le, Option, Some, None, option_map, refl, subst, leb-true, lit<, codes}
use Rattle.std.proofs.lemmas.Option.{option_and_then_some, cond_some, same_Some}
use Rattle.serde_json.specs.Data.{Data}
use Rattle.serde_json.specs.Find.{get, as_number, as_u64}
use Rattle.bike_fixed.proofs.Numbers.{both_hold, number_sound}
use Rattle.bike_fields.specs.declared.numbers.TheConstants.{GREATEST_NUMBER, MOST_DOCKS}
use Rattle.bike_fields.specs.Bytes.{is_ident, is_key, ident_of, key_of}
use Rattle.bike_fields.specs.Caller.{IsCaller}
use Rattle.bike_fields.specs.declared.caller.Caller.{Caller}
use Rattle.bike_fields.specs.declared.caller.Caller.TheVariants as caller
use Rattle.bike_fields.proofs.Callers.{ident_sound}
use Rattle.bike_texts.specs.Fields.{IsGood, Number, Numbered, Dock, Serial, Choice, Fixed, HasNoTab, side_text}
use Rattle.bike_texts.specs.Reading.{◌>>=◌}
use Rattle.bike_texts.specs.declared.ends.Side.{Side}
use Rattle.bike_texts.specs.declared.ends.Side.TheVariants.{From, To}
use Rattle.bike_commands.specs.declared.command.Command.{Command}
use Rattle.bike_commands.specs.Commands.{IsCommand}
use Rattle.bike_commands.specs.Requests.{IsRequest}
use Rattle.bike_requests.proofs.CommandLaws.{command_sound}
use Rattle.bike_http_head.specs.declared.routes.Route.{Route}
use Rattle.bike_http_head.specs.declared.routes.Route.TheVariants as route
use Rattle.bike_http_request.specs.Members.{text_in, number_in, key_in, ident_in, choice_in, side_in}
use Rattle.bike_http_request.specs.Bodies.{bike_in, dock_in, order_in, rider_in, start_of, end_of, mark_dock_of, mark_bike_of, load_of, unload_of, office_command, dock_command, crew_command}
use Rattle.bike_http_request.specs.Bodies.{command_by, caller_at}

-- ---- what reading gives

-- what it gives, if it gives something, has the property
record Keeps {A : Type 0} (P : A → Type 0) (o : Option A) : Type 0 where
  value : (a : A) → o ≡ Some a → P a

next : {A B : Type 0} {P : A → Type 0} {Q : B → Type 0} {f : A → Option B} {o : Option A}
    → Keeps P o → ((a : A) → P a → Keeps Q (f a)) → Keeps Q (o >>= f)
next {f = f} {o = o} first second =
    record { value = λ b e. option_and_then_some f o b e (λ a is made. (second a (first.value a is)).value b made) }

any : {A : Type 0} (o : Option A) → Keeps (λ a. Unit {0}) o
any o = record { value = λ a e. tt }

made : {A : Type 0} {P : A → Type 0} {a : A} → P a → Keeps P (Some a)
made {P = P} {a = a} good = record { value = λ b e. subst P (same_Some a b e) good }

tested : {A : Type 0} {P : A → Type 0} (b : Bool) (a : A) → (b ≡ true → P a) → Keeps P (if b then Some a else None)
tested {P = P} b a good = record { value = λ c e. let s = cond_some b a c e in subst P s.1 (good s.0) }

-- ---- members, and the part of a path

number_good : (low high : ℕ) (name : List ℕ) (body : Data) → high < 2 ^ 64
    → Keeps (λ n. IsGood (Number low high n)) (number_in low high name body)
unfolding number_in
number_good low high name body small =
    next (any ((get name body >>= as_number) >>= as_u64)) (λ n h.
    tested (nat_le low n && nat_le n high) n (λ is.
    let both = both_hold (nat_le low n) (nat_le n high) is in
    (leb-true low n both.0, leb-true n high both.1, small)))

bike_good : (body : Data) → Keeps (λ n. IsGood (Numbered n)) (bike_in body)
bike_good body = number_good _ _ _ body (lit< tt)

dock_good : (body : Data) → Keeps (λ n. IsGood (Dock n)) (dock_in body)
dock_good body = number_good _ _ _ body (lit< tt)

order_good : (body : Data) → Keeps (λ n. IsGood (Serial n)) (order_in body)
order_good body = number_good _ _ _ body (lit< tt)

key_good : (body : Data) → Keeps (λ key. is_key key ≡ true) (key_in body)
unfolding key_in key_of
key_good body = next (any (text_in (codes "key") body)) (λ text h. tested (is_key text) text (λ is. is))

ident_good : (text : List ℕ) → Keeps (λ i. is_ident i ≡ true) (ident_of text)
ident_good text = record { value = λ i e. (ident_sound text i e).1 }

station_good : (body : Data) → Keeps (λ i. is_ident i ≡ true) (ident_in (codes "station") body)
unfolding ident_in
station_good body = next (any (text_in (codes "station") body)) (λ text h. ident_good text)

choice_good : (word other : List ℕ) → HasNoTab word → HasNoTab other → (b : Bool) → IsGood (Choice word other b)
choice_good word other w o true = w
choice_good word other w o false = o

side_good : (side : Side) → IsGood (Fixed (side_text side))
side_good From = refl
side_good To = refl

-- a rider's number, or a truck's
number_named : (part : List ℕ) → Keeps (λ n. (1 ≤ n) × (n ≤ GREATEST_NUMBER)) (rider_in part)
number_named part = record { value = λ n e. let s = number_sound 1 GREATEST_NUMBER part n e in (s.low_le, s.le_high) }

-- ---- commands

abbrev GivesCommand : Option Command → Type 0
GivesCommand = Keeps IsCommand

start_good : (rider : ℕ) → IsCaller (caller.Rider rider) → (body : Data) → GivesCommand (start_of rider body)
unfolding start_of
start_good rider known body =
    next (station_good body) (λ station s.
    next (dock_good body) (λ dock d. made ((known.0, known.1, lit< tt), (s, (d, tt)))))

end_good : (station : List ℕ) → IsCaller (caller.Dock station) → (body : Data) → GivesCommand (end_of station body)
unfolding end_of
end_good station known body =
    next (bike_good body) (λ bike b.
    next (dock_good body) (λ dock d. made (b, (known, (d, tt)))))

mark_dock_good : (station : List ℕ) → IsCaller (caller.Dock station) → (body : Data) → GivesCommand (mark_dock_of station body)
unfolding mark_dock_of
mark_dock_good station known body =
    next (dock_good body) (λ dock d.
    next (any (choice_in (codes "broken") (codes "working") (codes "state") body)) (λ broken h.
    made (known, (d, (choice_good _ _ refl refl broken, tt)))))

mark_bike_good : (body : Data) → GivesCommand (mark_bike_of body)
unfolding mark_bike_of
mark_bike_good body =
    next (bike_good body) (λ bike b.
    next (any (choice_in (codes "disabled") (codes "fit") (codes "state") body)) (λ disabled h.
    made (b, (choice_good _ _ refl refl disabled, tt))))

load_good : (truck : ℕ) → IsCaller (caller.Crew truck) → (body : Data) → GivesCommand (load_of truck body)
unfolding load_of
load_good truck known body =
    next (order_good body) (λ order o.
    next (bike_good body) (λ bike b. made ((known.0, known.1, lit< tt), (o, (b, tt)))))

unload_good : (truck : ℕ) → IsCaller (caller.Crew truck) → (body : Data) → GivesCommand (unload_of truck body)
unfolding unload_of
unload_good truck known body =
    next (order_good body) (λ order o.
    next (bike_good body) (λ bike b.
    next (any (side_in (codes "side") body)) (λ side h.
    next (number_good 0 MOST_DOCKS (codes "dock") body (lit< tt)) (λ dock d.
    made ((known.0, known.1, lit< tt), (o, (b, (side_good side, (d, tt)))))))))

office_good : (body : Data) → GivesCommand (office_command body)
unfolding office_command
office_good body =
    next (any (text_in (codes "command") body)) (λ text h.
    record { value = λ c e. (command_sound text c e).good })

dock_command_good : (route : Route) (station : List ℕ) → IsCaller (caller.Dock station) → (body : Data) → GivesCommand (dock_command route station body)
dock_command_good route.End station known body = end_good station known body
dock_command_good route.MarkDock station known body = mark_dock_good station known body
dock_command_good _ station known body = mark_bike_good body

crew_command_good : (route : Route) (truck : ℕ) → IsCaller (caller.Crew truck) → (body : Data) → GivesCommand (crew_command route truck body)
crew_command_good route.Load truck known body = load_good truck known body
crew_command_good route.Unload truck known body = unload_good truck known body
crew_command_good _ truck known body = mark_bike_good body

command_good : (route : Route) (c : Caller) → IsCaller c → (body : Data) → GivesCommand (command_by route c body)
command_good route (caller.Rider rider) known body = start_good rider known body
command_good route (caller.Dock station) known body = dock_command_good route station known body
command_good route (caller.Crew truck) known body = crew_command_good route truck known body
command_good route caller.Office known body = office_good body
command_good route (caller.Staff name) known body = office_good body
command_good route (caller.Import name) known body = office_good body

-- ---- the request

named : {A : Type 0} (call : A → Caller) (o : Option A) → Keeps (λ a. IsCaller (call a)) o → Keeps IsCaller (option_map call o)
named call None good = record { value = λ c e. absurd cc }
named call (Some a) good = made (good.value a refl)

caller_good : (route : Route) (part : List ℕ) → Keeps IsCaller (caller_at route part)
caller_good route.Start part = named caller.Rider _ (number_named part)
caller_good route.End part = named caller.Dock _ (ident_good part)
caller_good route.MarkDock part = named caller.Dock _ (ident_good part)
caller_good route.MarkStationBike part = named caller.Dock _ (ident_good part)
caller_good route.Load part = named caller.Crew _ (number_named part)
caller_good route.Unload part = named caller.Crew _ (number_named part)
caller_good route.MarkTruckBike part = named caller.Crew _ (number_named part)
caller_good route.Office part = made tt
caller_good route.Staff part = named caller.Staff _ (ident_good part)
caller_good _ part = record { value = λ c e. absurd cc }

pub request_good : (route : Route) (part : List ℕ) (body : Data) (c : Caller) (key : List ℕ) (given : Command)
    → caller_at route part ≡ Some c → key_in body ≡ Some key → command_by route c body ≡ Some given
    → IsRequest (record { caller = c; key = key; command = given })
request_good route part body c key given from with_key gives =
    let sent = (caller_good route part).value c from in
    record { caller = sent; key = (key_good body).value key with_key; command = (command_good route c sent body).value given gives }
