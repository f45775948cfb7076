-- The operator: all that it keeps. It holds no balance, no count and no sum; those are figures of its records.
-- The ledger rule: so balances change by entries alone.
use Rattle.std.specs.Prelude.{ℕ, ℤ, zero, suc, pos, ◌+◌, ◌-◌, length, List, [], ◌∷◌, ◌++◌, Bool, Option, Some, None}
use Rattle.std.specs.Prelude.{if◌then◌else◌}
use Rattle.std.specs.Ordering.{nat_cmp, eq_by_cmp}
use Rattle.std.specs.declared.cmp.Ordering.{Ordering}
use Rattle.std.specs.Cmp.Lexicographic.{slice_cmp}
use Rattle.std.specs.FinMap as map
use Rattle.std.specs.FinMap.{FinMap}
use Rattle.std.specs.FinSet as set
use Rattle.std.specs.FinSet.{FinSet}
use Rattle.bike_catalogue.specs.Rows.{PlanRow, TypeRow, StationRow, RegionRow, SystemRow}
use Rattle.bike_fields.specs.NameKinds.{kind_text}
use Rattle.bike_fields.specs.declared.name_kind.NameKind.{NameKind}
use Rattle.bike_ledger.specs.Entries.{Entry}
use Rattle.bike_fields.specs.Caller.{caller_text}
use Rattle.bike_commands.specs.declared.request.Request.{Request}
use Rattle.bike_commands.specs.declared.reply.Reply.{Reply}
use Rattle.bike_operator.specs.declared.records.Bike.{Bike}
use Rattle.bike_operator.specs.declared.records.Rental.{Rental}
use Rattle.bike_operator.specs.declared.records.Order.{Order}

-- a station: its catalogue record, its flags, when it last reported, and the region in which it stands
pub record Station : Type 0 where
  pub row : StationRow
  pub is_installed : Bool
  pub is_renting : Bool
  pub is_returning : Bool
  pub reported : ℕ
  pub region : Option (List ℕ)

pub record Truck : Type 0 where
  pub capacity : ℕ

-- a rider: blocked or open, with a plan of the rider's own or none, and the balance, in hundredths, by the entries that
-- were archived
pub record Rider : Type 0 where
  pub is_blocked : Bool
  pub plan : Option (List ℕ)
  pub before : ℤ

-- a numbered list, whose items have the numbers 1, 2, ..: so many of them, the first ones, were archived, and these
-- follow
pub record Numbered (A : Type 0) : Type 0 where
  pub archived : ℕ
  pub items : List A

-- the cash and the revenue, in hundredths, by the entries that were archived
pub record Past : Type 0 where
  pub cash : ℤ
  pub revenue : ℤ

-- maps from texts, and from lists of texts
abbrev pub text_cmp : List ℕ → List ℕ → Ordering
text_cmp = slice_cmp nat_cmp

abbrev pub texts_cmp : List (List ℕ) → List (List ℕ) → Ordering
texts_cmp = slice_cmp (slice_cmp nat_cmp)

-- caller and key, as texts
abbrev pub Key : Type 0
Key = List (List ℕ)

abbrev pub key_of : List ℕ → List ℕ → Key
key_of caller key = caller ∷ key ∷ []

-- the caller rule: a request is known again by its caller's text and its key
abbrev pub key_in : Request → Key
key_in q = key_of (caller_text q.caller) q.key

-- an accepted request: the operator's moment after it, in seconds, who asked for what under which key, and the reply
pub record AcceptedRequest : Type 0 where
  pub moment : ℕ
  pub request : Request
  pub reply : Reply

-- what a history keeps of a caller and key: the first request that was accepted under them
abbrev pub kept_under : Key → List AcceptedRequest → Option AcceptedRequest
kept_under key [] = None
kept_under key (a ∷ history) =
    if eq_by_cmp texts_cmp key (key_in a.request) then Some a else kept_under key history

-- what has a name in a further language, with the language: the word of its kind, its identifier, and the language
abbrev pub NameKey : Type 0
NameKey = List (List ℕ)

abbrev pub name_key : NameKind → List ℕ → List ℕ → NameKey
name_key kind id language = kind_text kind ∷ id ∷ language ∷ []

-- a dock of a station
abbrev pub DockKey : Type 0
DockKey = List (List ℕ)

abbrev pub dock_key : List ℕ → ℕ → DockKey
dock_key station dock = station ∷ (dock ∷ []) ∷ []

pub record Operator : Type 0 where
  pub system : Option SystemRow
  pub plans : FinMap text_cmp PlanRow
  -- a type's plan is its default plan
  pub types : FinMap text_cmp TypeRow
  pub regions : FinMap text_cmp RegionRow
  pub stations : FinMap text_cmp Station
  pub broken : FinSet texts_cmp
  pub bikes : FinMap nat_cmp Bike
  pub trucks : FinMap nat_cmp Truck
  pub riders : FinMap nat_cmp Rider
  -- the numbering rule: the records of these have the numbers 1, 2, ..; orders are never archived
  pub rentals : Numbered Rental
  pub orders : Numbered Order
  pub entries : Numbered Entry
  -- what was accepted, in order
  pub history : Numbered AcceptedRequest
  -- what was archived
  pub past : Past
  -- names in languages that aren't the system's
  pub more_names : FinMap texts_cmp (List ℕ)
  -- the greatest moment of an accepted request, in seconds
  pub now : ℕ

-- no item, and none archived
abbrev pub none_numbered : {A : Type 0} → Numbered A
none_numbered = record { archived = 0; items = [] }

-- the operator of which nothing was asked yet
abbrev pub no_operator : Operator
no_operator = record {
  system = None;
  plans = map.empty;
  types = map.empty;
  regions = map.empty;
  stations = map.empty;
  broken = set.empty;
  bikes = map.empty;
  trucks = map.empty;
  riders = map.empty;
  rentals = none_numbered;
  orders = none_numbered;
  entries = none_numbered;
  history = none_numbered;
  past = record { cash = pos 0; revenue = pos 0 };
  more_names = map.empty;
  now = 0;
}

-- ---- numbered lists

-- the item at a position, from 0
abbrev pub item_at : {A : Type 0} → ℕ → List A → Option A
item_at n [] = None
item_at zero (x ∷ xs) = Some x
item_at (suc n) (x ∷ xs) = item_at n xs

-- the item at a position, from 1
abbrev pub item_in : {A : Type 0} → ℕ → List A → Option A
item_in zero xs = None
item_in (suc n) xs = item_at n xs

-- the item with a number: none where it was archived
abbrev pub item_numbered : {A : Type 0} → ℕ → Numbered A → Option A
item_numbered n l = item_in (n - l.archived) l.items

-- the number of the last item: how many there are, archived ones included
abbrev pub last_number : {A : Type 0} → Numbered A → ℕ
last_number l = l.archived + length l.items

-- an item more
abbrev pub with_item : {A : Type 0} → A → Numbered A → Numbered A
with_item x l = record l { items = l.items ++ x ∷ [] }

-- the list with the item at a position changed
abbrev pub item_changed : {A : Type 0} → ℕ → (A → A) → List A → List A
item_changed n f [] = []
item_changed zero f (x ∷ xs) = f x ∷ xs
item_changed (suc n) f (x ∷ xs) = x ∷ item_changed n f xs

abbrev pub changed_in : {A : Type 0} → ℕ → (A → A) → List A → List A
changed_in zero f xs = xs
changed_in (suc n) f xs = item_changed n f xs

-- the item with a number changed, where it is there
abbrev pub number_changed : {A : Type 0} → ℕ → (A → A) → Numbered A → Numbered A
number_changed n f l = record l { items = changed_in (n - l.archived) f l.items }
