-- What archiving takes out of an operator, and that whoever asks sees no difference.
use Rattle.std.specs.Prelude.{◌≡◌, ℕ, ◌+◌, ◌≤◌, ◌+ℤ◌, nat_lt, nat_le, ◌&&◌, length, take, drop, map, List, [], ◌∷◌, Bool, true}
use Rattle.std.specs.Prelude.{false, None}
use Rattle.std.specs.List.{list_any, list_all}
use Rattle.std.specs.Ordering.{nat_cmp}
use Rattle.std.specs.FinMap.{FinMap, entries, from_sorted}
use Rattle.bike_ledger.specs.Entries.{Entry}
use Rattle.bike_ledger.specs.Ledger.{balance_of, cash_of, revenue_of}
use Rattle.bike_commands.specs.declared.command.Command.{Command}
use Rattle.bike_commands.specs.declared.command.Command.TheVariants as command
use Rattle.bike_commands.specs.declared.request.Request.{Request}
use Rattle.bike_operator.specs.Operator.{Operator, Rider, Numbered, Past, key_in, kept_under}
use Rattle.bike_operator.specs.Counts.{is_open}
use Rattle.bike_operator.specs.View.{rider_balance}
use Rattle.bike_operator.specs.Runs.{Call, after, replies}
use Rattle.bike_laws.specs.Money.{cash_at, revenue_at}

-- so many of the first requests, entries and rentals that are there
pub record Front : Type 0 where
  pub requests : ℕ
  pub entries : ℕ
  pub rentals : ℕ

-- ---- what is left

-- a numbered list without its first items: the others keep their numbers
abbrev pub without : {A : Type 0} → ℕ → Numbered A → Numbered A
without n l = record { archived = l.archived + n; items = drop n l.items }

-- each rider has these entries' balance more by archived entries
abbrev pub rider_with : List Entry → ℕ × Rider → ℕ × Rider
rider_with es e = (e.0, record e.1 { before = e.1.before +ℤ balance_of e.0 es })

abbrev pub riders_with : List Entry → FinMap nat_cmp Rider → FinMap nat_cmp Rider
riders_with es riders = from_sorted (map (rider_with es) (entries riders))

abbrev pub past_with : List Entry → Past → Past
past_with es past = record { cash = past.cash +ℤ cash_of es; revenue = past.revenue +ℤ revenue_of es }

-- these entries go with the requests and rentals
abbrev pub archived_with : List Entry → Front → Operator → Operator
archived_with es f s = record s {
  riders = riders_with es s.riders;
  rentals = without f.rentals s.rentals;
  entries = without f.entries s.entries;
  history = without f.requests s.history;
  past = past_with es s.past;
}

-- THE OPERATOR OF WHICH A FRONT IS ARCHIVED
abbrev pub archived : Front → Operator → Operator
archived f s = archived_with (take f.entries s.entries.items) f s

-- What may be archived: what is there, no rental that is open, and no entry of a rental that stays.
pub record MayArchive (f : Front) (s : Operator) : Type 0 where
  pub requests : f.requests ≤ length s.history.items
  pub entries : f.entries ≤ length s.entries.items
  pub rentals : f.rentals ≤ length s.rentals.items
  pub closed : list_any is_open (take f.rentals s.rentals.items) ≡ false
  pub theirs : list_all (λ e. nat_le e.rental (s.rentals.archived + f.rentals)) (take f.entries s.entries.items) ≡ true

-- ---- what isn't asked for any more

-- the rental of this number goes
abbrev pub goes : Front → Operator → ℕ → Bool
goes f s rental = nat_lt s.rentals.archived rental && nat_le rental (s.rentals.archived + f.rentals)

abbrev pub names_gone : Front → Operator → Command → Bool
names_gone f s (command.Recover rental) = goes f s rental
names_gone f s (command.Refund rental amount) = goes f s rental
names_gone f s c = false

-- the request isn't an archived one that comes again, and names no rental that goes
pub record IsOther (f : Front) (s : Operator) (q : Request) : Type 0 where
  pub anew : kept_under (key_in q) (take f.requests s.history.items) ≡ None
  pub names_others : names_gone f s q.command ≡ false

abbrev pub AreOthers : Front → Operator → List Call → Type 0
AreOthers f s [] = Unit {0}
AreOthers f s (c ∷ cs) = IsOther f s c.1 × AreOthers f s cs

-- ARCHIVING SHOWS NOTHING: a list of such requests is answered as if nothing were archived, and the operators after it
-- differ by the same front alone.
pub record ShowsNothing (f : Front) (s : Operator) (cs : List Call) : Type 0 where
  pub operator : after (archived f s) cs ≡ archived f (after s cs)
  pub answers : replies (archived f s) cs ≡ replies s cs

-- and no sum of money changes
pub record KeepsSums (f : Front) (s : Operator) : Type 0 where
  pub balances : (rider : ℕ) → rider_balance (archived f s) rider ≡ rider_balance s rider
  pub cash : cash_at (archived f s) ≡ cash_at s
  pub revenue : revenue_at (archived f s) ≡ revenue_at s
