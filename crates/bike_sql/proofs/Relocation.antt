-- Two schemas, of which the larger has each table of the smaller, at a place of its own; and how what mentions a place goes over.
use Rattle.std.proofs.Common.{◌≡◌, ℕ, Bool, true, false, List, map, slice_get, Option, Some, None, Ok, Err, option_map, is_some, if◌then◌else◌, ◌&&◌, refl}
use Rattle.sqlite_schema.specs.declared.schema.Schema.{Schema}
use Rattle.sqlite_schema.specs.Names.{table_named}
use Rattle.sqlite_resolve.specs.declared.scope.Bound.{Bound}
use Rattle.sqlite_resolve.specs.declared.scope.Level.{Level}
use Rattle.sqlite_resolve.specs.declared.scope.Found.{Found}
use Rattle.sqlite_resolve.specs.declared.scope.Found.TheVariants.{Column, Rowid, Alias}
use Rattle.sqlite_resolve.specs.declared.body.Body.{Body}
use Rattle.sqlite_resolve.specs.declared.state.State.{State}
use Rattle.sqlite_resolve.specs.Scope.{Name, Context}
use Rattle.sqlite_resolve.specs.Lowering.{Checked, and_then}

-- table `k` of the small schema is table `place k` of the whole one, and a name that the small one knows finds it there
pub record Relocates (s s0 : Schema) (place : ℕ → ℕ) : Type 0 where
  pub tables : (k : ℕ) → slice_get s.tables (place k) ≡ slice_get s0.tables k
  pub names : (name : Name) → is_some (table_named s0 name) ≡ true → table_named s name ≡ option_map place (table_named s0 name)

abbrev pub bound_at : (ℕ → ℕ) → Bound → Bound
bound_at f b = record b { table = f b.table }

abbrev pub level_at : (ℕ → ℕ) → Level → Level
level_at f l = record l { tables = map (bound_at f) l.tables }

abbrev pub body_at : (ℕ → ℕ) → Body → Body
body_at f b = record b { level = level_at f b.level }

abbrev pub found_at : (ℕ → ℕ) → Found → Found
found_at f (Column slot table at) = Column slot (f table) at
found_at f (Rowid slot table) = Rowid slot (f table)
found_at f (Alias depth at) = Alias depth at

-- the names in sight under a schema, in these levels of FROM
abbrev pub scope : Schema → List Level → Bool → Bool → Context
scope s levels may_aggregate may_alias = record { schema = s; levels = levels; may_aggregate = may_aggregate; may_alias = may_alias }

-- ---- a result that goes over

abbrev pub checked_map : {A B : Type 0} → (A → B) → Checked A → Checked B
checked_map g (Ok a) = Ok (g a)
checked_map g (Err e) = Err e

abbrev pub with_state : {A B : Type 0} → (A → B) → A × State → B × State
with_state g p = (g p.0, p.1)

-- a step whose value goes over by `g`, before a step whose result does by `h`
pub then_over : {A B C D : Type 0} (r : Checked A) (g : A → B) (k' : B → Checked D) (k : A → Checked C) (h : C → D) → ((a : A) → k' (g a) ≡ checked_map h (k a))
    → and_then (checked_map g r) k' ≡ checked_map h (and_then r k)
then_over (Ok a) g k' k h later = later a
then_over (Err e) g k' k h later = refl

-- a step that is the same, before one whose result goes over by `h`
pub then_into : {A C D : Type 0} (r : Checked A) (k' : A → Checked D) (k : A → Checked C) (h : C → D) → ((a : A) → k' a ≡ checked_map h (k a)) → and_then r k' ≡ checked_map h (and_then r k)
then_into (Ok a) k' k h later = later a
then_into (Err e) k' k h later = refl

-- a step whose value goes over, before steps that do not see where
pub then_same : {A B C : Type 0} (r : Checked A) (g : A → B) (k' : B → Checked C) (k : A → Checked C) → ((a : A) → k' (g a) ≡ k a) → and_then (checked_map g r) k' ≡ and_then r k
then_same (Ok a) g k' k later = later a
then_same (Err e) g k' k later = refl

pub map_twice : {A B C : Type 0} (g : B → C) (h : A → B) (o : Option A) → option_map g (option_map h o) ≡ option_map (λ x. g (h x)) o
map_twice g h None = refl
map_twice g h (Some x) = refl

pub map_if : {A B : Type 0} (g : A → B) (c : Bool) (a b : Option A) → option_map g (if c then a else b) ≡ (if c then option_map g a else option_map g b)
map_if g true a b = refl
map_if g false a b = refl

-- ---- parts of a test

pub both : (a b : Bool) → (a && b) ≡ true → (a ≡ true) × (b ≡ true)
both true b h = (refl, h)
both false b h = absurd (cc)
