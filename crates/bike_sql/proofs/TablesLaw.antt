-- Several tables at once: a change of one of them leaves the others, and an index more leaves all.
use Rattle.std.proofs.Common.{◌≡◌, ◌&&◌, ℕ, zero, suc, Bool, true, not, List, [], ◌∷◌, Some, slice_get, Result, OnOk, refl, sym, ap, ap₂, subst, ◌∙◌}
use Rattle.std.proofs.lemmas.Bool.{and_parts, not-true}
use Rattle.std.proofs.lemmas.Result.{on_ok_weaker}
use Rattle.sqlite_value.specs.Order.{Row}
use Rattle.sqlite_resolve.specs.Compile.{first}
use Rattle.sqlite.specs.declared.error.Error.{Error}
use Rattle.sqlite.specs.Effect.{Database, IsDatabase}
use Rattle.sqlite.specs.State.{State, Shows, ExecutesInside}
use Rattle.bike_sql.specs.Layout.{Layout}
use Rattle.bike_sql.specs.Stands.{rows_of, Stands, is_same_text, Sets, Indexes}
use Rattle.bike_sql.proofs.IndexLaw.{IsOnlyIndex, index_inside}
use Rattle.bike_sql.proofs.WriteLaws.{Changes, changes_inside}

-- tables, each with how many of its first columns are its key
abbrev pub Layouts : Type 0
Layouts = List (ℕ × Layout)

-- each of them stands
abbrev pub AllStand : Database → Layouts → Type 0
AllStand db [] = Unit {0}
AllStand db (t ∷ ts) = Stands db t.0 t.1 × AllStand db ts

-- the rows of each
abbrev pub all_rows : Database → Layouts → List (List Row)
all_rows db [] = []
all_rows db (t ∷ ts) = rows_of t.0 t.1.name db ∷ all_rows db ts

-- the list with this at the place
abbrev pub put_at : {X : Type 0} → ℕ → X → List X → List X
put_at at new [] = []
put_at zero new (x ∷ xs) = new ∷ xs
put_at (suc at) new (x ∷ xs) = x ∷ put_at at new xs

abbrev pub none_named : List ℕ → Layouts → Bool
none_named name [] = true
none_named name (t ∷ ts) = not (is_same_text t.1.name name) && none_named name ts

-- all but the table at this place have another name
abbrev pub others_named : ℕ → List ℕ → Layouts → Bool
others_named at name [] = true
others_named zero name (t ∷ ts) = none_named name ts
others_named (suc at) name (t ∷ ts) = not (is_same_text t.1.name name) && others_named at name ts

module _ {old new : Database} {keys : ℕ} {layout : Layout} {rows : List Row} (set : Sets old new keys layout rows) where
  -- the new database has them all, with these rows
  abbrev Are : Layouts → List (List Row) → Type 0
  Are ts all = AllStand new ts × (all_rows new ts ≡ all)

  others_stay : (ts : Layouts) → none_named layout.name ts ≡ true → AllStand old ts → Are ts (all_rows old ts)
  others_stay [] apart all = (tt, refl)
  others_stay (t ∷ ts) apart all =
      let is = and_parts (not (is_same_text t.1.name layout.name)) (none_named layout.name ts) apart in
      let here = set.others t.0 t.1 (not-true _ is.0) all.0 in
      let rest = others_stay ts is.1 all.1 in
      ((here.stands, rest.0), ap₂ ◌∷◌ here.rows rest.1)

  -- the table at this place is the one that was changed
  all_set : (ts : Layouts) (at : ℕ) → slice_get ts at ≡ Some (keys, layout) → others_named at layout.name ts ≡ true → AllStand old ts
      → AllStand new ts × (all_rows new ts ≡ put_at at rows (all_rows old ts))
  all_set [] at is apart all = (tt, refl)
  all_set (t ∷ ts) zero is apart all =
      let same : t ≡ (keys, layout) = cc in
      let rest = others_stay ts apart all.1 in
      ((subst (λ (u : ℕ × Layout). Stands new u.0 u.1) (sym same) set.stands, rest.0), ap₂ ◌∷◌ (ap (λ (u : ℕ × Layout). rows_of u.0 u.1.name new) same ∙ set.rows_are) rest.1)
  all_set (t ∷ ts) (suc at) is apart all =
      let far = and_parts (not (is_same_text t.1.name layout.name)) (others_named at layout.name ts) apart in
      let here = set.others t.0 t.1 (not-true _ far.0) all.0 in
      let rest = all_set ts at is far.1 all.1 in
      ((here.stands, rest.0), ap₂ ◌∷◌ here.rows rest.1)

all_stay : {old new : Database} → Indexes old new → (ts : Layouts) → AllStand old ts → AllStand new ts × (all_rows new ts ≡ all_rows old ts)
all_stay it [] all = (tt, refl)
all_stay it (t ∷ ts) all =
    let here = it.stays t.0 t.1 all.0 in
    let rest = all_stay it ts all.1 in
    ((here.stands, rest.0), ap₂ ◌∷◌ here.rows rest.1)

-- the one at this place
stands_at : {db : Database} {keys : ℕ} {layout : Layout} (ts : Layouts) (at : ℕ) → slice_get ts at ≡ Some (keys, layout) → AllStand db ts → Stands db keys layout
stands_at [] at is all = absurd (cc)
stands_at {db} {keys} {layout} (t ∷ ts) zero is all = let same : t ≡ (keys, layout) = cc in subst (λ (u : ℕ × Layout). Stands db u.0 u.1) same all.0
stands_at (t ∷ ts) (suc at) is all = stands_at ts at is all.1

-- ---- inside a transaction

-- The tables have these rows now, and what is committed is as it was.
pub record Alters (ts : Layouts) (old new : State) (rows : List (List Row)) : Type 0 where
  pub shown : Shows old new new.now old.committed true
  pub sound : IsDatabase new.now
  pub stand : AllStand new.now ts
  pub rows_are : all_rows new.now ts ≡ rows

module _ (ts : Layouts) (at : ℕ) {keys : ℕ} {layout : Layout} (is : slice_get ts at ≡ Some (keys, layout)) (apart : others_named at layout.name ts ≡ true) {text : List ℕ} {params : Row}
    {change : List Row → List Row} {tells : List Row → Type 0} where
  -- a write to the table at this place
  pub alters_one : Changes keys layout text params change tells → (old new : State) → IsDatabase old.now → AllStand old.now ts → (r : Result ℕ Error) → ExecutesInside 0 text params old new r
      → OnOk r (Alters ts old new (put_at at (change (rows_of keys layout.name old.now)) (all_rows old.now ts)) × tells (rows_of keys layout.name old.now))
  alters_one it old new sound all r ran =
      on_ok_weaker r (λ done. let now = all_set done.1 ts at is apart all in (record { shown = done.0; sound = done.1.sound; stand = now.0; rows_are = now.1 }, done.2))
      (changes_inside it old new sound (stands_at ts at is all) r ran)

-- a CREATE INDEX
pub alters_none : (ts : Layouts) (text : List ℕ) → IsOnlyIndex (first text) → (old new : State) → AllStand old.now ts → (r : Result ℕ Error) → ExecutesInside 0 text [] old new r
    → OnOk r (Alters ts old new (all_rows old.now ts))
alters_none ts text only old new all r ran =
    on_ok_weaker r (λ done. let now = all_stay done.1 ts all in record { shown = done.0; sound = done.1.sound; stand = now.0; rows_are = now.1 }) (index_inside text only old new r ran)
