-- INSERT of one row puts it among the table's rows.
use Rattle.std.proofs.Common.{◌≡◌, ℕ, ◌/◌, refl, List, [], ◌∷◌, length, true, Ok, sym, ap, subst, ◌∙◌}
use Rattle.sqlite_value.specs.Order.{Row}
use Rattle.sqlite_sql.specs.Term.{Term}
use Rattle.sqlite_schema.specs.declared.schema.Keys.TheVariants.{Enforced}
use Rattle.sqlite_schema.specs.declared.command.Source.TheVariants.{Values}
use Rattle.sqlite_schema.specs.declared.command.Command.TheVariants.{Insert}
use Rattle.sqlite_rules.specs.declared.error.Rowids.TheVariants.{Chosen}
use Rattle.sqlite_rules.specs.Edit.{edit_of, with_rowid, Applies}
use Rattle.sqlite.specs.Effect.{value_rows, IsDatabase}
use Rattle.sqlite.specs.State.{State, Executes}
use Rattle.sqlite.proofs.Callers.{runs_as}
use Rattle.bike_sql.specs.Laws.{Means}
use Rattle.bike_sql.specs.Layout.{Layout, table_of}
use Rattle.bike_sql.specs.View.{columns_of, IsFree, put_row_by}
use Rattle.bike_sql.specs.Stands.{rows_of, Stands, Sets}
use Rattle.bike_sql.proofs.KeyLemmas.{IsKeyOf}
use Rattle.bike_sql.proofs.CastLemmas.{suits_row}
use Rattle.bike_sql.proofs.EffectLemmas.{inserts}
use Rattle.bike_sql.proofs.ChangeLemmas.{puts_row}
use Rattle.bike_sql.proofs.FrameLemmas.{rows_of_is, sets}

module _ (keys : ℕ) (layout : Layout) (old new : State) (was : Stands old.now keys layout) (text : List ℕ) (params : Row) (width : ℕ) (terms : List Term) (source row : Row)
    (means : Means old.now.schema text (Insert was.at (Values terms width)))
    (gives : value_rows params width (length terms / width) terms ≡ source ∷ []) (suit : suits_row layout.columns source ≡ true)
    (shows : (rows : List Row) → columns_of (table_of layout was.tree) (with_rowid Chosen rows source) ≡ row) (count : ℕ) (ran : Executes text params old new (Ok count)) where
  abbrev rows : List Row
  rows = rows_of keys layout.name old.now

  -- what the engine does: the schema stays, the database is sound, and the rows get the source row
  record Does : Type 0 where
    schema : new.now.schema ≡ old.now.schema
    sound : IsDatabase new.now
    step : Applies old.now.schema Enforced old.now.trees (edit_of old.now.trees (table_of layout was.tree) [] Chosen 0 (source ∷ [])) new.now.trees

  does : Does
  does =
      let w = runs_as text params old new old.now.schema refl (Insert was.at (Values terms width)) means.0 means.1 count ran in
      let done = inserts layout was.tree old new was.at was.has.there _ params count width terms w in
      record {
        schema = done.0;
        sound = w.sound;
        step = subst (λ news. Applies old.now.schema Enforced old.now.trees
            (edit_of old.now.trees (table_of layout was.tree) [] Chosen 0 news) new.now.trees) gives done.1;
      }

  -- The statement gives one source row: the rowid or NULL, and a value for each column. `row` is what the table shows of it, whose key no row had.
  pub insert_puts : IsKeyOf keys layout → Sets old.now new.now keys layout (put_row_by keys row rows) × IsFree keys row rows
  insert_puts key =
      let it = does in
      let put = puts_row keys layout was.tree old.now.schema old.now.trees new.now.trees source row it.step suit shows was.keyed (λ spread numbered. key.holds new.now was.at was.tree (rw it.schema was.has.there) it.sound spread numbered) in
      let same = sym (rows_of_is old.now keys layout was) in
      (sets old.now new.now keys layout was (put_row_by keys row rows) it.schema it.sound it.step.tables put.0 (put.1 ∙ ap (put_row_by keys row) same), subst (IsFree keys row) same put.2)
