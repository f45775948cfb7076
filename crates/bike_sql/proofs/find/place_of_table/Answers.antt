-- The look and its tests are those of `FindLemmas`: where the tests pass the table stands, and where it stands they pass.
use Rattle.std.proofs.Common.{◌==◌, Some, find, refl, sym, ap, subst, ◌∙◌, arith, true≢false}
use Rattle.sqlite_schema.specs.declared.schema.Table.{Table}
use Rattle.sqlite_schema.specs.Names.{table_named}
use Rattle.bike_sql.specs.Found.{StandsAt}
use Rattle.bike_sql.proofs.FindLemmas.{some_is, Looks, stands_of, sees_of}
use Rattle.bike_sql.proofs.find.place_of_table.Goals as goal
use Rattle.bike_sql.proofs.find.place_of_table.Goals.{else-table-lt-COMPUTED-via-then-table-lt-COMPUTED+then-is_wanted+else-is_wanted-2}
use Rattle.bike_sql.proofs.find.place_of_table.Goals.{else-table-lt-COMPUTED-via-then-table-lt-COMPUTED+else-is_wanted, else-table-lt-COMPUTED-via-else-table-lt-COMPUTED}

pub returns-then-is_wanted-2 : goal.returns-then-is_wanted-2
returns-then-is_wanted-2 c =
    let s = c.args.schema.now in
    let wanted = c.args.wanted.now in
    let look : Looks s wanted c.in_ok-at.at c.in_ok-table.table.now c.in_ok-first.first.now = record {
      named = ap (table_named s) (sym c.as_slice.ensures) ∙ sym c.in_ok-at.ensures;
      there = sym c.in_ok-table.ensures.value;
      by_tree = ap (find (λ (t : Table). t.tree == c.in_ok-table.table.now.tree)) (sym c.as_slice-2.ensures) ∙ sym c.in_ok-first.ensures;
    } in
    let x = c.if-is_wanted.ensures.0 refl in
    let y = c.if-is_wanted-2.ensures.0 refl in
    let stands = stands_of s wanted c.in_ok-at.at c.in_ok-table.table.now c.in_ok-first.first.now look (record { stored = c.if-table-lt-COMPUTED.true; is = x.0; is_first = y.0 }) in
    λ at. (λ is. (subst (StandsAt s wanted) (some_is is) stands, x.1), λ h. ap Some (sees_of s wanted c.in_ok-at.at c.in_ok-table.table.now c.in_ok-first.first.now look at h.0).0)

pub returns-else-table-lt-COMPUTED : goal.returns-else-table-lt-COMPUTED
returns-else-table-lt-COMPUTED c =
    let s = c.args.schema.now in
    let wanted = c.args.wanted.now in
    let look : Looks s wanted c.in_ok-at.at c.in_ok-table.table.now c.in_ok-first.first.now = record {
      named = ap (table_named s) (sym c.as_slice.ensures) ∙ sym c.in_ok-at.ensures;
      there = sym c.in_ok-table.ensures.value;
      by_tree = ap (find (λ (t : Table). t.tree == c.in_ok-table.table.now.tree)) (sym c.as_slice-2.ensures) ∙ sym c.in_ok-first.ensures;
    } in
    λ at. (
      λ is. absurd (cc),
      λ h. absurd (
          let seen = (sees_of s wanted c.in_ok-at.at c.in_ok-table.table.now c.in_ok-first.first.now look at h.0).1 in
          elim c.else-table-lt-COMPUTED.branch [
            | else-table-lt-COMPUTED-via-then-table-lt-COMPUTED+then-is_wanted+else-is_wanted-2 w ↦ true≢false (sym (w.if-is_wanted-2.ensures.1 (seen.is_first, h.1)))
            | else-table-lt-COMPUTED-via-then-table-lt-COMPUTED+else-is_wanted w ↦ true≢false (sym (w.if-is_wanted.ensures.1 (seen.is, h.1)))
            | else-table-lt-COMPUTED-via-else-table-lt-COMPUTED w ↦ omega (arith, seen.stored, w.if-table-lt-COMPUTED.false)
          ]),
    )
