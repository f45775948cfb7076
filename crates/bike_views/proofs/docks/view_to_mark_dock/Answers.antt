use Rattle.std.proofs.Common.{◌≡◌, ℕ, Some, rules, ap, ◌∙◌}
use Rattle.bike_sql.proofs.ChainLaws.{reads_as, reads_both, reads_refused}
use Rattle.bike_operator.specs.declared.view.View.{View}
use Rattle.bike_operator.specs.View.{dock_view}
use Rattle.bike_views.specs.ViewAndDocks.{listed_docks}
use Rattle.bike_views.proofs.PartLemmas.{listed_read}
use Rattle.bike_views.proofs.docks.view_to_mark_dock.Goals as goal

pub returns-in_err-docks : goal.returns-in_err-docks
returns-in_err-docks g c = reads_refused (reads_both (reads_both c.in_ok-row.ensures c.in_ok-mark.ensures) c.in_ok-docked.ensures) (search rules)

pub returns : goal.returns
returns g c = reads_as (reads_both (reads_both c.in_ok-row.ensures c.in_ok-mark.ensures) c.in_ok-docked.ensures) (λ db it s h broken.
    let station = c.args.station.now in
    let row = it.0.0 s h in
    let mark = it.0.1 s h in
    let is_broken = c.unwrap_or.ensures ∙ mark.1 in
    let same = c.get-dock.ensures.value in
    let view : ◌≡◌ {A = View} (record c.empty_view.result { station = c.in_ok-row.row.station; is_dock_broken = c.unwrap_or.result; docked = c.in_ok-docked.docked }) (dock_view s station c.get-dock.result) =
    λ i. record (c.empty_view.ensures i) { station = row.station_is i; is_dock_broken = is_broken i; docked = it.1 s h i } in
    record {
      view_is = view ∙ ap (dock_view s station) same;
      docks_are = listed_read s h.listed station c.get-dock.result c.in_ok-docks.ensures row.numbers_are (c.is_some.ensures ∙ mark.0)
          ∙ ap (λ (dock : ℕ). Some (listed_docks s h.listed station dock)) same;
    })
