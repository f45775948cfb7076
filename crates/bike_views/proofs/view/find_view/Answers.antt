use Rattle.std.proofs.Common.{◌≡◌, ℕ, false, Result, Ok, Err, None, [], refl, sym, ap, subst, ◌∙◌}
use Rattle.sqlite_trees.specs.declared.store.Store.{Ghosts}
use Rattle.sqlite.specs.Held.{Held}
use Rattle.bike_commands.specs.declared.command.Command.{Command}
use Rattle.bike_commands.specs.declared.command.Command.TheVariants.{MarkBike}
use Rattle.bike_operator.specs.declared.view.View.{View}
use Rattle.bike_operator.specs.Operator.{Operator}
use Rattle.bike_operator.specs.View.{view_of}
use Rattle.bike_book.specs.Stored.{Listed}
use Rattle.bike_sql.proofs.ChainLaws.{reads_as, reads_failed}
use Rattle.bike_schema.specs.declared.fault.StatementFault.{StatementFault}
use Rattle.bike_schema.specs.Answers.{Answers}
use Rattle.bike_schema.proofs.AnswerLemmas.{reads_weaker}
use Rattle.bike_booking.specs.declared.figures.Figures.{Figures}
use Rattle.bike_booking.specs.Figures.{figures_of}
use Rattle.bike_views.specs.declared.figures.KnownFigures.{KnownFigures}
use Rattle.bike_views.specs.declared.view_and_docks.ViewAndDocks.{ViewAndDocks}
use Rattle.bike_views.specs.Known.{IsKnown}
use Rattle.bike_views.specs.ViewAndDocks.{IsFoundFor, IsPlain, docks_for, told_of}
use Rattle.bike_views.proofs.view.find_view.Goals as goal

-- the view for a command is that for the command matched, whatever is known
view_for : {S E : Type 0} {g : Ghosts S} {old new : Held S} {result : Result View E} {c d : Command} {k : KnownFigures} → Answers g old new result (λ s m view. view ≡ view_of s d) → c ≡ d
    → Answers g old new result (λ s m view. IsKnown s k → view ≡ view_of s c)
view_for it is = reads_weaker it (λ db view each s h known. each s h ∙ ap (view_of s) (sym is))

-- and where it takes a figure
view_with : {S E : Type 0} {g : Ghosts S} {old new : Held S} {result : Result View E} {c d : Command} {k : KnownFigures} (told : Figures → ℕ)
    → Answers g old new result (λ s m view. told k.figures ≡ told (figures_of s) → view ≡ view_of s d) → c ≡ d
    → Answers g old new result (λ s m view. IsKnown s k → view ≡ view_of s c)
view_with told it is = reads_weaker it (λ db view each s h known. each s h (ap told known.figures) ∙ ap (view_of s) (sym is))

-- a view for which no docks are read
seen_plain : {S : Type 0} {g : Ghosts S} {old new : Held S} {found : Result View StatementFault} {result : Result ViewAndDocks StatementFault} {c d : Command} {k : KnownFigures}
    → Answers g old new found (λ s m view. IsKnown s k → view ≡ view_of s c) → IsPlain found result → c ≡ d
    → ((s : Operator) (m : Listed) → docks_for s m d ≡ None) → Answers g old new result (λ s m x. IsKnown s k → IsFoundFor s m c x)
seen_plain {found = Ok v} {result = Ok x} it plain is none = reads_as it (λ db each s h known. record {
  view_is = ap (λ (y : ViewAndDocks). y.view) plain ∙ each s h known;
  docks_are = ap (λ (y : ViewAndDocks). told_of y.docks) plain ∙ sym (none s h.listed) ∙ ap (docks_for s h.listed) (sym is);
})
seen_plain {found = Err e} {result = Err f} it plain is none = reads_failed it refl
seen_plain {found = Ok v} {result = Err f} it plain is none = absurd plain
seen_plain {found = Err e} {result = Ok x} it plain is none = absurd plain

found_for : {s : Operator} {m : Listed} {c d : Command} {x : ViewAndDocks} → IsFoundFor s m d x → c ≡ d → IsFoundFor s m c x
found_for {s = s} {m = m} {x = x} it is = subst (λ e. IsFoundFor s m e x) (sym is) it

pub returns-in-SetSystem : goal.returns-in-SetSystem
returns-in-SetSystem g c = seen_plain (view_for c.find_system_view.ensures c.in-SetSystem.is) c.without_docks.ensures c.in-SetSystem.is (λ s m. refl)

pub returns-in-AddPlan : goal.returns-in-AddPlan
returns-in-AddPlan g c = seen_plain (view_for c.view_to_add_plan.ensures c.in-AddPlan.is) c.without_docks-in-AddPlan.ensures c.in-AddPlan.is (λ s m. refl)

pub returns-in-AddType : goal.returns-in-AddType
returns-in-AddType g c = seen_plain (view_for c.view_to_add_type.ensures c.in-AddType.is) c.without_docks-in-AddType.ensures c.in-AddType.is (λ s m. refl)

pub returns-in-SetPlan : goal.returns-in-SetPlan
returns-in-SetPlan g c = seen_plain (view_for c.find_type_view.ensures c.in-SetPlan.is) c.without_docks-in-SetPlan.ensures c.in-SetPlan.is (λ s m. refl)

pub returns-in-AddStation : goal.returns-in-AddStation
returns-in-AddStation g c = seen_plain (view_for c.view_to_add_station.ensures c.in-AddStation.is) c.without_docks-in-AddStation.ensures c.in-AddStation.is (λ s m. refl)

pub returns-in-SetStation : goal.returns-in-SetStation
returns-in-SetStation g c = seen_plain (view_for c.find_station_view.ensures c.in-SetStation.is) c.without_docks-in-SetStation.ensures c.in-SetStation.is (λ s m. refl)

pub returns-in-MarkDock : goal.returns-in-MarkDock
returns-in-MarkDock g c = reads_weaker c.view_to_mark_dock.ensures (λ db x it s h known. found_for (it s h c.in-MarkDock.broken) c.in-MarkDock.is)

pub returns-in-AddBike : goal.returns-in-AddBike
returns-in-AddBike g c = seen_plain (view_for c.view_to_add_bike.ensures c.in-AddBike.is) c.without_docks-in-AddBike.ensures c.in-AddBike.is (λ s m. refl)

pub returns-in-MarkBike : goal.returns-in-MarkBike
returns-in-MarkBike g c = reads_weaker c.find_bike_view.ensures (λ db x it s h known.
    let found : IsFoundFor s h.listed (MarkBike c.in-MarkBike.bike c.in-MarkBike.disabled) x = record { view_is = (it s h).0; docks_are = (it s h).1 } in
    found_for found c.in-MarkBike.is)

pub returns-in-RetireBike : goal.returns-in-RetireBike
returns-in-RetireBike g c = seen_plain (view_for c.view_to_retire_bike.ensures c.in-RetireBike.is) c.without_docks-in-RetireBike.ensures c.in-RetireBike.is (λ s m. refl)

pub returns-in-AddTruck : goal.returns-in-AddTruck
returns-in-AddTruck g c = seen_plain (view_for (reads_weaker c.view_to_add_truck.ensures (λ db x it s h. it s h 0)) c.in-AddTruck.is) c.without_docks-in-AddTruck.ensures c.in-AddTruck.is (λ s m. refl)

pub returns-in-AddRider : goal.returns-in-AddRider
returns-in-AddRider g c = seen_plain (view_for c.view_to_add_rider.ensures c.in-AddRider.is) c.without_docks-in-AddRider.ensures c.in-AddRider.is (λ s m. refl)

pub returns-in-SetRider : goal.returns-in-SetRider
returns-in-SetRider g c =
    seen_plain (view_for (reads_weaker c.view_to_set_rider.ensures (λ db x it s h. it s h false)) c.in-SetRider.is) c.without_docks-in-SetRider.ensures c.in-SetRider.is (λ s m. refl)

pub returns-in-TopUp : goal.returns-in-TopUp
returns-in-TopUp g c =
    seen_plain (view_with (λ f. f.entries) (reads_weaker c.view_to_top_up.ensures (λ db x it s h are. it s h are 0)) c.in-TopUp.is) c.without_docks-in-TopUp.ensures c.in-TopUp.is (λ s m. refl)

pub returns-in-Start : goal.returns-in-Start
returns-in-Start g c = reads_weaker c.view_to_start.ensures (λ db x it s h known. found_for (it s h known) c.in-Start.is)

pub returns-in-End : goal.returns-in-End
returns-in-End g c = reads_weaker c.view_to_end.ensures (λ db x it s h known. found_for (it s h (ap (λ (f : Figures). f.entries) known.figures)) c.in-End.is)

pub returns-in-Recover : goal.returns-in-Recover
returns-in-Recover g c = seen_plain (view_with (λ f. f.entries) c.view_to_recover.ensures c.in-Recover.is) c.without_docks-in-Recover.ensures c.in-Recover.is (λ s m. refl)

pub returns-in-Refund : goal.returns-in-Refund
returns-in-Refund g c =
    seen_plain (view_with (λ f. f.entries) (reads_weaker c.view_to_refund.ensures (λ db x it s h are. it s h are 0)) c.in-Refund.is) c.without_docks-in-Refund.ensures c.in-Refund.is (λ s m. refl)

pub returns-in-OpenOrder : goal.returns-in-OpenOrder
returns-in-OpenOrder g c =
    seen_plain (view_with (λ f. f.orders) (reads_weaker c.view_to_open_order.ensures (λ db x it s h are. it s h are 0)) c.in-OpenOrder.is) c.without_docks-in-OpenOrder.ensures c.in-OpenOrder.is
    (λ s m. refl)

pub returns-in-Load : goal.returns-in-Load
returns-in-Load g c = reads_weaker c.view_to_load.ensures (λ db x it s h known. found_for (it s h) c.in-Load.is)

pub returns-in-Unload : goal.returns-in-Unload
returns-in-Unload g c = reads_weaker c.view_to_unload.ensures (λ db x it s h known. found_for (it s h) c.in-Unload.is)

pub returns-in-CloseOrder : goal.returns-in-CloseOrder
returns-in-CloseOrder g c = seen_plain (view_for c.view_to_close_order.ensures c.in-CloseOrder.is) c.without_docks-in-CloseOrder.ensures c.in-CloseOrder.is (λ s m. refl)

pub returns-in-AddRegion : goal.returns-in-AddRegion
returns-in-AddRegion g c = seen_plain (view_for c.view_to_add_region.ensures c.in-AddRegion.is) c.without_docks-in-AddRegion.ensures c.in-AddRegion.is (λ s m. refl)

pub returns-in-SetRegion : goal.returns-in-SetRegion
returns-in-SetRegion g c = seen_plain (view_for c.view_to_set_region.ensures c.in-SetRegion.is) c.without_docks-in-SetRegion.ensures c.in-SetRegion.is (λ s m. refl)

pub returns-in-AddName : goal.returns-in-AddName
returns-in-AddName g c = seen_plain (view_for (reads_weaker c.view_to_add_name.ensures (λ db x it s h. it s h [])) c.in-AddName.is) c.without_docks-in-AddName.ensures c.in-AddName.is (λ s m. refl)

pub returns-in-SetName : goal.returns-in-SetName
returns-in-SetName g c = seen_plain (view_for c.view_to_change_name.ensures c.in-SetName.is) c.without_docks-in-SetName.ensures c.in-SetName.is (λ s m. refl)

pub returns-in-RemoveName : goal.returns-in-RemoveName
returns-in-RemoveName g c = seen_plain (view_for c.view_to_change_name-in-RemoveName.ensures c.in-RemoveName.is) c.without_docks-in-RemoveName.ensures c.in-RemoveName.is (λ s m. refl)

pub returns-in-ChangeSystem : goal.returns-in-ChangeSystem
returns-in-ChangeSystem g c = seen_plain (view_for c.find_system_view-in-ChangeSystem.ensures c.in-ChangeSystem.is) c.without_docks-in-ChangeSystem.ensures c.in-ChangeSystem.is (λ s m. refl)

pub returns-in-MoveStation : goal.returns-in-MoveStation
returns-in-MoveStation g c = seen_plain (view_for c.find_station_view-in-MoveStation.ensures c.in-MoveStation.is) c.without_docks-in-MoveStation.ensures c.in-MoveStation.is (λ s m. refl)

pub returns-in-AddDocks : goal.returns-in-AddDocks
returns-in-AddDocks g c = reads_weaker c.view_to_add_docks.ensures (λ db x it s h known. found_for (it s h c.in-AddDocks.count) c.in-AddDocks.is)
