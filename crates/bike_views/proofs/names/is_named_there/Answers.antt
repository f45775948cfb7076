use Rattle.std.proofs.Common.{◌≡◌, ◌⊎◌, inl, inr, List, ℕ, sym, ap, ◌∙◌}
use Rattle.std.specs.FinMap as map
use Rattle.bike_fields.specs.declared.name_kind.NameKind.{NameKind}
use Rattle.bike_fields.specs.declared.name_kind.NameKind.TheVariants as named
use Rattle.bike_operator.specs.Operator.{Operator}
use Rattle.bike_operator.specs.Names.{has_named}
use Rattle.bike_schema.proofs.AnswerLemmas.{reads_weaker}
use Rattle.bike_views.proofs.OpenLaws.{open_of}
use Rattle.bike_views.proofs.names.is_named_there.Goals as goal

pub returns-in-Station : goal.returns-in-Station
returns-in-Station g c = open_of (reads_weaker c.has_station.ensures (λ db x it s h system. it s h ∙ ap (λ kind. has_named s kind c.args.id.now) (sym c.in-Station.is)))

pub returns-in-Type : goal.returns-in-Type
returns-in-Type g c = open_of (reads_weaker c.has_type.ensures (λ db x it s h system. it s h ∙ ap (λ kind. has_named s kind c.args.id.now) (sym c.in-Type.is)))

-- a plan has two texts
of_plan : (s : Operator) (kind : NameKind) (id : List ℕ) → (kind ≡ named.Plan) ⊎ (kind ≡ named.Description) → map.contains_key s.plans id ≡ has_named s kind id
of_plan s kind id (inl is) = ap (λ k. has_named s k id) (sym is)
of_plan s kind id (inr is) = ap (λ k. has_named s k id) (sym is)

pub returns-in-Plan : goal.returns-in-Plan
returns-in-Plan g c = open_of (reads_weaker c.has_plan.ensures (λ db x it s h system. it s h ∙ of_plan s c.args.kind c.args.id.now c.in-Plan.is))

pub returns-in-Region : goal.returns-in-Region
returns-in-Region g c = open_of (reads_weaker c.has_region.ensures (λ db x it s h system. it s h ∙ ap (λ kind. has_named s kind c.args.id.now) (sym c.in-Region.is)))
