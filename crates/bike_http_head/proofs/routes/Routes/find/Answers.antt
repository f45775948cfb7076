use Rattle.std.proofs.Common.{◌≡◌, Some, ap, sym, ◌∙◌, subst, List, ℕ}
use Rattle.std.proofs.Math.Facts.{Fits-lt-pow}
use Rattle.matchit.specs.Params.{walk}
use Rattle.matchit.specs.Router.{RouteOf}
use Rattle.matchit.specs.Seek.{first}
use Rattle.bike_http_head.specs.Table.{Rows, found_at}
use Rattle.bike_http_head.specs.declared.routes.Route.{Route}
use Rattle.bike_http_head.proofs.Fits.{IsBytes}
use Rattle.bike_http_head.proofs.Taken.{told_first, told_none}
use Rattle.bike_http_head.proofs.routes.Routes.find.Goals as goal
use Rattle.bike_http_head.proofs.routes.Routes.find.Goals.{in-Some, in-None}

pub returns : goal.returns
returns c =
    let m = c.in-Ok.found.params in
    let path : List ℕ = c.args.path.now in
    let r : RouteOf Route = record { pattern = m.pattern.now; text = m.text.now; names = m.names.now; value = c.in-Ok.found.value.now } in
    let found = subst (λ (t : Rows). first t path ≡ Some r) c.args.self.now.holds c.in-Ok.ensures.found in
    let bytes : IsBytes path = λ i. Fits-lt-pow (c.type_inv.path i) in
    let walks = c.iter.ensures.value ∙ ap (λ (l : List ℕ). walk m.pattern.now m.text.now l m.names.now 0 0) c.in-Ok.ensures.path in
    elim c.match-next.branch [
      | in-Some w ↦ let steps = w.in-Some.ensures.steps in
          subst (λ (p : _). Some (r.value, p.now) ≡ found_at path) (sym w.part-is) (told_first path r c.utf8.path steps.0 _ w.in-Some.part.now bytes found (sym walks ∙ steps.1) steps.3)
      | in-None w ↦ subst (λ (p : _). Some (r.value, p.now) ≡ found_at path) (sym w.part-is) (told_none path r c.utf8.path bytes found (sym walks ∙ w.in-None.ensures.steps))
    ]
