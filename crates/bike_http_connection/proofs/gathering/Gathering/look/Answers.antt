use Rattle.std.proofs.Common.{◌≡◌, false, true, List, ℕ, inl, inr, subst, sym, ◌∙◌}
use Rattle.bike_http_connection.specs.Awaiting.{Awaits, ShowsFeeds}
use Rattle.bike_http_connection.proofs.Awaiting.{head_known}
use Rattle.bike_http_connection.proofs.gathering.Gathering.look.Goals as goal

pub returns-then-may_have_head-clause-found : goal.returns-then-may_have_head-clause-found
returns-then-may_have_head-clause-found c whole =
    head_known c.stage_of-self.result c.args.self.now.bytes.items (subst (λ (l : List ℕ). Awaits c.stage_of-self.result false l) c.as_slice.ensures.value c.stage_of-self.ensures.awaits) whole

pub returns-else-may_have_head-clause-found : goal.returns-else-may_have_head-clause-found
returns-else-may_have_head-clause-found c whole = elim (c.may_have_head.ensures whole) [
  | inl is ↦ absurd (let both : true ≡ false = sym is ∙ c.if-may_have_head.false in cc)
  | inr known ↦ known
]

pub invariant_of-self : goal.invariant_of-self
invariant_of-self c = record {
  awaits = subst (λ (l : List ℕ). Awaits c.stage_of-self.result false l) c.as_slice.ensures.value c.stage_of-self.ensures.awaits;
  feeds = subst (λ (l : List ℕ). ShowsFeeds c.stage_of-self.result l) c.as_slice.ensures.value c.stage_of-self.ensures.feeds;
  blank = c.args.self.now.blank;
}
