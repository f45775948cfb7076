use Rattle.std.proofs.Common.{◌≡◌, true, false, inl, inr, refl, sym, ◌∙◌}
use Rattle.bike_http_request.proofs.Receiving.{grew_nothing, grew_then}
use Rattle.bike_http_connection.proofs.gathering.Gathering.gather.Goals as goal

pub loop-turn-init : goal.loop-turn-init
loop-turn-init g c = (
  rw c.is_settled.ensures.kept (grew_nothing (g.S.Socket.remaining c.args.reader.now) c.args.self.now.bytes.items),
  λ whole. let both : true ≡ false = sym (c.is_settled.ensures.whole whole) ∙ c.if-is_settled.false in cc,
  refl,
  refl,
)

pub returns-in-Some-clause-grew : goal.returns-in-Some-clause-grew
returns-in-Some-clause-grew g c over = grew_then c.loop-turn.invariant.0 (c.in-Some.ensures.grew (λ e. over cc))

pub returns-in-Some-clause-waits : goal.returns-in-Some-clause-waits
returns-in-Some-clause-waits g c whole = elim (c.in-Some.ensures.waits c.loop-turn.invariant.1 whole) [
  | inl e ↦ inl cc
  | inr e ↦ inr cc
]

pub loop-turn-preserved : goal.loop-turn-preserved
loop-turn-preserved g c = (
  grew_then c.loop-turn.invariant.0 (c.in_default.ensures.grew (λ e. absurd cc)),
  λ whole. elim (c.in_default.ensures.waits c.loop-turn.invariant.1 whole) [
    | inl e ↦ absurd cc
    | inr e ↦ absurd cc
  ],
  c.in_default.ensures.own ∙ c.loop-turn.invariant.2,
  c.in_default.ensures.kept ∙ c.loop-turn.invariant.3,
)

pub returns-then-is_settled-clause-settled : goal.returns-then-is_settled-clause-settled
returns-then-is_settled-clause-settled g c holds = inr (inl (c.is_settled.ensures.settled c.if-is_settled.true))
