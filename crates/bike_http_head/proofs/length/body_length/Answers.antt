use Rattle.std.proofs.Common.{◌∙◌, ◌+◌, ap, sym, arith, drop, map, List, Option}
use Rattle.std.proofs.lemmas.List.{length-map}
use Rattle.httparse.specs.Spans.{header_bytes}
use Rattle.bike_http_head.specs.Length.{Field}
use Rattle.bike_http_head.specs.declared.length.BodyLength.{BodyLength}
use Rattle.bike_http_head.proofs.Fields.{left, left_all, left_encoding, left_more, drop_at}
use Rattle.bike_http_head.proofs.length.body_length.Goals as goal

pub loop-at-init : goal.loop-at-init
loop-at-init c = left_all _

pub returns-then-is_named : goal.returns-then-is_named
returns-then-is_named c =
    let all : List Field = map (header_bytes c.args.bytes.now) c.args.fields.now in
    let f : Field = (c.field_at.result.0.now, c.field_at.result.1.now) in
    let next = drop_at all c.loop-at.at f (omega (arith, length-map c.args.fields.now (header_bytes c.args.bytes.now))) c.field_at.ensures in
    sym (c.loop-at.invariant ∙ (ap (left c.loop-at.told) next ∙ left_encoding c.loop-at.told f (drop (c.loop-at.at + 1) all) (sym c.if-is_named.ensures)))

pub loop-at-preserved : goal.loop-at-preserved
loop-at-preserved c =
    let all : List Field = map (header_bytes c.args.bytes.now) c.args.fields.now in
    let f : Field = (c.field_at.result.0.now, c.field_at.result.1.now) in
    let next = drop_at all c.loop-at.at f (omega (arith, length-map c.args.fields.now (header_bytes c.args.bytes.now))) c.field_at.ensures in
    c.loop-at.invariant ∙ (ap (left c.loop-at.told) next ∙ (left_more c.loop-at.told f (drop (c.loop-at.at + 1) all) (sym c.if-is_named.ensures)
    ∙ ap (λ (t : Option BodyLength). left t (drop (c.loop-at.at + 1) all)) (sym c.told_after-told.ensures)))
