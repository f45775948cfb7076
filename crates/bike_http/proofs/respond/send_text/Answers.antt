use Rattle.std.proofs.Common.{◌∙◌, List, ℕ, refl, subst}
use Rattle.std.proofs.KnownBytes.{Appends-trans}
use Rattle.std.specs.Io.KnownBytes.{Appends}
use Rattle.bike_stream.specs.Writing.{AppendsFront}
use Rattle.bike_http_response.proofs.Sending.{front_then}
use Rattle.bike_http.specs.Exchange.{feed_head}
use Rattle.bike_http.proofs.Feeds.{front_of_first, cut_off}
use Rattle.bike_http.proofs.respond.send_text.Goals as goal

pub returns-in_err-write_whole : goal.returns-in_err-write_whole
returns-in_err-write_whole g c =
    let bytes = c.as_bytes.ensures.value ∙ c.as_str.ensures.value ∙ c.head_text-head.ensures in
    let front = subst (λ (l : List ℕ). AppendsFront (g.W.Write.contents c.args.writer.now) (g.W.Write.contents c.write_whole.new.writer) l) bytes
    c.in_err-write_whole.ensures.err in
    cut_off _ _ c.args.text.now _ c.from_residual.result c.from_residual.ensures.1 (front_of_first _ _ (feed_head c.args.text.now) c.args.text.now front)

pub returns-in_err-write_whole-2 : goal.returns-in_err-write_whole-2
returns-in_err-write_whole-2 g c =
    let bytes = c.as_bytes.ensures.value ∙ c.as_str.ensures.value ∙ c.head_text-head.ensures in
    let head = subst (λ (l : List ℕ). Appends (g.W.Write.contents c.args.writer.now) (g.W.Write.contents c.write_whole.new.writer) l) bytes
    c.in_ok-write_whole.ensures.ok in
    cut_off _ _ c.args.text.now _ c.from_residual-in_err-write_whole-2.result c.from_residual-in_err-write_whole-2.ensures.1
    (front_then _ _ _ (feed_head c.args.text.now) c.args.text.now head c.in_err-write_whole-2.ensures.err)

pub returns : goal.returns
returns g c =
    let bytes = c.as_bytes.ensures.value ∙ c.as_str.ensures.value ∙ c.head_text-head.ensures in
    let head = subst (λ (l : List ℕ). Appends (g.W.Write.contents c.args.writer.now) (g.W.Write.contents c.write_whole.new.writer) l) bytes
    c.in_ok-write_whole.ensures.ok in
    (refl, Appends-trans _ _ _ (feed_head c.args.text.now) c.args.text.now head c.in_ok-write_whole-2.ensures.ok)
