use Rattle.std.proofs.Common.{◌≡◌, Bool, true, false, not, ◌&&◌, sym, ap, ◌∙◌}
use Rattle.bike_http_connection.proofs.Awaiting.{line_came, not_blank}
use Rattle.bike_http_connection.proofs.gathering.Gathering.may_have_head.Goals as goal

pub returns-else-has_line : goal.returns-else-has_line
returns-else-has_line c whole =
    let it = c.args.self.now in
    let came : it.has_line_end ≡ true = line_came it.has_line_end it.bytes.items (it.awaits.0 c.in-Head.most c.in-Head.is) whole in
    let begun : it.is_blank ≡ false = not_blank it.is_blank it.bytes.items it.blank whole in
    let has : c.has_line.result ≡ true = c.has_line.ensures ∙ ap (λ (b : Bool). b && not it.is_blank) came ∙ ap not begun in
    absurd (let both : true ≡ false = sym has ∙ c.if-has_line.false in cc)
