use Rattle.std.proofs.Common.{◌≡◌, drop}
use Rattle.bike_texts.specs.Escapes.{unescape_behind, unescape}
use Rattle.bike_texts.proofs.Unescaping.{with_front}
use Rattle.bike_texts.proofs.escapes.unescape.Given as goal

abbrev pub invariant-loop-b : goal.invariant-loop-b
invariant-loop-b l = with_front l.out.items (unescape_behind l.behind (drop l.b-index l.text)) ≡ unescape l.text
