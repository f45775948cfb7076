use Rattle.std.proofs.Common.{◌∙◌, ◌++◌, List, ℕ, sym, ap}
use Rattle.std.specs.Prelude.{codes}
use Rattle.sqlite_value.specs.declared.value.Value.TheVariants.{Text}
use Rattle.bike_judges.specs.declared.key.BadKey.{BadKey}
use Rattle.bike_judges.specs.Judging.{key_row}
use Rattle.bike_console.specs.Pieces.{value_text, key_text}
use Rattle.bike_console.proofs.PieceLemmas.{puts_as, puts_both}
use Rattle.bike_console.proofs.pieces.put_key.Goals as goal

pub returns-in-Paired : goal.returns-in-Paired
returns-in-Paired g c =
    let w = g.W.Output.contents in
    let first = value_text (Text c.in-Paired.first) in
    let second = value_text (Text c.in-Paired.second) in
    let is_first = ap (λ (t : List ℕ). value_text (Text t)) (c.as_bytes-in-Paired.ensures.value ∙ c.as_str-in-Paired.ensures.text) in
    let is_second = ap (λ (t : List ℕ). value_text (Text t)) (c.as_bytes-in-Paired-2.ensures.value ∙ c.as_str-in-Paired-2.ensures.text) in
    let a = w c.args.out.now in
    let b = w c.put_text-going.new.out in
    let d = w c.put-going.new.out in
    let e = w c.put_text-in-Paired.new.out in
    let p = puts_as a b (value_text (Text c.as_bytes-in-Paired.result.now)) first c.args.going c.put_text-going.result is_first c.put_text-going.ensures in
    let q = puts_as d e (value_text (Text c.as_bytes-in-Paired-2.result.now)) second c.put-going.result c.put_text-in-Paired.result is_second c.put_text-in-Paired.ensures in
    puts_as a e (first ++ (codes "/" ++ second)) (key_text (key_row c.args.key.now)) c.args.going c.put_text-in-Paired.result (ap (λ (key : BadKey). key_text (key_row key)) (sym c.in-Paired.is))
    (puts_both a b e first (codes "/" ++ second) c.args.going c.put_text-going.result c.put_text-in-Paired.result p
    (puts_both b d e (codes "/") second c.put_text-going.result c.put-going.result c.put_text-in-Paired.result c.put-going.ensures q))
