use Rattle.std.proofs.Common.{◌<◌, length, arith, sym, ◌∙◌, ◌++◌, ◌∷◌, [], ◌+◌, drop, get_or, false}
use Rattle.bike_texts.specs.Escapes.{unescape, unescape_behind}
use Rattle.bike_texts.proofs.Unescaping.{step_letter, step_backslash, step_plain, too_many, one_too_many}
use Rattle.bike_texts.proofs.escapes.unescape.Goals as goal
use Rattle.bike_texts.proofs.escapes.unescape.Goals.{then-behind+in_ok-meant+else-is_full, else-behind+then-b-eq92, else-behind+else-b-eq92+else-is_break+else-is_full-2}

pub loop-b-preserved : goal.loop-b-preserved
loop-b-preserved c =
    let text = c.args.text.now in
    let i = c.loop-b.b-index in
    let lt : i < length text = omega arith in
    elim c.if-behind.branch [
      | then-behind+in_ok-meant+else-is_full w ↦
          let was = rw w.if-behind.true at c.loop-b.invariant in
          let items = w.push.ensures.items in
          rw (w.out-is, w.behind-is, items) (step_letter text c.loop-b.out.items w.in_ok-meant.meant i (unescape text) lt w.in_ok-meant.ensures was)
      | else-behind+then-b-eq92 w ↦
          let was = rw w.if-behind.false at c.loop-b.invariant in
          rw (w.out-is, w.behind-is) (step_backslash text c.loop-b.out.items i (unescape text) lt w.if-b-eq92.true was)
      | else-behind+else-b-eq92+else-is_break+else-is_full-2 w ↦
          let was = rw w.if-behind.false at c.loop-b.invariant in
          let items = w.push-else-is_full-2.ensures.items in
          rw (w.out-is, w.behind-is, w.if-behind.false, items) (step_plain text c.loop-b.out.items i (unescape text) lt w.if-b-eq92.false (sym w.is_break.ensures ∙ w.if-is_break.false) was)
    ]

pub returns-then-is_full-clause-none : goal.returns-then-is_full-clause-none
returns-then-is_full-clause-none c =
    let text = c.args.text.now in
    let i = c.loop-b.b-index in
    let items = c.loop-b.out.items in
    let lt : i < length text = omega arith in
    let was = rw c.if-behind.true at c.loop-b.invariant in
    let more = step_letter text items c.in_ok-meant.meant i (unescape text) lt c.in_ok-meant.ensures was in
    too_many 200 (items ++ c.in_ok-meant.meant ∷ []) (unescape_behind false (drop (i + 1) text)) (unescape text) (one_too_many 200 items c.in_ok-meant.meant c.if-is_full.ensures.value) more

pub returns-then-is_full-2-clause-none : goal.returns-then-is_full-2-clause-none
returns-then-is_full-2-clause-none c =
    let text = c.args.text.now in
    let i = c.loop-b.b-index in
    let items = c.loop-b.out.items in
    let lt : i < length text = omega arith in
    let was = rw c.if-behind.false at c.loop-b.invariant in
    let more = step_plain text items i (unescape text) lt c.if-b-eq92.false (sym c.is_break.ensures ∙ c.if-is_break.false) was in
    too_many 200 (items ++ get_or text i 0 ∷ []) (unescape_behind false (drop (i + 1) text)) (unescape text) (one_too_many 200 items (get_or text i 0) c.if-is_full-2.ensures.value) more
