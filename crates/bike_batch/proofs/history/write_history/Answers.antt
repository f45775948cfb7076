use Rattle.std.proofs.Common.{List, Err, Some, None, ap, subst, arith}
use Rattle.bike_operator.specs.Requests.{RequestTexts}
use Rattle.bike_day_texts.specs.Writing.{WritesLine}
use Rattle.bike_batch.specs.Again.{lines_again}
use Rattle.bike_batch.proofs.PageLemmas.{TellsLast}
use Rattle.bike_batch.proofs.HistoryLemmas.{wrote_told, follow_begins, follow_ends, follow_goes, first_failed, page_failed, next_failed}
use Rattle.bike_batch.proofs.history.write_history.Goals as goal

pub returns-in_err-page : goal.returns-in_err-page
returns-in_err-page g c =
    let w = wrote_told g.S.Store _ _ c.from_residual.ensures.1
    (first_failed g.S.Store c.args.after (g.W.Write.contents c.args.out.now) c.in_err-page.field-0.0 (λ is. c.in_err-page.ensures.takes_none (ap Err is)) c.in_err-page.ensures.query) in
    record { desk = w.desk; wrote = w.wrote; nothing = w.nothing }

pub pages-init : goal.pages-init
pages-init g c = follow_begins g.S.Store c.in_ok-page.page c.in_ok-page.ensures.query

pub returns-in_default : goal.returns-in_default
returns-in_default g c =
    let tells : TellsLast c.pages.page c.pages.number None =
    (rw (c.in_default.is, c.requests.ensures) at c.last_behind.ensures.some, rw (c.in_default.is, c.requests.ensures) at c.last_behind.ensures.none) in
    let w = follow_ends g.S.Store tt c.pages.invariant tells in
    record { desk = w.desk; wrote = w.wrote; nothing = w.nothing }

pub returns-in_err-write_page : goal.returns-in_err-write_page
returns-in_err-write_page g c =
    let tells : TellsLast c.pages.page c.pages.number (Some c.in-Some.last) =
    (rw (c.in-Some.is, c.requests.ensures) at c.last_behind.ensures.some, rw (c.in-Some.is, c.requests.ensures) at c.last_behind.ensures.none) in
    let w = wrote_told g.S.Store _ _ c.from_residual-in_err-write_page.ensures.1
    (page_failed g.S.Store c.pages.invariant tells (g.W.Write.contents c.write_page.new.out) c.in_err-write_page.field-0.0
    (subst (λ (xs : List RequestTexts). WritesLine {A = Unit {0}} (g.W.Write.contents c.pages.out) (g.W.Write.contents c.write_page.new.out) (lines_again xs)
    (Err c.in_err-write_page.field-0.0)) c.requests-in-pages.ensures c.in_err-write_page.ensures)) in
    record { desk = w.desk; wrote = w.wrote; nothing = w.nothing }

pub returns-in_err-page-2 : goal.returns-in_err-page-2
returns-in_err-page-2 g c =
    let tells : TellsLast c.pages.page c.pages.number (Some c.in-Some.last) =
    (rw (c.in-Some.is, c.requests.ensures) at c.last_behind.ensures.some, rw (c.in-Some.is, c.requests.ensures) at c.last_behind.ensures.none) in
    let w = wrote_told g.S.Store _ _ c.from_residual-in_err-page-2.ensures.1
    (next_failed g.S.Store c.pages.invariant tells (g.W.Write.contents c.write_page.new.out) (rw c.requests-in-pages.ensures at c.in_ok-write_page.ensures) c.in_err-page-2.field-0.0
    (λ is. c.in_err-page-2.ensures.takes_none (ap Err is)) c.in_err-page-2.ensures.query) in
    record { desk = w.desk; wrote = w.wrote; nothing = w.nothing }

pub pages-preserved : goal.pages-preserved
pages-preserved g c =
    let tells : TellsLast c.pages.page c.pages.number (Some c.in-Some.last) =
    (rw (c.in-Some.is, c.requests.ensures) at c.last_behind.ensures.some, rw (c.in-Some.is, c.requests.ensures) at c.last_behind.ensures.none) in
    follow_goes g.S.Store c.pages.invariant tells (g.W.Write.contents c.write_page.new.out) (rw c.requests-in-pages.ensures at c.in_ok-write_page.ensures) c.in_ok-page-2.page c.in_ok-page-2.ensures.query

pub pages-smaller : goal.pages-smaller
pages-smaller g c = omega (arith, rw c.in-Some.is at c.last_behind.ensures.later, rw c.in-Some.is at c.last_behind.type_inv)
