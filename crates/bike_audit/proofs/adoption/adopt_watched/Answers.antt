use Rattle.std.proofs.Common.{[], rules, inl, refl, subst, sym}
use Rattle.std.proofs.lemmas.Result.{IfOk-weaker, IfErr-weaker}
use Rattle.sqlite.specs.Held.{state}
use Rattle.bike_operator.specs.Operator.{no_operator}
use Rattle.bike_schema.specs.Tables.{HasNone}
use Rattle.bike_audit.specs.Adoption.{IsWantFor, LeavesAll, LeavesFor, LeavesOrStands}
use Rattle.bike_audit.proofs.ToldLemmas.{told_nothing}
use Rattle.bike_audit.proofs.AdoptToldLemmas.{told_begun, told_found, told_failed}
use Rattle.bike_audit.proofs.AdoptLemmas.{nobody_at, left_of, want_of}
use Rattle.bike_audit.proofs.FoundLemmas.{stays_left, crash_left, still_stands, found_clean, found_only, found_others, found_same, found_at, found_told, found_refused, handed_back}
use Rattle.bike_audit.proofs.adoption.adopt_watched.Goals as goal

pub returns-then-has_none-clause-adopts : goal.returns-then-has_none-clause-adopts
returns-then-has_none-clause-adopts g c =
    let none : HasNone (state g.S.Store c.args.conn).now.schema = search rules in
    record {
      clean = search rules;
      only = IfOk-weaker c.begin.result _ _ (λ d begun clean. (no_operator, inl (none, refl), (begun clean).at)) (c.begin.ensures.begun none);
      others = IfOk-weaker c.begin.result _ _ (λ d begun clean. (begun clean).fresh.others) (c.begin.ensures.begun none);
      begun = c.begin.ensures.begun;
      room = λ none. c.begin.ensures.room;
      same = λ some. absurd (some none);
      found =
          λ s stands. IfOk-weaker c.begin.result _ _ (λ d begun clean. nobody_at g.S.Store c.args.conn d s c.is_at_rest.ensures.live (begun clean).was_open none stands (begun clean).at)
          (c.begin.ensures.begun none);
      refused = λ s stands. IfErr-weaker c.begin.result _ _ (λ e told clean. subst IsWantFor (sym told.1) (want_of told.0)) c.begin.ensures.told;
      told = search rules;
      autocommit = search rules;
      crash = c.begin.ensures.crash none;
      left =
          λ s stands live. IfErr-weaker c.begin.result _ _ (λ e crash. left_of g.S.Store g.met.S.Store.settled c.args.conn c.is_at_rest.ensures.settled e.conn s stands live crash)
          (c.begin.ensures.crash none s stands);
      stays = λ never. absurd (never no_operator (inl (none, refl)));
    }

pub returns-in-Ok-clause-adopts : goal.returns-in-Ok-clause-adopts
returns-in-Ok-clause-adopts g c =
    let settled = c.is_at_rest.ensures.settled in
    let some : ¬ HasNone (state g.S.Store c.args.conn).now.schema = search rules in
    record {
      clean = rw c.found.ensures (found_clean g.S.Store g.met.S.Store.settled c.args.conn c.audit.new.conn c.requires settled c.is_at_rest.ensures.live c.in-Ok.finding c.in-Ok.ensures.audited);
      only = rw c.found.ensures (found_only g.S.Store g.met.S.Store.settled c.args.conn c.audit.new.conn c.requires settled c.is_at_rest.ensures.live c.in-Ok.finding c.in-Ok.ensures.audited);
      others = rw c.found.ensures (found_others g.S.Store g.met.S.Store.settled c.args.conn c.audit.new.conn c.requires settled c.is_at_rest.ensures.live c.in-Ok.finding c.in-Ok.ensures.audited);
      begun = λ none. absurd (some none);
      room = λ none. absurd (some none);
      same = λ _. rw c.found.ensures (found_same g.S.Store g.met.S.Store.settled c.args.conn c.audit.new.conn c.requires settled c.is_at_rest.ensures.live c.in-Ok.finding c.in-Ok.ensures.audited);
      found =
          λ s stands. rw c.found.ensures
          (found_at g.S.Store g.met.S.Store.settled c.args.conn c.audit.new.conn c.requires settled c.is_at_rest.ensures.live c.in-Ok.finding c.in-Ok.ensures.audited s stands);
      refused =
          λ s stands. rw c.found.ensures
          (found_refused g.S.Store g.met.S.Store.settled c.args.conn c.audit.new.conn c.requires settled c.is_at_rest.ensures.live c.in-Ok.finding c.in-Ok.ensures.audited s stands some);
      told = rw c.found.ensures (found_told g.S.Store g.met.S.Store.settled c.args.conn c.audit.new.conn c.requires settled c.is_at_rest.ensures.live c.in-Ok.finding c.in-Ok.ensures.audited);
      autocommit = search rules;
      crash =
          λ s stands. rw c.found.ensures (handed_back g.S.Store g.met.S.Store.settled c.args.conn c.audit.new.conn c.requires settled c.is_at_rest.ensures.live c.in-Ok.finding c.in-Ok.ensures.audited
          (LeavesOrStands g.S.Store c.args.conn s)
          (crash_left g.S.Store g.met.S.Store.settled c.args.conn c.audit.new.conn c.requires settled c.is_at_rest.ensures.live c.in-Ok.ensures.audited.quiet s));
      left =
          λ s stands live. rw c.found.ensures
          (handed_back g.S.Store g.met.S.Store.settled c.args.conn c.audit.new.conn c.requires settled c.is_at_rest.ensures.live c.in-Ok.finding c.in-Ok.ensures.audited (LeavesFor g.S.Store s)
          (still_stands g.S.Store g.met.S.Store.settled c.args.conn c.audit.new.conn c.requires settled c.is_at_rest.ensures.live c.in-Ok.ensures.audited.quiet s stands live));
      stays =
          λ never. rw c.found.ensures (handed_back g.S.Store g.met.S.Store.settled c.args.conn c.audit.new.conn c.requires settled c.is_at_rest.ensures.live c.in-Ok.finding c.in-Ok.ensures.audited
          (LeavesAll g.S.Store c.args.conn)
          (stays_left g.S.Store g.met.S.Store.settled c.args.conn c.audit.new.conn c.requires settled c.is_at_rest.ensures.live c.in-Ok.ensures.audited.quiet));
    }

pub returns-in-Err-clause-adopts : goal.returns-in-Err-clause-adopts
returns-in-Err-clause-adopts g c =
    let settled = c.is_at_rest.ensures.settled in
    record {
      clean = search rules;
      only = search rules;
      others = search rules;
      begun = λ none. search rules;
      room = λ none. search rules;
      same = λ some. search rules;
      found = search rules;
      refused = λ s stands. rw c.failed.ensures (λ clean. want_of c.in-Err.fault);
      told = search rules;
      autocommit = search rules;
      crash = λ s stands. rw c.failed.ensures (crash_left g.S.Store g.met.S.Store.settled c.args.conn c.audit.new.conn c.requires settled c.is_at_rest.ensures.live c.in-Err.ensures.audited.quiet s);
      left =
          λ s stands live. rw c.failed.ensures
          (still_stands g.S.Store g.met.S.Store.settled c.args.conn c.audit.new.conn c.requires settled c.is_at_rest.ensures.live c.in-Err.ensures.audited.quiet s stands live);
      stays = search rules;
    }

pub returns-then-has_none-clause-watched : goal.returns-then-has_none-clause-watched
returns-then-has_none-clause-watched g c =
    let none : HasNone (state g.S.Store c.args.conn).now.schema = search rules in
    ([], told_nothing _, told_begun g.S.Store c.args.conn none c.begin.result c.begin.ensures.told)

pub returns-in-Ok-clause-watched : goal.returns-in-Ok-clause-watched
returns-in-Ok-clause-watched g c =
    let watched = c.in-Ok.ensures.watched in
    rw c.found.ensures (watched.0, watched.1, told_found g.S.Store c.args.conn c.audit.new.conn c.in-Ok.finding watched.0 watched.2)

pub returns-in-Err-clause-watched : goal.returns-in-Err-clause-watched
returns-in-Err-clause-watched g c =
    let watched = c.in-Err.ensures.watched in
    rw c.failed.ensures (watched.0, watched.1, told_failed c.in-Err.fault watched.0 watched.2)
