use Rattle.sqlite.specs.Held.{state}
use Rattle.bike_commands.specs.declared.request.Request.{Request}
use Rattle.bike_operator.specs.Operator.{Operator}
use Rattle.bike_operator.specs.Runs.{after_acceptance}
use Rattle.bike_schema.specs.Stands.{Keeps}
use Rattle.bike_desk.specs.Serving.{IsAcceptedIn, IsNextBy}
use Rattle.bike_desk.proofs.KeepLemmas.{kept_stores}
use Rattle.bike_desk.proofs.ServeLemmas.{booked_next}
use Rattle.bike_desk.proofs.serve.store_rows.Given.{Over}
use Rattle.bike_desk.proofs.serve.store_rows.Goals as goal

next_is : (g : Over) (c : goal.After-make_all g) → (s : Operator) (q : Request) → Keeps (state g.S.Store c.args.conn.now) s
    → IsAcceptedIn (state g.S.Store c.args.conn.now).now s c.args.now q c.args.accepted.now c.args.stored.now c.args.number c.args.texts.now
    → IsNextBy (state g.S.Store c.args.conn.now) c.as_slice.result.now s (after_acceptance s c.args.now q)
next_is g c s q keeps it =
    let old = state g.S.Store c.args.conn.now in
    let h = kept_stores old s keeps in
    let books = c.books_accepted.ensures.books s h.listed c.args.now q c.args.accepted.now c.args.stored.now c.args.number c.args.texts.now c.rows_of-rows.result.items (it h) c.rows_of-rows.ensures in
    rw c.as_slice.ensures.value (booked_next old s c.args.now q h c.rows_of-rows.result.items keeps (it h).sound_after books)

pub returns-clause-made : goal.returns-clause-made
returns-clause-made g c clean s q keeps it = c.make_all.ensures.made clean s (after_acceptance s c.args.now q) (next_is g c s q keeps it)

pub returns-clause-others : goal.returns-clause-others
returns-clause-others g c clean s q keeps it = c.make_all.ensures.others clean s (after_acceptance s c.args.now q) (next_is g c s q keeps it)

pub returns-clause-left : goal.returns-clause-left
returns-clause-left g c clean s q keeps it = c.make_all.ensures.left clean s (after_acceptance s c.args.now q) (next_is g c s q keeps it)
