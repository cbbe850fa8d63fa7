use Rattle.refusal_causes.proofs.Entries.{grows_then}
use Rattle.refusal_causes.proofs.Kept.{alone_by}
use Rattle.refusal_causes.proofs.alone.note_alone.Goals as goal

-- one change after another
pub returns-clause-grows : goal.returns-clause-grows
returns-clause-grows c =
    let p = c.args.p.now in
    grows_then p c.args.found.now c.note_order.new.found c.note_child.new.found
    (grows_then p c.args.found.now c.note_undeclared.new.found c.note_order.new.found c.in_ok-note_undeclared.ensures.grows
    c.in_ok-note_order.ensures.grows)
    c.in_ok-note_child.ensures.grows

-- each rule in its place
pub returns-clause-kept : goal.returns-clause-kept
returns-clause-kept c =
    alone_by c.args.p.now c.args.task.now c.note_undeclared.new.found c.note_order.new.found c.note_child.new.found
    c.in_ok-note_order.ensures.grows c.in_ok-note_child.ensures.grows c.args.act.now.kind c.in_ok-note_undeclared.ensures.kept
    c.in_ok-note_order.ensures.kept c.in_ok-note_child.ensures.kept
