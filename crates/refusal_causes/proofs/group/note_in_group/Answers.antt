use Rattle.std.proofs.Common.{List, subst}
use Rattle.effect_check.specs.declared.act.Act.{Act}
use Rattle.refusal_causes.specs.inner.Listed.{IsFreeFor}
use Rattle.refusal_causes.proofs.Entries.{grows_then}
use Rattle.refusal_causes.proofs.Kept.{group_by}
use Rattle.refusal_causes.proofs.group.note_in_group.Goals as goal

-- one change after another
pub returns-clause-grows : goal.returns-clause-grows
returns-clause-grows c =
    let p = c.args.p.now in
    grows_then p c.args.found.now c.note_join.new.found c.note_spawn.new.found
    (grows_then p c.args.found.now c.note_barred.new.found c.note_join.new.found c.in_ok-note_barred.ensures.grows
    c.in_ok-note_join.ensures.grows)
    c.in_ok-note_spawn.ensures.grows

-- each rule in its place
pub returns-clause-kept : goal.returns-clause-kept
returns-clause-kept c =
    group_by c.args.p.now c.args.task.now c.note_barred.new.found c.note_join.new.found c.note_spawn.new.found
    c.in_ok-note_join.ensures.grows c.in_ok-note_spawn.ensures.grows c.args.points.now.first c.args.act.now
    (λ rule place none. subst (λ (xs : List Act). IsFreeFor c.args.task.now xs rule place c.args.act.now) c.requires.group.are
    (c.in_ok-note_barred.ensures.kept rule place none))
    c.in_ok-note_join.ensures.kept c.in_ok-note_spawn.ensures.kept
