use Rattle.std.proofs.Common.{[], sym, subst, ◌∙◌}
use Rattle.task_floor.specs.Holding.{IsIdleBeside}
use Rattle.task_floor.specs.steps.Committing.{Log}
use Rattle.task_floor.proofs.ServedBeside.{idle_left_beside}
use Rattle.tree_admit.proofs.serving.Serving.{drawn_still, kept_part, kept_same, left_part, left_same, may_finish, same_stands, same_twice}
use Rattle.tree_admit.proofs.serving.workshop.Workshop.finish.Goals as goal

pub finish-requires-clause-may : goal.finish-requires-clause-may
finish-requires-clause-may g c =
    let h = c.args.holding in
    let holds = c.requires.holds in
    let b = c.release.new.stand.me in
    (holds.0, [], may_finish g.N.Planted.nodes h.number h.stand.me b h.log h.task h.slot holds.0 c.args.phase _ holds.1 holds.2 c.effects_in-effects.ensures c.release.ensures.keeps c.release.ensures.clear)

pub invariant_of-result : goal.invariant_of-result
invariant_of-result g c =
    let h = c.args.holding in
    let holds = c.requires.holds in
    let nodes = g.N.Planted.nodes in
    let b = c.release.new.stand.me in
    let keeps = c.release.ensures.keeps in
    let may = may_finish nodes h.number h.stand.me b h.log h.task h.slot holds.0 c.args.phase _ holds.1 holds.2 c.effects_in-effects.ensures keeps c.release.ensures.clear in
    let still = drawn_still nodes h.number h.stand.me b h.log h.task h.slot holds.0 c.args.phase _ holds.1 holds.2 c.effects_in-effects.ensures keeps c.release.ensures.clear in
    subst (λ (l : Log). IsIdleBeside h.number c.finish.new.stand.me l) (sym c.count_end.ensures)
    (idle_left_beside nodes h.number b h.log h.task h.slot holds.0 still c.finish.new.stand.me (c.finish.ensures.left holds.0 [] may))

pub returns-clause-part : goal.returns-clause-part
returns-clause-part g c =
    let h = c.args.holding in
    let holds = c.requires.holds in
    let b = c.release.new.stand.me in
    let keeps = c.release.ensures.keeps in
    let may = may_finish g.N.Planted.nodes h.number h.stand.me b h.log h.task h.slot holds.0 c.args.phase _ holds.1 holds.2 c.effects_in-effects.ensures keeps c.release.ensures.clear in
    left_part b c.finish.new.stand.me h.task holds.0 [] (c.finish.ensures.left holds.0 [] may) ∙ kept_part h.task h.stand.me b keeps

pub returns-clause-same : goal.returns-clause-same
returns-clause-same g c =
    let h = c.args.holding in
    let holds = c.requires.holds in
    let b = c.release.new.stand.me in
    let after = c.finish.new.stand in
    let keeps = c.release.ensures.keeps in
    let may = may_finish g.N.Planted.nodes h.number h.stand.me b h.log h.task h.slot holds.0 c.args.phase _ holds.1 holds.2 c.effects_in-effects.ensures keeps c.release.ensures.clear in
    same_stands h.stand after (c.finish.ensures.same.0 ∙ c.release.ensures.same.0) (c.finish.ensures.same.1 ∙ c.release.ensures.same.1)
    (same_twice h.stand.me.0.floor b.0.floor after.me.0.floor (kept_same h.task h.stand.me b keeps) (left_same b after.me h.task holds.0 [] (c.finish.ensures.left holds.0 [] may)))
