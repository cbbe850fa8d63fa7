use Rattle.std.proofs.Common.{◌∷◌, [], None, ◌∙◌}
use Rattle.floor_laws.specs.declared.table.nodes.slot.TreeSlot.TheVariants as kinds
use Rattle.tree_admit.proofs.serving.Serving.{child_in_hand, drawn_then, kept_part, kept_same, left_part, left_same, may_give_placed, same_stands, same_twice}
use Rattle.tree_admit.proofs.serving.workshop.Workshop.place_child.Goals as goal

pub returns-clause-drawn : goal.returns-clause-drawn
returns-clause-drawn g c turn holds =
    let nodes = g.N.Planted.nodes in
    let lim = g.N.Named.lim in
    let h = c.args.holding in
    let kid = child_in_hand lim h.number h.stand.me h.log h.task h.slot turn c.args.end c.args.child c.in-Made.child c.in-Some.slot c.in-Some.is c.in-Made.is holds in
    let b = c.place_spawned.new.stand.me in
    let keeps = c.in_ok-place_spawned.ensures.keeps in
    let placed = c.in_ok-place_spawned.ensures.placed in
    let may = may_give_placed nodes lim h.number h.stand.me b h.log h.task h.slot turn c.in-Made.child c.in-Some.slot kid.0 _ kid.1 c.effects_in-effects.ensures keeps placed in
    drawn_then nodes lim h.number h.stand.me b h.log h.task h.slot turn c.in-Made.child c.in-Some.slot kid.0 _ kid.1 c.effects_in-effects.ensures keeps placed c.give_first.new.stand.me
    (c.give_first.ensures.left kid.0 ((h.task, kinds.Task None) ∷ []) may)

pub returns-clause-part : goal.returns-clause-part
returns-clause-part g c =
    let nodes = g.N.Planted.nodes in
    let lim = g.N.Named.lim in
    let h = c.args.holding in
    let turn = c.requires.holds.0 in
    let kid = child_in_hand lim h.number h.stand.me h.log h.task h.slot turn c.args.end c.args.child c.in-Made.child c.in-Some.slot c.in-Some.is c.in-Made.is c.requires.holds.1 in
    let b = c.place_spawned.new.stand.me in
    let keeps = c.in_ok-place_spawned.ensures.keeps in
    let may = may_give_placed nodes lim h.number h.stand.me b h.log h.task h.slot turn c.in-Made.child c.in-Some.slot kid.0 _ kid.1 c.effects_in-effects.ensures keeps c.in_ok-place_spawned.ensures.placed in
    left_part b c.give_first.new.stand.me c.in-Made.child kid.0 ((h.task, kinds.Task None) ∷ []) (c.give_first.ensures.left kid.0 ((h.task, kinds.Task None) ∷ []) may)
    ∙ kept_part c.in-Made.child h.stand.me b keeps

pub returns-clause-same : goal.returns-clause-same
returns-clause-same g c =
    let nodes = g.N.Planted.nodes in
    let lim = g.N.Named.lim in
    let h = c.args.holding in
    let turn = c.requires.holds.0 in
    let kid = child_in_hand lim h.number h.stand.me h.log h.task h.slot turn c.args.end c.args.child c.in-Made.child c.in-Some.slot c.in-Some.is c.in-Made.is c.requires.holds.1 in
    let b = c.place_spawned.new.stand.me in
    let after = c.give_first.new.stand in
    let keeps = c.in_ok-place_spawned.ensures.keeps in
    let may = may_give_placed nodes lim h.number h.stand.me b h.log h.task h.slot turn c.in-Made.child c.in-Some.slot kid.0 _ kid.1 c.effects_in-effects.ensures keeps c.in_ok-place_spawned.ensures.placed in
    same_stands h.stand after (c.give_first.ensures.same.0 ∙ c.in_ok-place_spawned.ensures.same.0) (c.give_first.ensures.same.1 ∙ c.in_ok-place_spawned.ensures.same.1)
    (same_twice h.stand.me.0.floor b.0.floor after.me.0.floor (kept_same c.in-Made.child h.stand.me b keeps)
    (left_same b after.me c.in-Made.child kid.0 ((h.task, kinds.Task None) ∷ []) (c.give_first.ensures.left kid.0 ((h.task, kinds.Task None) ∷ []) may)))
