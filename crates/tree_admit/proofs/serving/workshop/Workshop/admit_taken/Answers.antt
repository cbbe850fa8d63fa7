use Rattle.std.proofs.Common.{◌∙◌}
use Rattle.task_floor.proofs.GoingOn.{looked_moves, looked_phase}
use Rattle.tree_admit.proofs.serving.Serving.{looked_held, moved_same, moved_since, same_stands, same_trees_twice, was_found}
use Rattle.tree_admit.proofs.serving.workshop.Workshop.admit_taken.Goals as goal

pub give_back-requires : goal.give_back-requires
give_back-requires g c =
    let h = c.args.holding in
    let holds = c.requires.holds in
    record {
      here = c.status-phase.ensures.same.0 ∙ c.requires.here;
      task = c.requires.task;
      holds = (holds.0, looked_held g.N.Planted.nodes g.N.Named.lim h.number h.stand.me c.status-phase.new.stand.me h.log h.task h.slot holds.0 c.status-phase.result c.status-phase.ensures.found holds.1);
    }

pub returns-in_default : goal.returns-in_default
returns-in_default g c =
    let nodes = g.N.Planted.nodes in
    let lim = g.N.Named.lim in
    let h = c.args.holding in
    let holds = c.requires.holds in
    let b = c.status-phase.new.stand in
    let phase = c.status-phase.result in
    let looks = c.status-phase.ensures.found in
    let moves = looked_moves nodes lim h.stand.me b.me h.task phase looks in
    let held = looked_held nodes lim h.number h.stand.me b.me h.log h.task h.slot holds.0 phase looks holds.1 in
    record {
      tried = λ before since. record {
        phase = phase;
        not_made = c.in_default.not-Made;
        found = was_found before h.stand.me h.task since holds.0 holds.1.in_hand.has b.me c.give_back.result.me phase moves c.give_back.ensures.turns c.give_back.ensures.part
            (looked_phase nodes lim h.stand.me b.me h.task phase looks holds.0 h.slot.frame holds.1.in_hand);
      };
      alone = λ before since. tt;
      same = same_trees_twice h.stand b c.give_back.result (same_stands h.stand b c.status-phase.ensures.same.0 c.status-phase.ensures.same.1 (moved_same h.stand.me b.me h.task moves)) c.give_back.ensures.same;
    }

pub returns-in-Made-clause-tried : goal.returns-in-Made-clause-tried
returns-in-Made-clause-tried g c = λ before since.
    let nodes = g.N.Planted.nodes in
    let lim = g.N.Named.lim in
    let h = c.args.holding in
    let holds = c.requires.holds in
    let b = c.status-phase.new.stand in
    let phase = c.status-phase.result in
    let looks = c.status-phase.ensures.found in
    let moves = looked_moves nodes lim h.stand.me b.me h.task phase looks in
    let held = looked_held nodes lim h.number h.stand.me b.me h.log h.task h.slot holds.0 phase looks holds.1 in
    c.admit_made.ensures.tried before (moved_since before h.stand.me h.task since holds.0 holds.1.in_hand.has b.me moves held.in_hand.has)

pub admit_made-requires-clause-holds : goal.admit_made-requires-clause-holds
admit_made-requires-clause-holds g c =
    let nodes = g.N.Planted.nodes in
    let lim = g.N.Named.lim in
    let h = c.args.holding in
    let holds = c.requires.holds in
    let b = c.status-phase.new.stand in
    let phase = c.status-phase.result in
    let looks = c.status-phase.ensures.found in (
      holds.0,
      looked_held nodes lim h.number h.stand.me b.me h.log h.task h.slot holds.0 phase looks holds.1,
      looked_phase nodes lim h.stand.me b.me h.task phase looks holds.0 h.slot.frame holds.1.in_hand ∙ c.in-Made.is,
    )

pub returns-in-Made-clause-alone : goal.returns-in-Made-clause-alone
returns-in-Made-clause-alone g c = λ before since.
    let nodes = g.N.Planted.nodes in
    let lim = g.N.Named.lim in
    let h = c.args.holding in
    let holds = c.requires.holds in
    let b = c.status-phase.new.stand in
    let phase = c.status-phase.result in
    let looks = c.status-phase.ensures.found in
    let moves = looked_moves nodes lim h.stand.me b.me h.task phase looks in
    let held = looked_held nodes lim h.number h.stand.me b.me h.log h.task h.slot holds.0 phase looks holds.1 in
    c.admit_made.ensures.alone before (moved_since before h.stand.me h.task since holds.0 holds.1.in_hand.has b.me moves held.in_hand.has)
