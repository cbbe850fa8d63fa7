use Rattle.std.proofs.Common.{List, Ok, ap, refl, subst, ◌∙◌}
use Rattle.effect_sets.specs.declared.effects.Effect.{Effect}
use Rattle.machine_state.specs.Moves.{admitted_row}
use Rattle.floor_laws.specs.declared.rule.view.TaskSlot.{TaskSlot}
use Rattle.task_floor.specs.steps.Committing.{Log}
use Rattle.floor_laws.specs.declared.table.view.View.{View}
use Rattle.floor_laws.proofs.table.Added.{grown_is, grown_then}
use Rattle.tree_admit.specs.Attempts.{WasBarredFor}
use Rattle.tree_admit.specs.declared.admitting.Admittance.{Admittance}
use Rattle.tree_admit.proofs.serving.Serving.{admitted_one, admitted_same, drawn_admitted, had_since, held_since, held_tried, is_made, kept_part, kept_same, may_admit_tried, same_stands, same_trees_twice, same_twice}
use Rattle.tree_admit.proofs.Alone.{alone_then}
use Rattle.tree_admit.proofs.serving.workshop.Workshop.admit_made.Goals as goal

pub park-requires-clause-holds : goal.park-requires-clause-holds
park-requires-clause-holds g c =
    let h = c.args.holding in
    let holds = c.requires.holds in
    let turn = holds.0 in
    let held = holds.1 in
    let nodes = g.N.Planted.nodes in
    let log = c.reserve.new.self in
    let b = c.try_admit.new.stand.me in
    let keeps = c.in_ok-admittance.ensures.keeps in
    let logs = ap (λ (l : Log). l.entries) c.in_ok-reserve.ensures.ok in
    let drawn = c.commit_admit-number in
    let placed = c.in_ok-admittance.ensures.admitted (ap (λ (x : Admittance). Ok x) c.in-Admitted.is) in
    let drew = drawn.ensures.admitted turn (may_admit_tried nodes h.number h.stand.me b h.log log h.task h.slot turn held logs keeps placed) in
    (record turn { row = admitted_row turn.row }, drawn_admitted nodes h.number h.stand.me b h.log log h.task h.slot turn held logs keeps drawn.new.stand.me drawn.new.log drawn.result drew, refl)

pub returns-in-Admitted-clause-tried : goal.returns-in-Admitted-clause-tried
returns-in-Admitted-clause-tried g c = λ before since.
    let h = c.args.holding in
    let holds = c.requires.holds in
    let turn = holds.0 in
    let held = holds.1 in
    let nodes = g.N.Planted.nodes in
    let log = c.reserve.new.self in
    let b = c.try_admit.new.stand.me in
    let keeps = c.in_ok-admittance.ensures.keeps in
    let logs = ap (λ (l : Log). l.entries) c.in_ok-reserve.ensures.ok in
    let drawn = c.commit_admit-number in
    let placed = c.in_ok-admittance.ensures.admitted (ap (λ (x : Admittance). Ok x) c.in-Admitted.is) in
    let drew = drawn.ensures.admitted turn (may_admit_tried nodes h.number h.stand.me b h.log log h.task h.slot turn held logs keeps placed) in
    admitted_one before b drawn.new.stand.me c.park.result.me h.task turn drawn.result log drawn.new.log drew (kept_part h.task h.stand.me b keeps ∙ since.part) c.park.ensures.part

pub returns-in-Admitted-clause-same : goal.returns-in-Admitted-clause-same
returns-in-Admitted-clause-same g c =
    let h = c.args.holding in
    let holds = c.requires.holds in
    let turn = holds.0 in
    let held = holds.1 in
    let nodes = g.N.Planted.nodes in
    let log = c.reserve.new.self in
    let b = c.try_admit.new.stand.me in
    let keeps = c.in_ok-admittance.ensures.keeps in
    let logs = ap (λ (l : Log). l.entries) c.in_ok-reserve.ensures.ok in
    let drawn = c.commit_admit-number in
    let placed = c.in_ok-admittance.ensures.admitted (ap (λ (x : Admittance). Ok x) c.in-Admitted.is) in
    let drew = drawn.ensures.admitted turn (may_admit_tried nodes h.number h.stand.me b h.log log h.task h.slot turn held logs keeps placed) in
    let first = same_stands h.stand drawn.new.stand (drawn.ensures.same.0 ∙ c.in_ok-admittance.ensures.same.0) (drawn.ensures.same.1 ∙ c.in_ok-admittance.ensures.same.1)
    (same_twice h.stand.me.0.floor b.0.floor drawn.new.stand.me.0.floor (kept_same h.task h.stand.me b keeps) (admitted_same b drawn.new.stand.me h.task turn drawn.result log drawn.new.log drew)) in
    same_trees_twice h.stand drawn.new.stand c.park.result first c.park.ensures.same

pub give_back-requires-clause-holds : goal.give_back-requires-clause-holds
give_back-requires-clause-holds g c =
    let h = c.args.holding in
    let holds = c.requires.holds in
    let turn = holds.0 in
    let held = holds.1 in
    let nodes = g.N.Planted.nodes in
    let log = c.reserve.new.self in
    let b = c.try_admit.new.stand.me in
    let keeps = c.in_ok-admittance.ensures.keeps in
    let logs = ap (λ (l : Log). l.entries) c.in_ok-reserve.ensures.ok in
    let barred = c.in_ok-admittance.ensures.held c.in-Held.bar (ap (λ (x : Admittance). Ok x) c.in-Held.is) in
    (turn, held_tried nodes h.number h.stand.me b h.log log h.task h.slot turn held logs keeps (is_made turn.row holds.2) barred.0)

pub returns-in-Held-clause-tried : goal.returns-in-Held-clause-tried
returns-in-Held-clause-tried g c = λ before since.
    let h = c.args.holding in
    let holds = c.requires.holds in
    let turn = holds.0 in
    let held = holds.1 in
    let nodes = g.N.Planted.nodes in
    let log = c.reserve.new.self in
    let b = c.try_admit.new.stand.me in
    let keeps = c.in_ok-admittance.ensures.keeps in
    let logs = ap (λ (l : Log). l.entries) c.in_ok-reserve.ensures.ok in
    let barred = c.in_ok-admittance.ensures.held c.in-Held.bar (ap (λ (x : Admittance). Ok x) c.in-Held.is) in
    let was = subst (λ (l : List Effect). WasBarredFor g.N.Named.prog g.N.Named.lim h.stand.me.0 b.0 h.task l c.in-Held.bar) (c.effects_in-effects.ensures ∙ ap (λ (s : TaskSlot). s.effects.effects) held.slot_is) barred.1 in
    let turns = grown_then h.stand.me.0.floor.turns b.0.floor.turns c.give_back.result.me.0.floor.turns
    (grown_is h.stand.me.0.floor.turns b.0.floor.turns (ap (λ (v : View). v.turns) keeps.floor)) c.give_back.ensures.turns in
    record {
      turn = turn;
      had = had_since before h.stand.me h.task since turn held.in_hand.has c.give_back.result.me turns;
      made = holds.2;
      part = c.give_back.ensures.part ∙ (kept_part h.task h.stand.me b keeps ∙ since.part);
      bar = c.in-Held.bar;
      barred = held_since g.N.Named.prog g.N.Named.lim before h.stand.me b c.give_back.result.me h.task turn.row.effects.effects c.in-Held.bar since was c.give_back.ensures.knows;
      by_is = refl;
    }

pub returns-in-Held-clause-alone : goal.returns-in-Held-clause-alone
returns-in-Held-clause-alone g c = λ before since low st alone.
    let h = c.args.holding in
    c.in_ok-admittance.ensures.alone c.in-Held.bar (ap (λ (x : Admittance). Ok x) c.in-Held.is) low st
    (alone_then g.N.Named.prog g.N.Named.lim h.task before.0.floor h.stand.me.0.floor st since.served alone) c.requires.holds.1.one.others
