use Rattle.std.proofs.Common.{◌≡◌, ℕ, length, sym, ap, ◌∙◌, arith}
use Rattle.atomic_table.specs.Table.{turned}
use Rattle.floor_laws.specs.table.nodes.Seats.{TreeSeat}
use Rattle.task_floor.proofs.Rotations.{all_turned, turns, turns_next}
use Rattle.task_floor.proofs.turning.turn_slots.Goals as goal

pub loop-i-preserved : goal.loop-i-preserved
loop-i-preserved c =
    let before = c.loop-i.invariant in
    let me = c.args.stand.now.me in
    record {
      turned = c.turn.ensures.2 ∙ (ap (λ (m : TreeSeat). (m.0, turned m.1)) before.turned ∙ λ k. (me.0, sym (turns_next c.loop-i.i me.1) k));
      same = (c.turn.ensures.0 ∙ before.same.0, c.turn.ensures.1 ∙ before.same.1);
    }

pub returns-clause-turned : goal.returns-clause-turned
returns-clause-turned c front back is count =
    let me = c.args.stand.now.me in
    let done = c.loop-i-test.false in
    let most = c.loop-i.auto.i-end in
    let all : c.loop-i.i ≡ length front = omega (arith, done, most, count) in
    c.loop-i.invariant.turned ∙ (λ k. (me.0, (ap (λ (n : ℕ). turns n me.1) all ∙ (ap (turns (length front)) is ∙ all_turned front back)) k))
