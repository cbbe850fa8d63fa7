use Rattle.std.proofs.Common.{◌+◌, ◌++◌, ℕ, List, [], ◌∷◌, Err, get_or, sym, ap, ◌∙◌}
use Rattle.std.proofs.lemmas.List.{take_all, take_more}
use Rattle.seg_journal.specs.declared.moves.Move.{Move}
use Rattle.seg_journal.specs.declared.moves.Kind.TheVariants.{Admit}
use Rattle.machine_state.specs.declared.state.State.{State}
use Rattle.machine_state.proofs.replays.Replayed.{first_at, passed_on}
use Rattle.twe_draw.proofs.picture.drawing.bars_of.Goals as goal

pub loop-i-preserved : goal.loop-i-preserved
loop-i-preserved c =
    let moves = c.args.moves.now in
    let first : Move = record { kind = Admit; task = 0 } in
    let taken = c.in_ok-take_move.ensures in
    record {
      drawn = taken.drawn;
      moves = taken.moves ∙ (ap (λ (l : List Move). l ++ get_or moves c.loop-i.i first ∷ []) c.loop-i.invariant.moves ∙ sym (take_more moves c.loop-i.i first c.loop-i-test.true));
      count = taken.count ∙ ap (λ (n : ℕ). n + 1) c.loop-i.invariant.count;
    }

-- the move that was not taken is the first that is not legal
pub returns-in_err-take_move-clause-illegal : goal.returns-in_err-take_move-clause-illegal
returns-in_err-take_move-clause-illegal c = λ n why is.
    let same = passed_on _ _ _ c.from_residual-in_err-take_move.ensures.1 is in
    let said = c.in_err-take_move.ensures in
    let so_far = c.loop-i.invariant in
    first_at c.args.p.now c.args.lim c.args.moves.now c.loop-i.run.journal c.loop-i.run.st c.loop-i.i _ n why so_far.drawn.is_run so_far.moves so_far.count c.loop-i-test.true
    (said.number n why (ap Err same)) (said.forbids n why (ap Err same))

pub returns-clause-drawn : goal.returns-clause-drawn
returns-clause-drawn c =
    let t = c.loop-i.invariant.drawn in
    record {
      journal = c.loop-i.run.journal;
      legal = t.is_run.legal;
      has = c.loop-i.invariant.moves ∙ take_all c.loop-i.i c.args.moves.now c.loop-i-test.false;
      bars_are = t.bars;
      tasks_are = ap (λ (s : State). s.tasks) t.is_run.same;
    }
