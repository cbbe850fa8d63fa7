use Rattle.std.proofs.Common.{Err, List, ap, length, map, sym, subst}
use Rattle.seg_journal.specs.declared.journal.Entry.{Entry}
use Rattle.seg_journal.specs.Spelling.{move_of}
use Rattle.machine_state.specs.declared.state.State.{State}
use Rattle.twe_machine.specs.Listings.{IsListing}
use Rattle.machine_state.specs.Runs.{IsRun}
use Rattle.machine_state.proofs.replays.Replayed.{first_at, passed_on}
use Rattle.twe_machine.proofs.replaying.replay_journal.Goals as goal

-- no move was taken yet
pub loop-i-init : goal.loop-i-init
loop-i-init c = record {
  so_far = record {
    is_run = subst (λ (j : List Entry). IsRun c.args.p.now c.args.lim j c.in_ok-st.st) (sym c.new-journal.ensures) (record { legal = tt; same = c.in_ok-st.ensures });
    listing = subst (λ (s : State). IsListing s c.in_ok-enabled.enabled) (sym c.in_ok-st.ensures) (c.in_ok-enabled.ensures.start c.args.p.now c.args.lim);
  };
  moves = ap (map move_of) c.new-journal.ensures;
  count = ap length c.new-journal.ensures;
}

-- the move that was not taken is the first that is not legal
pub returns-in_err-take_move-clause-illegal : goal.returns-in_err-take_move-clause-illegal
returns-in_err-take_move-clause-illegal c = λ n why is.
    let same = passed_on _ _ _ c.from_residual-in_err-take_move.ensures.1 is in
    let said = c.in_err-take_move.ensures in
    let run = c.loop-i.invariant in
    first_at c.args.p.now c.args.lim c.args.moves.now c.loop-i.run.journal c.loop-i.run.st c.loop-i.i _ n why run.so_far.is_run run.moves run.count c.loop-i-test.true
    (said.number n why (ap Err same)) (said.forbids n why (ap Err same))
