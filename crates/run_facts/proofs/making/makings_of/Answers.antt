use Rattle.std.proofs.Common.{◌++◌, ℕ, List, get_or, take, sym, ap, ◌∙◌, subst}
use Rattle.seg_journal.specs.declared.journal.End.{End}
use Rattle.seg_journal.specs.declared.journal.End.TheVariants.{Admitted}
use Rattle.seg_journal.specs.declared.journal.Entry.{Entry}
use Rattle.seg_journal.specs.declared.moves.Kind.TheVariants.{Admit}
use Rattle.machine_state.specs.declared.state.State.{State}
use Rattle.machine_state.specs.Legal.{MayMove}
use Rattle.machine_state.specs.Moves.{move_result}
use Rattle.run_facts.specs.declared.making.TaskMaking.{TaskMaking}
use Rattle.run_facts.specs.Makings.{making_by, makings_of}
use Rattle.run_facts.proofs.Beginnings.{makings_more, next_may, reached_by, state_more}
use Rattle.run_facts.proofs.making.makings_of.Goals as goal

abbrev first_entry : Entry
first_entry = record { mv = record { kind = Admit; task = 0 }; end = Admitted }

-- the state was reached, and the next move is legal
pub step-requires-clause-reached : goal.step-requires-clause-reached
step-requires-clause-reached c =
    reached_by c.args.p.now c.args.lim c.args.journal.now c.loop-entry.entry-index c.loop-entry.st c.requires c.loop-entry.invariant.state

pub step-requires-clause-legal : goal.step-requires-clause-legal
step-requires-clause-legal c =
    subst (λ (s : State). MayMove s (get_or c.args.journal.now c.loop-entry.entry-index first_entry).mv) (sym c.loop-entry.invariant.state)
    (next_may c.args.p.now c.args.lim c.args.journal.now c.loop-entry.entry-index first_entry c.requires c.loop-entry-test.true)

-- one more entry was taken
pub loop-entry-preserved : goal.loop-entry-preserved
loop-entry-preserved c =
    let p = c.args.p.now in
    let lim = c.args.lim in
    let journal = c.args.journal.now in
    let i : ℕ = c.loop-entry.entry-index in
    let entry : Entry = get_or journal i first_entry in
    let state =
    ap (λ (x : State × End). x.0) c.in_ok-step.ensures
    ∙ (ap (λ (s : State). (move_result p lim s entry.mv).0) c.loop-entry.invariant.state ∙ sym (state_more p lim journal i first_entry c.loop-entry-test.true)) in
    record {
      state = state;
      makings = c.in_ok-note_making.ensures
          ∙ (ap (λ (l : List TaskMaking). l ++ making_by p c.step.new.st entry.mv.task entry.end) c.loop-entry.invariant.makings
          ∙ (ap (λ (s : State). makings_of p lim (take i journal) ++ making_by p s entry.mv.task entry.end) state
          ∙ sym (makings_more p lim journal i first_entry c.loop-entry-test.true)));
    }
