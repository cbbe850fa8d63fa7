use Rattle.std.proofs.Common.{◌≡◌, ◌++◌, ℕ, suc, List, ◌∷◌, None, Some, false, get_or, take, drop, slice_get, sym, ap, ◌∙◌, subst, arith}
use Rattle.std.specs.List.{All}
use Rattle.std.proofs.Math.Seq.{drop-cons}
use Rattle.std.proofs.lemmas.List.{take-append-drop, take_all, take_more}
use Rattle.std.proofs.lemmas.List.Elements.{All-nil, All-push}
use Rattle.seg_journal.specs.declared.journal.End.{End}
use Rattle.seg_journal.specs.declared.journal.End.TheVariants.{Admitted}
use Rattle.seg_journal.specs.declared.journal.End.TheVariants as ends
use Rattle.seg_journal.specs.declared.journal.Entry.{Entry}
use Rattle.seg_journal.specs.declared.moves.Kind.TheVariants.{Admit}
use Rattle.twe_program.specs.WellFormed.{IsWellFormed}
use Rattle.machine_state.specs.declared.state.State.{State}
use Rattle.machine_state.specs.Legal.{MayMove}
use Rattle.machine_state.specs.Moves.{move_result, ran, start_of}
use Rattle.machine_state.specs.Runs.{is_fault, state_after}
use Rattle.machine_state.proofs.standing.ReachedStands.{reached_stands}
use Rattle.machine_state.proofs.tasks.Movers.{mover_there}
use Rattle.run_facts.specs.FaultSnapshots.{HasSnapshot, faulty_entry, snapshot_ahead}
use Rattle.run_facts.proofs.Beginnings.{next_may, reached_by, state_more}
use Rattle.run_facts.proofs.FirstFaults.{ended_so, first_entry_is, still_none}
use Rattle.run_facts.proofs.SnapshotsThere.{snapshot_is_there}
use Rattle.run_facts.proofs.fault_snapshots.snapshot_of_fault.Goals as goal

abbrev first_entry : Entry
first_entry = record { mv = record { kind = Admit; task = 0 }; end = Admitted }

-- the start has met no fault
pub loop-entry-init : goal.loop-entry-init
loop-entry-init c = record {
  state = c.in_ok-st.ensures;
  quiet = All-nil (λ (entry : Entry). is_fault entry.end ≡ false);
  none = ap (λ (s : State). s.first_fault) c.in_ok-st.ensures;
}

-- the state was reached, and the next move is legal
pub step-requires-clause-reached : goal.step-requires-clause-reached
step-requires-clause-reached c =
    reached_by c.args.p.now c.args.lim c.args.journal.now c.loop-entry.entry-index c.loop-entry.st c.requires.legal c.loop-entry.invariant.state

pub step-requires-clause-legal : goal.step-requires-clause-legal
step-requires-clause-legal c =
    subst (λ (s : State). MayMove s (get_or c.args.journal.now c.loop-entry.entry-index first_entry).mv) (sym c.loop-entry.invariant.state)
    (next_may c.args.p.now c.args.lim c.args.journal.now c.loop-entry.entry-index first_entry c.requires.legal c.loop-entry-test.true)

-- its task is there
pub snapshot_ahead-requires-clause-there : goal.snapshot_ahead-requires-clause-there
snapshot_ahead-requires-clause-there c =
    let st = c.loop-entry.st in
    let entry : Entry = get_or c.args.journal.now c.loop-entry.entry-index first_entry in
    mover_there st entry.mv.kind entry.mv.task
    (subst (λ (s : State). MayMove s entry.mv) (sym c.loop-entry.invariant.state)
    (next_may c.args.p.now c.args.lim c.args.journal.now c.loop-entry.entry-index first_entry c.requires.legal c.loop-entry-test.true))

-- and the state has the cells of the program
pub snapshot_ahead-requires-clause-cells : goal.snapshot_ahead-requires-clause-cells
snapshot_ahead-requires-clause-cells c =
    (reached_stands c.args.p.now c.args.lim c.loop-entry.st (subst IsWellFormed c.p.view_is c.p.invariant)
    (reached_by c.args.p.now c.args.lim c.args.journal.now c.loop-entry.entry-index c.loop-entry.st c.requires.legal c.loop-entry.invariant.state)).cells

-- one more entry was taken
pub loop-entry-preserved : goal.loop-entry-preserved
loop-entry-preserved c =
    let p = c.args.p.now in
    let lim = c.args.lim in
    let journal = c.args.journal.now in
    let i : ℕ = c.loop-entry.entry-index in
    let entry : Entry = get_or journal i first_entry in
    let st : State = c.loop-entry.st in
    let is_now : st ≡ state_after p lim (take i journal) = c.loop-entry.invariant.state in
    let after : c.step.new.st ≡ (move_result p lim st entry.mv).0 = ap (λ (x : State × End). x.0) c.in_ok-step.ensures in
    let quiet : is_fault entry.end ≡ false = sym c.is_fault.ensures ∙ c.if-is_fault.false in
    let may : MayMove st entry.mv = subst (λ (s : State). MayMove s entry.mv) (sym is_now) (next_may p lim journal i first_entry c.requires.legal c.loop-entry-test.true) in
    let ended : (move_result p lim st entry.mv).1 ≡ entry.end =
    ap (λ (s : State). (move_result p lim s entry.mv).1) is_now ∙ ended_so p lim (start_of p lim) journal i first_entry c.requires.legal c.loop-entry-test.true in
    record {
      state = after ∙ (ap (λ (s : State). (move_result p lim s entry.mv).0) is_now ∙ sym (state_more p lim journal i first_entry c.loop-entry-test.true));
      quiet = subst (All (λ (e : Entry). is_fault e.end ≡ false)) (sym (take_more journal i first_entry c.loop-entry-test.true))
          (All-push (λ (e : Entry). is_fault e.end ≡ false) (take i journal) entry c.loop-entry.invariant.quiet quiet);
      none = ap (λ (s : State). s.first_fault) after
          ∙ still_none p lim (subst IsWellFormed c.p.view_is c.p.invariant) st entry (reached_by p lim journal i st c.requires.legal is_now) may ended quiet c.loop-entry.invariant.none;
    }

-- the entry that met a fault is that of the fault
pub returns-then-is_fault : goal.returns-then-is_fault
returns-then-is_fault c =
    let p = c.args.p.now in
    let lim = c.args.lim in
    let journal = c.args.journal.now in
    let i : ℕ = c.loop-entry.entry-index in
    let entry : Entry = get_or journal i first_entry in
    let st : State = c.loop-entry.st in
    let before : State = state_after p lim (take i journal) in
    let is_now : st ≡ before = c.loop-entry.invariant.state in
    let is : entry ≡ faulty_entry c.args.fault =
    first_entry_is p lim (subst IsWellFormed c.p.view_is c.p.invariant) journal i first_entry c.args.fault c.requires.legal c.loop-entry-test.true
    (ap (λ (s : State). s.first_fault) (sym is_now) ∙ c.loop-entry.invariant.none) (sym c.is_fault.ensures ∙ c.if-is_fault.true) c.requires.fault in
    let same : c.in_ok-snapshot.snapshot ≡ snapshot_ahead p before c.args.fault.kind (slice_get before.tasks c.args.fault.task) =
    c.in_ok-snapshot.ensures
    ∙ (ap (λ (s : State). snapshot_ahead p s c.args.fault.kind (slice_get s.tasks entry.mv.task)) is_now
    ∙ ap (λ (e : Entry). snapshot_ahead p before c.args.fault.kind (slice_get before.tasks e.mv.task)) is) in
    let ended : (move_result p lim before entry.mv).1 ≡ entry.end = ended_so p lim (start_of p lim) journal i first_entry c.requires.legal c.loop-entry-test.true in
    let met : (ran p lim before c.args.fault.task (slice_get before.tasks c.args.fault.task)).1 ≡ ends.Fault c.args.fault.kind c.args.fault.place =
    subst (λ (e : Entry). (move_result p lim before e.mv).1 ≡ e.end) is ended in
    record {
      before = take i journal;
      later = drop (suc i) journal;
      split = sym (take-append-drop i journal)
          ∙ (ap (λ (l : List Entry). take i journal ++ l) (drop-cons journal i first_entry c.loop-entry-test.true)
          ∙ ap (λ (e : Entry). take i journal ++ e ∷ drop (suc i) journal) is);
      first = c.loop-entry.invariant.quiet;
      same = same;
      there = subst (HasSnapshot c.args.fault.kind) (sym same)
          (snapshot_is_there p lim before c.args.fault.task (slice_get before.tasks c.args.fault.task) c.args.fault.kind c.args.fault.place met);
    }

-- one entry has met it
pub unreachable-requires : goal.unreachable-requires
unreachable-requires c =
    let p = c.args.p.now in
    let lim = c.args.lim in
    let journal = c.args.journal.now in
    let all : take c.loop-entry.entry-index journal ≡ journal = take_all c.loop-entry.entry-index journal (omega arith) in
    let none : Some c.args.fault ≡ None =
    sym c.requires.fault ∙ (ap (λ (l : List Entry). (state_after p lim l).first_fault) (sym all)
    ∙ (ap (λ (s : State). s.first_fault) (sym c.loop-entry.invariant.state) ∙ c.loop-entry.invariant.none)) in
    cc
