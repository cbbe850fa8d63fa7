use Rattle.std.proofs.Common.{◌≡◌, None, false, take}
use Rattle.std.specs.List.{All}
use Rattle.machine_state.specs.Runs.{is_fault, state_after}
use Rattle.run_facts.proofs.fault_snapshots.snapshot_of_fault.Given as goal

-- the entries up to here were taken again, and met no fault
abbrev pub invariant-loop-entry : goal.invariant-loop-entry
invariant-loop-entry l = record {
  state : l.st ≡ state_after l.p l.lim (take l.entry-index l.journal);
  quiet : All (λ entry. is_fault entry.end ≡ false) (take l.entry-index l.journal);
  none : l.st.first_fault ≡ None;
}
