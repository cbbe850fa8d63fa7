use Rattle.std.proofs.Common.{◌≡◌, take}
use Rattle.machine_state.specs.Runs.{state_after}
use Rattle.run_facts.specs.Makings.{makings_of}
use Rattle.run_facts.proofs.making.makings_of.Given as goal

-- the entries up to here were taken again
abbrev pub invariant-loop-entry : goal.invariant-loop-entry
invariant-loop-entry l = record {
  state : l.st ≡ state_after l.p l.lim (take l.entry-index l.journal);
  makings : l.makings ≡ makings_of l.p l.lim (take l.entry-index l.journal);
}
