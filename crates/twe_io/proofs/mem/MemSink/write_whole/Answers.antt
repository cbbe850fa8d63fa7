use Rattle.std.proofs.Common.{◌≤◌, subst, arith}
use Rattle.twe_io.specs.Memory.{MemWriting}
use Rattle.twe_io.proofs.MemWrites.{cut_off}
use Rattle.twe_io.proofs.mem.MemSink.write_whole.Goals as goal

pub returns-clause-written : goal.returns-clause-written
returns-clause-written c first use_of =
    let stepping = subst (λ (sink : MemWriting). 1 ≤ sink.step) c.self.view_is (omega arith) in
    (cut_off _ _ first stepping (omega arith) use_of _ _ c.write_whole.ensures.writes).written

pub returns-clause-fault : goal.returns-clause-fault
returns-clause-fault c first use_of =
    let stepping = subst (λ (sink : MemWriting). 1 ≤ sink.step) c.self.view_is (omega arith) in
    (cut_off _ _ first stepping (omega arith) use_of _ _ c.write_whole.ensures.writes).fault
