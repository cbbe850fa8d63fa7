use Rattle.std.proofs.Common.{◌≤◌, ◌-◌, ◌^◌, subst, arith}
use Rattle.twe_io.specs.Memory.{MemReading}
use Rattle.twe_io.proofs.MemReads.{read_fault_iff}
use Rattle.twe_io.proofs.mem.MemSource.read_all.Goals as goal

pub returns-clause-fault : goal.returns-clause-fault
returns-clause-fault c =
    let counted = subst (λ (source : MemReading). source.calls ≤ 2 ^ 64 - 1) c.self.view_is (omega arith) in
    read_fault_iff _ _ _ _ counted c.read_all.ensures.reads
