-- The numbers of the statuses.
use Rattle.std.specs.Prelude.{ℕ, Bool, true, false}
use Rattle.twe_io.specs.declared.status.Status.{Status}
use Rattle.twe_io.specs.declared.status.Status.TheVariants.{Done, Refused, Usage, Fault, Stuck, ReadFault, WriteFault, Memory}
use Rattle.twe_io.specs.declared.status.Status.TheVariants.{TooLong, BadJournal, Unfinished, TooMany}

-- the number of a status
abbrev pub code_of : Status → ℕ
code_of Done = 0
code_of Refused = 1
code_of Usage = 2
code_of Fault = 3
code_of Stuck = 4
code_of ReadFault = 5
code_of WriteFault = 6
code_of Memory = 7
code_of TooLong = 8
code_of BadJournal = 9
code_of Unfinished = 10
code_of TooMany = 11

-- all went well: what was asked for is done
abbrev pub is_status_done : Status → Bool
is_status_done Done = true
is_status_done _ = false
