-- Why a text was not read as a journal.
use Rattle.seg_journal.specs.declared.text.JournalFail.{JournalFail}
use Rattle.seg_journal.specs.declared.text.JournalFail.TheVariants.{BadLine, OutOfMemory}

-- there was not enough memory
abbrev pub IsOutOfMemory : JournalFail → Type 0
IsOutOfMemory (BadLine n) = ⊥
IsOutOfMemory (OutOfMemory memory) = Unit {0}
