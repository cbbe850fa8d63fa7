-- The causes of the errors of a reading.
use Rattle.std.specs.Prelude.{ℕ, List}
use Rattle.twe_frontend.specs.declared.read.FrontFail.{FrontFail}
use Rattle.twe_frontend.specs.declared.read.FrontFail.TheVariants.{Refused, OutOfMemory}
use Rattle.twe_frontend.specs.meaning.Meaning.{IsRefusedBefore}

-- the cause of an error: the refusal of the text; nothing is said of want of memory
abbrev pub ReadingHasCause : List ℕ → FrontFail → Type 0
ReadingHasCause text (Refused refusal) = IsRefusedBefore text refusal
ReadingHasCause text (OutOfMemory memory) = Unit {0}
