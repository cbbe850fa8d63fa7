-- Answers that are the same, but that a fault may have another place.
use Rattle.std.specs.Prelude.{ℕ, List}
use Rattle.twe_base.specs.declared.fault.FaultKind.{FaultKind}
use Rattle.twe_base.specs.declared.place.Place.{Place}
use Rattle.twe_report.specs.Texts.{fault_text}
use Rattle.twe_io.specs.declared.answer.Answer.{Answer}
use Rattle.twe_io.specs.declared.status.Status.TheVariants.{Fault}

-- The answers have the same status and the same bytes, but that the line of a fault may name another place.
pub data SameAnswers : Answer → Answer → Type 0 where
  equal : (answer : Answer) → SameAnswers answer answer
  placed : (out : List ℕ) (task : ℕ) (kind : FaultKind) (place its : Place)
      → SameAnswers (record { status = Fault; out = out; err = fault_text task kind place })
      (record { status = Fault; out = out; err = fault_text task kind its })
