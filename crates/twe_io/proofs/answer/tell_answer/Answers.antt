use Rattle.std.proofs.Common.{inl, inr}
use Rattle.twe_io.specs.Answers.{Tells}
use Rattle.twe_io.proofs.answer.tell_answer.Goals as goal

pub returns-in-Ok : goal.returns-in-Ok
returns-in-Ok g c = Tells.told c.in-Ok.ensures.0 c.in-Ok.ensures.1

pub returns-in-Err : goal.returns-in-Err
returns-in-Err g c = elim c.in-Err.ensures [
  | inl w ↦ Tells.out_broke_off w.0 w.1
  | inr w ↦ Tells.err_broke_off w.0 w.1
]
