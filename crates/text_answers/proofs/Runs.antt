-- The answer to the run of a load.
use Rattle.std.proofs.Common.{◌≡◌, ℕ, Bool, true, false, cond, ap}
use Rattle.machine_state.specs.declared.state.State.{State}
use Rattle.twe_io.specs.declared.answer.Answer.{Answer}
use Rattle.twe_io.specs.Answers.{on_err, on_out}
use Rattle.twe_io.specs.declared.status.Status.TheVariants.{Done}
use Rattle.text_answers.specs.Answers.{for_load}
use Rattle.twe_io.specs.Codes.{is_status_done}
use Rattle.twe_report.specs.Texts as texts

-- the answer of a load, by the status of its run
pub done_load : (n : ℕ) (st : State) (plain : Answer) → is_status_done plain.status ≡ true → for_load n st plain ≡ on_out Done (texts.load_result_text n st)
done_load n st plain done = ap (λ (b : Bool). cond b (on_out Done (texts.load_result_text n st)) (on_err plain.status plain.err)) done

pub other_load : (n : ℕ) (st : State) (plain : Answer) → is_status_done plain.status ≡ false → for_load n st plain ≡ on_err plain.status plain.err
other_load n st plain not_done = ap (λ (b : Bool). cond b (on_out Done (texts.load_result_text n st)) (on_err plain.status plain.err)) not_done
