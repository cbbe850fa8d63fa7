-- An answer that has given advice.
use Rattle.std.specs.Prelude.{◌≡◌, List}
use Rattle.twe_io.specs.Answers.{on_out}
use Rattle.twe_io.specs.declared.answer.Answer.{Answer}
use Rattle.twe_io.specs.declared.status.Status.TheVariants.{Done}
use Rattle.twe_ast.specs.declared.item.Item.{Item}
use Rattle.twe_program.specs.Program.{Program}
use Rattle.held_span.specs.declared.pair.HeldPair.{HeldPair}
use Rattle.held_span.specs.declared.spanning.HeldProfile.{HeldProfile}
use Rattle.span_profile.specs.declared.advising.Advice.{Advice}
use Rattle.twe_advise.specs.declared.paces.PacedTime.{PacedTime}
use Rattle.twe_advise.specs.Forms.{advice_text}
use Rattle.twe_advise.specs.Paces.{ArePaces, worker_counts}
use Rattle.twe_advise.specs.declared.words.AdviceWords.{AdviceWords}

-- the answer has this advice as these words ask for it, with the times of the paced timetables, the held span, the holds and the
-- pairs that held most
abbrev pub AdvisedBy : AdviceWords → List Item → Program → Advice → HeldProfile → List HeldPair → Answer → Type 0
AdvisedBy wanted items p advice held pairs answer =
    (paces : List PacedTime)
    × ArePaces advice.profile.starts advice.profile.ends held.starts held.ends (worker_counts wanted.workers) paces
    × (answer ≡ on_out Done (advice_text wanted.form p items advice.profile.work advice.profile.span held.span held.holds pairs paces
    advice.works advice.tasks advice.profile.starts advice.steps))
