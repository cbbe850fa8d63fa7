-- One more run has its answer.
use Rattle.std.proofs.Common.{◌≡◌, ◌++◌, ℕ, List, [], ◌∷◌, Some, length, inl, inr, sym, ap, ◌∙◌, subst}
use Rattle.std.specs.Prelude.{slice_get}
use Rattle.twe_base.specs.Limits.{Bounds}
use Rattle.twe_program.specs.Program.{Program}
use Rattle.flat_sched.specs.declared.ending.WholeRun.{WholeRun}
use Rattle.machine_state.proofs.lists.Places.{got_one, put_cases}
use Rattle.twe_io.specs.declared.answer.Answer.{Answer}
use Rattle.twe_explore.specs.Answers.{AnswersFor}

-- the runs have the answers at their places
abbrev pub HaveAnswers : Program → Bounds → List WholeRun → List Answer → Type 0
HaveAnswers p lim runs answers =
    (at : ℕ) (run : WholeRun) (answer : Answer) → slice_get runs at ≡ Some run → slice_get answers at ≡ Some answer → AnswersFor p lim run answer

pub one_answer_more : (p : Program) (lim : Bounds) (runs : List WholeRun) (answers : List Answer) (n : ℕ) (run : WholeRun) (answer : Answer) → HaveAnswers p lim runs answers
    → length answers ≡ n → slice_get runs n ≡ Some run → AnswersFor p lim run answer → HaveAnswers p lim runs (answers ++ answer ∷ [])
one_answer_more p lim runs answers n run answer before count there given at other its is also =
    elim (put_cases answers answer at its also) [
      | inl earlier ↦ before at other its is earlier
      | inr last ↦
          let place : at ≡ n = last.0 ∙ count in
          let same : run ≡ other = got_one (slice_get runs n) there (ap (slice_get runs) (sym place) ∙ is) in
          subst (λ (r : WholeRun). AnswersFor p lim r its) same (subst (λ (a : Answer). AnswersFor p lim run a) last.1 given)
    ]
