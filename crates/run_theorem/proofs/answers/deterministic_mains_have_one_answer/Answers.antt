use Rattle.std.proofs.Common.{◌≡◌, List, ℕ, sym, ap, ◌∙◌, subst, false}
use Rattle.twe_program.specs.Program.{Program}
use Rattle.machine_state.specs.Runs.{AllTasksDone, Legal, state_after}
use Rattle.twe_report.specs.Texts.{result_text}
use Rattle.twe_io.specs.Answers.{on_out}
use Rattle.twe_io.specs.declared.status.Status.TheVariants.{Done}
use Rattle.text_answers.specs.Answers.{with_journal}
use Rattle.run_theorem.proofs.Headline.{done_run}
use Rattle.run_theorem.proofs.answers.deterministic_mains_have_one_answer.Goals as goal

pub returns-clause-but_for_journals : goal.returns-clause-but_for_journals
returns-clause-but_for_journals c text p workers crew lim asked also book second answer other short accepted flag limits due done due_too =
    let law = c.accepted_programs_are_well_formed.ensures in
    let first = done_run workers lim asked text book answer due done in
    let is_first : first.program ≡ p = c.one_program.ensures text first.program p first.accepted accepted in
    let wf = law.well_formed text p short accepted in
    let keeps = law.keeps text p accepted in
    let legal_first : Legal p lim book.journal = subst (λ (q : Program). Legal q lim book.journal) is_first first.has.has.legal in
    let all_first : AllTasksDone (state_after p lim book.journal) =
    subst (λ (q : Program). AllTasksDone (state_after q lim book.journal)) is_first first.has.has.ended.1 in
    let done_second : other.status ≡ Done =
    sym (c.deterministic_mains_have_one_status.ensures text p workers crew asked also lim answer other short accepted flag limits (book, due) (second, due_too)) ∙ done in
    let later = done_run crew lim also text second other due_too done_second in
    let is_later : later.program ≡ p = c.one_program.ensures text later.program p later.accepted accepted in
    let legal_later : Legal p lim second.journal = subst (λ (q : Program). Legal q lim second.journal) is_later later.has.has.legal in
    let all_later : AllTasksDone (state_after p lim second.journal) =
    subst (λ (q : Program). AllTasksDone (state_after q lim second.journal)) is_later later.has.has.ended.1 in
    let texts : result_text p (state_after p lim book.journal) ≡ result_text p (state_after p lim second.journal) =
    c.deterministic_mains_have_one_result_text.ensures p lim book.journal second.journal
    (record { well_formed = wf; keeps = keeps; legal = legal_first }) (record { well_formed = wf; keeps = keeps; legal = legal_later })
    flag limits all_first all_later in
    record {
      plain = on_out Done (result_text p (state_after p lim book.journal));
      one = first.same ∙ ap (λ (q : Program). with_journal asked lim book.journal (on_out Done (result_text q (state_after q lim book.journal)))) is_first;
      second = later.same
          ∙ (ap (λ (q : Program). with_journal also lim second.journal (on_out Done (result_text q (state_after q lim second.journal)))) is_later
          ∙ ap (λ (bytes : List ℕ). with_journal also lim second.journal (on_out Done bytes)) (sym texts));
    }

-- without journals both are the same answer
pub returns-clause-without : goal.returns-clause-without
returns-clause-without c text p workers crew lim answer other short accepted flag limits one done second =
    let same = returns-clause-but_for_journals c text p workers crew lim false false one.0 second.0 answer other short accepted flag limits one.1 done second.1 in
    same.one ∙ sym same.second
