use Rattle.std.specs.Prelude.{◌≡◌, ◌++◌, codes, decimal}
use Rattle.std.specs.List.{flat_map}
use Rattle.twe_program.specs.Program.{Program}
use Rattle.machine_state.specs.declared.state.State.{State}
use Rattle.machine_state.specs.Runs.{state_after}
use Rattle.twe_report.specs.Texts.{cell_line, line, prints_text, result_text}
use Rattle.determinism_laws.specs.results.Main.{HaveSameResult}
use Rattle.text_answers.proofs.laws.deterministic_mains_have_one_result_text.Goals as goal

-- the text is one of the cells, the printed numbers and the number of tasks alone
same_text : (p : Program) (one other : State) → HaveSameResult one other → result_text p one ≡ result_text p other
same_text p one other same =
    λ i. prints_text (same.prints i) ++ (flat_map (cell_line (same.cells i)) p.cells ++ line (codes "tasks " ++ decimal (same.tasks i)))

pub returns : goal.returns
returns c p lim one other run run_too flag within done_one done_other =
    same_text p (state_after p lim one) (state_after p lim other)
    (c.deterministic_mains_have_one_result.ensures p lim one other run run_too flag within.tasks_least done_one done_other)
