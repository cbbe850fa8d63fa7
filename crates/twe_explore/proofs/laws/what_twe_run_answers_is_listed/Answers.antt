use Rattle.std.proofs.Common.{length, refl}
use Rattle.machine_state.specs.Runs.{state_after}
use Rattle.reduction_laws.specs.WaysToEnd.{all_done}
use Rattle.twe_explore.proofs.Listed.{listed_if_done}
use Rattle.twe_explore.proofs.laws.what_twe_run_answers_is_listed.Goals as goal

pub returns-clause-way : goal.returns-clause-way
returns-clause-way c p lim ended workers outcome book all ran way so = all book.journal way ran.has.legal so

pub returns-clause-done : goal.returns-clause-done
returns-clause-done c p lim ended workers book prints answer shows all ran is =
    let st = state_after p lim book.journal in
    listed_if_done p lim ended shows st prints answer (all book.journal (all_done st.cells st.prints (length st.tasks)) ran.has.legal (ran.has.ended, refl, refl, refl)) is
