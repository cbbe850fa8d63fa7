use Rattle.std.proofs.Common.{◌∙◌, length, ap}
use Rattle.machine_state.specs.declared.state.State.{State}
use Rattle.library_tests.proofs.Cells.{length-initial_values}
use Rattle.library_tests.proofs.elisions.elide_within.Goals as goal

-- there are as many cells as the program has
pub elide-requires : goal.elide-requires
elide-requires c = ap (λ (s : State). length s.cells) c.in_ok-st.ensures ∙ length-initial_values c.in_ok-p.p.cells
