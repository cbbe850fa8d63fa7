-- Taking a turn, beside the nodes: what the seat knows of records from then on.
use Rattle.std.specs.Prelude.{◌++◌, ℕ, zero, suc, List, [], ◌∷◌, length}
use Rattle.region_paths.specs.declared.elements.Elem.{Elem}
use Rattle.effect_sets.specs.declared.effects.Effect.{Effect}
use Rattle.machine_state.specs.declared.state.TaskRow.{TaskRow}
use Rattle.machine_state.specs.declared.state.TaskStatus.{TaskStatus}
use Rattle.machine_state.specs.declared.state.TaskStatus.TheVariants as status
use Rattle.floor_laws.specs.rule.Floors.{put}
use Rattle.floor_laws.specs.admission.admission_core.States.{Record}
use Rattle.floor_laws.specs.rule.nodes.Trees.{Tree}

-- the records of effect e of task t at the first n nodes
abbrev pub at_nodes : ℕ → Effect → ℕ → List Record
at_nodes t e zero = []
at_nodes t e (suc n) = record { task = t; effect = e; node = n } ∷ at_nodes t e n

-- the records of these effects of task t at all nodes
abbrev pub at_all_nodes : List (List Elem) → ℕ → List Effect → List Record
at_all_nodes nodes t [] = []
at_all_nodes nodes t (e ∷ effects) = at_nodes t e (length nodes) ++ at_all_nodes nodes t effects

-- What a seat knows not to stand once it took the turn of task t, which has this status and these effects: unless the task is
-- enabled, no record of it, since none stands while its turn is free.
abbrev pub clear_after_taking : List (List Elem) → ℕ → TaskStatus → List Effect → List Record → List Record
clear_after_taking nodes t status.Made effects clear = at_all_nodes nodes t effects ++ clear
clear_after_taking nodes t status.Enabled effects clear = clear
clear_after_taking nodes t status.Done effects clear = at_all_nodes nodes t effects ++ clear
clear_after_taking nodes t status.Faulted effects clear = at_all_nodes nodes t effects ++ clear

-- seat i took the turn of task t, of which it knows this row
abbrev pub after_taking_up : List (List Elem) → Tree → ℕ → ℕ → TaskRow → Tree
after_taking_up nodes tree i t row = record tree {
  clear = put tree.clear i (clear_after_taking nodes t row.status row.effects.effects (tree.clear i));
}
