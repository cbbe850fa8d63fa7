-- What the rows of tasks keep to while a program runs.
use Rattle.std.specs.Prelude.{◌≡◌, ◌≢◌, ℕ}
use Rattle.effect_sets.specs.Interference.{SomeInterfere}
use Rattle.twe_program.specs.Program.{Program}
use Rattle.seg_meaning.specs.Entry.{effects_at}
use Rattle.isolation_laws.specs.soundness.RunsWith.{RunsWith}
use Rattle.wait_graph.specs.Waiting.{SpawnedBy}
use Rattle.machine_state.specs.declared.state.State.{State}
use Rattle.machine_state.specs.declared.state.TaskRow.{TaskRow}
use Rattle.machine_state.specs.Rows.{IsRow}

-- The row keeps to the declaration that its task was made from: its frame runs that declaration with the row's
-- arguments, and its effects are those of the declaration's summary, filled with these arguments.
pub record KeepsToDeclaration (p : Program) (row : TaskRow) : Type 0 where
  pub decl : row.frame.decl ≡ row.decl
  pub arguments : RunsWith p row.args row.frame
  pub effects : row.effects ≡ effects_at p row.decl row.args

-- each row does
abbrev pub RowsKeepToDeclarations : Program → State → Type 0
RowsKeepToDeclarations p st = (t : ℕ) (row : TaskRow) → IsRow st t row → KeepsToDeclaration p row

-- the effects of two different unjoined children of one task do not interfere
abbrev pub ChildrenApart : State → Type 0
ChildrenApart st =
    (c d t : ℕ) (a b : TaskRow) → c ≢ d → IsRow st c a → IsRow st d b → SpawnedBy st.links c t → SpawnedBy st.links d t
    → ¬ SomeInterfere a.effects.effects b.effects.effects
