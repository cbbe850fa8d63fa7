-- The entry of an admission as a step: what the seat that draws it has to know, and the floor after it.
use Rattle.std.specs.Prelude.{◌≡◌, ◌+◌, ◌++◌, ℕ, List, [], ◌∷◌, Some, None}
use Rattle.region_paths.specs.declared.elements.Elem.{Elem}
use Rattle.seg_journal.specs.declared.journal.End.TheVariants.{Admitted}
use Rattle.seg_journal.specs.declared.moves.Kind.TheVariants.{Admit}
use Rattle.machine_state.specs.Moves.{admitted_row}
use Rattle.seg_journal.specs.declared.numbered.NumberedEntry.{NumberedEntry}
use Rattle.floor_laws.specs.declared.rule.view.HeldTurn.{HeldTurn}
use Rattle.floor_laws.specs.rule.Fitting.{Turns}
use Rattle.floor_laws.specs.rule.Floors.{Floor, put, put_turn}
use Rattle.floor_laws.specs.rule.nodes.FactSteps.{HasPlacedAll}
use Rattle.floor_laws.specs.rule.nodes.Trees.{Tree}

-- Seat i may draw the admission of task t: it has placed a record for each effect of t, and does nothing in the tree.
pub record MayDrawAdmission (nodes : List (List Elem)) (turns : Turns) (tree : Tree) (i t : ℕ) : Type 0 where
  pub placed : HasPlacedAll nodes turns tree i t
  pub idle : tree.activities i ≡ None

-- the entry of task t's admission, with the number that the clock said
abbrev pub admission_drawn : Floor → ℕ → NumberedEntry
admission_drawn f t = record {
  number = f.entries;
  entry = record { mv = record { kind = Admit; task = t }; end = Admitted };
  prints = [];
}

-- the entry was drawn, and the seat knows that the task is enabled
abbrev pub after_admission : Floor → ℕ → ℕ → HeldTurn → Floor
after_admission f i t turn = record f {
  entries = f.entries + 1;
  parts = put f.parts i (f.parts i ++ admission_drawn f t ∷ []);
  held = put_turn f.held i t (Some (record turn { row = admitted_row turn.row }));
}
