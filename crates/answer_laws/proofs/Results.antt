-- The result that is written if all tasks are done names no place.
use Rattle.std.proofs.Common.{◌≡◌, ℕ, ℤ, List, [], ◌∷◌, ◌++◌, map, length, refl, sym, ap, ◌∙◌}
use Rattle.std.specs.Prelude.{codes, decimal}
use Rattle.std.specs.List.{flat_map}
use Rattle.twe_program.specs.declared.program.CellDecl.{CellDecl}
use Rattle.twe_program.specs.Program.{Program}
use Rattle.machine_state.specs.declared.state.State.{State}
use Rattle.summary_texts.specs.paste_laws.places.Places.{SameButPlaces, bare_program, placeless_cell}
use Rattle.place_laws.specs.Alike.{SameStates}
use Rattle.place_laws.specs.Bare.{bare_state}
use Rattle.twe_report.specs.Texts.{cell_line, line, prints_text, result_text}

lines_bare : (values : List ℤ) (cells : List CellDecl) → flat_map (cell_line values) (map placeless_cell cells) ≡ flat_map (cell_line values) cells
lines_bare values [] = refl
lines_bare values (cell ∷ cells) = ap (λ (lines : List ℕ). cell_line values cell ++ lines) (lines_bare values cells)

result_bare : (p : Program) (st : State) → result_text (bare_program p) (bare_state st) ≡ result_text p st
result_bare p st =
    ap (λ (lines : List ℕ). prints_text st.prints ++ (lines ++ line (codes "tasks " ++ decimal (length st.tasks)))) (lines_bare st.cells p.cells)

pub same_result : (p q : Program) (last its : State) → SameButPlaces p q → SameStates last its → result_text p last ≡ result_text q its
same_result p q last its same states =
    sym (result_bare p last) ∙ ap (λ (r : Program). result_text r (bare_state last)) same ∙ ap (result_text (bare_program q)) states ∙ result_bare q its
