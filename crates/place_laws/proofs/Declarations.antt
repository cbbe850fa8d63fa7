-- What the declarations of a program say without the places in it: all but where they stand.
use Rattle.std.proofs.Common.{◌≡◌, ℕ, ℤ, List, Option, None, Some, refl, ap, ◌∙◌}
use Rattle.std.specs.Prelude.{option_map, slice_get}
use Rattle.std.proofs.lemmas.Option.{slice_get-map}
use Rattle.twe_program.specs.declared.program.CellDecl.{CellDecl}
use Rattle.twe_program.specs.declared.program.Decl.{Decl}
use Rattle.twe_program.specs.Program.{Program}
use Rattle.seg_meaning.specs.Cells.{cell_number, element_number, element_of, first_of, grid_element_number, grid_element_of}
use Rattle.seg_meaning.specs.Entry.{effects_at, effects_of, entry_frame, frame_of}
use Rattle.seg_meaning.specs.Meaning.{body_of, vars_at_start}
use Rattle.summary_texts.specs.paste_laws.places.Places.{bare_program, bare_statements, placeless_cell, placeless_decl}

first_bare : (cell : Option CellDecl) → first_of (option_map placeless_cell cell) ≡ first_of cell
first_bare None = refl
first_bare (Some cell) = refl

element_bare : (cell : Option CellDecl) (index : ℤ) → element_of (option_map placeless_cell cell) index ≡ element_of cell index
element_bare None index = refl
element_bare (Some cell) index = refl

grid_bare : (cell : Option CellDecl) (row column : ℤ) → grid_element_of (option_map placeless_cell cell) row column ≡ grid_element_of cell row column
grid_bare None row column = refl
grid_bare (Some cell) row column = refl

pub body_bare : (decl : Option Decl) → body_of (option_map placeless_decl decl) ≡ bare_statements (body_of decl)
body_bare None = refl
body_bare (Some decl) = refl

pub vars_bare : (decl : Option Decl) (args : List ℤ) → vars_at_start (option_map placeless_decl decl) args ≡ vars_at_start decl args
vars_bare None args = refl
vars_bare (Some decl) args = refl

frame_bare : (decl : Option Decl) (task : ℕ) (args : List ℤ) → frame_of (option_map placeless_decl decl) task args ≡ frame_of decl task args
frame_bare None task args = refl
frame_bare (Some decl) task args = refl

effects_bare : (decl : Option Decl) (args : List ℤ) → effects_of (option_map placeless_decl decl) args ≡ effects_of decl args
effects_bare None args = refl
effects_bare (Some decl) args = refl

module _ (p : Program) where
  cell_at : (cell : ℕ) → slice_get (bare_program p).cells cell ≡ option_map placeless_cell (slice_get p.cells cell)
  cell_at cell = slice_get-map placeless_cell p.cells cell

  pub method_at : (method : ℕ) → slice_get (bare_program p).methods method ≡ option_map placeless_decl (slice_get p.methods method)
  method_at method = slice_get-map placeless_decl p.methods method

  task_at : (task : ℕ) → slice_get (bare_program p).tasks task ≡ option_map placeless_decl (slice_get p.tasks task)
  task_at task = slice_get-map placeless_decl p.tasks task

  pub same_cell : (cell : ℕ) → cell_number (bare_program p) cell ≡ cell_number p cell
  same_cell cell = ap first_of (cell_at cell) ∙ first_bare (slice_get p.cells cell)

  pub same_element : (array : ℕ) (index : ℤ) → element_number (bare_program p) array index ≡ element_number p array index
  same_element array index = ap (λ (c : Option CellDecl). element_of c index) (cell_at array) ∙ element_bare (slice_get p.cells array) index

  pub same_grid_element : (array : ℕ) (row column : ℤ) → grid_element_number (bare_program p) array row column ≡ grid_element_number p array row column
  same_grid_element array row column = ap (λ (c : Option CellDecl). grid_element_of c row column) (cell_at array) ∙ grid_bare (slice_get p.cells array) row column

  pub same_body : (task : ℕ) → body_of (slice_get (bare_program p).tasks task) ≡ bare_statements (body_of (slice_get p.tasks task))
  same_body task = ap body_of (task_at task) ∙ body_bare (slice_get p.tasks task)

  pub same_entry : (task : ℕ) (args : List ℤ) → entry_frame (bare_program p) task args ≡ entry_frame p task args
  same_entry task args = ap (λ (d : Option Decl). frame_of d task args) (task_at task) ∙ frame_bare (slice_get p.tasks task) task args

  pub same_effects : (task : ℕ) (args : List ℤ) → effects_at (bare_program p) task args ≡ effects_at p task args
  same_effects task args = ap (λ (d : Option Decl). effects_of d args) (task_at task) ∙ effects_bare (slice_get p.tasks task) args
