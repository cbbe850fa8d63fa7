-- What the names of the whole program stand for is there in the program.
use Rattle.std.proofs.Common.{◌≡◌, ◌≤◌, ℕ, ◌+◌, Bool, false, List, [], ◌∷◌, ◌++◌, Option, Some, map, length, slice_get, codes, refl, sym, ap, ◌∙◌, subst, arith, length-append}
use Rattle.std.proofs.lemmas.List.{length-map}
use Rattle.std.specs.List.{flat_map}
use Rattle.twe_ast.specs.declared.item.Ast.{Ast}
use Rattle.twe_ast.specs.declared.item.CellShape.{CellShape}
use Rattle.twe_ast.specs.declared.item.CellShape.TheVariants as shapes
use Rattle.twe_ast.specs.declared.item.Decl as written_decl
use Rattle.twe_ast.specs.declared.item.Item.{Item}
use Rattle.twe_ast.specs.declared.item.Item.TheVariants as items
use Rattle.twe_ast.specs.declared.name.Name.{Name}
use Rattle.twe_program.specs.declared.program.CellDecl.{CellDecl}
use Rattle.twe_program.specs.declared.program.Decl.{Decl}
use Rattle.twe_program.specs.Program.{Program, size_of}
use Rattle.twe_program.specs.Fitting.{HasShape, no_index, one_index, two_indexes, TakesIndexes}
use Rattle.name_check.specs.cell_limits.GoesOver.{cells_of}
use Rattle.name_check.specs.declared.names.GlobalName.{GlobalName}
use Rattle.name_check.specs.Names.{Before, at_start, indexes_of, regions_from, past, globals_from, globals_of}
use Rattle.twe_names.specs.Meaning.{regions_of_item, dims_of, cell_of, cells_from, decl_of, methods_of_item, tasks_of_item, program_of}
use Rattle.twe_names.proofs.Lists.{all-append, slice_get-middle, split_later, length-more}
use Rattle.twe_names.proofs.There.{DeclThere, GlobalThere, AllGlobalsThere, GlobalsThere}

-- of a program's lists these items stand after as many others as are counted before them
record Stand (p : Program) (globals : List GlobalName) (before : Before) (others : List Item) : Type 0 where
  regions : List (List ℕ)
  cells : List CellDecl
  first : ℕ
  methods : List Decl
  tasks : List Decl
  regions_list : p.regions ≡ regions ++ flat_map regions_of_item others
  cells_list : p.cells ≡ cells ++ cells_from globals first (cells_of others)
  methods_list : p.methods ≡ methods ++ flat_map (methods_of_item globals) others
  tasks_list : p.tasks ≡ tasks ++ flat_map (tasks_of_item globals) others
  regions_many : length regions ≡ before.regions
  cells_many : length cells ≡ before.cells
  methods_many : length methods ≡ before.methods
  tasks_many : length tasks ≡ before.tasks

shape-indexes : (shape : CellShape) → HasShape (dims_of shape) (indexes_of shape)
shape-indexes (shapes.Scalar initial) = no_index
shape-indexes (shapes.Array elements) = one_index
shape-indexes (shapes.Grid rows columns) = two_indexes

abbrev texts_of : List Name → List (List ℕ)
texts_of names = map (λ (name : Name). name.text) names

module _ (p : Program) (globals : List GlobalName) where
  regions-there : (number : ℕ) (names : List Name) → number + length names ≤ length p.regions → AllGlobalsThere p (regions_from number names)
  regions-there number [] h = tt
  regions-there number (name ∷ names) h = (omega arith, regions-there (number + 1) names (omega arith))

  there-at : (o : Option Decl) (deterministic : Bool) (decl : written_decl.Decl) → o ≡ Some (decl_of globals deterministic decl)
      → DeclThere o (length decl.params) decl.returns
  there-at o deterministic decl e = subst (λ (o : Option Decl). DeclThere o (length decl.params) decl.returns) (sym e) (refl, refl)

  items-there : (before : Before) (others : List Item) → Stand p globals before others → AllGlobalsThere p (globals_from before others)
  items-there before [] s = tt
  items-there before (items.Regions names ∷ others) s =
      let later = flat_map regions_of_item others in
      let long : length p.regions ≡ length s.regions + (length (texts_of names) + length later) =
      ap length s.regions_list ∙ length-append s.regions (texts_of names ++ later) ∙ ap (λ n. length s.regions + n) (length-append (texts_of names) later) in
      let many : length s.regions ≡ before.regions = s.regions_many in
      let same : length (texts_of names) ≡ length names = length-map names (λ (name : Name). name.text) in
      all-append (λ (g : GlobalName). GlobalThere p g.global) (regions_from before.regions names) (globals_from (past before (items.Regions names)) others)
      (regions-there before.regions names (omega arith))
      (items-there (past before (items.Regions names)) others (record {
        regions = s.regions ++ texts_of names;
        cells = s.cells;
        first = s.first;
        methods = s.methods;
        tasks = s.tasks;
        regions_list = split_later p.regions s.regions (texts_of names) later s.regions_list;
        cells_list = s.cells_list;
        methods_list = s.methods_list;
        tasks_list = s.tasks_list;
        regions_many = length-more s.regions (texts_of names) before.regions s.regions_many ∙ ap (λ n. before.regions + n) same;
        cells_many = s.cells_many;
        methods_many = s.methods_many;
        tasks_many = s.tasks_many;
      }))
  items-there before (items.Cell cell ∷ others) s =
      let one = cell_of globals s.first cell in
      let later = cells_from globals (s.first + size_of (dims_of cell.shape)) (cells_of others) in
      let found = slice_get-middle p.cells s.cells one later before.cells s.cells_list s.cells_many in (
        subst (λ (o : Option CellDecl). TakesIndexes o (indexes_of cell.shape)) (sym found) (shape-indexes cell.shape),
        items-there (past before (items.Cell cell)) others (record {
          regions = s.regions;
          cells = s.cells ++ one ∷ [];
          first = s.first + size_of (dims_of cell.shape);
          methods = s.methods;
          tasks = s.tasks;
          regions_list = s.regions_list;
          cells_list = split_later p.cells s.cells (one ∷ []) later s.cells_list;
          methods_list = s.methods_list;
          tasks_list = s.tasks_list;
          regions_many = s.regions_many;
          cells_many = length-more s.cells (one ∷ []) before.cells s.cells_many;
          methods_many = s.methods_many;
          tasks_many = s.tasks_many;
        }),
      )
  items-there before (items.Method decl ∷ others) s =
      let one = decl_of globals false decl in
      let later = flat_map (methods_of_item globals) others in
      let found = slice_get-middle p.methods s.methods one later before.methods s.methods_list s.methods_many in (
        there-at (slice_get p.methods before.methods) false decl found,
        items-there (past before (items.Method decl)) others (record {
          regions = s.regions;
          cells = s.cells;
          first = s.first;
          methods = s.methods ++ one ∷ [];
          tasks = s.tasks;
          regions_list = s.regions_list;
          cells_list = s.cells_list;
          methods_list = split_later p.methods s.methods (one ∷ []) later s.methods_list;
          tasks_list = s.tasks_list;
          regions_many = s.regions_many;
          cells_many = s.cells_many;
          methods_many = length-more s.methods (one ∷ []) before.methods s.methods_many;
          tasks_many = s.tasks_many;
        }),
      )
  items-there before (items.Task deterministic decl ∷ others) s =
      let one = decl_of globals deterministic decl in
      let later = flat_map (tasks_of_item globals) others in
      let found = slice_get-middle p.tasks s.tasks one later before.tasks s.tasks_list s.tasks_many in (
        there-at (slice_get p.tasks before.tasks) deterministic decl found,
        items-there (past before (items.Task deterministic decl)) others (record {
          regions = s.regions;
          cells = s.cells;
          first = s.first;
          methods = s.methods;
          tasks = s.tasks ++ one ∷ [];
          regions_list = s.regions_list;
          cells_list = s.cells_list;
          methods_list = s.methods_list;
          tasks_list = split_later p.tasks s.tasks (one ∷ []) later s.tasks_list;
          regions_many = s.regions_many;
          cells_many = s.cells_many;
          methods_many = s.methods_many;
          tasks_many = length-more s.tasks (one ∷ []) before.tasks s.tasks_many;
        }),
      )

-- what the names of a text stand for is in the program that it means
pub globals-there : (ast : Ast) → GlobalsThere (program_of ast) (globals_of ast)
globals-there ast =
    let p = program_of ast in
    record {
      console = omega arith;
      declared = items-there p (globals_of ast) at_start ast.items (record {
        regions = codes "Console" ∷ [];
        cells = [];
        first = 0;
        methods = [];
        tasks = [];
        regions_list = refl;
        cells_list = refl;
        methods_list = refl;
        tasks_list = refl;
        regions_many = refl;
        cells_many = refl;
        methods_many = refl;
        tasks_many = refl;
      });
    }
