-- A tree of a text that fails no rule of names means a well-formed program.
use Rattle.std.proofs.Common.{◌≡◌, ◌<◌, ◌≤◌, ℕ, zero, suc, ◌+◌, true, List, [], ◌∷◌, length, Contains, inl, inr, refl, sym, ap, subst, arith}
use Rattle.std.specs.List.{AllByRecursion, flat_map}
use Rattle.std.proofs.lemmas.List.{length-map}
use Rattle.std.proofs.lemmas.Bool.{cases_lt}
use Rattle.twe_base.specs.declared.place.Place.{Place}
use Rattle.twe_base.specs.Language.{max_cells, max_effects, max_parameters, max_path_elements}
use Rattle.twe_ast.specs.declared.item.Ast.{Ast}
use Rattle.twe_ast.specs.declared.item.CellDecl.{CellDecl}
use Rattle.twe_ast.specs.declared.item.Decl.{Decl}
use Rattle.twe_ast.specs.declared.item.Item.{Item}
use Rattle.twe_ast.specs.declared.item.Item.TheVariants as items
use Rattle.twe_ast.specs.declared.item.ReturnType.TheVariants as return_types
use Rattle.twe_ast.specs.declared.path.Path.{Path}
use Rattle.twe_program.specs.Program.{Program, size_of}
use Rattle.twe_program.specs.WellFormed.{CellFits, DeclFits, MethodFits, IsWellFormed}
use Rattle.name_check.specs.cell_limits.GoesOver.{cells_of}
use Rattle.name_check.specs.declared.rule.NRule.{NRule}
use Rattle.name_check.specs.declared.names.GlobalName.{GlobalName}
use Rattle.name_check.specs.Names.{globals_of}
use Rattle.name_check.specs.Sites.{sites_at, sites_of_item, sites_of_decl, asks_of_cell_path}
use Rattle.name_check.specs.Limits.{decls_of, decls_of_item, paths_of, StandsAfter}
use Rattle.name_check.specs.FailsName.{FailsName, declared_again, too_many_cells, long_cell_path, long_path, too_many_effects, too_many_params, no_main}
use Rattle.twe_names.specs.FromText.{IsFromText, all_make_none}
use Rattle.twe_names.specs.Meaning.{dims_of, cells_from, methods_of_item, tasks_of_item, program_of}
use Rattle.twe_names.proofs.Lists.{all-front, all-back, contained-all}
use Rattle.twe_names.proofs.Clean.{SiteClean, AllClean, FailsSome, asks-clean, sites-clean}
use Rattle.twe_names.proofs.There.{GlobalsThere}
use Rattle.twe_names.proofs.Globals.{globals-there}
use Rattle.twe_names.proofs.CellsFit.{cells-count, made-same, within-limits}
use Rattle.twe_names.proofs.NodesFit.{few-nodes}
use Rattle.twe_names.proofs.PathsFit.{cell-elems-fit}
use Rattle.twe_names.proofs.DeclsFit.{KeepsLimits, decl-fits, method-fits}
use Rattle.twe_names.proofs.Main.{main-fits}

-- a list that has no element after so many others is no longer than that
stands-after : {X : Type 0} (count : ℕ) (xs : List X) → count < length xs → (x : X) × StandsAfter count xs x
stands-after count [] h = absurd (omega arith)
stands-after zero (x ∷ xs) h = (x, record { before = []; after = xs; list = refl; many = refl })
stands-after (suc count) (x ∷ xs) h =
    let rest = stands-after count xs (omega arith) in
    let r = rest.1 in
    (rest.0, record { before = x ∷ r.before; after = r.after; list = ap (λ ys. x ∷ ys) r.list; many = ap suc r.many })

no_longer : {X : Type 0} (count : ℕ) (xs : List X) → ((x : X) → ¬ StandsAfter count xs x) → length xs ≤ count
no_longer count xs none = elim (cases_lt count (length xs)) [
  | inl long ↦ let found = stands-after count xs long in absurd (none found.0 found.1)
  | inr short ↦ short
]

-- the cells and the declarations of items, each with what it asks for
cells-clean : (globals : List GlobalName) (others : List Item) → AllClean globals (flat_map (sites_of_item globals) others)
    → AllByRecursion (λ (cell : CellDecl). AllClean globals (sites_at [] return_types.Void (asks_of_cell_path cell.path))) (cells_of others)
cells-clean globals [] h = tt
cells-clean globals (items.Regions names ∷ others) h = cells-clean globals others h
cells-clean globals (items.Cell cell ∷ others) h =
    let P = SiteClean globals in
    let one = sites_at [] return_types.Void (asks_of_cell_path cell.path) in
    let more = flat_map (sites_of_item globals) others in
    (all-front P one more h, cells-clean globals others (all-back P one more h))
cells-clean globals (items.Method decl ∷ others) h =
    cells-clean globals others (all-back (SiteClean globals) (sites_of_decl globals decl) (flat_map (sites_of_item globals) others) h)
cells-clean globals (items.Task deterministic decl ∷ others) h =
    cells-clean globals others (all-back (SiteClean globals) (sites_of_decl globals decl) (flat_map (sites_of_item globals) others) h)

cells-fit : (p : Program) (globals : List GlobalName) → GlobalsThere p globals → (first : ℕ) (cells : List CellDecl)
    → AllByRecursion (λ (cell : CellDecl). length cell.path.elems ≤ max_path_elements) cells
    → AllByRecursion (λ (cell : CellDecl). AllClean globals (sites_at [] return_types.Void (asks_of_cell_path cell.path))) cells
    → AllByRecursion (CellFits (length p.regions)) (cells_from globals first cells)
cells-fit p globals globals_there first [] short clean = tt
cells-fit p globals globals_there first (cell ∷ cells) short clean = (
  record {
    elems =
        cell-elems-fit p globals globals_there cell.path.elems return_types.Void
        (asks-clean globals [] return_types.Void (asks_of_cell_path cell.path) clean.0);
    no_star = refl;
    short = let few : length cell.path.elems ≤ max_path_elements = short.0 in subst (λ (n : ℕ). n ≤ max_path_elements) (sym (length-map cell.path.elems _)) few;
  },
  cells-fit p globals globals_there (first + size_of (dims_of cell.shape)) cells short.1 clean.1,
)

-- no task is made by a method
abbrev MakesNone : Item → Type 0
MakesNone (items.Method decl) = all_make_none decl.body ≡ true
MakesNone _ = Unit {0}

module _ (p : Program) (globals : List GlobalName) (globals_there : GlobalsThere p globals) where
  methods-fit : (others : List Item) → AllByRecursion KeepsLimits (flat_map decls_of_item others) → AllByRecursion MakesNone others
      → AllClean globals (flat_map (sites_of_item globals) others) → AllByRecursion (MethodFits p) (flat_map (methods_of_item globals) others)
  methods-fit [] limits none clean = tt
  methods-fit (items.Regions names ∷ others) limits none clean = methods-fit others limits none.1 clean
  methods-fit (items.Cell cell ∷ others) limits none clean =
      let own = sites_at [] return_types.Void (asks_of_cell_path cell.path) in
      methods-fit others limits none.1 (all-back (SiteClean globals) own (flat_map (sites_of_item globals) others) clean)
  methods-fit (items.Method decl ∷ others) limits none clean =
      let P = SiteClean globals in
      let own = sites_of_decl globals decl in
      let more = flat_map (sites_of_item globals) others in
      (method-fits globals p globals_there decl limits.0 (all-front P own more clean) none.0, methods-fit others limits.1 none.1 (all-back P own more clean))
  methods-fit (items.Task deterministic decl ∷ others) limits none clean =
      methods-fit others limits.1 none.1 (all-back (SiteClean globals) (sites_of_decl globals decl) (flat_map (sites_of_item globals) others) clean)

  tasks-fit : (others : List Item) → AllByRecursion KeepsLimits (flat_map decls_of_item others)
      → AllClean globals (flat_map (sites_of_item globals) others) → AllByRecursion (DeclFits p) (flat_map (tasks_of_item globals) others)
  tasks-fit [] limits clean = tt
  tasks-fit (items.Regions names ∷ others) limits clean = tasks-fit others limits clean
  tasks-fit (items.Cell cell ∷ others) limits clean =
      let own = sites_at [] return_types.Void (asks_of_cell_path cell.path) in
      tasks-fit others limits (all-back (SiteClean globals) own (flat_map (sites_of_item globals) others) clean)
  tasks-fit (items.Method decl ∷ others) limits clean =
      tasks-fit others limits.1 (all-back (SiteClean globals) (sites_of_decl globals decl) (flat_map (sites_of_item globals) others) clean)
  tasks-fit (items.Task deterministic decl ∷ others) limits clean =
      let P = SiteClean globals in
      let own = sites_of_decl globals decl in
      let more = flat_map (sites_of_item globals) others in
      (decl-fits globals p globals_there deterministic decl limits.0 (all-front P own more clean), tasks-fit others limits.1 (all-back P own more clean))

module _ (ast : Ast) (none : ¬ FailsSome ast) where
  limits-kept : (decl : Decl) → Contains (decls_of ast) decl → KeepsLimits decl
  limits-kept decl there = record {
    params = no_longer max_parameters decl.params (λ name h. none (_, _, too_many_params decl name there h));
    effects = no_longer max_effects (paths_of decl) (λ path h. none (_, _, too_many_effects decl path there h));
    paths =
        contained-all (λ (path : Path). length path.elems ≤ max_path_elements) (paths_of decl)
        (λ path in_decl. no_longer max_path_elements path.elems (λ elem h. none (_, _, long_path decl path elem there in_decl h)));
  }

  cell-short : (cell : CellDecl) → Contains (cells_of ast.items) cell → length cell.path.elems ≤ max_path_elements
  cell-short cell there = no_longer max_path_elements cell.path.elems (λ elem h. none (_, _, long_cell_path cell elem there h))

makes-none : (ast : Ast) → IsFromText ast → (item : Item) → Contains ast.items item → MakesNone item
makes-none ast from_text (items.Regions names) there = tt
makes-none ast from_text (items.Cell cell) there = tt
makes-none ast from_text (items.Method decl) there = from_text.methods decl there
makes-none ast from_text (items.Task deterministic decl) there = tt

pub well_formed : (ast : Ast) → IsFromText ast → ((rule : NRule) (place : Place) → ¬ FailsName ast rule place) → IsWellFormed (program_of ast)
well_formed ast from_text keeps =
    let p = program_of ast in
    let globals = globals_of ast in
    let there = globals-there ast in
    let none : ¬ FailsSome ast = λ f. keeps f.0 f.1 f.2 in
    let clean = sites-clean ast none in
    let limits = contained-all KeepsLimits (decls_of ast) (limits-kept ast none) in
    let cells = cells_of ast.items in
    let within = within-limits cells (λ cell over. none (_, _, too_many_cells cell over)) in
    record {
      console = refl;
      cells =
          cells-fit p globals there 0 cells (contained-all (λ (cell : CellDecl). length cell.path.elems ≤ max_path_elements) cells (cell-short ast none))
          (cells-clean globals ast.items clean);
      numbered = cells-count globals 0 cells;
      few_cells = subst (λ (n : ℕ). n ≤ max_cells) (sym (made-same globals 0 cells)) within.0;
      few_nodes = few-nodes ast within.1;
      methods = methods-fit p globals there ast.items limits (contained-all MakesNone ast.items (makes-none ast from_text)) clean;
      tasks = tasks-fit p globals there ast.items limits clean;
      main = main-fits ast (λ this again. none (_, _, declared_again this again)) (λ n. none (_, _, no_main n));
    }
