-- When a program is well formed: what the type of programs keeps.
use Rattle.std.specs.Prelude.{◌≡◌, ◌<◌, ◌≤◌, ℕ, ◌+◌, false, length, map, Option, None, Some, slice_get, codes, if◌then◌else◌}
use Rattle.std.specs.List.{AllByRecursion}
use Rattle.twe_base.specs.Language.{max_cells, max_nodes, max_path_elements, max_effects, max_parameters}
use Rattle.region_paths.specs.declared.elements.Elem.{Elem}
use Rattle.region_paths.specs.declared.elements.Elem.TheVariants.{Name, Index, Var, AnyIndex}
use Rattle.region_paths.specs.Written.{WrittenPath}
use Rattle.effect_sets.specs.declared.effects.Effect.{Effect}
use Rattle.effect_sets.specs.declared.effects.Summary.{Summary}
use Rattle.twe_program.specs.declared.program.CellDecl.{CellDecl}
use Rattle.twe_program.specs.declared.program.Body.{Body}
use Rattle.twe_program.specs.declared.program.Decl.{Decl}
use Rattle.twe_program.specs.Program.{Program, cell_count}
use Rattle.twe_program.specs.Nodes.{HasNodesAtMost}
use Rattle.twe_program.specs.Numbering.{CountUp, CellsCountUp, points_of_all, locals_of_all, futures_of_all}
use Rattle.twe_program.specs.Fitting.{Scope, StatementsFit}
use Rattle.twe_program.specs.Futures.{WaitsFollowMakes}
use Rattle.twe_program.specs.Params.{AllSetFrom}

-- an element names a region and a parameter that are there
abbrev pub ElementFits : ℕ → ℕ → Elem → Type 0
ElementFits regions params (Name region) = region < regions
ElementFits regions params (Index index) = Unit {0}
ElementFits regions params (Var param) = param < params
ElementFits regions params AnyIndex = Unit {0}

-- how many elements a path is written with, its star counted
abbrev pub written_length : WrittenPath → ℕ
written_length path = length path.elems + length path.tail + (if path.star then 1 else 0)

-- a path names regions and parameters that are there, in at most 32 elements
pub record PathFits (regions params : ℕ) (path : WrittenPath) : Type 0 where
  pub elems : AllByRecursion (ElementFits regions params) path.elems
  pub tail : AllByRecursion (ElementFits regions params) path.tail
  pub short : written_length path ≤ max_path_elements

-- an element of a cell's path is a region that is there, or a literal index
abbrev pub CellElementFits : ℕ → Elem → Type 0
CellElementFits regions (Name region) = region < regions
CellElementFits regions (Index index) = Unit {0}
CellElementFits regions (Var param) = ⊥
CellElementFits regions AnyIndex = ⊥

-- a cell lies in a path of at most 32 regions and literal indexes
pub record CellFits (regions : ℕ) (cell : CellDecl) : Type 0 where
  pub elems : AllByRecursion (CellElementFits regions) cell.path.elems
  pub no_star : cell.path.star ≡ false
  pub short : length cell.path.elems ≤ max_path_elements

-- a summary has at most 8 effects, whose paths fit
pub record SummaryFits (regions params : ℕ) (summary : Summary) : Type 0 where
  pub effects : AllByRecursion (λ (e : Effect). PathFits regions params e.path) summary.effects
  pub few : length summary.effects ≤ max_effects

-- points and futures are numbered from 0, and locals from the number of parameters, each in the order of the text;
-- there is one point more, at the end
pub record IsNumbered (params : ℕ) (body : Body) : Type 0 where
  pub points : CountUp 0 (points_of_all body.block)
  pub point_count : body.points ≡ length (points_of_all body.block) + 1
  pub locals : CountUp params (locals_of_all body.block)
  pub var_count : body.vars ≡ params + length (locals_of_all body.block)
  pub futures : CountUp 0 (map (λ f. f.future) (futures_of_all body.block))
  pub future_count : body.futures ≡ length (futures_of_all body.block)

-- what the body of a declaration stands in
abbrev pub scope_of : Program → Decl → Scope
scope_of p decl = record {
  cells = p.cells;
  methods = p.methods;
  tasks = p.tasks;
  vars = decl.body.vars;
  futures = futures_of_all decl.body.block;
  int = decl.int;
}

-- a declaration has at most 4 parameters, a summary that fits, and a body that is numbered and fits, assigns to no
-- parameter, and waits only for tasks that it has made
pub record DeclFits (p : Program) (decl : Decl) : Type 0 where
  pub few : decl.params ≤ max_parameters
  pub summary : SummaryFits (length p.regions) decl.params decl.summary
  pub numbered : IsNumbered decl.params decl.body
  pub body : StatementsFit (scope_of p decl) decl.body.block
  pub assigned : AllSetFrom decl.params decl.body.block
  pub waits : WaitsFollowMakes decl.body.block

-- a method makes no tasks, and is not declared deterministic
pub record MethodFits (p : Program) (decl : Decl) : Type 0 where
  pub fits : DeclFits p decl
  pub no_futures : decl.body.futures ≡ 0
  pub plain : decl.deterministic ≡ false

-- `main` is there, has no parameters and returns nothing
abbrev pub IsMain : Option Decl → Type 0
IsMain None = ⊥
IsMain (Some decl) = (decl.params ≡ 0) × (decl.int ≡ false)

-- Region 0 is `Console`. Every declaration fits the others, cells and nodes are within their limits, and `main` is there.
pub record IsWellFormed (p : Program) : Type 0 where
  pub console : slice_get p.regions 0 ≡ Some (codes "Console")
  pub cells : AllByRecursion (CellFits (length p.regions)) p.cells
  pub numbered : CellsCountUp 0 p.cells
  pub few_cells : cell_count p ≤ max_cells
  pub few_nodes : HasNodesAtMost p max_nodes
  pub methods : AllByRecursion (MethodFits p) p.methods
  pub tasks : AllByRecursion (DeclFits p) p.tasks
  pub main : IsMain (slice_get p.tasks p.main)
