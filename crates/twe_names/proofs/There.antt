-- What names stand for is there in the program.
use Rattle.std.proofs.Common.{◌≡◌, ◌<◌, ℕ, Bool, true, false, bytes_eq, if◌then◌else◌, List, [], ◌∷◌, Option, None, Some, length, slice_get, codes}
use Rattle.std.specs.List.{AllByRecursion}
use Rattle.twe_ast.specs.declared.item.ReturnType.{ReturnType}
use Rattle.twe_program.specs.declared.program.Decl.{Decl}
use Rattle.twe_program.specs.Program.{Program}
use Rattle.twe_program.specs.Numbering.{Declared}
use Rattle.twe_program.specs.Fitting.{TakesIndexes, ReturnsValue}
use Rattle.name_check.specs.declared.binding.Global.{Global}
use Rattle.name_check.specs.declared.binding.Global.TheVariants as global_kinds
use Rattle.name_check.specs.declared.binding.Local.{Local}
use Rattle.name_check.specs.declared.binding.Local.TheVariants as local_kinds
use Rattle.name_check.specs.declared.binding.Binding.{Binding}
use Rattle.name_check.specs.declared.binding.Binding.TheVariants as bindings
use Rattle.name_check.specs.declared.names.GlobalName.{GlobalName}
use Rattle.name_check.specs.declared.scope.LocalName.{LocalName}
use Rattle.name_check.specs.Names.{first_global, first_local, global_of, binding_of, either, seen_as_global}
use Rattle.twe_names.specs.Meaning.{returns_value}

-- there is such a declaration, with so many parameters, that returns this
abbrev pub DeclThere : Option Decl → ℕ → ReturnType → Type 0
DeclThere None params returns = ⊥
DeclThere (Some decl) params returns = (decl.params ≡ params) × (decl.int ≡ returns_value returns)

abbrev pub GlobalThere : Program → Global → Type 0
GlobalThere p (global_kinds.Region number) = number < length p.regions
GlobalThere p (global_kinds.Cells number indexes) = TakesIndexes (slice_get p.cells number) indexes
GlobalThere p (global_kinds.Method number params returns) = DeclThere (slice_get p.methods number) params returns
GlobalThere p (global_kinds.Task number params returns) = DeclThere (slice_get p.tasks number) params returns

-- there is such a future, of a task that returns a value if the future has one
abbrev pub FutureThere : Program → Option Declared → Bool → Bool → Type 0
FutureThere p None spawned void = ⊥
FutureThere p (Some future) spawned void = (future.spawned ≡ spawned) × (void ≡ false → ReturnsValue (slice_get p.tasks future.task))

-- among so many parameters and locals, and among these futures
abbrev pub LocalThere : Program → ℕ → List Declared → Local → Type 0
LocalThere p vars futures (local_kinds.Variable number local_type constant) = number < vars
LocalThere p vars futures (local_kinds.Future number spawned void) = FutureThere p (slice_get futures number) spawned void

abbrev pub SeenThere : Program → ℕ → List Declared → Option Binding → Type 0
SeenThere p vars futures None = Unit {0}
SeenThere p vars futures (Some (bindings.Local local)) = LocalThere p vars futures local
SeenThere p vars futures (Some (bindings.Global global)) = GlobalThere p global

abbrev pub AllGlobalsThere : Program → List GlobalName → Type 0
AllGlobalsThere p globals = AllByRecursion (λ (g : GlobalName). GlobalThere p g.global) globals

abbrev pub AllLocalsThere : Program → ℕ → List Declared → List LocalName → Type 0
AllLocalsThere p vars futures locals = AllByRecursion (λ (l : LocalName). LocalThere p vars futures l.local) locals

-- `Console` and the names that the text declares
pub record GlobalsThere (p : Program) (globals : List GlobalName) : Type 0 where
  pub console : 0 < length p.regions
  pub declared : AllGlobalsThere p globals

-- what holds of both choices
pub chosen : {X : Type 0} (P : X → Type 0) (b : Bool) (x y : X) → P x → P y → P (if b then x else y)
chosen P true x y h k = h
chosen P false x y h k = k

module _ (p : Program) (vars : ℕ) (futures : List Declared) where
  abbrev There : Option Binding → Type 0
  There o = SeenThere p vars futures o

  first-there : (text : List ℕ) (globals : List GlobalName) → AllGlobalsThere p globals → There (seen_as_global (first_global text globals))
  first-there text [] h = tt
  first-there text (g ∷ gs) h =
      chosen (λ (o : Option Global). There (seen_as_global o)) (bytes_eq text g.text) (Some g.global) (first_global text gs) h.0 (first-there text gs h.1)

  pub global-there : (globals : List GlobalName) → GlobalsThere p globals → (text : List ℕ) → There (seen_as_global (global_of globals text))
  global-there globals h text =
      chosen (λ (o : Option Global). There (seen_as_global o)) (bytes_eq text (codes "Console")) (Some (global_kinds.Region 0)) (first_global text globals)
      h.console (first-there text globals h.declared)

  either-there : (globals : List GlobalName) → GlobalsThere p globals → (text : List ℕ) (locals : List LocalName) → AllLocalsThere p vars futures locals
      → There (either (first_local text locals) (global_of globals text))
  either-there globals h text [] k = global-there globals h text
  either-there globals h text (l ∷ ls) k =
      chosen (λ (o : Option Local). There (either o (global_of globals text))) (bytes_eq text l.text) (Some l.local) (first_local text ls)
      k.0 (either-there globals h text ls k.1)

  pub binding_of-there : (globals : List GlobalName) (locals : List LocalName) → GlobalsThere p globals → AllLocalsThere p vars futures locals
      → (text : List ℕ) → There (binding_of globals locals text)
  binding_of-there globals locals h k text = either-there globals h text locals k
