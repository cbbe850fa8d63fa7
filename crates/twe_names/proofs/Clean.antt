-- What holds of each site where no rule of names fails.
use Rattle.std.proofs.Common.{◌≡◌, ◌==◌, ℕ, Bool, true, false, not, List, [], ◌∷◌, Option, None, Some, inl, inr, refl}
use Rattle.std.specs.List.{AllByRecursion}
use Rattle.std.proofs.lemmas.Bool.{eqb-true, cases_eq, false≢true, true_from_ne_false, not-true}
use Rattle.twe_base.specs.declared.place.Place.{Place}
use Rattle.twe_ast.specs.declared.item.Ast.{Ast}
use Rattle.twe_ast.specs.declared.item.ReturnType.{ReturnType}
use Rattle.twe_ast.specs.declared.item.ReturnType.TheVariants as return_types
use Rattle.twe_ast.specs.declared.name.Name.{Name}
use Rattle.twe_ast.specs.declared.stmt.LocalType.{LocalType}
use Rattle.name_check.specs.declared.rule.NRule.{NRule}
use Rattle.name_check.specs.declared.binding.NameUse.{NameUse}
use Rattle.name_check.specs.declared.binding.NameUse.TheVariants as name_use
use Rattle.name_check.specs.declared.binding.Global.TheVariants as global_kinds
use Rattle.name_check.specs.declared.binding.Local.TheVariants as local_kinds
use Rattle.name_check.specs.declared.binding.Binding.{Binding}
use Rattle.name_check.specs.declared.binding.Binding.TheVariants as bindings
use Rattle.name_check.specs.declared.names.GlobalName.{GlobalName}
use Rattle.name_check.specs.declared.scope.LocalName.{LocalName}
use Rattle.name_check.specs.Names.{globals_of}
use Rattle.name_check.specs.Asks.{Ask, uses, needs, declares, returns_value, returns_nothing}
use Rattle.name_check.specs.Sites.{Site, sites_at, sites_of}
use Rattle.name_check.specs.FailsName.{FailsName, unknown, other_kind, assigned, void_method, void_task, value_for_nothing, nothing_for_value, other_count_of_method, other_count_of_task, binding_as, fits, Asks}
use Rattle.twe_names.proofs.Lists.{contained-all}

-- what a name stands for is of the kind that its use asks for, takes so many indexes or arguments, has a value where one
-- is taken, and may be assigned where it is: it is no parameter and no `final` local
abbrev pub UseClean : NameUse → Option Binding → Type 0
UseClean name_use.Region (Some (bindings.Global (global_kinds.Region number))) = Unit {0}
UseClean name_use.Parameter (Some (bindings.Local (local_kinds.Variable number local_type constant))) = Unit {0}
UseClean name_use.Value (Some (bindings.Local (local_kinds.Variable number local_type constant))) = Unit {0}
UseClean name_use.Value (Some (bindings.Global (global_kinds.Cells number indexes))) = indexes ≡ 0
UseClean name_use.Target (Some (bindings.Local (local_kinds.Variable number local_type constant))) = constant ≡ false
UseClean name_use.Target (Some (bindings.Global (global_kinds.Cells number indexes))) = indexes ≡ 0
UseClean (name_use.Array given) (Some (bindings.Global (global_kinds.Cells number indexes))) = indexes ≡ given
UseClean (name_use.Method args valued) (Some (bindings.Global (global_kinds.Method number params returns))) =
    (params ≡ args) × (valued ≡ true → returns ≡ return_types.Int)
UseClean (name_use.Task args) (Some (bindings.Global (global_kinds.Task number params returns))) = params ≡ args
UseClean (name_use.Future join valued) (Some (bindings.Local (local_kinds.Future number spawned void))) =
    (spawned ≡ join) × (valued ≡ true → void ≡ false)
UseClean _ _ = ⊥

abbrev pub AskClean : List GlobalName → List LocalName → ReturnType → Ask → Type 0
AskClean globals locals returns (uses name asks) = UseClean asks (binding_as globals locals asks name.text)
AskClean globals locals returns (needs type value) = Unit {0}
AskClean globals locals returns (declares name) = Unit {0}
AskClean globals locals returns (returns_value place) = returns ≡ return_types.Int
AskClean globals locals returns (returns_nothing place) = returns ≡ return_types.Void

abbrev pub SiteClean : List GlobalName → Site → Type 0
SiteClean globals site = AskClean globals site.locals site.returns site.ask

abbrev pub AllClean : List GlobalName → List Site → Type 0
AllClean globals sites = AllByRecursion (SiteClean globals) sites

abbrev pub AsksClean : List GlobalName → List LocalName → ReturnType → List Ask → Type 0
AsksClean globals locals returns asks = AllByRecursion (AskClean globals locals returns) asks

pub asks-clean : (globals : List GlobalName) (locals : List LocalName) (returns : ReturnType) (asks : List Ask)
    → AllClean globals (sites_at locals returns asks) → AsksClean globals locals returns asks
asks-clean globals locals returns [] h = tt
asks-clean globals locals returns (ask ∷ asks) h = (h.0, asks-clean globals locals returns asks h.1)

-- how the use of a name fails, by what it stands for
data FailsUse : NameUse → Option Binding → Type 0 where
  nothing : {asks : NameUse} → FailsUse asks None
  kind : {asks : NameUse} {other : Binding} → fits asks other ≡ false → FailsUse asks (Some other)
  no_value : {args number params : ℕ}
      → FailsUse (name_use.Method args true) (Some (bindings.Global (global_kinds.Method number params return_types.Void)))
  unassignable : {number : ℕ} {type : LocalType} → FailsUse name_use.Target (Some (bindings.Local (local_kinds.Variable number type true)))
  no_result : {join spawned : Bool} {number : ℕ}
      → FailsUse (name_use.Future join true) (Some (bindings.Local (local_kinds.Future number spawned true)))
  args_of_method : {args number params : ℕ} {valued : Bool} {its : ReturnType}
      → ¬ (params ≡ args) → FailsUse (name_use.Method args valued) (Some (bindings.Global (global_kinds.Method number params its)))
  args_of_task : {args number params : ℕ} {its : ReturnType}
      → ¬ (params ≡ args) → FailsUse (name_use.Task args) (Some (bindings.Global (global_kinds.Task number params its)))

same_number : (a b : ℕ) → ¬ (¬ (a ≡ b)) → a ≡ b
same_number a b h = elim (cases_eq a b) [ inl e ↦ e | inr n ↦ absurd (h n) ]

int-returned : (valued : Bool) (returns : ReturnType) → (valued ≡ true → returns ≡ return_types.Void → ⊥) → valued ≡ true → returns ≡ return_types.Int
int-returned valued return_types.Int h e = refl
int-returned valued return_types.Void h e = absurd (h e refl)

method-clean : (args number params : ℕ) (valued : Bool) (returns : ReturnType)
    → ¬ FailsUse (name_use.Method args valued) (Some (bindings.Global (global_kinds.Method number params returns)))
    → (params ≡ args) × (valued ≡ true → returns ≡ return_types.Int)
method-clean args number params true return_types.Int h = (same_number params args (λ n. h (args_of_method n)), λ e. refl)
method-clean args number params true return_types.Void h = absurd (h no_value)
method-clean args number params false returns h = (same_number params args (λ n. h (args_of_method n)), λ e. absurd (false≢true e))

spawned-clean : (number : ℕ) (spawned void join valued : Bool)
    → ¬ FailsUse (name_use.Future join valued) (Some (bindings.Local (local_kinds.Future number spawned void))) → spawned ≡ join
spawned-clean number spawned void true valued h = true_from_ne_false spawned (λ e. h (kind e))
spawned-clean number spawned void false valued h = not-true spawned (true_from_ne_false (not spawned) (λ e. h (kind e)))

void-clean : (number : ℕ) (spawned void join valued : Bool)
    → ¬ FailsUse (name_use.Future join valued) (Some (bindings.Local (local_kinds.Future number spawned void))) → valued ≡ true → void ≡ false
void-clean number spawned false join valued h e = refl
void-clean number spawned true join true h e = absurd (h no_result)
void-clean number spawned true join false h e = absurd (false≢true e)

not_future : (join valued : Bool) (other : Binding) → fits (name_use.Future true valued) other ≡ false → fits (name_use.Future false valued) other ≡ false
    → fits (name_use.Future join valued) other ≡ false
not_future true valued other h k = h
not_future false valued other h k = k

use-clean : (asks : NameUse) (o : Option Binding) → ¬ FailsUse asks o → UseClean asks o
use-clean asks None h = absurd (h nothing)
use-clean name_use.Region (Some (bindings.Global (global_kinds.Region number))) h = tt
use-clean name_use.Parameter (Some (bindings.Local (local_kinds.Variable number local_type constant))) h = tt
use-clean name_use.Value (Some (bindings.Local (local_kinds.Variable number local_type constant))) h = tt
use-clean name_use.Value (Some (bindings.Global (global_kinds.Cells number indexes))) h =
    eqb-true indexes 0 (true_from_ne_false (indexes == 0) (λ e. h (kind e)))
use-clean name_use.Target (Some (bindings.Local (local_kinds.Variable number local_type false))) h = refl
use-clean name_use.Target (Some (bindings.Local (local_kinds.Variable number local_type true))) h = absurd (h unassignable)
use-clean name_use.Target (Some (bindings.Global (global_kinds.Cells number indexes))) h =
    eqb-true indexes 0 (true_from_ne_false (indexes == 0) (λ e. h (kind e)))
use-clean (name_use.Array given) (Some (bindings.Global (global_kinds.Cells number indexes))) h =
    eqb-true indexes given (true_from_ne_false (indexes == given) (λ e. h (kind e)))
use-clean (name_use.Method args valued) (Some (bindings.Global (global_kinds.Method number params returns))) h =
    method-clean args number params valued returns h
use-clean (name_use.Task args) (Some (bindings.Global (global_kinds.Task number params returns))) h =
    same_number params args (λ n. h (args_of_task n))
use-clean (name_use.Future join valued) (Some (bindings.Local (local_kinds.Future number spawned void))) h =
    (spawned-clean number spawned void join valued h, void-clean number spawned void join valued h)
use-clean (name_use.Future join valued) (Some other) h = absurd (h (kind (not_future join valued other refl refl)))
use-clean _ (Some other) h = absurd (h (kind refl))

-- some rule fails
abbrev pub FailsSome : Ast → Type 0
FailsSome ast = (rule : NRule) × (place : Place) × FailsName ast rule place

use-fails : (ast : Ast) (locals : List LocalName) (returns : ReturnType) (name : Name) (asks : NameUse) (o : Option Binding)
    → Asks ast locals returns (uses name asks) → binding_as (globals_of ast) locals asks name.text ≡ o → FailsUse asks o → FailsSome ast
use-fails ast locals returns name asks None there e nothing = (_, _, unknown locals returns name asks there e)
use-fails ast locals returns name asks (Some other) there e (kind k) = (_, _, other_kind locals returns name asks other there e k)
use-fails ast locals returns name _ _ there e (no_value {args = a} {number = n} {params = p}) = (_, _, void_method locals returns name a n p there e)
use-fails ast locals returns name _ _ there e (no_result {join = j} {spawned = s} {number = n}) = (_, _, void_task locals returns name j s n there e)
use-fails ast locals returns name _ _ there e (unassignable {number = n} {type = t}) = (_, _, assigned locals returns name n t there e)
use-fails ast locals returns name _ _ there e (args_of_method {args = a} {number = n} {params = p} {valued = v} {its = i} d) =
    (_, _, other_count_of_method locals returns i name a n p v there e d)
use-fails ast locals returns name _ _ there e (args_of_task {args = a} {number = n} {params = p} {its = i} d) =
    (_, _, other_count_of_task locals returns i name a n p there e d)

ask-clean : (ast : Ast) → ¬ FailsSome ast → (locals : List LocalName) (returns : ReturnType) (ask : Ask)
    → Asks ast locals returns ask → AskClean (globals_of ast) locals returns ask
ask-clean ast none locals returns (uses name asks) there =
    let o = binding_as (globals_of ast) locals asks name.text in
    use-clean asks o (λ f. none (use-fails ast locals returns name asks o there refl f))
ask-clean ast none locals returns (needs type value) there = tt
ask-clean ast none locals returns (declares name) there = tt
ask-clean ast none locals return_types.Int (returns_value place) there = refl
ask-clean ast none locals return_types.Void (returns_value place) there = absurd (none (_, _, value_for_nothing locals place there))
ask-clean ast none locals return_types.Int (returns_nothing place) there = absurd (none (_, _, nothing_for_value locals place there))
ask-clean ast none locals return_types.Void (returns_nothing place) there = refl

pub sites-clean : (ast : Ast) → ¬ FailsSome ast → AllClean (globals_of ast) (sites_of ast)
sites-clean ast none =
    contained-all (SiteClean (globals_of ast)) (sites_of ast) (λ (site : Site) there. ask-clean ast none site.locals site.returns site.ask there)
