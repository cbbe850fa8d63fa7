-- What holds of each parameter, local and future that is seen.
use Rattle.std.proofs.Common.{ℕ, bytes_eq, List, [], ◌∷◌, ◌++◌, Option, None, Some}
use Rattle.std.specs.List.{AllByRecursion}
use Rattle.twe_ast.specs.Statement.{Arms, arm, otherwise, no_else}
use Rattle.name_check.specs.declared.binding.Global.{Global}
use Rattle.name_check.specs.declared.binding.Local.{Local}
use Rattle.name_check.specs.declared.binding.Binding.{Binding}
use Rattle.name_check.specs.declared.binding.Binding.TheVariants as bindings
use Rattle.name_check.specs.declared.names.GlobalName.{GlobalName}
use Rattle.name_check.specs.declared.scope.LocalName.{LocalName}
use Rattle.name_check.specs.declared.scope.BodyScope.{BodyScope}
use Rattle.name_check.specs.Names.{first_local, global_of, binding_of, either}
use Rattle.name_check.specs.BodyScope.{after_arms, after_block}
use Rattle.twe_names.proofs.Lists.{all-append}
use Rattle.twe_names.proofs.There.{chosen}

abbrev pub AllLocals : (Local → Type 0) → List LocalName → Type 0
AllLocals P locals = AllByRecursion (λ (l : LocalName). P l.local) locals

-- it holds of what a name stands for, if that is a parameter, a local or a future
abbrev pub HoldsOfSeen : (Local → Type 0) → Option Binding → Type 0
HoldsOfSeen P None = Unit {0}
HoldsOfSeen P (Some (bindings.Local local)) = P local
HoldsOfSeen P (Some (bindings.Global global)) = Unit {0}

abbrev HoldsOfFound : (Local → Type 0) → Option Local → Type 0
HoldsOfFound P None = Unit {0}
HoldsOfFound P (Some local) = P local

found-holds : (P : Local → Type 0) (text : List ℕ) (locals : List LocalName) → AllLocals P locals → HoldsOfFound P (first_local text locals)
found-holds P text [] h = tt
found-holds P text (first ∷ others) h =
    chosen (HoldsOfFound P) (bytes_eq text first.text) (Some first.local) (first_local text others) h.0 (found-holds P text others h.1)

either-holds : (P : Local → Type 0) (local : Option Local) (global : Option Global) → HoldsOfFound P local → HoldsOfSeen P (either local global)
either-holds P None None h = tt
either-holds P None (Some global) h = tt
either-holds P (Some local) global h = h

pub binding_of-holds : (P : Local → Type 0) (globals : List GlobalName) (locals : List LocalName) (text : List ℕ) → AllLocals P locals → HoldsOfSeen P (binding_of globals locals text)
binding_of-holds P globals locals text h = either-holds P (first_local text locals) (global_of globals text) (found-holds P text locals h)

pub with-one : (P : Local → Type 0) (locals : List LocalName) (name : LocalName) → AllLocals P locals → P name.local → AllLocals P (locals ++ name ∷ [])
with-one P locals name h one = all-append (λ (l : LocalName). P l.local) locals (name ∷ []) h (one, tt)

pub each-later : (P Q : Local → Type 0) (locals : List LocalName) → ((l : Local) → P l → Q l) → AllLocals P locals → AllLocals Q locals
each-later P Q [] later h = tt
each-later P Q (name ∷ others) later h = (later name.local h.0, each-later P Q others later h.1)

-- arms leave what is seen as it was
pub arms-hold : (P : Local → Type 0) (globals : List GlobalName) (here : BodyScope) (s : Arms) → AllLocals P here.locals → AllLocals P (after_arms globals here s).locals
arms-hold P globals here (arm condition body others) h = arms-hold P globals (after_block globals here body) others h
arms-hold P globals here (otherwise body) h = h
arms-hold P globals here no_else h = h
