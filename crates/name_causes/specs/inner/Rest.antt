-- What is left if no need of a text breaks a rule at a place.
use Rattle.std.specs.Prelude.{◌≡◌, ◌⊎◌, true, List, Contains}
use Rattle.twe_base.specs.declared.place.Place.{Place}
use Rattle.twe_ast.specs.declared.item.Ast.{Ast}
use Rattle.twe_ast.specs.declared.item.CellDecl.{CellDecl}
use Rattle.name_check.specs.declared.names.GlobalName.{GlobalName}
use Rattle.name_check.specs.declared.rule.NRule.{NRule}
use Rattle.name_check.specs.declared.rule.NRule.TheVariants.{N2, N7}
use Rattle.name_check.specs.FailsName.{IsDeclaredAgain}
use Rattle.name_check.specs.cell_limits.GoesOver.{cells_of, GoesOver}
use Rattle.name_causes.specs.declared.need.NameNeed.{NameNeed}
use Rattle.name_causes.specs.declared.need.PlacedNeed.{PlacedNeed}
use Rattle.name_causes.specs.Breaking.{breaks}

-- the need is at the place, and breaks the rule
abbrev pub BreaksRule : NRule → Place → PlacedNeed → Type 0
BreaksRule rule place placed = (placed.place ≡ place) × (breaks rule placed.need ≡ true)

-- the need is elsewhere, or does not break the rule
abbrev pub KeepsRule : NRule → Place → PlacedNeed → Type 0
KeepsRule rule place placed = ¬ BreaksRule rule place placed

-- one of these needs is at the place, and breaks the rule
abbrev pub IsBrokenAmong : NRule → Place → List PlacedNeed → NameNeed → Type 0
IsBrokenAmong rule place needs need =
    (placed : PlacedNeed) × Contains needs placed × BreaksRule rule place placed × (need ≡ placed.need)

-- a global name is declared again at the place, or the declaration there goes over the limit on cells or nodes
abbrev pub IsRest : Ast → NRule → Place → Type 0
IsRest ast rule place =
    ((name : GlobalName) × IsDeclaredAgain ast name × (name.place ≡ place) × (rule ≡ N2))
    ⊎ ((cell : CellDecl) × GoesOver (cells_of ast.items) cell × (cell.name.place ≡ place) × (rule ≡ N7))
