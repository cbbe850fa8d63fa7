-- What is the cause if no need breaks the rule at the place.
use Rattle.std.proofs.Common.{◌≡◌, ◌∙◌, true, false, inl, inr, sym, ap}
use Rattle.std.proofs.lemmas.Bool.{false≢true}
use Rattle.twe_base.specs.declared.place.Place.{Place}
use Rattle.twe_ast.specs.declared.item.Ast.{Ast}
use Rattle.name_check.specs.declared.rule.NRule.{NRule}
use Rattle.name_causes.specs.Breaking.{is_numbered}
use Rattle.name_causes.specs.Causes.{IsNameCause, cells_up_to}
use Rattle.name_causes.specs.declared.need.NameLimit.TheVariants.{Cells}
use Rattle.name_causes.specs.declared.need.NameNeed.TheVariants.{Again, Over}
use Rattle.name_causes.specs.inner.Rest.{IsRest}

pub again_left : (ast : Ast) (rule : NRule) (place : Place) → IsRest ast rule place → is_numbered 2 rule ≡ true → IsNameCause ast rule place Again
again_left ast rule place (inl found) e = IsNameCause.again found.0 found.1 found.2 found.3
again_left ast rule place (inr found) e = absurd (false≢true (sym (ap (is_numbered 2) found.3) ∙ e))

pub over_left : (ast : Ast) (rule : NRule) (place : Place) → IsRest ast rule place → is_numbered 2 rule ≡ false
    → IsNameCause ast rule place (Over Cells (cells_up_to place 0 ast.items))
over_left ast rule place (inl found) e = absurd (false≢true (sym e ∙ ap (is_numbered 2) found.3))
over_left ast rule place (inr found) e = IsNameCause.over found.0 found.1 found.2 found.3
