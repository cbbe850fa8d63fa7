use Rattle.std.proofs.Common.{◌∙◌, ap, sym, subst}
use Rattle.name_causes.specs.Causes.{IsNameCause, cells_up_to}
use Rattle.name_causes.specs.declared.need.NameLimit.TheVariants.{Cells}
use Rattle.name_causes.specs.declared.need.NameNeed.TheVariants.{Over}
use Rattle.name_causes.proofs.Resting.{again_left, over_left}
use Rattle.name_causes.proofs.whole.rest_cause.Goals as goal

-- a name is declared again
pub returns-then-is_numbered : goal.returns-then-is_numbered
returns-then-is_numbered c =
    again_left c.args.ast.now c.args.rule c.args.place c.requires (sym c.is_numbered.ensures ∙ c.if-is_numbered.true)

-- there are too many cells or nodes
pub returns-else-is_numbered : goal.returns-else-is_numbered
returns-else-is_numbered c =
    subst (λ n. IsNameCause c.args.ast.now c.args.rule c.args.place (Over Cells n))
    (sym (c.cells_up_to-count.ensures ∙ ap (cells_up_to c.args.place 0) c.as_slice.ensures))
    (over_left c.args.ast.now c.args.rule c.args.place c.requires (sym c.is_numbered.ensures ∙ c.if-is_numbered.false))
