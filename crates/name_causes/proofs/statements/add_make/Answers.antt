use Rattle.std.proofs.Common.{◌++◌, ◌∷◌, [], ◌∙◌, ap}
use Rattle.name_check.specs.Asks.{asks_of_all, declares, uses}
use Rattle.name_check.specs.Types.{argument_count}
use Rattle.name_check.specs.declared.binding.NameUse.TheVariants.{Task}
use Rattle.name_causes.specs.Needs.{need_of_ask}
use Rattle.name_causes.proofs.Listing.{two_more}
use Rattle.name_causes.proofs.statements.add_make.Goals as goal

-- both names, and the arguments
pub returns : goal.returns
returns c =
    let globals = c.args.globals.now in
    let locals = c.args.locals.now in
    let returned = c.args.returns in
    let one = c.add_new.new.needs in
    two_more globals locals returned c.args.needs.now one c.add_use.new.needs c.add_arguments.new.needs
    (need_of_ask globals locals returned (declares c.args.future.now))
    (need_of_ask globals locals returned (uses c.args.task.now (Task (argument_count c.args.args.now))))
    (asks_of_all globals locals c.args.args.now) c.in_ok-add_new.ensures
    (c.in_ok-add_use.ensures ∙ ap (λ n. one ++ need_of_ask globals locals returned (uses c.args.task.now (Task n)) ∷ []) c.count_of.ensures)
    c.in_ok-add_arguments.ensures.listed
