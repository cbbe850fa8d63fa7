-- The first of all failures is that of the rules.
use Rattle.std.proofs.Common.{◌∙◌, subst}
use Rattle.name_check.specs.cell_limits.FirstOver.{IsFirstOver}
use Rattle.name_check.proofs.Gathered.{first_but_nodes_is}
use Rattle.name_check.proofs.FirstOfText.{IsFirst, first_of_text}
use Rattle.name_check.proofs.whole.check_names.Goals as goal

pub returns-in-None : goal.returns-in-None
returns-in-None c =
    let ast = c.args.ast.now in
    let over = subst (λ xs. IsFirstOver xs c.in_ok-over.over) c.as_slice.ensures c.in_ok-over.ensures in
    let first = first_of_text ast c.in_ok-first.first c.report_at.new.first c.in_ok-over.over (c.in_ok-first.ensures ∙ first_but_nodes_is ast) over c.report_at.ensures in
    (c.in_ok-globals.ensures, subst (IsFirst ast) c.in-None.is first)

pub returns-in-Some : goal.returns-in-Some
returns-in-Some c =
    let ast = c.args.ast.now in
    let over = subst (λ xs. IsFirstOver xs c.in_ok-over.over) c.as_slice.ensures c.in_ok-over.ensures in
    let first = first_of_text ast c.in_ok-first.first c.report_at.new.first c.in_ok-over.over (c.in_ok-first.ensures ∙ first_but_nodes_is ast) over c.report_at.ensures in
    subst (IsFirst ast) c.in-Some.is first
