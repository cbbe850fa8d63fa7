use Rattle.std.proofs.Common.{◌≡◌, subst, sym}
use Rattle.twe_frontend.specs.Reads.{TreeHasCause}
use Rattle.twe_frontend.specs.declared.read.FrontFail.TheVariants.{Refused}
use Rattle.twe_advise.specs.Parameters.{AreDeclarations}
use Rattle.twe_advise.proofs.Declarations.{refused_has_none}
use Rattle.twe_advise.proofs.request.declarations.Goals as goal

pub returns-in-Ok : goal.returns-in-Ok
returns-in-Ok c =
    subst (AreDeclarations c.args.text.now) (sym c.items_of.ensures) (AreDeclarations.of_tree c.in-Ok.tree c.in-Ok.ensures.tree)

pub returns-in-Err-Refused : goal.returns-in-Err-Refused
returns-in-Err-Refused c =
    let refusal = c.in-Err-Refused.field-0-0 in
    let same : c.in-Err-Refused.field-0 ≡ Refused refusal = cc in
    subst (AreDeclarations c.args.text.now) (sym c.new.ensures)
    (refused_has_none c.args.text.now refusal.rule refusal.place (subst (TreeHasCause c.args.text.now) same c.in-Err-Refused.ensures.refused))
