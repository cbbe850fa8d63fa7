-- A text that breaks a rule of the text has no tree.
use Rattle.std.proofs.Common.{◌≡◌, ℕ, List, subst}
use Rattle.twe_ast.specs.declared.item.Ast.{Ast}
use Rattle.twe_base.specs.declared.place.Place.{Place}
use Rattle.twe_frontend.specs.Accepted.{IsTreeOf}
use Rattle.twe_frontend.specs.Reads.{IsTextFailure, TreeHasCause}
use Rattle.twe_frontend.specs.declared.read.FrontFail.{FrontFail}
use Rattle.twe_frontend.specs.declared.read.FrontFail.TheVariants.{Refused}
use Rattle.twe_frontend.specs.declared.refusal.Refusal.{Refusal}
use Rattle.twe_frontend.specs.declared.refusal.RuleName.{RuleName}
use Rattle.twe_frontend.specs.declared.refusal.RuleName.TheVariants.{Text, Name, Effect}

no_tree : (text : List ℕ) (rule : RuleName) (place : Place) → IsTextFailure text rule place → (tree : Ast) → ¬ IsTreeOf text tree
no_tree text (Text rule) place failure tree is = is.keeps rule place failure.fails
no_tree text (Name rule) place failure tree is = failure
no_tree text (Effect rule) place failure tree is = failure

pub no_tree_if_refused : (text : List ℕ) (fail : FrontFail) (refusal : Refusal) → TreeHasCause text fail → fail ≡ Refused refusal → (tree : Ast) → ¬ IsTreeOf text tree
no_tree_if_refused text fail refusal cause is =
    no_tree text refusal.rule refusal.place (subst (λ (f : FrontFail). TreeHasCause text f) is cause)
