-- What a text means, if it keeps the rules of the text and those of names.
use Rattle.std.specs.Prelude.{◌≡◌, List, ℕ}
use Rattle.twe_base.specs.declared.place.Place.{Place}
use Rattle.twe_ast.specs.declared.item.Ast.{Ast}
use Rattle.twe_parser.specs.declared.fail.SRule.{SRule}
use Rattle.twe_parser.specs.Fails as text_rules
use Rattle.name_check.specs.declared.rule.NRule.{NRule}
use Rattle.name_check.specs.FailsName as name_rules
use Rattle.twe_program.specs.Program.{Program}
use Rattle.twe_names.specs.Meaning.{program_of}
use Rattle.twe_frontend.specs.declared.refusal.Refusal.{Refusal}
use Rattle.twe_frontend.specs.declared.refusal.RuleName.TheVariants.{Text, Name}
use Rattle.twe_frontend.specs.Accepted.{IsTreeOf}

-- the text has this tree, and the tree means this program; no rule of the text and none of names fails
pub record TextMeans (text : List ℕ) (tree : Ast) (p : Program) : Type 0 where
  pub parsed : IsTreeOf text tree
  pub keeps : (rule : NRule) (place : Place) → ¬ name_rules.FailsName tree rule place
  pub meaning : p ≡ program_of tree

-- the first failure of a rule of the text, or else of one of names
pub data IsRefusedBefore (text : List ℕ) : Refusal → Type 0 where
  of_text : (rule : SRule) (place : Place)
      → text_rules.IsSyntaxFailure text rule place
      → IsRefusedBefore text (record { rule = Text rule; place = place })
  of_names : (tree : Ast) (rule : NRule) (place : Place)
      → IsTreeOf text tree → name_rules.IsFirstNameFailure tree rule place
      → IsRefusedBefore text (record { rule = Name rule; place = place })
