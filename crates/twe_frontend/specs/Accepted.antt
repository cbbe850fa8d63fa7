-- The refusal of a text, and the program of a text that has none.
use Rattle.std.specs.Prelude.{◌≡◌, List, [], ℕ}
use Rattle.twe_base.specs.declared.place.Place.{Place}
use Rattle.twe_ast.specs.declared.item.Ast.{Ast}
use Rattle.twe_lexer.specs.declared.token.Token.{Token}
use Rattle.twe_lexer.specs.Places.{place_after}
use Rattle.twe_lexer.specs.Tokens.{BeginsWith}
use Rattle.twe_parser.specs.declared.fail.SRule.{SRule}
use Rattle.twe_parser.specs.Fails as text_rules
use Rattle.twe_parser.specs.Writes.{Writes}
use Rattle.name_check.specs.declared.rule.NRule.{NRule}
use Rattle.name_check.specs.FailsName as name_check
use Rattle.effect_check.specs.declared.rule.ERule.{ERule}
use Rattle.effect_check.specs.FailsEffect as effect_rules
use Rattle.twe_program.specs.Program.{Program}
use Rattle.twe_names.specs.Meaning.{program_of}
use Rattle.twe_frontend.specs.declared.refusal.Refusal.{Refusal}
use Rattle.twe_frontend.specs.declared.refusal.RuleName.TheVariants.{Text, Name, Effect}

-- no rule of the text fails, and this is the tree that its tokens are written by
pub record IsTreeOf (text : List ℕ) (tree : Ast) : Type 0 where
  pub tokens : List Token
  pub cut : BeginsWith text tokens []
  pub writes : Writes tree tokens
  pub end : tree.end ≡ place_after text
  pub keeps : (rule : SRule) (place : Place) → ¬ text_rules.Fails text rule place

-- no rule of the text and none of names fails, and this is what its tree means
pub record IsMeaningOf (text : List ℕ) (p : Program) : Type 0 where
  pub tree : Ast
  pub parsed : IsTreeOf text tree
  pub keeps : (rule : NRule) (place : Place) → ¬ name_check.FailsName tree rule place
  pub meaning : p ≡ program_of tree

-- The text is accepted: no rule fails, and this is its program.
pub record Accepted (text : List ℕ) (p : Program) : Type 0 where
  pub meant : IsMeaningOf text p
  pub keeps : (rule : ERule) (place : Place) → ¬ effect_rules.FailsEffect p rule place

-- The refusal of a text. A rule of the text comes before every rule of names, and that before every rule on effects; of
-- one class the first failure in the text counts.
pub data IsRefusal (text : List ℕ) : Refusal → Type 0 where
  of_text : (rule : SRule) (place : Place)
      → text_rules.IsSyntaxFailure text rule place → IsRefusal text (record { rule = Text rule; place = place })
  of_names : (tree : Ast) (rule : NRule) (place : Place)
      → IsTreeOf text tree → name_check.IsFirstNameFailure tree rule place
      → IsRefusal text (record { rule = Name rule; place = place })
  of_effects : (p : Program) (rule : ERule) (place : Place)
      → IsMeaningOf text p → effect_rules.IsFirstEffectFailure p rule place
      → IsRefusal text (record { rule = Effect rule; place = place })
