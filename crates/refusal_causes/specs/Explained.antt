-- What is known of a text.
use Rattle.std.specs.Prelude.{◌≡◌, ℕ, Bool, true, false, List}
use Rattle.twe_base.specs.declared.place.Place.{Place}
use Rattle.twe_ast.specs.declared.item.Ast.{Ast}
use Rattle.name_causes.specs.declared.need.NameNeed.{NameNeed}
use Rattle.name_causes.specs.Causes.{IsNameCause}
use Rattle.twe_program.specs.Program.{Program}
use Rattle.twe_names.specs.Meaning.{program_of}
use Rattle.twe_parser.specs.declared.fail.SRule.TheVariants.{S1, S2, S3, S4, S5, S6}
use Rattle.twe_frontend.specs.declared.refusal.Refusal.{Refusal}
use Rattle.twe_frontend.specs.declared.refusal.RuleName.{RuleName}
use Rattle.twe_frontend.specs.declared.refusal.RuleName.TheVariants.{Text, Name, Effect}
use Rattle.twe_frontend.specs.Accepted.{Accepted, IsMeaningOf, IsRefusal, IsTreeOf}
use Rattle.refusal_causes.specs.declared.text_rules.cause.TextCause.{TextCause}
use Rattle.refusal_causes.specs.text_rules.Causes.{IsTextCause}
use Rattle.refusal_causes.specs.declared.cause.RuleCause.{RuleCause}
use Rattle.refusal_causes.specs.declared.explained.Explained.{Explained}
use Rattle.refusal_causes.specs.declared.explained.Explained.TheVariants.{Kept, Early, Stray, Named, Late}
use Rattle.refusal_causes.specs.Causes.{IsCauseOf}
use Rattle.refusal_causes.specs.NextTokens.{AreNextAt}

-- this is the refusal of the text, which has this tree and means this program, and the cause is true of it, with a way if it
-- speaks of a future
pub record IsCausedBy (text : List ℕ) (refusal : Refusal) (cause : RuleCause) (tree : Ast) (p : Program) : Type 0 where
  pub refused : IsRefusal text refusal
  pub parsed : IsTreeOf text tree
  pub meant : IsMeaningOf text p
  pub of_tree : p ≡ program_of tree
  pub caused : IsCauseOf p true refusal.rule refusal.place cause

-- the rule is the one of stray tokens, or that of texts that end too early
abbrev pub is_of_tokens : RuleName → Bool
is_of_tokens (Text S1) = false
is_of_tokens (Text S2) = true
is_of_tokens (Text S3) = true
is_of_tokens (Text S4) = false
is_of_tokens (Text S5) = false
is_of_tokens (Text S6) = false
is_of_tokens (Name rule) = false
is_of_tokens (Effect rule) = false

-- the rule is one of names
abbrev pub is_of_names : RuleName → Bool
is_of_names (Text rule) = false
is_of_names (Name rule) = true
is_of_names (Effect rule) = false

-- the rule is one on effects
abbrev pub is_of_effects : RuleName → Bool
is_of_effects (Text rule) = false
is_of_effects (Name rule) = false
is_of_effects (Effect rule) = true

-- the need is the cause of the failure of a rule of names at the place
abbrev pub IsNameCauseOf : Ast → RuleName → Place → NameNeed → Type 0
IsNameCauseOf tree (Text rule) place cause = ⊥
IsNameCauseOf tree (Name rule) place cause = IsNameCause tree rule place cause
IsNameCauseOf tree (Effect rule) place cause = ⊥

-- this is why the rule of the text fails at the place
abbrev pub IsTextCauseOf : List ℕ → RuleName → Place → TextCause → Type 0
IsTextCauseOf text (Text rule) place cause = IsTextCause text rule place cause
IsTextCauseOf text (Name rule) place cause = ⊥
IsTextCauseOf text (Effect rule) place cause = ⊥

-- the text is accepted, or this is its refusal
abbrev pub IsExplained : List ℕ → Explained → Type 0
IsExplained text Kept = (p : Program) × Accepted text p
IsExplained text (Early refusal cause) = IsRefusal text refusal × IsTextCauseOf text refusal.rule refusal.place cause
IsExplained text (Stray refusal tokens) =
    IsRefusal text refusal × (is_of_tokens refusal.rule ≡ true) × AreNextAt text refusal.place tokens
IsExplained text (Named refusal cause tree) =
    IsRefusal text refusal × (is_of_names refusal.rule ≡ true) × IsTreeOf text tree
    × IsNameCauseOf tree refusal.rule refusal.place cause
IsExplained text (Late refusal cause tree p) = IsCausedBy text refusal cause tree p
