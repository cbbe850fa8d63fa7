-- No text is without a refusal and without a program.
use Rattle.std.proofs.Common.{◌≡◌, ℕ, List, [], ◌∷◌, ◌++◌, refl, sym, ap, ◌∙◌, subst}
use Rattle.std.proofs.lemmas.List.{append_assoc, append-nil}
use Rattle.twe_base.specs.declared.place.Place.{Place}
use Rattle.twe_ast.specs.declared.item.Ast.{Ast}
use Rattle.twe_lexer.specs.declared.token.Token.{Token}
use Rattle.twe_lexer.specs.Places.{place_after}
use Rattle.twe_lexer.specs.Tokens.{BeginsWith, tokens_from}
use Rattle.twe_parser.specs.declared.fail.SRule.{SRule}
use Rattle.twe_parser.specs.Fails as text_rules
use Rattle.twe_parser.specs.Viable.{IsProgram, IsViable}
use Rattle.twe_parser.specs.Writes.{no_more_items}
use Rattle.name_check.specs.declared.rule.NRule.{NRule}
use Rattle.name_check.specs.FailsName as name_check
use Rattle.effect_check.specs.declared.rule.ERule.{ERule}
use Rattle.effect_check.specs.FailsEffect as effect_rules
use Rattle.twe_program.specs.Program.{Program}
use Rattle.twe_names.specs.Meaning.{program_of}
use Rattle.twe_frontend.specs.declared.refusal.Refusal.{Refusal}
use Rattle.twe_frontend.specs.Accepted.{IsTreeOf, IsMeaningOf, Accepted, IsRefusal, of_text, of_names, of_effects}
use Rattle.twe_frontend.proofs.FirstExists.{no_first-none}
use Rattle.twe_frontend.proofs.Literals.{begins_up_to}
use Rattle.twe_frontend.proofs.WholeCut.{IsCut, whole_cut}

module _ (text : List ℕ) (unrefused : (refusal : Refusal) → ¬ IsRefusal text refusal) where
  -- no rule of the text fails
  keeps_text : (rule : SRule) (place : Place) → ¬ text_rules.Fails text rule place
  keeps_text = no_first-none text_rules.rule_rank (text_rules.Fails text)
      (λ rule place fails first. unrefused _ (of_text rule place (record { fails = fails; first = first })))

  -- each beginning of its tokens is one of a program's
  viable_along : (tokens before after : List Token) → BeginsWith text tokens [] → tokens ≡ before ++ after → ¬ ¬ IsViable before → ¬ ¬ IsViable tokens
  viable_along tokens before [] begins e viable none = viable (λ v. none (subst IsViable (sym (e ∙ append-nil before)) v))
  viable_along tokens before (token ∷ after) begins e viable none =
      let next : tokens ≡ (before ++ token ∷ []) ++ after = e ∙ sym (append_assoc before (token ∷ []) after) in
      viable_along tokens (before ++ token ∷ []) after begins next
      (λ stray.
      viable (λ v.
      let it = begins_up_to text tokens before token after begins e in
      keeps_text _ _ (text_rules.stray before token it.0 it.1 v stray)))
      none

  viable_empty : IsViable []
  viable_empty = (record { items = []; end = place_after [] }, [], no_more_items)

  is_program : (tokens : List Token) → BeginsWith text tokens [] → ¬ ¬ IsProgram tokens
  is_program tokens begins none =
      viable_along tokens [] tokens begins refl (λ no. no viable_empty)
      (λ viable. keeps_text _ _ (text_rules.unfinished tokens begins viable none))

  has_tree : ¬ ¬ ((tree : Ast) × IsTreeOf text tree)
  has_tree none = whole_cut text by_cut where
    by_cut : IsCut text → ⊥
    by_cut (lexemes, cut) =
        let tokens : List Token = tokens_from [] lexemes in
        let begins : BeginsWith text tokens [] = record { lexemes = lexemes; cut = cut; same = refl } in
        is_program tokens begins
        (λ (tree, writes).
        none (record { items = tree.items; end = place_after text }, record { tokens = tokens; cut = begins; writes = writes; end = refl; keeps = keeps_text }))

  keeps_names : (tree : Ast) → IsTreeOf text tree → (rule : NRule) (place : Place) → ¬ name_check.FailsName tree rule place
  keeps_names tree parsed = no_first-none name_check.name_rule_number (name_check.FailsName tree)
      (λ rule place fails first. unrefused _ (of_names tree rule place parsed (record { fails = fails; first = first })))

  keeps_effects : (p : Program) → IsMeaningOf text p → (rule : ERule) (place : Place) → ¬ effect_rules.FailsEffect p rule place
  keeps_effects p meant = no_first-none effect_rules.effect_rule_number (effect_rules.FailsEffect p)
      (λ rule place fails first. unrefused _ (of_effects p rule place meant (record { fails = fails; first = first })))

  pub never_neither : ¬ ¬ ((p : Program) × Accepted text p)
  never_neither none =
      has_tree
      (λ (tree, parsed).
      let p : Program = program_of tree in
      let meant : IsMeaningOf text p = record { tree = tree; parsed = parsed; keeps = keeps_names tree parsed; meaning = refl } in
      none (p, record { meant = meant; keeps = keeps_effects p meant }))
