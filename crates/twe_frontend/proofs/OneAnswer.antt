-- A text has one answer: its program, or its refusal.
use Rattle.std.proofs.Common.{◌≡◌, ◌≤◌, ℕ, ◌⊎◌, inl, inr, List, [], ◌∷◌, slice_index_or, refl, sym, ap, ◌∙◌, subst}
use Rattle.twe_base.specs.declared.place.Place.{Place}
use Rattle.twe_ast.specs.declared.item.Ast.{Ast}
use Rattle.twe_parser.specs.declared.fail.SRule.{SRule}
use Rattle.twe_parser.specs.declared.fail.SRule.TheVariants.{S1, S2, S3, S4, S5, S6}
use Rattle.twe_parser.specs.Fails as text_rules
use Rattle.name_check.specs.declared.rule.NRule.{NRule}
use Rattle.name_check.specs.declared.rule.NRule.TheVariants.{N1, N2, N3, N4, N5, N6, N7, N8, N9}
use Rattle.name_check.specs.FailsName as name_check
use Rattle.effect_check.specs.declared.rule.ERule.{ERule}
use Rattle.effect_check.specs.declared.rule.ERule.TheVariants.{E1, E2, E3, E4, E5, E6, E7, E8}
use Rattle.effect_check.specs.FailsEffect as effect_rules
use Rattle.twe_program.specs.Program.{Program}
use Rattle.twe_names.specs.Meaning.{program_of}
use Rattle.twe_frontend.specs.declared.refusal.Refusal.{Refusal}
use Rattle.twe_frontend.specs.declared.refusal.RuleName.{RuleName}
use Rattle.twe_frontend.specs.declared.refusal.RuleName.TheVariants.{Text, Name, Effect}
use Rattle.twe_frontend.specs.Accepted.{IsTreeOf, IsMeaningOf, Accepted, IsRefusal, of_text, of_names, of_effects}
use Rattle.twe_frontend.proofs.SameTree.{OneTree, same_tree}
use Rattle.twe_base.proofs.Order.{one_first}

abbrev text_named : ℕ → SRule
text_named n = slice_index_or (S1 ∷ S1 ∷ S2 ∷ S3 ∷ S4 ∷ S5 ∷ S6 ∷ []) n S1

text_back : (r : SRule) → text_named (text_rules.rule_rank r) ≡ r
text_back S1 = refl
text_back S2 = refl
text_back S3 = refl
text_back S4 = refl
text_back S5 = refl
text_back S6 = refl

abbrev name_named : ℕ → NRule
name_named n = slice_index_or (N1 ∷ N1 ∷ N2 ∷ N3 ∷ N4 ∷ N5 ∷ N6 ∷ N7 ∷ N8 ∷ N9 ∷ []) n N1

name_back : (r : NRule) → name_named (name_check.name_rule_number r) ≡ r
name_back N1 = refl
name_back N2 = refl
name_back N3 = refl
name_back N4 = refl
name_back N5 = refl
name_back N6 = refl
name_back N7 = refl
name_back N8 = refl
name_back N9 = refl

abbrev effect_named : ℕ → ERule
effect_named n = slice_index_or (E1 ∷ E1 ∷ E2 ∷ E3 ∷ E4 ∷ E5 ∷ E6 ∷ E7 ∷ E8 ∷ []) n E1

effect_back : (r : ERule) → effect_named (effect_rules.effect_rule_number r) ≡ r
effect_back E1 = refl
effect_back E2 = refl
effect_back E3 = refl
effect_back E4 = refl
effect_back E5 = refl
effect_back E6 = refl
effect_back E7 = refl
effect_back E8 = refl

same_refusal : (rule other : RuleName) (place its : Place) → rule ≡ other → place ≡ its → ◌≡◌ {A = Refusal} (record { rule = rule; place = place }) (record { rule = other; place = its })
same_refusal rule other place its same there = ap (λ (r : RuleName). record { rule = r; place = place }) same ∙ ap (λ (p : Place). record { rule = other; place = p }) there

pub same_program : OneTree → (text : List ℕ) (p other : Program) → IsMeaningOf text p → IsMeaningOf text other → p ≡ other
same_program one text p other meant again =
    meant.meaning ∙ ap program_of (same_tree one text meant.tree again.tree meant.parsed again.parsed) ∙ sym again.meaning

-- no rule of names fails in the tree of a text that means something
keeps_names : OneTree → (text : List ℕ) (p : Program) (tree : Ast) (rule : NRule) (place : Place) → IsMeaningOf text p → IsTreeOf text tree → name_check.FailsName tree rule place → ⊥
keeps_names one text p tree rule place meant parsed fails =
    meant.keeps rule place (subst (λ (t : Ast). name_check.FailsName t rule place) (same_tree one text tree meant.tree parsed meant.parsed) fails)

pub one_refusal : OneTree → (text : List ℕ) (refusal other : Refusal) → IsRefusal text refusal → IsRefusal text other → refusal ≡ other
one_refusal one text refusal other (of_text rule place first) (of_text rule2 place2 again) =
    let same = one_first text_rules.rule_rank text_named text_back rule rule2 place place2 (first.first rule2 place2 again.fails) (again.first rule place first.fails) in
    same_refusal (Text rule) (Text rule2) place place2 (ap Text same.0) same.1
one_refusal one text refusal other (of_text rule place first) (of_names tree rule2 place2 parsed again) = absurd (parsed.keeps rule place first.fails)
one_refusal one text refusal other (of_text rule place first) (of_effects p rule2 place2 meant again) = absurd (meant.parsed.keeps rule place first.fails)
one_refusal one text refusal other (of_names tree rule place parsed first) (of_text rule2 place2 again) = absurd (parsed.keeps rule2 place2 again.fails)
one_refusal one text refusal other (of_names tree rule place parsed first) (of_names tree2 rule2 place2 parsed2 again) =
    let moved = subst (λ (t : Ast). name_check.IsFirstNameFailure t rule2 place2) (same_tree one text tree2 tree parsed2 parsed) again in
    let same = one_first name_check.name_rule_number name_named name_back rule rule2 place place2 (first.first rule2 place2 moved.fails) (moved.first rule place first.fails) in
    same_refusal (Name rule) (Name rule2) place place2 (ap Name same.0) same.1
one_refusal one text refusal other (of_names tree rule place parsed first) (of_effects p rule2 place2 meant again) = absurd (keeps_names one text p tree rule place meant parsed first.fails)
one_refusal one text refusal other (of_effects p rule place meant first) (of_text rule2 place2 again) = absurd (meant.parsed.keeps rule2 place2 again.fails)
one_refusal one text refusal other (of_effects p rule place meant first) (of_names tree rule2 place2 parsed again) = absurd (keeps_names one text p tree rule2 place2 meant parsed again.fails)
one_refusal one text refusal other (of_effects p rule place meant first) (of_effects p2 rule2 place2 meant2 again) =
    let moved = subst (λ (q : Program). effect_rules.IsFirstEffectFailure q rule2 place2) (same_program one text p2 p meant2 meant) again in
    let same = one_first effect_rules.effect_rule_number effect_named effect_back rule rule2 place place2 (first.first rule2 place2 moved.fails) (moved.first rule place first.fails) in
    same_refusal (Effect rule) (Effect rule2) place place2 (ap Effect same.0) same.1

pub not_refused : OneTree → (text : List ℕ) (p : Program) (refusal : Refusal) → Accepted text p → IsRefusal text refusal → ⊥
not_refused one text p refusal accepted (of_text rule place first) = accepted.meant.parsed.keeps rule place first.fails
not_refused one text p refusal accepted (of_names tree rule place parsed first) = keeps_names one text p tree rule place accepted.meant parsed first.fails
not_refused one text p refusal accepted (of_effects q rule place meant first) =
    accepted.keeps rule place (subst (λ (r : Program). effect_rules.FailsEffect r rule place) (same_program one text q p meant accepted.meant) first.fails)
