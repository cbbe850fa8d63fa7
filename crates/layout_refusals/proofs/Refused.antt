-- Texts with the same tokens are refused alike.
use Rattle.std.proofs.Common.{◌≡◌, ℕ, List, refl, sym, ap, ◌∙◌, subst}
use Rattle.twe_base.specs.declared.place.Place.{Place}
use Rattle.twe_base.specs.Order.{IsFirstFailure}
use Rattle.twe_ast.specs.declared.item.Ast.{Ast}
use Rattle.twe_program.specs.Program.{Program}
use Rattle.name_check.specs.declared.rule.NRule.{NRule}
use Rattle.name_check.specs.FailsName.{FailsName, name_rule_number, IsFirstNameFailure}
use Rattle.effect_check.specs.declared.rule.ERule.{ERule}
use Rattle.effect_check.specs.FailsEffect.{FailsEffect, effect_rule_number, IsFirstEffectFailure}
use Rattle.twe_names.specs.Meaning.{program_of}
use Rattle.twe_lexer.specs.Places.{place_after}
use Rattle.moved_places.specs.MovedTree.{moved_tree}
use Rattle.moved_places.proofs.Meanings.{moved-means}
use Rattle.moved_places.proofs.NameRules.{names-alike}
use Rattle.moved_places.proofs.Rules.{fails-alike}
use Rattle.twe_frontend.specs.declared.refusal.Refusal.{Refusal}
use Rattle.twe_frontend.specs.declared.refusal.RuleName.{RuleName}
use Rattle.twe_frontend.specs.declared.refusal.RuleName.TheVariants.{Effect}
use Rattle.twe_frontend.specs.Accepted.{IsTreeOf, IsMeaningOf, IsRefusal, of_text, of_names, of_effects}
use Rattle.layout_refusals.specs.SamePlace.{IsSamePlace, places_of}
use Rattle.layout_refusals.proofs.Ascending.{places_ascend}
use Rattle.layout_refusals.proofs.Beside.{Beside, turned, number-of, beside, beside-is}
use Rattle.layout_refusals.proofs.FirstAlike.{FailsThere, first-alike}
use Rattle.layout_refusals.proofs.SameTrees.{kinds_of, OneTree, same_long, end_in, stays, same_moved, one_parsed}

-- The trees of two texts whose tokens have the same kinds.
module _ (one : OneTree) (text other : List ℕ) (tree its : Ast) (parsed : IsTreeOf text tree) (also : IsTreeOf other its)
    (same : kinds_of parsed.tokens ≡ kinds_of also.tokens) where
  -- the place of the text beside a place of the other
  abbrev back_to : Place → Place
  back_to = beside (places_of also.tokens other) (places_of parsed.tokens text) (place_after text)

  trees : moved_tree stays tree ≡ moved_tree back_to its
  trees =
      same_moved one back_to text other parsed.tokens also.tokens tree its parsed.writes also.writes parsed.end also.end same
      (λ place its h. beside-is (places_of also.tokens other) (places_of parsed.tokens text) (place_after text) (places_ascend other also.tokens also.cut) its place
      (turned (places_of parsed.tokens text) (places_of also.tokens other) place its h))

  -- what fails in the one tree fails in the other, at the place beside it
  names_there : FailsThere back_to (FailsName tree) (FailsName its)
  names_there rule place fails = names-alike stays back_to tree its trees rule place fails

  effects_there : FailsThere back_to (FailsEffect (program_of tree)) (FailsEffect (program_of its))
  effects_there rule place fails =
      fails-alike stays back_to (program_of tree) (program_of its) (sym (moved-means stays tree) ∙ ap program_of trees ∙ moved-means back_to its) rule place fails

  -- places beside one another are the same place of the texts
  same_place : (place at : Place) → Beside (places_of parsed.tokens text) (places_of also.tokens other) place at → IsSamePlace text other place at
  same_place place at h =
      let found = number-of (places_of parsed.tokens text) (places_of also.tokens other) place at h in record {
        tokens = parsed.tokens;
        others = also.tokens;
        cut = parsed.cut;
        other_cut = also.cut;
        kinds = same;
        number = found.0;
        here = found.1;
        there = found.2;
      }

module _ (one : OneTree) (text other : List ℕ) (tree its : Ast) (parsed : IsTreeOf text tree) (also : IsTreeOf other its)
    (same : kinds_of parsed.tokens ≡ kinds_of also.tokens) where
  -- first failures of one class are beside one another
  firsts : {R : Type 0} (number_of : R → ℕ) (One Other : R → Place → Type 0)
      → FailsThere (back_to one text other tree its parsed also same) One Other
      → FailsThere (back_to one other text its tree also parsed (sym same)) Other One
      → (rule : R) (place : Place) → IsFirstFailure number_of One rule place
      → (at : Place) × IsFirstFailure number_of Other rule at × IsSamePlace text other place at
  firsts number_of One Other there back rule place first =
      let found = first-alike number_of One Other (places_of parsed.tokens text) (places_of also.tokens other) (place_after text) (place_after other)
      (end_in parsed.tokens text) (end_in also.tokens other) (same_long parsed.tokens also.tokens text other same)
      (places_ascend text parsed.tokens parsed.cut) (places_ascend other also.tokens also.cut) there back rule place first in
      (found.0, found.1, same_place one text other tree its parsed also same place found.0 found.2)

  names_first : (rule : NRule) (place : Place) → IsFirstNameFailure tree rule place
      → (at : Place) × IsFirstNameFailure its rule at × IsSamePlace text other place at
  names_first rule place first =
      firsts name_rule_number (FailsName tree) (FailsName its) (names_there one text other tree its parsed also same)
      (names_there one other text its tree also parsed (sym same)) rule place first

  effects_first : (rule : ERule) (place : Place) → IsFirstEffectFailure (program_of tree) rule place
      → (at : Place) × IsFirstEffectFailure (program_of its) rule at × IsSamePlace text other place at
  effects_first rule place first =
      firsts effect_rule_number (FailsEffect (program_of tree)) (FailsEffect (program_of its)) (effects_there one text other tree its parsed also same)
      (effects_there one other text its tree also parsed (sym same)) rule place first

  -- the other text means its program if the text does
  means : ((rule : NRule) (place : Place) → ¬ FailsName tree rule place) → IsMeaningOf other (program_of its)
  means keeps = record {
    tree = its;
    parsed = also;
    keeps = λ rule place fails. let was = names_there one other text its tree also parsed (sym same) rule place fails in keeps rule was.0 was.1;
    meaning = refl;
  }

  by_effects : (p : Program) (rule : ERule) (place : Place) (meant : IsMeaningOf text p) → tree ≡ meant.tree → IsFirstEffectFailure p rule place
      → (at : Place) × IsRefusal other (record { rule = Effect rule; place = at }) × IsSamePlace text other place at
  by_effects p rule place meant is first =
      let program : p ≡ program_of tree = meant.meaning ∙ ap program_of (sym is) in
      let found = effects_first rule place (subst (λ (q : Program). IsFirstEffectFailure q rule place) program first) in
      let keeps : (rule : NRule) (place : Place) → ¬ FailsName tree rule place =
      λ rule place fails. meant.keeps rule place (subst (λ (t : Ast). FailsName t rule place) is fails) in
      (found.0, of_effects (program_of its) rule found.0 (means keeps) found.1, found.2)

-- a refusal of the one text is one of the other, by the same rule, at the same place
abbrev RefusedThere : List ℕ → List ℕ → Refusal → Type 0
RefusedThere text other refusal = (at : Place) × IsRefusal other (record { rule = refusal.rule; place = at }) × IsSamePlace text other refusal.place at

refused_there : OneTree → (text other : List ℕ) (tree its : Ast) (parsed : IsTreeOf text tree) (also : IsTreeOf other its)
    → kinds_of parsed.tokens ≡ kinds_of also.tokens → (refusal : Refusal) → IsRefusal text refusal → RefusedThere text other refusal
refused_there one text other tree its parsed also same refusal (of_text rule place first) = absurd (parsed.keeps rule place first.fails)
refused_there one text other tree its parsed also same refusal (of_names own rule place its_parsed first) =
    let is : own ≡ tree = one_parsed one text own tree its_parsed parsed in
    let found = names_first one text other tree its parsed also same rule place (subst (λ (t : Ast). IsFirstNameFailure t rule place) is first) in
    (found.0, of_names its rule found.0 also found.1, found.2)
refused_there one text other tree its parsed also same refusal (of_effects p rule place meant first) =
    by_effects one text other tree its parsed also same p rule place meant (one_parsed one text tree meant.tree parsed meant.parsed) first

pub refused_alike : OneTree → (text other : List ℕ) (tree its : Ast) (parsed : IsTreeOf text tree) (also : IsTreeOf other its)
    → kinds_of parsed.tokens ≡ kinds_of also.tokens → (rule : RuleName) (place : Place) → IsRefusal text (record { rule = rule; place = place })
    → (at : Place) × IsRefusal other (record { rule = rule; place = at }) × IsSamePlace text other place at
refused_alike one text other tree its parsed also same rule place refused =
    refused_there one text other tree its parsed also same (record { rule = rule; place = place }) refused
