-- The first failure of a text, from the first of all but that of how many cells and nodes there are.
use Rattle.std.proofs.Common.{◌≡◌, ◌⊎◌, Option, None, Some, inl, inr, sym, ap, ◌∙◌, subst}
use Rattle.std.specs.Option.{MatchOption}
use Rattle.twe_base.specs.declared.place.Place.{Place}
use Rattle.twe_ast.specs.declared.item.Ast.{Ast}
use Rattle.name_check.specs.cell_limits.FirstOver.{IsFirstOver}
use Rattle.name_check.specs.declared.rule.NRule.{NRule}
use Rattle.name_check.specs.declared.rule.NRule.TheVariants.{N7}
use Rattle.name_check.specs.FailsName.{NameFailure}
use Rattle.name_check.specs.FailsName.{FailsName, IsFirstNameFailure, name_rule_number}
use Rattle.name_check.specs.FailsName as rules
use Rattle.name_check.specs.inner.First.{first_from}
use Rattle.name_check.specs.OtherFailures.{failures_of_place}
use Rattle.twe_base.proofs.Members.{IsIn}
use Rattle.twe_base.specs.Order.{IsFirstOf}
use Rattle.twe_base.proofs.Firsts.{first-same, first_from-first, first-said}
use Rattle.name_check.proofs.Gathered.{failures_in}
use Rattle.name_check.proofs.Listed.{listed-fails}
use Rattle.name_check.proofs.Fails.{fails-listed, GoesOverAt}

module _ (ast : Ast) where
  over-fails : (over : Option Place) → IsFirstOver ast.items over → (f : NameFailure) → IsIn f (failures_of_place N7 over) → FailsName ast f.rule f.place
  over-fails None is f h = absurd h
  over-fails (Some place) is f (inl e) =
      let (cell, goes, at) = is.0 in
      subst (λ (g : NameFailure). FailsName ast g.rule g.place) (sym e) (subst (λ p. FailsName ast N7 p) (sym at) (rules.too_many_cells cell goes))
  over-fails (Some place) is f (inr h) = absurd h

  fails-over : (over : Option Place) → IsFirstOver ast.items over → (f : NameFailure) → GoesOverAt ast f → IsIn f (failures_of_place N7 over)
  fails-over None is f (cell, goes, e) = absurd (is cell goes)
  fails-over (Some place) is f (cell, goes, e) = inl (e ∙ ap (λ p. make p) (is.1 cell goes)) where
    make : Place → NameFailure
    make p = record { rule = N7; place = p }

  -- it is the first failure of a rule of names, or there is none
  abbrev pub IsFirst : Option NameFailure → Type 0
  IsFirst first = MatchOption first ((rule : NRule) (place : Place) → ¬ FailsName ast rule place) (λ f. IsFirstNameFailure ast f.rule f.place)

  pub first_of_text : (found first : Option NameFailure) (over : Option Place) → found ≡ first_from None (failures_in ast) → IsFirstOver ast.items over
      → first ≡ first_from found (failures_of_place N7 over) → IsFirst first
  first_of_text found first over gathered is reported =
      let No : NameFailure → Type 0 = λ f. ⊥ in
      let In : NameFailure → Type 0 = λ f. No f ⊎ IsIn f (failures_in ast) in
      let All : NameFailure → Type 0 = λ f. In f ⊎ IsIn f (failures_of_place N7 over) in
      let h1 : IsFirstOf name_rule_number In found = subst (IsFirstOf name_rule_number In) (sym gathered) (first_from-first name_rule_number No None (failures_in ast) (λ f h. h)) in
      let h2 : IsFirstOf name_rule_number All first = subst (IsFirstOf name_rule_number All) (sym reported) (first_from-first name_rule_number In found (failures_of_place N7 over) h1) in
      first-said name_rule_number (FailsName ast) first
      (first-same name_rule_number All (λ f. FailsName ast f.rule f.place)
      (λ f q. elim q [ inl r ↦ elim r [ inl none ↦ absurd none | inr x ↦ listed-fails ast f x ] | inr x ↦ over-fails over is f x ])
      (λ f q. elim (fails-listed ast f.rule f.place q) [ inl x ↦ inl (inr x) | inr x ↦ inr (fails-over over is f x) ])
      first h2)
