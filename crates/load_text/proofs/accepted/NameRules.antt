-- The tree keeps every rule of names.
use Rattle.std.proofs.Common.{ℕ, ◌≤◌, List, inl, inr, subst}
use Rattle.twe_base.specs.declared.place.Place.{Place}
use Rattle.name_check.specs.declared.rule.NRule.{NRule}
use Rattle.name_check.specs.FailsName.{FailsName, NameFailure}
use Rattle.twe_base.proofs.Members.{IsIn}
use Rattle.name_check.proofs.Fails.{fails-listed}
use Rattle.load_text.proofs.accepted.Trees.{Places, load_tree}
use Rattle.load_text.proofs.accepted.NamesKept.{none_listed}
use Rattle.load_text.proofs.accepted.CellsFew.{none_over}

pub keeps_names : (at : Places) (end : Place) (n : ℕ) → n ≤ 2000 → (rule : NRule) (place : Place) → ¬ FailsName (load_tree at end n) rule place
keeps_names at end n most rule place fails = elim (fails-listed (load_tree at end n) rule place fails) [
  | inl listed ↦ subst (λ (list : List NameFailure). IsIn (record { rule = rule; place = place }) list) (none_listed at end n most) listed
  | inr (cell, over, same) ↦ none_over at end n most cell over
]
