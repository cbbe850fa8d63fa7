-- Of two lists of failures whose places stand side by side, the first failures stand side by side.
use Rattle.std.proofs.Common.{◌≡◌, ℕ, List, length, inl, inr, sym, ◌∙◌, subst}
use Rattle.twe_base.specs.declared.place.Place.{Place}
use Rattle.twe_base.specs.Order.{NotAfter, IsFirstFailure}
use Rattle.twe_base.proofs.Members.{IsIn}
use Rattle.layout_refusals.proofs.Beside.{Beside, Ascends, turned, has-beside, order-kept, one-beside, beside, beside-is, beside-in}

-- what fails of the one fails of the other, at a place that is moved to the place of the first
abbrev pub FailsThere : {R : Type 0} → (Place → Place) → (R → Place → Type 0) → (R → Place → Type 0) → Type 0
FailsThere to One Other = (rule : _) (place : Place) → One rule place → (its : Place) × Other rule its × (place ≡ to its)

module _ {R : Type 0} (number_of : R → ℕ) (One Other : R → Place → Type 0) (places others : List Place) (past end : Place)
    (past_there : IsIn past places) (end_there : IsIn end others) (long : length places ≡ length others) (up : Ascends places) (also_up : Ascends others)
    (there : FailsThere (beside others places past) One Other) (back : FailsThere (beside places others end) Other One) where
  -- a failure of the one stands beside the failure of the other
  pub found : (rule : R) (place : Place) → One rule place → (its : Place) × Other rule its × Beside places others place its
  found rule place fails =
      let its = there rule place fails in
      let again = back rule its.0 its.1 in
      let among : IsIn its.0 others = subst (λ (p : Place). IsIn p others) (sym again.2) (beside-in places others others end end_there (λ p h. h) again.0) in
      let at = has-beside places others long its.0 among in
      let same : at.0 ≡ place = sym (beside-is others places past also_up its.0 at.0 (turned places others at.0 its.0 at.1)) ∙ sym its.2 in
      (its.0, its.1, subst (λ (p : Place). Beside places others p its.0) same at.1)

  found-back : (rule : R) (its : Place) → Other rule its → (place : Place) × One rule place × Beside places others place its
  found-back rule its fails =
      let was = back rule its fails in
      let again = there rule was.0 was.1 in
      let among : IsIn was.0 places = subst (λ (p : Place). IsIn p places) (sym again.2) (beside-in others places places past past_there (λ p h. h) again.0) in
      let at = has-beside others places (sym long) was.0 among in
      let pair : Beside places others was.0 at.0 = turned others places at.0 was.0 at.1 in
      let same : at.0 ≡ its = sym (beside-is places others end up was.0 at.0 pair) ∙ sym was.2 in
      (was.0, was.1, subst (λ (p : Place). Beside places others was.0 p) same pair)

  kept : (rule second : R) (p q r s : Place) → Beside places others p q → Beside places others r s → NotAfter number_of rule p second r → NotAfter number_of rule q second s
  kept rule second p q r s h k (inl before) = inl (order-kept places others up also_up p q r s h k before)
  kept rule second p q r s h k (inr (same, lower)) = inr (one-beside places others up p q r s h k same, lower)

  pub first-alike : (rule : R) (place : Place) → IsFirstFailure number_of One rule place
      → (its : Place) × IsFirstFailure number_of Other rule its × Beside places others place its
  first-alike rule place is =
      let its = found rule place is.fails in (
        its.0,
        record {
          fails = its.1;
          first = λ second elsewhere fails.
              let was = found-back second elsewhere fails in
              kept rule second place its.0 was.0 elsewhere its.2 was.2 (is.first second was.0 was.1);
        },
        its.2,
      )
