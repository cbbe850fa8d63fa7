-- Which of several failures comes first. The rules of one kind are numbered.
use Rattle.std.specs.Prelude.{◌≡◌, ◌⊎◌, ◌<◌, ◌≤◌, ℕ, Option, None, Some}
use Rattle.twe_base.specs.declared.place.Place.{Place}
use Rattle.twe_base.specs.declared.failure.Failure.{Failure}

-- the first place is earlier in the text
abbrev pub IsEarlier : Place → Place → Type 0
IsEarlier a b = (a.line < b.line) ⊎ ((a.line ≡ b.line) × (a.col < b.col))

-- the first failure does not come after the second: its place is earlier, or the same and its number not higher
abbrev pub NotAfter : {R : Type 0} → (R → ℕ) → R → Place → R → Place → Type 0
NotAfter number_of rule place other elsewhere =
    IsEarlier place elsewhere ⊎ ((place ≡ elsewhere) × (number_of rule ≤ number_of other))

-- the rule fails at the place, and this failure comes after no other
pub record IsFirstFailure {R : Type 0} (number_of : R → ℕ) (Fails : R → Place → Type 0) (rule : R) (place : Place) : Type 0 where
  pub fails : Fails rule place
  pub first : (other : R) (elsewhere : Place) → Fails other elsewhere → NotAfter number_of rule place other elsewhere

-- it is one of the failures and comes after no other, or there is none
abbrev pub IsFirstOf : {R : Type 0} → (R → ℕ) → (Failure R → Type 0) → Option (Failure R) → Type 0
IsFirstOf number_of Fails None = (other : Failure _) → ¬ Fails other
IsFirstOf number_of Fails (Some first) =
    Fails first × ((other : Failure _) → Fails other → NotAfter number_of first.rule first.place other.rule other.place)
