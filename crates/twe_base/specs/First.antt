-- The first of several failures, from one to the next.
use Rattle.std.specs.Prelude.{ℕ, ◌==◌, nat_lt, Bool, true, false, ◌&&◌, ◌||◌, if◌then◌else◌, List, [], ◌∷◌, Option, None, Some}
use Rattle.twe_base.specs.declared.place.Place.{Place}
use Rattle.twe_base.specs.declared.failure.Failure.{Failure}

-- the failure of the rule at the place, if it is one
abbrev pub failure_if : {R : Type 0} → Bool → R → Place → List (Failure R)
failure_if true rule place = record { rule = rule; place = place } ∷ []
failure_if false rule place = []

-- the first failure comes before the second: its place is earlier, or the same and its number is lower
abbrev pub is_before : {R : Type 0} → (R → ℕ) → Failure R → Failure R → Bool
is_before number_of a b =
    nat_lt a.place.line b.place.line
    || ((a.place.line == b.place.line)
    && (nat_lt a.place.col b.place.col || ((a.place.col == b.place.col) && nat_lt (number_of a.rule) (number_of b.rule))))

-- the one that comes first, of the first so far and another
abbrev pub earlier : {R : Type 0} → (R → ℕ) → Option (Failure R) → Failure R → Option (Failure R)
earlier number_of None other = Some other
earlier number_of (Some first) other = if is_before number_of other first then Some other else Some first

-- the first of all, of the first so far and these
abbrev pub first_from : {R : Type 0} → (R → ℕ) → Option (Failure R) → List (Failure R) → Option (Failure R)
first_from number_of first [] = first
first_from number_of first (other ∷ others) = first_from number_of (earlier number_of first other) others
