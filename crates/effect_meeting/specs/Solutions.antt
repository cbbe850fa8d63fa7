-- Values of parameters for which equalities hold together.
use Rattle.std.specs.Prelude.{◌≡◌, ℤ, pos, List, IsTrue}
use Rattle.region_paths.specs.Filled.{Valuation}
use Rattle.effect_meeting.specs.declared.equality.Term.{Term}
use Rattle.effect_meeting.specs.declared.equality.Term.TheVariants.{Literal, First, Second}
use Rattle.effect_meeting.specs.declared.equality.Equality.{Equality}
use Rattle.effect_meeting.specs.Equalities.{equalities_hold, term_value}
use Rattle.effect_meeting.specs.Solving.{after_steps, is_literal}

-- a literal is its value; a parameter has the value 0
abbrev pub plain_value : Term → ℤ
plain_value (Literal i) = i
plain_value (First k) = pos 0
plain_value (Second k) = pos 0

-- the value that the steps give a term
abbrev pub solved_value : List Equality → Term → ℤ
solved_value steps term = plain_value (after_steps steps term)

-- the values that they give the parameters of the first declaration, and those of the second
abbrev pub first_by : List Equality → Valuation
first_by steps k = solved_value steps (First k)

abbrev pub second_by : List Equality → Valuation
second_by steps k = solved_value steps (Second k)

-- The steps solve the equalities: these hold for the values that the steps give. Where the steps make a literal of a term, the
-- term has this value wherever the equalities hold.
pub record AreSolvedBy (equalities steps : List Equality) : Type 0 where
  pub hold : IsTrue (equalities_hold (first_by steps) (second_by steps) equalities)
  pub forced : (v w : Valuation) → IsTrue (equalities_hold v w equalities) → (term : Term)
      → IsTrue (is_literal (after_steps steps term)) → term_value v w term ≡ solved_value steps term

-- the equalities hold for no values
abbrev pub NeverHold : List Equality → Type 0
NeverHold equalities = (v w : Valuation) → ¬ IsTrue (equalities_hold v w equalities)
