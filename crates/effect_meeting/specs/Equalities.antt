-- Equalities between parameters of two declarations and literals, and when they hold.
use Rattle.std.specs.Prelude.{◌==◌, ℤ, Bool, false, List}
use Rattle.std.specs.Ordering.{int_eq}
use Rattle.std.specs.List.{list_all}
use Rattle.region_paths.specs.Filled.{Valuation}
use Rattle.effect_meeting.specs.declared.equality.Term.{Term}
use Rattle.effect_meeting.specs.declared.equality.Term.TheVariants.{Literal, First, Second}
use Rattle.effect_meeting.specs.declared.equality.Equality.{Equality}

-- the value of a term, where these are the values of the parameters of the first declaration and of the second
abbrev pub term_value : Valuation → Valuation → Term → ℤ
term_value v w (Literal i) = i
term_value v w (First k) = v k
term_value v w (Second k) = w k

-- the two terms have one value
abbrev pub equality_holds : Valuation → Valuation → Equality → Bool
equality_holds v w e = int_eq (term_value v w e.left) (term_value v w e.right)

-- all of the equalities hold
abbrev pub equalities_hold : Valuation → Valuation → List Equality → Bool
equalities_hold v w es = list_all (equality_holds v w) es

-- the terms are the same
abbrev pub same_term : Term → Term → Bool
same_term (Literal i) (Literal j) = int_eq i j
same_term (First k) (First l) = k == l
same_term (Second k) (Second l) = k == l
same_term _ _ = false
