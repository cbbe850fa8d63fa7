-- Where two written paths meet: concrete paths that are in both for some values of their variables.
use Rattle.std.specs.Prelude.{◌≡◌, ◌<◌, ℕ, List, map}
use Rattle.region_paths.specs.declared.elements.Elem.{Elem}
use Rattle.region_paths.specs.declared.elements.Elem.TheVariants.{Name, Index}
use Rattle.region_paths.specs.Written.{WrittenPath}
use Rattle.region_paths.specs.Concrete.{ConcreteElem, ConcretePath, InSet, number, region}
use Rattle.region_paths.specs.Filled.{Valuation, under}
use Rattle.effect_meeting.specs.declared.met.Met.{Met}
use Rattle.effect_meeting.specs.declared.values.ParamValue.{ParamValue}
use Rattle.effect_meeting.specs.Values.{values_in}

-- the first variables, as many as this, have the same values
abbrev pub AgreeBelow : ℕ → Valuation → Valuation → Type 0
AgreeBelow shared v w = (k : ℕ) → k < shared → v k ≡ w k

-- The concrete path is in both paths for some values of their variables. The first variables, as many as are shared, are the
-- parameters of one task, and each has one value. Any other one is a local, which may have another value in each of the paths, as
-- in two turns of a loop.
pub record MeetAt (shared : ℕ) (p q : WrittenPath) (c : ConcretePath) : Type 0 where
  pub first : Valuation
  pub second : Valuation
  pub agree : AgreeBelow shared first second
  pub in_first : InSet (under first p) c
  pub in_second : InSet (under second q) c

-- the paths meet at no concrete path, whatever the values
abbrev pub NeverMeet : ℕ → WrittenPath → WrittenPath → Type 0
NeverMeet shared p q = (c : ConcretePath) → ¬ MeetAt shared p q c

-- a concrete element as it is written
abbrev pub as_written : ConcreteElem → Elem
as_written (region n) = Name n
as_written (number z) = Index z

-- The paths meet at the concrete path for these values of the parameters that stand in them: those of one choice of values for
-- all variables by which the concrete path is in both.
abbrev pub IsMetFor : ℕ → WrittenPath → WrittenPath → ConcretePath → List ParamValue → Type 0
IsMetFor shared p q c values = (meet : MeetAt shared p q c) × (values ≡ values_in shared p q meet.first)

-- these are the elements of a concrete path at which the paths meet, and the values of parameters for which they meet there
abbrev pub IsWhereMet : ℕ → WrittenPath → WrittenPath → Met → Type 0
IsWhereMet shared p q met = (c : ConcretePath) × (met.elems ≡ map as_written c) × IsMetFor shared p q c met.values
