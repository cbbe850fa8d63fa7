-- Where the effects of two declarations meet, and under which equalities.
use Rattle.std.specs.Prelude.{◌≡◌, ◌↔◌, List, Contains, IsTrue}
use Rattle.region_paths.specs.Filled.{Valuation}
use Rattle.effect_sets.specs.declared.effects.Effect.{Effect}
use Rattle.effect_sets.specs.Filled.{effect_under}
use Rattle.effect_sets.specs.Interference.{Interferes}
use Rattle.effect_meeting.specs.declared.all_meetings.Meeting.{Meeting}
use Rattle.effect_meeting.specs.Equalities.{equalities_hold}

-- the two effects interfere for these values of the parameters
abbrev pub InterfereUnder : Valuation → Valuation → Effect → Effect → Type 0
InterfereUnder v w a b = Interferes (effect_under v a) (effect_under w b)

-- some effect of the first list interferes with one of the second for these values
abbrev pub SomeInterfereUnder : Valuation → Valuation → List Effect → List Effect → Type 0
SomeInterfereUnder v w first second =
    (a : Effect) × (b : Effect) × Contains first a × Contains second b × InterfereUnder v w a b

-- the meeting is that of two of the effects: it has the path of the first, and its equalities hold exactly for the values
-- for which the two interfere
abbrev pub IsMeeting : List Effect → List Effect → Meeting → Type 0
IsMeeting first second meeting =
    (a : Effect) × (b : Effect) × Contains first a × Contains second b × (meeting.path ≡ a.path)
    × ((v w : Valuation) → IsTrue (equalities_hold v w meeting.equalities) ↔ InterfereUnder v w a b)

-- all meetings of the effects: each holds for some values, and where two effects interfere, one of the meetings holds
pub record AreMeetings (first second : List Effect) (meetings : List Meeting) : Type 0 where
  pub each : (meeting : Meeting) → Contains meetings meeting → IsMeeting first second meeting
  pub possible : (meeting : Meeting) → Contains meetings meeting
      → (v : Valuation) × (w : Valuation) × IsTrue (equalities_hold v w meeting.equalities)
  pub all : (v w : Valuation) → SomeInterfereUnder v w first second
      → (meeting : Meeting) × Contains meetings meeting × IsTrue (equalities_hold v w meeting.equalities)
