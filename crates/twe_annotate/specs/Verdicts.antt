-- What a verdict says of the effects of two declarations. A value of a parameter is an integer of any size.
use Rattle.std.specs.Prelude.{◌≡◌, List, Contains, IsTrue}
use Rattle.region_paths.specs.Filled.{Valuation}
use Rattle.effect_sets.specs.declared.effects.Effect.{Effect}
use Rattle.effect_meeting.specs.declared.all_meetings.Meeting.{Meeting}
use Rattle.effect_meeting.specs.Equalities.{equalities_hold}
use Rattle.effect_meeting.specs.Meetings.{InterfereUnder, SomeInterfereUnder}

-- for these values the equalities of one of the meetings all hold
abbrev pub SomeMeetingHolds : Valuation → Valuation → List Meeting → Type 0
SomeMeetingHolds v w meetings = (meeting : Meeting) × Contains meetings meeting × IsTrue (equalities_hold v w meeting.equalities)

-- for some values an effect of the first list interferes with one of the second
abbrev pub SomeMeet : List Effect → List Effect → Type 0
SomeMeet first second = (v : Valuation) × (w : Valuation) × SomeInterfereUnder v w first second

-- the meeting is on the path of an effect of the first list that interferes with one of the second for all values
abbrev pub AlwaysMeet : List Effect → List Effect → Meeting → Type 0
AlwaysMeet first second meeting =
    (a : Effect) × (b : Effect) × Contains first a × Contains second b × (meeting.path ≡ a.path)
    × ((v w : Valuation) → InterfereUnder v w a b)
