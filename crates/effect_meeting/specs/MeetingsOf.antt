-- The meetings of the effects of two declarations, in order.
use Rattle.std.specs.Prelude.{List, [], ◌∷◌, if◌then◌else◌}
use Rattle.std.specs.List.{flat_map}
use Rattle.effect_sets.specs.declared.effects.Effect.{Effect}
use Rattle.effect_meeting.specs.declared.all_meetings.Meeting.{Meeting}
use Rattle.effect_meeting.specs.PathEqualities.{effect_equalities}
use Rattle.effect_meeting.specs.Solving.{can_hold, telling}

-- the meeting of two effects, if there is one for some values
abbrev pub meeting_of : Effect → Effect → List Meeting
meeting_of a b =
    if can_hold (effect_equalities a b)
    then (record { path = a.path; equalities = telling (effect_equalities a b) }) ∷ []
    else []

-- the meetings of one effect with these
abbrev pub meetings_from : List Effect → Effect → List Meeting
meetings_from others a = flat_map (λ b. meeting_of a b) others

-- the meetings of each of the effects with each of these
abbrev pub meetings_of : List Effect → List Effect → List Meeting
meetings_of first second = flat_map (λ a. meetings_from second a) first
