use Rattle.std.proofs.Common.{◌≡◌, ◌++◌, drop}
use Rattle.std.specs.List.{flat_map}
use Rattle.effect_meeting.specs.inner.Columns.{column_equalities}
use Rattle.effect_meeting.proofs.meeting.column_equalities.Given as goal

-- those so far and those of what is left are those of all, after the first ones
abbrev pub invariant-loop-column : goal.invariant-loop-column
invariant-loop-column l =
    l.list ++ flat_map column_equalities (drop l.column-index l.columns)
    ≡ l.initial.list ++ flat_map column_equalities l.columns
