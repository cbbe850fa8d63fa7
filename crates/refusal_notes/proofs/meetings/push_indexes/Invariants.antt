use Rattle.std.proofs.Common.{◌≡◌, ◌++◌, drop}
use Rattle.std.specs.List.{flat_map}
use Rattle.refusal_notes.specs.Meetings.{cell_index_text}
use Rattle.refusal_notes.proofs.meetings.push_indexes.Given as goal

-- the texts so far and those of what is left are those of all
abbrev pub invariant-loop-elem : goal.invariant-loop-elem
invariant-loop-elem l =
    l.text ++ flat_map cell_index_text (drop l.elem-index l.elems) ≡ l.fn.text ++ flat_map cell_index_text l.elems
