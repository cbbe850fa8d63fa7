use Rattle.std.proofs.Common.{◌≡◌, ◌++◌, drop}
use Rattle.refusal_notes.specs.Meetings.{more_named_texts}
use Rattle.refusal_notes.proofs.meetings.push_more_named.Given as goal

-- the texts so far and those of what is left are those of all
abbrev pub invariant-loop-given : goal.invariant-loop-given
invariant-loop-given l =
    l.text ++ more_named_texts l.variables (drop l.given-index l.values) ≡ l.fn.text ++ more_named_texts l.variables l.values
