use Rattle.std.proofs.Common.{◌≡◌, drop}
use Rattle.refusal_notes.specs.Meetings.{params_at}
use Rattle.refusal_notes.proofs.meetings.params_at.Given as goal

-- what is left decides
abbrev pub invariant-loop-decl : goal.invariant-loop-decl
invariant-loop-decl l = params_at (drop l.decl-index l.decls) l.place ≡ params_at l.decls l.place
