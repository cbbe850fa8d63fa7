use Rattle.refusal_causes.proofs.Listed.{cause_fails}
use Rattle.refusal_causes.proofs.alone.note_of_task.Goals as goal

-- the rule fails, and this is why
pub note-requires-clause-fails : goal.note-requires-clause-fails
note-requires-clause-fails c =
    (cause_fails c.args.p.now c.args.task.now c.requires.inside c.args.rule c.args.place c.args.cause c.requires.late c.requires.caused).0

pub note-requires-clause-caused : goal.note-requires-clause-caused
note-requires-clause-caused c =
    (cause_fails c.args.p.now c.args.task.now c.requires.inside c.args.rule c.args.place c.args.cause c.requires.late c.requires.caused).1
