use Rattle.refusal_notes.proofs.mends.tell_refused.Goals as goal

-- by its refusal
pub returns : goal.returns
returns c = (c.args.refusal, c.requires)
