use Rattle.refusal_notes.proofs.mends.tell_accepted.Goals as goal

-- by its program
pub returns : goal.returns
returns c = (c.args.p.now, c.requires)
