use Rattle.state_copies.proofs.Sameness.{differs, same_all}
use Rattle.state_copies.proofs.frames.same_frame.Goals as goal

pub returns-then-same_progress : goal.returns-then-same_progress
returns-then-same_progress c = same_all c.args.a.now c.args.b.now c.same_contents.result (c.same_progress.ensures.0 c.if-same_progress.true) c.same_contents.ensures

pub returns-else-same_progress : goal.returns-else-same_progress
returns-else-same_progress c = differs c.args.a.now c.args.b.now c.same_progress.result c.if-same_progress.false c.same_progress.ensures
