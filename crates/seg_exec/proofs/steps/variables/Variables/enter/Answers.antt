use Rattle.seg_exec.proofs.steps.Parts.{entered_at}
use Rattle.seg_exec.proofs.steps.variables.Variables.enter.Goals as goal

pub returns : goal.returns
returns c = entered_at c.self.inside.start c.args.count c.self.inside.values.items c.args.self.now c.self.view_is
