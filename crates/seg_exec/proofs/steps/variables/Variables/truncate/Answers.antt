use Rattle.std.proofs.Common.{ap, ◌∙◌}
use Rattle.seg_exec.proofs.steps.Parts.{bodies_at, cut_at}
use Rattle.seg_exec.proofs.steps.variables.Variables.truncate.Goals as goal

pub returns : goal.returns
returns c = ap (bodies_at c.self.inside.start) c.truncate.ensures.items ∙ cut_at c.self.inside.start c.args.count c.self.inside.values.items c.args.self.now c.self.view_is
