use Rattle.std.proofs.Common.{◌+◌, ℤ, SFits, w32, ap, rules, ◌∙◌}
use Rattle.std.specs.Prelude.{slice_set}
use Rattle.std.proofs.lemmas.Int.{to_z-of_z}
use Rattle.seg_exec.proofs.steps.Parts.{bodies_at, set_at}
use Rattle.seg_exec.proofs.steps.variables.Variables.set.Goals as goal

pub returns : goal.returns
returns c =
    let start = c.self.inside.start in
    let values = c.self.inside.values.items in
    let fits : SFits w32 c.args.value = search rules in
    ap (λ (v : ℤ). bodies_at start (slice_set values (start + c.args.var) v)) (to_z-of_z w32 c.args.value fits)
    ∙ set_at start c.args.var c.args.value values c.args.self.now c.self.view_is
