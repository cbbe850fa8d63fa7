use Rattle.std.proofs.Common.{Bool, arith}
use Rattle.std.specs.Prelude.{◌||◌}
use Rattle.std.proofs.lemmas.List.FromFn.{filter_of_map_range_with_len_more}
use Rattle.effect_meeting.specs.Solutions.{first_by}
use Rattle.effect_meeting.specs.declared.values.ParamValue.{ParamValue}
use Rattle.effect_meeting.specs.Values.{has_variable, param_with_value}
use Rattle.effect_meeting.proofs.values.values_by.Goals as goal

-- one more parameter, if it stands in one of the paths
pub loop-param-preserved : goal.loop-param-preserved
loop-param-preserved c =
    let p = c.args.first.now in
    let q = c.args.second.now in
    let n = c.loop-param.param in
    let v = first_by c.args.steps.now in
    let stands : ParamValue → Bool = λ given. has_variable given.param p || has_variable given.param q in
    let more = filter_of_map_range_with_len_more stands (param_with_value v) 0 n n (omega arith) in
    grind (arith, more)
