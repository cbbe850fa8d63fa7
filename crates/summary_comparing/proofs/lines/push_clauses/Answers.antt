use Rattle.std.proofs.Common.{◌++◌}
use Rattle.std.specs.Prelude.{codes}
use Rattle.std.proofs.lemmas.Result.{on_ok_weaker}
use Rattle.summary_comparing.specs.CompareTexts.{effects_part, part_if_any, wider_clauses}
use Rattle.summary_comparing.proofs.Compared.{appended}
use Rattle.summary_comparing.proofs.lines.push_clauses.Goals as goal

-- one part after the other
pub returns : goal.returns
unfolding wider_clauses
returns c =
    let regions = c.args.regions.now in
    let params = c.args.params.now in
    let declares = effects_part regions params (codes ": declares ") c.args.declares.now in
    let needs = effects_part regions params (codes "; needs ") c.args.needed.now in
    let children = part_if_any regions params (codes "; children declare ") c.args.children.now in
    let idle = part_if_any regions params (codes "; nothing needs ") c.args.idle.now in
    let first = c.args.text.now in
    let second = c.push_part.new.text in
    let third = c.push_part-2.new.text in
    let fourth = c.push_part_if_any.new.text in
    let last = c.push_part_if_any-2.new.text in
    on_ok_weaker c.push_part_if_any-2.result
    (λ is. appended first second last declares (needs ++ (children ++ idle)) c.in_ok-push_part.ensures
    (appended second third last needs (children ++ idle) c.in_ok-push_part-2.ensures
    (appended third fourth last children idle c.in_ok-push_part_if_any.ensures is)))
    c.push_part_if_any-2.ensures
