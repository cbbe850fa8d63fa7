use Rattle.std.specs.Prelude.{codes}
use Rattle.std.proofs.lemmas.Result.{on_ok_weaker}
use Rattle.twe_advise.specs.JsonHolds.{json_effect, json_sides}
use Rattle.twe_advise.proofs.Pieces.{four_right}
use Rattle.twe_advise.proofs.json_holds.push_json_sides.Goals as goal

pub returns : goal.returns
unfolding json_sides
returns c =
    let its = json_effect c.args.p.now c.args.items.now in
    on_ok_weaker c.push_json_effect-2.result
    (four_right c.args.text.now (codes ",\"holder\":") (its c.args.pair.holder) (codes ",\"held\":") (its c.args.pair.held)
    c.push_all.new.self c.push_json_effect.new.text c.push_all-2.new.self c.push_json_effect-2.new.text
    c.in_ok-push_all.ensures.ok c.in_ok-push_json_effect.ensures c.in_ok-push_all-2.ensures.ok)
    c.push_json_effect-2.ensures
