use Rattle.std.specs.Prelude.{codes}
use Rattle.std.proofs.lemmas.Result.{on_ok_weaker}
use Rattle.twe_advise.specs.JsonHolds.{json_sides}
use Rattle.twe_advise.specs.Texts.{word_number}
use Rattle.twe_advise.proofs.Pieces.{four_right}
use Rattle.twe_advise.proofs.json_holds.push_json_pair.Goals as goal

pub returns : goal.returns
returns c =
    let held = c.args.held in
    on_ok_weaker c.push_all.result
    (four_right c.args.text.now (word_number (codes "{\"time\":") held.time) (word_number (codes ",\"admissions\":") held.admissions)
    (json_sides c.args.p.now c.args.items.now held.pair) (codes "}")
    c.push_number.new.text c.push_small.new.text c.push_json_sides.new.text c.push_all.new.self
    c.in_ok-push_number.ensures c.in_ok-push_small.ensures c.in_ok-push_json_sides.ensures)
    c.push_all.ensures.ok
