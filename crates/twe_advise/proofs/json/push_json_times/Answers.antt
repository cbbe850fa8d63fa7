use Rattle.std.specs.Prelude.{codes}
use Rattle.std.proofs.lemmas.Result.{on_ok_weaker}
use Rattle.twe_advise.specs.Json.{json_paces, json_times}
use Rattle.twe_advise.proofs.Pieces.{two_pieces}
use Rattle.twe_advise.proofs.json.push_json_times.Goals as goal

pub returns : goal.returns
unfolding json_times
returns c =
    on_ok_weaker c.push_paces.result
    (two_pieces c.args.text.now (codes ",\"times\":[") (json_paces c.args.work c.args.span c.args.paces.now) c.push_all.new.self c.push_paces.new.text c.in_ok-push_all.ensures.ok)
    c.push_paces.ensures
