use Rattle.std.specs.Prelude.{codes}
use Rattle.std.specs.List.{flat_map}
use Rattle.std.proofs.lemmas.Result.{on_ok_weaker}
use Rattle.twe_advise.specs.Texts.{time_row, times_text}
use Rattle.twe_advise.proofs.Pieces.{two_pieces}
use Rattle.twe_advise.proofs.text.push_times_table.Goals as goal

pub returns : goal.returns
unfolding times_text
returns c =
    on_ok_weaker c.push_times.result
    (two_pieces c.args.text.now (codes "\n     workers  least time  paced time  paced held    speed-up\n") (flat_map (time_row c.args.work c.args.span) c.args.paces.now) c.push_all.new.self c.push_times.new.text
    c.in_ok-push_all.ensures.ok)
    c.push_times.ensures
