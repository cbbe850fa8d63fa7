use Rattle.std.specs.Prelude.{codes}
use Rattle.std.proofs.lemmas.Result.{on_ok_weaker}
use Rattle.twe_advise.specs.Texts.{task_rows, tasks_text}
use Rattle.twe_advise.proofs.Pieces.{two_pieces}
use Rattle.twe_advise.proofs.text.push_tasks_table.Goals as goal

pub returns : goal.returns
unfolding tasks_text
returns c =
    on_ok_weaker c.push_tasks.result
    (two_pieces c.args.text.now (codes "\n       tasks        work    heaviest        held  name\n") (task_rows c.args.works.now c.args.rows.now c.args.holds.now 0 c.args.decls.now) c.push_all.new.self c.push_tasks.new.text
    c.in_ok-push_all.ensures.ok)
    c.push_tasks.ensures
