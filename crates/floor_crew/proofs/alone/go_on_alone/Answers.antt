use Rattle.floor_crew.proofs.GoingOn.{gone_on}
use Rattle.floor_crew.proofs.alone.go_on_alone.Goals as goal

pub moves-preserved : goal.moves-preserved
moves-preserved c =
    let start = c.args.run.now.rest.journal in
    let looked = c.admit_all_ready.new.run in
    gone_on c.args.setup.now.p.now c.args.setup.now.lim start looked c.go_on_once.new.run
    (gone_on c.args.setup.now.p.now c.args.setup.now.lim start c.moves.run looked c.moves.invariant c.in_ok-admit_all_ready.ensures) c.in_ok-go_on_once.ensures
