use Rattle.floor_crew.proofs.GoingOn.{gone_on}
use Rattle.floor_crew.proofs.going_on.go_on_from.Goals as goal

-- the run went on at rest, and no further
pub returns-then-not-branch-clause-gone : goal.returns-then-not-branch-clause-gone
returns-then-not-branch-clause-gone g c =
    gone_on c.args.setup.now.p.now c.args.setup.now.lim c.args.run.rest.journal c.rounds.run c.go_on_alone.new.run c.rounds.invariant.0 c.in_ok-go_on_alone.ensures

-- the run went on at rest, and then by a round
pub rounds-preserved : goal.rounds-preserved
rounds-preserved g c =
    let p = c.args.setup.now.p.now in
    let lim = c.args.setup.now.lim in
    let earlier = c.args.run.rest.journal in
    let alone = gone_on p lim earlier c.rounds.run c.go_on_alone.new.run c.rounds.invariant.0 c.in_ok-go_on_alone.ensures in
    (gone_on p lim earlier c.go_on_alone.new.run c.in_ok-run.run' alone c.in_ok-run.ensures, c.in_ok-tree.ensures)
