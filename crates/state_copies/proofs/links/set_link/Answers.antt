use Rattle.std.proofs.Common.{ap, ◌∙◌, List}
use Rattle.wait_graph.specs.declared.tasks.Link.{Link}
use Rattle.wait_graph.specs.Link.{with_done, with_joined}
use Rattle.state_copies.proofs.CopiedLinks.{both_whole, done_whole, joined_whole}
use Rattle.state_copies.proofs.links.set_link.Goals as goal

pub returns-in-true-true : goal.returns-in-true-true
returns-in-true-true c =
    c.set_done.ensures
    ∙ (ap (λ (ls : List Link). with_done ls c.args.t) (c.set_joined.ensures ∙ ap (λ (ls : List Link). with_joined ls c.args.t) c.set_wait.ensures)
    ∙ both_whole c.args.links.now c.args.t c.args.link c.requires.there c.requires.fresh c.in-true-true.is-0 c.in-true-true.is-1)

pub returns-in-true-false : goal.returns-in-true-false
returns-in-true-false c =
    c.set_joined-in-true-false.ensures
    ∙ (ap (λ (ls : List Link). with_joined ls c.args.t) c.set_wait.ensures
    ∙ joined_whole c.args.links.now c.args.t c.args.link c.requires.there c.requires.fresh c.in-true-false.is-0 c.in-true-false.is-1)

pub returns-in-false-true : goal.returns-in-false-true
returns-in-false-true c =
    c.set_done-in-false-true.ensures
    ∙ (ap (λ (ls : List Link). with_done ls c.args.t) c.set_wait.ensures
    ∙ done_whole c.args.links.now c.args.t c.args.link c.requires.there c.requires.fresh c.in-false-true.is-0 c.in-false-true.is-1)
