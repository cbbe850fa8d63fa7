use Rattle.std.proofs.Common.{ap, ◌∙◌, length}
use Rattle.std.proofs.lemmas.List.{length-map}
use Rattle.machine_state.specs.Rows.{link_of_row}
use Rattle.flat_sched.proofs.held.held_by.Goals as goal

-- there is a link for each row
pub bar-requires-clause-linked : goal.bar-requires-clause-linked
bar-requires-clause-linked c =
    let agree = c.links_agree.ensures c.requires.reachable.0 c.args.st.now c.requires.reachable.2 in
    ap length agree ∙ length-map c.args.st.now.tasks link_of_row

-- no effect has a variable
pub bar-requires-clause-filled : goal.bar-requires-clause-filled
bar-requires-clause-filled c = c.effects_are_filled.ensures c.requires.reachable.0 c.args.st.now c.requires.reachable.1 c.requires.reachable.2
