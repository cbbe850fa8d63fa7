use Rattle.std.proofs.Common.{◌+◌, sym, subst, arith}
use Rattle.run_facts.proofs.Found.{AreMovesBelow, all_found, enough_found, linked, more_found}
use Rattle.run_facts.proofs.legal_moves.next_moves.Goals as goal

-- there are as many links as tasks
pub of-requires : goal.of-requires
of-requires c = linked c.args.st.now (c.links_agree.ensures c.args.p.now c.args.st.now c.requires)

-- so many moves were found
pub returns-then-len-most : goal.returns-then-len-most
returns-then-len-most c =
    enough_found c.args.st.now c.args.most c.loop-task.task c.loop-task.moves c.loop-task.invariant (omega arith)

-- one more task was looked at
pub loop-task-preserved : goal.loop-task-preserved
loop-task-preserved c =
    subst (AreMovesBelow c.args.st.now c.args.most (c.loop-task.task + 1)) (sym c.in_ok-push_if.ensures)
    (more_found c.args.st.now c.args.most c.loop-task.task c.loop-task.moves c.move_of.result c.loop-task.invariant (omega arith) c.move_of.ensures)

-- or all were
pub returns : goal.returns
returns c =
    let all = linked c.args.st.now (c.links_agree.ensures c.args.p.now c.args.st.now c.requires) in
    all_found c.args.st.now c.args.most c.loop-task.moves
    (subst (λ n. AreMovesBelow c.args.st.now c.args.most n c.loop-task.moves) (omega (arith, all)) c.loop-task.invariant)
