use Rattle.std.proofs.Common.{List, subst}
use Rattle.std.specs.Prelude.{◌↔◌, IsTrue}
use Rattle.machine_state.specs.declared.state.TaskRow.{TaskRow}
use Rattle.state_copies.specs.inner.Rows.{RowListsMatch}
use Rattle.state_copies.proofs.MatchedStates.{rows_decide}
use Rattle.state_copies.proofs.states.are_alike.Goals as goal

pub returns-then-have_one_tally : goal.returns-then-have_one_tally
returns-then-have_one_tally c =
    let r = c.requires in
    rows_decide r.0 r.1 c.args.a.now c.args.b.now r.2 r.3 c.rows_match.result (c.have_one_tally.ensures.0 c.if-have_one_tally.true)
    (subst (λ (rows : List TaskRow). IsTrue c.rows_match.result ↔ RowListsMatch rows c.args.b.now.tasks) c.as_slice.ensures
    (subst (λ (rows : List TaskRow). IsTrue c.rows_match.result ↔ RowListsMatch c.as_slice.result.now rows) c.as_slice-then-have_one_tally.ensures c.rows_match.ensures))
