use Rattle.std.proofs.Common.{◌≡◌, ap, map, ◌∙◌}
use Rattle.state_copies.specs.inner.Rows.{unreserved_row}
use Rattle.state_copies.proofs.MatchedStates.{rows_copied}
use Rattle.state_copies.proofs.states.copy_state.Goals as goal

pub returns : goal.returns
returns c =
    let st = c.args.st.now in
    let rows : c.in_ok-copy_rows.field-0 ≡ st.tasks =
    c.in_ok-copy_rows.ensures ∙ (ap (map unreserved_row) c.as_slice.ensures ∙ rows_copied c.requires.0 c.requires.1 st c.requires.2) in
    λ i. record st { cells = c.in_ok-copy.ensures i; tasks = rows i; links = c.in_ok-copy_links.ensures i; prints = c.in_ok-copy-2.ensures i }
