use Rattle.std.proofs.Common.{◌≡◌, List, Bool, if◌then◌else◌, subst}
use Rattle.wait_graph.specs.declared.tasks.Link.{Link}
use Rattle.wait_graph.specs.Link.{with_done, with_joined, with_wait}
use Rattle.machine_state.specs.Rows.{row_awaited, is_done_row}
use Rattle.task_floor.proofs.steps.Readings.{all_set}
use Rattle.task_floor.proofs.linking.set_link.Goals as goal

pub returns : goal.returns
returns c =
    let links = c.args.links.now in
    let t = c.args.t in
    let row = c.args.row.now in
    let waited : c.set_wait.new.self ≡ with_wait links t (row_awaited row.frame.next) = cc in
    let joined : c.mark_joined.new.links ≡ (if row.joined then with_joined (with_wait links t (row_awaited row.frame.next)) t else with_wait links t (row_awaited row.frame.next)) =
    subst (λ (l : List Link). c.mark_joined.new.links ≡ (if row.joined then with_joined l t else l)) waited c.mark_joined.ensures in
    let done : c.mark_done.new.links ≡ (if is_done_row row then with_done c.mark_joined.new.links t else c.mark_joined.new.links) =
    subst (λ (b : Bool). c.mark_done.new.links ≡ (if b then with_done c.mark_joined.new.links t else c.mark_joined.new.links)) c.is_done.ensures c.mark_done.ensures in
    all_set links t c.requires.there row.parent (row_awaited row.frame.next) c.requires.fresh row.joined (is_done_row row) c.mark_joined.new.links c.mark_done.new.links joined done
