use Rattle.std.proofs.Common.{◌≡◌, ◌+◌, ◌*◌, ℕ, List, map, refl, sym, ap, ◌∙◌, arith}
use Rattle.core.specs.Mem.Slots.{slots_items}
use mathlib.Core.Option as core
use Rattle.machine_state.specs.declared.state.TaskRow.{TaskRow}
use Rattle.machine_state.specs.Rows.{link_of_row}
use Rattle.machine_state.specs.Runs.{IsReached, state_after}
use Rattle.floor_laws.proofs.rule.FirstFaults.{first_fault_is}
use Rattle.floor_laws.specs.table.Layout.{asked_of_clock, cell_words_from, number_at}
use Rattle.task_floor.proofs.steps.Readings.{asked_read, cells_read, cells_small, few, rows_ordered, state_is, tasks_are, within}
use Rattle.task_floor.proofs.floor.Floor.read_state.Goals as goal

pub cells_of-requires-clause-small : goal.cells_of-requires-clause-small
cells_of-requires-clause-small g c i below =
    let count = c.requires.cells in
    let p = g.N.Named.prog in
    let lim = g.N.Named.lim in
    let journal = c.args.journal.now in
    let reached : IsReached p lim (state_after p lim journal) = record { journal = journal; legal = c.requires.legal; same = refl } in
    cells_small p lim c.requires.accepted.0 (state_after p lim journal) reached (slots_items c.args.table.now.words) c.args.tasks c.requires.shows i (omega (arith, below, count))

pub rows_of-requires-clause-within : goal.rows_of-requires-clause-within
rows_of-requires-clause-within g c =
    let p = g.N.Named.prog in
    let lim = g.N.Named.lim in
    let journal = c.args.journal.now in
    let well = c.requires.accepted.0 in
    let reached : IsReached p lim (state_after p lim journal) = record { journal = journal; legal = c.requires.legal; same = refl } in
    let words = slots_items c.args.table.now.words in
    let cells = c.requires.cells in
    let least = few p lim well (state_after p lim journal) reached words c.args.tasks c.requires.shows in
    let whole = within p lim well (state_after p lim journal) reached words c.args.tasks c.requires.shows in
    omega (arith, cells, least, whole)

pub links_of-requires : goal.links_of-requires
links_of-requires g c =
    let p = g.N.Named.prog in
    let lim = g.N.Named.lim in
    let journal = c.args.journal.now in
    let well = c.requires.accepted.0 in
    let reached : IsReached p lim (state_after p lim journal) = record { journal = journal; legal = c.requires.legal; same = refl } in
    let words = slots_items c.args.table.now.words in
    let tasks =
    tasks_are p lim well (state_after p lim journal) reached words c.args.tasks c.requires.shows (8 + 8 * c.args.cells) c.in_ok-tasks.tasks (ap (λ (n : ℕ). 8 + 8 * n) c.requires.cells)
    c.in_ok-tasks.ensures in
    rows_ordered p lim well (state_after p lim journal) reached words c.args.tasks c.requires.shows c.requires.accepted.1 c.as_slice.result.now (c.as_slice.ensures ∙ tasks)

pub returns : goal.returns
returns g c =
    let p = g.N.Named.prog in
    let lim = g.N.Named.lim in
    let journal = c.args.journal.now in
    let well = c.requires.accepted.0 in
    let reached : IsReached p lim (state_after p lim journal) = record { journal = journal; legal = c.requires.legal; same = refl } in
    let words = slots_items c.args.table.now.words in
    let shows = c.requires.shows in
    let tasks =
    tasks_are p lim well (state_after p lim journal) reached words c.args.tasks shows (8 + 8 * c.args.cells) c.in_ok-tasks.tasks (ap (λ (n : ℕ). 8 + 8 * n) c.requires.cells) c.in_ok-tasks.ensures in
    let clock : c.asked_of-asked.result ≡ (state_after p lim journal).asked =
    c.asked_of-asked.ensures.value
    ∙ (sym (ap (λ (o : core.Option ℕ). asked_of_clock (number_at o)) c.word.ensures) ∙ asked_read p lim well (state_after p lim journal) reached words c.args.tasks shows) in
    state_is p lim well (state_after p lim journal) reached words c.args.tasks shows c.in_ok-values.values c.in_ok-tasks.tasks c.in_ok-links.links c.args.prints
    c.asked_of-asked.result c.first_fault_in.result
    (c.in_ok-values.ensures ∙ (ap (cell_words_from words 8) c.requires.cells ∙ cells_read p lim well (state_after p lim journal) reached words c.args.tasks shows))
    tasks
    (c.in_ok-links.ensures ∙ ap (λ (l : List TaskRow). map link_of_row l) c.as_slice.ensures)
    c.requires.prints
    clock
    (c.first_fault_in.ensures ∙ sym (first_fault_is p lim well journal c.requires.legal))
