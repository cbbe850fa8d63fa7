use Rattle.std.proofs.Common.{length, ap, ◌∙◌, List}
use Rattle.seg_journal.specs.declared.journal.Entry.{Entry}
use Rattle.machine_state.specs.Runs.{counted}
use Rattle.span_profile.proofs.CountedParts.{counts_part, counts_whole, first_of_part, part_length}
use Rattle.span_profile.proofs.counting.counted_run.Goals as goal

pub returns-then-count-moves-clause-counted : goal.returns-then-count-moves-clause-counted
returns-then-count-moves-clause-counted c =
    counts_whole c.args.p.now c.args.lim c.args.moves.now c.in_ok-journal.journal c.in_ok-journal.st c.in_ok-journal.ensures.replayed
    c.counted_entries-count.result (c.counted_entries-count.ensures ∙ ap (λ (l : List Entry). length (counted l)) c.as_slice.ensures) c.if-count-moves.true

pub slice_bounds-replay_journal-end : goal.slice_bounds-replay_journal-end
slice_bounds-replay_journal-end c =
    part_length c.args.p.now c.args.lim c.args.moves.now c.in_ok-journal.journal c.in_ok-journal.st c.in_ok-journal.ensures.replayed c.counted_entries-count.result (c.counted_entries-count.ensures ∙ ap (λ (l : List Entry). length (counted l)) c.as_slice.ensures)

pub returns-clause-counted : goal.returns-clause-counted
returns-clause-counted c =
    counts_part c.args.p.now c.args.lim c.args.moves.now c.in_ok-journal.journal c.in_ok-journal.st c.in_ok-journal.ensures.replayed c.counted_entries-count.result c.replay_journal-2.result (c.counted_entries-count.ensures ∙ ap (λ (l : List Entry). length (counted l)) c.as_slice.ensures)
    c.replay_journal-2.ensures.replayed

pub returns-clause-illegal : goal.returns-clause-illegal
returns-clause-illegal c = λ n why is.
    first_of_part c.args.p.now c.args.lim c.args.moves.now c.counted_entries-count.result n why (c.replay_journal-2.ensures.illegal n why is)
