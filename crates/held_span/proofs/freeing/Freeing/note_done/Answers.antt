use Rattle.std.proofs.Common.{◌∙◌}
use Rattle.held_span.proofs.Numbered.{left_fit, left_for}
use Rattle.held_span.proofs.freeing.Freeing.note_done.Goals as goal

pub push_marks-requires : goal.push_marks-requires
push_marks-requires c =
    left_fit c.args.marks.now c.requires.numbered c.args.t c.len-tasks.result c.len-tasks.ensures c.as_slice.result.now (c.as_slice.ensures ∙ c.in_ok-left.ensures)

pub leave-requires : goal.leave-requires
leave-requires c =
    left_for c.args.marks.now c.requires.numbered c.args.t c.args.self.now.holders c.requires.room c.as_slice-2.result.now (c.as_slice-2.ensures ∙ c.in_ok-left.ensures)
