use Rattle.std.proofs.Common.{◌∙◌}
use Rattle.held_span.proofs.Numbered.{left_for}
use Rattle.held_span.proofs.freeing.Freeing.enable.Goals as goal

pub enter-requires : goal.enter-requires
enter-requires c =
    left_for c.args.marks.now c.requires.numbered c.args.t c.args.self.now.holders c.requires.room c.as_slice.result.now (c.as_slice.ensures ∙ c.in_ok-left.ensures)
