use Rattle.std.proofs.Common.{arith}
use Rattle.held_span.specs.inner.Spanning.{effect_lists}
use Rattle.held_span.proofs.Marked.{left_below, seen_below}
use Rattle.held_span.proofs.spanning.marks_of.Goals as goal

pub into_marks-requires : goal.into_marks-requires
into_marks-requires c = (effect_lists c.args.rows.now, c.in_ok-gathered.ensures)

pub returns-clause-marks : goal.returns-clause-marks
returns-clause-marks c = c.in_ok-marks.ensures (effect_lists c.args.rows.now) c.in_ok-gathered.ensures

pub returns-clause-numbered : goal.returns-clause-numbered
returns-clause-numbered c =
    let lists = effect_lists c.args.rows.now in
    let are = c.in_ok-marks.ensures lists c.in_ok-gathered.ensures in
    let few = c.in_ok-number_keys.ensures in
    record {
      few = omega (arith, few, c.len.ensures, c.len-2.ensures);
      left = left_below lists c.in_ok-marks.marks are;
      seen = seen_below lists c.in_ok-marks.marks are;
    }
