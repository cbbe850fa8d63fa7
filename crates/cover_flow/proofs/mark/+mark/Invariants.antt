use Rattle.std.proofs.Common.{◌≡◌, drop}
use Rattle.twe_program.specs.Statement.{statements_of}
use Rattle.twe_program.specs.inner.StatementView.{arms_of}
use Rattle.cover_flow.specs.inner.Words.{none_come}
use Rattle.cover_flow.specs.inner.MarkedWords.{led_all, led_one, left_all, left_one, marked_words_all, marked_words_one}
use Rattle.cover_flow.proofs.mark.+mark.Given as goal

-- what is left goes on from here as all of them do from the start
abbrev pub invariant-mark_block-loop-stmt : goal.invariant-mark_block-loop-stmt
invariant-mark_block-loop-stmt l = record {
  after : led_all l.walk.first (statements_of (drop l.stmt-index l.stmt-items)) l.facts l.turns ≡ led_all l.walk.first l.block l.fn.facts l.fn.turns;
  rows : marked_words_all l.walk.first l.walk.end (statements_of (drop l.stmt-index l.stmt-items)) l.facts l.turns l.rows
      ≡ marked_words_all l.walk.first l.walk.end l.block l.fn.facts l.fn.turns l.fn.rows;
  turns : left_all (statements_of (drop l.stmt-index l.stmt-items)) l.turns ≡ left_all l.block l.fn.turns;
}

-- the branches so far and what is left show what all of them show
abbrev pub invariant-mark_arms-loop-arm : goal.invariant-mark_arms-loop-arm
invariant-mark_arms-loop-arm l = record {
  after : led_one l.walk.first l.after (arms_of (drop l.arm-index l.arm-items) l.arms-inside.last) l.facts l.turns
      ≡ led_one l.walk.first none_come l.arms l.facts l.fn.turns;
  rows : marked_words_one l.walk.first l.walk.end (arms_of (drop l.arm-index l.arm-items) l.arms-inside.last) l.facts l.turns l.rows
      ≡ marked_words_one l.walk.first l.walk.end l.arms l.facts l.fn.turns l.fn.rows;
  turns : left_one (arms_of (drop l.arm-index l.arm-items) l.arms-inside.last) l.turns ≡ left_one l.arms l.fn.turns;
}
