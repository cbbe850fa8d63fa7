use Rattle.std.proofs.Common.{◌≡◌, length, map, take}
use Rattle.seg_journal.specs.Spelling.{move_of}
use Rattle.twe_draw.specs.picture.inner.Drawn.{IsDrawn}
use Rattle.twe_draw.proofs.picture.drawing.bars_of.Given as goal

-- the moves up to here were taken
abbrev pub invariant-loop-i : goal.invariant-loop-i
invariant-loop-i l = record {
  drawn : IsDrawn l.p l.lim l.times.starts l.times.ends l.run;
  moves : map move_of l.run.journal ≡ take l.i l.moves;
  count : length l.run.journal ≡ l.i;
}
