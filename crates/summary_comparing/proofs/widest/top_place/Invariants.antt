use Rattle.std.proofs.Common.{◌<◌, length}
use Rattle.summary_comparing.proofs.Tops.{IsTopSoFar}
use Rattle.summary_comparing.proofs.widest.top_place.Given as goal

-- the effect at the place covers each of those so far that covers it
abbrev pub invariant-loop-at : goal.invariant-loop-at
invariant-loop-at l = record {
  inside : l.top < length l.effects;
  so_far : IsTopSoFar l.effects l.at l.top;
}
