-- The tasks met are the walk so far, and each task met has its place in it and no other.
use Rattle.std.proofs.Common.{◌≡◌, ◌+◌, length, vec_len, count_by}
use Rattle.std.specs.Option.{is_none}
use Rattle.wait_graph.specs.Walk.{walk}
use Rattle.wait_graph.specs.inner.Again.{after}
use Rattle.wait_graph.specs.StuckCycle.{IsUndone, next_of}
use Rattle.wait_graph.proofs.PlacesLemmas.{HasPlaces}
use Rattle.wait_graph.proofs.walk.walk_from.Given as goal

abbrev pub invariant-loop-again : goal.invariant-loop-again
invariant-loop-again l = record {
  undone : IsUndone l.links l.at;
  walked : l.tasks.items ≡ walk (next_of l.links l.held) (vec_len l.tasks) l.start;
  here : l.at ≡ after (next_of l.links l.held) (vec_len l.tasks) l.start;
  size : vec_len l.places ≡ length l.links;
  places : HasPlaces (next_of l.links l.held) l.start (vec_len l.tasks) l.places.items;
  left : vec_len l.tasks + count_by is_none l.places.items ≡ length l.links;
}

abbrev pub decreases-loop-again : goal.decreases-loop-again
decreases-loop-again l = count_by is_none l.places.items
