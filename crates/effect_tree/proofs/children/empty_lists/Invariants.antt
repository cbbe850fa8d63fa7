-- The lists so far have no numbers.
use Rattle.std.proofs.Common.{◌≡◌, [], replicate}
use Rattle.effect_tree.specs.inner.Children.{items_of}
use Rattle.effect_tree.proofs.children.empty_lists.Given as goal

abbrev pub invariant-loop : goal.invariant-loop
invariant-loop l = items_of l.lists ≡ replicate l.counter []
