-- The first three of the pairs of a tally, by their times, are those that held most.
use Rattle.std.proofs.Common.{◌≤◌, List, length, take, arith}
use Rattle.std.specs.BTreeMap as tree
use Rattle.std.proofs.lemmas.List.{length-take}
use Rattle.std.proofs.lemmas.List.Elements.{All-take}
use Rattle.std.proofs.lemmas.List.Sorted.{All-permutation, Contains-permutation}
use Rattle.machine_state.specs.declared.state.TaskRow.{TaskRow}
use Rattle.held_span.specs.MostHeld.{HasHeld, HeldMost}
use Rattle.held_span.specs.inner.Ranks.{ranked}
use Rattle.held_span.specs.inner.Tallies.{IsTally}
use Rattle.held_span.specs.declared.pair.HeldPair.{HeldPair}
use Rattle.held_span.specs.declared.hold.Hold.{Hold}
use Rattle.held_span.specs.declared.tally.HoldTally.{HoldTally}
use Rattle.held_span.proofs.Ranked.{first_in_order, first_or_later, ranked_has_all, ranked_in_order}
use Rattle.held_span.proofs.Totals.{all_have_held, by_numbers, has_each}

pub held_most : (rows : List TaskRow) (holds : List Hold) (tally : HoldTally) → IsTally rows holds tally
    → HeldMost rows holds (take 3 (ranked (tree.values tally.pairs)))
held_most rows holds tally tallied =
    let pairs = tree.values tally.pairs in
    let numbers = by_numbers rows holds tally tallied in
    let moved = ranked_has_all pairs numbers in
    let ordered = ranked_in_order pairs numbers in record {
      few = few_first (ranked pairs);
      each = All-take (HasHeld rows holds) 3 (ranked pairs)
          (All-permutation (HasHeld rows holds) pairs (ranked pairs) moved (all_have_held rows holds tally tallied));
      ordered = first_in_order 3 (ranked pairs) ordered;
      others = λ other held.
          first_or_later 3 (ranked pairs) other ordered
          (Contains-permutation pairs (ranked pairs) other moved (has_each rows holds tally tallied other held));
    } where
      few_first : (l : List HeldPair) → length (take 3 l) ≤ 3
      few_first l = omega (arith, length-take 3 l)
