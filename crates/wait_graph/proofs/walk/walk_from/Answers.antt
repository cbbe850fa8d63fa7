-- A task that has a place was met there, and one that has none is new, so it takes the next place.
use Rattle.std.proofs.Common.{◌≡◌, ◌+◌, ◌<◌, ◌++◌, ◌∷◌, [], suc, length, get_or, vec_len, None, sym, ap, ◌∙◌, arith, add-one}
use Rattle.std.proofs.lemmas.List.{get_or_read}
use Rattle.wait_graph.specs.Walk.{walk}
use Rattle.wait_graph.specs.inner.Again.{after}
use Rattle.wait_graph.specs.StuckCycle.{next_of}
use Rattle.wait_graph.proofs.WalkLemmas.{after-suc, walk-push}
use Rattle.wait_graph.proofs.PlacesLemmas.{ComesAgain-from_place, HasPlaces-more, count_by-none_set}
use Rattle.wait_graph.proofs.walk.walk_from.Goals as goal

pub returns-in-Some-clause-again : goal.returns-in-Some-clause-again
returns-in-Some-clause-again c =
    let inv = c.loop-again.invariant in
    let there = inv.undone.there in
    let low : c.loop-again.at < length c.loop-again.places.items = omega arith in
    let place = get_or_read c.loop-again.places.items c.loop-again.at _ low c.index.ensures None in
    let next = next_of c.args.links.now c.args.held.now in
    ComesAgain-from_place next c.args.start (vec_len c.loop-again.tasks) c.in-Some.again c.loop-again.places.items inv.places
    (ap (λ t. get_or c.loop-again.places.items t None) (sym inv.here) ∙ sym place ∙ c.in-Some.is)

pub loop-again-preserved : goal.loop-again-preserved
loop-again-preserved c =
    let inv = c.loop-again.invariant in
    let there = inv.undone.there in
    let next = next_of c.args.links.now c.args.held.now in
    let n = vec_len c.loop-again.tasks in
    let at = c.loop-again.at in
    let places = c.loop-again.places.items in
    let low : at < length places = omega arith in
    let new : get_or places at None ≡ None = sym (get_or_read places at _ low c.index.ensures None) ∙ c.in_default.is in
    let longer : vec_len c.push.new.self ≡ n + 1 = c.in_ok-push.ensures.len in
    let turns : suc n ≡ vec_len c.push.new.self = sym (add-one n) ∙ sym longer in
    let onward : c.edge_from-at.result.to ≡ next at = ap (λ e. e.to) c.edge_from-at.ensures.value in
    record {
      undone = c.edge_from-at.ensures.undone;
      walked =
          c.in_ok-push.ensures.items ∙ ap (λ ts. ts ++ at ∷ []) inv.walked ∙ ap (λ t. walk next n c.args.start ++ t ∷ []) inv.here
          ∙ sym (walk-push next n c.args.start) ∙ ap (λ k. walk next k c.args.start) turns;
      here = onward ∙ ap next inv.here ∙ sym (after-suc next n c.args.start) ∙ ap (λ k. after next k c.args.start) turns;
      size = inv.size;
      places = rw (longer, c.len.ensures) (HasPlaces-more next c.args.start n at places inv.places inv.here low new);
      left = let fewer = count_by-none_set at c.len.result places low new in omega arith;
    }
