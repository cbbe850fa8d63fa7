-- The record is taken out of the content, and then marked; or it is marked as not there.
use Rattle.std.proofs.Common.{List, None, refl, sym, subst, ◌∙◌}
use Rattle.floor_laws.specs.admission.admission_core.States.{Record}
use Rattle.floor_laws.specs.rule.nodes.LockSteps.{stopped}
use Rattle.floor_laws.proofs.table.nodes.Contents.{without_none}
use Rattle.tree_admit.specs.Errands.{record_of, with_clear, with_removed}
use Rattle.tree_admit.specs.Going.{HasNode}
use Rattle.tree_admit.proofs.Putting.{at_place, found_clear, may_find_clear, may_unmark, not_removed, place_stops, stopped_stops, unmarked_has}
use Rattle.tree_admit.proofs.Stepping.{in_hand}
use Rattle.tree_admit.proofs.Steps.{gave_left}
use Rattle.tree_admit.proofs.at_place.take_out.Goals as goal

pub mark_removed-requires-clause-may : goal.mark_removed-requires-clause-may
mark_removed-requires-clause-may g c =
    let (earlier, rest, done, knows, may, has, none, own) = c.requires.may in
    let errand = c.args.errand in
    let e = c.args.effect.now in
    let there = c.remove.ensures.found.0 c.if-remove.true in
    (at_place errand e done, c.args.content, refl, may_unmark errand e done g.N.Named.lim earlier rest c.args.content c.args.stand.now.me has g.N.Planted.nodes knows c.requires.kind may there)

pub back_out-requires-clause-may : goal.back_out-requires-clause-may
back_out-requires-clause-may g c =
    let (earlier, rest, done, knows, may, has, none, own) = c.requires.may in
    let lim = g.N.Named.lim in
    let errand = c.args.errand in
    let e = c.args.effect.now in
    let r = record_of errand e in
    let a = at_place errand e done in
    let content = c.args.content in
    let me = c.args.stand.now.me in
    let after = c.mark_removed.new.stand.me in
    let there = c.remove.ensures.found.0 c.if-remove.true in
    let has_then = unmarked_has errand e done lim earlier rest content me has after
    (c.mark_removed.ensures.marked a content refl (may_unmark errand e done lim earlier rest content me has g.N.Planted.nodes knows c.requires.kind may there)) in
    let has_now = subst (λ (l : List Record). HasNode lim (with_removed r earlier) rest (stopped a) errand.place l after) (sym c.remove.ensures.rest) has_then in
    (None, rest, stopped_stops errand e done lim (with_removed r earlier) rest c.remove.new.self after has_now, in_hand lim (with_removed r earlier) rest (stopped a) errand.place c.remove.new.self after has_now)

pub returns-then-remove-clause-taken : goal.returns-then-remove-clause-taken
returns-then-remove-clause-taken g c = λ earlier rest done knows may has none own.
    let lim = g.N.Named.lim in
    let errand = c.args.errand in
    let e = c.args.effect.now in
    let r = record_of errand e in
    let a = at_place errand e done in
    let content = c.args.content in
    let me = c.args.stand.now.me in
    let after = c.mark_removed.new.stand.me in
    let there = c.remove.ensures.found.0 c.if-remove.true in
    let has_then = unmarked_has errand e done lim earlier rest content me has after
    (c.mark_removed.ensures.marked a content refl (may_unmark errand e done lim earlier rest content me has g.N.Planted.nodes knows c.requires.kind may there)) in
    let has_now = subst (λ (l : List Record). HasNode lim (with_removed r earlier) rest (stopped a) errand.place l after) (sym c.remove.ensures.rest) has_then in
    gave_left lim (with_removed r earlier) rest (stopped a) errand.place c.remove.new.self after has_now None c.back_out.new.stand.me none
    (c.back_out.ensures.gave None rest (stopped_stops errand e done lim (with_removed r earlier) rest c.remove.new.self after has_now)
    (in_hand lim (with_removed r earlier) rest (stopped a) errand.place c.remove.new.self after has_now))

pub mark_clear-requires-clause-may : goal.mark_clear-requires-clause-may
mark_clear-requires-clause-may g c =
    let (earlier, rest, done, knows, may, has, none, own) = c.requires.may in
    let errand = c.args.errand in
    let e = c.args.effect.now in
    let missing = not_removed (record_of errand e) c.args.content c.remove.result c.if-remove.false c.remove.ensures.found in
    (at_place errand e done, refl, has.active, may_find_clear errand e done g.N.Named.lim earlier rest c.args.content c.args.stand.now.me has g.N.Planted.nodes knows missing)

pub back_out-requires-else-remove-clause-may : goal.back_out-requires-else-remove-clause-may
back_out-requires-else-remove-clause-may g c =
    let (earlier, rest, done, knows, may, has, none, own) = c.requires.may in
    let lim = g.N.Named.lim in
    let errand = c.args.errand in
    let e = c.args.effect.now in
    let r = record_of errand e in
    let a = at_place errand e done in
    let content = c.args.content in
    let me = c.args.stand.now.me in
    let after = c.mark_clear.new.stand.me in
    let missing = not_removed r content c.remove.result c.if-remove.false c.remove.ensures.found in
    let has_then = found_clear errand e done lim earlier rest content me has after
    (c.mark_clear.ensures.marked a refl has.active (may_find_clear errand e done lim earlier rest content me has g.N.Planted.nodes knows missing)) in
    let now = c.remove.new.self in
    let has_now = subst (λ (l : List Record). HasNode lim (with_clear r earlier) rest a errand.place l after) (sym (c.remove.ensures.rest ∙ without_none r content missing)) has_then in
    (None, rest, place_stops errand e done lim (with_clear r earlier) rest now after has_now, in_hand lim (with_clear r earlier) rest a errand.place now after has_now)

pub returns-else-remove-clause-taken : goal.returns-else-remove-clause-taken
returns-else-remove-clause-taken g c = λ earlier rest done knows may has none own.
    let lim = g.N.Named.lim in
    let errand = c.args.errand in
    let e = c.args.effect.now in
    let r = record_of errand e in
    let a = at_place errand e done in
    let content = c.args.content in
    let me = c.args.stand.now.me in
    let after = c.mark_clear.new.stand.me in
    let missing = not_removed r content c.remove.result c.if-remove.false c.remove.ensures.found in
    let has_then = found_clear errand e done lim earlier rest content me has after
    (c.mark_clear.ensures.marked a refl has.active (may_find_clear errand e done lim earlier rest content me has g.N.Planted.nodes knows missing)) in
    let now = c.remove.new.self in
    let has_now = subst (λ (l : List Record). HasNode lim (with_clear r earlier) rest a errand.place l after) (sym (c.remove.ensures.rest ∙ without_none r content missing)) has_then in (
      gave_left lim (with_clear r earlier) rest a errand.place now after has_now None c.back_out-else-remove.new.stand.me none
          (c.back_out-else-remove.ensures.gave None rest (place_stops errand e done lim (with_clear r earlier) rest now after has_now)
          (in_hand lim (with_clear r earlier) rest a errand.place now after has_now)),
      λ fresh. missing (own.there r fresh refl),
    )
