-- The record is put in front of the content, and then marked.
use Rattle.std.proofs.Common.{◌≡◌, List, ◌∷◌, None, refl, sym, ap, subst, ◌∙◌}
use Rattle.floor_laws.specs.admission.admission_core.States.{IsAmong, Record}
use Rattle.floor_laws.specs.rule.nodes.LockSteps.{stopped}
use Rattle.tree_admit.specs.Errands.{record_of, with_placed}
use Rattle.tree_admit.specs.Going.{HasNode}
use Rattle.tree_admit.proofs.Putting.{at_place, marked_has, may_mark, place_stops, stopped_stops, task_is}
use Rattle.tree_admit.proofs.Owning.{stood_fresh}
use Rattle.tree_admit.proofs.Stepping.{in_hand}
use Rattle.tree_admit.proofs.Steps.{gave_left}
use Rattle.tree_admit.proofs.at_place.put.Goals as goal

pub returns-then-stands-clause-tried : goal.returns-then-stands-clause-tried
returns-then-stands-clause-tried g c = λ earlier rest done may.
    let lim = g.N.Named.lim in
    let errand = c.args.errand in
    let e = c.args.effect.now in
    let a = at_place errand e done in
    let content = c.args.content in
    let me = c.args.stand.now.me in
    let found = c.stands.ensures.there c.if-stands.true in (
      gave_left lim earlier rest a errand.place content me may.has None c.back_out.new.stand.me may.none
          (c.back_out.ensures.gave None rest (place_stops errand e done lim earlier rest content me may.has) (in_hand lim earlier rest a errand.place content me may.has)),
      stood_fresh g.N.Planted.nodes lim earlier rest errand e done content me may found,
    )

pub add-requires : goal.add-requires
add-requires g c = subst (λ (r : Record). ¬ IsAmong r c.args.content) (sym c.requires.mine) (c.stands.ensures.missing c.if-stands.false)

pub mark_placed-requires-clause-may : goal.mark_placed-requires-clause-may
mark_placed-requires-clause-may g c =
    let (earlier, rest, done, may) = c.requires.may in
    let errand = c.args.errand in
    let e = c.args.effect.now in
    let content = c.args.content in
    let missing = c.stands.ensures.missing c.if-stands.false in
    let marks = may_mark errand e done g.N.Named.lim earlier rest content c.args.stand.now.me may.has g.N.Planted.nodes may.knows may.may missing in
    (at_place errand e done, content, refl, task_is errand.kind errand.task e, c.requires.decides, marks)

pub back_out-requires-in-Ok-clause-may : goal.back_out-requires-in-Ok-clause-may
back_out-requires-in-Ok-clause-may g c =
    let (earlier, rest, done, may) = c.requires.may in
    let lim = g.N.Named.lim in
    let errand = c.args.errand in
    let e = c.args.effect.now in
    let r = record_of errand e in
    let a = at_place errand e done in
    let content = c.args.content in
    let me = c.args.stand.now.me in
    let after = c.mark_placed.new.stand.me in
    let missing = c.stands.ensures.missing c.if-stands.false in
    let has = marked_has errand e done lim earlier rest content me may.has after
    (c.mark_placed.ensures.marked a content refl (may_mark errand e done lim earlier rest content me may.has g.N.Planted.nodes may.knows may.may missing)) in
    let added : c.add.new.self ≡ r ∷ content = c.in-Ok.ensures.ok ∙ ap (λ (x : Record). x ∷ content) c.requires.mine in
    let has_now = subst (λ (l : List Record). HasNode lim (with_placed r earlier) rest (stopped a) errand.place l after) (sym added) has in
    (None, rest, stopped_stops errand e done lim (with_placed r earlier) rest c.add.new.self after has_now, in_hand lim (with_placed r earlier) rest (stopped a) errand.place c.add.new.self after has_now)

pub returns-in-Ok-clause-tried : goal.returns-in-Ok-clause-tried
returns-in-Ok-clause-tried g c = λ earlier rest done may.
    let lim = g.N.Named.lim in
    let errand = c.args.errand in
    let e = c.args.effect.now in
    let r = record_of errand e in
    let a = at_place errand e done in
    let content = c.args.content in
    let me = c.args.stand.now.me in
    let after = c.mark_placed.new.stand.me in
    let missing = c.stands.ensures.missing c.if-stands.false in
    let has = marked_has errand e done lim earlier rest content me may.has after
    (c.mark_placed.ensures.marked a content refl (may_mark errand e done lim earlier rest content me may.has g.N.Planted.nodes may.knows may.may missing)) in
    let added : c.add.new.self ≡ r ∷ content = c.in-Ok.ensures.ok ∙ ap (λ (x : Record). x ∷ content) c.requires.mine in
    let has_now = subst (λ (l : List Record). HasNode lim (with_placed r earlier) rest (stopped a) errand.place l after) (sym added) has in
    gave_left lim (with_placed r earlier) rest (stopped a) errand.place c.add.new.self after has_now None c.back_out-in-Ok.new.stand.me may.none
    (c.back_out-in-Ok.ensures.gave None rest (stopped_stops errand e done lim (with_placed r earlier) rest c.add.new.self after has_now)
    (in_hand lim (with_placed r earlier) rest (stopped a) errand.place c.add.new.self after has_now))

pub returns-in-Err-clause-failed : goal.returns-in-Err-clause-failed
returns-in-Err-clause-failed g c = λ earlier rest done may.
    let lim = g.N.Named.lim in
    let errand = c.args.errand in
    let e = c.args.effect.now in
    let a = at_place errand e done in
    let me = c.args.stand.now.me in
    let has = subst (λ (l : List Record). HasNode lim earlier rest a errand.place l me) (sym c.in-Err.ensures.err) may.has in
    gave_left lim earlier rest a errand.place c.add.new.self me has None c.back_out-in-Err.new.stand.me may.none
    (c.back_out-in-Err.ensures.gave None rest (place_stops errand e done lim earlier rest c.add.new.self me has) (in_hand lim earlier rest a errand.place c.add.new.self me has))
