-- The errand is one for the effect, and its record is the effect's.
use Rattle.std.proofs.Common.{List, refl, subst}
use Rattle.region_paths.specs.declared.elements.Elem.{Elem}
use Rattle.floor_laws.specs.admission.admission_core.States.{IsPlaceOf}
use Rattle.tree_admit.specs.Descents.{IsOfChild}
use Rattle.tree_admit.proofs.Attempts.{barred_of, effect_at, errand_for, placed_of, stood_of}
use Rattle.tree_admit.proofs.placing.place_effect.Goals as goal

pub place_one-requires-clause-knows : goal.place_one-requires-clause-knows
place_one-requires-clause-knows g c =
    let nodes = g.N.Planted.nodes in
    let t = c.args.task in
    let effects = c.args.effects.now in
    let k = c.args.number in
    let e = c.index-effects-number.result in
    let at = effect_at nodes t effects k e c.requires.number c.index-effects-number.is in
    let there = subst (λ (ns : List (List Elem)). IsPlaceOf ns e c.place.result) c.requires.shape (record { there = c.place.ensures.there; place = c.place.ensures.place }) in
    let may = c.requires.may in
    errand_for nodes t effects c.args.kind k c.place.result e at there (IsOfChild c.args.kind) c.args.stand.now.me.0 may.turn may.has may.may may.child

pub place_one-requires-clause-unplaced : goal.place_one-requires-clause-unplaced
place_one-requires-clause-unplaced g c = λ is among. c.requires.unplaced is _ among refl

pub returns-in-Placed-clause-stands : goal.returns-in-Placed-clause-stands
returns-in-Placed-clause-stands g c =
    let nodes = g.N.Planted.nodes in
    let t = c.args.task in
    let effects = c.args.effects.now in
    let k = c.args.number in
    let e = c.index-effects-number.result in
    let at = effect_at nodes t effects k e c.requires.number c.index-effects-number.is in
    let there = subst (λ (ns : List (List Elem)). IsPlaceOf ns e c.place.result) c.requires.shape (record { there = c.place.ensures.there; place = c.place.ensures.place }) in
    placed_of nodes t effects c.args.kind k c.place.result e at there g.N.Named.prog g.N.Named.lim c.args.stand.now.me c.place_one.new.stand.me c.in-Ok.attempt c.in-Placed.is c.in-Ok.ensures.tried

pub returns-in-Stood-clause-stands : goal.returns-in-Stood-clause-stands
returns-in-Stood-clause-stands g c =
    let nodes = g.N.Planted.nodes in
    let t = c.args.task in
    let effects = c.args.effects.now in
    let k = c.args.number in
    let e = c.index-effects-number.result in
    let at = effect_at nodes t effects k e c.requires.number c.index-effects-number.is in
    let there = subst (λ (ns : List (List Elem)). IsPlaceOf ns e c.place.result) c.requires.shape (record { there = c.place.ensures.there; place = c.place.ensures.place }) in
    stood_of nodes t effects c.args.kind k c.place.result e at there g.N.Named.prog g.N.Named.lim c.args.stand.now.me c.place_one.new.stand.me c.in-Ok.attempt c.in-Stood.is c.in-Ok.ensures.tried

pub returns-in-Barred-clause-met : goal.returns-in-Barred-clause-met
returns-in-Barred-clause-met g c =
    let nodes = g.N.Planted.nodes in
    let t = c.args.task in
    let effects = c.args.effects.now in
    let k = c.args.number in
    let e = c.index-effects-number.result in
    let at = effect_at nodes t effects k e c.requires.number c.index-effects-number.is in
    let there = subst (λ (ns : List (List Elem)). IsPlaceOf ns e c.place.result) c.requires.shape (record { there = c.place.ensures.there; place = c.place.ensures.place }) in
    barred_of nodes t effects c.args.kind k c.place.result e at there g.N.Named.prog g.N.Named.lim c.args.stand.now.me c.place_one.new.stand.me c.in-Ok.attempt c.in-Barred.bar c.in-Barred.is
    c.in-Ok.ensures.tried

pub returns-in-Err-clause-met : goal.returns-in-Err-clause-met
returns-in-Err-clause-met g c = (c.in-Err.ensures.failed, tt)
