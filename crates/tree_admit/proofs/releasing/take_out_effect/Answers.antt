-- The errand is one for the effect, and its record is the effect's.
use Rattle.std.proofs.Common.{List, subst}
use Rattle.region_paths.specs.declared.elements.Elem.{Elem}
use Rattle.floor_laws.specs.admission.admission_core.States.{IsPlaceOf}
use Rattle.floor_laws.specs.declared.table.nodes.slot.ErrandKind.TheVariants.{Removal}
use Rattle.tree_admit.specs.Descents.{MayTakeOutOf}
use Rattle.tree_admit.proofs.Attempts.{effect_at, errand_for, taken_out_of}
use Rattle.tree_admit.proofs.releasing.take_out_effect.Goals as goal

pub take_out_one-requires-clause-knows : goal.take_out_one-requires-clause-knows
take_out_one-requires-clause-knows g c =
    let nodes = g.N.Planted.nodes in
    let t = c.args.task in
    let effects = c.args.effects.now in
    let k = c.args.number in
    let e = c.index-effects-number.result in
    let at = effect_at nodes t effects k e c.requires.number c.index-effects-number.is in
    let there = subst (λ (ns : List (List Elem)). IsPlaceOf ns e c.place.result) c.requires.shape (record { there = c.place.ensures.there; place = c.place.ensures.place }) in
    let may = c.requires.may in
    errand_for nodes t effects Removal k c.place.result e at there MayTakeOutOf c.args.stand.now.me.0 may.turn may.has tt (may.taken, may.inactive)

pub returns-clause-out : goal.returns-clause-out
returns-clause-out g c =
    let nodes = g.N.Planted.nodes in
    let t = c.args.task in
    let effects = c.args.effects.now in
    let k = c.args.number in
    let e = c.index-effects-number.result in
    let at = effect_at nodes t effects k e c.requires.number c.index-effects-number.is in
    let there = subst (λ (ns : List (List Elem)). IsPlaceOf ns e c.place.result) c.requires.shape (record { there = c.place.ensures.there; place = c.place.ensures.place }) in
    taken_out_of nodes t effects Removal k c.place.result e at there c.args.stand.now.me c.take_out_one.new.stand.me c.take_out_one.result c.take_out_one.ensures.taken
