use Rattle.std.proofs.Common.{◌≡◌, ℤ, Some, sym, ap, subst, ◌∙◌, w32, to_z, of_z}
use Rattle.std.proofs.lemmas.Int.{to_z-of_z}
use Rattle.twe_program.specs.Program.{Program}
use Rattle.seg_meaning.specs.Access.{HasRead}
use Rattle.floor_laws.specs.declared.rule.view.Touch.TheVariants.{Read}
use Rattle.task_floor.specs.declared.in_hand.CellInHand.{CellInHand}
use Rattle.task_floor.specs.declared.in_hand.CellInHand.TheVariants.{Nothing, Known}
use Rattle.task_floor.specs.Segments.{HasTouched, MayReadCell}
use Rattle.task_floor.specs.Stands.{TreeStand}
use Rattle.task_floor.specs.inner.InHand.{GoesOver, HandFits, SegView, seg_ways}
use Rattle.task_floor.proofs.Touching.{loaded_touch, touch_live}
use Rattle.task_floor.proofs.InHand.{read_new, taken_fits}
use Rattle.task_floor.proofs.segments.Seg.fetch.Goals as goal

-- a segment with nothing in hand has its stand alone
bare_is : (stand : TreeStand) (hand : CellInHand) (seg : SegView) → record { stand = stand; hand = hand } ≡ seg → seg.hand ≡ Nothing → seg ≡ record { stand = stand; hand = Nothing }
bare_is stand hand seg is empty = sym is ∙ ap (λ (h : CellInHand). record { stand = stand; hand = h }) (ap (λ (s : SegView). s.hand) is ∙ empty)

goes_bare : (p : Program) (old seg : SegView) (stand : TreeStand) (hand : CellInHand) → GoesOver p old seg → record { stand = stand; hand = hand } ≡ seg → seg.hand ≡ Nothing → GoesOver p old (record { stand = stand; hand = Nothing })
goes_bare p old seg stand hand goes is empty = subst (GoesOver p old) (bare_is stand hand seg is empty) goes

pub load-value-requires-clause-may : goal.load-value-requires-clause-may
load-value-requires-clause-may g c =
    let p = g.N.Named.prog in
    let mid = c.self.inside.stand in
    let goes : GoesOver p c.args.self.now (record { stand = mid; hand = Nothing }) = goes_bare p c.args.self.now c.put_down.new.self mid c.self.inside.hand c.put_down.ensures.goes c.self.view_is c.put_down.ensures.empty in
    let may : MayReadCell p mid c.args.cell = (goes.same.read c.args.cell).0 c.requires.may in
    (may.value, may.may)

pub invariant_of-self : goal.invariant_of-self
invariant_of-self g c =
    let p = g.N.Named.prog in
    let lim = g.N.Named.lim in
    let mid = c.self.inside.stand in
    let new = c.load-value.new.stand in
    let cell = c.args.cell in
    let value = c.load-value.result in
    let is : to_z w32 (of_z w32 c.load-value.result) ≡ c.load-value.result = to_z-of_z w32 c.load-value.result (record { sfits = c.load-value.type_inv }) in
    let goes : GoesOver p c.args.self.now (record { stand = mid; hand = Nothing }) = goes_bare p c.args.self.now c.put_down.new.self mid c.self.inside.hand c.put_down.ensures.goes c.self.view_is c.put_down.ensures.empty in
    let may : MayReadCell p mid cell = (goes.same.read cell).0 c.requires.may in
    let touched : HasTouched lim mid new (Read cell value) = loaded_touch p lim mid new cell value may c.load-value.ensures.loaded c.load-value.ensures.stays c.load-value.ensures.same in
    let fits : HandFits p new (Known cell value) = taken_fits p lim c.args.self.now mid new goes cell value may c.load-value.ensures.last touched in
    (c.load-value.ensures.same.0 ∙ c.self.invariant.0, touch_live lim mid new (Read cell value) touched c.self.invariant.1, c.load-value.ensures.stays.slots, (fits.0, fits.1 ∙ ap (λ (x : ℤ). Some x) (sym is)))

pub returns : goal.returns
returns g c =
    let p = g.N.Named.prog in
    let lim = g.N.Named.lim in
    let mid = c.self.inside.stand in
    let new = c.load-value.new.stand in
    let cell = c.args.cell in
    let value = c.load-value.result in
    let is : to_z w32 (of_z w32 c.load-value.result) ≡ c.load-value.result = to_z-of_z w32 c.load-value.result (record { sfits = c.load-value.type_inv }) in
    let goes : GoesOver p c.args.self.now (record { stand = mid; hand = Nothing }) = goes_bare p c.args.self.now c.put_down.new.self mid c.self.inside.hand c.put_down.ensures.goes c.self.view_is c.put_down.ensures.empty in
    let may : MayReadCell p mid cell = (goes.same.read cell).0 c.requires.may in
    let touched : HasTouched lim mid new (Read cell value) = loaded_touch p lim mid new cell value may c.load-value.ensures.loaded c.load-value.ensures.stays c.load-value.ensures.same in
    let read : HasRead (seg_ways p) c.args.self.now cell value (record { stand = new; hand = Known cell value }) = read_new p lim c.args.self.now mid new goes cell value may c.load-value.ensures.last touched in
    subst (λ (x : ℤ). HasRead (seg_ways p) c.args.self.now cell x (record { stand = new; hand = Known cell x })) (sym is) read
