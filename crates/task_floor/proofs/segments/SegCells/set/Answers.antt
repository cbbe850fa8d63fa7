use Rattle.std.proofs.Common.{◌≡◌, ℤ, sym, subst, w32, to_z, of_z}
use Rattle.std.proofs.lemmas.Int.{to_z-of_z}
use Rattle.seg_meaning.specs.Access.{HasWritten}
use Rattle.task_floor.specs.declared.in_hand.CellInHand.TheVariants.{Written}
use Rattle.task_floor.specs.inner.InHand.{GoesOver, IsFreeFor, SegView, seg_ways}
use Rattle.task_floor.proofs.InHand.{write_here}
use Rattle.task_floor.proofs.segments.SegCells.set.Goals as goal

pub returns : goal.returns
returns g c =
    let p = g.N.Named.prog in
    let mid : SegView = record { stand = c.self-2.inside.stand; hand = c.self-2.inside.hand } in
    let value : to_z w32 (of_z w32 c.args.value) ≡ c.args.value = to_z-of_z w32 c.args.value c.ranges.value in
    let goes : GoesOver p c.args.self.now mid = subst (GoesOver p c.args.self.now) (sym c.self-2.view_is) c.make_free.ensures.goes in
    let free : IsFreeFor mid.hand c.args.cell = subst (λ (seg : SegView). IsFreeFor seg.hand c.args.cell) (sym c.self-2.view_is) c.make_free.ensures.free in
    let wrote : HasWritten (seg_ways p) c.args.self.now c.args.cell c.args.value (record { stand = mid.stand; hand = Written c.args.cell c.args.value }) = write_here p c.args.self.now mid goes c.args.cell c.args.value free in
    subst (λ (x : ℤ). HasWritten (seg_ways p) c.args.self.now c.args.cell c.args.value (record { stand = mid.stand; hand = Written c.args.cell x })) (sym value) wrote
