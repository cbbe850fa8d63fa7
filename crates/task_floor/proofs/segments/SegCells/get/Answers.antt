use Rattle.std.proofs.Common.{rules, ◌≡◌, ℤ, SFits, Some, sym, subst, ◌∙◌, w32, to_z, of_z}
use Rattle.std.proofs.lemmas.Int.{to_z-of_z}
use Rattle.seg_meaning.specs.Access.{HasRead}
use Rattle.task_floor.specs.inner.InHand.{SegView, seg_ways, value_in_hand}
use Rattle.task_floor.proofs.InHand.{read_again}
use Rattle.task_floor.proofs.segments.SegCells.get.Goals as goal

pub returns-in-Some : goal.returns-in-Some
returns-in-Some g c =
    let p = g.N.Named.prog in
    let stand = c.self.inside.stand in
    let hand = c.self.inside.hand in
    let value = c.in-Some.value in
    let range : SFits w32 c.in-Some.value = search rules in
    let is : to_z w32 (of_z w32 c.in-Some.value) ≡ c.in-Some.value = to_z-of_z w32 c.in-Some.value range in
    let found : value_in_hand hand c.args.cell ≡ Some value = sym c.value_of.ensures ∙ c.in-Some.is in
    let read : HasRead (seg_ways p) (record { stand = stand; hand = hand }) c.args.cell value (record { stand = stand; hand = hand }) = read_again p stand hand c.self.invariant.3 c.args.cell value found in
    subst (λ (x : ℤ). HasRead (seg_ways p) c.args.self.now c.args.cell x c.args.self.now) (sym is)
    (subst (λ (seg : SegView). HasRead (seg_ways p) seg c.args.cell value seg) c.self.view_is read)
