use Rattle.std.proofs.Common.{rules, ◌≡◌, ℕ, ℤ, SFits, sym, subst, ◌∙◌, w32, to_z, of_z}
use Rattle.std.proofs.lemmas.Int.{to_z-of_z}
use Rattle.twe_base.specs.Limits.{Bounds}
use Rattle.twe_program.specs.Program.{Program}
use Rattle.floor_laws.specs.declared.rule.view.Touch.TheVariants.{Write}
use Rattle.floor_laws.specs.table.Tells.{IsLatest, WroteCell}
use Rattle.floor_laws.specs.table.nodes.FloorSeats.{floor_seat}
use Rattle.task_floor.specs.declared.in_hand.CellInHand.{CellInHand}
use Rattle.task_floor.specs.declared.in_hand.CellInHand.TheVariants.{Nothing, Written}
use Rattle.task_floor.specs.Segments.{HasTouched}
use Rattle.task_floor.specs.Stands.{StaysInTree, TreeStand}
use Rattle.task_floor.specs.inner.InHand.{GoesOver, HandFits, SegView}
use Rattle.task_floor.proofs.Touching.{stored_touch, touch_live}
use Rattle.task_floor.proofs.InHand.{put_written}
use Rattle.task_floor.proofs.segments.Seg.put_down.Goals as goal

abbrev Stores : TreeStand → ℕ → ℤ → TreeStand → Type 0
Stores old cell value new = (t : ℕ) → IsLatest (floor_seat old.me) t → WroteCell (floor_seat old.me) t cell value (floor_seat new.me)

-- the stand after the value was stored
touched : (p : Program) (lim : Bounds) (old new : TreeStand) (hand : CellInHand) (cell : ℕ) (value : ℤ) → SFits w32 value → HandFits p old hand → hand ≡ Written cell value → Stores old cell (to_z w32 (of_z w32 value)) new
    → StaysInTree lim old.me new.me → (new.table_id ≡ old.table_id) × (new.id ≡ old.id) → HasTouched lim old new (Write cell value)
touched p lim old new hand cell value range fits is stores stays same =
    let may : HandFits p old (Written cell value) = subst (HandFits p old) is fits in
    stored_touch p lim old new cell value may (subst (λ (x : ℤ). Stores old cell x new) (to_z-of_z w32 value range) stores) stays same

pub invariant_of-self-in-Written : goal.invariant_of-self-in-Written
invariant_of-self-in-Written g c =
    let p = g.N.Named.prog in
    let lim = g.N.Named.lim in
    let old = c.self.inside.stand in
    let new = c.store.new.stand in
    let cell = c.in-Written.cell in
    let value = c.in-Written.value in
    let range : SFits w32 c.in-Written.value = search rules in
    let after : HasTouched lim old new (Write cell value) = touched p lim old new c.self.inside.hand cell value range c.self.invariant.3 c.in-Written.is c.store.ensures.stored c.store.ensures.stays c.store.ensures.same in
    (c.store.ensures.same.0 ∙ c.self.invariant.0, touch_live lim old new (Write cell value) after c.self.invariant.1, c.store.ensures.stays.slots, tt)

pub returns-in-Written-clause-goes : goal.returns-in-Written-clause-goes
returns-in-Written-clause-goes g c =
    let p = g.N.Named.prog in
    let lim = g.N.Named.lim in
    let old = c.self.inside.stand in
    let new = c.store.new.stand in
    let cell = c.in-Written.cell in
    let value = c.in-Written.value in
    let fits : HandFits p old (Written cell value) = subst (HandFits p old) c.in-Written.is c.self.invariant.3 in
    let range : SFits w32 c.in-Written.value = search rules in
    let after : HasTouched lim old new (Write cell value) = touched p lim old new c.self.inside.hand cell value range c.self.invariant.3 c.in-Written.is c.store.ensures.stored c.store.ensures.stays c.store.ensures.same in
    let goes : GoesOver p (record { stand = old; hand = Written cell value }) (record { stand = new; hand = Nothing }) = put_written p lim old new cell value fits after in
    subst (λ (seg : SegView). GoesOver p seg (record { stand = new; hand = Nothing })) c.self.view_is
    (subst (λ (hand : CellInHand). GoesOver p (record { stand = old; hand = hand }) (record { stand = new; hand = Nothing })) (sym c.in-Written.is) goes)
