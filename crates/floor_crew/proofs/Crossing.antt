-- The ground of a round may be shared by threads: where workers serve, its mark that the round is to end and the number of the task
-- that is to be one of the last are, and so are the waiters and the held tasks that were found.
use denote.Param.Send.{IsSync, recorded_sync, sendable, shr_sync, struct_sync, view_sync}
use denote.Ref.{NamedLft}
use denote.RattleType.{RattleType}
use denote.Struct.Declared.{shape}
use denote.Struct.Field.{u32-field}
use Rattle.std.proofs.alloc.Global.TheSendSync as global
use Rattle.std.proofs.marker.PhantomData.TheSendSync as phantom
use Rattle.std.proofs.sync.atomic.AtomicBool.TheSendSync as flag
use Rattle.twe_base.proofs.limits.Limits.TheSendSync as limits
use Rattle.effect_tree.proofs.shape.Shape.TheSendSync as tree
use Rattle.effect_tree.specs.contracts.shape.Shape as Shape
use Rattle.task_floor.proofs.floor.Floor.TheSendSync as floor
use Rattle.task_floor.specs.contracts.floor.Floor as Floor
use Rattle.twe_program.specs.contracts.program.Prog as Prog
use Rattle.twe_rounds.proofs.Crossing.{prog_sync}
use Rattle.floor_laws.specs.declared.table.rule.Named as Named
use Rattle.floor_laws.specs.declared.table.nodes.rule.Planted as Planted
use Rattle.tree_admit.specs.contracts.serving.workshop.Workshop as Workshop
use Rattle.tree_admit.specs.contracts.serving.workshop.Workshop.TheInside as shop
use Rattle.floor_crew.proofs.held_tasks.HeldTasks.TheSendSync as held
use Rattle.floor_crew.proofs.waiters.Waiters.TheSendSync as waiters
use Rattle.floor_crew.specs.declared.located.Located as Located
use Rattle.floor_crew.specs.contracts.ground.Ground as Ground
use Rattle.floor_crew.specs.contracts.ground.Ground.TheInside as inside

-- where workers serve may be shared by threads: the floor, the program, its limits and the shape are
shop_sync : (ℓ : NamedLft) (N : RattleType) (n : Named.Ghosts N.Denot) (t : Planted.Ghosts N.Denot) → IsSync (Workshop.the_row ℓ N n t)
shop_sync ℓ N n t =
    view_sync (shop.the_row ℓ N n t) _ _ _ _
    (recorded_sync (shop.the_field ℓ N n t).row _ _ (shop.the_type ℓ N n t).to_one
    (struct_sync (shape (shop.the_type ℓ N n t)) (
      global.the_field_sync,
      (
        shr_sync _ _ Prog.the_row prog_sync,
        (limits.the_sync, (shr_sync _ _ Shape.the_row tree.the_sync, (shr_sync _ _ (Floor.the_row N n t) (floor.the_sync N n t), tt))),
      ),
    )))

place_sync : IsSync u32-field.row
place_sync = search sendable

pub ground_sync : (ℓ : NamedLft) (N F : RattleType) (n : Named.Ghosts N.Denot) (t : Planted.Ghosts N.Denot) (f : Located.Ghosts F.Denot)
    → IsSync (Ground.the_row ℓ N F n t f)
ground_sync ℓ N F n t f =
    view_sync (inside.the_row ℓ N F n t f) _ _ _ _
    (recorded_sync (inside.the_field ℓ N F n t f).row _ _ (inside.the_type ℓ N F n t f).to_one
    (struct_sync (shape (inside.the_type ℓ N F n t f)) (
      shop_sync ℓ N n t,
      (flag.the_field_sync, (place_sync, (waiters.the_field_sync, (held.the_field_sync, (phantom.the_field_sync F, tt))))),
    )))
