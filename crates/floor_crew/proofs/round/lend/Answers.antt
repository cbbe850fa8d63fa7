use denote.Exit.{no}
use denote.Param.{param}
use denote.Param.Send.{arg_sync, param_sync, recorded_sync, shr_sync, struct_sync}
use denote.Struct.Declared.{shape}
use mir.Syntax.{named}
use Rattle.twe_rounds.proofs.progress.RoundProgress.TheSendSync as progress
use Rattle.floor_crew.specs.contracts.round.SharedFloor as SharedFloor
use Rattle.twe_rounds.proofs.Crossing.{tuple_sync}
use Rattle.floor_crew.proofs.Crossing.{ground_sync}
use Rattle.floor_crew.proofs.round.lend.Goals as goal

-- the workers share the program, the gate, the progress of the round and the ground
pub for_each_mut-requires-sync-F : goal.for_each_mut-requires-sync-F
for_each_mut-requires-sync-F g c κs within =
    param_sync 2 _ (arg_sync _ no _ (tuple_sync _ _ (shr_sync _ _ (SharedFloor.the_row (record { mir = named 7; lft = κs.1.1.1.1.1.1.1.0 }) (param 2 g.row.R) (param 3 g.row.G) (param 0 g.row.N) (param 1 g.row.F) g.N.Named g.N.Planted g.F.Located)
    (recorded_sync (SharedFloor.the_field (record { mir = named 7; lft = κs.1.1.1.1.1.1.1.0 }) (param 2 g.row.R) (param 3 g.row.G) (param 0 g.row.N) (param 1 g.row.F) g.N.Named g.N.Planted g.F.Located).row _ _
    (SharedFloor.the_type (record { mir = named 7; lft = κs.1.1.1.1.1.1.1.0 }) (param 2 g.row.R) (param 3 g.row.G) (param 0 g.row.N) (param 1 g.row.F) g.N.Named g.N.Planted g.F.Located).to_one
    (struct_sync (shape (SharedFloor.the_type (record { mir = named 7; lft = κs.1.1.1.1.1.1.1.0 }) (param 2 g.row.R) (param 3 g.row.G) (param 0 g.row.N) (param 1 g.row.F) g.N.Named g.N.Planted g.F.Located)) (
      shr_sync _ _ _ (param_sync 2 _ c.type_bounds.sync-R),
      (
        shr_sync _ _ _ (param_sync 3 _ c.type_bounds.sync-G),
        (shr_sync _ _ _ progress.the_sync, (shr_sync _ _ _ (ground_sync _ (param 0 g.row.N) (param 1 g.row.F) g.N.Named g.N.Planted g.F.Located), tt)),
      ),
    ))))))
