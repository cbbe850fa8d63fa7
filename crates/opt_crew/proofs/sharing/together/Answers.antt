use denote.Exit.{no}
use denote.Param.{param}
use denote.Param.Send.{arg_sync, param_sync, recorded_sync, shr_sync, struct_sync}
use denote.Struct.Declared.{shape}
use mir.Syntax.{named}
use Rattle.std.proofs.Common.{Option, None, Some, IfSome, IfOk, sym, subst}
use Rattle.std.specs.Prelude.{ok_or}
use Rattle.std.proofs.sync.Mutex.TheSendSync as mutex
use Rattle.opt_crew.specs.Keeping.{Keeps}
use Rattle.opt_crew.specs.contracts.sharing.SharedCore as SharedCore
use Rattle.opt_crew.proofs.round_core.RoundCore.TheSendSync as core
use Rattle.opt_engine.proofs.hints.Hints.TheSendSync as hints
use Rattle.twe_rounds.proofs.Crossing.{tuple_sync}
use Rattle.opt_crew.proofs.Crossing.{game_sync}
use Rattle.twe_rounds.proofs.progress.RoundProgress.TheSendSync as progress
use Rattle.opt_crew.proofs.sharing.together.Goals as goal

-- the workers share the gate, the program, the progress, the hints and the run under its lock
pub for_each_mut-requires-sync-F : goal.for_each_mut-requires-sync-F
for_each_mut-requires-sync-F g c κs within =
    param_sync 2 _ (arg_sync _ no _ (tuple_sync _ _ (shr_sync _ _ (SharedCore.the_row (record { mir = named 7; lft = κs.1.1.1.1.1.1.1.0 }) (param 1 g.row.R) (param 2 g.row.G) (param 0 g.row.N) g.N.RoundName)
    (recorded_sync (SharedCore.the_field (record { mir = named 7; lft = κs.1.1.1.1.1.1.1.0 }) (param 1 g.row.R) (param 2 g.row.G) (param 0 g.row.N) g.N.RoundName).row _ _
    (SharedCore.the_type (record { mir = named 7; lft = κs.1.1.1.1.1.1.1.0 }) (param 1 g.row.R) (param 2 g.row.G) (param 0 g.row.N) g.N.RoundName).to_one
    (struct_sync (shape (SharedCore.the_type (record { mir = named 7; lft = κs.1.1.1.1.1.1.1.0 }) (param 1 g.row.R) (param 2 g.row.G) (param 0 g.row.N) g.N.RoundName)) (
      shr_sync _ _ _ (param_sync 1 _ c.type_bounds.sync-R),
      (
        shr_sync _ _ _ (param_sync 2 _ c.type_bounds.sync-G),
        (
          shr_sync _ _ _ progress.the_sync,
          (
            shr_sync _ _ _ (game_sync _ (param 0 g.row.N) g.N.RoundName),
            (shr_sync _ _ _ hints.the_sync, (shr_sync _ _ _ (mutex.the_sync _ (core.the_send (param 0 g.row.N) g.N.RoundName)), tt)),
          ),
        ),
      ),
    ))))))

-- what is so of a value that is there is so of it in a result
in_result : {A E : Type 0} (P : A → Type 0) (o : Option A) (e : E) → IfSome o P → IfOk (ok_or o e) P
in_result P None e so = tt
in_result P (Some x) e so = so

-- the run after the round, unless it is lost
pub returns : goal.returns
returns g c =
    subst (λ r. IfOk r (Keeps g.N.RoundName.prog g.N.RoundName.lim g.N.RoundName.earlier)) (sym c.ok_or.ensures.value)
    (in_result (Keeps g.N.RoundName.prog g.N.RoundName.lim g.N.RoundName.earlier) c.into_run.result c.lost.result c.into_run.ensures)
