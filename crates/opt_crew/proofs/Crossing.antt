-- What every worker of a round knows may be shared by threads.
use denote.Param.Send.{IsSync, recorded_sync, shr_sync, struct_sync, view_sync}
use denote.Ref.{NamedLft}
use denote.RattleType.{RattleType}
use denote.Struct.Declared.{shape}
use Rattle.std.proofs.alloc.Global.TheSendSync as global
use Rattle.std.proofs.marker.PhantomData.TheSendSync as phantom
use Rattle.twe_base.proofs.limits.Limits.TheSendSync as limits
use Rattle.twe_program.specs.contracts.program.Prog as Prog
use Rattle.twe_rounds.proofs.Crossing.{prog_sync}
use Rattle.opt_engine.specs.declared.named.RoundName.{Ghosts}
use Rattle.opt_crew.specs.contracts.game.Game as Game
use Rattle.opt_crew.specs.contracts.game.Game.TheInside as inside

-- the game may be shared by threads: its program, its limits and its allocator are
pub game_sync : (ℓ : NamedLft) (T : RattleType) (n : Ghosts T.Denot) → IsSync (Game.the_row ℓ T n)
game_sync ℓ T n =
    view_sync (inside.the_row ℓ T n) _ _ _ _
    (recorded_sync (inside.the_field ℓ T n).row _ _ (inside.the_type ℓ T n).to_one
    (struct_sync (shape (inside.the_type ℓ T n))
    (global.the_field_sync, (shr_sync _ _ Prog.the_row prog_sync, (limits.the_sync, (phantom.the_field_sync T, tt))))))
