-- A picture under way.
use Rattle.std.specs.Prelude.{◌≡◌, ℕ, List, []}
use Rattle.twe_base.specs.Limits.{Bounds}
use Rattle.twe_program.specs.Program.{Program}
use Rattle.twe_machine.specs.Listings.{IsListing}
use Rattle.machine_state.specs.Moves.{start_of}
use Rattle.machine_state.specs.Runs.{IsRun, counted}
use Rattle.span_profile.specs.inner.Tracked.{has_fault}
use Rattle.twe_draw.specs.picture.Bars.{bars_from}
use Rattle.twe_draw.specs.declared.picture.drawing.Drawing.{Drawing}
use Rattle.twe_draw.specs.picture.inner.Known.{AreKnown}

-- The journal is legal and leads to the state, whose enabled tasks are known. The bars are those of the part that counts, at
-- these times.
pub record IsDrawn (p : Program) (lim : Bounds) (starts ends : List ℕ) (drawing : Drawing) : Type 0 where
  pub is_run : IsRun p lim drawing.journal drawing.st
  pub listing : IsListing drawing.st drawing.enabled
  pub over : drawing.over ≡ has_fault drawing.journal
  pub bars : drawing.bars.marks ≡ bars_from p lim starts ends (start_of p lim) [] (counted drawing.journal)
  pub known : AreKnown drawing.bars
