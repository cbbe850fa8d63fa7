-- Which futures are out: a spawn puts its future out, and a join takes it in again.
use Rattle.std.specs.Prelude.{ℕ, ◌==◌, Bool, false, not, ◌&&◌, ◌||◌, IsTrue, [], ◌∷◌}
use Rattle.twe_program.specs.declared.program.Body.{Body}
use Rattle.twe_program.specs.Statement.{Statement, Make, Wait}
use Rattle.cover_flow.specs.ControlPath.{Path, ControlPath}

-- the statement spawns a task into the future
abbrev pub puts_out : ℕ → Statement → Bool
puts_out f (Make point future task args spawned future_place place) = spawned && (future == f)
puts_out f _ = false

-- the statement joins the future
abbrev pub takes_in : ℕ → Statement → Bool
takes_in f (Wait point future join into place) = join && (future == f)
takes_in f _ = false

-- after the path the future is out: of the spawns and joins of it, the latest is a spawn
abbrev pub out_after : ℕ → Path → Bool
out_after f [] = false
out_after f (s ∷ earlier) = puts_out f s || (not (takes_in f s) && out_after f earlier)

-- on some control path to the point the future is out
abbrev pub MayBeOut : Body → ℕ → ℕ → Type 0
MayBeOut body point f = (path : Path) × ControlPath body point path × IsTrue (out_after f path)

-- on every control path to the point the future is out
abbrev pub SurelyOut : Body → ℕ → ℕ → Type 0
SurelyOut body point f = (path : Path) → ControlPath body point path → IsTrue (out_after f path)
