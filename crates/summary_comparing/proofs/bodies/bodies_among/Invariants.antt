use Rattle.std.proofs.Common.{◌≡◌, ◌++◌, drop, map}
use Rattle.summary_comparing.specs.Placed.{body_steps}
use Rattle.summary_comparing.proofs.bodies.bodies_among.Given as goal

-- the bodies so far and those of what is left are those of all
abbrev pub invariant-loop-decl : goal.invariant-loop-decl
invariant-loop-decl l = l.bodies ++ map (body_steps l.p) (drop l.decl-index l.decls) ≡ map (body_steps l.p) l.decls
