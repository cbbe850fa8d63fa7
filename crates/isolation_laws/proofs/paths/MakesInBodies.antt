-- A statement that makes a task and is reached by a control path is one of the body.
use Rattle.std.proofs.Common.{ℕ, Bool, [], inl, inr, refl, subst}
use Rattle.twe_base.specs.declared.place.Place.{Place}
use Rattle.twe_program.specs.Expression.{Arguments}
use Rattle.twe_program.specs.Program.{Program}
use Rattle.twe_program.specs.Statement.{Make, Statements, statement, Arms, arm, otherwise, no_else}
use Rattle.cover_flow.specs.ControlPath.{Path}
use Rattle.cover_flow.specs.Steps.{IsBranch}
use Rattle.effect_check.specs.declared.act.Act.{Act}
use Rattle.effect_check.specs.Acts.{acts_in, acts_in_all, acts_in_one, acts_of, make}
use Rattle.effect_check.proofs.Members.{IsIn, in-cases, in-left, in-right}
use Rattle.isolation_laws.proofs.paths.PartsOfBodies.{collected}
use Rattle.isolation_laws.proofs.paths.FuturesOut.{Reached}

branch_acts : (p : Program) (x : Act) (point : ℕ) (arms : Arms) (taken : Statements) → IsBranch arms taken → IsIn x (acts_in_all p taken) → IsIn x (acts_in_one p point arms)
branch_acts p x point (arm condition body others) taken (inl same) h =
    in-right x (acts_of p point condition) _ (in-left x (acts_in_all p body) (acts_in_one p point others) (subst (λ (s : Statements). IsIn x (acts_in_all p s)) same h))
branch_acts p x point (arm condition body others) taken (inr other) h =
    in-right x (acts_of p point condition) _ (in-right x (acts_in_all p body) (acts_in_one p point others) (branch_acts p x point others taken other h))
branch_acts p x point (otherwise body) taken same h = subst (λ (s : Statements). IsIn x (acts_in_all p s)) same h
branch_acts p x point no_else taken same h = absurd (subst (λ (s : Statements). IsIn x (acts_in_all p s)) same h)

pub reached_acts : (p : Program) (body left : Statements) (path : Path) (x : Act) → Reached body left path → IsIn x (acts_in_all p left) → IsIn x (acts_in_all p body)
reached_acts p body left path x reached h =
    collected (acts_in p) (acts_in_all p) x (λ no. no)
    (λ first others. in-cases x (acts_in p first) (acts_in_all p others))
    (λ first others. in-left x (acts_in p first) (acts_in_all p others))
    (λ first others. in-right x (acts_in p first) (acts_in_all p others))
    (λ point inner k. k)
    (λ point condition inner place. in-right x (acts_of p point condition) (acts_in_all p inner))
    (λ point arms taken. branch_acts p x point arms taken)
    reached.steps body [] left path reached.far h

-- a reached statement that makes a task
module _ (body : Statements) (point future task : ℕ) (given : Arguments) (spawned : Bool) (future_place place : Place) (others : Statements) (path : Path)
    (reached : Reached body (statement (Make point future task given spawned future_place place) others) path) where
  pub make_act : (p : Program) → IsIn (make p point future task given spawned future_place place) (acts_in_all p body)
  make_act p = reached_acts p body (statement (Make point future task given spawned future_place place) others) path _ reached (inl refl)
