-- Steps make a control path.
use Rattle.std.proofs.Common.{◌≡◌, ◌⊎◌, ℕ, zero, suc, inl, inr, refl, subst}
use Rattle.twe_program.specs.Expression.{Expression}
use Rattle.twe_base.specs.declared.place.Place.{Place}
use Rattle.twe_program.specs.Statement.{Statement, Block, If, While, Return, Statements, no_more, statement, Arms, arm, otherwise, no_else}
use Rattle.cover_flow.specs.ControlPath.{Path, Through, ThroughAll, ThroughOne, point_of, IsAt, Comes, ComesAll, ComesOne}
use Rattle.cover_flow.specs.Steps.{followed_by, IsBranch, StepsOn, StepsFar, point_before}

module _ (end to : ℕ) (later : Path) where
  -- a path comes from before these statements to the point
  abbrev pub FromHere : Statements → Path → Type 0
  FromHere from path = ComesAll end from to path later ⊎ ((end ≡ to) × ThroughAll from path later)

  -- within the first statements, or after them
  split : (body others : Statements) (path : Path) → FromHere (followed_by body others) path → ComesAll end body to path later ⊎ ((between : Path) × ThroughAll body path between × FromHere others between)
  split no_more others path h = inr (path, refl, h)
  split (statement first more) others path h =
      elim h [
        | inl comes ↦ elim comes [
          | inl inner ↦ inl (inl inner)
          | inr further ↦ elim (split more others further.0 (inl further.2)) [
            | inl inner ↦ inl (inr (further.0, further.1, inner))
            | inr past ↦ inr (past.0, (further.0, further.1, past.1), past.2)
          ]
        ]
        | inr through ↦ elim (split more others through.1.0 (inr (through.0, through.1.2))) [
          | inl inner ↦ inl (inr (through.1.0, through.1.1, inner))
          | inr past ↦ inr (past.0, (through.1.0, through.1.1, past.1), past.2)
        ]
      ]

  lead : (first : Statement) (others : Statements) (path between : Path) → Through first path between → FromHere others between → FromHere (statement first others) path
  lead first others path between t h =
      elim h [ inl comes ↦ inl (inr (between, t, comes)) | inr through ↦ inr (through.0, (between, t, through.1)) ]

  branch-comes : (arms : Arms) (taken : Statements) (path : Path) → IsBranch arms taken → ComesAll end taken to path later → ComesOne end arms to path later
  branch-comes (arm condition body others) taken path b c =
      elim b [
        | inl same ↦ inl (subst (λ x. ComesAll end x to path later) same c)
        | inr other ↦ inr (branch-comes others taken path other c)
      ]
  branch-comes (otherwise body) taken path b c = subst (λ x. ComesAll end x to path later) b c
  branch-comes no_else taken path b c = subst (λ x. ComesAll end x to path later) b c

  branch-through : (arms : Arms) (taken : Statements) (path between : Path) → IsBranch arms taken → ThroughAll taken path between → ThroughOne arms path between
  branch-through (arm condition body others) taken path between b t =
      elim b [
        | inl same ↦ inl (subst (λ x. ThroughAll x path between) same t)
        | inr other ↦ inr (branch-through others taken path between other t)
      ]
  branch-through (otherwise body) taken path between b t = subst (λ x. ThroughAll x path between) b t
  branch-through no_else taken path between b t = subst (λ x. ThroughAll x path between) b t

  -- one more turn before the others
  turn_first : (point : ℕ) (condition : Expression) (body : Statements) (place : Place) (others : Statements) (path between : Path) → ThroughAll body path between → FromHere (statement (While point condition body place) others) between → FromHere (statement (While point condition body place) others) path
  turn_first point condition body place others path between t h =
      elim h [
        | inl comes ↦ elim comes [
          | inl inner ↦ inl (inl (inner.0, (suc inner.1.0, (between, t, inner.1.1)), inner.2))
          | inr further ↦ inl (inr (further.0, (suc further.1.0, (between, t, further.1.1)), further.2))
        ]
        | inr through ↦ inr (through.0, (through.1.0, (suc through.1.1.0, (between, t, through.1.1.1)), through.1.2))
      ]

  step_back : (first : Statement) (others : Statements) (path : Path) (next : Statements) (between : Path) → StepsOn first others path next between → FromHere next between → FromHere (statement first others) path
  step_back (Block point body) others path next between s h =
      let inner : FromHere (followed_by body others) path = subst (λ x. FromHere x path) s.0 (subst (FromHere next) s.1 h) in
      elim (split body others path inner) [
        | inl comes ↦ inl (inl (inr comes))
        | inr past ↦ lead (Block point body) others path past.0 past.1 past.2
      ]
  step_back (If point arms) others path next between s h =
      let inner : FromHere (followed_by s.0 others) path = subst (λ x. FromHere x path) s.2 (subst (FromHere next) s.3 h) in
      elim (split s.0 others path inner) [
        | inl comes ↦ inl (inl (inr (branch-comes arms s.0 path s.1 comes)))
        | inr past ↦ lead (If point arms) others path past.0 (branch-through arms s.0 path past.0 s.1 past.1) past.2
      ]
  step_back (While point condition body place) others path next between s h =
      let loop : Statement = While point condition body place in
      let same : FromHere next path = subst (FromHere next) s.1 h in
      elim s.0 [
        | inl past ↦ lead loop others path path (0, refl) (subst (λ x. FromHere x path) past same)
        | inr turn ↦ elim (split body (statement loop others) path (subst (λ x. FromHere x path) turn same)) [
          | inl comes ↦ inl (inl (path, (0, refl), inr comes))
          | inr again ↦ turn_first point condition body place others path again.0 again.1 again.2
        ]
      ]
  step_back (Return point value) others path next between s h =
      elim (subst (λ x. FromHere x path) s.0 (subst (FromHere next) s.1 h)) [
        | inl comes ↦ absurd comes
        | inr at ↦ inl (inl (inr at))
      ]
  step_back first others path next between s h = lead first others path between s.1 (subst (λ x. FromHere x between) s.0 h)

  comes_here : (s : Statement) (path : Path) → IsAt (point_of s) to path later → Comes end s to path later
  comes_here (Block point body) path at = inl at
  comes_here (If point arms) path at = inl at
  comes_here (While point condition body place) path at = (path, (0, refl), inl at)
  comes_here (Return point value) path at = inl at
  comes_here s path at = at

  arrived : (from : Statements) (path : Path) → point_before end from ≡ to → later ≡ path → FromHere from path
  arrived no_more path e same = inr (e, same)
  arrived (statement first others) path e same = inl (inl (comes_here first path (e, same)))

  pub steps-back : (n : ℕ) (from : Statements) (path : Path) (left : Statements) → StepsFar n from path left later → point_before end left ≡ to → FromHere from path
  steps-back zero from path left s e = arrived from path (subst (λ x. point_before end x ≡ to) s.0 e) s.1
  steps-back (suc n) no_more path left s e = absurd s.2
  steps-back (suc n) (statement first others) path left s e =
      step_back first others path s.0 s.1 s.2 (steps-back n s.0 s.1 left s.3 e)
