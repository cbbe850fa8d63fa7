-- A trail without its tests is a control path, after which the same futures are out.
use Rattle.std.proofs.Common.{◌≡◌, ℕ, zero, suc, not, ◌&&◌, ◌||◌, [], ◌∷◌, inl, inr, refl, ap}
use Rattle.twe_program.specs.declared.program.Body.{Body}
use Rattle.twe_program.specs.Statement.{Statement, Block, If, While, Return, Statements, no_more, statement, Arms, arm, otherwise, no_else}
use Rattle.cover_flow.specs.ControlPath.{Path, Repeated, Through, ThroughAll, ThroughOne, IsAt, Comes, ComesAll, ComesOne, ControlPath, end_of}
use Rattle.cover_flow.specs.Out.{puts_out, takes_in, out_after}
use Rattle.refusal_causes.specs.Trail.{Goes, GoesAll, GoesOne, Reaches, ReachesAll, ReachesOne, ControlTrail, carried_out}

-- one step after the other
repeated-carried : (Step Turn : Path → Path → Type 0) → ((before after : Path) → Step before after → Turn (carried_out before) (carried_out after))
    → (n : ℕ) (trail later : Path) → Repeated Step n trail later → Repeated Turn n (carried_out trail) (carried_out later)
repeated-carried Step Turn one zero trail later r = ap carried_out r
repeated-carried Step Turn one (suc n) trail later r =
    (carried_out r.0, one trail r.0 r.1, repeated-carried Step Turn one n r.0 later r.2)

mutual
  goes-through : (s : Statement) (trail later : Path) → Goes s trail later → Through s (carried_out trail) (carried_out later)
  goes-through (Block point body) trail later g = goes_all-through body trail later g
  goes-through (If point arms) trail later g = goes_one-through arms trail later g
  goes-through (While point condition body place) trail later g =
      let s : Statement = While point condition body place in
      (g.0, repeated-carried (λ before. GoesAll body (s ∷ before)) (ThroughAll body) (λ before after turn. goes_all-through body (s ∷ before) after turn) g.0 trail later g.1)
  goes-through (Return point value) trail later g = absurd g
  goes-through s trail later g = ap carried_out g

  goes_all-through : (body : Statements) (trail later : Path) → GoesAll body trail later → ThroughAll body (carried_out trail) (carried_out later)
  goes_all-through no_more trail later g = ap carried_out g
  goes_all-through (statement first others) trail later g =
      (carried_out g.0, goes-through first trail g.0 g.1, goes_all-through others g.0 later g.2)

  goes_one-through : (arms : Arms) (trail later : Path) → GoesOne arms trail later → ThroughOne arms (carried_out trail) (carried_out later)
  goes_one-through (arm condition body others) trail later g =
      elim g [ inl here ↦ inl (goes_all-through body trail later here) | inr other ↦ inr (goes_one-through others trail later other) ]
  goes_one-through (otherwise body) trail later g = goes_all-through body trail later g
  goes_one-through no_else trail later g = ap carried_out g

at-carried : (point to : ℕ) (trail later : Path) → IsAt point to trail later → IsAt point to (carried_out trail) (carried_out later)
at-carried point to trail later at = (at.0, ap carried_out at.1)

module _ (end to : ℕ) where
  mutual
    reaches-comes : (s : Statement) (trail later : Path) → Reaches end s to trail later → Comes end s to (carried_out trail) (carried_out later)
    reaches-comes (Block point body) trail later r =
        elim r [ inl at ↦ inl (at-carried point to trail later at) | inr deeper ↦ inr (reaches_all-comes body trail later deeper) ]
    reaches-comes (If point arms) trail later r =
        elim r [ inl at ↦ inl (at-carried point to trail later at) | inr deeper ↦ inr (reaches_one-comes arms trail later deeper) ]
    reaches-comes (While point condition body place) trail later r =
        let s : Statement = While point condition body place in (
          carried_out r.0,
          goes-through s trail r.0 r.1,
          elim r.2 [ inl at ↦ inl (at-carried point to r.0 later at) | inr deeper ↦ inr (reaches_all-comes body (s ∷ r.0) later deeper) ],
        )
    reaches-comes (Return point value) trail later r =
        elim r [ inl at ↦ inl (at-carried point to trail later at) | inr at ↦ inr (at-carried end to trail later at) ]
    reaches-comes s trail later r = (r.0, ap carried_out r.1)

    pub reaches_all-comes : (body : Statements) (trail later : Path) → ReachesAll end body to trail later → ComesAll end body to (carried_out trail) (carried_out later)
    reaches_all-comes no_more trail later r = absurd r
    reaches_all-comes (statement first others) trail later r =
        elim r [
          | inl here ↦ inl (reaches-comes first trail later here)
          | inr further ↦ inr (carried_out further.0, goes-through first trail further.0 further.1, reaches_all-comes others further.0 later further.2)
        ]

    reaches_one-comes : (arms : Arms) (trail later : Path) → ReachesOne end arms to trail later → ComesOne end arms to (carried_out trail) (carried_out later)
    reaches_one-comes (arm condition body others) trail later r =
        elim r [ inl here ↦ inl (reaches_all-comes body trail later here) | inr other ↦ inr (reaches_one-comes others trail later other) ]
    reaches_one-comes (otherwise body) trail later r = reaches_all-comes body trail later r
    reaches_one-comes no_else trail later r = absurd r

pub trail-path : (body : Body) (to : ℕ) (trail : Path) → ControlTrail body to trail → ControlPath body to (carried_out trail)
trail-path body to trail comes =
    elim comes [
      | inl within ↦ inl (reaches_all-comes (end_of body) to body.block [] trail within)
      | inr through ↦ inr (through.0, goes_all-through body.block [] trail through.1)
    ]

-- a statement that is no test, or one that is, which changes nothing
kept_by : (f : ℕ) (s : Statement) (earlier : Path) → out_after f (carried_out earlier) ≡ out_after f earlier
    → out_after f (carried_out (s ∷ earlier)) ≡ out_after f (s ∷ earlier)
kept_by f (While point condition body place) earlier e = e
kept_by f s earlier e = ap (λ b. puts_out f s || (not (takes_in f s) && b)) e

pub trail-out : (f : ℕ) (trail : Path) → out_after f (carried_out trail) ≡ out_after f trail
trail-out f [] = refl
trail-out f (s ∷ earlier) = kept_by f s earlier (trail-out f earlier)
