-- Control paths through whole statements, and their single steps.
use Rattle.std.proofs.Common.{◌≡◌, ℕ, zero, suc, [], inl, inr, refl, sym, ap, subst}
use Rattle.twe_program.specs.declared.program.Body.{Body}
use Rattle.twe_program.specs.Statement.{Statement, Block, If, While, Return, Statements, no_more, statement, Arms, arm, otherwise, no_else}
use Rattle.twe_program.specs.Expression.{Expression}
use Rattle.twe_base.specs.declared.place.Place.{Place}
use Rattle.cover_flow.specs.ControlPath.{Path, Repeated, Through, ThroughAll, ThroughOne, point_of, IsAt, Comes, ComesAll, ComesOne, end_of, ControlPath}
use Rattle.cover_flow.specs.Steps.{followed_by, IsBranch, Steps, StepsFar, point_before}

-- some number of steps
abbrev pub Far : Statements → Path → Statements → Path → Type 0
Far from path left later = (n : ℕ) × StepsFar n from path left later

nowhere : (from : Statements) (path : Path) → Far from path from path
nowhere from path = (0, (refl, refl))

first_step : (from : Statements) (path : Path) (next : Statements) (between : Path) (left : Statements) (later : Path) → Steps from path next between → Far next between left later → Far from path left later
first_step from path next between left later s far = (suc far.0, (next, between, s, far.1))

joined_far : (n : ℕ) (from : Statements) (path : Path) (next : Statements) (between : Path) (left : Statements) (later : Path) → StepsFar n from path next between → Far next between left later → Far from path left later
joined_far zero from path next between left later s far =
    subst (λ f. Far f path left later) s.0 (subst (λ p. Far next p left later) s.1 far)
joined_far (suc n) from path next between left later s far =
    first_step from path s.0 s.1 left later s.2 (joined_far n s.0 s.1 next between left later s.3 far)

-- the same path, however it is written
same_path : (from : Statements) (path : Path) (left : Statements) (later other : Path) → later ≡ other → Far from path left other → Far from path left later
same_path from path left later other e far = subst (λ p. Far from path left p) (sym e) far

-- a loop with others after it
abbrev Loop : ℕ → Expression → Statements → Place → Statements → Statements
Loop point condition body place others = statement (While point condition body place) others

-- turns lead back to the loop
turns-far : (point : ℕ) (condition : Expression) (body : Statements) (place : Place) (others : Statements) → ((path later : Path) → ThroughAll body path later → Far (followed_by body (Loop point condition body place others)) path (Loop point condition body place others) later) → (n : ℕ) (path later : Path) → Repeated (ThroughAll body) n path later → Far (Loop point condition body place others) path (Loop point condition body place others) later
turns-far point condition body place others go zero path later r =
    let loop = Loop point condition body place others in
    same_path loop path loop later path r (nowhere loop path)
turns-far point condition body place others go (suc n) path later r =
    let loop = Loop point condition body place others in
    let turn = go path r.0 r.1 in
    first_step loop path (followed_by body loop) path loop later (inr refl, refl) (joined_far turn.0 (followed_by body loop) path loop r.0 loop later turn.1 (turns-far point condition body place others go n r.0 later r.2))

mutual
  through-far : (s : Statement) (others : Statements) (path later : Path) → Through s path later → Far (statement s others) path others later
  through-far (Block point body) others path later t =
      first_step (statement (Block point body) others) path (followed_by body others) path others later (refl, refl) (through_all-far body others path later t)
  through-far (If point arms) others path later t =
      let found = through_one-far arms others path later t in
      first_step (statement (If point arms) others) path (followed_by found.0 others) path others later (found.0, found.1, refl, refl) found.2
  through-far (While point condition body place) others path later t =
      let loop = Loop point condition body place others in
      let turns = turns-far point condition body place others (λ before after r. through_all-far body loop before after r) t.0 path later t.1 in
      joined_far turns.0 loop path loop later others later turns.1 (first_step loop later others later others later (inl refl, refl) (nowhere others later))
  through-far (Return point value) others path later t = absurd t
  through-far s others path later t = first_step (statement s others) path others later others later (refl, t) (nowhere others later)

  through_all-far : (body others : Statements) (path later : Path) → ThroughAll body path later → Far (followed_by body others) path others later
  through_all-far no_more others path later t = same_path others path others later path t (nowhere others path)
  through_all-far (statement first more) others path later t =
      let far = through-far first (followed_by more others) path t.0 t.1 in
      joined_far far.0 (statement first (followed_by more others)) path (followed_by more others) t.0 others later far.1 (through_all-far more others t.0 later t.2)

  through_one-far : (arms : Arms) (others : Statements) (path later : Path) → ThroughOne arms path later → (taken : Statements) × IsBranch arms taken × Far (followed_by taken others) path others later
  through_one-far (arm condition body more) others path later t =
      elim t [
        | inl here ↦ (body, inl refl, through_all-far body others path later here)
        | inr other ↦ let found = through_one-far more others path later other in (found.0, inr found.1, found.2)
      ]
  through_one-far (otherwise body) others path later t = (body, refl, through_all-far body others path later t)
  through_one-far no_else others path later t = (no_more, refl, same_path others path others later path t (nowhere others path))

-- some number of steps to a point
abbrev pub FarTo : ℕ → ℕ → Statements → Path → Path → Type 0
FarTo end to from path later = (left : Statements) × Far from path left later × (point_before end left ≡ to)

here : (end to : ℕ) (s : Statement) (others : Statements) (path later : Path) → IsAt (point_of s) to path later → FarTo end to (statement s others) path later
here end to s others path later at =
    (statement s others, same_path (statement s others) path (statement s others) later path at.1 (nowhere (statement s others) path), at.0)

-- a path that comes to a point after some steps comes to it from the start of them
after_far : (end to : ℕ) (from : Statements) (path : Path) (next : Statements) (between later : Path) → Far from path next between → FarTo end to next between later → FarTo end to from path later
after_far end to from path next between later far rest =
    (rest.0, joined_far far.0 from path next between rest.0 later far.1 rest.1, rest.2)

one_step : (from : Statements) (path : Path) (next : Statements) (between : Path) → Steps from path next between → Far from path next between
one_step from path next between s = first_step from path next between next between s (nowhere next between)

mutual
  comes-far : (end to : ℕ) (s : Statement) (others : Statements) (path later : Path) → Comes end s to path later → FarTo end to (statement s others) path later
  comes-far end to (Block point body) others path later c =
      let from = statement (Block point body) others in
      elim c [
        | inl at ↦ here end to (Block point body) others path later at
        | inr deeper ↦
            after_far end to from path (followed_by body others) path later (one_step from path (followed_by body others) path (refl, refl)) (comes_all-far end to body others path later deeper)
      ]
  comes-far end to (If point arms) others path later c =
      let from = statement (If point arms) others in
      elim c [
        | inl at ↦ here end to (If point arms) others path later at
        | inr deeper ↦
            let found = comes_one-far end to arms others path later deeper in
            after_far end to from path (followed_by found.0 others) path later (one_step from path (followed_by found.0 others) path (found.0, found.1, refl, refl)) found.2
      ]
  comes-far end to (While point condition body place) others path later c =
      let loop = Loop point condition body place others in
      let turns = turns-far point condition body place others (λ before after r. through_all-far body loop before after r) c.1.0 path c.0 c.1.1 in
      after_far end to loop path loop c.0 later turns (elim c.2 [
        | inl at ↦ here end to (While point condition body place) others c.0 later at
        | inr deeper ↦
            after_far end to loop c.0 (followed_by body loop) c.0 later (one_step loop c.0 (followed_by body loop) c.0 (inr refl, refl)) (comes_all-far end to body loop c.0 later deeper)
      ])
  comes-far end to (Return point value) others path later c =
      let from = statement (Return point value) others in
      elim c [
        | inl at ↦ here end to (Return point value) others path later at
        | inr at ↦ (no_more, same_path from path no_more later path at.1 (one_step from path no_more path (refl, refl)), at.0)
      ]
  comes-far end to s others path later c = here end to s others path later c

  comes_all-far : (end to : ℕ) (body others : Statements) (path later : Path) → ComesAll end body to path later → FarTo end to (followed_by body others) path later
  comes_all-far end to no_more others path later c = absurd c
  comes_all-far end to (statement first more) others path later c =
      elim c [
        | inl inner ↦ comes-far end to first (followed_by more others) path later inner
        | inr further ↦
            after_far end to (statement first (followed_by more others)) path (followed_by more others) further.0 later (through-far first (followed_by more others) path further.0 further.1) (comes_all-far end to more others further.0 later further.2)
      ]

  comes_one-far : (end to : ℕ) (arms : Arms) (others : Statements) (path later : Path) → ComesOne end arms to path later → (taken : Statements) × IsBranch arms taken × FarTo end to (followed_by taken others) path later
  comes_one-far end to (arm condition body more) others path later c =
      elim c [
        | inl inner ↦ (body, inl refl, comes_all-far end to body others path later inner)
        | inr other ↦ let found = comes_one-far end to more others path later other in (found.0, inr found.1, found.2)
      ]
  comes_one-far end to (otherwise body) others path later c = (body, refl, comes_all-far end to body others path later c)
  comes_one-far end to no_else others path later c = absurd c

followed_by-none : (body : Statements) → followed_by body no_more ≡ body
followed_by-none no_more = refl
followed_by-none (statement first others) = ap (statement first) (followed_by-none others)

-- a control path is made of steps
pub path-steps : (body : Body) (to : ℕ) (path : Path) → ControlPath body to path → FarTo (end_of body) to body.block [] path
path-steps body to path c =
    let end = end_of body in
    let P : Statements → Type 0 = λ from. FarTo end to from [] path in
    subst P (followed_by-none body.block) (elim c [
      | inl comes ↦ comes_all-far end to body.block no_more [] path comes
      | inr through ↦ (no_more, through_all-far body.block no_more [] path through.1, through.0)
    ])
