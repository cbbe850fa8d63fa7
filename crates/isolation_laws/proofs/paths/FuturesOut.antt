-- Control paths of a body, and the futures that are out after them.
use Rattle.std.proofs.Common.{◌≡◌, ℕ, zero, suc, Bool, false, not, ◌&&◌, ◌||◌, IsTrue, [], ◌∷◌, ◌++◌, inl, inr, refl, ap₂, ◌∙◌, subst}
use Rattle.twe_program.specs.declared.program.Body.{Body}
use Rattle.twe_program.specs.Statement.{Statement, Make, Wait, Statements, statement}
use Rattle.cover_flow.specs.ControlPath.{ControlPath, Path, end_of, point_of}
use Rattle.cover_flow.specs.Out.{MayBeOut, out_after, puts_out, takes_in}
use Rattle.cover_flow.specs.Steps.{StepsFar}
use Rattle.cover_flow.proofs.SteppingBack.{steps-back}
use Rattle.machine_state.specs.segment_laws.Passes.{IsOperation, NoOperations}

-- a statement that is no task operation puts no future out and takes none in
no_put : (f : ℕ) (s : Statement) → ¬ IsOperation s → puts_out f s ≡ false
no_put f (Make point future task args spawned future_place place) plain = absurd (plain tt)
no_put f _ plain = refl

no_take : (f : ℕ) (s : Statement) → ¬ IsOperation s → takes_in f s ≡ false
no_take f (Wait point future join into place) plain = absurd (plain tt)
no_take f _ plain = refl

pub out-quiet : (f : ℕ) (passed path : Path) → NoOperations passed → out_after f (passed ++ path) ≡ out_after f path
out-quiet f [] path quiet = refl
out-quiet f (s ∷ passed) path quiet =
    ap₂ (λ (put take : Bool). put || (not take && out_after f (passed ++ path))) (no_put f s quiet.0) (no_take f s quiet.0) ∙ out-quiet f passed path quiet.1

-- steps followed by more steps
pub steps_joined : (n m : ℕ) (from : Statements) (path : Path) (next : Statements) (between : Path) (left : Statements) (later : Path)
    → StepsFar n from path next between → StepsFar m next between left later → (k : ℕ) × StepsFar k from path left later
steps_joined zero m from path next between left later first second =
    (m, subst (λ (x : Statements). StepsFar m x path left later) first.0 (subst (λ (x : Path). StepsFar m next x left later) first.1 second))
steps_joined (suc n) m from path next between left later first second =
    let rest = steps_joined n m first.0 first.1 next between left later first.3 second in
    (suc rest.0, (first.0, first.1, first.2, rest.1))

-- a control path of the body leads, in some number of steps, to this rest of it
pub record Reached (body left : Statements) (path : Path) : Type 0 where
  pub steps : ℕ
  pub far : StepsFar steps body [] left path

pub reached_start : (body : Statements) → Reached body body []
reached_start body = record { steps = 0; far = (refl, refl) }

pub reached_more : (body from left : Statements) (path later : Path) (n : ℕ) → Reached body from path → StepsFar n from path left later → Reached body left later
reached_more body from left path later n reached far =
    let more = steps_joined reached.steps n body [] from path left later reached.far far in
    record { steps = more.0; far = more.1 }

-- a future that is out after the path may be out at the point that the path leads to
pub reached_out : (body : Body) (first : Statement) (others : Statements) (path : Path) (f : ℕ) → Reached body.block (statement first others) path
    → IsTrue (out_after f path) → MayBeOut body (point_of first) f
reached_out body first others path f reached out =
    let comes : ControlPath body (point_of first) path = elim (steps-back (end_of body) (point_of first) path reached.steps body.block [] (statement first others) reached.far refl) [
      | inl within ↦ inl within
      | inr through ↦ inr through
    ] in
    (path, comes, out)
