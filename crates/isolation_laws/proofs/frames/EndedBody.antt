-- If a body has ended, a segment reaches no task operation.
use Rattle.std.proofs.Common.{◌≡◌, ℕ, ℤ, zero, suc, Bool, List, [], Option, ap, subst, None}
use Rattle.twe_base.specs.declared.place.Place.{Place}
use Rattle.effect_sets.specs.declared.effects.Summary.{Summary}
use Rattle.twe_program.specs.Program.{Program}
use Rattle.twe_program.specs.Statement.{Statement, Statements, no_more, statement}
use Rattle.cover_flow.specs.ControlPath.{Path}
use Rattle.cover_flow.specs.Steps.{StepsFar}
use Rattle.seg_meaning.specs.declared.frame.Frame.{Frame}
use Rattle.seg_meaning.specs.declared.frame.Next.TheVariants.{Get, Join}
use Rattle.seg_meaning.specs.declared.stop.Stop.TheVariants as ends
use Rattle.seg_meaning.specs.Giving.{given}
use Rattle.seg_meaning.specs.Segment.{segment}
use Rattle.machine_state.specs.segment_laws.Left.{body_left, left_of}
use Rattle.machine_state.specs.segment_laws.Passes.{Passes}
use Rattle.machine_state.proofs.segment_laws.Following.{gets_follow, joins_follow, makes_follow}
use Rattle.isolation_laws.proofs.frames.AfterSegment.{after}
use Rattle.isolation_laws.proofs.frames.Frames.{given_none}

no_steps : (n : ℕ) (first : Statement) (others : Statements) (path later : Path) → StepsFar n no_more path (statement first others) later → ⊥
no_steps zero first others path later far = let same = far.0 in absurd (cc)
no_steps (suc n) first others path later far = absurd far.2

no_passes : (from : Statements) (path : Path) (operation : Statement) (others : Statements) (later : Path) → from ≡ no_more → Passes from path operation others later → ⊥
no_passes from path operation others later none passes =
    no_steps passes.steps operation others path later (subst (λ (x : Statements). StepsFar passes.steps x path (statement operation others) later) none passes.far)

module _ (p : Program) (frame : Frame) (value : ℤ) (cells : List ℤ) where
  nothing_left : frame.body ≡ None → left_of p (given frame value) ≡ no_more
  nothing_left none = ap (body_left p (given frame value).decl) (given_none frame value none)

  pub some_at_make : (child : Frame) (args : List ℤ) (effects : Summary) (spawned : Bool) (future : ℕ) (place : Place)
      → (segment p (given frame value) cells).stop ≡ ends.Make child args effects spawned future place → ¬ (frame.body ≡ None)
  some_at_make child args effects spawned future place stop none =
      let comes = makes_follow p (given frame value) cells [] child args effects spawned future place stop in
      no_passes _ _ _ _ _ (nothing_left none) comes.passes

  pub some_at_get : (on : ℕ) (into : Option ℕ) → (after p frame value cells).next ≡ Get on into → ¬ (frame.body ≡ None)
  some_at_get on into next none =
      let comes = gets_follow p (given frame value) cells [] on into next in
      no_passes _ _ _ _ _ (nothing_left none) comes.passes

  pub some_at_join : (on : ℕ) (into : Option ℕ) → (after p frame value cells).next ≡ Join on into → ¬ (frame.body ≡ None)
  some_at_join on into next none =
      let comes = joins_follow p (given frame value) cells [] on into next in
      no_passes _ _ _ _ _ (nothing_left none) comes.passes
