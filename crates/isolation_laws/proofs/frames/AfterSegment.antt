-- The control path of a frame after a segment, which ends at a wait or at a make.
use Rattle.std.proofs.Common.{◌≡◌, ◌==◌, ℕ, ℤ, Bool, true, false, IsTrue, List, [], ◌∷◌, Option, Some, inl, inr, sym, ap, ◌∙◌, subst}
use Rattle.std.specs.Prelude.{slice_get, if◌then◌else◌}
use Rattle.effect_sets.specs.declared.effects.Summary.{Summary}
use Rattle.twe_program.specs.Program.{Program}
use Rattle.twe_program.specs.Statement.{Statement, Statements, statement}
use Rattle.cover_flow.specs.ControlPath.{Path}
use Rattle.cover_flow.specs.Out.{out_after}
use Rattle.seg_meaning.specs.declared.frame.Frame.{Frame}
use Rattle.seg_meaning.specs.Giving.{given, without}
use Rattle.seg_meaning.specs.Meaning.{body_of}
use Rattle.seg_meaning.specs.Segment.{segment}
use Rattle.effect_check.proofs.Members.{IsIn}
use Rattle.machine_state.specs.segment_laws.Keeps.{SegmentKeeps}
use Rattle.machine_state.specs.segment_laws.Left.{left_of}
use Rattle.machine_state.specs.segment_laws.Passes.{Passes}
use Rattle.machine_state.proofs.segment_laws.Following.{given_left}
use Rattle.machine_state.proofs.segment_laws.SegmentKept.{segment_keeps}
use Rattle.machine_state.specs.declared.state.State.{State}
use Rattle.isolation_laws.proofs.soundness.Given.{given_decl}
use Rattle.isolation_laws.proofs.frames.Frames.{ChildOut, OnPath, given_futures, given_out, still_out}
use Rattle.isolation_laws.proofs.paths.FuturesOut.{Reached, out-quiet, reached_more}

-- the children without one of them are among the children
in_without_by : (same : Bool) (u on first : ℕ) (others : List ℕ) → (IsIn u (without on others) → IsIn u others)
    → IsIn u (if same then others else (first ∷ without on others)) → IsIn u (first ∷ others)
in_without_by true u on first others rest h = inr h
in_without_by false u on first others rest (inl e) = inl e
in_without_by false u on first others rest (inr h) = inr (rest h)

pub in_without : (u on : ℕ) (out : List ℕ) → IsIn u (without on out) → IsIn u out
in_without u on [] h = h
in_without u on (first ∷ others) h = in_without_by (first == on) u on first others (in_without u on others) h

-- a child that is out stays out with other futures and a longer path, if its own future stays out
pub child_later : (p : Program) (decl other : ℕ) (futures later_futures : List (Option ℕ)) (path later : Path) (u : ℕ) (effects same_effects : Summary)
    → other ≡ decl → same_effects ≡ effects → (c : ChildOut p decl futures path u effects)
    → slice_get later_futures c.future ≡ Some (Some u) → IsTrue (out_after c.future later) → ChildOut p other later_futures later u same_effects
child_later p decl other futures later_futures path later u effects same_effects e k c stands out =
    subst (λ (x : ℕ). ChildOut p x later_futures later u same_effects) (sym e) (record {
      future = c.future;
      stands = stands;
      out = out;
      point = c.point;
      task = c.task;
      given = c.given;
      future_place = c.future_place;
      place = c.place;
      values = c.values;
      act = c.act;
      declared = c.declared;
      may_have = c.may_have;
      same = k ∙ c.same;
    })

-- the frame that a segment leaves, if the frame before it has taken this value
abbrev pub after : Program → Frame → ℤ → List ℤ → Frame
after p frame value cells = (segment p (given frame value) cells).frame

module _ (p : Program) (frame : Frame) (value : ℤ) (cells : List ℤ) where
  kept : SegmentKeeps (given frame value) cells (segment p (given frame value) cells)
  kept = segment_keeps p (given frame value) cells

  pub after_out : (after p frame value cells).out.items ≡ still_out frame.next frame.out.items
  after_out = kept.out ∙ given_out frame value

  pub after_futures : (after p frame value cells).futures ≡ frame.futures
  after_futures = kept.futures ∙ given_futures frame value

  pub after_decl : (after p frame value cells).decl ≡ frame.decl
  after_decl = kept.decl ∙ given_decl frame value

-- the path of the frame is continued to an operation
module _ (p : Program) (st : State) (frame : Frame) (value : ℤ) (on_path : OnPath p st.tasks frame) (operation : Statement) (others : Statements) (later : Path)
    (passes : Passes (left_of p (given frame value)) on_path.path operation others later) where
  pub reached_at : Reached (body_of (slice_get p.tasks frame.decl)) (statement operation others) later
  reached_at =
      let body = body_of (slice_get p.tasks frame.decl) in
      reached_more body (left_of p (given frame value)) (statement operation others) on_path.path later passes.steps
      (subst (λ (x : Statements). Reached body x on_path.path) (sym (given_left p frame value)) on_path.reached) passes.far

  pub still_out_at : (f : ℕ) → IsTrue (out_after f on_path.path) → IsTrue (out_after f later)
  still_out_at f out = ap (out_after f) passes.same ∙ (out-quiet f passes.passed on_path.path passes.quiet ∙ out)
