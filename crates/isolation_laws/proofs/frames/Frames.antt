-- The frame of a running task is on a control path of its body, and its unjoined children are out after that path. This
-- connects the rules on effects, which are about control paths, to tasks that run.
use Rattle.std.proofs.Common.{◌≡◌, ℕ, ℤ, true, IsTrue, List, Option, Some, refl, None}
use Rattle.std.specs.Prelude.{slice_get}
use Rattle.twe_base.specs.declared.place.Place.{Place}
use Rattle.effect_sets.specs.declared.effects.Summary.{Summary}
use Rattle.twe_program.specs.Expression.{Arguments}
use Rattle.twe_program.specs.Program.{Program}
use Rattle.cover_flow.specs.ControlPath.{Path}
use Rattle.cover_flow.specs.Out.{out_after}
use Rattle.seg_meaning.specs.declared.frame.OpenBody.{OpenBody}
use Rattle.seg_meaning.specs.declared.frame.Frame.{Frame}
use Rattle.seg_meaning.specs.declared.frame.Next.{Next}
use Rattle.seg_meaning.specs.declared.frame.Next.TheVariants.{Go, Get, Join, Closing, Ended}
use Rattle.seg_meaning.specs.Entry.{effects_at}
use Rattle.seg_meaning.specs.Meaning.{body_of}
use Rattle.seg_meaning.specs.Giving.{body_with, given, given_by, without}
use Rattle.effect_check.specs.Acts.{acts_in_all, make}
use Rattle.effect_check.proofs.Members.{IsIn}
use Rattle.machine_state.specs.segment_laws.Left.{left_of}
use Rattle.machine_state.specs.segment_laws.Operations.{AllMayHave}
use Rattle.machine_state.specs.segment_laws.Ready.{IsDeclaredAs, futures_at}
use Rattle.machine_state.specs.declared.state.State.{State}
use Rattle.machine_state.specs.declared.state.TaskRow.{TaskRow}
use Rattle.machine_state.specs.Rows.{IsRow}
use Rattle.isolation_laws.proofs.paths.FuturesOut.{Reached}

-- the children that are still out once the awaited value is taken
abbrev pub still_out : Next → List ℕ → List ℕ
still_out Go out = out
still_out (Get on into) out = out
still_out (Join on into) out = without on out
still_out (Closing on) out = without on out
still_out Ended out = out

-- The child is out after the path: a future that is out after it stands for the child, and a statement of the body
-- spawns the child's task into that future, with arguments that the child's own are instances of.
pub record ChildOut (p : Program) (decl : ℕ) (futures : List (Option ℕ)) (path : Path) (child : ℕ) (effects : Summary) : Type 0 where
  pub future : ℕ
  pub stands : slice_get futures future ≡ Some (Some child)
  pub out : IsTrue (out_after future path)
  pub point : ℕ
  pub task : ℕ
  pub given : Arguments
  pub future_place : Place
  pub place : Place
  pub values : List ℤ
  pub act : IsIn (make p point future task given true future_place place) (acts_in_all p (body_of (slice_get p.tasks decl)))
  pub declared : IsDeclaredAs (slice_get (futures_at p decl) future) true
  pub may_have : AllMayHave given values
  pub same : effects ≡ effects_at p task values

-- a control path leads to what is left of the frame's body, and once the awaited value is taken, each child that is
-- still out is out after this path
pub record OnPath (p : Program) (rows : List TaskRow) (frame : Frame) : Type 0 where
  pub path : Path
  pub reached : Reached (body_of (slice_get p.tasks frame.decl)) (left_of p frame) path
  pub children : (u : ℕ) (b : TaskRow) → IsIn u (still_out frame.next frame.out.items) → slice_get rows u ≡ Some b → ChildOut p frame.decl frame.futures path u b.effects

-- each frame whose body has not ended is on a path
abbrev pub FramesOnPaths : Program → State → Type 0
FramesOnPaths p st = (t : ℕ) (row : TaskRow) → IsRow st t row → ¬ (row.frame.body ≡ None) → OnPath p st.tasks row.frame

-- The fields of a frame once it has taken the value.

module _ (frame : Frame) (value : ℤ) where
  out_by : (next : Next) → (given_by next frame value).out.items ≡ still_out next frame.out.items
  out_by Go = refl
  out_by (Get on into) = refl
  out_by (Join on into) = refl
  out_by (Closing on) = refl
  out_by Ended = refl

  futures_by : (next : Next) → (given_by next frame value).futures ≡ frame.futures
  futures_by Go = refl
  futures_by (Get on into) = refl
  futures_by (Join on into) = refl
  futures_by (Closing on) = refl
  futures_by Ended = refl

  pub given_out : (given frame value).out.items ≡ still_out frame.next frame.out.items
  given_out = out_by frame.next

  pub given_futures : (given frame value).futures ≡ frame.futures
  given_futures = futures_by frame.next

  no_body : (into : Option ℕ) (body : Option OpenBody) → body ≡ None → body_with into value body ≡ None
  no_body into None e = refl
  no_body into (Some body) e = absurd (cc)

  none_by : (next : Next) → frame.body ≡ None → (given_by next frame value).body ≡ None
  none_by Go e = e
  none_by (Get on into) e = no_body into frame.body e
  none_by (Join on into) e = no_body into frame.body e
  none_by (Closing on) e = e
  none_by Ended e = e

  -- a body that has ended is not opened again
  pub given_none : frame.body ≡ None → (given frame value).body ≡ None
  given_none e = none_by frame.next e
