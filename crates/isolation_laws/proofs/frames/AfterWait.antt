-- After a segment that ends at a wait, the frame is on its control path past the wait. A child that is to be joined is
-- no longer out there.
use Rattle.std.proofs.Common.{◌≡◌, ◌≢◌, ◌==◌, ◌&&◌, ℕ, ℤ, Bool, true, false, not, IsTrue, List, ◌∷◌, Option, refl, sym, ap, ◌∙◌, subst, eqb-true}
use Rattle.std.specs.Prelude.{slice_get}
use Rattle.twe_program.specs.Program.{Program}
use Rattle.twe_program.specs.Statement.{Wait, statement}
use Rattle.cover_flow.specs.ControlPath.{Path}
use Rattle.cover_flow.specs.Out.{out_after}
use Rattle.seg_meaning.specs.declared.frame.Frame.{Frame}
use Rattle.seg_meaning.specs.declared.frame.Next.{Next}
use Rattle.seg_meaning.specs.declared.frame.Next.TheVariants.{Get, Join}
use Rattle.seg_meaning.specs.Giving.{given, without}
use Rattle.seg_meaning.specs.Meaning.{body_of}
use Rattle.seg_meaning.specs.Segment.{task_of}
use Rattle.effect_check.proofs.Members.{IsIn}
use Rattle.machine_state.specs.segment_laws.Left.{left_of}
use Rattle.machine_state.specs.segment_laws.Operations.{ComesToWait}
use Rattle.machine_state.proofs.segment_laws.Following.{gets_follow, joins_follow}
use Rattle.machine_state.specs.declared.state.State.{State}
use Rattle.machine_state.specs.declared.state.TaskRow.{TaskRow}
use Rattle.machine_state.specs.Rows.{IsRow}
use Rattle.isolation_laws.proofs.rows.RowsLater.{Continues}
use Rattle.isolation_laws.proofs.frames.Frames.{ChildOut, OnPath, given_futures, still_out}
use Rattle.isolation_laws.proofs.paths.FuturesOut.{Reached, reached_more}
use Rattle.isolation_laws.proofs.frames.AfterSegment.{after, after_decl, after_futures, after_out, child_later, in_without, reached_at, still_out_at}

-- a future other than the joined one stays out
other_out : (same out : Bool) → same ≢ true → IsTrue out → IsTrue (not same && out)
other_out true out other h = absurd (other refl)
other_out false out other h = h

stays_out : (join same out : Bool) → (join ≡ true → same ≢ true) → IsTrue out → IsTrue (not (join && same) && out)
stays_out true same out other h = other_out same out (other refl) h
stays_out false same out other h = h

module _ (p : Program) (st : State) (frame : Frame) (value : ℤ) (cells : List ℤ) (on_path : OnPath p st.tasks frame) (new : State) (continues : Continues st new)
    (join : Bool) (on : ℕ) (into : Option ℕ)
    (comes : ComesToWait p (given frame value) (after p frame value cells) on_path.path join on into) where
  past : Path
  past = Wait comes.point comes.future join into comes.place ∷ comes.later

  reached_past : Reached (body_of (slice_get p.tasks frame.decl)) (left_of p (after p frame value cells)) past
  unfolding past
  reached_past =
      let operation = Wait comes.point comes.future join into comes.place in
      let others = left_of p (after p frame value cells) in
      reached_more (body_of (slice_get p.tasks frame.decl)) (statement operation others) others comes.later (operation ∷ comes.later) 1
      (reached_at p st frame value on_path operation others comes.later comes.passes)
      (others, operation ∷ comes.later, (refl, refl), (refl, refl))

  -- a child that is out afterwards was out before, and its future is not the joined one
  child_past : (u : ℕ) (b : TaskRow) → IsIn u (after p frame value cells).out.items → (join ≡ true → u ≢ on) → IsRow new u b
      → ChildOut p (after p frame value cells).decl (after p frame value cells).futures past u b.effects
  unfolding past
  child_past u b here other is =
      let a = continues u b is in
      let c = on_path.children u a.0 (subst (IsIn u) (after_out p frame value cells) here) a.1 in
      let futures = after_futures p frame value cells in
      let not_same : join ≡ true → (comes.future == c.future) ≢ true = λ is_join same.
      let e : comes.future ≡ c.future = eqb-true comes.future c.future same in
      let task : on ≡ u = comes.on_is ∙ ap task_of (ap (λ (fs : List (Option ℕ)). slice_get fs comes.future) (given_futures frame value) ∙ (ap (slice_get frame.futures) e ∙ c.stands)) in
      other is_join (sym task) in
      child_later p frame.decl (after p frame value cells).decl frame.futures (after p frame value cells).futures on_path.path past u a.0.effects b.effects
      (after_decl p frame value cells) a.2.effects c
      (ap (λ (fs : List (Option ℕ)). slice_get fs c.future) futures ∙ c.stands)
      (stays_out join (comes.future == c.future) (out_after c.future comes.later) not_same
      (still_out_at p st frame value on_path (Wait comes.point comes.future join into comes.place) (left_of p (after p frame value cells)) comes.later comes.passes c.future c.out))

  pub waited : ((u : ℕ) → IsIn u (still_out (after p frame value cells).next (after p frame value cells).out.items)
      → IsIn u (after p frame value cells).out.items × (join ≡ true → u ≢ on)) → OnPath p new.tasks (after p frame value cells)
  waited outs = record {
    path = past;
    reached = subst (λ (n : ℕ). Reached (body_of (slice_get p.tasks n)) (left_of p (after p frame value cells)) past) (sym (after_decl p frame value cells)) reached_past;
    children = λ u b here is. let known = outs u here in child_past u b known.0 known.1 is;
  }

-- if the frame waits for a value, all its children stay out; if it waits to join a child, all but that one do
module _ (p : Program) (st : State) (frame : Frame) (value : ℤ) (cells : List ℤ) (on_path : OnPath p st.tasks frame) (new : State) (continues : Continues st new)
    (on : ℕ) (into : Option ℕ) where
  pub got : (after p frame value cells).next ≡ Get on into → OnPath p new.tasks (after p frame value cells)
  got next =
      waited p st frame value cells on_path new continues false on into (gets_follow p (given frame value) cells on_path.path on into next)
      (λ u here. (subst (λ (n : Next). IsIn u (still_out n (after p frame value cells).out.items)) next here, λ no. absurd (cc)))

  pub joined_one : ((u : ℕ) → IsIn u (without u (after p frame value cells).out.items) → ⊥) → (after p frame value cells).next ≡ Join on into → OnPath p new.tasks (after p frame value cells)
  joined_one once next =
      waited p st frame value cells on_path new continues true on into (joins_follow p (given frame value) cells on_path.path on into next)
      (λ u here.
      let out = (after p frame value cells).out.items in
      let inside : IsIn u (without on out) = subst (λ (n : Next). IsIn u (still_out n out)) next here in
      (in_without u on out inside, λ is_join same. once u (subst (λ (x : ℕ). IsIn u (without x out)) (sym same) inside)))
