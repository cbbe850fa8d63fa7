-- Putting a frame back into its row keeps the invariant, if no task is made.
use Rattle.std.proofs.Common.{◌≡◌, ℕ, ℤ, List, Option, inl, inr, sym, ap, ◌∙◌, subst, None}
use Rattle.effect_sets.specs.declared.effects.Summary.{Summary}
use Rattle.twe_program.specs.Program.{Program}
use Rattle.seg_meaning.specs.declared.frame.Frame.{Frame}
use Rattle.isolation_laws.specs.soundness.RunsWith.{RunsWith}
use Rattle.machine_state.specs.declared.state.State.{State}
use Rattle.machine_state.specs.declared.state.TaskRow.{TaskRow}
use Rattle.machine_state.specs.Legal.{Isolated}
use Rattle.machine_state.specs.Moves.{state_after_storing, state_after_join}
use Rattle.machine_state.specs.Rows.{IsRow}
use Rattle.isolation_laws.proofs.rows.RowsLater.{Became, Continues, siblings_later, within_later}
use Rattle.isolation_laws.proofs.frames.Frames.{ChildOut, OnPath}
use Rattle.isolation_laws.proofs.rows.FramePutBack.{continues_home, rows_home}
use Rattle.isolation_laws.proofs.rows.JoinedChild.{Untouched}
use Rattle.isolation_laws.proofs.journals.Invariant.{Kept}

-- a row with the same arguments and frame still runs with its arguments
pub runs_untouched : (p : Program) (a b : TaskRow) → Untouched a b → RunsWith p a.args a.frame → RunsWith p b.args b.frame
runs_untouched p a b same runs =
    subst (λ (frame : Frame). RunsWith p b.args frame) (sym same.frame) (subst (λ (args : List ℤ). RunsWith p args a.frame) (sym same.became.args) runs)

-- a frame stays on its path when the rows change
pub on_path_later : (p : Program) (old new : State) (frame : Frame) → Continues old new → OnPath p old.tasks frame → OnPath p new.tasks frame
on_path_later p old new frame continues on_path = record {
  path = on_path.path;
  reached = on_path.reached;
  children = λ u b here is.
      let a = continues u b is in
      subst (λ (x : Summary). ChildOut p frame.decl frame.futures on_path.path u x) (sym a.2.effects) (on_path.children u a.0 here a.1);
}

module _ (p : Program) (st : State) (kept : Kept p st) (o : Option ℕ) (t : ℕ) (row : TaskRow) (is_t : IsRow st t row) (frame : Frame) (new : TaskRow) where
  pub runs_home : RunsWith p new.args new.frame → (s : ℕ) (b : TaskRow) → IsRow (state_after_storing (state_after_join st o) t frame new) s b → RunsWith p b.args b.frame
  runs_home runs s b is = elim (rows_home st o t row is_t frame new s b is) [
    | inl here ↦ subst (λ (r : TaskRow). RunsWith p r.args r.frame) (sym here.1) runs
    | inr other ↦ runs_untouched p other.1.0 b other.1.2 (kept.runs s other.1.0 other.1.1)
  ]

module _ (p : Program) (st : State) (kept : Kept p st) (o : Option ℕ) (t : ℕ) (row : TaskRow) (is_t : IsRow st t row) (frame : Frame) (new : TaskRow) (became : Became row new)
    (runs : RunsWith p new.args new.frame)
    (path : ¬ (new.frame.body ≡ None) → OnPath p (state_after_storing (state_after_join st o) t frame new).tasks new.frame) where
  paths_home : (s : ℕ) (b : TaskRow) → IsRow (state_after_storing (state_after_join st o) t frame new) s b → ¬ (b.frame.body ≡ None) → OnPath p (state_after_storing (state_after_join st o) t frame new).tasks b.frame
  paths_home s b is some =
      let after = state_after_storing (state_after_join st o) t frame new in
      elim (rows_home st o t row is_t frame new s b is) [
        | inl here ↦
            subst (λ (r : TaskRow). OnPath p after.tasks r.frame) (sym here.1) (path (λ none. some (ap (λ (r : TaskRow). r.frame.body) here.1 ∙ none)))
        | inr other ↦
            let same = other.1.2.frame in
            subst (λ (f : Frame). OnPath p after.tasks f) (sym same)
            (on_path_later p st after other.1.0.frame (continues_home st o t row is_t frame new became)
            (kept.paths s other.1.0 other.1.1 (λ none. some (ap (λ (f : Frame). f.body) same ∙ none))))
      ]

  -- so the invariant holds, if the new state is isolated
  pub kept_home : Isolated (state_after_storing (state_after_join st o) t frame new) → Kept p (state_after_storing (state_after_join st o) t frame new)
  kept_home isolated =
      let after = state_after_storing (state_after_join st o) t frame new in
      let continues = continues_home st o t row is_t frame new became in
      record {
        runs = runs_home p st kept o t row is_t frame new runs;
        within = within_later st after continues kept.within;
        siblings = siblings_later st after continues kept.siblings;
        paths = paths_home;
        isolated = isolated;
      }
