-- What the rules on effects say of the body of a deterministic task: it makes tasks by spawns of deterministic tasks only,
-- and it gets no value. So does each segment of such a task.
use Rattle.std.proofs.Common.{◌≡◌, ℕ, ℤ, Bool, true, false, IsTrue, List, length, Contains, Option, Some, inl, refl, sym, ap, ◌∙◌, subst}
use Rattle.std.specs.Prelude.{slice_get}
use Rattle.twe_base.specs.declared.place.Place.{Place}
use Rattle.twe_base.specs.Limits.{Bounds}
use Rattle.effect_sets.specs.declared.effects.Summary.{Summary}
use Rattle.twe_program.specs.declared.program.Decl.{Decl}
use Rattle.twe_program.specs.Expression.{Arguments}
use Rattle.twe_program.specs.Program.{Program}
use Rattle.twe_program.specs.Statement.{Statement, Statements, Make, Wait, statement}
use Rattle.cover_flow.specs.ControlPath.{Path}
use Rattle.effect_check.specs.declared.act.Act.{Act}
use Rattle.effect_check.specs.declared.act.ActKind.TheVariants as kinds
use Rattle.effect_check.specs.declared.rule.ERule.TheVariants.{E6, E7}
use Rattle.effect_check.specs.Acts.{acts_in_all, filled_summary, is_deterministic, make, wait}
use Rattle.effect_check.specs.FailsEffect.{made_later, not_deterministic, waited}
use Rattle.effect_check.specs.Standing.{elements_of}
use Rattle.effect_check.proofs.Members.{IsIn, in-contains}
use Rattle.seg_meaning.specs.declared.frame.Frame.{Frame}
use Rattle.seg_meaning.specs.declared.frame.Next.TheVariants.{Get}
use Rattle.seg_meaning.specs.declared.stop.Stop.TheVariants as ends
use Rattle.seg_meaning.specs.Giving.{given}
use Rattle.seg_meaning.specs.Meaning.{body_of}
use Rattle.isolation_laws.specs.soundness.KeepsEffects.{KeepsEffects}
use Rattle.isolation_laws.proofs.soundness.Sound.{got-in}
use Rattle.machine_state.specs.segment_laws.Left.{left_of}
use Rattle.machine_state.proofs.segment_laws.Following.{gets_follow, makes_follow}
use Rattle.machine_state.specs.declared.state.State.{State}
use Rattle.machine_state.specs.declared.state.TaskRow.{TaskRow}
use Rattle.machine_state.specs.Moves.{awaited_value}
use Rattle.machine_state.specs.Rows.{IsRow, row_awaited}
use Rattle.machine_state.proofs.standing.Standing.{Stands}
use Rattle.isolation_laws.proofs.frames.AfterSegment.{after, reached_at}
use Rattle.isolation_laws.proofs.frames.EndedBody.{some_at_get, some_at_make}
use Rattle.isolation_laws.proofs.journals.Invariant.{Kept, taker}
use Rattle.isolation_laws.proofs.paths.FuturesOut.{Reached}
use Rattle.isolation_laws.proofs.paths.MakesInBodies.{make_act, reached_acts}
use Rattle.determinism_laws.specs.Deterministic.{IsDeterministic}
use Rattle.determinism_laws.proofs.NewTasks.{left_by}

module _ (p : Program) (keeps : KeepsEffects p) (decl : Decl) (there : Contains p.tasks decl) (deterministic : IsTrue decl.deterministic) where
  module _ (point future task : ℕ) (given_args : Arguments) (future_place place : Place) where
    abbrev effects : Summary
    effects = filled_summary (slice_get p.tasks task) (elements_of given_args)

    not_later : ¬ IsIn (make p point future task given_args false future_place place) (acts_in_all p decl.body.block)
    not_later act =
        keeps E6 place
        (inl (decl, there, made_later point future (is_deterministic (slice_get p.tasks task)) effects future_place place (in-contains _ _ act) deterministic))

    -- what a spawn does, if the flag of its task is this one
    abbrev spawn_act : Bool → Act
    spawn_act flag = record { point = point; kind = kinds.Make future true flag effects future_place place }

    deterministic_by : (flag : Bool) → is_deterministic (slice_get p.tasks task) ≡ flag
        → IsIn (make p point future task given_args true future_place place) (acts_in_all p decl.body.block) → IsTrue (is_deterministic (slice_get p.tasks task))
    deterministic_by true e act = e
    deterministic_by false e act =
        absurd (keeps E7 place
        (inl (
          decl,
          there,
          not_deterministic point future effects future_place place
              (in-contains _ _ (subst (λ (flag : Bool). IsIn (spawn_act flag) (acts_in_all p decl.body.block)) e act)) deterministic,
        )))

    pub spawns_only : (spawned : Bool) → IsIn (make p point future task given_args spawned future_place place) (acts_in_all p decl.body.block)
        → (spawned ≡ true) × IsTrue (is_deterministic (slice_get p.tasks task))
    spawns_only true act = (refl, deterministic_by (is_deterministic (slice_get p.tasks task)) refl act)
    spawns_only false act = absurd (not_later act)

  pub gets_nothing : (point future : ℕ) (place : Place) → ¬ IsIn (wait point future false place) (acts_in_all p decl.body.block)
  gets_nothing point future place act = keeps E6 place (inl (decl, there, waited point future place (in-contains _ _ act) deterministic))

-- a segment of a deterministic task
module _ (p : Program) (keeps : KeepsEffects p) (lim : Bounds) (st : State) (stands : Stands p lim st) (kept : Kept p st)
    (t : ℕ) (row : TaskRow) (is_t : IsRow st t row) (flag : IsDeterministic p row) where
  abbrev value : ℤ
  value = awaited_value st.tasks (row_awaited row.frame.next)

  pub found : (decl : Decl) × (slice_get p.tasks row.frame.decl ≡ Some decl)
  found = taker (slice_get p.tasks row.frame.decl) (length row.args) (kept.runs t row is_t).count

  pub listed : Contains p.tasks found.0
  listed = in-contains p.tasks found.0 (got-in p.tasks row.frame.decl found.0 found.1)

  deterministic : IsTrue (found.0).deterministic
  deterministic =
      let same : slice_get p.tasks row.decl ≡ Some found.0 = ap (slice_get p.tasks) (sym (stands.rows t row is_t).decl) ∙ found.1 in
      subst (λ (o : Option Decl). IsTrue (is_deterministic o)) same flag

  abbrev left : Statements
  left = left_of p (after p row.frame value st.cells)

  pub in_body : (operation : Statement) (later : Path) → Reached (body_of (slice_get p.tasks row.frame.decl)) (statement operation left) later
      → Reached (found.0).body.block (statement operation left) later
  in_body operation later reached = subst (λ (o : Option Decl). Reached (body_of o) (statement operation left) later) found.1 reached

  -- makes only deterministic tasks, by spawns
  pub makes_deterministic : (child : Frame) (args : List ℤ) (effects : Summary) (spawned : Bool) (future : ℕ) (place : Place)
      → (left_by p st row).stop ≡ ends.Make child args effects spawned future place → (spawned ≡ true) × IsTrue (is_deterministic (slice_get p.tasks child.decl))
  makes_deterministic child args effects spawned future place stop =
      let on_path = kept.paths t row is_t (some_at_make p row.frame value st.cells child args effects spawned future place stop) in
      let comes = makes_follow p (given row.frame value) st.cells on_path.path child args effects spawned future place stop in
      let operation = Make comes.point future comes.task comes.given spawned comes.future_place place in
      let reached = reached_at p st row.frame value on_path operation left comes.later comes.passes in
      let act = make_act (found.0).body.block comes.point future comes.task comes.given spawned comes.future_place place left comes.later (in_body operation comes.later reached) p in
      let only = spawns_only p keeps found.0 listed deterministic comes.point future comes.task comes.given comes.future_place place spawned act in
      let decl : child.decl ≡ comes.task = ap (λ (f : Frame). f.decl) comes.child_is in
      (only.0, subst (λ (n : ℕ). IsTrue (is_deterministic (slice_get p.tasks n))) (sym decl) only.1)

  -- and gets no value
  pub never_gets : (on : ℕ) (into : Option ℕ) → ¬ ((left_by p st row).frame.next ≡ Get on into)
  never_gets on into next =
      let on_path = kept.paths t row is_t (some_at_get p row.frame value st.cells on into next) in
      let comes = gets_follow p (given row.frame value) st.cells on_path.path on into next in
      let operation = Wait comes.point comes.future false into comes.place in
      let reached = reached_at p st row.frame value on_path operation left comes.later comes.passes in
      let act = reached_acts p (found.0).body.block (statement operation left) comes.later (wait comes.point comes.future false comes.place)
      (in_body operation comes.later reached) (inl refl) in
      gets_nothing p keeps found.0 listed deterministic comes.point comes.future comes.place act
