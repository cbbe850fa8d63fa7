-- The numbers of tasks rise as they are made, so each is made by one entry.
use Rattle.std.proofs.Common.{◌≡◌, ◌<◌, ◌≤◌, ◌+◌, ℕ, ℤ, zero, suc, Bool, true, false, List, [], ◌∷◌, Option, None, Some, refl, ap, ◌∙◌, subst, arith, nat_lt}
use Rattle.std.specs.Prelude.{slice_get, if◌then◌else◌}
use Rattle.twe_base.specs.declared.place.Place.{Place}
use Rattle.effect_sets.specs.declared.effects.Summary.{Summary}
use Rattle.seg_journal.specs.declared.journal.End.{End}
use Rattle.seg_journal.specs.declared.journal.End.TheVariants as ends
use Rattle.seg_journal.specs.declared.journal.Entry.{Entry}
use Rattle.seg_journal.specs.declared.moves.Kind.{Kind}
use Rattle.seg_journal.specs.declared.moves.Kind.TheVariants.{Admit, Run}
use Rattle.twe_base.specs.declared.fault.FaultKind.TheVariants.{TaskLimit}
use Rattle.twe_base.specs.Limits.{Bounds}
use Rattle.twe_program.specs.Program.{Program}
use Rattle.wait_graph.specs.Link.{link_of}
use Rattle.seg_meaning.specs.declared.frame.Frame.{Frame}
use Rattle.seg_meaning.specs.declared.stop.Stop.{Stop}
use Rattle.seg_meaning.specs.declared.stop.Stop.TheVariants as stops
use Rattle.seg_meaning.specs.Segment.{Stopped, segment}
use Rattle.machine_state.specs.declared.state.State.{State}
use Rattle.machine_state.specs.declared.state.TaskRow.{TaskRow}
use Rattle.machine_state.specs.Moves.{admitted, joined_child, move_result, ran, ready_frame, result_by_kind, state_after_asking, state_after_fault, state_after_join, state_after_make, stop_result, stopped_frame}
use Rattle.machine_state.specs.Runs.{LegalFrom}
use Rattle.machine_state.proofs.weight.JoinedWeight.{asked_joined}
use Rattle.span_profile.specs.Strands.{made_task, strand_by_kind}
use Rattle.held_span.specs.Freed.{RunEntry, stage_of, stages_from}
use Rattle.held_span.specs.Holds.{MakesTask}

-- a move asks for no task, or for the next one, which it may make
abbrev RisesFrom : ℕ → State × End → Type 0
RisesFrom asked result = (asked ≤ result.0.asked) × ((c : ℕ) → result.1 ≡ ends.Made c → (asked < c) × (c ≤ result.0.asked))

module _ (lim : Bounds) (st : State) (t : ℕ) (row : TaskRow) (frame : Frame) where
  rises_make : (fits : Bool) (child : Frame) (args : List ℤ) (effects : Summary) (spawned : Bool) (future : ℕ) (place : Place)
      → RisesFrom st.asked (if◌then◌else◌ {A = State × End} fits (state_after_make lim st t row frame future spawned child args effects, ends.Made (st.asked + 1))
      (state_after_fault (state_after_asking st) t row (stopped_frame frame) TaskLimit place, ends.Fault TaskLimit place))
  rises_make true child args effects spawned future place = (omega arith, λ c is. (let same : st.asked + 1 ≡ c = cc (is) in (omega (arith, same), omega (arith, same))))
  rises_make false child args effects spawned future place = (omega arith, λ c is. absurd (cc (is)))

  rises_stop : (stop : Stop) → RisesFrom st.asked (stop_result lim st t row frame stop)
  rises_stop (stops.Make child args effects spawned future place) = rises_make (nat_lt (st.asked + 1) lim.tasks) child args effects spawned future place
  rises_stop (stops.Waits on) = (omega arith, λ c is. absurd (cc (is)))
  rises_stop (stops.Joins on) = (omega arith, λ c is. absurd (cc (is)))
  rises_stop (stops.Done value) = (omega arith, λ c is. absurd (cc (is)))
  rises_stop (stops.Fault kind place) = (omega arith, λ c is. absurd (cc (is)))

module _ (p : Program) (lim : Bounds) where
  rises_admitted : (st : State) (t : ℕ) (found : Option TaskRow) → RisesFrom st.asked (admitted st t found, ends.Admitted)
  rises_admitted st t None = (omega arith, λ c is. absurd (cc (is)))
  rises_admitted st t (Some row) = (omega arith, λ c is. absurd (cc (is)))

  rises_ran : (st : State) (t : ℕ) (found : Option TaskRow) → RisesFrom st.asked (ran p lim st t found)
  rises_ran st t None = (omega arith, λ c is. absurd (cc (is)))
  rises_ran st t (Some row) =
      let after : Stopped = segment p (ready_frame st.tasks row.frame) st.cells in
      let later : State = record st { cells = after.cells } in
      let child = joined_child row.out (link_of later.links t).waits in
      subst (λ (n : ℕ). RisesFrom n (stop_result lim (state_after_join later child) t row after.frame after.stop)) (asked_joined later child)
      (rises_stop lim (state_after_join later child) t row after.frame after.stop)

  rises : (st : State) (kind : Kind) (t : ℕ) → RisesFrom st.asked (result_by_kind p lim st kind t)
  rises st Admit t = rises_admitted st t (slice_get st.tasks t)
  rises st Run t = rises_ran st t (slice_get st.tasks t)

  made_end : (end : End) (c : ℕ) → made_task end ≡ Some c → end ≡ ends.Made c
  made_end ends.Admitted c is = absurd (cc (is))
  made_end (ends.Made d) c is = let one : d ≡ c = cc (is) in ap ends.Made one
  made_end (ends.Waits on) c is = absurd (cc (is))
  made_end (ends.Joins on) c is = absurd (cc (is))
  made_end (ends.Done value) c is = absurd (cc (is))
  made_end (ends.Fault kind place) c is = absurd (cc (is))

  strand_end : (st : State) (kind : Kind) (t : ℕ) (found : Option TaskRow) (end : End) (c : ℕ) → (strand_by_kind p st kind t found end).made ≡ Some c → end ≡ ends.Made c
  strand_end st Admit t found end c is = absurd (cc (is))
  strand_end st Run t None end c is = absurd (cc (is))
  strand_end st Run t (Some row) end c is = made_end end c is

  -- what the first entry makes has a number that was not asked for before, and that was after it
  made_first : (st : State) (entry : Entry) (entries : List Entry) → LegalFrom p lim st (entry ∷ entries) → (c : ℕ) → (strand_by_kind p st entry.mv.kind entry.mv.task (slice_get st.tasks entry.mv.task) entry.end).made ≡ Some c
      → (st.asked < c) × (c ≤ (move_result p lim st entry.mv).0.asked)
  made_first st entry entries legal c made = (rises st entry.mv.kind entry.mv.task).1 c (legal.1 ∙ strand_end st entry.mv.kind entry.mv.task (slice_get st.tasks entry.mv.task) entry.end c made)

  -- an element that was found is the one that stands there
  found_stage : (a b : RunEntry) → Some a ≡ Some b → a ≡ b
  found_stage a b is = cc (is)

  made_above : (st : State) (entries : List Entry) → LegalFrom p lim st entries → (i c : ℕ) (stage : RunEntry) → slice_get (stages_from p lim st entries) i ≡ Some stage → stage.strand.made ≡ Some c → st.asked < c
  made_above st [] legal i c stage at made = absurd (cc (at))
  made_above st (entry ∷ entries) legal zero c stage at made =
      let one = found_stage (stage_of p st entry) stage at in
      (made_first st entry entries legal c (ap (λ (s : RunEntry). s.strand.made) one ∙ made)).0
  made_above st (entry ∷ entries) legal (suc i) c stage at made =
      let later = made_above (move_result p lim st entry.mv).0 entries legal.2 i c stage at made in
      let up = (rises st entry.mv.kind entry.mv.task).0 in
      omega (arith, later, up)

  -- so two entries do not make one task
  made_once : (st : State) (entries : List Entry) → LegalFrom p lim st entries → (i j c : ℕ) (a b : RunEntry) → slice_get (stages_from p lim st entries) i ≡ Some a → slice_get (stages_from p lim st entries) j ≡ Some b
      → a.strand.made ≡ Some c → b.strand.made ≡ Some c → i ≡ j
  made_once st [] legal i j c a b at also made other = absurd (cc (at))
  made_once st (entry ∷ entries) legal zero zero c a b at also made other = refl
  made_once st (entry ∷ entries) legal zero (suc j) c a b at also made other =
      let one = found_stage (stage_of p st entry) a at in
      let first = (made_first st entry entries legal c (ap (λ (s : RunEntry). s.strand.made) one ∙ made)).1 in
      let later = made_above (move_result p lim st entry.mv).0 entries legal.2 j c b also other in
      absurd (omega (arith, first, later))
  made_once st (entry ∷ entries) legal (suc i) zero c a b at also made other =
      let one = found_stage (stage_of p st entry) b also in
      let first = (made_first st entry entries legal c (ap (λ (s : RunEntry). s.strand.made) one ∙ other)).1 in
      let later = made_above (move_result p lim st entry.mv).0 entries legal.2 i c a at made in
      absurd (omega (arith, first, later))
  made_once st (entry ∷ entries) legal (suc i) (suc j) c a b at also made other =
      ap suc (made_once (move_result p lim st entry.mv).0 entries legal.2 i j c a b at also made other)

  pub one_maker : (st : State) (entries : List Entry) → LegalFrom p lim st entries → (task m n : ℕ) → MakesTask (stages_from p lim st entries) m task → MakesTask (stages_from p lim st entries) n task → m ≡ n
  one_maker st entries legal task m n a b = made_once st entries legal m n task a.entry b.entry a.there b.there a.made b.made
