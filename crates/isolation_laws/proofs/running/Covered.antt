-- Each access that a task makes while it may run is covered for it: it lies within the task's own effects, and it
-- spares the effects of each unjoined child but the one that the task's next segment joins.
use Rattle.std.proofs.Common.{◌≡◌, ◌≢◌, ℕ, ℤ, List, length, Contains, Option, Some, sym, ap, ◌∙◌, subst}
use Rattle.std.specs.Prelude.{slice_get}
use Rattle.seg_journal.specs.declared.journal.Entry.{Entry}
use Rattle.twe_base.specs.Limits.{Bounds}
use Rattle.effect_sets.specs.declared.effects.Summary.{Summary}
use Rattle.effect_sets.specs.Access.{SomeCoversAccess}
use Rattle.twe_program.specs.declared.program.Decl.{Decl}
use Rattle.twe_program.specs.Program.{Program}
use Rattle.twe_program.specs.WellFormed.{IsWellFormed}
use Rattle.seg_meaning.specs.declared.frame.Next.{Next}
use Rattle.seg_meaning.specs.declared.frame.Next.TheVariants.{Go, Get, Join, Closing, Ended}
use Rattle.seg_meaning.specs.Access.{Access}
use Rattle.seg_meaning.specs.Entry.{effects_at}
use Rattle.seg_meaning.specs.Giving.{without}
use Rattle.seg_meaning.specs.Meaning.{body_of}
use Rattle.seg_meaning.specs.Segment.{segment}
use Rattle.effect_check.proofs.Members.{IsIn, all-in, contains-in, in-contains}
use Rattle.isolation_laws.specs.soundness.DeclaredNow.{access_of}
use Rattle.isolation_laws.specs.soundness.KeepsEffects.{KeepsEffects}
use Rattle.isolation_laws.proofs.soundness.Given.{given_decl, given_runs}
use Rattle.isolation_laws.proofs.soundness.Segments.{segment_declared}
use Rattle.machine_state.specs.segment_laws.Left.{left_of}
use Rattle.machine_state.proofs.segment_laws.Following.{given_left}
use Rattle.wait_graph.specs.declared.tasks.Link.{Link}
use Rattle.wait_graph.specs.Waiting.{SpawnedBy}
use Rattle.wait_graph.proofs.WaitingLemmas.{WaitsForNobody-waits}
use Rattle.machine_state.specs.declared.state.State.{State}
use Rattle.machine_state.specs.declared.state.TaskRow.{TaskRow}
use Rattle.machine_state.specs.Legal.{MayRun}
use Rattle.machine_state.specs.Moves.{awaited_value, ready_frame}
use Rattle.machine_state.specs.Rows.{IsRow, row_awaited}
use Rattle.machine_state.specs.Runs.{IsReached, Legal}
use Rattle.machine_state.proofs.lists.Members.{contains_in, in_contains, in_without}
use Rattle.machine_state.proofs.standing.ReachedStands.{reached_stands}
use Rattle.machine_state.proofs.standing.Standing.{IsChild, Stands}
use Rattle.isolation_laws.specs.Conflicts.{AccessesAreCovered, AlwaysCovered, Makes}
use Rattle.isolation_laws.specs.CoveredNow.{WillJoin, child_to_join}
use Rattle.isolation_laws.specs.Rows.{RowsKeepToDeclarations}
use Rattle.isolation_laws.proofs.frames.Frames.{given_none, still_out}
use Rattle.isolation_laws.proofs.journals.Journals.{beginning_reached, reached_kept}
use Rattle.isolation_laws.proofs.journals.Invariant.{Kept, taker}
use Rattle.isolation_laws.proofs.rows.LinksOfRows.{link_there, spawned_row}
use Rattle.isolation_laws.proofs.paths.FuturesOut.{Reached}
use Rattle.isolation_laws.proofs.sparing.Remainders.{segment_spares}
use Rattle.isolation_laws.proofs.sparing.ChildrenOut.{left_fine}
use Rattle.isolation_laws.proofs.effects.Sparing.{Spares}
use Rattle.isolation_laws.proofs.sparing.Statements.{IsFine}

-- a child that is not the one to be joined is still out once the awaited value is taken
others_in : (u on : ℕ) (out : List ℕ) → u ≢ on → IsIn u out → IsIn u (without on out)
others_in u on out differ h = contains-in (without on out) u (in_contains (without on out) u (in_without out on u differ (contains_in out u (in-contains out u h))))

still_other : (next : Next) (u : ℕ) (out : List ℕ) → ¬ (child_to_join next ≡ Some u) → IsIn u out → IsIn u (still_out next out)
still_other Go u out other h = h
still_other (Get on into) u out other h = h
still_other (Join on into) u out other h = others_in u on out (λ e. other (ap (λ (x : ℕ). Some x) (sym e))) h
still_other (Closing on) u out other h = others_in u on out (λ e. other (ap (λ (x : ℕ). Some x) (sym e))) h
still_other Ended u out other h = h

-- the child to be joined is waited for
joins_waited : (next : Next) (u : ℕ) → child_to_join next ≡ Some u → row_awaited next ≡ Some u
joins_waited Go u e = absurd (cc)
joins_waited (Get on into) u e = absurd (cc)
joins_waited (Join on into) u e = e
joins_waited (Closing on) u e = e
joins_waited Ended u e = absurd (cc)

module _ (p : Program) (wf : IsWellFormed p) (keeps : KeepsEffects p) (lim : Bounds) (st : State) (stands : Stands p lim st) (kept : Kept p st) where
  pub keeps_declaration : RowsKeepToDeclarations p st
  keeps_declaration t row is =
      let known = stands.rows t row is in
      record { decl = known.decl; arguments = kept.runs t row is; effects = known.effects }

  -- each access of a task lies within its effects
  pub declared : (s : ℕ) (row : TaskRow) → IsRow st s row → (cells : List ℤ) (access : Access) → Makes p st row cells access
      → SomeCoversAccess row.effects.effects (access_of p access)
  declared s row is cells access here =
      let known = stands.rows s row is in
      let value = awaited_value st.tasks (row_awaited row.frame.next) in
      let runs = given_runs p row.args row.frame (kept.runs s row is) value in
      let decl : (ready_frame st.tasks row.frame).decl ≡ row.decl = given_decl row.frame value ∙ known.decl in
      let same : effects_at p (ready_frame st.tasks row.frame).decl row.args ≡ row.effects = ap (λ (n : ℕ). effects_at p n row.args) decl ∙ sym known.effects in
      subst (λ (effects : Summary). SomeCoversAccess effects.effects (access_of p access)) same
      (segment_declared p wf keeps row.args (ready_frame st.tasks row.frame) runs cells access here)

  -- if a task may run, its next segment joins the child that its frame waits to join
  will_join : (t c : ℕ) (row : TaskRow) → IsRow st t row → MayRun st t → child_to_join row.frame.next ≡ Some c → WillJoin st row c
  will_join t c row is may joins =
      (joins, (WaitsForNobody-waits st.links t).0 may.1 c (ap (λ (l : Link). l.waits) (link_there st stands.links t row is) ∙ joins_waited row.frame.next c joins))

  child_out : (t c : ℕ) (row : TaskRow) → IsRow st t row → MayRun st t → SpawnedBy st.links c t → ¬ WillJoin st row c → IsIn c (still_out row.frame.next row.frame.out.items)
  child_out t c row is may by other =
      let found = spawned_row st stands.links c t by in
      let known : IsChild st.tasks t c = record { row = found.0; there = found.1; parent = found.2; unjoined = found.3 } in
      let listed = subst (λ (out : List ℕ). Contains out c) (stands.rows t row is).out ((stands.children t row is c).1 known) in
      still_other row.frame.next c row.frame.out.items (λ joins. other (will_join t c row is may joins)) (contains-in row.frame.out.items c listed)

  -- if a task may run, none of its accesses interferes with an effect of another unjoined child
  pub spared : (t c : ℕ) (row child : TaskRow) → IsRow st t row → IsRow st c child → MayRun st t → SpawnedBy st.links c t → ¬ WillJoin st row c
      → (cells : List ℤ) (access : Access) → Makes p st row cells access → Spares child.effects.effects (access_of p access)
  spared t c row child is is_c may by other cells access here =
      let value = awaited_value st.tasks (row_awaited row.frame.next) in
      let decl = taker (slice_get p.tasks row.frame.decl) (length row.args) (kept.runs t row is).count in
      let es = child.effects.effects in
      let all = segment_spares p wf keeps es decl.0 (ready_frame st.tasks row.frame) cells (λ some.
      let path = kept.paths t row is (λ none. some (given_none row.frame value none)) in
      let out = path.children c child (child_out t c row is may by other) is_c in
      let reached = subst (λ (o : Option Decl). Reached (body_of o) (left_of p row.frame) path.path) decl.1 path.reached in
      subst (IsFine p es decl.0) (sym (given_left p row.frame value))
      (left_fine p wf keeps decl.0 row.frame.decl decl.1 row.frame.futures path.path c child.effects out (left_of p row.frame) reached)) in
      all-in (λ (a : Access). Spares es (access_of p a)) (segment p (ready_frame st.tasks row.frame) cells).accesses all access (contains-in _ access here)

  covered_now : AccessesAreCovered p st
  covered_now t row is may cells access here = record {
    row = row;
    there = is;
    declared = declared t row is cells access here;
    free = λ c child is_c by other. spared t c row child is is_c may by other cells access here;
  }

module _ (p : Program) (wf : IsWellFormed p) (keeps : KeepsEffects p) (lim : Bounds) (st : State) (reached : IsReached p lim st) where
  pub reached_covered : AccessesAreCovered p st
  reached_covered = covered_now p wf keeps lim st (reached_stands p lim st wf reached) (reached_kept p wf keeps lim st reached)

  pub reached_declarations : RowsKeepToDeclarations p st
  reached_declarations = keeps_declaration p wf keeps lim st (reached_stands p lim st wf reached) (reached_kept p wf keeps lim st reached)

pub runs_covered : (p : Program) → IsWellFormed p → KeepsEffects p → (lim : Bounds) (journal : List Entry) → Legal p lim journal → AlwaysCovered p lim journal
runs_covered p wf keeps lim journal legal n within = reached_covered p wf keeps lim _ (beginning_reached p lim journal legal n)
