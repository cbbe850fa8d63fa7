-- In each reached state, what deterministic tasks spawned is deterministic, and they wait only for what they spawned.
use Rattle.std.proofs.Common.{◌≡◌, ◌≢◌, ◌⊎◌, ◌≤◌, ◌<◌, ℕ, zero, suc, Bool, true, false, IsTrue, List, [], ◌∷◌, ◌++◌, length, Contains, Option, None, Some, inl, inr, refl, sym, ap, ◌∙◌, subst, arith}
use Rattle.std.specs.Prelude.{slice_get}
use Rattle.std.proofs.lemmas.Bool.{cases_eq, cases_lt}
use Rattle.effect_check.specs.Acts.{is_deterministic}
use Rattle.effect_check.proofs.Members.{IsIn, in-contains}
use Rattle.seg_journal.specs.declared.journal.End.{End}
use Rattle.seg_journal.specs.declared.journal.Entry.{Entry}
use Rattle.seg_journal.specs.declared.moves.Kind.{Kind}
use Rattle.seg_journal.specs.declared.moves.Kind.TheVariants.{Admit, Run}
use Rattle.twe_base.specs.Limits.{Bounds}
use Rattle.twe_program.specs.Program.{Program}
use Rattle.twe_program.specs.WellFormed.{IsWellFormed}
use Rattle.seg_meaning.specs.declared.frame.Frame.{Frame}
use Rattle.seg_meaning.specs.declared.frame.Next.{Next}
use Rattle.seg_meaning.specs.declared.frame.Next.TheVariants.{Go, Get, Join, Closing, Ended}
use Rattle.seg_meaning.specs.declared.stop.Stop.{Stop}
use Rattle.seg_meaning.specs.declared.stop.Stop.TheVariants as ends
use Rattle.seg_meaning.specs.Entry.{effects_at, entry_frame}
use Rattle.seg_meaning.specs.Giving.{given}
use Rattle.machine_state.specs.segment_laws.Keeps.{IsClosing, NextAfter}
use Rattle.machine_state.proofs.segment_laws.Following.{makes_follow}
use Rattle.machine_state.proofs.segment_laws.SegmentKept.{segment_keeps}
use Rattle.isolation_laws.specs.soundness.KeepsEffects.{KeepsEffects}
use Rattle.wait_graph.specs.declared.tasks.Link.{Link}
use Rattle.machine_state.specs.declared.state.State.{State}
use Rattle.machine_state.specs.declared.state.TaskRow.{TaskRow}
use Rattle.seg_journal.specs.declared.moves.Move.{Move}
use Rattle.machine_state.specs.Legal.{MayMove, MayTake}
use Rattle.machine_state.specs.Moves.{awaited_value, frame_without_prints, making_frame, move_result, new_row, parent_of, ready_frame, result_by_kind, start_of}
use Rattle.machine_state.specs.Rows.{IsRow, row_awaited}
use Rattle.machine_state.specs.Runs.{IsReached, LegalFrom, entry_of, replayed}
use Rattle.machine_state.proofs.standing.Later.{Later}
use Rattle.machine_state.proofs.standing.LaterStates.{taken_later}
use Rattle.machine_state.proofs.tasks.OtherRows.{row_after}
use Rattle.machine_state.proofs.lists.Places.{below_there, got_one}
use Rattle.machine_state.proofs.standing.ReachedStands.{linked_of, reached_stands, taken_stands}
use Rattle.machine_state.proofs.replays.Replayed.{run_more}
use Rattle.machine_state.proofs.standing.Standing.{Stands}
use Rattle.isolation_laws.proofs.journals.Invariant.{Kept}
use Rattle.isolation_laws.proofs.journals.Journals.{reached_kept}
use Rattle.isolation_laws.proofs.rows.LinksOfRows.{link_there}
use Rattle.determinism_laws.specs.Deterministic.{ChildrenAreDeterministic, IsDeterministic, WaitsAreForChildren}
use Rattle.determinism_laws.proofs.BodyRules.{makes_deterministic, never_gets}
use Rattle.determinism_laws.proofs.NewTasks.{FrameAfter, FrameAfterMove, left_by, move_frame, move_row}
use Rattle.determinism_laws.proofs.OutFrames.{OutOnPath, joins_child, out_after_join, out_after_spawn, out_at_entry}

-- The frame of a deterministic task: its next operation is not to get a value, a written join is of an unjoined child, and
-- the futures that are out stand for unjoined children.
pub record ForkFrame (p : Program) (frame : Frame) : Type 0 where
  pub no_gets : (on : ℕ) (into : Option ℕ) → ¬ (frame.next ≡ Get on into)
  pub joins : (on : ℕ) (into : Option ℕ) → frame.next ≡ Join on into → IsIn on frame.out.items
  pub out : ¬ (frame.body ≡ None) → OutOnPath p frame

-- The invariant: the children of a deterministic task are deterministic, and its frame forks and joins.
pub record Forks (p : Program) (st : State) : Type 0 where
  pub children : ChildrenAreDeterministic p st
  pub frames : (t : ℕ) (row : TaskRow) → IsRow st t row → IsDeterministic p row → ForkFrame p row.frame

-- whether a row is of a deterministic task depends on its declaration alone
pub same_flag : (p : Program) (a b : TaskRow) → a.decl ≡ b.decl → IsDeterministic p a → IsDeterministic p b
same_flag p a b same flag = subst (λ (n : ℕ). IsTrue (is_deterministic (slice_get p.tasks n))) same flag

-- who has a parent was spawned
pub the_parent : (t q : ℕ) (spawned : Bool) → parent_of t spawned ≡ Some q → t ≡ q
the_parent t q true e = cc (e)
the_parent t q false e = absurd (cc (e))

module _ (p : Program) (wf : IsWellFormed p) (keeps : KeepsEffects p) (lim : Bounds) (st : State) (stands : Stands p lim st) (kept : Kept p st) (forks : Forks p st)
    (kind : Kind) (t : ℕ) (may : MayTake st kind t) where
  abbrev new : State
  new = (result_by_kind p lim st kind t).0

  new_stands : Stands p lim new
  new_stands = taken_stands p lim wf st kind t may stands

  later : Later st.tasks new.tasks
  later = taken_later p lim st kind t (linked_of p lim wf st stands)

  -- a row that was there before has its declaration and its parent
  same_task : (u : ℕ) (a b : TaskRow) → IsRow st u a → IsRow new u b → (b.decl ≡ a.decl) × (b.parent ≡ a.parent)
  same_task u a b before after =
      let kept_row = later.kept u a before in
      let same : b ≡ kept_row.now = got_one (slice_get new.tasks u) after kept_row.there in
      (ap (λ (r : TaskRow). r.decl) same ∙ kept_row.decl, ap (λ (r : TaskRow). r.parent) same ∙ kept_row.parent)

  new_child : (c q : ℕ) (child row : TaskRow) → length st.tasks ≤ c → IsRow new c child → IsRow new q row → child.parent ≡ Some q → IsDeterministic p row → IsDeterministic p child
  new_child c q child row past is_c is_q of flag =
      let made = move_row p lim st stands t kind c past child is_c in
      let makes = made.makes in
      let same : t ≡ q = the_parent t q makes.spawned (sym makes.parent ∙ of) in
      let own : IsRow new t row = subst (λ (n : ℕ). IsRow new n row) (sym same) is_q in
      let maker = same_flag p row made.row (same_task t made.row row made.there own).0 flag in
      let only = makes_deterministic p keeps lim st stands kept t made.row made.there maker makes.child makes.args makes.effects makes.spawned makes.future makes.place makes.stops_at in
      subst (λ (n : ℕ). IsTrue (is_deterministic (slice_get p.tasks n))) (sym makes.decl) only.1

  children_new : ChildrenAreDeterministic p new
  children_new c q child row is_c is_q of flag =
      elim (cases_lt c (length st.tasks)) [
        | inl before ↦
            let a = below_there st.tasks c before in
            let same_c = same_task c a.0 child a.1 is_c in
            let above : q < c = (new_stands.rows c child is_c).parent q of in
            let b = below_there st.tasks q (omega (arith, above, before)) in
            let same_q = same_task q b.0 row b.1 is_q in
            same_flag p a.0 child (sym same_c.0) (forks.children c q a.0 b.0 a.1 b.1 (sym same_c.1 ∙ of) (same_flag p row b.0 same_q.0 flag))
        | inr past ↦ new_child c q child row past is_c is_q of flag
      ]

  -- the frame of a task that moved

  abbrev left : TaskRow → Frame
  left row = (left_by p st row).frame

  waiting : (row : TaskRow) → IsRow st t row → IsDeterministic p row → (stop : Stop) → (left_by p st row).stop ≡ stop → NextAfter stop (left row)
  waiting row is flag stop e = subst (λ (s : Stop). NextAfter s (left row)) e (segment_keeps p (ready_frame st.tasks row.frame) st.cells).next

  known : (row : TaskRow) → IsRow st t row → IsDeterministic p row → ¬ (row.frame.body ≡ None) → OutOnPath p row.frame
  known row is flag = (forks.frames t row is flag).out

  -- a frame that goes on, waits for nobody, or has ended
  calm : (frame : Frame) (next : Next) → frame.next ≡ next → row_awaited next ≡ None → (¬ (frame.body ≡ None) → OutOnPath p frame) → ForkFrame p frame
  calm frame next is none out = record {
    no_gets = λ on into get. let some = ap row_awaited (sym is ∙ get) in cc (some, none);
    joins = λ on into join. let some = ap row_awaited (sym is ∙ join) in absurd (cc (some, none));
    out = out;
  }

  ended_frame : (frame : Frame) (next : Next) → frame.next ≡ next → row_awaited next ≡ None → frame.body ≡ None → ForkFrame p frame
  ended_frame frame next is none body = calm frame next is none (λ some. absurd (some body))

  joining : (row : TaskRow) → (is : IsRow st t row) → (flag : IsDeterministic p row) → (on : ℕ) → ((into : Option ℕ) × ((left row).next ≡ Join on into)) ⊎ IsClosing (left row) on
      → ForkFrame p (frame_without_prints (left row))
  joining row is flag on (inl next) = record {
    no_gets = λ other into get. let both : Join on next.0 ≡ Get other into = sym next.1 ∙ get in cc (both);
    joins = λ other into join. joins_child p keeps lim st stands kept t row is flag (known row is flag) other into join;
    out = λ some. out_after_join p keeps lim st stands kept t row is flag (known row is flag) on next.0 next.1;
  }
  joining row is flag on (inr closing) = record {
    no_gets = λ other into get. let both : Closing on ≡ Get other into = sym closing.next ∙ get in cc (both);
    joins = λ other into join. let both : Closing on ≡ Join other into = sym closing.next ∙ join in absurd (cc (both));
    out = λ some. absurd (some closing.body);
  }

  -- what a segment leaves, by how it stopped
  left_frame : (row now : TaskRow) → IsRow st t row → IsDeterministic p row → (stop : Stop) → (left_by p st row).stop ≡ stop → (end : End) → FrameAfter stop (left row) end now → ForkFrame p now.frame
  left_frame row now is flag (ends.Make child args effects spawned future place) e end (inl made) =
      let only = makes_deterministic p keeps lim st stands kept t row is flag child args effects spawned future place e in
      let stop = e ∙ ap (λ (b : Bool). ends.Make child args effects b future place) only.0 in
      let next = waiting row is flag (ends.Make child args effects spawned future place) e in
      let maker = frame_without_prints (making_frame future true made.0 (left row)) in
      let fork = calm maker Go next refl (λ some. out_after_spawn p keeps lim st stands kept t row is flag (known row is flag) made.0 child args effects future place stop) in
      subst (ForkFrame p) (sym (made.1 ∙ ap (λ (b : Bool). frame_without_prints (making_frame future b made.0 (left row))) only.0)) fork
  left_frame row now is flag (ends.Make child args effects spawned future place) e end (inr faulted) = ended_frame now.frame Ended faulted.1 refl faulted.0
  left_frame row now is flag (ends.Waits on) e end same =
      let next = waiting row is flag (ends.Waits on) e in
      absurd (never_gets p keeps lim st stands kept t row is flag on next.0 next.1)
  left_frame row now is flag (ends.Joins on) e end same = subst (ForkFrame p) (sym same) (joining row is flag on (waiting row is flag (ends.Joins on) e))
  left_frame row now is flag (ends.Done value) e end same =
      let next = waiting row is flag (ends.Done value) e in
      subst (ForkFrame p) (sym same) (ended_frame (frame_without_prints (left row)) Ended next.0 refl next.1)
  left_frame row now is flag (ends.Fault kind_of place) e end same =
      let next = waiting row is flag (ends.Fault kind_of place) e in
      subst (ForkFrame p) (sym same) (ended_frame (frame_without_prints (left row)) Ended next.0 refl next.1)

  own_frame : (k : Kind) → (row now : TaskRow) → IsRow st t row → IsDeterministic p row → (end : End) → FrameAfterMove p st k row end now → ForkFrame p now.frame
  own_frame Admit row now is flag end same = subst (ForkFrame p) (sym same) (forks.frames t row is flag)
  own_frame Run row now is flag end after = left_frame row now is flag (left_by p st row).stop refl end after

  -- a row of another task
  other_frame : (u : ℕ) (a b : TaskRow) → u ≢ t → IsRow st u a → IsRow new u b → b.frame ≡ a.frame
  other_frame u a b other before after =
      elim (row_after p lim st t u other a before kind) [
        | inl stays ↦ ap (λ (r : TaskRow). r.frame) (got_one (slice_get new.tasks u) after stays.1)
        | inr marked ↦ ap (λ (r : TaskRow). r.frame) (got_one (slice_get new.tasks u) after marked.1)
      ]

  -- a new row begins with its body
  new_frame : (u : ℕ) (b : TaskRow) → length st.tasks ≤ u → IsRow new u b → ForkFrame p b.frame
  new_frame u b past after =
      let made = move_row p lim st stands t kind u past b after in
      let makes = made.makes in
      let value = awaited_value st.tasks (row_awaited made.row.frame.next) in
      let comes = makes_follow p (given made.row.frame value) st.cells [] makes.child makes.args makes.effects makes.spawned makes.future makes.place makes.stops_at in
      let first = record (entry_frame p comes.task makes.args) { task = u; fuel = lim.fuel } in
      let same : b.frame ≡ first = makes.frame ∙ ap (λ (f : Frame). record f { task = u; fuel = lim.fuel }) comes.child_is in
      subst (ForkFrame p) (sym same) (calm first Go refl refl (λ some. out_at_entry p comes.task makes.args u lim.fuel))

  old_frame : (u : ℕ) (a b : TaskRow) → IsRow st u a → IsRow new u b → IsDeterministic p b → ForkFrame p b.frame
  old_frame u a b before after flag =
      let was = same_flag p b a (same_task u a b before after).0 flag in
      elim (cases_eq u t) [
        | inl own ↦
            let before_t = subst (λ (n : ℕ). IsRow st n a) own before in
            let after_t = subst (λ (n : ℕ). IsRow new n b) own after in
            own_frame kind a b before_t was (result_by_kind p lim st kind t).1 (move_frame p lim st stands t kind may a b before_t after_t)
        | inr other ↦ subst (ForkFrame p) (sym (other_frame u a b other before after)) (forks.frames u a before was)
      ]

  frames_new : (u : ℕ) (b : TaskRow) → IsRow new u b → IsDeterministic p b → ForkFrame p b.frame
  frames_new u b after flag =
      elim (cases_lt u (length st.tasks)) [
        | inl before ↦ let a = below_there st.tasks u before in old_frame u a.0 b a.1 after flag
        | inr past ↦ new_frame u b past after
      ]

  pub move_forks : Forks p new
  move_forks = record { children = children_new; frames = frames_new }

module _ (p : Program) (wf : IsWellFormed p) (keeps : KeepsEffects p) (lim : Bounds) where
  abbrev first : TaskRow
  first = new_row lim 0 None (entry_frame p p.main []) [] (effects_at p p.main [])

  first_is : (t : ℕ) (row : TaskRow) → IsRow (start_of p lim) t row → first ≡ row
  first_is zero row is = let same : first ≡ row = cc in same
  first_is (suc t) row is = absurd (cc (is))

  first_frame : ForkFrame p first.frame
  first_frame = record {
    no_gets = λ on into get. cc (get);
    joins = λ on into join. absurd (cc (join));
    out = λ some. out_at_entry p p.main [] 0 lim.fuel;
  }

  start_forks : Forks p (start_of p lim)
  start_forks = record {
    children = λ c t child row is_c is_t of. let none = ap (λ (r : TaskRow). r.parent) (first_is c child is_c) in absurd (cc (none, of));
    frames = λ t row is flag. subst (λ (r : TaskRow). ForkFrame p r.frame) (first_is t row is) first_frame;
  }

  reached_more : (st : State) (mv : Move) → IsReached p lim st → MayMove st mv → IsReached p lim (move_result p lim st mv).0
  reached_more st mv reached may =
      let run = run_more p lim reached.journal st mv (record { legal = reached.legal; same = reached.same }) may in
      record { journal = reached.journal ++ entry_of p lim st mv ∷ []; legal = run.legal; same = run.same }

  run_forks : (journal : List Entry) (st : State) → LegalFrom p lim st journal → IsReached p lim st → Forks p st → Forks p (replayed p lim st journal)
  run_forks [] st legal reached forks = forks
  run_forks (entry ∷ journal) st legal reached forks =
      run_forks journal (move_result p lim st entry.mv).0 legal.2 (reached_more st entry.mv reached legal.0)
      (move_forks p wf keeps lim st (reached_stands p lim st wf reached) (reached_kept p wf keeps lim st reached) forks entry.mv.kind entry.mv.task legal.0)

  pub reached_forks : (st : State) → IsReached p lim st → Forks p st
  reached_forks st reached =
      subst (Forks p) (sym reached.same)
      (run_forks reached.journal (start_of p lim) reached.legal (record { journal = []; legal = tt; same = refl }) start_forks)

  -- What follows.

  pub children_deterministic : (st : State) → IsReached p lim st → ChildrenAreDeterministic p st
  children_deterministic st reached = (reached_forks st reached).children

  child_awaited : (st : State) → IsReached p lim st → (t on : ℕ) (row : TaskRow) → IsRow st t row → IsDeterministic p row
      → (next : Next) → row.frame.next ≡ next → row_awaited next ≡ Some on → (child : TaskRow) × IsRow st on child × (child.parent ≡ Some t)
  child_awaited st reached t on row is flag Go e waits = absurd (cc (waits))
  child_awaited st reached t on row is flag (Get other into) e waits = absurd (((reached_forks st reached).frames t row is flag).no_gets other into e)
  child_awaited st reached t on row is flag (Join other into) e waits =
      let made = ((reached_stands p lim st wf reached).rows t row is).frame.joining other into e in
      let same : other ≡ on = cc (waits) in
      (made.row, subst (λ (n : ℕ). IsRow st n made.row) same made.there, made.parent_is)
  child_awaited st reached t on row is flag (Closing other) e waits =
      let made = ((reached_stands p lim st wf reached).rows t row is).frame.awaited_child other e in
      let same : other ≡ on = cc (waits) in
      (made.row, subst (λ (n : ℕ). IsRow st n made.row) same made.there, made.parent_is)
  child_awaited st reached t on row is flag Ended e waits = absurd (cc (waits))

  pub awaited_row : (st : State) → IsReached p lim st → (t on : ℕ) (row : TaskRow) → IsRow st t row → IsDeterministic p row
      → row_awaited row.frame.next ≡ Some on → (child : TaskRow) × IsRow st on child × (child.parent ≡ Some t)
  awaited_row st reached t on row is flag waits = child_awaited st reached t on row is flag row.frame.next refl waits

  -- each child that is waited for is unjoined
  child_listed : (st : State) → IsReached p lim st → (t on : ℕ) (row : TaskRow) → IsRow st t row → IsDeterministic p row
      → (next : Next) → row.frame.next ≡ next → row_awaited next ≡ Some on → IsIn on row.frame.out.items
  child_listed st reached t on row is flag Go e waits = absurd (cc (waits))
  child_listed st reached t on row is flag (Get other into) e waits = absurd (((reached_forks st reached).frames t row is flag).no_gets other into e)
  child_listed st reached t on row is flag (Join other into) e waits =
      let same : other ≡ on = cc (waits) in
      subst (λ (n : ℕ). IsIn n row.frame.out.items) same (((reached_forks st reached).frames t row is flag).joins other into e)
  child_listed st reached t on row is flag (Closing other) e waits =
      let same : other ≡ on = cc (waits) in
      let closing = ((reached_stands p lim st wf reached).rows t row is).frame.closing other e in
      subst (λ (n : ℕ). IsIn n row.frame.out.items) same (subst (IsIn other) (sym closing.out) (inl refl))
  child_listed st reached t on row is flag Ended e waits = absurd (cc (waits))

  pub waits_for_children : (st : State) → IsReached p lim st → WaitsAreForChildren p st
  waits_for_children st reached t on row is flag waits =
      let stands = reached_stands p lim st wf reached in
      let listed = in-contains row.frame.out.items on (child_listed st reached t on row is flag row.frame.next refl waits) in
      let child = (stands.children t row is on).0 (subst (λ (out : List ℕ). Contains out on) (sym (stands.rows t row is).out) listed) in
      let link = link_there st stands.links on child.row child.there in
      record { parent = ap (λ (l : Link). l.parent) link ∙ child.parent; unjoined = ap (λ (l : Link). l.joined) link ∙ child.unjoined }
