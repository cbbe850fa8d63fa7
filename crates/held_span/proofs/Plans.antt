-- The next entry of a journal that is taken entry by entry.
use Rattle.std.proofs.Common.{◌≡◌, ◌<◌, ◌++◌, ℕ, List, [], ◌∷◌, length, Option, None, Some, append_assoc, refl, sym, ap, ◌∙◌, subst, arith}
use Rattle.std.specs.Prelude.{slice_get}
use Rattle.std.proofs.lemmas.List.{length-map}
use Rattle.seg_journal.specs.declared.journal.End.{End}
use Rattle.seg_journal.specs.declared.journal.End.TheVariants as ends
use Rattle.seg_journal.specs.declared.journal.Entry.{Entry}
use Rattle.seg_journal.specs.declared.moves.Kind.{Kind}
use Rattle.seg_journal.specs.declared.moves.Kind.TheVariants.{Admit, Run}
use Rattle.seg_journal.specs.declared.moves.Move.{Move}
use Rattle.twe_base.specs.Limits.{Bounds}
use Rattle.twe_program.specs.Program.{Program}
use Rattle.twe_program.specs.WellFormed.{IsWellFormed}
use Rattle.machine_state.specs.declared.state.State.{State}
use Rattle.machine_state.specs.declared.state.TaskRow.{TaskRow}
use Rattle.machine_state.specs.Changes.{LeavesAlone, made_by}
use Rattle.machine_state.specs.Legal.{MayMove}
use Rattle.machine_state.specs.Moves.{move_result, result_by_kind, start_of}
use Rattle.machine_state.specs.Rows.{IsRow, row_awaited}
use Rattle.span_profile.proofs.Tracking.{mover_row}
use Rattle.machine_state.specs.Runs.{IsReached, is_done, Legal, LegalFrom, replayed, state_after}
use Rattle.machine_state.proofs.links.Ordered.{waits_up}
use Rattle.machine_state.proofs.links.TakenJoins.{row_link}
use Rattle.machine_state.proofs.standing.Later.{Later}
use Rattle.machine_state.proofs.standing.LaterStates.{replayed_later}
use Rattle.machine_state.proofs.standing.ReachedStands.{linked_of, reached_stands, taken_stands}
use Rattle.machine_state.proofs.standing.SettlesNext.{as_many_links}
use Rattle.machine_state.proofs.standing.Standing.{Stands}
use Rattle.machine_state.proofs.tasks.LeftAlone.{left_alone}
use Rattle.machine_state.proofs.tasks.Movers.{mover_there}
use Rattle.wait_graph.specs.declared.tasks.Link.{Link}
use Rattle.held_span.specs.declared.marks.EffectMarks.{EffectMarks}
use Rattle.span_profile.proofs.Lists.{zip_length}
use Rattle.span_profile.specs.Strands.{admission, made_task, strand_by_kind}
use Rattle.held_span.specs.Rivals.{AreNumbersOf}
use Rattle.held_span.specs.Freed.{RunEntry, stage_of, stages, stages_from}
use Rattle.held_span.specs.inner.Spanning.{IsBelow, IsPlan, effect_lists}

module _ (p : Program) (lim : Bounds) where
  pub legal_split : (st : State) (earlier later : List Entry) → LegalFrom p lim st (earlier ++ later) → LegalFrom p lim st earlier × LegalFrom p lim (replayed p lim st earlier) later
  legal_split st [] later legal = (tt, legal)
  legal_split st (entry ∷ earlier) later legal =
      let rest = legal_split (move_result p lim st entry.mv).0 earlier later legal.2 in ((legal.0, legal.1, rest.0), rest.1)

  pub replayed_split : (st : State) (earlier later : List Entry) → replayed p lim st (earlier ++ later) ≡ replayed p lim (replayed p lim st earlier) later
  replayed_split st [] later = refl
  replayed_split st (entry ∷ earlier) later = replayed_split (move_result p lim st entry.mv).0 earlier later

  stages_on : (st : State) (journal : List Entry) (last : Entry) → stages_from p lim st (journal ++ last ∷ []) ≡ stages_from p lim st journal ++ stage_of p (replayed p lim st journal) last ∷ []
  stages_on st [] last = refl
  stages_on st (entry ∷ entries) last = ap (λ (l : List RunEntry). stage_of p st entry ∷ l) (stages_on (move_result p lim st entry.mv).0 entries last)

  pub stages_more : (before : List Entry) (entry : Entry) (st : State) → st ≡ state_after p lim before → stages p lim (before ++ entry ∷ []) ≡ stages p lim before ++ stage_of p st entry ∷ []
  stages_more before entry st same =
      stages_on (start_of p lim) before entry ∙ ap (λ (s : State). stages p lim before ++ stage_of p s entry ∷ []) (sym same)

-- What the strand of an entry says of its move.
module _ (p : Program) (st : State) (task : ℕ) (end : End) where
  pub strand_task : (kind : Kind) (found : Option TaskRow) → (strand_by_kind p st kind task found end).task ≡ task
  strand_task Admit found = refl
  strand_task Run None = refl
  strand_task Run (Some row) = refl

  -- an admission did nothing
  pub strand_admits : (kind : Kind) → kind ≡ Admit → (found : Option TaskRow) → strand_by_kind p st kind task found end ≡ admission task
  strand_admits Admit is found = refl
  strand_admits Run is found = absurd (cc (is))

  module _ (kind : Kind) (admitted : kind ≡ Admit → end ≡ ends.Admitted) (row : TaskRow) where
    pub strand_made : (found : Option TaskRow) → found ≡ Some row → (strand_by_kind p st kind task found end).made ≡ made_task end
    strand_made found is = made kind admitted found is
      where
        made : (k : Kind) → (k ≡ Admit → end ≡ ends.Admitted) → (f : Option TaskRow) → f ≡ Some row → (strand_by_kind p st k task f end).made ≡ made_task end
        made Admit admit f here = sym (ap made_task (admit refl))
        made Run admit None here = absurd (cc (here))
        made Run admit (Some other) here = refl

    pub strand_done : (found : Option TaskRow) → found ≡ Some row → (strand_by_kind p st kind task found end).done ≡ is_done end
    strand_done found is = done kind admitted found is
      where
        done : (k : Kind) → (k ≡ Admit → end ≡ ends.Admitted) → (f : Option TaskRow) → f ≡ Some row → (strand_by_kind p st k task f end).done ≡ is_done end
        done Admit admit f here = sym (ap is_done (admit refl))
        done Run admit None here = absurd (cc (here))
        done Run admit (Some other) here = refl

-- an admission ends as one
pub admits_end : (p : Program) (lim : Bounds) (st : State) (mv : Move) (end : End) → (move_result p lim st mv).1 ≡ end → mv.kind ≡ Admit → end ≡ ends.Admitted
admits_end p lim st mv end is admit = by_kind mv.kind refl admit
  where
    by_kind : (kind : Kind) → mv.kind ≡ kind → kind ≡ Admit → end ≡ ends.Admitted
    by_kind Admit same k = sym is ∙ ap (λ (k : Kind). (result_by_kind p lim st k mv.task).1) same
    by_kind Run same k = absurd (cc (k))

-- there is a list of numbers for each task
pub lists_count : (p : Program) (lim : Bounds) (marks : EffectMarks) (rows : List TaskRow) (journal : List Entry) → IsPlan p lim marks rows journal → length marks.lists ≡ length rows
lists_count p lim marks rows journal plan =
    zip_length (AreNumbersOf plan.marks_are.effects) marks.lists (effect_lists rows) plan.marks_are.lists_are ∙ length-map rows (λ (row : TaskRow). row.effects.effects)

module _ (p : Program) (lim : Bounds) (well : IsWellFormed p) (marks : EffectMarks) (rows : List TaskRow) (before : List Entry) (mv : Move) (end : End) (rest : List Entry)
    (plan : IsPlan p lim marks rows (before ++ record { mv = mv; end = end } ∷ rest)) (st : State) (same : st ≡ state_after p lim before) where
  abbrev entry : Entry
  entry = record { mv = mv; end = end }

  abbrev pub after : State
  after = (move_result p lim st mv).0

  halves : Legal p lim before × LegalFrom p lim (state_after p lim before) (entry ∷ rest)
  halves = legal_split p lim (start_of p lim) before (entry ∷ rest) plan.legal

  from_here : LegalFrom p lim st (entry ∷ rest)
  from_here = subst (λ (s : State). LegalFrom p lim s (entry ∷ rest)) (sym same) halves.1

  pub legal_before : Legal p lim before
  legal_before = halves.0

  pub reached : IsReached p lim st
  reached = record { journal = before; legal = halves.0; same = same }

  pub stands : Stands p lim st
  stands = reached_stands p lim st well reached

  pub may : MayMove st mv
  may = from_here.0

  pub end_is : (move_result p lim st mv).1 ≡ end
  end_is = from_here.1

  rows_here : rows ≡ (replayed p lim st (entry ∷ rest)).tasks
  rows_here =
      plan.rows_are ∙ ap (λ (s : State). s.tasks)
      (replayed_split p lim (start_of p lim) before (entry ∷ rest) ∙ ap (λ (s : State). replayed p lim s (entry ∷ rest)) (sym same))

  pub rows_later : Later st.tasks rows
  rows_later = subst (Later st.tasks) (sym rows_here) (replayed_later p lim st (entry ∷ rest) from_here (linked_of p lim well st stands))

  pub after_stands : Stands p lim after
  after_stands = taken_stands p lim well st mv.kind mv.task may stands

  pub rows_after : Later after.tasks rows
  rows_after = subst (Later after.tasks) (sym rows_here) (replayed_later p lim after rest from_here.2 (linked_of p lim well after after_stands))

  pub plan_after : IsPlan p lim marks rows ((before ++ entry ∷ []) ++ rest)
  plan_after = subst (IsPlan p lim marks rows) (sym (append_assoc before (entry ∷ []) rest)) plan

  pub same_after : after ≡ state_after p lim (before ++ entry ∷ [])
  same_after = ap (λ (s : State). (move_result p lim s mv).0) same ∙ sym (replayed_split p lim (start_of p lim) before (entry ∷ []))

  pub legal_more : Legal p lim (before ++ entry ∷ [])
  legal_more = (legal_split p lim (start_of p lim) (before ++ entry ∷ []) rest plan_after.legal).0

  -- What the entry did.

  abbrev pub stage : RunEntry
  stage = stage_of p st entry

  pub stage_task : stage.strand.task ≡ mv.task
  stage_task = strand_task p st mv.task end mv.kind (slice_get st.tasks mv.task)

  many : length marks.lists ≡ length rows
  many = lists_count p lim marks rows (before ++ entry ∷ rest) plan

  pub below_all : (u : ℕ) → u < length st.tasks → u < length marks.lists
  below_all u below = let longer = rows_later.longer in let same_count = many in omega (arith, below, longer, same_count)

  child_below : (c : ℕ) → end ≡ ends.Made c → c < length marks.lists
  child_below c is =
      let alone = left_alone p lim well st mv.kind mv.task may stands in
      let number = alone.made c (end_is ∙ is) in
      let one = ap made_by (end_is ∙ is) in
      let tasks = alone.tasks in
      let longer = rows_after.longer in
      let same_count = many in
      omega (arith, number, one, tasks, longer, same_count)

  taken_below : (row : TaskRow) → IsRow st mv.task row → (u : ℕ) → row_awaited row.frame.next ≡ Some u → u < length marks.lists
  taken_below row here u waits =
      let up = waits_up p lim st stands mv.task u (ap (λ (l : Link). l.waits) (row_link p lim st stands mv.task row here) ∙ waits) in
      let linked = as_many_links p lim st stands in
      below_all u (let high = up.1 in omega (arith, high, linked))

  made_child : (e : End) (c : ℕ) → made_task e ≡ Some c → e ≡ ends.Made c
  made_child ends.Admitted c is = absurd (cc (is))
  made_child (ends.Made d) c is = let one : d ≡ c = cc (is) in ap ends.Made one
  made_child (ends.Waits on) c is = absurd (cc (is))
  made_child (ends.Joins on) c is = absurd (cc (is))
  made_child (ends.Done value) c is = absurd (cc (is))
  made_child (ends.Fault kind place) c is = absurd (cc (is))

  strand_below : (kind : Kind) (found : Option TaskRow) → slice_get st.tasks mv.task ≡ found → IsBelow (length marks.lists) (strand_by_kind p st kind mv.task found end)
  strand_below Admit found is = record {
    task = below_all mv.task (mover_there st mv.kind mv.task may);
    made = λ c made. absurd (cc (made));
    taken = λ u taken. absurd (cc (taken));
  }
  strand_below Run None is = record {
    task = below_all mv.task (mover_there st mv.kind mv.task may);
    made = λ c made. absurd (cc (made));
    taken = λ u taken. absurd (cc (taken));
  }
  strand_below Run (Some row) is = record {
    task = below_all mv.task (mover_there st mv.kind mv.task may);
    made = λ c made. child_below c (made_child end c made);
    taken = λ u taken. taken_below row is u taken;
  }

  pub stage_below : IsBelow (length marks.lists) stage.strand
  stage_below = strand_below mv.kind (slice_get st.tasks mv.task) refl

  pub alone : LeavesAlone p st after mv end
  alone = subst (LeavesAlone p st after mv) end_is (left_alone p lim well st mv.kind mv.task may stands)

  -- an admission ends as one
  pub admission_end : mv.kind ≡ Admit → end ≡ ends.Admitted
  admission_end is = admits_end p lim st mv end end_is is

  -- what it has made, and whether it has ended its task
  pub stage_makes : stage.strand.made ≡ made_task end
  stage_makes = let row = mover_row st mv.kind mv.task may in strand_made p st mv.task end mv.kind admission_end row.0 (slice_get st.tasks mv.task) row.1

  pub stage_admits : stage.kind ≡ Admit → stage.strand ≡ admission mv.task
  stage_admits is = strand_admits p st mv.task end mv.kind is (slice_get st.tasks mv.task)

  pub stage_made : (c : ℕ) → stage.strand.made ≡ Some c → end ≡ ends.Made c
  stage_made c is = made_child end c (sym stage_makes ∙ is)

  pub stage_done : stage.strand.done ≡ is_done end
  stage_done = let row = mover_row st mv.kind mv.task may in strand_done p st mv.task end mv.kind admission_end row.0 (slice_get st.tasks mv.task) row.1
