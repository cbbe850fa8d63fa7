-- An admission: who holds the task waits for it, and all entries by those on the ways to it are followed.
use Rattle.std.proofs.Common.{◌≡◌, ◌≢◌, ◌<◌, ◌≤◌, ℕ, List, length, Option, None, Some, refl, sym, ap, ◌∙◌, subst, arith}
use Rattle.std.specs.Prelude.{slice_get}
use Rattle.std.specs.List.{Contains}
use Rattle.std.proofs.lemmas.Option.{slice_get_within}
use Rattle.seg_journal.specs.declared.journal.Entry.{Entry}
use Rattle.twe_base.specs.Limits.{Bounds}
use Rattle.effect_sets.specs.Interference.{SomeInterfere}
use Rattle.effect_sets.specs.declared.effects.Effect.{Effect}
use Rattle.twe_program.specs.Program.{Program}
use Rattle.twe_program.specs.WellFormed.{IsWellFormed}
use Rattle.wait_graph.specs.Chain.{none}
use Rattle.wait_graph.specs.declared.tasks.Link.{Link}
use Rattle.wait_graph.specs.Link.{link_of}
use Rattle.wait_graph.specs.Waiting.{IsDone, WaitsFor, WaitsOn}
use Rattle.wait_graph.proofs.ChainLemmas.{Chain-append, Chain-stays}
use Rattle.machine_state.specs.declared.state.State.{State}
use Rattle.machine_state.specs.declared.state.TaskRow.{TaskRow}
use Rattle.machine_state.specs.declared.state.TaskStatus.{TaskStatus}
use Rattle.machine_state.specs.declared.state.TaskStatus.TheVariants.{Done, Enabled, Faulted, Made}
use Rattle.machine_state.specs.Legal.{Interfere, MayAdmit}
use Rattle.machine_state.specs.Rows.{HasStatus, IsRow, row_awaited}
use Rattle.machine_state.specs.Runs.{Legal, state_after}
use Rattle.machine_state.proofs.links.Ordered.{waits_up}
use Rattle.machine_state.proofs.links.TakenJoins.{row_link}
use Rattle.machine_state.proofs.lists.Places.{got_one}
use Rattle.machine_state.proofs.standing.Later.{Later}
use Rattle.machine_state.proofs.standing.Standing.{IsOver, Stands}
use Rattle.machine_state.proofs.tasks.MadeTasks.{free_by, made_row, orphan_by, yields_by}
use Rattle.machine_state.proofs.tasks.OtherTasks.{waits_row}
use Rattle.isolation_laws.proofs.rows.LinksOfRows.{enabled_undone}
use Rattle.held_span.specs.Marks.{AreMarksOf, seen_by}
use Rattle.held_span.specs.declared.marks.EffectMarks.{EffectMarks}
use Rattle.held_span.specs.Ways.{IsOnWay, RowsInterfere}
use Rattle.held_span.specs.declared.holders.Holders.{Holders}
use Rattle.held_span.specs.declared.ways.Ways.{Ways}
use Rattle.held_span.specs.inner.Freeing.{Walks}
use Rattle.held_span.specs.inner.Holding.{HoldsOne, IsLowestOf}
use Rattle.held_span.specs.inner.Noting.{low_of}
use Rattle.held_span.specs.inner.Paths.{IsPath}
use Rattle.held_span.specs.inner.Spanning.{AreLed, effect_lists}
use Rattle.held_span.specs.inner.Walking.{IsMakerOf}
use Rattle.held_span.proofs.Ancestors.{Descends, descends_up, first_step, waits_descend}
use Rattle.held_span.proofs.HeldStates.{HoldEnabled}
use Rattle.held_span.proofs.SharedKeys.{interfere_shared, shared_interfere}
use Rattle.held_span.proofs.Statuses.{one_status}
use Rattle.run_laws.proofs.orders.WaitPaths.{waited_for_by_maker}
use Rattle.held_span.proofs.WalkedWays.{walk_covers, walk_on_way}
use Rattle.span_profile.proofs.Lists.{contains_none}

-- Who waits is enabled.
module _ (p : Program) (lim : Bounds) (st : State) (stands : Stands p lim st) where
  enabled_by : (s u : ℕ) (row : TaskRow) → IsRow st s row → (link_of st.links s).waits ≡ Some u → (status : TaskStatus) → row.status ≡ status → HasStatus st s Enabled
  enabled_by s u row is waits Enabled has = (row, is, has)
  enabled_by s u row is waits Made has = absurd (let nobody = (made_row p lim st s stands (row, is, has)).0 in cc (nobody, waits))
  enabled_by s u row is waits Done has =
      let ended = (stands.rows s row is).over (subst IsOver (sym has) tt) in
      let nobody = ap (λ (l : Link). l.waits) (row_link p lim st stands s row is) ∙ ap row_awaited ended in
      absurd (cc (nobody, waits))
  enabled_by s u row is waits Faulted has =
      let ended = (stands.rows s row is).over (subst IsOver (sym has) tt) in
      let nobody = ap (λ (l : Link). l.waits) (row_link p lim st stands s row is) ∙ ap row_awaited ended in
      absurd (cc (nobody, waits))

  pub waiter_enabled : (s u : ℕ) → WaitsFor st.links s u → HasStatus st s Enabled
  waiter_enabled s u wait =
      let row = waits_row st.links st.tasks stands.links s u wait.waits in
      enabled_by s u row.0 row.1 wait.waits row.0.status refl

  pub waiter_undone : (s u : ℕ) → WaitsFor st.links s u → ¬ IsDone st.links s
  waiter_undone s u wait = enabled_undone st stands.links s (waiter_enabled s u wait)

-- Whom a task waits for, it has made.
pub made_by_waiter : (p : Program) (lim : Bounds) → IsWellFormed p → (before : List Entry) → Legal p lim before → (st : State) → st ≡ state_after p lim before → Stands p lim st
    → (ways : Ways) → AreLed before st ways → (s u : ℕ) → WaitsFor st.links s u → IsMakerOf ways.makers s u
made_by_waiter p lim well before legal st same stands ways led s u wait =
    let made = waited_for_by_maker p well lim before legal s u (subst (λ (x : State). WaitsFor x.links s u) same wait) in
    let up = (waits_up p lim st stands s u wait.waits).0 in
    record { there = led.makers s u made; some = omega (arith, up) }

module _ (p : Program) (lim : Bounds) (marks : EffectMarks) (rows : List TaskRow) (are : AreMarksOf (effect_lists rows) marks) (st : State) (stands : Stands p lim st)
    (later : Later st.tasks rows) (holders : Holders) (hold : HoldEnabled marks st holders) (t : ℕ) (may : MayAdmit st t) where
  below : (s : ℕ) (status : TaskStatus) → HasStatus st s status → s < length rows
  below s status has = let here = slice_get_within st.tasks s has.0 has.1 in let longer = later.longer in omega (arith, here, longer)

  -- tasks of the state interfere as their rows do in the end
  effects_of_row : (s : ℕ) (row now : TaskRow) → IsRow st s row → slice_get rows s ≡ Some now → now.effects.effects ≡ row.effects.effects
  effects_of_row s row now here there =
      let kept = later.kept s row here in
      ap (λ (r : TaskRow). r.effects.effects) (got_one (slice_get rows s) there kept.there) ∙ ap (λ e. e.effects) kept.effects

  interfere_here : (s : ℕ) (status : TaskStatus) → HasStatus st s status → RowsInterfere rows s t → Interfere st s t
  interfere_here s status has r =
      let first = effects_of_row s has.0 r.first has.1 r.at_first in
      let second = effects_of_row t may.0.0 r.second may.0.1 r.at_second in
      (has.0, may.0.0, has.1, may.0.1, subst (λ (l : List Effect). SomeInterfere l may.0.0.effects.effects) first (subst (λ (l : List Effect). SomeInterfere r.first.effects.effects l) second r.interfere))

  -- who leaves a mark that the task sees interferes with it, and waits for it
  pub holder_interferes : (s : ℕ) → HoldsOne holders (seen_by marks t) s → RowsInterfere rows s t
  holder_interferes s h =
      let has = (hold h.0 s).0 h.2 in
      shared_interfere rows marks are s t (below s Enabled has.0) (below t Made may.0) (h.0, has.1, h.1)

  pub holder_waits : (s : ℕ) → HoldsOne holders (seen_by marks t) s → WaitsOn st.links s t
  holder_waits s h =
      let has = (hold h.0 s).0 h.2 in
      let differ : s ≢ t = λ same. let both = one_status st t Enabled Made (subst (λ (x : ℕ). HasStatus st x Enabled) same has.0) may.0 in cc (both) in
      yields_by st s t (orphan_by st t (made_row p lim st t stands may.0).1) (may.1 s differ has.0 (interfere_here s Enabled has.0 (holder_interferes s h)))

  -- and through whom a task waits that interferes with it, that task leaves such a mark
  pub waiter_holds : (s w : ℕ) → RowsInterfere rows s t → IsOnWay st.links s t w → HoldsOne holders (seen_by marks t) s
  waiter_holds s w r way =
      let nobody = free_by st t (made_row p lim st t stands may.0).0 in
      let differ : s ≢ t = λ same. way.other (sym (Chain-stays nobody (subst (λ (x : ℕ). WaitsOn st.links x w) same way.reached))) in
      let step = first_step (Chain-append way.reached way.waits) differ in
      let shared = interfere_shared rows marks are s t r in
      (shared.0, shared.2, (hold shared.0 s).1 (waiter_enabled p lim st stands s step.0 step.1, shared.1))

  module _ (before : List Entry) (ways new : Ways) (led : AreLed before st ways) (wait : (s u : ℕ) → WaitsFor st.links s u → IsMakerOf ways.makers s u) where
    -- the tasks that the walk passes are on the way from the lowest of those that hold the task
    pub walk_ways : (low : Option ℕ) → IsLowestOf (HoldsOne holders (seen_by marks t)) low → (walk : List ℕ) → Walks ways new low t walk → (w : ℕ) → Contains walk w
        → RowsInterfere rows (low_of low) t × IsOnWay st.links (low_of low) t w × (w ≤ t)
    walk_ways None lowest walk walks w has = absurd (contains_none w (subst (λ (l : List ℕ). Contains l w) walks.0 has))
    walk_ways (Some s) lowest walk walks w has =
        let way = walk_on_way ways led.are st.links wait (waiter_undone p lim st stands) led.firsts s t (holder_waits s lowest.0) t walk none walks.0 w has in
        (holder_interferes s lowest.0, way, descends_up ways led.are (waits_descend ways led.are st.links wait way.waits))

    module _ (IsEntryBy : ℕ → ℕ → Type 0) (Kept : ℕ → ℕ → Type 0) (n : ℕ) (whole : List ℕ)
        (direct : (w : ℕ) → Contains whole w → (i : ℕ) → IsEntryBy i w → Kept i n)
        (covered : (m first : ℕ) → slice_get ways.firsts m ≡ Some first → ¬ IsDone st.links m → (w : ℕ) → Descends ways led.are w m → w ≢ m → first ≤ w
        → (i : ℕ) → IsEntryBy i w → (j : ℕ) × IsEntryBy j m × ((between : List ℕ) × IsPath Kept i between j)) where
      -- from the lowest one on
      pub low_covers : (s : ℕ) → HoldsOne holders (seen_by marks t) s → Walks ways new (Some s) t whole → (w : ℕ) → Descends ways led.are w t → w ≢ t → s ≤ w
          → (i : ℕ) → IsEntryBy i w → (between : List ℕ) × IsPath Kept i between n
      low_covers s holds walks w down other above i by =
          walk_covers ways led.are st.links wait (waiter_undone p lim st stands) led.firsts s t (holder_waits s holds) IsEntryBy Kept n whole direct covered t whole (λ x has. has) none walks.0 w down other above i by

      -- and so from each one that holds the task
      pub way_covers : (low : Option ℕ) → IsLowestOf (HoldsOne holders (seen_by marks t)) low → Walks ways new low t whole → (s w : ℕ) → RowsInterfere rows s t → IsOnWay st.links s t w
          → (i : ℕ) → IsEntryBy i w → (between : List ℕ) × IsPath Kept i between n
      way_covers None lowest walks s w r way i by = absurd (lowest s (waiter_holds s w r way))
      way_covers (Some low) lowest walks s w r way i by =
          let least = lowest.1 s (waiter_holds s w r way) in
          let up = descends_up ways led.are (waits_descend ways led.are st.links wait way.reached) in
          low_covers low lowest.0 walks w (waits_descend ways led.are st.links wait way.waits) way.other (omega (arith, least, up)) i by
