-- A run that is under way takes its next entry.
use Rattle.std.proofs.Common.{◌≡◌, ◌≢◌, ◌<◌, ◌≤◌, ◌^◌, ◌++◌, ◌⊎◌, ℕ, Bool, cond, List, [], ◌∷◌, length, Option, None, Some, Result, Ok, Err, refl, sym, ap, ◌∙◌, subst, arith}
use Rattle.std.specs.Prelude.{OnOk, slice_get, sum_by}
use Rattle.std.specs.List.{AllZip, Contains}
use Rattle.std.proofs.lemmas.List.Sums.{sum_by-cons, sum_by_push}
use Rattle.prefix_tree.specs.declared.part.Part.{Part}
use Rattle.seg_journal.specs.declared.journal.End.{End}
use Rattle.seg_journal.specs.declared.journal.End.TheVariants as ends
use Rattle.seg_journal.specs.declared.journal.Entry.{Entry}
use Rattle.seg_journal.specs.declared.moves.Kind.TheVariants.{Admit}
use Rattle.seg_journal.specs.declared.moves.Move.{Move}
use Rattle.twe_base.specs.Limits.{Bounds, IsWithin}
use Rattle.twe_program.specs.Program.{Program}
use Rattle.twe_program.specs.WellFormed.{IsWellFormed}
use Rattle.wait_graph.specs.Chain.{Chain}
use Rattle.wait_graph.specs.Waiting.{IsDone, WaitsFor, WaitsOn}
use Rattle.machine_state.specs.declared.state.State.{State}
use Rattle.machine_state.specs.declared.state.TaskRow.{TaskRow}
use Rattle.machine_state.specs.Changes.{LeavesAlone, made_by}
use Rattle.machine_state.specs.Legal.{MayMove, MayTake}
use Rattle.machine_state.specs.Moves.{move_result, start_of}
use Rattle.machine_state.proofs.standing.Later.{Later}
use Rattle.machine_state.specs.Runs.{IsReached}
use Rattle.machine_state.proofs.standing.Standing.{Stands}
use Rattle.machine_state.proofs.tasks.Movers.{mover_there}
use Rattle.held_span.specs.Marks.{seen_by}
use Rattle.held_span.specs.declared.marks.EffectMark.{EffectMark}
use Rattle.held_span.specs.declared.marks.EffectMarks.{EffectMarks}
use Rattle.span_profile.proofs.FuelTaken.{work_fits}
use Rattle.span_profile.specs.Recorders.{HasKeysOf, Records, node_with}
use Rattle.span_profile.specs.Strands.{strands}
use Rattle.span_profile.specs.Strands as entry_strands
use Rattle.span_profile.specs.declared.heaviest_chain.key.Key.{Key}
use Rattle.span_profile.specs.declared.heaviest_chain.key.Key.TheVariants.{Task}
use Rattle.span_profile.specs.declared.recording.EntryKeys.{EntryKeys}
use Rattle.span_profile.specs.heaviest_chain.Built.{FrontHolds, HasRoom}
use Rattle.span_profile.specs.heaviest_chain.Chains.{Leads}
use Rattle.span_profile.specs.heaviest_chain.Nodes.{Node, SharesKey}
use Rattle.span_profile.specs.heaviest_chain.Nodes as chain_nodes
use Rattle.span_profile.specs.inner.Shows.{Shows}
use Rattle.held_span.specs.Freed.{FreesFrom, RunEntry, stage_weight, stages}
use Rattle.held_span.specs.Ways.{IsOnWay, RowsInterfere}
use Rattle.held_span.specs.declared.freeing.Freeing.{Freeing}
use Rattle.held_span.specs.declared.notes.EntryNotes.{EntryNotes}
use Rattle.held_span.specs.declared.spanning.Spanning.{Spanning}
use Rattle.held_span.specs.inner.Freeing.{IsFreed, IsNotedBy, Walks}
use Rattle.held_span.specs.inner.Holding.{HasRoomFor, HoldsOne, IsLowestOf}
use Rattle.held_span.specs.inner.Keys.{mark_key}
use Rattle.held_span.specs.inner.Noting.{AreNoted, holder_by, low_of, noted}
use Rattle.held_span.specs.inner.Paths.{IsPath}
use Rattle.held_span.specs.inner.Spanning.{AreFollowed, AreHeld, AreLed, AreSpanned, IsEntryBy, IsSpanning, ShowsStage}
use Rattle.held_span.specs.inner.Walking.{IsMakerOf}
use Rattle.held_span.proofs.Admissions.{holder_waits, low_covers, made_by_waiter, waiter_holds, walk_ways, way_covers}
use Rattle.held_span.proofs.Ancestors.{descends_up, waits_descend}
use Rattle.held_span.proofs.Between.{weights_from}
use Rattle.held_span.proofs.FollowedStates.{followed_made, followed_on, followed_walked}
use Rattle.held_span.proofs.Further.{leads_kept, leads_last}
use Rattle.held_span.proofs.HeldStates.{HoldEnabled, held_after}
use Rattle.held_span.proofs.LedStates.{led_made, led_on, led_walked, ways_entered}
use Rattle.held_span.proofs.NotedEntries.{never_done, noted_more}
use Rattle.held_span.proofs.NotedKeys.{asked_freed, asked_same, asks_base, asks_mark, asks_task, shows_noted}
use Rattle.held_span.proofs.Paths.{path-map}
use Rattle.held_span.proofs.Plans as plans
use Rattle.held_span.proofs.SharedKeys.{AsksMark, AsksWay, IsUndone, LeadsOrFrees, task_share}
use Rattle.held_span.proofs.SpannedNodes.{spanned_more, told_new}
use Rattle.held_span.proofs.Statuses.{EnabledBy, enabled_by, ends_by_kind}
use Rattle.span_profile.proofs.Lists.{zip_length, zip_second}

-- nodes weigh as much as their entries
nodes_weigh : (tree : List (List Part)) (marks : EffectMarks) (nodes : List Node) (stages : List RunEntry) → AllZip (ShowsStage tree marks) nodes stages
    → sum_by chain_nodes.weight_of nodes ≡ sum_by stage_weight stages
nodes_weigh tree marks [] [] all = refl
nodes_weigh tree marks [] (b ∷ stages) all = absurd all
nodes_weigh tree marks (y ∷ nodes) [] all = absurd all
nodes_weigh tree marks (y ∷ nodes) (b ∷ stages) all =
    let one = all.0.weight in
    let rest = nodes_weigh tree marks nodes stages all.1 in
    let first = sum_by-cons chain_nodes.weight_of y nodes in
    let other = sum_by-cons stage_weight b stages in
    omega (arith, one, rest, first, other)

module _ (p : Program) (lim : Bounds) (well : IsWellFormed p) (marks : EffectMarks) (rows : List TaskRow) (before : List Entry) (mv : Move) (end : End) (rest : List Entry)
    (run : Spanning) (s : IsSpanning p lim marks rows before (record { mv = mv; end = end } ∷ rest) run) where
  abbrev entry : Entry
  entry = record { mv = mv; end = end }

  abbrev st : State
  st = run.st

  abbrev after : State
  after = (move_result p lim st mv).0

  pub reached : IsReached p lim st
  reached = plans.reached p lim well marks rows before mv end rest s.plan st s.same

  stands : Stands p lim st
  stands = plans.stands p lim well marks rows before mv end rest s.plan st s.same

  pub may : MayMove st mv
  may = plans.may p lim well marks rows before mv end rest s.plan st s.same

  pub end_is : (move_result p lim st mv).1 ≡ end
  end_is = plans.end_is p lim well marks rows before mv end rest s.plan st s.same

  alone : LeavesAlone p st after mv end
  alone = plans.alone p lim well marks rows before mv end rest s.plan st s.same

  abbrev stage : RunEntry
  stage = plans.stage p lim well marks rows before mv end rest s.plan st s.same

  task : stage.strand.task ≡ mv.task
  task = plans.stage_task p lim well marks rows before mv end rest s.plan st s.same

  stages_are : stages p lim (before ++ entry ∷ []) ≡ stages p lim before ++ stage ∷ []
  stages_are = plans.stages_more p lim before entry st s.same

  many : length marks.lists ≡ length rows
  many = plans.lists_count p lim marks rows (before ++ entry ∷ rest) s.plan

  same_length : length s.nodes ≡ length (stages p lim before)
  same_length = zip_length (ShowsStage s.tree marks) s.nodes (stages p lim before) s.spanned.shows

  wait : (x u : ℕ) → WaitsFor st.links x u → IsMakerOf run.freeing.ways.makers x u
  wait = made_by_waiter p lim well before (plans.legal_before p lim well marks rows before mv end rest s.plan st s.same) st s.same stands run.freeing.ways s.led

  -- What the call that notes the entry needs.

  pub mover_known : mv.task < length run.freeing.ways.makers
  mover_known = let there = mover_there st mv.kind mv.task may in let same = s.led.many in omega (arith, there, same)

  pub few_firsts : length run.freeing.ways.firsts < 2 ^ 32
  few_firsts =
      let few = s.plan.numbered.few in
      let longer = (plans.rows_later p lim well marks rows before mv end rest s.plan st s.same).longer in
      let firsts = s.led.are.as_many in
      let makers = s.led.many in
      let count = many in
      omega (arith, few, longer, firsts, makers, count)

  pub child_there : (now : State) → now ≡ after → (c : ℕ) → end ≡ ends.Made c → c < length now.links
  child_there now is c made =
      let number = alone.made c made in
      let one = ap made_by made in
      let tasks = alone.tasks in
      let linked = alone.as_many_links in
      let links = ap (λ (x : State). length x.links) is in
      omega (arith, number, one, tasks, linked, links)

  -- Once it was noted.

  module _ (first last : EntryKeys) (freeing : Freeing) (now : State) (now_is : now ≡ after) (first_end : first.end ≡ end) (keys : HasKeysOf p s.tree st mv first)
      (weight : last.weight ≡ first.weight) (room : HasRoomFor freeing.holders (length marks.rivals)) (low : Option ℕ)
      (noted_there : IsNotedBy marks now mv.task low run.freeing freeing first last first.end) where
    noted_here : IsNotedBy marks after mv.task low run.freeing freeing first last end
    noted_here =
        subst (λ (e : End). IsNotedBy marks after mv.task low run.freeing freeing first last e) first_end
        (subst (λ (x : State). IsNotedBy marks x mv.task low run.freeing freeing first last first.end) now_is noted_there)

    abbrev y : Node
    y = node_with last

    shown : (z : ShowsStage s.tree marks y stage) × (z.base ≡ node_with first)
    shown =
        shows_noted s.tree marks stage first last (subst (λ (e : End). Shows s.tree (node_with first) (entry_strands.strand_of p st (record { mv = mv; end = e }))) first_end keys)
        (plans.stage_below p lim well marks rows before mv end rest s.plan st s.same) weight after mv.task low run.freeing freeing end task
        (plans.stage_done p lim well marks rows before mv end rest s.plan st s.same) noted_here

    abbrev shows : ShowsStage s.tree marks y stage
    shows = shown.0

    held_now : AreHeld marks now freeing.holders
    held_now = record {
      room = room;
      holds = subst (λ (x : State). HoldEnabled marks x freeing.holders) (sym now_is)
          (held_after marks st after mv.task low run.freeing freeing first last end s.held.holds
          (subst (λ (e : End). EnabledBy st after mv.task e) end_is (enabled_by p lim well st mv.kind mv.task may stands)) noted_here);
    }

    -- What holds after the entry, by its end.
    record Taken : Type 0 where
      asked : (key : Key) → Contains y.asks key → Contains first.asks key ⊎ (AsksMark marks stage key ⊎ AsksWay rows (length marks.lists) (low_of low) stage key)
      asks_first : (key : Key) → Contains first.asks key → Contains y.asks key
      asks_seen : stage.kind ≡ Admit → (mark : EffectMark) → Contains (seen_by marks stage.strand.task) mark → Contains y.asks (mark_key (length marks.lists) mark)
      ways : stage.kind ≡ Admit → (x w : ℕ) → RowsInterfere rows x stage.strand.task → IsOnWay stage.links x stage.strand.task w → (i : ℕ) → IsEntryBy (stages p lim before) i w
          → (between : List ℕ) × IsPath (Leads SharesKey (s.nodes ++ y ∷ [])) i between (length s.nodes)
      led : AreLed (before ++ entry ∷ []) after freeing.ways
      followed : AreFollowed freeing.ways after.links (s.nodes ++ y ∷ []) (stages p lim before ++ stage ∷ [])

    made_stage : (c : ℕ) → stage.strand.made ≡ Some c → end ≡ ends.Made c
    made_stage = plans.stage_made p lim well marks rows before mv end rest s.plan st s.same

    never_admitted : end ≢ ends.Admitted → ¬ (stage.kind ≡ Admit)
    never_admitted other kind = other (plans.admission_end p lim well marks rows before mv end rest s.plan st s.same kind)

    -- an entry that is no admission
    taken_same : end ≢ ends.Admitted → last.asks ≡ first.asks → AreLed (before ++ entry ∷ []) after freeing.ways
        → AreFollowed freeing.ways after.links (s.nodes ++ y ∷ []) (stages p lim before ++ stage ∷ []) → Taken
    taken_same other same led followed = record {
      asked = asked_same marks stage first last rows (low_of low) same;
      asks_first = λ key has. subst (λ (l : List Key). Contains l key) (sym same) has;
      asks_seen = λ kind. absurd (never_admitted other kind);
      ways = λ kind. absurd (never_admitted other kind);
      led = led;
      followed = followed;
    }

    taken_on : end ≢ ends.Admitted → made_by end ≡ 0 → last.asks ≡ first.asks → freeing.ways ≡ run.freeing.ways → Taken
    taken_on other no_child same ways =
        taken_same other same (led_on p lim well before st stands mv end may alone run.freeing.ways s.led no_child freeing.ways ways)
        (followed_on p lim well before st stands mv end may alone run.freeing.ways s.led wait s.nodes (stages p lim before) same_length s.followed y stage task made_stage freeing.ways ways)

    -- an admission
    module _ (admitted : end ≡ ends.Admitted) (freed : IsFreed marks run.freeing.holders run.freeing.ways freeing.ways mv.task first.asks last.asks low) where
      kind : mv.kind ≡ Admit
      kind = ends_by_kind p lim well st mv.kind mv.task may stands (end_is ∙ admitted)

      may_admit : MayTake st Admit mv.task
      may_admit = subst (λ k. MayTake st k mv.task) kind may

      later : Later st.tasks rows
      later = plans.rows_later p lim well marks rows before mv end rest s.plan st s.same

      asks_ways : (w : ℕ) → Contains freed.walk w → AsksWay rows (length marks.lists) (low_of low) stage (Task w)
      asks_ways w has =
          let way = walk_ways p lim marks rows s.plan.marks_are st stands later run.freeing.holders s.held.holds mv.task may_admit before run.freeing.ways freeing.ways s.led wait
          low freed.lowest freed.walk freed.walks w has in
          let up = way.2 in
          let below = (plans.stage_below p lim well marks rows before mv end rest s.plan st s.same).task in
          let here = task in
          record {
            kind = kind;
            w = w;
            key_is = refl;
            below = omega (arith, up, below, here);
            interfere = subst (RowsInterfere rows (low_of low)) (sym task) way.0;
            way = subst (λ (t : ℕ). IsOnWay st.links (low_of low) t w) (sym task) way.1;
          }

      direct : (w : ℕ) → Contains freed.walk w → (i : ℕ) → IsEntryBy (stages p lim before) i w → Leads SharesKey (s.nodes ++ y ∷ []) i (length s.nodes)
      direct w has i by =
          let there = zip_second (ShowsStage s.tree marks) s.nodes (stages p lim before) i by.0 s.spanned.shows by.1 in
          leads_last SharesKey s.nodes y i there.0 there.1
          (task_share rows marks s.plan.marks_are many s.tree there.0 y by.0 stage there.2 shows w by.2 (asks_task marks stage first last rows freed.walk mv.task task kind freed.keys w has))

      covered : (m one : ℕ) → slice_get run.freeing.ways.firsts m ≡ Some one → ¬ IsDone st.links m → (w : ℕ) → Chain (IsMakerOf run.freeing.ways.makers) w m → w ≢ m → one ≤ w
          → (i : ℕ) → IsEntryBy (stages p lim before) i w
          → (j : ℕ) × IsEntryBy (stages p lim before) j m × ((between : List ℕ) × IsPath (Leads SharesKey (s.nodes ++ y ∷ [])) i between j)
      covered m one is undone w down other above i by =
          let old = s.followed m one is undone w down other above i by in
          (old.0, old.1, (old.2.0, path-map (Leads SharesKey s.nodes) (Leads SharesKey (s.nodes ++ y ∷ [])) (leads_kept SharesKey s.nodes y) i old.2.0 old.0 old.2.1))

      lows : (least : Option ℕ) → low ≡ least → (x : ℕ) → least ≡ Some x → HoldsOne run.freeing.holders (seen_by marks mv.task) x
      lows None is x some = absurd (cc (some))
      lows (Some z) is x some =
          let same : z ≡ x = cc (some) in
          subst (HoldsOne run.freeing.holders (seen_by marks mv.task)) same
          (subst (IsLowestOf (HoldsOne run.freeing.holders (seen_by marks mv.task))) is freed.lowest).0

      low_waits : (x : ℕ) → low ≡ Some x → (x ≤ mv.task) × WaitsOn st.links x mv.task
      low_waits x is =
          let chain = holder_waits p lim marks rows s.plan.marks_are st stands later run.freeing.holders s.held.holds mv.task may_admit x (lows low refl x is) in
          (descends_up run.freeing.ways s.led.are (waits_descend run.freeing.ways s.led.are st.links wait chain), chain)

      all_ways : (x w : ℕ) → RowsInterfere rows x mv.task → IsOnWay st.links x mv.task w → (i : ℕ) → IsEntryBy (stages p lim before) i w
          → (between : List ℕ) × IsPath (Leads SharesKey (s.nodes ++ y ∷ [])) i between (length s.nodes)
      all_ways x w r way i by =
          way_covers p lim marks rows s.plan.marks_are st stands later run.freeing.holders s.held.holds mv.task may_admit before run.freeing.ways freeing.ways s.led wait
          (IsEntryBy (stages p lim before)) (Leads SharesKey (s.nodes ++ y ∷ [])) (length s.nodes) freed.walk direct covered low freed.lowest freed.walks x w r way i by

      low_ways : (x : ℕ) → low ≡ Some x → (w : ℕ) → Chain (IsMakerOf run.freeing.ways.makers) w mv.task → w ≢ mv.task → x ≤ w → (i : ℕ) → IsEntryBy (stages p lim before) i w
          → (between : List ℕ) × IsPath (Leads SharesKey (s.nodes ++ y ∷ [])) i between (length s.nodes)
      low_ways x is w down other above i by =
          low_covers p lim marks rows s.plan.marks_are st stands later run.freeing.holders s.held.holds mv.task may_admit before run.freeing.ways freeing.ways s.led wait
          (IsEntryBy (stages p lim before)) (Leads SharesKey (s.nodes ++ y ∷ [])) (length s.nodes) freed.walk direct covered x (lows low refl x is)
          (subst (λ (low : Option ℕ). Walks run.freeing.ways freeing.ways low mv.task freed.walk) is freed.walks) w down other above i by

      -- who holds the task is no lower than the lowest
      least_by : (x : ℕ) (least : Option ℕ) → IsLowestOf (HoldsOne run.freeing.holders (seen_by marks mv.task)) least → HoldsOne run.freeing.holders (seen_by marks mv.task) x → low_of least ≤ x
      least_by x None none holds = absurd (none x holds)
      least_by x (Some y) is holds = is.1 x holds

      least_holder : (x w : ℕ) → RowsInterfere rows x mv.task → IsOnWay st.links x mv.task w → low_of low ≤ x
      least_holder x w r way = least_by x low freed.lowest (waiter_holds p lim marks rows s.plan.marks_are st stands later run.freeing.holders s.held.holds mv.task may_admit x w r way)

      taken_admitted : Taken
      taken_admitted = record {
        asked = asked_freed marks stage first last rows freed.walk mv.task task kind freed.keys (low_of low) asks_ways;
        asks_first = asks_base marks stage first last rows freed.walk mv.task task kind freed.keys;
        asks_seen = λ admission. asks_mark marks stage first last rows freed.walk mv.task task kind freed.keys;
        ways = λ admission x w r way. all_ways x w (subst (RowsInterfere rows x) task r) (subst (λ (t : ℕ). IsOnWay st.links x t w) task way);
        led = led_walked p lim well before st stands mv end may alone run.freeing.ways s.led (ap made_by admitted) low freed.walk freeing.ways low_waits freed.walks;
        followed = followed_walked p lim well before st stands mv end may alone run.freeing.ways s.led wait s.nodes (stages p lim before) same_length s.followed y stage task made_stage
            low freed.walk freeing.ways admitted freed.walks low_ways;
      }

    by_end : (e : End) → end ≡ e → IsNotedBy marks after mv.task low run.freeing freeing first last e → Taken
    by_end ends.Admitted is n = taken_admitted is n.0
    by_end (ends.Made c) is n =
        taken_same (λ same. let both : ends.Made c ≡ ends.Admitted = sym is ∙ same in cc (both)) n.0
        (led_made p lim well before st stands mv end may alone run.freeing.ways s.led c is freeing.ways n.2)
        (followed_made p lim well before st stands mv end may alone run.freeing.ways s.led wait s.nodes (stages p lim before) same_length s.followed y stage task made_stage freeing.ways
        (ways_entered run.freeing.ways mv.task s.led.are mover_known) n.2)
    by_end (ends.Waits on) is n =
        taken_on (λ same. let both : ends.Waits on ≡ ends.Admitted = sym is ∙ same in cc (both)) (ap made_by is) n.0 (ap (λ (f : Freeing). f.ways) n.2)
    by_end (ends.Joins on) is n =
        taken_on (λ same. let both : ends.Joins on ≡ ends.Admitted = sym is ∙ same in cc (both)) (ap made_by is) n.0 (ap (λ (f : Freeing). f.ways) n.2)
    by_end (ends.Done value) is n =
        taken_on (λ same. let both : ends.Done value ≡ ends.Admitted = sym is ∙ same in cc (both)) (ap made_by is) n.0 n.2
    by_end (ends.Fault kind place) is n =
        taken_on (λ same. let both : ends.Fault kind place ≡ ends.Admitted = sym is ∙ same in cc (both)) (ap made_by is) n.0 n.2

    taken : Taken
    taken = by_end end refl noted_here

    undone : (i : ℕ) (a : RunEntry) → slice_get (stages p lim before) i ≡ Some a → IsUndone (low_of low) a stage
    undone i a at w way by = never_done p lim st stands a.strand (s.noted.begun i a at) (low_of low) stage.strand.task w way by

    -- what is known of the nodes
    spanned_now : AreSpanned rows s.tree marks (s.nodes ++ y ∷ []) (stages p lim before ++ stage ∷ [])
    spanned_now =
        spanned_more rows marks s.plan.marks_are many s.tree s.nodes (stages p lim before) s.spanned y stage shows (low_of low) undone
        (λ key has. subst (λ (n : Node). Contains n.asks key ⊎ (AsksMark marks stage key ⊎ AsksWay rows (length marks.lists) (low_of low) stage key)) (sym shown.1) (taken.asked key has))
        (λ key has. taken.asks_first key (subst (λ (n : Node). Contains n.asks key) shown.1 has)) taken.asks_seen taken.ways

    -- no holder from which an entry frees the admission is lower
    least_from : (i : ℕ) (a : RunEntry) → slice_get (stages p lim before) i ≡ Some a → (x : ℕ) → FreesFrom rows x a stage → holder_by a (low_of low) ≤ x
    least_from i a at x (FreesFrom.by_end kind done is r) = let same : holder_by a (low_of low) ≡ a.strand.task = ap (λ (b : Bool). cond b a.strand.task (low_of low)) done in omega (arith, same, is)
    least_from i a at x (FreesFrom.by_wait kind w r way by) =
        let admitted = plans.admission_end p lim well marks rows before mv end rest s.plan st s.same kind in
        let freed = (subst (λ (e : End). IsNotedBy marks after mv.task low run.freeing freeing first last e) admitted noted_here).0 in
        let undone = never_done p lim st stands a.strand (s.noted.begun i a at) x stage.strand.task w way by in
        let same : holder_by a (low_of low) ≡ low_of low = ap (λ (b : Bool). cond b a.strand.task (low_of low)) undone in
        let least = least_holder admitted freed x w (subst (RowsInterfere rows x) task r) (subst (λ (t : ℕ). IsOnWay st.links x t w) task way) in
        omega (arith, same, least)

    -- and what was noted
    told_last : (i : ℕ) (x : Node) (a : RunEntry) → slice_get s.nodes i ≡ Some x → slice_get (stages p lim before) i ≡ Some a → SharesKey x y → LeadsOrFrees rows (low_of low) a stage
    told_last =
        told_new rows marks s.plan.marks_are many s.tree s.nodes (stages p lim before) s.spanned y stage shows (low_of low) undone
        (λ key has. subst (λ (n : Node). Contains n.asks key ⊎ (AsksMark marks stage key ⊎ AsksWay rows (length marks.lists) (low_of low) stage key)) (sym shown.1) (taken.asked key has))
        (λ key has. taken.asks_first key (subst (λ (n : Node). Contains n.asks key) shown.1 has)) taken.asks_seen taken.ways

    noted_now : AreNoted rows after (s.nodes ++ y ∷ []) (stages p lim before ++ stage ∷ []) (noted run.notes end low)
    noted_now =
        noted_more p lim well rows st stands mv end may end_is alone s.nodes (stages p lim before) same_length run.notes s.noted y stage refl
        (plans.stage_admits p lim well marks rows before mv end rest s.plan st s.same)
        (plans.stage_makes p lim well marks rows before mv end rest s.plan st s.same)
        (plans.stage_done p lim well marks rows before mv end rest s.plan st s.same) task low least_from told_last

    -- there is room for the entry
    pub has_room : IsWithin lim.fuel lim.tasks → HasRoom run.chains last.weight
    has_room within =
        let all = before ++ entry ∷ [] in
        let small = work_fits p lim well within all (plans.legal_more p lim well marks rows before mv end rest s.plan st s.same) in
        let same = weights_from p lim (start_of p lim) all in
        let sum = ap (sum_by stage_weight) stages_are ∙ sum_by_push stage_weight (stages p lim before) stage in
        let old = nodes_weigh s.tree marks s.nodes (stages p lim before) s.spanned.shows in
        let this = shows.weight in
        (s.nodes, s.front, omega (arith, small, same, sum, old, this))

    -- so the run goes on
    pub spans_on : (next : Spanning) → next.st ≡ now → next.freeing ≡ freeing → next.notes ≡ noted run.notes end low → Records p s.tree next.recorder
        → FrontHolds (s.nodes ++ y ∷ []) next.chains → IsSpanning p lim marks rows (before ++ entry ∷ []) rest next
    spans_on next st_is freeing_is notes_are records front =
        let here : next.st ≡ after = st_is ∙ now_is in
        record {
          plan = plans.plan_after p lim well marks rows before mv end rest s.plan st s.same;
          same = here ∙ plans.same_after p lim well marks rows before mv end rest s.plan st s.same;
          tree = s.tree;
          records = records;
          held = subst (λ (x : State). AreHeld marks x next.freeing.holders) (sym st_is) (subst (λ (f : Freeing). AreHeld marks now f.holders) (sym freeing_is) held_now);
          led = subst (λ (x : State). AreLed (before ++ entry ∷ []) x next.freeing.ways) (sym here) (subst (λ (f : Freeing). AreLed (before ++ entry ∷ []) after f.ways) (sym freeing_is) taken.led);
          nodes = s.nodes ++ y ∷ [];
          front = front;
          spanned = subst (AreSpanned rows s.tree marks (s.nodes ++ y ∷ [])) (sym stages_are) spanned_now;
          noted = subst (λ (l : List RunEntry). AreNoted rows next.st (s.nodes ++ y ∷ []) l next.notes) (sym stages_are)
              (subst (λ (x : State). AreNoted rows x (s.nodes ++ y ∷ []) (stages p lim before ++ stage ∷ []) next.notes) (sym here)
              (subst (λ (n : EntryNotes). AreNoted rows after (s.nodes ++ y ∷ []) (stages p lim before ++ stage ∷ []) n) (sym notes_are) noted_now));
          followed = subst (λ (l : List RunEntry). AreFollowed next.freeing.ways next.st.links (s.nodes ++ y ∷ []) l) (sym stages_are)
              (subst (λ (x : State). AreFollowed next.freeing.ways x.links (s.nodes ++ y ∷ []) (stages p lim before ++ stage ∷ [])) (sym here)
              (subst (λ (f : Freeing). AreFollowed f.ways after.links (s.nodes ++ y ∷ []) (stages p lim before ++ stage ∷ [])) (sym freeing_is) taken.followed));
        }

  -- also if it was not sure that the call came to an end
  pub spans_back : {T E : Type 0} (result : Result T E) (first last : EntryKeys) (freeing : Freeing) (now : State) → now ≡ after → first.end ≡ end → HasKeysOf p s.tree st mv first
      → last.weight ≡ first.weight → HasRoomFor freeing.holders (length marks.rivals) → (low : Option ℕ) → IsNotedBy marks now mv.task low run.freeing freeing first last first.end
      → (next : Spanning) → next.st ≡ now → next.freeing ≡ freeing → next.notes ≡ noted run.notes end low → Records p s.tree next.recorder
      → OnOk result (FrontHolds (s.nodes ++ node_with last ∷ []) next.chains) → OnOk result (IsSpanning p lim marks rows (before ++ entry ∷ []) rest next)
  spans_back (Ok x) first last freeing now now_is first_end keys weight room low noted_there next st_is freeing_is notes_are records front =
      spans_on first last freeing now now_is first_end keys weight room low noted_there next st_is freeing_is notes_are records front
  spans_back (Err e) first last freeing now now_is first_end keys weight room low noted_there next st_is freeing_is notes_are records front = tt
