-- Committing a draft that fits is taking legal moves.
use Rattle.std.proofs.Common.{◌≡◌, ◌+◌, ◌-◌, ◌++◌, ◌<◌, ℕ, ℤ, List, [], ◌∷◌, length, None, Some, refl, sym, ap, ◌∙◌, subst, inl, inr, arith, append_assoc, length-append}
use Rattle.std.specs.List.{All}
use Rattle.std.specs.Prelude.{slice_get, slice_set}
use Rattle.seg_journal.specs.declared.journal.End.{End}
use Rattle.seg_journal.specs.declared.journal.Entry.{Entry}
use Rattle.seg_journal.specs.declared.moves.Kind.TheVariants as kinds
use Rattle.seg_journal.specs.declared.moves.Move.{Move}
use Rattle.twe_base.specs.Limits.{Bounds, IsWithin}
use Rattle.wait_graph.specs.declared.tasks.Link.{Link}
use Rattle.wait_graph.specs.Link.{link_of}
use Rattle.wait_graph.specs.Waiting.{WaitsFor}
use Rattle.twe_program.specs.Program.{Program}
use Rattle.twe_program.specs.WellFormed.{IsWellFormed}
use Rattle.seg_meaning.specs.declared.frame.Frame.{Frame}
use Rattle.seg_meaning.specs.declared.frame.Next.{Next}
use Rattle.seg_meaning.specs.declared.frame.Next.TheVariants.{Go}
use Rattle.seg_meaning.specs.Access.{after}
use Rattle.seg_meaning.specs.Giving.{given_by}
use Rattle.seg_meaning.specs.Segment.{Stopped, segment}
use Rattle.seg_meaning.proofs.Determined.{segment_agrees, segment_determined}
use Rattle.twe_machine.specs.declared.enabled_tasks.EnabledTasks.{EnabledTasks}
use Rattle.machine_state.specs.declared.state.State.{State}
use Rattle.machine_state.specs.declared.state.TaskRow.{TaskRow}
use Rattle.machine_state.specs.declared.state.TaskStatus.{TaskStatus}
use Rattle.machine_state.specs.declared.state.TaskStatus.TheVariants.{Made, Enabled}
use Rattle.machine_state.specs.Legal.{MayMove, MayRun}
use Rattle.twe_machine.specs.Listings.{IsListing, WasListing}
use Rattle.machine_state.specs.Moves.{MaySettle, admitted, admitted_row, awaited_value, move_result, ran, ready_frame, settling_result}
use Rattle.machine_state.specs.Rows.{HasStatus, IsRow, row_awaited, link_of_row}
use Rattle.machine_state.specs.Runs.{IsReached, IsRun, entry_of}
use Rattle.machine_state.proofs.links.Linked.{link_at}
use Rattle.machine_state.proofs.links.LinksAgree.{status_of}
use Rattle.twe_machine.proofs.listing.Listed.{was_listed}
use Rattle.machine_state.proofs.lists.Places.{got_one, set_same}
use Rattle.machine_state.proofs.standing.ReachedStands.{reached_stands}
use Rattle.machine_state.proofs.replays.Replayed.{run_more}
use Rattle.machine_state.proofs.standing.SettlesNext.{may_settle, settles_with}
use Rattle.opt_engine.specs.declared.core_run.CoreRun.{CoreRun}
use Rattle.opt_engine.specs.declared.drafts.Drafted.{Drafted}
use Rattle.opt_engine.specs.declared.touch.CellValue.{CellValue}
use Rattle.opt_engine.specs.Drafts.{Fits, IsDraftedOf, StandsIn}
use Rattle.opt_engine.specs.Touches.{first_reads, last_writes, with_writes}
use Rattle.opt_engine.specs.Verdicts.{AreLegalFrom, IsFree, Takes, entries_from, moves_of, state_from}
use Rattle.opt_engine.specs.Taking.{TakingSteps}
use Rattle.opt_engine.specs.inner.Judging.{Admits}
use Rattle.opt_engine.proofs.Drafting.{may_access}
use Rattle.opt_engine.proofs.Places.{Each, all_each, each_all, each_weaker}
use Rattle.opt_engine.proofs.Touched.{agrees_too, reads_below, writes_below, writes_make}

pub reached_by : (p : Program) (lim : Bounds) (run : CoreRun) → IsRun p lim run.journal run.state → IsReached p lim run.state
reached_by p lim run is = record { journal = run.journal; legal = is.legal; same = is.same }

-- a legal move was taken
pub steps_is : (p : Program) (lim : Bounds) (old new : CoreRun) (mv : Move) (end : End) → IsRun p lim old.journal old.state → MayMove old.state mv
    → (new.state, end) ≡ move_result p lim old.state mv → new.journal ≡ old.journal ++ record { mv = mv; end = end } ∷ [] → TakingSteps p lim old mv new
steps_is p lim old new mv end run may moved pushed =
    let state : new.state ≡ (move_result p lim old.state mv).0 = ap (λ (x : State × End). x.0) moved in
    let journal : new.journal ≡ old.journal ++ entry_of p lim old.state mv ∷ [] =
    pushed ∙ ap (λ (e : End). old.journal ++ record { mv = mv; end = e } ∷ []) (ap (λ (x : State × End). x.1) moved) in
    record {
      run_is = subst (λ (x : List Entry × State). IsRun p lim x.0 x.1) (λ i. (sym journal i, sym state i)) (run_more p lim old.journal old.state mv run may);
      journal = journal;
      state = state;
    }

-- the enabled tasks are those of the run before the move
pub was_known : (p : Program) (lim : Bounds) (old new : CoreRun) (mv : Move) (before : ℕ) (enabled : EnabledTasks) → IsWellFormed p → IsRun p lim old.journal old.state
    → MayMove old.state mv → TakingSteps p lim old mv new → before ≡ length old.state.links → IsListing old.state enabled → WasListing new.state mv before enabled
was_known p lim old new mv before enabled well run may steps count listing =
    was_listed p lim old.state new.state mv before enabled well (reached_by p lim old run) may steps.state count listing

-- the entry of the move is the last
pub last_is : (p : Program) (lim : Bounds) (old new : CoreRun) (mv : Move) (len number : ℕ) → TakingSteps p lim old mv new → len ≡ length new.journal → number ≡ len - 1 → number + 1 ≡ length new.journal
last_is p lim old new mv len number steps counted less =
    let whole : length new.journal ≡ length old.journal + 1 = ap length steps.journal ∙ length-append old.journal (entry_of p lim old.state mv ∷ []) in
    omega (arith, whole, counted, less)

module _ (p : Program) (lim : Bounds) (st : State) (d : Drafted) (well : IsWellFormed p) (reached : IsReached p lim st) (is : IsDraftedOf p d) where
  -- the segment of the draft
  abbrev left : Stopped
  left = segment p is.draft.frame is.draft.cells

  long : length st.cells ≡ length is.draft.cells
  long = (reached_stands p lim st well reached).cells ∙ sym is.is_draft.cells

  -- the reads and the writes are of cells that there are
  pub reads_there : All (λ (r : CellValue). r.cell < length st.cells) d.reads
  reads_there =
      each_all (λ (r : CellValue). r.cell < length st.cells) d.reads
      (subst (Each (λ (r : CellValue). r.cell < length st.cells)) (sym (ap (λ (x : Drafted). x.reads) is.gave))
      (each_weaker (λ (r : CellValue). r.cell < length is.draft.cells) (λ (r : CellValue). r.cell < length st.cells) (first_reads left.accesses)
      (λ r lt. subst (λ (n : ℕ). r.cell < n) (sym long) lt) (reads_below is.draft.cells left.accesses (may_access p is.draft is.draft.frame well is.is_draft))))

  pub writes_there : All (λ (w : CellValue). w.cell < length st.cells) d.writes
  writes_there =
      each_all (λ (w : CellValue). w.cell < length st.cells) d.writes
      (subst (Each (λ (w : CellValue). w.cell < length st.cells)) (sym (ap (λ (x : Drafted). x.writes) is.gave))
      (each_weaker (λ (w : CellValue). w.cell < length is.draft.cells) (λ (w : CellValue). w.cell < length st.cells) (last_writes left.accesses)
      (λ w lt. subst (λ (n : ℕ). w.cell < n) (sym long) lt) (writes_below is.draft.cells left.accesses (may_access p is.draft is.draft.frame well is.is_draft))))

  -- a draft that fits is the segment that its task runs next
  fits_segment : (row : TaskRow) → IsRow st d.task row → Fits st d
      → segment p (ready_frame st.tasks row.frame) st.cells ≡ record { frame = d.after; cells = with_writes st.cells d.writes; accesses = left.accesses; stop = d.stop }
  fits_segment row there fits =
      let own : fits.is_next.1.0 ≡ row = got_one (slice_get st.tasks d.task) fits.is_next.1.1 there in
      let begins : d.before ≡ ready_frame st.tasks row.frame = fits.is_next.1.2 ∙ ap (λ (r : TaskRow). ready_frame st.tasks r.frame) own in
      let frame : is.draft.frame ≡ ready_frame st.tasks row.frame = sym (ap (λ (x : Drafted). x.before) is.gave) ∙ begins in
      let stands : Each (StandsIn st.cells) (first_reads left.accesses) =
      subst (Each (StandsIn st.cells)) (ap (λ (x : Drafted). x.reads) is.gave) (all_each (StandsIn st.cells) d.reads fits.stands) in
      let agrees = agrees_too is.draft.cells st.cells long left.accesses (segment_agrees p is.draft.frame is.draft.cells).agrees
      (may_access p is.draft is.draft.frame well is.is_draft) stands in
      let made : with_writes st.cells d.writes ≡ after st.cells left.accesses =
      ap (λ (x : Drafted). with_writes st.cells x.writes) is.gave ∙ writes_make st.cells left.accesses in
      ap (λ (f : Frame). segment p f st.cells) (sym frame)
      ∙ (segment_determined p is.draft.frame is.draft.cells st.cells agrees.0
      ∙ (λ i. record {
        frame = sym (ap (λ (x : Drafted). x.after) is.gave) i;
        cells = sym made i;
        accesses = left.accesses;
        stop = sym (ap (λ (x : Drafted). x.stop) is.gave) i;
      }))

  -- so it may be settled
  pub fits_settles : (cells : List ℤ) → IsWithin lim.fuel lim.tasks → Fits st d → MaySettle lim (record st { cells = cells }) d.task d.after d.stop
  fits_settles cells within fits =
      let row = fits.is_next.1.0 in
      let there : IsRow st d.task row = fits.is_next.1.1 in
      let same = fits_segment row there fits in
      let may : MaySettle lim st d.task d.after d.stop =
      subst (λ (s : Stopped). MaySettle lim st d.task s.frame s.stop) same (may_settle p lim st d.task row well within reached there) in
      settles_with lim st (record st { cells = cells }) d.task d.after d.stop refl refl refl may

  -- and its settling is the move
  pub fits_moves : (cells : List ℤ) (moved : State × End) → cells ≡ with_writes st.cells d.writes → Fits st d
      → moved ≡ settling_result lim (record st { cells = cells }) d.task (slice_get st.tasks d.task) d.after d.stop
      → moved ≡ move_result p lim st (record { kind = kinds.Run; task = d.task })
  fits_moves cells moved written fits settled =
      let row = fits.is_next.1.0 in
      let there : IsRow st d.task row = fits.is_next.1.1 in
      let same = fits_segment row there fits in
      settled
      ∙ ((λ i. settling_result lim (record st { cells = written i }) d.task (there i) d.after d.stop)
      ∙ (ap (λ (s : Stopped). settling_result lim (record st { cells = s.cells }) d.task (Some row) s.frame s.stop) (sym same)
      ∙ ap (ran p lim st d.task) (sym there)))

-- a task that does not wait begins with its frame
ready_going : (rows : List TaskRow) (frame : Frame) → frame.next ≡ Go → ready_frame rows frame ≡ frame
ready_going rows frame goes = ap (λ (n : Next). given_by n frame (awaited_value rows (row_awaited frame.next))) goes

-- after its admission a draft of a task still fits, and the task may run
record IsAdmitted (st after : State) (d : Drafted) : Type 0 where
  fits : Fits after d
  may : MayRun after d.task

after_admission : (p : Program) (lim : Bounds) (st : State) (d : Drafted) (row : TaskRow) → IsWellFormed p → IsReached p lim st → HasStatus st d.task Made → IsRow st d.task row → Fits st d
    → IsAdmitted st (admitted st d.task (Some row)) d
after_admission p lim st d row well reached made there fits =
    let t = d.task in
    let stands = reached_stands p lim st well reached in
    let new = admitted_row row in
    let now : slice_get (slice_set st.tasks t new) t ≡ Some new = set_same st.tasks t row new there in
    let status : row.status ≡ Made = status_of st t row Made made there in
    let fresh = (stands.rows t row there).made status in
    let goes : row.frame.next ≡ Go = ap (λ (r : TaskRow). r.frame.next) fresh in
    let own : fits.is_next.1.0 ≡ row = got_one (slice_get st.tasks t) fits.is_next.1.1 there in
    let begins : d.before ≡ row.frame = fits.is_next.1.2 ∙ (ap (λ (r : TaskRow). ready_frame st.tasks r.frame) own ∙ ready_going st.tasks row.frame goes) in
    let free : (u : ℕ) → ¬ WaitsFor st.links t u = λ u waits.
    let link : link_of st.links t ≡ link_of_row row = ap (λ (l : List Link). link_of l t) stands.links ∙ link_at st.tasks t row there in
    let none : (link_of st.links t).waits ≡ None = ap (λ (l : Link). l.waits) link ∙ ap row_awaited goes in
    cc (none, waits.waits) in
    let may : MayRun (admitted st t (Some row)) t = ((new, now, refl), free) in
    record {
      fits = record {
        is_next = (inr may, (new, now, begins ∙ sym (ready_going (slice_set st.tasks t new) row.frame goes)));
        stands = fits.stands;
      };
      may = may;
    }

-- after the admission, if it was needed, the draft still fits and its task may run
pub record IsEntered (p : Program) (lim : Bounds) (run : CoreRun) (d : Drafted) : Type 0 where
  pub run_is : IsRun p lim run.journal run.state
  pub fits : Fits run.state d
  pub may : MayRun run.state d.task

pub entered : (p : Program) (lim : Bounds) (old new : CoreRun) (d : Drafted) → IsWellFormed p → IsRun p lim old.journal old.state → Fits old.state d → Admits p lim old d.task new
    → IsEntered p lim new d
entered p lim old new d well run fits (inl admits) =
    let reached = reached_by p lim old run in
    let row = fits.is_next.1.0 in
    let there : IsRow old.state d.task row = fits.is_next.1.1 in
    let after = after_admission p lim old.state d row well reached admits.0 there fits in
    let state : new.state ≡ admitted old.state d.task (Some row) = admits.1.state ∙ ap (admitted old.state d.task) there in
    record {
      run_is = admits.1.run_is;
      fits = subst (λ (s : State). Fits s d) (sym state) after.fits;
      may = subst (λ (s : State). MayRun s d.task) (sym state) after.may;
    }
entered p lim old new d well run fits (inr kept) =
    let may : MayRun old.state d.task = elim fits.is_next.0 [ inl made ↦ absurd (kept.0 made) | inr may ↦ may ] in
    record {
      run_is = subst (λ (r : CoreRun). IsRun p lim r.journal r.state) (sym kept.1) run;
      fits = subst (λ (r : CoreRun). Fits r.state d) (sym kept.1) fits;
      may = subst (λ (r : CoreRun). MayRun r.state d.task) (sym kept.1) may;
    }

-- the moves of the draft were taken
pub took : (p : Program) (lim : Bounds) (old between new : CoreRun) (d : Drafted) (number : ℕ) → Fits old.state d → IsFree old.state d.task → Admits p lim old d.task between
    → MayRun between.state d.task → TakingSteps p lim between (record { kind = kinds.Run; task = d.task }) new → number + 1 ≡ length new.journal → Takes p lim old d number new
took p lim old between new d number fits free (inl admits) may steps last =
    let t = d.task in
    let row = fits.is_next.1.0 in
    let there : IsRow old.state t row = fits.is_next.1.1 in
    let status : row.status ≡ Made = status_of old.state t row Made admits.0 there in
    let moves : moves_of Made t ≡ moves_of row.status t = ap (λ (s : TaskStatus). moves_of s t) (sym status) in
    let admit : Move = record { kind = kinds.Admit; task = t } in
    let run : Move = record { kind = kinds.Run; task = t } in
    let state = admits.1.state in
    let one = entry_of p lim old.state admit in
    let journal : new.journal ≡ old.journal ++ entries_from p lim old.state (moves_of Made t) =
    steps.journal ∙ ((λ i. admits.1.journal i ++ entry_of p lim (state i) run ∷ []) ∙ append_assoc old.journal (one ∷ []) (entry_of p lim (move_result p lim old.state admit).0 run ∷ [])) in
    let after : new.state ≡ state_from p lim old.state (moves_of Made t) = steps.state ∙ ap (λ (s : State). (move_result p lim s run).0) state in
    let legal : AreLegalFrom p lim old.state (moves_of Made t) = (free admits.0, (subst (λ (s : State). MayRun s t) state may, tt)) in
    record {
      row = row;
      there = there;
      fits = fits;
      legal = subst (AreLegalFrom p lim old.state) moves legal;
      journal = journal ∙ ap (λ (m : List Move). old.journal ++ entries_from p lim old.state m) moves;
      state = after ∙ ap (state_from p lim old.state) moves;
      last = last;
    }
took p lim old between new d number fits free (inr kept) may steps last =
    let t = d.task in
    let row = fits.is_next.1.0 in
    let there : IsRow old.state t row = fits.is_next.1.1 in
    let may_old : MayRun old.state t = subst (λ (r : CoreRun). MayRun r.state t) kept.1 may in
    let status : row.status ≡ Enabled = status_of old.state t row Enabled may_old.0 there in
    let moves : moves_of Enabled t ≡ moves_of row.status t = ap (λ (s : TaskStatus). moves_of s t) (sym status) in
    let run : Move = record { kind = kinds.Run; task = t } in
    let journal : new.journal ≡ old.journal ++ entries_from p lim old.state (moves_of Enabled t) =
    steps.journal ∙ ap (λ (r : CoreRun). r.journal ++ entry_of p lim r.state run ∷ []) kept.1 in
    let after : new.state ≡ state_from p lim old.state (moves_of Enabled t) = steps.state ∙ ap (λ (r : CoreRun). (move_result p lim r.state run).0) kept.1 in
    let legal : AreLegalFrom p lim old.state (moves_of Enabled t) = (may_old, tt) in
    record {
      row = row;
      there = there;
      fits = fits;
      legal = subst (AreLegalFrom p lim old.state) moves legal;
      journal = journal ∙ ap (λ (m : List Move). old.journal ++ entries_from p lim old.state m) moves;
      state = after ∙ ap (state_from p lim old.state) moves;
      last = last;
    }
