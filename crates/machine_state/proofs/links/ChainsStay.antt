-- A chain of waits stays over a legal move, unless the task that it leads to is done.
use Rattle.std.proofs.Common.{◌≡◌, ◌≢◌, ◌<◌, ℕ, true, false, List, [], ◌∷◌, Option, None, Some, inl, inr, refl, sym, ap, ◌∙◌, subst, arith, length}
use Rattle.std.specs.Prelude.{slice_get}
use Rattle.std.proofs.lemmas.Bool.{cases_Bool, cases_eq, false≢true}
use Rattle.seg_journal.specs.declared.journal.Entry.{Entry}
use Rattle.seg_journal.specs.declared.moves.Kind.{Kind}
use Rattle.seg_journal.specs.declared.moves.Kind.TheVariants.{Admit, Run}
use Rattle.twe_base.specs.Limits.{Bounds}
use Rattle.wait_graph.specs.Chain.{none, more}
use Rattle.wait_graph.specs.declared.tasks.Link.{Link}
use Rattle.wait_graph.specs.Link.{link_of}
use Rattle.wait_graph.specs.Waiting.{IsDone, WaitsFor, WaitsForNobody, WaitsOn, WaitsOnUnlessDone}
use Rattle.wait_graph.proofs.ChainLemmas.{Chain-stays}
use Rattle.twe_program.specs.Program.{Program}
use Rattle.twe_program.specs.WellFormed.{IsWellFormed}
use Rattle.machine_state.specs.declared.state.State.{State}
use Rattle.machine_state.specs.declared.state.TaskRow.{TaskRow}
use Rattle.machine_state.specs.Legal.{MayTake}
use Rattle.machine_state.specs.Moves.{admitted, joined_row, result_by_kind}
use Rattle.machine_state.specs.Rows.{IsRow, is_done_status}
use Rattle.machine_state.specs.Runs.{LegalFrom, replayed}
use Rattle.machine_state.proofs.links.Ordered.{link_from, waits_up}
use Rattle.machine_state.proofs.tasks.OtherRows.{row_after}
use Rattle.machine_state.proofs.lists.Places.{below_there}
use Rattle.machine_state.proofs.standing.ReachedStands.{taken_stands}
use Rattle.machine_state.proofs.standing.SettlesNext.{as_many_links}
use Rattle.machine_state.proofs.standing.Standing.{Stands}
use Rattle.machine_state.proofs.links.TakenJoins.{row_link}

-- An admission changes no link.

admitted_links : (st : State) (t : ℕ) (found : Option TaskRow) → (admitted st t found).links ≡ st.links
admitted_links st t None = refl
admitted_links st t (Some row) = refl

-- A segment of t.

module _ (p : Program) (lim : Bounds) (well : IsWellFormed p) (st : State) (t : ℕ) (may : MayTake st Run t) (stands : Stands p lim st) where
  abbrev after : State
  after = (result_by_kind p lim st Run t).0

  after_stands : Stands p lim after
  after_stands = taken_stands p lim well st Run t may stands

  -- another task waits as before, and is done if it was
  same_link : (x : ℕ) (row : TaskRow) → x ≢ t → IsRow st x row
      → ((link_of after.links x).waits ≡ (link_of st.links x).waits) × ((link_of after.links x).done ≡ (link_of st.links x).done)
  same_link x row ne here =
      let was = sym (row_link p lim st stands x row here) in
      elim (row_after p lim st t x ne row here Run) [
        | inl stays ↦
            let is = row_link p lim after after_stands x row stays.1 ∙ was in
            (ap (λ (l : Link). l.waits) is, ap (λ (l : Link). l.done) is)
        | inr marked ↦
            let is = row_link p lim after after_stands x (joined_row row) marked.1 in
            (ap (λ (l : Link). l.waits) is ∙ ap (λ (l : Link). l.waits) was, ap (λ (l : Link). l.done) is ∙ ap (λ (l : Link). l.done) was)
      ]

  -- who waits is there
  waiter_there : (s b : ℕ) → (link_of st.links s).waits ≡ Some b → (row : TaskRow) × IsRow st s row
  waiter_there s b waits =
      link_from st.tasks s (slice_get st.tasks s) refl (λ (l : Link). l.waits ≡ Some b → (row : TaskRow) × IsRow st s row)
      (λ gone is. absurd (cc (is))) (λ row there is. (row, there))
      (subst (λ (links : List Link). (link_of links s).waits ≡ Some b) stands.links waits)

  -- and so is who is done
  done_there : (u : ℕ) → IsDone st.links u → (row : TaskRow) × IsRow st u row
  done_there u done =
      link_from st.tasks u (slice_get st.tasks u) refl (λ (l : Link). l.done ≡ true → (row : TaskRow) × IsRow st u row)
      (λ gone is. absurd (cc (is))) (λ row there is. (row, there))
      (subst (λ (links : List Link). (link_of links u).done ≡ true) stands.links done)

  mover_link : (link_of st.links t).done ≡ false
  mover_link = ap (λ (l : Link). l.done) (row_link p lim st stands t may.0.0 may.0.1) ∙ ap is_done_status may.0.2

  done_on : (u : ℕ) → IsDone st.links u → IsDone after.links u
  done_on u done =
      let row = done_there u done in
      let ne : u ≢ t = λ is. false≢true (sym mover_link ∙ subst (λ (n : ℕ). IsDone st.links n) is done) in
      (same_link u row.0 ne row.1).1 ∙ done

  -- a task that is waited for is done after the move only if it is t
  newly_done : (s b : ℕ) → WaitsFor st.links s b → IsDone after.links b → b ≡ t
  newly_done s b wait done =
      elim (cases_eq b t) [
        | inl is ↦ is
        | inr ne ↦
            let up = waits_up p lim st stands s b wait.waits in
            let many = as_many_links p lim st stands in
            let below : b < length st.tasks = omega (arith, up.1, many) in
            let row = below_there st.tasks b below in
            absurd (false≢true (sym wait.undone ∙ (sym (same_link b row.0 ne row.1).1 ∙ done)))
      ]

  -- a wait at the beginning of a chain stays, or the chain has come to its end
  wait_on : (s b u : ℕ) → WaitsFor st.links s b → WaitsOn st.links b u → WaitsOnUnlessDone after.links b u → WaitsOnUnlessDone after.links s u
  wait_on s b u wait chain rest =
      let ne : s ≢ t = λ is. may.1 b (subst (λ (n : ℕ). WaitsFor st.links n b) is wait) in
      let row = waiter_there s b wait.waits in
      let waits : (link_of after.links s).waits ≡ Some b = (same_link s row.0 ne row.1).0 ∙ wait.waits in
      elim (cases_Bool (link_of after.links b).done) [
        | inl done ↦
            let is : b ≡ t = newly_done s b wait done in
            let nobody : WaitsForNobody st.links b = λ c w. may.1 c (subst (λ (n : ℕ). WaitsFor st.links n c) is w) in
            inr (subst (λ (n : ℕ). IsDone after.links n) (Chain-stays nobody chain) done)
        | inr undone ↦ elim rest [ inl others ↦ inl (more (record { waits = waits; undone = undone }) others) | inr done ↦ inr done ]
      ]

  chain_on : {s u : ℕ} → WaitsOn st.links s u → WaitsOnUnlessDone after.links s u
  chain_on none = inl none
  chain_on {s} {u} (more {b = b} wait chain) = wait_on s b u wait chain (chain_on chain)

  segment_on : (s u : ℕ) → WaitsOnUnlessDone st.links s u → WaitsOnUnlessDone after.links s u
  segment_on s u (inl chain) = chain_on chain
  segment_on s u (inr done) = inr (done_on u done)

module _ (p : Program) (lim : Bounds) (well : IsWellFormed p) where
  -- over one move
  pub chain_stays : (st : State) (kind : Kind) (t s u : ℕ) → MayTake st kind t → Stands p lim st → WaitsOnUnlessDone st.links s u
      → WaitsOnUnlessDone (result_by_kind p lim st kind t).0.links s u
  chain_stays st Admit t s u may stands waits =
      subst (λ (links : List Link). WaitsOnUnlessDone links s u) (sym (admitted_links st t (slice_get st.tasks t))) waits
  chain_stays st Run t s u may stands waits = segment_on p lim well st t may stands s u waits

  -- a task that is done stays so
  pub done_stays : (st : State) (kind : Kind) (t u : ℕ) → MayTake st kind t → Stands p lim st → IsDone st.links u
      → IsDone (result_by_kind p lim st kind t).0.links u
  done_stays st Admit t u may stands done =
      subst (λ (links : List Link). IsDone links u) (sym (admitted_links st t (slice_get st.tasks t))) done
  done_stays st Run t u may stands done = done_on p lim well st t may stands u done

  -- over all moves of a journal
  pub chain_stays_on : (st : State) (entries : List Entry) (s u : ℕ) → LegalFrom p lim st entries → Stands p lim st → WaitsOnUnlessDone st.links s u
      → WaitsOnUnlessDone (replayed p lim st entries).links s u
  chain_stays_on st [] s u legal stands waits = waits
  chain_stays_on st (entry ∷ entries) s u legal stands waits =
      let kind = entry.mv.kind in
      let t = entry.mv.task in
      chain_stays_on (result_by_kind p lim st kind t).0 entries s u legal.2 (taken_stands p lim well st kind t legal.0 stands) (chain_stays st kind t s u legal.0 stands waits)
