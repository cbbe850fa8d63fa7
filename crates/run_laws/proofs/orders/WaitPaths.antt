-- A task is waited for by the task that made it alone, so waits form paths.
use Rattle.std.proofs.Common.{◌≡◌, ◌⊎◌, ℕ, List, Option, None, Some, inl, inr, refl, sym, ap, ◌∙◌, subst}
use Rattle.std.specs.Prelude.{slice_get}
use Rattle.seg_journal.specs.declared.journal.Entry.{Entry}
use Rattle.twe_base.specs.Limits.{Bounds}
use Rattle.twe_program.specs.Program.{Program}
use Rattle.twe_program.specs.WellFormed.{IsWellFormed}
use Rattle.seg_meaning.specs.declared.frame.Next.{Next}
use Rattle.seg_meaning.specs.declared.frame.Next.TheVariants.{Closing, Ended, Get, Go, Join}
use Rattle.wait_graph.specs.declared.tasks.Link.{Link}
use Rattle.wait_graph.specs.Chain.{Chain, none, more}
use Rattle.wait_graph.specs.Link.{link_of}
use Rattle.wait_graph.specs.Waiting.{WaitsFor, WaitsOn}
use Rattle.machine_state.specs.declared.state.State.{State}
use Rattle.machine_state.specs.declared.state.TaskRow.{TaskRow}
use Rattle.machine_state.specs.Rows.{IsRow, row_awaited}
use Rattle.machine_state.specs.Runs.{IsReached, Legal, state_after}
use Rattle.machine_state.proofs.standing.ReachedStands.{reached_stands}
use Rattle.machine_state.proofs.standing.Standing.{IsMadeAfter, Stands}
use Rattle.isolation_laws.proofs.rows.LinksOfRows.{link_not_there, link_there}
use Rattle.run_laws.specs.Orders.{HasMade}
use Rattle.run_laws.proofs.orders.Makers.{HaveOneMaker, IsMaker, made_by_entry, reached_one}

module _ (p : Program) (lim : Bounds) (st : State) (stands : Stands p lim st) (own : HaveOneMaker st) where
  child_by : (s u : ℕ) → IsMadeAfter st.tasks s (Some s) u → IsMaker st s u
  child_by s u made = inr (record { row = made.row; there = made.there; parent = made.parent_is })

  -- whom the next operation of s awaits, s has made
  maker_by_next : (s u : ℕ) (row : TaskRow) → IsRow st s row → (next : Next) → row.frame.next ≡ next → row_awaited next ≡ Some u → IsMaker st s u
  maker_by_next s u row is Go has waits = absurd (cc (waits))
  maker_by_next s u row is (Get on into) has waits =
      let same : on ≡ u = cc (waits) in
      subst (IsMaker st s) same (inl (record { row = row; there = is; has = own.gets s row is on into has }))
  maker_by_next s u row is (Join on into) has waits =
      let same : on ≡ u = cc (waits) in subst (IsMaker st s) same (child_by s on ((stands.rows s row is).frame.joining on into has))
  maker_by_next s u row is (Closing on) has waits =
      let same : on ≡ u = cc (waits) in subst (IsMaker st s) same (child_by s on ((stands.rows s row is).frame.awaited_child on has))
  maker_by_next s u row is Ended has waits = absurd (cc (waits))

  maker_by_row : (s u : ℕ) (found : Option TaskRow) → slice_get st.tasks s ≡ found → (link_of st.links s).waits ≡ Some u → IsMaker st s u
  maker_by_row s u None is waits = let nobody = ap (λ (l : Link). l.waits) (link_not_there st stands.links s is) in absurd (cc (nobody, waits))
  maker_by_row s u (Some row) is waits =
      maker_by_next s u row is row.frame.next refl (sym (ap (λ (l : Link). l.waits) (link_there st stands.links s row is)) ∙ waits)

  waiter_made : (s u : ℕ) → WaitsFor st.links s u → IsMaker st s u
  waiter_made s u wait = maker_by_row s u (slice_get st.tasks s) refl wait.waits

-- a chain that has a step has a last one
before_last : {Step : ℕ → ℕ → Type 0} {a b c : ℕ} → Step a b → Chain Step b c → (d : ℕ) × Chain Step a d × Step d c
before_last {a = a} first none = (a, none, first)
before_last first (more second chain) = let rest = before_last second chain in (rest.0, more first rest.1, rest.2)

-- if no place has two steps to it, then of two places from which chains lead to one the one comes after the other
meeting_by : {Step : ℕ → ℕ → Type 0} {a b r : ℕ} → ((x y z : ℕ) → Step x z → Step y z → x ≡ y) → Step a b
    → Chain Step b r ⊎ Chain Step r b → Chain Step a r ⊎ Chain Step r a
meeting_by one first (inl chain) = inl (more first chain)
meeting_by one first (inr none) = inl (more first none)
meeting_by {Step} {a} {b} {r} one first (inr (more second chain)) =
    let last = before_last second chain in inr (subst (λ (x : ℕ). Chain Step r x) (one last.0 a b last.2 first) last.1)

meeting : {Step : ℕ → ℕ → Type 0} {s r u : ℕ} → ((x y z : ℕ) → Step x z → Step y z → x ≡ y) → Chain Step s u → Chain Step r u → Chain Step s r ⊎ Chain Step r s
meeting one none other = inr other
meeting one (more first chain) other = meeting_by one first (meeting one chain other)

module _ (p : Program) (well : IsWellFormed p) (lim : Bounds) where
  pub waited_for_by_maker : (journal : List Entry) → Legal p lim journal → (s u : ℕ) → WaitsFor (state_after p lim journal).links s u → HasMade journal s u
  waited_for_by_maker journal legal s u wait =
      let st : State = state_after p lim journal in
      let reached : IsReached p lim st = record { journal = journal; legal = legal; same = refl } in
      made_by_entry p lim well journal legal s u (waiter_made p lim st (reached_stands p lim st well reached) (reached_one p lim well st reached) s u wait)

  module _ (st : State) (reached : IsReached p lim st) where
    pub one_waiter : (s r u : ℕ) → WaitsFor st.links s u → WaitsFor st.links r u → s ≡ r
    one_waiter s r u first second =
        let stands = reached_stands p lim st well reached in
        let own = reached_one p lim well st reached in
        own.one s r u (waiter_made p lim st stands own s u first) (waiter_made p lim st stands own r u second)

    pub waiters_ordered : (s r u : ℕ) → WaitsOn st.links s u → WaitsOn st.links r u → WaitsOn st.links s r ⊎ WaitsOn st.links r s
    waiters_ordered s r u first second = meeting one_waiter first second
