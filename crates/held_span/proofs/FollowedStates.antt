-- The entries by those on the way to a task lead to one by that task, over a legal move.
use Rattle.std.proofs.Common.{◌≡◌, ◌≢◌, ◌<◌, ◌≤◌, ◌++◌, inl, inr, ℕ, List, [], ◌∷◌, length, Option, None, Some, refl, sym, ◌∙◌, subst, arith}
use Rattle.std.specs.Prelude.{slice_get}
use Rattle.std.proofs.lemmas.Option.{slice_get_within}
use Rattle.seg_journal.specs.declared.journal.End.{End}
use Rattle.seg_journal.specs.declared.journal.End.TheVariants as ends
use Rattle.seg_journal.specs.declared.journal.Entry.{Entry}
use Rattle.seg_journal.specs.declared.moves.Move.{Move}
use Rattle.twe_base.specs.Limits.{Bounds}
use Rattle.twe_program.specs.Program.{Program}
use Rattle.twe_program.specs.WellFormed.{IsWellFormed}
use Rattle.wait_graph.specs.Chain.{Chain, none, more}
use Rattle.wait_graph.specs.Waiting.{IsDone, WaitsFor}
use Rattle.machine_state.specs.declared.state.State.{State}
use Rattle.machine_state.specs.Changes.{LeavesAlone}
use Rattle.machine_state.specs.Legal.{MayMove}
use Rattle.machine_state.specs.Moves.{move_result}
use Rattle.machine_state.proofs.links.ChainsStay.{done_stays}
use Rattle.machine_state.proofs.lists.Places.{set_cases}
use Rattle.machine_state.proofs.standing.Standing.{Stands}
use Rattle.machine_state.proofs.tasks.MadeTasks.{mover_free}
use Rattle.machine_state.proofs.tasks.OtherTasks.{waits_row}
use Rattle.held_span.proofs.Longer.{get-cases, get-kept, get-last}
use Rattle.span_profile.specs.heaviest_chain.Chains.{Leads}
use Rattle.span_profile.specs.heaviest_chain.Nodes.{Node, SharesKey}
use Rattle.held_span.specs.Freed.{IsBy, RunEntry}
use Rattle.held_span.specs.declared.ways.Ways.{Ways}
use Rattle.held_span.specs.inner.Freeing.{Walks}
use Rattle.held_span.specs.inner.Paths.{IsPath}
use Rattle.held_span.specs.inner.Spanning.{AreFollowed, AreLed, IsEntryBy}
use Rattle.held_span.specs.inner.Walking.{AreWays, IsMakerOf, entered}
use Rattle.held_span.proofs.Ancestors.{between, descends_up, first_step}
use Rattle.held_span.proofs.Further.{leads_kept}
use Rattle.held_span.proofs.Paths.{path-map}

-- who descends from a task with the next one descends from it without that
descends_back : (ways : Ways) (t : ℕ) → AreWays (entered ways t) → {w m : ℕ} → Chain (IsMakerOf (ways.makers ++ t ∷ [])) w m → m < length ways.makers → Chain (IsMakerOf ways.makers) w m
descends_back ways t are none below = none
descends_back ways t are {w = w} {m = m} (more {b = b} first chain) below =
    let up = descends_up (entered ways t) are chain in
    let there : slice_get ways.makers b ≡ Some w = elim (get-cases ways.makers t b w first.there) [
      | inl old ↦ old
      | inr new ↦ (let last = new.0 in absurd (omega (arith, last, up, below)))
    ] in
    more (record { there = there; some = first.some }) (descends_back ways t are chain below)

module _ (p : Program) (lim : Bounds) (well : IsWellFormed p) (before : List Entry) (st : State) (stands : Stands p lim st) (mv : Move) (end : End) (may : MayMove st mv)
    (alone : LeavesAlone p st (move_result p lim st mv).0 mv end) (ways : Ways) (led : AreLed before st ways) (wait : (s u : ℕ) → WaitsFor st.links s u → IsMakerOf ways.makers s u)
    (nodes : List Node) (stages : List RunEntry) (many : length nodes ≡ length stages) (followed : AreFollowed ways st.links nodes stages) (y : Node) (b : RunEntry)
    (task : b.strand.task ≡ mv.task) (made : (c : ℕ) → b.strand.made ≡ Some c → end ≡ ends.Made c) where
  abbrev after : State
  after = (move_result p lim st mv).0

  abbrev Found : ℕ → ℕ → Type 0
  Found i m = (j : ℕ) × IsEntryBy (stages ++ b ∷ []) j m × ((between : List ℕ) × IsPath (Leads SharesKey (nodes ++ y ∷ [])) i between j)

  -- an entry more is by nobody who waits
  not_by : (w x : ℕ) → WaitsFor st.links w x → ¬ IsBy b.strand w
  not_by w x wait_x (inl is) = mover_free p lim st mv.kind mv.task stands may x (subst (λ (n : ℕ). WaitsFor st.links n x) (sym is ∙ task) wait_x)
  not_by w x wait_x (inr is) =
      let number = alone.made w (made w is) in
      let row = waits_row st.links st.tasks stands.links w x wait_x.waits in
      let there = slice_get_within st.tasks w row.0 row.1 in
      omega (arith, number, there)

  kept : (i m : ℕ) → (j : ℕ) × IsEntryBy stages j m × ((between : List ℕ) × IsPath (Leads SharesKey nodes) i between j) → Found i m
  kept i m found = (
    found.0,
    (found.1.0, get-kept stages b found.0 found.1.0 found.1.1, found.1.2),
    (found.2.0, path-map (Leads SharesKey nodes) (Leads SharesKey (nodes ++ y ∷ [])) (leads_kept SharesKey nodes y) i found.2.0 found.0 found.2.1),
  )

  -- for the tasks that were there, as before
  old_followed : (m first : ℕ) → slice_get ways.firsts m ≡ Some first → ¬ IsDone after.links m → (w : ℕ) → Chain (IsMakerOf ways.makers) w m → w ≢ m → first ≤ w
      → (i : ℕ) → IsEntryBy (stages ++ b ∷ []) i w → Found i m
  old_followed m first is undone w down other above i by =
      let going : ¬ IsDone st.links m = λ done. undone (done_stays p lim well st mv.kind mv.task m may stands done) in
      elim (get-cases stages b i by.0 by.1) [
        | inl old ↦ kept i m (followed m first is going w down other above i (by.0, old, by.2))
        | inr new ↦ elim (led.firsts m first is) [
          | inl chain ↦
              let step = first_step (between ways led.are st.links wait chain w down above).1 other in
              absurd (not_by w step.0 step.1 (subst (λ (x : RunEntry). IsBy x.strand w) new.1 by.2))
          | inr done ↦ absurd (going done)
        ]
      ]

  pub followed_on : (new : Ways) → new ≡ ways → AreFollowed new after.links (nodes ++ y ∷ []) (stages ++ b ∷ [])
  followed_on new same = subst (λ (w : Ways). AreFollowed w after.links (nodes ++ y ∷ []) (stages ++ b ∷ [])) (sym same) old_followed

  -- and for the task that is admitted
  pub followed_walked : (low : Option ℕ) (walk : List ℕ) (new : Ways) → end ≡ ends.Admitted → Walks ways new low mv.task walk
      → ((s : ℕ) → low ≡ Some s → (w : ℕ) → Chain (IsMakerOf ways.makers) w mv.task → w ≢ mv.task → s ≤ w → (i : ℕ) → IsEntryBy stages i w
      → (between : List ℕ) × IsPath (Leads SharesKey (nodes ++ y ∷ [])) i between (length nodes))
      → AreFollowed new after.links (nodes ++ y ∷ []) (stages ++ b ∷ [])
  followed_walked None walk new admitted walks covers = followed_on new walks.1
  followed_walked (Some s) walk new admitted walks covers =
      subst (λ (w : Ways). AreFollowed w after.links (nodes ++ y ∷ []) (stages ++ b ∷ [])) (sym walks.1)
      (λ m first is undone w down other above i by. elim (set_cases ways.firsts mv.task m s first is) [
        | inl same ↦ here m first w same.0 same.1 down other above i by
        | inr apart ↦ old_followed m first apart.1 undone w down other above i by
      ])
    where
      now : (w : ℕ) → Chain (IsMakerOf ways.makers) w mv.task → w ≢ mv.task → s ≤ w → (i : ℕ) → IsEntryBy (stages ++ b ∷ []) i w → Found i mv.task
      now w down other above i by = elim (get-cases stages b i by.0 by.1) [
        | inl old ↦
            let path = covers s refl w down other above i (by.0, old, by.2) in
            (length stages, (b, get-last stages b, inl task), (path.0, subst (IsPath (Leads SharesKey (nodes ++ y ∷ [])) i path.0) many path.1))
        | inr new_one ↦ elim (subst (λ (x : RunEntry). IsBy x.strand w) new_one.1 by.2) [
          | inl is ↦ absurd (other (sym is ∙ task))
          | inr is ↦ absurd (let both : ends.Admitted ≡ ends.Made w = sym admitted ∙ made w is in cc (both))
        ]
      ]

      here : (m first w : ℕ) → m ≡ mv.task → s ≡ first → Chain (IsMakerOf ways.makers) w m → w ≢ m → first ≤ w → (i : ℕ) → IsEntryBy (stages ++ b ∷ []) i w → Found i m
      here m first w at one down other above i by =
          subst (λ (n : ℕ). Found i n) (sym at)
          (now w (subst (λ (n : ℕ). Chain (IsMakerOf ways.makers) w n) at down) (λ same. other (same ∙ sym at)) (omega (arith, one, above)) i by)

  -- and for the task that is made
  pub followed_made : (new : Ways) → AreWays (entered ways mv.task) → new ≡ entered ways mv.task → AreFollowed new after.links (nodes ++ y ∷ []) (stages ++ b ∷ [])
  followed_made new are is =
      subst (λ (w : Ways). AreFollowed w after.links (nodes ++ y ∷ []) (stages ++ b ∷ [])) (sym is)
      (λ m first is_first undone w down other above i by. elim (get-cases ways.firsts (length ways.firsts) m first is_first) [
        | inl old ↦
            let below = slice_get_within ways.firsts m first old in
            let count = led.are.as_many in
            old_followed m first old undone w (descends_back ways mv.task are down (omega (arith, below, count))) other above i by
        | inr new_one ↦
            let up = descends_up (entered ways mv.task) are down in
            let at = new_one.0 in
            let one = new_one.1 in
            absurd (omega (arith, up, at, one, above, other))
      ])
