-- Tasks that lead to another: they pass, and legal moves keep it.
use Rattle.std.proofs.Common.{◌≡◌, inl, inr, ℕ, List, sym, ap, ◌∙◌}
use Rattle.std.specs.Prelude.{None}
use Rattle.std.proofs.lemmas.Bool.{cases_lt, false≢true}
use Rattle.seg_journal.specs.declared.moves.Kind.{Kind}
use Rattle.twe_base.specs.Limits.{Bounds}
use Rattle.wait_graph.specs.Chain.{none}
use Rattle.wait_graph.specs.declared.tasks.Link.{Link}
use Rattle.wait_graph.specs.Link.{link_of, new_link}
use Rattle.wait_graph.specs.Waiting.{IsDone, WaitsOn}
use Rattle.wait_graph.proofs.ChainLemmas.{Chain-append}
use Rattle.twe_program.specs.Program.{Program}
use Rattle.twe_program.specs.WellFormed.{IsWellFormed}
use Rattle.twe_machine.specs.declared.queue.Queued.{Queued}
use Rattle.machine_state.specs.declared.state.State.{State}
use Rattle.machine_state.specs.declared.state.TaskStatus.{TaskStatus}
use Rattle.machine_state.specs.declared.state.TaskStatus.TheVariants.{Enabled}
use Rattle.machine_state.specs.Legal.{MayTake}
use Rattle.machine_state.specs.Moves.{result_by_kind}
use Rattle.twe_machine.specs.Queues.{AllWait, IsDecided, IsDoneOrWaits, KeepsWaiting, IsNoBar}
use Rattle.machine_state.specs.Rows.{HasStatus, LinksAgree, is_done_status, link_of_row}
use Rattle.machine_state.proofs.links.ChainsStay.{chain_stays, done_stays}
use Rattle.machine_state.proofs.lists.Places.{map_index}
use Rattle.machine_state.proofs.standing.Standing.{Stands}

-- the link of a task says whether it is done
pub done_by : (st : State) (s : ℕ) (status : TaskStatus) → LinksAgree st → HasStatus st s status → (link_of st.links s).done ≡ is_done_status status
done_by st s status agree has =
    ap (λ (links : List Link). (link_of links s).done) agree
    ∙ ap (λ (l : Link). l.done) (map_index link_of_row st.tasks s has.0 (new_link None) has.1)
    ∙ ap is_done_status has.2

-- who is done or waits for t is no bar to it
pub led_passes : (st : State) (t s : ℕ) → LinksAgree st → IsDoneOrWaits st.links s t → IsNoBar st t s
led_passes st t s agree led ne has meets =
    elim led [
      | inl done ↦ absurd (false≢true (sym (done_by st s Enabled agree has) ∙ done))
      | inr chain ↦ (t, chain, none)
    ]

-- who leads to a task that is not done and waits for t waits for t, or is done
pub led_on : (links : List Link) (s u t : ℕ) → ¬ IsDone links u → WaitsOn links u t → KeepsWaiting links s u → IsDoneOrWaits links s t
led_on links s u t undone chain lead =
    elim lead [
      | inl done ↦ inl done
      | inr waits ↦ elim waits [ inl first ↦ inr (Chain-append first chain) | inr done ↦ absurd (undone done) ]
    ]

-- one part of the entries and the next one
pub led_joined : (links : List Link) (entries : List Queued) (a b d t : ℕ) → AllWait links entries a b t → AllWait links entries b d t → AllWait links entries a d t
led_joined links entries a b d t first rest i e from low at =
    elim (cases_lt i b) [ inl less ↦ first i e from less at | inr high ↦ rest i e high low at ]

-- who is led leads
pub led_leads : (links : List Link) (s t : ℕ) → IsDoneOrWaits links s t → KeepsWaiting links s t
led_leads links s t led = elim led [ inl done ↦ inl done | inr chain ↦ inr (inl chain) ]

module _ (p : Program) (lim : Bounds) (well : IsWellFormed p) (st : State) (kind : Kind) (t : ℕ) (may : MayTake st kind t) (stands : Stands p lim st) where
  lead_stays : (s u : ℕ) → KeepsWaiting st.links s u → KeepsWaiting (result_by_kind p lim st kind t).0.links s u
  lead_stays s u lead =
      elim lead [
        | inl done ↦ inl (done_stays p lim well st kind t s may stands done)
        | inr waits ↦ inr (chain_stays p lim well st kind t s u may stands waits)
      ]

  -- a legal move leaves a queue decided
  pub decided_stays : (entries : List Queued) → IsDecided st.links entries → IsDecided (result_by_kind p lim st kind t).0.links entries
  decided_stays entries old i d e at names =
      let h = old i d e at names in
      (h.0, λ f there j g low here. lead_stays g.task f.task (h.1 f there j g low here))
