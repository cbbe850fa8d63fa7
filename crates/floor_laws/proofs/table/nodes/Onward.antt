-- Who waits for a task goes on waiting for it, until that one is done, while the log grows.
use Rattle.std.proofs.Common.{◌≡◌, ◌++◌, ℕ, List, [], ◌∷◌, refl, sym, ap, subst, ◌∙◌}
use Rattle.std.proofs.lemmas.List.{map-append}
use Rattle.twe_base.specs.Limits.{Bounds}
use Rattle.twe_program.specs.Program.{Program}
use Rattle.twe_program.specs.WellFormed.{IsWellFormed}
use Rattle.wait_graph.specs.Waiting.{WaitsOnUnlessDone}
use Rattle.seg_journal.specs.declared.journal.Entry.{Entry}
use Rattle.seg_journal.specs.declared.numbered.NumberedEntry.{NumberedEntry}
use Rattle.seg_journal.specs.Merging.{journal_of}
use Rattle.machine_state.specs.declared.state.State.{State}
use Rattle.machine_state.specs.Moves.{move_result, start_of}
use Rattle.machine_state.specs.Runs.{Legal, LegalFrom, replayed, state_after}
use Rattle.machine_state.proofs.links.ChainsStay.{chain_stays_on}
use Rattle.machine_state.proofs.standing.ReachedStands.{run_stands, start_stands}

-- the legal moves before the last one, and the last one
legal_last : (p : Program) (lim : Bounds) (st : State) (entries : List Entry) (last : Entry) → LegalFrom p lim st (entries ++ last ∷ [])
    → LegalFrom p lim st entries × LegalFrom p lim (replayed p lim st entries) (last ∷ []) × (replayed p lim st (entries ++ last ∷ []) ≡ replayed p lim (replayed p lim st entries) (last ∷ []))
legal_last p lim st [] last legal = (tt, legal, refl)
legal_last p lim st (entry ∷ entries) last legal =
    let rest = legal_last p lim (move_result p lim st entry.mv).0 entries last legal.2 in ((legal.0, legal.1, rest.0), rest.1, rest.2)

pub waits_go_on : (p : Program) (lim : Bounds) → IsWellFormed p → (log : List NumberedEntry) (new : NumberedEntry) → Legal p lim (journal_of (log ++ new ∷ [])) → (s u : ℕ)
    → WaitsOnUnlessDone (state_after p lim (journal_of log)).links s u → WaitsOnUnlessDone (state_after p lim (journal_of (log ++ new ∷ []))).links s u
waits_go_on p lim well log new legal s u waits =
    let start = start_of p lim in
    let journal : journal_of (log ++ new ∷ []) ≡ journal_of log ++ new.entry ∷ [] = map-append (λ (e : NumberedEntry). e.entry) log (new ∷ []) in
    let both = legal_last p lim start (journal_of log) new.entry (subst (Legal p lim) journal legal) in
    let stands = run_stands p lim well start (journal_of log) both.0 (start_stands p lim well) in
    let same : state_after p lim (journal_of (log ++ new ∷ [])) ≡ replayed p lim (state_after p lim (journal_of log)) (new.entry ∷ []) = ap (state_after p lim) journal ∙ both.2 in
    subst (λ (end : State). WaitsOnUnlessDone end.links s u) (sym same) (chain_stays_on p lim well (state_after p lim (journal_of log)) (new.entry ∷ []) s u both.1 stands waits)
