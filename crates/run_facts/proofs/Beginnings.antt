-- The beginnings of a journal: they are legal, and one more entry adds what it makes.
use Rattle.std.proofs.Common.{◌≡◌, ◌<◌, ◌+◌, ◌++◌, ℕ, zero, suc, List, [], ◌∷◌, length, take, get_or, refl, sym, ap, ◌∙◌, append_assoc, arith}
use Rattle.std.proofs.lemmas.List.{append-nil, take_more}
use Rattle.seg_journal.specs.declared.journal.Entry.{Entry}
use Rattle.twe_base.specs.Limits.{Bounds}
use Rattle.twe_program.specs.Program.{Program}
use Rattle.machine_state.specs.declared.state.State.{State}
use Rattle.machine_state.specs.Legal.{MayMove}
use Rattle.machine_state.specs.Moves.{move_result, start_of}
use Rattle.machine_state.specs.Runs.{IsReached, Legal, LegalFrom, replayed, state_after}
use Rattle.run_facts.specs.Makings.{making_by, makings_from, makings_of}

module _ (p : Program) (lim : Bounds) where
  -- each beginning of a legal journal is legal
  pub begins_legal : (st : State) (journal : List Entry) (n : ℕ) → LegalFrom p lim st journal → LegalFrom p lim st (take n journal)
  begins_legal st [] zero legal = tt
  begins_legal st [] (suc n) legal = tt
  begins_legal st (entry ∷ journal) zero legal = tt
  begins_legal st (entry ∷ journal) (suc n) legal = (legal.0, legal.1, begins_legal (move_result p lim st entry.mv).0 journal n legal.2)

  -- and the next move may be taken after it
  moves_next : (st : State) (journal : List Entry) (n : ℕ) (none : Entry) → LegalFrom p lim st journal → n < length journal → MayMove (replayed p lim st (take n journal)) (get_or journal n none).mv
  moves_next st [] n none legal below = absurd (omega (arith, below))
  moves_next st (entry ∷ journal) zero none legal below = legal.0
  moves_next st (entry ∷ journal) (suc n) none legal below = moves_next (move_result p lim st entry.mv).0 journal n none legal.2 (omega (arith, below))

  -- a state that a beginning leads to was reached
  pub reached_by : (journal : List Entry) (n : ℕ) (st : State) → Legal p lim journal → st ≡ state_after p lim (take n journal) → IsReached p lim st
  reached_by journal n st legal same = record { journal = take n journal; legal = begins_legal (start_of p lim) journal n legal; same = same }

  pub next_may : (journal : List Entry) (n : ℕ) (none : Entry) → Legal p lim journal → n < length journal → MayMove (state_after p lim (take n journal)) (get_or journal n none).mv
  next_may journal n none legal below = moves_next (start_of p lim) journal n none legal below

  -- one more entry
  state_by_last : (st : State) (entries : List Entry) (last : Entry) → replayed p lim st (entries ++ last ∷ []) ≡ (move_result p lim (replayed p lim st entries) last.mv).0
  state_by_last st [] last = refl
  state_by_last st (entry ∷ entries) last = state_by_last (move_result p lim st entry.mv).0 entries last

  makings_by_last : (st : State) (entries : List Entry) (last : Entry) → makings_from p lim st (entries ++ last ∷ [])
      ≡ makings_from p lim st entries ++ making_by p (move_result p lim (replayed p lim st entries) last.mv).0 last.mv.task last.end
  makings_by_last st [] last = append-nil (making_by p (move_result p lim st last.mv).0 last.mv.task last.end)
  makings_by_last st (entry ∷ entries) last =
      let after : State = (move_result p lim st entry.mv).0 in
      ap (λ l. making_by p after entry.mv.task entry.end ++ l) (makings_by_last after entries last)
      ∙ sym (append_assoc (making_by p after entry.mv.task entry.end) (makings_from p lim after entries)
      (making_by p (move_result p lim (replayed p lim after entries) last.mv).0 last.mv.task last.end))

  pub state_more : (journal : List Entry) (n : ℕ) (none : Entry) → n < length journal
      → state_after p lim (take (n + 1) journal) ≡ (move_result p lim (state_after p lim (take n journal)) (get_or journal n none).mv).0
  state_more journal n none below =
      ap (state_after p lim) (take_more journal n none below) ∙ state_by_last (start_of p lim) (take n journal) (get_or journal n none)

  pub makings_more : (journal : List Entry) (n : ℕ) (none : Entry) → n < length journal
      → makings_of p lim (take (n + 1) journal)
      ≡ makings_of p lim (take n journal) ++ making_by p (state_after p lim (take (n + 1) journal)) (get_or journal n none).mv.task (get_or journal n none).end
  makings_more journal n none below =
      let entry : Entry = get_or journal n none in
      ap (makings_of p lim) (take_more journal n none below)
      ∙ (makings_by_last (start_of p lim) (take n journal) entry
      ∙ ap (λ (s : State). makings_of p lim (take n journal) ++ making_by p s entry.mv.task entry.end) (sym (state_more journal n none below)))
