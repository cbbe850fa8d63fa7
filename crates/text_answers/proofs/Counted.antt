-- The part of a journal that counts, and what it prints.
use Rattle.std.proofs.Common.{◌≡◌, ◌≤◌, ℕ, Bool, true, false, List, [], ◌∷◌, length, map, take, Result, Ok, Err, IfOk, refl, sym, ap, ◌∙◌, subst, arith}
use Rattle.std.specs.Prelude.{ℤ, if◌then◌else◌}
use Rattle.std.proofs.lemmas.List.{take_all}
use Rattle.twe_base.specs.declared.memory.Memory as out_of
use Rattle.seg_journal.specs.declared.journal.Entry.{Entry}
use Rattle.seg_journal.specs.declared.moves.Move.{Move}
use Rattle.seg_journal.specs.Spelling.{move_of}
use Rattle.twe_base.specs.Limits.{Bounds}
use Rattle.twe_program.specs.Program.{Program}
use Rattle.machine_state.specs.declared.ending.Outcome.{Outcome}
use Rattle.machine_state.specs.declared.why.Why.{Why}
use Rattle.machine_state.specs.declared.replay_fail.ReplayFail.{ReplayFail}
use Rattle.machine_state.specs.declared.replay_fail.ReplayFail.TheVariants.{Illegal}
use Rattle.machine_state.specs.declared.state.State.{State}
use Rattle.machine_state.specs.Moves.{move_result, start_of}
use Rattle.machine_state.specs.Replays.{ReplayIsOutOfMemory, IsReplay}
use Rattle.machine_state.specs.Runs.{Legal, LegalFrom, counted, is_fault, state_after}
use Rattle.machine_state.proofs.replays.Replayed.{one_from}
use Rattle.twe_io.specs.declared.answer.Answer.{Answer}
use Rattle.text_answers.specs.Answers.{AnswersRun}

-- the part that counts is a beginning
taken_by : (entry : Entry) (entries : List Entry) (faults : Bool) → counted entries ≡ take (length (counted entries)) entries
    → let rest = if faults then [] else counted entries in entry ∷ rest ≡ take (length (entry ∷ rest)) (entry ∷ entries)
taken_by entry entries true more = refl
taken_by entry entries false more = ap (λ (es : List Entry). entry ∷ es) more

pub counted_is_take : (journal : List Entry) → counted journal ≡ take (length (counted journal)) journal
counted_is_take [] = refl
counted_is_take (entry ∷ entries) = taken_by entry entries (is_fault entry.end) (counted_is_take entries)

within_by : (entry : Entry) (entries : List Entry) (faults : Bool) → length (counted entries) ≤ length entries
    → length (entry ∷ (if faults then [] else counted entries)) ≤ length (entry ∷ entries)
within_by entry entries true fewer = omega arith
within_by entry entries false fewer = omega (arith, fewer)

pub counted_within : (journal : List Entry) → length (counted journal) ≤ length journal
counted_within [] = omega arith
counted_within (entry ∷ entries) = within_by entry entries (is_fault entry.end) (counted_within entries)

-- and legal
pub counted_legal : (p : Program) (lim : Bounds) (st : State) (journal : List Entry) → LegalFrom p lim st journal → LegalFrom p lim st (counted journal)
counted_legal p lim st [] legal = tt
counted_legal p lim st (entry ∷ entries) legal = by_fault (is_fault entry.end) (counted_legal p lim (move_result p lim st entry.mv).0 entries legal.2)
  where
    by_fault : (faults : Bool) → LegalFrom p lim (move_result p lim st entry.mv).0 (counted entries) → LegalFrom p lim st (entry ∷ (if faults then [] else counted entries))
    by_fault true more = (legal.0, legal.1, tt)
    by_fault false more = (legal.0, legal.1, more)

-- all of it counts
pub all_counted : (journal : List Entry) → length (counted journal) ≡ length journal → counted journal ≡ journal
all_counted journal all = counted_is_take journal ∙ take_all (length (counted journal)) journal (omega (arith, all))

-- a replay of the moves of a legal journal prints what the journal does
pub prints_again : (p : Program) (lim : Bounds) (journal : List Entry) (moves : List Move) (st : State) (made : Result (List ℤ) out_of.Memory) → Legal p lim journal
    → moves ≡ map move_of journal → (again : List Entry) × IsReplay p lim moves again st → IfOk made (λ prints. prints ≡ st.prints)
    → IfOk made (λ prints. prints ≡ (state_after p lim journal).prints)
prints_again p lim journal moves st (Ok prints) legal are again same =
    let one : again.0 ≡ journal = one_from p lim (start_of p lim) again.0 journal again.1.run.legal legal (again.1.has ∙ are) in
    same ∙ (ap (λ (s : State). s.prints) again.1.run.same ∙ ap (λ (es : List Entry). (state_after p lim es).prints) one)
prints_again p lim journal moves st (Err e) legal are again same = tt

-- a move that is not legal is no lack of memory
pub legal_is_replayed : (fail : ReplayFail) (n : ℕ) (why : Why) → fail ≡ Illegal n why → ReplayIsOutOfMemory fail → ⊥
legal_is_replayed fail n why is out = subst ReplayIsOutOfMemory is out

-- The numbers that were printed up to the first fault.
module _ (p : Program) (lim : Bounds) (journal : List Entry) where
  -- all of them, if all of the journal counts
  pub all_prints : (st : State) → length (counted journal) ≡ length journal → st ≡ state_after p lim journal → st.prints ≡ (state_after p lim (counted journal)).prints
  all_prints st all same = ap (λ (s : State). s.prints) same ∙ ap (λ (es : List Entry). (state_after p lim es).prints) (sym (all_counted journal all))

  -- those of a beginning
  pub early_prints : (prints : List ℤ) (count : ℕ) → count ≡ length (counted journal) → prints ≡ (state_after p lim (take count journal)).prints
      → prints ≡ (state_after p lim (counted journal)).prints
  early_prints prints count is same =
      same ∙ (ap (λ (n : ℕ). (state_after p lim (take n journal)).prints) is ∙ ap (λ (es : List Entry). (state_after p lim es).prints) (sym (counted_is_take journal)))

  -- a beginning of a legal journal is one
  pub early_legal : (count : ℕ) → count ≡ length (counted journal) → Legal p lim journal → Legal p lim (take count journal)
  early_legal count is legal =
      subst (Legal p lim) (counted_is_take journal ∙ ap (λ (n : ℕ). take n journal) (sym is)) (counted_legal p lim (start_of p lim) journal legal)

-- an answer with the same numbers
pub answers_with : (p : Program) (st : State) (ended : Outcome) (made : Result Answer out_of.Memory) (prints other : List ℤ) → prints ≡ other
    → IfOk made (AnswersRun p st prints ended) → IfOk made (AnswersRun p st other ended)
answers_with p st ended made prints other same answers = subst (λ (xs : List ℤ). IfOk made (AnswersRun p st xs ended)) same answers
