-- The run from before a round is there after it.
use Rattle.std.proofs.Common.{◌≡◌, ◌≤◌, ◌<◌, ℕ, List, Result, Ok, sym, ap, subst, ◌∙◌, length, take, inl, inr}
use Rattle.std.specs.Prelude.{IfOk}
use Rattle.std.proofs.Math.Seq.{take-append_seam}
use Rattle.std.proofs.lemmas.Bool.{cases_lt}
use Rattle.std.proofs.lemmas.Result.{IfOk-weaker}
use mathlib.Core.List.{IsPrefix}
use Rattle.seg_journal.specs.declared.journal.Entry.{Entry}
use Rattle.twe_base.specs.declared.memory.Memory.{Memory}
use Rattle.task_floor.specs.declared.steps.rest.Rest.{Rest}
use Rattle.twe_rounds.proofs.Beginnings.{prefix_self}

-- as many first entries as there were before the round are those from before
pub taken_back : (old new : List Entry) (before : ℕ) → before ≡ length old → IsPrefix old new → take before new ≡ old
taken_back old new before count begins =
    ap (λ (n : ℕ). take n new) count ∙ (ap (take (length old)) (sym begins.1) ∙ take-append_seam old begins.0)

-- whether the round is kept or discarded, the journal goes on from the one before it
pub begins_kept : (old : List Entry) (after : Rest) (before room : ℕ) (result : Result Rest Memory) → before ≡ length old → IsPrefix old after.journal
    → (after.state.asked < room → result ≡ Ok after) → (room ≤ after.state.asked → IfOk result (λ (back : Rest). back.journal ≡ take before after.journal))
    → IfOk result (λ (run : Rest). IsPrefix old run.journal)
begins_kept old after before room result count begins kept back =
    elim (cases_lt after.state.asked room) [
      | inl fewer ↦ subst (λ (r : Result Rest Memory). IfOk r (λ (run : Rest). IsPrefix old run.journal)) (sym (kept fewer)) begins
      | inr full ↦ IfOk-weaker result (λ (run : Rest). run.journal ≡ take before after.journal) (λ (run : Rest). IsPrefix old run.journal)
          (λ run same. subst (IsPrefix old) (sym (same ∙ taken_back old after.journal before count begins)) (prefix_self old)) (back full)
    ]
