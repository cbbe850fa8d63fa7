-- The work of a task of a legal journal is small.
use Rattle.std.proofs.Common.{◌≡◌, ◌<◌, ◌≤◌, ◌+◌, ◌-◌, ◌*◌, ◌^◌, ℕ, zero, suc, List, [], ◌∷◌, length, get_or, refl, sym, ap, ◌∙◌, subst, arith}
use Rattle.std.specs.Prelude.{◌==◌}
use Rattle.std.specs.List.{All}
use Rattle.std.proofs.Math.Nat.{mul-le-mul_left}
use Rattle.std.proofs.lemmas.Nat.{mul-le}
use Rattle.std.proofs.lemmas.List.Sums.{count_by-le-length}
use Rattle.seg_journal.specs.declared.journal.Entry.{Entry}
use Rattle.twe_base.specs.Language.{max_fuel, max_tasks}
use Rattle.twe_base.specs.Limits.{Bounds, IsWithin}
use Rattle.machine_state.specs.declared.state.TaskRow.{TaskRow}
use Rattle.seg_journal.specs.declared.moves.Move.{Move}
use Rattle.machine_state.specs.declared.state.State.{State}
use Rattle.machine_state.specs.Moves.{start_of}
use Rattle.machine_state.specs.Runs.{Legal}
use Rattle.machine_state.proofs.counts.AllJournals.{journal_length}
use Rattle.machine_state.proofs.standing.ReachedStands.{reached_stands}
use Rattle.twe_program.specs.Program.{Program}
use Rattle.twe_program.specs.WellFormed.{IsWellFormed}
use Rattle.span_profile.proofs.CountedParts.{counted_legal}
use Rattle.span_profile.specs.Advice.{IsCountedRun}
use Rattle.span_profile.specs.Totals.{CanBeSummed, entries_of, work_of, works_from}
use Rattle.span_profile.specs.declared.totals.TaskWork.{TaskWork}

works_length : (fuel : ℕ) (journal : List Entry) (task : ℕ) (rows : List TaskRow) → length (works_from fuel journal task rows) ≡ length rows
works_length fuel journal task [] = refl
works_length fuel journal task (row ∷ rows) = ap (λ (n : ℕ). suc n) (works_length fuel journal (suc task) rows)

works_small : (fuel most : ℕ) (journal : List Entry) → length journal + fuel < most → (task : ℕ) (rows : List TaskRow) → All (λ (work : TaskWork). work.work < most) (works_from fuel journal task rows)
works_small fuel most journal few task [] k d below = absurd (omega (arith, below))
works_small fuel most journal few task (row ∷ rows) zero d below =
    let count = count_by-le-length (λ (entry : Entry). entry.mv.task == task) journal in omega (arith, count, few)
works_small fuel most journal few task (row ∷ rows) (suc k) d below = works_small fuel most journal few (suc task) rows k d (omega (arith, below))

pub are_few : (lim : Bounds) → IsWithin lim.fuel lim.tasks → (journal : List Entry) (rows : List TaskRow) → length journal ≤ lim.tasks * (2 * lim.fuel + 2) → length rows ≤ lim.tasks
    → CanBeSummed (works_from lim.fuel journal 0 rows)
are_few lim within journal rows short few = record {
  few = (let same = works_length lim.fuel journal 0 rows in let most = within.tasks_most in omega (arith, same, most, few));
  small = works_small lim.fuel (2 ^ 45) journal
      (let product = mul-le lim.tasks (2 * lim.fuel + 2) max_tasks (2 * max_fuel + 2) within.tasks_most (let most = within.fuel_most in omega (arith, most)) in
      let fuel_most = within.fuel_most in
      omega (arith, product, short, fuel_most))
      0 rows;
}

-- the part of a run that counts is short, and its tasks are few
pub run_is_small : (p : Program) (lim : Bounds) → IsWellFormed p → IsWithin lim.fuel lim.tasks → (moves : List Move) (journal : List Entry) (st : State) → IsCountedRun p lim moves journal st
    → (length journal < 2 ^ 45) × CanBeSummed (works_from lim.fuel journal 0 st.tasks)
run_is_small p lim well within moves journal st run =
    let legal = subst (Legal p lim) (sym run.journal_is) (counted_legal p lim (start_of p lim) run.whole run.legal) in
    let short = journal_length p lim well journal within.tasks_least legal in
    let stands = reached_stands p lim st well (record { journal = journal; legal = legal; same = run.state_is }) in
    let fuel_most = within.fuel_most in
    let product = mul-le lim.tasks (2 * lim.fuel + 2) max_tasks (2 * max_fuel + 2) within.tasks_most (omega (arith, fuel_most)) in
    (omega (arith, product, short), are_few lim within journal st.tasks short (stands.limit within.tasks_least))

-- the work of the tasks, by the lists that were lent
pub works_are : (fuel used : ℕ) (journal items : List Entry) (rows slice : List TaskRow) (works : List TaskWork) → works ≡ works_from used items 0 slice → used ≡ fuel → items ≡ journal
    → slice ≡ rows → works ≡ works_from fuel journal 0 rows
works_are fuel used journal items rows slice works is same_fuel same same_rows =
    is ∙ (ap (λ (f : ℕ). works_from f items 0 slice) same_fuel ∙ (ap (λ (l : List Entry). works_from fuel l 0 slice) same ∙ ap (works_from fuel journal 0) same_rows))
