-- The works of the tasks of a run add up to the work of its entries.
use Rattle.std.proofs.Common.{◌≡◌, ◌<◌, ◌≤◌, ◌+◌, ◌-◌, ◌*◌, inl, inr, ℕ, zero, suc, Bool, List, [], ◌∷◌, length, Some, refl, sym, ap, ◌∙◌, arith}
use Rattle.std.specs.Prelude.{◌==◌, if◌then◌else◌, slice_get, sum_by}
use Rattle.std.proofs.lemmas.Bool.{cases_eq, eq-eqb, ne_eqb}
use Rattle.std.proofs.lemmas.List.Sums.{sum_by-cons}
use Rattle.seg_journal.specs.declared.journal.Entry.{Entry}
use Rattle.seg_journal.specs.declared.moves.Move.{Move}
use Rattle.twe_base.specs.Limits.{Bounds, IsWithin}
use Rattle.twe_program.specs.Program.{Program}
use Rattle.twe_program.specs.WellFormed.{IsWellFormed}
use Rattle.machine_state.specs.declared.state.State.{State}
use Rattle.machine_state.specs.declared.state.TaskRow.{TaskRow}
use Rattle.machine_state.specs.Moves.{move_result, start_of}
use Rattle.machine_state.specs.Runs.{Legal, LegalFrom, counted, replayed, state_after}
use Rattle.machine_state.proofs.replays.Replayed.{one_from}
use Rattle.machine_state.proofs.standing.LaterStates.{replayed_later}
use Rattle.machine_state.proofs.standing.ReachedStands.{linked_of, run_stands, start_stands, taken_stands}
use Rattle.machine_state.proofs.standing.Standing.{Stands}
use Rattle.machine_state.proofs.tasks.Movers.{mover_there}
use Rattle.span_profile.specs.Advice.{IsAdvice}
use Rattle.span_profile.specs.Strands.{strands, weight_of}
use Rattle.span_profile.specs.Totals.{entries_of, task_work, work_of, works_from}
use Rattle.span_profile.specs.declared.totals.TaskWork.{TaskWork}
use Rattle.span_profile.proofs.CountedParts.{counted_legal}
use Rattle.span_profile.proofs.FuelTaken.{rows_fuel, run_fuel, start_fuel}

-- whether an entry is of the task, as a number
abbrev hit : ℕ → ℕ → ℕ
hit task m = if m == task then 1 else 0

hit_there : (task m : ℕ) → m ≡ task → hit task m ≡ 1
hit_there task m same = ap (λ (b : Bool). if b then 1 else 0) (eq-eqb m task same)

hit_apart : (task m : ℕ) → ¬ (m ≡ task) → hit task m ≡ 0
hit_apart task m apart = ap (λ (b : Bool). if b then 1 else 0) (ne_eqb m task apart)

-- how many entries of these are of one of so many tasks, the first of which has this number
abbrev hits : ℕ → ℕ → ℕ → ℕ
hits m task zero = 0
hits m task (suc n) = hit task m + hits m (suc task) n

abbrev entries_from : List Entry → ℕ → ℕ → ℕ
entries_from journal task zero = 0
entries_from journal task (suc n) = entries_of task journal + entries_from journal (suc task) n

no_hits : (m task n : ℕ) → m < task → hits m task n ≡ 0
no_hits m task zero below = refl
no_hits m task (suc n) below =
    let here = hit_apart task m (λ same. omega (arith, same, below)) in
    let rest = no_hits m (suc task) n (omega (arith, below)) in
    omega (arith, here, rest)

one_hit : (m task n : ℕ) → task ≤ m → m < task + n → hits m task n ≡ 1
one_hit m task zero above below = absurd (omega (arith, above, below))
one_hit m task (suc n) above below = elim (cases_eq m task) [
  | inl same ↦
      let here = hit_there task m same in
      let rest = no_hits m (suc task) n (omega (arith, same)) in
      omega (arith, here, rest)
  | inr apart ↦
      let here = hit_apart task m apart in
      let rest = one_hit m (suc task) n (omega (arith, above, apart)) (omega (arith, below)) in
      omega (arith, here, rest)
]

none_from : (task n : ℕ) → entries_from [] task n ≡ 0
none_from task zero = refl
none_from task (suc n) = let rest = none_from (suc task) n in omega (arith, rest)

more_from : (entry : Entry) (entries : List Entry) (task n : ℕ) → entries_from (entry ∷ entries) task n ≡ hits entry.mv.task task n + entries_from entries task n
more_from entry entries task zero = refl
more_from entry entries task (suc n) =
    let one : entries_of task (entry ∷ entries) ≡ hit task entry.mv.task + entries_of task entries = sum_by-cons (λ (e : Entry). hit task e.mv.task) entry entries in
    let rest = more_from entry entries (suc task) n in
    omega (arith, one, rest)

abbrev AreBelow : ℕ → List Entry → Type 0
AreBelow n journal = (i : ℕ) (entry : Entry) → slice_get journal i ≡ Some entry → entry.mv.task < n

-- each entry is of one task
entries_all : (n : ℕ) (journal : List Entry) → AreBelow n journal → entries_from journal 0 n ≡ length journal
entries_all n [] below = none_from 0 n
entries_all n (entry ∷ entries) below =
    let more = more_from entry entries 0 n in
    let first = below 0 entry refl in
    let one = one_hit entry.mv.task 0 n (omega arith) (omega (arith, first)) in
    let rest = entries_all n entries (λ i e at. below (suc i) e at) in
    omega (arith, more, one, rest)

-- The works of tasks that have no more than the fuel.
sum_works : (fuel : ℕ) (journal : List Entry) (task : ℕ) (rows : List TaskRow) → ((k : ℕ) (row : TaskRow) → slice_get rows k ≡ Some row → row.frame.fuel ≤ fuel)
    → sum_by task_work (works_from fuel journal task rows) + rows_fuel rows ≡ entries_from journal task (length rows) + length rows * fuel
sum_works fuel journal task [] within = omega arith
sum_works fuel journal task (row ∷ rows) within =
    let first : TaskWork = record { decl = row.decl; work = work_of fuel journal task row } in
    let one = sum_by-cons task_work first (works_from fuel journal (suc task) rows) in
    let enough = within 0 row refl in
    let rest = sum_works fuel journal (suc task) rows (λ k r at. within (suc k) r at) in
    omega (arith, one, enough, rest)

split_room : (fuel n k : ℕ) → (n + k) * fuel ≡ n * fuel + k * fuel
split_room fuel zero k = omega arith
split_room fuel (suc n) k = let rest = split_room fuel n k in omega (arith, rest)

module _ (p : Program) (lim : Bounds) (well : IsWellFormed p) where
  -- the tasks of the entries are there in the end
  movers_below : (st : State) (entries : List Entry) → Stands p lim st → LegalFrom p lim st entries → AreBelow (length (replayed p lim st entries).tasks) entries
  movers_below st [] stands legal i e at = absurd (cc)
  movers_below st (entry ∷ entries) stands legal zero e at =
      let same : entry ≡ e = cc in
      let there = mover_there st entry.mv.kind entry.mv.task legal.0 in
      let later = replayed_later p lim st (entry ∷ entries) legal (linked_of p lim well st stands) in
      let longer = later.longer in
      let task : entry.mv.task ≡ e.mv.task = ap (λ (x : Entry). x.mv.task) same in
      omega (arith, there, longer, task)
  movers_below st (entry ∷ entries) stands legal (suc i) e at =
      movers_below (move_result p lim st entry.mv).0 entries (taken_stands p lim well st entry.mv.kind entry.mv.task legal.0 stands) legal.2 i e at

  journal_sum : IsWithin lim.fuel lim.tasks → (journal : List Entry) → Legal p lim journal
      → sum_by task_work (works_from lim.fuel journal 0 (state_after p lim journal).tasks) ≡ sum_by weight_of (strands p lim journal)
  journal_sum within journal legal =
      let last = state_after p lim journal in
      let first = start_stands p lim well in
      let stands = run_stands p lim well (start_of p lim) journal legal first in
      let works = sum_works lim.fuel journal 0 last.tasks (λ k row at. (stands.rows k row at).frame.fuel) in
      let all = entries_all (length last.tasks) journal (movers_below (start_of p lim) journal first legal) in
      let weights = run_fuel p lim well (start_of p lim) journal first legal in
      let start = start_fuel p lim well within.tasks_least in
      let few = stands.limit within.tasks_least in
      let room : (length last.tasks + (lim.tasks - length last.tasks)) * lim.fuel ≡ length last.tasks * lim.fuel + (lim.tasks - length last.tasks) * lim.fuel =
      split_room lim.fuel (length last.tasks) (lim.tasks - length last.tasks) in
      let whole : length last.tasks + (lim.tasks - length last.tasks) ≡ lim.tasks = omega (arith, few) in
      let split : lim.tasks * lim.fuel ≡ length last.tasks * lim.fuel + (lim.tasks - length last.tasks) * lim.fuel = sym (ap (λ (m : ℕ). m * lim.fuel) whole) ∙ room in
      omega (arith, works, all, weights, start, split)

pub works_sum : (p : Program) (lim : Bounds) (moves : List Move) (work span : ℕ) (chain : List ℕ) (works : List TaskWork) → IsWellFormed p → IsWithin lim.fuel lim.tasks
    → IsAdvice p lim moves work span chain works → sum_by task_work works ≡ work
works_sum p lim moves work span chain works well within is =
    let run = is.tasks.run in
    let same : is.profile.journal ≡ run.whole = one_from p lim (start_of p lim) is.profile.journal run.whole is.profile.legal run.legal (is.profile.has ∙ sym run.has) in
    let parts : is.tasks.journal ≡ counted is.profile.journal = run.journal_is ∙ sym (ap counted same) in
    let legal = counted_legal p lim (start_of p lim) is.profile.journal is.profile.legal in
    let rows : is.tasks.st ≡ state_after p lim (counted is.profile.journal) = run.state_is ∙ ap (state_after p lim) parts in
    let these : works ≡ works_from lim.fuel (counted is.profile.journal) 0 (state_after p lim (counted is.profile.journal)).tasks =
    is.tasks.works_are ∙ (λ i. works_from lim.fuel (parts i) 0 (rows i).tasks) in
    ap (sum_by task_work) these ∙ (journal_sum p lim well within (counted is.profile.journal) legal ∙ sym is.profile.heaviest.work_is)
