-- What the tasks of a run took, with one task more.
use Rattle.std.proofs.Common.{◌≡◌, ◌<◌, ◌≤◌, ◌+◌, ◌-◌, ◌*◌, ◌^◌, ℕ, zero, suc, Bool, true, false, List, [], ◌∷◌, ◌++◌, length, take, get_or, max, refl, sym, ap, ◌∙◌, subst, arith}
use Rattle.std.specs.Prelude.{◌==◌, if◌then◌else◌, slice_index}
use Rattle.std.specs.List.{count_by, fold, sum_by}
use Rattle.std.proofs.lemmas.List.Sums.{fold_more}
use Rattle.std.proofs.lemmas.List.{length-take-le, take_more}
use Rattle.seg_journal.specs.declared.journal.Entry.{Entry}
use Rattle.machine_state.specs.declared.state.TaskRow.{TaskRow}
use Rattle.span_profile.specs.Totals.{entries_of, total_of, with_work, work_if, work_of, works_from}
use Rattle.span_profile.specs.declared.totals.TaskTotal.{TaskTotal}
use Rattle.span_profile.specs.declared.totals.TaskWork.{TaskWork}

with_by : (total : TaskTotal) (task : TaskWork) (t : Bool)
    → record { made = total.made + (if t then 1 else 0); work = total.work + (if t then task.work else 0); heaviest = max total.heaviest (if t then task.work else 0) } ≡ with_work t total task
with_by total task true = refl
with_by total task false =
    let none : total.made + 0 ≡ total.made = omega arith in
    let no_work : total.work + 0 ≡ total.work = omega arith in
    let same : max total.heaviest 0 ≡ total.heaviest = omega arith in
    λ i. record { made = none i; work = no_work i; heaviest = same i }

pub total_more : (decl : ℕ) (works : List TaskWork) (i : ℕ) (d : TaskWork) → i < length works
    → total_of decl (take (i + 1) works) ≡ with_work ((get_or works i d).decl == decl) (total_of decl (take i works)) (get_or works i d)
total_more decl works i d below =
    let made = fold_more (λ (a : ℕ) (task : TaskWork). a + (if task.decl == decl then 1 else 0)) 0 works i d below in
    let work = fold_more (λ (a : ℕ) (task : TaskWork). a + work_if decl task) 0 works i d below in
    let heaviest = fold_more (λ (most : ℕ) (task : TaskWork). max most (work_if decl task)) 0 works i d below in
    (λ j. record { made = made j; work = work j; heaviest = heaviest j }) ∙ with_by (total_of decl (take i works)) (get_or works i d) ((get_or works i d).decl == decl)

-- one entry more
pub entries_more : (task : ℕ) (journal : List Entry) (i : ℕ) (d : Entry) → i < length journal
    → entries_of task (take (i + 1) journal) ≡ entries_of task (take i journal) + (if (get_or journal i d).mv.task == task then 1 else 0)
entries_more task journal i d below = fold_more (λ (a : ℕ) (entry : Entry). a + (if entry.mv.task == task then 1 else 0)) 0 journal i d below

-- one row more
works_push : (fuel : ℕ) (journal : List Entry) (task : ℕ) (rows : List TaskRow) (row : TaskRow)
    → works_from fuel journal task (rows ++ row ∷ []) ≡ works_from fuel journal task rows ++ record { decl = row.decl; work = work_of fuel journal (task + length rows) row } ∷ []
works_push fuel journal task [] row =
    let same : task ≡ task + 0 = omega arith in ap (λ (t : ℕ). record { decl = row.decl; work = work_of fuel journal t row } ∷ []) same
works_push fuel journal task (first ∷ rows) row =
    let same : suc task + length rows ≡ task + suc (length rows) = omega arith in
    ap (λ (l : List TaskWork). record { decl = first.decl; work = work_of fuel journal task first } ∷ l)
    (works_push fuel journal (suc task) rows row ∙ ap (λ (t : ℕ). works_from fuel journal (suc task) rows ++ record { decl = row.decl; work = work_of fuel journal t row } ∷ []) same)

pub works_more : (fuel : ℕ) (journal : List Entry) (rows : List TaskRow) (i : ℕ) (d : TaskRow) → i < length rows → length (take i rows) ≡ i
    → works_from fuel journal 0 (take (i + 1) rows) ≡ works_from fuel journal 0 (take i rows) ++ record { decl = (get_or rows i d).decl; work = work_of fuel journal i (get_or rows i d) } ∷ []
works_more fuel journal rows i d below taken =
    let number : 0 + length (take i rows) ≡ i = omega (arith, taken) in
    ap (works_from fuel journal 0) (take_more rows i d below)
    ∙ (works_push fuel journal 0 (take i rows) (get_or rows i d)
    ∙ ap (λ (t : ℕ). works_from fuel journal 0 (take i rows) ++ record { decl = (get_or rows i d).decl; work = work_of fuel journal t (get_or rows i d) } ∷ []) number)

-- the total of a few tasks stays small
pub small_more : (t : Bool) (total : TaskTotal) (task : TaskWork) (i : ℕ) → total.made ≤ i → total.work ≤ i * 2 ^ 45 → task.work < 2 ^ 45
    → ((with_work t total task).made ≤ i + 1) × ((with_work t total task).work ≤ (i + 1) * 2 ^ 45)
small_more true total task i few small light = (omega (arith, few), omega (arith, small, light))
small_more false total task i few small light = (omega (arith, few), omega (arith, small))

-- the work of one task more was pushed
pub works_on : (fuel : ℕ) (journal : List Entry) (rows : List TaskRow) (i taken : ℕ) (row : TaskRow) (works new : List TaskWork) (counts items : List ℕ) → i < length rows
    → row ≡ get_or rows i row → works ≡ works_from fuel journal 0 (take i rows) → ((t : ℕ) → t < length rows → slice_index counts t ≡ entries_of t journal) → items ≡ counts
    → taken ≡ fuel - row.frame.fuel → new ≡ works ++ record { decl = row.decl; work = slice_index items i + taken } ∷ [] → new ≡ works_from fuel journal 0 (take (i + 1) rows)
works_on fuel journal rows i taken row works new counts items below row_is so_far counted same taken_is pushed =
    let number : slice_index items i + taken ≡ work_of fuel journal i row =
    ap (λ (l : List ℕ). slice_index l i + taken) same ∙ (ap (λ (n : ℕ). n + taken) (counted i below) ∙ ap (λ (n : ℕ). entries_of i journal + n) taken_is) in
    pushed
    ∙ (ap (λ (l : List TaskWork). l ++ record { decl = row.decl; work = slice_index items i + taken } ∷ []) so_far
    ∙ (ap (λ (n : ℕ). works_from fuel journal 0 (take i rows) ++ record { decl = row.decl; work = n } ∷ []) number
    ∙ (ap (λ (r : TaskRow). works_from fuel journal 0 (take i rows) ++ record { decl = r.decl; work = work_of fuel journal i r } ∷ []) row_is
    ∙ sym (works_more fuel journal rows i row below (length-take-le i rows (omega (arith, below)))))))
