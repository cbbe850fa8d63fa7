-- A paced timetable of all entries is a timetable, and takes no less than the bounds and no more than both.
use Rattle.std.proofs.Common.{◌≡◌, ◌<◌, ◌≤◌, ◌+◌, ◌-◌, ◌*◌, ◌⊎◌, inl, inr, ℕ, zero, suc, List, [], ◌∷◌, length, map, refl, sym, ap, ◌∙◌, subst, arith}
use Rattle.std.specs.Prelude.{slice_index}
use Rattle.std.specs.List.{Contains, sum_by}
use Rattle.std.proofs.lemmas.Bool.{cases_lt}
use Rattle.std.proofs.lemmas.List.{length-map, length-append}
use Rattle.std.proofs.lemmas.List.Elements.{Contains-append_left, Contains-push, Contains-push_cases}
use Rattle.std.proofs.lemmas.List.Sorted.{Contains-permutation, IsPermutation-sym, length_permutation, sum_by-IsPermutation}
use Rattle.std.proofs.lemmas.List.Sums.{sum_by-cons, sum_by_push}
use Rattle.std.proofs.Math.Nat.{mul-le-mul_left}
use Rattle.schedules.specs.Schedules.{least_time}
use Rattle.schedules.specs.Sums.{sum_below}
use Rattle.schedules.specs.Timetables.{AreEarliest, IsPacedTime, IsTimetable, Slot, busy_in, delay_of, slot_end, job_at, job_of, jobs_below, time_of}
use Rattle.schedules.specs.declared.pacing.PacedJob.{PacedJob}
use Rattle.schedules.proofs.Bounds.{quotient_least, sum_of_same, sum_within}
use Rattle.schedules.proofs.Paced.{all_run, contains_map, contains_none, delayed, ends_by, few, first_by, first_start, jobs_within, kept, map_contains, not_early, sum_longer, time_within, weights_of, work_done}

-- the entries of a list of jobs
pub jobs_count : (starts ends : List ℕ) (n : ℕ) → length (jobs_below starts ends n) ≡ n
jobs_count starts ends zero = refl
jobs_count starts ends (suc n) =
    let long = length-append (jobs_below starts ends n) (job_at starts ends n ∷ []) in
    let before = jobs_count starts ends n in
    long ∙ omega (arith, before)

below_in : (starts ends : List ℕ) (n : ℕ) (job : PacedJob) → Contains (jobs_below starts ends n) job → (entry : ℕ) × (entry < n) × (job ≡ job_at starts ends entry)
below_in starts ends zero job has = absurd (contains_none job has)
below_in starts ends (suc n) job has = elim (Contains-push_cases (jobs_below starts ends n) (job_at starts ends n) job has) [
  | inl before ↦ (let rest = below_in starts ends n job before in (rest.0, let less = rest.1 in omega (arith, less), rest.2))
  | inr last ↦ (n, omega arith, sym last)
]

in_below : (starts ends : List ℕ) (n entry : ℕ) → entry < n → Contains (jobs_below starts ends n) (job_at starts ends entry)
in_below starts ends zero entry less = absurd (omega (arith, less))
in_below starts ends (suc n) entry less = elim (cases_lt entry n) [
  | inl before ↦ Contains-append_left (jobs_below starts ends n) (job_at starts ends n ∷ []) (job_at starts ends entry) (in_below starts ends n entry before)
  | inr last ↦ (
      let e : n ≡ entry = omega (arith, less, last) in
      subst (λ (m : ℕ). Contains (jobs_below starts ends (suc n)) (job_at starts ends m)) e (Contains-push (jobs_below starts ends n) (job_at starts ends n)))
]

jobs_weight : (starts ends : List ℕ) (n : ℕ) → sum_by (λ (j : PacedJob). j.weight) (jobs_below starts ends n) ≡ sum_below (λ entry. slice_index ends entry - slice_index starts entry) n
jobs_weight starts ends zero = refl
jobs_weight starts ends (suc n) =
    sum_by_push (λ (j : PacedJob). j.weight) (jobs_below starts ends n) (job_at starts ends n) ∙ (let before = jobs_weight starts ends n in omega (arith, before))

slots_weight : (slots : List Slot) → weights_of slots ≡ sum_by (λ (j : PacedJob). j.weight) (map job_of slots)
slots_weight [] = refl
slots_weight (slot ∷ slots) =
    (let rest = slots_weight slots in omega (arith, rest)) ∙ sym (sum_by-cons (λ (j : PacedJob). j.weight) slot.job (map job_of slots))

sum_same : (f g : ℕ → ℕ) (n : ℕ) → ((i : ℕ) → i < n → f i ≡ g i) → sum_below f n ≡ sum_below g n
sum_same f g zero same = refl
sum_same f g (suc n) same =
    let before = sum_same f g n (λ i below. same i (omega (arith, below))) in
    let this = same n (omega arith) in
    omega (arith, before, this)

module _ (Leads : ℕ → ℕ → Type 0) (weight : ℕ → ℕ) (count span : ℕ) (starts ends : List ℕ) (are : AreEarliest Leads weight count span starts ends)
    (processors time : ℕ) (is : IsPacedTime starts ends processors time) where
  job_in : (a : Slot) → Contains is.slots a → (entry : ℕ) × (entry < count) × (a.job ≡ job_at starts ends entry)
  job_in a has =
      let in_jobs =
      Contains-permutation (map job_of is.slots) (jobs_below starts ends (length starts)) a.job (IsPermutation-sym (jobs_below starts ends (length starts)) (map job_of is.slots) is.whole)
      (contains_map job_of is.slots a has) in
      let found = below_in starts ends (length starts) a.job in_jobs in
      (found.0, let less = found.1 in let long = are.starts_count in omega (arith, less, long), found.2)

  slot_for : (entry : ℕ) → entry < count → (a : Slot) × Contains is.slots a × (a.job ≡ job_at starts ends entry)
  slot_for entry less =
      map_contains job_of is.slots (job_at starts ends entry)
      (Contains-permutation (jobs_below starts ends (length starts)) (map job_of is.slots) (job_at starts ends entry) is.whole
      (in_below starts ends (length starts) entry (let long = are.starts_count in omega (arith, less, long))))

  ends_there : (a : Slot) → Contains is.slots a → (entry : ℕ) × (entry < count) × (a.job.entry ≡ entry) × (a.job.early ≡ slice_index starts entry) × (a.job.weight ≡ weight entry)
  ends_there a has =
      let found = job_in a has in (
        found.0,
        found.1,
        ap (λ (j : PacedJob). j.entry) found.2,
        ap (λ (j : PacedJob). j.early) found.2,
        ap (λ (j : PacedJob). j.weight) found.2 ∙ (let takes = are.takes found.0 found.1 in omega (arith, takes)),
      )

  as_many : length is.slots ≡ count
  as_many =
      sym (length-map is.slots job_of)
      ∙ (length_permutation (jobs_below starts ends (length starts)) (map job_of is.slots) is.whole ∙ (jobs_count starts ends (length starts) ∙ are.starts_count))

  ordered : (a b : Slot) → Contains is.slots a → Contains is.slots b → Leads a.job.entry b.job.entry → slot_end a ≤ b.start
  ordered a b in_a in_b leads =
      let at_a = ends_there a in_a in
      let at_b = ends_there b in_b in
      let lead : Leads at_a.0 at_b.0 = subst (λ (i : ℕ). Leads i at_b.0) at_a.2 (subst (λ (j : ℕ). Leads a.job.entry j) at_b.2 leads) in
      let order = are.ordered at_a.0 at_b.0 at_a.1 at_b.1 lead in
      let takes = are.takes at_a.0 at_a.1 in
      let some = are.some at_a.0 at_a.1 in
      let early_a = at_a.3 in
      let weight_a = at_a.4 in
      let early_b = at_b.3 in
      let less : a.job.early < b.job.early = omega (arith, order, takes, some, early_a, early_b) in
      let k = kept processors is.slots is.paced a b in_a in_b less in
      let below = k.1 in
      let above = k.2 in
      omega (arith, order, takes, early_a, weight_a, early_b, below, above)

  pub timetable : IsTimetable Leads weight count processors is.slots
  timetable = record {
    as_many = as_many;
    each = λ entry less. (let found = slot_for entry less in (found.0, found.1, ap (λ (j : PacedJob). j.entry) found.2));
    takes = λ a has. (let at = ends_there a has in at.4 ∙ ap weight (sym at.2));
    ordered = ordered;
    few = few processors is.slots is.paced;
  }

  work_is : weights_of is.slots ≡ sum_below weight count
  work_is =
      slots_weight is.slots
      ∙ (sum_by-IsPermutation (λ (j : PacedJob). j.weight) (jobs_below starts ends (length starts)) (map job_of is.slots) is.whole
      ∙ (jobs_weight starts ends (length starts)
      ∙ (ap (sum_below (λ entry. slice_index ends entry - slice_index starts entry)) are.starts_count
      ∙ sum_same (λ entry. slice_index ends entry - slice_index starts entry) weight count (λ entry less. (let takes = are.takes entry less in omega (arith, takes))))))

  run : sum_below (busy_in is.slots) (time_of is.slots) ≡ sum_below weight count
  run = all_run is.slots (time_of is.slots) (omega arith) ∙ work_is

  pub short : processors * time ≤ sum_below weight count + processors * span
  short =
      let within = jobs_within span is.slots (λ a has. (
      let at = ends_there a has in
      let takes = are.takes at.0 at.1 in
      let most = are.within at.0 at.1 in
      let early = at.3 in
      let heavy = at.4 in
      omega (arith, takes, most, early, heavy))) in
      let late = time_within span (delay_of is.slots) is.slots (delayed processors is.slots is.paced) within in
      let done = work_done processors is.slots is.paced in
      let longer = sum_longer (busy_in is.slots) (first_start is.slots) (time_of is.slots) (first_by is.slots) in
      let same = is.time_is in
      let le : time ≤ span + delay_of is.slots = omega (arith, late, same) in
      let product = mul-le-mul_left processors le in
      omega (arith, product, done, longer, run)

  work_within : sum_below weight count ≤ processors * time
  work_within =
      let most = sum_within (busy_in is.slots) (λ step. processors) (time_of is.slots) (few processors is.slots is.paced) in
      let whole = sum_of_same processors (time_of is.slots) in
      let same = ap (λ (t : ℕ). processors * t) is.time_is in
      omega (arith, most, whole, same, run)

  span_within : (span ≡ 0) ⊎ ((entry : ℕ) × (entry < count) × (slice_index ends entry ≡ span)) → span ≤ time
  span_within (inl none) = omega (arith, none)
  span_within (inr last) =
      let found = slot_for last.0 last.1 in
      let at = ends_there found.0 found.1 in
      let takes = are.takes last.0 last.1 in
      let begun = not_early processors is.slots is.paced found.0 found.1 in
      let ended = ends_by is.slots found.0 found.1 in
      let early = ap (λ (j : PacedJob). j.early) found.2 in
      let heavy = ap (λ (j : PacedJob). j.weight) found.2 in
      let span_is = last.2 in
      let same = is.time_is in
      omega (arith, takes, begun, ended, early, heavy, span_is, same)

  pub least : 0 < processors → least_time (sum_below weight count) span processors ≤ time
  least some =
      let share = quotient_least (sum_below weight count) processors time some work_within in
      let chain = span_within are.reached in
      omega (arith, share, chain)
