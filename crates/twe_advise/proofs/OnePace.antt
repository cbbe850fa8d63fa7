-- Entries have one paced timetable for a number of processors, so it takes one time.
use Rattle.std.proofs.Common.{◌≡◌, ◌<◌, ◌≤◌, ◌⊎◌, inl, inr, ℕ, zero, suc, Bool, List, [], ◌∷◌, length, map, refl, sym, ap, ◌∙◌, subst, arith}
use Rattle.std.specs.Prelude.{◌==◌, if◌then◌else◌, sum_by}
use Rattle.std.specs.List.{All, Contains}
use Rattle.std.proofs.lemmas.Bool.{cases_eq, cases_lt, eq-eqb, ne_eqb}
use Rattle.std.proofs.lemmas.List.Elements.{All-contains, All-push}
use Rattle.std.proofs.lemmas.List.Sorted.{All-permutation, sum_by-IsPermutation}
use Rattle.std.proofs.lemmas.List.Sums.{sum_by-cons}
use Rattle.schedules.specs.Timetables.{ArePaced, IsPacedTime, Slot, StartsNext, job_at, job_of, jobs_below, time_of}
use Rattle.schedules.specs.declared.pacing.PacedJob.{PacedJob}
use Rattle.schedules.proofs.Paced.{contains_cases, contains_first, contains_none}
use Rattle.twe_advise.specs.Paces.{ArePaces, IsPace}
use Rattle.twe_advise.specs.declared.paces.PacedTime.{PacedTime}

-- the first job comes no later than the second
abbrev IsNoLater : PacedJob → PacedJob → Type 0
IsNoLater a b = (a.early < b.early) ⊎ ((a.early ≡ b.early) × (a.entry ≤ b.entry))

no_later_then : (a b c : PacedJob) → IsNoLater a b → IsNoLater b c → IsNoLater a c
no_later_then a b c (inl less) (inl more) = inl (omega (arith, less, more))
no_later_then a b c (inl less) (inr same) = inl (let e = same.0 in omega (arith, less, e))
no_later_then a b c (inr same) (inl more) = inl (let e = same.0 in omega (arith, more, e))
no_later_then a b c (inr same) (inr also) = inr (same.0 ∙ also.0, (let x = same.1 in let y = also.1 in omega (arith, x, y)))

-- of two jobs each of which comes no later than the other the numbers are the same
one_entry : (a b : PacedJob) → IsNoLater a b → IsNoLater b a → a.entry ≡ b.entry
one_entry a b (inl less) (inl more) = absurd (omega (arith, less, more))
one_entry a b (inl less) (inr same) = absurd (let e = same.0 in omega (arith, less, e))
one_entry a b (inr same) (inl more) = absurd (let e = same.0 in omega (arith, more, e))
one_entry a b (inr same) (inr also) = let x = same.1 in let y = also.1 in omega (arith, x, y)

-- how often a job has this number
abbrev at_entry : ℕ → PacedJob → ℕ
at_entry entry job = if job.entry == entry then 1 else 0

counted_there : (entry : ℕ) (jobs : List PacedJob) → 0 < sum_by (at_entry entry) jobs → (job : PacedJob) × Contains jobs job × (job.entry ≡ entry)
counted_there entry [] some = absurd (omega (arith, some))
counted_there entry (first ∷ jobs) some = elim (cases_eq first.entry entry) [
  | inl same ↦ (first, contains_first first jobs, same)
  | inr apart ↦
      let none : at_entry entry first ≡ 0 = ap (λ (b : Bool). if b then 1 else 0) (ne_eqb first.entry entry apart) in
      let sum = sum_by-cons (at_entry entry) first jobs in
      let rest = counted_there entry jobs (omega (arith, some, none, sum)) in
      (rest.0, later first rest.0 jobs rest.1, rest.2)
] where
  later : (x y : PacedJob) (xs : List PacedJob) → Contains xs y → Contains (x ∷ xs) y
  later x y xs has = (suc has.0, omega (arith, has.1), has.2)

first_counts : (first : PacedJob) (jobs : List PacedJob) → 0 < sum_by (at_entry first.entry) (first ∷ jobs)
first_counts first jobs =
    let one : at_entry first.entry first ≡ 1 = ap (λ (b : Bool). if b then 1 else 0) (eq-eqb first.entry first.entry refl) in
    let sum = sum_by-cons (at_entry first.entry) first jobs in
    omega (arith, one, sum)

-- two lists of jobs that any weights sum up alike
abbrev SumAlike : List PacedJob → List PacedJob → Type 0
SumAlike jobs others = (f : PacedJob → ℕ) → sum_by f jobs ≡ sum_by f others

module _ (starts ends : List ℕ) (processors : ℕ) where
  -- the job is that of an entry with these times
  abbrev IsJob : PacedJob → Type 0
  IsJob job = job ≡ job_at starts ends job.entry

  all_jobs : (count : ℕ) → All IsJob (jobs_below starts ends count)
  all_jobs zero = λ k d below. absurd (omega (arith, below))
  all_jobs (suc count) = All-push IsJob (jobs_below starts ends count) (job_at starts ends count) (all_jobs count) refl

  one_job : (a b : PacedJob) → IsJob a → IsJob b → a.entry ≡ b.entry → a ≡ b
  one_job a b is also same = is ∙ (ap (job_at starts ends) same ∙ sym also)

  -- those before a slot come no later
  before_head : (slot : Slot) (slots : List Slot) → ArePaced processors (slot ∷ slots) → (job : PacedJob) → Contains (map job_of slots) job → IsNoLater job slot.job
  before_head slot [] paced job has = absurd (contains_none job has)
  before_head slot (next ∷ slots) paced job has = elim (contains_cases next.job job (map job_of slots) has) [
    | inl same ↦ subst (λ (j : PacedJob). IsNoLater j slot.job) same paced.0.order
    | inr later ↦ no_later_then job next.job slot.job (before_head next slots paced.1 job later) paced.0.order
  ]

  last_no_later : (x : Slot) (xs : List Slot) → ArePaced processors (x ∷ xs) → (job : PacedJob) → Contains (map job_of (x ∷ xs)) job → IsNoLater job x.job
  last_no_later x xs paced job has = elim (contains_cases x.job job (map job_of xs) has) [
    | inl same ↦ inr (ap (λ (j : PacedJob). j.early) (sym same), (let e = ap (λ (j : PacedJob). j.entry) same in omega (arith, e)))
    | inr later ↦ before_head x xs paced job later
  ]

  -- a job of one list stands in the other
  there : (x : Slot) (xs ys : List Slot) → SumAlike (map job_of (x ∷ xs)) (map job_of ys) → All IsJob (map job_of (x ∷ xs)) → All IsJob (map job_of ys) → Contains (map job_of ys) x.job
  there x xs ys alike jobs others =
      let same = alike (at_entry x.job.entry) in
      let first = first_counts x.job (map job_of xs) in
      let found = counted_there x.job.entry (map job_of ys) (omega (arith, same, first)) in
      let is = All-contains IsJob (map job_of ys) found.0 others found.1 in
      let mine = All-contains IsJob (map job_of (x ∷ xs)) x.job jobs (contains_first x.job (map job_of xs)) in
      subst (Contains (map job_of ys)) (one_job found.0 x.job is mine found.2) found.1

  -- a job has one start
  no_sooner : (slots : List Slot) (x y : Slot) → x.job ≡ y.job → StartsNext processors slots x → StartsNext processors slots y → x.start ≤ y.start
  no_sooner slots x y same a b = elim (cases_lt y.start x.start) [
    | inl sooner ↦
        let early = ap (λ (j : PacedJob). j.early) same in
        let after = b.after in
        let full = a.full y.start (omega (arith, after, early)) sooner in
        let free = b.free in
        absurd (omega (arith, full, free))
    | inr past ↦ past
  ]

  one_start : (slots : List Slot) (x y : Slot) → x.job ≡ y.job → StartsNext processors slots x → StartsNext processors slots y → x ≡ y
  one_start slots x y same a b =
      let least = no_sooner slots x y same a b in
      let most = no_sooner slots y x (sym same) b a in
      let start : x.start ≡ y.start = omega (arith, least, most) in
      λ i. record { job = same i; start = start i }

  rest_alike : (x y : PacedJob) (xs ys : List PacedJob) → x ≡ y → SumAlike (x ∷ xs) (y ∷ ys) → SumAlike xs ys
  rest_alike x y xs ys same alike f =
      let all = alike f in
      let one = sum_by-cons f x xs in
      let other = sum_by-cons f y ys in
      let first = ap f same in
      omega (arith, all, one, other, first)

  rest_jobs : (x : PacedJob) (xs : List PacedJob) → All IsJob (x ∷ xs) → All IsJob xs
  rest_jobs x xs all k d below = all (suc k) d (omega (arith, below))

  one_slots : (xs ys : List Slot) → ArePaced processors xs → ArePaced processors ys → All IsJob (map job_of xs) → All IsJob (map job_of ys) → SumAlike (map job_of xs) (map job_of ys) → xs ≡ ys
  one_slots [] [] a b jobs others alike = refl
  one_slots [] (y ∷ ys) a b jobs others alike =
      let same = alike (λ job. 1) in
      let sum = sum_by-cons (λ (job : PacedJob). 1) y.job (map job_of ys) in
      absurd (omega (arith, same, sum))
  one_slots (x ∷ xs) [] a b jobs others alike =
      let same = alike (λ job. 1) in
      let sum = sum_by-cons (λ (job : PacedJob). 1) x.job (map job_of xs) in
      absurd (omega (arith, same, sum))
  one_slots (x ∷ xs) (y ∷ ys) a b jobs others alike =
      let back = λ (f : PacedJob → ℕ). sym (alike f) in
      let first = last_no_later y ys b x.job (there x xs (y ∷ ys) alike jobs others) in
      let second = last_no_later x xs a y.job (there y ys (x ∷ xs) back others jobs) in
      let entry = one_entry x.job y.job first second in
      let mine = All-contains IsJob (map job_of (x ∷ xs)) x.job jobs (contains_first x.job (map job_of xs)) in
      let its = All-contains IsJob (map job_of (y ∷ ys)) y.job others (contains_first y.job (map job_of ys)) in
      let job = one_job x.job y.job mine its entry in
      let rest =
      one_slots xs ys a.1 b.1 (rest_jobs x.job (map job_of xs) jobs) (rest_jobs y.job (map job_of ys) others) (rest_alike x.job y.job (map job_of xs) (map job_of ys) job alike) in
      let head = one_start ys x y job (subst (λ (l : List Slot). StartsNext processors l x) rest a.0) b.0 in
      λ i. head i ∷ rest i

  one_time : (time other : ℕ) → IsPacedTime starts ends processors time → IsPacedTime starts ends processors other → time ≡ other
  one_time time other a b =
      let base = jobs_below starts ends (length starts) in
      let jobs = All-permutation IsJob base (map job_of a.slots) a.whole (all_jobs (length starts)) in
      let others = All-permutation IsJob base (map job_of b.slots) b.whole (all_jobs (length starts)) in
      let alike : SumAlike (map job_of a.slots) (map job_of b.slots) =
      λ f. sum_by-IsPermutation f base (map job_of a.slots) a.whole ∙ sym (sum_by-IsPermutation f base (map job_of b.slots) b.whole) in
      a.time_is ∙ (ap time_of (one_slots a.slots b.slots a.paced b.paced jobs others alike) ∙ sym b.time_is)

-- so the table of times is one
module _ (starts ends held_starts held_ends : List ℕ) where
  abbrev Is : PacedTime → Type 0
  Is = IsPace starts ends held_starts held_ends

  one_pace : (x y : PacedTime) → x.workers ≡ y.workers → Is x → Is y → x ≡ y
  one_pace x y workers a b =
      let time = one_time starts ends y.workers x.time y.time (subst (λ (n : ℕ). IsPacedTime starts ends n x.time) workers a.paced) b.paced in
      let held = one_time held_starts held_ends y.workers x.held y.held (subst (λ (n : ℕ). IsPacedTime held_starts held_ends n x.held) workers a.held) b.held in
      λ i. record { workers = workers i; time = time i; held = held i }

  same_paces : (paces others : List PacedTime) → map (λ (pace : PacedTime). pace.workers) paces ≡ map (λ (pace : PacedTime). pace.workers) others → All Is paces → All Is others → paces ≡ others
  same_paces [] [] same a b = refl
  same_paces [] (y ∷ ys) same a b = absurd (cc (same))
  same_paces (x ∷ xs) [] same a b = absurd (cc (same))
  same_paces (x ∷ xs) (y ∷ ys) same a b =
      let workers : x.workers ≡ y.workers = cc (same) in
      let rest : map (λ (pace : PacedTime). pace.workers) xs ≡ map (λ (pace : PacedTime). pace.workers) ys = cc (same) in
      let first = All-contains Is (x ∷ xs) x a (contains_first x xs) in
      let second = All-contains Is (y ∷ ys) y b (contains_first y ys) in
      let head = one_pace x y workers first second in
      let others = same_paces xs ys rest (λ k d below. a (suc k) d (omega (arith, below))) (λ k d below. b (suc k) d (omega (arith, below))) in
      λ i. head i ∷ others i

  pub one_paces : (counts : List ℕ) (paces others : List PacedTime) → ArePaces starts ends held_starts held_ends counts paces → ArePaces starts ends held_starts held_ends counts others → paces ≡ others
  one_paces counts paces others a b = same_paces paces others (a.workers ∙ sym b.workers) a.each b.each
