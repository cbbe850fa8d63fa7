-- One entry more in a paced timetable.
use Rattle.std.proofs.Common.{◌≡◌, ◌<◌, ◌≤◌, ◌+◌, ◌-◌, ◌++◌, ◌⊎◌, inl, inr, ℕ, zero, suc, Bool, true, false, cond, List, [], ◌∷◌, length, map, reverse, take, get_or, set, refl, sym, ap, ◌∙◌, subst, arith, max, nat_cmp, is_lt, Ordering}
use Rattle.std.specs.declared.cmp.Ordering.TheVariants.{Less, Equal, Greater}
use Rattle.std.specs.Ordering.{ordering_then}
use Rattle.std.specs.Prelude.{◌==◌, nat_lt}
use Rattle.std.specs.List.{All, sum_by}
use Rattle.std.specs.List.Sorted.{IsPermutation}
use Rattle.std.proofs.lemmas.Bool.{cases_lt, cases_order, lt-ltb, le-ltb}
use Rattle.std.proofs.lemmas.Bool.Decides.{nat_tests}
use Rattle.std.proofs.lemmas.List.{length-set, reverse-append, take_all, take_more}
use Rattle.std.proofs.lemmas.List.Elements.{All-set}
use Rattle.std.proofs.lemmas.List.Sorted.{IsPermutation-reverse, IsPermutation-trans, length_permutation}
use Rattle.std.proofs.lemmas.List.Sums.{sum_by-cons, sum_by-set}
use Rattle.schedules.specs.Schedules.{runs_in}
use Rattle.schedules.specs.Timetables.{ArePaced, ComesAfter, Slot, StartsNext, busy_in, delay_of, job_of, time_of}
use Rattle.schedules.specs.declared.pacing.PacedJob.{PacedJob}
use Rattle.schedules.specs.inner.Placing.{AreSmall, IsPlaced, most_64}
use Rattle.schedules.proofs.Bounds.{after_end, in_between, one_if}
use Rattle.schedules.proofs.Paced.{first_start, first_within, one_most}

-- how many processors are not free after the step, if these are the times at which they are
abbrev pub still_busy : List ℕ → ℕ → ℕ
still_busy free step = sum_by (λ (time : ℕ). one_if (nat_lt step time)) free

most_busy : (free : List ℕ) (step : ℕ) → still_busy free step ≤ length free
most_busy [] step = omega arith
most_busy (time ∷ free) step =
    let sum = sum_by-cons (λ (t : ℕ). one_if (nat_lt step t)) time free in
    let one = one_most (nat_lt step time) in
    let rest = most_busy free step in
    omega (arith, sum, one, rest)

all_busy : (free : List ℕ) (step : ℕ) → ((k : ℕ) → k < length free → step < get_or free k 0) → length free ≤ still_busy free step
all_busy [] step each = omega arith
all_busy (time ∷ free) step each =
    let sum = sum_by-cons (λ (t : ℕ). one_if (nat_lt step t)) time free in
    let this = ap one_if (lt-ltb step time (each 0 (omega arith))) in
    let rest = all_busy free step (λ k below. each (suc k) (omega (arith, below))) in
    omega (arith, sum, this, rest)

one_free : (free : List ℕ) (step k : ℕ) → k < length free → get_or free k 0 ≤ step → still_busy free step < length free
one_free [] step k below is = absurd (omega (arith, below))
one_free (time ∷ free) step zero below is =
    let sum = sum_by-cons (λ (t : ℕ). one_if (nat_lt step t)) time free in
    let none = ap one_if (le-ltb step time is) in
    let rest = most_busy free step in
    omega (arith, sum, none, rest)
one_free (time ∷ free) step (suc k) below is =
    let sum = sum_by-cons (λ (t : ℕ). one_if (nat_lt step t)) time free in
    let one = one_most (nat_lt step time) in
    let rest = one_free free step k (omega (arith, below)) is in
    omega (arith, sum, one, rest)

-- an entry that has started runs until it ends
runs_until : (start weight step : ℕ) → start ≤ step → one_if (runs_in start weight step) ≡ one_if (nat_lt step (start + weight))
runs_until start weight step begun = elim (cases_lt step (start + weight)) [
  | inl runs ↦ in_between start weight step begun runs ∙ sym (ap one_if (lt-ltb step (start + weight) runs))
  | inr over ↦ after_end start weight step over ∙ sym (ap one_if (le-ltb step (start + weight) over))
]

-- A timetable under way: the entries so far, and when each processor is free.
pub record Pacing (processors : ℕ) (taken : List PacedJob) (free : List ℕ) (delay time : ℕ) : Type 0 where
  pub slots : List Slot
  pub paced : ArePaced processors slots
  pub jobs_are : map job_of slots ≡ reverse taken
  pub delay_is : delay ≡ delay_of slots
  pub time_is : time ≡ time_of slots
  pub count : length free ≡ processors
  pub frees : (step : ℕ) → first_start slots ≤ step → busy_in slots step ≡ still_busy free step

module _ (processors : ℕ) (taken : List PacedJob) (free : List ℕ) (delay time : ℕ) (h : Pacing processors taken free delay time)
    (job : PacedJob) (order : ComesAfter h.slots job) (least : ℕ) (there : least < length free) (is_least : (k : ℕ) → k < length free → get_or free least 0 ≤ get_or free k 0)
    (start : ℕ) (start_is : start ≡ max (job.early + delay) (get_or free least 0)) where
  abbrev slot : Slot
  slot = record { job = job; start = start }

  begun : first_start h.slots ≤ start
  begun = let within = first_within job h.slots order in let d = h.delay_is in omega (arith, within, d, start_is)

  next : StartsNext processors h.slots slot
  next = record {
    order = order;
    after = (let d = h.delay_is in omega (arith, d, start_is));
    free = (let one = one_free free start least there (omega (arith, start_is)) in let same = h.frees start begun in let count = h.count in omega (arith, one, same, count));
    full = λ step here before.
        let within = first_within job h.slots order in
        let d = h.delay_is in
        let same = h.frees step (omega (arith, within, here)) in
        let all = all_busy free step (λ k below. let le = is_least k below in omega (arith, le, start_is, d, here, before)) in
        let count = h.count in
        omega (arith, same, all, count);
  }

  frees_on : (step : ℕ) → start ≤ step → one_if (runs_in start job.weight step) + busy_in h.slots step ≡ still_busy (set free least (start + job.weight)) step
  frees_on step late =
      let f = λ (t : ℕ). one_if (nat_lt step t) in
      let changed = sum_by-set (λ (t : ℕ). one_if (nat_lt step t)) free least (start + job.weight) 0 there in
      let none = ap one_if (le-ltb step (get_or free least 0) (omega (arith, start_is, late))) in
      let same = h.frees step (omega (arith, begun, late)) in
      let runs = runs_until start job.weight step late in
      omega (arith, changed, none, same, runs)

  pub pacing_on : Pacing processors (taken ++ job ∷ []) (set free least (start + job.weight)) (start - job.early) (max time (start + job.weight))
  pacing_on = record {
    slots = slot ∷ h.slots;
    paced = (next, h.paced);
    jobs_are = ap (λ (l : List PacedJob). job ∷ l) h.jobs_are ∙ sym (reverse-append taken (job ∷ []));
    delay_is = refl;
    time_is = ap (λ (t : ℕ). max t (start + job.weight)) h.time_is;
    count = length-set free least (start + job.weight) ∙ h.count;
    frees = frees_on;
  }

-- The order of sorted entries.

less_is : (x y : ℕ) (o : Ordering) → x < y → is_lt (ordering_then (nat_cmp x y) o) ≡ true
less_is x y o less = ap (λ (b : Bool). is_lt (ordering_then (cond b Less (cond (x == y) Equal Greater)) o)) (lt-ltb x y less)

same_is : (x : ℕ) (o : Ordering) → is_lt (ordering_then (nat_cmp x x) o) ≡ is_lt o
same_is x o = grind (arith, nat_tests)

equal_is : (x y : ℕ) (o : Ordering) → x ≡ y → is_lt (ordering_then (nat_cmp x y) o) ≡ is_lt o
equal_is x y o same = subst (λ (z : ℕ). is_lt (ordering_then (nat_cmp x z) o) ≡ is_lt o) same (same_is x o)

-- as `sort` compares them: by their earliest times, and then by their numbers
abbrev pub job_order : PacedJob → PacedJob → Ordering
job_order a b = ordering_then (nat_cmp a.early b.early) (ordering_then (nat_cmp a.entry b.entry) (nat_cmp a.weight b.weight))

entry_up : (a b : PacedJob) → is_lt (ordering_then (nat_cmp b.entry a.entry) (nat_cmp b.weight a.weight)) ≡ false → a.entry ≤ b.entry
entry_up a b not_less = elim (cases_lt b.entry a.entry) [
  | inl less ↦ absurd (let is = less_is b.entry a.entry (nat_cmp b.weight a.weight) less in let no : true ≡ false = sym is ∙ not_less in cc)
  | inr le ↦ le
]

pub after_sorted : (a b : PacedJob) → is_lt (job_order b a) ≡ false → (a.early < b.early) ⊎ ((a.early ≡ b.early) × (a.entry ≤ b.entry))
after_sorted a b not_less = elim (cases_order a.early b.early) [
  | inl same ↦ inr (same, entry_up a b (sym (equal_is b.early a.early (ordering_then (nat_cmp b.entry a.entry) (nat_cmp b.weight a.weight)) (sym same)) ∙ not_less))
  | inr (inl less) ↦ inl less
  | inr (inr more) ↦ absurd (
      let is = less_is b.early a.early (ordering_then (nat_cmp b.entry a.entry) (nat_cmp b.weight a.weight)) more in
      let no : true ≡ false = sym is ∙ not_less in
      cc)
]

-- the next of sorted entries comes after those before it
pub comes_after : (jobs : List PacedJob) (i : ℕ) (d : PacedJob) (slots : List Slot) → i < length jobs → ((k : ℕ) → k + 1 < length jobs → is_lt (job_order (get_or jobs (k + 1) d) (get_or jobs k d)) ≡ false)
    → map job_of slots ≡ reverse (take i jobs) → ComesAfter slots (get_or jobs i d)
comes_after jobs i d [] below sorted are = tt
comes_after jobs zero d (slot ∷ slots) below sorted are = absurd (cc)
comes_after jobs (suc m) d (slot ∷ slots) below sorted are =
    let more : take (m + 1) jobs ≡ take m jobs ++ get_or jobs m d ∷ [] = take_more jobs m d (omega (arith, below)) in
    let same : suc m ≡ m + 1 = omega arith in
    let turned : reverse (take (suc m) jobs) ≡ get_or jobs m d ∷ reverse (take m jobs) =
    ap (λ (n : ℕ). reverse (take n jobs)) same ∙ (ap (λ (l : List PacedJob). reverse l) more ∙ reverse-append (take m jobs) (get_or jobs m d ∷ [])) in
    let front : slot.job ∷ map job_of slots ≡ get_or jobs m d ∷ reverse (take m jobs) = are ∙ turned in
    let first : slot.job ≡ get_or jobs m d = cc in
    let step = after_sorted (get_or jobs m d) (get_or jobs (m + 1) d) (sorted m (omega (arith, below))) in
    let last : get_or jobs (m + 1) d ≡ get_or jobs (suc m) d = ap (λ (n : ℕ). get_or jobs n d) (sym same) in
    subst (λ (b : PacedJob). (slot.job.early < b.early) ⊎ ((slot.job.early ≡ b.early) × (slot.job.entry ≤ b.entry))) last
    (subst (λ (a : PacedJob). (a.early < (get_or jobs (m + 1) d).early) ⊎ ((a.early ≡ (get_or jobs (m + 1) d).early) × (a.entry ≤ (get_or jobs (m + 1) d).entry))) (sym first) step)

-- an entry was placed
pub paced_on : (processors : ℕ) (order : List PacedJob) (i : ℕ) (d : PacedJob) (free : List ℕ) (delay time : ℕ) → Pacing processors (take i order) free delay time → i < length order
    → ((k : ℕ) → k + 1 < length order → is_lt (job_order (get_or order (k + 1) d) (get_or order k d)) ≡ false)
    → (later end : ℕ) (after : List ℕ) → IsPlaced free (get_or order i d) delay later end after → (last : ℕ) → last ≡ max time end → Pacing processors (take (i + 1) order) after later last
paced_on processors order i d free delay time h below sorted later end after placed last last_is =
    let job : PacedJob = get_or order i d in
    let comes = comes_after order i d h.slots below sorted h.jobs_are in
    let on : Pacing processors (take i order ++ job ∷ []) (set free placed.least (placed.start + job.weight)) (placed.start - job.early) (max time (placed.start + job.weight)) =
    pacing_on processors (take i order) free delay time h job comes placed.least placed.there placed.is_least placed.start placed.start_is in
    subst (λ (t : ℕ). Pacing processors (take (i + 1) order) after later t) (sym (last_is ∙ ap (max time) placed.end_is))
    (subst (λ (l : ℕ). Pacing processors (take (i + 1) order) after l (max time (placed.start + job.weight))) (sym placed.later_is)
    (subst (λ (f : List ℕ). Pacing processors (take (i + 1) order) f (placed.start - job.early) (max time (placed.start + job.weight))) (sym placed.after_is)
    (subst (λ (jobs : List PacedJob). Pacing processors jobs (set free placed.least (placed.start + job.weight)) (placed.start - job.early) (max time (placed.start + job.weight))) (sym (take_more order i d below)) on)))

-- in the end all entries were
pub whole_of : (base jobs sorted order : List PacedJob) (i : ℕ) (slots : List Slot) → jobs ≡ base → IsPermutation jobs sorted → order ≡ sorted → length order ≤ i → map job_of slots ≡ reverse (take i order)
    → IsPermutation base (map job_of slots)
whole_of base jobs sorted order i slots jobs_are moved order_is all are =
    subst (λ (l : List PacedJob). IsPermutation l (map job_of slots)) jobs_are
    (subst (IsPermutation jobs) (sym (are ∙ (ap (λ (l : List PacedJob). reverse l) (take_all i order all) ∙ ap (λ (l : List PacedJob). reverse l) order_is)))
    (IsPermutation-trans jobs sorted (reverse sorted) moved (IsPermutation-reverse sorted)))

pub order_count : (base jobs sorted order : List PacedJob) (count : ℕ) → jobs ≡ base → length base ≡ count → IsPermutation jobs sorted → order ≡ sorted → length order ≡ count
order_count base jobs sorted order count jobs_are long moved order_is =
    ap (λ (l : List PacedJob). length l) order_is ∙ (length_permutation jobs sorted moved ∙ (ap (λ (l : List PacedJob). length l) jobs_are ∙ long))

-- the numbers stay small
pub small_on : (free : List ℕ) (job : PacedJob) (delay later end : ℕ) (after : List ℕ) → IsPlaced free job delay later end after → job.early ≤ most_64 → job.weight ≤ most_64
    → (bound : ℕ) → AreSmall free delay bound → AreSmall after later (bound + most_64)
small_on free job delay later end after placed early weight bound small =
    let least = small.small placed.least 0 placed.there in
    let little = small.little in
    let begun = placed.start_is in
    record {
      little = (let is = placed.later_is in omega (arith, least, little, begun, is));
      small =
          subst (All (λ (time : ℕ). time ≤ bound + most_64 + most_64)) (sym placed.after_is)
          (All-set (λ (time : ℕ). time ≤ bound + most_64 + most_64) free placed.least (placed.start + job.weight) (omega (arith, least, little, begun, early, weight))
          (λ k d below. (let le = small.small k d below in omega (arith, le))));
    }
