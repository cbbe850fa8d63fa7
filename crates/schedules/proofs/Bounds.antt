-- How long schedules take: no less than a chain, no less than the work shared out, and if greedy no more than both.
use Rattle.std.proofs.Common.{◌≡◌, ◌<◌, ◌≤◌, ◌+◌, ◌-◌, ◌*◌, ◌⊎◌, inl, inr, ℕ, zero, suc, Bool, true, false, List, [], ◌∷◌, ◌++◌, refl, ap, ◌∙◌, arith, min}
use Rattle.std.specs.Prelude.{nat_le, nat_lt, if◌then◌else◌}
use Rattle.std.specs.List.{sum_by}
use Rattle.std.proofs.Math.Nat.{mul-le-mul_left}
use Rattle.std.specs.Int.{div_ceil}
use Rattle.std.proofs.lemmas.Grind.{div_ceil_times}
use Rattle.std.proofs.lemmas.Nat.{mul-le}
use Rattle.std.proofs.lemmas.Bool.{and_from, and_left, and_right, cases_lt, le-leb, lt-leb, lt-ltb, le-ltb}
use Rattle.std.proofs.lemmas.List.Sums.{sum_by-cons, sum_by_push}
use Rattle.schedules.specs.Chains.{ComesInOrder, LeadsForward, SpanIsAtMost, SpanIsReached}
use Rattle.schedules.specs.Schedules.{IsGreedy, IsSchedule, Waits, least_time, length_of, running, runs_in}
use Rattle.schedules.specs.Sums.{sum_below}

-- the step counts as one if the entry runs in it
abbrev pub one_if : Bool → ℕ
one_if runs = if runs then 1 else 0

pub before_start : (start weight step : ℕ) → step < start → one_if (runs_in start weight step) ≡ 0
before_start start weight step early = ap one_if (and_left (nat_le start step) (nat_lt step (start + weight)) (lt-leb start step early))

pub after_end : (start weight step : ℕ) → start + weight ≤ step → one_if (runs_in start weight step) ≡ 0
after_end start weight step late = ap one_if (and_right (nat_le start step) (nat_lt step (start + weight)) (le-ltb step (start + weight) late))

pub in_between : (start weight step : ℕ) → start ≤ step → step < start + weight → one_if (runs_in start weight step) ≡ 1
in_between start weight step here there =
    ap one_if (and_from (nat_le start step) (nat_lt step (start + weight)) (le-leb start step here) (lt-ltb step (start + weight) there))

-- whether an entry runs counts as at most one
pub at_most_one : (runs : Bool) → one_if runs ≤ 1
at_most_one true = omega arith
at_most_one false = omega arith

-- in how many of the first steps an entry runs
pub steps_run : (start weight time : ℕ) → sum_below (λ step. one_if (runs_in start weight step)) time ≡ min (time - start) weight
steps_run start weight zero = omega arith
steps_run start weight (suc time) =
    let before = steps_run start weight time in
    elim (cases_lt time start) [
      | inl early ↦ (let none = before_start start weight time early in omega (arith, before, none, early))
      | inr here ↦ elim (cases_lt time (start + weight)) [
        | inl runs ↦ (let one = in_between start weight time here runs in omega (arith, before, one, here, runs))
        | inr late ↦ (let none = after_end start weight time late in omega (arith, before, none, here, late))
      ]
    ]

-- sums of sums
pub sum_of_none : (n : ℕ) → sum_below (λ i. 0) n ≡ 0
sum_of_none zero = refl
sum_of_none (suc n) = let before = sum_of_none n in omega (arith, before)

pub sum_of_both : (f g : ℕ → ℕ) (n : ℕ) → sum_below (λ i. f i + g i) n ≡ sum_below f n + sum_below g n
sum_of_both f g zero = refl
sum_of_both f g (suc n) = let before = sum_of_both f g n in omega (arith, before)

pub sums_swap : (f : ℕ → ℕ → ℕ) (n m : ℕ) → sum_below (λ j. sum_below (λ i. f i j) n) m ≡ sum_below (λ i. sum_below (λ j. f i j) m) n
sums_swap f zero m = sum_of_none m
sums_swap f (suc n) m =
    sum_of_both (λ j. sum_below (λ i. f i j) n) (λ j. f n j) m ∙ ap (λ (x : ℕ). x + sum_below (λ j. f n j) m) (sums_swap f n m)

pub sum_within_below : (f g : ℕ → ℕ) (n : ℕ) → ((i : ℕ) → i < n → f i ≤ g i) → sum_below f n ≤ sum_below g n
sum_within_below f g zero each = omega arith
sum_within_below f g (suc n) each =
    let before = sum_within_below f g n (λ i below. each i (omega (arith, below))) in
    let this = each n (omega arith) in
    omega (arith, before, this)

pub sum_within : (f g : ℕ → ℕ) (n : ℕ) → ((i : ℕ) → f i ≤ g i) → sum_below f n ≤ sum_below g n
sum_within f g n each = sum_within_below f g n (λ i below. each i)

-- a sum is no less than each of its parts
pub part_within : (f : ℕ → ℕ) (n i : ℕ) → i < n → f i ≤ sum_below f n
part_within f zero i below = absurd (omega (arith, below))
part_within f (suc n) i below = elim (cases_lt i n) [
  | inl lower ↦ (let before = part_within f n i lower in omega (arith, before))
  | inr last ↦ (let same : i ≡ n = omega (arith, last, below) in let value = ap f same in omega (arith, value))
]

pub sum_of_same : (k n : ℕ) → sum_below (λ i. k) n ≡ k * n
sum_of_same k zero = omega arith
sum_of_same k (suc n) = let before = sum_of_same k n in omega (arith, before)

module _ (weight start : ℕ → ℕ) where
  -- the length of a schedule is that of its longest beginning
  ends_within : (count entry : ℕ) → entry < count → start entry + weight entry ≤ length_of weight start count
  ends_within zero entry below = absurd (omega (arith, below))
  ends_within (suc count) entry below = elim (cases_lt entry count) [
    | inl lower ↦ (let before = ends_within count entry lower in omega (arith, before))
    | inr same ↦ (let e : entry ≡ count = omega (arith, same, below) in let s = ap start e in let w = ap weight e in omega (arith, s, w))
  ]

  -- all steps in which entries run are as many as the weights
  runs_whole : (count time : ℕ) → length_of weight start count ≤ time
      → sum_below (λ entry. sum_below (λ step. one_if (runs_in (start entry) (weight entry) step)) time) count ≡ sum_below weight count
  runs_whole zero time late = refl
  runs_whole (suc count) time late =
      let before = runs_whole count time (omega (arith, late)) in
      let this = steps_run (start count) (weight count) time in
      omega (arith, before, this, late)

  pub work_is_run : (count time : ℕ) → length_of weight start count ≤ time → sum_below (λ step. running weight start count step) time ≡ sum_below weight count
  work_is_run count time late =
      sums_swap (λ entry step. one_if (runs_in (start entry) (weight entry) step)) count time ∙ runs_whole count time late

zero_or_more : (n : ℕ) → (n ≡ 0) ⊎ (0 < n)
zero_or_more zero = inl refl
zero_or_more (suc n) = inr (omega arith)

-- the quotient rounded up is the least number of which so many are enough
pub quotient_least : (number by time : ℕ) → 0 < by → number ≤ by * time → div_ceil number by ≤ time
quotient_least number by time some enough = elim (cases_lt time (div_ceil number by)) [
  | inl more ↦ (
      let below = (div_ceil_times number by some).1 in
      let product : (time + 1) * by ≤ div_ceil number by * by = mul-le (time + 1) by (div_ceil number by) by (omega (arith, more)) (omega arith) in
      absurd (omega (arith, below, product, enough)))
  | inr least ↦ least
]

sum_of_times : (f : ℕ → ℕ) (k n : ℕ) → sum_below (λ i. k * f i) n ≡ k * sum_below f n
sum_of_times f k zero = omega arith
sum_of_times f k (suc n) = let before = sum_of_times f k n in omega (arith, before)

module _ (Leads : ℕ → ℕ → Type 0) (weight : ℕ → ℕ) (count processors : ℕ) (start : ℕ → ℕ) (is : IsSchedule Leads weight count processors start) where
  chain_within : (entry : ℕ) (others : List ℕ) → ComesInOrder Leads count (entry ∷ others) → start entry + sum_by weight (entry ∷ others) ≤ length_of weight start count
  chain_within entry [] below =
      let sum = sum_by-cons weight entry [] in
      let this = ends_within weight start count entry below in
      omega (arith, sum, this)
  chain_within entry (next ∷ others) chain =
      let sum = sum_by-cons weight entry (next ∷ others) in
      let rest = chain_within next others chain.1 in
      let before = is.ordered entry next chain.0 in
      omega (arith, sum, rest, before)

  span_within : (chain : List ℕ) → ComesInOrder Leads count chain → sum_by weight chain ≤ length_of weight start count
  span_within [] chain = omega arith
  span_within (entry ∷ others) chain = let this = chain_within entry others chain in omega (arith, this)

  work_within : sum_below weight count ≤ processors * length_of weight start count
  work_within =
      let time = length_of weight start count in
      let all = work_is_run weight start count time (omega arith) in
      let most = sum_within (λ step. running weight start count step) (λ step. processors) time is.few in
      let same = sum_of_same processors time in
      omega (arith, all, most, same)

  pub not_shorter : (span : ℕ) → 0 < processors → SpanIsReached Leads weight count span → least_time (sum_below weight count) span processors ≤ length_of weight start count
  not_shorter span some reached =
      let chain = span_within reached.0 reached.1 in
      let weighs = reached.2 in
      let share = quotient_least (sum_below weight count) processors (length_of weight start count) some work_within in
      omega (arith, chain, weighs, share)

module _ (Leads : ℕ → ℕ → Type 0) (forward : LeadsForward Leads) (weight : ℕ → ℕ) (count processors : ℕ) (start : ℕ → ℕ) where
  pub runs_now : (entry step : ℕ) → entry < count → start entry ≤ step → step < start entry + weight entry → 0 < running weight start count step
  runs_now entry step below here there =
      let one = in_between (start entry) (weight entry) step here there in
      let part = part_within (λ e. one_if (runs_in (start e) (weight e) step)) count entry below in
      omega (arith, one, part)

  -- at a step before an entry has ended some entry runs, if each that has not started waits or all processors are busy
  pub some_runs : (step : ℕ) → 0 < processors
      → ((entry : ℕ) → entry < count → step < start entry → Waits Leads weight start entry step ⊎ (running weight start count step ≡ processors))
      → (limit entry : ℕ) → entry < limit → entry < count → step < start entry + weight entry → 0 < running weight start count step
  some_runs step some busy zero entry lower below there = absurd (omega (arith, lower))
  some_runs step some busy (suc limit) entry lower below there = elim (cases_lt step (start entry)) [
    | inl early ↦ elim (busy entry below early) [
      | inl waits ↦ (
          let before = forward waits.earlier entry waits.leads in
          some_runs step some busy limit waits.earlier (omega (arith, lower, before)) (omega (arith, below, before)) waits.runs)
      | inr full ↦ omega (arith, full, some)
    ]
    | inr here ↦ runs_now entry step below here there
  ]

module _ (Leads : ℕ → ℕ → Type 0) (forward : LeadsForward Leads) (weight : ℕ → ℕ) (count processors : ℕ) (start : ℕ → ℕ) (is : IsGreedy Leads weight count processors start) where
  -- a step counts as idle if not all processors are busy in it
  abbrev idle : ℕ → ℕ
  idle step = if nat_lt (running weight start count step) processors then 1 else 0

  abbrev idle_before : ℕ → ℕ
  idle_before time = sum_below idle time

  busy_or_idle : (step : ℕ) → (running weight start count step ≡ processors) × (idle step ≡ 0) ⊎ (running weight start count step < processors) × (idle step ≡ 1)
  busy_or_idle step = elim (cases_lt (running weight start count step) processors) [
    | inl less ↦ inr (less, ap (λ (b : Bool). if b then 1 else 0) (lt-ltb (running weight start count step) processors less))
    | inr most ↦ (let few = is.schedule.few step in
        inl (omega (arith, most, few), ap (λ (b : Bool). if b then 1 else 0) (le-ltb (running weight start count step) processors most)))
  ]

  longer_chain : (front : List ℕ) (last next : ℕ) → ComesInOrder Leads count (front ++ last ∷ []) → Leads last next → next < count
      → ComesInOrder Leads count ((front ++ last ∷ []) ++ next ∷ [])
  longer_chain [] last next chain leads below = (leads, below)
  longer_chain (first ∷ []) last next chain leads below = (chain.0, longer_chain [] last next chain.1 leads below)
  longer_chain (first ∷ second ∷ others) last next chain leads below = (chain.0, longer_chain (second ∷ others) last next chain.1 leads below)

  -- a chain that ends in this entry, in which the time before was not idle in vain
  record Explains (entry time : ℕ) : Type 0 where
    front : List ℕ
    chain : ComesInOrder Leads count (front ++ entry ∷ [])
    covers : idle_before time + weight entry ≤ sum_by weight (front ++ entry ∷ []) + (time - start entry)

  -- at a step more
  explained : (time : ℕ) → ((entry : ℕ) → entry < count → time ≤ start entry + weight entry → Explains entry time)
      → (limit entry : ℕ) → entry < limit → entry < count → time < start entry + weight entry → Explains entry (suc time)
  explained time before zero entry lower below within = absurd (omega (arith, lower))
  explained time before (suc limit) entry lower below within =
      let so_far = before entry below (omega (arith, within)) in
      elim (busy_or_idle time) [
        | inl full ↦ record { front = so_far.front; chain = so_far.chain; covers = (let covers = so_far.covers in let none = full.1 in omega (arith, covers, none)) }
        | inr some ↦ elim (cases_lt time (start entry)) [
          | inl early ↦ elim (is.busy entry time below early) [
            | inl waits ↦ (
                let lower_too = forward waits.earlier entry waits.leads in
                let runs = waits.runs in
                let rest = explained time before limit waits.earlier (omega (arith, lower, lower_too)) (omega (arith, below, lower_too)) runs in
                let covers = rest.covers in
                record {
                  front = rest.front ++ waits.earlier ∷ [];
                  chain = longer_chain rest.front waits.earlier entry rest.chain waits.leads below;
                  covers = (let sum = sum_by_push weight (rest.front ++ waits.earlier ∷ []) entry in omega (arith, covers, runs, sum));
                })
            | inr full ↦ absurd (let less = some.0 in omega (arith, less, full))
          ]
          | inr here ↦ record { front = so_far.front; chain = so_far.chain; covers = (let covers = so_far.covers in let one = some.1 in omega (arith, covers, one, here)) }
        ]
      ]

  explains : (time entry : ℕ) → entry < count → time ≤ start entry + weight entry → Explains entry time
  explains zero entry below within = record { front = []; chain = below; covers = (let sum = sum_by-cons weight entry [] in omega (arith, sum)) }
  explains (suc time) entry below within = explained time (explains time) (suc entry) entry (omega arith) below (omega (arith, within))

  -- the last entry to end
  last_of : (n : ℕ) → 0 < length_of weight start n → (entry : ℕ) × (entry < n) × (start entry + weight entry ≡ length_of weight start n)
  last_of zero some = absurd (omega (arith, some))
  last_of (suc n) some = elim (cases_lt (start n + weight n) (length_of weight start n)) [
    | inl earlier ↦ (let before = last_of n (omega (arith, earlier)) in
        (before.0, let below = before.1 in omega (arith, below), let same = before.2 in omega (arith, same, earlier)))
    | inr latest ↦ (n, omega arith, omega (arith, latest))
  ]

  -- in each step before the end all processors are busy, or it is idle and one is busy
  shared : (step : ℕ) → step < length_of weight start count → processors ≤ running weight start count step + (processors - 1) * idle step
  shared step before = elim (busy_or_idle step) [
    | inl full ↦ (let same = full.0 in omega (arith, same))
    | inr some ↦ (
        let last = last_of count (omega (arith, before)) in
        let end = last.2 in
        let less = some.0 in
        let one = ap (λ (x : ℕ). (processors - 1) * x) some.1 in
        let runs =
        some_runs Leads forward weight count processors start step (omega (arith, less)) (λ entry below early. is.busy entry step below early)
        (suc last.0) last.0 (omega arith) last.1 (omega (arith, before, end)) in
        omega (arith, one, runs))
  ]

  module _ (span : ℕ) (most : SpanIsAtMost Leads weight count span) where
    idle_within : (entry : ℕ) → entry < count → (time : ℕ) → start entry + weight entry ≡ time → idle_before time ≤ span
    idle_within entry below time same =
        let so = explains time entry below (omega (arith, same)) in
        let covers = so.covers in
        let heaviest = most (so.front ++ entry ∷ []) so.chain in
        omega (arith, covers, heaviest, same)

    short_by : (time : ℕ) → length_of weight start count ≡ time → (time ≡ 0) ⊎ (0 < time) → processors * time ≤ sum_below weight count + (processors - 1) * span
    short_by time same (inl none) = let no = ap (λ (x : ℕ). processors * x) none in omega (arith, no)
    short_by time same (inr some) =
        let last = last_of count (omega (arith, same, some)) in
        let idle_most = idle_within last.0 last.1 time (last.2 ∙ same) in
        let product = mul-le-mul_left (processors - 1) idle_most in
        let all = work_is_run weight start count time (omega (arith, same)) in
        let each =
        sum_within_below (λ step. processors) (λ step. running weight start count step + (processors - 1) * idle step) time
        (λ step before. shared step (omega (arith, before, same))) in
        let whole = sum_of_same processors time in
        let parts = sum_of_both (λ step. running weight start count step) (λ step. (processors - 1) * idle step) time in
        let idles = sum_of_times idle (processors - 1) time in
        omega (arith, product, all, each, whole, parts, idles)

    pub short : processors * length_of weight start count ≤ sum_below weight count + (processors - 1) * span
    short = short_by (length_of weight start count) refl (zero_or_more (length_of weight start count))
