-- Paced timetables: how many entries run in a step, in what order they start, and how long they take together.
use Rattle.std.proofs.Common.{◌≡◌, ◌<◌, ◌≤◌, ◌+◌, ◌-◌, ◌*◌, ◌⊎◌, inl, inr, ℕ, zero, suc, Bool, true, false, List, [], ◌∷◌, map, refl, sym, ap, ◌∙◌, subst, arith}
use Rattle.std.specs.List.{Contains}
use Rattle.std.proofs.lemmas.Bool.{cases_lt}
use Rattle.schedules.specs.Schedules.{runs_in}
use Rattle.schedules.specs.Sums.{sum_below}
use Rattle.schedules.specs.Timetables.{ArePaced, ComesAfter, Slot, StartsNext, busy_in, delay_of, slot_end, time_of}
use Rattle.schedules.specs.declared.pacing.PacedJob.{PacedJob}
use Rattle.schedules.proofs.Bounds.{after_end, before_start, in_between, one_if, steps_run, sum_of_both, sum_of_none, sum_within}

pub one_most : (b : Bool) → one_if b ≤ 1
one_most true = omega arith
one_most false = omega arith

-- an entry that has started runs in a later step only if it runs in an earlier one
later_less : (start weight early late : ℕ) → start ≤ early → early ≤ late → one_if (runs_in start weight late) ≤ one_if (runs_in start weight early)
later_less start weight early late begun after = elim (cases_lt late (start + weight)) [
  | inl runs ↦ (let here = in_between start weight early begun (omega (arith, runs, after)) in let most = one_most (runs_in start weight late) in omega (arith, here, most))
  | inr over ↦ (let none = after_end start weight late over in omega (arith, none))
]

-- The elements of lists.

pub contains_cases : {X : Type 0} (x y : X) (xs : List X) → Contains (x ∷ xs) y → (x ≡ y) ⊎ Contains xs y
contains_cases x y xs (zero, below, is) = inl is
contains_cases x y xs (suc n, below, is) = inr (n, omega (arith, below), is)

pub contains_none : {X : Type 0} (y : X) → ¬ Contains [] y
contains_none y has = omega (arith, has.1)

pub contains_first : {X : Type 0} (x : X) (xs : List X) → Contains (x ∷ xs) x
contains_first x xs = (0, omega arith, refl)

pub contains_later : {X : Type 0} (x y : X) (xs : List X) → Contains xs y → Contains (x ∷ xs) y
contains_later x y xs has = (suc has.0, omega (arith, has.1), has.2)

pub contains_map : {X Y : Type 0} (f : X → Y) (xs : List X) (x : X) → Contains xs x → Contains (map f xs) (f x)
contains_map f [] x has = absurd (contains_none x has)
contains_map f (first ∷ others) x has = elim (contains_cases first x others has) [
  | inl same ↦ subst (λ z. Contains (map f (first ∷ others)) (f z)) same (contains_first (f first) (map f others))
  | inr later ↦ contains_later (f first) (f x) (map f others) (contains_map f others x later)
]

pub map_contains : {X Y : Type 0} (f : X → Y) (xs : List X) (y : Y) → Contains (map f xs) y → (x : X) × Contains xs x × (f x ≡ y)
map_contains f [] y has = absurd (contains_none y has)
map_contains f (first ∷ others) y has = elim (contains_cases (f first) y (map f others) has) [
  | inl same ↦ (first, contains_first first others, same)
  | inr later ↦ (let rest = map_contains f others y later in (rest.0, contains_later first rest.0 others rest.1, rest.2))
]

-- when the first of these entries starts
abbrev pub first_start : List Slot → ℕ
first_start [] = 0
first_start (slot ∷ slots) = slot.start

-- each of these entries has started by this time
abbrev pub StartBy : ℕ → List Slot → Type 0
StartBy time [] = Unit {0}
StartBy time (slot ∷ slots) = (slot.start ≤ time) × StartBy time slots

start_later : (time later : ℕ) (slots : List Slot) → time ≤ later → StartBy time slots → StartBy later slots
start_later time later [] after by = tt
start_later time later (slot ∷ slots) after by = (let this = by.0 in omega (arith, this, after), start_later time later slots after by.1)

busy_later : (slots : List Slot) (early late : ℕ) → StartBy early slots → early ≤ late → busy_in slots late ≤ busy_in slots early
busy_later [] early late by after = omega arith
busy_later (slot ∷ slots) early late by after =
    let this = later_less slot.start slot.job.weight early late by.0 after in
    let rest = busy_later slots early late by.1 after in
    omega (arith, this, rest)

-- each of these entries starts with no more than this delay, has no later earliest time than this, or ends by this
abbrev pub DelayedBy : ℕ → List Slot → Type 0
DelayedBy delay [] = Unit {0}
DelayedBy delay (slot ∷ slots) = (slot.start ≤ slot.job.early + delay) × DelayedBy delay slots

delayed_more : (delay more : ℕ) (slots : List Slot) → delay ≤ more → DelayedBy delay slots → DelayedBy more slots
delayed_more delay more [] le by = tt
delayed_more delay more (slot ∷ slots) le by = (let this = by.0 in omega (arith, this, le), delayed_more delay more slots le by.1)

delay_found : (delay : ℕ) (slots : List Slot) (a : Slot) → DelayedBy delay slots → Contains slots a → a.start ≤ a.job.early + delay
delay_found delay [] a by has = absurd (contains_none a has)
delay_found delay (slot ∷ slots) a by has = elim (contains_cases slot a slots has) [
  | inl is ↦ subst (λ (s : Slot). s.start ≤ s.job.early + delay) is by.0
  | inr later ↦ delay_found delay slots a by.1 later
]

abbrev EarlyBy : ℕ → List Slot → Type 0
EarlyBy time [] = Unit {0}
EarlyBy time (slot ∷ slots) = (slot.job.early ≤ time) × EarlyBy time slots

early_more : (time later : ℕ) (slots : List Slot) → time ≤ later → EarlyBy time slots → EarlyBy later slots
early_more time later [] le by = tt
early_more time later (slot ∷ slots) le by = (let this = by.0 in omega (arith, this, le), early_more time later slots le by.1)

early_found : (time : ℕ) (slots : List Slot) (a : Slot) → EarlyBy time slots → Contains slots a → a.job.early ≤ time
early_found time [] a by has = absurd (contains_none a has)
early_found time (slot ∷ slots) a by has = elim (contains_cases slot a slots has) [
  | inl is ↦ subst (λ (s : Slot). s.job.early ≤ time) is by.0
  | inr later ↦ early_found time slots a by.1 later
]

abbrev pub JobsWithin : ℕ → List Slot → Type 0
JobsWithin span [] = Unit {0}
JobsWithin span (slot ∷ slots) = (slot.job.early + slot.job.weight ≤ span) × JobsWithin span slots

pub jobs_within : (span : ℕ) (slots : List Slot) → ((a : Slot) → Contains slots a → a.job.early + a.job.weight ≤ span) → JobsWithin span slots
jobs_within span [] each = tt
jobs_within span (slot ∷ slots) each = (each slot (contains_first slot slots), jobs_within span slots (λ a has. each a (contains_later slot a slots has)))

-- what the entries take together
abbrev pub weights_of : List Slot → ℕ
weights_of [] = 0
weights_of (slot ∷ slots) = slot.job.weight + weights_of slots

early_up : (job : PacedJob) (last : Slot) (slots : List Slot) → ComesAfter (last ∷ slots) job → last.job.early ≤ job.early
early_up job last slots (inl less) = omega (arith, less)
early_up job last slots (inr same) = let e = same.0 in omega (arith, e)

-- steps in which at least so many entries run
sum_on : (f : ℕ → ℕ) (k from extra : ℕ) → ((step : ℕ) → from ≤ step → step < from + extra → k ≤ f step) → (until : ℕ) → until ≡ from + extra → sum_below f from + k * extra ≤ sum_below f until
sum_on f k from zero most until is = let e : until ≡ from = omega (arith, is) in let s = ap (sum_below f) e in omega (arith, s)
sum_on f k from (suc extra) most zero is = absurd (omega (arith, is))
sum_on f k from (suc extra) most (suc until) is =
    let e : until ≡ from + extra = omega (arith, is) in
    let rest = sum_on f k from extra (λ step here there. most step here (omega (arith, there))) until e in
    let this = most until (omega (arith, e)) (omega (arith, is)) in
    omega (arith, rest, this)

-- the first of these entries starts no later than the next one may
pub first_within : (job : PacedJob) (slots : List Slot) → ComesAfter slots job → first_start slots ≤ job.early + delay_of slots
first_within job [] order = omega arith
first_within job (last ∷ slots) order = let up = early_up job last slots order in omega (arith, up)

module _ (processors : ℕ) where
  pub not_before : (slot : Slot) (slots : List Slot) → StartsNext processors slots slot → first_start slots ≤ slot.start
  not_before slot slots next = let within = first_within slot.job slots next.order in let after = next.after in omega (arith, within, after)

  pub started : (slots : List Slot) → ArePaced processors slots → StartBy (first_start slots) slots
  started [] paced = tt
  started (slot ∷ slots) paced =
      (omega arith, start_later (first_start slots) slot.start slots (not_before slot slots paced.0) (started slots paced.1))

  -- at no step do more entries run than there are processors
  pub few : (slots : List Slot) → ArePaced processors slots → (step : ℕ) → busy_in slots step ≤ processors
  few [] paced step = omega arith
  few (slot ∷ slots) paced step = elim (cases_lt step slot.start) [
    | inl early ↦ (let none = before_start slot.start slot.job.weight step early in let rest = few slots paced.1 step in omega (arith, none, rest))
    | inr begun ↦ (
        let one = one_most (runs_in slot.start slot.job.weight step) in
        let by = start_later (first_start slots) slot.start slots (not_before slot slots paced.0) (started slots paced.1) in
        let less = busy_later slots slot.start step by begun in
        let free = paced.0.free in
        omega (arith, one, less, free))
  ]

  -- no entry is delayed more than the last one
  pub delayed : (slots : List Slot) → ArePaced processors slots → DelayedBy (delay_of slots) slots
  delayed [] paced = tt
  delayed (slot ∷ slots) paced =
      let after = paced.0.after in
      (omega arith, delayed_more (delay_of slots) (slot.start - slot.job.early) slots (omega (arith, after)) (delayed slots paced.1))

  earlier : (slot : Slot) (slots : List Slot) → StartsNext processors slots slot → ArePaced processors slots → EarlyBy slot.job.early slots
  earlier slot [] next paced = tt
  earlier slot (last ∷ slots) next paced =
      let up = early_up slot.job last slots next.order in
      (up, early_more last.job.early slot.job.early slots up (earlier last slots paced.0 paced.1))

  -- of two entries the one with the earlier earliest time is delayed no more
  pub kept : (slots : List Slot) → ArePaced processors slots → (a b : Slot) → Contains slots a → Contains slots b → a.job.early < b.job.early
      → (delay : ℕ) × (a.start ≤ a.job.early + delay) × (b.job.early + delay ≤ b.start)
  kept [] paced a b in_a in_b less = absurd (contains_none a in_a)
  kept (slot ∷ slots) paced a b in_a in_b less = elim (contains_cases slot b slots in_b) [
    | inl is_b ↦ elim (contains_cases slot a slots in_a) [
      | inl is_a ↦ absurd (let e = ap (λ (s : Slot). s.job.early) (sym is_a ∙ is_b) in omega (arith, e, less))
      | inr later ↦ (delay_of slots, delay_found (delay_of slots) slots a (delayed slots paced.1) later, subst (λ (s : Slot). s.job.early + delay_of slots ≤ s.start) is_b paced.0.after)
    ]
    | inr there ↦ elim (contains_cases slot a slots in_a) [
      | inl is_a ↦ absurd (
          let early = early_found slot.job.early slots b (earlier slot slots paced.0 paced.1) there in
          let e = ap (λ (s : Slot). s.job.early) is_a in
          omega (arith, early, e, less))
      | inr later ↦ kept slots paced.1 a b later there less
    ]
  ]

  -- no entry starts before its earliest time
  pub not_early : (slots : List Slot) → ArePaced processors slots → (a : Slot) → Contains slots a → a.job.early ≤ a.start
  not_early [] paced a has = absurd (contains_none a has)
  not_early (slot ∷ slots) paced a has = elim (contains_cases slot a slots has) [
    | inl is ↦ subst (λ (s : Slot). s.job.early ≤ s.start) is (let after = paced.0.after in omega (arith, after))
    | inr later ↦ not_early slots paced.1 a later
  ]

  -- all processors were busy for as long as the last one is delayed
  pub work_done : (slots : List Slot) → ArePaced processors slots → processors * delay_of slots ≤ sum_below (busy_in slots) (first_start slots)
  work_done [] paced = omega arith
  work_done (slot ∷ slots) paced =
      let after = paced.0.after in
      let before = work_done slots paced.1 in
      let within = first_within slot.job slots paced.0.order in
      let on =
      sum_on (busy_in slots) processors (slot.job.early + delay_of slots) (slot.start - (slot.job.early + delay_of slots)) (λ step here there. paced.0.full step here (omega (arith, there, after))) slot.start (omega (arith, after)) in
      let until =
      sum_on (busy_in slots) 0 (first_start slots) ((slot.job.early + delay_of slots) - first_start slots) (λ step here there. omega arith) (slot.job.early + delay_of slots) (omega (arith, within)) in
      let more = sum_within (busy_in slots) (busy_in (slot ∷ slots)) slot.start (λ step. omega arith) in
      let same : slot.start - slot.job.early ≡ delay_of slots + (slot.start - (slot.job.early + delay_of slots)) = omega (arith, after) in
      let split = ap (λ (d : ℕ). processors * d) same in
      omega (arith, before, on, until, more, split)

-- in the end all entries have run
pub all_run : (slots : List Slot) (time : ℕ) → time_of slots ≤ time → sum_below (busy_in slots) time ≡ weights_of slots
all_run [] time late = sum_of_none time
all_run (slot ∷ slots) time late =
    sum_of_both (λ step. one_if (runs_in slot.start slot.job.weight step)) (busy_in slots) time
    ∙ (let this = steps_run slot.start slot.job.weight time in let rest = all_run slots time (omega (arith, late)) in omega (arith, this, rest, late))

pub time_within : (span delay : ℕ) (slots : List Slot) → DelayedBy delay slots → JobsWithin span slots → time_of slots ≤ span + delay
time_within span delay [] by within = omega arith
time_within span delay (slot ∷ slots) by within =
    let rest = time_within span delay slots by.1 within.1 in
    let this = by.0 in
    let job = within.0 in
    omega (arith, rest, this, job)

pub ends_by : (slots : List Slot) (a : Slot) → Contains slots a → slot_end a ≤ time_of slots
ends_by [] a has = absurd (contains_none a has)
ends_by (slot ∷ slots) a has = elim (contains_cases slot a slots has) [
  | inl is ↦ (let e = ap slot_end is in omega (arith, e))
  | inr later ↦ (let rest = ends_by slots a later in omega (arith, rest))
]

-- the first start is no later than the end
pub first_by : (slots : List Slot) → first_start slots ≤ time_of slots
first_by [] = omega arith
first_by (slot ∷ slots) = omega arith

pub sum_longer : (f : ℕ → ℕ) (short long : ℕ) → short ≤ long → sum_below f short ≤ sum_below f long
sum_longer f short long le =
    let on = sum_on f 0 short (long - short) (λ step here there. omega arith) long (omega (arith, le)) in
    omega (arith, on)
