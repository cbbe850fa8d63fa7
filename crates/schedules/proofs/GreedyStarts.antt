-- A greedy schedule is found step by step, and at each step entry by entry: an entry starts if it waits for none and a processor
-- is idle. Until then its start is late: after the time in which all could run one after another.
use Rattle.std.proofs.Common.{◌≡◌, ◌<◌, ◌≤◌, ◌+◌, ◌⊎◌, inl, inr, ℕ, zero, suc, Bool, List, [], ◌∷◌, refl, ap, ◌∙◌, subst, arith}
use Rattle.std.specs.Prelude.{◌==◌, if◌then◌else◌}
use Rattle.std.specs.List.{Contains}
use Rattle.std.proofs.lemmas.Bool.{cases_eq, cases_lt, eq-eqb, ne_eqb}
use Rattle.schedules.specs.Chains.{LeadsForward}
use Rattle.schedules.specs.Schedules.{IsGreedy, Waits, running, runs_in}
use Rattle.schedules.specs.Sums.{sum_below}
use Rattle.schedules.proofs.InTurn.{in_turn_on}
use Rattle.schedules.proofs.Bounds.{after_end, at_most_one, before_start, in_between, one_if, some_runs, steps_run, sum_of_same, sum_within_below, sums_swap}

none_of : (first : ℕ) (others : List ℕ) (number : ℕ) → (first ≡ number → ⊥) → (Contains others number → ⊥) → Contains (first ∷ others) number → ⊥
none_of first others number other none (zero, below, same) = other same
none_of first others number other none (suc k, below, same) = none (k, omega (arith, below), same)

-- a list has a number, or not
pub contains_or_not : (numbers : List ℕ) (number : ℕ) → Contains numbers number ⊎ (Contains numbers number → ⊥)
contains_or_not [] number = inr (λ has. let below = has.1 in absurd (omega (arith, below)))
contains_or_not (first ∷ others) number = elim (cases_eq first number) [
  | inl same ↦ inl (0, omega arith, same)
  | inr other ↦ elim (contains_or_not others number) [
    | inl later ↦ inl (suc later.0, (let below = later.1 in omega (arith, below)), later.2)
    | inr none ↦ inr (none_of first others number other none)
  ]
]

lower_than : (a b : ℕ) → a < suc b → (a ≡ b → ⊥) → a < b
lower_than a b below other = elim (cases_lt a b) [
  | inl lower ↦ lower
  | inr least ↦ absurd (other (omega (arith, least, below)))
]

same_sums : (f g : ℕ → ℕ) (n : ℕ) → ((i : ℕ) → i < n → f i ≡ g i) → sum_below f n ≡ sum_below g n
same_sums f g zero each = refl
same_sums f g (suc n) each =
    let before = same_sums f g n (λ i below. each i (omega (arith, below))) in
    let last = each n (omega arith) in
    omega (arith, before, last)

-- two sums of which all parts but one are the same
one_changed : (f g : ℕ → ℕ) (n changed : ℕ) → changed < n → ((i : ℕ) → (i ≡ changed → ⊥) → f i ≡ g i) → sum_below f n + g changed ≡ sum_below g n + f changed
one_changed f g zero changed below others = absurd (omega (arith, below))
one_changed f g (suc n) changed below others = elim (cases_lt changed n) [
  | inl lower ↦ (
      let before = one_changed f g n changed lower others in
      let last = others n (λ same. omega (arith, lower, same)) in
      omega (arith, before, last))
  | inr least ↦ (
      let same : n ≡ changed = omega (arith, least, below) in
      let before = same_sums f g n (λ i lower. others i (λ is. omega (arith, lower, same, is))) in
      let one = ap f same in
      let other = ap g same in
      omega (arith, before, one, other))
]

module _ (weight start : ℕ → ℕ) where
  -- once entries have started, no more of them run later
  pub fewer_later : (count now step : ℕ) → now ≤ step → ((entry : ℕ) → entry < count → (start entry ≤ now) ⊎ (step < start entry)) → running weight start count step ≤ running weight start count now
  fewer_later count now step later each = sum_within_below (λ e. one_if (runs_in (start e) (weight e) step)) (λ e. one_if (runs_in (start e) (weight e) now)) count (λ entry below. elim (each entry below) [
    | inr early ↦ (let none = before_start (start entry) (weight entry) step early in omega (arith, none))
    | inl begun ↦ elim (cases_lt step (start entry + weight entry)) [
      | inr ended ↦ (let none = after_end (start entry) (weight entry) step ended in omega (arith, none))
      | inl runs ↦ (
          let most = at_most_one (runs_in (start entry) (weight entry) step) in
          let one = in_between (start entry) (weight entry) now begun (omega (arith, runs, later)) in
          omega (arith, most, one))
    ]
  ])

  -- no entry runs before all have started
  pub none_early : (count step : ℕ) → ((entry : ℕ) → entry < count → step < start entry) → running weight start count step ≡ 0
  none_early zero step each = refl
  none_early (suc count) step each =
      let before = none_early count step (λ entry below. each entry (omega (arith, below))) in
      let last = before_start (start count) (weight count) step (each count (omega arith)) in
      omega (arith, before, last)

  -- entries run in no more steps than they weigh
  pub run_within : (count time : ℕ) → sum_below (λ step. running weight start count step) time ≤ sum_below weight count
  run_within count time =
      let swapped = sums_swap (λ entry step. one_if (runs_in (start entry) (weight entry) step)) count time in
      let within =
      sum_within_below (λ entry. sum_below (λ step. one_if (runs_in (start entry) (weight entry) step)) time) weight count
      (λ entry below. let same = steps_run (start entry) (weight entry) time in omega (arith, same)) in
      omega (arith, swapped, within)

-- the starts with another one for an entry
abbrev pub put : (ℕ → ℕ) → ℕ → ℕ → ℕ → ℕ
put start changed now entry = if entry == changed then now else start entry

put_same : (start : ℕ → ℕ) (changed now entry : ℕ) → entry ≡ changed → put start changed now entry ≡ now
put_same start changed now entry same = ap (λ (b : Bool). if b then now else start entry) (eq-eqb entry changed same)

put_other : (start : ℕ → ℕ) (changed now entry : ℕ) → (entry ≡ changed → ⊥) → put start changed now entry ≡ start entry
put_other start changed now entry other = ap (λ (b : Bool). if b then now else start entry) (ne_eqb entry changed other)

module _ (Leads : ℕ → ℕ → Type 0) (leads_or_not : (entry next : ℕ) → Leads entry next ⊎ (Leads entry next → ⊥)) (forward : LeadsForward Leads)
    (weight : ℕ → ℕ) (count processors : ℕ) (some : 0 < processors) where
  -- the time by which all entries have started
  abbrev horizon : ℕ
  horizon = sum_below weight count + 1

  -- the start of an entry that has found no processor so far: one after another, after this time
  abbrev late : ℕ → ℕ
  late entry = horizon + sum_below weight entry

  late_on : (n entry : ℕ) → entry < n → late entry + weight entry ≤ late n
  late_on n entry below = let before = in_turn_on weight n entry below in omega (arith, before)

  -- All steps before `now` have been gone through, and at that step all entries before `next`: what could start has.
  record IsBegun (start : ℕ → ℕ) (now next : ℕ) : Type 0 where
    begun : (entry : ℕ) → entry < count → (start entry ≤ now) ⊎ (start entry ≡ late entry)
    ordered : (entry after : ℕ) → Leads entry after → start entry + weight entry ≤ start after
    few : (step : ℕ) → step < horizon → running weight start count step ≤ processors
    busy : (entry step : ℕ) → entry < count → step < start entry → (step < now) ⊎ ((step ≡ now) × (entry < next))
        → Waits Leads weight start entry step ⊎ (running weight start count step ≡ processors)

  -- the entry waits at the step, or all processors are busy
  abbrev HasToWait : (ℕ → ℕ) → ℕ → ℕ → Type 0
  HasToWait start entry step = Waits Leads weight start entry step ⊎ (running weight start count step ≡ processors)

  nothing_reached : (entry step : ℕ) → (step < 0) ⊎ ((step ≡ 0) × (entry < 0)) → ⊥
  nothing_reached entry step (inl none) = omega (arith, none)
  nothing_reached entry step (inr none) = let no = none.1 in omega (arith, no)

  none_begun : IsBegun late 0 0
  none_begun = record {
    begun = λ entry below. inr refl;
    ordered = λ entry after leads. late_on after entry (forward entry after leads);
    few = λ step before. (let none = none_early weight late count step (λ entry below. omega (arith, before)) in omega (arith, none));
    busy = λ entry step below early reached. absurd (nothing_reached entry step reached);
  }

  -- an entry waits, or what leads to it, of these entries, has ended
  waits_or_not : (start : ℕ → ℕ) (now next limit : ℕ)
      → Waits Leads weight start next now ⊎ ((entry : ℕ) → entry < limit → Leads entry next → start entry + weight entry ≤ now)
  waits_or_not start now next zero = inr (λ entry below leads. absurd (omega (arith, below)))
  waits_or_not start now next (suc limit) = elim (waits_or_not start now next limit) [
    | inl waits ↦ inl waits
    | inr ended ↦ elim (cases_lt now (start limit + weight limit)) [
      | inl runs ↦ elim (leads_or_not limit next) [
        | inl leads ↦ inl (record { earlier = limit; leads = leads; runs = runs })
        | inr none ↦ inr (λ entry below leads. elim (cases_eq entry limit) [
          | inl same ↦ absurd (none (subst (λ (e : ℕ). Leads e next) same leads))
          | inr other ↦ ended entry (lower_than entry limit below other) leads
        ])
      ]
      | inr done ↦ inr (λ entry below leads. elim (cases_lt entry limit) [
        | inl lower ↦ ended entry lower leads
        | inr last ↦ (
            let same : entry ≡ limit = omega (arith, last, below) in
            let s = ap start same in
            let w = ap weight same in
            omega (arith, s, w, done))
      ])
    ]
  ]

  -- an entry that has started, or has to wait, is passed over
  pass_over : (start : ℕ → ℕ) (now next : ℕ) → IsBegun start now next → (now < start next → HasToWait start next now) → IsBegun start now (suc next)
  pass_over start now next is waits = record {
    begun = is.begun;
    ordered = is.ordered;
    few = is.few;
    busy = λ entry step below early reached. elim reached [
      | inl lower ↦ is.busy entry step below early (inl lower)
      | inr this ↦ elim (cases_lt entry next) [
        | inl lower ↦ is.busy entry step below early (inr (this.0, lower))
        | inr last ↦ (
            let entry_is : next ≡ entry = (let most = this.1 in omega (arith, last, most)) in
            let step_is : now ≡ step = (let same = this.0 in omega (arith, same)) in
            subst (λ (s : ℕ). s < start entry → HasToWait start entry s) step_is (subst (λ (e : ℕ). now < start e → HasToWait start e now) entry_is waits) early)
      ]
    ];
  }

  -- an entry that need not wait starts
  module _ (start : ℕ → ℕ) (now next : ℕ) (is : IsBegun start now next) (in_it : next < count) (before : now < horizon) (is_late : start next ≡ late next)
      (ended : (entry : ℕ) → Leads entry next → start entry + weight entry ≤ now) (free : running weight start count now < processors) where
    abbrev after : ℕ → ℕ
    after = put start next now

    after_next : after next ≡ now
    after_next = put_same start next now next refl

    one_more : (step : ℕ) → step < horizon → running weight after count step ≡ running weight start count step + one_if (runs_in (after next) (weight next) step)
    one_more step early =
        let changed =
        one_changed (λ e. one_if (runs_in (after e) (weight e) step)) (λ e. one_if (runs_in (start e) (weight e) step)) count next in_it
        (λ e other. ap (λ (s : ℕ). one_if (runs_in s (weight e) step)) (put_other start next now e other)) in
        let none = before_start (start next) (weight next) step (omega (arith, early, is_late)) in
        omega (arith, changed, none)

    same_before : (step : ℕ) → step < now → running weight after count step ≡ running weight start count step
    same_before step early =
        let more = one_more step (omega (arith, early, before)) in
        let none = before_start (after next) (weight next) step (omega (arith, early, after_next)) in
        omega (arith, more, none)

    few_after : (step : ℕ) → step < horizon → running weight after count step ≤ processors
    few_after step early = elim (cases_lt step now) [
      | inl lower ↦ (let same = same_before step lower in let few = is.few step early in omega (arith, same, few))
      | inr later ↦ (
          let less = fewer_later weight start count now step later (λ entry below. elim (is.begun entry below) [
            | inl begun ↦ inl begun
            | inr not_yet ↦ inr (omega (arith, not_yet, early))
          ]) in
          let more = one_more step early in
          let one = at_most_one (runs_in (after next) (weight next) step) in
          omega (arith, less, more, one, free))
    ]

    begun_after : (entry : ℕ) → entry < count → (after entry ≤ now) ⊎ (after entry ≡ late entry)
    begun_after entry below = elim (cases_eq entry next) [
      | inl same ↦ (let starts = put_same start next now entry same in inl (omega (arith, starts)))
      | inr other ↦ (let starts = put_other start next now entry other in elim (is.begun entry below) [
        | inl begun ↦ inl (omega (arith, starts, begun))
        | inr not_yet ↦ inr (omega (arith, starts, not_yet))
      ])
    ]

    ordered_after : (entry other : ℕ) → Leads entry other → after entry + weight entry ≤ after other
    ordered_after entry other leads =
        let comes = forward entry other leads in
        elim (cases_eq other next) [
          | inl same ↦ (
              let its = put_same start next now other same in
              let first = put_other start next now entry (λ is_next. omega (arith, is_next, same, comes)) in
              let done = ended entry (subst (λ (e : ℕ). Leads entry e) same leads) in
              omega (arith, its, first, done))
          | inr later ↦ (
              let its = put_other start next now other later in
              let order = is.ordered entry other leads in
              elim (cases_eq entry next) [
                | inl same ↦ (
                    let first = put_same start next now entry same in
                    let begins = ap start same in
                    omega (arith, its, order, first, begins, is_late, before))
                | inr neither ↦ (let first = put_other start next now entry neither in omega (arith, its, order, first))
              ])
        ]

    waits_after : (entry step : ℕ) → (step < now) ⊎ ((step ≡ now) × (entry < next)) → Waits Leads weight start entry step → Waits Leads weight after entry step
    waits_after entry step reached waits =
        let comes = forward waits.earlier entry waits.leads in
        let runs = waits.runs in
        record {
          earlier = waits.earlier;
          leads = waits.leads;
          runs = elim (cases_eq waits.earlier next) [
            | inl same ↦ (let starts = put_same start next now waits.earlier same in elim reached [
              | inl lower ↦ omega (arith, starts, lower)
              | inr this ↦ absurd (let lower = this.1 in omega (arith, lower, comes, same))
            ])
            | inr other ↦ (let starts = put_other start next now waits.earlier other in omega (arith, starts, runs))
          ];
        }

    has_to_wait_after : (entry step : ℕ) → (step < now) ⊎ ((step ≡ now) × (entry < next)) → HasToWait start entry step → HasToWait after entry step
    has_to_wait_after entry step reached (inl waits) = inl (waits_after entry step reached waits)
    has_to_wait_after entry step (inl lower) (inr full) = inr (same_before step lower ∙ full)
    has_to_wait_after entry step (inr this) (inr full) =
        let same = ap (λ (s : ℕ). running weight start count s) this.0 in
        absurd (omega (arith, same, full, free))

    busy_after : (entry step : ℕ) → entry < count → step < after entry → (step < now) ⊎ ((step ≡ now) × (entry < suc next)) → HasToWait after entry step
    busy_after entry step below early reached = elim (cases_eq entry next) [
      | inl same ↦ (
          let starts = put_same start next now entry same in
          let begins = ap start same in
          let lower : step < now = omega (arith, early, starts) in
          has_to_wait_after entry step (inl lower) (is.busy entry step below (omega (arith, lower, begins, is_late, before)) (inl lower)))
      | inr other ↦ (
          let starts = put_other start next now entry other in
          let first : step < start entry = omega (arith, early, starts) in
          let so_far : (step < now) ⊎ ((step ≡ now) × (entry < next)) = elim reached [
            | inl lower ↦ inl lower
            | inr this ↦ inr (this.0, lower_than entry next this.1 other)
          ] in
          has_to_wait_after entry step so_far (is.busy entry step below first so_far))
    ]

    start_now : IsBegun after now (suc next)
    start_now = record { begun = begun_after; ordered = ordered_after; few = few_after; busy = busy_after }

  -- starts of which so much has been gone through
  abbrev StartsUntil : ℕ → ℕ → Type 0
  StartsUntil now next = (start : ℕ → ℕ) × IsBegun start now next

  one_entry : (now next : ℕ) → next < count → now < horizon → StartsUntil now next → StartsUntil now (suc next)
  one_entry now next in_it before (start, is) = elim (is.begun next in_it) [
    | inl begun ↦ (start, pass_over start now next is (λ early. absurd (omega (arith, begun, early))))
    | inr not_yet ↦ elim (waits_or_not start now next next) [
      | inl waits ↦ (start, pass_over start now next is (λ early. inl waits))
      | inr ended ↦ elim (cases_lt (running weight start count now) processors) [
        | inl free ↦ (put start next now, start_now start now next is in_it before not_yet (λ entry leads. ended entry (forward entry next leads) leads) free)
        | inr full ↦ (start, pass_over start now next is (λ early. inr (let few = is.few now before in omega (arith, few, full))))
      ]
    ]
  ]

  entries : (now next : ℕ) → next ≤ count → now < horizon → StartsUntil now 0 → StartsUntil now next
  entries now zero within before is = is
  entries now (suc next) within before is = one_entry now next (omega (arith, within)) before (entries now next (omega (arith, within)) before is)

  one_step : (start : ℕ → ℕ) (now : ℕ) → IsBegun start now count → IsBegun start (suc now) 0
  one_step start now is = record {
    begun = λ entry below. elim (is.begun entry below) [
      | inl begun ↦ inl (omega (arith, begun))
      | inr not_yet ↦ inr not_yet
    ];
    ordered = is.ordered;
    few = is.few;
    busy = λ entry step below early reached. is.busy entry step below early (elim reached [
      | inl lower ↦ (elim (cases_lt step now) [
        | inl before ↦ inl before
        | inr this ↦ inr (omega (arith, this, lower), below)
      ])
      | inr none ↦ absurd (let no = none.1 in omega (arith, no))
    ]);
  }

  steps : (time : ℕ) → time ≤ horizon → StartsUntil time 0
  steps zero within = (late, none_begun)
  steps (suc time) within =
      let so_far = entries time count (omega arith) (omega (arith, within)) (steps time (omega (arith, within))) in
      (so_far.0, one_step so_far.0 time so_far.1)

  -- once all steps have been gone through, all entries have started, and the schedule is greedy
  module _ (start : ℕ → ℕ) (is : IsBegun start horizon 0) where
    busy_before : (entry step : ℕ) → entry < count → step < start entry → step < horizon → HasToWait start entry step
    busy_before entry step below early before = is.busy entry step below early (inl before)

    all_begun : (entry : ℕ) → entry < count → start entry < horizon
    all_begun entry below = elim (cases_lt (start entry) horizon) [
      | inl early ↦ early
      | inr not_yet ↦ (
          let some_run =
          sum_within_below (λ step. 1) (λ step. running weight start count step) horizon
          (λ step before. some_runs Leads forward weight count processors start step some (λ other in_it early. busy_before other step in_it early before) (suc entry) entry (omega arith) below
          (omega (arith, before, not_yet))) in
          let steps_are = sum_of_same 1 horizon in
          let within = run_within weight start count horizon in
          absurd (omega (arith, some_run, steps_are, within)))
    ]

    few_ever : (step : ℕ) → running weight start count step ≤ processors
    few_ever step = elim (cases_lt step horizon) [
      | inl before ↦ is.few step before
      | inr late_step ↦ (
          let fewer =
          fewer_later weight start count (sum_below weight count) step (omega (arith, late_step))
          (λ entry below. let begun = all_begun entry below in inl (omega (arith, begun))) in
          let few = is.few (sum_below weight count) (omega arith) in
          omega (arith, fewer, few))
    ]

    is_greedy : IsGreedy Leads weight count processors start
    is_greedy = record {
      schedule = record { ordered = is.ordered; few = few_ever };
      busy = λ entry step below early. (let begun = all_begun entry below in busy_before entry step below early (omega (arith, early, begun)));
    }

  pub greedy_starts : (start : ℕ → ℕ) × IsGreedy Leads weight count processors start
  greedy_starts = let found = steps horizon (omega arith) in (found.0, is_greedy found.0 found.1)
