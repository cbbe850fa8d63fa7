-- Entries one after another: each starts as the one before has ended.
use Rattle.std.proofs.Common.{◌≡◌, ◌<◌, ◌≤◌, ◌+◌, inl, inr, ℕ, zero, suc, refl, ap, arith}
use Rattle.std.proofs.lemmas.Bool.{cases_lt}
use Rattle.schedules.specs.Chains.{LeadsForward}
use Rattle.schedules.specs.Schedules.{IsSchedule, length_of, running, runs_in}
use Rattle.schedules.specs.Sums.{sum_below}
use Rattle.schedules.proofs.Bounds.{after_end, at_most_one, before_start}

module _ (weight : ℕ → ℕ) where
  -- an entry starts when those before it have taken their time
  abbrev pub in_turn : ℕ → ℕ
  in_turn entry = sum_below weight entry

  -- and has ended before a later one starts
  pub in_turn_on : (n entry : ℕ) → entry < n → in_turn entry + weight entry ≤ in_turn n
  in_turn_on zero entry below = absurd (omega (arith, below))
  in_turn_on (suc n) entry below = elim (cases_lt entry n) [
    | inl lower ↦ (let before = in_turn_on n entry lower in omega (arith, before))
    | inr last ↦ (
        let same : entry ≡ n = omega (arith, last, below) in
        let value = ap weight same in
        let sum = ap (λ (x : ℕ). sum_below weight x) same in
        omega (arith, value, sum))
  ]

  -- at most one of the first entries runs, and none once they have ended
  one_at_a_time : (n step : ℕ) → (running weight in_turn n step ≤ 1) × (in_turn n ≤ step → running weight in_turn n step ≡ 0)
  one_at_a_time zero step = (omega arith, λ late. refl)
  one_at_a_time (suc n) step =
      let before = one_at_a_time n step in
      elim (cases_lt step (in_turn n)) [
        | inl early ↦ (
            let none = before_start (in_turn n) (weight n) step early in
            let one = before.0 in
            (omega (arith, one, none), λ late. absurd (omega (arith, late, early))))
        | inr late ↦ (
            let none = before.1 late in
            let one = at_most_one (runs_in (in_turn n) (weight n) step) in
            (omega (arith, one, none), λ over. let ended = after_end (in_turn n) (weight n) step over in omega (arith, none, ended)))
      ]

  whole_length : (n : ℕ) → length_of weight in_turn n ≡ sum_below weight n
  whole_length zero = refl
  whole_length (suc n) = let before = whole_length n in omega (arith, before)

module _ (Leads : ℕ → ℕ → Type 0) (forward : LeadsForward Leads) (weight : ℕ → ℕ) (count processors : ℕ) (some : 0 < processors) where
  pub one_after_another : (start : ℕ → ℕ) × IsSchedule Leads weight count processors start × (length_of weight start count ≡ sum_below weight count)
  one_after_another = (
    in_turn weight,
    record {
      ordered = λ entry next leads. in_turn_on weight next entry (forward entry next leads);
      few = λ step. (let one = (one_at_a_time weight count step).0 in omega (arith, one, some));
    },
    whole_length weight count,
  )
