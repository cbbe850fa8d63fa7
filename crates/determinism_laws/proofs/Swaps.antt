-- The numbering that exchanges two new tasks.
use Rattle.std.proofs.Common.{◌≡◌, ◌⊎◌, ◌≤◌, ◌<◌, ◌+◌, ℕ, zero, suc, inl, inr, refl, sym, ap, ◌∙◌, arith}
use Rattle.seg_meaning.specs.declared.stop.Stop.{Stop}
use Rattle.seg_meaning.specs.declared.stop.Stop.TheVariants as stops
use Rattle.machine_state.specs.Changes.{asked_by}
use Rattle.determinism_laws.specs.numbering.Renumbering.{Numbering}
use Rattle.determinism_laws.proofs.Exchanged.{Swaps}
use Rattle.determinism_laws.proofs.SameMoves.{Exchanges}

-- n and the number after it change places
abbrev swap : ℕ → Numbering
swap zero zero = 1
swap zero (suc zero) = 0
swap zero (suc (suc k)) = suc (suc k)
swap (suc n) zero = 0
swap (suc n) (suc k) = suc (swap n k)

swap_here : (n : ℕ) → swap n n ≡ suc n
swap_here zero = refl
swap_here (suc n) = ap suc (swap_here n)

swap_next : (n : ℕ) → swap n (suc n) ≡ n
swap_next zero = refl
swap_next (suc n) = ap suc (swap_next n)

swap_below : (n k : ℕ) → k < n → swap n k ≡ k
swap_below zero k less = absurd (omega (arith, less))
swap_below (suc n) zero less = refl
swap_below (suc n) (suc k) less = ap suc (swap_below n k (omega (arith, less)))

swap_beyond : (n k : ℕ) → suc (suc n) ≤ k → swap n k ≡ k
swap_beyond zero zero least = absurd (omega (arith, least))
swap_beyond zero (suc zero) least = absurd (omega (arith, least))
swap_beyond zero (suc (suc k)) least = refl
swap_beyond (suc n) zero least = refl
swap_beyond (suc n) (suc k) least = ap suc (swap_beyond n k (omega (arith, least)))

swap_back : (n k : ℕ) → swap n (swap n k) ≡ k
swap_back zero zero = refl
swap_back zero (suc zero) = refl
swap_back zero (suc (suc k)) = refl
swap_back (suc n) zero = refl
swap_back (suc n) (suc k) = ap suc (swap_back n k)

asked_cases : (stop : Stop) → (asked_by stop ≡ 0) ⊎ (asked_by stop ≡ 1)
asked_cases (stops.Make child args effects spawned future place) = inr refl
asked_cases (stops.Waits on) = inl refl
asked_cases (stops.Joins on) = inl refl
asked_cases (stops.Done value) = inl refl
asked_cases (stops.Fault kind place) = inl refl

-- a numbering that exchanges the tasks that two segments make, if both make one
pub record Swapped (n : ℕ) (first second : Stop) : Type 0 where
  pub to : Numbering
  pub swaps : Swaps to n first second
  pub exchanges : Exchanges to (n + asked_by first + asked_by second)

itself : (m : ℕ) → Exchanges (λ k. k) m
itself m = record { back = λ k. refl; beyond = λ k least. refl }

pub swapped : (n : ℕ) (first second : Stop) → Swapped n first second
swapped n first second = elim (asked_cases first) [
  | inl none ↦ record {
    to = λ k. k;
    swaps = record {
      fixed = λ k less. refl;
      of_first = λ one. let clash : 0 ≡ 1 = sym none ∙ one in absurd (omega (arith, clash));
      of_second = λ one. omega (arith, none);
    };
    exchanges = itself (n + asked_by first + asked_by second);
  }
  | inr made ↦ elim (asked_cases second) [
    | inl none ↦ record {
      to = λ k. k;
      swaps = record {
        fixed = λ k less. refl;
        of_first = λ one. omega (arith, none);
        of_second = λ one. let clash : 0 ≡ 1 = sym none ∙ one in absurd (omega (arith, clash));
      };
      exchanges = itself (n + asked_by first + asked_by second);
    }
    | inr both ↦ record {
      to = swap n;
      swaps = record {
        fixed = swap_below n;
        of_first = λ one. let is : n + asked_by second ≡ suc n = omega (arith, both) in swap_here n ∙ sym is;
        of_second = λ one. let is : n + asked_by first ≡ suc n = omega (arith, made) in ap (swap n) is ∙ swap_next n;
      };
      exchanges = record { back = swap_back n; beyond = λ k least. swap_beyond n k (omega (arith, least, made, both)) };
    }
  ]
]
