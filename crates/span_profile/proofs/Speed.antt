-- The bounds on schedules, for elements of a list with their heaviest chain.
use Rattle.std.proofs.Common.{◌≡◌, ◌<◌, ◌≤◌, ◌+◌, ◌-◌, ◌*◌, ℕ, zero, suc, List, [], ◌∷◌, length, refl, sym, ◌∙◌, subst, arith}
use Rattle.std.specs.List.{sum_by}
use Rattle.std.proofs.lemmas.List.Sums.{sum_by-cons}
use Rattle.span_profile.specs.heaviest_chain.Chains.{IsChain, IsHeaviest, Leads, weight_at}
use Rattle.schedules.specs.Chains.{ComesInOrder}
use Rattle.schedules.specs.Schedules.{IsGreedy, IsSchedule, least_time, length_of}
use Rattle.schedules.specs.Sums.{sum_below}
use Rattle.schedules.proofs.Bounds.{not_shorter, short}

-- a chain is one in both crates
in_order : (Leads : ℕ → ℕ → Type 0) (count : ℕ) (chain : List ℕ) → IsChain Leads count chain → ComesInOrder Leads count chain
in_order Leads count [] is = tt
in_order Leads count (entry ∷ []) is = is
in_order Leads count (entry ∷ next ∷ others) is = (is.0, in_order Leads count (next ∷ others) is.1)

is_chain : (Leads : ℕ → ℕ → Type 0) (count : ℕ) (chain : List ℕ) → ComesInOrder Leads count chain → IsChain Leads count chain
is_chain Leads count [] is = tt
is_chain Leads count (entry ∷ []) is = is
is_chain Leads count (entry ∷ next ∷ others) is = (is.0, is_chain Leads count (next ∷ others) is.1)

-- the sum of the elements of a list is that of the numbers below its length
sum_from_front : (f : ℕ → ℕ) (n : ℕ) → sum_below f (suc n) ≡ f 0 + sum_below (λ i. f (suc i)) n
sum_from_front f zero = omega arith
sum_from_front f (suc n) = let before = sum_from_front f n in omega (arith, before)

pub sum_of_list : {X : Type 0} (weight : X → ℕ) (xs : List X) → sum_below (weight_at weight xs) (length xs) ≡ sum_by weight xs
sum_of_list weight [] = refl
sum_of_list weight (x ∷ xs) =
    let front = sum_from_front (weight_at weight (x ∷ xs)) (length xs) in
    let rest = sum_of_list weight xs in
    let all = sum_by-cons weight x xs in
    omega (arith, front, rest, all)

module _ {X : Type 0} (LeadsOn : X → X → Type 0) (weight : X → ℕ) (xs : List X) (work span : ℕ) (chain : List ℕ) (heaviest : IsHeaviest LeadsOn weight xs work span chain)
    (workers : ℕ) (start : ℕ → ℕ) where
  work_is : sum_below (weight_at weight xs) (length xs) ≡ work
  work_is = sum_of_list weight xs ∙ sym heaviest.work_is

  pub least : 0 < workers → IsSchedule (Leads LeadsOn xs) (weight_at weight xs) (length xs) workers start → least_time work span workers ≤ length_of (weight_at weight xs) start (length xs)
  least some schedule =
      subst (λ (w : ℕ). least_time w span workers ≤ length_of (weight_at weight xs) start (length xs)) work_is
      (not_shorter (Leads LeadsOn xs) (weight_at weight xs) (length xs) workers start schedule span some (chain, in_order (Leads LeadsOn xs) (length xs) chain heaviest.chain_is, heaviest.span_is))

  pub greedy : IsGreedy (Leads LeadsOn xs) (weight_at weight xs) (length xs) workers start → workers * length_of (weight_at weight xs) start (length xs) ≤ work + (workers - 1) * span
  greedy is =
      let bound = short (Leads LeadsOn xs) (λ i j leads. leads.before) (weight_at weight xs) (length xs) workers start is span
      (λ other in_it. heaviest.heaviest other (is_chain (Leads LeadsOn xs) (length xs) other in_it)) in
      omega (arith, bound, work_is)
