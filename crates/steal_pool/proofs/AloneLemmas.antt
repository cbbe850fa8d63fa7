-- Where one pass alone may take from a deck, it takes what the owner pushed, in order.
use Rattle.std.proofs.Common.{◌≡◌, ℕ, zero, suc, ◌+◌, ◌≤◌, Bool, true, false, cond, eqb, List, [], ◌∷◌, ◌++◌, Some, refl, sym, ap, ◌∙◌, subst, arith}
use Rattle.std.specs.List.{sum_by, slice_get, count_by}
use Rattle.std.proofs.lemmas.Option.{none-some, same_Some}
use Rattle.std.proofs.lemmas.Bool.{eq-eqb}
use Rattle.std.proofs.lemmas.List.Sums.{sum_by-cons}
use Rattle.steal_pool.specs.declared.law.Hand.{Hand}
use Rattle.steal_pool.specs.Stands.{times, Departure, numbers_of, taken_by, Stands, Leaves, WasEmpty}
use Rattle.steal_pool.proofs.RuleLemmas.{times-append}

times-cons : (number x : ℕ) (xs : List ℕ) → times number (x ∷ xs) ≡ cond (eqb x number) 1 0 + times number xs
times-cons number x xs = sum_by-cons _ x xs

times_kept : (b : Bool) (number x : ℕ) (xs ys : List ℕ) → times number xs ≤ times number ys → times number (cond b (x ∷ xs) xs) ≤ times number (x ∷ ys)
times_kept true number x xs ys h = omega (arith, times-cons number x xs, times-cons number x ys)
times_kept false number x xs ys h = omega (arith, times-cons number x ys)

-- a pass takes no number more often than it left
taken_times : (pass number : ℕ) (gone : List Departure) → times number (taken_by pass gone) ≤ times number (numbers_of gone)
taken_times pass number [] = omega arith
taken_times pass number (d ∷ gone) = times_kept (eqb d.0 pass) number d.1 (taken_by pass gone) (numbers_of gone) (taken_times pass number gone)

same_longer : (b : Bool) (x : ℕ) (xs ys : List ℕ) → ((n : ℕ) → times n xs ≤ times n ys) → (((n : ℕ) → times n ys ≡ times n xs) → xs ≡ ys) → ((n : ℕ) → times n (x ∷ ys) ≡ times n (cond b (x ∷ xs) xs)) → cond b (x ∷ xs) xs ≡ x ∷ ys
same_longer true x xs ys less same h = ap (λ l. x ∷ l) (same (λ n. omega (arith, h n, times-cons n x xs, times-cons n x ys)))
same_longer false x xs ys less same h =
    let here = ap (λ b. cond {A = ℕ} b 1 0) (eq-eqb x x refl) in
    absurd (omega (arith, h x, less x, times-cons x x ys))

-- a pass that took every number that left took them in their order
took_all : (pass : ℕ) (gone : List Departure) → ((n : ℕ) → times n (numbers_of gone) ≡ times n (taken_by pass gone)) → taken_by pass gone ≡ numbers_of gone
took_all pass [] h = refl
took_all pass (d ∷ gone) h =
    same_longer (eqb d.0 pass) d.1 (taken_by pass gone) (numbers_of gone) (λ n. taken_times pass n gone) (took_all pass gone) h

none_more : (b : Bool) (rest : ℕ) → cond b 1 0 + rest ≡ 0 → (b ≡ false) × (rest ≡ 0)
none_more true rest h = absurd (omega arith)
none_more false rest h = (refl, omega arith)

-- passes that may not take took nothing
took_nothing : (number : ℕ) (passes : List Hand) → count_by (λ known. known.takes) passes ≡ 0 → ((j : ℕ) (known : Hand) → slice_get passes j ≡ Some known → known.takes ≡ false → known.took ≡ []) → sum_by (λ known. times number known.took) passes ≡ 0
took_nothing number [] none spent = refl
took_nothing number (p ∷ ps) none spent =
    let parts = none_more p.takes (count_by (λ known. known.takes) ps) (sym (sum_by-cons (λ (known : Hand). cond known.takes 1 0) p ps) ∙ none) in
    let mine = ap (times number) (spent 0 p refl parts.0) in
    omega (arith, took_nothing number ps parts.1 (λ j. spent (suc j)), sum_by-cons (λ (known : Hand). times number known.took) p ps)

lone : (numbers : List ℕ) (p : Hand) (ps : List Hand) → Stands numbers (p ∷ ps) → p.takers ≡ 1 → p.pushed ≡ p.took ++ numbers
lone numbers p ps s one =
    let same : s.owner ≡ p = same_Some s.owner p (sym s.owner_is) in
    let gone = s.gone in
    let pushed : p.pushed ≡ numbers_of gone ++ numbers = ap (λ (h : Hand). h.pushed) (sym same) ∙ s.in_order in
    let took : p.took ≡ taken_by 0 gone = (s.each 0 p refl).took in
    let takers : count_by (λ known. known.takes) (p ∷ ps) ≡ 1 = s.takers ∙ (ap (λ (h : Hand). h.takers) same ∙ one) in
    let takes = ap (λ b. cond {A = ℕ} b 1 0) (ap (λ (h : Hand). h.takes) (sym same) ∙ s.owner_takes) in
    let rest : count_by (λ known. known.takes) ps ≡ 0 = omega (arith, sum_by-cons (λ (known : Hand). cond known.takes 1 0) p ps) in
    let others : (n : ℕ) → sum_by (λ known. times n known.took) ps ≡ 0 = λ n. took_nothing n ps rest (λ j known e. (s.each (suc j) known e).spent) in
    let every : (n : ℕ) → times n (numbers_of gone) ≡ times n (taken_by 0 gone) = λ n.
    let mine = ap (times n) took in
    let all = ap (times n) s.in_order in
    let parts = times-append n (numbers_of gone) numbers in
    let sums = sum_by-cons (λ (known : Hand). times n known.took) p ps in
    omega (arith, s.each_once n, others n) in
    pushed ∙ ap (λ xs. xs ++ numbers) (sym (took_all 0 gone every) ∙ sym took)

owner_alone : (numbers : List ℕ) (passes : List Hand) (pass : ℕ) (known : Hand) → slice_get passes pass ≡ Some known → known.takers ≡ 1 → Stands numbers passes → known.pushed ≡ known.took ++ numbers
owner_alone numbers [] pass known e one s = absurd (none-some known e)
owner_alone numbers (p ∷ ps) zero known e one s =
    let same = same_Some p known e in
    subst (λ (h : Hand). h.takers ≡ 1 → h.pushed ≡ h.took ++ numbers) same (lone numbers p ps s) one
owner_alone numbers (p ∷ ps) (suc pass) known e one s =
    let none = (s.each (suc pass) known e).takers (λ h. omega arith) in
    absurd (omega arith)

-- the number that leaves is the first that was not taken yet
pub first_left : (old new : Hand) (number : ℕ) → Leaves old (number ∷ []) new → old.takers ≡ 1 → (held : List ℕ) × (old.pushed ≡ old.took ++ number ∷ held)
first_left old new number step one =
    let s = step.1.1 in
    (step.1.0, owner_alone (number ∷ step.1.0) s.passes s.pass old s.mine one s.was)

append-nothing : (xs : List ℕ) → xs ++ [] ≡ xs
append-nothing [] = refl
append-nothing (x ∷ xs) = ap (λ ys. x ∷ ys) (append-nothing xs)

-- where the deck was empty, all was taken
pub all_taken : (known : Hand) → WasEmpty known → known.takers ≡ 1 → known.pushed ≡ known.took
all_taken known empty one = owner_alone [] empty.passes empty.pass known empty.mine one empty.was ∙ append-nothing known.took
