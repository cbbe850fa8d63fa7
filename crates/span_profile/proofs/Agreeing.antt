-- Two lists of elements that correspond, weigh the same and lead to one another alike have the same heaviest chain, and the same
-- earliest times.
use Rattle.std.proofs.Common.{◌≡◌, ◌<◌, ◌⊎◌, inl, inr, ℕ, zero, suc, List, [], ◌∷◌, length, refl, sym, ◌∙◌, arith}
use Rattle.std.specs.Prelude.{slice_get, slice_index, sum_by}
use Rattle.std.specs.List.{AllZip}
use Rattle.std.proofs.lemmas.List.Sums.{sum_by-cons}
use Rattle.schedules.specs.Timetables.{AreEarliest}
use Rattle.span_profile.specs.heaviest_chain.Chains.{IsChain, IsHeaviest, Leads, chain_weight, weight_at, weight_of_found}
use Rattle.span_profile.proofs.Lists.{zip_first, zip_length, zip_second}

module _ {X Y : Type 0} (R : X → Y → Type 0) (weight_x : X → ℕ) (weight_y : Y → ℕ) (LeadsX : X → X → Type 0) (LeadsY : Y → Y → Type 0)
    (weigh : (x : X) (y : Y) → R x y → weight_x x ≡ weight_y y)
    (forth : (x y : X) (a b : Y) → R x a → R y b → LeadsX x y → LeadsY a b)
    (back : (x y : X) (a b : Y) → R x a → R y b → LeadsY a b → LeadsX x y)
    (xs : List X) (ys : List Y) (all : AllZip R xs ys) where
  leads_forth : (i j : ℕ) → Leads LeadsX xs i j → Leads LeadsY ys i j
  leads_forth i j l =
      let a = zip_first R xs ys i l.first all l.at_first in
      let b = zip_first R xs ys j l.second all l.at_second in
      record { before = l.before; first = a.0; second = b.0; at_first = a.1; at_second = b.1; leads = forth l.first l.second a.0 b.0 a.2 b.2 l.leads }

  leads_back : (i j : ℕ) → Leads LeadsY ys i j → Leads LeadsX xs i j
  leads_back i j l =
      let a = zip_second R xs ys i l.first all l.at_first in
      let b = zip_second R xs ys j l.second all l.at_second in
      record { before = l.before; first = a.0; second = b.0; at_first = a.1; at_second = b.1; leads = back a.0 b.0 l.first l.second a.2 b.2 l.leads }

  as_many : length xs ≡ length ys
  as_many = zip_length R xs ys all

  chain_forth : (chain : List ℕ) → IsChain (Leads LeadsX xs) (length xs) chain → IsChain (Leads LeadsY ys) (length ys) chain
  chain_forth [] is = tt
  chain_forth (i ∷ []) is = omega (arith, is, as_many)
  chain_forth (i ∷ j ∷ others) is = (leads_forth i j is.0, chain_forth (j ∷ others) is.1)

  chain_back : (chain : List ℕ) → IsChain (Leads LeadsY ys) (length ys) chain → IsChain (Leads LeadsX xs) (length xs) chain
  chain_back [] is = tt
  chain_back (i ∷ []) is = omega (arith, is, as_many)
  chain_back (i ∷ j ∷ others) is = (leads_back i j is.0, chain_back (j ∷ others) is.1)

  weight_found : (us : List X) (vs : List Y) (i : ℕ) → AllZip R us vs → weight_of_found weight_x (slice_get us i) ≡ weight_of_found weight_y (slice_get vs i)
  weight_found [] [] i pairs = refl
  weight_found [] (v ∷ vs) i pairs = absurd pairs
  weight_found (u ∷ us) [] i pairs = absurd pairs
  weight_found (u ∷ us) (v ∷ vs) zero pairs = weigh u v pairs.0
  weight_found (u ∷ us) (v ∷ vs) (suc i) pairs = weight_found us vs i pairs.1

  weight_same : (chain : List ℕ) → chain_weight weight_x xs chain ≡ chain_weight weight_y ys chain
  weight_same [] = refl
  weight_same (i ∷ others) =
      let first = weight_found xs ys i all in
      let rest = weight_same others in
      let sum_x = sum_by-cons (weight_at weight_x xs) i others in
      let sum_y = sum_by-cons (weight_at weight_y ys) i others in
      omega (arith, first, rest, sum_x, sum_y)

  pub sum_same : (us : List X) (vs : List Y) → AllZip R us vs → sum_by weight_x us ≡ sum_by weight_y vs
  sum_same [] [] pairs = refl
  sum_same [] (v ∷ vs) pairs = absurd pairs
  sum_same (u ∷ us) [] pairs = absurd pairs
  sum_same (u ∷ us) (v ∷ vs) pairs =
      let first = weigh u v pairs.0 in
      let rest = sum_same us vs pairs.1 in
      let sum_x = sum_by-cons weight_x u us in
      let sum_y = sum_by-cons weight_y v vs in
      omega (arith, first, rest, sum_x, sum_y)

  pub heaviest_forth : (work span : ℕ) (chain : List ℕ) → IsHeaviest LeadsX weight_x xs work span chain → IsHeaviest LeadsY weight_y ys work span chain
  heaviest_forth work span chain is = record {
    work_is = is.work_is ∙ sum_same xs ys all;
    chain_is = chain_forth chain is.chain_is;
    span_is = sym (weight_same chain) ∙ is.span_is;
    heaviest = λ other chain_is. (let most = is.heaviest other (chain_back other chain_is) in omega (arith, most, weight_same other));
    lowest = λ other chain_is weighs. is.lowest other (chain_back other chain_is) (weight_same other ∙ weighs);
  }

  reached_forth : (span : ℕ) (ends : List ℕ) → (span ≡ 0) ⊎ ((entry : ℕ) × (entry < length xs) × (slice_index ends entry ≡ span))
      → (span ≡ 0) ⊎ ((entry : ℕ) × (entry < length ys) × (slice_index ends entry ≡ span))
  reached_forth span ends (inl none) = inl none
  reached_forth span ends (inr last) = inr (last.0, (let less = last.1 in omega (arith, less, as_many)), last.2)

  tight_forth : (entry : ℕ) (starts ends : List ℕ)
      → (slice_index starts entry ≡ 0) ⊎ ((before : ℕ) × (before < length xs) × Leads LeadsX xs before entry × (slice_index ends before ≡ slice_index starts entry))
      → (slice_index starts entry ≡ 0) ⊎ ((before : ℕ) × (before < length ys) × Leads LeadsY ys before entry × (slice_index ends before ≡ slice_index starts entry))
  tight_forth entry starts ends (inl none) = inl none
  tight_forth entry starts ends (inr last) = inr (last.0, (let less = last.1 in omega (arith, less, as_many)), leads_forth last.0 entry last.2, last.3)

  pub earliest_forth : (span : ℕ) (starts ends : List ℕ) → AreEarliest (Leads LeadsX xs) (weight_at weight_x xs) (length xs) span starts ends
      → AreEarliest (Leads LeadsY ys) (weight_at weight_y ys) (length ys) span starts ends
  earliest_forth span starts ends is = record {
    starts_count = is.starts_count ∙ as_many;
    ends_count = is.ends_count ∙ as_many;
    takes = λ entry less. (let takes = is.takes entry (omega (arith, less, as_many)) in let same = weight_found xs ys entry all in omega (arith, takes, same));
    some = λ entry less. (let some = is.some entry (omega (arith, less, as_many)) in let same = weight_found xs ys entry all in omega (arith, some, same));
    ordered = λ entry next less below leads. is.ordered entry next (omega (arith, less, as_many)) (omega (arith, below, as_many)) (leads_back entry next leads);
    tight = λ entry less. tight_forth entry starts ends (is.tight entry (omega (arith, less, as_many)));
    within = λ entry less. is.within entry (omega (arith, less, as_many));
    reached = reached_forth span ends is.reached;
  }
