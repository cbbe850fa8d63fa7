-- The order of failures: by place, and at one place by number.
use Rattle.std.proofs.Common.{◌≡◌, ◌⊎◌, ◌<◌, ◌≤◌, ◌==◌, nat_lt, ℕ, Bool, true, false, ◌&&◌, ◌||◌, inl, inr, refl, sym, ap, ◌∙◌, subst, arith}
use Rattle.std.proofs.lemmas.Bool.Decides.{nat_tests}
use Rattle.twe_base.specs.declared.place.Place.{Place}
use Rattle.twe_base.specs.declared.failure.Failure.{Failure}
use Rattle.twe_base.specs.Order.{IsEarlier, NotAfter}
use Rattle.twe_base.specs.First.{is_before}

-- the order of three numbers, as a test and as a fact
abbrev lower : ℕ → ℕ → ℕ → ℕ → ℕ → ℕ → Bool
lower a b c x y z = nat_lt a x || ((a == x) && (nat_lt b y || ((b == y) && nat_lt c z)))

abbrev NotHigher : ℕ → ℕ → ℕ → ℕ → ℕ → ℕ → Type 0
NotHigher a b c x y z = ((a < x) ⊎ ((a ≡ x) × (b < y))) ⊎ ((a ≡ x) × (b ≡ y) × (c ≤ z))

lower-not_higher : (a b c x y z : ℕ) → lower a b c x y z ≡ true → NotHigher a b c x y z
lower-not_higher a b c x y z h = grind (arith, nat_tests)

not_lower-not_higher : (a b c x y z : ℕ) → lower x y z a b c ≡ false → NotHigher a b c x y z
not_lower-not_higher a b c x y z h = grind (arith, nat_tests)

same_place : (a b : Place) → a.line ≡ b.line → a.col ≡ b.col → a ≡ b
same_place a b e f =
    let make : ℕ → ℕ → Place = λ l c. record { line = l; col = c } in
    ap (λ l. make l a.col) e ∙ ap (make b.line) f

pub earlier_trans : (a b c : Place) → IsEarlier a b → IsEarlier b c → IsEarlier a c
earlier_trans a b c (inl h) (inl k) = inl (omega arith)
earlier_trans a b c (inl h) (inr (e, k)) = inl (omega arith)
earlier_trans a b c (inr (e, h)) (inl k) = inl (omega arith)
earlier_trans a b c (inr (e, h)) (inr (f, k)) = inr (e ∙ f, omega arith)

-- no place is earlier than one that is earlier than it, or than itself
earlier_asym : (p q : Place) → IsEarlier p q → IsEarlier q p → ⊥
earlier_asym p q (inl h) (inl k) = omega arith
earlier_asym p q (inl h) (inr (e, k)) = omega arith
earlier_asym p q (inr (e, h)) (inl k) = omega arith
earlier_asym p q (inr (e, h)) (inr (f, k)) = omega arith

earlier_irrefl : (p q : Place) → IsEarlier p q → q ≡ p → ⊥
earlier_irrefl p q h same = earlier_asym p q h (subst (λ (r : Place). IsEarlier q r) same (subst (λ (r : Place). IsEarlier r q) (sym same) h))

module _ {R : Type 0} (number_of : R → ℕ) where
  abbrev pub ComesFirst : Failure R → Failure R → Type 0
  ComesFirst a b = NotAfter number_of a.rule a.place b.rule b.place

  first_by : (a b : Failure R) → NotHigher a.place.line a.place.col (number_of a.rule) b.place.line b.place.col (number_of b.rule) → ComesFirst a b
  first_by a b (inl h) = inl h
  first_by a b (inr h) = inr (same_place a.place b.place h.0 h.1, h.2)

  pub before-first : (a b : Failure R) → is_before number_of a b ≡ true → ComesFirst a b
  before-first a b h = first_by a b (lower-not_higher a.place.line a.place.col (number_of a.rule) b.place.line b.place.col (number_of b.rule) h)

  pub not_before-first : (a b : Failure R) → is_before number_of b a ≡ false → ComesFirst a b
  not_before-first a b h = first_by a b (not_lower-not_higher a.place.line a.place.col (number_of a.rule) b.place.line b.place.col (number_of b.rule) h)

  pub first_trans : (a b c : Failure R) → ComesFirst a b → ComesFirst b c → ComesFirst a c
  first_trans a b c (inl h) (inl k) = inl (earlier_trans a.place b.place c.place h k)
  first_trans a b c (inl h) (inr (e, k)) = inl (subst (IsEarlier a.place) e h)
  first_trans a b c (inr (e, h)) (inl k) = inl (subst (λ (q : Place). IsEarlier q c.place) (sym e) k)
  first_trans a b c (inr (e, h)) (inr (f, k)) = inr (e ∙ f, omega arith)

  pub first_itself : (a b : Failure R) → b ≡ a → ComesFirst a b
  first_itself a b e = subst (ComesFirst a) (sym e) (inr (refl, omega arith))

  -- two failures of which neither comes after the other are one, if the numbers are those of one rule each
  pub one_first : (named : ℕ → R) → ((r : R) → named (number_of r) ≡ r) → (r s : R) (p q : Place) → NotAfter number_of r p s q → NotAfter number_of s q r p → (r ≡ s) × (p ≡ q)
  one_first named back r s p q (inl h) (inl k) = absurd (earlier_asym p q h k)
  one_first named back r s p q (inl h) (inr (e, k)) = absurd (earlier_irrefl p q h e)
  one_first named back r s p q (inr (e, h)) (inl k) = absurd (earlier_irrefl q p k e)
  one_first named back r s p q (inr (e, h)) (inr (f, k)) =
      let same : number_of r ≡ number_of s = omega arith in
      (sym (back r) ∙ ap named same ∙ back s, e)
