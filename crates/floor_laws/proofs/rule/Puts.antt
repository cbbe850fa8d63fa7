-- A function of which one value was set.
use Rattle.std.proofs.Common.{◌≡◌, ◌≢◌, ◌⊎◌, ℕ, Bool, None, Some, if◌then◌else◌, refl, sym, ap, subst, ◌∙◌, inl, inr, ⊎_elim, eq-eqb, ne_eqb}
use Rattle.std.proofs.lemmas.Bool.{cases_eq}
use Rattle.floor_laws.specs.rule.Floors.{put}

pub some_one : {A : Type 0} {x y : A} → Some x ≡ Some y → x ≡ y
some_one h = cc

pub none_some : {A : Type 0} {x : A} → None ≡ Some x → ⊥
none_some h = cc

pub put_here : {X : Type 0} (f : ℕ → X) (k : ℕ) (x : X) → put f k x k ≡ x
put_here {X} f k x = ap (λ (b : Bool). if b then x else f k) (eq-eqb k k refl)

pub put_else : {X : Type 0} (f : ℕ → X) (k j : ℕ) (x : X) → j ≢ k → put f k x j ≡ f j
put_else {X} f k j x other = ap (λ (b : Bool). if b then x else f j) (ne_eqb j k other)

pub put_was : {X : Type 0} (f : ℕ → X) (k j : ℕ) (x y : X) → put f k x j ≡ y → ((j ≡ k) × (x ≡ y)) ⊎ ((j ≢ k) × (f j ≡ y))
put_was {X} f k j x y h =
    ⊎_elim
    (λ (same : j ≡ k). inl (same, sym (put_here f k x) ∙ subst (λ (n : ℕ). put f k x n ≡ y) same h))
    (λ (other : j ≢ k). inr (other, sym (put_else f k j x other) ∙ h))
    (cases_eq j k)

-- what holds of the new value at k, and of each other value
pub put_all : {X : Type 0} (P : ℕ → X → Type 0) (f : ℕ → X) (k : ℕ) (x : X) → P k x → ((j : ℕ) → j ≢ k → P j (f j)) → (j : ℕ) → P j (put f k x j)
put_all {X} P f k x here others j =
    ⊎_elim
    (λ (same : j ≡ k). subst (λ (n : ℕ). P n (put f k x n)) (sym same) (subst (P k) (sym (put_here f k x)) here))
    (λ (other : j ≢ k). subst (P j) (sym (put_else f k j x other)) (others j other))
    (cases_eq j k)
