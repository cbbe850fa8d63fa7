-- Numbers in a list: whether one is there, whether each is there once, and taking one out.
use Rattle.std.proofs.Common.{◌≡◌, ◌≢◌, ◌⊎◌, ◌<◌, ℕ, zero, suc, Bool, true, false, ◌||◌, ◌==◌, cond, eqb-true, List, [], ◌∷◌, ◌++◌, length, inl, inr, refl, sym, ap, ◌∙◌, subst, arith}
use Rattle.std.proofs.lemmas.Bool.{eqb-false}
use Rattle.std.specs.List.{Contains, list_any}
use Rattle.seg_meaning.specs.Giving.{without}

abbrev pub IsIn : ℕ → List ℕ → Type 0
IsIn n [] = ⊥
IsIn n (m ∷ ms) = (n ≡ m) ⊎ IsIn n ms

-- no number stands in it twice
abbrev pub EachOnce : List ℕ → Type 0
EachOnce [] = Unit {0}
EachOnce (m ∷ ms) = (¬ IsIn m ms) × EachOnce ms

pub in_contains : (ms : List ℕ) (n : ℕ) → IsIn n ms → Contains ms n
in_contains [] n h = absurd h
in_contains (m ∷ ms) n (inl e) = (0, omega arith, sym e)
in_contains (m ∷ ms) n (inr h) =
    let c = in_contains ms n h in
    let below : c.0 < length ms = c.1 in
    (suc c.0, omega arith, c.2)

pub contains_in : (ms : List ℕ) (n : ℕ) → Contains ms n → IsIn n ms
contains_in [] n c = absurd (omega (arith, c.1))
contains_in (m ∷ ms) n (zero, h, e) = inl (sym e)
contains_in (m ∷ ms) n (suc k, h, e) = let below : k < length ms = omega arith in inr (contains_in ms n (k, below, e))

-- one is put at the end
pub in_put : (ms : List ℕ) (x n : ℕ) → IsIn n ms → IsIn n (ms ++ x ∷ [])
in_put [] x n h = absurd h
in_put (m ∷ ms) x n (inl e) = inl e
in_put (m ∷ ms) x n (inr h) = inr (in_put ms x n h)

pub put_in : (ms : List ℕ) (x : ℕ) → IsIn x (ms ++ x ∷ [])
put_in [] x = inl refl
put_in (m ∷ ms) x = inr (put_in ms x)

pub put_in_cases : (ms : List ℕ) (x n : ℕ) → IsIn n (ms ++ x ∷ []) → IsIn n ms ⊎ (n ≡ x)
put_in_cases [] x n (inl e) = inr e
put_in_cases [] x n (inr h) = absurd h
put_in_cases (m ∷ ms) x n (inl e) = inl (inl e)
put_in_cases (m ∷ ms) x n (inr h) = elim (put_in_cases ms x n h) [ inl front ↦ inl (inr front) | inr last ↦ inr last ]

pub put_once : (ms : List ℕ) (x : ℕ) → EachOnce ms → ¬ IsIn x ms → EachOnce (ms ++ x ∷ [])
put_once [] x once new = (λ h. h, tt)
put_once (m ∷ ms) x once new =
    (λ h. elim (put_in_cases ms x m h) [ inl front ↦ once.0 front | inr last ↦ new (inl (sym last)) ], put_once ms x once.1 (λ h. new (inr h)))

-- One is taken out.

without_in_by : (m on : ℕ) (ms : List ℕ) (b : Bool) (n : ℕ) → (IsIn n (without on ms) → IsIn n ms) → IsIn n (cond b ms (m ∷ without on ms)) → IsIn n (m ∷ ms)
without_in_by m on ms true n rest h = inr h
without_in_by m on ms false n rest (inl e) = inl e
without_in_by m on ms false n rest (inr h) = inr (rest h)

-- what is left was there
pub without_in : (ms : List ℕ) (on n : ℕ) → IsIn n (without on ms) → IsIn n ms
without_in [] on n h = h
without_in (m ∷ ms) on n h = without_in_by m on ms (m == on) n (without_in ms on n) h

without_other_by : (m on : ℕ) (ms : List ℕ) (b : Bool) (n : ℕ) → (m == on) ≡ b → ¬ IsIn m ms → (IsIn n (without on ms) → n ≢ on) → IsIn n (cond b ms (m ∷ without on ms)) → n ≢ on
without_other_by m on ms true n is once rest h e =
    let same : n ≡ m = e ∙ sym (eqb-true m on is) in once (subst (λ k. IsIn k ms) same h)
without_other_by m on ms false n is once rest (inl same) e = eqb-false m on is (sym same ∙ e)
without_other_by m on ms false n is once rest (inr h) e = rest h e

-- the one that was taken out is not left
pub without_other : (ms : List ℕ) (on n : ℕ) → EachOnce ms → IsIn n (without on ms) → n ≢ on
without_other [] on n once h = absurd h
without_other (m ∷ ms) on n once h = without_other_by m on ms (m == on) n refl once.0 (without_other ms on n once.1) h

in_without_by : (m on : ℕ) (ms : List ℕ) (b : Bool) (n : ℕ) → (m == on) ≡ b → n ≢ on → (IsIn n ms → IsIn n (without on ms)) → IsIn n (m ∷ ms) → IsIn n (cond b ms (m ∷ without on ms))
in_without_by m on ms true n is ne rest (inl e) = absurd (ne (e ∙ eqb-true m on is))
in_without_by m on ms true n is ne rest (inr h) = h
in_without_by m on ms false n is ne rest (inl e) = inl e
in_without_by m on ms false n is ne rest (inr h) = inr (rest h)

-- the others are left
pub in_without : (ms : List ℕ) (on n : ℕ) → n ≢ on → IsIn n ms → IsIn n (without on ms)
in_without [] on n ne h = h
in_without (m ∷ ms) on n ne h = in_without_by m on ms (m == on) n refl ne (in_without ms on n ne) h

without_once_by : (m on : ℕ) (ms : List ℕ) (b : Bool) → EachOnce (m ∷ ms) → EachOnce (without on ms) → EachOnce (cond b ms (m ∷ without on ms))
without_once_by m on ms true once rest = once.1
without_once_by m on ms false once rest = (λ h. once.0 (without_in ms on m h), rest)

pub without_once : (ms : List ℕ) (on : ℕ) → EachOnce ms → EachOnce (without on ms)
without_once [] on once = once
without_once (m ∷ ms) on once = without_once_by m on ms (m == on) once (without_once ms on once.1)

without_none_by : (m on : ℕ) (ms : List ℕ) (b : Bool) → (m == on) ≡ b → ¬ IsIn on (m ∷ ms) → (without on ms ≡ ms) → cond b ms (m ∷ without on ms) ≡ m ∷ ms
without_none_by m on ms true is out rest = absurd (out (inl (sym (eqb-true m on is))))
without_none_by m on ms false is out rest = ap (λ (l : List ℕ). m ∷ l) rest

-- if it is not there, nothing is taken out
pub without_none : (ms : List ℕ) (on : ℕ) → ¬ IsIn on ms → without on ms ≡ ms
without_none [] on out = refl
without_none (m ∷ ms) on out = without_none_by m on ms (m == on) refl out (without_none ms on (λ h. out (inr h)))

any_in_by : (m on : ℕ) (ms : List ℕ) (b : Bool) → (m == on) ≡ b → (list_any (λ k. k == on) ms ≡ true → IsIn on ms) → b || list_any (λ k. k == on) ms ≡ true → IsIn on (m ∷ ms)
any_in_by m on ms true is rest h = inl (sym (eqb-true m on is))
any_in_by m on ms false is rest h = inr (rest h)

-- whether one is there
pub any_in : (ms : List ℕ) (on : ℕ) → list_any (λ k. k == on) ms ≡ true → IsIn on ms
any_in [] on h = absurd (cc)
any_in (m ∷ ms) on h = any_in_by m on ms (m == on) refl (any_in ms on) h

in_any_by : (m on : ℕ) (ms : List ℕ) (b : Bool) → (m == on) ≡ b → (list_any (λ k. k == on) ms ≡ false → ¬ IsIn on ms) → b || list_any (λ k. k == on) ms ≡ false → ¬ IsIn on (m ∷ ms)
in_any_by m on ms true is rest h there = cc
in_any_by m on ms false is rest h (inl e) = eqb-false m on is (sym e)
in_any_by m on ms false is rest h (inr there) = rest h there

pub none_in : (ms : List ℕ) (on : ℕ) → list_any (λ k. k == on) ms ≡ false → ¬ IsIn on ms
none_in [] on h there = there
none_in (m ∷ ms) on h there = in_any_by m on ms (m == on) refl (none_in ms on) h there
