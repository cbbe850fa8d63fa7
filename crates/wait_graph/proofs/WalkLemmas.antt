-- Walks along a function on numbers: where they are after some steps, and which lists they make.
use Rattle.std.proofs.Common.{◌≡◌, ℕ, zero, suc, ◌+◌, ◌<◌, [], ◌∷◌, ◌++◌, length, get_or, take, drop, refl, ap, ◌∙◌, arith, zero-add}
use Rattle.std.proofs.lemmas.List.{drop_at, take_at}
use Rattle.wait_graph.specs.Walk.{walk}
use Rattle.wait_graph.specs.inner.Again.{after}

-- one step more
pub after-suc : (next : ℕ → ℕ) (n t : ℕ) → after next (suc n) t ≡ next (after next n t)
after-suc next zero t = refl
after-suc next (suc n) t = after-suc next n (next t)

suc_add : (m n : ℕ) → suc m + n ≡ suc (m + n)
suc_add m n = omega arith

-- some steps, and then others
pub after-add : (next : ℕ → ℕ) (m n t : ℕ) → after next (m + n) t ≡ after next n (after next m t)
after-add next zero n t = ap (λ k. after next k t) (zero-add n)
after-add next (suc m) n t = ap (λ k. after next k t) (suc_add m n) ∙ after-add next m n (next t)

pub walk-add : (next : ℕ → ℕ) (m n t : ℕ) → walk next (m + n) t ≡ walk next m t ++ walk next n (after next m t)
walk-add next zero n t = ap (λ k. walk next k t) (zero-add n)
walk-add next (suc m) n t = ap (λ k. walk next k t) (suc_add m n) ∙ ap (λ ts. t ∷ ts) (walk-add next m n (next t))

pub length-walk : (next : ℕ → ℕ) (n t : ℕ) → length (walk next n t) ≡ n
length-walk next zero t = refl
length-walk next (suc n) t = ap suc (length-walk next n (next t))

-- a walk that goes on by one number
pub walk-push : (next : ℕ → ℕ) (n t : ℕ) → walk next (suc n) t ≡ walk next n t ++ after next n t ∷ []
walk-push next zero t = refl
walk-push next (suc n) t = ap (λ ts. t ∷ ts) (walk-push next n (next t))

pub get_or-walk : (next : ℕ → ℕ) (n t i d : ℕ) → i < n → get_or (walk next n t) i d ≡ after next i t
get_or-walk next zero t i d h = absurd (omega arith)
get_or-walk next (suc n) t zero d h = refl
get_or-walk next (suc n) t (suc i) d h = get_or-walk next n (next t) i d (omega arith)

pub take-walk : (next : ℕ → ℕ) (m n t : ℕ) → take m (walk next (m + n) t) ≡ walk next m t
take-walk next m n t = ap (take m) (walk-add next m n t) ∙ take_at _ _ m (length-walk next m t)

pub drop-walk : (next : ℕ → ℕ) (m n t : ℕ) → drop m (walk next (m + n) t) ≡ walk next n (after next m t)
drop-walk next m n t = ap (drop m) (walk-add next m n t) ∙ drop_at _ _ m (length-walk next m t)
