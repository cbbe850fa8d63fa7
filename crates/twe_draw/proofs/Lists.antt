-- Lists of which one place is set, and folds over one element more.
use Rattle.std.proofs.Common.{◌≡◌, ◌≤◌, ◌<◌, ◌+◌, ℕ, zero, suc, Bool, true, false, List, [], ◌∷◌, length, take, get_or, sym, ap, ◌∙◌}
use Rattle.std.specs.Prelude.{if◌then◌else◌, slice_index, slice_set}
use Rattle.std.specs.List.{fold}
use Rattle.std.proofs.lemmas.List.{take_more}
use Rattle.std.proofs.lemmas.List.Sums.{fold_push}

-- a bound of all numbers and of the new one
pub set_keeps_bound : (xs : List ℕ) (k v b t : ℕ) → slice_index xs t ≤ b → v ≤ b → slice_index (slice_set xs k v) t ≤ b
set_keeps_bound [] k v b t old new = old
set_keeps_bound (x ∷ xs) zero v b zero old new = new
set_keeps_bound (x ∷ xs) zero v b (suc t) old new = old
set_keeps_bound (x ∷ xs) (suc k) v b zero old new = old
set_keeps_bound (x ∷ xs) (suc k) v b (suc t) old new = set_keeps_bound xs k v b t old new

-- the same of one of two lists
pub either_keeps_bound : (c : Bool) (xs ys : List ℕ) (b t : ℕ) → slice_index xs t ≤ b → slice_index ys t ≤ b
    → slice_index (if c then xs else ys) t ≤ b
either_keeps_bound true xs ys b t p q = p
either_keeps_bound false xs ys b t p q = q

-- a fold over one element more
pub fold_at : {A B : Type 0} (f : B → A → B) (z : B) (xs : List A) (i : ℕ) (d : A) (so_far new : B) → i < length xs
    → so_far ≡ fold f z (take i xs) → new ≡ f so_far (get_or xs i d) → new ≡ fold f z (take (i + 1) xs)
fold_at f z xs i d so_far new below folded one =
    one
    ∙ (ap (λ b. f b (get_or xs i d)) folded
    ∙ (sym (fold_push f z (take i xs) (get_or xs i d)) ∙ sym (ap (fold f z) (take_more xs i d below))))
