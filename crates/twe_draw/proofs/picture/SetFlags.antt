-- Flags, after one was set, and how many are.
use Rattle.std.proofs.Common.{◌≡◌, ◌≢◌, ◌<◌, ◌≤◌, ◌+◌, ℕ, zero, suc, Bool, true, false, List, [], ◌∷◌, ◌++◌, length, take, get_or, refl, sym, ap, ◌∙◌, arith}
use Rattle.std.specs.Prelude.{slice_set, if◌then◌else◌}
use Rattle.std.proofs.lemmas.List.{take_more}
use Rattle.twe_draw.specs.picture.Choice.{how_many, is_flagged}

pub few_are_set : (flags : List Bool) → how_many flags ≤ length flags
few_are_set [] = omega arith
few_are_set (true ∷ flags) = let few = few_are_set flags in omega arith
few_are_set (false ∷ flags) = let few = few_are_set flags in omega arith

-- if each is set
pub all_are_set : (flags : List Bool)
    → ((task : ℕ) → task < length flags → is_flagged flags task ≡ true) → how_many flags ≡ length flags
all_are_set [] all = refl
all_are_set (true ∷ flags) all =
    ap (λ (n : ℕ). suc n) (all_are_set flags (λ task below. all (suc task) (omega arith)))
all_are_set (false ∷ flags) all = let clash : false ≡ true = all 0 (omega arith) in absurd (cc clash)

-- if one more is set
pub one_more_set : (flags : List Bool) (task : ℕ) → task < length flags → is_flagged flags task ≡ false
    → how_many (slice_set flags task true) ≡ suc (how_many flags)
one_more_set [] task below unset = absurd (omega arith)
one_more_set (true ∷ flags) zero below unset = absurd (cc unset)
one_more_set (false ∷ flags) zero below unset = refl
one_more_set (true ∷ flags) (suc task) below unset =
    ap (λ (n : ℕ). suc n) (one_more_set flags task (omega arith) unset)
one_more_set (false ∷ flags) (suc task) below unset = one_more_set flags task (omega arith) unset

-- that one is set then
pub that_is_set : (flags : List Bool) (task : ℕ) → task < length flags → is_flagged (slice_set flags task true) task ≡ true
that_is_set [] task below = absurd (omega arith)
that_is_set (flag ∷ flags) zero below = refl
that_is_set (flag ∷ flags) (suc task) below = that_is_set flags task (omega arith)

-- and the others stay
pub others_stay : (flags : List Bool) (task other : ℕ) → other ≢ task
    → is_flagged (slice_set flags task true) other ≡ is_flagged flags other
others_stay [] task other differ = refl
others_stay (flag ∷ flags) zero zero differ = absurd (differ refl)
others_stay (flag ∷ flags) zero (suc other) differ = refl
others_stay (flag ∷ flags) (suc task) zero differ = refl
others_stay (flag ∷ flags) (suc task) (suc other) differ =
    others_stay flags task other (λ same. differ (ap (λ (n : ℕ). suc n) same))

pub set_keeps_length : (flags : List Bool) (task : ℕ) → length (slice_set flags task true) ≡ length flags
set_keeps_length [] task = refl
set_keeps_length (flag ∷ flags) zero = refl
set_keeps_length (flag ∷ flags) (suc task) = ap (λ (n : ℕ). suc n) (set_keeps_length flags task)

pushed : (flags : List Bool) (flag : Bool) → how_many (flags ++ flag ∷ []) ≡ how_many flags + (if flag then 1 else 0)
pushed [] true = refl
pushed [] false = refl
pushed (true ∷ flags) flag = let more = pushed flags flag in omega arith
pushed (false ∷ flags) flag = pushed flags flag

-- how many are set with one flag more
pub one_more_flag : (flags : List Bool) (i : ℕ) (d : Bool) → i < length flags
    → how_many (take (i + 1) flags) ≡ how_many (take i flags) + (if get_or flags i d then 1 else 0)
one_more_flag flags i d below = ap how_many (take_more flags i d below) ∙ pushed (take i flags) (get_or flags i d)

pub at_most_one : (flag : Bool) → (if flag then 1 else 0) ≤ 1
at_most_one true = omega arith
at_most_one false = omega arith
