-- Records of a content by index.
use Rattle.std.proofs.Common.{◌≡◌, ◌+◌, ◌<◌, ◌≤◌, ℕ, zero, suc, List, [], ◌∷◌, length, Some, sym, ap, subst, ◌∙◌, inl, inr, ⊎_elim, arith}
use Rattle.std.specs.Prelude.{slice_get}
use Rattle.std.proofs.lemmas.Bool.{cases_eq, cases_lt}
use Rattle.floor_laws.proofs.rule.Puts.{some_one}
use Rattle.floor_laws.specs.admission.admission_core.States.{IsAmong, Record}
use Rattle.tree_admit.specs.Passing.{EachBetween}

-- those of one stretch and those of the next
pub both_between : (P : Record → Type 0) (content : List Record) (k m n : ℕ) → EachBetween P content k m → EachBetween P content m n
    → EachBetween P content k n
both_between P content k m n low high = λ j r from before at.
    ⊎_elim (λ below. low j r from below at) (λ past. high j r past before at) (cases_lt j m)

-- the record before them too, if there is one
pub one_before : (P : Record → Type 0) (content : List Record) (k m n : ℕ) → m ≡ k + 1
    → ((r : Record) → slice_get content k ≡ Some r → P r) → EachBetween P content m n → EachBetween P content k n
one_before P content k m n next first rest = λ j r from before at.
    ⊎_elim
    (λ (same : j ≡ k). first r (ap (slice_get content) (sym same) ∙ at))
    (λ (other : j ≡ k → ⊥). rest j r (omega arith) before at) (cases_eq j k)

-- the record behind them too, if there is one
pub one_after : (P : Record → Type 0) (content : List Record) (k n : ℕ) → ((r : Record) → slice_get content n ≡ Some r → P r) → EachBetween P content k n
    → EachBetween P content k (n + 1)
one_after P content k n last rest = λ j r from before at.
    ⊎_elim
    (λ (same : j ≡ n). last r (ap (slice_get content) (sym same) ∙ at))
    (λ (other : j ≡ n → ⊥). rest j r from (omega arith) at) (cases_eq j n)

pub this_record : (P : Record → Type 0) (content : List Record) (k : ℕ) (r : Record) → Some r ≡ slice_get content k → P r
    → (s : Record) → slice_get content k ≡ Some s → P s
this_record P content k r is holds s at = subst P (some_one (is ∙ at)) holds

pub at_is_among : (l : List Record) (k : ℕ) (r : Record) → slice_get l k ≡ Some r → IsAmong r l
at_is_among [] k r is = absurd (let no = is in cc)
at_is_among (x ∷ xs) zero r is = inl (let same = is in cc)
at_is_among (x ∷ xs) (suc k) r is = inr (at_is_among xs k r is)

index_of : (r : Record) (l : List Record) → IsAmong r l → (k : ℕ) × (k < length l) × (slice_get l k ≡ Some r)
index_of r [] among = absurd among
index_of r (x ∷ xs) among =
    ⊎_elim
    (λ (first : r ≡ x). (zero, omega arith, ap (λ (y : Record). Some y) (sym first)))
    (λ (later : IsAmong r xs). let at = index_of r xs later in (suc at.0, omega (arith, at.1), at.2)) among

-- all records of the content
pub each_among : (P : Record → Type 0) (content : List Record) (k : ℕ) → k ≤ 0 → EachBetween P content k (length content)
    → (r : Record) → IsAmong r content → P r
each_among P content k none each r among = let at = index_of r content among in each at.0 r (omega arith) at.1 at.2
