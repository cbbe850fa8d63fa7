-- The contents of nodes: records without one, and what is found in them.
use Rattle.std.proofs.Common.{◌≡◌, ◌↔◌, ◌⊎◌, ℕ, zero, suc, Bool, true, false, List, [], ◌∷◌, ◌++◌, reverse, Option, None, Some, IsNone, length, refl, sym, ap, subst, ◌∙◌, inl, inr, ⊎_elim, if◌then◌else◌, append-nil, arith}
use Rattle.std.specs.Prelude.{◌-◌, ◌<◌, ◌≤◌, ◌||◌, slice_get}
use Rattle.std.specs.List.{list_any, remove}
use Rattle.std.proofs.lemmas.Bool.{false≢true}
use Rattle.std.proofs.lemmas.Bool.Decides.{not_from_Decides}
use Rattle.std.proofs.lemmas.Grind.{reverse_onto}
use Rattle.std.proofs.lemmas.List.{get_or-reverse, length-reverse}
use Rattle.std.proofs.lemmas.Option.{slice_get-get_or, slice_get_past}
use Rattle.floor_laws.specs.admission.admission_core.States.{IsAmong, Record}
use Rattle.floor_laws.specs.rule.nodes.Fitting.{IsDistinct}
use Rattle.floor_laws.proofs.rule.Puts.{none_some, some_one}
use Rattle.floor_laws.specs.table.nodes.Without.{same_record, without_record}
use Rattle.floor_laws.proofs.table.nodes.Withouts.{record_decided, without_is}

-- Records without one.

without_append : (r : Record) (xs ys : List Record) → without_record r (xs ++ ys) ≡ without_record r xs ++ without_record r ys
without_append r [] ys = refl
without_append r (x ∷ xs) ys = by (same_record x r) (without_append r xs ys)
  where
    by : (b : Bool) → without_record r (xs ++ ys) ≡ without_record r xs ++ without_record r ys
        → (if b then without_record r (xs ++ ys) else x ∷ without_record r (xs ++ ys)) ≡ (if b then without_record r xs else x ∷ without_record r xs) ++ without_record r ys
    by true others = others
    by false others = ap (λ (l : List Record). x ∷ l) others

-- the order makes no difference
pub without_reversed : (r : Record) (l : List Record) → reverse (without_record r l) ≡ without_record r (reverse l)
without_reversed r [] = refl
without_reversed r (x ∷ xs) =
    let parts : without_record r (reverse (x ∷ xs)) ≡ without_record r (reverse xs) ++ without_record r (x ∷ []) =
    ap (without_record r) (reverse_onto xs x []) ∙ without_append r (reverse xs) (x ∷ []) in
    by (same_record x r) (without_reversed r xs) ∙ sym parts
  where
    by : (b : Bool) → reverse (without_record r xs) ≡ without_record r (reverse xs)
        → reverse (if b then without_record r xs else x ∷ without_record r xs) ≡ without_record r (reverse xs) ++ (if b then [] else x ∷ [])
    by true others = others ∙ sym (append-nil (without_record r (reverse xs)))
    by false others = reverse_onto (without_record r xs) x [] ∙ ap (λ (l : List Record). l ++ x ∷ []) others

-- Lists without a record twice.

pub at_among : (r : Record) (l : List Record) (at : ℕ) → slice_get l at ≡ Some r → IsAmong r l
at_among r [] at is = absurd (none_some is)
at_among r (x ∷ xs) zero is = inl (sym (some_one is))
at_among r (x ∷ xs) (suc at) is = inr (at_among r xs at is)

-- where a record is
pub place_in : (r : Record) (l : List Record) → IsAmong r l → (at : ℕ) × (slice_get l at ≡ Some r)
place_in r [] among = absurd among
place_in r (x ∷ xs) among =
    ⊎_elim (λ (first : r ≡ x). (zero, ap (λ (y : Record). Some y) (sym first)))
    (λ (later : IsAmong r xs). let place = place_in r xs later in (suc place.0, place.1)) among

pub none_of : (at : Option ℕ) → at ≡ None → IsNone at
none_of None is = refl
none_of (Some k) is = cc

-- without a record that is not there a list is as it was
pub without_none : (r : Record) (l : List Record) → ¬ IsAmong r l → without_record r l ≡ l
without_none r [] missing = refl
without_none r (x ∷ xs) missing = by (without_none r xs (λ among. missing (inr among))) (same_record x r) refl
  where
    by : without_record r xs ≡ xs → (b : Bool) → same_record x r ≡ b → (if b then without_record r xs else x ∷ without_record r xs) ≡ x ∷ xs
    by rest true is = absurd (missing (inl (sym ((record_decided x r).0 is))))
    by rest false is = ap (λ (l : List Record). x ∷ l) rest

-- it is enough to take it out at its place
pub removed_is : (r : Record) (l : List Record) (at : ℕ) → IsDistinct l → slice_get l at ≡ Some r → remove l at ≡ without_record r l
removed_is r [] at once is = absurd (none_some is)
removed_is r (x ∷ xs) zero once is = by (same_record x r) refl
  where
    here : x ≡ r
    here = some_one is

    by : (b : Bool) → same_record x r ≡ b → xs ≡ (if b then without_record r xs else x ∷ without_record r xs)
    by true same = sym (without_none r xs (subst (λ (y : Record). ¬ IsAmong y xs) here once.0))
    by false other = absurd (not_from_Decides (same_record x r) (record_decided x r) other here)
removed_is r (x ∷ xs) (suc at) once is = by (removed_is r xs at once.1 is) (same_record x r) refl
  where
    by : remove xs at ≡ without_record r xs → (b : Bool) → same_record x r ≡ b → x ∷ remove xs at ≡ (if b then without_record r xs else x ∷ without_record r xs)
    by rest true same = absurd (once.0 (subst (λ (y : Record). IsAmong y xs) (sym ((record_decided x r).0 same)) (at_among r xs at is)))
    by rest false other = ap (λ (l : List Record). x ∷ l) rest

pub distinct_without : (r : Record) (l : List Record) → IsDistinct l → IsDistinct (without_record r l)
distinct_without r [] once = tt
distinct_without r (x ∷ xs) once = by (distinct_without r xs once.1) (same_record x r)
  where
    by : IsDistinct (without_record r xs) → (b : Bool) → IsDistinct (if b then without_record r xs else x ∷ without_record r xs)
    by rest true = rest
    by rest false = (λ among. once.0 ((without_is r xs x).0 among).0, rest)

among_either : (r : Record) (xs ys : List Record) → IsAmong r (xs ++ ys) → IsAmong r xs ⊎ IsAmong r ys
among_either r [] ys among = inr among
among_either r (x ∷ xs) ys (inl first) = inl (inl first)
among_either r (x ∷ xs) ys (inr later) = ⊎_elim (λ left. inl (inr left)) (λ right. inr right) (among_either r xs ys later)

among_first : (r : Record) (xs ys : List Record) → IsAmong r xs → IsAmong r (xs ++ ys)
among_first r [] ys among = absurd among
among_first r (x ∷ xs) ys (inl first) = inl first
among_first r (x ∷ xs) ys (inr later) = inr (among_first r xs ys later)

among_second : (r : Record) (xs ys : List Record) → IsAmong r ys → IsAmong r (xs ++ ys)
among_second r [] ys among = among
among_second r (x ∷ xs) ys among = inr (among_second r xs ys among)

-- one record more
pub distinct_last : (l : List Record) (r : Record) → IsDistinct l → ¬ IsAmong r l → IsDistinct (l ++ r ∷ [])
distinct_last [] r once new = (λ among. absurd among, tt)
distinct_last (x ∷ xs) r once new = (
  λ among.
      ⊎_elim (λ (left : IsAmong x xs). once.0 left)
      (λ (last : IsAmong x (r ∷ [])). ⊎_elim (λ (same : x ≡ r). new (inl (sym same))) (λ none. absurd none) last)
      (among_either x xs (r ∷ []) among),
  distinct_last xs r once.1 (λ among. new (inr among)),
)

pub among_reversed : (r : Record) (l : List Record) → IsAmong r l ↔ IsAmong r (reverse l)
among_reversed r [] = (λ among. absurd among, λ among. absurd among)
among_reversed r (x ∷ xs) = (
  λ among.
      subst (IsAmong r) (sym (reverse_onto xs x []))
      (⊎_elim (λ (first : r ≡ x). among_second r (reverse xs) (x ∷ []) (inl first))
      (λ (later : IsAmong r xs). among_first r (reverse xs) (x ∷ []) ((among_reversed r xs).0 later)) among),
  λ among.
      ⊎_elim (λ (front : IsAmong r (reverse xs)). inr ((among_reversed r xs).1 front))
      (λ (last : IsAmong r (x ∷ [])). ⊎_elim (λ (same : r ≡ x). inl same) (λ none. absurd none) last)
      (among_either r (reverse xs) (x ∷ []) (subst (IsAmong r) (reverse_onto xs x []) among)),
)

-- What is found.

-- a record is found exactly if it is there
pub found_among : (r : Record) (l : List Record) → (list_any (λ x. same_record x r) l ≡ true) ↔ IsAmong r l
found_among r [] = (λ found. absurd (false≢true found), λ among. absurd among)
found_among r (x ∷ xs) = (by (same_record x r) refl (found_among r xs).0, back (found_among r xs).1)
  where
    by : (b : Bool) → same_record x r ≡ b → (list_any (λ y. same_record y r) xs ≡ true → IsAmong r xs)
        → (b || list_any (λ y. same_record y r) xs) ≡ true → IsAmong r (x ∷ xs)
    by true is others found = inl (sym ((record_decided x r).0 is))
    by false is others found = inr (others found)

    any_here : (b : Bool) → b ≡ true → (b || list_any (λ y. same_record y r) xs) ≡ true
    any_here true is = refl
    any_here false is = absurd (false≢true is)

    any_later : (b : Bool) → list_any (λ y. same_record y r) xs ≡ true → (b || list_any (λ y. same_record y r) xs) ≡ true
    any_later true found = refl
    any_later false found = found

    back : (IsAmong r xs → list_any (λ y. same_record y r) xs ≡ true) → IsAmong r (x ∷ xs) → list_any (λ y. same_record y r) (x ∷ xs) ≡ true
    back others among =
        ⊎_elim (λ (first : r ≡ x). any_here (same_record x r) ((record_decided x r).1 (sym first)))
        (λ (later : IsAmong r xs). any_later (same_record x r) (others later)) among

-- Lists from their end.

module _ {X : Type 0} where
  pub from_the_end : (l : List X) (at : ℕ) → at < length l → slice_get l (length l - 1 - at) ≡ slice_get (reverse l) at
  from_the_end [] at low = absurd (omega (arith, low))
  from_the_end (x ∷ xs) at low =
      let l = x ∷ xs in
      slice_get-get_or l (length l - 1 - at) x (omega (arith, low))
      ∙ (ap Some (sym (get_or-reverse l at x low)) ∙ sym (slice_get-get_or (reverse l) at x (omega (arith, low, length-reverse l))))

  pub past_the_end : (l : List X) (at : ℕ) → length l ≤ at → None ≡ slice_get (reverse l) at
  past_the_end l at past = sym (slice_get_past (reverse l) at (omega (arith, past, length-reverse l)))
