-- The paths of a clause of a least summary ascend, and two lists that ascend and have the same paths are equal.
use Rattle.std.proofs.Common.{◌≡◌, ◌⊎◌, Bool, true, false, List, [], ◌∷◌, map, if◌then◌else◌, inl, inr, refl, sym, ap, ◌∙◌, subst}
use Rattle.std.specs.Prelude.{Contains}
use Rattle.std.proofs.lemmas.Bool.{both_ways, cases_Bool}
use Rattle.region_paths.specs.declared.elements.Elem.{Elem}
use Rattle.effect_infer.specs.declared.needs.need.Need.{Need}
use Rattle.effect_infer.specs.needs.Needs.{effect_of}
use Rattle.effect_infer.specs.Kept.{AreDistinct}
use Rattle.twe_base.proofs.Members.{IsIn, in-contains}
use Rattle.summary_texts.specs.Order.{is_same, comes_before, place_in, with_path, with_paths, Ascend}
use Rattle.summary_texts.proofs.Inserting.{inserted-in, same-is}
use Rattle.summary_texts.proofs.Ordering.{one-path, path-itself, paths-compared, paths-follow}

-- a path that is not among the others and does not come before one of them comes after it
comes-after : (path next : List Elem) → comes_before path next ≡ false → (path ≡ next → ⊥) → comes_before next path ≡ true
comes-after path next not_before differ = elim (paths-compared path next) [
  | inl before ↦ absurd (both_ways (comes_before path next) not_before before)
  | inr (inl same) ↦ absurd (differ same)
  | inr (inr after) ↦ after
]

-- a path in its place after another
after-first : (first : List Elem) (paths : List (List Elem)) (path : List Elem) → Ascend (first ∷ paths) → comes_before first path ≡ true → (IsIn path paths → ⊥) → Ascend (first ∷ with_path paths path)
after-first first [] path ascend before none = (before, tt)
after-first first (next ∷ paths) path ascend before none = elim (cases_Bool (comes_before path next)) [
  | inl this ↦ rw this (before, (this, ascend.1))
  | inr after ↦ rw after (ascend.0, after-first next paths path ascend.1 (comes-after path next after (λ same. none (inl same))) (λ there. none (inr there)))
]

one-more : (paths : List (List Elem)) (path : List Elem) → Ascend paths → (IsIn path paths → ⊥) → Ascend (with_path paths path)
one-more [] path ascend none = tt
one-more (first ∷ paths) path ascend none = elim (cases_Bool (comes_before path first)) [
  | inl this ↦ rw this (this, ascend)
  | inr after ↦ rw after (after-first first paths path ascend (comes-after path first after (λ same. none (inl same))) (λ there. none (inr there)))
]

-- no need of the list has one of these paths
abbrev pub AreNew : Bool → List (List Elem) → List Need → Type 0
AreNew write paths needs = (need : Need) → IsIn need needs → need.write ≡ write → IsIn need.elems paths → ⊥

same-need : (one other : Need) → one.write ≡ other.write → one.elems ≡ other.elems → one ≡ other
same-need one other writes elems = λ i. record { write = writes i; elems = elems i }

-- after one need the others are still new, since no need is in the list twice
still-new : (write : Bool) (paths : List (List Elem)) (need : Need) (needs : List Need) → AreDistinct (need ∷ needs) → AreNew write paths (need ∷ needs) → need.write ≡ write
    → AreNew write (with_path paths need.elems) needs
still-new write paths need needs distinct new writes its there is at =
    elim (inserted-in (place_in paths need.elems) paths need.elems its.elems at) [
      | inl same ↦ distinct.0 (subst (Contains needs) (same-need its need (is ∙ sym writes) same) (in-contains needs its there))
      | inr old ↦ new its (inr there) is old
    ]

-- one need more
step-ascends : (write : Bool) (need : Need) (needs : List Need) (paths : List (List Elem)) (b : Bool) → is_same need.write write ≡ b → AreDistinct (need ∷ needs) → AreNew write paths (need ∷ needs)
    → Ascend paths → ((others : List (List Elem)) → AreNew write others needs → Ascend others → Ascend (with_paths write others (map effect_of needs)))
    → Ascend (with_paths write (if b then with_path paths need.elems else paths) (map effect_of needs))
step-ascends write need needs paths true same distinct new ascend rest =
    let writes = same-is need.write write same in
    rest (with_path paths need.elems) (still-new write paths need needs distinct new writes) (one-more paths need.elems ascend (new need (inl refl) writes))
step-ascends write need needs paths false same distinct new ascend rest = rest paths (λ its there. new its (inr there)) ascend

pub needs-ascend : (write : Bool) (needs : List Need) (paths : List (List Elem)) → AreDistinct needs → AreNew write paths needs → Ascend paths → Ascend (with_paths write paths (map effect_of needs))
needs-ascend write [] paths distinct new ascend = ascend
needs-ascend write (need ∷ needs) paths distinct new ascend =
    step-ascends write need needs paths (is_same need.write write) refl distinct new ascend (λ others fresh up. needs-ascend write needs others distinct.1 fresh up)

-- the first path comes before all others
comes-first : (first : List Elem) (paths : List (List Elem)) → Ascend (first ∷ paths) → (path : List Elem) → IsIn path paths → comes_before first path ≡ true
comes-first first [] ascend path there = absurd there
comes-first first (next ∷ paths) ascend path (inl same) = subst (λ (its : List Elem). comes_before first its ≡ true) (sym same) ascend.0
comes-first first (next ∷ paths) ascend path (inr there) = paths-follow first next path ascend.0 (comes-first next paths ascend.1 path there)

-- the first paths of two such lists are equal
same-first : (x y : List Elem) (xs ys : List (List Elem)) → Ascend (x ∷ xs) → Ascend (y ∷ ys) → IsIn x (y ∷ ys) → IsIn y (x ∷ xs) → x ≡ y
same-first x y xs ys one other (inl same) back = same
same-first x y xs ys one other (inr later) (inl same) = sym same
same-first x y xs ys one other (inr later) (inr there) =
    absurd (both_ways (comes_before x y) (one-path y x (comes-first y ys other x later)) (comes-first x xs one y there))

-- what follows the first path is in the rest of the other list
in-rest : (x y z : List Elem) (xs ys : List (List Elem)) → Ascend (x ∷ xs) → x ≡ y → IsIn z xs → IsIn z (y ∷ ys) → IsIn z ys
in-rest x y z xs ys one same there (inl first) =
    absurd (both_ways (comes_before x x) (path-itself x) (subst (λ (its : List Elem). comes_before x its ≡ true) (first ∙ sym same) (comes-first x xs one z there)))
in-rest x y z xs ys one same there (inr later) = later

pub one-list : (xs ys : List (List Elem)) → Ascend xs → Ascend ys → ((z : List Elem) → IsIn z xs → IsIn z ys) → ((z : List Elem) → IsIn z ys → IsIn z xs) → xs ≡ ys
one-list [] [] one other forth back = refl
one-list [] (y ∷ ys) one other forth back = absurd (back y (inl refl))
one-list (x ∷ xs) [] one other forth back = absurd (forth x (inl refl))
one-list (x ∷ xs) (y ∷ ys) one other forth back =
    let same = same-first x y xs ys one other (forth x (inl refl)) (back y (inl refl)) in
    let rest = one-list xs ys (rest-ascends x xs one) (rest-ascends y ys other) (λ z there. in-rest x y z xs ys one same there (forth z (inr there)))
    (λ z there. in-rest y x z ys xs other (sym same) there (back z (inr there))) in
    λ i. same i ∷ rest i
  where
    rest-ascends : (first : List Elem) (paths : List (List Elem)) → Ascend (first ∷ paths) → Ascend paths
    rest-ascends first [] ascend = tt
    rest-ascends first (next ∷ paths) ascend = ascend.1
