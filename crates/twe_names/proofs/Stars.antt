-- The elements before the first of some kind, and those from there on.
use Rattle.std.proofs.Common.{◌≡◌, ℕ, Bool, true, false, not, List, [], ◌∷◌, ◌||◌, length, take, drop, take_while, IsTrue, refl, ap, ◌∙◌, arith, cond, ◌+◌, ◌-◌, length-drop, one-add}
use Rattle.std.specs.List.{list_any, prefix_len}
use Rattle.std.proofs.lemmas.List.Folds.{length-prefix_len}
use Rattle.std.proofs.lemmas.List.{take_all}
use Rattle.region_paths.specs.declared.elements.Elem.{Elem}
use Rattle.twe_ast.specs.declared.path.PathElem.{PathElem}
use Rattle.name_check.specs.Limits.{is_star}
use Rattle.name_check.specs.declared.names.GlobalName.{GlobalName}
use Rattle.name_check.specs.declared.scope.LocalName.{LocalName}
use Rattle.twe_names.specs.PathMeaning.{before_star, elems_of}

-- so many from the front as are before the first are those before the first
pub take-before : {A : Type 0} (p : A → Bool) (xs : List A) → take (length (take_while p xs)) xs ≡ take_while p xs
take-before p xs = ap (λ n. take n xs) (length-prefix_len p xs)

none-left : {A : Type 0} (p : A → Bool) (xs : List A) → list_any p xs ≡ false → drop (prefix_len (λ x. not (p x)) xs) xs ≡ []
none-left p [] = λ h. refl
none-left p (x ∷ xs) =
    elim (p x) as (λ b. (b || list_any p xs) ≡ false → drop (cond (not b) (1 + prefix_len (λ y. not (p y)) xs) 0) (x ∷ xs) ≡ []) [
      | true ↦ λ h. absurd (cc)
      | false ↦ λ h. rw one-add (none-left p xs h)
    ]

-- where there is none, nothing is left
pub none-after : {A : Type 0} (p : A → Bool) (xs : List A) → list_any p xs ≡ false
    → drop (length (take_while (λ x. not (p x)) xs)) xs ≡ []
none-after p xs h = ap (λ n. drop n xs) (length-prefix_len (λ x. not (p x)) xs) ∙ none-left p xs h

-- where no element is a `*`, the tail has none
pub no_tail : (globals : List GlobalName) (params : List LocalName) (written : List PathElem) (before : ℕ) (star : Bool) (tail : List Elem)
    → tail ≡ elems_of globals params (take (length written - before) (drop before written)) → before ≡ length (before_star written)
    → star ≡ list_any is_star written → ¬ IsTrue star → tail ≡ []
no_tail globals params written before star tail tail-is before-is star-is h =
    let none : list_any is_star written ≡ false = grind (arith, h, star-is) in
    let rest : drop before written ≡ [] = ap (λ n. drop n written) before-is ∙ none-after is_star written none in
    let all : take (length written - before) (drop before written) ≡ [] =
    take_all (length written - before) (drop before written) (omega (arith, length-drop before written)) ∙ rest in
    tail-is ∙ ap (elems_of globals params) all
