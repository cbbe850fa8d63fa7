-- Walks along the solid elements at the front of a path.
use Rattle.std.proofs.Common.{◌≡◌, ℕ, ◌+◌, ◌<◌, ◌≤◌, true, false, List, [], ◌∷◌, ◌++◌, length, get_or, drop, drop-cons, add-one, Some, None, refl, sym, ap, ◌∙◌, append_assoc, arith}
use Rattle.std.specs.Prelude.{take_while}
use Rattle.std.proofs.lemmas.List.{append-nil}
use Rattle.std.proofs.Math.ListN.{drop_of_length-le}
use Rattle.region_paths.specs.declared.elements.Elem.{Elem}
use Rattle.region_paths.specs.declared.elements.Elem.TheVariants.{Name, Index, Var, AnyIndex}
use Rattle.region_paths.specs.Filled.{is_solid}
use Rattle.prefix_tree.specs.declared.part.Part.{Part}
use Rattle.prefix_tree.specs.declared.part.Part.TheVariants as part
use Rattle.effect_tree.specs.inner.Parts.{part_of, elem_of}
use Rattle.effect_tree.proofs.SolidLemmas.{take_while-solid, take_while-other}

-- a part is its element
pub part_elem : (e : Elem) (p : Part) → part_of e ≡ Some p → elem_of p ≡ e
part_elem (Name n) (part.Name m) h = cc
part_elem (Name n) (part.Index i) h = cc
part_elem (Index i) (part.Name n) h = cc
part_elem (Index i) (part.Index j) h = cc
part_elem (Var k) p h = cc
part_elem AnyIndex p h = cc

pub part_solid : (e : Elem) (p : Part) → part_of e ≡ Some p → is_solid e ≡ true
part_solid (Name n) p h = refl
part_solid (Index i) p h = refl
part_solid (Var k) p h = cc
part_solid AnyIndex p h = cc

pub no_part : (e : Elem) → part_of e ≡ None → is_solid e ≡ false
no_part (Name n) h = cc
no_part (Index i) h = cc
no_part (Var k) h = refl
no_part AnyIndex h = refl

drop_at : (elems : List Elem) (k : ℕ) → k < length elems → drop k elems ≡ get_or elems k (Name 0) ∷ drop (k + 1) elems
drop_at elems k h = rw (add-one, drop-cons elems k (Name 0))

-- the walk ends at an element that isn't solid
pub front_stops : (path elems : List Elem) (k : ℕ) → k < length elems → path ++ take_while is_solid (drop k elems) ≡ take_while is_solid elems → part_of (get_or elems k (Name 0)) ≡ None → path ≡ take_while is_solid elems
front_stops path elems k there front stop =
    let rest = ap (take_while is_solid) (drop_at elems k there) ∙ take_while-other (get_or elems k (Name 0)) (drop (k + 1) elems) (no_part _ stop) in
    sym (append-nil path) ∙ sym (ap (λ (xs : List Elem). path ++ xs) rest) ∙ front

-- the walk comes to a solid element
pub front_next : (path elems : List Elem) (k : ℕ) (p : Part) → k < length elems → path ++ take_while is_solid (drop k elems) ≡ take_while is_solid elems → part_of (get_or elems k (Name 0)) ≡ Some p → path ++ elem_of p ∷ take_while is_solid (drop (k + 1) elems) ≡ take_while is_solid elems
front_next path elems k p there front part =
    let e = get_or elems k (Name 0) in
    let rest = take_while is_solid (drop (k + 1) elems) in
    let next = ap (take_while is_solid) (drop_at elems k there) ∙ take_while-solid e (drop (k + 1) elems) (part_solid e p part) in
    ap (λ (f : Elem). path ++ f ∷ rest) (part_elem e p part)
    ∙ ap (λ (xs : List Elem). path ++ xs) (sym next)
    ∙ front

-- and goes on by it
pub front_goes : (path elems : List Elem) (k : ℕ) (p : Part) → k < length elems → path ++ take_while is_solid (drop k elems) ≡ take_while is_solid elems → part_of (get_or elems k (Name 0)) ≡ Some p → (path ++ elem_of p ∷ []) ++ take_while is_solid (drop (k + 1) elems) ≡ take_while is_solid elems
front_goes path elems k p there front part =
    append_assoc path (elem_of p ∷ []) (take_while is_solid (drop (k + 1) elems)) ∙ front_next path elems k p there front part

-- the walk along all elements
pub front_ends : (path elems : List Elem) (k : ℕ) → length elems ≡ k → path ++ take_while is_solid (drop k elems) ≡ take_while is_solid elems → path ≡ take_while is_solid elems
front_ends path elems k all front =
    let none = ap (take_while is_solid) (let past : length elems ≤ k = omega arith in drop_of_length-le elems past) in
    sym (append-nil path) ∙ sym (ap (λ (xs : List Elem). path ++ xs) none) ∙ front
