-- Why nothing that has its place at or below a node that the effect does not reach interferes with it.
use Rattle.std.proofs.Common.{◌≡◌, ◌≢◌, ◌<◌, ◌+◌, ◌-◌, ℕ, zero, suc, true, false, List, [], ◌∷◌, ◌++◌, length, get_or, take, drop, Some, None, nat_cmp, Equal, refl, sym, ap, subst, ◌∙◌, ⊎_elim, arith}
use Rattle.std.specs.Prelude.{slice_get, take_while, Contains}
use Rattle.std.proofs.lemmas.Map.Lookups.{exact_unsigned}
use Rattle.std.proofs.lemmas.Bool.{and_parts, cases_Bool, false≢true}
use Rattle.region_paths.specs.declared.elements.Elem.{Elem}
use Rattle.region_paths.specs.Concrete.{ConcretePath, each_stands, elem_stands}
use Rattle.region_paths.specs.Filled.{is_solid, solid_prefix}
use Rattle.effect_sets.specs.declared.effects.Effect.{Effect}
use Rattle.prefix_tree.specs.Prefix.{IsPrefix}
use Rattle.prefix_tree.specs.Nodes.{path_of, IsParent}
use Rattle.prefix_tree.proofs.PrefixLemmas.{IsPrefix-trans}
use Rattle.effect_tree.proofs.SolidLemmas.{Stands, Stands-set, same_solid, take_while-other, take_while-solid, unstarred_stands}
use Rattle.floor_laws.specs.admission.admission_core.States.{IsAbove, IsApartBelow, IsPlaceOf}

-- if the solid front of a list begins with an element, the first of the list is solid
solid_first : (a : Elem) (rest : List Elem) (x : Elem) (xs : List Elem) → IsPrefix (a ∷ rest) (take_while is_solid (x ∷ xs)) → (is_solid x ≡ true) × IsPrefix (a ∷ rest) (x ∷ take_while is_solid xs)
solid_first a rest x xs h =
    ⊎_elim
    (λ (s : is_solid x ≡ true). (s, subst (λ (b : List Elem). IsPrefix (a ∷ rest) b) (take_while-solid x xs s) h))
    (λ (s : is_solid x ≡ false). absurd (subst (λ (b : List Elem). IsPrefix (a ∷ rest) b) (take_while-other x xs s) h))
    (cases_Bool (is_solid x))

-- Two lists stand against one concrete path. The solid front of the first goes on after a front by an element, and the other has
-- a solid one there: the two elements are one.
meets_next : (front : List Elem) (e f : Elem) (xs ys : List Elem) (c : ConcretePath) → IsPrefix (front ++ e ∷ []) (take_while is_solid xs) → slice_get ys (length front) ≡ Some f → is_solid f ≡ true → Stands xs c → Stands ys c → e ≡ f
meets_next [] e f [] ys c h at solid s t = absurd h
meets_next [] e f (x ∷ xs) [] c h at solid s t = absurd (let no = at in cc)
meets_next [] e f (x ∷ xs) (y ∷ ys) [] h at solid s t = absurd s
meets_next [] e f (x ∷ xs) (y ∷ ys) (c ∷ cs) h at solid s t =
    let first = solid_first e [] x xs h in
    let same : e ≡ x = first.1.0 in
    let other : y ≡ f = let is = at in cc in
    same_solid e f c (subst (λ (g : Elem). is_solid g ≡ true) (sym same) first.0) solid (subst (λ (g : Elem). elem_stands g c ≡ true) (sym same) s.0) (subst (λ (g : Elem). elem_stands g c ≡ true) other t.0)
meets_next (z ∷ zs) e f [] ys c h at solid s t = absurd h
meets_next (z ∷ zs) e f (x ∷ xs) [] c h at solid s t = absurd (let no = at in cc)
meets_next (z ∷ zs) e f (x ∷ xs) (y ∷ ys) [] h at solid s t = absurd s
meets_next (z ∷ zs) e f (x ∷ xs) (y ∷ ys) (c ∷ cs) h at solid s t =
    meets_next zs e f xs ys cs (solid_first z (zs ++ e ∷ []) x xs h).1.1 at solid s.1 t.1

-- A list stands against a concrete path, and its solid front goes on after a front by an element. A list that is no longer than the
-- front does not stand against the whole of it.
too_long : (front : List Elem) (e : Elem) (xs ys : List Elem) (c : ConcretePath) → IsPrefix (front ++ e ∷ []) (take_while is_solid xs) → slice_get ys (length front) ≡ None → Stands xs c → each_stands ys c ≡ true → ⊥
too_long [] e [] ys c h at s t = h
too_long [] e (x ∷ xs) [] [] h at s t = s
too_long [] e (x ∷ xs) [] (c ∷ cs) h at s t = false≢true t
too_long [] e (x ∷ xs) (y ∷ ys) c h at s t = absurd (let no = at in cc)
too_long (z ∷ zs) e [] ys c h at s t = h
too_long (z ∷ zs) e (x ∷ xs) [] [] h at s t = s
too_long (z ∷ zs) e (x ∷ xs) [] (c ∷ cs) h at s t = false≢true t
too_long (z ∷ zs) e (x ∷ xs) (y ∷ ys) [] h at s t = s
too_long (z ∷ zs) e (x ∷ xs) (y ∷ ys) (c ∷ cs) h at s t =
    too_long zs e xs ys cs (solid_first z (zs ++ e ∷ []) x xs h).1.1 at s.1 (and_parts _ _ t).1

module _ (nodes : List (List Elem)) (e : Effect) (n c : ℕ) (parent : IsParent nodes n c) where
  -- what is placed at or below the child begins with the child's path
  begins : (d : Effect) (m : ℕ) → IsPlaceOf nodes d m → IsAbove nodes c m → IsPrefix (path_of nodes n ++ parent.2.0 ∷ []) (take_while is_solid d.path.elems)
  begins d m at above =
      subst (λ (a : List Elem). IsPrefix a (solid_prefix d.path)) parent.2.1
      (IsPrefix-trans (path_of nodes c) (path_of nodes m) (solid_prefix d.path) above.prefix at.place.above)

  -- the effect goes on by another name or literal index
  pub other_apart : (f : Elem) → slice_get e.path.elems (length (path_of nodes n)) ≡ Some f → is_solid f ≡ true → parent.2.0 ≢ f → IsApartBelow nodes e c
  other_apart f next solid other d m at above i =
      other (meets_next (path_of nodes n) parent.2.0 f d.path.elems e.path.elems i.1.0 (begins d m at above) next solid (Stands-set d.path i.1.0 i.1.1) (Stands-set e.path i.1.0 i.1.2))

  -- the effect ends without a star
  pub ended_apart : slice_get e.path.elems (length (path_of nodes n)) ≡ None → e.path.star ≡ false → IsApartBelow nodes e c
  ended_apart none plain d m at above i =
      too_long (path_of nodes n) parent.2.0 d.path.elems e.path.elems i.1.0 (begins d m at above) none (Stands-set d.path i.1.0 i.1.1)
      (unstarred_stands e.path.star e.path.elems e.path.tail i.1.0 plain i.1.2)

-- the part of a list that has one element
part_of_one : (xs : List ℕ) (i : ℕ) → i < length xs → take 1 (drop i xs) ≡ get_or xs i 0 ∷ []
part_of_one [] i h = absurd (omega arith)
part_of_one (x ∷ xs) zero h = refl
part_of_one (x ∷ xs) (suc i) h = part_of_one xs i (omega arith)

-- the part of a list that has the one element that was found
pub found_part : (xs : List ℕ) (i x : ℕ) → i < length xs → nat_cmp (get_or xs i 0) x ≡ Equal → Contains (take (i + 1 - i) (drop i xs)) x
found_part xs i x within found =
    let size : i + 1 - i ≡ 1 = omega arith in
    let part : take (i + 1 - i) (drop i xs) ≡ x ∷ [] =
    ap (λ (n : ℕ). take n (drop i xs)) size ∙ (part_of_one xs i within ∙ ap (λ (y : ℕ). y ∷ []) (exact_unsigned (get_or xs i 0) x found)) in
    subst (λ (ys : List ℕ). Contains ys x) (sym part) (0, omega arith, refl)
