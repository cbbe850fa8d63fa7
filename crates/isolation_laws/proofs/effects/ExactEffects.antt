-- The effect that allows exactly one access.
use Rattle.std.proofs.Common.{◌≡◌, true, false, [], ◌∷◌, map, refl, sym, ap, ap₂, eqb-true, eq-eqb}
use Rattle.std.proofs.lemmas.Bool.{and_from, and_parts}
use Rattle.std.proofs.lemmas.Bool.Decides.{Decides-int_eq}
use Rattle.region_paths.specs.declared.elements.Elem.{Elem}
use Rattle.region_paths.specs.declared.elements.Elem.TheVariants.{Name, Index}
use Rattle.region_paths.specs.Concrete.{ConcreteElem, ConcretePath, each_stands, elem_stands, number, region}
use Rattle.effect_sets.specs.declared.effects.Effect.{Effect}
use Rattle.effect_sets.specs.Access.{PathAccess, CoversAccess}

abbrev pub exactly : ConcreteElem → Elem
exactly (region n) = Name n
exactly (number z) = Index z

abbrev pub exact : PathAccess → Effect
exact a = record { write = a.write; path = record { elems = map exactly a.path; star = false; tail = [] } }

stands_itself : (c : ConcreteElem) → elem_stands (exactly c) c ≡ true
stands_itself (region n) = eq-eqb n n refl
stands_itself (number z) = (Decides-int_eq z z).1 refl

each_itself : (path : ConcretePath) → each_stands (map exactly path) path ≡ true
each_itself [] = refl
each_itself (c ∷ path) = and_from _ _ (stands_itself c) (each_itself path)

stands_only : (c d : ConcreteElem) → elem_stands (exactly c) d ≡ true → d ≡ c
stands_only (region n) (region m) h = ap region (sym (eqb-true n m h))
stands_only (region n) (number z) h = absurd (cc)
stands_only (number z) (region m) h = absurd (cc)
stands_only (number z) (number w) h = ap number (sym ((Decides-int_eq z w).0 h))

each_only : (path other : ConcretePath) → each_stands (map exactly path) other ≡ true → other ≡ path
each_only [] [] h = refl
each_only [] (d ∷ other) h = absurd (cc)
each_only (c ∷ path) [] h = absurd (cc)
each_only (c ∷ path) (d ∷ other) h =
    let parts = and_parts _ _ h in
    ap₂ (λ (x : ConcreteElem) (xs : ConcretePath). x ∷ xs) (stands_only c d parts.0) (each_only path other parts.1)

pub exact_covers : (a : PathAccess) → CoversAccess (exact a) a
exact_covers a = (λ w. w, each_itself a.path)

-- each access that it covers has the same path, and writes only if that access writes
pub exact_only : (a b : PathAccess) → CoversAccess (exact a) b → b.path ≡ a.path
exact_only a b covered = each_only a.path b.path covered.1
