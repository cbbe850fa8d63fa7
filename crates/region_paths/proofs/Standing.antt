-- A list of elements against the front of a concrete path, and the set of a written path in these words.
use Rattle.std.proofs.Common.{◌≡◌, ◌≤◌, Bool, true, false, ◌&&◌, List, [], ◌∷◌, ◌++◌, length, take, reverse, refl, ap, arith}
use Rattle.std.proofs.lemmas.Grind.{reverse_onto}
use Rattle.std.proofs.lemmas.Bool.{and_parts, and_from, false≢true}
use Rattle.region_paths.specs.declared.elements.Elem.{Elem}
use Rattle.region_paths.specs.Concrete.{ConcretePath, elem_stands, each_stands}

-- the path is at least as long as the list, whose elements stand against its first ones
abbrev pub front_stands : List Elem → ConcretePath → Bool
front_stands [] cs = true
front_stands (e ∷ es) [] = false
front_stands (e ∷ es) (c ∷ cs) = elem_stands e c && front_stands es cs

pub each_stands-take : (es : List Elem) (cs : ConcretePath) → each_stands es (take (length es) cs) ≡ front_stands es cs
each_stands-take [] cs = refl
each_stands-take (e ∷ es) [] = refl
each_stands-take (e ∷ es) (c ∷ cs) = ap (λ b. elem_stands e c && b) (each_stands-take es cs)

pub front_stands-length : (es : List Elem) (cs : ConcretePath) → front_stands es cs ≡ true → length es ≤ length cs
front_stands-length [] cs h = omega arith
front_stands-length (e ∷ es) [] h = absurd (false≢true h)
front_stands-length (e ∷ es) (c ∷ cs) h = omega (arith, front_stands-length es cs (and_parts _ _ h).1)

pub front_stands-append : (es : List Elem) (cs ds : ConcretePath) → front_stands es cs ≡ true → front_stands es (cs ++ ds) ≡ true
front_stands-append [] cs ds h = refl
front_stands-append (e ∷ es) [] ds h = absurd (false≢true h)
front_stands-append (e ∷ es) (c ∷ cs) ds h =
    let parts = and_parts _ _ h in
    and_from _ _ parts.0 (front_stands-append es cs ds parts.1)

-- at the length of the list, what comes after makes no difference
pub front_stands-each : (es : List Elem) (cs ds : ConcretePath) → length es ≡ length cs → front_stands es (cs ++ ds) ≡ each_stands es cs
front_stands-each [] [] ds h = refl
front_stands-each [] (c ∷ cs) ds h = absurd (omega arith)
front_stands-each (e ∷ es) [] ds h = absurd (omega arith)
front_stands-each (e ∷ es) (c ∷ cs) ds h = ap (λ b. elem_stands e c && b) (front_stands-each es cs ds (omega arith))

pub each_stands-append : (es : List Elem) (cs : ConcretePath) (fs : List Elem) (ds : ConcretePath) → each_stands es cs ≡ true → each_stands fs ds ≡ true → each_stands (es ++ fs) (cs ++ ds) ≡ true
each_stands-append [] [] fs ds h k = k
each_stands-append [] (c ∷ cs) fs ds h k = absurd (false≢true h)
each_stands-append (e ∷ es) [] fs ds h k = absurd (false≢true h)
each_stands-append (e ∷ es) (c ∷ cs) fs ds h k =
    let parts = and_parts _ _ h in
    and_from _ _ parts.0 (each_stands-append es cs fs ds parts.1 k)

pub each_stands-length : (es : List Elem) (cs : ConcretePath) → each_stands es cs ≡ true → length es ≡ length cs
each_stands-length [] [] h = refl
each_stands-length [] (c ∷ cs) h = absurd (false≢true h)
each_stands-length (e ∷ es) [] h = absurd (false≢true h)
each_stands-length (e ∷ es) (c ∷ cs) h = omega (arith, each_stands-length es cs (and_parts _ _ h).1)

pub each_stands-reverse : (es : List Elem) (cs : ConcretePath) → each_stands es cs ≡ true → each_stands (reverse es) (reverse cs) ≡ true
each_stands-reverse [] [] h = refl
each_stands-reverse [] (c ∷ cs) h = absurd (false≢true h)
each_stands-reverse (e ∷ es) [] h = absurd (false≢true h)
each_stands-reverse (e ∷ es) (c ∷ cs) h =
    let parts = and_parts _ _ h in
    rw (reverse_onto es e [], reverse_onto cs c [])
    (each_stands-append (reverse es) (reverse cs) (e ∷ []) (c ∷ []) (each_stands-reverse es cs parts.1) (and_from _ _ parts.0 refl))
