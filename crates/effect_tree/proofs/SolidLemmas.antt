-- The solid prefixes of paths whose sets meet, and of a path inside another.
use Rattle.std.proofs.Common.{◌≡◌, ℕ, true, false, Bool, cond, List, [], ◌∷◌, length, take, sym, ap, subst, ◌∙◌, ◌⊎◌, inl, inr, ⊎_elim, eqb-true}
use Rattle.std.specs.Prelude.{take_while}
use Rattle.std.specs.List.{list_all}
use Rattle.std.proofs.lemmas.Bool.{false≢true, and_parts, cases_Bool}
use Rattle.std.proofs.lemmas.Bool.Decides.{Decides-int_eq}
use Rattle.std.proofs.lemmas.List.Sums.{take_while-cons}
use Rattle.region_paths.specs.declared.elements.Elem.{Elem}
use Rattle.region_paths.specs.declared.elements.Elem.TheVariants.{Name, Index, Var, AnyIndex}
use Rattle.region_paths.specs.Written.{WrittenPath}
use Rattle.region_paths.specs.Concrete.{ConcreteElem, ConcretePath, region, number, elem_stands, each_stands, stands, InSet}
use Rattle.region_paths.specs.Filled.{is_solid, solid_prefix}
use Rattle.region_paths.specs.Inside.{within, starts_within, inside}
use Rattle.prefix_tree.specs.Prefix.{IsPrefix}
use Rattle.effect_tree.specs.Place.{IsSolid}

-- the elements stand against the first of the concrete path
abbrev pub Stands : List Elem → ConcretePath → Type 0
Stands [] c = Unit {0}
Stands (e ∷ es) [] = ⊥
Stands (e ∷ es) (c ∷ cs) = (elem_stands e c ≡ true) × Stands es cs

Stands-each : (es : List Elem) (c : ConcretePath) → each_stands es c ≡ true → Stands es c
Stands-each [] c s = tt
Stands-each (e ∷ es) [] s = absurd (false≢true s)
Stands-each (e ∷ es) (c ∷ cs) s = let parts = and_parts _ _ s in (parts.0, Stands-each es cs parts.1)

Stands-take : (es : List Elem) (c : ConcretePath) → each_stands es (take (length es) c) ≡ true → Stands es c
Stands-take [] c s = tt
Stands-take (e ∷ es) [] s = absurd (false≢true s)
Stands-take (e ∷ es) (c ∷ cs) s = let parts = and_parts _ _ s in (parts.0, Stands-take es cs parts.1)

stands_by_star : (b : Bool) (es tail : List Elem) (c : ConcretePath) → stands (record { elems = es; star = b; tail = tail }) c ≡ true → Stands es c
stands_by_star false es tail c s = Stands-each es c s
stands_by_star true es tail c s = Stands-take es c (and_parts _ _ (and_parts _ _ s).1).0

-- a concrete path of the set begins as the elements before the star say
pub Stands-set : (p : WrittenPath) (c : ConcretePath) → InSet p c → Stands p.elems c
Stands-set p c s = stands_by_star p.star p.elems p.tail c s

name_is : (n m k : ℕ) → elem_stands (Name n) (region k) ≡ true → elem_stands (Name m) (region k) ≡ true → Name n ≡ Name m
name_is n m k s t = ap Name (eqb-true n k s ∙ sym (eqb-true m k t))

-- two solid elements that stand against one concrete element are one
pub same_solid : (e f : Elem) (c : ConcreteElem) → is_solid e ≡ true → is_solid f ≡ true → elem_stands e c ≡ true → elem_stands f c ≡ true → e ≡ f
same_solid (Name n) (Name m) (region k) h l s t = name_is n m k s t
same_solid (Name n) (Name m) (number z) h l s t = absurd (false≢true s)
same_solid (Name n) (Index j) (region k) h l s t = absurd (false≢true t)
same_solid (Name n) (Index j) (number z) h l s t = absurd (false≢true s)
same_solid (Index i) (Name m) (region k) h l s t = absurd (false≢true s)
same_solid (Index i) (Name m) (number z) h l s t = absurd (false≢true t)
same_solid (Index i) (Index j) (region k) h l s t = absurd (false≢true s)
same_solid (Index i) (Index j) (number z) h l s t = ap Index ((Decides-int_eq i z).0 s ∙ sym ((Decides-int_eq j z).0 t))
same_solid (Var k) f c h l s t = absurd (false≢true h)
same_solid AnyIndex f c h l s t = absurd (false≢true h)
same_solid (Name n) (Var k) c h l s t = absurd (false≢true l)
same_solid (Name n) AnyIndex c h l s t = absurd (false≢true l)
same_solid (Index i) (Var k) c h l s t = absurd (false≢true l)
same_solid (Index i) AnyIndex c h l s t = absurd (false≢true l)

pub take_while-solid : (e : Elem) (es : List Elem) → is_solid e ≡ true → take_while is_solid (e ∷ es) ≡ e ∷ take_while is_solid es
take_while-solid e es h = take_while-cons is_solid e es ∙ ap (λ b. cond b (e ∷ take_while is_solid es) []) h

pub take_while-other : (e : Elem) (es : List Elem) → is_solid e ≡ false → take_while is_solid (e ∷ es) ≡ []
take_while-other e es h = take_while-cons is_solid e es ∙ ap (λ b. cond b (e ∷ take_while is_solid es) []) h

-- one of two paths is a prefix of the other
abbrev pub AreAboveOneAnother : List Elem → List Elem → Type 0
AreAboveOneAnother a b = IsPrefix a b ⊎ IsPrefix b a

-- the solid fronts of two lists that stand against one concrete path
fronts_meet : (xs ys : List Elem) (c : ConcretePath) → Stands xs c → Stands ys c → AreAboveOneAnother (take_while is_solid xs) (take_while is_solid ys)
fronts_meet [] ys c s t = inl tt
fronts_meet (e ∷ es) [] c s t = inr tt
fronts_meet (e ∷ es) (f ∷ fs) [] s t = absurd s
fronts_meet (e ∷ es) (f ∷ fs) (c ∷ cs) s t =
    ⊎_elim
    (λ (h : is_solid e ≡ true).
    ⊎_elim
    (λ (l : is_solid f ≡ true).
    let same = same_solid e f c h l s.0 t.0 in
    subst (λ (a : List Elem). AreAboveOneAnother a (take_while is_solid (f ∷ fs))) (sym (take_while-solid e es h))
    (subst (λ (b : List Elem). AreAboveOneAnother (e ∷ take_while is_solid es) b) (sym (take_while-solid f fs l))
    (⊎_elim (λ k. inl (same, k)) (λ k. inr (sym same, k)) (fronts_meet es fs cs s.1 t.1))))
    (λ (l : is_solid f ≡ false).
    subst (λ (b : List Elem). AreAboveOneAnother (take_while is_solid (e ∷ es)) b) (sym (take_while-other f fs l)) (inr tt))
    (cases_Bool (is_solid f)))
    (λ (h : is_solid e ≡ false).
    subst (λ (a : List Elem). AreAboveOneAnother a (take_while is_solid (f ∷ fs))) (sym (take_while-other e es h)) (inl tt))
    (cases_Bool (is_solid e))

-- the solid front of a list that stands against what a solid list stands against exactly is a prefix of that one
front_of_solid : (xs ys : List Elem) (c : ConcretePath) → list_all is_solid xs ≡ true → each_stands xs c ≡ true → Stands ys c → IsPrefix (take_while is_solid ys) (take_while is_solid xs)
front_of_solid xs [] c all s t = tt
front_of_solid xs (f ∷ fs) [] all s t = absurd t
front_of_solid [] (f ∷ fs) (c ∷ cs) all s t = absurd (false≢true s)
front_of_solid (e ∷ es) (f ∷ fs) (c ∷ cs) all s t =
    let solids = and_parts _ _ all in
    let standing = and_parts _ _ s in
    ⊎_elim
    (λ (l : is_solid f ≡ true).
    subst (λ (a : List Elem). IsPrefix a (take_while is_solid (e ∷ es))) (sym (take_while-solid f fs l))
    (subst (λ (b : List Elem). IsPrefix (f ∷ take_while is_solid fs) b) (sym (take_while-solid e es solids.0))
    (same_solid f e c l solids.0 t.0 standing.0, front_of_solid es fs cs solids.1 standing.1 t.1)))
    (λ (l : is_solid f ≡ false).
    subst (λ (a : List Elem). IsPrefix a (take_while is_solid (e ∷ es))) (sym (take_while-other f fs l)) tt)
    (cases_Bool (is_solid f))

-- what lies within a solid element is that element
within_solid : (e f : Elem) → is_solid f ≡ true → within e f ≡ true → f ≡ e
within_solid (Name n) (Name m) l w = ap Name (sym (eqb-true n m w))
within_solid (Index i) (Index j) l w = ap Index (sym ((Decides-int_eq i j).0 w))
within_solid (Name n) (Index j) l w = absurd (false≢true w)
within_solid (Index i) (Name m) l w = absurd (false≢true w)
within_solid (Var k) (Name m) l w = absurd (false≢true w)
within_solid (Var k) (Index j) l w = absurd (false≢true w)
within_solid AnyIndex (Name m) l w = absurd (false≢true w)
within_solid AnyIndex (Index j) l w = absurd (false≢true w)
within_solid e (Var k) l w = absurd (false≢true l)
within_solid e AnyIndex l w = absurd (false≢true l)

-- the solid front of a list within which another starts
front_of_outer : (xs ys : List Elem) → starts_within xs ys ≡ true → IsPrefix (take_while is_solid ys) (take_while is_solid xs)
front_of_outer xs [] h = tt
front_of_outer [] (f ∷ fs) h = absurd (false≢true h)
front_of_outer (e ∷ es) (f ∷ fs) h =
    let parts = and_parts _ _ h in
    ⊎_elim
    (λ (l : is_solid f ≡ true).
    let same = within_solid e f l parts.0 in
    subst (λ (a : List Elem). IsPrefix a (take_while is_solid (e ∷ es))) (sym (take_while-solid f fs l))
    (subst (λ (b : List Elem). IsPrefix (f ∷ take_while is_solid fs) b)
    (sym (take_while-solid e es (subst (λ (g : Elem). is_solid g ≡ true) same l)))
    (same, front_of_outer es fs parts.1)))
    (λ (l : is_solid f ≡ false).
    subst (λ (a : List Elem). IsPrefix a (take_while is_solid (e ∷ es))) (sym (take_while-other f fs l)) tt)
    (cases_Bool (is_solid f))

inside_starts : (p q : Bool) (xs ys pt qt : List Elem) → inside (record { elems = xs; star = p; tail = pt }) (record { elems = ys; star = q; tail = qt }) ≡ true → starts_within xs ys ≡ true
inside_starts false false xs ys pt qt h = (and_parts _ _ h).1
inside_starts true false xs ys pt qt h = absurd (false≢true h)
inside_starts false true xs ys pt qt h = (and_parts _ _ (and_parts _ _ h).1).0
inside_starts true true xs ys pt qt h = (and_parts _ _ h).0

-- If sets meet, one of the solid prefixes is a prefix of the other.
pub solid_prefixes_meet : (p q : WrittenPath) (c : ConcretePath) → InSet p c → InSet q c → AreAboveOneAnother (solid_prefix p) (solid_prefix q)
solid_prefixes_meet p q c s t = fronts_meet p.elems q.elems c (Stands-set p c s) (Stands-set q c t)

pub unstarred_stands : (b : Bool) (es tail : List Elem) (c : ConcretePath) → b ≡ false → stands (record { elems = es; star = b; tail = tail }) c ≡ true → each_stands es c ≡ true
unstarred_stands false es tail c h s = s
unstarred_stands true es tail c h s = absurd (false≢true (sym h))

-- What meets a solid path has a prefix of it as its solid prefix.
pub solid_prefix_meets_solid : (p q : WrittenPath) (c : ConcretePath) → IsSolid p → InSet p c → InSet q c → IsPrefix (solid_prefix q) (solid_prefix p)
solid_prefix_meets_solid p q c solid s t =
    front_of_solid p.elems q.elems c solid.elems (unstarred_stands p.star p.elems p.tail c solid.unstarred s) (Stands-set q c t)

-- The solid prefix of a path begins with that of each path in which it lies.
pub solid_prefix_inside : (p q : WrittenPath) → inside p q ≡ true → IsPrefix (solid_prefix q) (solid_prefix p)
solid_prefix_inside p q h = front_of_outer p.elems q.elems (inside_starts p.star q.star p.elems q.elems p.tail q.tail h)
