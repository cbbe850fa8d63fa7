-- Filling with whole numbers, against valuations and against the arguments as they are written.
use Rattle.std.proofs.Common.{◌≡◌, ℕ, ℤ, ◌<◌, Bool, true, false, IsTrue, List, [], ◌∷◌, Some, map, length, reverse, get_or, slice_get, refl, sym, ap, ap₂, ◌∙◌, subst, zero, suc, arith, ltb-true}
use Rattle.std.proofs.lemmas.Bool.{false≢true, and_parts, and_from}
use Rattle.std.proofs.lemmas.Bool.Decides.{Decides-int_eq}
use Rattle.std.proofs.lemmas.List.{length-map}
use Rattle.std.proofs.lemmas.Simd.{map-map}
use Rattle.region_paths.specs.declared.elements.Elem.{Elem}
use Rattle.region_paths.specs.declared.elements.Elem.TheVariants.{Name, Index, Var, AnyIndex}
use Rattle.region_paths.specs.Written.{WrittenPath}
use Rattle.region_paths.specs.Concrete.{ConcreteElem, region, number, ConcretePath, elem_stands}
use Rattle.region_paths.specs.Filled.{Valuation, under, elem_under, fill_elem, fill, vars_below, has_args}
use Rattle.region_paths.specs.Sets.{SetWithin}
use Rattle.region_paths.specs.Arguments.{literals, GivesValue, ArgumentsStand}
use Rattle.region_paths.proofs.Standing.{front_stands}
use Rattle.region_paths.proofs.Lists.{map-reverse}
use Rattle.region_paths.proofs.Ends.{around_from, around_to, along_from, along_to}
use Rattle.region_paths.proofs.Soundness.{written}

-- an argument that is a number is the value of its variable
get_or-literals : (numbers : List ℤ) (k : ℕ) (z : ℤ) (d : Elem) → slice_get numbers k ≡ Some z → get_or (literals numbers) k d ≡ Index z
get_or-literals [] k z d h = cc
get_or-literals (y ∷ ys) zero z d h = cc
get_or-literals (y ∷ ys) (suc k) z d h = get_or-literals ys k z d h

length-literals : (numbers : List ℤ) → length (literals numbers) ≡ length numbers
length-literals numbers = length-map numbers (λ z. Index z)

map-fill_elem : (v : Valuation) (numbers : List ℤ) (es : List Elem) → GivesValue v numbers → vars_below (length (literals numbers)) es ≡ true → map (fill_elem (literals numbers)) es ≡ map (elem_under v) es
map-fill_elem v numbers [] gives below = refl
map-fill_elem v numbers (Name n ∷ es) gives below = ap (λ (ys : List Elem). Name n ∷ ys) (map-fill_elem v numbers es gives below)
map-fill_elem v numbers (Index i ∷ es) gives below = ap (λ (ys : List Elem). Index i ∷ ys) (map-fill_elem v numbers es gives below)
map-fill_elem v numbers (AnyIndex ∷ es) gives below = ap (λ (ys : List Elem). AnyIndex ∷ ys) (map-fill_elem v numbers es gives below)
map-fill_elem v numbers (Var k ∷ es) gives below =
    let parts = and_parts _ _ below in
    let there : k < length (literals numbers) = ltb-true _ _ parts.0 in
    let within : k < length numbers = omega (arith, length-literals numbers) in
    let pair : Elem → List Elem → List Elem = λ y ys. y ∷ ys in
    ap₂ pair (get_or-literals numbers k (v k) (Var k) (gives k within)) (map-fill_elem v numbers es gives parts.1)

-- filled with numbers, a path is what it is under a valuation that gives these numbers
pub fill-literals : (v : Valuation) (numbers : List ℤ) (p : WrittenPath) → GivesValue v numbers → IsTrue (has_args (literals numbers) p) → fill (literals numbers) p ≡ under v p
fill-literals v numbers p gives below =
    let parts = and_parts _ _ below in
    let made : List Elem → List Elem → WrittenPath = λ elems tail. record { elems = elems; star = p.star; tail = tail } in
    ap₂ made (map-fill_elem v numbers p.elems gives parts.0) (map-fill_elem v numbers p.tail gives parts.1)

-- what an element stands against as the first function gives it, it stands against as the second one does
pub record StandsMore (f g : Elem → Elem) : Type 0 where
  pub more : (e : Elem) (c : ConcreteElem) → elem_stands (f e) c ≡ true → elem_stands (g e) c ≡ true

front_stands-more : (f g : Elem → Elem) → StandsMore f g → (es : List Elem) (cs : ConcretePath) → front_stands (map f es) cs ≡ true → front_stands (map g es) cs ≡ true
front_stands-more f g m [] cs h = refl
front_stands-more f g m (e ∷ es) [] h = absurd (false≢true h)
front_stands-more f g m (e ∷ es) (c ∷ cs) h =
    let parts = and_parts _ _ h in
    and_from _ _ (m.more e c parts.0) (front_stands-more f g m es cs parts.1)

back_stands-more : (f g : Elem → Elem) → StandsMore f g → (es : List Elem) (cs : ConcretePath) → front_stands (reverse (map f es)) cs ≡ true → front_stands (reverse (map g es)) cs ≡ true
back_stands-more f g m es cs h =
    let before : front_stands (map f (reverse es)) cs ≡ true = ap (λ (ys : List Elem). front_stands ys cs) (sym (map-reverse f es)) ∙ h in
    ap (λ (ys : List Elem). front_stands ys cs) (map-reverse g es) ∙ front_stands-more f g m (reverse es) cs before

within-parts : (f g : Elem → Elem) → StandsMore f g → (es : List Elem) (star : Bool) (ts : List Elem) → SetWithin (written (map f es) star (map f ts)) (written (map g es) star (map g ts))
within-parts f g m es false ts c h =
    let along = along_from _ c h in
    along_to _ c (omega (arith, along.long, length-map es f, length-map es g)) (front_stands-more f g m es c along.front)
within-parts f g m es true ts c h =
    let around = around_from _ _ c h in
    around_to _ _ c (record {
      room = omega (arith, around.room, length-map es f, length-map es g, length-map ts f, length-map ts g);
      front = front_stands-more f g m es c around.front;
      back = back_stands-more f g m ts (reverse c) around.back;
    })

-- an argument that stands against a number stands against what the number stands against
argument-stands : (v : Valuation) (a : Elem) (z : ℤ) (c : ConcreteElem) → elem_stands (elem_under v a) (number z) ≡ true → elem_stands (Index z) c ≡ true → elem_stands (elem_under v a) c ≡ true
argument-stands v a z (region n) h s = absurd (false≢true s)
argument-stands v a z (number y) h s =
    let P : ℤ → Type 0 = λ x. elem_stands (elem_under v a) (number x) ≡ true in
    subst P ((Decides-int_eq z y).0 s) h

variable-stands : (v : Valuation) (args : List Elem) (numbers : List ℤ) (k j : ℕ) (c : ConcreteElem) → ArgumentsStand v args numbers → elem_stands (get_or (literals numbers) k (Var j)) c ≡ true → elem_stands (elem_under v (get_or args k (Var j))) c ≡ true
variable-stands v [] [] k j c h s = absurd (false≢true s)
variable-stands v [] (z ∷ zs) k j c h s = absurd (false≢true h)
variable-stands v (a ∷ args) [] k j c h s = absurd (false≢true h)
variable-stands v (a ∷ args) (z ∷ zs) zero j c h s = argument-stands v a z c (and_parts _ _ h).0 s
variable-stands v (a ∷ args) (z ∷ zs) (suc k) j c h s = variable-stands v args zs k j c (and_parts _ _ h).1 s

filled-stands : (v : Valuation) (args : List Elem) (numbers : List ℤ) → ArgumentsStand v args numbers → (e : Elem) (c : ConcreteElem) → elem_stands (fill_elem (literals numbers) e) c ≡ true → elem_stands (elem_under v (fill_elem args e)) c ≡ true
filled-stands v args numbers h (Name n) c s = s
filled-stands v args numbers h (Index i) c s = s
filled-stands v args numbers h AnyIndex c s = s
filled-stands v args numbers h (Var k) c s = variable-stands v args numbers k k c h s

-- what a path stands for as it is really filled, it stands for as its written arguments fill it
pub fill-within : (v : Valuation) (args : List Elem) (numbers : List ℤ) (p : WrittenPath) → ArgumentsStand v args numbers → SetWithin (fill (literals numbers) p) (under v (fill args p))
fill-within v args numbers p h =
    let g : Elem → Elem = λ e. elem_under v (fill_elem args e) in
    let made : List Elem → List Elem → WrittenPath = λ elems tail. record { elems = elems; star = p.star; tail = tail } in
    let same : made (map g p.elems) (map g p.tail) ≡ under v (fill args p) = ap₂ made (sym (map-map (elem_under v) (fill_elem args) p.elems)) (sym (map-map (elem_under v) (fill_elem args) p.tail)) in
    let Q : WrittenPath → Type 0 = λ r. SetWithin (fill (literals numbers) p) r in
    subst Q same (within-parts (fill_elem (literals numbers)) g (record { more = filled-stands v args numbers h }) p.elems p.star p.tail)
