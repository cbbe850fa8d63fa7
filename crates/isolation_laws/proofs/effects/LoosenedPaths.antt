-- A variable clashes neither with another variable nor with an index. So a test of clashes has the same result if each
-- variable is replaced by any index.
use Rattle.std.proofs.Common.{◌≡◌, ℕ, zero, suc, ◌+◌, Bool, true, false, not, ◌||◌, ◌==◌, List, [], ◌∷◌, length, map, reverse, slice_index_or, nat_lt, refl, sym, ap₂, ◌∙◌}
use Rattle.std.proofs.lemmas.List.{length-map}
use Rattle.region_paths.specs.declared.elements.Elem.{Elem}
use Rattle.region_paths.specs.declared.elements.Elem.TheVariants.{Name, Index, Var, AnyIndex}
use Rattle.region_paths.specs.Written.{WrittenPath}
use Rattle.region_paths.specs.Apart.{apart, apart_from_ends, clash, clash_from_end, clash_from_front}
use Rattle.region_paths.specs.Filled.{fill, fill_elem}
use Rattle.region_paths.proofs.Lists.{map-reverse}

-- each variable is replaced by any index
abbrev pub loose : Elem → Elem
loose (Name n) = Name n
loose (Index i) = Index i
loose (Var k) = AnyIndex
loose AnyIndex = AnyIndex

-- two elements are alike if they clash with the same elements
pub record Alike (x y : Elem) : Type 0 where
  pub left : (z : Elem) → clash x z ≡ clash y z
  pub right : (z : Elem) → clash z x ≡ clash z y

alike-same : (x : Elem) → Alike x x
alike-same x = record { left = λ z. refl; right = λ z. refl }

any-var_left : (k : ℕ) (z : Elem) → clash AnyIndex z ≡ clash (Var k) z
any-var_left k (Name n) = refl
any-var_left k (Index i) = refl
any-var_left k (Var l) = refl
any-var_left k AnyIndex = refl

any-var_right : (k : ℕ) (z : Elem) → clash z AnyIndex ≡ clash z (Var k)
any-var_right k (Name n) = refl
any-var_right k (Index i) = refl
any-var_right k (Var l) = refl
any-var_right k AnyIndex = refl

alike-loose : (x : Elem) → Alike (loose x) x
alike-loose (Name n) = alike-same (Name n)
alike-loose (Index i) = alike-same (Index i)
alike-loose (Var k) = record { left = any-var_left k; right = any-var_right k }
alike-loose AnyIndex = alike-same AnyIndex

alike-get : (args : List Elem) (k : ℕ) (other : Elem) → Alike (slice_index_or (map loose args) k other) (slice_index_or args k other)
alike-get [] k other = alike-same other
alike-get (x ∷ args) zero other = alike-loose x
alike-get (x ∷ args) (suc k) other = alike-get args k other

pub alike-fill : (args : List Elem) (x : Elem) → Alike (fill_elem (map loose args) x) (fill_elem args x)
alike-fill args (Name n) = alike-same (Name n)
alike-fill args (Index i) = alike-same (Index i)
alike-fill args (Var k) = alike-get args k (Var k)
alike-fill args AnyIndex = alike-same AnyIndex

-- two ways to fill elements, and two more that are alike to these
module _ (f g k l : Elem → Elem) (first : (x : Elem) → Alike (f x) (k x)) (second : (x : Elem) → Alike (g x) (l x)) where
  elements : (x y : Elem) → clash (f x) (g y) ≡ clash (k x) (l y)
  elements x y = (first x).left (g y) ∙ (second y).right (k x)

  front : (xs ys : List Elem) → clash_from_front (map f xs) (map g ys) ≡ clash_from_front (map k xs) (map l ys)
  front [] ys = refl
  front (x ∷ xs) [] = refl
  front (x ∷ xs) (y ∷ ys) = ap₂ (λ (a b : Bool). a || b) (elements x y) (front xs ys)

  back : (xs ys : List Elem) → clash_from_end (map f xs) (map g ys) ≡ clash_from_end (map k xs) (map l ys)
  back xs ys =
      ap₂ clash_from_front (map-reverse f xs) (map-reverse g ys)
      ∙ (front (reverse xs) (reverse ys) ∙ sym (ap₂ clash_from_front (map-reverse k xs) (map-reverse l ys)))

  long : (h : Elem → Elem) (xs : List Elem) → length (map h xs) ≡ length xs
  long h xs = length-map xs h

  ends : (xs elems tail : List Elem) → apart_from_ends (map f xs) (map g elems) (map g tail) ≡ apart_from_ends (map k xs) (map l elems) (map l tail)
  ends xs elems tail =
      ap₂ (λ (a b : Bool). a || b)
      (ap₂ nat_lt (long f xs ∙ sym (long k xs)) (ap₂ (λ (a b : ℕ). a + b) (long g elems ∙ sym (long l elems)) (long g tail ∙ sym (long l tail))))
      (ap₂ (λ (a b : Bool). a || b) (front xs elems) (back xs tail))

  same_length : (xs ys : List Elem) → (length (map f xs) == length (map g ys)) ≡ (length (map k xs) == length (map l ys))
  same_length xs ys = ap₂ (λ (a b : ℕ). a == b) (long f xs ∙ sym (long k xs)) (long g ys ∙ sym (long l ys))

abbrev written : List Elem → Bool → List Elem → WrittenPath
written elems star tail = record { elems = elems; star = star; tail = tail }

-- a path with each of its elements changed
abbrev pub changed : (Elem → Elem) → WrittenPath → WrittenPath
changed h p = written (map h p.elems) p.star (map h p.tail)

module _ (f g k l : Elem → Elem) (first : (x : Elem) → Alike (f x) (k x)) (second : (x : Elem) → Alike (g x) (l x)) where
  parts : (pe : List Elem) (ps : Bool) (pt qe : List Elem) (qs : Bool) (qt : List Elem)
      → apart (changed f (written pe ps pt)) (changed g (written qe qs qt)) ≡ apart (changed k (written pe ps pt)) (changed l (written qe qs qt))
  parts pe true pt qe true qt = ap₂ (λ (a b : Bool). a || b) (front f g k l first second pe qe) (back f g k l first second pt qt)
  parts pe true pt qe false qt = ends g f l k second first qe pe pt
  parts pe false pt qe true qt = ends f g k l first second pe qe qt
  parts pe false pt qe false qt =
      ap₂ (λ (a b : Bool). not a || b) (same_length f g k l first second pe qe) (front f g k l first second pe qe)

-- two paths that are filled with written arguments are apart if and only if they are apart with the arguments loosened
pub apart-loose : (xs ys : List Elem) (p q : WrittenPath) → apart (fill (map loose xs) p) (fill (map loose ys) q) ≡ apart (fill xs p) (fill ys q)
apart-loose xs ys p q =
    parts (fill_elem (map loose xs)) (fill_elem (map loose ys)) (fill_elem xs) (fill_elem ys) (alike-fill xs) (alike-fill ys) p.elems p.star p.tail q.elems q.star q.tail
