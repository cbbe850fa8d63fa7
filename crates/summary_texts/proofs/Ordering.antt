-- The order of paths is a strict total order.
use Rattle.std.proofs.Common.{◌≡◌, ◌⊎◌, ◌≤◌, ℕ, ℤ, pos, negsuc, Bool, true, false, not, List, [], ◌∷◌, inl, inr, refl, ap, sym, subst, arith}
use Rattle.std.specs.Prelude.{nat_lt, int_lt, ◌&&◌, ◌||◌}
use Rattle.std.proofs.lemmas.Bool.{false≢true, both_ways, cases_Bool, cases_order, or_cases, or_from, or_left, or_right, and_from, and_left, and_right, and_parts, ltb-true, lt-ltb, le-ltb}
use Rattle.region_paths.specs.declared.elements.Elem.{Elem}
use Rattle.region_paths.specs.declared.elements.Elem.TheVariants.{Name, Index, Var, AnyIndex}
use Rattle.twe_base.proofs.Members.{not-true}
use Rattle.summary_texts.specs.Order.{element_before, order_kind_of, comes_before}

-- of two things at most one comes before the other
one-number : (n m : ℕ) → nat_lt n m ≡ true → nat_lt m n ≡ false
one-number n m h = le-ltb m n (omega (arith, ltb-true n m h))

one-literal : (i j : ℤ) → int_lt i j ≡ true → int_lt j i ≡ false
one-literal (pos a) (pos b) h = one-number a b h
one-literal (pos a) (negsuc b) h = absurd (false≢true h)
one-literal (negsuc a) (pos b) h = refl
one-literal (negsuc a) (negsuc b) h = one-number b a h

one-element : (e f : Elem) → element_before e f ≡ true → element_before f e ≡ false
one-element (Name n) (Name m) h = one-number n m h
one-element (Name n) (Index j) h = refl
one-element (Name n) (Var l) h = refl
one-element (Name n) AnyIndex h = refl
one-element (Index i) (Name m) h = absurd (false≢true h)
one-element (Index i) (Index j) h = one-literal i j h
one-element (Index i) (Var l) h = refl
one-element (Index i) AnyIndex h = refl
one-element (Var k) (Name m) h = absurd (false≢true h)
one-element (Var k) (Index j) h = absurd (false≢true h)
one-element (Var k) (Var l) h = one-number k l h
one-element (Var k) AnyIndex h = refl
one-element AnyIndex (Name m) h = absurd (false≢true h)
one-element AnyIndex (Index j) h = absurd (false≢true h)
one-element AnyIndex (Var l) h = absurd (false≢true h)
one-element AnyIndex AnyIndex h = absurd (false≢true h)

pub one-path : (es fs : List Elem) → comes_before es fs ≡ true → comes_before fs es ≡ false
one-path [] [] h = absurd (false≢true h)
one-path [] (f ∷ fs) h = refl
one-path (e ∷ es) [] h = absurd (false≢true h)
one-path (e ∷ es) (f ∷ fs) h = elim (or_cases (element_before e f) (not (element_before f e) && comes_before es fs) h) [
  | inl before ↦
      or_from (element_before f e) (not (element_before e f) && comes_before fs es) (one-element e f before)
      (and_left (not (element_before e f)) (comes_before fs es) (ap not before))
  | inr later ↦
      let parts = and_parts (not (element_before f e)) (comes_before es fs) later in
      or_from (element_before f e) (not (element_before e f) && comes_before fs es) (not-true (element_before f e) parts.0)
      (and_right (not (element_before e f)) (comes_before fs es) (one-path es fs parts.1))
]

-- nothing comes before itself
itself : (e : Elem) → element_before e e ≡ false
itself e = elim (cases_Bool (element_before e e)) [ inl before ↦ one-element e e before | inr not_before ↦ not_before ]

pub path-itself : (es : List Elem) → comes_before es es ≡ false
path-itself es = elim (cases_Bool (comes_before es es)) [ inl before ↦ one-path es es before | inr not_before ↦ not_before ]

-- one of two things comes before the other, or they are equal
abbrev pub Compared : {X : Type 0} → (X → X → Bool) → X → X → Type 0
Compared before x y = (before x y ≡ true) ⊎ ((x ≡ y) ⊎ (before y x ≡ true))

compared-as : {X Y : Type 0} (before : X → X → Bool) (comes : Y → Y → Bool) (f : X → Y) → ((x y : X) → comes (f x) (f y) ≡ before x y) → (x y : X) → Compared before x y → Compared comes (f x) (f y)
compared-as before comes f same x y (inl less) = inl (subst (λ b. b ≡ true) (sym (same x y)) less)
compared-as before comes f same x y (inr (inl e)) = inr (inl (ap f e))
compared-as before comes f same x y (inr (inr more)) = inr (inr (subst (λ b. b ≡ true) (sym (same y x)) more))

numbers-compared : (n m : ℕ) → Compared nat_lt n m
numbers-compared n m = elim (cases_order n m) [
  | inl e ↦ inr (inl e)
  | inr (inl less) ↦ inl (lt-ltb n m less)
  | inr (inr more) ↦ inr (inr (lt-ltb m n more))
]

literals-compared : (i j : ℤ) → Compared int_lt i j
literals-compared (pos a) (pos b) = compared-as nat_lt int_lt pos (λ x y. refl) a b (numbers-compared a b)
literals-compared (pos a) (negsuc b) = inr (inr refl)
literals-compared (negsuc a) (pos b) = inl refl
literals-compared (negsuc a) (negsuc b) = elim (numbers-compared b a) [
  | inl less ↦ inl less
  | inr (inl e) ↦ inr (inl (ap negsuc (sym e)))
  | inr (inr more) ↦ inr (inr more)
]

elements-compared : (e f : Elem) → Compared element_before e f
elements-compared (Name n) (Name m) = compared-as nat_lt element_before Name (λ x y. refl) n m (numbers-compared n m)
elements-compared (Name n) (Index j) = inl refl
elements-compared (Name n) (Var l) = inl refl
elements-compared (Name n) AnyIndex = inl refl
elements-compared (Index i) (Name m) = inr (inr refl)
elements-compared (Index i) (Index j) = compared-as int_lt element_before Index (λ x y. refl) i j (literals-compared i j)
elements-compared (Index i) (Var l) = inl refl
elements-compared (Index i) AnyIndex = inl refl
elements-compared (Var k) (Name m) = inr (inr refl)
elements-compared (Var k) (Index j) = inr (inr refl)
elements-compared (Var k) (Var l) = compared-as nat_lt element_before Var (λ x y. refl) k l (numbers-compared k l)
elements-compared (Var k) AnyIndex = inl refl
elements-compared AnyIndex (Name m) = inr (inr refl)
elements-compared AnyIndex (Index j) = inr (inr refl)
elements-compared AnyIndex (Var l) = inr (inr refl)
elements-compared AnyIndex AnyIndex = inr (inl refl)

later : (e f : Elem) (es fs : List Elem) → element_before f e ≡ false → comes_before es fs ≡ true → comes_before (e ∷ es) (f ∷ fs) ≡ true
later e f es fs none rest =
    or_right (element_before e f) (not (element_before f e) && comes_before es fs) (and_from (not (element_before f e)) (comes_before es fs) (ap not none) rest)

sooner : (e f : Elem) (es fs : List Elem) → element_before e f ≡ true → comes_before (e ∷ es) (f ∷ fs) ≡ true
sooner e f es fs before = or_left (element_before e f) (not (element_before f e) && comes_before es fs) before

pub paths-compared : (es fs : List Elem) → Compared comes_before es fs
paths-compared [] [] = inr (inl refl)
paths-compared [] (f ∷ fs) = inl refl
paths-compared (e ∷ es) [] = inr (inr refl)
paths-compared (e ∷ es) (f ∷ fs) = elim (elements-compared e f) [
  | inl before ↦ inl (sooner e f es fs before)
  | inr (inr after) ↦ inr (inr (sooner f e fs es after))
  | inr (inl same) ↦ elim (paths-compared es fs) [
    | inl before ↦ inl (later e f es fs (subst (λ (g : Elem). element_before g e ≡ false) same (itself e)) before)
    | inr (inl rest) ↦ inr (inl (λ i. same i ∷ rest i))
    | inr (inr after) ↦ inr (inr (later f e fs es (subst (λ (g : Elem). element_before e g ≡ false) same (itself e)) after))
  ]
]

-- what comes before something comes before all that it comes before
numbers-follow : (a b c : ℕ) → nat_lt a b ≡ true → nat_lt b c ≡ true → nat_lt a c ≡ true
numbers-follow a b c h k = lt-ltb a c (omega (arith, ltb-true a b h, ltb-true b c k))

literals-follow : (i j k : ℤ) → int_lt i j ≡ true → int_lt j k ≡ true → int_lt i k ≡ true
literals-follow (pos a) (pos b) (pos c) h k = numbers-follow a b c h k
literals-follow (pos a) (pos b) (negsuc c) h k = absurd (false≢true k)
literals-follow (pos a) (negsuc b) (pos c) h k = absurd (false≢true h)
literals-follow (pos a) (negsuc b) (negsuc c) h k = absurd (false≢true h)
literals-follow (negsuc a) (pos b) (pos c) h k = refl
literals-follow (negsuc a) (pos b) (negsuc c) h k = absurd (false≢true k)
literals-follow (negsuc a) (negsuc b) (pos c) h k = refl
literals-follow (negsuc a) (negsuc b) (negsuc c) h k = numbers-follow c b a k h

kinds-ascend : (e f : Elem) → element_before e f ≡ true → order_kind_of e ≤ order_kind_of f
kinds-ascend (Name n) (Name m) h = omega arith
kinds-ascend (Name n) (Index j) h = omega arith
kinds-ascend (Name n) (Var l) h = omega arith
kinds-ascend (Name n) AnyIndex h = omega arith
kinds-ascend (Index i) (Name m) h = absurd (false≢true h)
kinds-ascend (Index i) (Index j) h = omega arith
kinds-ascend (Index i) (Var l) h = omega arith
kinds-ascend (Index i) AnyIndex h = omega arith
kinds-ascend (Var k) (Name m) h = absurd (false≢true h)
kinds-ascend (Var k) (Index j) h = absurd (false≢true h)
kinds-ascend (Var k) (Var l) h = omega arith
kinds-ascend (Var k) AnyIndex h = omega arith
kinds-ascend AnyIndex f h = absurd (none-after f h)
  where
    none-after : (g : Elem) → element_before AnyIndex g ≡ true → ⊥
    none-after (Name m) before = false≢true before
    none-after (Index j) before = false≢true before
    none-after (Var l) before = false≢true before
    none-after AnyIndex before = false≢true before

elements-follow : (e f g : Elem) → element_before e f ≡ true → element_before f g ≡ true → element_before e g ≡ true
elements-follow (Name a) (Name b) (Name c) h k = numbers-follow a b c h k
elements-follow (Name a) (Index b) (Name c) h k = absurd (false≢true k)
elements-follow (Name a) (Var b) (Name c) h k = absurd (false≢true k)
elements-follow (Name a) AnyIndex (Name c) h k = absurd (false≢true k)
elements-follow (Name a) f (Index c) h k = refl
elements-follow (Name a) f (Var c) h k = refl
elements-follow (Name a) f AnyIndex h k = refl
elements-follow (Index a) f (Name c) h k = absurd (omega (arith, kinds-ascend (Index a) f h, kinds-ascend f (Name c) k))
elements-follow (Index a) (Name b) (Index c) h k = absurd (false≢true h)
elements-follow (Index a) (Index b) (Index c) h k = literals-follow a b c h k
elements-follow (Index a) (Var b) (Index c) h k = absurd (false≢true k)
elements-follow (Index a) AnyIndex (Index c) h k = absurd (false≢true k)
elements-follow (Index a) f (Var c) h k = refl
elements-follow (Index a) f AnyIndex h k = refl
elements-follow (Var a) f (Name c) h k = absurd (omega (arith, kinds-ascend (Var a) f h, kinds-ascend f (Name c) k))
elements-follow (Var a) f (Index c) h k = absurd (omega (arith, kinds-ascend (Var a) f h, kinds-ascend f (Index c) k))
elements-follow (Var a) (Name b) (Var c) h k = absurd (false≢true h)
elements-follow (Var a) (Index b) (Var c) h k = absurd (false≢true h)
elements-follow (Var a) (Var b) (Var c) h k = numbers-follow a b c h k
elements-follow (Var a) AnyIndex (Var c) h k = absurd (false≢true k)
elements-follow (Var a) f AnyIndex h k = refl
elements-follow AnyIndex (Name b) g h k = absurd (false≢true h)
elements-follow AnyIndex (Index b) g h k = absurd (false≢true h)
elements-follow AnyIndex (Var b) g h k = absurd (false≢true h)
elements-follow AnyIndex AnyIndex g h k = absurd (false≢true h)

-- the first elements decide, or they are equal
firsts : (e f : Elem) (es fs : List Elem) → comes_before (e ∷ es) (f ∷ fs) ≡ true → (element_before e f ≡ true) ⊎ ((e ≡ f) × (comes_before es fs ≡ true))
firsts e f es fs h = elim (or_cases (element_before e f) (not (element_before f e) && comes_before es fs) h) [
  | inl before ↦ inl before
  | inr rest ↦
      let parts = and_parts (not (element_before f e)) (comes_before es fs) rest in
      elim (elements-compared e f) [
        | inl before ↦ inl before
        | inr (inl same) ↦ inr (same, parts.1)
        | inr (inr after) ↦ absurd (both_ways (element_before f e) (not-true (element_before f e) parts.0) after)
      ]
]

pub paths-follow : (es fs gs : List Elem) → comes_before es fs ≡ true → comes_before fs gs ≡ true → comes_before es gs ≡ true
paths-follow [] [] gs h k = absurd (false≢true h)
paths-follow [] (f ∷ fs) [] h k = absurd (false≢true k)
paths-follow [] (f ∷ fs) (g ∷ gs) h k = refl
paths-follow (e ∷ es) [] gs h k = absurd (false≢true h)
paths-follow (e ∷ es) (f ∷ fs) [] h k = absurd (false≢true k)
paths-follow (e ∷ es) (f ∷ fs) (g ∷ gs) h k = elim (firsts e f es fs h) [
  | inl before ↦ elim (firsts f g fs gs k) [
    | inl again ↦ sooner e g es gs (elements-follow e f g before again)
    | inr same ↦ sooner e g es gs (subst (λ (x : Elem). element_before e x ≡ true) same.0 before)
  ]
  | inr same ↦ elim (firsts f g fs gs k) [
    | inl before ↦ sooner e g es gs (subst (λ (x : Elem). element_before x g ≡ true) (sym same.0) before)
    | inr again ↦
        let this : element_before g e ≡ false = subst (λ (x : Elem). element_before x e ≡ false) again.0 (subst (λ (x : Elem). element_before x e ≡ false) same.0 (itself e)) in
        later e g es gs this (paths-follow es fs gs same.1 again.1)
  ]
]
