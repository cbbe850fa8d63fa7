-- The tests on lists of elements against the fronts of concrete paths.
use Rattle.std.proofs.Common.{◌≡◌, suc, ◌≤◌, max, true, false, List, [], ◌∷◌, ◌++◌, map, length, reverse, inl, inr, refl, sym, ap, ◌∙◌, arith}
use Rattle.std.proofs.lemmas.Grind.{reverse_onto}
use Rattle.std.proofs.lemmas.List.{map-append, length-map}
use Rattle.std.proofs.lemmas.Bool.{false≢true, and_parts, and_from, and_cases, and_left, or_parts, or_cases, and_right}
use Rattle.region_paths.specs.declared.elements.Elem.{Elem}
use Rattle.region_paths.specs.declared.elements.Elem.TheVariants.{Name, Index, Var, AnyIndex}
use Rattle.region_paths.specs.Concrete.{ConcretePath, elem_stands}
use Rattle.region_paths.specs.Inside.{within, starts_within}
use Rattle.region_paths.specs.Apart.{clash_from_front}
use Rattle.region_paths.specs.Filled.{Valuation, elem_under, no_var}
use Rattle.region_paths.proofs.Standing.{front_stands}
use Rattle.region_paths.proofs.ElementLaws.{is_var, within-stands, clash-stands, example, example-stands, stranger, stranger-stands, escape, escape-stands, escape-escapes, common, common-stands-first, common-stands-second}

pub map-reverse : {A B : Type 0} (f : A → B) (xs : List A) → reverse (map f xs) ≡ map f (reverse xs)
map-reverse f [] = refl
map-reverse {A} {B} f (x ∷ xs) =
    reverse_onto (map f xs) (f x) [] ∙ ap (λ (ys : List B). ys ++ f x ∷ []) (map-reverse f xs) ∙ sym (map-append f (reverse xs) (x ∷ [])) ∙ ap (map f) (sym (reverse_onto xs x []))

pub starts_within-stands : (v : Valuation) (xs ys : List Elem) (c : ConcretePath) → starts_within xs ys ≡ true → front_stands (map (elem_under v) xs) c ≡ true → front_stands (map (elem_under v) ys) c ≡ true
starts_within-stands v xs [] c h s = refl
starts_within-stands v [] (y ∷ ys) c h s = absurd (false≢true h)
starts_within-stands v (x ∷ xs) (y ∷ ys) [] h s = absurd (false≢true s)
starts_within-stands v (x ∷ xs) (y ∷ ys) (c ∷ cs) h s =
    let inner = and_parts _ _ h in
    let outer = and_parts _ _ s in
    and_from _ _ (within-stands v x y c inner.0 outer.0) (starts_within-stands v xs ys cs inner.1 outer.1)

pub starts_within-length : (xs ys : List Elem) → starts_within xs ys ≡ true → length ys ≤ length xs
starts_within-length xs [] h = omega arith
starts_within-length [] (y ∷ ys) h = absurd (false≢true h)
starts_within-length (x ∷ xs) (y ∷ ys) h = omega (arith, starts_within-length xs ys (and_parts _ _ h).1)

pub clash_from_front-stands : (v : Valuation) (xs ys : List Elem) (c : ConcretePath) → clash_from_front xs ys ≡ true → front_stands (map (elem_under v) xs) c ≡ true → front_stands (map (elem_under v) ys) c ≡ true → ⊥
clash_from_front-stands v [] ys c h s t = false≢true h
clash_from_front-stands v (x ∷ xs) [] c h s t = false≢true h
clash_from_front-stands v (x ∷ xs) (y ∷ ys) [] h s t = false≢true s
clash_from_front-stands v (x ∷ xs) (y ∷ ys) (c ∷ cs) h s t =
    let first = and_parts _ _ s in
    let second = and_parts _ _ t in
    elim (or_cases _ _ h) [
      | inl here ↦ clash-stands v x y c here first.0 second.0
      | inr later ↦ clash_from_front-stands v xs ys cs later first.1 second.1
    ]

-- no variable is in the list exactly where its first element is none, and none is in the others
pub no_var-parts : (e : Elem) (es : List Elem) → no_var (e ∷ es) ≡ true → (is_var e ≡ false) × (no_var es ≡ true)
no_var-parts (Name n) es h = (refl, h)
no_var-parts (Index i) es h = (refl, h)
no_var-parts (Var k) es h = absurd (false≢true h)
no_var-parts AnyIndex es h = (refl, h)

pub no_var-cons : (e : Elem) (es : List Elem) → is_var e ≡ false → no_var es ≡ true → no_var (e ∷ es) ≡ true
no_var-cons (Name n) es h k = k
no_var-cons (Index i) es h k = k
no_var-cons (Var n) es h k = sym h
no_var-cons AnyIndex es h k = k

pub no_var-append : (xs ys : List Elem) → no_var xs ≡ true → no_var ys ≡ true → no_var (xs ++ ys) ≡ true
no_var-append [] ys h k = k
no_var-append (x ∷ xs) ys h k =
    let parts = no_var-parts x xs h in
    no_var-cons x (xs ++ ys) parts.0 (no_var-append xs ys parts.1 k)

pub no_var-reverse : (xs : List Elem) → no_var xs ≡ true → no_var (reverse xs) ≡ true
no_var-reverse [] h = refl
no_var-reverse (x ∷ xs) h =
    let parts = no_var-parts x xs h in
    rw (reverse_onto xs x []) (no_var-append (reverse xs) (x ∷ []) (no_var-reverse xs parts.1) (no_var-cons x [] parts.0 refl))

-- a list without variables is the same under every valuation
pub map-elem_under : (v : Valuation) (xs : List Elem) → no_var xs ≡ true → map (elem_under v) xs ≡ xs
map-elem_under v [] h = refl
map-elem_under v (Name n ∷ xs) h = ap (λ (ys : List Elem). Name n ∷ ys) (map-elem_under v xs h)
map-elem_under v (Index i ∷ xs) h = ap (λ (ys : List Elem). Index i ∷ ys) (map-elem_under v xs h)
map-elem_under v (Var k ∷ xs) h = absurd (false≢true h)
map-elem_under v (AnyIndex ∷ xs) h = ap (λ (ys : List Elem). AnyIndex ∷ ys) (map-elem_under v xs h)

-- a concrete path of the list's length that it stands against
pub examples-stand : (xs : List Elem) → no_var xs ≡ true → front_stands xs (map example xs) ≡ true
examples-stand [] h = refl
examples-stand (x ∷ xs) h =
    let parts = no_var-parts x xs h in
    and_from _ _ (example-stands x parts.0) (examples-stand xs parts.1)

-- a front that the first list stands against, and the second list against no path that begins with it
pub record Escapes (xs ys : List Elem) (c : ConcretePath) : Type 0 where
  pub stands : front_stands xs c ≡ true
  pub escapes : (rest : ConcretePath) → front_stands ys (c ++ rest) ≡ false
  pub as_long : length ys ≤ length xs → length c ≡ length xs

escape_later : (x y : Elem) (xs ys : List Elem) (c : ConcretePath) → is_var x ≡ false → Escapes xs ys c → Escapes (x ∷ xs) (y ∷ ys) (example x ∷ c)
escape_later x y xs ys c plain later = record {
  stands = and_from _ _ (example-stands x plain) later.stands;
  escapes = λ rest. and_right (elem_stands y (example x)) _ (later.escapes rest);
  as_long = λ short. ap suc (later.as_long (omega arith));
}

escape_here : (x y : Elem) (xs ys : List Elem) → is_var x ≡ false → no_var xs ≡ true → within x y ≡ false → Escapes (x ∷ xs) (y ∷ ys) (escape x y ∷ map example xs)
escape_here x y xs ys plain filled apart = record {
  stands = and_from _ _ (escape-stands x y plain) (examples-stand xs filled);
  escapes = λ rest. and_left _ _ (escape-escapes x y plain apart);
  as_long = λ short. ap suc (length-map xs example);
}

pub escapes : (xs ys : List Elem) → no_var xs ≡ true → starts_within xs ys ≡ false → (c : ConcretePath) × Escapes xs ys c
escapes xs [] h w = absurd (false≢true (sym w))
escapes [] (y ∷ ys) h w = (
  stranger y ∷ [],
  record {
    stands = refl;
    escapes = λ rest. and_left _ _ (stranger-stands y);
    as_long = λ short. absurd (omega arith);
  },
)
escapes (x ∷ xs) (y ∷ ys) h w =
    let parts = no_var-parts x xs h in
    elim (and_cases _ _ w) [
      | inl here ↦ (escape x y ∷ map example xs, escape_here x y xs ys parts.0 parts.1 here)
      | inr later ↦ let rest = escapes xs ys parts.1 later in (example x ∷ rest.0, escape_later x y xs ys rest.0 parts.0 rest.1)
    ]

-- a front against which both lists stand, as long as the longer of them
pub record Common (xs ys : List Elem) (c : ConcretePath) : Type 0 where
  pub first : front_stands xs c ≡ true
  pub second : front_stands ys c ≡ true
  pub as_long : length c ≡ max (length xs) (length ys)

pub commons : (xs ys : List Elem) → no_var xs ≡ true → no_var ys ≡ true → clash_from_front xs ys ≡ false → (c : ConcretePath) × Common xs ys c
commons [] ys h k w =
    (map example ys, record { first = refl; second = examples-stand ys k; as_long = omega (arith, length-map ys example) })
commons (x ∷ xs) [] h k w =
    (map example (x ∷ xs), record { first = examples-stand (x ∷ xs) h; second = refl; as_long = omega (arith, length-map xs example) })
commons (x ∷ xs) (y ∷ ys) h k w =
    let here = or_parts _ _ w in
    let first = no_var-parts x xs h in
    let second = no_var-parts y ys k in
    let rest = commons xs ys first.1 second.1 here.1 in (
      common x y ∷ rest.0,
      record {
        first = and_from _ _ (common-stands-first x y first.0 second.0 here.0) rest.1.first;
        second = and_from _ _ (common-stands-second x y first.0 second.0 here.0) rest.1.second;
        as_long = omega (arith, rest.1.as_long);
      },
    )
