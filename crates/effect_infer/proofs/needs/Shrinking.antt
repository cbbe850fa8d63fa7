-- An effect inside another interferes with no more than the other does.
use Rattle.std.proofs.Common.{◌≡◌, ◌⊎◌, ◌<◌, ℕ, ◌+◌, Bool, true, false, not, List, [], ◌∷◌, ◌++◌, length, reverse, inl, inr, refl, sym, ap, ◌∙◌, subst, arith, eqb-true, eq-eqb}
use Rattle.std.specs.Prelude.{ℤ, nat_lt, ◌&&◌, ◌||◌, ◌==◌}
use Rattle.std.specs.Ordering.{int_eq}
use Rattle.std.proofs.lemmas.Grind.{reverse_onto}
use Rattle.std.proofs.lemmas.List.{length-reverse}
use Rattle.std.proofs.lemmas.Bool.{false≢true, and_parts, and_from, or_cases, or_left, or_right, cases_Bool, ltb-true, lt-ltb}
use Rattle.std.proofs.lemmas.Bool.Decides.{Decides-int_eq}
use Rattle.region_paths.specs.declared.elements.Elem.{Elem}
use Rattle.region_paths.specs.declared.elements.Elem.TheVariants.{Name, Index, Var, AnyIndex}
use Rattle.region_paths.specs.Written.{WrittenPath}
use Rattle.region_paths.specs.Inside.{within, starts_within, inside}
use Rattle.region_paths.specs.Apart.{clash, clash_from_front, apart, apart_from_ends}
use Rattle.effect_sets.specs.declared.effects.Effect.{Effect}
use Rattle.effect_sets.specs.Covers.{effect_covers}
use Rattle.effect_sets.specs.Interference.{statically_interferes}
use Rattle.twe_base.proofs.Members.{true-or}
use Rattle.effect_infer.specs.declared.needs.need.Need.{Need}
use Rattle.effect_infer.specs.needs.Needs.{effect_of}
use Rattle.effect_infer.proofs.needs.Within.{is_index, within-cases}
use Rattle.effect_infer.proofs.needs.Inside.{plain, each-from, ends-from, starts-reverse}

-- an index of any kind clashes with all that any index clashes with
index-clash : (x z : Elem) → is_index x ≡ true → clash AnyIndex z ≡ true → clash x z ≡ true
index-clash (Name n) z i h = absurd (false≢true i)
index-clash (Index k) (Name n) i h = refl
index-clash (Index k) (Index j) i h = absurd (false≢true h)
index-clash (Index k) (Var j) i h = absurd (false≢true h)
index-clash (Index k) AnyIndex i h = absurd (false≢true h)
index-clash (Var k) (Name n) i h = refl
index-clash (Var k) (Index j) i h = absurd (false≢true h)
index-clash (Var k) (Var j) i h = absurd (false≢true h)
index-clash (Var k) AnyIndex i h = absurd (false≢true h)
index-clash AnyIndex z i h = h

clash-inside : (x y z : Elem) → within x y ≡ true → clash y z ≡ true → clash x z ≡ true
clash-inside x y z w h = elim (within-cases x y w) [
  | inl e ↦ subst (λ u. clash u z ≡ true) (sym e) h
  | inr any ↦ index-clash x z any.1 (subst (λ u. clash u z ≡ true) any.0 h)
]

-- clashes are mutual
names-mutual : (n m : ℕ) → not (n == m) ≡ true → not (m == n) ≡ true
names-mutual n m h = elim (cases_Bool (m == n)) [
  | inl same ↦ absurd (false≢true (sym (ap not (eq-eqb n m (sym (eqb-true m n same)))) ∙ h))
  | inr other ↦ ap not other
]

literals-mutual : (i j : ℤ) → not (int_eq i j) ≡ true → not (int_eq j i) ≡ true
literals-mutual i j h = elim (cases_Bool (int_eq j i)) [
  | inl same ↦ absurd (false≢true (sym (ap not ((Decides-int_eq i j).1 (sym ((Decides-int_eq j i).0 same)))) ∙ h))
  | inr other ↦ ap not other
]

clash-mutual : (x y : Elem) → clash x y ≡ true → clash y x ≡ true
clash-mutual (Name n) (Name m) h = names-mutual n m h
clash-mutual (Name n) (Index i) h = refl
clash-mutual (Name n) (Var k) h = refl
clash-mutual (Name n) AnyIndex h = refl
clash-mutual (Index i) (Name n) h = refl
clash-mutual (Index i) (Index j) h = literals-mutual i j h
clash-mutual (Index i) (Var k) h = absurd (false≢true h)
clash-mutual (Index i) AnyIndex h = absurd (false≢true h)
clash-mutual (Var k) (Name n) h = refl
clash-mutual (Var k) (Index j) h = absurd (false≢true h)
clash-mutual (Var k) (Var l) h = absurd (false≢true h)
clash-mutual (Var k) AnyIndex h = absurd (false≢true h)
clash-mutual AnyIndex (Name n) h = refl
clash-mutual AnyIndex (Index j) h = absurd (false≢true h)
clash-mutual AnyIndex (Var l) h = absurd (false≢true h)
clash-mutual AnyIndex AnyIndex h = absurd (false≢true h)

front-mutual : (xs ys : List Elem) → clash_from_front xs ys ≡ true → clash_from_front ys xs ≡ true
front-mutual [] ys h = absurd (false≢true h)
front-mutual (x ∷ xs) [] h = absurd (false≢true h)
front-mutual (x ∷ xs) (y ∷ ys) h = elim (or_cases (clash x y) (clash_from_front xs ys) h) [
  | inl here ↦ or_left (clash y x) (clash_from_front ys xs) (clash-mutual x y here)
  | inr later ↦ or_right (clash y x) (clash_from_front ys xs) (front-mutual xs ys later)
]

-- what a wider list clashes with, a narrower one does too
front-inside : (xs ys zs : List Elem) → starts_within xs ys ≡ true → clash_from_front ys zs ≡ true → clash_from_front xs zs ≡ true
front-inside xs [] zs w h = absurd (false≢true h)
front-inside [] (y ∷ ys) zs w h = absurd (false≢true w)
front-inside (x ∷ xs) (y ∷ ys) [] w h = absurd (false≢true h)
front-inside (x ∷ xs) (y ∷ ys) (z ∷ zs) w h =
    let parts = and_parts (within x y) (starts_within xs ys) w in
    elim (or_cases (clash y z) (clash_from_front ys zs) h) [
      | inl here ↦ or_left (clash x z) (clash_from_front xs zs) (clash-inside x y z parts.0 here)
      | inr later ↦ or_right (clash x z) (clash_from_front xs zs) (front-inside xs ys zs parts.1 later)
    ]

-- lists of one length clash from the end exactly if they clash from the front
front-last : (xs ys : List Elem) (x y : Elem) → length xs ≡ length ys → clash_from_front (xs ++ x ∷ []) (ys ++ y ∷ []) ≡ true → (clash x y ≡ true) ⊎ (clash_from_front xs ys ≡ true)
front-last [] [] x y e h = elim (or_cases (clash x y) false h) [ inl here ↦ inl here | inr none ↦ absurd (false≢true none) ]
front-last [] (b ∷ ys) x y e h = absurd (omega (arith, e))
front-last (a ∷ xs) [] x y e h = absurd (omega (arith, e))
front-last (a ∷ xs) (b ∷ ys) x y e h = elim (or_cases (clash a b) (clash_from_front (xs ++ x ∷ []) (ys ++ y ∷ [])) h) [
  | inl here ↦ inr (or_left (clash a b) (clash_from_front xs ys) here)
  | inr later ↦ elim (front-last xs ys x y (omega (arith, e)) later) [
    | inl last ↦ inl last
    | inr front ↦ inr (or_right (clash a b) (clash_from_front xs ys) front)
  ]
]

end-front : (xs ys : List Elem) → length xs ≡ length ys → clash_from_front (reverse xs) (reverse ys) ≡ true → clash_from_front xs ys ≡ true
end-front [] [] e h = h
end-front [] (b ∷ ys) e h = absurd (omega (arith, e))
end-front (a ∷ xs) [] e h = absurd (omega (arith, e))
end-front (a ∷ xs) (b ∷ ys) e h =
    let same : length xs ≡ length ys = omega (arith, e) in
    let long : length (reverse xs) ≡ length (reverse ys) = length-reverse xs ∙ same ∙ sym (length-reverse ys) in
    let turned = subst (λ us. clash_from_front us (reverse ys ++ b ∷ []) ≡ true) (reverse_onto xs a []) (subst (λ us. clash_from_front (reverse (a ∷ xs)) us ≡ true) (reverse_onto ys b []) h) in
    elim (front-last (reverse xs) (reverse ys) a b long turned) [
      | inl here ↦ or_left (clash a b) (clash_from_front xs ys) here
      | inr later ↦ or_right (clash a b) (clash_from_front xs ys) (end-front xs ys same later)
    ]

-- lists of different lengths are apart
other-length : (xs zs : List Elem) → (length xs ≡ length zs → clash_from_front xs zs ≡ true) → (not (length xs == length zs) || clash_from_front xs zs) ≡ true
other-length xs zs h = elim (cases_Bool (length xs == length zs)) [
  | inl same ↦ or_right (not (length xs == length zs)) (clash_from_front xs zs) (h (eqb-true _ _ same))
  | inr other ↦ or_left (not (length xs == length zs)) (clash_from_front xs zs) (ap not other)
]

-- a path without a star, inside one that is apart from a third
apart-by : (xs ys yt zs zt : List Elem) (a b : Bool)
    → inside (plain xs) (record { elems = ys; star = a; tail = yt }) ≡ true
    → apart (record { elems = ys; star = a; tail = yt }) (record { elems = zs; star = b; tail = zt }) ≡ true
    → apart (plain xs) (record { elems = zs; star = b; tail = zt }) ≡ true
apart-by xs ys yt zs zt false false h k =
    let each = each-from xs ys h in
    elim (or_cases (not (length ys == length zs)) (clash_from_front ys zs) k) [
      | inl other ↦ or_left (not (length xs == length zs)) (clash_from_front xs zs) (subst (λ n. not (n == length zs) ≡ true) (sym each.long) other)
      | inr front ↦ or_right (not (length xs == length zs)) (clash_from_front xs zs) (front-inside xs ys zs each.front front)
    ]
apart-by xs ys yt zs zt false true h k =
    let each = each-from xs ys h in
    let short = nat_lt (length xs) (length zs + length zt) in
    let ends = clash_from_front xs zs || clash_from_front (reverse xs) (reverse zt) in
    elim (or_cases (nat_lt (length ys) (length zs + length zt)) (clash_from_front ys zs || clash_from_front (reverse ys) (reverse zt)) k) [
      | inl less ↦ or_left short ends (subst (λ n. nat_lt n (length zs + length zt) ≡ true) (sym each.long) less)
      | inr clashes ↦ or_right short ends (elim (or_cases (clash_from_front ys zs) (clash_from_front (reverse ys) (reverse zt)) clashes) [
        | inl front ↦ or_left (clash_from_front xs zs) (clash_from_front (reverse xs) (reverse zt)) (front-inside xs ys zs each.front front)
        | inr back ↦ or_right (clash_from_front xs zs) (clash_from_front (reverse xs) (reverse zt))
            (front-inside (reverse xs) (reverse ys) (reverse zt) (starts-reverse xs ys each.long each.front) back)
      ])
    ]
apart-by xs ys yt zs zt true false h k =
    let around = ends-from xs ys yt h in
    other-length xs zs (λ same. elim (or_cases (nat_lt (length zs) (length ys + length yt)) (clash_from_front zs ys || clash_from_front (reverse zs) (reverse yt)) k) [
      | inl less ↦ let is_less : length zs < length ys + length yt = ltb-true _ _ less in absurd (omega (arith, around.room, same))
      | inr clashes ↦ elim (or_cases (clash_from_front zs ys) (clash_from_front (reverse zs) (reverse yt)) clashes) [
        | inl front ↦ front-inside xs ys zs around.starts (front-mutual zs ys front)
        | inr back ↦ end-front xs zs same (front-inside (reverse xs) (reverse yt) (reverse zs) around.ends (front-mutual (reverse zs) (reverse yt) back))
      ]
    ])
apart-by xs ys yt zs zt true true h k =
    let around = ends-from xs ys yt h in
    or_right (nat_lt (length xs) (length zs + length zt)) (clash_from_front xs zs || clash_from_front (reverse xs) (reverse zt))
    (elim (or_cases (clash_from_front ys zs) (clash_from_front (reverse yt) (reverse zt)) k) [
      | inl front ↦ or_left (clash_from_front xs zs) (clash_from_front (reverse xs) (reverse zt)) (front-inside xs ys zs around.starts front)
      | inr back ↦ or_right (clash_from_front xs zs) (clash_from_front (reverse xs) (reverse zt)) (front-inside (reverse xs) (reverse yt) (reverse zt) around.ends back)
    ])

apart-inside : (xs : List Elem) (q r : WrittenPath) → inside (plain xs) q ≡ true → apart q r ≡ true → apart (plain xs) r ≡ true
apart-inside xs q r h k = apart-by xs q.elems q.tail r.elems r.tail q.star r.star h k

writes-less : (a b c : Bool) → (not a || b) ≡ true → (a || c) ≡ true → (b || c) ≡ true
writes-less true b c h k = or_left b c h
writes-less false b c h k = or_right b c k

-- a need interferes with nothing that an effect that covers it does not interfere with
pub interferes-less : (need : Need) (wide other : Effect) → effect_covers wide (effect_of need) ≡ true
    → statically_interferes (effect_of need) other ≡ true → statically_interferes wide other ≡ true
interferes-less need wide other h k =
    let covered = and_parts (inside (plain need.elems) wide.path) (not need.write || wide.write) h in
    let meets = and_parts (need.write || other.write) (not (apart (plain need.elems) other.path)) k in
    and_from (wide.write || other.write) (not (apart wide.path other.path)) (writes-less need.write wide.write other.write covered.1 meets.0)
    (elim (cases_Bool (apart wide.path other.path)) [
      | inl away ↦ absurd (false≢true (sym (ap not (apart-inside need.elems wide.path other.path covered.0 away)) ∙ meets.1))
      | inr near ↦ ap not near
    ])
