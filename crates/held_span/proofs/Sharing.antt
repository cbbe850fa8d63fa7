-- Lists share a mark if and only if some of their effects interfere.
use Rattle.std.proofs.Common.{◌≡◌, ◌⊎◌, ◌↔◌, ◌||◌, inl, inr, ℕ, zero, suc, Bool, true, List, [], ◌∷◌, map, Option, None, Some, IsTrue, refl, sym, ap, ◌∙◌, subst, arith}
use Rattle.std.specs.Prelude.{slice_get}
use Rattle.std.specs.List.{AllZip, Contains, flat_map}
use Rattle.twe_base.proofs.Members.{IsIn, contains-in, flat_map-in, in-contains, in-flat_map, or-true, true-or}
use Rattle.region_paths.specs.Filled.{filled}
use Rattle.effect_sets.specs.declared.effects.Effect.{Effect}
use Rattle.effect_sets.specs.Interference.{Interferes, SomeInterfere, statically_interferes}
use Rattle.effect_sets.proofs.Sets.{interferes-exact}
use Rattle.held_span.specs.Marks.{AreMarksOf, SharesMark, left_by, left_marks, seen_by, seen_marks}
use Rattle.held_span.specs.Rivals.{AreNumbersOf, AreRivals, EffectList, IsNumberOf, interferes_found, is_rival}
use Rattle.held_span.specs.Tables.{numbers_in}
use Rattle.held_span.specs.declared.marks.EffectMarks.{EffectMarks}
use Rattle.held_span.specs.declared.marks.EffectMark.{EffectMark}
use Rattle.held_span.specs.declared.marks.EffectMark.TheVariants.{Own, Rival}

-- elements of zipped lists
zipped : (R : ℕ → Effect → Type 0) (xs : List ℕ) (ys : List Effect) → AllZip R xs ys → (x : ℕ) → IsIn x xs → (y : Effect) × IsIn y ys × R x y
zipped R [] ys z x i = absurd i
zipped R (a ∷ xs) [] z x i = absurd z
zipped R (a ∷ xs) (b ∷ ys) z x (inl e) = (b, inl refl, subst (λ n. R n b) (sym e) z.0)
zipped R (a ∷ xs) (b ∷ ys) z x (inr i) = let r = zipped R xs ys z.1 x i in (r.0, inr r.1, r.2)

rezipped : (R : ℕ → Effect → Type 0) (xs : List ℕ) (ys : List Effect) → AllZip R xs ys → (y : Effect) → IsIn y ys → (x : ℕ) × IsIn x xs × R x y
rezipped R xs [] z y i = absurd i
rezipped R [] (b ∷ ys) z y i = absurd z
rezipped R (a ∷ xs) (b ∷ ys) z y (inl e) = (a, inl refl, subst (λ w. R a w) (sym e) z.0)
rezipped R (a ∷ xs) (b ∷ ys) z y (inr i) = let r = rezipped R xs ys z.1 y i in (r.0, inr r.1, r.2)

row-zipped : (effects : EffectList) (lists : List (List ℕ)) (others : List EffectList) → AllZip (AreNumbersOf effects) lists others → (a : ℕ) (list : EffectList) → slice_get others a ≡ Some list → AreNumbersOf effects (numbers_in lists a) list
row-zipped effects lists [] z a list h = absurd (cc (h))
row-zipped effects [] (o ∷ others) z a list h = absurd z
row-zipped effects (l ∷ lists) (o ∷ others) z zero list h = subst (λ (e : EffectList). AreNumbersOf effects l e) (cc (h)) z.0
row-zipped effects (l ∷ lists) (o ∷ others) z (suc a) list h = row-zipped effects lists others z.1 a list h

-- elements of a map
in-map : (f : ℕ → EffectMark) (xs : List ℕ) (x : ℕ) → IsIn x xs → IsIn (f x) (map f xs)
in-map f [] x i = absurd i
in-map f (y ∷ xs) x (inl e) = inl (ap f e)
in-map f (y ∷ xs) x (inr i) = inr (in-map f xs x i)

map-in : (f : ℕ → EffectMark) (xs : List ℕ) (m : EffectMark) → IsIn m (map f xs) → (x : ℕ) × IsIn x xs × (m ≡ f x)
map-in f [] m i = absurd i
map-in f (y ∷ xs) m (inl e) = (y, inl refl, e)
map-in f (y ∷ xs) m (inr i) = let r = map-in f xs m i in (r.0, inr r.1, r.2)

-- interference goes both ways
pub interferes-back : (a b : Effect) → Interferes a b → Interferes b a
interferes-back a b i =
    let one = or-true a.write b.write i.0 in
    (true-or b.write a.write (elim one [ inl x ↦ inr x | inr y ↦ inl y ]), (i.1.0, i.1.2, i.1.1))

module _ (lists : List EffectList) (marks : EffectMarks) (are : AreMarksOf lists marks) where
  -- effects of rivals interfere, and effects that interfere are those of rivals
  rivals-meet : (c e : ℕ) (x y : Effect) → AreRivals are.effects c e → IsNumberOf are.effects c x → IsNumberOf are.effects e y → Interferes x y
  rivals-meet c e x y r at_c at_e =
      let same : r.first ≡ x = cc (r.at_first, at_c) in
      let static : statically_interferes r.first y ≡ true = sym (ap (interferes_found r.first) at_e) ∙ r.interfere in
      subst (λ w. Interferes w y) same
      ((interferes-exact r.first y (statically_interferes r.first y) refl (are.filled c r.first r.at_first) (are.filled e y at_e)).0 static)

  meet-rivals : (c e : ℕ) (x y : Effect) → Interferes x y → IsNumberOf are.effects c x → IsNumberOf are.effects e y → AreRivals are.effects c e
  meet-rivals c e x y i at_c at_e = record {
    first = x;
    at_first = at_c;
    interfere = ap (interferes_found x) at_e ∙ (interferes-exact x y (statically_interferes x y) refl (are.filled c x at_c) (are.filled e y at_e)).1 i;
  }

  module _ (a b : ℕ) (first second : EffectList) (at_a : slice_get lists a ≡ Some first) (at_b : slice_get lists b ≡ Some second) where
    numbers_a : AreNumbersOf are.effects (numbers_in marks.lists a) first
    numbers_a = row-zipped are.effects marks.lists lists are.lists_are a first at_a

    numbers_b : AreNumbersOf are.effects (numbers_in marks.lists b) second
    numbers_b = row-zipped are.effects marks.lists lists are.lists_are b second at_b

    some : (x y : Effect) → IsIn x first → IsIn y second → Interferes x y → SomeInterfere first second
    some x y in_x in_y i =
        let k = in-contains first x in_x in
        let l = in-contains second y in_y in
        (k.0, x, k.1, k.2, (l.0, y, l.1, l.2, i))

    found : (c e : ℕ) → IsIn c (numbers_in marks.lists a) → IsIn e (numbers_in marks.lists b) → AreRivals are.effects c e ⊎ AreRivals are.effects e c → SomeInterfere first second
    found c e in_c in_e r =
        let x = zipped (IsNumberOf are.effects) (numbers_in marks.lists a) first numbers_a c in_c in
        let y = zipped (IsNumberOf are.effects) (numbers_in marks.lists b) second numbers_b e in_e in
        some x.0 y.0 x.1 y.1
        (elim r [
          | inl forth ↦ rivals-meet c e x.0 y.0 forth x.2 y.2
          | inr back ↦ interferes-back y.0 x.0 (rivals-meet e c y.0 x.0 back y.2 x.2)
        ])

    meets : (c e : ℕ) (mark : EffectMark) → IsIn c (numbers_in marks.lists a) → IsIn e (numbers_in marks.lists b) → IsIn mark (left_marks marks c) → IsIn mark (seen_marks marks e) → SomeInterfere first second
    meets c e mark in_c in_e (inl own) (inl rival) = absurd (cc (own, rival))
    meets c e mark in_c in_e (inl own) (inr seen) =
        let d = map-in (λ r. Own r) (numbers_in marks.rivals e) mark seen in
        let same : d.0 ≡ c = cc (own, d.2) in
        found c e in_c in_e (inr (subst (λ n. AreRivals are.effects e n) same (are.sound e d.0 (in-contains (numbers_in marks.rivals e) d.0 d.1))))
    meets c e mark in_c in_e (inr left) (inl rival) =
        let d = map-in (λ r. Rival r) (numbers_in marks.rivals c) mark left in
        let same : d.0 ≡ e = cc (rival, d.2) in
        found c e in_c in_e (inl (subst (λ n. AreRivals are.effects c n) same (are.sound c d.0 (in-contains (numbers_in marks.rivals c) d.0 d.1))))
    meets c e mark in_c in_e (inr left) (inr seen) =
        let d = map-in (λ r. Rival r) (numbers_in marks.rivals c) mark left in
        let f = map-in (λ r. Own r) (numbers_in marks.rivals e) mark seen in
        absurd (cc (d.2, f.2))

    shares : (c e : ℕ) (mark : EffectMark) → IsIn c (numbers_in marks.lists a) → IsIn e (numbers_in marks.lists b) → IsIn mark (left_marks marks c) → IsIn mark (seen_marks marks e) → SharesMark marks a b
    shares c e mark in_c in_e left seen = (
      mark,
      in-contains (left_by marks a) mark (in-flat_map (left_marks marks) (numbers_in marks.lists a) c mark in_c left),
      in-contains (seen_by marks b) mark (in-flat_map (seen_marks marks) (numbers_in marks.lists b) e mark in_e seen),
    )

    pub shared-iff : SharesMark marks a b ↔ SomeInterfere first second
    shared-iff = (
      λ h.
          let l = flat_map-in (left_marks marks) (numbers_in marks.lists a) h.0 (contains-in (left_by marks a) h.0 h.1) in
          let s = flat_map-in (seen_marks marks) (numbers_in marks.lists b) h.0 (contains-in (seen_by marks b) h.0 h.2) in
          meets l.0 s.0 h.0 l.1 s.1 l.2 s.2,
      λ i.
          let x = i.1 in
          let y = i.4.1 in
          let c = rezipped (IsNumberOf are.effects) (numbers_in marks.lists a) first numbers_a x (contains-in first x (i.0, i.2, i.3)) in
          let e = rezipped (IsNumberOf are.effects) (numbers_in marks.lists b) second numbers_b y (contains-in second y (i.4.0, i.4.2, i.4.3)) in
          elim (are.complete c.0 e.0 (meet-rivals c.0 e.0 x y i.4.4 c.2 e.2)) [
            | inl forth ↦ shares c.0 e.0 (Rival e.0) c.1 e.1
                (inr (in-map (λ r. Rival r) (numbers_in marks.rivals c.0) e.0 (contains-in (numbers_in marks.rivals c.0) e.0 forth))) (inl refl)
            | inr back ↦ shares c.0 e.0 (Own c.0) c.1 e.1 (inl refl)
                (inr (in-map (λ r. Own r) (numbers_in marks.rivals e.0) c.0 (contains-in (numbers_in marks.rivals e.0) c.0 back)))
          ],
    )
