-- What holds in one call, in which the parameters have one value in both effects.
use Rattle.std.proofs.Common.{◌≡◌, ◌↔◌, ◌≤◌, ◌<◌, ℕ, ℤ, pos, Bool, true, false, IsTrue, List, [], ◌∷◌, Option, None, Some, if◌then◌else◌, inl, inr, refl, sym, ap, ap₂, ◌∙◌, subst, arith, int_eq, eqb-true, eq-eqb}
use Rattle.std.specs.Prelude.{◌&&◌, ◌==◌, nat_le, nat_lt}
use Rattle.std.specs.List.{list_all}
use Rattle.std.proofs.lemmas.Bool.{and_parts, and_from, cases_Bool}
use Rattle.std.proofs.lemmas.Bool.Decides.{nat_tests, Decides-int_eq}
use Rattle.region_paths.specs.Filled.{Valuation}
use Rattle.effect_sets.specs.declared.effects.Effect.{Effect}
use Rattle.effect_meeting.specs.declared.equality.Term.{Term}
use Rattle.effect_meeting.specs.declared.equality.Term.TheVariants.{Literal, First, Second}
use Rattle.effect_meeting.specs.declared.equality.Equality.{Equality}
use Rattle.effect_meeting.specs.Always.{AlwaysInterfere, deciding_local, local_among, is_always_equal, if_local, in_one_call, local_of, or_else}
use Rattle.effect_meeting.specs.Equalities.{equality_holds, equalities_hold, same_term, term_value}
use Rattle.effect_meeting.specs.Meeting.{AgreeBelow}
use Rattle.effect_meeting.specs.Meetings.{InterfereUnder}
use Rattle.effect_meeting.specs.PathEqualities.{effect_equalities}
use Rattle.effect_meeting.proofs.Exactness.{interfere-exact}

below : (shared k : ℕ) → nat_lt k shared ≡ true → k < shared
below shared k is = grind (arith, nat_tests, is)

not-below : (shared k : ℕ) → nat_lt k shared ≡ false → shared ≤ k
not-below shared k is = grind (arith, nat_tests, is)

-- the same terms have one value
same-value : (v w : Valuation) (a b : Term) → same_term a b ≡ true → term_value v w a ≡ term_value v w b
same-value v w (Literal i) (Literal j) h = (Decides-int_eq i j).0 h
same-value v w (Literal i) (First k) h = absurd (cc (h))
same-value v w (Literal i) (Second k) h = absurd (cc (h))
same-value v w (First k) (Literal j) h = absurd (cc (h))
same-value v w (First k) (First l) h = ap v (eqb-true k l h)
same-value v w (First k) (Second l) h = absurd (cc (h))
same-value v w (Second k) (Literal j) h = absurd (cc (h))
same-value v w (Second k) (First l) h = absurd (cc (h))
same-value v w (Second k) (Second l) h = ap w (eqb-true k l h)

-- a valuation in which one variable alone has another value
abbrev one_for : ℕ → Valuation
one_for k n = if n == k then pos 1 else pos 0

abbrev zero : Valuation
zero n = pos 0

one-there : (k : ℕ) → one_for k k ≡ pos 1
one-there k = ap (λ (b : Bool). if b then pos 1 else pos 0) (eq-eqb k k refl)

zero-elsewhere : (k n : ℕ) → (n ≡ k → ⊥) → one_for k n ≡ pos 0
zero-elsewhere k n other = elim (cases_Bool (n == k)) [
  | inl same ↦ absurd (other (eqb-true n k same))
  | inr differs ↦ ap (λ (b : Bool). if b then pos 1 else pos 0) differs
]

only-itself : (k l : ℕ) → one_for k k ≡ one_for k l → (k == l) ≡ true
only-itself k l h = elim (cases_Bool (l == k)) [
  | inl same ↦ eq-eqb k l (sym (eqb-true l k same))
  | inr other ↦
      let one = one-there k in
      let none : one_for k l ≡ pos 0 = ap (λ (b : Bool). if b then pos 1 else pos 0) other in
      absurd (cc (one, none, h))
]

module _ (shared : ℕ) where
  abbrev Plain : Term → Type 0
  Plain term = (v w : Valuation) → AgreeBelow shared v w → term_value v w (in_one_call shared term) ≡ term_value v w term

  second-by : (b : Bool) (k : ℕ) → nat_lt k shared ≡ b → (v w : Valuation) → AgreeBelow shared v w
      → term_value v w (if b then First k else Second k) ≡ w k
  second-by true k is v w agree = agree k (below shared k is)
  second-by false k is v w agree = refl

  in-call : (term : Term) → Plain term
  in-call (Literal i) v w agree = refl
  in-call (First k) v w agree = refl
  in-call (Second k) v w agree = second-by (nat_lt k shared) k refl v w agree

  -- the terms have one value in each call
  abbrev AlwaysEqual : Term → Term → Type 0
  AlwaysEqual a b = (v w : Valuation) → AgreeBelow shared v w → term_value v w a ≡ term_value v w b

  no-literal : (i : ℤ) (a : Term) → ((x : ℤ) → term_value (λ n. x) (λ n. x) a ≡ x) → AlwaysEqual (Literal i) a → ⊥
  no-literal i a any h =
      let none : i ≡ pos 0 = h (λ n. pos 0) (λ n. pos 0) (λ k is. refl) ∙ any (pos 0) in
      let one : i ≡ pos 1 = h (λ n. pos 1) (λ n. pos 1) (λ k is. refl) ∙ any (pos 1) in
      cc (none, one)

  flipped : (a b : Term) → AlwaysEqual a b → AlwaysEqual b a
  flipped a b h v w agree = sym (h v w agree)

  -- a local of the second effect has a value of its own
  apart-from-second : (k l : ℕ) → shared ≤ l → AlwaysEqual (First k) (Second l) → ⊥
  apart-from-second k l local h =
      let agree : AgreeBelow shared zero (one_for l) = λ n is. sym (zero-elsewhere l n (λ e. omega (arith, is, local, e))) in
      let both : pos 0 ≡ one_for l l = h zero (one_for l) agree in
      let one = one-there l in
      cc (both, one)

  firsts : (k l : ℕ) → AlwaysEqual (First k) (First l) → (k == l) ≡ true
  firsts k l h = only-itself k l (h (one_for k) (one_for k) (λ n is. refl))

  seconds : (k l : ℕ) → AlwaysEqual (Second k) (Second l) → (k == l) ≡ true
  seconds k l h = only-itself k l (h (one_for k) (one_for k) (λ n is. refl))

  -- terms that have one value in each call, of which a second one is a local, are the same
  abbrev IsOfCall : Term → Type 0
  IsOfCall (Literal i) = Unit {0}
  IsOfCall (First k) = Unit {0}
  IsOfCall (Second k) = shared ≤ k

  same-if : (a b : Term) → IsOfCall a → IsOfCall b → AlwaysEqual a b → same_term a b ≡ true
  same-if (Literal i) (Literal j) of_a of_b h = (Decides-int_eq i j).1 (h zero zero (λ n is. refl))
  same-if (Literal i) (First k) of_a of_b h = absurd (no-literal i (First k) (λ x. refl) h)
  same-if (Literal i) (Second k) of_a of_b h = absurd (no-literal i (Second k) (λ x. refl) h)
  same-if (First k) (Literal j) of_a of_b h = absurd (no-literal j (First k) (λ x. refl) (flipped (First k) (Literal j) h))
  same-if (First k) (First l) of_a of_b h = firsts k l h
  same-if (First k) (Second l) of_a of_b h = absurd (apart-from-second k l of_b h)
  same-if (Second k) (Literal j) of_a of_b h = absurd (no-literal j (Second k) (λ x. refl) (flipped (Second k) (Literal j) h))
  same-if (Second k) (First l) of_a of_b h = absurd (apart-from-second l k of_a (flipped (Second k) (First l) h))
  same-if (Second k) (Second l) of_a of_b h = seconds k l h

  of-call-by : (b : Bool) (k : ℕ) → nat_lt k shared ≡ b → IsOfCall (if b then First k else Second k)
  of-call-by true k is = tt
  of-call-by false k is = not-below shared k is

  of-call : (term : Term) → IsOfCall (in_one_call shared term)
  of-call (Literal i) = tt
  of-call (First k) = tt
  of-call (Second k) = of-call-by (nat_lt k shared) k refl

  -- Equalities.

  holds-if : (e : Equality) → is_always_equal shared e ≡ true → (v w : Valuation) → AgreeBelow shared v w → equality_holds v w e ≡ true
  holds-if e h v w agree =
      (Decides-int_eq (term_value v w e.left) (term_value v w e.right)).1
      (sym (in-call e.left v w agree) ∙ (same-value v w (in_one_call shared e.left) (in_one_call shared e.right) h ∙ in-call e.right v w agree))

  only-if : (e : Equality) → ((v w : Valuation) → AgreeBelow shared v w → equality_holds v w e ≡ true) → is_always_equal shared e ≡ true
  only-if e h =
      same-if (in_one_call shared e.left) (in_one_call shared e.right) (of-call e.left) (of-call e.right)
      (λ v w agree. in-call e.left v w agree ∙ ((Decides-int_eq (term_value v w e.left) (term_value v w e.right)).0 (h v w agree) ∙ sym (in-call e.right v w agree)))

  all-if : (es : List Equality) → list_all (is_always_equal shared) es ≡ true → (v w : Valuation) → AgreeBelow shared v w → equalities_hold v w es ≡ true
  all-if [] h v w agree = refl
  all-if (e ∷ es) h v w agree = let both = and_parts _ _ h in and_from _ _ (holds-if e both.0 v w agree) (all-if es both.1 v w agree)

  all-only-if : (es : List Equality) → ((v w : Valuation) → AgreeBelow shared v w → equalities_hold v w es ≡ true) → list_all (is_always_equal shared) es ≡ true
  all-only-if [] h = refl
  all-only-if (e ∷ es) h =
      and_from _ _ (only-if e (λ v w agree. (and_parts _ _ (h v w agree)).0)) (all-only-if es (λ v w agree. (and_parts _ _ (h v w agree)).1))

  -- the equalities of two effects always hold exactly if the effects always interfere
  pub always-exact : (a b : Effect) → IsTrue (list_all (is_always_equal shared) (effect_equalities a b)) ↔ AlwaysInterfere shared a b
  always-exact a b = (
    λ h v w agree. (interfere-exact v w a b).0 (all-if (effect_equalities a b) h v w agree),
    λ h. all-only-if (effect_equalities a b) (λ v w agree. (interfere-exact v w a b).1 (h v w agree)),
  )

-- Locals.

no-first : (one other : Option ℕ) → or_else one other ≡ None → one ≡ None
no-first None other h = refl
no-first (Some k) other h = absurd (cc (h))

no-second : (one other : Option ℕ) → or_else one other ≡ None → other ≡ None
no-second None other h = h
no-second (Some k) other h = absurd (cc (h))

module _ (shared : ℕ) (v w later_v later_w : Valuation) (one : AgreeBelow shared v w) (two : AgreeBelow shared v later_v) (three : AgreeBelow shared v later_w) where
  parameter-by : (b : Bool) (k : ℕ) → nat_le shared k ≡ b → (if b then Some k else None) ≡ None → k < shared
  parameter-by true k is h = absurd (cc (h))
  parameter-by false k is h = grind (arith, nat_tests, is)

  parameter : (k : ℕ) → if_local shared k ≡ None → k < shared
  parameter k h = parameter-by (nat_le shared k) k refl h

  -- a term that is no local has one value
  same-term-value : (term : Term) → local_of shared term ≡ None → term_value later_v later_w term ≡ term_value v w term
  same-term-value (Literal i) h = refl
  same-term-value (First k) h = sym (two k (parameter k h))
  same-term-value (Second k) h = sym (three k (parameter k h)) ∙ one k (parameter k h)

  same-holds : (es : List Equality) → local_among shared es ≡ None → equalities_hold later_v later_w es ≡ equalities_hold v w es
  same-holds [] h = refl
  same-holds (e ∷ es) h =
      let here = no-first _ _ h in
      let left = same-term-value e.left (no-first _ _ here) in
      let right = same-term-value e.right (no-second _ _ here) in
      ap₂ (λ (x y : Bool). x && y) (ap₂ int_eq left right) (same-holds es (no-second _ _ h))

pub decided : (shared : ℕ) (a b : Effect) → deciding_local shared a b ≡ None → (v w later_v later_w : Valuation) → AgreeBelow shared v w → AgreeBelow shared v later_v → AgreeBelow shared v later_w
    → InterfereUnder v w a b → InterfereUnder later_v later_w a b
decided shared a b none v w later_v later_w one two three meets =
    (interfere-exact later_v later_w a b).0
    (same-holds shared v w later_v later_w one two three (effect_equalities a b) none ∙ (interfere-exact v w a b).1 meets)
