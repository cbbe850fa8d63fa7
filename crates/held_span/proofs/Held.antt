-- Sets of tasks, one for each number, and the lowest tasks of them.
use Rattle.std.proofs.Common.{◌≡◌, ◌≢◌, ◌<◌, ◌≤◌, ◌↔◌, ◌⊎◌, ◌+◌, ◌++◌, inl, inr, ℕ, zero, suc, Bool, true, false, cond, List, [], ◌∷◌, length, take, get_or, min, Option, None, Some, IsTrue, refl, sym, ap, ◌∙◌, subst, arith}
use Rattle.std.specs.Prelude.{slice_get, slice_set}
use Rattle.std.specs.BTreeMap.{is_at}
use Rattle.std.specs.BTreeSet.{BTreeSet, contains}
use Rattle.std.specs.List.{Contains}
use Rattle.std.specs.Ordering.{is_eq, is_gt, nat_cmp}
use Rattle.std.specs.declared.cmp.Ordering.{Ordering}
use Rattle.std.specs.declared.cmp.Ordering.TheVariants.{Less, Equal, Greater}
use Rattle.std.proofs.lemmas.Bool.{cases_eq, false≢true}
use Rattle.std.proofs.lemmas.Cmp.{nat_cmp_total, tied_itself}
use Rattle.std.proofs.lemmas.List.{take_more}
use Rattle.std.proofs.lemmas.List.Elements.{Contains-append_left, Contains-push, Contains-push_cases}
use Rattle.std.proofs.lemmas.Map.Lookups.{exact_unsigned}
use Rattle.held_span.specs.declared.marks.EffectMark.{EffectMark}
use Rattle.held_span.specs.declared.marks.EffectMark.TheVariants.{Own, Rival}
use Rattle.held_span.specs.declared.holders.Holders.{Holders}
use Rattle.held_span.specs.inner.Holding.{Holds, HoldsOne, IsEntry, IsForMark, IsInSet, IsLowestOf, KeepsRoom, lower}

-- One set.

eq_only : (o : Ordering) → is_eq o ≡ true → o ≡ Equal
eq_only Less e = absurd (cc (e))
eq_only Equal e = refl
eq_only Greater e = absurd (cc (e))

found_at : (task : ℕ) → is_at (nat_cmp task) task ≡ true
found_at task = ap is_eq (tied_itself nat_cmp_total task)

not_found : (task t : ℕ) (b : Bool) → is_at (nat_cmp task) t ≡ b → t ≢ task → b ≡ false
not_found task t false e other = refl
not_found task t true e other = absurd (other (sym (exact_unsigned task t (eq_only (nat_cmp task t) e))))

module _ (task t : ℕ) (had has : Bool) where
  pub in_added : has ≡ cond (is_at (nat_cmp task) t) true had → IsTrue has ↔ (IsTrue had ⊎ (t ≡ task))
  in_added is = elim (cases_eq t task) [
    | inl same ↦
        let now : has ≡ true = is ∙ ap (λ (b : Bool). cond b true had) (subst (λ (n : ℕ). is_at (nat_cmp task) n ≡ true) (sym same) (found_at task)) in
        (λ h. inr same, λ h. now)
    | inr other ↦
        let stays : has ≡ had = is ∙ ap (λ (b : Bool). cond b true had) (not_found task t (is_at (nat_cmp task) t) refl other) in
        (λ h. inl (sym stays ∙ h), λ h. elim h [ inl was ↦ stays ∙ was | inr same ↦ absurd (other same) ])
  ]

  pub in_taken : has ≡ cond (is_at (nat_cmp task) t) false had → IsTrue has ↔ (IsTrue had × ¬ (t ≡ task))
  in_taken is = elim (cases_eq t task) [
    | inl same ↦
        let now : has ≡ false = is ∙ ap (λ (b : Bool). cond b false had) (subst (λ (n : ℕ). is_at (nat_cmp task) n ≡ true) (sym same) (found_at task)) in
        (λ h. absurd (false≢true (sym now ∙ h)), λ h. absurd (h.1 same))
    | inr other ↦
        let stays : has ≡ had = is ∙ ap (λ (b : Bool). cond b false had) (not_found task t (is_at (nat_cmp task) t) refl other) in
        (λ h. (sym stays ∙ h, other), λ h. stays ∙ h.0)
  ]

-- One of many sets.

abbrev pub Adds : BTreeSet ℕ → BTreeSet ℕ → ℕ → Type 0
Adds old new task = (q : ℕ) → contains nat_cmp new q ≡ cond (is_at (nat_cmp task) q) true (contains nat_cmp old q)

abbrev pub Takes : BTreeSet ℕ → BTreeSet ℕ → ℕ → Type 0
Takes old new task = (q : ℕ) → contains nat_cmp new q ≡ cond (is_at (nat_cmp task) q) false (contains nat_cmp old q)

module _ (old new : BTreeSet ℕ) (task : ℕ) where
  pub set_added : Adds old new task → (sets : List (BTreeSet ℕ)) (at : ℕ) → slice_get sets at ≡ Some old → (i t : ℕ)
      → IsInSet (slice_set sets at new) i t ↔ (IsInSet sets i t ⊎ IsEntry at task i t)
  set_added adds [] at here i t = absurd (cc (here))
  set_added adds (x ∷ sets) zero here zero t =
      let same : x ≡ old = cc (here) in
      let one = in_added task t (contains nat_cmp x t) (contains nat_cmp new t) (adds t ∙ ap (λ (s : BTreeSet ℕ). cond (is_at (nat_cmp task) t) true (contains nat_cmp s t)) (sym same)) in
      (λ h. elim (one.0 h) [ inl was ↦ inl was | inr is ↦ inr (refl, is) ], λ h. elim h [ inl was ↦ one.1 (inl was) | inr is ↦ one.1 (inr is.1) ])
  set_added adds (x ∷ sets) zero here (suc i) t = (λ h. inl h, λ h. elim h [ inl was ↦ was | inr is ↦ absurd (omega (arith, is.0)) ])
  set_added adds (x ∷ sets) (suc at) here zero t = (λ h. inl h, λ h. elim h [ inl was ↦ was | inr is ↦ absurd (omega (arith, is.0)) ])
  set_added adds (x ∷ sets) (suc at) here (suc i) t =
      let rest = set_added adds sets at here i t in (
        λ h. elim (rest.0 h) [ inl was ↦ inl was | inr is ↦ inr (ap (λ (n : ℕ). suc n) is.0, is.1) ],
        λ h. elim h [ inl was ↦ rest.1 (inl was) | inr is ↦ rest.1 (inr (omega (arith, is.0), is.1)) ],
      )

  pub set_taken : Takes old new task → (sets : List (BTreeSet ℕ)) (at : ℕ) → slice_get sets at ≡ Some old → (i t : ℕ)
      → IsInSet (slice_set sets at new) i t ↔ (IsInSet sets i t × ¬ IsEntry at task i t)
  set_taken takes [] at here i t = absurd (cc (here))
  set_taken takes (x ∷ sets) zero here zero t =
      let same : x ≡ old = cc (here) in
      let one = in_taken task t (contains nat_cmp x t) (contains nat_cmp new t) (takes t ∙ ap (λ (s : BTreeSet ℕ). cond (is_at (nat_cmp task) t) false (contains nat_cmp s t)) (sym same)) in
      (λ h. let was = one.0 h in (was.0, λ is. was.1 is.1), λ h. one.1 (h.0, λ is. h.1 (refl, is)))
  set_taken takes (x ∷ sets) zero here (suc i) t = (λ h. (h, λ is. omega (arith, is.0)), λ h. h.0)
  set_taken takes (x ∷ sets) (suc at) here zero t = (λ h. (h, λ is. omega (arith, is.0)), λ h. h.0)
  set_taken takes (x ∷ sets) (suc at) here (suc i) t =
      let rest = set_taken takes sets at here i t in (
        λ h. let was = rest.0 h in (was.0, λ is. was.1 (omega (arith, is.0), is.1)),
        λ h. rest.1 (h.0, λ is. h.1 (ap (λ (n : ℕ). suc n) is.0, is.1)),
      )

-- an empty set more
pub none_more : (sets : List (BTreeSet ℕ)) (new : BTreeSet ℕ) → new.keys ≡ [] → ((i t : ℕ) → ¬ IsInSet sets i t) → (i t : ℕ) → ¬ IsInSet (sets ++ new ∷ []) i t
none_more [] new empty none zero t h = false≢true (ap (λ (ks : List ℕ). contains nat_cmp (record { keys = ks }) t) (sym empty) ∙ h)
none_more [] new empty none (suc i) t h = false≢true h
none_more (x ∷ sets) new empty none zero t h = none 0 t h
none_more (x ∷ sets) new empty none (suc i) t h = none_more sets new empty (λ j u. none (suc j) u) i t h

-- The lowest of some numbers.

not_above : (low n : ℕ) → is_gt (nat_cmp low n) ≡ false → low ≤ n
not_above low n e = grind (arith, e)

pub lowest_same : (P Q : ℕ → Type 0) → ((n : ℕ) → P n ↔ Q n) → (o : Option ℕ) → IsLowestOf P o → IsLowestOf Q o
lowest_same P Q same None none = λ n q. none n ((same n).1 q)
lowest_same P Q same (Some low) is = ((same low).0 is.0, λ n q. is.1 n ((same n).1 q))

lowest_first : (P Q : ℕ → Type 0) (a b : ℕ) → IsLowestOf P (Some a) → IsLowestOf Q (Some b) → a ≤ b → IsLowestOf (λ n. P n ⊎ Q n) (Some a)
lowest_first P Q a b p q below = (inl p.0, λ n h. elim h [ inl x ↦ p.1 n x | inr y ↦ (let least = q.1 n y in omega (arith, below, least)) ])

lowest_second : (P Q : ℕ → Type 0) (a b : ℕ) → IsLowestOf P (Some a) → IsLowestOf Q (Some b) → b ≤ a → IsLowestOf (λ n. P n ⊎ Q n) (Some b)
lowest_second P Q a b p q below = (inr q.0, λ n h. elim h [ inl x ↦ (let least = p.1 n x in omega (arith, below, least)) | inr y ↦ q.1 n y ])

pub lowest_both : (P Q : ℕ → Type 0) (a b : Option ℕ) → IsLowestOf P a → IsLowestOf Q b → IsLowestOf (λ n. P n ⊎ Q n) (lower a b)
lowest_both P Q None None p q = λ n h. elim h [ inl x ↦ p n x | inr y ↦ q n y ]
lowest_both P Q None (Some b) p q = (inr q.0, λ n h. elim h [ inl x ↦ absurd (p n x) | inr y ↦ q.1 n y ])
lowest_both P Q (Some a) None p q = (inl p.0, λ n h. elim h [ inl x ↦ p.1 n x | inr y ↦ absurd (q n y) ])
lowest_both P Q (Some a) (Some b) p q = elim (cases_le a b) [
  | inl below ↦
      let is : a ≡ min a b = omega (arith, below) in
      subst (λ (n : ℕ). IsLowestOf (λ n. P n ⊎ Q n) (Some n)) is (lowest_first P Q a b p q below)
  | inr above ↦
      let is : b ≡ min a b = omega (arith, above) in
      subst (λ (n : ℕ). IsLowestOf (λ n. P n ⊎ Q n) (Some n)) is (lowest_second P Q a b p q above)
] where
  cases_le : (m n : ℕ) → (m ≤ n) ⊎ (n ≤ m)
  cases_le zero n = inl (omega arith)
  cases_le (suc m) zero = inr (omega arith)
  cases_le (suc m) (suc n) = elim (cases_le m n) [ inl x ↦ inl (omega (arith, x)) | inr y ↦ inr (omega (arith, y)) ]

-- Marks.

module _ (marks : List EffectMark) (i : ℕ) (d : EffectMark) (below : i < length marks) where
  abbrev mark : EffectMark
  mark = get_or marks i d

  more_marks : take (i + 1) marks ≡ take i marks ++ mark ∷ []
  more_marks = take_more marks i d below

  pub marks_more : (m : EffectMark) → Contains (take (i + 1) marks) m ↔ (Contains (take i marks) m ⊎ (m ≡ mark))
  marks_more m = (
    λ h. elim (Contains-push_cases (take i marks) mark m (subst (λ (l : List EffectMark). Contains l m) more_marks h)) [ inl was ↦ inl was | inr same ↦ inr (sym same) ],
    λ h. subst (λ (l : List EffectMark). Contains l m) (sym more_marks) (elim h [
      | inl was ↦ Contains-append_left (take i marks) (mark ∷ []) m was
      | inr same ↦ subst (λ (x : EffectMark). Contains (take i marks ++ mark ∷ []) x) (sym same) (Contains-push (take i marks) mark)
    ]),
  )

  pub holds_more : (holders : Holders) (t : ℕ) → (HoldsOne holders (take i marks) t ⊎ Holds holders mark t) ↔ HoldsOne holders (take (i + 1) marks) t
  holds_more holders t = (
    λ h. elim h [
      | inl was ↦ (was.0, (marks_more was.0).1 (inl was.1), was.2)
      | inr one ↦ (mark, (marks_more mark).1 (inr refl), one)
    ],
    λ h. elim ((marks_more h.0).0 h.1) [
      | inl was ↦ inl (h.0, was, h.2)
      | inr same ↦ inr (subst (λ (m : EffectMark). Holds holders m t) same h.2)
    ],
  )

  pub entered_more : (task : ℕ) (first old new : Holders) → ((m : EffectMark) (t : ℕ) → Holds old m t ↔ (Holds first m t ⊎ ((t ≡ task) × Contains (take i marks) m)))
      → ((m : EffectMark) (t : ℕ) → Holds new m t ↔ (Holds old m t ⊎ ((t ≡ task) × (m ≡ mark)))) → (m : EffectMark) (t : ℕ)
      → Holds new m t ↔ (Holds first m t ⊎ ((t ≡ task) × Contains (take (i + 1) marks) m))
  entered_more task first old new before adds m t = (
    λ h. elim ((adds m t).0 h) [
      | inl was ↦ elim ((before m t).0 was) [ inl far ↦ inl far | inr one ↦ inr (one.0, (marks_more m).1 (inl one.1)) ]
      | inr one ↦ inr (one.0, (marks_more m).1 (inr one.1))
    ],
    λ h. elim h [
      | inl far ↦ (adds m t).1 (inl ((before m t).1 (inl far)))
      | inr one ↦ elim ((marks_more m).0 one.1) [
        | inl was ↦ (adds m t).1 (inl ((before m t).1 (inr (one.0, was))))
        | inr same ↦ (adds m t).1 (inr (one.0, same))
      ]
    ],
  )

  pub left_more : (task : ℕ) (first old new : Holders) → ((m : EffectMark) (t : ℕ) → Holds old m t ↔ (Holds first m t × ¬ ((t ≡ task) × Contains (take i marks) m)))
      → ((m : EffectMark) (t : ℕ) → Holds new m t ↔ (Holds old m t × ¬ ((t ≡ task) × (m ≡ mark)))) → (m : EffectMark) (t : ℕ)
      → Holds new m t ↔ (Holds first m t × ¬ ((t ≡ task) × Contains (take (i + 1) marks) m))
  left_more task first old new before takes m t = (
    λ h.
        let was = (takes m t).0 h in
        let far = (before m t).0 was.0 in
        (far.0, λ one. elim ((marks_more m).0 one.1) [ inl had ↦ far.1 (one.0, had) | inr same ↦ was.1 (one.0, same) ]),
    λ h. (takes m t).1 ((before m t).1 (h.0, λ one. h.1 (one.0, (marks_more m).1 (inl one.1))), λ one. h.1 (one.0, (marks_more m).1 (inr one.1))),
  )

-- sets stay for their marks
pub for_later : (old new : Holders) → KeepsRoom old new → (mark : EffectMark) → IsForMark old mark → IsForMark new mark
for_later old new keeps (Own effect) there = let same = keeps.own in omega (arith, same, there)
for_later old new keeps (Rival effect) there = let same = keeps.rival in omega (arith, same, there)
