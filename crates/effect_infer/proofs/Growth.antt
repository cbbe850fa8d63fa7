-- The list of needs grows, one step after another.
use Rattle.std.proofs.Common.{◌≡◌, ◌⊎◌, ◌<◌, ℕ, ◌+◌, List, [], ◌∷◌, ◌++◌, length, take, get_or, None, Some, inl, inr, refl, sym, ap, ◌∙◌, subst, arith, append_assoc, append-nil}
use Rattle.std.specs.Prelude.{slice_get}
use Rattle.std.specs.List.{Contains}
use Rattle.std.proofs.lemmas.List.{take_more}
use Rattle.std.proofs.lemmas.Option.{none-some, same_Some}
use Rattle.std.proofs.lemmas.List.Elements.{Contains-append_left, Contains-push, Contains-push_cases}
use Rattle.effect_infer.specs.declared.needs.need.Need.{Need}
use Rattle.effect_infer.proofs.needs.Inside.{covers-refl}
use Rattle.effect_infer.specs.declared.found.FoundNeed.{FoundNeed}
use Rattle.effect_infer.specs.declared.found.CallSite.{CallSite}
use Rattle.effect_infer.specs.Covered.{IsCovered, IsMet, SummaryGrows, IsHanded, IsHandedBy}

pub covered-longer : (old more : List FoundNeed) (f : FoundNeed) → IsCovered old f → IsCovered (old ++ more) f
covered-longer old more f c = (c.0, Contains-append_left old more c.0 c.1, c.2, c.3)

pub covered-grown : (old new : List FoundNeed) (more : List FoundNeed) → new ≡ old ++ more → (f : FoundNeed) → IsCovered old f → IsCovered new f
covered-grown old new more is f c = subst (λ xs. IsCovered xs f) (sym is) (covered-longer old more f c)

pub met-longer : (old more : List FoundNeed) (f : FoundNeed) → IsMet old f → IsMet (old ++ more) f
met-longer old more f h = elim h [
  | inl by ↦ inl (covered-longer old more f by)
  | inr by ↦ inr (by.0, by.1, by.2, λ cover few covers. by.3 cover few (λ other there is same rank. covers other (Contains-append_left old more other there) is same rank))
]

pub met-grown : (old new : List FoundNeed) (more : List FoundNeed) → new ≡ old ++ more → (f : FoundNeed) → IsMet old f → IsMet new f
met-grown old new more is f h = subst (λ xs. IsMet xs f) (sym is) (met-longer old more f h)

pub covered-itself : (all : List FoundNeed) (f : FoundNeed) → Contains all f → IsCovered all f
covered-itself all f there = (f, there, refl, covers-refl f.need)

-- nothing is added where all is met
pub grows-same : (all : List FoundNeed) (P : FoundNeed → Type 0) → ((f : FoundNeed) → P f → IsMet all f) → SummaryGrows all all P
grows-same all P h = record { longer = ([], sym (append-nil all)); only = λ f c. inl c; all = h }

pub grows-none : (all : List FoundNeed) (P : FoundNeed → Type 0) → ((f : FoundNeed) → P f → ⊥) → SummaryGrows all all P
grows-none all P h = grows-same all P (λ f p. absurd (h f p))

pub grows-push : (all : List FoundNeed) (found : FoundNeed) → SummaryGrows all (all ++ found ∷ []) (λ f. f ≡ found)
grows-push all found = record {
  longer = (found ∷ [], refl);
  only = λ f c. elim (Contains-push_cases all found f c) [ inl old ↦ inl old | inr e ↦ inr (sym e) ];
  all = λ f e. subst (λ g. IsMet (all ++ found ∷ []) g) (sym e) (inl (covered-itself (all ++ found ∷ []) found (Contains-push all found)));
}

-- one growth after another
pub grows-then : (a b c : List FoundNeed) (P Q R : FoundNeed → Type 0) → SummaryGrows a b P → SummaryGrows b c Q
    → ((f : FoundNeed) → R f → P f ⊎ Q f) → ((f : FoundNeed) → P f → R f) → ((f : FoundNeed) → Q f → R f) → SummaryGrows a c R
grows-then a b c P Q R first second split left right = record {
  longer = (
    first.longer.0 ++ second.longer.0,
    second.longer.1 ∙ ap (λ (xs : List FoundNeed). xs ++ second.longer.0) first.longer.1 ∙ append_assoc a first.longer.0 second.longer.0,
  );
  only = λ f there. elim (second.only f there) [
    | inl before ↦ elim (first.only f before) [ inl old ↦ inl old | inr p ↦ inr (left f p) ]
    | inr q ↦ inr (right f q)
  ];
  all = λ f r. elim (split f r) [
    | inl p ↦ met-grown b c second.longer.0 second.longer.1 f (first.all f p)
    | inr q ↦ second.all f q
  ];
}

-- the same needs, said otherwise
pub grows-as : (a b : List FoundNeed) (P Q : FoundNeed → Type 0) → SummaryGrows a b P → ((f : FoundNeed) → Q f → P f) → ((f : FoundNeed) → P f → Q f) → SummaryGrows a b Q
grows-as a b P Q g to from = record {
  longer = g.longer;
  only = λ f there. elim (g.only f there) [ inl old ↦ inl old | inr p ↦ inr (from f p) ];
  all = λ f q. g.all f (to f q);
}

-- a list of needs, one after the other
pub none-taken : {X : Type 0} (xs : List X) (x : X) → Contains (take 0 xs) x → ⊥
none-taken xs x there = let below = there.1 in omega (arith, below)

pub taken-cases : {X : Type 0} (xs : List X) (i : ℕ) (y x : X) → i < length xs → get_or xs i y ≡ y → Contains (take (i + 1) xs) x → Contains (take i xs) x ⊎ (y ≡ x)
taken-cases xs i y x below is there =
    let more = take_more xs i y below in
    elim (Contains-push_cases (take i xs) (get_or xs i y) x (subst (λ ys. Contains ys x) more there)) [
      | inl before ↦ inl before
      | inr e ↦ inr (sym is ∙ e)
    ]

pub taken-before : {X : Type 0} (xs : List X) (i : ℕ) (y x : X) → i < length xs → Contains (take i xs) x → Contains (take (i + 1) xs) x
taken-before xs i y x below there = subst (λ ys. Contains ys x) (sym (take_more xs i y below)) (Contains-append_left (take i xs) (get_or xs i y ∷ []) x there)

pub taken-last : {X : Type 0} (xs : List X) (i : ℕ) (y : X) → i < length xs → get_or xs i y ≡ y → Contains (take (i + 1) xs) y
taken-last xs i y below is =
    subst (λ ys. Contains ys y) (sym (take_more xs i y below)) (subst (λ z. Contains (take i xs ++ z ∷ []) y) (sym is) (Contains-push (take i xs) y))

-- the places of calls, one after the other
module _ (calls : List CallSite) (places : List ℕ) (method : ℕ) (need : Need) (i place : ℕ) (below : i < length places) (is : get_or places i place ≡ place) where
  split-places : (f : FoundNeed) → IsHandedBy calls (take (i + 1) places) method need f
      → IsHandedBy calls (take i places) method need f ⊎ ((call : CallSite) × (slice_get calls place ≡ Some call) × IsHanded call method need f)
  split-places f h = elim (taken-cases places i place h.0 below is h.2) [
    | inl before ↦ inl (h.0, h.1, before, h.3, h.4)
    | inr e ↦ inr (h.1, subst (λ at. slice_get calls at ≡ Some h.1) (sym e) h.3, h.4)
  ]

  pub places-more : (a b c : List FoundNeed) (call : CallSite) → slice_get calls place ≡ Some call → SummaryGrows a b (IsHandedBy calls (take i places) method need)
      → SummaryGrows b c (IsHanded call method need) → SummaryGrows a c (IsHandedBy calls (take (i + 1) places) method need)
  places-more a b c call at first second =
      grows-then a b c (IsHandedBy calls (take i places) method need) (IsHanded call method need) (IsHandedBy calls (take (i + 1) places) method need) first second
      (λ f r. elim (split-places f r) [
        | inl before ↦ inl before
        | inr other ↦ inr (subst (λ d. IsHanded d method need f) (same_Some other.0 call (sym other.1 ∙ at)) other.2)
      ])
      (λ f h. (h.0, h.1, taken-before places i place h.0 below h.2, h.3, h.4))
      (λ f h. (place, call, taken-last places i place below is, at, h))

  -- a place where no call stands hands nothing on
  pub places-skip : (a b : List FoundNeed) → slice_get calls place ≡ None → SummaryGrows a b (IsHandedBy calls (take i places) method need)
      → SummaryGrows a b (IsHandedBy calls (take (i + 1) places) method need)
  places-skip a b at first =
      grows-as a b (IsHandedBy calls (take i places) method need) (IsHandedBy calls (take (i + 1) places) method need) first
      (λ f r. elim (split-places f r) [
        | inl before ↦ before
        | inr other ↦ absurd (none-some other.0 (sym at ∙ other.1))
      ])
      (λ f h. (h.0, h.1, taken-before places i place h.0 below h.2, h.3, h.4))
