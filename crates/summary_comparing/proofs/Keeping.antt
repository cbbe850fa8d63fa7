-- One widest effect more is kept, until none is left, or too many were kept.
use Rattle.std.proofs.Common.{◌≡◌, ◌⊎◌, ◌<◌, ◌≤◌, Bool, true, false, ◌||◌, List, [], ◌∷◌, ◌++◌, length, if◌then◌else◌, inl, inr, refl, sym, ap, ◌∙◌, subst}
use Rattle.std.specs.List.{Contains, list_any}
use Rattle.std.proofs.lemmas.Bool.{cases_Bool, false≢true}
use Rattle.std.proofs.lemmas.List.Elements.{All-contains}
use Rattle.twe_base.specs.Language.{max_effects}
use Rattle.twe_base.proofs.Members.{IsIn, in-left, in-right, in-cases, contains-in, in-contains, list_any-in, in-list_any}
use Rattle.effect_sets.specs.declared.effects.Effect.{Effect}
use Rattle.effect_sets.specs.Covers.{effect_covers}
use Rattle.summary_comparing.specs.Widest.{AreFewWidest, AreUnrelated, HasManyWidest, covers_some, is_under, not_under}
use Rattle.summary_comparing.specs.inner.Keeping.{IsTopAmong, KeepsWidest}
use Rattle.summary_comparing.proofs.Covers.{cover-trans}

or-false : (a b : Bool) → (a || b) ≡ false → (a ≡ false) × (b ≡ false)
or-false true b h = absurd (false≢true (sym h))
or-false false b h = (refl, h)

-- none passes a test, and no one more
none-push : {X : Type 0} (p : X → Bool) (xs : List X) (x : X) → list_any p xs ≡ false → p x ≡ false → list_any p (xs ++ x ∷ []) ≡ false
none-push p [] x none fails = ap (λ b. b || false) fails
none-push p (y ∷ ys) x none fails =
    let parts = or-false (p y) (list_any p ys) none in
    ap (λ b. b || list_any p (ys ++ x ∷ [])) parts.0 ∙ none-push p ys x parts.1 fails

none-any : {X : Type 0} (p : X → Bool) (xs : List X) → ((x : X) → IsIn x xs → p x ≡ true → ⊥) → list_any p xs ≡ false
none-any p xs none = elim (cases_Bool (list_any p xs)) [
  | inl some ↦ let found = list_any-in p xs some in absurd (none found.0 found.1 found.2)
  | inr fails ↦ fails
]

unrelated-push : (xs : List Effect) (t : Effect) → AreUnrelated xs → is_under xs t ≡ false → covers_some xs t ≡ false → AreUnrelated (xs ++ t ∷ [])
unrelated-push [] t all under over = (refl, refl, tt)
unrelated-push (x ∷ xs) t all under over =
    let below = or-false (effect_covers x t) (is_under xs t) under in
    let above = or-false (effect_covers t x) (covers_some xs t) over in (
      none-push (λ wide. effect_covers wide x) xs t all.0 above.0,
      none-push (λ narrow. effect_covers x narrow) xs t all.1 below.0,
      unrelated-push xs t all.2 below.1 above.1,
    )

-- those that it does not cover are left
left-by : (b : Bool) (e x : Effect) (rest : List Effect) → IsIn e (if b then rest else x ∷ rest) → ((e ≡ x) × (b ≡ false)) ⊎ IsIn e rest
left-by true e x rest h = inr h
left-by false e x rest (inl is) = inl (is, refl)
left-by false e x rest (inr h) = inr h

from-not-under : (left : List Effect) (top e : Effect) → IsIn e (not_under left top) → IsIn e left × (effect_covers top e ≡ false)
from-not-under [] top e h = absurd h
from-not-under (x ∷ left) top e h = elim (left-by (effect_covers top x) e x (not_under left top) h) [
  | inl here ↦ (inl here.0, subst (λ (y : Effect). effect_covers top y ≡ false) (sym here.0) here.1)
  | inr later ↦ let found = from-not-under left top e later in (inr found.0, found.1)
]

in-more : (b : Bool) (e x : Effect) (rest : List Effect) → IsIn e rest → IsIn e (if b then rest else x ∷ rest)
in-more true e x rest h = h
in-more false e x rest h = inr h

in-not-under : (left : List Effect) (top e : Effect) → IsIn e left → effect_covers top e ≡ false → IsIn e (not_under left top)
in-not-under [] top e h out = absurd h
in-not-under (x ∷ left) top e (inl is) out =
    subst (λ b. IsIn e (if b then not_under left top else x ∷ not_under left top)) (sym (ap (effect_covers top) (sym is) ∙ out)) (inl is)
in-not-under (x ∷ left) top e (inr h) out = in-more (effect_covers top x) e x (not_under left top) (in-not-under left top e h out)

-- it is among those that were kept, or it is the new one
kept-cases : (kept : List Effect) (top e : Effect) → Contains (kept ++ top ∷ []) e → Contains kept e ⊎ (e ≡ top)
kept-cases kept top e c = elim (in-cases e kept (top ∷ []) (contains-in (kept ++ top ∷ []) e c)) [
  | inl front ↦ inl (in-contains kept e front)
  | inr last ↦ elim last [ inl is ↦ inr is | inr none ↦ absurd none ]
]

module _ (effects kept left : List Effect) (keeps : KeepsWidest effects kept left) (top : Effect) (there : Contains left top) (above : IsTopAmong left top) where
  top-in : Contains effects top
  top-in = keeps.left_among top there

  -- none that was kept covers it
  not-met : (k : Effect) → IsIn k kept → effect_covers k top ≡ true → ⊥
  not-met k here h = false≢true (sym (keeps.new top there) ∙ in-list_any (λ wide. effect_covers wide top) kept k here h)

  top-top : (other : Effect) → Contains effects other → effect_covers other top ≡ true → effect_covers top other ≡ true
  top-top other here h = elim (keeps.met other here) [
    | inl under ↦
        let by = list_any-in (λ wide. effect_covers wide other) kept under in
        absurd (not-met by.0 by.1 (cover-trans by.0 other top by.2 h))
    | inr more ↦ All-contains (λ o. effect_covers o top ≡ true → effect_covers top o ≡ true) left other above more h
  ]

  -- it covers none that was kept
  not-over : covers_some kept top ≡ false
  not-over = none-any (λ narrow. effect_covers top narrow) kept
      (λ k here h. not-met k here (keeps.top k top (in-contains kept k here) top-in h))

  still-met : (e : Effect) → Contains effects e → (is_under (kept ++ top ∷ []) e ≡ true) ⊎ Contains (not_under left top) e
  still-met e c = elim (keeps.met e c) [
    | inl under ↦
        let by = list_any-in (λ wide. effect_covers wide e) kept under in
        inl (in-list_any (λ wide. effect_covers wide e) (kept ++ top ∷ []) by.0 (in-left by.0 kept (top ∷ []) by.1) by.2)
    | inr more ↦ elim (cases_Bool (effect_covers top e)) [
      | inl under ↦ inl (in-list_any (λ wide. effect_covers wide e) (kept ++ top ∷ []) top (in-right top kept (top ∷ []) (inl refl)) under)
      | inr out ↦ inr (in-contains (not_under left top) e (in-not-under left top e (contains-in left e more) out))
    ]
  ]

  pub keeps-one : KeepsWidest effects (kept ++ top ∷ []) (not_under left top)
  keeps-one = record {
    among = λ e c. elim (kept-cases kept top e c) [ inl front ↦ keeps.among e front | inr is ↦ subst (Contains effects) (sym is) top-in ];
    left_among = λ e c. keeps.left_among e (in-contains left e (from-not-under left top e (contains-in (not_under left top) e c)).0);
    top = λ e other c here h. elim (kept-cases kept top e c) [
      | inl front ↦ keeps.top e other front here h
      | inr is ↦ subst (λ (x : Effect). effect_covers x other ≡ true) (sym is) (top-top other here (subst (λ (x : Effect). effect_covers other x ≡ true) is h))
    ];
    unrelated = unrelated-push kept top keeps.unrelated (keeps.new top there) not-over;
    met = still-met;
    new = λ e c.
        let from = from-not-under left top e (contains-in (not_under left top) e c) in
        none-push (λ wide. effect_covers wide e) kept top (keeps.new e (in-contains left e from.0)) from.1;
  }

pub keeps-none : (effects : List Effect) → KeepsWidest effects [] effects
keeps-none effects = record {
  among = λ e c. absurd (contains-in [] e c);
  left_among = λ e c. c;
  top = λ e other c here h. absurd (contains-in [] e c);
  unrelated = tt;
  met = λ e c. inr c;
  new = λ e c. refl;
}

pub few-kept : (effects kept left : List Effect) → KeepsWidest effects kept left → left ≡ [] → length kept ≤ max_effects → AreFewWidest effects kept
few-kept effects kept left keeps none few = record {
  among = keeps.among;
  all = λ e c. elim (keeps.met e c) [
    | inl under ↦ under
    | inr more ↦ absurd (contains-in [] e (subst (λ (es : List Effect). Contains es e) none more))
  ];
  unrelated = keeps.unrelated;
  few = few;
}

pub many-kept : (effects kept left : List Effect) → KeepsWidest effects kept left → max_effects < length kept → HasManyWidest effects
many-kept effects kept left keeps many = record {
  widest = kept;
  among = keeps.among;
  top = keeps.top;
  unrelated = keeps.unrelated;
  many = many;
}
