-- Equalities that are solved can hold together, and those that are not cannot.
use Rattle.std.proofs.Common.{◌≡◌, ◌⊎◌, ℤ, pos, Bool, true, false, not, List, [], ◌∷◌, ◌++◌, Option, None, Some, is_some, if◌then◌else◌, inl, inr, refl, sym, ap, ◌∙◌, subst, int_eq, eqb-true, eq-eqb, append_assoc, append-nil}
use Rattle.std.specs.Prelude.{◌&&◌, ◌||◌, IfNone, IfSome}
use Rattle.std.specs.List.{list_all, list_any}
use Rattle.std.proofs.lemmas.Bool.{false≢true, and_parts, and_from, and_cases, or_cases}
use Rattle.std.proofs.lemmas.Bool.Decides.{Decides-int_eq}
use Rattle.twe_base.proofs.Members.{IsIn, in-list_all, false-not}
use Rattle.region_paths.specs.Filled.{Valuation}
use Rattle.effect_meeting.specs.declared.equality.Term.{Term}
use Rattle.effect_meeting.specs.declared.equality.Term.TheVariants.{Literal, First, Second}
use Rattle.effect_meeting.specs.declared.equality.Equality.{Equality}
use Rattle.effect_meeting.specs.Equalities.{term_value, equality_holds, equalities_hold, same_term}
use Rattle.effect_meeting.specs.PathEqualities.{equal_terms}
use Rattle.effect_meeting.specs.Solving.{replaced, after_steps, is_literal, steps_after, can_hold, same_equality, says_nothing_new, telling_after, telling}
use Rattle.effect_meeting.specs.Solutions.{AreSolvedBy, NeverHold, first_by, plain_value, second_by, solved_value}
use Rattle.effect_meeting.proofs.Exactness.{all-two}

same-true : (a b : Term) → same_term a b ≡ true → a ≡ b
same-true (Literal i) (Literal j) h = ap Literal ((Decides-int_eq i j).0 h)
same-true (Literal i) (First k) h = absurd (false≢true h)
same-true (Literal i) (Second k) h = absurd (false≢true h)
same-true (First k) (Literal j) h = absurd (false≢true h)
same-true (First k) (First l) h = ap First (eqb-true k l h)
same-true (First k) (Second l) h = absurd (false≢true h)
same-true (Second k) (Literal j) h = absurd (false≢true h)
same-true (Second k) (First l) h = absurd (false≢true h)
same-true (Second k) (Second l) h = ap Second (eqb-true k l h)

same-refl : (a : Term) → same_term a a ≡ true
same-refl (Literal i) = (Decides-int_eq i i).1 refl
same-refl (First k) = eq-eqb k k refl
same-refl (Second k) = eq-eqb k k refl

-- what a step makes of its two sides
chosen-same : (b : Bool) (x : Term) → (if b then x else x) ≡ x
chosen-same true x = refl
chosen-same false x = refl

left-replaced : (step : Equality) → replaced step step.left ≡ step.right
left-replaced step = ap (λ b. if b then step.right else step.left) (same-refl step.left)

right-replaced : (step : Equality) → replaced step step.right ≡ step.right
right-replaced step = chosen-same (same_term step.right step.left) step.right

after-append : (steps more : List Equality) (t : Term) → after_steps (steps ++ more) t ≡ after_steps more (after_steps steps t)
after-append [] more t = refl
after-append (step ∷ steps) more t = after-append steps more (replaced step t)

-- the two ways of a choice
two-ways : {A : Type 0} (b : Bool) (x y r : A) → (if b then x else y) ≡ r → ((b ≡ true) × (x ≡ r)) ⊎ ((b ≡ false) × (y ≡ r))
two-ways true x y r h = inl (refl, h)
two-ways false x y r h = inr (refl, h)

-- a valuation that the steps keep
abbrev IsKept : Valuation → Valuation → List Equality → Type 0
IsKept v w steps = (t : Term) → term_value v w (after_steps steps t) ≡ term_value v w t

chosen-value : (v w : Valuation) (b : Bool) (t left right : Term) → same_term t left ≡ b → term_value v w left ≡ term_value v w right
    → term_value v w (if b then right else t) ≡ term_value v w t
chosen-value v w true t left right h e = sym e ∙ ap (term_value v w) (sym (same-true t left h))
chosen-value v w false t left right h e = refl

kept-push : (v w : Valuation) (steps : List Equality) (step : Equality) → IsKept v w steps → term_value v w step.left ≡ term_value v w step.right → IsKept v w (steps ++ step ∷ [])
kept-push v w steps step kept e t =
    ap (term_value v w) (after-append steps (step ∷ []) t)
    ∙ chosen-value v w (same_term (after_steps steps t) step.left) (after_steps steps t) step.left step.right refl e ∙ kept t

literal-values : (v w : Valuation) (a b : Term) → is_literal a ≡ true → is_literal b ≡ true → term_value v w a ≡ term_value v w b → a ≡ b
literal-values v w (Literal i) (Literal j) h k e = ap Literal e
literal-values v w (Literal i) (First l) h k e = absurd (false≢true k)
literal-values v w (Literal i) (Second l) h k e = absurd (false≢true k)
literal-values v w (First l) b h k e = absurd (false≢true h)
literal-values v w (Second l) b h k e = absurd (false≢true h)

never-hold : (v w : Valuation) (steps es : List Equality) → steps_after steps es ≡ None → IsKept v w steps → equalities_hold v w es ≡ true → ⊥
never-hold v w steps [] h kept holds = cc
never-hold v w steps (e ∷ es) h kept holds =
    let left = after_steps steps e.left in
    let right = after_steps steps e.right in
    let parts = and_parts (equality_holds v w e) (equalities_hold v w es) holds in
    let alike : term_value v w left ≡ term_value v w right = kept e.left ∙ (Decides-int_eq _ _).0 parts.0 ∙ sym (kept e.right) in
    elim (two-ways (same_term left right) (steps_after steps es) _ None h) [
      | inl same ↦ never-hold v w steps es same.1 kept parts.1
      | inr other ↦ elim (two-ways (is_literal left) _ (steps_after (steps ++ equal_terms left right ∷ []) es) None other.1) [
        | inl literal ↦ elim (two-ways (is_literal right) None (steps_after (steps ++ equal_terms right left ∷ []) es) None literal.1) [
          | inl both ↦
              let two = literal-values v w left right literal.0 both.0 alike in
              false≢true (sym other.0 ∙ ap (λ t. same_term left t) (sym two) ∙ same-refl left)
          | inr later ↦ never-hold v w (steps ++ equal_terms right left ∷ []) es later.1 (kept-push v w steps (equal_terms right left) kept (sym alike)) parts.1
        ]
        | inr free_left ↦ never-hold v w (steps ++ equal_terms left right ∷ []) es free_left.1 (kept-push v w steps (equal_terms left right) kept alike) parts.1
      ]
    ]

-- wherever the equalities hold, their steps keep the values
all-kept : (v w : Valuation) (steps es all : List Equality) → steps_after steps es ≡ Some all → IsKept v w steps → equalities_hold v w es ≡ true → IsKept v w all
all-kept v w steps [] all h kept holds = let same : steps ≡ all = cc in subst (IsKept v w) same kept
all-kept v w steps (e ∷ es) all h kept holds =
    let left = after_steps steps e.left in
    let right = after_steps steps e.right in
    let parts = and_parts (equality_holds v w e) (equalities_hold v w es) holds in
    let alike : term_value v w left ≡ term_value v w right = kept e.left ∙ (Decides-int_eq _ _).0 parts.0 ∙ sym (kept e.right) in
    elim (two-ways (same_term left right) (steps_after steps es) _ (Some all) h) [
      | inl same ↦ all-kept v w steps es all same.1 kept parts.1
      | inr other ↦ elim (two-ways (is_literal left) _ (steps_after (steps ++ equal_terms left right ∷ []) es) (Some all) other.1) [
        | inl literal ↦ elim (two-ways (is_literal right) None (steps_after (steps ++ equal_terms right left ∷ []) es) (Some all) literal.1) [
          | inl both ↦ let none : None ≡ Some all = both.1 in cc
          | inr later ↦ all-kept v w (steps ++ equal_terms right left ∷ []) es all later.1 (kept-push v w steps (equal_terms right left) kept (sym alike)) parts.1
        ]
        | inr free_left ↦ all-kept v w (steps ++ equal_terms left right ∷ []) es all free_left.1 (kept-push v w steps (equal_terms left right) kept alike) parts.1
      ]
    ]

-- a step replaces no literal
abbrev replaces_none : Equality → Bool
replaces_none step = not (is_literal step.left)

literal-replaced : (step : Equality) (i : ℤ) → replaces_none step ≡ true → replaced step (Literal i) ≡ Literal i
literal-replaced step i h = by-left step.left step.right h where
  by-left : (left right : Term) → not (is_literal left) ≡ true → (if same_term (Literal i) left then right else Literal i) ≡ Literal i
  by-left (Literal j) right g = absurd (false≢true g)
  by-left (First k) right g = refl
  by-left (Second k) right g = refl

literal-stays : (steps : List Equality) (i : ℤ) → list_all replaces_none steps ≡ true → after_steps steps (Literal i) ≡ Literal i
literal-stays [] i h = refl
literal-stays (step ∷ steps) i h =
    let parts = and_parts (replaces_none step) (list_all replaces_none steps) h in
    ap (after_steps steps) (literal-replaced step i parts.0) ∙ literal-stays steps i parts.1

all-push : (steps : List Equality) (step : Equality) → list_all replaces_none steps ≡ true → replaces_none step ≡ true → list_all replaces_none (steps ++ step ∷ []) ≡ true
all-push [] step h k = and_from _ _ k refl
all-push (s ∷ steps) step h k =
    let parts = and_parts (replaces_none s) (list_all replaces_none steps) h in
    and_from _ _ parts.0 (all-push steps step parts.1 k)

-- steps that make each equality one of a term and itself
record Solves (steps es : List Equality) (all : List Equality) : Type 0 where
  pub free_left : list_all replaces_none all ≡ true
  pub more : List Equality
  pub longer : all ≡ steps ++ more
  pub alike : (e : Equality) → IsIn e es → after_steps all e.left ≡ after_steps all e.right

-- one equality more, which a step makes one of a term and itself
solves-more : (steps : List Equality) (step e : Equality) (es all : List Equality) → Solves (steps ++ step ∷ []) es all
    → replaced step (after_steps steps e.left) ≡ replaced step (after_steps steps e.right) → Solves steps (e ∷ es) all
solves-more steps step e es all s h = record {
  free_left = s.free_left;
  more = step ∷ s.more;
  longer = s.longer ∙ append_assoc steps (step ∷ []) s.more;
  alike = λ f there. elim there [
    | inl is ↦ subst (λ (g : Equality). after_steps all g.left ≡ after_steps all g.right) (sym is)
        (through e.left ∙ ap (after_steps s.more) h ∙ sym (through e.right))
    | inr later ↦ s.alike f later
  ];
} where
  through : (t : Term) → after_steps all t ≡ after_steps s.more (replaced step (after_steps steps t))
  through t =
      ap (λ (xs : List Equality). after_steps xs t) (s.longer ∙ append_assoc steps (step ∷ []) s.more) ∙ after-append steps (step ∷ s.more) t

solves-same : (steps : List Equality) (e : Equality) (es all : List Equality) → Solves steps es all → after_steps steps e.left ≡ after_steps steps e.right → Solves steps (e ∷ es) all
solves-same steps e es all s h = record {
  free_left = s.free_left;
  more = s.more;
  longer = s.longer;
  alike = λ f there. elim there [
    | inl is ↦ subst (λ (g : Equality). after_steps all g.left ≡ after_steps all g.right) (sym is)
        (through e.left ∙ ap (after_steps s.more) h ∙ sym (through e.right))
    | inr later ↦ s.alike f later
  ];
} where
  through : (t : Term) → after_steps all t ≡ after_steps s.more (after_steps steps t)
  through t = ap (λ (xs : List Equality). after_steps xs t) s.longer ∙ after-append steps s.more t

solved : (steps es all : List Equality) → list_all replaces_none steps ≡ true → steps_after steps es ≡ Some all → Solves steps es all
solved steps [] all free_left h =
    let same : steps ≡ all = cc in
    subst (Solves steps []) same (record { free_left = free_left; more = []; longer = sym (append-nil steps); alike = λ e there. absurd there })
solved steps (e ∷ es) all free_left h =
    let left = after_steps steps e.left in
    let right = after_steps steps e.right in
    elim (two-ways (same_term left right) (steps_after steps es) _ (Some all) h) [
      | inl same ↦ solves-same steps e es all (solved steps es all free_left same.1) (same-true left right same.0)
      | inr other ↦ elim (two-ways (is_literal left) _ (steps_after (steps ++ equal_terms left right ∷ []) es) (Some all) other.1) [
        | inl literal ↦ elim (two-ways (is_literal right) None (steps_after (steps ++ equal_terms right left ∷ []) es) (Some all) literal.1) [
          | inl both ↦ let none : None ≡ Some all = both.1 in cc
          | inr open_right ↦
              let step = equal_terms right left in
              let later = solved (steps ++ step ∷ []) es all (all-push steps step free_left (false-not (is_literal right) open_right.0)) open_right.1 in
              solves-more steps step e es all later (right-replaced step ∙ sym (left-replaced step))
        ]
        | inr open_left ↦
            let step = equal_terms left right in
            let later = solved (steps ++ step ∷ []) es all (all-push steps step free_left (false-not (is_literal left) open_left.0)) open_left.1 in
            solves-more steps step e es all later (left-replaced step ∙ sym (right-replaced step))
      ]
    ]

value-after : (steps : List Equality) → list_all replaces_none steps ≡ true → (t : Term)
    → term_value (first_by steps) (second_by steps) t ≡ solved_value steps t
value-after steps free_left (Literal i) = ap plain_value (sym (literal-stays steps i free_left))
value-after steps free_left (First k) = refl
value-after steps free_left (Second k) = refl

-- a literal has its value under all valuations
literal-value : (v w : Valuation) (t : Term) → is_literal t ≡ true → term_value v w t ≡ plain_value t
literal-value v w (Literal i) h = refl
literal-value v w (First k) h = absurd (false≢true h)
literal-value v w (Second k) h = absurd (false≢true h)

pub solved-by : (es steps : List Equality) → steps_after [] es ≡ Some steps → AreSolvedBy es steps
solved-by es steps h =
    let s = solved [] es steps refl h in record {
      hold = in-list_all (equality_holds (first_by steps) (second_by steps)) es (λ e there. (Decides-int_eq _ _).1
          (value-after steps s.free_left e.left ∙ ap plain_value (s.alike e there) ∙ sym (value-after steps s.free_left e.right)));
      forced = λ v w holds t literal.
          sym (all-kept v w [] es steps h (λ t. refl) holds t) ∙ literal-value v w (after_steps steps t) literal;
    }

pub none-never : (es : List Equality) → steps_after [] es ≡ None → NeverHold es
none-never es h v w holds = never-hold v w [] es h (λ t. refl) holds

-- the same of an answer
pub solved-if : (es : List Equality) (found : Option (List Equality)) → found ≡ steps_after [] es → IfSome found (AreSolvedBy es)
solved-if es None is = tt
solved-if es (Some steps) is = solved-by es steps (sym is)

pub never-if : (es : List Equality) (found : Option (List Equality)) → found ≡ steps_after [] es → IfNone found (NeverHold es)
never-if es None is = none-never es (sym is)
never-if es (Some steps) is = tt

-- an answer that is there, and one that is not
some-there : {A : Type 0} (o : Option A) → is_some o ≡ true → (x : A) × (o ≡ Some x)
some-there None h = absurd (false≢true h)
some-there (Some x) h = (x, refl)

none-there : {A : Type 0} (o : Option A) → is_some o ≡ false → o ≡ None
none-there None h = refl
none-there (Some x) h = absurd (false≢true (sym h))

pub can-hold : (es : List Equality) → can_hold es ≡ true → (v : Valuation) × (w : Valuation) × (equalities_hold v w es ≡ true)
can-hold es h =
    let found = some-there (steps_after [] es) h in
    (first_by found.0, second_by found.0, (solved-by es found.0 found.1).hold)

pub cannot-hold : (es : List Equality) → can_hold es ≡ false → (v w : Valuation) → equalities_hold v w es ≡ true → ⊥
cannot-hold es h = none-never es (none-there (steps_after [] es) h)

-- an equality with the same terms holds for the same values
same-holds : (v w : Valuation) (e f : Equality) → same_equality e f ≡ true → equality_holds v w e ≡ equality_holds v w f
same-holds v w e f h =
    let both = and_parts (same_term e.left f.left) (same_term e.right f.right) h in
    ap (λ (t : Term). int_eq (term_value v w t) (term_value v w e.right)) (same-true e.left f.left both.0)
    ∙ ap (λ (t : Term). int_eq (term_value v w f.left) (term_value v w t)) (same-true e.right f.right both.1)

-- where all that is said holds, one of it does
said-holds : (v w : Valuation) (e : Equality) (said : List Equality) → list_any (same_equality e) said ≡ true
    → equalities_hold v w said ≡ true → equality_holds v w e ≡ true
said-holds v w e [] among holds = absurd (false≢true among)
said-holds v w e (f ∷ said) among holds =
    let both = and_parts (equality_holds v w f) (equalities_hold v w said) holds in
    elim (or_cases (same_equality e f) (list_any (same_equality e) said) among) [
      | inl same ↦ same-holds v w e f same ∙ both.0
      | inr later ↦ said-holds v w e said later both.1
    ]

-- where all that is said holds, what says nothing new holds
nothing-new : (v w : Valuation) (said : List Equality) (e : Equality) → says_nothing_new said e ≡ true
    → equalities_hold v w said ≡ true → equality_holds v w e ≡ true
nothing-new v w said e h holds = elim (or_cases (same_term e.left e.right) (list_any (same_equality e) said) h) [
  | inl same ↦ (Decides-int_eq (term_value v w e.left) (term_value v w e.right)).1
      (ap (term_value v w) (same-true e.left e.right same))
  | inr among ↦ said-holds v w e said among holds
]

left-out : (said new told all : Bool) → (said ≡ true → new ≡ true) → (said && told) ≡ (said && all)
    → (said && told) ≡ (said && (new && all))
left-out true new told all holds is = is ∙ ap (λ b. b && all) (sym (holds refl))
left-out false new told all holds is = refl

put-in : (said new told all : Bool) → ((said && (new && true)) && told) ≡ ((said && (new && true)) && all)
    → (said && (new && told)) ≡ (said && (new && all))
put-in true true told all is = is
put-in true false told all is = refl
put-in false new told all is = refl

-- after what is said, those that say something new hold together exactly where all do
telling-after : (v w : Valuation) (said es : List Equality)
    → (equalities_hold v w said && equalities_hold v w (telling_after said es))
    ≡ (equalities_hold v w said && equalities_hold v w es)
telling-after v w said [] = refl
telling-after v w said (e ∷ es) = by-test (λ before. telling-after v w before es) (says_nothing_new said e) refl where
  by-test : ((before : List Equality) → (equalities_hold v w before && equalities_hold v w (telling_after before es))
      ≡ (equalities_hold v w before && equalities_hold v w es))
      → (b : Bool) → says_nothing_new said e ≡ b
      → (equalities_hold v w said
      && equalities_hold v w (if b then telling_after said es else e ∷ telling_after (said ++ e ∷ []) es))
      ≡ (equalities_hold v w said && (equality_holds v w e && equalities_hold v w es))
  by-test later true h =
      left-out (equalities_hold v w said) (equality_holds v w e) (equalities_hold v w (telling_after said es))
      (equalities_hold v w es)
      (nothing-new v w said e h) (later said)
  by-test later false h =
      let more = said ++ e ∷ [] in
      put-in (equalities_hold v w said) (equality_holds v w e) (equalities_hold v w (telling_after more es))
      (equalities_hold v w es)
      (subst (λ (b : Bool). (b && equalities_hold v w (telling_after more es)) ≡ (b && equalities_hold v w es))
      (all-two v w said (e ∷ [])) (later more))

-- what always holds, and what is said again, says nothing
pub telling-same : (v w : Valuation) (es : List Equality) → equalities_hold v w (telling es) ≡ equalities_hold v w es
telling-same v w es = telling-after v w [] es
