-- Steps by their numbers, and lists that have the same effects.
use Rattle.std.proofs.Common.{◌≡◌, ◌<◌, ◌≤◌, ◌+◌, ℕ, Bool, true, false, ◌||◌, ◌&&◌, not, List, [], ◌∷◌, ◌++◌, length, if◌then◌else◌, Option, None, Some, inl, inr, refl, sym, ap, ◌∙◌, subst, arith}
use Rattle.std.specs.Prelude.{slice_get}
use Rattle.std.specs.List.{Contains, flat_map, list_any}
use Rattle.std.proofs.lemmas.Bool.{cases_eq}
use Rattle.std.proofs.lemmas.Option.{same_Some, slice_get_read, slice_get_within}
use Rattle.std.proofs.lemmas.List.Elements.{Contains-append_left, Contains-push}
use Rattle.twe_base.proofs.Members.{IsIn, contains-in, in-contains, flat_map-in, in-flat_map, in-list_any, list_any-in}
use Rattle.effect_sets.specs.declared.effects.Effect.{Effect}
use Rattle.effect_sets.specs.declared.effects.Summary.{Summary}
use Rattle.effect_sets.specs.Covers.{effect_covers}
use Rattle.effect_infer.specs.declared.needs.need.BodyStep.{BodyStep}
use Rattle.effect_infer.proofs.needs.Relation.{get-in}
use Rattle.summary_comparing.specs.Comparisons.{comparison_of, idle_effects, is_needed, is_wider, is_within_needs}
use Rattle.summary_comparing.specs.Needed.{said_needs}
use Rattle.summary_comparing.specs.Widest.{AreFewWidest, HasManyWidest, covers_some, is_under}
use Rattle.summary_comparing.specs.declared.comparison.Comparison.{Comparison}
use Rattle.summary_comparing.specs.declared.comparison.Comparison.TheVariants.{Exact, Wider}
use Rattle.summary_comparing.specs.inner.Differing.{HasEach, HasFirst, HaveSame, needs_if, numbered_needs}

-- one step more, with its number
pub first-more : (count : ℕ) (steps : List BodyStep) (numbers : List ℕ) (step : BodyStep) → slice_get steps count ≡ Some step
    → HasFirst count steps numbers → HasFirst (count + 1) steps (numbers ++ count ∷ [])
first-more count steps numbers step at so_far number other below is = elim (cases_eq number count) [
  | inl e ↦
      let same : other ≡ step = same_Some other step (sym is ∙ (ap (slice_get steps) e ∙ at)) in
      (count, at ∙ ap Some (sym same), Contains-push numbers count)
  | inr differ ↦
      let before = so_far number other (omega (arith, below, differ)) is in
      (before.0, before.1, Contains-append_left numbers (count ∷ []) before.0 before.2)
]

-- one step more, which stands before too
pub first-again : (count : ℕ) (steps : List BodyStep) (numbers : List ℕ) (step : BodyStep) (same : ℕ) → slice_get steps count ≡ Some step
    → same < count → slice_get steps same ≡ Some step
    → HasFirst count steps numbers → HasFirst (count + 1) steps numbers
first-again count steps numbers step same at earlier there so_far number other below is = elim (cases_eq number count) [
  | inl e ↦
      let equal : other ≡ step = same_Some other step (sym is ∙ (ap (slice_get steps) e ∙ at)) in
      so_far same other earlier (there ∙ ap Some (sym equal))
  | inr differ ↦ so_far number other (omega (arith, below, differ)) is
]

-- all steps
pub first-all : (count : ℕ) (steps : List BodyStep) (numbers : List ℕ) → length steps ≤ count → HasFirst count steps numbers
    → HasEach steps numbers
first-all count steps numbers past so_far number step is =
    let within = slice_get_within steps number step is in
    so_far number step (omega (arith, within, past)) is

-- an effect that a step of this number needs
from-needs : (summaries : List Summary) (params : ℕ) (effect : Effect) (found : Option BodyStep) → IsIn effect (needs_if summaries params found)
    → (step : BodyStep) × (found ≡ Some step) × IsIn effect (said_needs summaries params step)
from-needs summaries params effect None h = absurd h
from-needs summaries params effect (Some step) h = (step, refl, h)

-- a step that needs something is there
pub needs-within : (summaries : List Summary) (params : ℕ) (steps : List BodyStep) (number : ℕ) (effect : Effect)
    → Contains (numbered_needs summaries params steps number) effect → number < length steps
needs-within summaries params steps number effect h =
    let some = from-needs summaries params effect (slice_get steps number) (contains-in (numbered_needs summaries params steps number) effect h) in
    slice_get_within steps number some.0 some.1

-- what the steps of these numbers need is what all steps need
module _ (summaries : List Summary) (params : ℕ) (steps : List BodyStep) (numbers : List ℕ) where
  in-steps : (effect : Effect) → Contains (flat_map (numbered_needs summaries params steps) numbers) effect
      → Contains (flat_map (said_needs summaries params) steps) effect
  in-steps effect h =
      let all = flat_map (numbered_needs summaries params steps) numbers in
      let one = flat_map-in (numbered_needs summaries params steps) numbers effect (contains-in all effect h) in
      let some = from-needs summaries params effect (slice_get steps one.0) one.2 in
      in-contains (flat_map (said_needs summaries params) steps) effect
      (in-flat_map (said_needs summaries params) steps some.0 effect (get-in steps one.0 some.0 some.1) some.2)

  in-numbers : HasEach steps numbers → (effect : Effect) → Contains (flat_map (said_needs summaries params) steps) effect
      → Contains (flat_map (numbered_needs summaries params steps) numbers) effect
  in-numbers each effect h =
      let all = flat_map (said_needs summaries params) steps in
      let some = flat_map-in (said_needs summaries params) steps effect (contains-in all effect h) in
      let at = in-contains steps some.0 some.1 in
      let one = each at.0 some.0 (slice_get_read steps (length steps) at.0 some.0 refl at.1 (sym at.2)) in
      in-contains (flat_map (numbered_needs summaries params steps) numbers) effect
      (in-flat_map (numbered_needs summaries params steps) numbers one.0 effect (contains-in numbers one.0 one.2)
      (subst (λ (found : Option BodyStep). IsIn effect (needs_if summaries params found)) (sym one.1) some.2))

  pub numbered-same : HasEach steps numbers
      → HaveSame (flat_map (numbered_needs summaries params steps) numbers) (flat_map (said_needs summaries params) steps)
  numbered-same each = record { in_others = in-steps; in_these = in-numbers each }

-- truths that follow from one another are equal
same-truths : (a b : Bool) → (a ≡ true → b ≡ true) → (b ≡ true → a ≡ true) → a ≡ b
same-truths true b to from = sym (to refl)
same-truths false true to from = from refl
same-truths false false to from = refl

-- a test that one of the effects passes
any-to : (test : Effect → Bool) (effects others : List Effect) → ((effect : Effect) → Contains effects effect → Contains others effect)
    → list_any test effects ≡ true → list_any test others ≡ true
any-to test effects others to h =
    let found = list_any-in test effects h in
    in-list_any test others found.0 (contains-in others found.0 (to found.0 (in-contains effects found.0 found.1))) found.2

module _ (effects others : List Effect) (same : HaveSame effects others) where
  any-same : (test : Effect → Bool) → list_any test effects ≡ list_any test others
  any-same test =
      same-truths (list_any test effects) (list_any test others) (any-to test effects others same.in_others)
      (any-to test others effects same.in_these)

  -- the widest of both are the same
  pub few-same : (widest : List Effect) → AreFewWidest effects widest → AreFewWidest others widest
  few-same widest few = record {
    among = λ e c. same.in_others e (few.among e c);
    all = λ e c. few.all e (same.in_these e c);
    unrelated = few.unrelated;
    few = few.few;
  }

  pub many-same : HasManyWidest effects → HasManyWidest others
  many-same many = record {
    widest = many.widest;
    among = λ e c. same.in_others e (many.among e c);
    top = λ e other c here h. many.top e other c (same.in_these other here) h;
    unrelated = many.unrelated;
    many = many.many;
  }

  -- and so are comparisons with them
  needed-same : (children : List Effect) (effect : Effect) → is_needed effects children effect ≡ is_needed others children effect
  needed-same children effect = ap (λ b. b || covers_some children effect) (any-same (λ narrow. effect_covers effect narrow))

  within-same : (children : List Effect) (effect : Effect) → is_within_needs effects children effect ≡ is_within_needs others children effect
  within-same children effect = ap (λ b. b || is_under children effect) (any-same (λ wide. effect_covers wide effect))

  wider-same : (children declared : List Effect) → is_wider effects children declared ≡ is_wider others children declared
  wider-same children [] = refl
  wider-same children (effect ∷ declared) =
      ap (λ b. not (b && is_within_needs effects children effect) || is_wider effects children declared) (needed-same children effect)
      ∙ (ap (λ b. not (is_needed others children effect && b) || is_wider effects children declared) (within-same children effect)
      ∙ ap (λ b. not (is_needed others children effect && is_within_needs others children effect) || b) (wider-same children declared))

  idle-same : (children declared : List Effect) → idle_effects effects children declared ≡ idle_effects others children declared
  idle-same children [] = refl
  idle-same children (effect ∷ declared) =
      ap (λ b. if b then idle_effects effects children declared else effect ∷ idle_effects effects children declared) (needed-same children effect)
      ∙ ap (λ rest. if is_needed others children effect then rest else effect ∷ rest) (idle-same children declared)

  pub comparison-same : (children declared needed spawned : List Effect)
      → comparison_of effects children declared needed spawned ≡ comparison_of others children declared needed spawned
  comparison-same children declared needed spawned =
      let made : Bool → List Effect → Comparison = λ wider idle. if wider then Wider declared needed spawned idle else Exact in
      ap (λ wider. made wider (idle_effects effects children declared)) (wider-same children declared)
      ∙ ap (made (is_wider others children declared)) (idle-same children declared)
