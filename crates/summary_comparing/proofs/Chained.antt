-- Chains of one effect more, and the parts of a chain.
use Rattle.std.proofs.Common.{◌≡◌, ◌<◌, ℕ, List, [], ◌∷◌, ◌++◌, length, refl, sym, ap, ◌∙◌, subst}
use Rattle.std.specs.List.{Contains, flat_map}
use Rattle.effect_sets.specs.declared.effects.Effect.{Effect}
use Rattle.effect_infer.specs.declared.needs.need.Need.{Need}
use Rattle.effect_infer.specs.needs.Needs.{effect_of}
use Rattle.std.proofs.Common.{◌⊎◌, Option, None, Some, inl, inr, map}
use Rattle.std.specs.Prelude.{slice_get}
use Rattle.std.proofs.lemmas.Option.{slice_get_within}
use Rattle.twe_base.specs.declared.place.Place.{Place}
use Rattle.twe_base.proofs.Members.{contains-in, in-contains}
use Rattle.region_paths.specs.declared.elements.Elem.{Elem}
use Rattle.effect_sets.specs.declared.effects.Summary.{Summary}
use Rattle.effect_sets.specs.Filled.{fill_effect}
use Rattle.twe_program.specs.Program.{Program}
use Rattle.effect_infer.specs.declared.needs.need.BodyStep.{BodyStep}
use Rattle.effect_infer.specs.declared.needs.need.BodyStep.TheVariants.{Touch, Call}
use Rattle.effect_infer.specs.needs.Needs.{IsNeed}
use Rattle.effect_infer.proofs.needs.Relation.{get-in}
use Rattle.summary_comparing.specs.Needed.{called_needs, said_effect, said_needs}
use Rattle.summary_comparing.specs.Chained.{AreEach, IsCallChain, IsStepChain, chain_to_access}
use Rattle.summary_comparing.specs.declared.chain.NeedChain.{NeedChain}
use Rattle.summary_comparing.specs.inner.Sources.{effects_before}
use Rattle.twe_base.proofs.Members.{IsIn}
use Rattle.twe_program.specs.declared.program.Decl.{Decl}
use Rattle.effect_check.specs.declared.act.Act.{Act}
use Rattle.effect_check.specs.Acts.{acts_in_all}
use Rattle.effect_infer.specs.needs.Steps.{steps_in_all}
use Rattle.summary_comparing.specs.Placed.{step_places}
use Rattle.summary_comparing.proofs.Places.{body-place}
use Rattle.summary_comparing.specs.Needed.{body_needs, child_needs, said_spawn}
use Rattle.summary_comparing.specs.Chained.{IsNeedChain, IsSpawnPlace, act_place}
use Rattle.summary_comparing.specs.inner.Sources.{acts_before, steps_before}
use Rattle.summary_comparing.specs.inner.Differing.{HasEach, numbered_needs}
use Rattle.summary_comparing.proofs.Numbered.{numbered-same}
use Rattle.summary_comparing.proofs.Origins.{its-found, source-found}

pub each-more : {X Y : Type 0} (R : X → Y → Type 0) (xs : List X) (ys : List Y) (x : X) (y : Y) → AreEach R xs ys → R x y
    → AreEach R (xs ++ x ∷ []) (ys ++ y ∷ [])
each-more R [] [] x y all one = (one, tt)
each-more R [] (b ∷ bs) x y all one = absurd all
each-more R (a ∷ as') [] x y all one = absurd all
each-more R (a ∷ as') (b ∷ bs) x y all one = (all.0, each-more R as' bs x y all.1 one)

same-need : (a b : Need) → effect_of a ≡ effect_of b → a ≡ b
same-need a b is =
    ap (λ (e : Effect). let n : Need = record { write = e.write; elems = e.path.elems } in n) is

-- where the method does not need it under one name, it does not under another
pub no-other : (p : Program) (method : ℕ) (its : Effect) (need : Need) → its ≡ effect_of need → ¬ IsNeed p method need
    → (other : Need) → its ≡ effect_of other → ¬ IsNeed p method other
no-other p method its need is none other also needed =
    none (subst (IsNeed p method) (sym (same-need need other (sym is ∙ also))) needed)

-- an access is its own chain
pub touch-chain : (p : Program) (summaries : List Summary) (params : ℕ) (effect : Effect) (place : Place) (need : Need)
    → Contains (said_needs summaries params (Touch need)) effect
    → IsStepChain p summaries params effect place (Touch need) (chain_to_access (place ∷ []))
touch-chain p summaries params effect place need there =
    IsStepChain.access need (only (contains-in (said_effect params (effect_of need) ∷ []) effect there)) where
      only : ((effect ≡ said_effect params (effect_of need)) ⊎ ⊥) → effect ≡ said_effect params (effect_of need)
      only (inl same) = same
      only (inr none) = absurd none

-- only a call of a method that is there needs something
pub called-within : (params : ℕ) (args : List Elem) (summaries : List Summary) (method : ℕ) (effect : Effect)
    → Contains (map (said_effect params) (called_needs (slice_get summaries method) args)) effect → method < length summaries
called-within params args summaries method effect there = by-found (slice_get summaries method) refl there where
  by-found : (found : Option Summary) → slice_get summaries method ≡ found
      → Contains (map (said_effect params) (called_needs found args)) effect → method < length summaries
  by-found None is has = absurd (contains-in [] effect has)
  by-found (Some summary) is has = slice_get_within summaries method summary is

-- the effects of the summary of a method that is there
pub some-called : (params : ℕ) (args : List Elem) (found : Option Summary) (summary : Summary) (effect : Effect) → found ≡ Some summary
    → Contains (map (said_effect params) (called_needs found args)) effect
    → Contains (map (said_effect params) (map (fill_effect args) summary.effects)) effect
some-called params args found summary effect is there =
    subst (λ (o : Option Summary). Contains (map (said_effect params) (called_needs o args)) effect) is there

module _ (params : ℕ) (args : List Elem) (summary : Summary) (effect : Effect)
    (there : Contains (map (said_effect params) (map (fill_effect args) summary.effects)) effect) where
  -- the effect is found in the summary
  pub summary-effect : (its : Effect) × (slice_get summary.effects (effects_before params args summary.effects effect) ≡ Some its)
      × (effect ≡ said_effect params (fill_effect args its))
  summary-effect =
      its-found params args summary.effects effect
      (contains-in (map (said_effect params) (map (fill_effect args) summary.effects)) effect there)

  pub effect-within : (at : ℕ) → at ≡ effects_before params args summary.effects effect → at < length summary.effects
  effect-within at is =
      slice_get_within summary.effects at summary-effect.0 (ap (slice_get summary.effects) is ∙ summary-effect.1)

  -- a chain from the call leads to it
  pub call-chain : (p : Program) (summaries : List Summary) (method : ℕ) (place : Place) (at : ℕ) (its : Effect) (chain : NeedChain)
      → slice_get summaries method ≡ Some summary → at ≡ effects_before params args summary.effects effect
      → slice_get summary.effects at ≡ Some its → IsCallChain p method its place chain
      → IsStepChain p summaries params effect place (Call method args) chain
  call-chain p summaries method place at its chain its_summary is found leads =
      let there_too : slice_get summary.effects at ≡ Some summary-effect.0 = ap (slice_get summary.effects) is ∙ summary-effect.1 in
      let same : summary-effect.0 ≡ its = cc in
      IsStepChain.call method args summary its chain its_summary (in-contains summary.effects its (get-in summary.effects at its found))
      (summary-effect.2 ∙ ap (λ (e : Effect). said_effect params (fill_effect args e)) same) leads

-- in the body of a declaration
module _ (p : Program) (decl : Decl) (effect : Effect) where
  -- each step has a place
  pub place-within : (at : ℕ) (step : BodyStep) → slice_get (steps_in_all p.cells decl.body.block) at ≡ Some step
      → at < length (step_places (acts_in_all p decl.body.block))
  place-within at step is =
      let found = body-place p decl at step is in
      slice_get_within (step_places (acts_in_all p decl.body.block)) at found.place found.place_there

  -- a chain from a step is one from the body
  pub placed-chain : (summaries : List Summary) (at : ℕ) (step : BodyStep) (place : Place) (chain : NeedChain)
      → slice_get (steps_in_all p.cells decl.body.block) at ≡ Some step
      → slice_get (step_places (acts_in_all p decl.body.block)) at ≡ Some place
      → IsStepChain p summaries decl.params effect place step chain → IsNeedChain p summaries decl effect chain
  placed-chain summaries at step place chain is here leads = record {
    step = step;
    place = place;
    step_there = record { number = at; step_there = is; place_there = here };
    leads = leads;
  }

  -- some step needs what the body needs, or an equal one does, by its number
  module _ (summaries : List Summary) (steps : List BodyStep) (numbers : List ℕ) (all : steps ≡ steps_in_all p.cells decl.body.block)
      (each : HasEach steps numbers) (there : Contains (body_needs p summaries decl) effect) where
    some-number : (number : ℕ) × (slice_get numbers (steps_before summaries decl.params steps numbers effect) ≡ Some number)
        × IsIn effect (numbered_needs summaries decl.params steps number)
    some-number =
        let needs = flat_map (numbered_needs summaries decl.params steps) numbers in
        source-found (numbered_needs summaries decl.params steps) numbers effect
        (contains-in needs effect ((numbered-same summaries decl.params steps numbers each).in_these effect
        (subst (λ (xs : List BodyStep). Contains (flat_map (said_needs summaries decl.params) xs) effect) (sym all) there)))

    pub number-within : (at : ℕ) → at ≡ steps_before summaries decl.params steps numbers effect → at < length numbers
    number-within at is = slice_get_within numbers at some-number.0 (ap (slice_get numbers) is ∙ some-number.1)

    pub number-needs : (at number : ℕ) → at ≡ steps_before summaries decl.params steps numbers effect
        → slice_get numbers at ≡ Some number → Contains (numbered_needs summaries decl.params steps number) effect
    number-needs at number is here =
        let also : slice_get numbers at ≡ Some some-number.0 = ap (slice_get numbers) is ∙ some-number.1 in
        let same : some-number.0 ≡ number = cc in
        subst (λ (n : ℕ). Contains (numbered_needs summaries decl.params steps n) effect) same
        (in-contains (numbered_needs summaries decl.params steps some-number.0) effect some-number.2)

  -- some spawn needs what the children declare
  spawn-act : Contains (child_needs p decl) effect
      → (act : Act) × (slice_get (acts_in_all p decl.body.block)
      (acts_before decl.params (acts_in_all p decl.body.block) effect) ≡ Some act) × IsIn effect (said_spawn decl.params act)
  spawn-act there =
      source-found (said_spawn decl.params) (acts_in_all p decl.body.block) effect
      (contains-in (child_needs p decl) effect there)

  pub act-within : (at : ℕ) → Contains (child_needs p decl) effect
      → at ≡ acts_before decl.params (acts_in_all p decl.body.block) effect
      → at < length (acts_in_all p decl.body.block)
  act-within at there is =
      let found = spawn-act there in
      slice_get_within (acts_in_all p decl.body.block) at found.0 (ap (slice_get (acts_in_all p decl.body.block)) is ∙ found.1)

  pub spawned-at : (at : ℕ) (act : Act) → Contains (child_needs p decl) effect
      → at ≡ acts_before decl.params (acts_in_all p decl.body.block) effect
      → slice_get (acts_in_all p decl.body.block) at ≡ Some act → IsSpawnPlace p decl effect (act_place act.kind)
  spawned-at at act there is here =
      let found = spawn-act there in
      let also : slice_get (acts_in_all p decl.body.block) at ≡ Some found.0 =
      ap (slice_get (acts_in_all p decl.body.block)) is ∙ found.1 in
      let same : found.0 ≡ act = cc in
      record {
        act = act;
        act_there = in-contains (acts_in_all p decl.body.block) act (get-in (acts_in_all p decl.body.block) at act here);
        spawns = subst (λ (a : Act). Contains (said_spawn decl.params a) effect) same
            (in-contains (said_spawn decl.params found.0) effect found.2);
        place_is = refl;
      }
