-- The chains of calls that lead from a declaration to what it needs, and the spawns of what its children declare.
use Rattle.std.specs.Prelude.{◌≡◌, ℕ, true, false, List, [], ◌∷◌, Some, slice_get, Contains}
use Rattle.twe_base.specs.declared.place.Place.{Place}
use Rattle.region_paths.specs.declared.elements.Elem.{Elem}
use Rattle.effect_sets.specs.declared.effects.Effect.{Effect}
use Rattle.effect_sets.specs.declared.effects.Summary.{Summary}
use Rattle.effect_sets.specs.Filled.{fill_effect}
use Rattle.twe_program.specs.declared.program.Decl.{Decl}
use Rattle.twe_program.specs.Program.{Program}
use Rattle.effect_check.specs.declared.act.Act.{Act}
use Rattle.effect_check.specs.declared.act.ActKind.{ActKind}
use Rattle.effect_check.specs.declared.act.ActKind.TheVariants as acts
use Rattle.effect_check.specs.Acts.{acts_in_all}
use Rattle.effect_infer.specs.declared.needs.need.Need.{Need}
use Rattle.effect_infer.specs.declared.needs.need.BodyStep.{BodyStep}
use Rattle.effect_infer.specs.declared.needs.need.BodyStep.TheVariants.{Touch, Call}
use Rattle.effect_infer.specs.needs.Needs.{IsNeed, effect_of}
use Rattle.summary_comparing.specs.Chains.{IsShortestChain}
use Rattle.summary_comparing.specs.Placed.{HasStepAt}
use Rattle.summary_comparing.specs.Needed.{said_effect, said_spawn}
use Rattle.summary_comparing.specs.Widest.{AreFewWidest}
use Rattle.summary_comparing.specs.Needed as needs
use Rattle.summary_comparing.specs.EffectOrder.{in_effect_order}
use Rattle.summary_comparing.specs.declared.chain.NeedChain.{NeedChain}

-- a chain that ends with an access
abbrev pub chain_to_access : List Place → NeedChain
chain_to_access places = record { places = places; declared = false }

-- one that ends with a call, since the called method declares the effect, and no chain of calls leads from it to such an access
abbrev pub chain_to_clause : List Place → NeedChain
chain_to_clause places = record { places = places; declared = true }

-- a call at this place of the method with this number leads on to an effect of that method by this chain, which is a shortest one
pub data IsCallChain (p : Program) (method : ℕ) (its : Effect) (place : Place) : NeedChain → Type 0 where
  -- the method needs it
  needed : (need : Need) (places : List Place) → its ≡ effect_of need → IsShortestChain p method need places
      → IsCallChain p method its place (chain_to_access (place ∷ places))
  -- the method only declares it
  declared : ((need : Need) → its ≡ effect_of need → ¬ IsNeed p method need)
      → IsCallChain p method its place (chain_to_clause (place ∷ []))

-- a step of a body at this place needs the effect, as a declaration says it that has so many parameters, and leads to it by this
-- chain, if the methods count with these summaries
pub data IsStepChain (p : Program) (summaries : List Summary) (params : ℕ) (effect : Effect) (place : Place)
    : BodyStep → NeedChain → Type 0 where
  access : (need : Need) → effect ≡ said_effect params (effect_of need)
      → IsStepChain p summaries params effect place (Touch need) (chain_to_access (place ∷ []))
  call : (method : ℕ) (args : List Elem) (summary : Summary) (its : Effect) (chain : NeedChain)
      → slice_get summaries method ≡ Some summary → Contains summary.effects its
      → effect ≡ said_effect params (fill_effect args its) → IsCallChain p method its place chain
      → IsStepChain p summaries params effect place (Call method args) chain

-- the body of the declaration needs the effect, and leads to it by this chain
pub record IsNeedChain (p : Program) (summaries : List Summary) (decl : Decl) (effect : Effect) (chain : NeedChain) : Type 0 where
  pub step : BodyStep
  pub place : Place
  pub step_there : HasStepAt p decl step place
  pub leads : IsStepChain p summaries decl.params effect place step chain

-- where an act stands: the name of what it reads, writes, calls, spawns or waits for
abbrev pub act_place : ActKind → Place
act_place (acts.Touch effect place) = place
act_place (acts.Call effects place) = place
act_place (acts.Make future spawned deterministic effects future_place place) = place
act_place (acts.Wait future join place) = place

-- at this place the body of the declaration spawns a task that declares the effect
pub record IsSpawnPlace (p : Program) (decl : Decl) (effect : Effect) (place : Place) : Type 0 where
  pub act : Act
  pub act_there : Contains (acts_in_all p decl.body.block) act
  pub spawns : Contains (said_spawn decl.params act) effect
  pub place_is : place ≡ act_place act.kind

-- the relation holds between the first of both lists, between the second, and so on, and both are equally long
abbrev pub AreEach : {X Y : Type 0} → (X → Y → Type 0) → List X → List Y → Type 0
AreEach R [] [] = Unit {0}
AreEach R [] (y ∷ ys) = ⊥
AreEach R (x ∷ xs) [] = ⊥
AreEach R (x ∷ xs) (y ∷ ys) = R x y × AreEach R xs ys

-- These are the widest effects that the body of the declaration needs, with a chain for each, and the widest that its spawned
-- children declare, with the place of a spawn for each, all in the order in which effects are written.
pub record IsExplanation (p : Program) (summaries : List Summary) (decl : Decl) (needed spawned : List Effect)
    (chains : List NeedChain) (places : List Place) : Type 0 where
  pub few_needed : AreFewWidest (needs.body_needs p summaries decl) needed
  pub few_spawned : AreFewWidest (needs.child_needs p decl) spawned
  pub chained : AreEach (IsNeedChain p summaries decl) (in_effect_order needed) chains
  pub placed : AreEach (IsSpawnPlace p decl) (in_effect_order spawned) places
