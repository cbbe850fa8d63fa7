-- Stores, and how expressions and statements end, without the places in them.
use Rattle.std.proofs.Common.{◌≡◌, ℕ, zero, suc, ℤ, List, [], ◌∷◌, map, refl, ap, ◌∙◌}
use Rattle.std.specs.Prelude.{pos, drop}
use Rattle.twe_base.specs.declared.place.Place.{Place}
use Rattle.seg_meaning.specs.declared.active.ActiveCall.{ActiveCall}
use Rattle.seg_meaning.specs.declared.operation.Operation.{Operation}
use Rattle.seg_meaning.specs.declared.operation.Operation.TheVariants as operations
use Rattle.seg_meaning.specs.Meaning.{given_back, stopped_at}
use Rattle.seg_meaning.specs.Store.{Store, Given, gives, faults, Flow, goes, returns, fails, stops, then_give, then_do, then_go, unit_of}
use Rattle.summary_texts.specs.paste_laws.places.Places.{no_place}

abbrev pub bare_call : ActiveCall → ActiveCall
bare_call call = record call { place = no_place }

abbrev pub bare_store : Store → Store
bare_store s = record s { calls = map bare_call s.calls }

abbrev pub bare_given : {A : Type 0} → Given A → Given A
bare_given (gives value s) = gives value (bare_store s)
bare_given (faults cause place s) = faults cause no_place (bare_store s)

abbrev pub bare_operation : Operation → Operation
bare_operation (operations.Make future task args spawned place) = operations.Make future task args spawned no_place
bare_operation (operations.Wait future join into) = operations.Wait future join into

abbrev pub bare_flow : Flow → Flow
bare_flow (goes s) = goes (bare_store s)
bare_flow (returns value s) = returns value (bare_store s)
bare_flow (fails cause place s) = fails cause no_place (bare_store s)
bare_flow (stops operation positions s) = stops (bare_operation operation) positions (bare_store s)

-- What follows an expression or a statement may be taken without its places, if each of the two may.
module _ {A B : Type 0} (next other : A → Store → Given B) (on : (value : A) (s : Store) → other value (bare_store s) ≡ bare_given (next value s)) where
  after_given : (given : Given A) → then_give (bare_given given) other ≡ bare_given (then_give given next)
  after_given (gives value s) = on value s
  after_given (faults cause place s) = refl

  pub give_on : (given its : Given A) → its ≡ bare_given given → then_give its other ≡ bare_given (then_give given next)
  give_on given its same = ap (λ (g : Given A). then_give g other) same ∙ after_given given

module _ {A : Type 0} (next other : A → Store → Flow) (on : (value : A) (s : Store) → other value (bare_store s) ≡ bare_flow (next value s)) where
  after_done : (given : Given A) → then_do (bare_given given) other ≡ bare_flow (then_do given next)
  after_done (gives value s) = on value s
  after_done (faults cause place s) = refl

  pub do_on : (given its : Given A) → its ≡ bare_given given → then_do its other ≡ bare_flow (then_do given next)
  do_on given its same = ap (λ (g : Given A). then_do g other) same ∙ after_done given

module _ (next other : Store → Flow) (on : (s : Store) → other (bare_store s) ≡ bare_flow (next s)) where
  after_gone : (flow : Flow) → then_go (bare_flow flow) other ≡ bare_flow (then_go flow next)
  after_gone (goes s) = on s
  after_gone (returns value s) = refl
  after_gone (fails cause place s) = refl
  after_gone (stops operation positions s) = refl

  pub go_on : (flow its : Flow) → its ≡ bare_flow flow → then_go its other ≡ bare_flow (then_go flow next)
  go_on flow its same = ap (λ (f : Flow). then_go f other) same ∙ after_gone flow

pub unit_bare : (fuel : ℕ) (place : Place) (s : Store) → unit_of fuel no_place (bare_store s) ≡ bare_given (unit_of fuel place s)
unit_bare zero place s = refl
unit_bare (suc left) place s = refl

pub stopped_bare : (block after : ℕ) (flow : Flow) → stopped_at block after (bare_flow flow) ≡ bare_flow (stopped_at block after flow)
stopped_bare block after (goes s) = refl
stopped_bare block after (returns value s) = refl
stopped_bare block after (fails cause place s) = refl
stopped_bare block after (stops operation positions s) = refl

-- the call that ends is the latest one, with its place or without
left_bare : (calls : List ActiveCall) → drop 1 (map bare_call calls) ≡ map bare_call (drop 1 calls)
left_bare [] = refl
left_bare (call ∷ calls) = refl

abbrev gives_left : ℤ → List ℤ → Store → List ActiveCall → Given ℤ
gives_left value vars s calls = gives value (record s { vars = vars; calls = calls })

pub given_back_bare : (vars : List ℤ) (flow : Flow) → given_back vars (bare_flow flow) ≡ bare_given (given_back vars flow)
given_back_bare vars (goes s) = ap (gives_left (pos 0) vars s) (left_bare s.calls)
given_back_bare vars (returns value s) = ap (gives_left value vars s) (left_bare s.calls)
given_back_bare vars (fails cause place s) = refl
given_back_bare vars (stops operation positions s) = ap (gives_left (pos 0) vars s) (left_bare s.calls)
