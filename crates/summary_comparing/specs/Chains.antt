-- Chains of calls that lead from a method to an access.
use Rattle.std.specs.Prelude.{◌≡◌, ◌≤◌, ℕ, List, [], ◌∷◌, Some, length, slice_get}
use Rattle.twe_base.specs.declared.place.Place.{Place}
use Rattle.region_paths.specs.declared.elements.Elem.{Elem}
use Rattle.twe_program.specs.declared.program.Decl.{Decl}
use Rattle.twe_program.specs.Program.{Program}
use Rattle.effect_infer.specs.declared.needs.need.Need.{Need}
use Rattle.effect_infer.specs.declared.needs.need.BodyStep.TheVariants.{Touch, Call}
use Rattle.effect_infer.specs.needs.Needs.{filled_need, settled}
use Rattle.summary_comparing.specs.Placed.{HasStepAt}

-- The method with this number needs it, by these places: that of a call in its body, that of a call in the body of the called
-- method, and so on, and at last that of an access. What is accessed, filled with the arguments of each of these calls, from the
-- last one to the first, is the need.
pub data LeadsToNeed (p : Program) : ℕ → Need → List Place → Type 0 where
  access : (m : ℕ) (decl : Decl) (need : Need) (place : Place) → slice_get p.methods m ≡ Some decl
      → HasStepAt p decl (Touch need) place → LeadsToNeed p m (settled decl.params need) (place ∷ [])
  call : (m : ℕ) (decl : Decl) (callee : ℕ) (args : List Elem) (need : Need) (place : Place) (places : List Place)
      → slice_get p.methods m ≡ Some decl → HasStepAt p decl (Call callee args) place → LeadsToNeed p callee need places
      → LeadsToNeed p m (settled decl.params (filled_need args need)) (place ∷ places)

-- a shortest chain that leads from the method to the need: no other one has fewer places
pub record IsShortestChain (p : Program) (method : ℕ) (need : Need) (places : List Place) : Type 0 where
  pub leads : LeadsToNeed p method need places
  pub shortest : (others : List Place) → LeadsToNeed p method need others → length places ≤ length others
