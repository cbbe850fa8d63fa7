-- What a method needs: what its body reads and writes, and what the methods need that it calls, directly or by way of others.
use Rattle.std.specs.Prelude.{◌≡◌, ℕ, nat_lt, false, IsTrue, List, [], map, Some, slice_get, Contains, if◌then◌else◌}
use Rattle.region_paths.specs.declared.elements.Elem.{Elem}
use Rattle.region_paths.specs.declared.elements.Elem.TheVariants.{Name, Index, Var, AnyIndex}
use Rattle.region_paths.specs.Filled.{fill_elem}
use Rattle.effect_sets.specs.declared.effects.Effect.{Effect}
use Rattle.effect_sets.specs.Covers.{effect_covers}
use Rattle.twe_program.specs.declared.program.Decl.{Decl}
use Rattle.twe_program.specs.Program.{Program}
use Rattle.effect_infer.specs.declared.needs.need.Need.{Need}
use Rattle.effect_infer.specs.declared.needs.need.BodyStep.{BodyStep}
use Rattle.effect_infer.specs.declared.needs.need.BodyStep.TheVariants.{Touch, Call}
use Rattle.effect_infer.specs.needs.Steps.{steps_in_all}

-- a variable that is no parameter becomes any index; everything else stays
abbrev pub settled_elem : ℕ → Elem → Elem
settled_elem params (Name n) = Name n
settled_elem params (Index i) = Index i
settled_elem params (Var k) = if nat_lt k params then Var k else AnyIndex
settled_elem params AnyIndex = AnyIndex

-- the need as the method says it that has these parameters
abbrev pub settled : ℕ → Need → Need
settled params need = record { write = need.write; elems = map (settled_elem params) need.elems }

-- the need of a called method, with the arguments in the place of its parameters
abbrev pub filled_need : List Elem → Need → Need
filled_need args need = record { write = need.write; elems = map (fill_elem args) need.elems }

-- one step of the body of the method with this number
abbrev pub HasStep : Program → ℕ → Decl → BodyStep → Type 0
HasStep p m decl step = (slice_get p.methods m ≡ Some decl) × Contains (steps_in_all p.cells decl.body.block) step

-- The method with this number needs it: its body reads or writes it, or its body calls a method that needs it. So there is a
-- finite chain of calls from the method to a body that reads or writes it.
pub data IsNeed (p : Program) : ℕ → Need → Type 0 where
  own : (m : ℕ) (decl : Decl) (need : Need) → HasStep p m decl (Touch need) → IsNeed p m (settled decl.params need)
  called : (m : ℕ) (decl : Decl) (callee : ℕ) (args : List Elem) (need : Need)
      → HasStep p m decl (Call callee args) → IsNeed p callee need → IsNeed p m (settled decl.params (filled_need args need))

-- the need, as the effect of a summary
abbrev pub effect_of : Need → Effect
effect_of need = record { write = need.write; path = record { elems = need.elems; star = false; tail = [] } }

-- the need covers the other
abbrev pub Widens : Need → Need → Type 0
Widens wide need = IsTrue (effect_covers (effect_of wide) (effect_of need))

-- a need of the method that no other need of it covers
pub record IsWidest (p : Program) (m : ℕ) (need : Need) : Type 0 where
  pub needed : IsNeed p m need
  pub widest : (other : Need) → IsNeed p m other → Widens other need → other ≡ need
