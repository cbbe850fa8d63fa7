-- The search for a chain: through methods, with what their parameters stand for there.
use Rattle.std.specs.Prelude.{◌≡◌, ◌⊎◌, ◌<◌, ◌≤◌, ℕ, zero, suc, false, IsTrue, List, ◌++◌, Option, None, Some, slice_get}
use Rattle.region_paths.specs.declared.elements.Elem.{Elem}
use Rattle.effect_infer.specs.declared.needs.need.Need.{Need}
use Rattle.effect_infer.specs.declared.needs.need.BodyStep.{BodyStep}
use Rattle.effect_infer.specs.declared.needs.need.BodyStep.TheVariants.{Touch, Call}
use Rattle.summary_comparing.specs.declared.bodies.BodySteps.{BodySteps}
use Rattle.summary_comparing.specs.declared.states.SearchState.{SearchState}
use Rattle.summary_comparing.specs.inner.Standing.{callee_values, is_match, own_values}

-- these are the steps and the values of the state at this place
pub record IsStateAt (bodies : List BodySteps) (states : List SearchState) (at : ℕ) (values : List (Option Elem)) (steps : List BodyStep)
    : Type 0 where
  pub state : SearchState
  pub state_there : slice_get states at ≡ Some state
  pub body : BodySteps
  pub body_there : slice_get bodies state.method ≡ Some body
  pub values_are : state.values ≡ values
  pub steps_are : body.steps ≡ steps

-- the values of the method's parameters are those that it has if it is called so by a method with these values
abbrev pub AreCalledWith : List BodySteps → Need → List (Option Elem) → SearchState → List Elem → Type 0
AreCalledWith bodies target values state args =
    (body : BodySteps) × (slice_get bodies state.method ≡ Some body)
    × (state.values ≡ callee_values values target.elems args body.params)

-- a state comes from an earlier one, by the call at a step of its method
pub record IsLinked (bodies : List BodySteps) (target : Need) (states : List SearchState) (at : ℕ) (state : SearchState) : Type 0 where
  pub earlier : state.from < at
  pub caller : SearchState
  pub caller_there : slice_get states state.from ≡ Some caller
  pub body : BodySteps
  pub body_there : slice_get bodies caller.method ≡ Some body
  pub args : List Elem
  pub calls : slice_get body.steps state.step ≡ Some (Call state.method args)
  pub called : AreCalledWith bodies target caller.values state args

-- each state but the first comes from an earlier one
abbrev pub AreLinked : List BodySteps → Need → List SearchState → Type 0
AreLinked bodies target states =
    (at : ℕ) (state : SearchState) → slice_get states at ≡ Some state → (at ≡ 0) ⊎ IsLinked bodies target states at state

-- the first state is that of the method itself, whose parameters stand for themselves
pub record IsStarted (bodies : List BodySteps) (method : ℕ) (states : List SearchState) : Type 0 where
  pub state : SearchState
  pub state_there : slice_get states 0 ≡ Some state
  pub method_is : state.method ≡ method
  pub body : BodySteps
  pub body_there : slice_get bodies method ≡ Some body
  pub values_are : state.values ≡ own_values body.params

-- states were added at the end, and each comes from an earlier one if that was so before
pub record StatesGrow (bodies : List BodySteps) (target : Need) (old new : List SearchState) : Type 0 where
  pub longer : (more : List SearchState) × (new ≡ old ++ more)
  pub linked : AreLinked bodies target old → AreLinked bodies target new

-- so many calls lead from the first state to the one at this place
abbrev pub IsDeep : List SearchState → ℕ → ℕ → Type 0
IsDeep states at zero = at ≡ 0
IsDeep states at (suc depth) =
    (0 < at) × (state : SearchState) × (slice_get states at ≡ Some state) × IsDeep states state.from depth

-- a state that stands further back comes from no earlier one
abbrev pub AreInOrder : List SearchState → Type 0
AreInOrder states =
    (at further : ℕ) (state other : SearchState) → 0 < at → at ≤ further → slice_get states at ≡ Some state
    → slice_get states further ≡ Some other → state.from ≤ other.from

-- the states stand in the order of those that they come from, which stand no further back than at this place
pub record ComeInOrder (states : List SearchState) (upto : ℕ) : Type 0 where
  pub in_order : AreInOrder states
  pub within : (at : ℕ) (state : SearchState) → slice_get states at ≡ Some state → state.from ≤ upto

-- the state in which the one at the place `caller` calls a method so is among the states, and comes from no later one
abbrev pub IsListed : List BodySteps → Need → List SearchState → ℕ → List (Option Elem) → ℕ → List Elem → Type 0
IsListed bodies target states caller values callee args =
    (body : BodySteps) → slice_get bodies callee ≡ Some body
    → (at : ℕ) × (state : SearchState) × (slice_get states at ≡ Some state) × (state.method ≡ callee)
    × (state.values ≡ callee_values values target.elems args body.params) × (state.from ≤ caller)

-- the step is an access that stands for what is looked for
abbrev pub IsMatchAt : Need → List (Option Elem) → List BodyStep → ℕ → Type 0
IsMatchAt target values steps k =
    (need : Need) × (slice_get steps k ≡ Some (Touch need)) × IsTrue (is_match values need target)

-- no step is
abbrev pub HasNoMatch : Need → List (Option Elem) → List BodyStep → Type 0
HasNoMatch target values steps =
    (k : ℕ) (need : Need) → slice_get steps k ≡ Some (Touch need) → is_match values need target ≡ false

-- each state in which one of the steps before this one calls a method is among the states
abbrev pub CallsListed : List BodySteps → Need → List SearchState → ℕ → List (Option Elem) → List BodyStep → ℕ → Type 0
CallsListed bodies target states at values steps upto =
    (k callee : ℕ) (args : List Elem) → k < upto → slice_get steps k ≡ Some (Call callee args)
    → IsListed bodies target states at values callee args

-- the state is done with: none of its accesses stands for what is looked for, and each state in which it calls a method is listed
abbrev pub IsDoneWith : List BodySteps → Need → List SearchState → ℕ → SearchState → Type 0
IsDoneWith bodies target states at state =
    (body : BodySteps) → slice_get bodies state.method ≡ Some body
    → HasNoMatch target state.values body.steps
    × ((k callee : ℕ) (args : List Elem) → slice_get body.steps k ≡ Some (Call callee args)
    → IsListed bodies target states at state.values callee args)

-- the states before this place are done with
abbrev pub AreDone : List BodySteps → Need → List SearchState → ℕ → Type 0
AreDone bodies target states upto =
    (at : ℕ) (state : SearchState) → at < upto → slice_get states at ≡ Some state → IsDoneWith bodies target states at state

-- an access of the method of the state at this place stands for what is looked for
abbrev pub IsFoundAt : List BodySteps → Need → List SearchState → ℕ → ℕ → Type 0
IsFoundAt bodies target states at step =
    (state : SearchState) × (body : BodySteps) × (slice_get states at ≡ Some state) × (slice_get bodies state.method ≡ Some body)
    × IsMatchAt target state.values body.steps step

-- where such an access is found, the place of a state and the number of a step; if there is none, all states are done with
abbrev pub SearchEnds : List BodySteps → Need → List SearchState → Option (ℕ × ℕ) → Type 0
SearchEnds bodies target states (Some found) = IsFoundAt bodies target states found.0 found.1
SearchEnds bodies target states None =
    (at : ℕ) (state : SearchState) → slice_get states at ≡ Some state → IsDoneWith bodies target states at state

-- no state before this place has such an access, and the states stand in their order
pub record IsFirstFound (bodies : List BodySteps) (target : Need) (states : List SearchState) (at : ℕ) : Type 0 where
  pub done : AreDone bodies target states at
  pub in_order : AreInOrder states
