-- The values that arguments may have.
use Rattle.std.proofs.Common.{refl}
use Rattle.twe_program.specs.Program.{Program}
use Rattle.twe_program.specs.Expression.{Expression, Literal, Truth, Variable, CellValue, ArrayElement, GridElement, CallValue, Negative, Negation, Binary, Arguments, argument}
use Rattle.twe_program.specs.Expression as exprs
use Rattle.seg_meaning.specs.Meaning.{Below, value_of, values_of}
use Rattle.seg_meaning.specs.Store.{Store, Given, gives, faults, then_give}
use Rattle.machine_state.specs.segment_laws.Operations.{AllMayHave, MayHave}

-- this holds of the value, if there is one
abbrev pub GivenIs : {A : Type 0} → (A → Type 0) → Given A → Type 0
GivenIs Q (gives value s) = Q value
GivenIs Q (faults kind place s) = Unit {0}

give_given : {A B : Type 0} (Q : A → Type 0) (R : B → Type 0) (g : Given A) (then : A → Store → Given B)
    → GivenIs Q g → ((value : A) (s : Store) → Q value → GivenIs R (then value s)) → GivenIs R (then_give g then)
give_given Q R (gives value s) then q k = k value s q
give_given Q R (faults kind place s) then q k = tt

any_given : {A : Type 0} (g : Given A) → GivenIs (λ (value : A). Unit {0}) g
any_given (gives value s) = tt
any_given (faults kind place s) = tt

module _ (p : Program) (below : Below) where
  value_may : (e : Expression) (s : Store) → GivenIs (MayHave e) (value_of below p e s)
  value_may (Literal value) s = refl
  value_may (Truth value) s = tt
  value_may (Variable var fixed) s = tt
  value_may (CellValue cell place) s = tt
  value_may (ArrayElement array index place) s = any_given (value_of below p (ArrayElement array index place) s)
  value_may (GridElement array row column place) s = any_given (value_of below p (GridElement array row column place) s)
  value_may (CallValue method args place) s = any_given (value_of below p (CallValue method args place) s)
  value_may (Negative operand) s = any_given (value_of below p (Negative operand) s)
  value_may (Negation operand) s = any_given (value_of below p (Negation operand) s)
  value_may (Binary op left right place) s = any_given (value_of below p (Binary op left right place) s)

  pub values_may : (args : Arguments) (s : Store) → GivenIs (AllMayHave args) (values_of below p args s)
  values_may exprs.no_more s = tt
  values_may (argument first others) s =
      give_given (MayHave first) (AllMayHave (argument first others)) (value_of below p first s) _ (value_may first s)
      (λ v s1 h. give_given (AllMayHave others) (AllMayHave (argument first others)) (values_of below p others s1) _ (values_may others s1) (λ vs s2 hs. (h, hs)))
