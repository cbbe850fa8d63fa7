-- What expressions and statements do. Operands and arguments are evaluated from the left.
use Rattle.std.specs.Prelude.{ℕ, zero, suc, ◌+◌, ◌-◌, ℤ, pos, Bool, true, false, List, [], ◌∷◌, ◌++◌, drop, length, replicate, Option, None, Some, nat_le, slice_get}
use Rattle.twe_base.specs.declared.place.Place.{Place}
use Rattle.twe_base.specs.Language.{max_active_calls}
use Rattle.twe_ast.specs.declared.expr.BinOp.{BinOp}
use Rattle.twe_program.specs.declared.program.Decl.{Decl}
use Rattle.twe_program.specs.Program.{Program}
use Rattle.twe_program.specs.Expression.{Expression, Literal, Truth, Variable, CellValue, ArrayElement, GridElement, CallValue, Negative, Negation, Binary, Arguments, argument}
use Rattle.twe_program.specs.Expression as args
use Rattle.twe_program.specs.Statement.{Statement, Block, Let, Set, SetCell, SetArray, SetGrid, If, While, Return, Print, Call, Make, Wait, Statements, no_more, statement, Arms, arm, otherwise, no_else}
use Rattle.seg_meaning.specs.declared.active.ActiveCall.{ActiveCall}
use Rattle.seg_meaning.specs.declared.fault.FaultCause.{FaultCause}
use Rattle.seg_meaning.specs.declared.fault.FaultCause.TheVariants.{DivZero, Index, GridIndex, Depth}
use Rattle.seg_meaning.specs.declared.operation.Operation.TheVariants as operations
use Rattle.seg_meaning.specs.Arithmetic.{number_of, is_true, operated, decided, negative, negation}
use Rattle.seg_meaning.specs.Cells.{cell_number, element_number, grid_element_number}
use Rattle.seg_meaning.specs.Store.{Store, Given, gives, faults, Flow, goes, returns, fails, stops, then_give, then_do, then_go, unit_taken, var_in, with_var, cell_read, cell_written, number_printed}

-- What a statement does. Each turn of a loop and each call takes a unit of fuel. The definitions below take the meaning
-- of what follows that unit as a parameter, so that they recurse on the text alone. `done_within` supplies it.
abbrev pub Below : Type 0
Below = Statement → Store → Flow

-- the read of an element; a fault with this cause if there is no such element
abbrev pub element_read : Option ℕ → FaultCause → Place → Store → Given ℤ
element_read None missing place s = faults missing place s
element_read (Some cell) missing place s = cell_read cell s

-- the write of an element; a fault with this cause if there is no such element
abbrev pub element_written : Option ℕ → FaultCause → ℤ → Place → Store → Flow
element_written None missing value place s = fails missing place s
element_written (Some cell) missing value place s = goes (cell_written cell value s)

-- the value of an operator on its operands; a fault if it divides by zero
abbrev pub value_or_fault : Option ℤ → Place → Store → Given ℤ
value_or_fault None place s = faults DivZero place s
value_or_fault (Some value) place s = gives value s

-- the operator on both operands, unless the left one decides
abbrev pub right_given : Option ℤ → BinOp → ℤ → Place → Given ℤ → Store → Given ℤ
right_given (Some value) op left place right s = gives value s
right_given None op left place right s = then_give right (λ value s1. value_or_fault (operated op left value) place s1)

-- the statements of the body of a declaration; none if there is no such declaration
abbrev pub body_of : Option Decl → Statements
body_of None = no_more
body_of (Some decl) = decl.body.block

-- how many variables the body of a declaration has: its parameters and its locals
abbrev pub var_count_of : Option Decl → ℕ
var_count_of None = 0
var_count_of (Some decl) = decl.body.vars

-- the variables of a body at its start: the arguments, and then 0 for each local
abbrev pub vars_at_start : Option Decl → List ℤ → List ℤ
vars_at_start decl args = args ++ replicate (var_count_of decl - length args) (pos 0)

-- the store after a call: the variables are the caller's again, and the latest active call is active no more
abbrev pub left_with : List ℤ → Store → Store
left_with vars s = record s { vars = vars; calls = drop 1 s.calls }

-- the value of a call: the one that the body returns, or 0 if it ends without a return. A method has no task operations;
-- one would end it with 0.
abbrev pub given_back : List ℤ → Flow → Given ℤ
given_back vars (goes s) = gives (pos 0) (left_with vars s)
given_back vars (returns value s) = gives value (left_with vars s)
given_back vars (fails cause place s) = faults cause place s
given_back vars (stops operation positions s) = gives (pos 0) (left_with vars s)

-- a method is executed, unless too many calls are active already
abbrev pub entered : Bool → Below → Option Decl → List ℤ → ActiveCall → Store → Given ℤ
entered true below decl args call s = faults Depth call.place s
entered false below decl args call s =
    given_back s.vars (below (Block 0 (body_of decl)) (record s { vars = vars_at_start decl args; calls = call ∷ s.calls }))

-- the call of a method takes a unit of fuel
abbrev pub called : Below → Program → ℕ → List ℤ → Place → Store → Given ℤ
called below p method args place s =
    then_give (unit_taken place s) (λ unit s1.
    entered (nat_le max_active_calls (length s1.calls)) below (slice_get p.methods method) args
    (record { method = method; place = place }) s1)

-- what expressions and lists of arguments give
abbrev mutual
  -- the value of an expression
  pub value_of : Below → Program → Expression → Store → Given ℤ
  value_of below p (Literal value) s = gives value s
  value_of below p (Truth value) s = gives (number_of value) s
  value_of below p (Variable var fixed) s = gives (var_in var s) s
  value_of below p (CellValue cell place) s = cell_read (cell_number p cell) s
  value_of below p (ArrayElement array index place) s =
      then_give (value_of below p index s) (λ i s1. element_read (element_number p array i) (Index i) place s1)
  value_of below p (GridElement array row column place) s =
      then_give (value_of below p row s) (λ i s1.
      then_give (value_of below p column s1) (λ j s2. element_read (grid_element_number p array i j) (GridIndex i j) place s2))
  value_of below p (CallValue method args place) s =
      then_give (values_of below p args s) (λ values s1. called below p method values place s1)
  value_of below p (Negative operand) s = then_give (value_of below p operand s) (λ value s1. gives (negative value) s1)
  value_of below p (Negation operand) s = then_give (value_of below p operand s) (λ value s1. gives (negation value) s1)
  value_of below p (Binary op left right place) s =
      then_give (value_of below p left s) (λ value s1.
      right_given (decided op (is_true value)) op value place (value_of below p right s1) s1)

  -- the values of arguments, in order
  pub values_of : Below → Program → Arguments → Store → Given (List ℤ)
  values_of below p args.no_more s = gives [] s
  values_of below p (argument first others) s =
      then_give (value_of below p first s) (λ value s1.
      then_give (values_of below p others s1) (λ values s2. gives (value ∷ values) s2))

-- a turn of a loop takes a unit of fuel and executes the body; then the condition is tested again
abbrev pub turned : Bool → Place → (Store → Flow) → (Store → Flow) → Store → Flow
turned false place body again s = goes s
turned true place body again s = then_do (unit_taken place s) (λ unit s1. then_go (body s1) again)

-- the first if the condition is true, and the second otherwise
abbrev pub chosen : Bool → Flow → Flow → Flow
chosen true first second = first
chosen false first second = second

-- the body returns a value, or meets the fault that its expression met
abbrev pub value_returned : Given ℤ → Flow
value_returned given = then_do given (λ value s. returns value s)

-- a task operation inside a statement of a block adds the position after that statement
abbrev pub stopped_at : ℕ → ℕ → Flow → Flow
stopped_at block after (stops operation positions s) = stops operation (record { block = block; after = after } ∷ positions) s
stopped_at block after (goes s) = goes s
stopped_at block after (returns value s) = returns value s
stopped_at block after (fails cause place s) = fails cause place s

-- what statements, blocks and the arms of an `if` do
abbrev mutual
  -- what a statement does
  pub done_by : Below → Program → Statement → Store → Flow
  done_by below p (Block point body) s = done_all below p 0 0 body s
  done_by below p (Let point var value) s = then_do (value_of below p value s) (λ v s1. goes (with_var var v s1))
  done_by below p (Set point var value) s = then_do (value_of below p value s) (λ v s1. goes (with_var var v s1))
  done_by below p (SetCell point cell value place) s =
      then_do (value_of below p value s) (λ v s1. goes (cell_written (cell_number p cell) v s1))
  done_by below p (SetArray point array index value place) s =
      then_do (value_of below p index s) (λ i s1.
      then_do (value_of below p value s1) (λ v s2. element_written (element_number p array i) (Index i) v place s2))
  done_by below p (SetGrid point array row column value place) s =
      then_do (value_of below p row s) (λ i s1. then_do (value_of below p column s1) (λ j s2.
      then_do (value_of below p value s2) (λ v s3. element_written (grid_element_number p array i j) (GridIndex i j) v place s3)))
  done_by below p (If point arms) s = done_arms below p 0 arms s
  done_by below p (While point condition body place) s =
      then_do (value_of below p condition s) (λ v s1.
      turned (is_true v) place (done_all below p 0 0 body) (below (While point condition body place)) s1)
  done_by below p (Return point None) s = returns (pos 0) s
  done_by below p (Return point (Some value)) s = value_returned (value_of below p value s)
  done_by below p (Print point value place) s =
      then_do (value_of below p value s) (λ v s1.
      then_do (unit_taken place s1) (λ unit s2. goes (number_printed v s2)))
  done_by below p (Call point method args place) s =
      then_do (values_of below p args s) (λ values s1.
      then_do (called below p method values place s1) (λ value s2. goes s2))
  done_by below p (Make point future task args spawned future_place place) s =
      then_do (values_of below p args s) (λ values s1.
      then_do (unit_taken place s1) (λ unit s2. stops (operations.Make future task values spawned place) [] s2))
  done_by below p (Wait point future join into place) s =
      then_do (unit_taken place s) (λ unit s1. stops (operations.Wait future join into) [] s1)

  -- the statements of a block from the one at `at` on; the block is known by its number among those of its statement
  pub done_all : Below → Program → ℕ → ℕ → Statements → Store → Flow
  done_all below p block at no_more s = goes s
  done_all below p block at (statement first others) s =
      then_go (stopped_at block (at + 1) (done_by below p first s)) (λ s1. done_all below p block (at + 1) others s1)

  -- the first arm whose condition is true
  pub done_arms : Below → Program → ℕ → Arms → Store → Flow
  done_arms below p block (arm condition body others) s =
      then_do (value_of below p condition s) (λ v s1.
      chosen (is_true v) (done_all below p block 0 body s1) (done_arms below p (block + 1) others s1))
  done_arms below p block (otherwise body) s = done_all below p block 0 body s
  done_arms below p block no_else s = goes s

-- what a statement does with at most n turns and calls, nested or in sequence. If n is above the fuel that is left, the
-- bound is never reached.
abbrev pub done_within : Program → ℕ → Below
done_within p zero = λ stmt s. goes s
done_within p (suc n) = done_by (done_within p n) p
