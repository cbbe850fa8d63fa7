-- One step of the evaluator.
use Rattle.std.specs.Prelude.{ℕ, ◌+◌, ◌-◌, ℤ, pos, Bool, true, false, List, [], ◌∷◌, ◌++◌, drop, length, Option, None, Some, nat_eq, nat_le, slice_get, slice_set}
use Rattle.twe_base.specs.declared.place.Place.{Place}
use Rattle.twe_base.specs.Language.{max_active_calls}
use Rattle.twe_ast.specs.declared.expr.BinOp.{BinOp}
use Rattle.twe_program.specs.declared.program.Decl.{Decl}
use Rattle.twe_program.specs.Program.{Program}
use Rattle.twe_program.specs.Expression.{Expression, Literal, Truth, Variable, CellValue, ArrayElement, GridElement, CallValue, Negative, Negation, Binary, Arguments, argument}
use Rattle.twe_program.specs.Expression as args
use Rattle.twe_program.specs.Statement.{Statement, Block, Let, Set, SetCell, SetArray, SetGrid, If, While, Return, Print, Call, Make, Wait, Statements, no_more, statement, Arms, arm, otherwise, no_else}
use Rattle.seg_meaning.specs.declared.active.ActiveCall.{ActiveCall}
use Rattle.seg_meaning.specs.declared.fault.FaultCause.{FaultCause}
use Rattle.seg_meaning.specs.declared.fault.FaultCause.TheVariants.{DivZero, Index, GridIndex, Fuel, Depth}
use Rattle.seg_meaning.specs.declared.frame.Position.{Position}
use Rattle.seg_meaning.specs.declared.operation.Operation.{Operation}
use Rattle.seg_meaning.specs.declared.operation.Operation.TheVariants as operations
use Rattle.seg_exec.specs.declared.steps.continuation.Goal.{Goal}
use Rattle.seg_exec.specs.declared.steps.continuation.Goal.TheVariants as goals
use Rattle.seg_exec.specs.declared.steps.request.Request.{Request}
use Rattle.seg_exec.specs.declared.steps.request.Request.TheVariants as requests
use Rattle.seg_exec.specs.declared.steps.request.Ending.TheVariants as endings
use Rattle.seg_meaning.specs.Arithmetic.{number_of, is_true, operated, decided, negative, negation}
use Rattle.seg_meaning.specs.Cells.{cell_number, element_number, grid_element_number}
use Rattle.seg_meaning.specs.Meaning.{body_of, vars_at_start}
use Rattle.twe_base.specs.Stacks.{below}
use Rattle.seg_exec.specs.inner.steps.Endings.{suspended_at}
use Rattle.seg_exec.specs.inner.steps.Continuations.{Continuation, Evaluate, Execute, Rest, Choose, Chosen, Turn, Gather, Take, Negate, Invert, Right, Apply, ReadElement, ReadGridElement, GiveVar, GiveCell, GiveElement, GiveGridElement, PrintValue, Discard, Unwind, Suspend, Leave, Config, top, to_do, with_operand, without_operand, var_value}

-- a step makes a request and leads to a configuration
abbrev pub Step : Type 0
Step = Request × Config

-- a step that requests nothing
abbrev pub on : Config → Step
on c = (requests.Nothing, c)

-- the step that ends the run with a fault
abbrev pub faulted : FaultCause → Place → Config → Step
faulted cause place c = (requests.End (endings.Faulted cause place), c)

-- a unit of fuel is taken and the step is that of `next`; a fault if none is left, as the first argument says
abbrev pub unit_or : Bool → Place → Config → (Config → Step) → Step
unit_or true place c next = faulted Fuel place c
unit_or false place c next = next (record c { fuel = c.fuel - 1 })

-- the same with the fuel of the configuration
abbrev pub asked_unit : Place → Config → (Config → Step) → Step
asked_unit place c next = unit_or (nat_eq c.fuel 0) place c next

-- the step at an expression that is to be evaluated: its value is pushed, or a cell is read, or its parts are to be
-- evaluated first
abbrev pub evaluated : Program → Expression → Config → Step
evaluated p (Literal value) c = on (with_operand value c)
evaluated p (Truth value) c = on (with_operand (number_of value) c)
evaluated p (Variable var fixed) c = on (with_operand (var_value var c) c)
evaluated p (CellValue cell place) c = (requests.Read (cell_number p cell), c)
evaluated p (ArrayElement array index place) c = on (to_do (Evaluate index) (to_do (ReadElement array place) c))
evaluated p (GridElement array row column place) c =
    on (to_do (Evaluate row) (to_do (Evaluate column) (to_do (ReadGridElement array place) c)))
evaluated p (CallValue method args place) c = on (to_do (Gather [] args (goals.Enter method place)) c)
evaluated p (Negative operand) c = on (to_do (Evaluate operand) (to_do Negate c))
evaluated p (Negation operand) c = on (to_do (Evaluate operand) (to_do Invert c))
evaluated p (Binary op left right place) c = on (to_do (Evaluate left) (to_do (Right op right place) c))

-- an assignment to an element, by its index or by its row and column
abbrev pub assigning : ℕ → Expression → Option Expression → Expression → Place → Config → Step
assigning array index None value place c =
    on (to_do (Evaluate index) (to_do (Evaluate value) (to_do (GiveElement array place) c)))
assigning array row (Some column) value place c =
    on (to_do (Evaluate row) (to_do (Evaluate column) (to_do (Evaluate value) (to_do (GiveGridElement array place) c))))

-- a return with a value, or with 0
abbrev pub returning : Option Expression → Config → Step
returning None c = on (to_do Unwind (with_operand (pos 0) c))
returning (Some value) c = on (to_do (Evaluate value) (to_do Unwind c))

-- the step at a statement that is to be executed
abbrev pub executed : Statement → Config → Step
executed (Block point body) c = on (to_do (Rest 0 0 body) c)
executed (Let point var value) c = on (to_do (Evaluate value) (to_do (GiveVar var) c))
executed (Set point var value) c = on (to_do (Evaluate value) (to_do (GiveVar var) c))
executed (SetCell point cell value place) c = on (to_do (Evaluate value) (to_do (GiveCell cell) c))
executed (SetArray point array index value place) c = assigning array index None value place c
executed (SetGrid point array row column value place) c = assigning array row (Some column) value place c
executed (If point arms) c = on (to_do (Choose 0 arms) c)
executed (While point condition body place) c =
    on (to_do (Evaluate condition) (to_do (Turn (While point condition body place) body place) c))
executed (Return point value) c = returning value c
executed (Print point value place) c = on (to_do (Evaluate value) (to_do (PrintValue place) c))
executed (Call point method args place) c = on (to_do (Gather [] args (goals.Enter method place)) (to_do Discard c))
executed (Make point future task args spawned future_place place) c =
    on (to_do (Gather [] args (goals.Make future task spawned place)) c)
executed (Wait point future join into place) c =
    asked_unit place c (λ c1. on (to_do (Suspend (operations.Wait future join into) []) c1))

-- whether a statement is a return
abbrev pub is_return : Statement → Bool
is_return (Return point value) = true
is_return _ = false

-- what is to be done below the next statement of a block: the statements after it, or none of them if it is a return, as
-- the first argument says
abbrev pub rest_below : Bool → ℕ → ℕ → Statements → List Continuation → List Continuation
rest_below true block at others work = work
rest_below false block at others work = Rest block at others ∷ work

-- the same in a configuration
abbrev pub with_rest : Bool → ℕ → ℕ → Statements → Config → Config
with_rest returning block at others c = record c { work = rest_below returning block at others c.work }

-- the step at what is left of a block: its next statement, with the rest below it
abbrev pub rested : ℕ → ℕ → Statements → Config → Step
rested block at no_more c = on c
rested block at (statement first others) c = on (to_do (Execute first) (with_rest (is_return first) block (at + 1) others c))

-- the step at the arms of an `if`: the condition of the next arm is evaluated, or the `else` is executed
abbrev pub choosing : ℕ → Arms → Config → Step
choosing block (arm condition body others) c = on (to_do (Evaluate condition) (to_do (Chosen block (block + 1) body others) c))
choosing block (otherwise body) c = on (to_do (Rest block 0 body) c)
choosing block no_else c = on c

-- the block of an arm if its condition is true, and the next arms otherwise
abbrev pub chosen_by : Bool → ℕ → ℕ → Statements → Arms → Config → Step
chosen_by true block next body others c = on (to_do (Rest block 0 body) c)
chosen_by false block next body others c = on (to_do (Choose next others) c)

-- the same by the value on the operand stack
abbrev pub chosen_next : ℕ → ℕ → Statements → Arms → Config → Step
chosen_next block next body others c = chosen_by (is_true (top c.operands)) block next body others (without_operand c)

-- one more turn of a loop if its condition is true, which takes a unit of fuel; the loop is over otherwise
abbrev pub turned_by : Bool → Statement → Statements → Place → Config → Step
turned_by true again body place c = asked_unit place c (λ c1. on (to_do (Rest 0 0 body) (to_do (Execute again) c1)))
turned_by false again body place c = on c

-- the same by the value on the operand stack
abbrev pub turned_next : Statement → Statements → Place → Config → Step
turned_next again body place c = turned_by (is_true (top c.operands)) again body place (without_operand c)

-- a method is entered, unless too many calls are active already
abbrev pub entered_by : Bool → Option Decl → List ℤ → ActiveCall → Config → Step
entered_by true decl args call c = faulted Depth call.place c
entered_by false decl args call c =
    on (to_do (Rest 0 0 (body_of decl)) (to_do (Leave c.vars)
    (record c { vars = vars_at_start decl args; calls = call ∷ c.calls })))

-- the call of a method takes a unit of fuel, and then the method is entered
abbrev pub entering : Option Decl → List ℤ → ActiveCall → Config → Step
entering decl args call c =
    asked_unit call.place c (λ c1. entered_by (nat_le max_active_calls (length c1.calls)) decl args call c1)

-- all arguments have values: a method is entered, or the task operation suspends the run, which takes a unit of fuel
abbrev pub gathered : Program → List ℤ → Goal → Config → Step
gathered p args (goals.Enter method place) c =
    entering (slice_get p.methods method) args (record { method = method; place = place }) c
gathered p args (goals.Make future task spawned place) c =
    asked_unit place c (λ c1. on (to_do (Suspend (operations.Make future task args spawned place) []) c1))

-- the step at arguments: the next one is evaluated, or all have values
abbrev pub gathering : Program → List ℤ → Arguments → Goal → Config → Step
gathering p taken args.no_more goal c = gathered p taken goal c
gathering p taken (argument first others) goal c = on (to_do (Evaluate first) (to_do (Take taken others goal) c))

-- the value of an argument on the operand stack joins those that were taken before
abbrev pub taking : List ℤ → Arguments → Goal → Config → Step
taking taken args goal c = on (to_do (Gather (taken ++ top c.operands ∷ []) args goal) (without_operand c))

-- the right operand is evaluated and the operator applied, unless the left operand decides the value
abbrev pub right_by : Option ℤ → BinOp → ℤ → Expression → Place → Config → Step
right_by (Some value) op left right place c = on (with_operand value c)
right_by None op left right place c = on (to_do (Evaluate right) (to_do (Apply op place) (with_operand left c)))

-- the value of an operator is pushed; a fault if there is none, since it divides by zero
abbrev pub applied : Option ℤ → Place → Config → Step
applied None place c = faulted DivZero place c
applied (Some value) place c = on (with_operand value c)

-- the read of the cell of an element is requested; a fault with this cause if there is no such element
abbrev pub read_at : Option ℕ → FaultCause → Place → Config → Step
read_at None missing place c = faulted missing place c
read_at (Some cell) missing place c = (requests.Read cell, c)

-- the write of the cell of an element is requested; a fault with this cause if there is no such element
abbrev pub written_at : Option ℕ → FaultCause → ℤ → Place → Config → Step
written_at None missing value place c = faulted missing place c
written_at (Some cell) missing value place c = (requests.Write cell value, c)

-- the same by the left operand on the stack
abbrev pub righting : BinOp → Expression → Place → Config → Step
righting op right place c = right_by (decided op (is_true (top c.operands))) op (top c.operands) right place (without_operand c)

-- an operator is applied to the two latest values, the right operand being the latest
abbrev pub applying : BinOp → Place → Config → Step
applying op place c = applied (operated op (top (below c.operands)) (top c.operands)) place (without_operand (without_operand c))

-- the element of an array at the index on the stack is read
abbrev pub reading_element : Program → ℕ → Place → Config → Step
reading_element p array place c =
    read_at (element_number p array (top c.operands)) (Index (top c.operands)) place (without_operand c)

-- the element of a grid at the row and the column on the stack is read
abbrev pub reading_grid_element : Program → ℕ → Place → Config → Step
reading_grid_element p array place c =
    read_at (grid_element_number p array (top (below c.operands)) (top c.operands))
    (GridIndex (top (below c.operands)) (top c.operands)) place (without_operand (without_operand c))

-- a variable is given the latest value
abbrev pub giving_var : ℕ → Config → Step
giving_var var c = on (record (without_operand c) { vars = slice_set c.vars var (top c.operands) })

-- the element of an array at the index on the stack is given the latest value
abbrev pub giving_element : Program → ℕ → Place → Config → Step
giving_element p array place c =
    written_at (element_number p array (top (below c.operands))) (Index (top (below c.operands))) (top c.operands) place
    (without_operand (without_operand c))

-- the element of a grid at the row and the column on the stack is given the latest value
abbrev pub giving_grid_element : Program → ℕ → Place → Config → Step
giving_grid_element p array place c =
    written_at (grid_element_number p array (top (below (below c.operands))) (top (below c.operands)))
    (GridIndex (top (below (below c.operands))) (top (below c.operands))) (top c.operands) place
    (without_operand (without_operand (without_operand c)))

-- the print of the latest value is requested, which takes a unit of fuel
abbrev pub printing : Place → Config → Step
printing place c = asked_unit place (without_operand c) (λ c1. (requests.Print (top c.operands), c1))

-- the caller continues with a value
abbrev pub back_with : ℤ → List ℤ → Config → Config
back_with value vars c = record c { operands = value ∷ c.operands; vars = vars; calls = drop 1 c.calls }

-- what unwinding recovers from a continuation frame: the variables of the caller, or the position of a block
pub data Recovery : Type 0 where
  ToCaller : (vars : List ℤ) → Recovery
  OfBlock : (position : Position) → Recovery
  NoRecovery : Recovery

-- the same of this frame
abbrev pub recovered_from : Continuation → Recovery
recovered_from (Leave vars) = ToCaller vars
recovered_from (Rest block at stmts) = OfBlock (record { block = block; after = at })
recovered_from _ = NoRecovery

-- one frame is dropped on the return from a body: the caller continues with the latest value, if the frame is a call's;
-- otherwise the return goes on
abbrev pub unwound_past : Recovery → Config → Step
unwound_past (ToCaller vars) c = on (back_with (top c.operands) vars (without_operand c))
unwound_past (OfBlock position) c = on (to_do Unwind c)
unwound_past NoRecovery c = on (to_do Unwind c)

-- the next step of a return: it drops the first frame of these; if there is none, the run ends with the latest value
abbrev pub unwound : List Continuation → Config → Step
unwound [] c = (requests.End (endings.Returned (top c.operands)), without_operand c)
unwound (next ∷ work) c = unwound_past (recovered_from next) (record c { work = work })

-- all steps of a return from one frame on: a call ends the return, and any other frame is dropped before the others
abbrev pub returned_past : Recovery → Config → Step → Step
returned_past (ToCaller vars) c others = on (back_with (top c.operands) vars (without_operand c))
returned_past (OfBlock position) c others = others
returned_past NoRecovery c others = others

-- all steps of a return at once
abbrev pub returned : List Continuation → Config → Step
returned [] c = (requests.End (endings.Returned (top c.operands)), without_operand (record c { work = [] }))
returned (next ∷ work) c = returned_past (recovered_from next) (record c { work = work }) (returned work c)

-- one frame is dropped on a suspension at a task operation: if it is a block, its position is kept. A method has no task
-- operations; one would return 0 to the caller.
abbrev pub suspended_past : Recovery → Operation → List Position → Config → Step
suspended_past (ToCaller vars) operation positions c = on (back_with (pos 0) vars c)
suspended_past (OfBlock position) operation positions c = on (to_do (Suspend operation (position ∷ positions)) c)
suspended_past NoRecovery operation positions c = on (to_do (Suspend operation positions) c)

-- the next step of a suspension: it drops the first frame of these; if there is none, the run ends with the operation
abbrev pub suspended : Operation → List Position → List Continuation → Config → Step
suspended operation positions [] c = (requests.End (suspended_at operation positions), c)
suspended operation positions (next ∷ work) c =
    suspended_past (recovered_from next) operation positions (record c { work = work })

-- one continuation frame is run, with the others in the configuration
abbrev pub worked : Program → Continuation → Config → Step
worked p (Evaluate e) c = evaluated p e c
worked p (Execute s) c = executed s c
worked p (Rest block at stmts) c = rested block at stmts c
worked p (Choose block arms) c = choosing block arms c
worked p (Chosen block next body others) c = chosen_next block next body others c
worked p (Turn again body place) c = turned_next again body place c
worked p (Gather taken args goal) c = gathering p taken args goal c
worked p (Take taken args goal) c = taking taken args goal c
worked p Negate c = on (with_operand (negative (top c.operands)) (without_operand c))
worked p Invert c = on (with_operand (negation (top c.operands)) (without_operand c))
worked p (Right op right place) c = righting op right place c
worked p (Apply op place) c = applying op place c
worked p (ReadElement array place) c = reading_element p array place c
worked p (ReadGridElement array place) c = reading_grid_element p array place c
worked p (GiveVar var) c = giving_var var c
worked p (GiveCell cell) c = (requests.Write (cell_number p cell) (top c.operands), without_operand c)
worked p (GiveElement array place) c = giving_element p array place c
worked p (GiveGridElement array place) c = giving_grid_element p array place c
worked p (PrintValue place) c = printing place c
worked p Discard c = on (without_operand c)
worked p Unwind c = unwound c.work c
worked p (Suspend operation positions) c = suspended operation positions c.work c
worked p (Leave vars) c = on (back_with (pos 0) vars c)

-- the next step; if nothing is left to do, the body returns 0
abbrev pub step_by : Program → List Continuation → Config → Step
step_by p [] c = (requests.End (endings.Returned (pos 0)), c)
step_by p (next ∷ work) c = worked p next (record c { work = work })

-- the next step of a configuration
abbrev pub step_of : Program → Config → Step
step_of p c = step_by p c.work c
