-- Continuation frames, and the state of the evaluator.
use Rattle.std.specs.Prelude.{ℕ, ℤ, pos, List, ◌∷◌, slice_get}
use Rattle.twe_base.specs.declared.place.Place.{Place}
use Rattle.twe_ast.specs.declared.expr.BinOp.{BinOp}
use Rattle.twe_program.specs.Expression.{Expression, Arguments}
use Rattle.twe_program.specs.Statement.{Statement, Statements, Arms}
use Rattle.seg_meaning.specs.declared.active.ActiveCall.{ActiveCall}
use Rattle.seg_meaning.specs.declared.frame.Position.{Position}
use Rattle.seg_meaning.specs.declared.operation.Operation.{Operation}
use Rattle.seg_exec.specs.declared.steps.continuation.Goal.{Goal}
use Rattle.seg_meaning.specs.Access.{value_in}
use Rattle.twe_base.specs.Stacks as stacks
use Rattle.twe_base.specs.Stacks.{below}

-- a continuation frame: one thing that is still to be done
pub data Continuation : Type 0 where
  -- evaluate an expression; its value is pushed onto the operand stack
  Evaluate : (e : Expression) → Continuation
  -- execute a statement
  Execute : (s : Statement) → Continuation
  -- execute the statements of a block; the first of them is the one at `at`
  Rest : (block at : ℕ) (stmts : Statements) → Continuation
  -- try the arms of an `if`; use the value of the condition of an arm
  Choose : (block : ℕ) (arms : Arms) → Continuation
  Chosen : (block next : ℕ) (body : Statements) (others : Arms) → Continuation
  -- use the value of the condition of a `while`
  Turn : (again : Statement) (body : Statements) (place : Place) → Continuation
  -- evaluate further arguments; use the value of an argument first
  Gather : (taken : List ℤ) (args : Arguments) (goal : Goal) → Continuation
  Take : (taken : List ℤ) (args : Arguments) (goal : Goal) → Continuation
  -- use the latest values of the operand stack
  Negate : Continuation
  Invert : Continuation
  Right : (op : BinOp) (right : Expression) (place : Place) → Continuation
  Apply : (op : BinOp) (place : Place) → Continuation
  ReadElement : (array : ℕ) (place : Place) → Continuation
  ReadGridElement : (array : ℕ) (place : Place) → Continuation
  GiveVar : (var : ℕ) → Continuation
  GiveCell : (cell : ℕ) → Continuation
  GiveElement : (array : ℕ) (place : Place) → Continuation
  GiveGridElement : (array : ℕ) (place : Place) → Continuation
  PrintValue : (place : Place) → Continuation
  Discard : Continuation
  -- return the latest value from the body
  Unwind : Continuation
  -- stop at a task operation; the positions of the blocks that are closed already
  Suspend : (operation : Operation) (positions : List Position) → Continuation
  -- return 0 from a method to its caller, which has these variables
  Leave : (vars : List ℤ) → Continuation

-- the state of the evaluator: the continuation and the operand stack, each with its top first, the variables of the
-- active body, the fuel that is left, and the active calls, the latest first
pub record Config : Type 0 where
  pub work : List Continuation
  pub operands : List ℤ
  pub vars : List ℤ
  pub fuel : ℕ
  pub calls : List ActiveCall

-- the latest value; 0 if there is none
abbrev pub top : List ℤ → ℤ
top values = stacks.top values (pos 0)

-- one thing more is to be done, before the others
abbrev pub to_do : Continuation → Config → Config
to_do task c = record c { work = task ∷ c.work }

-- a value is pushed onto the operand stack
abbrev pub with_operand : ℤ → Config → Config
with_operand value c = record c { operands = value ∷ c.operands }

-- the latest value is popped from the operand stack
abbrev pub without_operand : Config → Config
without_operand c = record c { operands = below c.operands }

-- the value of a variable
abbrev pub var_value : ℕ → Config → ℤ
var_value var c = value_in (slice_get c.vars var)
