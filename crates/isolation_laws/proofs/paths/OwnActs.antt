-- The own acts of a statement: what it does itself, without the statements inside it. They happen at the point just
-- before the statement.
use Rattle.std.proofs.Common.{◌≡◌, ℕ, List, [], ◌++◌, None, Some, inl, inr, refl}
use Rattle.std.specs.List.{AllByRecursion}
use Rattle.twe_program.specs.Program.{Program}
use Rattle.twe_program.specs.Expression.{Expression, Literal, Truth, Variable, CellValue, ArrayElement, GridElement, CallValue, Negative, Negation, Binary, Arguments, argument}
use Rattle.twe_program.specs.Expression as args
use Rattle.twe_program.specs.Statement.{Statement, Block, Let, Set, SetCell, SetArray, SetGrid, If, While, Return, Print, Call, Make, Wait, Arms, arm, otherwise, no_else}
use Rattle.cover_flow.specs.ControlPath.{point_of}
use Rattle.effect_check.specs.declared.act.Act.{Act}
use Rattle.effect_check.specs.Acts.{acts_in, acts_in_all, acts_in_one, acts_of, acts_of_all}
use Rattle.effect_check.proofs.Members.{IsIn, all-append, in-cases, in-left, in-right}

-- what evaluating the conditions of an `if` does
abbrev pub condition_acts : Program → ℕ → Arms → List Act
condition_acts p point (arm condition body others) = acts_of p point condition ++ condition_acts p point others
condition_acts p point (otherwise body) = []
condition_acts p point no_else = []

abbrev pub own_acts : Program → Statement → List Act
own_acts p (Block point body) = []
own_acts p (If point arms) = condition_acts p point arms
own_acts p (While point condition body place) = acts_of p point condition
own_acts p s = acts_in p s

-- each own act of a statement is one of its acts
conditions_in : (p : Program) (point : ℕ) (arms : Arms) (x : Act) → IsIn x (condition_acts p point arms) → IsIn x (acts_in_one p point arms)
conditions_in p point (arm condition body others) x h = elim (in-cases x (acts_of p point condition) (condition_acts p point others) h) [
  | inl front ↦ in-left x (acts_of p point condition) _ front
  | inr back ↦ in-right x (acts_of p point condition) _ (in-right x (acts_in_all p body) _ (conditions_in p point others x back))
]
conditions_in p point (otherwise body) x h = absurd h
conditions_in p point no_else x h = absurd h

pub own_in : (p : Program) (s : Statement) (x : Act) → IsIn x (own_acts p s) → IsIn x (acts_in p s)
own_in p (Block point body) x h = absurd h
own_in p (If point arms) x h = conditions_in p point arms x h
own_in p (While point condition body place) x h = in-left x (acts_of p point condition) _ h
own_in p _ x h = h

-- all of these acts happen at this point
abbrev AllAt : ℕ → List Act → Type 0
AllAt point acts = AllByRecursion (λ (act : Act). act.point ≡ point) acts

both_at : (point : ℕ) (xs ys : List Act) → AllAt point xs → AllAt point ys → AllAt point (xs ++ ys)
both_at point xs ys h k = all-append (λ (act : Act). act.point ≡ point) xs ys h k

module _ (p : Program) (point : ℕ) where
  mutual
    expression_at : (e : Expression) → AllAt point (acts_of p point e)
    expression_at (Literal value) = tt
    expression_at (Truth value) = tt
    expression_at (Variable var fixed) = tt
    expression_at (CellValue cell place) = (refl, tt)
    expression_at (ArrayElement array index place) = (refl, expression_at index)
    expression_at (GridElement array row column place) = (refl, both_at point (acts_of p point row) (acts_of p point column) (expression_at row) (expression_at column))
    expression_at (CallValue method given place) = (refl, arguments_at given)
    expression_at (Negative operand) = expression_at operand
    expression_at (Negation operand) = expression_at operand
    expression_at (Binary op left right place) = both_at point (acts_of p point left) (acts_of p point right) (expression_at left) (expression_at right)

    arguments_at : (given : Arguments) → AllAt point (acts_of_all p point given)
    arguments_at args.no_more = tt
    arguments_at (argument first others) = both_at point (acts_of p point first) (acts_of_all p point others) (expression_at first) (arguments_at others)

  conditions_at : (arms : Arms) → AllAt point (condition_acts p point arms)
  conditions_at (arm condition body others) = both_at point (acts_of p point condition) (condition_acts p point others) (expression_at condition) (conditions_at others)
  conditions_at (otherwise body) = tt
  conditions_at no_else = tt

  three_at : (first second third : Expression) → AllAt point (acts_of p point first ++ (acts_of p point second ++ acts_of p point third))
  three_at first second third =
      both_at point (acts_of p point first) (acts_of p point second ++ acts_of p point third) (expression_at first)
      (both_at point (acts_of p point second) (acts_of p point third) (expression_at second) (expression_at third))

pub own_at : (p : Program) (s : Statement) → AllAt (point_of s) (own_acts p s)
own_at p (Block point body) = tt
own_at p (Let point var value) = expression_at p point value
own_at p (Set point var value) = expression_at p point value
own_at p (SetCell point cell value place) = (refl, expression_at p point value)
own_at p (SetArray point array index value place) = (refl, both_at point (acts_of p point index) (acts_of p point value) (expression_at p point index) (expression_at p point value))
own_at p (SetGrid point array row column value place) = (refl, three_at p point row column value)
own_at p (If point arms) = conditions_at p point arms
own_at p (While point condition body place) = expression_at p point condition
own_at p (Return point None) = tt
own_at p (Return point (Some value)) = expression_at p point value
own_at p (Print point value place) = (refl, expression_at p point value)
own_at p (Call point method given place) = (refl, arguments_at p point given)
own_at p (Make point future task given spawned future_place place) = (refl, arguments_at p point given)
own_at p (Wait point future join into place) = (refl, tt)
