-- A program without its places is the program with each place moved to one.
use Rattle.std.proofs.Common.{◌≡◌, map, Option, None, Some, refl, ap}
use Rattle.twe_program.specs.declared.program.Body.{Body}
use Rattle.twe_program.specs.declared.program.Decl.{Decl}
use Rattle.twe_program.specs.Program.{Program}
use Rattle.twe_program.specs.Expression.{Expression, Literal, Truth, Variable, CellValue, ArrayElement, GridElement, CallValue, Negative, Negation, Binary, Arguments, argument}
use Rattle.twe_program.specs.Expression as args
use Rattle.twe_program.specs.Statement.{Statement, Block, Let, Set, SetCell, SetArray, SetGrid, If, While, Return, Print, Call, Make, Wait, Statements, no_more, statement, Arms, arm, otherwise, no_else}
use Rattle.moved_places.specs.MovedProgram.{moved_expression, moved_arguments, moved_value, moved_statement, moved_statements, moved_arms, moved_decl, moved_program}
use Rattle.summary_texts.specs.paste_laws.places.Places.{no_place, bare_expression, bare_arguments, placeless_value, bare_statement, bare_statements, bare_arms, placeless_cell, placeless_decl, bare_program}
use Rattle.summary_texts.proofs.paste_laws.places.BareTrees.{away, same-map}

mutual
  expression-bare : (e : Expression) → moved_expression away e ≡ bare_expression e
  expression-bare (Literal value) = refl
  expression-bare (Truth value) = refl
  expression-bare (Variable var fixed) = refl
  expression-bare (CellValue cell place) = refl
  expression-bare (ArrayElement array index place) = λ i. ArrayElement array (expression-bare index i) no_place
  expression-bare (GridElement array row column place) = λ i. GridElement array (expression-bare row i) (expression-bare column i) no_place
  expression-bare (CallValue method args place) = λ i. CallValue method (arguments-bare args i) no_place
  expression-bare (Negative operand) = ap Negative (expression-bare operand)
  expression-bare (Negation operand) = ap Negation (expression-bare operand)
  expression-bare (Binary op left right place) = λ i. Binary op (expression-bare left i) (expression-bare right i) no_place

  arguments-bare : (es : Arguments) → moved_arguments away es ≡ bare_arguments es
  arguments-bare args.no_more = refl
  arguments-bare (argument first others) = λ i. argument (expression-bare first i) (arguments-bare others i)

value-bare : (value : Option Expression) → moved_value away value ≡ placeless_value value
value-bare None = refl
value-bare (Some value) = ap Some (expression-bare value)

mutual
  statement-bare : (s : Statement) → moved_statement away s ≡ bare_statement s
  statement-bare (Block point body) = ap (Block point) (statements-bare body)
  statement-bare (Let point var value) = ap (Let point var) (expression-bare value)
  statement-bare (Set point var value) = ap (Set point var) (expression-bare value)
  statement-bare (SetCell point cell value place) = λ i. SetCell point cell (expression-bare value i) no_place
  statement-bare (SetArray point array index value place) = λ i. SetArray point array (expression-bare index i) (expression-bare value i) no_place
  statement-bare (SetGrid point array row column value place) =
      λ i. SetGrid point array (expression-bare row i) (expression-bare column i) (expression-bare value i) no_place
  statement-bare (If point arms) = ap (If point) (arms-bare arms)
  statement-bare (While point condition body place) = λ i. While point (expression-bare condition i) (statements-bare body i) no_place
  statement-bare (Return point value) = ap (Return point) (value-bare value)
  statement-bare (Print point value place) = λ i. Print point (expression-bare value i) no_place
  statement-bare (Call point method args place) = λ i. Call point method (arguments-bare args i) no_place
  statement-bare (Make point future task args spawned future_place place) =
      λ i. Make point future task (arguments-bare args i) spawned no_place no_place
  statement-bare (Wait point future join into place) = refl

  statements-bare : (ss : Statements) → moved_statements away ss ≡ bare_statements ss
  statements-bare no_more = refl
  statements-bare (statement first others) = λ i. statement (statement-bare first i) (statements-bare others i)

  arms-bare : (arms : Arms) → moved_arms away arms ≡ bare_arms arms
  arms-bare (arm condition body others) = λ i. arm (expression-bare condition i) (statements-bare body i) (arms-bare others i)
  arms-bare (otherwise body) = ap otherwise (statements-bare body)
  arms-bare no_else = refl

decl-bare : (decl : Decl) → moved_decl away decl ≡ placeless_decl decl
decl-bare decl =
    let block = statements-bare decl.body.block in
    ap (λ (ss : Statements). let body : Body = record decl.body { block = ss; close = no_place } in let its : Decl = record decl { body = body; place = no_place } in its) block

pub program-bare : (p : Program) → moved_program away p ≡ bare_program p
program-bare p = λ i. record p {
  cells = map placeless_cell p.cells;
  methods = same-map (moved_decl away) placeless_decl decl-bare p.methods i;
  tasks = same-map (moved_decl away) placeless_decl decl-bare p.tasks i;
}
