-- Statements with the places of the tokens that they are printed as.
use Rattle.std.proofs.Common.{◌≡◌, Bool, true, false, List, refl, ap, Option, None, Some}
use Rattle.twe_base.specs.declared.place.Place.{Place}
use Rattle.twe_ast.specs.declared.stmt.WaitCall.{WaitCall}
use Rattle.twe_ast.specs.Expression.{Expression}
use Rattle.twe_ast.specs.Statement.{Statement, Block, Let, Set, SetArray, SetGrid, If, While, Return, Print, Call, Make, Wait, LetWait, Statements, end_of_block, statement, Arms, arm, otherwise, no_else}
use Rattle.twe_lexer.specs.declared.fixed.Fixed.TheVariants as fixed
use Rattle.ast_printer.specs.Text.{when}
use Rattle.ast_printer.specs.ExpressionTokens.{expression_tokens}
use Rattle.ast_printer.specs.StatementTokens.{statement_tokens, block_tokens}
use Rattle.ast_printer.specs.BareExpression.{bare_name, nowhere}
use Rattle.ast_printer.specs.BareStatement.{bare_value, bare_statement, bare_block, bare_arms}
use Rattle.ast_printer.proofs.Supply.{here, next, after, placed_name}
use Rattle.ast_printer.proofs.PlacedExpression.{placed_expression, placed_arguments, same_expression, same_arguments}

abbrev pub second : List Place → List Place
second s = next (next s)

abbrev pub third : List Place → List Place
third s = next (next (next s))

-- the places after an expression and the two tokens behind it
abbrev pub past : Expression → List Place → List Place
past e s = second (after (expression_tokens 0 e) s)

abbrev pub placed_wait : WaitCall → List Place → WaitCall
placed_wait wait s = record { future = placed_name wait.future s; join = wait.join }

abbrev pub placed_value : Option Expression → List Place → Option Expression
placed_value None s = None
placed_value (Some value) s = Some (placed_expression 0 value s)

abbrev mutual
  pub placed_statement : Statement → List Place → Statement
  placed_statement (Block body) s = Block (placed_block body (next s))
  placed_statement (Let is_final local_type name value) s =
      Let is_final local_type (placed_name name (next (after (when is_final fixed.Final) s))) (placed_expression 0 value (third (after (when is_final fixed.Final) s)))
  placed_statement (Set name value) s = Set (placed_name name s) (placed_expression 0 value (second s))
  placed_statement (SetArray array index value) s =
      SetArray (placed_name array s) (placed_expression 0 index (second s)) (placed_expression 0 value (past index (second s)))
  placed_statement (SetGrid array row column value) s =
      SetGrid (placed_name array s) (placed_expression 0 row (second s)) (placed_expression 0 column (past row (second s))) (placed_expression 0 value (past column (past row (second s))))
  placed_statement (If arms) s = If (placed_arms false arms s)
  placed_statement (While place condition body) s = While (here s) (placed_expression 0 condition (second s)) (placed_block body (past condition (second s)))
  placed_statement (Return place value) s = Return (here s) (placed_value value (next s))
  placed_statement (Print place value) s = Print (here s) (placed_expression 0 value (second s))
  placed_statement (Call method args) s = Call (placed_name method s) (placed_arguments false args (second s))
  placed_statement (Make future task spawned args) s =
      Make (placed_name future (next s)) (placed_name task (third s)) spawned (placed_arguments false args (next (third (third s))))
  placed_statement (Wait wait) s = Wait (placed_wait wait s)
  placed_statement (LetWait is_final name wait) s =
      LetWait is_final (placed_name name (next (after (when is_final fixed.Final) s))) (placed_wait wait (third (after (when is_final fixed.Final) s)))

  pub placed_block : Statements → List Place → Statements
  placed_block (end_of_block close) s = end_of_block (here s)
  placed_block (statement first others) s = statement (placed_statement first s) (placed_block others (after (statement_tokens first) s))

  pub placed_arms : Bool → Arms → List Place → Arms
  placed_arms later no_else s = no_else
  placed_arms later (otherwise body) s = otherwise (placed_block body (next (after (when later fixed.Else) s)))
  placed_arms later (arm condition body others) s =
      arm (placed_expression 0 condition (second (after (when later fixed.Else) s))) (placed_block body (past condition (second (after (when later fixed.Else) s))))
      (placed_arms true others (after (block_tokens body) (past condition (second (after (when later fixed.Else) s)))))

same_value : (value : Option Expression) (s : List Place) → bare_value (placed_value value s) ≡ bare_value value
same_value None s = refl
same_value (Some value) s = ap Some (same_expression 0 value s)

mutual
  pub same_statement : (st : Statement) (s : List Place) → bare_statement (placed_statement st s) ≡ bare_statement st
  same_statement (Block body) s = ap Block (same_block body (next s))
  same_statement (Let is_final local_type name value) s = ap (Let is_final local_type (bare_name name)) (same_expression 0 value (third (after (when is_final fixed.Final) s)))
  same_statement (Set name value) s = ap (Set (bare_name name)) (same_expression 0 value (second s))
  same_statement (SetArray array index value) s =
      λ i. SetArray (bare_name array) (same_expression 0 index (second s) i) (same_expression 0 value (past index (second s)) i)
  same_statement (SetGrid array row column value) s =
      λ i. SetGrid (bare_name array) (same_expression 0 row (second s) i) (same_expression 0 column (past row (second s)) i) (same_expression 0 value (past column (past row (second s))) i)
  same_statement (If arms) s = ap If (same_arms false arms s)
  same_statement (While place condition body) s = λ i. While nowhere (same_expression 0 condition (second s) i) (same_block body (past condition (second s)) i)
  same_statement (Return place value) s = ap (Return nowhere) (same_value value (next s))
  same_statement (Print place value) s = ap (Print nowhere) (same_expression 0 value (second s))
  same_statement (Call method args) s = ap (Call (bare_name method)) (same_arguments false args (second s))
  same_statement (Make future task spawned args) s = ap (Make (bare_name future) (bare_name task) spawned) (same_arguments false args (next (third (third s))))
  same_statement (Wait wait) s = refl
  same_statement (LetWait is_final name wait) s = refl

  pub same_block : (body : Statements) (s : List Place) → bare_block (placed_block body s) ≡ bare_block body
  same_block (end_of_block close) s = refl
  same_block (statement first others) s = λ i. statement (same_statement first s i) (same_block others (after (statement_tokens first) s) i)

  pub same_arms : (later : Bool) (arms : Arms) (s : List Place) → bare_arms (placed_arms later arms s) ≡ bare_arms arms
  same_arms later no_else s = refl
  same_arms later (otherwise body) s = ap otherwise (same_block body (next (after (when later fixed.Else) s)))
  same_arms later (arm condition body others) s =
      λ i. arm (same_expression 0 condition (second (after (when later fixed.Else) s)) i) (same_block body (past condition (second (after (when later fixed.Else) s))) i)
      (same_arms true others (after (block_tokens body) (past condition (second (after (when later fixed.Else) s)))) i)
