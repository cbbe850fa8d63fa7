-- The words of an expression keep the limits where its tokens do.
use Rattle.std.proofs.Common.{◌≡◌, ℕ, ◌+◌, ◌≤◌, ◌⊎◌, inl, inr, suc, ◌==◌, ◌&&◌, not, Bool, true, false, List, [], ◌∷◌, ◌++◌, nat_le, nat_lt, refl, sym, ap, ◌∙◌, subst, append_assoc, append-nil, arith}
use Rattle.std.specs.Prelude.{if◌then◌else◌, pos, negsuc}
use Rattle.std.proofs.lemmas.Bool.{false≢true, true≢false, le-ltb, leb-false, lt-ltb}
use Rattle.twe_base.specs.declared.place.Place.{Place}
use Rattle.twe_ast.specs.declared.expr.BinOp.{BinOp}
use Rattle.twe_ast.specs.declared.expr.BinOp.TheVariants as operators
use Rattle.twe_ast.specs.Expression.{Expression, Shape, Binary, Arguments}
use Rattle.twe_lexer.specs.declared.fixed.Fixed.TheVariants as fixed
use Rattle.twe_lexer.specs.declared.token.Token.{Token}
use Rattle.twe_lexer.specs.declared.token.TokenKind.{TokenKind}
use Rattle.twe_lexer.specs.declared.token.TokenKind.TheVariants as kinds
use Rattle.twe_parser.specs.declared.limits.Sofar.{Sofar}
use Rattle.twe_ast.specs.Precedence.{level_of}
use Rattle.twe_parser.specs.OperatorTokens.{operator}
use Rattle.twe_parser.specs.Limits.{is_too_large}
use Rattle.twe_parser.specs.Written.{word, number}
use Rattle.twe_parser.specs.WritesExpression.{is_smallest, WritesExpression, written, WritesShape, binary, negative, smallest, negation, literal, yes, no, variable, call, array, grid, parentheses, WritesArguments, no_arguments, arguments, MoreArguments, no_more_arguments, more_arguments}
use Rattle.ast_printer.specs.Text.{when}
use Rattle.ast_printer.specs.ExpressionTokens.{literal_tokens, needs_parentheses, expression_tokens, shape_tokens, arguments_tokens}
use Rattle.ast_printer.proofs.Passing.{Passed, regrouped, step, skip_open, skip_close}

-- after a unary minus the literal 2147483648 does not come
abbrev pub Calm : Bool → List Token → Type 0
Calm false tokens = Unit {0}
Calm true [] = Unit {0}
Calm true (token ∷ tokens) = is_smallest token.kind ≡ false

-- an operator after its left operand
operator_step : (op : BinOp) {o p : ℕ} {place : Place} {tokens : List Token} {words : List TokenKind} → Passed o p false false tokens words → Passed o p true false (word (operator op) place ∷ tokens) (kinds.Fixed (operator op) ∷ words)
operator_step operators.Or follows = step follows
operator_step operators.And follows = step follows
operator_step operators.Equal follows = step follows
operator_step operators.NotEqual follows = step follows
operator_step operators.Less follows = step follows
operator_step operators.LessEqual follows = step follows
operator_step operators.Greater follows = step follows
operator_step operators.GreaterEqual follows = step follows
operator_step operators.Add follows = step follows
operator_step operators.Sub follows = step follows
operator_step operators.Mul follows = step follows
operator_step operators.Div follows = step follows
operator_step operators.Rem follows = step follows

-- a literal that is not too large is printed as it was
large_literal : (value : ℕ) (text : Sofar) (minus : Bool) → nat_le value 2147483647 ≡ false → text.unary_minus ≡ minus → (minus ≡ true → (value == 2147483648) ≡ false) → is_too_large text (kinds.Literal value) ≡ false → ⊥
large_literal value text minus large is calm small =
    let above : nat_lt 2147483647 value ≡ true = lt-ltb 2147483647 value (leb-false value 2147483647 large) in
    true≢false (sym (large_is (nat_lt 2147483647 value) (value == 2147483648) text.unary_minus above (λ h. calm (sym is ∙ h))) ∙ small)
  where
    large_is : (above same one : Bool) → above ≡ true → (one ≡ true → same ≡ false) → (above && not (same && one)) ≡ true
    large_is false same one is calm = absurd (false≢true is)
    large_is true false one is calm = refl
    large_is true true true is calm = absurd (true≢false (calm refl))
    large_is true true false is calm = refl

calm_literal : (value : ℕ) (minus : Bool) (place : Place) (rest : List Token) → Calm minus (number value place ∷ rest) → minus ≡ true → (value == 2147483648) ≡ false
calm_literal value true place rest calm is = calm
calm_literal value false place rest calm is = absurd (false≢true is)

literal_passes : (value : ℕ) (test : Bool) → nat_le value 2147483647 ≡ test → (o p : ℕ) (minus : Bool) (place : Place) (rest : List Token) (more : List TokenKind) → Calm minus (number value place ∷ rest)
    → Passed o p true false rest more → Passed o p false minus (number value place ∷ rest) (literal_tokens (if test then pos value else negsuc 2147483647) ++ more)
literal_passes value true is o p minus place rest more calm follows = step follows
literal_passes value false is o p minus place rest more calm follows = record {
  pass = λ text print beside passes. absurd (large_literal value text minus is beside.text_minus (calm_literal value minus place rest calm) passes.0.small);
}

-- an operator needs no parentheses at a level that is no higher
not_needed : (level : ℕ) (op : BinOp) → level ≤ level_of op → needs_parentheses level op ≡ false
not_needed level op le = le-ltb (level_of op) level le

plain_tokens : (op : BinOp) (left right : Expression) (test : Bool) → List TokenKind
plain_tokens op left right test =
    when test fixed.OpenParen ++ (expression_tokens (level_of op) left ++ kinds.Fixed (operator op) ∷ (expression_tokens (level_of op + 1) right ++ when test fixed.CloseParen))

-- at a level the words are those at level 0, or they are those in parentheses
pub enclosed_or_not : (level : ℕ) (shape : Shape) → (shape_tokens level shape ≡ shape_tokens 0 shape) ⊎ (shape_tokens level shape ≡ kinds.Fixed fixed.OpenParen ∷ (shape_tokens 0 shape ++ kinds.Fixed fixed.CloseParen ∷ []))
unfolding plain_tokens
enclosed_or_not level (Binary op left right place) = by_test (needs_parentheses level op) refl
  where
    none : plain_tokens op left right (needs_parentheses 0 op) ≡ plain_tokens op left right false
    none = ap (plain_tokens op left right) (not_needed 0 op (omega arith))

    by_test : (test : Bool) → needs_parentheses level op ≡ test
        → (shape_tokens level (Binary op left right place) ≡ shape_tokens 0 (Binary op left right place))
        ⊎ (shape_tokens level (Binary op left right place) ≡ kinds.Fixed fixed.OpenParen ∷ (shape_tokens 0 (Binary op left right place) ++ kinds.Fixed fixed.CloseParen ∷ []))
    by_test false is = inl (ap (plain_tokens op left right) is ∙ sym none)
    by_test true is =
        inr (ap (plain_tokens op left right) is ∙ ap (λ words. kinds.Fixed fixed.OpenParen ∷ words) (regroup ∙ ap (λ words. words ++ kinds.Fixed fixed.CloseParen ∷ []) (sym none)))
      where
        regroup : expression_tokens (level_of op) left ++ kinds.Fixed (operator op) ∷ (expression_tokens (level_of op + 1) right ++ kinds.Fixed fixed.CloseParen ∷ [])
            ≡ plain_tokens op left right false ++ kinds.Fixed fixed.CloseParen ∷ []
        regroup = simp (append_assoc, append-nil)
enclosed_or_not level _ = inl refl

-- an expression in parentheses of the text, which are printed or not
enclosed_passes : (low : ℕ) (shape : Shape) (o p : ℕ) (minus : Bool) (opening close : Place) (tokens rest : List Token) (more : List TokenKind)
    → ((upper lower : ℕ) (its : List TokenKind) → Passed upper lower true false (word fixed.CloseParen close ∷ rest) its → Passed upper lower false false tokens (shape_tokens 0 shape ++ its))
    → Passed o p true false rest more → Passed o p false minus (word fixed.OpenParen opening ∷ tokens) (shape_tokens low shape ++ more)
enclosed_passes low shape o p minus opening close tokens rest more inside follows = by_tokens (enclosed_or_not low shape)
  where
    by_tokens : (shape_tokens low shape ≡ shape_tokens 0 shape) ⊎ (shape_tokens low shape ≡ kinds.Fixed fixed.OpenParen ∷ (shape_tokens 0 shape ++ kinds.Fixed fixed.CloseParen ∷ []))
        → Passed o p false minus (word fixed.OpenParen opening ∷ tokens) (shape_tokens low shape ++ more)
    by_tokens (inl is) = subst (λ (words : List TokenKind). Passed o p false minus (word fixed.OpenParen opening ∷ tokens) (words ++ more)) (sym is) (record {
      pass = λ text print beside passes. (skip_open {minus = minus} {place = opening} (inside (suc o) p more (skip_close {place = close} beside.fewer follows))).pass text print beside passes;
    })
    by_tokens (inr is) = subst (λ (words : List TokenKind). Passed o p false minus (word fixed.OpenParen opening ∷ tokens) (words ++ more)) (sym is)
        (step (regrouped (shape_tokens 0 shape) (kinds.Fixed fixed.CloseParen ∷ []) more (inside (suc o) (suc p) (kinds.Fixed fixed.CloseParen ∷ more) (step follows))))

mutual
  pub expression_passes : {level : ℕ} {e : Expression} {tokens rest : List Token} → WritesExpression level e tokens rest → (low : ℕ) → low ≤ level → {o p : ℕ} {minus : Bool} → Calm minus tokens → (more : List TokenKind)
      → Passed o p true false rest more → Passed o p false minus tokens (expression_tokens low e ++ more)
  expression_passes (written shape) low le calm more follows = shape_passes shape low le calm more follows

  pub shape_passes : {level : ℕ} {shape : Shape} {tokens rest : List Token} → WritesShape level shape tokens rest → (low : ℕ) → low ≤ level → {o p : ℕ} {minus : Bool} → Calm minus tokens → (more : List TokenKind)
      → Passed o p true false rest more → Passed o p false minus tokens (shape_tokens low shape ++ more)
  shape_passes (binary {op = op} {left = l} {right = r} {tokens = t} at_most left right) low le {o = o} {p = p} {minus = minus} calm more follows =
      subst (λ (test : Bool). Passed o p false minus t ((when test fixed.OpenParen ++ (expression_tokens (level_of op) l ++ kinds.Fixed (operator op) ∷ (expression_tokens (level_of op + 1) r ++ when test fixed.CloseParen))) ++ more))
      (sym (not_needed low op (omega arith)))
      (simp (append_assoc, append-nil)
      (expression_passes left (level_of op) (omega arith) calm _ (operator_step op (expression_passes right (level_of op + 1) (omega arith) {minus = false} tt more follows))))
  shape_passes (negative {operand = operand} other writes) low le calm more follows = step (expression_passes writes 6 (omega arith) {minus = true} other more follows)
  shape_passes smallest low le calm more follows = step (step follows)
  shape_passes (negation writes) low le calm more follows = step (expression_passes writes 6 (omega arith) {minus = false} tt more follows)
  shape_passes (literal {value = v} {place = place} {rest = rest}) low le {o = o} {p = p} {minus = minus} calm more follows = literal_passes v (nat_le v 2147483647) refl o p minus place rest more calm follows
  shape_passes yes low le calm more follows = step follows
  shape_passes no low le calm more follows = step follows
  shape_passes variable low le calm more follows = step follows
  shape_passes (call args) low le calm more follows = step (step (arguments_pass args more follows))
  shape_passes (array index) low le calm more follows =
      simp append_assoc (step (step (expression_passes index 0 (omega arith) {minus = false} tt (kinds.Fixed fixed.CloseBracket ∷ more) (step follows))))
  shape_passes (grid row column) low le calm more follows =
      simp append_assoc
      (step (step (expression_passes row 0 (omega arith) {minus = false} tt _ (step (step (expression_passes column 0 (omega arith) {minus = false} tt (kinds.Fixed fixed.CloseBracket ∷ more) (step follows)))))))
  shape_passes (parentheses {shape = shape} {opening = opening} {close = close} {others = t} {rest = r} (written inside)) low le {o = o} {p = p} {minus = minus} calm more follows =
      enclosed_passes low shape o p minus opening close t r more (λ upper lower its after. shape_passes inside 0 (omega arith) {o = upper} {p = lower} {minus = false} tt its after) follows

  -- arguments after their `(`
  pub arguments_pass : {args : Arguments} {tokens rest : List Token} → WritesArguments args tokens rest → {o p : ℕ} → (more : List TokenKind) → Passed o p true false rest more → Passed (suc o) (suc p) false false tokens (arguments_tokens false args ++ more)
  arguments_pass no_arguments more follows = step follows
  arguments_pass (arguments {others = o} first others) more follows =
      simp append_assoc (expression_passes first 0 (omega arith) {minus = false} tt (arguments_tokens true o ++ more) (more_arguments_pass others more follows))

  pub more_arguments_pass : {args : Arguments} {tokens rest : List Token} → MoreArguments args tokens rest → {o p : ℕ} → (more : List TokenKind) → Passed o p true false rest more → Passed (suc o) (suc p) true false tokens (arguments_tokens true args ++ more)
  more_arguments_pass no_more_arguments more follows = step follows
  more_arguments_pass (more_arguments {others = o} first others) more follows =
      simp append_assoc (step (expression_passes first 0 (omega arith) {minus = false} tt (arguments_tokens true o ++ more) (more_arguments_pass others more follows)))
