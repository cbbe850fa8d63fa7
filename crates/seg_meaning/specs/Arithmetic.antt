-- The operators of the language on its numbers, which are 32-bit integers in two's complement. Truth values are the
-- numbers 0 and 1.
use Rattle.std.specs.Prelude.{Bool, true, false, ℤ, pos, negsuc, zero, suc, ◌&&◌, Option, None, Some, int_lt, int_le, int_rem, not}
use Rattle.std.specs.Int.{w32, int_wrapping_add, int_wrapping_sub, int_wrapping_mul, int_wrapping_div, int_wrapping_neg}
use Rattle.twe_ast.specs.declared.expr.BinOp.{BinOp}
use Rattle.twe_ast.specs.declared.expr.BinOp.TheVariants.{Or, And, Equal, NotEqual, Less, LessEqual, Greater, GreaterEqual, Add, Sub, Mul, Div, Rem}

-- the number of a truth value
abbrev pub number_of : Bool → ℤ
number_of true = pos 1
number_of false = pos 0

-- whether a number stands for `true`: each number but 0 does
abbrev pub is_true : ℤ → Bool
is_true (pos zero) = false
is_true (pos (suc n)) = true
is_true (negsuc n) = true

-- whether two numbers are equal: each is at most the other
abbrev pub is_equal : ℤ → ℤ → Bool
is_equal x y = int_le x y && int_le y x

-- the quotient, rounded toward zero; -2147483648 / -1 wraps to -2147483648; none if the divisor is 0
abbrev pub quotient : ℤ → ℤ → Option ℤ
quotient x (pos zero) = None
quotient x (pos (suc n)) = Some (int_wrapping_div w32 x (pos (suc n)))
quotient x (negsuc n) = Some (int_wrapping_div w32 x (negsuc n))

-- the remainder, with the sign of the dividend; none if the divisor is 0
abbrev pub remainder : ℤ → ℤ → Option ℤ
remainder x (pos zero) = None
remainder x (pos (suc n)) = Some (int_rem x (pos (suc n)))
remainder x (negsuc n) = Some (int_rem x (negsuc n))

-- the value of an operator on its operands; none if it divides by zero. Sums, differences and products wrap. The right
-- operand of `||` and `&&` is evaluated only if the left one does not decide, and then it is the value.
abbrev pub operated : BinOp → ℤ → ℤ → Option ℤ
operated Or x y = Some y
operated And x y = Some y
operated Equal x y = Some (number_of (is_equal x y))
operated NotEqual x y = Some (number_of (not (is_equal x y)))
operated Less x y = Some (number_of (int_lt x y))
operated LessEqual x y = Some (number_of (int_le x y))
operated Greater x y = Some (number_of (int_lt y x))
operated GreaterEqual x y = Some (number_of (int_le y x))
operated Add x y = Some (int_wrapping_add w32 x y)
operated Sub x y = Some (int_wrapping_sub w32 x y)
operated Mul x y = Some (int_wrapping_mul w32 x y)
operated Div x y = quotient x y
operated Rem x y = remainder x y

-- the value if the left operand alone decides it
abbrev pub decided : BinOp → Bool → Option ℤ
decided Or true = Some (pos 1)
decided And false = Some (pos 0)
decided _ _ = None

-- the negative of a number, which wraps
abbrev pub negative : ℤ → ℤ
negative x = int_wrapping_neg w32 x

-- the negation of the truth value that a number stands for, as 0 or 1
abbrev pub negation : ℤ → ℤ
negation x = number_of (not (is_true x))
