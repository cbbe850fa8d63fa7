-- How the logic stores operators: as numbers.
use Rattle.std.specs.Prelude.{◌≡◌, ℕ, zero, suc, refl}
use Rattle.twe_ast.specs.declared.expr.BinOp.{BinOp}
use Rattle.twe_ast.specs.declared.expr.BinOp.TheVariants.{Or, And, Equal, NotEqual, Less, LessEqual, Greater, GreaterEqual, Add, Sub, Mul, Div, Rem}

-- the number that an operator is stored as: its place among the operators, from 0
abbrev pub number_of : BinOp → ℕ
number_of Or = 0
number_of And = 1
number_of Equal = 2
number_of NotEqual = 3
number_of Less = 4
number_of LessEqual = 5
number_of Greater = 6
number_of GreaterEqual = 7
number_of Add = 8
number_of Sub = 9
number_of Mul = 10
number_of Div = 11
number_of Rem = 12

-- the operator that a number stands for; a number that is too large stands for the last one
abbrev pub operator : ℕ → BinOp
operator zero = Or
operator (suc zero) = And
operator (suc (suc zero)) = Equal
operator (suc (suc (suc zero))) = NotEqual
operator (suc (suc (suc (suc zero)))) = Less
operator (suc (suc (suc (suc (suc zero))))) = LessEqual
operator (suc (suc (suc (suc (suc (suc zero)))))) = Greater
operator (suc (suc (suc (suc (suc (suc (suc zero))))))) = GreaterEqual
operator (suc (suc (suc (suc (suc (suc (suc (suc zero)))))))) = Add
operator (suc (suc (suc (suc (suc (suc (suc (suc (suc zero))))))))) = Sub
operator (suc (suc (suc (suc (suc (suc (suc (suc (suc (suc zero)))))))))) = Mul
operator (suc (suc (suc (suc (suc (suc (suc (suc (suc (suc (suc zero))))))))))) = Div
operator (suc (suc (suc (suc (suc (suc (suc (suc (suc (suc (suc (suc n)))))))))))) = Rem

-- the number of an operator stands for that operator
pub operator_again : (op : BinOp) → operator (number_of op) ≡ op
operator_again Or = refl
operator_again And = refl
operator_again Equal = refl
operator_again NotEqual = refl
operator_again Less = refl
operator_again LessEqual = refl
operator_again Greater = refl
operator_again GreaterEqual = refl
operator_again Add = refl
operator_again Sub = refl
operator_again Mul = refl
operator_again Div = refl
operator_again Rem = refl
