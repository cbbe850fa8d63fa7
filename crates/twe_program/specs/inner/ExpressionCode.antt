-- How the logic stores expressions: a tag, the parts that are not expressions, and the parts that are.
use Rattle.std.specs.Prelude.{◌≡◌, ℕ, zero, suc, pos, refl}
use Rattle.std.proofs.Common.{ap}
use Rattle.std.specs.Coded.{Coded}
use Rattle.twe_base.specs.inner.Codec.{Codec, coded_of, codec_ℤ, codec_bool, codec_place, number_in, first_in, second_in}
use Rattle.twe_ast.specs.inner.OperatorCode.{number_of, operator, operator_again}
use Rattle.twe_program.specs.Expression.{Expression, Literal, Truth, Variable, CellValue, ArrayElement, GridElement, CallValue, Negative, Negation, Binary, Arguments, no_more, argument}
use base.Stored.{Gv, gnil, gnum, gcons}

-- a tag, the plain parts, and two parts that are expressions
abbrev node : ℕ → Gv → Gv → Gv → Gv
node tag plain a b = gcons (gnum tag) (gcons plain (gcons a b))

-- what is stored for an expression and for arguments
abbrev mutual
  encode : Expression → Gv
  encode (Literal value) = node 0 (codec_ℤ.encode value) gnil gnil
  encode (Truth value) = node 1 (codec_bool.encode value) gnil gnil
  encode (Variable var fixed) = node 2 (gcons (gnum var) (codec_bool.encode fixed)) gnil gnil
  encode (CellValue cell place) = node 3 (gcons (gnum cell) (codec_place.encode place)) gnil gnil
  encode (ArrayElement array index place) = node 4 (gcons (gnum array) (codec_place.encode place)) (encode index) gnil
  encode (GridElement array row column place) =
      node 5 (gcons (gnum array) (codec_place.encode place)) (encode row) (encode column)
  encode (CallValue method args place) = node 6 (gcons (gnum method) (codec_place.encode place)) (encode_all args) gnil
  encode (Negative operand) = node 7 gnil (encode operand) gnil
  encode (Negation operand) = node 8 gnil (encode operand) gnil
  encode (Binary op left right place) =
      node 9 (gcons (gnum (number_of op)) (codec_place.encode place)) (encode left) (encode right)

  encode_all : Arguments → Gv
  encode_all no_more = gnil
  encode_all (argument first others) = gcons (encode first) (encode_all others)

-- the expression with this tag and these parts
abbrev made_of : ℕ → Gv → Expression → Expression → Arguments → Expression
made_of zero plain a b args = Literal (codec_ℤ.decode plain)
made_of (suc zero) plain a b args = Truth (codec_bool.decode plain)
made_of (suc (suc zero)) plain a b args = Variable (number_in (first_in plain)) (codec_bool.decode (second_in plain))
made_of (suc (suc (suc zero))) plain a b args = CellValue (number_in (first_in plain)) (codec_place.decode (second_in plain))
made_of (suc (suc (suc (suc zero)))) plain a b args =
    ArrayElement (number_in (first_in plain)) a (codec_place.decode (second_in plain))
made_of (suc (suc (suc (suc (suc zero))))) plain a b args =
    GridElement (number_in (first_in plain)) a b (codec_place.decode (second_in plain))
made_of (suc (suc (suc (suc (suc (suc zero)))))) plain a b args =
    CallValue (number_in (first_in plain)) args (codec_place.decode (second_in plain))
made_of (suc (suc (suc (suc (suc (suc (suc zero))))))) plain a b args = Negative a
made_of (suc (suc (suc (suc (suc (suc (suc (suc zero)))))))) plain a b args = Negation a
made_of (suc (suc (suc (suc (suc (suc (suc (suc (suc n))))))))) plain a b args =
    Binary (operator (number_in (first_in plain))) a b (codec_place.decode (second_in plain))

-- the expression and the arguments that are read back from what is stored
abbrev mutual
  decode : Gv → Expression
  decode (gcons (gnum tag) (gcons plain (gcons a b))) = made_of tag plain (decode a) (decode b) (decode_all a)
  decode _ = Literal (pos 0)

  decode_all : Gv → Arguments
  decode_all gnil = no_more
  decode_all (gnum n) = no_more
  decode_all (gcons first others) = argument (decode first) (decode_all others)

-- decoding gives back what was encoded
mutual
  pub again : (e : Expression) → decode (encode e) ≡ e
  again (Literal value) = ap Literal (codec_ℤ.again value)
  again (Truth value) = ap Truth (codec_bool.again value)
  again (Variable var fixed) = ap (Variable var) (codec_bool.again fixed)
  again (CellValue cell place) = refl
  again (ArrayElement array index place) = λ i. ArrayElement array (again index i) place
  again (GridElement array row column place) = λ i. GridElement array (again row i) (again column i) place
  again (CallValue method args place) = λ i. CallValue method (all_again args i) place
  again (Negative operand) = ap Negative (again operand)
  again (Negation operand) = ap Negation (again operand)
  again (Binary op left right place) = λ i. Binary (operator_again op i) (again left i) (again right i) place

  pub all_again : (args : Arguments) → decode_all (encode_all args) ≡ args
  all_again no_more = refl
  all_again (argument first others) = λ i. argument (again first i) (all_again others i)

-- how an expression is stored and read back
abbrev pub codec_expression : Codec Expression
codec_expression = record { encode = encode; decode = decode; again = again }

-- how arguments are stored and read back
abbrev pub codec_arguments : Codec Arguments
codec_arguments = record { encode = encode_all; decode = decode_all; again = all_again }

-- different expressions are stored differently
abbrev pub expression_code : Coded Expression
expression_code = coded_of codec_expression

-- different lists of arguments are stored differently
abbrev pub arguments_code : Coded Arguments
arguments_code = coded_of codec_arguments
