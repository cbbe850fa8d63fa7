-- How the logic stores expressions: as a tag, the parts that are no expressions, and the parts that are.
use Rattle.std.specs.Prelude.{◌≡◌, ℕ, zero, suc, pos, refl}
use Rattle.std.proofs.Common.{ap}
use Rattle.std.specs.Coded.{Coded}
use Rattle.twe_base.specs.inner.Codec.{Codec, coded_of, codec_ℤ, codec_bool, codec_place, number_in, first_in, second_in}
use Rattle.twe_ast.specs.Expression.{Expression, expression, Shape, Literal, Truth, Variable, ArrayElement, GridElement, CallValue, Negative, Negation, Binary, Arguments, no_more, argument}
use Rattle.twe_ast.specs.inner.NameCode.{codec_name}
use Rattle.twe_ast.specs.inner.OperatorCode.{number_of, operator, operator_again}
use base.Stored.{Gv, gnil, gnum, gcons}

-- a tag, the plain parts, and two parts that are expressions
abbrev node : ℕ → Gv → Gv → Gv → Gv
node tag plain a b = gcons (gnum tag) (gcons plain (gcons a b))

-- what is stored for an expression, for its shape and for arguments
abbrev mutual
  encode : Expression → Gv
  encode (expression place shape) = gcons (codec_place.encode place) (encode_shape shape)

  encode_shape : Shape → Gv
  encode_shape (Literal value) = node 0 (codec_ℤ.encode value) gnil gnil
  encode_shape (Truth value) = node 1 (codec_bool.encode value) gnil gnil
  encode_shape (Variable name) = node 2 (codec_name.encode name) gnil gnil
  encode_shape (ArrayElement array index) = node 3 (codec_name.encode array) (encode index) gnil
  encode_shape (GridElement array row column) = node 4 (codec_name.encode array) (encode row) (encode column)
  encode_shape (CallValue method args) = node 5 (codec_name.encode method) (encode_all args) gnil
  encode_shape (Negative operand) = node 6 gnil (encode operand) gnil
  encode_shape (Negation operand) = node 7 gnil (encode operand) gnil
  encode_shape (Binary op left right place) =
      node 8 (gcons (gnum (number_of op)) (codec_place.encode place)) (encode left) (encode right)

  encode_all : Arguments → Gv
  encode_all no_more = gnil
  encode_all (argument first others) = gcons (encode first) (encode_all others)

-- the shape of this tag and these parts
abbrev made_of : ℕ → Gv → Expression → Expression → Arguments → Shape
made_of zero plain a b args = Literal (codec_ℤ.decode plain)
made_of (suc zero) plain a b args = Truth (codec_bool.decode plain)
made_of (suc (suc zero)) plain a b args = Variable (codec_name.decode plain)
made_of (suc (suc (suc zero))) plain a b args = ArrayElement (codec_name.decode plain) a
made_of (suc (suc (suc (suc zero)))) plain a b args = GridElement (codec_name.decode plain) a b
made_of (suc (suc (suc (suc (suc zero))))) plain a b args = CallValue (codec_name.decode plain) args
made_of (suc (suc (suc (suc (suc (suc zero)))))) plain a b args = Negative a
made_of (suc (suc (suc (suc (suc (suc (suc zero))))))) plain a b args = Negation a
made_of (suc (suc (suc (suc (suc (suc (suc (suc n)))))))) plain a b args =
    Binary (operator (number_in (first_in plain))) a b (codec_place.decode (second_in plain))

-- the expression, the shape and the arguments that are read back from what is stored
abbrev mutual
  decode : Gv → Expression
  decode gnil = expression (codec_place.decode gnil) (Literal (pos 0))
  decode (gnum n) = expression (codec_place.decode gnil) (Literal (pos 0))
  decode (gcons place shape) = expression (codec_place.decode place) (decode_shape shape)

  decode_shape : Gv → Shape
  decode_shape (gcons (gnum tag) (gcons plain (gcons a b))) = made_of tag plain (decode a) (decode b) (decode_all a)
  decode_shape _ = Literal (pos 0)

  decode_all : Gv → Arguments
  decode_all gnil = no_more
  decode_all (gnum n) = no_more
  decode_all (gcons first others) = argument (decode first) (decode_all others)

-- decoding gives back what was encoded
mutual
  pub again : (e : Expression) → decode (encode e) ≡ e
  again (expression place shape) = λ i. expression place (shape_again shape i)

  pub shape_again : (shape : Shape) → decode_shape (encode_shape shape) ≡ shape
  shape_again (Literal value) = ap Literal (codec_ℤ.again value)
  shape_again (Truth value) = ap Truth (codec_bool.again value)
  shape_again (Variable name) = ap Variable (codec_name.again name)
  shape_again (ArrayElement array index) = λ i. ArrayElement (codec_name.again array i) (again index i)
  shape_again (GridElement array row column) = λ i. GridElement (codec_name.again array i) (again row i) (again column i)
  shape_again (CallValue method args) = λ i. CallValue (codec_name.again method i) (all_again args i)
  shape_again (Negative operand) = ap Negative (again operand)
  shape_again (Negation operand) = ap Negation (again operand)
  shape_again (Binary op left right place) = λ i. Binary (operator_again op i) (again left i) (again right i) place

  pub all_again : (args : Arguments) → decode_all (encode_all args) ≡ args
  all_again no_more = refl
  all_again (argument first others) = λ i. argument (again first i) (all_again others i)

-- how an expression is stored and read back
abbrev pub codec_expression : Codec Expression
codec_expression = record { encode = encode; decode = decode; again = again }

-- how arguments are stored and read back
abbrev pub codec_arguments : Codec Arguments
codec_arguments = record { encode = encode_all; decode = decode_all; again = all_again }

-- different expressions are stored differently
abbrev pub expression_code : Coded Expression
expression_code = coded_of codec_expression

-- different lists of arguments are stored differently
abbrev pub arguments_code : Coded Arguments
arguments_code = coded_of codec_arguments
