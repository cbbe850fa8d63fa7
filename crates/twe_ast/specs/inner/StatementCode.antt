-- How the logic stores statements: as a tag, two parts that are no statements, and one part that is.
use Rattle.std.specs.Prelude.{◌≡◌, ℕ, zero, suc, None, refl}
use Rattle.std.proofs.Common.{ap}
use Rattle.std.specs.Coded.{Coded}
use Rattle.twe_base.specs.inner.Codec.{Codec, coded_of, codec_bool, codec_option, codec_place, number_in, first_in, second_in}
use Rattle.twe_ast.specs.declared.stmt.LocalType.{LocalType}
use Rattle.twe_ast.specs.declared.stmt.LocalType.TheVariants.{Int, Boolean}
use Rattle.twe_ast.specs.declared.stmt.WaitCall.{WaitCall}
use Rattle.twe_ast.specs.Statement.{Statement, Block, Let, Set, SetArray, SetGrid, If, While, Return, Print, Call, Make, Wait, LetWait, Statements, end_of_block, statement, Arms, arm, otherwise, no_else}
use Rattle.twe_ast.specs.inner.NameCode.{codec_name}
use Rattle.twe_ast.specs.inner.ExpressionCode.{codec_expression, codec_arguments}
use base.Stored.{Gv, gnil, gnum, gcons}

-- the number that the type of a local is stored as
abbrev number_of : LocalType → ℕ
number_of Int = 0
number_of Boolean = 1

-- the type that a number stands for
abbrev type_of : ℕ → LocalType
type_of zero = Int
type_of (suc n) = Boolean

-- the number of a type stands for that type
pub type_again : (t : LocalType) → type_of (number_of t) ≡ t
type_again Int = refl
type_again Boolean = refl

-- a wait is stored as the pair of its future and whether it is a `join`
abbrev codec_wait : Codec WaitCall
codec_wait = record {
  encode = λ wait. gcons (codec_name.encode wait.future) (codec_bool.encode wait.join);
  decode = λ g. record { future = codec_name.decode (first_in g); join = codec_bool.decode (second_in g) };
  again = λ wait. λ i. record { future = codec_name.again wait.future i; join = codec_bool.again wait.join i };
}

-- a tag, two parts that are stored already, and a part with statements
abbrev node : ℕ → Gv → Gv → Gv → Gv
node tag a b inside = gcons (gnum tag) (gcons a (gcons b inside))

-- what is stored for a statement, for a block and for the arms of an `if`
abbrev mutual
  encode : Statement → Gv
  encode (Block body) = node 0 gnil gnil (encode_all body)
  encode (Let is_final local_type name value) =
      node 1 (gcons (codec_bool.encode is_final) (gnum (number_of local_type)))
      (gcons (codec_name.encode name) (codec_expression.encode value)) gnil
  encode (Set name value) = node 2 (codec_name.encode name) (codec_expression.encode value) gnil
  encode (SetArray array index value) =
      node 3 (codec_name.encode array) (gcons (codec_expression.encode index) (codec_expression.encode value)) gnil
  encode (SetGrid array row column value) =
      node 4 (codec_name.encode array)
      (gcons (codec_expression.encode row) (gcons (codec_expression.encode column) (codec_expression.encode value))) gnil
  encode (If arms) = node 5 gnil gnil (encode_arms arms)
  encode (While place condition body) = node 6 (codec_place.encode place) (codec_expression.encode condition) (encode_all body)
  encode (Return place value) = node 7 (codec_place.encode place) ((codec_option codec_expression).encode value) gnil
  encode (Print place value) = node 8 (codec_place.encode place) (codec_expression.encode value) gnil
  encode (Call method args) = node 9 (codec_name.encode method) (codec_arguments.encode args) gnil
  encode (Make future task spawned args) =
      node 10 (gcons (codec_name.encode future) (codec_name.encode task))
      (gcons (codec_bool.encode spawned) (codec_arguments.encode args)) gnil
  encode (Wait wait) = node 11 (codec_wait.encode wait) gnil gnil
  encode (LetWait is_final name wait) =
      node 12 (codec_wait.encode wait) (gcons (codec_bool.encode is_final) (codec_name.encode name)) gnil

  encode_all : Statements → Gv
  encode_all (end_of_block close) = gcons gnil (codec_place.encode close)
  encode_all (statement first others) = gcons (gcons gnil (encode first)) (encode_all others)

  encode_arms : Arms → Gv
  encode_arms no_else = gnil
  encode_arms (otherwise body) = gcons gnil (encode_all body)
  encode_arms (arm condition body others) =
      gcons (gcons gnil (codec_expression.encode condition)) (gcons (encode_all body) (encode_arms others))

-- the statement of this tag and these parts
abbrev made_of : ℕ → Gv → Gv → Statements → Arms → Statement
made_of zero a b body arms = Block body
made_of (suc zero) a b body arms =
    Let (codec_bool.decode (first_in a)) (type_of (number_in (second_in a)))
    (codec_name.decode (first_in b)) (codec_expression.decode (second_in b))
made_of (suc (suc zero)) a b body arms = Set (codec_name.decode a) (codec_expression.decode b)
made_of (suc (suc (suc zero))) a b body arms =
    SetArray (codec_name.decode a) (codec_expression.decode (first_in b)) (codec_expression.decode (second_in b))
made_of (suc (suc (suc (suc zero)))) a b body arms =
    SetGrid (codec_name.decode a)
    (codec_expression.decode (first_in b)) (codec_expression.decode (first_in (second_in b)))
    (codec_expression.decode (second_in (second_in b)))
made_of (suc (suc (suc (suc (suc zero))))) a b body arms = If arms
made_of (suc (suc (suc (suc (suc (suc zero)))))) a b body arms = While (codec_place.decode a) (codec_expression.decode b) body
made_of (suc (suc (suc (suc (suc (suc (suc zero))))))) a b body arms =
    Return (codec_place.decode a) ((codec_option codec_expression).decode b)
made_of (suc (suc (suc (suc (suc (suc (suc (suc zero)))))))) a b body arms =
    Print (codec_place.decode a) (codec_expression.decode b)
made_of (suc (suc (suc (suc (suc (suc (suc (suc (suc zero))))))))) a b body arms =
    Call (codec_name.decode a) (codec_arguments.decode b)
made_of (suc (suc (suc (suc (suc (suc (suc (suc (suc (suc zero)))))))))) a b body arms =
    Make (codec_name.decode (first_in a)) (codec_name.decode (second_in a))
    (codec_bool.decode (first_in b)) (codec_arguments.decode (second_in b))
made_of (suc (suc (suc (suc (suc (suc (suc (suc (suc (suc (suc zero))))))))))) a b body arms = Wait (codec_wait.decode a)
made_of (suc (suc (suc (suc (suc (suc (suc (suc (suc (suc (suc (suc n)))))))))))) a b body arms =
    LetWait (codec_bool.decode (first_in b)) (codec_name.decode (second_in b)) (codec_wait.decode a)

-- the statement, the block and the arms that are read back from what is stored
abbrev mutual
  decode : Gv → Statement
  decode (gcons (gnum tag) (gcons a (gcons b inside))) = made_of tag a b (decode_all inside) (decode_arms inside)
  decode _ = Return (codec_place.decode gnil) None

  decode_all : Gv → Statements
  decode_all gnil = end_of_block (codec_place.decode gnil)
  decode_all (gnum n) = end_of_block (codec_place.decode gnil)
  decode_all (gcons gnil close) = end_of_block (codec_place.decode close)
  decode_all (gcons (gnum n) close) = end_of_block (codec_place.decode close)
  decode_all (gcons (gcons mark first) others) = statement (decode first) (decode_all others)

  decode_arms : Gv → Arms
  decode_arms gnil = no_else
  decode_arms (gnum n) = no_else
  decode_arms (gcons gnil body) = otherwise (decode_all body)
  decode_arms (gcons (gcons mark condition) (gcons body others)) =
      arm (codec_expression.decode condition) (decode_all body) (decode_arms others)
  decode_arms _ = no_else

-- decoding gives back what was encoded
mutual
  pub again : (s : Statement) → decode (encode s) ≡ s
  again (Block body) = λ i. Block (all_again body i)
  again (Let is_final local_type name value) =
      λ i. Let (codec_bool.again is_final i) (type_again local_type i) (codec_name.again name i) (codec_expression.again value i)
  again (Set name value) = λ i. Set (codec_name.again name i) (codec_expression.again value i)
  again (SetArray array index value) =
      λ i. SetArray (codec_name.again array i) (codec_expression.again index i) (codec_expression.again value i)
  again (SetGrid array row column value) =
      λ i. SetGrid (codec_name.again array i) (codec_expression.again row i)
      (codec_expression.again column i) (codec_expression.again value i)
  again (If arms) = λ i. If (arms_again arms i)
  again (While place condition body) = λ i. While place (codec_expression.again condition i) (all_again body i)
  again (Return place value) = λ i. Return place ((codec_option codec_expression).again value i)
  again (Print place value) = λ i. Print place (codec_expression.again value i)
  again (Call method args) = λ i. Call (codec_name.again method i) (codec_arguments.again args i)
  again (Make future task spawned args) =
      λ i. Make (codec_name.again future i) (codec_name.again task i) (codec_bool.again spawned i) (codec_arguments.again args i)
  again (Wait wait) = ap Wait (codec_wait.again wait)
  again (LetWait is_final name wait) =
      λ i. LetWait (codec_bool.again is_final i) (codec_name.again name i) (codec_wait.again wait i)

  pub all_again : (body : Statements) → decode_all (encode_all body) ≡ body
  all_again (end_of_block close) = refl
  all_again (statement first others) = λ i. statement (again first i) (all_again others i)

  pub arms_again : (arms : Arms) → decode_arms (encode_arms arms) ≡ arms
  arms_again no_else = refl
  arms_again (otherwise body) = ap otherwise (all_again body)
  arms_again (arm condition body others) = λ i. arm (codec_expression.again condition i) (all_again body i) (arms_again others i)

-- different statements are stored differently
abbrev pub statement_code : Coded Statement
statement_code = coded_of (record { encode = encode; decode = decode; again = again })

-- different blocks are stored differently
abbrev pub statements_code : Coded Statements
statements_code = coded_of (record { encode = encode_all; decode = decode_all; again = all_again })

-- different arms are stored differently
abbrev pub arms_code : Coded Arms
arms_code = coded_of (record { encode = encode_arms; decode = decode_arms; again = arms_again })
