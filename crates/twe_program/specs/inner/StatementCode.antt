-- How the logic stores statements: a tag, the parts that are not statements, and one part that is.
use Rattle.std.specs.Prelude.{◌≡◌, ℕ, zero, suc, None, refl}
use Rattle.std.proofs.Common.{ap}
use Rattle.std.specs.Coded.{Coded}
use Rattle.twe_base.specs.inner.Codec.{coded_of, codec_ℕ, codec_bool, codec_option, codec_place, number_in, first_in, second_in}
use Rattle.twe_program.specs.Statement.{Statement, Block, Let, Set, SetCell, SetArray, SetGrid, If, While, Return, Print, Call, Make, Wait, Statements, no_more, statement, Arms, arm, otherwise, no_else}
use Rattle.twe_program.specs.inner.ExpressionCode.{codec_expression, codec_arguments}
use base.Stored.{Gv, gnil, gnum, gcons}

-- a tag, the point, two parts in their stored form, and a part with statements
abbrev node : ℕ → ℕ → Gv → Gv → Gv → Gv
node tag point a b inside = gcons (gnum tag) (gcons (gnum point) (gcons a (gcons b inside)))

-- what is stored for a statement, for a block and for the arms of an `if`
abbrev mutual
  encode : Statement → Gv
  encode (Block point body) = node 0 point gnil gnil (encode_all body)
  encode (Let point var value) = node 1 point (gnum var) (codec_expression.encode value) gnil
  encode (Set point var value) = node 2 point (gnum var) (codec_expression.encode value) gnil
  encode (SetCell point cell value place) =
      node 3 point (gcons (gnum cell) (codec_place.encode place)) (codec_expression.encode value) gnil
  encode (SetArray point array index value place) =
      node 4 point (gcons (gnum array) (codec_place.encode place))
      (gcons (codec_expression.encode index) (codec_expression.encode value)) gnil
  encode (SetGrid point array row column value place) =
      node 5 point (gcons (gnum array) (codec_place.encode place))
      (gcons (codec_expression.encode row) (gcons (codec_expression.encode column) (codec_expression.encode value))) gnil
  encode (If point arms) = node 6 point gnil gnil (encode_arms arms)
  encode (While point condition body place) =
      node 7 point (codec_place.encode place) (codec_expression.encode condition) (encode_all body)
  encode (Return point value) = node 8 point gnil ((codec_option codec_expression).encode value) gnil
  encode (Print point value place) = node 9 point (codec_place.encode place) (codec_expression.encode value) gnil
  encode (Call point method args place) =
      node 10 point (gcons (gnum method) (codec_place.encode place)) (codec_arguments.encode args) gnil
  encode (Make point future task args spawned future_place place) =
      node 11 point (gcons (gcons (gnum future) (gnum task)) (gcons (codec_place.encode future_place) (codec_place.encode place)))
      (gcons (codec_bool.encode spawned) (codec_arguments.encode args)) gnil
  encode (Wait point future join into place) =
      node 12 point (gcons (gnum future) (codec_place.encode place))
      (gcons (codec_bool.encode join) ((codec_option codec_ℕ).encode into)) gnil

  encode_all : Statements → Gv
  encode_all no_more = gnil
  encode_all (statement first others) = gcons (encode first) (encode_all others)

  encode_arms : Arms → Gv
  encode_arms no_else = gnil
  encode_arms (otherwise body) = gcons gnil (encode_all body)
  encode_arms (arm condition body others) =
      gcons (gcons gnil (codec_expression.encode condition)) (gcons (encode_all body) (encode_arms others))

-- the statement with this tag and these parts
abbrev made_of : ℕ → ℕ → Gv → Gv → Statements → Arms → Statement
made_of zero point a b body arms = Block point body
made_of (suc zero) point a b body arms = Let point (number_in a) (codec_expression.decode b)
made_of (suc (suc zero)) point a b body arms = Set point (number_in a) (codec_expression.decode b)
made_of (suc (suc (suc zero))) point a b body arms =
    SetCell point (number_in (first_in a)) (codec_expression.decode b) (codec_place.decode (second_in a))
made_of (suc (suc (suc (suc zero)))) point a b body arms =
    SetArray point (number_in (first_in a)) (codec_expression.decode (first_in b))
    (codec_expression.decode (second_in b)) (codec_place.decode (second_in a))
made_of (suc (suc (suc (suc (suc zero))))) point a b body arms =
    SetGrid point (number_in (first_in a)) (codec_expression.decode (first_in b))
    (codec_expression.decode (first_in (second_in b))) (codec_expression.decode (second_in (second_in b)))
    (codec_place.decode (second_in a))
made_of (suc (suc (suc (suc (suc (suc zero)))))) point a b body arms = If point arms
made_of (suc (suc (suc (suc (suc (suc (suc zero))))))) point a b body arms =
    While point (codec_expression.decode b) body (codec_place.decode a)
made_of (suc (suc (suc (suc (suc (suc (suc (suc zero)))))))) point a b body arms =
    Return point ((codec_option codec_expression).decode b)
made_of (suc (suc (suc (suc (suc (suc (suc (suc (suc zero))))))))) point a b body arms =
    Print point (codec_expression.decode b) (codec_place.decode a)
made_of (suc (suc (suc (suc (suc (suc (suc (suc (suc (suc zero)))))))))) point a b body arms =
    Call point (number_in (first_in a)) (codec_arguments.decode b) (codec_place.decode (second_in a))
made_of (suc (suc (suc (suc (suc (suc (suc (suc (suc (suc (suc zero))))))))))) point a b body arms =
    Make point (number_in (first_in (first_in a))) (number_in (second_in (first_in a)))
    (codec_arguments.decode (second_in b)) (codec_bool.decode (first_in b))
    (codec_place.decode (first_in (second_in a))) (codec_place.decode (second_in (second_in a)))
made_of (suc (suc (suc (suc (suc (suc (suc (suc (suc (suc (suc (suc n)))))))))))) point a b body arms =
    Wait point (number_in (first_in a)) (codec_bool.decode (first_in b))
    ((codec_option codec_ℕ).decode (second_in b)) (codec_place.decode (second_in a))

-- the statement, the block and the arms that are read back from what is stored
abbrev mutual
  decode : Gv → Statement
  decode (gcons (gnum tag) (gcons (gnum point) (gcons a (gcons b inside)))) =
      made_of tag point a b (decode_all inside) (decode_arms inside)
  decode _ = Return 0 None

  decode_all : Gv → Statements
  decode_all gnil = no_more
  decode_all (gnum n) = no_more
  decode_all (gcons first others) = statement (decode first) (decode_all others)

  decode_arms : Gv → Arms
  decode_arms gnil = no_else
  decode_arms (gnum n) = no_else
  decode_arms (gcons gnil body) = otherwise (decode_all body)
  decode_arms (gcons (gcons mark condition) (gcons body others)) =
      arm (codec_expression.decode condition) (decode_all body) (decode_arms others)
  decode_arms _ = no_else

-- decoding gives back what was encoded
mutual
  pub again : (s : Statement) → decode (encode s) ≡ s
  again (Block point body) = λ i. Block point (all_again body i)
  again (Let point var value) = λ i. Let point var (codec_expression.again value i)
  again (Set point var value) = λ i. Set point var (codec_expression.again value i)
  again (SetCell point cell value place) = λ i. SetCell point cell (codec_expression.again value i) place
  again (SetArray point array index value place) =
      λ i. SetArray point array (codec_expression.again index i) (codec_expression.again value i) place
  again (SetGrid point array row column value place) =
      λ i. SetGrid point array (codec_expression.again row i) (codec_expression.again column i)
      (codec_expression.again value i) place
  again (If point arms) = λ i. If point (arms_again arms i)
  again (While point condition body place) = λ i. While point (codec_expression.again condition i) (all_again body i) place
  again (Return point value) = λ i. Return point ((codec_option codec_expression).again value i)
  again (Print point value place) = λ i. Print point (codec_expression.again value i) place
  again (Call point method args place) = λ i. Call point method (codec_arguments.again args i) place
  again (Make point future task args spawned future_place place) =
      λ i. Make point future task (codec_arguments.again args i) (codec_bool.again spawned i) future_place place
  again (Wait point future join into place) =
      λ i. Wait point future (codec_bool.again join i) ((codec_option codec_ℕ).again into i) place

  pub all_again : (body : Statements) → decode_all (encode_all body) ≡ body
  all_again no_more = refl
  all_again (statement first others) = λ i. statement (again first i) (all_again others i)

  pub arms_again : (arms : Arms) → decode_arms (encode_arms arms) ≡ arms
  arms_again no_else = refl
  arms_again (otherwise body) = ap otherwise (all_again body)
  arms_again (arm condition body others) = λ i. arm (codec_expression.again condition i) (all_again body i) (arms_again others i)

-- different statements are stored differently
abbrev pub statement_code : Coded Statement
statement_code = coded_of (record { encode = encode; decode = decode; again = again })

-- different blocks are stored differently
abbrev pub statements_code : Coded Statements
statements_code = coded_of (record { encode = encode_all; decode = decode_all; again = all_again })

-- different arms are stored differently
abbrev pub arms_code : Coded Arms
arms_code = coded_of (record { encode = encode_arms; decode = decode_arms; again = arms_again })
