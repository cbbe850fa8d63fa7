-- The causes of failures.
use Rattle.std.proofs.Common.{◌≡◌, ℕ, ◌<◌, ◌≤◌, Bool, true, false, not, ◌&&◌, ◌||◌, nat_le, nat_lt, List, [], ◌∷◌, ◌++◌, length, get_or, refl, sym, ap, ◌∙◌, subst, arith}
use Rattle.std.specs.Prelude.{◌==◌}
use Rattle.std.proofs.lemmas.Bool.{false≢true, eqb-true}
use Rattle.std.proofs.lemmas.Bool.Decides.{nat_tests}
use Rattle.twe_base.specs.declared.place.Place.{Place}
use Rattle.twe_lexer.specs.declared.fixed.Fixed.TheVariants as fixed
use Rattle.twe_lexer.specs.declared.token.Token.{Token}
use Rattle.twe_lexer.specs.declared.token.TokenKind.{TokenKind}
use Rattle.twe_lexer.specs.declared.token.TokenKind.TheVariants as kinds
use Rattle.twe_lexer.specs.Kinds.{kind_of}
use Rattle.twe_lexer.specs.Tokens.{BeginsWith}
use Rattle.twe_lexer.specs.Places.{place_after}
use Rattle.twe_parser.specs.declared.fail.SRule.{SRule}
use Rattle.twe_parser.specs.declared.fail.SRule.TheVariants.{S1, S4, S5, S6}
use Rattle.twe_parser.specs.declared.limits.Sofar.{Sofar}
use Rattle.twe_parser.specs.Fails.{ComesFirst, Fails, IsSyntaxFailure}
use Rattle.twe_parser.specs.Limits.{is_operator, is_too_deep, is_too_large, opens, sofar_of}
use Rattle.refusal_causes.specs.declared.text_rules.cause.TextCause.TheVariants.{Byte, CommentUnclosed}
use Rattle.refusal_causes.specs.text_rules.Causes.{IsTextCause}
use Rattle.refusal_causes.specs.text_rules.inner.Standing.{StandsAt, depth_cause, is_next, number_cause}
use Rattle.refusal_causes.specs.text_rules.Behind.{from_place}
use Rattle.refusal_causes.proofs.text_rules.Lines.{behind}
use Rattle.refusal_causes.proofs.text_rules.Counting.{AreSmall, small_before}
use Rattle.refusal_causes.proofs.text_rules.Tokens.{IsBehind, stands, token_behind}

-- a byte that is not allowed
pub some_byte : (text : List ℕ) (place : Place) → Fails text S1 place → 0 < length (from_place text place)
some_byte text place (Fails.byte before after code split bad) =
    subst (λ (t : List ℕ). 0 < length t) (sym (ap (λ (t : List ℕ). from_place t (place_after before)) split ∙ behind before (code ∷ after))) (omega arith)

pub byte_is : (text : List ℕ) (place : Place) → Fails text S1 place → IsTextCause text S1 place (Byte (get_or (from_place text place) 0 0))
byte_is text place (Fails.byte before after code split bad) =
    let rest : from_place text (place_after before) ≡ code ∷ after = ap (λ (t : List ℕ). from_place t (place_after before)) split ∙ behind before (code ∷ after) in
    subst (λ (t : List ℕ). IsTextCause text S1 (place_after before) (Byte (get_or t 0 0))) (sym rest) (IsTextCause.byte before after code split bad)

-- a comment without an end
pub comment_is : (text : List ℕ) (place : Place) → Fails text S6 place → IsTextCause text S6 place CommentUnclosed
comment_is text place (Fails.unclosed before rest tokens split begins comment) = IsTextCause.comment before rest tokens split begins comment

-- a number that is too large
above_next : (value : ℕ) (unary : Bool) → (nat_lt 2147483647 value && not ((value == 2147483648) && unary)) ≡ true → (value == 2147483648) ≡ false → 2147483648 < value
above_next value unary large is = grind (arith, nat_tests)

not_unary : (value : ℕ) (unary : Bool) → (nat_lt 2147483647 value && not ((value == 2147483648) && unary)) ≡ true → (value == 2147483648) ≡ true → unary ≡ false
not_unary value true large is = grind (arith, nat_tests)
not_unary value false large is = refl

module _ (text : List ℕ) (before : List Token) (place : Place) (rest : List ℕ) where
  abbrev Begins : TokenKind → Type 0
  Begins kind = BeginsWith text (before ++ (record { kind = kind; place = place }) ∷ []) rest

  by_next : (next : Bool) (value : ℕ) → (value == 2147483648) ≡ next → Begins (kinds.Literal value) → is_too_large (sofar_of before) (kinds.Literal value) ≡ true
      → IsTextCause text S4 place (number_cause next)
  by_next true value is begins large =
      let same : value ≡ 2147483648 = eqb-true value 2147483648 is in
      IsTextCause.not_negative before (record { kind = kinds.Literal value; place = place }) rest begins (ap (λ (n : ℕ). kinds.Literal n) same)
      (not_unary value (sofar_of before).unary_minus large is)
  by_next false value is begins large =
      IsTextCause.too_large before (record { kind = kinds.Literal value; place = place }) rest value begins refl (above_next value (sofar_of before).unary_minus large is)

  pub number_here : (kind : TokenKind) → Begins kind → is_too_large (sofar_of before) kind ≡ true → IsTextCause text S4 place (number_cause (is_next kind))
  number_here (kinds.Literal value) begins large = by_next (value == 2147483648) value refl begins large
  number_here _ begins large = absurd (false≢true large)

-- one bracket or operator too many
opens_only : (kind : TokenKind) → opens kind ≡ true → is_operator kind ≡ false
opens_only (kinds.Fixed fixed.OpenBrace) is = refl
opens_only (kinds.Fixed fixed.OpenParen) is = refl
opens_only (kinds.Fixed fixed.OpenBracket) is = refl
opens_only _ is = absurd (false≢true is)

full_brackets : (opening : Bool) (n : ℕ) (others : Bool) → ((opening && nat_le 200 n) || others) ≡ true → others ≡ false → n ≤ 200 → n ≡ 200
full_brackets opening n true deep none small = absurd (false≢true (sym none))
full_brackets true n false deep none small = grind (arith, nat_tests)
full_brackets false n false deep none small = absurd (false≢true deep)

full_operators : (first operator inside : Bool) (n : ℕ) → (first || ((operator && inside) && nat_le 200 n)) ≡ true → first ≡ false → n ≤ 200
    → (operator ≡ true) × (inside ≡ true) × (n ≡ 200)
full_operators true operator inside n deep none small = absurd (false≢true (sym none))
full_operators false true true n deep none small = (refl, refl, grind (arith, nat_tests))
full_operators false true false n deep none small = absurd (false≢true deep)
full_operators false false inside n deep none small = absurd (false≢true deep)

some_inside : (n : ℕ) → nat_lt 0 n ≡ true → 0 < n
some_inside n is = grind (arith, nat_tests)

module _ (text : List ℕ) (before : List Token) (place : Place) (rest : List ℕ) (kind : TokenKind)
    (begins : BeginsWith text (before ++ (record { kind = kind; place = place }) ∷ []) rest)
    (deep : is_too_deep (sofar_of before) kind ≡ true) (small : AreSmall (sofar_of before)) where
  abbrev sofar : Sofar
  sofar = sofar_of before

  by_opening : (opening : Bool) → opens kind ≡ opening → IsTextCause text S5 place (depth_cause opening)
  by_opening true is =
      let none : ((is_operator kind && nat_lt 0 sofar.open_brackets) && nat_le 200 sofar.operators) ≡ false =
      ap (λ (b : Bool). (b && nat_lt 0 sofar.open_brackets) && nat_le 200 sofar.operators) (opens_only kind is) in
      IsTextCause.bracket before (record { kind = kind; place = place }) rest begins is
      (full_brackets (opens kind) sofar.open_brackets _ deep none small.brackets)
  by_opening false is =
      let none : (opens kind && nat_le 200 sofar.open_brackets) ≡ false = ap (λ (b : Bool). b && nat_le 200 sofar.open_brackets) is in
      let full = full_operators (opens kind && nat_le 200 sofar.open_brackets) (is_operator kind) (nat_lt 0 sofar.open_brackets) sofar.operators deep none small.operators in
      IsTextCause.operator before (record { kind = kind; place = place }) rest begins full.0 (some_inside sofar.open_brackets full.1) full.2

  pub depth_here : IsTextCause text S5 place (depth_cause (opens kind))
  depth_here = by_opening (opens kind) refl

-- the cause of a failure at a token, whose kind is that of the bytes at the place
abbrev IsKindAt : List ℕ → Place → TokenKind → Type 0
IsKindAt text place kind = (at : StandsAt text place) → kind ≡ kind_of at.bytes

same_kind : (text : List ℕ) (before : List Token) (token : Token) (found : IsBehind text before token) (kind : TokenKind)
    → (at : StandsAt text token.place) × (at.bytes ≡ found.bytes) → IsKindAt text token.place kind → token.kind ≡ kind
same_kind text before token found kind at is = ap (λ (t : Token). t.kind) found.token_is ∙ sym (is at.0 ∙ ap kind_of at.1)

number_of : (text : List ℕ) (place : Place) → Fails text S4 place → ((other : SRule) (its : Place) → Fails text other its → ComesFirst S4 place other its)
    → StandsAt text place × ((kind : TokenKind) → IsKindAt text place kind → IsTextCause text S4 place (number_cause (is_next kind)))
number_of text place (Fails.too_large before token rest begins large) first =
    let found = token_behind text before token rest begins in
    let at = stands text S4 before token (omega arith) first large found in (
      at.0,
      λ kind is.
          subst (λ (k : TokenKind). IsTextCause text S4 token.place (number_cause (is_next k))) (same_kind text before token found kind at is)
          (number_here text before token.place rest token.kind begins large),
    )

depth_of : (text : List ℕ) (place : Place) → Fails text S5 place → ((other : SRule) (its : Place) → Fails text other its → ComesFirst S5 place other its)
    → StandsAt text place × ((kind : TokenKind) → IsKindAt text place kind → IsTextCause text S5 place (depth_cause (opens kind)))
depth_of text place (Fails.too_deep before token rest begins deep) first =
    let found = token_behind text before token rest begins in
    let at = stands text S5 before token (omega arith) first deep found in
    let small : AreSmall (sofar_of before) =
    subst (λ (all : List Token). AreSmall (sofar_of all)) (sym found.before_is)
    (small_before text token.place first found.skipped found.middle found.cut (ap (λ (t : Token). t.place) found.token_is)) in (
      at.0,
      λ kind is.
          subst (λ (k : TokenKind). IsTextCause text S5 token.place (depth_cause (opens k))) (same_kind text before token found kind at is)
          (depth_here text before token.place rest token.kind begins deep small),
    )

-- a token stands where a number is too large, and where one is too deep
pub number_stands : (text : List ℕ) (place : Place) → IsSyntaxFailure text S4 place → StandsAt text place
number_stands text place failure = (number_of text place failure.fails failure.first).0

pub depth_stands : (text : List ℕ) (place : Place) → IsSyntaxFailure text S5 place → StandsAt text place
depth_stands text place failure = (depth_of text place failure.fails failure.first).0

pub number_is : (text : List ℕ) (place : Place) (kind : TokenKind) → IsSyntaxFailure text S4 place → IsKindAt text place kind
    → IsTextCause text S4 place (number_cause (is_next kind))
number_is text place kind failure is = (number_of text place failure.fails failure.first).1 kind is

pub depth_is : (text : List ℕ) (place : Place) (kind : TokenKind) → IsSyntaxFailure text S5 place → IsKindAt text place kind
    → IsTextCause text S5 place (depth_cause (opens kind))
depth_is text place kind failure is = (depth_of text place failure.fails failure.first).1 kind is
