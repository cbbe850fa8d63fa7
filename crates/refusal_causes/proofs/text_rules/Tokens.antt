-- The token at which a rule of the text fails, and the lexemes before it.
use Rattle.std.proofs.Common.{◌≡◌, ℕ, ◌+◌, ◌<◌, ◌≤◌, inl, inr, false, List, [], ◌∷◌, ◌++◌, None, Some, suc, length, get_or, take, drop, drop-cons, refl, sym, ap, ◌∙◌, subst, length-append, arith}
use Rattle.std.proofs.lemmas.Bool.{cond-false, false≢true}
use Rattle.std.proofs.lemmas.List.{append_assoc, append-nil, take-append-drop}
use Rattle.twe_base.specs.declared.place.Place.{Place}
use Rattle.twe_lexer.specs.declared.lexeme.Lexeme.{Lexeme}
use Rattle.twe_lexer.specs.declared.token.Token.{Token}
use Rattle.twe_lexer.specs.Front.{Opens, StopsAt}
use Rattle.twe_lexer.specs.Kinds.{kind_of, token_kind}
use Rattle.twe_lexer.specs.Lexeme.{IsFirstLexeme, IsUnclosedComment}
use Rattle.twe_lexer.specs.Places.{place_after, is_gap, Precedes}
use Rattle.twe_lexer.specs.Tokens.{AreFirstLexemes, tokens_from, BeginsWith}
use Rattle.twe_parser.specs.declared.fail.SRule.{SRule}
use Rattle.twe_parser.specs.declared.fail.SRule.TheVariants.{S1}
use Rattle.twe_parser.specs.Fails.{ComesFirst, Fails, rule_rank}
use Rattle.twe_parser.specs.inner.Reading.{concat}
use Rattle.twe_parser.proofs.Cuts.{cut_split, LastToken, none, last, last_token, one_first, snoc_parts}
use Rattle.twe_parser.proofs.Located.{FailsToken, at_token, first_unclosed, token_of}
use Rattle.twe_parser.proofs.Order.{byte_first, lexeme_some}
use Rattle.refusal_causes.specs.text_rules.Behind.{from_place}
use Rattle.refusal_causes.specs.text_rules.inner.Standing.{StandsAt}
use Rattle.refusal_causes.proofs.text_rules.Lines.{behind}

-- no place comes before itself, and of two places not each comes before the other
pub not_itself : (place : Place) → Precedes place place → ⊥
not_itself place (inl before) = omega arith
not_itself place (inr (same, before)) = omega arith

pub not_both : (one other : Place) → Precedes one other → Precedes other one → ⊥
not_both one other (inl p) (inl q) = omega arith
not_both one other (inl p) (inr (same, q)) = omega arith
not_both one other (inr (same, p)) (inl q) = omega arith
not_both one other (inr (same, p)) (inr (also, q)) = omega arith

-- the token is the first behind some lexemes of the text, whose tokens come before it
pub record IsBehind (text : List ℕ) (before : List Token) (token : Token) : Type 0 where
  pub skipped : List (List ℕ)
  pub bytes : List ℕ
  pub middle : List ℕ
  pub later : List ℕ
  pub cut : AreFirstLexemes skipped text middle
  pub first : IsFirstLexeme bytes middle later
  pub is_token : is_gap bytes ≡ false
  pub before_is : before ≡ tokens_from [] skipped
  pub token_is : token ≡ token_of (concat skipped) bytes

no_token : (before : List Token) (token : Token) → before ++ token ∷ [] ≡ [] → ⊥
no_token [] token is = cc
no_token (first ∷ before) token is = cc

-- the lexemes before one of them
pub middle_of : (skipped : List (List ℕ)) (bytes : List ℕ) (gaps : List (List ℕ)) (from later : List ℕ) → AreFirstLexemes (skipped ++ bytes ∷ gaps) from later
    → (middle after : List ℕ) × AreFirstLexemes skipped from middle × IsFirstLexeme bytes middle after
middle_of [] bytes gaps from later (after, first, cut) = (from, after, refl, first)
middle_of (one ∷ skipped) bytes gaps from later (after, first, cut) =
    let found = middle_of skipped bytes gaps after later cut in (found.0, found.1, (after, first, found.2), found.3)

pub token_behind : (text : List ℕ) (before : List Token) (token : Token) (rest : List ℕ) → BeginsWith text (before ++ token ∷ []) rest → IsBehind text before token
token_behind text before token rest begins = by_last begins.lexemes begins.cut begins.same (last_token [] begins.lexemes)
  where
    by_last : (lexemes : List (List ℕ)) → AreFirstLexemes lexemes text rest → before ++ token ∷ [] ≡ tokens_from [] lexemes → LastToken [] lexemes → IsBehind text before token
    by_last lexemes cut same (none empty) = absurd (no_token before token (same ∙ empty))
    by_last lexemes cut same (last skipped bytes gaps split is_token ends) =
        let parts = snoc_parts before (tokens_from [] skipped) token (token_of (concat skipped) bytes) (same ∙ ends) in
        let found = middle_of skipped bytes gaps text rest (subst (λ (all : List (List ℕ)). AreFirstLexemes all text rest) split cut) in
        record {
          skipped = skipped;
          bytes = bytes;
          middle = found.0;
          later = found.1;
          cut = found.2;
          first = found.3;
          is_token = is_token;
          before_is = parts.0;
          token_is = parts.1;
        }

-- a byte of the first lexeme that is not allowed
pub stop_fails : (text before middle : List ℕ) (n : ℕ) → text ≡ before ++ middle → StopsAt n middle → Fails text S1 (place_after (before ++ take n middle))
stop_fails text before middle n split stops =
    let code = get_or middle n 0 in
    let long : length middle ≡ length stops.bytes + length stops.rest = ap length stops.first.split ∙ length-append stops.bytes stops.rest in
    let within : n < length middle = let w = stops.within in omega arith in
    let cut : text ≡ (before ++ take n middle) ++ code ∷ drop (suc n) middle =
    split
    ∙ ap (λ (t : List ℕ). before ++ t) (sym (take-append-drop n middle) ∙ ap (λ (t : List ℕ). take n middle ++ t) (drop-cons middle n 0 within))
    ∙ sym (append_assoc before (take n middle) (code ∷ drop (suc n) middle)) in
    Fails.byte (before ++ take n middle) (drop (suc n) middle) code cut stops.here

-- of two failures not each comes before the other, if their rules have two numbers
not_each : (rule other : SRule) (place its : Place) → ComesFirst rule place other its → ComesFirst other its rule place → rule_rank other < rule_rank rule → ⊥
not_each rule other place its (inl p) (inl q) low = not_both place its p q
not_each rule other place its (inl p) (inr (same, q)) low = not_itself place (subst (λ (t : Place). Precedes place t) same p)
not_each rule other place its (inr (same, p)) (inl q) low = not_itself its (subst (λ (t : Place). Precedes its t) same q)
not_each rule other place its (inr (same, p)) (inr (also, q)) low = omega arith

-- a rule of a higher number fails first at the token
module _ (text : List ℕ) (rule : SRule) (before : List Token) (token : Token) (high : 2 ≤ rule_rank rule)
    (first : (other : SRule) (its : Place) → Fails text other its → ComesFirst rule token.place other its)
    (fails : FailsToken rule before token) (found : IsBehind text before token) where
  at_place : token.place ≡ place_after (concat found.skipped)
  at_place = ap (λ (t : Token). t.place) found.token_is

  split : text ≡ concat found.skipped ++ found.middle
  split = cut_split found.skipped text found.middle found.cut

  fails_here : FailsToken rule (tokens_from [] found.skipped ++ []) (token_of (concat found.skipped ++ []) found.bytes)
  fails_here =
      let tokens : before ≡ tokens_from [] found.skipped ++ [] = found.before_is ∙ sym (append-nil (tokens_from [] found.skipped)) in
      let same : token ≡ token_of (concat found.skipped ++ []) found.bytes =
      found.token_is ∙ ap (λ (t : List ℕ). token_of t found.bytes) (sym (append-nil (concat found.skipped))) in
      subst (λ (all : List Token). FailsToken rule all (token_of (concat found.skipped ++ []) found.bytes)) tokens
      (subst (λ (t : Token). FailsToken rule before t) same fails)

  no_stop_there : (n : ℕ) → StopsAt n found.middle → ⊥
  no_stop_there n stops =
      let its : Place = place_after (concat found.skipped ++ take n found.middle) in
      let there : token.place ≡ place_after (concat found.skipped ++ []) = at_place ∙ ap place_after (sym (append-nil (concat found.skipped))) in
      let byte : ComesFirst S1 its rule token.place =
      subst (λ (p : Place). ComesFirst S1 its rule p) (sym there)
      (byte_first text found.middle found.skipped split n stops rule (place_after (concat found.skipped ++ []))
      (at_token rule [] found.bytes found.middle found.later refl found.first found.is_token fails_here)) in
      not_each rule S1 token.place its (first S1 its (stop_fails text (concat found.skipped) found.middle n split stops)) byte (omega arith)

  -- no byte is there that is not allowed
  pub stands : (at : StandsAt text token.place) × (at.bytes ≡ found.bytes)
  stands = (
    record {
      skipped = found.skipped;
      bytes = found.bytes;
      middle = found.middle;
      later = found.later;
      cut = found.cut;
      at = at_place;
      first = found.first;
      token = found.is_token;
      fine = no_stop_there;
    },
    refl,
  )

-- what stands at the place of a token
module _ (text : List ℕ) (place : Place) (at : StandsAt text place) where
  pub rest_is : from_place text place ≡ at.middle
  rest_is =
      ap (from_place text) at.at
      ∙ ap (λ (t : List ℕ). from_place t (place_after (concat at.skipped))) (cut_split at.skipped text at.middle at.cut)
      ∙ behind (concat at.skipped) at.middle

  pub some_rest : (rest : List ℕ) → rest ≡ at.middle → 0 < length rest
  some_rest rest is =
      let some = lexeme_some at.bytes at.middle at.later at.first in
      let long : length at.middle ≡ length at.bytes + length at.later = ap length at.first.split ∙ length-append at.bytes at.later in
      let same : length rest ≡ length at.middle = ap length is in
      omega arith

  -- the lexer finds no byte that is not allowed, and no comment without an end
  pub no_stop : (rest : List ℕ) → rest ≡ at.middle → (n : ℕ) → StopsAt n rest → ⊥
  no_stop rest is n stops = at.fine n (subst (StopsAt n) is stops)

  pub no_comment : (rest : List ℕ) → rest ≡ at.middle → IsUnclosedComment rest → ⊥
  no_comment rest is comment =
      let found = first_unclosed at.bytes rest at.later (subst (λ (t : List ℕ). IsFirstLexeme at.bytes t at.later) (sym is) at.first) comment in
      false≢true (sym at.token ∙ ap is_gap found.1)

  -- it finds the token
  pub finds : (rest : List ℕ) → rest ≡ at.middle → (lexeme : Lexeme) → Opens lexeme rest → lexeme.token ≡ Some (kind_of at.bytes)
  finds rest is lexeme front =
      let same = (one_first (take lexeme.len rest) at.bytes rest (drop lexeme.len rest) at.later front.first (subst (λ (t : List ℕ). IsFirstLexeme at.bytes t at.later) (sym is) at.first)).0 in
      front.token ∙ ap token_kind same ∙ cond-false (is_gap at.bytes) None (Some (kind_of at.bytes)) at.token
