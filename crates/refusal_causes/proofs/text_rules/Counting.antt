-- The counts of brackets and operators up to the first token that is too deep.
use Rattle.std.proofs.Common.{◌≡◌, ℕ, ◌+◌, ◌-◌, ◌<◌, ◌≤◌, inl, inr, Bool, true, false, ◌&&◌, ◌||◌, nat_le, nat_lt, List, [], ◌∷◌, ◌++◌, refl, sym, ap, ◌∙◌, subst, arith}
use Rattle.std.specs.Prelude.{if◌then◌else◌}
use Rattle.std.proofs.lemmas.Bool.{false≢true, cond-true, cond-false}
use Rattle.std.proofs.lemmas.Bool.Decides.{nat_tests}
use Rattle.std.proofs.lemmas.List.{append_assoc, append-nil}
use Rattle.std.proofs.lemmas.List.Sums.{fold-append}
use Rattle.twe_base.specs.declared.place.Place.{Place}
use Rattle.twe_lexer.specs.declared.token.Token.{Token}
use Rattle.twe_lexer.specs.declared.token.TokenKind.{TokenKind}
use Rattle.twe_lexer.specs.Lexeme.{IsFirstLexeme}
use Rattle.twe_lexer.specs.Places.{place_after, is_gap, Precedes}
use Rattle.twe_lexer.specs.Tokens.{AreFirstLexemes, tokens_from, BeginsWith}
use Rattle.twe_parser.specs.declared.fail.SRule.{SRule}
use Rattle.twe_parser.specs.declared.fail.SRule.TheVariants.{S5}
use Rattle.twe_parser.specs.declared.limits.Sofar.{Sofar}
use Rattle.twe_parser.specs.Fails.{ComesFirst, Fails}
use Rattle.twe_parser.specs.Limits.{opens, closes, is_operator, ends_statement, sofar_after, sofar_of, limits_at_start, is_too_deep}
use Rattle.twe_parser.specs.inner.Reading.{concat}
use Rattle.twe_parser.proofs.Cuts.{cut_append, no_lexeme, precedes, tokens_from_append}
use Rattle.twe_parser.proofs.Located.{concat_append, token_of}
use Rattle.refusal_causes.proofs.text_rules.Tokens.{not_both, not_itself}

-- no limit is exceeded
pub record AreSmall (sofar : Sofar) : Type 0 where
  pub brackets : sofar.open_brackets ≤ 200
  pub operators : sofar.operators ≤ 200

opened_small : (opening close : Bool) (n : ℕ) → n ≤ 200 → (opening ≡ true → n < 200) → (if opening then n + 1 else if close then n - 1 else n) ≤ 200
opened_small true close n small room = let r = room refl in omega arith
opened_small false true n small room = omega arith
opened_small false false n small room = small

counted_small : (ends counts : Bool) (n : ℕ) → n ≤ 200 → (counts ≡ true → n < 200) → (if ends then 0 else if counts then n + 1 else n) ≤ 200
counted_small true counts n small room = omega arith
counted_small false true n small room = let r = room refl in omega arith
counted_small false false n small room = small

room_left : (opening : Bool) (n : ℕ) (others : Bool) → ((opening && nat_le 200 n) || others) ≡ false → opening ≡ true → n < 200
room_left true n others shallow is = grind (arith, nat_tests)
room_left false n others shallow is = absurd (false≢true is)

room_counted : (first operator inside : Bool) (n : ℕ) → (first || ((operator && inside) && nat_le 200 n)) ≡ false → (operator && inside) ≡ true → n < 200
room_counted true operator inside n shallow is = absurd (false≢true (sym shallow))
room_counted false true true n shallow is = grind (arith, nat_tests)
room_counted false true false n shallow is = absurd (false≢true is)
room_counted false false inside n shallow is = absurd (false≢true is)

-- one more token that is not too deep
small_after : (sofar : Sofar) (kind : TokenKind) → is_too_deep sofar kind ≡ false → AreSmall sofar → AreSmall (sofar_after sofar kind)
small_after sofar kind shallow small = record {
  brackets = opened_small (opens kind) (closes kind) sofar.open_brackets small.brackets (λ is. room_left (opens kind) sofar.open_brackets _ shallow is);
  operators = counted_small (ends_statement kind) (is_operator kind && nat_lt 0 sofar.open_brackets) sofar.operators small.operators
      (λ is. room_counted (opens kind && nat_le 200 sofar.open_brackets) (is_operator kind) (nat_lt 0 sofar.open_brackets) sofar.operators shallow is);
}

sofar_snoc : (tokens : List Token) (token : Token) → sofar_of (tokens ++ token ∷ []) ≡ sofar_after (sofar_of tokens) token.kind
sofar_snoc tokens token = fold-append (λ sofar t. sofar_after sofar t.kind) limits_at_start tokens (token ∷ [])

pub concat_snoc : (lexemes : List (List ℕ)) (bytes : List ℕ) → concat (lexemes ++ bytes ∷ []) ≡ concat lexemes ++ bytes
concat_snoc lexemes bytes = concat_append lexemes (bytes ∷ []) ∙ ap (λ (more : List ℕ). concat lexemes ++ more) (append-nil bytes)

-- the place after one lexeme and others is a later one
pub later_by : (before bytes more : List ℕ) (text rest : List ℕ) → IsFirstLexeme bytes text rest → Precedes (place_after before) (place_after (before ++ (bytes ++ more)))
later_by before [] more text rest first = absurd (no_lexeme first.lexeme)
later_by before (code ∷ bytes) more text rest first = precedes before code (bytes ++ more)

module _ (text : List ℕ) (place : Place) (first : (other : SRule) (its : Place) → Fails text other its → ComesFirst S5 place other its) where
  not_first : (its : Place) → Precedes its place → ComesFirst S5 place S5 its → ⊥
  not_first its earlier (inl before) = not_both its place earlier before
  not_first its earlier (inr (same, low)) = not_itself place (subst (λ (p : Place). Precedes p place) (sym same) earlier)

  -- a token before the place is not too deep
  not_deep : (deep : Bool) (before : List Token) (token : Token) (rest : List ℕ) → is_too_deep (sofar_of before) token.kind ≡ deep → BeginsWith text (before ++ token ∷ []) rest
      → Precedes token.place place → is_too_deep (sofar_of before) token.kind ≡ false
  not_deep true before token rest is begins earlier =
      absurd (not_first token.place earlier (first S5 token.place (Fails.too_deep before token rest begins is)))
  not_deep false before token rest is begins earlier = is

  -- one more lexeme before the place
  one_more : (gap : Bool) (front : List (List ℕ)) (bytes middle later : List ℕ) → is_gap bytes ≡ gap → AreFirstLexemes front text middle → IsFirstLexeme bytes middle later
      → Precedes (place_after (concat front)) place → AreSmall (sofar_of (tokens_from [] front)) → AreSmall (sofar_of (tokens_from [] (front ++ bytes ∷ [])))
  one_more true front bytes middle later is cut one earlier small =
      let same : tokens_from [] (front ++ bytes ∷ []) ≡ tokens_from [] front =
      tokens_from_append [] front (bytes ∷ []) ∙ ap (λ (more : List Token). tokens_from [] front ++ more) (cond-true (is_gap bytes) _ _ is) ∙ append-nil (tokens_from [] front) in
      subst (λ (all : List Token). AreSmall (sofar_of all)) (sym same) small
  one_more false front bytes middle later is cut one earlier small =
      let here : Token = token_of (concat front) bytes in
      let same : tokens_from [] (front ++ bytes ∷ []) ≡ tokens_from [] front ++ here ∷ [] =
      tokens_from_append [] front (bytes ∷ []) ∙ ap (λ (more : List Token). tokens_from [] front ++ more) (cond-false (is_gap bytes) _ _ is) in
      let begins : BeginsWith text (tokens_from [] front ++ here ∷ []) later =
      record { lexemes = front ++ bytes ∷ []; cut = cut_append front (bytes ∷ []) text middle later cut (later, one, refl); same = sym same } in
      let shallow = not_deep (is_too_deep (sofar_of (tokens_from [] front)) here.kind) (tokens_from [] front) here later refl begins earlier in
      subst AreSmall (sym (ap sofar_of same ∙ sofar_snoc (tokens_from [] front) here)) (small_after (sofar_of (tokens_from [] front)) here.kind shallow small)

  -- all lexemes up to the place
  all_before : (front back : List (List ℕ)) (middle rest : List ℕ) → AreFirstLexemes front text middle → AreFirstLexemes back middle rest
      → place ≡ place_after (concat front ++ concat back) → AreSmall (sofar_of (tokens_from [] front)) → AreSmall (sofar_of (tokens_from [] (front ++ back)))
  all_before front [] middle rest cut more at small = subst (λ (all : List (List ℕ)). AreSmall (sofar_of (tokens_from [] all))) (sym (append-nil front)) small
  all_before front (bytes ∷ back) middle rest cut (later, one, more) at small =
      let earlier : Precedes (place_after (concat front)) place =
      subst (λ (p : Place). Precedes (place_after (concat front)) p) (sym at) (later_by (concat front) bytes (concat back) middle later one) in
      let there : place ≡ place_after (concat (front ++ bytes ∷ []) ++ concat back) =
      at ∙ ap place_after (sym (append_assoc (concat front) bytes (concat back)) ∙ ap (λ (t : List ℕ). t ++ concat back) (sym (concat_snoc front bytes))) in
      subst (λ (all : List (List ℕ)). AreSmall (sofar_of (tokens_from [] all))) (append_assoc front (bytes ∷ []) back)
      (all_before (front ++ bytes ∷ []) back later rest (cut_append front (bytes ∷ []) text middle later cut (later, one, refl)) more there
      (one_more (is_gap bytes) front bytes middle later refl cut one earlier small))

  -- the counts before the first token that is too deep
  pub small_before : (lexemes : List (List ℕ)) (rest : List ℕ) → AreFirstLexemes lexemes text rest → place ≡ place_after (concat lexemes) → AreSmall (sofar_of (tokens_from [] lexemes))
  small_before lexemes rest cut at = all_before [] lexemes text rest refl cut at (record { brackets = omega arith; operators = omega arith })
