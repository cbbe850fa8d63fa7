-- In a text that keeps the rules of the text, a literal directly after `[` is at most 2147483647.
use Rattle.std.proofs.Common.{◌≡◌, ℕ, ◌<◌, ◌≤◌, Bool, true, false, not, ◌&&◌, List, [], ◌∷◌, ◌++◌, length, refl, sym, ap, ◌∙◌, subst, ⊎_elim, arith, append_assoc, length-append}
use Rattle.std.specs.Prelude.{nat_lt, ◌==◌}
use Rattle.std.proofs.lemmas.Bool.{cond-true, cond-false, cases_Bool}
use Rattle.std.proofs.lemmas.Bool.Decides.{nat_tests}
use Rattle.std.proofs.lemmas.List.Sums.{fold-append}
use Rattle.twe_base.specs.declared.place.Place.{Place}
use Rattle.twe_lexer.specs.declared.fixed.Fixed.TheVariants as fixed
use Rattle.twe_lexer.specs.declared.token.Token.{Token}
use Rattle.twe_lexer.specs.declared.token.TokenKind.{TokenKind}
use Rattle.twe_lexer.specs.declared.token.TokenKind.TheVariants as kinds
use Rattle.twe_lexer.specs.Kinds.{kind_of}
use Rattle.twe_lexer.specs.Lexeme.{IsLexeme}
use Rattle.twe_lexer.specs.Places.{place_after, is_gap}
use Rattle.twe_lexer.specs.Tokens.{AreFirstLexemes, tokens_from, BeginsWith}
use Rattle.twe_parser.specs.declared.fail.SRule.{SRule}
use Rattle.twe_parser.specs.declared.fail.SRule.TheVariants.{S4}
use Rattle.twe_parser.specs.declared.limits.Sofar.{Sofar}
use Rattle.twe_parser.specs.Fails.{Fails, too_large}
use Rattle.twe_parser.specs.Limits.{sofar_after, sofar_of, limits_at_start, is_too_large}
use Rattle.twe_parser.proofs.Cuts.{no_lexeme}

-- the text begins with the tokens up to any of them

cut_front : (front back : List (List ℕ)) (text rest : List ℕ) → AreFirstLexemes (front ++ back) text rest → (middle : List ℕ) × AreFirstLexemes front text middle
cut_front [] back text rest cut = (text, refl)
cut_front (first ∷ others) back text rest (later, one, cut) = let more = cut_front others back later rest cut in (more.0, (later, one, more.1))

-- the lexemes up to the one that is this token
record Front (at : List ℕ) (lexemes : List (List ℕ)) (before : List Token) (token : Token) : Type 0 where
  front : List (List ℕ)
  back : List (List ℕ)
  split : lexemes ≡ front ++ back
  same : tokens_from at front ≡ before ++ token ∷ []

skip : (at first : List ℕ) (others : List (List ℕ)) (before : List Token) (token : Token) → is_gap first ≡ true → Front (at ++ first) others before token → Front at (first ∷ others) before token
skip at first others before token gap it = record {
  front = first ∷ it.front;
  back = it.back;
  split = ap (λ (more : List (List ℕ)). first ∷ more) it.split;
  same = cond-true (is_gap first) _ _ gap ∙ it.same;
}

abbrev token_at : List ℕ → List ℕ → Token
token_at at first = record { kind = kind_of first; place = place_after at }

add : (at first : List ℕ) (others : List (List ℕ)) (before : List Token) (token : Token) → is_gap first ≡ false → Front (at ++ first) others before token → Front at (first ∷ others) (token_at at first ∷ before) token
add at first others before token gap it = record {
  front = first ∷ it.front;
  back = it.back;
  split = ap (λ (more : List (List ℕ)). first ∷ more) it.split;
  same = cond-false (is_gap first) _ _ gap ∙ ap (λ (ts : List Token). token_at at first ∷ ts) it.same;
}

front_of : (at : List ℕ) (lexemes : List (List ℕ)) (before : List Token) (token : Token) (after : List Token) → tokens_from at lexemes ≡ before ++ token ∷ after → Front at lexemes before token
front_of at [] [] token after e = cc
front_of at [] (b ∷ bs) token after e = cc
front_of at (first ∷ others) [] token after e =
    ⊎_elim
    (λ gap. skip at first others [] token gap (front_of (at ++ first) others [] token after (sym (cond-true (is_gap first) _ _ gap) ∙ e)))
    (λ gap.
    let same : token_at at first ∷ tokens_from (at ++ first) others ≡ token ∷ after = sym (cond-false (is_gap first) _ _ gap) ∙ e in
    let this : token_at at first ≡ token = cc in
    record {
      front = first ∷ [];
      back = others;
      split = refl;
      same = cond-false (is_gap first) _ _ gap ∙ ap (λ (t : Token). t ∷ []) this;
    })
    (cases_Bool (is_gap first))
front_of at (first ∷ others) (b ∷ bs) token after e =
    ⊎_elim
    (λ gap. skip at first others (b ∷ bs) token gap (front_of (at ++ first) others (b ∷ bs) token after (sym (cond-true (is_gap first) _ _ gap) ∙ e)))
    (λ gap.
    let same : token_at at first ∷ tokens_from (at ++ first) others ≡ b ∷ (bs ++ token ∷ after) = sym (cond-false (is_gap first) _ _ gap) ∙ e in
    let this : token_at at first ≡ b = cc in
    let rest : tokens_from (at ++ first) others ≡ bs ++ token ∷ after = cc in
    subst (λ (t : Token). Front at (first ∷ others) (t ∷ bs) token) this (add at first others bs token gap (front_of (at ++ first) others bs token after rest)))
    (cases_Bool (is_gap first))

pub begins_up_to : (text : List ℕ) (tokens before : List Token) (token : Token) (after : List Token) → BeginsWith text tokens [] → tokens ≡ before ++ token ∷ after → (rest : List ℕ) × BeginsWith text (before ++ token ∷ []) rest
begins_up_to text tokens before token after begins e =
    let it = front_of [] begins.lexemes before token after (sym begins.same ∙ e) in
    let cut = cut_front it.front it.back text [] (subst (λ (lexemes : List (List ℕ)). AreFirstLexemes lexemes text []) it.split begins.cut) in
    (cut.0, record { lexemes = it.front; cut = cut.1; same = sym it.same })

-- a literal directly after `[` is at most 2147483647

abbrev pub is_small : TokenKind → Type 0
is_small (kinds.Literal value) = value ≤ 2147483647
is_small _ = Unit {0}

abbrev pub is_small_first : List Token → Type 0
is_small_first [] = Unit {0}
is_small_first (t ∷ ts) = is_small t.kind

abbrev pub is_small_after : TokenKind → List Token → Type 0
is_small_after (kinds.Fixed fixed.OpenBracket) ts = is_small_first ts
is_small_after _ ts = Unit {0}

abbrev pub SmallIndexes : List Token → Type 0
SmallIndexes [] = Unit {0}
SmallIndexes (t ∷ ts) = is_small_after t.kind ts × SmallIndexes ts

no_sign : (b c : Bool) → (b && not (c && false)) ≡ false → b ≡ false
no_sign true true h = h
no_sign true false h = h
no_sign false c h = refl

small_literal : (sofar : Sofar) (kind : TokenKind) → is_too_large (sofar_after sofar (kinds.Fixed fixed.OpenBracket)) kind ≡ false → is_small kind
small_literal sofar (kinds.Literal value) h = let few = no_sign (nat_lt 2147483647 value) (value == 2147483648) h in grind (arith, nat_tests)
small_literal sofar _ h = tt

small_here : (sofar : Sofar) (kind : TokenKind) (ts : List Token) → ((u : Token) (us : List Token) → ts ≡ u ∷ us → is_too_large (sofar_after sofar kind) u.kind ≡ false) → is_small_after kind ts
small_here sofar (kinds.Fixed fixed.OpenBracket) [] h = tt
small_here sofar (kinds.Fixed fixed.OpenBracket) (u ∷ us) h = small_literal sofar u.kind (h u us refl)
small_here sofar _ ts h = tt

sofar_of-snoc : (before : List Token) (t : Token) → sofar_of (before ++ t ∷ []) ≡ sofar_after (sofar_of before) t.kind
sofar_of-snoc before t = fold-append (λ (sofar : Sofar) (token : Token). sofar_after sofar token.kind) limits_at_start before (t ∷ [])

small_from : (whole : List Token) → ((b : List Token) (t : Token) (a : List Token) → whole ≡ b ++ t ∷ a → is_too_large (sofar_of b) t.kind ≡ false) → (before rest : List Token) → whole ≡ before ++ rest → SmallIndexes rest
small_from whole fine before [] e = tt
small_from whole fine before (t ∷ ts) e =
    let next = e ∙ sym (append_assoc before (t ∷ []) ts) in (
      small_here (sofar_of before) t.kind ts
          (λ u us rest.
          subst (λ (sofar : Sofar). is_too_large sofar u.kind ≡ false) (sofar_of-snoc before t)
          (fine (before ++ t ∷ []) u us (next ∙ ap (λ (more : List Token). (before ++ t ∷ []) ++ more) rest))),
      small_from whole fine (before ++ t ∷ []) ts next,
    )

not_true : (b : Bool) → ¬ (b ≡ true) → b ≡ false
not_true true h = absurd (h refl)
not_true false h = refl

pub small_indexes : (text : List ℕ) (tokens : List Token) → BeginsWith text tokens [] → ((rule : SRule) (place : Place) → ¬ Fails text rule place) → SmallIndexes tokens
small_indexes text tokens begins keeps =
    small_from tokens
    (λ before token after e.
    not_true (is_too_large (sofar_of before) token.kind)
    (λ large. let it = begins_up_to text tokens before token after begins e in keeps S4 token.place (too_large before token it.0 it.1 large)))
    [] tokens refl

-- no more tokens than bytes
not_empty : (bytes : List ℕ) → IsLexeme bytes → 0 < length bytes
not_empty [] lexeme = absurd (no_lexeme lexeme)
not_empty (b ∷ bs) lexeme = omega arith

shorter : (at : List ℕ) (lexemes : List (List ℕ)) (text rest : List ℕ) → AreFirstLexemes lexemes text rest → length (tokens_from at lexemes) ≤ length text
shorter at [] text rest cut = omega arith
shorter at (first ∷ others) text rest (later, one, cut) =
    let more = shorter (at ++ first) others later rest cut in
    let split = ap length one.split ∙ length-append first later in
    let some : 0 < length first = not_empty first one.lexeme in
    ⊎_elim
    (λ gap. let all : length (tokens_from at (first ∷ others)) ≡ length (tokens_from (at ++ first) others) = ap length (cond-true (is_gap first) _ _ gap) in omega arith)
    (λ gap. let all : length (tokens_from at (first ∷ others)) ≡ length (token_at at first ∷ tokens_from (at ++ first) others) = ap length (cond-false (is_gap first) _ _ gap) in omega arith)
    (cases_Bool (is_gap first))

pub no_more_tokens : (text : List ℕ) (tokens : List Token) → BeginsWith text tokens [] → length tokens ≤ length text
no_more_tokens text tokens begins =
    let few = shorter [] begins.lexemes text [] begins.cut in
    let same = ap length begins.same in
    omega arith
