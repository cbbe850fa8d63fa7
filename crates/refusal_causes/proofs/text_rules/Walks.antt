-- The steps of a walk.
use Rattle.std.proofs.Common.{◌≡◌, ℕ, ◌+◌, ◌≤◌, Bool, true, false, List, [], ◌∷◌, ◌++◌, Option, None, Some, length, take, drop, refl, sym, ap, ◌∙◌, arith, not}
use Rattle.std.specs.Prelude.{count_by}
use Rattle.std.specs.List.{suffix_len}
use Rattle.std.proofs.lemmas.Bool.{cond-true, cond-false}
use Rattle.std.proofs.lemmas.List.{append-nil, length-append}
use Rattle.std.proofs.lemmas.List.Sums.{fold-append, count_by-le-length, suffix_len-le-length}
use Rattle.twe_base.specs.declared.place.Place.{Place}
use Rattle.twe_lexer.specs.declared.lexeme.Lexeme.{Lexeme}
use Rattle.twe_lexer.specs.declared.token.Token.{Token}
use Rattle.twe_lexer.specs.declared.token.TokenKind.{TokenKind}
use Rattle.twe_lexer.specs.Front.{Opens}
use Rattle.twe_lexer.specs.Kinds.{kind_of, token_kind}
use Rattle.twe_lexer.specs.Lexeme.{is_line_end}
use Rattle.twe_lexer.specs.Places.{place_after, is_gap}
use Rattle.twe_lexer.specs.Tokens.{AreFirstLexemes, tokens_from}
use Rattle.twe_parser.specs.inner.Reading.{concat}
use Rattle.twe_parser.proofs.Cuts.{cut_split, cut_append, tokens_from_append}
use Rattle.twe_parser.proofs.Located.{token_of}
use Rattle.refusal_causes.proofs.text_rules.Counting.{concat_snoc}
use Rattle.refusal_causes.specs.text_rules.Open.{AreOpenAt, open_after, open_of}
use Rattle.refusal_causes.specs.text_rules.inner.Walked.{HasWalked, open_if}
use Rattle.refusal_causes.specs.declared.text_rules.walk.BracketWalk.{BracketWalk}

-- nothing is passed yet
pub not_begun : (text : List ℕ) (walk : BracketWalk) → walk.place ≡ place_after [] → walk.places ≡ [] → HasWalked text text [] walk
not_begun text walk place places = record { cut = refl; place_is = place; open_is = places }

-- lines and columns can be counted
pub lines_fit : (text rest : List ℕ) (lexemes : List (List ℕ)) (walk : BracketWalk) → HasWalked text rest lexemes walk → walk.place.line + length rest ≤ length text + 1
lines_fit text rest lexemes walk walked =
    let line_is : walk.place.line ≡ 1 + count_by is_line_end (concat lexemes) = ap (λ (at : Place). at.line) walked.place_is in
    let counted : length text ≡ length (concat lexemes) + length rest = ap length (cut_split lexemes text rest walked.cut) ∙ length-append (concat lexemes) rest in
    let bounded = count_by-le-length is_line_end (concat lexemes) in
    omega arith

pub columns_fit : (text rest : List ℕ) (lexemes : List (List ℕ)) (walk : BracketWalk) → HasWalked text rest lexemes walk → walk.place.col + length rest ≤ length text + 1
columns_fit text rest lexemes walk walked =
    let col_is : walk.place.col ≡ 1 + suffix_len (λ code. not (is_line_end code)) (concat lexemes) = ap (λ (at : Place). at.col) walked.place_is in
    let counted : length text ≡ length (concat lexemes) + length rest = ap length (cut_split lexemes text rest walked.cut) ∙ length-append (concat lexemes) rest in
    let bounded = suffix_len-le-length (λ code. not (is_line_end code)) (concat lexemes) in
    omega arith

-- a lexeme is a token of this kind, or none
some_kind : (bytes : List ℕ) (gap : Bool) (kind : TokenKind) → is_gap bytes ≡ gap → Some kind ≡ token_kind bytes → (is_gap bytes ≡ false) × (kind ≡ kind_of bytes)
some_kind bytes true kind is found = let none : ◌≡◌ {A = Option TokenKind} (Some kind) None = found ∙ cond-true (is_gap bytes) None (Some (kind_of bytes)) is in cc
some_kind bytes false kind is found = let some : ◌≡◌ {A = Option TokenKind} (Some kind) (Some (kind_of bytes)) = found ∙ cond-false (is_gap bytes) None (Some (kind_of bytes)) is in (is, cc)

no_kind : (bytes : List ℕ) (gap : Bool) → is_gap bytes ≡ gap → None ≡ token_kind bytes → is_gap bytes ≡ true
no_kind bytes true is found = is
no_kind bytes false is found = let some : ◌≡◌ {A = Option TokenKind} None (Some (kind_of bytes)) = found ∙ cond-false (is_gap bytes) None (Some (kind_of bytes)) is in cc

module _ (text rest : List ℕ) (lexemes : List (List ℕ)) (walk : BracketWalk) (walked : HasWalked text rest lexemes walk) (lexeme : Lexeme) (front : Opens lexeme rest) where
  abbrev pub bytes : List ℕ
  bytes = take lexeme.len rest

  cut_more : AreFirstLexemes (lexemes ++ bytes ∷ []) text (drop lexeme.len rest)
  cut_more = cut_append lexemes (bytes ∷ []) text rest (drop lexeme.len rest) walked.cut (drop lexeme.len rest, front.first, refl)

  -- the place after the lexeme
  abbrev pub Moves : Place → Type 0
  Moves next = (before : List ℕ) → walk.place ≡ place_after before → next ≡ place_after (before ++ bytes)

  next_is : (next : Place) → Moves next → next ≡ place_after (concat (lexemes ++ bytes ∷ []))
  next_is next moves = moves (concat lexemes) walked.place_is ∙ ap place_after (sym (concat_snoc lexemes bytes))

  -- one more blank or comment
  pub gap_passed : (after : BracketWalk) → Moves after.place → lexeme.token ≡ None → after.places ≡ walk.places → HasWalked text (drop lexeme.len rest) (lexemes ++ bytes ∷ []) after
  gap_passed after moves none places =
      let gap = no_kind bytes (is_gap bytes) refl (sym none ∙ front.token) in
      let same : tokens_from [] (lexemes ++ bytes ∷ []) ≡ tokens_from [] lexemes =
      tokens_from_append [] lexemes (bytes ∷ [])
      ∙ ap (λ (more : List Token). tokens_from [] lexemes ++ more) (cond-true (is_gap bytes) _ _ gap) ∙ append-nil (tokens_from [] lexemes) in
      record {
        cut = cut_more;
        place_is = next_is after.place moves;
        open_is = places ∙ walked.open_is ∙ ap open_of (sym same);
      }

  -- one more token
  pub token_passed : (after : BracketWalk) → Moves after.place → (kind : TokenKind) → lexeme.token ≡ Some kind
      → after.places ≡ open_after walk.places (record { kind = kind; place = walk.place }) → HasWalked text (drop lexeme.len rest) (lexemes ++ bytes ∷ []) after
  token_passed after moves kind is places =
      let the = some_kind bytes (is_gap bytes) kind refl (sym is ∙ front.token) in
      let here : Token = token_of (concat lexemes) bytes in
      let token : ◌≡◌ {A = Token} (record { kind = kind; place = walk.place }) here = λ i. record { kind = the.1 i; place = walked.place_is i } in
      let before : List Token = tokens_from [] lexemes in
      let same : tokens_from [] (lexemes ++ bytes ∷ []) ≡ before ++ here ∷ [] =
      tokens_from_append [] lexemes (bytes ∷ []) ∙ ap (λ (more : List Token). before ++ more) (cond-false (is_gap bytes) _ _ the.0) in
      let folded : open_of (before ++ here ∷ []) ≡ open_after (open_of before) here = fold-append open_after [] before (here ∷ []) in
      record {
        cut = cut_more;
        place_is = next_is after.place moves;
        open_is = places ∙ ap (λ (t : Token). open_after walk.places t) token ∙ ap (λ (o : List Place). open_after o here) walked.open_is
            ∙ sym folded ∙ ap open_of (sym same);
      }

  -- one more lexeme
  pub passed : (after : BracketWalk) → Moves after.place → (token : Option TokenKind) → lexeme.token ≡ token
      → after.places ≡ open_if walk.places token walk.place → HasWalked text (drop lexeme.len rest) (lexemes ++ bytes ∷ []) after
  passed after moves None is places = gap_passed after moves is places
  passed after moves (Some kind) is places = token_passed after moves kind is places

-- what is open where the walk stands
pub stands : (text rest : List ℕ) (lexemes : List (List ℕ)) (walk : BracketWalk) (place : Place) → HasWalked text rest lexemes walk → walk.place ≡ place → AreOpenAt text place walk.places
stands text rest lexemes walk place walked is = record {
  before = concat lexemes;
  rest = rest;
  tokens = tokens_from [] lexemes;
  split = cut_split lexemes text rest walked.cut;
  at = sym walked.place_is ∙ is;
  cut = record { lexemes = lexemes; cut = walked.cut; same = refl };
  same = walked.open_is;
}
