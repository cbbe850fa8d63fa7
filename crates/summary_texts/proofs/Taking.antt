-- One lexeme more of a text.
use Rattle.std.proofs.Common.{◌≡◌, ℕ, ◌+◌, ◌<◌, Bool, true, false, List, [], ◌∷◌, ◌++◌, Option, None, Some, length, take, drop, refl, sym, ap, ◌∙◌, subst, arith}
use Rattle.std.specs.Prelude.{if◌then◌else◌, not}
use Rattle.std.specs.Option.{is_some}
use Rattle.std.proofs.lemmas.Bool.{false≢true}
use Rattle.std.proofs.lemmas.List.{length-append}
use Rattle.twe_lexer.specs.declared.lexeme.Lexeme.{Lexeme}
use Rattle.twe_lexer.specs.declared.token.TokenKind.{TokenKind}
use Rattle.twe_lexer.specs.Front.{Opens}
use Rattle.twe_lexer.specs.Kinds.{kind_of}
use Rattle.twe_lexer.specs.Lexeme.{IsLexeme}
use Rattle.twe_lexer.specs.Places.{is_gap}
use Rattle.twe_lexer.specs.Tokens.{AreFirstLexemes}
use Rattle.twe_parser.proofs.Cuts.{no_lexeme, cut_append}
use Rattle.summary_texts.specs.declared.writer.Writer.{Writer}
use Rattle.summary_texts.specs.inner.Steps.{at_start, after_lexeme, whole, HasTaken}
use Rattle.summary_texts.specs.Written.{HasSummaries}
use Rattle.summary_texts.proofs.Finding.{written_whole, after_append}

pub one_taken : (news : List (Option (List ℕ))) (text rest bytes later : List ℕ) (lexeme : Lexeme) (writer next : Writer) → HasTaken news text rest writer → Opens lexeme rest
    → bytes ≡ take lexeme.len rest → later ≡ drop lexeme.len rest → next ≡ after_lexeme news writer bytes → HasTaken news text later next
one_taken news text rest bytes later lexeme writer next taken opens front back is = record {
  lexemes = taken.lexemes ++ bytes ∷ [];
  cut = subst (λ (b : List ℕ). AreFirstLexemes (taken.lexemes ++ b ∷ []) text later) (sym front)
      (subst (λ (l : List ℕ). AreFirstLexemes (taken.lexemes ++ take lexeme.len rest ∷ []) text l) (sym back)
      (cut_append taken.lexemes (take lexeme.len rest ∷ []) text rest (drop lexeme.len rest) taken.cut (drop lexeme.len rest, opens.first, refl)));
  same = is ∙ ap (λ (w : Writer). after_lexeme news w bytes) taken.same ∙ sym (after_append news at_start taken.lexemes (bytes ∷ []));
}

pub taken_whole : (news : List (Option (List ℕ))) (text rest written : List ℕ) (writer : Writer) → HasTaken news text rest writer → rest ≡ [] → written ≡ whole writer → HasSummaries news text written
taken_whole news text rest written writer taken empty is = record {
  lexemes = taken.lexemes;
  cut = subst (λ (r : List ℕ). AreFirstLexemes taken.lexemes text r) empty taken.cut;
  same = is ∙ ap whole taken.same ∙ written_whole news taken.lexemes;
}

-- a lexeme has a byte
some_byte : (bytes : List ℕ) → IsLexeme bytes → 0 < length bytes
some_byte [] lexeme = absurd (no_lexeme lexeme)
some_byte (first ∷ others) lexeme = omega arith

pub gets_shorter : (rest : List ℕ) (lexeme : Lexeme) → Opens lexeme rest → length (drop lexeme.len rest) < length rest
gets_shorter rest lexeme opens =
    let some = some_byte (take lexeme.len rest) opens.first.lexeme in
    let split : length rest ≡ length (take lexeme.len rest) + length (drop lexeme.len rest) = ap length opens.first.split ∙ length-append (take lexeme.len rest) (drop lexeme.len rest) in
    omega (arith, some, split)

-- a lexeme without a token is a gap
same_class : (gap result : Bool) (kind : TokenKind) → is_some (if gap then None else Some kind) ≡ not result → result ≡ gap
same_class true true kind is = refl
same_class true false kind is = absurd (false≢true is)
same_class false true kind is = absurd (false≢true (sym is))
same_class false false kind is = refl

pub gap_class : (lexeme : Lexeme) (rest bytes : List ℕ) (result : Bool) → Opens lexeme rest → bytes ≡ take lexeme.len rest → is_some lexeme.token ≡ not result → result ≡ is_gap bytes
gap_class lexeme rest bytes result opens front is =
    same_class (is_gap (take lexeme.len rest)) result (kind_of (take lexeme.len rest)) (sym (ap is_some opens.token) ∙ is) ∙ ap is_gap (sym front)
