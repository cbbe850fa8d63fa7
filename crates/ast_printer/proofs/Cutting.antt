-- The printed text is cut into its words.
use Rattle.std.proofs.Common.{◌≡◌, ℕ, true, false, not, List, [], ◌∷◌, ◌++◌, take, drop, eqb, refl, sym, ap, ◌∙◌, subst, arith}
use Rattle.std.specs.List.{list_all, AllByRecursion}
use Rattle.std.specs.Char.{is_ascii_digit}
use Rattle.std.proofs.lemmas.Bool.{false≢true, and_from, and_parts, cond-true, cond-false, eq-eqb}
use Rattle.std.proofs.lemmas.List.{take_at, drop_at}
use Rattle.twe_lexer.specs.declared.fixed.Fixed.TheVariants as fixed
use Rattle.twe_lexer.specs.declared.token.TokenKind.{TokenKind}
use Rattle.twe_lexer.specs.declared.token.TokenKind.TheVariants as kinds
use Rattle.twe_lexer.specs.Kinds.{kind_of}
use Rattle.twe_lexer.specs.Lexeme.{is_blank, is_allowed, is_letter, is_long_symbol, IsFirstLexeme, IsUnclosedComment}
use Rattle.twe_lexer.specs.Places.{is_gap}
use Rattle.twe_lexer.specs.Tokens.{AreFirstLexemes, tokens_from}
use Rattle.twe_lexer.proofs.Beginnings.{byte_begins}
use Rattle.twe_parser.specs.declared.limits.Sofar.{Sofar}
use Rattle.twe_parser.specs.Limits.{sofar_after}
use Rattle.ast_printer.specs.Text.{bytes_of, gap_after, text_of}
use Rattle.ast_printer.proofs.Supply.{kinds_in}
use Rattle.ast_printer.proofs.Passing.{AllPass}
use Rattle.ast_printer.proofs.Alone.{ReadAlone, word_alone}

-- each word is read as itself
abbrev pub AllAlone : List TokenKind → Type 0
AllAlone [] = Unit {0}
AllAlone (word ∷ words) = ReadAlone word × AllAlone words

pub all_alone : (words : List TokenKind) (sofar : Sofar) → AllPass sofar words → AllAlone words
all_alone [] sofar pass = tt
all_alone (word ∷ words) sofar pass = (word_alone word sofar pass.0, all_alone words (sofar_after sofar word) pass.1)

abbrev pub lexemes_of : List TokenKind → List (List ℕ)
lexemes_of [] = []
lexemes_of (word ∷ words) = bytes_of word ∷ (gap_after word ∷ []) ∷ lexemes_of words

-- what stands after a word is a blank
pub data IsGap : ℕ → Type 0 where
  line_end : IsGap 10
  space : IsGap 32

gap_is : (word : TokenKind) → IsGap (gap_after word)
gap_is (kinds.Fixed fixed.OpenBrace) = line_end
gap_is (kinds.Fixed fixed.CloseBrace) = line_end
gap_is (kinds.Fixed fixed.Semicolon) = line_end
gap_is _ = space

-- a blank stands alone
no_symbol : (gap : ℕ) (rest : List ℕ) → is_long_symbol (gap ∷ []) ≡ false → ((next : ℕ) → is_long_symbol (gap ∷ next ∷ []) ≡ false) → is_long_symbol (take 2 (gap ∷ rest)) ≡ false
no_symbol gap [] alone pair = alone
no_symbol gap (next ∷ rest) alone pair = pair next

blank_stands : (gap : ℕ) (rest : List ℕ) → is_blank gap ≡ true → is_letter gap ≡ false → is_ascii_digit gap ≡ false → eqb gap 47 ≡ false → is_long_symbol (gap ∷ []) ≡ false → ((next : ℕ) → is_long_symbol (gap ∷ next ∷ []) ≡ false)
    → IsFirstLexeme (gap ∷ []) (gap ∷ rest) rest
blank_stands gap rest blank letter digit slash alone pair =
    let begins = byte_begins (gap ∷ rest) false (omega arith) (sym (ap not blank)) letter digit (no_symbol gap rest alone pair)
    (λ later same. let is : gap ≡ 47 = cc in false≢true (sym slash ∙ eq-eqb gap 47 is)) (λ later same. let is : gap ≡ 47 = cc in false≢true (sym slash ∙ eq-eqb gap 47 is)) in
    let front : take 1 (gap ∷ rest) ≡ gap ∷ [] = take_at (gap ∷ []) rest 1 refl in
    let back : drop 1 (gap ∷ rest) ≡ rest = drop_at (gap ∷ []) rest 1 refl in
    subst (λ (its : List ℕ). IsFirstLexeme (gap ∷ []) (gap ∷ rest) its) back (subst (λ (its : List ℕ). IsFirstLexeme its (gap ∷ rest) (drop 1 (gap ∷ rest))) front begins.first)

gap_stands : (gap : ℕ) (rest : List ℕ) → IsGap gap → IsFirstLexeme (gap ∷ []) (gap ∷ rest) rest
gap_stands _ rest line_end = blank_stands 10 rest refl refl refl refl refl (λ next. refl)
gap_stands _ rest space = blank_stands 32 rest refl refl refl refl refl (λ next. refl)

pub text_cut : (words : List TokenKind) → AllAlone words → AreFirstLexemes (lexemes_of words) (text_of words) []
text_cut [] alone = refl
text_cut (word ∷ words) alone =
    (gap_after word ∷ text_of words, (alone.0.stands (text_of words)).first, (text_of words, gap_stands (gap_after word) (text_of words) (gap_is word), text_cut words alone.1))

gap_skipped : (gap : ℕ) → IsGap gap → is_gap (gap ∷ []) ≡ true
gap_skipped _ line_end = refl
gap_skipped _ space = refl

gap_allowed : (gap : ℕ) → IsGap gap → is_allowed gap ≡ true
gap_allowed _ line_end = refl
gap_allowed _ space = refl

gap_closed : (gap : ℕ) → ¬ IsUnclosedComment (gap ∷ [])
gap_closed gap comment = let is = comment.1 in cc

-- the tokens of the text are the words
pub words_again : (before : List ℕ) (words : List TokenKind) → AllAlone words → kinds_in (tokens_from before (lexemes_of words)) ≡ words
words_again before [] alone = refl
words_again before (word ∷ words) alone =
    ap kinds_in (cond-false (is_gap (bytes_of word)) _ _ (alone.0.stands []).token)
    ∙ ap (λ tokens. kind_of (bytes_of word) ∷ kinds_in tokens) (cond-true (is_gap (gap_after word ∷ [])) _ _ (gap_skipped (gap_after word) (gap_is word)))
    ∙ (λ i. alone.0.again i ∷ words_again ((before ++ bytes_of word) ++ gap_after word ∷ []) words alone.1 i)

all_append : (one other : List ℕ) → list_all is_allowed one ≡ true → list_all is_allowed other ≡ true → list_all is_allowed (one ++ other) ≡ true
all_append [] other first second = second
all_append (code ∷ one) other first second = let parts = and_parts (is_allowed code) (list_all is_allowed one) first in and_from (is_allowed code) _ parts.0 (all_append one other parts.1 second)

pub text_allowed : (words : List TokenKind) → AllAlone words → list_all is_allowed (text_of words) ≡ true
text_allowed [] alone = refl
text_allowed (word ∷ words) alone =
    all_append (bytes_of word) (gap_after word ∷ text_of words) alone.0.allowed (and_from (is_allowed (gap_after word)) _ (gap_allowed (gap_after word) (gap_is word)) (text_allowed words alone.1))

pub lexemes_closed : (words : List TokenKind) → AllAlone words → AllByRecursion (λ lexeme. ¬ IsUnclosedComment lexeme) (lexemes_of words)
lexemes_closed [] alone = tt
lexemes_closed (word ∷ words) alone = ((alone.0.stands []).closed, (gap_closed (gap_after word), lexemes_closed words alone.1))
