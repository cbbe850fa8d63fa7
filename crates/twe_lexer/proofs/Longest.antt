-- How long a lexeme at the front of a text can be.
use Rattle.std.proofs.Common.{◌≡◌, ℕ, ◌+◌, ◌≤◌, Bool, true, false, not, List, [], ◌∷◌, ◌++◌, length, take, drop, suc, sym, ap, ◌∙◌, subst, arith}
use Rattle.std.specs.List.{prefix_len}
use Rattle.std.specs.Char.{is_ascii_digit}
use Rattle.std.proofs.lemmas.Bool.{and_parts, false≢true, eq-eqb}
use Rattle.std.proofs.lemmas.List.{length-take-le, take-append-drop, length-append, take_at, append_assoc}
use Rattle.twe_lexer.specs.Lexeme.{is_line_end, is_letter, is_word_byte, is_long_symbol, HasClose, IsLexeme, IsFirstLexeme, one_byte, long_symbol, word, number, line_comment, block_comment, unclosed_comment}
use Rattle.twe_lexer.proofs.Heads.{letter_no_digit, letter_begins, digit_begins, symbol_pair, run_bound}

-- no lexeme at the front of the text has more bytes
abbrev pub IsBound : ℕ → List ℕ → Type 0
IsBound n text = (other later : List ℕ) → IsLexeme other → text ≡ other ++ later → length other ≤ n

-- the same of a text whose first byte is known, said of the bytes after it
bound_past : (n first : ℕ) (others : List ℕ) → ((more later : List ℕ) → IsLexeme (first ∷ more) → others ≡ more ++ later → length more + 1 ≤ n) → IsBound n (first ∷ others)
bound_past n first others bound [] later lexeme split = omega arith
bound_past n first others bound (head ∷ more) later lexeme split =
    let same : head ≡ first = cc in
    let rest : others ≡ more ++ later = cc in
    let bounded : length more + 1 ≤ n = bound more later (subst (λ byte. IsLexeme (byte ∷ more)) same lexeme) rest in
    omega arith

-- a byte that is neither letter, digit nor the first of a comment or a symbol of two bytes stands alone
pub one_byte_bound : (first : ℕ) (others : List ℕ) → is_letter first ≡ false → is_ascii_digit first ≡ false → is_long_symbol (take 2 (first ∷ others)) ≡ false →
    ((rest : List ℕ) → first ∷ others ≡ 47 ∷ 47 ∷ rest → ⊥) → ((rest : List ℕ) → first ∷ others ≡ 47 ∷ 42 ∷ rest → ⊥) → IsBound 1 (first ∷ others)
one_byte_bound first others no_letter no_digit no_symbol no_line no_block =
    bound_past 1 first others (λ more later lexeme split. elim lexeme [
      | one_byte alone ↦ omega arith
      | long_symbol symbol ↦ absurd (no_pair more later symbol split)
      | word passes ↦ absurd (false≢true (sym no_letter ∙ (and_parts _ _ passes).0))
      | number passes ↦ absurd (false≢true (sym no_digit ∙ (and_parts _ _ passes).0))
      | line_comment comment ↦ let is = comment.1 in absurd (no_line (comment.0 ++ later) (ap (λ bytes. first ∷ bytes) split ∙ ap (λ bytes. bytes ++ later) is))
      | block_comment comment ↦ let is = comment.1 in absurd (no_block ((comment.0 ++ (42 ∷ 47 ∷ [])) ++ later) (ap (λ bytes. first ∷ bytes) split ∙ ap (λ bytes. bytes ++ later) is))
      | unclosed_comment comment ↦ let is = comment.1 in absurd (no_block (comment.0 ++ later) (ap (λ bytes. first ∷ bytes) split ∙ ap (λ bytes. bytes ++ later) is))
    ])
  where
    no_pair : (more later : List ℕ) → is_long_symbol (first ∷ more) ≡ true → others ≡ more ++ later → ⊥
    no_pair more later symbol split =
        let two : length (first ∷ more) ≡ 2 = (symbol_pair (first ∷ more) symbol).two in
        let front : take 2 (first ∷ others) ≡ first ∷ more = ap (λ bytes. take 2 (first ∷ bytes)) split ∙ take_at (first ∷ more) later 2 two in
        false≢true (sym no_symbol ∙ ap is_long_symbol front ∙ symbol)

-- a word ends where its run of letters and digits does
pub word_bound : (first : ℕ) (others : List ℕ) → is_letter first ≡ true → IsBound (1 + prefix_len is_word_byte others) (first ∷ others)
word_bound first others letter =
    let no_slash = (letter_begins first letter).no_slash in
    bound_past (1 + prefix_len is_word_byte others) first others (λ more later lexeme split. elim lexeme [
      | one_byte alone ↦ omega arith
      | long_symbol symbol ↦ absurd (false≢true (sym (symbol_pair (first ∷ more) symbol).no_letter ∙ letter))
      | word passes ↦ let bounded : length more ≤ prefix_len is_word_byte others = rw split (run_bound is_word_byte more later (and_parts _ _ passes).1) in omega arith
      | number passes ↦ absurd (letter_no_digit first letter (and_parts _ _ passes).0)
      | line_comment comment ↦ let slash : first ≡ 47 = cc (comment.1) in absurd (false≢true (sym no_slash ∙ eq-eqb first 47 slash))
      | block_comment comment ↦ let slash : first ≡ 47 = cc (comment.1) in absurd (false≢true (sym no_slash ∙ eq-eqb first 47 slash))
      | unclosed_comment comment ↦ let slash : first ≡ 47 = cc (comment.1) in absurd (false≢true (sym no_slash ∙ eq-eqb first 47 slash))
    ])

-- a number ends where its run of digits does
pub number_bound : (first : ℕ) (others : List ℕ) → is_ascii_digit first ≡ true → IsBound (1 + prefix_len is_ascii_digit others) (first ∷ others)
number_bound first others digit =
    let no_slash = (digit_begins first digit).no_slash in
    bound_past (1 + prefix_len is_ascii_digit others) first others (λ more later lexeme split. elim lexeme [
      | one_byte alone ↦ omega arith
      | long_symbol symbol ↦ absurd (false≢true (sym (symbol_pair (first ∷ more) symbol).no_digit ∙ digit))
      | word passes ↦ absurd (letter_no_digit first (and_parts _ _ passes).0 digit)
      | number passes ↦ let bounded : length more ≤ prefix_len is_ascii_digit others = rw split (run_bound is_ascii_digit more later (and_parts _ _ passes).1) in omega arith
      | line_comment comment ↦ let slash : first ≡ 47 = cc (comment.1) in absurd (false≢true (sym no_slash ∙ eq-eqb first 47 slash))
      | block_comment comment ↦ let slash : first ≡ 47 = cc (comment.1) in absurd (false≢true (sym no_slash ∙ eq-eqb first 47 slash))
      | unclosed_comment comment ↦ let slash : first ≡ 47 = cc (comment.1) in absurd (false≢true (sym no_slash ∙ eq-eqb first 47 slash))
    ])

-- a symbol of two bytes is all of its lexeme
pub symbol_bound : (first second : ℕ) (others : List ℕ) → is_long_symbol (first ∷ second ∷ []) ≡ true → IsBound 2 (first ∷ second ∷ others)
symbol_bound first second others symbol =
    let pair = symbol_pair (first ∷ second ∷ []) symbol in
    bound_past 2 first (second ∷ others) (λ more later lexeme split. elim lexeme [
      | one_byte alone ↦ omega arith
      | long_symbol other ↦ let two = (symbol_pair (first ∷ more) other).two in omega (arith, two)
      | word passes ↦ absurd (false≢true (sym pair.no_letter ∙ (and_parts _ _ passes).0))
      | number passes ↦ absurd (false≢true (sym pair.no_digit ∙ (and_parts _ _ passes).0))
      | line_comment comment ↦ let slash : first ≡ 47 = cc (comment.1) in absurd (false≢true (sym pair.no_slash ∙ eq-eqb first 47 slash))
      | block_comment comment ↦ let slash : first ≡ 47 = cc (comment.1) in absurd (false≢true (sym pair.no_slash ∙ eq-eqb first 47 slash))
      | unclosed_comment comment ↦ let slash : first ≡ 47 = cc (comment.1) in absurd (false≢true (sym pair.no_slash ∙ eq-eqb first 47 slash))
    ])

-- a line comment ends where its line does
pub line_bound : (others : List ℕ) → IsBound (2 + prefix_len (λ byte. not (is_line_end byte)) others) (47 ∷ 47 ∷ others)
line_bound others =
    let in_line : ℕ → Bool = λ byte. not (is_line_end byte) in
    bound_past (2 + prefix_len in_line others) 47 (47 ∷ others) (λ more later lexeme split. elim lexeme [
      | one_byte alone ↦ omega arith
      | long_symbol symbol ↦ absurd (false≢true symbol)
      | word passes ↦ absurd (false≢true passes)
      | number passes ↦ absurd (false≢true passes)
      | line_comment comment ↦
          let is : more ≡ 47 ∷ comment.0 = cc (comment.1) in
          let rest : others ≡ comment.0 ++ later = cc (split ∙ ap (λ bytes. bytes ++ later) is) in
          let bounded : length comment.0 ≤ prefix_len in_line others = rw rest (run_bound in_line comment.0 later comment.2) in
          let counted : length more ≡ 1 + length comment.0 = ap length is ∙ omega arith in
          omega arith
      | block_comment comment ↦
          let is : more ≡ 42 ∷ (comment.0 ++ (42 ∷ 47 ∷ [])) = cc (comment.1) in
          let clash : 47 ∷ others ≡ 42 ∷ ((comment.0 ++ (42 ∷ 47 ∷ [])) ++ later) = split ∙ ap (λ bytes. bytes ++ later) is in
          cc
      | unclosed_comment comment ↦
          let is : more ≡ 42 ∷ comment.0 = cc (comment.1) in
          let clash : 47 ∷ others ≡ 42 ∷ (comment.0 ++ later) = split ∙ ap (λ bytes. bytes ++ later) is in
          cc
    ])

HasClose-cons : (first : ℕ) (others : List ℕ) → HasClose others → HasClose (first ∷ others)
HasClose-cons first others (before, after, split) = (first ∷ before, after, ap (λ bytes. first ∷ bytes) split)

-- `*/` does not begin within itself
no_overlap : (first : ℕ) (after later : List ℕ) → 42 ∷ 47 ∷ after ≡ first ∷ 42 ∷ 47 ∷ later → ⊥
no_overlap first after later split = cc

close_in_front : (first second : ℕ) (other after rest : List ℕ) → 42 ∷ 47 ∷ after ≡ first ∷ second ∷ rest → HasClose (first ∷ second ∷ other)
close_in_front first second other after rest split =
    let close : first ∷ second ∷ other ≡ 42 ∷ 47 ∷ other = cc in
    ([], other, close)

tails : (first second : ℕ) (xs ys : List ℕ) → first ∷ xs ≡ second ∷ ys → xs ≡ ys
tails first second xs ys split = cc

-- of two bodies that end at a `*/` in one text, one that has none in it is no longer
closed_bound : (body other after later : List ℕ) → body ++ (42 ∷ 47 ∷ after) ≡ other ++ (42 ∷ 47 ∷ later) → ¬ HasClose other → length other ≤ length body
closed_bound body [] after later split none = omega arith
closed_bound [] (first ∷ []) after later split none = absurd (no_overlap first after later split)
closed_bound [] (first ∷ second ∷ other) after later split none = absurd (none (close_in_front first second other after _ split))
closed_bound (head ∷ body) (first ∷ other) after later split none =
    let bounded = closed_bound body other after later (tails head first _ _ split) (λ close. none (HasClose-cons first other close)) in
    omega arith

-- a beginning of the text with no `*/` in it has at most the star of the first one
open_bound : (body other after later : List ℕ) → body ++ (42 ∷ 47 ∷ after) ≡ other ++ later → ¬ HasClose other → length other ≤ length body + 1
open_bound body [] after later split none = omega arith
open_bound [] (first ∷ []) after later split none = omega arith
open_bound [] (first ∷ second ∷ other) after later split none = absurd (none (close_in_front first second other after _ split))
open_bound (head ∷ body) (first ∷ other) after later split none =
    let bounded = open_bound body other after later (tails head first _ _ split) (λ close. none (HasClose-cons first other close)) in
    omega arith

-- a block comment ends with the first `*/`
pub block_bound : (body after : List ℕ) → IsBound (length body + 4) (47 ∷ 42 ∷ (body ++ (42 ∷ 47 ∷ after)))
block_bound body after =
    bound_past (length body + 4) 47 (42 ∷ (body ++ (42 ∷ 47 ∷ after))) (λ more later lexeme split. elim lexeme [
      | one_byte alone ↦ omega arith
      | long_symbol symbol ↦ absurd (false≢true symbol)
      | word passes ↦ absurd (false≢true passes)
      | number passes ↦ absurd (false≢true passes)
      | line_comment comment ↦
          let is : more ≡ 47 ∷ comment.0 = cc (comment.1) in
          let clash : 42 ∷ (body ++ (42 ∷ 47 ∷ after)) ≡ 47 ∷ (comment.0 ++ later) = split ∙ ap (λ bytes. bytes ++ later) is in
          cc
      | block_comment comment ↦
          let is : more ≡ 42 ∷ (comment.0 ++ (42 ∷ 47 ∷ [])) = cc (comment.1) in
          let rest : body ++ (42 ∷ 47 ∷ after) ≡ (comment.0 ++ (42 ∷ 47 ∷ [])) ++ later = cc (split ∙ ap (λ bytes. bytes ++ later) is) in
          let bounded = closed_bound body comment.0 after later (rest ∙ append_assoc comment.0 (42 ∷ 47 ∷ []) later) comment.2 in
          let counted : length more ≡ suc (length comment.0 + 2) = ap length is ∙ ap suc (length-append comment.0 (42 ∷ 47 ∷ [])) in
          omega arith
      | unclosed_comment comment ↦
          let is : more ≡ 42 ∷ comment.0 = cc (comment.1) in
          let rest : body ++ (42 ∷ 47 ∷ after) ≡ comment.0 ++ later = cc (split ∙ ap (λ bytes. bytes ++ later) is) in
          let bounded = open_bound body comment.0 after later rest comment.2 in
          let counted : length more ≡ suc (length comment.0) = ap length is in
          omega arith
    ])

-- a lexeme that is as long as any can be is the first one
pub first_from_bound : (n : ℕ) (text : List ℕ) → n ≤ length text → IsLexeme (take n text) → IsBound n text → IsFirstLexeme (take n text) text (drop n text)
first_from_bound n text fits lexeme bound = record {
  split = sym (take-append-drop n text);
  lexeme = lexeme;
  longest = λ other later is split. rw (length-take-le n text fits) (bound other later is split);
}
