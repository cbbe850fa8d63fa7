-- What the first lexeme of a text is, for each way in which a text can begin.
use Rattle.std.proofs.Common.{◌≡◌, ℕ, ◌+◌, ◌<◌, ◌≤◌, Bool, true, false, not, List, [], ◌∷◌, ◌++◌, length, get_or, take, drop, suc, eqb, sym, refl, ap, ◌∙◌, subst, arith}
use Rattle.std.specs.List.{prefix_len}
use Rattle.std.specs.Char.{is_ascii_digit}
use Rattle.std.proofs.lemmas.Bool.{and_from, and_left, or_left, false≢true, eq-eqb}
use Rattle.std.proofs.lemmas.List.{length-take-le, append_assoc, length-append, take_at, take-append-drop}
use Rattle.std.proofs.lemmas.List.Sums.{prefix_len-le-length}
use Rattle.std.proofs.Math.Numerals.{one-add}
use Rattle.twe_lexer.specs.Lexeme.{is_line_end, is_blank, is_letter, is_word_byte, is_long_symbol, is_word, is_number, HasClose, IsUnclosedComment, IsLexeme, one_byte, long_symbol, word, number, line_comment, block_comment}
use Rattle.twe_lexer.specs.Places.{is_gap}
use Rattle.twe_lexer.specs.inner.Extents.{Begins}
use Rattle.twe_lexer.proofs.Heads.{BeginsToken, letter_begins, digit_begins, symbol_pair, run_passes}
use Rattle.twe_lexer.proofs.Longest.{IsBound, one_byte_bound, word_bound, number_bound, symbol_bound, line_bound, block_bound, first_from_bound}

-- a lexeme at the front of the text that is as long as any can be
begins : (n : ℕ) (token : Bool) (text : List ℕ) → n ≤ length text → IsLexeme (take n text) → IsBound n text → token ≡ not (is_gap (take n text)) → ¬ IsUnclosedComment (take n text) → Begins (record { len = n; is_token = token }) text
begins n token text fits lexeme bound class closed = record {
  fits = fits;
  first = first_from_bound n text fits lexeme bound;
  class = class;
  closed = closed;
}

-- what begins with such a byte is a token, and no comment
token_class : (first : ℕ) (others : List ℕ) → BeginsToken first → true ≡ not (is_gap (first ∷ others))
token_class first [] head = sym (ap not head.no_blank)
token_class first (second ∷ others) head = sym (ap not (and_left (eqb first 47) _ head.no_slash))

no_comment : (first : ℕ) (others : List ℕ) → eqb first 47 ≡ false → ¬ IsUnclosedComment (first ∷ others)
no_comment first others no_slash comment = let slash : first ≡ 47 = cc (comment.1) in false≢true (sym no_slash ∙ eq-eqb first 47 slash)

-- the lexeme of a token of more than one byte, whose first byte is known
token_begins : (n first : ℕ) (others : List ℕ) → BeginsToken first → n ≤ length others → IsLexeme (first ∷ take n others) → IsBound (1 + n) (first ∷ others) → Begins (record { len = 1 + n; is_token = true }) (first ∷ others)
token_begins n first others head fits lexeme bound =
    let front : take (1 + n) (first ∷ others) ≡ first ∷ take n others = ap (λ k. take k (first ∷ others)) (one-add n) in
    begins (1 + n) true (first ∷ others) (omega arith) (rw front lexeme) bound (rw front (token_class first (take n others) head)) (rw front (no_comment first (take n others) head.no_slash))

pub word_begins : (text : List ℕ) (n : ℕ) → 0 < length text → is_letter (get_or text 0 0) ≡ true → n ≡ prefix_len is_word_byte text → Begins (record { len = n; is_token = true }) text
word_begins [] n some letter counted = absurd (omega arith)
word_begins (first ∷ others) n some letter counted =
    let in_word : is_word_byte first ≡ true = or_left (is_letter first) (is_ascii_digit first) letter in
    let run = prefix_len is_word_byte others in
    let length_is : n ≡ 1 + run = counted ∙ rw in_word refl in
    let passes : is_word (first ∷ take run others) ≡ true = and_from (is_letter first) _ letter (run_passes is_word_byte others) in
    rw length_is (token_begins run first others (letter_begins first letter) (prefix_len-le-length is_word_byte others) (word passes) (word_bound first others letter))

pub number_begins : (text : List ℕ) (n : ℕ) → 0 < length text → is_ascii_digit (get_or text 0 0) ≡ true → n ≡ prefix_len is_ascii_digit text → Begins (record { len = n; is_token = true }) text
number_begins [] n some digit counted = absurd (omega arith)
number_begins (first ∷ others) n some digit counted =
    let run = prefix_len is_ascii_digit others in
    let length_is : n ≡ 1 + run = counted ∙ rw digit refl in
    let passes : is_number (first ∷ take run others) ≡ true = and_from (is_ascii_digit first) _ digit (run_passes is_ascii_digit others) in
    rw length_is (token_begins run first others (digit_begins first digit) (prefix_len-le-length is_ascii_digit others) (number passes) (number_bound first others digit))

pub symbol_begins : (text : List ℕ) → is_long_symbol (take 2 text) ≡ true → Begins (record { len = 2; is_token = true }) text
symbol_begins [] symbol = absurd (false≢true symbol)
symbol_begins (first ∷ []) symbol = let two = (symbol_pair (first ∷ []) symbol).two in absurd (omega arith)
symbol_begins (first ∷ second ∷ others) symbol =
    let pair = symbol_pair (first ∷ second ∷ []) symbol in
    begins 2 true (first ∷ second ∷ others) (omega arith) (long_symbol symbol) (symbol_bound first second others symbol) (sym (ap not pair.no_gap)) (no_comment first (second ∷ []) pair.no_slash)

-- a byte alone
pub byte_begins : (text : List ℕ) (token : Bool) → 0 < length text → token ≡ not (is_blank (get_or text 0 0)) → is_letter (get_or text 0 0) ≡ false → is_ascii_digit (get_or text 0 0) ≡ false → is_long_symbol (take 2 text) ≡ false →
    ((rest : List ℕ) → text ≡ 47 ∷ 47 ∷ rest → ⊥) → ((rest : List ℕ) → text ≡ 47 ∷ 42 ∷ rest → ⊥) → Begins (record { len = 1; is_token = token }) text
byte_begins [] token some class no_letter no_digit no_symbol no_line no_block = absurd (omega arith)
byte_begins (first ∷ others) token some class no_letter no_digit no_symbol no_line no_block =
    begins 1 token (first ∷ others) (omega arith) (one_byte refl) (one_byte_bound first others no_letter no_digit no_symbol no_line no_block) class (λ comment. let clash = comment.1 in cc)

pub line_begins : (text rest : List ℕ) (n : ℕ) → text ≡ 47 ∷ 47 ∷ rest → n ≡ prefix_len (λ byte. not (is_line_end byte)) text → Begins (record { len = n; is_token = false }) text
line_begins text rest n split counted =
    let in_line : ℕ → Bool = λ byte. not (is_line_end byte) in
    let run = prefix_len in_line rest in
    let length_is : n ≡ 2 + run = counted ∙ ap (prefix_len in_line) split ∙ omega arith in
    let front : take (2 + run) (47 ∷ 47 ∷ rest) ≡ 47 ∷ 47 ∷ take run rest = let next : 2 + run ≡ suc (suc run) = omega arith in ap (λ k. take k (47 ∷ 47 ∷ rest)) next in
    rw (length_is, split) (begins (2 + run) false (47 ∷ 47 ∷ rest) (omega (arith, prefix_len-le-length in_line rest)) (rw front (line_comment (take run rest, refl, run_passes in_line rest))) (line_bound rest) (rw front refl) (rw front (λ comment. let clash = comment.1 in cc)))

-- what lies between `/*` and the first `*/` makes a comment
block_from_body : (inside : List ℕ) (at : ℕ) → at + 2 ≤ length inside → drop at inside ≡ 42 ∷ 47 ∷ drop (at + 2) inside → ¬ HasClose (take at inside) → Begins (record { len = at + 4; is_token = false }) (47 ∷ 42 ∷ inside)
block_from_body inside at fits closes none =
    let body = take at inside in
    let after = drop (at + 2) inside in
    let comment : List ℕ = 47 ∷ 42 ∷ (body ++ (42 ∷ 47 ∷ [])) in
    let body_len : length body ≡ at = length-take-le at inside (omega arith) in
    let comment_len : length comment ≡ at + 4 = ap (λ n. suc (suc n)) (length-append body (42 ∷ 47 ∷ [])) ∙ omega arith in
    let whole : inside ≡ body ++ (42 ∷ 47 ∷ after) = sym (take-append-drop at inside) ∙ ap (λ bytes. body ++ bytes) closes in
    let split : 47 ∷ 42 ∷ inside ≡ comment ++ after = ap (λ bytes. 47 ∷ 42 ∷ bytes) (whole ∙ sym (append_assoc body (42 ∷ 47 ∷ []) after)) in
    let front : take (at + 4) (47 ∷ 42 ∷ inside) ≡ comment = ap (take (at + 4)) split ∙ take_at comment after (at + 4) comment_len in
    let bound : IsBound (at + 4) (47 ∷ 42 ∷ inside) = subst (λ n. IsBound (n + 4) (47 ∷ 42 ∷ inside)) body_len (subst (λ bytes. IsBound (length body + 4) (47 ∷ 42 ∷ bytes)) (sym whole) (block_bound body after)) in
    begins (at + 4) false (47 ∷ 42 ∷ inside) (omega arith)
    (subst IsLexeme (sym front) (block_comment (body, refl, none)))
    bound
    (ap (λ bytes. not (is_gap bytes)) (sym front))
    (subst (λ bytes. ¬ IsUnclosedComment bytes) (sym front) (closes_itself body))
  where
    closes_itself : (body : List ℕ) → ¬ IsUnclosedComment (47 ∷ 42 ∷ (body ++ (42 ∷ 47 ∷ [])))
    closes_itself body (other, is, unclosed) = let same : body ++ (42 ∷ 47 ∷ []) ≡ other = cc in unclosed (body, [], sym same)

pub block_begins : (text : List ℕ) (n at : ℕ) → take 2 text ≡ 47 ∷ 42 ∷ [] → at + 2 ≤ length (drop 2 text) → drop at (drop 2 text) ≡ 42 ∷ 47 ∷ drop (at + 2) (drop 2 text) → ¬ HasClose (take at (drop 2 text)) → n ≡ at + 4 → Begins (record { len = n; is_token = false }) text
block_begins text n at opens fits closes none counted =
    let split : text ≡ 47 ∷ 42 ∷ drop 2 text = sym (take-append-drop 2 text) ∙ ap (λ bytes. bytes ++ drop 2 text) opens in
    rw counted (subst (Begins (record { len = at + 4; is_token = false })) (sym split) (block_from_body (drop 2 text) at fits closes none))
