-- Lexemes before other bytes.
use Rattle.std.proofs.Common.{◌≡◌, ℕ, ◌+◌, ◌<◌, ◌≤◌, ◌⊎◌, inl, inr, Bool, true, false, cond, List, [], ◌∷◌, ◌++◌, length, take, get_or, eqb, refl, sym, ap, ◌∙◌, subst, append_assoc, arith}
use Rattle.std.specs.Str.{bytes_eq}
use Rattle.std.specs.List.{list_all, list_any, prefix_len}
use Rattle.std.specs.Char.{is_ascii_digit}
use Rattle.std.proofs.lemmas.Bool.{false≢true, and_parts, or_cases, or_right, eq-eqb, cases_lt}
use Rattle.std.proofs.lemmas.List.{length-append}
use Rattle.std.proofs.lemmas.Slice.Eq.{bytes_eq-Decides}
use Rattle.twe_lexer.specs.Lexeme.{is_letter, is_word_byte, is_long_symbol, long_symbols, HasClose, IsLexeme, IsFirstLexeme, one_byte, long_symbol, word, number, line_comment, block_comment, unclosed_comment}
use Rattle.twe_lexer.specs.Places.{is_gap}
use Rattle.twe_lexer.proofs.Longest.{IsBound, one_byte_bound, line_bound, block_bound}
use Rattle.text_layout.proofs.Trimmed.{ends_no_line}

-- a byte that stands in lexemes of several bytes only if they are comments
pub record Divides (byte : ℕ) : Type 0 where
  pub no_word : is_word_byte byte ≡ false
  pub no_equal : eqb byte 61 ≡ false
  pub no_and : eqb byte 38 ≡ false
  pub no_or : eqb byte 124 ≡ false
  pub no_slash : eqb byte 47 ≡ false
  pub no_star : eqb byte 42 ≡ false

-- the longer of two beginnings of a text continues the shorter one
continues : (one other rest later : List ℕ) → one ++ rest ≡ other ++ later → length one < length other → (next : ℕ) × (more : List ℕ) × (other ≡ one ++ next ∷ more) × (rest ≡ next ∷ (more ++ later))
continues [] [] rest later same longer = absurd (omega arith)
continues [] (next ∷ more) rest later same longer = (next, more, refl, same)
continues (first ∷ one) [] rest later same longer = absurd (omega arith)
continues (first ∷ one) (second ∷ other) rest later same longer =
    let tail : one ++ rest ≡ other ++ later = cc in
    let head : first ≡ second = cc in
    let less : length one < length other = omega arith in
    let found = continues one other rest later tail less in
    (found.0, found.1, (λ i. sym head i ∷ found.2 i), found.3)

all_back : (passes : ℕ → Bool) (one : List ℕ) (next : ℕ) (more : List ℕ) → list_all passes (one ++ next ∷ more) ≡ true → passes next ≡ true
all_back passes [] next more all = (and_parts (passes next) _ all).0
all_back passes (first ∷ one) next more all = all_back passes one next more (and_parts (passes first) _ all).1

-- the bytes are one of these
abbrev Among : List ℕ → List (List ℕ) → Type 0
Among bytes [] = ⊥
Among bytes (one ∷ others) = (bytes ≡ one) ⊎ Among bytes others

among_more : (bytes one : List ℕ) (others : List (List ℕ)) → (list_any (bytes_eq bytes) others ≡ true → Among bytes others)
    → (bytes_eq bytes one ≡ true) ⊎ (list_any (bytes_eq bytes) others ≡ true) → Among bytes (one ∷ others)
among_more bytes one others later (inl is) = inl ((bytes_eq-Decides bytes one).0 is)
among_more bytes one others later (inr more) = inr (later more)

among : (bytes : List ℕ) (those : List (List ℕ)) → list_any (bytes_eq bytes) those ≡ true → Among bytes those
among bytes [] any = false≢true any
among bytes (one ∷ others) any =
    among_more bytes one others (among bytes others) (or_cases (bytes_eq bytes one) (list_any (bytes_eq bytes) others) any)

no_pair : (first next : ℕ) (more : List ℕ) → Divides next → ¬ (is_long_symbol (first ∷ next ∷ more) ≡ true)
no_pair first next more divides symbol = none (among (first ∷ next ∷ more) long_symbols symbol)
  where
    none : ¬ Among (first ∷ next ∷ more) long_symbols
    none (inl is) = let at : next ≡ 61 = cc in false≢true (sym divides.no_equal ∙ eq-eqb next 61 at)
    none (inr (inl is)) = let at : next ≡ 61 = cc in false≢true (sym divides.no_equal ∙ eq-eqb next 61 at)
    none (inr (inr (inl is))) = let at : next ≡ 61 = cc in false≢true (sym divides.no_equal ∙ eq-eqb next 61 at)
    none (inr (inr (inr (inl is)))) = let at : next ≡ 61 = cc in false≢true (sym divides.no_equal ∙ eq-eqb next 61 at)
    none (inr (inr (inr (inr (inl is))))) = let at : next ≡ 38 = cc in false≢true (sym divides.no_and ∙ eq-eqb next 38 at)
    none (inr (inr (inr (inr (inr (inl is)))))) = let at : next ≡ 124 = cc in false≢true (sym divides.no_or ∙ eq-eqb next 124 at)
    none (inr (inr (inr (inr (inr (inr is)))))) = is

-- three bytes or more are no symbol
no_triple : (first second third : ℕ) (more : List ℕ) → ¬ (is_long_symbol (first ∷ second ∷ third ∷ more) ≡ true)
no_triple first second third more symbol = none (among (first ∷ second ∷ third ∷ more) long_symbols symbol)
  where
    none : ¬ Among (first ∷ second ∷ third ∷ more) long_symbols
    none (inl is) = cc
    none (inr (inl is)) = cc
    none (inr (inr (inl is))) = cc
    none (inr (inr (inr (inl is)))) = cc
    none (inr (inr (inr (inr (inl is))))) = cc
    none (inr (inr (inr (inr (inr (inl is)))))) = cc
    none (inr (inr (inr (inr (inr (inr is)))))) = is

no_word : (others : List ℕ) (next : ℕ) (more : List ℕ) → Divides next → list_all is_word_byte (others ++ next ∷ more) ≡ true → ⊥
no_word others next more divides all = false≢true (sym divides.no_word ∙ all_back is_word_byte others next more all)

no_number : (others : List ℕ) (next : ℕ) (more : List ℕ) → Divides next → list_all is_ascii_digit (others ++ next ∷ more) ≡ true → ⊥
no_number others next more divides all =
    false≢true (sym divides.no_word ∙ or_right (is_letter next) (is_ascii_digit next) (all_back is_ascii_digit others next more all))

no_two : (first next : ℕ) (more : List ℕ) → Divides next → ¬ IsLexeme (first ∷ next ∷ more)
no_two first next more divides longer = elim longer [
  | one_byte alone ↦ omega arith
  | long_symbol symbol ↦ no_pair first next more divides symbol
  | word passes ↦ no_word [] next more divides (and_parts (is_letter first) _ passes).1
  | number passes ↦ no_number [] next more divides (and_parts (is_ascii_digit first) _ passes).1
  | line_comment comment ↦ let is = comment.1 in let slash : next ≡ 47 = cc in false≢true (sym divides.no_slash ∙ eq-eqb next 47 slash)
  | block_comment comment ↦ let is = comment.1 in let star : next ≡ 42 = cc in false≢true (sym divides.no_star ∙ eq-eqb next 42 star)
  | unclosed_comment comment ↦ let is = comment.1 in let star : next ≡ 42 = cc in false≢true (sym divides.no_star ∙ eq-eqb next 42 star)
]

no_more : (first second : ℕ) (others : List ℕ) (next : ℕ) (more : List ℕ) → ¬ (is_long_symbol (first ∷ second ∷ (others ++ next ∷ more)) ≡ true)
no_more first second [] next more symbol = no_triple first second next more symbol
no_more first second (third ∷ others) next more symbol = no_triple first second third (others ++ next ∷ more) symbol

no_many : (first second : ℕ) (others : List ℕ) (next : ℕ) (more : List ℕ) → is_gap (first ∷ second ∷ others) ≡ false → Divides next → ¬ IsLexeme (first ∷ second ∷ (others ++ next ∷ more))
no_many first second others next more gap divides longer = elim longer [
  | one_byte alone ↦ omega arith
  | long_symbol symbol ↦ no_more first second others next more symbol
  | word passes ↦ no_word (second ∷ others) next more divides (and_parts (is_letter first) _ passes).1
  | number passes ↦ no_number (second ∷ others) next more divides (and_parts (is_ascii_digit first) _ passes).1
  | line_comment comment ↦ let is = comment.1 in let one : first ≡ 47 = cc in let two : second ≡ 47 = cc in false≢true (sym gap ∙ (λ i. is_gap (one i ∷ two i ∷ others)))
  | block_comment comment ↦ let is = comment.1 in let one : first ≡ 47 = cc in let two : second ≡ 42 = cc in false≢true (sym gap ∙ (λ i. is_gap (one i ∷ two i ∷ others)))
  | unclosed_comment comment ↦ let is = comment.1 in let one : first ≡ 47 = cc in let two : second ≡ 42 = cc in false≢true (sym gap ∙ (λ i. is_gap (one i ∷ two i ∷ others)))
]

-- no token goes on with such a byte
no_token : (bytes : List ℕ) (next : ℕ) (more : List ℕ) → 0 < length bytes → is_gap bytes ≡ false → Divides next → ¬ IsLexeme (bytes ++ next ∷ more)
no_token [] next more some gap divides longer = omega arith
no_token (first ∷ []) next more some gap divides longer = no_two first next more divides longer
no_token (first ∷ second ∷ others) next more some gap divides longer = no_many first second others next more gap divides longer

some_bytes : (bytes : List ℕ) → IsLexeme bytes → 0 < length bytes
some_bytes [] lexeme = absurd (elim lexeme [
  | one_byte alone ↦ omega arith
  | long_symbol symbol ↦ cc
  | word passes ↦ cc
  | number passes ↦ cc
  | line_comment comment ↦ let is = comment.1 in cc
  | block_comment comment ↦ let is = comment.1 in cc
  | unclosed_comment comment ↦ let is = comment.1 in cc
])
some_bytes (first ∷ others) lexeme = omega arith

-- a token before such a byte
pub token_stands : (bytes : List ℕ) (next : ℕ) (rest : List ℕ) → IsLexeme bytes → is_gap bytes ≡ false → Divides next → IsFirstLexeme bytes (bytes ++ next ∷ rest) (next ∷ rest)
token_stands bytes next rest lexeme gap divides = record {
  split = refl;
  lexeme = lexeme;
  longest = λ other later is split. at_most other later is split (cases_lt (length bytes) (length other));
}
  where
    at_most : (other later : List ℕ) → IsLexeme other → bytes ++ next ∷ rest ≡ other ++ later → (length bytes < length other) ⊎ (length other ≤ length bytes) → length other ≤ length bytes
    at_most other later is split (inr short) = short
    at_most other later is split (inl longer) =
        let found = continues bytes other (next ∷ rest) later split longer in
        let left = found.3 in
        let same : found.0 ≡ next = cc in
        absurd (no_token bytes found.0 found.1 (some_bytes bytes lexeme) gap (subst Divides (sym same) divides) (subst IsLexeme found.2 is))

from_bound : (bytes rest : List ℕ) → IsLexeme bytes → IsBound (length bytes) (bytes ++ rest) → IsFirstLexeme bytes (bytes ++ rest) rest
from_bound bytes rest lexeme bound = record { split = refl; lexeme = lexeme; longest = λ other later is split. bound other later is split }

run_length : (passes : ℕ → Bool) (bytes rest : List ℕ) → list_all passes bytes ≡ true → prefix_len passes rest ≡ 0 → length bytes ≡ prefix_len passes (bytes ++ rest)
run_length passes [] rest all ends = sym ends
run_length passes (first ∷ others) rest all ends =
    let parts = and_parts (passes first) (list_all passes others) all in
    let more = run_length passes others rest parts.1 ends in
    let counted : length (first ∷ others) ≡ 1 + prefix_len passes (others ++ rest) = omega arith in
    counted ∙ sym (ap (λ b. cond b (1 + prefix_len passes (others ++ rest)) 0) parts.0)

-- a comment to the end of its line, before the end of the line
pub line_stands : (body rest : List ℕ) → list_all ends_no_line body ≡ true → prefix_len ends_no_line rest ≡ 0 → IsFirstLexeme (47 ∷ 47 ∷ body) (47 ∷ 47 ∷ (body ++ rest)) rest
line_stands body rest one_line ends =
    let run = run_length ends_no_line body rest one_line ends in
    from_bound (47 ∷ 47 ∷ body) rest (line_comment (body, refl, one_line))
    (λ other later is split. let most : length other ≤ 2 + prefix_len ends_no_line (body ++ rest) = line_bound (body ++ rest) other later is split in omega arith)

-- a comment with an end of its own, before any bytes
pub block_stands : (body rest : List ℕ) → ¬ HasClose body → IsFirstLexeme (47 ∷ 42 ∷ (body ++ (42 ∷ 47 ∷ []))) ((47 ∷ 42 ∷ (body ++ (42 ∷ 47 ∷ []))) ++ rest) rest
block_stands body rest none =
    let long : length (47 ∷ 42 ∷ (body ++ (42 ∷ 47 ∷ []))) ≡ length body + 4 = let counted : length (body ++ (42 ∷ 47 ∷ [])) ≡ length body + 2 = length-append body (42 ∷ 47 ∷ []) in omega arith in
    from_bound (47 ∷ 42 ∷ (body ++ (42 ∷ 47 ∷ []))) rest (block_comment (body, refl, none))
    (λ other later is split. let most : length other ≤ length body + 4 = block_bound body rest other later is (ap (λ bytes. 47 ∷ 42 ∷ bytes) (sym (append_assoc body (42 ∷ 47 ∷ []) rest)) ∙ split) in omega arith)

-- a byte alone, before any bytes: no letter, no digit, no `/`, and no symbol of two bytes begins there
pub single_stands : (first : ℕ) (rest : List ℕ) → is_letter first ≡ false → is_ascii_digit first ≡ false → eqb first 47 ≡ false → is_long_symbol (first ∷ []) ≡ false
    → ((next : ℕ) (more : List ℕ) → rest ≡ next ∷ more → is_long_symbol (first ∷ next ∷ []) ≡ false) → IsFirstLexeme (first ∷ []) (first ∷ rest) rest
single_stands first rest letter digit slash alone pair =
    from_bound (first ∷ []) rest (one_byte refl)
    (one_byte_bound first rest letter digit (symbol rest pair) (λ more is. let at : first ≡ 47 = cc in false≢true (sym slash ∙ eq-eqb first 47 at)) (λ more is. let at : first ≡ 47 = cc in false≢true (sym slash ∙ eq-eqb first 47 at)))
  where
    symbol : (rest : List ℕ) → ((next : ℕ) (more : List ℕ) → rest ≡ next ∷ more → is_long_symbol (first ∷ next ∷ []) ≡ false) → is_long_symbol (take 2 (first ∷ rest)) ≡ false
    symbol [] pair = alone
    symbol (next ∷ more) pair = pair next more refl

-- `!` and a byte other than `=` are no symbol
pub no_unequal : (next : ℕ) → eqb next 61 ≡ false → is_long_symbol (33 ∷ next ∷ []) ≡ false
no_unequal next other = known (is_long_symbol (33 ∷ next ∷ [])) refl
  where
    none : ¬ Among (33 ∷ next ∷ []) long_symbols
    none (inl is) = false≢true (sym (ap (λ its. eqb (get_or its 0 0) 33) is))
    none (inr (inl is)) = let at : next ≡ 61 = cc in false≢true (sym other ∙ eq-eqb next 61 at)
    none (inr (inr (inl is))) = false≢true (sym (ap (λ its. eqb (get_or its 0 0) 33) is))
    none (inr (inr (inr (inl is)))) = false≢true (sym (ap (λ its. eqb (get_or its 0 0) 33) is))
    none (inr (inr (inr (inr (inl is))))) = false≢true (sym (ap (λ its. eqb (get_or its 0 0) 33) is))
    none (inr (inr (inr (inr (inr (inl is)))))) = false≢true (sym (ap (λ its. eqb (get_or its 0 0) 33) is))
    none (inr (inr (inr (inr (inr (inr is)))))) = is

    known : (b : Bool) → is_long_symbol (33 ∷ next ∷ []) ≡ b → is_long_symbol (33 ∷ next ∷ []) ≡ false
    known true is = absurd (none (among (33 ∷ next ∷ []) long_symbols is))
    known false is = is
