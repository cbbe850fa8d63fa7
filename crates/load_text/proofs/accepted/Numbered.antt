-- Names that are a letter and a number.
use Rattle.std.proofs.Common.{◌≡◌, ℕ, ◌<◌, Bool, true, false, ◌&&◌, List, [], ◌∷◌, eqb, Option, None, refl, ap, ◌∙◌, arith}
use Rattle.std.specs.Prelude.{decimal, bytes_eq}
use Rattle.std.specs.List.{list_all}
use Rattle.std.specs.Char.{is_ascii_digit}
use Rattle.std.proofs.lemmas.Bool.{false≢true, and_from, and_parts, or_right, cond-true, cond-false}
use Rattle.std.proofs.lemmas.Bool.Decides.{nat_tests}
use Rattle.std.proofs.lemmas.Slice.Eq.{bytes_eq-Decides}
use Rattle.std.proofs.lemmas.Fmt.{decimal_injective}
use Rattle.twe_lexer.specs.declared.fixed.Fixed.{Fixed}
use Rattle.twe_lexer.specs.declared.token.TokenKind.TheVariants as kinds
use Rattle.twe_lexer.specs.Kinds.{kind_of, kind_unless}
use Rattle.twe_lexer.specs.Lexeme.{is_letter, is_word_byte, is_word, is_number}
use Rattle.twe_lexer.specs.Spelling.{spelled}
use Rattle.twe_parser.specs.Limits.{limits_at_start}
use Rattle.ast_printer.proofs.Alone.{ReadAlone, word_alone}
use Rattle.load_text.proofs.accepted.Lexemes.{literal_alone, number_from_kind}

-- a letter and the number after it
abbrev pub numbered_name : ℕ → ℕ → List ℕ
numbered_name letter i = letter ∷ decimal i

abbrev pub cell_name : ℕ → List ℕ
cell_name i = numbered_name 99 i

abbrev pub child_name : ℕ → List ℕ
child_name i = numbered_name 117 i

abbrev pub parent_name : ℕ → List ℕ
parent_name i = numbered_name 116 i

abbrev pub future_name : ℕ → List ℕ
future_name i = numbered_name 102 i

pub decimal_number : (i : ℕ) → i < 10000 → is_number (decimal i) ≡ true
decimal_number i small = number_from_kind (decimal i) i (literal_alone i small).again

-- a letter and digits are a word
digits_in_word : (bytes : List ℕ) → list_all is_ascii_digit bytes ≡ true → list_all is_word_byte bytes ≡ true
digits_in_word [] all = refl
digits_in_word (first ∷ others) all =
    let parts = and_parts (is_ascii_digit first) (list_all is_ascii_digit others) all in
    and_from (is_word_byte first) _ (or_right (is_letter first) (is_ascii_digit first) parts.0) (digits_in_word others parts.1)

number_in_word : (bytes : List ℕ) → is_number bytes ≡ true → list_all is_word_byte bytes ≡ true
number_in_word [] is = absurd (false≢true is)
number_in_word (first ∷ others) is = digits_in_word (first ∷ others) is

no_letter : (byte : ℕ) → is_ascii_digit byte ≡ true → (eqb byte 97 ≡ false) × (eqb byte 105 ≡ false) × (eqb byte 114 ≡ false) × (eqb byte 117 ≡ false)
no_letter byte digit = grind (arith, nat_tests)

-- such a name is no keyword: one with this letter would have another letter next
letters_apart : (letter : ℕ) (bytes : List ℕ) → is_number bytes ≡ true
    → ((first : ℕ) (others : List ℕ) → eqb first 97 ≡ false → eqb first 105 ≡ false → eqb first 114 ≡ false → eqb first 117 ≡ false → spelled
    (letter ∷ first ∷ others) ≡ None)
    → spelled (letter ∷ bytes) ≡ None
letters_apart letter [] is none = absurd (false≢true is)
letters_apart letter (first ∷ others) is none =
    let parts = and_parts (is_ascii_digit first) (list_all is_ascii_digit others) is in
    let apart = no_letter first parts.0 in
    none first others apart.0 apart.1 apart.2 apart.3

name_kind : (letter i : ℕ) → is_letter letter ≡ true → is_ascii_digit letter ≡ false → i < 10000 → spelled (numbered_name letter i) ≡ None
    → kind_of (numbered_name letter i) ≡ kinds.Name (numbered_name letter i)
name_kind letter i first digit small none =
    let word : is_word (numbered_name letter i) ≡ true = and_from (is_letter letter) _ first (number_in_word (decimal i) (decimal_number i small)) in
    let no_number : is_number (numbered_name letter i) ≡ false = ap (λ (t : Bool). t && list_all is_ascii_digit (decimal i)) digit in
    cond-false (is_number (numbered_name letter i)) _ _ no_number
    ∙ ap (λ (found : Option Fixed). kind_unless found (numbered_name letter i)) none
    ∙ cond-true (is_word (numbered_name letter i)) _ _ word

name_alone : (letter i : ℕ) → is_letter letter ≡ true → is_ascii_digit letter ≡ false → i < 10000 → spelled (numbered_name letter i) ≡ None
    → ReadAlone (kinds.Name (numbered_name letter i))
name_alone letter i first digit small none =
    word_alone (kinds.Name (numbered_name letter i)) limits_at_start (record { sound = name_kind letter i first digit small none; small = refl; shallow = refl })

pub cell_alone : (i : ℕ) → i < 10000 → ReadAlone (kinds.Name (cell_name i))
cell_alone i small = name_alone 99 i refl refl small refl

pub child_alone : (i : ℕ) → i < 10000 → ReadAlone (kinds.Name (child_name i))
child_alone i small = name_alone 117 i refl refl small refl

pub parent_alone : (i : ℕ) → i < 10000 → ReadAlone (kinds.Name (parent_name i))
parent_alone i small =
    name_alone 116 i refl refl small (letters_apart 116 (decimal i) (decimal_number i small) (λ first others a e r u. rw (a, r) refl))

pub future_alone : (i : ℕ) → i < 10000 → ReadAlone (kinds.Name (future_name i))
future_alone i small =
    name_alone 102 i refl refl small (letters_apart 102 (decimal i) (decimal_number i small) (λ first others a e r u. rw (a, e, u) refl))

-- a name that is written out
pub known_alone : (text : List ℕ) → kind_of text ≡ kinds.Name text → ReadAlone (kinds.Name text)
known_alone text is = word_alone (kinds.Name text) limits_at_start (record { sound = is; small = refl; shallow = refl })

-- bytes are equal to themselves, and different bytes are not
pub same_bytes : (bytes : List ℕ) → bytes_eq bytes bytes ≡ true
same_bytes bytes = (bytes_eq-Decides bytes bytes).1 refl

pub other_bytes : (one other : List ℕ) → ¬ (one ≡ other) → bytes_eq one other ≡ false
other_bytes one other differ = by_test (bytes_eq one other) refl
  where
    by_test : (test : Bool) → bytes_eq one other ≡ test → test ≡ false
    by_test false is = refl
    by_test true is = absurd (differ ((bytes_eq-Decides one other).0 is))

-- different numbers are written differently
pub other_number : (i j : ℕ) → i < 10000 → j < 10000 → ¬ (i ≡ j) → bytes_eq (decimal i) (decimal j) ≡ false
other_number i j small also differ = other_bytes (decimal i) (decimal j) (λ same. differ (decimal_injective i j (omega arith) (omega arith) same))
