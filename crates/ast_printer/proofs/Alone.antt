-- Each word with what stands after it is read as that word.
use Rattle.std.proofs.Common.{◌≡◌, ℕ, ◌+◌, ◌-◌, ◌*◌, ◌/◌, ◌%◌, ◌^◌, ◌<◌, ◌≤◌, inl, inr, min, Bool, true, false, ◌&&◌, not, List, [], ◌∷◌, ◌++◌, length, take, drop, eqb, nat_lt, Option, None, Some, refl, sym, ap, ◌∙◌, subst, arith}
use Rattle.std.specs.Prelude.{if◌then◌else◌, decimal, fold}
use Rattle.std.specs.List.{list_all, prefix_len}
use Rattle.std.specs.Char.{is_ascii_digit, is_ascii_alphabetic}
use Rattle.std.proofs.lemmas.Bool.{false≢true, true≢false, and_parts, and_from, or_left, or_right, or_cases, leb-true, le-leb, cond-true, cond-false, eq-eqb, eqb-true, ltb-false}
use Rattle.std.proofs.lemmas.List.{take_at, drop_at}
use Rattle.std.proofs.lemmas.Fmt.{decimal_by_steps}
use Rattle.twe_lexer.specs.declared.fixed.Fixed.{Fixed}
use Rattle.twe_lexer.specs.declared.fixed.Fixed.TheVariants as fixed
use Rattle.twe_lexer.specs.declared.token.TokenKind.{TokenKind}
use Rattle.twe_lexer.specs.declared.token.TokenKind.TheVariants as kinds
use Rattle.twe_lexer.specs.Kinds.{number_of_kind, kind_unless, kind_of}
use Rattle.twe_lexer.specs.Lexeme.{is_blank, is_allowed, is_letter, is_word_byte, is_word, is_number, is_long_symbol, IsFirstLexeme, IsUnclosedComment}
use Rattle.twe_lexer.specs.Places.{is_gap}
use Rattle.twe_lexer.specs.Spelling.{spelling, spelled}
use Rattle.twe_lexer.specs.inner.Extents.{Begins}
use Rattle.twe_lexer.proofs.Beginnings.{word_begins, number_begins, symbol_begins, byte_begins}
use Rattle.ast_printer.specs.Text.{bytes_of, gap_after}
use Rattle.twe_parser.specs.declared.limits.Sofar.{Sofar}
use Rattle.twe_parser.specs.Limits.{is_too_large}
use Rattle.ast_printer.proofs.Passing.{Passes}

-- the bytes are a token before these, none of them a comment's
pub record StandsBefore (bytes rest : List ℕ) : Type 0 where
  pub first : IsFirstLexeme bytes (bytes ++ rest) rest
  pub token : is_gap bytes ≡ false
  pub closed : ¬ IsUnclosedComment bytes

-- the word is read as itself
pub record ReadAlone (word : TokenKind) : Type 0 where
  pub stands : (rest : List ℕ) → StandsBefore (bytes_of word) (gap_after word ∷ rest)
  pub again : kind_of (bytes_of word) ≡ word
  pub allowed : list_all is_allowed (bytes_of word) ≡ true

not_not : (b : Bool) → true ≡ not b → b ≡ false
not_not true is = absurd (true≢false is)
not_not false is = refl

from_begins : (bytes rest : List ℕ) → Begins (record { len = length bytes; is_token = true }) (bytes ++ rest) → StandsBefore bytes rest
from_begins bytes rest begins =
    let front : take (length bytes) (bytes ++ rest) ≡ bytes = take_at bytes rest (length bytes) refl in
    let back : drop (length bytes) (bytes ++ rest) ≡ rest = drop_at bytes rest (length bytes) refl in
    record {
      first = subst (λ (its : List ℕ). IsFirstLexeme bytes (bytes ++ rest) its) back (subst (λ (its : List ℕ). IsFirstLexeme its (bytes ++ rest) (drop (length bytes) (bytes ++ rest))) front begins.first);
      token = ap is_gap (sym front) ∙ not_not _ begins.class;
      closed = subst (λ (its : List ℕ). ¬ IsUnclosedComment its) front begins.closed;
    }

run_length : (passes : ℕ → Bool) (bytes : List ℕ) (gap : ℕ) (rest : List ℕ) → list_all passes bytes ≡ true → passes gap ≡ false → length bytes ≡ prefix_len passes (bytes ++ gap ∷ rest)
run_length passes [] gap rest all ends = sym (cond-false (passes gap) _ 0 ends)
run_length passes (first ∷ others) gap rest all ends =
    let parts = and_parts (passes first) (list_all passes others) all in
    let more = run_length passes others gap rest parts.1 ends in
    let counted : length (first ∷ others) ≡ 1 + prefix_len passes (others ++ gap ∷ rest) = omega arith in
    counted ∙ sym (cond-true (passes first) _ 0 parts.0)

word_stands : (bytes : List ℕ) (gap : ℕ) (rest : List ℕ) → is_word bytes ≡ true → is_word_byte gap ≡ false → StandsBefore bytes (gap ∷ rest)
word_stands [] gap rest is ends = absurd (false≢true is)
word_stands (first ∷ others) gap rest is ends =
    let parts = and_parts (is_letter first) (list_all is_word_byte others) is in
    from_begins (first ∷ others) (gap ∷ rest)
    (word_begins (first ∷ (others ++ gap ∷ rest)) (length (first ∷ others)) (omega arith) parts.0
    (run_length is_word_byte (first ∷ others) gap rest (and_from (is_word_byte first) _ (or_left (is_letter first) (is_ascii_digit first) parts.0) parts.1) ends))

number_stands : (bytes : List ℕ) (gap : ℕ) (rest : List ℕ) → is_number bytes ≡ true → is_ascii_digit gap ≡ false → StandsBefore bytes (gap ∷ rest)
number_stands [] gap rest is ends = absurd (false≢true is)
number_stands (first ∷ others) gap rest is ends =
    let parts = and_parts (is_ascii_digit first) (list_all is_ascii_digit others) is in
    from_begins (first ∷ others) (gap ∷ rest) (number_begins (first ∷ (others ++ gap ∷ rest)) (length (first ∷ others)) (omega arith) parts.0 (run_length is_ascii_digit (first ∷ others) gap rest is ends))

pair_stands : (first second : ℕ) (rest : List ℕ) → is_long_symbol (first ∷ second ∷ []) ≡ true → StandsBefore (first ∷ second ∷ []) rest
pair_stands first second rest is = from_begins (first ∷ second ∷ []) rest (symbol_begins (first ∷ second ∷ rest) is)

single_stands : (first gap : ℕ) (rest : List ℕ) → is_blank first ≡ false → is_letter first ≡ false → is_ascii_digit first ≡ false → is_long_symbol (first ∷ gap ∷ []) ≡ false → eqb gap 47 ≡ false → eqb gap 42 ≡ false
    → StandsBefore (first ∷ []) (gap ∷ rest)
single_stands first gap rest blank letter digit symbol slash star =
    from_begins (first ∷ []) (gap ∷ rest)
    (byte_begins (first ∷ gap ∷ rest) true (omega arith) (sym (ap not blank)) letter digit symbol
    (λ later same. let at : gap ≡ 47 = cc in false≢true (sym slash ∙ eq-eqb gap 47 at)) (λ later same. let at : gap ≡ 42 = cc in false≢true (sym star ∙ eq-eqb gap 42 at)))

-- keywords, and symbols of two bytes and of one
keyword : (f : Fixed) → is_word (spelling f) ≡ true → is_word_byte (gap_after (kinds.Fixed f)) ≡ false → kind_of (spelling f) ≡ kinds.Fixed f → list_all is_allowed (spelling f) ≡ true → ReadAlone (kinds.Fixed f)
keyword f is ends again allowed = record { stands = λ rest. word_stands (spelling f) (gap_after (kinds.Fixed f)) rest is ends; again = again; allowed = allowed }

pub fixed_alone : (f : Fixed) → ReadAlone (kinds.Fixed f)
fixed_alone fixed.Region = keyword fixed.Region refl refl refl refl
fixed_alone fixed.Int = keyword fixed.Int refl refl refl refl
fixed_alone fixed.Boolean = keyword fixed.Boolean refl refl refl refl
fixed_alone fixed.Void = keyword fixed.Void refl refl refl refl
fixed_alone fixed.Task = keyword fixed.Task refl refl refl refl
fixed_alone fixed.Deterministic = keyword fixed.Deterministic refl refl refl refl
fixed_alone fixed.Reads = keyword fixed.Reads refl refl refl refl
fixed_alone fixed.Writes = keyword fixed.Writes refl refl refl refl
fixed_alone fixed.Pure = keyword fixed.Pure refl refl refl refl
fixed_alone fixed.Final = keyword fixed.Final refl refl refl refl
fixed_alone fixed.Future = keyword fixed.Future refl refl refl refl
fixed_alone fixed.If = keyword fixed.If refl refl refl refl
fixed_alone fixed.Else = keyword fixed.Else refl refl refl refl
fixed_alone fixed.While = keyword fixed.While refl refl refl refl
fixed_alone fixed.Return = keyword fixed.Return refl refl refl refl
fixed_alone fixed.Print = keyword fixed.Print refl refl refl refl
fixed_alone fixed.True = keyword fixed.True refl refl refl refl
fixed_alone fixed.False = keyword fixed.False refl refl refl refl
fixed_alone fixed.In = keyword fixed.In refl refl refl refl
fixed_alone fixed.Root = keyword fixed.Root refl refl refl refl
fixed_alone fixed.Spawn = keyword fixed.Spawn refl refl refl refl
fixed_alone fixed.ExecuteLater = keyword fixed.ExecuteLater refl refl refl refl
fixed_alone fixed.GetValue = keyword fixed.GetValue refl refl refl refl
fixed_alone fixed.Join = keyword fixed.Join refl refl refl refl
fixed_alone fixed.OpenBrace = record { stands = λ rest. single_stands 123 10 rest refl refl refl refl refl refl; again = refl; allowed = refl }
fixed_alone fixed.CloseBrace = record { stands = λ rest. single_stands 125 10 rest refl refl refl refl refl refl; again = refl; allowed = refl }
fixed_alone fixed.OpenParen = record { stands = λ rest. single_stands 40 32 rest refl refl refl refl refl refl; again = refl; allowed = refl }
fixed_alone fixed.CloseParen = record { stands = λ rest. single_stands 41 32 rest refl refl refl refl refl refl; again = refl; allowed = refl }
fixed_alone fixed.OpenBracket = record { stands = λ rest. single_stands 91 32 rest refl refl refl refl refl refl; again = refl; allowed = refl }
fixed_alone fixed.CloseBracket = record { stands = λ rest. single_stands 93 32 rest refl refl refl refl refl refl; again = refl; allowed = refl }
fixed_alone fixed.Semicolon = record { stands = λ rest. single_stands 59 10 rest refl refl refl refl refl refl; again = refl; allowed = refl }
fixed_alone fixed.Comma = record { stands = λ rest. single_stands 44 32 rest refl refl refl refl refl refl; again = refl; allowed = refl }
fixed_alone fixed.Colon = record { stands = λ rest. single_stands 58 32 rest refl refl refl refl refl refl; again = refl; allowed = refl }
fixed_alone fixed.Dot = record { stands = λ rest. single_stands 46 32 rest refl refl refl refl refl refl; again = refl; allowed = refl }
fixed_alone fixed.Question = record { stands = λ rest. single_stands 63 32 rest refl refl refl refl refl refl; again = refl; allowed = refl }
fixed_alone fixed.Assign = record { stands = λ rest. single_stands 61 32 rest refl refl refl refl refl refl; again = refl; allowed = refl }
fixed_alone fixed.Less = record { stands = λ rest. single_stands 60 32 rest refl refl refl refl refl refl; again = refl; allowed = refl }
fixed_alone fixed.Greater = record { stands = λ rest. single_stands 62 32 rest refl refl refl refl refl refl; again = refl; allowed = refl }
fixed_alone fixed.Plus = record { stands = λ rest. single_stands 43 32 rest refl refl refl refl refl refl; again = refl; allowed = refl }
fixed_alone fixed.Minus = record { stands = λ rest. single_stands 45 32 rest refl refl refl refl refl refl; again = refl; allowed = refl }
fixed_alone fixed.Star = record { stands = λ rest. single_stands 42 32 rest refl refl refl refl refl refl; again = refl; allowed = refl }
fixed_alone fixed.Slash = record { stands = λ rest. single_stands 47 32 rest refl refl refl refl refl refl; again = refl; allowed = refl }
fixed_alone fixed.Percent = record { stands = λ rest. single_stands 37 32 rest refl refl refl refl refl refl; again = refl; allowed = refl }
fixed_alone fixed.Not = record { stands = λ rest. single_stands 33 32 rest refl refl refl refl refl refl; again = refl; allowed = refl }
fixed_alone fixed.Equal = record { stands = λ rest. pair_stands 61 61 (32 ∷ rest) refl; again = refl; allowed = refl }
fixed_alone fixed.NotEqual = record { stands = λ rest. pair_stands 33 61 (32 ∷ rest) refl; again = refl; allowed = refl }
fixed_alone fixed.LessEqual = record { stands = λ rest. pair_stands 60 61 (32 ∷ rest) refl; again = refl; allowed = refl }
fixed_alone fixed.GreaterEqual = record { stands = λ rest. pair_stands 62 61 (32 ∷ rest) refl; again = refl; allowed = refl }
fixed_alone fixed.And = record { stands = λ rest. pair_stands 38 38 (32 ∷ rest) refl; again = refl; allowed = refl }
fixed_alone fixed.Or = record { stands = λ rest. pair_stands 124 124 (32 ∷ rest) refl; again = refl; allowed = refl }

stray_alone : ReadAlone kinds.Stray
stray_alone = record { stands = λ rest. single_stands 35 32 rest refl refl refl refl refl refl; again = refl; allowed = refl }

-- what passes one test passes a weaker one
weaker : (one other : ℕ → Bool) → ((code : ℕ) → one code ≡ true → other code ≡ true) → (bytes : List ℕ) → list_all one bytes ≡ true → list_all other bytes ≡ true
weaker one other each [] all = refl
weaker one other each (first ∷ others) all = let parts = and_parts (one first) (list_all one others) all in and_from (other first) _ (each first parts.0) (weaker one other each others parts.1)

in_print : (low high code : ℕ) → 32 ≤ low → high ≤ 126 → low ≤ code → code ≤ high → is_allowed code ≡ true
in_print low high code above below from to = or_right (is_blank code) _ (and_from _ _ (le-leb 32 code (omega arith)) (le-leb code 126 (omega arith)))

digit_allowed : (code : ℕ) → is_ascii_digit code ≡ true → is_allowed code ≡ true
digit_allowed code is = let parts = and_parts _ _ is in in_print 48 57 code (omega arith) (omega arith) (leb-true 48 code parts.0) (leb-true code 57 parts.1)

word_byte_allowed : (code : ℕ) → is_word_byte code ≡ true → is_allowed code ≡ true
word_byte_allowed code is = elim (or_cases (is_letter code) (is_ascii_digit code) is) [
  | inl letter ↦ elim (or_cases (is_ascii_alphabetic code) (eqb code 95) letter) [
    | inl alphabetic ↦ elim (or_cases _ _ alphabetic) [
      | inl upper ↦ let parts = and_parts _ _ upper in in_print 65 90 code (omega arith) (omega arith) (leb-true 65 code parts.0) (leb-true code 90 parts.1)
      | inr lower ↦ let parts = and_parts _ _ lower in in_print 97 122 code (omega arith) (omega arith) (leb-true 97 code parts.0) (leb-true code 122 parts.1)
    ]
    | inr line ↦ let at : code ≡ 95 = eqb-true code 95 line in in_print 95 95 code (omega arith) (omega arith) (omega arith) (omega arith)
  ]
  | inr digit ↦ digit_allowed code digit
]

word_allowed : (bytes : List ℕ) → is_word bytes ≡ true → list_all is_allowed bytes ≡ true
word_allowed [] is = refl
word_allowed (first ∷ others) is =
    let parts = and_parts (is_letter first) (list_all is_word_byte others) is in
    and_from (is_allowed first) _ (word_byte_allowed first (or_left (is_letter first) (is_ascii_digit first) parts.0)) (weaker is_word_byte is_allowed word_byte_allowed others parts.1)

number_allowed : (bytes : List ℕ) → is_number bytes ≡ true → list_all is_allowed bytes ≡ true
number_allowed [] is = refl
number_allowed (first ∷ others) is =
    let parts = and_parts (is_ascii_digit first) (list_all is_ascii_digit others) is in
    and_from (is_allowed first) _ (digit_allowed first parts.0) (weaker is_ascii_digit is_allowed digit_allowed others parts.1)

-- what is read as a name is a word
no_literal : (test : Bool) (value : ℕ) (other : TokenKind) (text : List ℕ) → (if test then kinds.Literal value else other) ≡ kinds.Name text → other ≡ kinds.Name text
no_literal true value other text same = cc
no_literal false value other text same = same

not_fixed : (found : Option Fixed) (bytes text : List ℕ) → kind_unless found bytes ≡ kinds.Name text → (if is_word bytes then kinds.Name bytes else kinds.Stray) ≡ kinds.Name text
not_fixed (Some f) bytes text same = cc
not_fixed None bytes text same = same

not_stray : (test : Bool) (bytes text : List ℕ) → (if test then kinds.Name bytes else kinds.Stray) ≡ kinds.Name text → test ≡ true
not_stray true bytes text same = refl
not_stray false bytes text same = cc

name_alone : (text : List ℕ) → kind_of text ≡ kinds.Name text → ReadAlone (kinds.Name text)
name_alone text sound =
    let unless : kind_unless (spelled text) text ≡ kinds.Name text = no_literal (is_number text) (min (number_of_kind text) 2147483649) (kind_unless (spelled text) text) text sound in
    let is : is_word text ≡ true = not_stray (is_word text) text text (not_fixed (spelled text) text text unless) in
    record { stands = λ rest. word_stands text 32 rest is refl; again = sound; allowed = word_allowed text is }

-- decimal digits of a number are read as it
fold_append : (one other : List ℕ) (value : ℕ) → fold (λ v digit. v * 10 + (digit - 48)) value (one ++ other) ≡ fold (λ v digit. v * 10 + (digit - 48)) (fold (λ v digit. v * 10 + (digit - 48)) value one) other
fold_append [] other value = refl
fold_append (digit ∷ one) other value = fold_append one other (value * 10 + (digit - 48))

all_snoc : (passes : ℕ → Bool) (bytes : List ℕ) (last : ℕ) → list_all passes bytes ≡ true → passes last ≡ true → list_all passes (bytes ++ last ∷ []) ≡ true
all_snoc passes [] last all is = and_from (passes last) true is refl
all_snoc passes (first ∷ others) last all is = let parts = and_parts (passes first) (list_all passes others) all in and_from (passes first) _ parts.0 (all_snoc passes others last parts.1 is)

number_snoc : (bytes : List ℕ) (last : ℕ) → is_number bytes ≡ true → is_ascii_digit last ≡ true → is_number (bytes ++ last ∷ []) ≡ true
number_snoc [] last is digit = absurd (false≢true is)
number_snoc (first ∷ others) last is digit = let parts = and_parts (is_ascii_digit first) (list_all is_ascii_digit others) is in and_from (is_ascii_digit first) _ parts.0 (all_snoc is_ascii_digit others last parts.1 digit)

digit_is : (n : ℕ) → n < 10 → is_ascii_digit (48 + n) ≡ true
digit_is n small = and_from _ _ (le-leb 48 (48 + n) (omega arith)) (le-leb (48 + n) 57 (omega arith))

record IsDecimal (n : ℕ) (bytes : List ℕ) : Type 0 where
  number : is_number bytes ≡ true
  value : number_of_kind bytes ≡ n

one_digit : (n : ℕ) → n < 10 → IsDecimal n ((48 + n) ∷ [])
one_digit n small = record { number = and_from (is_ascii_digit (48 + n)) true (digit_is n small) refl; value = omega arith }

more_digits : (n : ℕ) (digits : List ℕ) → 10 ≤ n → IsDecimal (n / 10) digits → IsDecimal n (digits ++ (48 + n % 10) ∷ [])
more_digits n digits large front =
    let small : n % 10 < 10 = omega arith in
    let split : number_of_kind (digits ++ (48 + n % 10) ∷ []) ≡ number_of_kind digits * 10 + ((48 + n % 10) - 48) = fold_append digits ((48 + n % 10) ∷ []) 0 in
    let front_is : number_of_kind digits ≡ n / 10 = front.value in
    record { number = number_snoc digits (48 + n % 10) front.number (digit_is (n % 10) small); value = split ∙ ap (λ v. v * 10 + ((48 + n % 10) - 48)) front_is ∙ omega arith }

decimal_is : (n : ℕ) → n < 2 ^ 64 → IsDecimal n (decimal n)
decimal_is n small = decimal_by_steps IsDecimal one_digit more_digits n small

literal_alone : (n : ℕ) → n ≤ 2147483648 → ReadAlone (kinds.Literal n)
literal_alone n small =
    let is = decimal_is n (omega arith) in
    let least : min n 2147483649 ≡ n = omega arith in
    record {
      stands = λ rest. number_stands (decimal n) 32 rest is.number refl;
      again = cond-true (is_number (decimal n)) _ _ is.number ∙ ap (λ v. kinds.Literal (min v 2147483649)) is.value ∙ ap kinds.Literal least;
      allowed = number_allowed (decimal n) is.number;
    }

-- a word that keeps the limits is read as itself
small_literal : (value : ℕ) (sofar : Sofar) → is_too_large sofar (kinds.Literal value) ≡ false → value ≤ 2147483648
small_literal value sofar small = by_test (nat_lt 2147483647 value) (eqb value 2147483648) sofar.unary_minus refl refl small
  where
    by_test : (above same one : Bool) → nat_lt 2147483647 value ≡ above → eqb value 2147483648 ≡ same → (above && not (same && one)) ≡ false → value ≤ 2147483648
    by_test false same one is equal small = let low = ltb-false 2147483647 value is in omega arith
    by_test true true one is equal small = let exact = eqb-true value 2147483648 equal in omega arith
    by_test true false one is equal small = absurd (true≢false small)

pub word_alone : (word : TokenKind) (sofar : Sofar) → Passes sofar word → ReadAlone word
word_alone (kinds.Name text) sofar passes = name_alone text passes.sound
word_alone (kinds.Literal value) sofar passes = literal_alone value (small_literal value sofar passes.small)
word_alone (kinds.Fixed f) sofar passes = fixed_alone f
word_alone kinds.Stray sofar passes = stray_alone
