-- The first failure of a text of which a part has been read without a failure.
use Rattle.std.proofs.Common.{◌≡◌, ℕ, ◌<◌, ◌≤◌, inl, inr, ⊎_elim, Bool, true, false, List, [], ◌∷◌, ◌++◌, zero, suc, length, get_or, take, drop, refl, sym, ap, ◌∙◌, subst, arith}
use Rattle.std.specs.List.{AllByRecursion, list_all, list_any}
use Rattle.std.specs.Char.{is_ascii_digit}
use Rattle.std.proofs.Math.ListN.{get_or-append}
use Rattle.std.specs.Str.{bytes_eq}
use Rattle.std.proofs.lemmas.Bool.{false≢true, and_parts, and_from, or_cases}
use Rattle.std.proofs.lemmas.Bool.Decides.{nat_tests}
use Rattle.std.proofs.lemmas.List.{append_assoc, append-nil, length-append, take-append-drop, take-append-le}
use Rattle.std.proofs.lemmas.List.Folds.{list_all_at}
use Rattle.std.proofs.lemmas.Slice.Eq.{bytes_eq-Decides}
use Rattle.twe_base.specs.declared.place.Place.{Place}
use Rattle.twe_lexer.specs.declared.token.Token.{Token}
use Rattle.twe_lexer.specs.Front.{StopsAt}
use Rattle.twe_lexer.specs.Lexeme.{is_allowed, is_letter, is_word_byte, is_word, is_number, long_symbols, IsLexeme, one_byte, long_symbol, word, number, line_comment, block_comment, unclosed_comment, IsFirstLexeme, IsUnclosedComment}
use Rattle.twe_lexer.specs.Places.{place_after, is_gap, Precedes}
use Rattle.twe_lexer.specs.Tokens.{tokens_from}
use Rattle.twe_parser.specs.declared.fail.SRule.{SRule}
use Rattle.twe_parser.specs.declared.fail.SRule.TheVariants.{S1, S2, S3, S4, S5, S6}
use Rattle.twe_parser.specs.Fails.{rule_rank, ComesFirst}
use Rattle.twe_parser.specs.inner.Reading.{concat}
use Rattle.twe_parser.proofs.Cuts.{no_lexeme, one_first, cut_split, precedes}
use Rattle.twe_parser.proofs.Located.{FailsToken, token_of, Located, at_byte, at_token, at_end, at_comment, not_inside, first_unclosed}

-- at least one byte
later : (before front : List ℕ) → 0 < length front → Precedes (place_after before) (place_after (before ++ front))
later before [] some = absurd (omega arith)
later before (code ∷ front) some = precedes before code front

pub lexeme_some : (bytes text rest : List ℕ) → IsFirstLexeme bytes text rest → 0 < length bytes
lexeme_some [] text rest first = absurd (no_lexeme first.lexeme)
lexeme_some (code ∷ bytes) text rest first = omega arith

some_before : (front rest : List ℕ) → 0 < length front → 0 < length (front ++ rest)
some_before front rest some = let both = length-append front rest in omega arith

split_off : (n : ℕ) (front : List ℕ) → n < length front → (code : ℕ) × (more : List ℕ) × (front ≡ take n front ++ code ∷ more)
split_off n [] short = absurd (omega arith)
split_off zero (code ∷ front) short = (code, front, refl)
split_off (suc n) (first ∷ front) short = let found = split_off n front (omega arith) in (found.0, found.1, ap (λ more. first ∷ more) found.2)

-- a place within some bytes comes before the place after them
inside : (before : List ℕ) (n : ℕ) (front tail rest : List ℕ) → n < length front → rest ≡ front ++ tail → Precedes (place_after (before ++ take n rest)) (place_after (before ++ front))
inside before n front tail rest short is =
    let cut : take n rest ≡ take n front = ap (take n) is ∙ take-append-le n front tail (omega arith) in
    let found = split_off n front short in
    let whole : (before ++ take n front) ++ found.0 ∷ found.1 ≡ before ++ front = append_assoc before (take n front) (found.0 ∷ found.1) ∙ ap (λ more. before ++ more) (sym found.2) in
    subst (λ (at : List ℕ). Precedes (place_after (before ++ take n rest)) (place_after at)) whole
    (subst (λ (start : List ℕ). Precedes (place_after (before ++ start)) (place_after ((before ++ take n front) ++ found.0 ∷ found.1))) (sym cut) (precedes (before ++ take n front) found.0 found.1))

-- a token has only bytes that are allowed, unless it is a single byte
word_byte_allowed : (byte : ℕ) → is_word_byte byte ≡ true → is_allowed byte ≡ true
word_byte_allowed byte is = grind (arith, nat_tests)

letter_allowed : (byte : ℕ) → is_letter byte ≡ true → is_allowed byte ≡ true
letter_allowed byte is = grind (arith, nat_tests)

digit_allowed : (byte : ℕ) → is_ascii_digit byte ≡ true → is_allowed byte ≡ true
digit_allowed byte is = grind (arith, nat_tests)

all_of : (passes : ℕ → Bool) → ((byte : ℕ) → passes byte ≡ true → is_allowed byte ≡ true) → (bytes : List ℕ) → list_all passes bytes ≡ true → list_all is_allowed bytes ≡ true
all_of passes each [] all = refl
all_of passes each (first ∷ bytes) all =
    let parts = and_parts (passes first) (list_all passes bytes) all in and_from (is_allowed first) (list_all is_allowed bytes) (each first parts.0) (all_of passes each bytes parts.1)

word_allowed : (bytes : List ℕ) → is_word bytes ≡ true → list_all is_allowed bytes ≡ true
word_allowed [] is = absurd (false≢true is)
word_allowed (first ∷ bytes) is =
    let parts = and_parts (is_letter first) (list_all is_word_byte bytes) is in and_from (is_allowed first) (list_all is_allowed bytes) (letter_allowed first parts.0) (all_of is_word_byte word_byte_allowed bytes parts.1)

number_allowed : (bytes : List ℕ) → is_number bytes ≡ true → list_all is_allowed bytes ≡ true
number_allowed [] is = absurd (false≢true is)
number_allowed (first ∷ bytes) is =
    let parts = and_parts (is_ascii_digit first) (list_all is_ascii_digit bytes) is in and_from (is_allowed first) (list_all is_allowed bytes) (digit_allowed first parts.0) (all_of is_ascii_digit digit_allowed bytes parts.1)

among : (texts : List (List ℕ)) (bytes : List ℕ) → AllByRecursion (λ text. list_all is_allowed text ≡ true) texts → list_any (bytes_eq bytes) texts ≡ true → list_all is_allowed bytes ≡ true
among [] bytes each any = absurd (false≢true any)
among (text ∷ texts) bytes each any =
    ⊎_elim (λ same. subst (λ (t : List ℕ). list_all is_allowed t ≡ true) (sym ((bytes_eq-Decides bytes text).0 same)) each.0) (λ others. among texts bytes each.1 others) (or_cases (bytes_eq bytes text) (list_any (bytes_eq bytes) texts) any)

allowed_no_bad : (bytes : List ℕ) (n : ℕ) → list_all is_allowed bytes ≡ true → n < length bytes → is_allowed (get_or bytes n 0) ≡ false → ⊥
allowed_no_bad bytes n all within bad = false≢true (sym (list_all_at is_allowed bytes n 0 within bad) ∙ all)

bad_is_first : (bytes : List ℕ) (n : ℕ) → IsLexeme bytes → is_gap bytes ≡ false → n < length bytes → is_allowed (get_or bytes n 0) ≡ false → n ≡ 0
bad_is_first bytes n lexeme token within bad = elim lexeme [
  | one_byte alone ↦ omega arith
  | long_symbol symbol ↦ absurd (allowed_no_bad bytes n (among long_symbols bytes (refl, (refl, (refl, (refl, (refl, (refl, tt)))))) symbol) within bad)
  | word passes ↦ absurd (allowed_no_bad bytes n (word_allowed bytes passes) within bad)
  | number passes ↦ absurd (allowed_no_bad bytes n (number_allowed bytes passes) within bad)
  | line_comment comment ↦ absurd (false≢true (sym token ∙ ap is_gap comment.1))
  | block_comment comment ↦ absurd (false≢true (sym token ∙ ap is_gap comment.1))
  | unclosed_comment comment ↦ absurd (false≢true (sym token ∙ ap is_gap comment.1))
]

rank_positive : (rule : SRule) → 1 ≤ rule_rank rule
rank_positive S1 = omega arith
rank_positive S2 = omega arith
rank_positive S3 = omega arith
rank_positive S4 = omega arith
rank_positive S5 = omega arith
rank_positive S6 = omega arith

here_again : (before : List ℕ) → place_after before ≡ place_after (before ++ [])
here_again before = ap place_after (sym (append-nil before))

module _ (text rest : List ℕ) (lexemes : List (List ℕ)) (split : text ≡ concat lexemes ++ rest) where
  before_end : 0 < length rest → Precedes (place_after (concat lexemes)) (place_after text)
  before_end some = subst (λ (all : List ℕ). Precedes (place_after (concat lexemes)) (place_after all)) (sym split) (later (concat lexemes) rest some)

  -- a comment without an end at the front of the rest
  pub comment_first : IsUnclosedComment rest → (other : SRule) (its : Place) → Located text rest lexemes other its → ComesFirst S6 (place_after (concat lexemes)) other its
  comment_first comment other its (at_byte [] after code is bad) =
      let head = comment.1 in let same : code ≡ 47 = cc in absurd (false≢true (sym bad ∙ ap is_allowed same))
  comment_first comment other its (at_byte (first ∷ front) after code is bad) = inl (precedes (concat lexemes) first front)
  comment_first comment other its (at_token rule [] bytes middle beyond is first token fails) =
      let found = first_unclosed bytes rest beyond (subst (λ (t : List ℕ). IsFirstLexeme bytes t beyond) (sym is) first) comment in absurd (false≢true (sym token ∙ ap is_gap found.1))
  comment_first comment other its (at_token rule (one ∷ skipped) bytes middle beyond (after, found, cut) first token fails) = inl (later (concat lexemes) (one ++ concat skipped) (some_before one (concat skipped) (lexeme_some one rest after found)))
  comment_first comment other its (at_end more cut not) = inl (before_end (let head = ap length comment.1 in omega arith))
  comment_first comment other its (at_comment [] start is also) = inr (here_again (concat lexemes), omega arith)
  comment_first comment other its (at_comment (one ∷ skipped) start (after, found, cut) also) = inl (later (concat lexemes) (one ++ concat skipped) (some_before one (concat skipped) (lexeme_some one rest after found)))

  -- a token at the front of the rest, at which no rule of a lower number fails
  pub token_first : (bytes beyond : List ℕ) → IsFirstLexeme bytes rest beyond → is_gap bytes ≡ false → list_all is_allowed bytes ≡ true → ¬ IsUnclosedComment bytes → (rule : SRule)
      → ((other : SRule) → FailsToken other (tokens_from [] lexemes) (token_of (concat lexemes) bytes) → rule_rank rule ≤ rule_rank other)
      → (other : SRule) (its : Place) → Located text rest lexemes other its → ComesFirst rule (place_after (concat lexemes)) other its
  token_first bytes beyond first token allowed closed rule lowest other its (at_byte front after code is bad) =
      let found = not_inside bytes beyond front after code allowed (sym first.split ∙ is) bad in
      inl (later (concat lexemes) front (subst (λ (f : List ℕ). 0 < length f) (sym found.1) (some_before bytes found.0 (lexeme_some bytes rest beyond first))))
  token_first bytes beyond first token allowed closed rule lowest other its (at_token its_rule [] its_bytes middle after is its_first its_token fails) =
      let same = (one_first its_bytes bytes rest after beyond (subst (λ (t : List ℕ). IsFirstLexeme its_bytes t after) (sym is) its_first) first).0 in
      let fails_here : FailsToken its_rule (tokens_from [] lexemes) (token_of (concat lexemes) bytes) =
      subst (λ (b : List ℕ). FailsToken its_rule (tokens_from [] lexemes) (token_of (concat lexemes) b)) same
      (subst (λ (at : List ℕ). FailsToken its_rule (tokens_from [] lexemes) (token_of at its_bytes)) (append-nil (concat lexemes))
      (subst (λ (all : List Token). FailsToken its_rule all (token_of (concat lexemes ++ []) its_bytes)) (append-nil (tokens_from [] lexemes)) fails)) in
      inr (here_again (concat lexemes), lowest its_rule fails_here)
  token_first bytes beyond first token allowed closed rule lowest other its (at_token its_rule (one ∷ skipped) its_bytes middle after (start, found, cut) its_first its_token fails) =
      inl (later (concat lexemes) (one ++ concat skipped) (some_before one (concat skipped) (lexeme_some one rest start found)))
  token_first bytes beyond first token allowed closed rule lowest other its (at_end more cut not) =
      inl (before_end (subst (λ (r : List ℕ). 0 < length r) (sym first.split) (some_before bytes beyond (lexeme_some bytes rest beyond first))))
  token_first bytes beyond first token allowed closed rule lowest other its (at_comment [] start is comment) =
      absurd (closed (first_unclosed bytes rest beyond first (subst IsUnclosedComment (sym is) comment)))
  token_first bytes beyond first token allowed closed rule lowest other its (at_comment (one ∷ skipped) start (after, found, cut) comment) =
      inl (later (concat lexemes) (one ++ concat skipped) (some_before one (concat skipped) (lexeme_some one rest after found)))

  -- a byte in the first lexeme of the rest that is not allowed
  pub byte_first : (n : ℕ) → StopsAt n rest → (other : SRule) (its : Place) → Located text rest lexemes other its → ComesFirst S1 (place_after (concat lexemes ++ take n rest)) other its
  byte_first n stops other its (at_byte front after code is bad) =
      by_more (not_inside (take n rest) (drop n rest) front after code stops.before (take-append-drop n rest ∙ is) bad)
    where
      by_more : (more : List ℕ) × (front ≡ take n rest ++ more) × (drop n rest ≡ more ++ code ∷ after) → ComesFirst S1 (place_after (concat lexemes ++ take n rest)) S1 (place_after (concat lexemes ++ front))
      by_more ([], same, left) = inr (ap (λ f. place_after (concat lexemes ++ f)) (sym (same ∙ append-nil (take n rest))), omega arith)
      by_more (first ∷ more, same, left) =
          inl (subst (λ (at : List ℕ). Precedes (place_after (concat lexemes ++ take n rest)) (place_after at)) (append_assoc (concat lexemes) (take n rest) (first ∷ more) ∙ ap (λ f. concat lexemes ++ f) (sym same)) (precedes (concat lexemes ++ take n rest) first more))
  byte_first n stops other its (at_token its_rule [] its_bytes middle after is its_first its_token fails) =
      let same = (one_first its_bytes stops.bytes rest after stops.rest (subst (λ (t : List ℕ). IsFirstLexeme its_bytes t after) (sym is) its_first) stops.first).0 in
      let token : is_gap stops.bytes ≡ false = ap is_gap (sym same) ∙ its_token in
      let bad : is_allowed (get_or stops.bytes n 0) ≡ false = ap is_allowed (sym (ap (λ t. get_or t n 0) stops.first.split ∙ get_or-append stops.bytes stops.rest 0 n stops.within)) ∙ stops.here in
      let at_front = bad_is_first stops.bytes n stops.first.lexeme token stops.within bad in
      inr (ap (λ k. place_after (concat lexemes ++ take k rest)) at_front, rank_positive its_rule)
  byte_first n stops other its (at_token its_rule (one ∷ skipped) its_bytes middle after (start, found, cut) its_first its_token fails) =
      inl (inside (concat lexemes) n (one ++ concat skipped) middle rest (long_enough one skipped start found) (cut_split (one ∷ skipped) rest middle (start, found, cut)))
    where
      long_enough : (one : List ℕ) (skipped : List (List ℕ)) (start : List ℕ) → IsFirstLexeme one rest start → n < length (one ++ concat skipped)
      long_enough one skipped start found =
          let same = ap length (one_first one stops.bytes rest start stops.rest found stops.first).0 in let both = length-append one (concat skipped) in let within = stops.within in omega arith
  byte_first n stops other its (at_end more cut not) =
      let both = ap length stops.first.split ∙ length-append stops.bytes stops.rest in
      let within = stops.within in
      inl (subst (λ (all : List ℕ). Precedes (place_after (concat lexemes ++ take n rest)) (place_after all)) (sym split) (inside (concat lexemes) n rest [] rest (omega arith) (sym (append-nil rest))))
  byte_first n stops other its (at_comment [] start is comment) = absurd (stops.closed (first_unclosed stops.bytes rest stops.rest stops.first (subst IsUnclosedComment (sym is) comment)))
  byte_first n stops other its (at_comment (one ∷ skipped) start (after, found, cut) comment) =
      inl (inside (concat lexemes) n (one ++ concat skipped) start rest (long_enough one skipped after found) (cut_split (one ∷ skipped) rest start (after, found, cut)))
    where
      long_enough : (one : List ℕ) (skipped : List (List ℕ)) (start : List ℕ) → IsFirstLexeme one rest start → n < length (one ++ concat skipped)
      long_enough one skipped start found =
          let same = ap length (one_first one stops.bytes rest start stops.rest found stops.first).0 in let both = length-append one (concat skipped) in let within = stops.within in omega arith
