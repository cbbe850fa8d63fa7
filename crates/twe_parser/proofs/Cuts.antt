-- A text is split into lexemes in one way only.
use Rattle.std.proofs.Common.{◌≡◌, ℕ, ◌+◌, ◌⊎◌, inl, inr, Bool, true, false, not, List, [], ◌∷◌, ◌++◌, length, take, drop, refl, sym, ap, ◌∙◌, subst, cond, zero-add, arith}
use Rattle.std.specs.Prelude.{if◌then◌else◌, count_by}
use Rattle.std.specs.List.{AllByRecursion, suffix_len, prefix_len}
use Rattle.std.proofs.lemmas.Bool.{cond-true, cond-false}
use Rattle.std.proofs.lemmas.List.{append_assoc, append-nil, take_at, drop_at, reverse-append}
use Rattle.std.proofs.lemmas.List.Sums.{sum_by-append}
use Rattle.twe_base.specs.declared.place.Place.{Place}
use Rattle.twe_lexer.specs.declared.token.Token.{Token}
use Rattle.twe_lexer.specs.Kinds.{kind_of}
use Rattle.twe_lexer.specs.Lexeme.{is_line_end, IsLexeme, IsFirstLexeme, one_byte, long_symbol, word, number, line_comment, block_comment, unclosed_comment}
use Rattle.twe_lexer.specs.Places.{place_after, is_gap, Precedes}
use Rattle.twe_lexer.specs.Tokens.{AreFirstLexemes, tokens_from}
use Rattle.twe_parser.specs.inner.Reading.{concat}

pub no_lexeme : ¬ IsLexeme []
no_lexeme lexeme = elim lexeme [
  | one_byte alone ↦ omega arith
  | long_symbol symbol ↦ cc
  | word passes ↦ cc
  | number passes ↦ cc
  | line_comment comment ↦ let is = comment.1 in cc
  | block_comment comment ↦ let is = comment.1 in cc
  | unclosed_comment comment ↦ let is = comment.1 in cc
]

-- a text has at most one first lexeme
pub one_first : (bytes others text rest later : List ℕ) → IsFirstLexeme bytes text rest → IsFirstLexeme others text later → (bytes ≡ others) × (rest ≡ later)
one_first bytes others text rest later first other =
    let at_most = other.longest bytes rest first.lexeme first.split in
    let at_least = first.longest others later other.lexeme other.split in
    let same_len : length others ≡ length bytes = omega arith in
    let split = sym first.split ∙ other.split in (
      sym (take_at bytes rest (length bytes) refl) ∙ ap (take (length bytes)) split ∙ take_at others later (length bytes) same_len,
      sym (drop_at bytes rest (length bytes) refl) ∙ ap (drop (length bytes)) split ∙ drop_at others later (length bytes) same_len,
    )

pub cut_split : (lexemes : List (List ℕ)) (text rest : List ℕ) → AreFirstLexemes lexemes text rest → text ≡ concat lexemes ++ rest
cut_split [] text rest is = is
cut_split (first ∷ others) text rest (later, one, cut) = one.split ∙ ap (λ more. first ++ more) (cut_split others later rest cut) ∙ sym (append_assoc first (concat others) rest)

pub cut_append : (one other : List (List ℕ)) (text middle rest : List ℕ) → AreFirstLexemes one text middle → AreFirstLexemes other middle rest → AreFirstLexemes (one ++ other) text rest
cut_append [] other text middle rest is cut = subst (λ (t : List ℕ). AreFirstLexemes other t rest) (sym is) cut
cut_append (first ∷ others) other text middle rest (later, found, cut) more = (later, found, cut_append others other later middle rest cut more)

-- of two splits of a text one continues where the other ends
pub compare_cuts : (one other : List (List ℕ)) (text rest its : List ℕ) → AreFirstLexemes one text rest → AreFirstLexemes other text its
    → ((more : List (List ℕ)) × (other ≡ one ++ more) × AreFirstLexemes more rest its) ⊎ ((more : List (List ℕ)) × (one ≡ other ++ more) × AreFirstLexemes more its rest)
compare_cuts [] other text rest its is cut = inl (other, refl, subst (λ (t : List ℕ). AreFirstLexemes other t its) is cut)
compare_cuts (first ∷ one) [] text rest its cut is = inr (first ∷ one, refl, subst (λ (t : List ℕ). AreFirstLexemes (first ∷ one) t rest) is cut)
compare_cuts (first ∷ one) (second ∷ other) text rest its (later, found, cut) (after, also, its_cut) =
    let same = one_first first second text later after found also in
    join same.0 (compare_cuts one other later rest its cut (subst (λ (t : List ℕ). AreFirstLexemes other t its) (sym same.1) its_cut))
  where
    join : first ≡ second → ((more : List (List ℕ)) × (other ≡ one ++ more) × AreFirstLexemes more rest its) ⊎ ((more : List (List ℕ)) × (one ≡ other ++ more) × AreFirstLexemes more its rest)
        → ((more : List (List ℕ)) × (second ∷ other ≡ first ∷ (one ++ more)) × AreFirstLexemes more rest its) ⊎ ((more : List (List ℕ)) × (first ∷ one ≡ second ∷ (other ++ more)) × AreFirstLexemes more its rest)
    join same (inl (more, is, found)) = inl (more, (λ i. sym same i ∷ is i), found)
    join same (inr (more, is, found)) = inr (more, (λ i. same i ∷ is i), found)

abbrev step_tokens : Bool → List ℕ → List ℕ → List Token → List Token
step_tokens gap before first more = if gap then more else ((record { kind = kind_of first; place = place_after before }) ∷ more)

append_step : (gap : Bool) (before first : List ℕ) (more others : List Token) → step_tokens gap before first (more ++ others) ≡ step_tokens gap before first more ++ others
append_step true before first more others = refl
append_step false before first more others = refl

pub tokens_from_append : (before : List ℕ) (one other : List (List ℕ)) → tokens_from before (one ++ other) ≡ tokens_from before one ++ tokens_from (before ++ concat one) other
tokens_from_append before [] other = ap (λ at. tokens_from at other) (sym (append-nil before))
tokens_from_append before (first ∷ others) other =
    ap (step_tokens (is_gap first) before first) (tokens_from_append (before ++ first) others other ∙ ap (λ at. tokens_from (before ++ first) others ++ tokens_from at other) (append_assoc before first (concat others)))
    ∙ append_step (is_gap first) before first (tokens_from (before ++ first) others) (tokens_from (before ++ (first ++ concat others)) other)

-- the last token of some lexemes, if there is one, and the lexemes before it
pub data LastToken (before : List ℕ) (lexemes : List (List ℕ)) : Type 0 where
  none : tokens_from before lexemes ≡ [] → LastToken before lexemes
  last : (skipped : List (List ℕ)) (bytes : List ℕ) (gaps : List (List ℕ)) → lexemes ≡ skipped ++ bytes ∷ gaps → is_gap bytes ≡ false
      → tokens_from before lexemes ≡ tokens_from before skipped ++ (record { kind = kind_of bytes; place = place_after (before ++ concat skipped) }) ∷ [] → LastToken before lexemes

add_first : (before first : List ℕ) (others : List (List ℕ)) (gap : Bool) → is_gap first ≡ gap → LastToken (before ++ first) others → LastToken before (first ∷ others)
add_first before first others true gap (none empty) = none (cond-true (is_gap first) _ _ gap ∙ empty)
add_first before first others false gap (none empty) =
    last [] first others refl gap (cond-false (is_gap first) _ _ gap ∙ (λ i. (record { kind = kind_of first; place = place_after (sym (append-nil before) i) }) ∷ empty i))
add_first before first others gap is (last skipped bytes gaps split token same) =
    last (first ∷ skipped) bytes gaps (ap (λ more. first ∷ more) split) token
    (ap (step_tokens (is_gap first) before first) (same ∙ ap (λ at. tokens_from (before ++ first) skipped ++ (record { kind = kind_of bytes; place = place_after at }) ∷ []) (append_assoc before first (concat skipped)))
    ∙ append_step (is_gap first) before first (tokens_from (before ++ first) skipped) ((record { kind = kind_of bytes; place = place_after (before ++ (first ++ concat skipped)) }) ∷ []))

pub last_token : (before : List ℕ) (lexemes : List (List ℕ)) → LastToken before lexemes
last_token before [] = none refl
last_token before (first ∷ others) = add_first before first others (is_gap first) refl (last_token (before ++ first) others)

pub snoc_parts : {X : Type 0} (one other : List X) (x y : X) → one ++ x ∷ [] ≡ other ++ y ∷ [] → (one ≡ other) × (x ≡ y)
snoc_parts [] [] x y same = (refl, cc)
snoc_parts [] (second ∷ []) x y same = cc
snoc_parts [] (second ∷ third ∷ other) x y same = cc
snoc_parts (first ∷ []) [] x y same = cc
snoc_parts (first ∷ second ∷ one) [] x y same = cc
snoc_parts (first ∷ one) (second ∷ other) x y same =
    let rest : one ++ x ∷ [] ≡ other ++ y ∷ [] = cc in
    let head : first ≡ second = cc in
    let more = snoc_parts one other x y rest in ((λ i. head i ∷ more.0 i), more.1)

pub all_at : (P : List ℕ → Type 0) (one : List (List ℕ)) (x : List ℕ) (other : List (List ℕ)) → AllByRecursion P (one ++ x ∷ other) → P x
all_at P [] x other all = all.0
all_at P (first ∷ one) x other all = all_at P one x other all.1

pub all_snoc : (P : List ℕ → Type 0) (one : List (List ℕ)) (x : List ℕ) → AllByRecursion P one → P x → AllByRecursion P (one ++ x ∷ [])
all_snoc P [] x all here = (here, tt)
all_snoc P (first ∷ one) x all here = (all.0, all_snoc P one x all.1 here)

-- places grow with the bytes before them
count_snoc : (passes : ℕ → Bool) (xs : List ℕ) (x : ℕ) → count_by passes (xs ++ x ∷ []) ≡ count_by passes xs + cond (passes x) 1 0
count_snoc passes xs x = sum_by-append (λ y. cond (passes y) 1 0) xs (x ∷ []) ∙ ap (λ n. count_by passes xs + n) (zero-add (cond (passes x) 1 0))

suffix_snoc : (passes : ℕ → Bool) (xs : List ℕ) (x : ℕ) → suffix_len passes (xs ++ x ∷ []) ≡ cond (passes x) (1 + suffix_len passes xs) 0
suffix_snoc passes xs x = ap (prefix_len passes) (reverse-append xs (x ∷ []))

precedes_by : (ends : Bool) (before : List ℕ) (code : ℕ) → is_line_end code ≡ ends → Precedes (place_after before) (place_after (before ++ code ∷ []))
precedes_by true before code is =
    let counted : count_by is_line_end (before ++ code ∷ []) ≡ count_by is_line_end before + 1 = count_snoc is_line_end before code ∙ ap (λ b. count_by is_line_end before + cond b 1 0) is in inl (omega arith)
precedes_by false before code is =
    let counted : count_by is_line_end (before ++ code ∷ []) ≡ count_by is_line_end before + 0 = count_snoc is_line_end before code ∙ ap (λ b. count_by is_line_end before + cond b 1 0) is in
    let stands : suffix_len (λ c. not (is_line_end c)) (before ++ code ∷ []) ≡ 1 + suffix_len (λ c. not (is_line_end c)) before = suffix_snoc (λ c. not (is_line_end c)) before code ∙ ap (λ b. cond (not b) (1 + suffix_len (λ c. not (is_line_end c)) before) 0) is in
    inr (omega arith, omega arith)

next_place : (before : List ℕ) (code : ℕ) → Precedes (place_after before) (place_after (before ++ code ∷ []))
next_place before code = precedes_by (is_line_end code) before code refl

later_place : (one other third : Place) → Precedes one other → Precedes other third → Precedes one third
later_place one other third (inl p) (inl q) = inl (omega arith)
later_place one other third (inl p) (inr (same, q)) = inl (omega arith)
later_place one other third (inr (same, p)) (inl q) = inl (omega arith)
later_place one other third (inr (same, p)) (inr (also, q)) = inr (same ∙ also, omega arith)

pub precedes : (before : List ℕ) (code : ℕ) (front : List ℕ) → Precedes (place_after before) (place_after (before ++ code ∷ front))
precedes before code [] = next_place before code
precedes before code (next ∷ front) =
    later_place (place_after before) (place_after (before ++ code ∷ [])) (place_after (before ++ code ∷ next ∷ front)) (next_place before code)
    (subst (λ (at : List ℕ). Precedes (place_after (before ++ code ∷ [])) (place_after at)) (append_assoc before (code ∷ []) (next ∷ front)) (precedes (before ++ code ∷ []) next front))
