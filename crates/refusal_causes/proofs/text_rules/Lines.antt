-- What stands behind a place of a text.
use Rattle.std.proofs.Common.{◌≡◌, ℕ, ◌+◌, ◌-◌, Bool, true, false, not, List, [], ◌∷◌, ◌++◌, suc, drop, refl, sym, ap, ◌∙◌, subst, cond, zero-add, arith}
use Rattle.std.specs.Prelude.{count_by}
use Rattle.std.specs.List.{suffix_len, prefix_len}
use Rattle.std.proofs.lemmas.Bool.{cond-true, cond-false}
use Rattle.std.proofs.lemmas.List.{append_assoc, append-nil, reverse-append, drop-drop}
use Rattle.std.proofs.lemmas.List.Sums.{sum_by-append}
use Rattle.twe_base.specs.declared.place.Place.{Place}
use Rattle.twe_lexer.specs.Lexeme.{is_line_end}
use Rattle.twe_lexer.specs.Places.{place_after}
use Rattle.twe_frontend.specs.Lines.{after_line, after_lines, line_length}
use Rattle.refusal_causes.specs.text_rules.Behind.{from_place}

-- a byte that ends no line
abbrev stays : ℕ → Bool
stays code = not (is_line_end code)

-- how many lines end in these bytes, and how many bytes come after the last end
abbrev lines_in : List ℕ → ℕ
lines_in before = count_by is_line_end before

abbrev column_of : List ℕ → ℕ
column_of before = suffix_len stays before

count_snoc : (passes : ℕ → Bool) (xs : List ℕ) (x : ℕ) → count_by passes (xs ++ x ∷ []) ≡ count_by passes xs + cond (passes x) 1 0
count_snoc passes xs x = sum_by-append (λ y. cond (passes y) 1 0) xs (x ∷ []) ∙ ap (λ n. count_by passes xs + n) (zero-add (cond (passes x) 1 0))

suffix_snoc : (passes : ℕ → Bool) (xs : List ℕ) (x : ℕ) → suffix_len passes (xs ++ x ∷ []) ≡ cond (passes x) (1 + suffix_len passes xs) 0
suffix_snoc passes xs x = ap (prefix_len passes) (reverse-append xs (x ∷ []))

-- the line after these bytes begins as many bytes before their end as they have columns, and none of those ends a line
abbrev Reaches : List ℕ → List ℕ → Type 0
Reaches before rest =
    (drop (column_of before) (after_lines (lines_in before) (before ++ rest)) ≡ rest)
    × (line_length (after_lines (lines_in before) (before ++ rest)) ≡ column_of before + line_length rest)

ends_line : (before : List ℕ) (code : ℕ) (rest : List ℕ) → is_line_end code ≡ true → Reaches before (code ∷ rest) → Reaches (before ++ code ∷ []) rest
ends_line before code rest is (reaches, free) =
    let line : List ℕ = after_lines (lines_in before) (before ++ code ∷ rest) in
    let lines : lines_in (before ++ code ∷ []) ≡ suc (lines_in before) =
    count_snoc is_line_end before code ∙ ap (λ (b : Bool). lines_in before + cond b 1 0) is ∙ omega arith in
    let columns : column_of (before ++ code ∷ []) ≡ 0 =
    suffix_snoc stays before code ∙ ap (λ (b : Bool). cond (not b) (1 + column_of before) 0) is in
    let none : line_length (code ∷ rest) ≡ 0 = cond-true (is_line_end code) 0 (suc (line_length rest)) is in
    let long : line_length line ≡ column_of before = free ∙ ap (λ (n : ℕ). column_of before + n) none ∙ omega arith in
    let next : after_line line ≡ rest = ap (λ (n : ℕ). drop 1 (drop n line)) long ∙ ap (drop 1) reaches in
    let whole : after_lines (lines_in (before ++ code ∷ [])) ((before ++ code ∷ []) ++ rest) ≡ rest =
    ap (λ (n : ℕ). after_lines n ((before ++ code ∷ []) ++ rest)) lines
    ∙ ap (λ (t : List ℕ). after_line (after_lines (lines_in before) t)) (append_assoc before (code ∷ []) rest) ∙ next in (
      ap (λ (n : ℕ). drop n (after_lines (lines_in (before ++ code ∷ [])) ((before ++ code ∷ []) ++ rest))) columns ∙ whole,
      ap line_length whole ∙ sym (ap (λ (n : ℕ). n + line_length rest) columns ∙ zero-add (line_length rest)),
    )

goes_on : (before : List ℕ) (code : ℕ) (rest : List ℕ) → is_line_end code ≡ false → Reaches before (code ∷ rest) → Reaches (before ++ code ∷ []) rest
goes_on before code rest is (reaches, free) =
    let line : List ℕ = after_lines (lines_in before) (before ++ code ∷ rest) in
    let lines : lines_in (before ++ code ∷ []) ≡ lines_in before =
    count_snoc is_line_end before code ∙ ap (λ (b : Bool). lines_in before + cond b 1 0) is ∙ omega arith in
    let columns : column_of (before ++ code ∷ []) ≡ 1 + column_of before =
    suffix_snoc stays before code ∙ ap (λ (b : Bool). cond (not b) (1 + column_of before) 0) is in
    let more : line_length (code ∷ rest) ≡ suc (line_length rest) = cond-false (is_line_end code) 0 (suc (line_length rest)) is in
    let same : after_lines (lines_in (before ++ code ∷ [])) ((before ++ code ∷ []) ++ rest) ≡ line =
    ap (λ (n : ℕ). after_lines n ((before ++ code ∷ []) ++ rest)) lines
    ∙ ap (λ (t : List ℕ). after_lines (lines_in before) t) (append_assoc before (code ∷ []) rest) in
    let turned : 1 + column_of before ≡ column_of before + 1 = omega arith in
    let front : drop (1 + column_of before) line ≡ rest =
    ap (λ (n : ℕ). drop n line) turned ∙ sym (drop-drop 1 (column_of before) line) ∙ ap (drop 1) reaches in (
      ap (λ (n : ℕ). drop n (after_lines (lines_in (before ++ code ∷ [])) ((before ++ code ∷ []) ++ rest))) columns
          ∙ ap (drop (1 + column_of before)) same ∙ front,
      ap line_length same ∙ free ∙ ap (λ (n : ℕ). column_of before + n) more ∙ omega (arith, columns),
    )

one_more : (ends : Bool) (before : List ℕ) (code : ℕ) (rest : List ℕ) → is_line_end code ≡ ends → Reaches before (code ∷ rest) → Reaches (before ++ code ∷ []) rest
one_more true before code rest is reaches = ends_line before code rest is reaches
one_more false before code rest is reaches = goes_on before code rest is reaches

all_reached : (before front : List ℕ) → ((rest : List ℕ) → Reaches before rest) → (rest : List ℕ) → Reaches (before ++ front) rest
all_reached before [] reaches rest = subst (λ (t : List ℕ). Reaches t rest) (sym (append-nil before)) (reaches rest)
all_reached before (code ∷ front) reaches rest =
    subst (λ (t : List ℕ). Reaches t rest) (append_assoc before (code ∷ []) front)
    (all_reached (before ++ code ∷ []) front (λ more. one_more (is_line_end code) before code more refl (reaches (code ∷ more))) rest)

reached : (before rest : List ℕ) → Reaches before rest
reached before rest = all_reached [] before (λ more. (refl, sym (zero-add (line_length more)))) rest

-- what stands behind the place after these bytes
pub behind : (before rest : List ℕ) → from_place (before ++ rest) (place_after before) ≡ rest
behind before rest =
    let column : (1 + column_of before) - 1 ≡ column_of before = omega arith in
    let lines : (1 + lines_in before) - 1 ≡ lines_in before = omega arith in
    ap (λ (n : ℕ). drop n (after_lines ((1 + lines_in before) - 1) (before ++ rest))) column
    ∙ ap (λ (n : ℕ). drop (column_of before) (after_lines n (before ++ rest))) lines ∙ (reached before rest).0

pub stands_behind : (text : List ℕ) (place : Place) (before rest : List ℕ) → text ≡ before ++ rest → place ≡ place_after before → from_place text place ≡ rest
stands_behind text place before rest split at = (λ i. from_place (split i) (at i)) ∙ behind before rest
