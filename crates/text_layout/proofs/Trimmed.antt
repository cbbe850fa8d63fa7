-- A comment without the blanks at its end.
use Rattle.std.proofs.Common.{◌≡◌, ℕ, ◌+◌, ◌-◌, ◌≤◌, Bool, true, false, cond, not, List, [], ◌∷◌, ◌++◌, length, take, refl, sym, ap, ◌∙◌, subst, append_assoc, append-nil, arith}
use Rattle.std.specs.List.{list_all, suffix_len, prefix_len}
use Rattle.std.proofs.lemmas.Bool.{and_parts, and_from, cond-true, cond-false}
use Rattle.std.proofs.lemmas.List.{length-append, take-append-le, reverse-append}
use Rattle.std.proofs.Math.Seq.{take-length}
use Rattle.twe_lexer.specs.Lexeme.{is_blank, is_line_end}
use Rattle.text_pieces.specs.Pieces.{without_last_blanks}

suffix_snoc : (xs : List ℕ) (x : ℕ) → suffix_len is_blank (xs ++ x ∷ []) ≡ cond (is_blank x) (1 + suffix_len is_blank xs) 0
suffix_snoc xs x = ap (prefix_len is_blank) (reverse-append xs (x ∷ []))

-- a blank at the end is left out
trim_blank : (xs : List ℕ) (x : ℕ) → is_blank x ≡ true → without_last_blanks (xs ++ x ∷ []) ≡ without_last_blanks xs
trim_blank xs x blank =
    let long : length (xs ++ x ∷ []) ≡ length xs + 1 = length-append xs (x ∷ []) in
    let blanks : suffix_len is_blank (xs ++ x ∷ []) ≡ 1 + suffix_len is_blank xs = suffix_snoc xs x ∙ cond-true (is_blank x) _ _ blank in
    let count : length (xs ++ x ∷ []) - suffix_len is_blank (xs ++ x ∷ []) ≡ length xs - suffix_len is_blank xs = omega arith in
    let within : length xs - suffix_len is_blank xs ≤ length xs = omega arith in
    ap (λ n. take n (xs ++ x ∷ [])) count ∙ take-append-le (length xs - suffix_len is_blank xs) xs (x ∷ []) within

-- any other byte at the end stays
trim_other : (xs : List ℕ) (x : ℕ) → is_blank x ≡ false → without_last_blanks (xs ++ x ∷ []) ≡ xs ++ x ∷ []
trim_other xs x other =
    let blanks : suffix_len is_blank (xs ++ x ∷ []) ≡ 0 = suffix_snoc xs x ∙ cond-false (is_blank x) _ _ other in
    let count : length (xs ++ x ∷ []) - suffix_len is_blank (xs ++ x ∷ []) ≡ length (xs ++ x ∷ []) = omega arith in
    ap (λ n. take n (xs ++ x ∷ [])) count ∙ take-length (xs ++ x ∷ [])

abbrev pub ends_no_line : ℕ → Bool
ends_no_line code = not (is_line_end code)

all_front : (one other : List ℕ) → list_all ends_no_line (one ++ other) ≡ true → list_all ends_no_line one ≡ true
all_front [] other all = refl
all_front (code ∷ one) other all =
    let parts = and_parts (ends_no_line code) (list_all ends_no_line (one ++ other)) all in
    and_from (ends_no_line code) (list_all ends_no_line one) parts.0 (all_front one other parts.1)

-- what is left of a comment to the end of its line
pub record Left (body : List ℕ) : Type 0 where
  pub kept : List ℕ
  pub same : without_last_blanks (47 ∷ 47 ∷ body) ≡ 47 ∷ 47 ∷ kept
  pub again : without_last_blanks (47 ∷ 47 ∷ kept) ≡ 47 ∷ 47 ∷ kept
  pub one_line : list_all ends_no_line body ≡ true → list_all ends_no_line kept ≡ true

left_more : (body : List ℕ) (x : ℕ) (blank : Bool) → is_blank x ≡ blank → Left body → Left (body ++ x ∷ [])
left_more body x true is left = record {
  kept = left.kept;
  same = trim_blank (47 ∷ 47 ∷ body) x is ∙ left.same;
  again = left.again;
  one_line = λ all. left.one_line (all_front body (x ∷ []) all);
}
left_more body x false is left = record {
  kept = body ++ x ∷ [];
  same = trim_other (47 ∷ 47 ∷ body) x is;
  again = trim_other (47 ∷ 47 ∷ body) x is;
  one_line = λ all. all;
}

left_after : (front body : List ℕ) → Left front → Left (front ++ body)
left_after front [] left = subst Left (sym (append-nil front)) left
left_after front (x ∷ body) left =
    subst Left (append_assoc front (x ∷ []) body) (left_after (front ++ x ∷ []) body (left_more front x (is_blank x) refl left))

pub what_is_left : (body : List ℕ) → Left body
what_is_left body = left_after [] body (record { kept = []; same = refl; again = refl; one_line = λ all. refl })
