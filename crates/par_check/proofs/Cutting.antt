-- The programs of a batch, one after another.
use Rattle.std.proofs.Common.{◌≡◌, ◌<◌, ◌≤◌, ◌+◌, ◌++◌, ℕ, Bool, true, false, List, [], ◌∷◌, length, inl, inr, refl, sym, ap, ◌∙◌, arith, append_assoc, drop}
use Rattle.std.specs.List.{list_any}
use Rattle.std.proofs.lemmas.List.{length-append}
use Rattle.std.proofs.lemmas.Bool.{false≢true, cases_Bool, or_parts, or_cases}
use Rattle.seg_journal.specs.Lines.{lines_of}
use Rattle.seg_journal.proofs.FirstLines.{joined-lines_of}
use Rattle.text_answers.specs.Input.{is_mark, before_mark, after_mark, joined, program_part, journal_part}
use Rattle.text_answers.specs.inner.FirstLine.{line_length}
use Rattle.text_answers.proofs.Cuts.{first_of_lines}
use Rattle.par_check.specs.Batch.{programs_in, programs_of, with_line}

-- lines without a mark are one program
one-program : (lines : List (List ℕ)) → list_any is_mark lines ≡ false → programs_in lines ≡ joined lines ∷ []
one-program [] h = refl
one-program (line ∷ lines) h =
    let parts = or_parts (is_mark line) (list_any is_mark lines) h in
    rw parts.0 (ap (with_line line) (one-program lines parts.1))

-- lines with one have a program before it
first-program : (lines : List (List ℕ)) → list_any is_mark lines ≡ true → programs_in lines ≡ joined (before_mark lines) ∷ programs_in (after_mark lines)
first-program [] h = absurd (false≢true h)
first-program (line ∷ lines) h = elim (cases_Bool (is_mark line)) [
  | inl mark ↦ rw mark refl
  | inr none ↦ elim (or_cases (is_mark line) (list_any is_mark lines) h) [
    | inl mark ↦ absurd (false≢true (sym none ∙ mark))
    | inr later ↦ rw none (ap (with_line line) (first-program lines later))
  ]
]

-- a mark is not empty
mark-long : (line : List ℕ) → is_mark line ≡ true → 0 < length line
mark-long [] h = absurd (false≢true h)
mark-long (byte ∷ line) h = omega arith

shorter : (lines : List (List ℕ)) → list_any is_mark lines ≡ true → length (joined (before_mark lines)) + length (joined (after_mark lines)) < length (joined lines)
shorter [] h = absurd (false≢true h)
shorter (line ∷ lines) h = elim (cases_Bool (is_mark line)) [
  | inl mark ↦ rw mark (omega (arith, mark-long line mark, length-append line (joined lines)))
  | inr none ↦ elim (or_cases (is_mark line) (list_any is_mark lines) h) [
    | inl mark ↦ absurd (false≢true (sym none ∙ mark))
    | inr later ↦ rw none (omega (arith, shorter lines later, length-append line (joined lines), length-append line (joined (before_mark lines))))
  ]
]

-- the lines after a mark are those of the text that they make
tail_of : {X : Type 0} (x y : X) (xs ys : List X) → x ∷ xs ≡ y ∷ ys → xs ≡ ys
tail_of x y xs ys e = cc

lines-after : (lines : List (List ℕ)) (text : List ℕ) → lines_of text ≡ lines → after_mark lines ≡ lines_of (joined (after_mark lines))
lines-after [] text is = refl
lines-after (line ∷ lines) [] is = absurd (cc)
lines-after (line ∷ lines) (byte ∷ text) is =
    let rest = drop (line_length (byte ∷ text)) (byte ∷ text) in
    let others : lines ≡ lines_of rest = tail_of _ _ _ _ (sym is ∙ first_of_lines (byte ∷ text) (omega arith)) in
    elim (cases_Bool (is_mark line)) [
      | inl mark ↦ rw mark (others ∙ ap lines_of (sym (joined-lines_of rest)) ∙ ap (λ (ls : List (List ℕ)). lines_of (joined ls)) (sym others))
      | inr none ↦ rw none (lines-after lines rest (sym others))
    ]

-- the first program of a batch with a mark, and the others
module _ (rest : List ℕ) (mark : list_any is_mark (lines_of rest) ≡ true) where
  pub one-more : programs_of rest ≡ program_part rest ∷ programs_of (journal_part rest)
  one-more = first-program (lines_of rest) mark ∙ ap (λ (ls : List (List ℕ)). program_part rest ∷ programs_in ls) (lines-after (lines_of rest) rest refl)

  pub less-left : length (program_part rest) + length (journal_part rest) < length rest
  less-left = let short = shorter (lines_of rest) mark in omega (arith, short, ap length (joined-lines_of rest))

-- a batch without one
pub last-one : (rest : List ℕ) → list_any is_mark (lines_of rest) ≡ false → programs_of rest ≡ rest ∷ []
last-one rest none = (one-program (lines_of rest) none) ∙ ap (λ (text : List ℕ). text ∷ []) (joined-lines_of rest)

-- the programs so far with those of the rest are all, after one more and after the last
pub one-program-more : (batch rest program after : List ℕ) (texts grown : List (List ℕ)) → list_any is_mark (lines_of rest) ≡ true
    → program ≡ program_part rest → after ≡ journal_part rest → grown ≡ texts ++ program ∷ [] → texts ++ programs_of rest ≡ programs_of batch
    → grown ++ programs_of after ≡ programs_of batch
one-program-more batch rest program after texts grown mark is then adds so_far =
    ap (λ (ts : List (List ℕ)). ts ++ programs_of after) adds
    ∙ append_assoc texts (program ∷ []) (programs_of after)
    ∙ ap (λ (text : List ℕ). texts ++ text ∷ programs_of after) is
    ∙ ap (λ (text : List ℕ). texts ++ program_part rest ∷ programs_of text) then
    ∙ ap (λ (ts : List (List ℕ)). texts ++ ts) (sym (one-more rest mark))
    ∙ so_far

pub last-program : (batch rest : List ℕ) (texts grown : List (List ℕ)) → list_any is_mark (lines_of rest) ≡ false
    → grown ≡ texts ++ rest ∷ [] → texts ++ programs_of rest ≡ programs_of batch → grown ≡ programs_of batch
last-program batch rest texts grown none adds so_far = adds ∙ ap (λ (ts : List (List ℕ)). texts ++ ts) (sym (last-one rest none)) ∙ so_far
