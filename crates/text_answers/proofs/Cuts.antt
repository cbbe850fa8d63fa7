-- The cutting of an input, line after line.
use Rattle.std.proofs.Common.{◌≡◌, ◌<◌, ◌≤◌, ◌+◌, ◌++◌, ◌==◌, ◌||◌, ℕ, Bool, true, false, cond, List, [], ◌∷◌, length, take, drop, inl, inr, refl, sym, ap, ◌∙◌, arith, append_assoc, append-nil, length-drop}
use Rattle.std.proofs.Math.Seq.{take-add}
use Rattle.std.proofs.lemmas.Bool.{cases_Bool}
use Rattle.std.proofs.lemmas.List.{drop-drop, drop_all, take_all}
use Rattle.seg_journal.specs.Lines.{lines_of, with_byte}
use Rattle.seg_journal.proofs.FirstLines.{joined-lines_of}
use Rattle.std.specs.List.{list_any}
use Rattle.text_answers.specs.Input.{has_mark, is_mark, before_mark, after_mark, joined, program_part, journal_part}
use Rattle.text_answers.specs.inner.FirstLine.{line_length}

-- the first line of a text that is not empty
pub first_of_lines : (text : List ℕ) → 0 < length text → lines_of text ≡ take (line_length text) text ∷ lines_of (drop (line_length text) text)
first_of_lines [] some = absurd (omega arith)
first_of_lines (byte ∷ []) some = elim (cases_Bool (byte == 10)) [
  | inl ends ↦ rw ends refl
  | inr goes_on ↦ rw goes_on refl
]
first_of_lines (byte ∷ next ∷ text) some =
    let more = first_of_lines (next ∷ text) (omega arith) in
    elim (cases_Bool (byte == 10)) [
      | inl ends ↦ rw ends refl
      | inr goes_on ↦ rw goes_on (ap (with_byte byte) more)
    ]

pub some_length : (text : List ℕ) → 0 < length text → 0 < line_length text
some_length [] some = absurd (omega arith)
some_length (byte ∷ text) some = elim (cases_Bool (byte == 10)) [
  | inl ends ↦ rw ends (omega arith)
  | inr goes_on ↦ rw goes_on (omega arith)
]

pub within_length : (text : List ℕ) → line_length text ≤ length text
within_length [] = omega arith
within_length (byte ∷ text) =
    let more = within_length text in
    elim (cases_Bool (byte == 10)) [
      | inl ends ↦ rw ends (omega arith)
      | inr goes_on ↦ rw goes_on (omega (arith, more))
    ]

pub no_or : (a b : Bool) → (a || b) ≡ false → (a ≡ false) × (b ≡ false)
no_or false b none = (refl, none)
no_or true b none = absurd (cc)

-- the parts of an input, by its first line
abbrev program_by : Bool → List ℕ → List (List ℕ) → List ℕ
program_by mark line lines = joined (cond mark [] (line ∷ before_mark lines))

abbrev journal_by : Bool → List (List ℕ) → List ℕ
journal_by mark lines = joined (cond mark lines (after_mark lines))

program_first : (text line : List ℕ) (lines : List (List ℕ)) (mark : Bool) → lines_of text ≡ line ∷ lines → is_mark line ≡ mark → program_part text ≡ program_by mark line lines
program_first text line lines mark split is = ap (λ (ls : List (List ℕ)). joined (before_mark ls)) split ∙ ap (λ (b : Bool). program_by b line lines) is

journal_first : (text line : List ℕ) (lines : List (List ℕ)) (mark : Bool) → lines_of text ≡ line ∷ lines → is_mark line ≡ mark → journal_part text ≡ journal_by mark lines
journal_first text line lines mark split is = ap (λ (ls : List (List ℕ)). joined (after_mark ls)) split ∙ ap (λ (b : Bool). journal_by b lines) is

mark_first : (text line : List ℕ) (lines : List (List ℕ)) (mark : Bool) → lines_of text ≡ line ∷ lines → is_mark line ≡ mark → has_mark text ≡ (mark || list_any is_mark lines)
mark_first text line lines mark split is = ap (list_any is_mark) split ∙ ap (λ (b : Bool). b || list_any is_mark lines) is

-- a line ends within its text
pub line_fits : (input : List ℕ) (at line : ℕ) → at < length input → line ≡ line_length (drop at input) → at + line ≤ length input
line_fits input at line below is =
    let less : line ≤ length (drop at input) = rw is (within_length (drop at input)) in
    omega (arith, less, length-drop at input)

pub some_left : (input : List ℕ) (at : ℕ) → at < length input → 0 < length (drop at input)
some_left input at below = omega (arith, length-drop at input)

-- what was passed has no mark: the parts are those of what is left, with what was passed before the first
pub record IsPassed (input : List ℕ) (at : ℕ) : Type 0 where
  pub program : program_part input ≡ take at input ++ program_part (drop at input)
  pub journal : journal_part input ≡ journal_part (drop at input)
  pub mark : has_mark input ≡ has_mark (drop at input)
  pub within : at ≤ length input

pub none_passed : (input : List ℕ) → IsPassed input 0
none_passed input = record { program = refl; journal = refl; mark = refl; within = omega arith }

module _ (input : List ℕ) (at : ℕ) (line : ℕ) (below : at < length input) (passed : IsPassed input at) (is : line ≡ line_length (drop at input)) where
  abbrev rest : List ℕ
  rest = drop at input

  split : 0 < length rest → lines_of rest ≡ take line rest ∷ lines_of (drop line rest)
  split some = rw is (first_of_lines rest some)

  -- a line that is no mark
  pub passed_more : 0 < length rest → is_mark (take line rest) ≡ false → IsPassed input (at + line)
  passed_more some none = record {
    program = passed.program
        ∙ (ap (λ (xs : List ℕ). take at input ++ xs) (program_first rest (take line rest) (lines_of (drop line rest)) false (split some) none)
        ∙ (sym (append_assoc (take at input) (take line rest) (program_part (drop line rest)))
        ∙ (ap (λ (xs : List ℕ). xs ++ program_part (drop line rest)) (sym (take-add at line input)) ∙ ap (λ (xs : List ℕ). take (at + line) input ++ program_part xs) (drop-drop line at input))));
    journal = passed.journal ∙ (journal_first rest (take line rest) (lines_of (drop line rest)) false (split some) none ∙ ap journal_part (drop-drop line at input));
    mark = passed.mark ∙ (mark_first rest (take line rest) (lines_of (drop line rest)) false (split some) none ∙ ap has_mark (drop-drop line at input));
    within = line_fits input at line below is;
  }

  -- the mark
  pub cut_program : 0 < length rest → is_mark (take line rest) ≡ true → program_part input ≡ take at input
  cut_program some mark =
      passed.program
      ∙ (ap (λ (xs : List ℕ). take at input ++ xs) (program_first rest (take line rest) (lines_of (drop line rest)) true (split some) mark) ∙ append-nil (take at input))

  pub cut_journal : 0 < length rest → is_mark (take line rest) ≡ true → journal_part input ≡ drop line rest
  cut_journal some mark =
      passed.journal
      ∙ (journal_first rest (take line rest) (lines_of (drop line rest)) true (split some) mark ∙ joined-lines_of (drop line rest))

  pub cut_there : 0 < length rest → is_mark (take line rest) ≡ true → has_mark input ≡ true
  cut_there some mark = passed.mark ∙ mark_first rest (take line rest) (lines_of (drop line rest)) true (split some) mark

-- no line is a mark
pub all_passed : (input : List ℕ) (at : ℕ) → IsPassed input at → length input ≤ at → (program_part input ≡ input) × (journal_part input ≡ []) × (has_mark input ≡ false)
all_passed input at passed over =
    let at_end : at ≡ length input = omega (arith, passed.within, over) in
    let nothing : drop at input ≡ [] = drop_all at input over in (
      passed.program ∙ (ap (λ (xs : List ℕ). take at input ++ program_part xs) nothing ∙ (append-nil (take at input) ∙ take_all at input over)),
      passed.journal ∙ ap journal_part nothing,
      passed.mark ∙ ap has_mark nothing,
    )

-- a text without a mark is its first part, and the second is empty
unmarked_before : (lines : List (List ℕ)) → list_any is_mark lines ≡ false → before_mark lines ≡ lines
unmarked_before [] none = refl
unmarked_before (line ∷ lines) none =
    let no = no_or (is_mark line) (list_any is_mark lines) none in
    ap (λ (b : Bool). cond b [] (line ∷ before_mark lines)) no.0 ∙ ap (λ (ls : List (List ℕ)). line ∷ ls) (unmarked_before lines no.1)

unmarked_after : (lines : List (List ℕ)) → list_any is_mark lines ≡ false → after_mark lines ≡ []
unmarked_after [] none = refl
unmarked_after (line ∷ lines) none =
    let no = no_or (is_mark line) (list_any is_mark lines) none in
    ap (λ (b : Bool). cond b lines (after_mark lines)) no.0 ∙ unmarked_after lines no.1

pub unmarked_program : (text : List ℕ) → has_mark text ≡ false → program_part text ≡ text
unmarked_program text none = ap joined (unmarked_before (lines_of text) none) ∙ joined-lines_of text

pub unmarked_journal : (text : List ℕ) → has_mark text ≡ false → journal_part text ≡ []
unmarked_journal text none = ap joined (unmarked_after (lines_of text) none)
