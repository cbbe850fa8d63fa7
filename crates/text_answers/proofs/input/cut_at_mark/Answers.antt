use Rattle.std.proofs.Common.{◌≡◌, ◌<◌, ◌≤◌, ◌∙◌, ℕ, length, take, drop, true, false, sym, ap, subst, arith}
use Rattle.text_answers.specs.Input.{is_mark}
use Rattle.text_answers.specs.inner.FirstLine.{line_length}
use Rattle.text_answers.proofs.Cuts.{all_passed, cut_journal, cut_program, cut_there, line_fits, none_passed, passed_more, some_left, some_length, within_length}
use Rattle.text_answers.proofs.input.cut_at_mark.Goals as goal

-- nothing was passed yet
pub loop-at-init : goal.loop-at-init
loop-at-init c = none_passed c.args.text.now

-- the first line lies within the rest
pub parts_at-requires-in-loop-at : goal.parts_at-requires-in-loop-at
parts_at-requires-in-loop-at c = subst (λ (n : ℕ). n ≤ length c.parts_at.result.1.now) (sym c.first_line-length.ensures) (within_length c.parts_at.result.1.now)

-- the line is the mark
pub returns-then-is_mark-clause-before : goal.returns-then-is_mark-clause-before
returns-then-is_mark-clause-before c =
    let input = c.args.text.now in
    let at = c.loop-at.at in
    let line = c.first_line-length.result in
    let is : line ≡ line_length (drop at input) = c.first_line-length.ensures ∙ ap line_length c.parts_at.ensures.rest in
    let mark : is_mark (take line (drop at input)) ≡ true =
    ap (λ xs. is_mark (take line xs)) (sym c.parts_at.ensures.rest) ∙ (ap is_mark (sym c.parts_at-in-loop-at.ensures.before) ∙ (sym c.is_mark.ensures ∙ c.if-is_mark.true)) in
    c.parts_at.ensures.before ∙ sym (cut_program input at line c.loop-at-test.true c.loop-at.invariant is (some_left input at c.loop-at-test.true) mark)

pub returns-then-is_mark-clause-after : goal.returns-then-is_mark-clause-after
returns-then-is_mark-clause-after c =
    let input = c.args.text.now in
    let at = c.loop-at.at in
    let line = c.first_line-length.result in
    let is : line ≡ line_length (drop at input) = c.first_line-length.ensures ∙ ap line_length c.parts_at.ensures.rest in
    let mark : is_mark (take line (drop at input)) ≡ true =
    ap (λ xs. is_mark (take line xs)) (sym c.parts_at.ensures.rest) ∙ (ap is_mark (sym c.parts_at-in-loop-at.ensures.before) ∙ (sym c.is_mark.ensures ∙ c.if-is_mark.true)) in
    c.parts_at-in-loop-at.ensures.rest ∙ (ap (drop line) c.parts_at.ensures.rest
    ∙ sym (cut_journal input at line c.loop-at-test.true c.loop-at.invariant is (some_left input at c.loop-at-test.true) mark))

pub returns-then-is_mark-clause-mark : goal.returns-then-is_mark-clause-mark
returns-then-is_mark-clause-mark c =
    let input = c.args.text.now in
    let at = c.loop-at.at in
    let line = c.first_line-length.result in
    let is : line ≡ line_length (drop at input) = c.first_line-length.ensures ∙ ap line_length c.parts_at.ensures.rest in
    let mark : is_mark (take line (drop at input)) ≡ true =
    ap (λ xs. is_mark (take line xs)) (sym c.parts_at.ensures.rest) ∙ (ap is_mark (sym c.parts_at-in-loop-at.ensures.before) ∙ (sym c.is_mark.ensures ∙ c.if-is_mark.true)) in
    cut_there input at line c.loop-at-test.true c.loop-at.invariant is (some_left input at c.loop-at-test.true) mark

-- it is none, and was passed
pub overflow_add-at : goal.overflow_add-at
overflow_add-at c =
    let is : c.first_line-length.result ≡ line_length (drop c.loop-at.at c.args.text.now) = c.first_line-length.ensures ∙ ap line_length c.parts_at.ensures.rest in
    let fits = line_fits c.args.text.now c.loop-at.at c.first_line-length.result c.loop-at-test.true is in
    omega (arith, fits, c.requires)

pub loop-at-preserved : goal.loop-at-preserved
loop-at-preserved c =
    let input = c.args.text.now in
    let at = c.loop-at.at in
    let line = c.first_line-length.result in
    let is : line ≡ line_length (drop at input) = c.first_line-length.ensures ∙ ap line_length c.parts_at.ensures.rest in
    let none : is_mark (take line (drop at input)) ≡ false =
    ap (λ xs. is_mark (take line xs)) (sym c.parts_at.ensures.rest) ∙ (ap is_mark (sym c.parts_at-in-loop-at.ensures.before) ∙ (sym c.is_mark.ensures ∙ c.if-is_mark.false)) in
    passed_more input at line c.loop-at-test.true c.loop-at.invariant is (some_left input at c.loop-at-test.true) none

pub loop-at-smaller : goal.loop-at-smaller
loop-at-smaller c =
    let input = c.args.text.now in
    let at = c.loop-at.at in
    let is : c.first_line-length.result ≡ line_length (drop at input) = c.first_line-length.ensures ∙ ap line_length c.parts_at.ensures.rest in
    let some : 0 < c.first_line-length.result = subst (λ (n : ℕ). 0 < n) (sym is) (some_length (drop at input) (some_left input at c.loop-at-test.true)) in
    omega (arith, some, c.loop-at-test.true)

-- no line is the mark
pub returns-clause-none : goal.returns-clause-none
returns-clause-none c = λ none. (all_passed c.args.text.now c.loop-at.at c.loop-at.invariant c.loop-at-test.false).2
