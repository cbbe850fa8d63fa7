use Rattle.std.proofs.Common.{◌≡◌, ◌≤◌, ◌+◌, ℕ, length, Ok, Err, sym, ap, ◌∙◌, subst}
use Rattle.std.specs.Prelude.{unwrap_or}
use Rattle.seg_journal.specs.Spelling.{head_lines}
use Rattle.twe_base.specs.Limits.{Bounds}
use Rattle.text_answers.proofs.Replays.{illegal_within}
use Rattle.twe_io.specs.declared.status.Status.TheVariants.{BadJournal}
use Rattle.twe_io.specs.Answers.{on_err}
use Rattle.text_answers.proofs.Causes.{due_given, due_not_legal}
use Rattle.text_answers.proofs.journal_answers.answer_found.Goals as goal

-- the number of the illegal move is that of a move
pub line_of-requires : goal.line_of-requires
line_of-requires g c =
    let first = c.in-Err-Illegal.ensures.illegal c.in-Err-Illegal.n c.in-Err-Illegal.field-0-1 (ap Err c.in-Err-Illegal.field-0-is) in
    subst (λ (n : ℕ). n ≤ length c.as_slice-moves.result.now) (sym c.in-Err-Illegal.n-is)
    (illegal_within c.args.p.now c.unwrap_or-lim.result c.as_slice-moves.result.now c.in-Err-Illegal.n c.in-Err-Illegal.field-0-1 first)

-- the moves have their answer
pub returns-in-Ok : goal.returns-in-Ok
returns-in-Ok g c =
    let limits = c.unwrap_or-lim.ensures ∙ ap (λ (d : Bounds). unwrap_or c.args.found.now.head d) c.default.ensures in
    due_given (g.P.JournalProgram.gives c.args.program.now) c.args.p.now c.args.found.now c.unwrap_or-lim.result c.as_slice-moves.result.now c.in-Ok.answer limits
    c.as_slice-moves.ensures c.in-Ok.ensures.given

-- or the line of the move that is not legal
pub returns-in_ok-not_legal_text-in-Err-Illegal : goal.returns-in_ok-not_legal_text-in-Err-Illegal
returns-in_ok-not_legal_text-in-Err-Illegal g c =
    let first = c.in-Err-Illegal.ensures.illegal c.in-Err-Illegal.n c.in-Err-Illegal.field-0-1 (ap Err c.in-Err-Illegal.field-0-is) in
    let limits = c.unwrap_or-lim.ensures ∙ ap (λ (d : Bounds). unwrap_or c.args.found.now.head d) c.default.ensures in
    due_not_legal (g.P.JournalProgram.gives c.args.program.now) c.args.p.now c.args.found.now c.unwrap_or-lim.result c.as_slice-moves.result.now c.in-Err-Illegal.n c.line_of.result
    c.in-Err-Illegal.field-0-1 c.on_err.result limits c.as_slice-moves.ensures first
    (c.line_of.ensures ∙ ap (λ (n : ℕ). length (head_lines c.args.found.now.head) + n) c.in-Err-Illegal.n-is)
    (c.on_err.ensures ∙ ap (on_err BadJournal) c.in_ok-not_legal_text-in-Err-Illegal.ensures)
