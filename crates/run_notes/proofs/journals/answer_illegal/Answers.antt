use Rattle.std.proofs.Common.{◌≡◌, ◌+◌, ◌∙◌, ℕ, List, length, sym, ap, subst}
use Rattle.seg_journal.specs.declared.moves.Move.{Move}
use Rattle.seg_journal.specs.Spelling.{head_lines}
use Rattle.twe_base.specs.Limits.{Bounds}
use Rattle.text_answers.specs.Answers.{default_limits, limits_with}
use Rattle.twe_report.specs.Texts.{not_legal_text}
use Rattle.run_notes.specs.Journals.{JournalTold}
use Rattle.run_notes.specs.NotLegal.{IllegalTold}
use Rattle.run_notes.proofs.journals.answer_illegal.Goals as goal

-- the move is explained
pub returns : goal.returns
returns c =
    let wanted = c.args.wanted.now in
    let text = c.args.text.now in
    let p = c.args.p.now in
    let found = c.args.found.now in
    let n : ℕ = c.args.n in
    let why = c.args.why in
    let limits = limits_with found.head default_limits in
    let line : c.in_ok-line.line ≡ not_legal_text (length (head_lines found.head) + n) =
    c.in_ok-line.ensures ∙ ap not_legal_text c.line_of.ensures in
    subst (JournalTold wanted text p c.args.journal.now) (sym c.on_out.ensures)
    (JournalTold.not_legal found.head found.moves n why c.in_ok-page.page c.requires.spelled
    (subst (λ (l : List ℕ). IllegalTold wanted text p limits found.moves n why l c.in_ok-page.page) line
    (subst (λ (lim : Bounds). IllegalTold wanted text p lim found.moves n why c.in_ok-line.line c.in_ok-page.page) c.requires.limits
    (subst (λ (ms : List Move). IllegalTold wanted text p c.args.lim ms n why c.in_ok-line.line c.in_ok-page.page) c.as_slice-moves.ensures c.in_ok-page.ensures))))
