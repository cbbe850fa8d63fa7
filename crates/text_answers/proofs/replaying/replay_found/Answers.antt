use Rattle.std.proofs.Common.{◌≤◌, ◌+◌, ℕ, length, Err, ap, sym, ◌∙◌, subst}
use Rattle.seg_journal.specs.Spelling.{head_lines}
use Rattle.text_answers.proofs.Replays.{illegal_within, reply_to_illegal, reply_to_legal}
use Rattle.text_answers.proofs.replaying.replay_found.Goals as goal

-- the number of the illegal move is that of a move
pub line_of-requires : goal.line_of-requires
line_of-requires c =
    let first = c.in-Err-Illegal.ensures.illegal c.in-Err-Illegal.n c.in-Err-Illegal.field-0-1 (ap Err c.in-Err-Illegal.field-0-is) in
    subst (λ (n : ℕ). n ≤ length c.as_slice-moves.result.now) (sym c.in-Err-Illegal.n-is)
    (illegal_within c.args.p c.unwrap_or-lim.result c.as_slice-moves.result.now c.in-Err-Illegal.n c.in-Err-Illegal.field-0-1 first)

-- the moves are replayed
pub returns-in-Ok : goal.returns-in-Ok
returns-in-Ok c =
    reply_to_legal c.args.p c.args.lim c.args.found c.unwrap_or-lim.result c.as_slice-moves.result.now c.answer_replay.result
    c.unwrap_or-lim.ensures c.as_slice-moves.ensures c.answer_replay.ensures

-- or one is not legal
pub returns-in_ok-line-in-Err-Illegal : goal.returns-in_ok-line-in-Err-Illegal
returns-in_ok-line-in-Err-Illegal c =
    let first = c.in-Err-Illegal.ensures.illegal c.in-Err-Illegal.n c.in-Err-Illegal.field-0-1 (ap Err c.in-Err-Illegal.field-0-is) in
    reply_to_illegal c.args.p c.args.lim c.args.found c.unwrap_or-lim.result c.as_slice-moves.result.now c.in-Err-Illegal.n c.line_of.result
    c.in-Err-Illegal.field-0-1 c.in_ok-line-in-Err-Illegal.line c.refuse_journal.result c.unwrap_or-lim.ensures c.as_slice-moves.ensures first
    (c.line_of.ensures ∙ ap (λ (n : ℕ). length (head_lines c.args.found.head) + n) c.in-Err-Illegal.n-is) c.in_ok-line-in-Err-Illegal.ensures
    c.refuse_journal.ensures.program c.refuse_journal.ensures.answer
