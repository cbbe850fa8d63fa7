-- The answer to a replay.
use Rattle.std.proofs.Common.{◌≡◌, ◌+◌, ◌≤◌, ℕ, List, ◌∷◌, length, map, Result, Ok, Err, IfOk, length-append, sym, ap, ◌∙◌, subst, arith}
use Rattle.std.proofs.lemmas.List.{length-map}
use Rattle.twe_base.specs.declared.memory.Memory as out_of
use Rattle.seg_journal.specs.declared.journal.Entry.{Entry}
use Rattle.seg_journal.specs.declared.moves.Move.{Move}
use Rattle.seg_journal.specs.declared.text.JournalText.{JournalText}
use Rattle.seg_journal.specs.Lines.{IsFirstBadLine}
use Rattle.seg_journal.specs.Spelling.{Spells, head_lines, move_of}
use Rattle.twe_base.specs.Limits.{Bounds}
use Rattle.twe_program.specs.Program.{Program}
use Rattle.machine_state.specs.declared.why.Why.{Why}
use Rattle.machine_state.specs.Replays.{IsFirstIllegal}
use Rattle.machine_state.specs.Runs.{counted, state_after}
use Rattle.flat_sched.specs.RunEnds.{outcome_of}
use Rattle.flat_sched.specs.declared.ending.WholeRun.{WholeRun}
use Rattle.twe_report.specs.Texts.{not_a_move_text, not_legal_text}
use Rattle.text_answers.specs.declared.book.Reply.{Reply}
use Rattle.twe_io.specs.declared.status.Status.TheVariants.{BadJournal}
use Rattle.twe_io.specs.Answers.{on_err}
use Rattle.text_answers.specs.Answers.{AnswersReplay, AnswersRun, limits_with}
use Rattle.text_answers.specs.Theorem.{HasProgram}
use Rattle.text_answers.specs.inner.Given.{AnswersFound, IsReplyOfReplay, IsReplyToMoves, IsReplyToRun}

-- the replies to a replay
module _ (p : Program) (lim : Bounds) where
  pub replies_found : (text : List ℕ) (found : JournalText) (made : Result Reply out_of.Memory) → Spells text found.head found.moves
      → IfOk made (AnswersFound p lim found) → IfOk made (IsReplyOfReplay p lim text)
  replies_found text found (Ok reply) spells answers = answers text spells
  replies_found text found (Err e) spells answers = tt

  pub reply_to_bad_line : (text : List ℕ) (n : ℕ) (line : List ℕ) (reply : Reply) → IsFirstBadLine text n → line ≡ not_a_move_text n → HasProgram p reply.book
      → reply.answer ≡ on_err BadJournal line → IsReplyOfReplay p lim text reply
  reply_to_bad_line text n line reply bad is has same =
      subst (AnswersReplay p lim text reply.book) (sym (same ∙ ap (on_err BadJournal) is)) (AnswersReplay.not_a_move n bad has)

  pub reply_to_illegal : (found : JournalText) (used : Bounds) (moves : List Move) (n at : ℕ) (why : Why) (line : List ℕ) (reply : Reply) → used ≡ limits_with found.head lim
      → moves ≡ found.moves → IsFirstIllegal p used moves n why → at ≡ length (head_lines found.head) + n → line ≡ not_legal_text at → HasProgram p reply.book
      → reply.answer ≡ on_err BadJournal line → AnswersFound p lim found reply
  reply_to_illegal found used moves n at why line reply limits has illegal counted is program same = λ text spells.
      subst (AnswersReplay p lim text reply.book) (sym (same ∙ (ap (on_err BadJournal) is ∙ ap (λ (k : ℕ). on_err BadJournal (not_legal_text k)) counted)))
      (AnswersReplay.not_legal found.head found.moves n why spells
      (subst (λ (l : Bounds). IsFirstIllegal p l found.moves n why) limits (subst (λ (ms : List Move). IsFirstIllegal p used ms n why) has illegal)) program)

  pub reply_to_legal : (found : JournalText) (used : Bounds) (moves : List Move) (made : Result Reply out_of.Memory) → used ≡ limits_with found.head lim → moves ≡ found.moves
      → IfOk made (IsReplyToMoves p used moves) → IfOk made (AnswersFound p lim found)
  reply_to_legal found used moves (Ok reply) limits has is = λ text spells.
      let here = subst (λ (l : Bounds). IsReplyToMoves p l found.moves reply) limits (subst (λ (ms : List Move). IsReplyToMoves p used ms reply) has is) in
      AnswersReplay.replayed found.head found.moves here.outcome spells here.replay here.answers
  reply_to_legal found used moves (Err e) limits has is = tt

-- the reply to the run of legal moves
pub reply_to_moves : (p : Program) (lim : Bounds) (moves : List Move) (journal : List Entry) (run : WholeRun) (reply : Reply) → map move_of journal ≡ moves → run.journal ≡ journal
    → IsReplyToRun p lim run reply → IsReplyToMoves p lim moves reply
reply_to_moves p lim moves journal run reply has same is = record {
  outcome = outcome_of run.end;
  replay = record { has = is.has; replays = ap (λ (es : List Entry). map move_of es) (is.kept ∙ same) ∙ has };
  answers = subst (λ (es : List Entry). AnswersRun p (state_after p lim es) (state_after p lim (counted es)).prints (outcome_of run.end) reply.answer) (sym is.kept) is.answers;
}

-- the number of an illegal move is that of a move
pub illegal_within : (p : Program) (lim : Bounds) (moves : List Move) (n : ℕ) (why : Why) → IsFirstIllegal p lim moves n why → n ≤ length moves
illegal_within p lim moves n why first =
    let whole : length moves ≡ length (map move_of first.before) + length (first.mv ∷ first.after) =
    ap length first.split ∙ length-append (map move_of first.before) (first.mv ∷ first.after) in
    omega (arith, first.counted, whole, length-map first.before move_of)
