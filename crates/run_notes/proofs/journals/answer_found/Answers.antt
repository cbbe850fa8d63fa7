use Rattle.std.proofs.Common.{ℕ, List, Err, ap, ◌∙◌, subst}
use Rattle.std.specs.Prelude.{unwrap_or}
use Rattle.seg_journal.specs.declared.moves.Move.{Move}
use Rattle.twe_base.specs.Limits.{Bounds}
use Rattle.machine_state.specs.Replays.{IsFirstIllegal}
use Rattle.text_answers.specs.Answers.{default_limits, limits_with}
use Rattle.text_answers.proofs.Replays.{illegal_within}
use Rattle.run_notes.proofs.FirstIllegal.{counted_from}
use Rattle.run_notes.specs.Journals.{JournalTold, MovesTold}
use Rattle.run_notes.proofs.journals.answer_found.Goals as goal

-- the moves have their answer
pub returns-in-Ok : goal.returns-in-Ok
returns-in-Ok c =
    let found = c.args.found.now in
    let limits = c.unwrap_or-lim.ensures ∙ ap (λ (d : Bounds). unwrap_or found.head d) c.default.ensures in
    JournalTold.told found.head found.moves c.requires
    (subst (λ (moves : List Move). MovesTold c.args.wanted.now c.args.text.now c.args.p.now (limits_with found.head default_limits) moves c.in-Ok.answer) c.as_slice-moves.ensures
    (subst (λ (lim : Bounds). MovesTold c.args.wanted.now c.args.text.now c.args.p.now lim c.as_slice-moves.result.now c.in-Ok.answer) limits c.in-Ok.ensures.told))

-- or the first that is not legal is explained
pub answer_illegal-requires : goal.answer_illegal-requires
answer_illegal-requires c =
    let found = c.args.found.now in
    let p = c.args.p.now in
    let lim = c.unwrap_or-lim.result in
    let n : ℕ = c.in-Err-Illegal.n in
    let why = c.in-Err-Illegal.why in
    let first = subst (λ (moves : List Move). IsFirstIllegal p lim moves n why) c.as_slice-moves.ensures
    (c.in-Err-Illegal.ensures.illegal n why (ap Err c.in-Err-Illegal.field-0-is)) in
    record {
      spelled = c.requires;
      limits = c.unwrap_or-lim.ensures ∙ ap (λ (d : Bounds). unwrap_or found.head d) c.default.ensures;
      first = counted_from p lim found.moves n why first;
      last = illegal_within p lim found.moves n why first;
      illegal = first;
    }
