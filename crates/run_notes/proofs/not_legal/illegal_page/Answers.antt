use Rattle.std.proofs.Common.{◌≡◌, ◌∙◌, ℕ, List, Err, sym, ap, subst}
use Rattle.seg_journal.specs.declared.journal.Entry.{Entry}
use Rattle.seg_journal.specs.declared.moves.Move.{Move}
use Rattle.machine_state.specs.Replays.{AreLegal}
use Rattle.machine_state.specs.Runs.{state_after}
use Rattle.machine_state.specs.declared.state.State.{State}
use Rattle.machine_state.proofs.replays.Replayed.{never_both}
use Rattle.run_facts.specs.Makings.{makings_of}
use Rattle.run_notes.specs.NotLegal.{forbidden_explanation}
use Rattle.explain_pages.specs.RunPage.{run_text}
use Rattle.run_notes.proofs.FirstIllegal.{before_legal, comes_next, same_before}
use Rattle.run_notes.proofs.not_legal.illegal_page.Goals as goal

-- the state before the move is explained
pub returns-in_ok-page-in-Ok : goal.returns-in_ok-page-in-Ok
returns-in_ok-page-in-Ok c =
    let wanted = c.args.wanted.now in
    let text = c.args.text.now in
    let p = c.args.p.now in
    let lim = c.args.lim in
    let moves = c.args.moves.now in
    let n : ℕ = c.args.n in
    let why = c.args.why in
    let first = c.requires.illegal in
    let journal : List Entry = c.in-Ok.journal in
    let again = c.in-Ok.ensures.replayed in
    let same : journal ≡ first.before = same_before p lim moves n why first journal again.run.legal (again.has ∙ c.moves_before.ensures) in
    let state : c.in-Ok.st ≡ state_after p lim first.before = again.run.same ∙ ap (λ (l : List Entry). state_after p lim l) same in
    let task : c.task_of-task.result ≡ first.mv.task = c.task_of-task.ensures first.mv (comes_next p lim moves n why first) in
    record {
      first = first;
      same = c.in_ok-page-in-Ok.ensures
          ∙ (ap (λ (s : State). run_text wanted text c.args.answer (forbidden_explanation p s (makings_of p lim journal) c.task_of-task.result why)) state
          ∙ (ap (λ (l : List Entry). run_text wanted text c.args.answer (forbidden_explanation p (state_after p lim first.before) (makings_of p lim l) c.task_of-task.result why)) same
          ∙ ap (λ (t : ℕ). run_text wanted text c.args.answer (forbidden_explanation p (state_after p lim first.before) (makings_of p lim first.before) t why)) task));
    }

-- legal moves have no first illegal one
pub unreachable-requires : goal.unreachable-requires
unreachable-requires c =
    let p = c.args.p.now in
    let lim = c.args.lim in
    never_both p lim c.moves_before.result.now c.in-Err-Illegal.field-0-0 c.in-Err-Illegal.field-0-1
    (subst (λ (l : List Move). AreLegal p lim l) (sym c.moves_before.ensures)
    (before_legal p lim c.args.moves.now c.args.n c.args.why c.requires.illegal))
    (c.in-Err-Illegal.ensures.illegal c.in-Err-Illegal.field-0-0 c.in-Err-Illegal.field-0-1 (ap Err c.in-Err-Illegal.field-0-is))
