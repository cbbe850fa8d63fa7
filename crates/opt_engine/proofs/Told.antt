-- What a core answers is what its run answers.
use Rattle.std.proofs.Common.{◌≡◌, ℕ, List, [], Option, Some, refl, sym, ◌∙◌, subst}
use mathlib.Core.List.{IsPrefix}
use Rattle.seg_journal.specs.declared.journal.Entry.{Entry}
use Rattle.twe_base.specs.Limits.{Bounds}
use Rattle.twe_program.specs.Program.{Program}
use Rattle.machine_state.specs.Moves.{start_of}
use Rattle.machine_state.specs.Runs.{IsReached, IsRun}
use Rattle.opt_engine.specs.declared.core_run.CoreRun.{CoreRun}
use Rattle.twe_rounds.proofs.Beginnings.{prefix_self, prefix_trans}
use Rattle.opt_engine.specs.declared.drafts.Drafted.{Drafted}
use Rattle.opt_engine.specs.declared.verdict.Verdict.{Verdict}
use Rattle.opt_engine.specs.Verdicts.{AnswersCommit, RunGoesOn, IsKept, Judges, Takes, entries_from, moves_of}
use Rattle.opt_engine.proofs.Committed.{reached_by}

-- the journal goes on when the moves of a draft are taken
pub takes_begin : (p : Program) (lim : Bounds) (old : CoreRun) (d : Drafted) (number : ℕ) (new : CoreRun) → Takes p lim old d number new → IsPrefix old.journal new.journal
takes_begin p lim old d number new takes = (entries_from p lim old.state (moves_of takes.row.status d.task), sym takes.journal)

pub begins_itself : (run : CoreRun) → IsPrefix run.journal run.journal
begins_itself run = prefix_self run.journal

pub reached_of : (p : Program) (lim : Bounds) (run : CoreRun) → IsRun p lim run.journal run.state → (some : Bounds) × IsReached p some run.state
reached_of p lim run is = (lim, reached_by p lim run is)

-- a run that has not begun goes on from nothing
pub begins_well : (p prog : Program) (limits lim : Bounds) (earlier : List Entry) (run : CoreRun) → p ≡ prog → limits ≡ lim → earlier ≡ []
    → run ≡ record { journal = []; state = start_of p limits } → RunGoesOn prog lim earlier run
begins_well p prog limits lim earlier run same_program same_limits none is =
    subst (λ (x : Program × Bounds). RunGoesOn x.0 x.1 earlier run) (λ i. (same_program i, same_limits i))
    (subst (RunGoesOn p limits earlier) (sym is)
    (record { run_is = record { legal = tt; same = refl }; begins = subst (λ (e : List Entry). IsPrefix e []) (sym none) (prefix_self []) }))

-- the core had this run, and answers as it does
pub answer_kept : (p prog : Program) (limits lim : Bounds) (earlier : List Entry) (core kept : Option CoreRun) (old after : CoreRun) (d : Drafted) (verdict : Verdict)
    → p ≡ prog → limits ≡ lim → kept ≡ Some old → kept ≡ core → IsKept prog lim earlier kept → Judges p limits old d verdict (Some after)
    → AnswersCommit prog lim earlier core d verdict (Some after)
answer_kept p prog limits lim earlier core kept old after d verdict same_program same_limits is view keeps judges = (
  old,
  sym view ∙ is,
  subst (IsKept prog lim earlier) is keeps,
  subst (λ (x : Program × Bounds). Judges x.0 x.1 old d verdict (Some after)) (λ i. (same_program i, same_limits i)) judges,
)

-- and keeps its run
pub answer_goes_on : (p prog : Program) (limits lim : Bounds) (earlier : List Entry) (kept : Option CoreRun) (old after : CoreRun) → p ≡ prog → limits ≡ lim → kept ≡ Some old
    → IsKept prog lim earlier kept → IsRun p limits after.journal after.state → IsPrefix old.journal after.journal → RunGoesOn prog lim earlier after
answer_goes_on p prog limits lim earlier kept old after same_program same_limits is keeps run begins =
    let before : RunGoesOn prog lim earlier old = subst (IsKept prog lim earlier) is keeps in
    record {
      run_is = subst (λ (x : Program × Bounds). IsRun x.0 x.1 after.journal after.state) (λ i. (same_program i, same_limits i)) run;
      begins = prefix_trans earlier old.journal after.journal before.begins begins;
    }
