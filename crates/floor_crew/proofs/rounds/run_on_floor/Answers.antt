use Rattle.std.proofs.Common.{◌≡◌, sym, ap, ◌∙◌, subst}
use Rattle.std.proofs.lemmas.Result.{IfOk-weaker}
use Rattle.twe_base.specs.Limits.{Bounds}
use Rattle.twe_program.specs.Program.{Program}
use Rattle.machine_state.specs.LowestFirst.{IsOver}
use Rattle.machine_state.specs.Runs.{Legal, state_after}
use Rattle.flat_sched.specs.declared.ending.WholeRun.{WholeRun}
use Rattle.flat_sched.specs.RunEnds.{IsRunEnd}
use Rattle.flat_sched.proofs.RunEnds.{ended_is_over}
use Rattle.twe_rounds.specs.Crews.{CrewRun}
use Rattle.twe_rounds.proofs.Endings.{ended_at, ends_so}
use Rattle.floor_crew.proofs.rounds.run_on_floor.Goals as goal

-- a single worker has run the program to its end
pub returns-then-workers-eq1-clause-ended : goal.returns-then-workers-eq1-clause-ended
returns-then-workers-eq1-clause-ended g c =
    let journal = c.in_ok-journal.journal in
    let state = c.in_ok-journal.state in
    IfOk-weaker c.of.result (λ (run : WholeRun). (run.journal ≡ journal) × (run.state ≡ state) × IsRunEnd state run.end) (λ (run : WholeRun). IsOver run.state)
    (λ run is. subst IsOver (sym is.1) c.in_ok-journal.ensures.ended) c.of.ensures

-- the last quiet step found how the run has ended
pub returns-then-is_over-clause-end : goal.returns-then-is_over-clause-end
returns-then-is_over-clause-end g c =
    let old = c.round.new.self in
    let new = c.quiet_step.new.self in
    let closed = c.in_ok-journal-3 in
    let ended = ends_so old new c.in_ok-end.end (sym c.is_over.ensures ∙ c.if-is_over.true) c.in_ok-end.ensures.ok in
    ended_at old new ended.1.0 closed.journal closed.state c.in_ok-end.end ended.0 ended.1.1 ended.1.2 closed.ensures.journal closed.ensures.state

-- so it is over
pub returns-then-is_over-clause-ended : goal.returns-then-is_over-clause-ended
returns-then-is_over-clause-ended g c =
    ended_is_over c.in_ok-journal-3.state c.in_ok-end.end (sym c.is_over.ensures ∙ c.if-is_over.true) (returns-then-is_over-clause-end g c)

-- and it is still one of the program under the limits
pub returns-then-is_over-clause-state : goal.returns-then-is_over-clause-state
returns-then-is_over-clause-state g c =
    let old = c.round.new.self in
    let new = c.quiet_step.new.self in
    let closed = c.in_ok-journal-3 in
    let ended = ends_so old new c.in_ok-end.end (sym c.is_over.ensures ∙ c.if-is_over.true) c.in_ok-end.ensures.ok in
    let on = c.in_ok-round.ensures.ok.is in
    let prog : new.prog ≡ c.args.p.now = ap (λ (crew : CrewRun). crew.prog) ended.0 ∙ (ap (λ (crew : CrewRun). crew.prog) on ∙ c.rounds.invariant.0) in
    let lim : new.lim ≡ c.args.lim = ap (λ (crew : CrewRun). crew.lim) ended.0 ∙ (ap (λ (crew : CrewRun). crew.lim) on ∙ c.rounds.invariant.1) in
    closed.ensures.state
    ∙ (ap (λ (p : Program). state_after p new.lim closed.journal) prog ∙ ap (λ (l : Bounds). state_after c.args.p.now l closed.journal) lim)

pub returns-then-is_over-clause-legal : goal.returns-then-is_over-clause-legal
returns-then-is_over-clause-legal g c =
    let old = c.round.new.self in
    let new = c.quiet_step.new.self in
    let closed = c.in_ok-journal-3 in
    let ended = ends_so old new c.in_ok-end.end (sym c.is_over.ensures ∙ c.if-is_over.true) c.in_ok-end.ensures.ok in
    let on = c.in_ok-round.ensures.ok.is in
    let prog : new.prog ≡ c.args.p.now = ap (λ (crew : CrewRun). crew.prog) ended.0 ∙ (ap (λ (crew : CrewRun). crew.prog) on ∙ c.rounds.invariant.0) in
    let lim : new.lim ≡ c.args.lim = ap (λ (crew : CrewRun). crew.lim) ended.0 ∙ (ap (λ (crew : CrewRun). crew.lim) on ∙ c.rounds.invariant.1) in
    subst (λ (p : Program). Legal p c.args.lim closed.journal) prog (subst (λ (l : Bounds). Legal new.prog l closed.journal) lim closed.ensures.legal)
