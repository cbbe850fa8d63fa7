use Rattle.std.proofs.Common.{◌≡◌, List, length, sym, ap, ◌∙◌, subst, arith}
use Rattle.std.proofs.lemmas.List.{length-take}
use Rattle.wait_graph.specs.declared.stuck.Edge.{Edge}
use Rattle.seg_journal.specs.declared.journal.Entry.{Entry}
use Rattle.twe_base.specs.Limits.{Bounds, IsWithin}
use Rattle.twe_program.specs.WellFormed.{IsWellFormed}
use Rattle.machine_state.specs.Runs.{IsOutcome, Legal, counted, state_after}
use Rattle.machine_state.specs.declared.ending.Outcome.TheVariants.{Stuck}
use Rattle.flat_sched.specs.RunEnds.{outcome_of}
use Rattle.flat_sched.specs.Stuck.{IsCycleOfReasons, IsStuckCycle}
use Rattle.text_answers.proofs.Counted.{all_prints, answers_with, counted_within, early_legal, early_prints}
use Rattle.text_answers.proofs.Outcomes.{reasons_of}
use Rattle.text_answers.proofs.ended.answer_ended.Goals as goal

-- each edge of the cycle of a stuck run has its reason
pub answer_end-requires : goal.answer_end-requires
answer_end-requires c =
    let lim = c.args.lim in
    let run = c.args.run.now in
    let well = subst IsWellFormed c.p.view_is c.p.invariant in
    let within : IsWithin lim.fuel lim.tasks = subst (λ (b : Bounds). IsWithin b.fuel b.tasks) c.lim.view_is c.lim.invariant in
    reasons_of run.state run.end
    (λ cycle stuck is. c.stuck_cycles_have_true_edges.ensures c.args.p.now lim run.state cycle well within
    (record { journal = run.journal; legal = c.requires.run.legal; same = c.requires.run.same }) stuck is)
    c.requires.end

-- all of the journal counts
pub returns-then-count-entries : goal.returns-then-count-entries
returns-then-count-entries c =
    let run = c.args.run.now in
    let is : c.counted_length-count.result ≡ length (counted run.journal) = c.counted_length-count.ensures ∙ ap (λ (es : List Entry). length (counted es)) c.as_slice-entries.ensures in
    let all : length (counted run.journal) ≡ length run.journal = sym is ∙ (c.if-count-entries.true ∙ ap length c.as_slice-entries.ensures) in
    answers_with c.args.p.now run.state (outcome_of run.end) c.answer_end.result _ _
    (c.as_slice.ensures ∙ all_prints c.args.p.now c.args.lim run.journal run.state all c.requires.run.same) c.answer_end.ensures

-- a beginning of it counts
pub slice_bounds-prints_of-end : goal.slice_bounds-prints_of-end
slice_bounds-prints_of-end c =
    let within = counted_within c.as_slice-entries.result.now in
    omega (arith, within, c.counted_length-count.ensures, length-take c.counted_length-count.result c.as_slice-entries.result.now)

pub prints_of-requires : goal.prints_of-requires
prints_of-requires c =
    let legal : Legal c.args.p.now c.args.lim c.as_slice-entries.result.now = subst (Legal c.args.p.now c.args.lim) (sym c.as_slice-entries.ensures) c.requires.run.legal in
    early_legal c.args.p.now c.args.lim c.as_slice-entries.result.now c.counted_length-count.result c.counted_length-count.ensures legal

pub answer_end-requires-2 : goal.answer_end-requires-2
answer_end-requires-2 c =
    let lim = c.args.lim in
    let run = c.args.run.now in
    let well = subst IsWellFormed c.p.view_is c.p.invariant in
    let within : IsWithin lim.fuel lim.tasks = subst (λ (b : Bounds). IsWithin b.fuel b.tasks) c.lim.view_is c.lim.invariant in
    reasons_of run.state run.end
    (λ cycle stuck is. c.stuck_cycles_have_true_edges.ensures c.args.p.now lim run.state cycle well within
    (record { journal = run.journal; legal = c.requires.run.legal; same = c.requires.run.same }) stuck is)
    c.requires.end

pub returns : goal.returns
returns c =
    let p = c.args.p.now in
    let lim = c.args.lim in
    let run = c.args.run.now in
    let entries = c.as_slice-entries.result.now in
    answers_with p run.state (outcome_of run.end) c.answer_end-2.result _ _
    (c.as_slice-2.ensures
    ∙ (early_prints p lim entries c.in_ok-prints.prints c.counted_length-count.result c.counted_length-count.ensures c.in_ok-prints.ensures
    ∙ ap (λ (es : List Entry). (state_after p lim (counted es)).prints) c.as_slice-entries.ensures)) c.answer_end-2.ensures
