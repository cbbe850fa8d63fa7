use Rattle.std.proofs.Common.{◌+◌, List, drop, get_or, take, sym, ap, ◌∙◌, subst}
use Rattle.std.specs.Prelude.{slice_get}
use Rattle.std.proofs.lemmas.List.{take_all, take_more}
use Rattle.seg_journal.specs.declared.journal.End.TheVariants.{Admitted}
use Rattle.seg_journal.specs.declared.journal.Entry.{Entry}
use Rattle.seg_journal.specs.declared.moves.Kind.TheVariants.{Admit}
use Rattle.machine_state.proofs.tasks.Filled.{reached_filled}
use Rattle.machine_state.specs.declared.state.TaskRow.{TaskRow}
use Rattle.twe_program.specs.WellFormed.{IsWellFormed}
use Rattle.held_span.specs.Marks.{AreMarksOf}
use Rattle.held_span.specs.Freed.{stages}
use Rattle.held_span.specs.inner.Told.{IsTold}
use Rattle.held_span.proofs.HeldProfiles.{profile_of, told_of}
use Rattle.held_span.specs.inner.Spanning.{IsPlan, IsSpanning, effect_lists}
use Rattle.held_span.proofs.Spans.{counted_reached, plan_of, rest_next}
use Rattle.held_span.proofs.spanning.held_profile.Goals as goal

abbrev no_entry : Entry
no_entry = record { mv = record { kind = Admit; task = 0 }; end = Admitted }

pub marks_of-requires : goal.marks_of-requires
marks_of-requires c = λ t row is.
    let well = subst IsWellFormed c.p.view_is c.p.invariant in
    let reached = counted_reached c.args.p.now c.args.lim c.args.moves.now c.in_ok-journal.journal c.in_ok-journal.st c.in_ok-journal.ensures.counted in
    reached_filled c.args.p.now c.args.lim c.in_ok-journal.st well reached t row (sym (ap (λ (l : List TaskRow). slice_get l t) c.as_slice.ensures) ∙ is)

pub loop-entry-init : goal.loop-entry-init
loop-entry-init c =
    let plan =
    plan_of c.args.p.now c.args.lim c.args.moves.now c.in_ok-journal.journal c.in_ok-journal.st c.in_ok-marks.marks c.in_ok-journal.ensures.counted
    (subst (λ (l : List TaskRow). AreMarksOf (effect_lists l) c.in_ok-marks.marks) c.as_slice.ensures c.in_ok-marks.ensures.marks) c.in_ok-marks.ensures.numbered in
    c.in_ok-run.ensures c.in_ok-journal.st.tasks c.as_slice-entry-items.result.now
    (subst (IsPlan c.args.p.now c.args.lim c.in_ok-marks.marks c.in_ok-journal.st.tasks) (sym c.as_slice-entry-items.ensures) plan)

pub take-requires : goal.take-requires
take-requires c =
    let items = c.as_slice-entry-items.result.now in
    let i = c.loop-entry.entry-index in (
      c.in_ok-journal.st.tasks,
      take i items,
      (get_or items i no_entry).end,
      drop (i + 1) items,
      subst (λ (l : List Entry). IsSpanning c.args.p.now c.args.lim c.in_ok-marks.marks c.in_ok-journal.st.tasks (take i items) l c.loop-entry.run) (rest_next items i no_entry c.loop-entry-test.true) c.loop-entry.invariant,
    )

pub loop-entry-preserved : goal.loop-entry-preserved
loop-entry-preserved c =
    let items = c.as_slice-entry-items.result.now in
    let i = c.loop-entry.entry-index in
    let before = subst (λ (l : List Entry). IsSpanning c.args.p.now c.args.lim c.in_ok-marks.marks c.in_ok-journal.st.tasks (take i items) l c.loop-entry.run) (rest_next items i no_entry c.loop-entry-test.true) c.loop-entry.invariant in
    subst (λ (l : List Entry). IsSpanning c.args.p.now c.args.lim c.in_ok-marks.marks c.in_ok-journal.st.tasks l (drop (i + 1) items) c.take.new.self) (sym (take_more items i no_entry c.loop-entry-test.true))
    (c.in_ok-take.ensures c.in_ok-journal.st.tasks (take i items) (get_or items i no_entry).end (drop (i + 1) items) before)

pub heaviest-requires : goal.heaviest-requires
heaviest-requires c = (c.loop-entry.invariant.nodes, c.loop-entry.invariant.front)

pub returns-clause-held : goal.returns-clause-held
returns-clause-held c =
    let items = c.as_slice-entry-items.result.now in
    let journal = c.in_ok-journal.journal in
    let st = c.in_ok-journal.st in
    let counted = c.in_ok-journal.ensures.counted in
    let i = c.loop-entry.entry-index in
    let h = c.in_ok-heaviest.heaviest in
    let s = subst (λ (l : List Entry). IsSpanning c.args.p.now c.args.lim c.in_ok-marks.marks st.tasks l (drop i items) c.loop-entry.run)
    (take_all i items c.loop-entry-test.false ∙ c.as_slice-entry-items.ensures) c.loop-entry.invariant in
    let told = told_of c.args.p.now c.args.lim c.args.moves.now journal st counted c.in_ok-marks.marks c.loop-entry.run (drop i items) s h (c.in_ok-heaviest.ensures.earliest s.nodes s.front) (c.in_ok-heaviest.ensures.last s.nodes s.front) in
    let all = subst (λ (l : List Entry). IsTold st.tasks (stages c.args.p.now c.args.lim journal) l c.loop-entry.run.notes h) (sym c.as_slice-2.ensures) told in
    profile_of c.args.p.now c.args.lim c.args.moves.now journal st counted c.in_ok-marks.marks c.loop-entry.run (drop i items) s h (c.in_ok-heaviest.ensures.heaviest s.nodes s.front)
    (c.in_ok-heaviest.ensures.earliest s.nodes s.front) c.in_ok-holds.holds (c.in_ok-holds.ensures st.tasks (stages c.args.p.now c.args.lim journal) all)
