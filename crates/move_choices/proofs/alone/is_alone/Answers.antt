use Rattle.std.proofs.Common.{◌≡◌, Some, IsTrue, inl, inr, subst, sym}
use Rattle.effect_sets.specs.Filled.{all_filled}
use Rattle.twe_program.specs.WellFormed.{IsWellFormed}
use Rattle.machine_state.specs.Rows.{EffectsAreFilled, IsRow}
use Rattle.machine_state.proofs.tasks.Filled.{reached_filled}
use Rattle.move_choices.proofs.Tested.{alone_by}
use Rattle.move_choices.proofs.alone.is_alone.Goals as goal

pub spares_made-requires-clause-filled : goal.spares_made-requires-clause-filled
spares_made-requires-clause-filled c = reached_filled c.args.p.now c.requires.0 c.args.st.now (subst IsWellFormed c.p.view_is c.p.invariant) c.requires.1

pub spares_made-requires-clause-filled_too : goal.spares_made-requires-clause-filled_too
spares_made-requires-clause-filled_too c =
    reached_filled c.args.p.now c.requires.0 c.args.st.now (subst IsWellFormed c.p.view_is c.p.invariant) c.requires.1 c.args.t c.in-Some.row.now (sym c.in-Some.ensures)

-- no other task makes any
pub returns-then-others_make_none : goal.returns-then-others_make_none
returns-then-others_make_none c = λ yes.
    let st = c.args.st.now in
    let row = c.in-Some.row.now in
    let wf = subst IsWellFormed c.p.view_is c.p.invariant in
    let filled = reached_filled c.args.p.now c.requires.0 st wf c.requires.1 c.args.t row (sym c.in-Some.ensures) in
    alone_by c.args.p.now wf st c.args.t row (sym c.in-Some.ensures) filled (c.spares_made.ensures c.if-spares_made.true) (inl (c.others_make_none.ensures yes))

-- no declaration interferes
pub returns-else-others_make_none : goal.returns-else-others_make_none
returns-else-others_make_none c = λ yes.
    let st = c.args.st.now in
    let row = c.in-Some.row.now in
    let wf = subst IsWellFormed c.p.view_is c.p.invariant in
    let filled = reached_filled c.args.p.now c.requires.0 st wf c.requires.1 c.args.t row (sym c.in-Some.ensures) in
    alone_by c.args.p.now wf st c.args.t row (sym c.in-Some.ensures) filled (c.spares_made.ensures c.if-spares_made.true) (inr (c.spares_declared.ensures yes))
