use Rattle.std.proofs.Common.{◌≡◌, ◌+◌, List, [], ◌∷◌, ◌++◌, Option, ap, length, length-append, sym, subst, arith}
use Rattle.std.specs.Prelude.{IfSome}
use Rattle.seg_journal.specs.declared.journal.Entry.{Entry}
use Rattle.seg_journal.specs.declared.moves.Move.{Move}
use Rattle.machine_state.specs.declared.ending.Outcome.TheVariants.{Unfinished}
use Rattle.machine_state.specs.LowestFirst.{IsLowest}
use Rattle.flat_sched.specs.inner.Books.{Keeps}
use Rattle.flat_sched.specs.inner.Lists.{IsReady}
use Rattle.twe_base.specs.Limits.{Bounds, IsWithin}
use Rattle.twe_program.specs.WellFormed.{IsWellFormed}
use Rattle.machine_state.specs.declared.state.State.{State}
use Rattle.machine_state.specs.Moves.{move_result}
use Rattle.machine_state.specs.Runs.{IsOutcome, entry_of}
use Rattle.flat_sched.proofs.Going.{IsGoing, at_start, goes_on, run_goes_on}
use Rattle.flat_sched.proofs.lowest_run.run_lowest_while.Goals as goal

-- no move was taken yet
pub moves-init : goal.moves-init
moves-init g c = record {
  going = subst (λ (journal : List Entry). IsGoing c.args.p.now c.args.lim journal c.in_ok-st.st) (sym c.new-journal.ensures)
      (subst (λ (st : State). IsGoing c.args.p.now c.args.lim [] st) (sym c.in_ok-st.ensures) (at_start c.args.p.now c.args.lim));
  keeps = λ free. subst (λ (st : State). Keeps st c.in_ok-books.books) (sym c.in_ok-st.ensures) (c.in_ok-books.ensures c.args.p.now c.args.lim);
}

-- each move adds an entry, and a legal journal has room for it
pub moves-smaller : goal.moves-smaller
moves-smaller g c =
    let p = c.args.p.now in
    let low = subst (λ (o : Option Move). IfSome o (IsLowest c.moves.st)) c.in-Some.is c.in_ok-mv.ensures.lowest in
    let unfinished = subst (λ (o : Option Move). IfSome o (λ (m : Move). IsOutcome c.moves.st Unfinished)) c.in-Some.is c.in_ok-mv.ensures.unfinished in
    let journal = c.moves.journal in
    let entry = entry_of p c.args.lim c.moves.st c.in-Some.mv in
    let well : IsWellFormed p = subst IsWellFormed c.p.view_is c.p.invariant in
    let within : IsWithin c.args.lim.fuel c.args.lim.tasks = subst (λ (lim : Bounds). IsWithin lim.fuel lim.tasks) c.lim.view_is c.lim.invariant in
    let legal = (run_goes_on p c.args.lim journal c.moves.st c.in-Some.mv c.moves.invariant.going unfinished low).legal in
    let short = c.journals_are_short.ensures p c.args.lim (journal ++ entry ∷ []) well within legal in
    let one : length (journal ++ entry ∷ []) ≡ length journal + 1 = length-append journal (entry ∷ []) in
    let is : length c.take.new.journal ≡ length (journal ++ entry ∷ []) = ap length c.in_ok-take.ensures.entered in
    omega (arith, short, one, is)

-- and goes on with the run
pub moves-preserved : goal.moves-preserved
moves-preserved g c =
    let p = c.args.p.now in
    let low = subst (λ (o : Option Move). IfSome o (IsLowest c.moves.st)) c.in-Some.is c.in_ok-mv.ensures.lowest in
    let unfinished = subst (λ (o : Option Move). IfSome o (λ (m : Move). IsOutcome c.moves.st Unfinished)) c.in-Some.is c.in_ok-mv.ensures.unfinished in
    let more = goes_on p c.args.lim c.moves.journal c.moves.st c.in-Some.mv c.moves.invariant.going unfinished low in
    record {
      going = subst (λ (st : State). IsGoing p c.args.lim c.take.new.journal st) (sym c.in_ok-take.ensures.state)
          (subst (λ (journal : List Entry). IsGoing p c.args.lim journal (move_result p c.args.lim c.moves.st c.in-Some.mv).0) (sym c.in_ok-take.ensures.entered) more);
      keeps = c.in_ok-take.ensures.keeps;
    }

-- the books name the task of the move
pub take-requires-clause-ready : goal.take-requires-clause-ready
take-requires-clause-ready g c =
    subst (λ (o : Option Move). IfSome o (λ (m : Move). IsReady c.next_move.new.books.ready m.task)) c.in-Some.is c.in_ok-mv.ensures.ready

pub take-requires-clause-keeps : goal.take-requires-clause-keeps
take-requires-clause-keeps g c =
    let unfinished = subst (λ (o : Option Move). IfSome o (λ (m : Move). IsOutcome c.moves.st Unfinished)) c.in-Some.is c.in_ok-mv.ensures.unfinished in
    c.in_ok-mv.ensures.keeps unfinished.0
