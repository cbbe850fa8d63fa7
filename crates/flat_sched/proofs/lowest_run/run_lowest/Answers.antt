use Rattle.std.proofs.Common.{◌≡◌, ◌+◌, List, [], ◌∷◌, ◌++◌, Option, ap, length, length-append, sym, subst, arith}
use Rattle.std.specs.Prelude.{IfNone, IfSome}
use Rattle.seg_journal.specs.declared.journal.Entry.{Entry}
use Rattle.seg_journal.specs.declared.moves.Move.{Move}
use Rattle.machine_state.specs.declared.ending.Outcome.TheVariants.{Unfinished}
use Rattle.machine_state.specs.LowestFirst.{IsLowest, IsOver}
use Rattle.flat_sched.specs.inner.Books.{Keeps}
use Rattle.flat_sched.specs.inner.Lists.{IsReady}
use Rattle.twe_base.specs.Limits.{Bounds, IsWithin}
use Rattle.twe_program.specs.WellFormed.{IsWellFormed}
use Rattle.machine_state.specs.declared.state.State.{State}
use Rattle.machine_state.specs.Moves.{move_result}
use Rattle.machine_state.specs.Runs.{AllTasksDone, EachOnce, IsOutcome, entry_of}
use Rattle.flat_sched.proofs.Going.{IsGoing, at_start, ended_lowest, goes_on, run_goes_on}
use Rattle.flat_sched.proofs.lowest_run.run_lowest.Goals as goal

-- no move was taken yet
pub moves-init : goal.moves-init
moves-init c = record {
  going = subst (λ (journal : List Entry). IsGoing c.args.p.now c.args.lim journal c.in_ok-st.st) (sym c.new-journal.ensures)
      (subst (λ (st : State). IsGoing c.args.p.now c.args.lim [] st) (sym c.in_ok-st.ensures) (at_start c.args.p.now c.args.lim));
  keeps = λ free. subst (λ (st : State). Keeps st c.in_ok-books.books) (sym c.in_ok-st.ensures) (c.in_ok-books.ensures c.args.p.now c.args.lim);
}

-- each move adds an entry, and a legal journal has room for it
pub moves-smaller : goal.moves-smaller
moves-smaller c =
    let p = c.args.p.now in
    let low = subst (λ (o : Option Move). IfSome o (IsLowest c.moves.st)) c.in-Some.is c.in_ok-mv.ensures.lowest in
    let unfinished = subst (λ (o : Option Move). IfSome o (λ (m : Move). IsOutcome c.moves.st Unfinished)) c.in-Some.is c.in_ok-mv.ensures.unfinished in
    let journal = c.moves.journal in
    let entry = entry_of p c.args.lim c.moves.st c.in-Some.mv in
    let well : IsWellFormed p = subst IsWellFormed c.p.view_is c.p.invariant in
    let within : IsWithin c.args.lim.fuel c.args.lim.tasks = subst (λ (lim : Bounds). IsWithin lim.fuel lim.tasks) c.lim.view_is c.lim.invariant in
    let legal = (run_goes_on p c.args.lim journal c.moves.st c.in-Some.mv c.moves.invariant.going unfinished low).legal in
    let short = c.journals_are_short.ensures p c.args.lim (journal ++ entry ∷ []) well within legal in
    let one : length (journal ++ entry ∷ []) ≡ length journal + 1 = length-append journal (entry ∷ []) in
    let is : length c.take.new.journal ≡ length (journal ++ entry ∷ []) = ap length c.in_ok-take.ensures.entered in
    omega (arith, short, one, is)

-- and goes on with the run
pub moves-preserved : goal.moves-preserved
moves-preserved c =
    let p = c.args.p.now in
    let low = subst (λ (o : Option Move). IfSome o (IsLowest c.moves.st)) c.in-Some.is c.in_ok-mv.ensures.lowest in
    let unfinished = subst (λ (o : Option Move). IfSome o (λ (m : Move). IsOutcome c.moves.st Unfinished)) c.in-Some.is c.in_ok-mv.ensures.unfinished in
    let more = goes_on p c.args.lim c.moves.journal c.moves.st c.in-Some.mv c.moves.invariant.going unfinished low in
    record {
      going = subst (λ (st : State). IsGoing p c.args.lim c.take.new.journal st) (sym c.in_ok-take.ensures.state)
          (subst (λ (journal : List Entry). IsGoing p c.args.lim journal (move_result p c.args.lim c.moves.st c.in-Some.mv).0) (sym c.in_ok-take.ensures.entered) more);
      keeps = c.in_ok-take.ensures.keeps;
    }

-- the books name the task of the move
pub take-requires-clause-ready : goal.take-requires-clause-ready
take-requires-clause-ready c =
    subst (λ (o : Option Move). IfSome o (λ (m : Move). IsReady c.next_move.new.books.ready m.task)) c.in-Some.is c.in_ok-mv.ensures.ready

pub take-requires-clause-keeps : goal.take-requires-clause-keeps
take-requires-clause-keeps c =
    let unfinished = subst (λ (o : Option Move). IfSome o (λ (m : Move). IsOutcome c.moves.st Unfinished)) c.in-Some.is c.in_ok-mv.ensures.unfinished in
    c.in_ok-mv.ensures.keeps unfinished.0

-- what the run has been in the end
pub returns-clause-lowest : goal.returns-clause-lowest
returns-clause-lowest c = ended_lowest c.args.p.now c.args.lim c.moves.journal c.moves.st c.moves.invariant.going
    (subst (λ (o : Option Move). IfNone o (IsOver c.moves.st)) c.in_default.is c.in_ok-mv.ensures.over)

pub returns-clause-once : goal.returns-clause-once
returns-clause-once c = λ all.
    let p = c.args.p.now in
    let run = c.moves.invariant.going.run in
    let well : IsWellFormed p = subst IsWellFormed c.p.view_is c.p.invariant in
    subst (EachOnce c.moves.journal) (sym run.same)
    (c.each_thing_happens_once.ensures.once p c.args.lim c.moves.journal well run.legal (subst AllTasksDone run.same all.1))

pub returns-clause-at_most_once : goal.returns-clause-at_most_once
returns-clause-at_most_once c =
    let p = c.args.p.now in
    c.each_thing_happens_once.ensures.at_most_once p c.args.lim c.moves.journal (subst IsWellFormed c.p.view_is c.p.invariant) c.moves.invariant.going.run.legal

pub returns-clause-short : goal.returns-clause-short
returns-clause-short c =
    let p = c.args.p.now in
    let within : IsWithin c.args.lim.fuel c.args.lim.tasks = subst (λ (lim : Bounds). IsWithin lim.fuel lim.tasks) c.lim.view_is c.lim.invariant in
    c.journals_are_short.ensures p c.args.lim c.moves.journal (subst IsWellFormed c.p.view_is c.p.invariant) within c.moves.invariant.going.run.legal
