use Rattle.std.proofs.Common.{◌≡◌, ◌<◌, ◌+◌, ℕ, Option, sym, subst, rules, arith}
use Rattle.std.specs.Prelude.{IfNone, IfSome}
use Rattle.twe_program.specs.WellFormed.{IsWellFormed}
use Rattle.seg_journal.specs.declared.moves.Move.{Move}
use Rattle.machine_state.specs.Legal.{MayMove}
use Rattle.flat_sched.specs.declared.books.Books.{Books}
use Rattle.flat_sched.specs.inner.Books.{Keeps, KeepsFrom, Looked}
use Rattle.flat_sched.specs.inner.Lists.{IsReady, IsReadyFrom}
use Rattle.flat_sched.proofs.HeldUp.{linked}
use Rattle.flat_sched.proofs.LookedAt.{keeps_all, keeps_dropped, keeps_past, keeps_some, ready_of}
use Rattle.flat_sched.proofs.lowest_run.lowest_ready.Goals as goal

pub looking-init : goal.looking-init
looking-init c = keeps_all c.args.st.now c.args.books.now c.requires.keeps

pub look-requires-clause-linked : goal.look-requires-clause-linked
look-requires-clause-linked c = linked c.args.st.now (c.links_agree.ensures c.args.p.now c.args.st.now c.requires.reachable)

pub look-requires-clause-reachable : goal.look-requires-clause-reachable
look-requires-clause-reachable c = (c.args.p.now, subst IsWellFormed c.p.view_is c.p.invariant, c.requires.reachable)

pub look-requires-clause-groups : goal.look-requires-clause-groups
look-requires-clause-groups c = c.looking.invariant.groups

pub look-requires-clause-listing : goal.look-requires-clause-listing
look-requires-clause-listing c = c.looking.invariant.listing

-- the move of the lowest task that is to be looked at is the lowest
pub returns-in-Some-2-clause-lowest : goal.returns-in-Some-2-clause-lowest
returns-in-Some-2-clause-lowest c =
    let st = c.args.st.now in
    let task = subst (λ (o : Option Move). IfSome o (λ (m : Move). m.task ≡ c.in-Some.t)) c.in-Some-2.is c.in_ok-mv.ensures.task in
    record {
      legal = subst (λ (o : Option Move). IfSome o (MayMove st)) c.in-Some-2.is c.in_ok-mv.ensures.legal;
      lowest = λ other may.
          let found = ready_of (IsReadyFrom c.looking.from c.looking.books.ready) st c.looking.books c.looking.invariant other.kind other.task may in
          let least = c.in-Some.ensures.some found.0 (c.lowest_from.ensures.kept found.0 found.2) in
          let low = found.1 in
          omega (arith, least, low, task);
    }

pub returns-in-Some-2-clause-keeps : goal.returns-in-Some-2-clause-keeps
returns-in-Some-2-clause-keeps c =
    let st = c.args.st.now in
    let same = subst (λ (o : Option Move). IfSome o (λ (m : Move). c.look.new.books ≡ record c.looking.books { ready = c.lowest_from.new.self })) c.in-Some-2.is c.in_ok-mv.ensures.same in
    subst (λ (b : Books). Keeps st b) (sym same)
    (keeps_some c.looking.from st _ (keeps_dropped c.looking.from st c.looking.books c.lowest_from.new.self c.looking.invariant c.lowest_from.ensures.kept))

pub returns-in-Some-2-clause-ready : goal.returns-in-Some-2-clause-ready
returns-in-Some-2-clause-ready c =
    let same = subst (λ (o : Option Move). IfSome o (λ (m : Move). c.look.new.books ≡ record c.looking.books { ready = c.lowest_from.new.self })) c.in-Some-2.is c.in_ok-mv.ensures.same in
    let task = subst (λ (o : Option Move). IfSome o (λ (m : Move). m.task ≡ c.in-Some.t)) c.in-Some-2.is c.in_ok-mv.ensures.task in
    subst (λ (b : Books). IsReady b.ready c.in-Some-2.mv.task) (sym same)
    (subst (λ (n : ℕ). IsReady c.lowest_from.new.self n) (sym task) c.in-Some.ensures.there.1)

-- the tasks up to one that was looked at and has no move need not be looked at
pub looking-smaller : goal.looking-smaller
looking-smaller c =
    let there = c.in-Some.ensures.there.0 in
    let fits : c.in-Some.t < 4294967296 = search rules in
    omega (arith, there, fits)

pub looking-preserved : goal.looking-preserved
looking-preserved c =
    let st = c.args.st.now in
    let b : Books = record c.looking.books { ready = c.lowest_from.new.self } in
    subst (λ (n : ℕ). KeepsFrom (n + 1) st c.look.new.books) (sym c.from-from.ensures)
    (keeps_past c.looking.from st b c.look.new.books c.in-Some.t
    (subst (λ (o : Option Move). IfNone o (Looked st c.in-Some.t b c.look.new.books)) c.in_default-2.is c.in_ok-mv.ensures.looked)
    c.in-Some.ensures.some
    (keeps_dropped c.looking.from st c.looking.books c.lowest_from.new.self c.looking.invariant c.lowest_from.ensures.kept))

pub returns-clause-none : goal.returns-clause-none
returns-clause-none c = λ mv may.
    let found = ready_of (IsReadyFrom c.looking.from c.looking.books.ready) c.args.st.now c.looking.books c.looking.invariant mv.kind mv.task may in
    c.in_default.ensures.none found.0 (c.lowest_from.ensures.kept found.0 found.2)

pub returns-clause-keeps : goal.returns-clause-keeps
returns-clause-keeps c =
    keeps_some c.looking.from c.args.st.now _ (keeps_dropped c.looking.from c.args.st.now c.looking.books c.lowest_from.new.self c.looking.invariant c.lowest_from.ensures.kept)
