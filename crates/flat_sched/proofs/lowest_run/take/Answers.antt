use Rattle.std.proofs.Common.{◌≡◌, ◌≤◌, ◌<◌, ◌+◌, ℕ, ap, sym, subst, arith, length}
use Rattle.seg_journal.specs.declared.journal.End.{End}
use Rattle.twe_program.specs.WellFormed.{IsWellFormed}
use Rattle.machine_state.specs.declared.state.State.{State}
use Rattle.twe_machine.specs.Listings.{IsListing}
use Rattle.machine_state.specs.Moves.{move_result}
use Rattle.twe_machine.proofs.listing.Listed.{made_one, was_listed}
use Rattle.machine_state.proofs.tasks.LeftAlone.{moves_leave_alone}
use Rattle.machine_state.proofs.tasks.Movers.{mover_there}
use Rattle.machine_state.proofs.standing.ReachedStands.{reached_stands}
use Rattle.flat_sched.specs.inner.Books.{Keeps, Noted}
use Rattle.flat_sched.proofs.HeldUp.{linked}
use Rattle.flat_sched.proofs.Step.{keeps_on}
use Rattle.flat_sched.proofs.lowest_run.take.Goals as goal

-- there is a link for each row
pub note-requires-clause-linked : goal.note-requires-clause-linked
note-requires-clause-linked c =
    let well = subst IsWellFormed c.p.view_is c.p.invariant in
    let alone = moves_leave_alone c.args.p.now c.args.lim c.args.st.now c.args.mv well c.requires.reached c.requires.legal in
    let is = ap (λ (x : State × End). x.0) c.in_ok-end.ensures in
    subst (λ (s : State). length s.links ≡ length s.tasks) (sym is) alone.as_many_links

-- the task is still there
pub note-requires-clause-there : goal.note-requires-clause-there
note-requires-clause-there c =
    let well = subst IsWellFormed c.p.view_is c.p.invariant in
    let alone = moves_leave_alone c.args.p.now c.args.lim c.args.st.now c.args.mv well c.requires.reached c.requires.legal in
    let is = ap (λ (x : State × End). x.0) c.in_ok-end.ensures in
    let below = mover_there c.args.st.now c.args.mv.kind c.args.mv.task c.requires.legal in
    subst (λ (s : State). c.args.mv.task < length s.tasks) (sym is) (omega (arith, alone.tasks, below))

-- one more task was made at most
pub note-requires-clause-one : goal.note-requires-clause-one
note-requires-clause-one c =
    let well = subst IsWellFormed c.p.view_is c.p.invariant in
    let alone = moves_leave_alone c.args.p.now c.args.lim c.args.st.now c.args.mv well c.requires.reached c.requires.legal in
    let is = ap (λ (x : State × End). x.0) c.in_ok-end.ensures in
    let stands = reached_stands c.args.p.now c.args.lim c.args.st.now well c.requires.reached in
    let many = linked c.args.st.now stands.links in
    let few = made_one (move_result c.args.p.now c.args.lim c.args.st.now c.args.mv).1 in
    subst (λ (s : State). length s.tasks ≤ c.task_count-before.result + 1) (sym is) (omega (arith, alone.tasks, few, many))

-- the list of the enabled tasks was that of the state before
pub note-requires-clause-was : goal.note-requires-clause-was
note-requires-clause-was c =
    was_listed c.args.p.now c.args.lim c.args.st.now c.step.new.st c.args.mv c.task_count-before.result c.args.books.now.enabled (subst IsWellFormed c.p.view_is c.p.invariant)
    c.requires.reached c.requires.legal (ap (λ (x : State × End). x.0) c.in_ok-end.ensures) c.task_count-before.ensures.count c.requires.keeps.listing

-- the books are in step with the new state
pub returns-clause-keeps : goal.returns-clause-keeps
returns-clause-keeps c = λ none.
    let p = c.args.p.now in
    let st = c.args.st.now in
    let well = subst IsWellFormed c.p.view_is c.p.invariant in
    let stands = reached_stands p c.args.lim st well c.requires.reached in
    let is = ap (λ (x : State × End). x.0) c.in_ok-end.ensures in
    let count : c.task_count-before.result ≡ length st.tasks = let many = linked st stands.links in omega (arith, many) in
    let noted = subst (λ (n : ℕ). Noted (move_result p c.args.lim st c.args.mv).0 c.args.mv n c.args.books.now c.note.new.books) count
    (subst (λ (s : State). Noted s c.args.mv c.task_count-before.result c.args.books.now c.note.new.books) is c.in_ok-note.ensures.noted) in
    subst (λ (s : State). Keeps s c.note.new.books) (sym is)
    (keeps_on p c.args.lim well st c.args.mv.kind c.args.mv.task c.requires.legal stands c.args.books.now c.note.new.books c.requires.keeps c.requires.ready
    (subst (λ (s : State). IsListing s c.note.new.books.enabled) is c.in_ok-note.ensures.listing) noted)
