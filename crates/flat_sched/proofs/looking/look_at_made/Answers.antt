use Rattle.flat_sched.proofs.LookedAt.{looked_held}
use Rattle.flat_sched.proofs.looking.look_at_made.Goals as goal

pub returns-in_ok-release-in-Some-clause-looked : goal.returns-in_ok-release-in-Some-clause-looked
returns-in_ok-release-in-Some-clause-looked c =
    looked_held c.args.st.now c.in-Some.s c.args.t c.args.books.now c.hold.new.books c.release.new.books c.requires.made c.in-Some.ensures.some
    c.in_ok-hold-in-Some.ensures.under c.in_ok-hold-in-Some.ensures.held c.in_ok-release-in-Some.ensures
