use Rattle.flat_sched.proofs.PassedOn.{passed_empty, passed_on}
use Rattle.flat_sched.proofs.passing.pass_on.Goals as goal

pub returns-in_default-take_made : goal.returns-in_default-take_made
returns-in_default-take_made c =
    passed_empty c.args.st.now c.args.t c.args.books.now c.take.new.groups c.in-Some.group c.in-Some.ensures.some c.take.ensures.kept c.take.ensures.back
    c.in_default-take_made.ensures.none

pub returns : goal.returns
returns c =
    let found = c.in-Some-take_made in
    passed_on c.args.st.now c.args.t c.args.books.now c.take.new.groups c.in-Some.group c.in-Some.ensures.some c.take.ensures.kept c.take.ensures.back
    found.heir c.take_made.new.tasks found.ensures.made found.ensures.there found.ensures.lower found.ensures.kept found.ensures.back
    c.add.new.self c.in_ok-add.ensures.added c.in_ok-add.ensures.kept
    c.release.new.books c.in_ok-release.ensures
    c.put.new.groups c.in_ok-put.ensures.there c.in_ok-put.ensures.kept c.in_ok-put.ensures.back
