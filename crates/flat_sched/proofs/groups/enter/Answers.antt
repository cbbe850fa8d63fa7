use Rattle.std.proofs.Common.{◌≡◌, true, rules, sym}
use Rattle.machine_state.specs.Rows.{IsRow}
use Rattle.flat_sched.proofs.Alike.{alike_more, covered_write}
use Rattle.flat_sched.proofs.groups.enter.Goals as goal

-- effects that cover the key write its path
pub returns-clause-alike : goal.returns-clause-alike
returns-clause-alike c =
    let st = c.args.st.now in
    let row = c.in-Some.row.now in
    let here : IsRow st c.args.t row = sym c.in-Some.ensures in
    let yes : c.covers.result ≡ true = search rules in
    let alike = c.requires.alike in
    let covered = (c.covers.ensures.sets (c.requires.filled c.args.t row here) alike.key.0).0 yes in
    alike_more st c.args.group.now c.add.new.self c.args.t alike (covered_write st c.args.t row c.args.group.now.key alike.path here alike.key covered)
    c.in_ok-add.ensures.back
