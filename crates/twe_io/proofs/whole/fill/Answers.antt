use Rattle.std.proofs.Common.{rules, inr, arith, length, take}
use Rattle.twe_io.specs.inner.Filling.{BreaksOff}
use Rattle.twe_io.proofs.Progress.{Filled-none, Filled-more, reads_then, reads_end, on_err}
use Rattle.twe_io.proofs.whole.fill.Goals as goal

pub loop-taken-init : goal.loop-taken-init
loop-taken-init g c = Filled-none _ _ _ _ _

pub loop-taken-preserved : goal.loop-taken-preserved
loop-taken-preserved g c =
    let said = c.in_ok-given.ensures in
    Filled-more _ _ _ _ _ _ _ _ _ _ _ _ c.loop-taken.invariant (omega arith) (omega arith) (search rules) said.given said.counts (search rules) (search rules) said.gives

pub returns-in_err-given-clause-broken : goal.returns-in_err-given-clause-broken
returns-in_err-given-clause-broken g c =
    let broken : BreaksOff g.S.Source.read_gives (length c.args.buffer.now) c.args.source.now c.read.new.self =
    (take c.loop-taken.taken c.loop-taken.buffer, reads_then _ _ _ _ _ _ _ _ _ _ _ c.loop-taken.invariant (search rules) (omega arith) (search rules) c.in_err-given.ensures.gives) in
    on_err _ _ broken

pub returns-then-given-eq0-clause-reads : goal.returns-then-given-eq0-clause-reads
returns-then-given-eq0-clause-reads g c =
    inr (reads_end _ _ _ _ _ _ _ _ _ _ _ _ _ c.loop-taken.invariant (search rules) (omega arith) (search rules) (search rules) c.in_ok-given.ensures.gives)
