use Rattle.std.proofs.Common.{arith}
use Rattle.held_span.proofs.Walked.{walk-begins, walk-ends, walk-goes, walk-lower, walk-there}
use Rattle.held_span.proofs.ways.Ways.push_way.Goals as goal

pub walking-init : goal.walking-init
walking-init c = record { there = c.requires.there; passed = walk-begins c.args.self.now c.args.s c.args.t c.args.keys.now }

pub first_of-at-requires : goal.first_of-at-requires
first_of-at-requires c =
    walk-there c.args.self.now c.requires.ways c.args.s c.walking.at c.maker_of-maker.result c.walking-test.true c.walking.invariant.there c.maker_of-maker.ensures

pub walking-preserved : goal.walking-preserved
walking-preserved c =
    let ways = c.args.self.now in
    let lower = walk-lower ways c.requires.ways c.args.s c.walking.at c.maker_of-maker.result c.first_of-at.result c.walking-test.true c.maker_of-maker.ensures c.first_of-at.ensures in
    let there = c.walking.invariant.there in
    record {
      there = omega arith;
      passed =
          walk-goes ways c.args.s c.args.t c.args.keys.now c.walking.at c.maker_of-maker.result c.first_of-at.result c.walking.keys c.push.new.self c.walking-test.true c.maker_of-maker.ensures
          c.first_of-at.ensures c.in_ok-push.ensures.ok c.walking.invariant.passed;
    }

pub walking-smaller : goal.walking-smaller
walking-smaller c =
    walk-lower c.args.self.now c.requires.ways c.args.s c.walking.at c.maker_of-maker.result c.first_of-at.result c.walking-test.true c.maker_of-maker.ensures c.first_of-at.ensures

pub returns-clause-walked : goal.returns-clause-walked
returns-clause-walked c = walk-ends c.args.self.now c.args.s c.args.t c.args.keys.now c.walking.at c.walking.keys c.walking-test.false c.walking.invariant.passed
