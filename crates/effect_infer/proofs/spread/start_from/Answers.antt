use Rattle.std.proofs.Common.{◌<◌, ◌+◌, length, sym, subst, arith}
use Rattle.effect_infer.specs.Kept.{method_rank}
use Rattle.effect_infer.proofs.Finding.{StartsTo, starts-more, starts-skip, starts-end}
use Rattle.effect_infer.proofs.spread.start_from.Goals.{then-least-rank+in_ok-start, else-least-rank}
use Rattle.effect_infer.proofs.spread.start_from.Goals as goal

-- one need more, or one that is left for later
pub loop-found-preserved : goal.loop-found-preserved
loop-found-preserved c =
    let methods = length c.args.callers.now in
    let calls = c.args.calls.now in
    let starts = c.args.starts.now in
    let least = c.args.least in
    let i = c.loop-found.found-index in
    let old = c.loop-found.all in
    let found = c.found-item.result in
    let so_far = c.loop-found.invariant in
    elim c.if-least-rank.branch [
      | then-least-rank+in_ok-start w ↦
          subst (StartsTo methods calls starts least (i + 1)) (sym w.all-is)
          (starts-more methods calls starts least i old found so_far c.loop-found-test.true (sym c.found-item.is) w.start.new.all w.in_ok-start.ensures.spreads w.in_ok-start.ensures.met)
      | else-least-rank w ↦
          let low : method_rank found.need < least = let past = w.if-least-rank.false in let rank = c.rank.ensures.rank in omega (arith, past, rank) in
          subst (StartsTo methods calls starts least (i + 1)) (sym w.all-is)
          (starts-skip methods calls starts least i old found so_far c.loop-found-test.true (sym c.found-item.is) low)
    ]

pub returns : goal.returns
returns c =
    starts-end (length c.args.callers.now) c.args.calls.now c.args.starts.now c.args.least c.loop-found.found-index c.loop-found.all c.loop-found-test.false c.loop-found.invariant
