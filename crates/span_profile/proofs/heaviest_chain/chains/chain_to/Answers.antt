use Rattle.span_profile.proofs.heaviest_chain.Walk.{walked, walks_below, walks_on}
use Rattle.span_profile.proofs.heaviest_chain.chains.chain_to.Goals as goal

pub following-preserved : goal.following-preserved
following-preserved c =
    let bests = c.args.bests.now in
    let below = c.following.invariant.there c.in-Some.node c.in-Some.is in
    record {
      there = λ next is. walks_below bests c.as_slice.result.now c.in-Some.node next _ c.requires.lower c.as_slice.ensures below is;
      follows =
          walks_on bests c.as_slice.result.now c.args.last c.in-Some.node _ c.following.at c.following.chain c.push.new.self c.as_slice.ensures below c.in-Some.is c.in_ok-push.ensures.ok
          c.following.invariant.follows;
    }

pub returns : goal.returns
returns c =
    walked c.args.bests.now c.args.last c.following.at c.following.chain c.into_list.result c.in_default.is c.into_list.ensures c.following.invariant.follows
