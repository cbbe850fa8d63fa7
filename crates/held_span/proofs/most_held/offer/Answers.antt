use Rattle.std.proofs.Common.{arith}
use Rattle.std.specs.Prelude.{nat_lt, not}
use Rattle.std.proofs.lemmas.List.Sums.{prefix_len-le-length}
use Rattle.held_span.specs.declared.pair.HeldPair.{HeldPair}
use Rattle.held_span.proofs.most_held.offer.Goals as goal

pub insert-requires : goal.insert-requires
insert-requires c =
    let below = prefix_len-le-length (λ (p : HeldPair). not (nat_lt p.time c.args.pair.time)) c.as_slice.result.now in
    omega (arith, below, c.place_of-at.ensures, c.as_slice.ensures.len)
