use Rattle.std.proofs.Common.{ℕ, List, sym, subst}
use Rattle.std.specs.Prelude.{slice_set}
use Rattle.held_span.specs.Tables.{IsListed}
use Rattle.held_span.proofs.Longer.{put-has, put-keeps}
use Rattle.held_span.proofs.lists.put.Goals as goal

pub returns-clause-added : goal.returns-clause-added
returns-clause-added c =
    let lists = c.args.lists.now in
    subst (λ (l : List ℕ). IsListed (slice_set lists c.args.at l) c.args.at c.args.number) (sym c.in_ok-push.ensures.ok)
    (put-has lists c.args.at c.item_mut-list.result.now c.args.number c.item_mut-list.ensures.value)

pub returns-clause-kept : goal.returns-clause-kept
returns-clause-kept c = λ i n h.
    let lists = c.args.lists.now in
    subst (λ (l : List ℕ). IsListed (slice_set lists c.args.at l) i n) (sym c.in_ok-push.ensures.ok)
    (put-keeps lists c.args.at c.item_mut-list.result.now c.args.number i n c.item_mut-list.ensures.value h)
