use Rattle.std.proofs.Common.{◌⊎◌, ◌+◌, List, get_or, sym, subst, take}
use Rattle.std.proofs.lemmas.List.{take_all}
use Rattle.held_span.specs.declared.marks.EffectMark.{EffectMark}
use Rattle.held_span.specs.declared.marks.EffectMark.TheVariants.{Own}
use Rattle.held_span.specs.inner.Holding.{Holds, HoldsOne, IsLowestOf}
use Rattle.held_span.proofs.Held.{holds_more, lowest_both, lowest_same}
use Rattle.held_span.proofs.holders.Holders.lowest.Goals as goal

pub loop-mark-preserved : goal.loop-mark-preserved
loop-mark-preserved c =
    let holders = c.args.self.now in
    let marks = c.args.marks.now in
    let i = c.loop-mark.mark-index in
    let mark : EffectMark = get_or marks i (Own 0) in
    subst (IsLowestOf (HoldsOne holders (take (i + 1) marks))) (sym c.lower-lowest.ensures)
    (lowest_same (λ n. HoldsOne holders (take i marks) n ⊎ Holds holders mark n) (HoldsOne holders (take (i + 1) marks))
    (holds_more marks i (Own 0) c.loop-mark-test.true holders) _
    (lowest_both (HoldsOne holders (take i marks)) (Holds holders mark) c.loop-mark.lowest c.lowest_of.result c.loop-mark.invariant c.lowest_of.ensures))

pub returns : goal.returns
returns c =
    subst (λ (l : List EffectMark). IsLowestOf (HoldsOne c.args.self.now l) c.loop-mark.lowest) (take_all c.loop-mark.mark-index c.args.marks.now c.loop-mark-test.false) c.loop-mark.invariant
