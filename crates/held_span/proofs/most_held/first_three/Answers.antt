use Rattle.std.proofs.Common.{◌∙◌, [], ap, List, get_or, sym, take}
use Rattle.std.proofs.lemmas.List.{take_more}
use Rattle.std.proofs.lemmas.List.Sums.{fold_push}
use Rattle.held_span.specs.inner.Ranks.{ranked, with_pair}
use Rattle.held_span.specs.declared.pair.DeclaredEffect.{DeclaredEffect}
use Rattle.held_span.specs.declared.pair.HeldPair.{HeldPair}
use Rattle.held_span.proofs.Ranked.{first_with}
use Rattle.held_span.proofs.most_held.first_three.Goals as goal

pub loop-pair-preserved : goal.loop-pair-preserved
loop-pair-preserved c =
    let effect : DeclaredEffect = record { decl = 0; effect = 0 } in
    let none : HeldPair = record { pair = record { holder = effect; held = effect }; admissions = 0; time = 0 } in
    let pairs = c.args.pairs.now in
    let at = c.loop-pair.pair-index in
    let pair = get_or pairs at none in
    c.in_ok-offer.ensures
    ∙ ap (λ (most : List HeldPair). take 3 (with_pair most pair)) c.loop-pair.invariant
    ∙ first_with 3 pair (ranked (take at pairs))
    ∙ sym (ap (take 3) (ap ranked (take_more pairs at none c.loop-pair-test.true) ∙ fold_push with_pair [] (take at pairs) pair))
