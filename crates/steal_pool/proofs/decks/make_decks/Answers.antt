use Rattle.std.proofs.Common.{List, [], ◌∷◌, ◌++◌, length, ap, sym, ◌∙◌, subst}
use Rattle.std.proofs.lemmas.List.{length-map}
use Rattle.steal_pool.specs.declared.law.Hand.{Hand}
use Rattle.steal_pool.specs.DeckEnds.{DeckEnds, AreNew}
use Rattle.steal_pool.proofs.NewLemmas.{agrees, one_more, written_back}
use Rattle.steal_pool.proofs.decks.make_decks.Goals as goal

pub new-requires : goal.new-requires
new-requires c =
    let met = c.in_ok-others.ensures in
    let many = sym c.loop-number.invariant.many ∙ ap (λ l. length l) (sym c.as_mut_slice.ensures.value) in
    agrees c.loop-number.number c.in_ok-own.own.hand.bound c.as_mut_slice.result.now c.meet_all.new.own c.in_ok-others.others.items met.ends many (ap (λ (h : Hand). h.bound) met.shared)

pub loop-number-preserved : goal.loop-number-preserved
loop-number-preserved c =
    let met = c.in_ok-others.ensures in
    let own = c.in_ok-own.own in
    let new : AreNew c.loop-number.number c.args.bound c.as_mut_slice.result.now =
    subst (λ (all : List DeckEnds). AreNew c.loop-number.number c.args.bound all) (sym c.as_mut_slice.ensures.value) c.loop-number.invariant in
    let count = ap (λ l. length l) met.met ∙ (length-map c.as_mut_slice.result.now _ ∙ (ap (λ l. length l) c.as_mut_slice.ensures.value ∙ sym c.loop-number.decks.ok.0)) in
    let decks = written_back c.loop-number.decks.items c.meet_all.new.decks c.loop-number.decks.len count ∙ met.met in
    let longer = c.in_ok-push.ensures.items ∙ (λ i. decks i ++ c.new.ensures i ∷ []) in
    one_more c.loop-number.number c.args.bound c.as_mut_slice.result.now new own c.meet_all.new.own c.in_ok-others.others.items c.push.new.self.items c.in_ok-own.ensures met.own met.shared met.ends longer
