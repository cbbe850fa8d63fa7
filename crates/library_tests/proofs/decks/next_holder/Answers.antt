use Rattle.std.proofs.Common.{◌≡◌, List, [], ◌∷◌, ◌++◌, length, sym, ap, ◌∙◌, subst, length-append, arith}
use Rattle.std.specs.List.{All}
use Rattle.std.proofs.Math.Seq.{get_or-append_seam, take-append_seam}
use Rattle.std.proofs.lemmas.List.Elements.{All-take}
use Rattle.steal_pool.specs.DeckEnds.{DeckEnds}
use Rattle.library_tests.proofs.decks.next_holder.Goals as goal

abbrev Bounded : DeckEnds → Type 0
Bounded ends = ends.bound ≡ 9

front : (all xs : List DeckEnds) (x : DeckEnds) → all ≡ xs ++ x ∷ [] → All Bounded all → All Bounded xs
front all xs x is h = subst (All Bounded) (take-append_seam xs (x ∷ [])) (All-take Bounded (length xs) (xs ++ x ∷ []) (subst (All Bounded) is h))

last : (all xs : List DeckEnds) (x : DeckEnds) → all ≡ xs ++ x ∷ [] → All Bounded all → Bounded x
last all xs x is h =
    ap (λ (e : DeckEnds). e.bound) (sym (get_or-append_seam xs x [] x)) ∙ subst (All Bounded) is h (length xs) x (omega (arith, length-append xs (x ∷ [])))

pub invariant_of-result : goal.invariant_of-result
invariant_of-result c = record { bounded = last c.args.decks.now c.pop.new.self c.in_ok-deck.deck c.in_ok-deck.ensures.split c.requires }

pub returns : goal.returns
returns c = front c.args.decks.now c.pop.new.self c.in_ok-deck.deck c.in_ok-deck.ensures.split c.requires
