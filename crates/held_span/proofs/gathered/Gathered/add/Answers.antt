use Rattle.std.proofs.Common.{◌++◌, ◌∷◌, [], ℕ, List, sym, subst}
use Rattle.std.specs.List.{AllZip}
use Rattle.held_span.specs.Rivals.{AreNumbersOf}
use Rattle.held_span.proofs.Longer.{all-numbers-kept, zip-push}
use Rattle.held_span.proofs.gathered.Gathered.add.Goals as goal

pub numbers_of-requires-clause-placed : goal.numbers_of-requires-clause-placed
numbers_of-requires-clause-placed c = c.requires.gathering.1.placed

pub returns : goal.returns
returns c = λ lists h.
    let old = c.args.self.now in
    let effects = c.numbers_of.new.placed.effects in
    record {
      placed = c.in_ok-numbers.ensures.placed;
      lists_are =
          subst (λ (numbers : List (List ℕ)). AllZip (AreNumbersOf effects) numbers (lists ++ c.args.effects.now ∷ [])) (sym c.in_ok-push.ensures.ok)
          (zip-push (AreNumbersOf effects) old.lists lists _ c.args.effects.now (all-numbers-kept old.placed.effects effects c.in_ok-numbers.ensures.kept old.lists lists h.lists_are)
          c.in_ok-numbers.ensures.numbers);
    }
