-- Comparisons of one declaration more, and texts that are appended.
use Rattle.std.proofs.Common.{◌≡◌, ℕ, List, [], ◌∷◌, ◌++◌, Option, None, Some, ap, ◌∙◌, subst, append_assoc}
use Rattle.std.specs.Prelude.{IfNone, IfSome}
use Rattle.effect_sets.specs.declared.effects.Summary.{Summary}
use Rattle.twe_program.specs.declared.program.Decl.{Decl}
use Rattle.twe_program.specs.Program.{Program}
use Rattle.summary_comparing.specs.declared.comparison.Comparison.{Comparison}
use Rattle.summary_comparing.specs.Comparisons.{AreComparisons, IsComparison}

pub one-compared-more : (p : Program) (summaries : List Summary) (decls : List Decl) (comparisons : List Comparison) (decl : Decl) (comparison : Comparison)
    → AreComparisons p summaries decls comparisons → IsComparison p summaries decl comparison
    → AreComparisons p summaries (decls ++ decl ∷ []) (comparisons ++ comparison ∷ [])
one-compared-more p summaries [] [] decl comparison all one = (one, tt)
one-compared-more p summaries [] (c ∷ cs) decl comparison all one = absurd all
one-compared-more p summaries (d ∷ ds) [] decl comparison all one = absurd all
one-compared-more p summaries (d ∷ ds) (c ∷ cs) decl comparison all one = (all.0, one-compared-more p summaries ds cs decl comparison all.1 one)

-- what is found, if something is found
pub when-some : {X : Type 0} (P : X → Type 0) (found : Option X) (x : X) → found ≡ Some x → IfSome found P → P x
when-some P found x is h = subst (λ o. IfSome o P) is h

-- what holds if nothing is found
pub when-none : {X : Type 0} (P : Type 0) (found : Option X) → found ≡ None → IfNone found P → P
when-none P found is h = subst (λ o. IfNone o P) is h

-- two texts that are appended one after the other
pub appended : (before between after one other : List ℕ) → between ≡ before ++ one → after ≡ between ++ other → after ≡ before ++ (one ++ other)
appended before between after one other e f = f ∙ (ap (λ (text : List ℕ). text ++ other) e ∙ append_assoc before one other)
