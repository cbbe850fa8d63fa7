-- The order of pairs, and when two pairs are one.
use Rattle.std.proofs.Common.{◌≡◌, ◌∙◌, ℕ, Bool, true, false, Some, refl, sym, ap, subst}
use Rattle.std.specs.Cmp.{IsTotalOrder}
use Rattle.std.specs.Cmp.Derive.{both_true}
use Rattle.std.specs.Ordering.{eq_by_cmp, nat_cmp}
use Rattle.std.proofs.lemmas.Bool.{eq-eqb, eqb-true, false≢true}
use Rattle.std.proofs.lemmas.Cmp.{eq_by_cmp_equiv, nat_cmp_total, on_total, then_total}
use Rattle.std.proofs.lemmas.Map.Lookups.{CmpEqualImpliesEq, exact_pairs, exact_unsigned}
use Rattle.twe_base.proofs.Members.{both-true}
use Rattle.held_span.specs.MostHeld.{is_pair, is_same_effect}
use Rattle.held_span.specs.inner.Tallies.{effect_cmp, pair_cmp}
use Rattle.held_span.specs.declared.pair.DeclaredEffect.{DeclaredEffect}
use Rattle.held_span.specs.declared.pair.EffectPair.{EffectPair}

effects_total : IsTotalOrder effect_cmp
effects_total =
    then_total (on_total (λ (e : DeclaredEffect). e.decl) nat_cmp_total) (on_total (λ (e : DeclaredEffect). e.effect) nat_cmp_total)

pub pairs_total : IsTotalOrder pair_cmp
pairs_total = then_total (on_total (λ (p : EffectPair). p.holder) effects_total) (on_total (λ (p : EffectPair). p.held) effects_total)

pub exact_effects : CmpEqualImpliesEq effect_cmp
exact_effects a b h =
    ap (λ (p : ℕ × ℕ). record { decl = p.0; effect = p.1 })
    (exact_pairs nat_cmp nat_cmp exact_unsigned exact_unsigned (a.decl, a.effect) (b.decl, b.effect) h)

-- pairs that compare alike are one
pub exact_keys : CmpEqualImpliesEq pair_cmp
exact_keys a b h =
    ap (λ (p : DeclaredEffect × DeclaredEffect). record { holder = p.0; held = p.1 })
    (exact_pairs effect_cmp effect_cmp exact_effects exact_effects (a.holder, a.held) (b.holder, b.held) h)

same_effect : (a : DeclaredEffect) → is_same_effect a a ≡ true
same_effect a = both_true (eq-eqb a.decl a.decl refl) (eq-eqb a.effect a.effect refl)

effect_is : (a b : DeclaredEffect) → is_same_effect a b ≡ true → a ≡ b
effect_is a b same =
    let parts = both-true _ _ same in
    ap (λ (n : ℕ). record { decl = n; effect = a.effect }) (eqb-true a.decl b.decl parts.0)
    ∙ ap (λ (n : ℕ). record { decl = b.decl; effect = n }) (eqb-true a.effect b.effect parts.1)

-- a pair is itself
pub is_itself : (p : EffectPair) → is_pair p (Some p) ≡ true
is_itself p = both_true (same_effect p.holder) (same_effect p.held)

pair_is : (p q : EffectPair) → is_pair p (Some q) ≡ true → p ≡ q
pair_is p q same =
    let parts = both-true _ _ same in
    ap (λ (e : DeclaredEffect). record { holder = e; held = p.held }) (effect_is p.holder q.holder parts.0)
    ∙ ap (λ (e : DeclaredEffect). record { holder = q.holder; held = e }) (effect_is p.held q.held parts.1)

-- pairs that the order tells apart are two
pub is_no_other : (p q : EffectPair) → eq_by_cmp pair_cmp q p ≡ false → is_pair p (Some q) ≡ false
is_no_other p q apart = by_answer (is_pair p (Some q)) refl where
  by_answer : (b : Bool) → b ≡ is_pair p (Some q) → b ≡ false
  by_answer false is = refl
  by_answer true is =
      let alike : eq_by_cmp pair_cmp q q ≡ false = subst (λ (x : EffectPair). eq_by_cmp pair_cmp q x ≡ false) (pair_is p q (sym is)) apart in
      absurd (false≢true (sym alike ∙ (eq_by_cmp_equiv pairs_total).refl q))
