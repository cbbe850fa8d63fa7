-- How many calls lead to the states of a search.
use Rattle.std.proofs.Common.{◌≡◌, ◌<◌, ◌≤◌, ◌+◌, ℕ, zero, suc, List, Some, inl, inr, sym, ap, ◌∙◌, subst, arith}
use Rattle.std.specs.Prelude.{slice_get}
use Rattle.std.proofs.lemmas.Option.{same_Some}
use Rattle.effect_infer.specs.declared.needs.need.Need.{Need}
use Rattle.summary_comparing.specs.declared.bodies.BodySteps.{BodySteps}
use Rattle.summary_comparing.specs.declared.states.SearchState.{SearchState}
use Rattle.summary_comparing.specs.inner.Search.{AreInOrder, AreLinked, ComeInOrder, IsDeep}

-- one number of calls leads to a state
pub one-depth : (states : List SearchState) (at first second : ℕ) → IsDeep states at first → IsDeep states at second → first ≡ second
one-depth states at zero zero a b = omega arith
one-depth states at zero (suc second) a b = absurd (let above = b.0 in omega (arith, a, above))
one-depth states at (suc first) zero a b = absurd (let above = a.0 in omega (arith, b, above))
one-depth states at (suc first) (suc second) a b =
    let same : b.1 ≡ a.1 = same_Some _ _ (sym b.2 ∙ a.2) in
    ap suc (one-depth states a.1.from first second a.3 (subst (λ (s : SearchState). IsDeep states s.from second) same b.3))

-- no fewer lead to a state that stands further back
pub deeper : (states : List SearchState) → AreInOrder states → (at further depth other : ℕ) → at ≤ further → IsDeep states at depth
    → IsDeep states further other → depth ≤ other
deeper states order at further zero other below a b = omega arith
deeper states order at further (suc depth) zero below a b = absurd (let above = a.0 in omega (arith, b, above, below))
deeper states order at further (suc depth) (suc other) below a b =
    let less = deeper states order a.1.from b.1.from depth other (order at further a.1 b.1 a.0 below a.2 b.2) a.3 b.3 in
    omega (arith, less)

-- one more at most leads to a state that comes from no later one
pub one-further : (states : List SearchState) → AreInOrder states → (at caller depth other : ℕ) (state : SearchState) → slice_get states at ≡ Some state
    → state.from ≤ caller → IsDeep states at depth → IsDeep states caller other → depth ≤ other + 1
one-further states order at caller zero other state there earlier a b = omega arith
one-further states order at caller (suc depth) other state there earlier a b =
    let same : a.1 ≡ state = same_Some _ _ (sym a.2 ∙ there) in
    let less = deeper states order a.1.from caller depth other (subst (λ (s : SearchState). s.from ≤ caller) (sym same) earlier) a.3 b in
    omega (arith, less)

-- some number of calls leads to each
pub some-depth : (bodies : List BodySteps) (target : Need) (states : List SearchState) → AreLinked bodies target states → (most at : ℕ) (state : SearchState)
    → at < most → slice_get states at ≡ Some state → (depth : ℕ) × IsDeep states at depth
some-depth bodies target states linked zero at state below there = absurd (omega (arith, below))
some-depth bodies target states linked (suc most) at state below there = elim (linked at state there) [
  | inl first ↦ (0, first)
  | inr link ↦
      let earlier = link.earlier in
      let before = some-depth bodies target states linked most state.from link.caller (omega (arith, earlier, below)) link.caller_there in
      (suc before.0, (omega (arith, earlier), state, there, before.1))
]

-- the states that come from those up to a place come from those up to the next one
pub order-weaker : (states : List SearchState) (upto : ℕ) → ComeInOrder states upto → ComeInOrder states (upto + 1)
order-weaker states upto order = record { in_order = order.in_order; within = λ at state there. let within = order.within at state there in omega (arith, within) }
