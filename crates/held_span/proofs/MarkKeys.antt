-- The key of a mark is no key of what an entry did, and no two marks have one key.
use Rattle.std.proofs.Common.{◌≡◌, ◌<◌, ◌+◌, inl, inr, ℕ, List, subst, arith}
use Rattle.std.specs.List.{Contains}
use Rattle.prefix_tree.specs.declared.part.Part.{Part}
use Rattle.held_span.specs.declared.marks.EffectMark.{EffectMark}
use Rattle.held_span.specs.declared.marks.EffectMark.TheVariants.{Own, Rival}
use Rattle.span_profile.specs.Strands.{Strand}
use Rattle.span_profile.specs.declared.heaviest_chain.key.Key.{Key}
use Rattle.span_profile.specs.declared.heaviest_chain.key.Key.TheVariants.{Task}
use Rattle.span_profile.specs.heaviest_chain.Nodes.{Node}
use Rattle.span_profile.specs.inner.Shows.{AsksKey, GivesKey, Shows}
use Rattle.held_span.specs.inner.Keys.{mark_key}
use Rattle.held_span.specs.inner.Spanning.{IsBelow}

module _ (count : ℕ) where
  given_by : (tree : List (List Part)) (strand : Strand) → IsBelow count strand → (mark : EffectMark) → ¬ GivesKey tree strand (mark_key count mark)
  given_by tree strand below (Own effect) gives = let is = gives.1 in let less = below.task in omega (arith, is, less)
  given_by tree strand below (Rival effect) gives = elim gives [
    | inl is ↦ let less = below.task in omega (arith, is, less)
    | inr made ↦ let less = below.made (count + effect) made in omega (arith, less)
  ]

  asked_by : (tree : List (List Part)) (strand : Strand) → IsBelow count strand → (mark : EffectMark) → ¬ AsksKey tree strand (mark_key count mark)
  asked_by tree strand below (Own effect) asks = let less = below.taken (count + effect) asks in omega (arith, less)
  asked_by tree strand below (Rival effect) asks = let less = below.task in omega (arith, asks, less)

  module _ (tree : List (List Part)) (base : Node) (strand : Strand) (shown : Shows tree base strand) (below : IsBelow count strand) (mark : EffectMark) where
    pub mark_not_given : (key : Key) → key ≡ mark_key count mark → ¬ Contains base.gives key
    mark_not_given key is has = given_by tree strand below mark ((shown.gives (mark_key count mark)).0 (subst (λ (k : Key). Contains base.gives k) is has))

    pub mark_not_asked : (key : Key) → key ≡ mark_key count mark → ¬ Contains base.asks key
    mark_not_asked key is has = asked_by tree strand below mark ((shown.asks (mark_key count mark)).0 (subst (λ (k : Key). Contains base.asks k) is has))

  pub one_mark : (a b : EffectMark) → mark_key count a ≡ mark_key count b → a ≡ b
  one_mark (Own e) (Own f) same = let sums : count + e ≡ count + f = cc (same) in let one : e ≡ f = omega (arith, sums) in cc (one)
  one_mark (Own e) (Rival f) same = absurd (cc (same))
  one_mark (Rival e) (Own f) same = absurd (cc (same))
  one_mark (Rival e) (Rival f) same = let sums : count + e ≡ count + f = cc (same) in let one : e ≡ f = omega (arith, sums) in cc (one)

  pub mark_no_task : (mark : EffectMark) (w : ℕ) → w < count → ¬ (mark_key count mark ≡ Task w)
  mark_no_task (Own e) w below same = cc (same)
  mark_no_task (Rival e) w below same = let is : count + e ≡ w = cc (same) in omega (arith, is, below)
