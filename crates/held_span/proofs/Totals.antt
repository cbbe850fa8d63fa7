-- The pairs of a tally are those that have held tasks, in order.
use Rattle.std.proofs.Common.{◌≡◌, ◌∙◌, ◌⊎◌, inl, inr, ◌<◌, ℕ, List, [], ◌∷◌, Option, None, Some, refl, sym, ap, subst, arith}
use Rattle.std.specs.Prelude.{All, Contains, unwrap_or}
use Rattle.std.specs.declared.cmp.Ordering.{Ordering}
use Rattle.std.specs.declared.cmp.Ordering.TheVariants.{Less, Equal, Greater}
use Rattle.std.specs.List.Sorted.{IsStrictlySortedBy}
use Rattle.std.specs.Map.{keys_of, values_of}
use Rattle.std.specs.Ordering.{MatchOrdering, nat_cmp, ordering_then}
use Rattle.std.specs.BTreeMap as tree
use Rattle.std.proofs.lemmas.Cmp.{ranked}
use Rattle.std.proofs.lemmas.List.Elements.{All-cons, All-from_recursion, All-head, All-map, All-nil, All-tail, All-weaker}
use Rattle.std.proofs.lemmas.Map.Lookups.{exact_unsigned}
use Rattle.std.proofs.lemmas.Map.Made.{Contains-values_of}
use Rattle.std.proofs.lemmas.Map.Views.{All-found, btree_map_get_iff}
use Rattle.machine_state.specs.declared.state.TaskRow.{TaskRow}
use Rattle.held_span.specs.MostHeld.{HasHeld, IsDeclaredBefore, IsLower, pair_total}
use Rattle.held_span.specs.inner.Tallies.{IsTally, effect_cmp, never_held, pair_cmp}
use Rattle.held_span.specs.declared.pair.DeclaredEffect.{DeclaredEffect}
use Rattle.held_span.specs.declared.pair.EffectPair.{EffectPair}
use Rattle.held_span.specs.declared.pair.HeldPair.{HeldPair}
use Rattle.held_span.specs.declared.hold.Hold.{Hold}
use Rattle.held_span.specs.declared.tally.HoldTally.{HoldTally}
use Rattle.held_span.proofs.PairOrder.{exact_effects, exact_keys, pairs_total}
use Rattle.held_span.proofs.Ranked.{ByNumbers, LowerPair}

-- ---- the order of the keys is that of the declarations

is_less : (x y : ℕ) → nat_cmp x y ≡ Less → x < y
is_less x y less = subst (λ (o : Ordering). MatchOrdering o (x < y) (x ≡ y) (y < x)) less (ranked x y (nat_cmp x y) refl)

-- which of two parts decides
less_by : (first second : Ordering) → ordering_then first second ≡ Less → (first ≡ Less) ⊎ ((first ≡ Equal) × (second ≡ Less))
less_by Less second less = inl refl
less_by Equal second less = inr (refl, less)
less_by Greater second less = inl less

declared_before : (a b : DeclaredEffect) → effect_cmp a b ≡ Less → IsDeclaredBefore a b
declared_before a b less = by_part (less_by (nat_cmp a.decl b.decl) (nat_cmp a.effect b.effect) less) where
  by_part : (nat_cmp a.decl b.decl ≡ Less) ⊎ ((nat_cmp a.decl b.decl ≡ Equal) × (nat_cmp a.effect b.effect ≡ Less)) → IsDeclaredBefore a b
  by_part (inl decl) = inl (is_less a.decl b.decl decl)
  by_part (inr h) = inr (exact_unsigned a.decl b.decl h.0, is_less a.effect b.effect h.1)

is_lower : (a b : EffectPair) → pair_cmp a b ≡ Less → IsLower a b
is_lower a b less = by_part (less_by (effect_cmp a.holder b.holder) (effect_cmp a.held b.held) less) where
  by_part : (effect_cmp a.holder b.holder ≡ Less) ⊎ ((effect_cmp a.holder b.holder ≡ Equal) × (effect_cmp a.held b.held ≡ Less)) → IsLower a b
  by_part (inl holder) = inl (declared_before a.holder b.holder holder)
  by_part (inr h) = inr (exact_effects a.holder b.holder h.0, declared_before a.held b.held h.1)

-- ---- the entries of the map

-- an entry stands at the pair that it counts
abbrev IsAtPair : EffectPair × HeldPair → Type 0
IsAtPair e = e.0 ≡ e.1.pair

before_all : (e : EffectPair × HeldPair) (es : List (EffectPair × HeldPair)) → IsAtPair e → All IsAtPair es
    → All (λ (k : EffectPair). pair_cmp e.0 k ≡ Less) (keys_of es) → All (LowerPair e.1) (values_of es)
before_all e [] at all less = All-nil (LowerPair e.1)
before_all e (f ∷ es) at all less =
    let other = All-head IsAtPair f es all in
    let first = All-head (λ (k : EffectPair). pair_cmp e.0 k ≡ Less) f.0 (keys_of es) less in
    All-cons (LowerPair e.1) f.1 (values_of es)
    (subst (λ (p : EffectPair). IsLower p f.1.pair) at (subst (IsLower e.0) other (is_lower e.0 f.0 first)))
    (before_all e es at (All-tail IsAtPair f es all) (All-tail (λ (k : EffectPair). pair_cmp e.0 k ≡ Less) f.0 (keys_of es) less))

in_order : (es : List (EffectPair × HeldPair)) → All IsAtPair es → IsStrictlySortedBy pair_cmp (keys_of es) → ByNumbers (values_of es)
unfolding IsStrictlySortedBy
in_order [] all ordered = tt
in_order (e ∷ es) all ordered = (
  before_all e es (All-head IsAtPair e es all) (All-tail IsAtPair e es all)
      (All-from_recursion (λ (k : EffectPair). pair_cmp e.0 k ≡ Less) (keys_of es) ordered.0),
  in_order es (All-tail IsAtPair e es all) ordered.1,
)

module _ (rows : List TaskRow) (holds : List Hold) (tally : HoldTally) (tallied : IsTally rows holds tally) where
  found_is : (pair : EffectPair) (total : HeldPair) → tree.get pair_cmp tally.pairs pair ≡ Some total → total ≡ pair_total rows holds pair
  found_is pair total found = sym (ap (λ (f : Option HeldPair). unwrap_or f (never_held pair)) found) ∙ tallied.each pair

  all_found : All (λ (e : EffectPair × HeldPair). tree.get pair_cmp tally.pairs e.0 ≡ Some e.1) tally.pairs.entries
  all_found = All-found pairs_total tally.pairs tallied.ordered

  at_pairs : All IsAtPair tally.pairs.entries
  at_pairs = All-weaker (λ (e : EffectPair × HeldPair). tree.get pair_cmp tally.pairs e.0 ≡ Some e.1) IsAtPair
      (λ e found. sym (ap (λ (total : HeldPair). total.pair) (found_is e.0 e.1 found))) tally.pairs.entries all_found

  -- they come in order
  pub by_numbers : ByNumbers (tree.values tally.pairs)
  by_numbers = in_order tally.pairs.entries at_pairs tallied.ordered

  has_held : (e : EffectPair × HeldPair) → tree.get pair_cmp tally.pairs e.0 ≡ Some e.1 → HasHeld rows holds e.1
  has_held e found = record {
    some = tallied.some e.0 e.1 found;
    total_is = found_is e.0 e.1 found ∙ ap (pair_total rows holds) (sym (ap (λ (total : HeldPair). total.pair) (found_is e.0 e.1 found)));
  }

  -- each has held tasks
  pub all_have_held : All (HasHeld rows holds) (tree.values tally.pairs)
  all_have_held = All-map (HasHeld rows holds) (λ (e : EffectPair × HeldPair). e.1) tally.pairs.entries
      (All-weaker (λ (e : EffectPair × HeldPair). tree.get pair_cmp tally.pairs e.0 ≡ Some e.1) (λ e. HasHeld rows holds e.1) has_held
      tally.pairs.entries all_found)

  is_found : (total : HeldPair) → HasHeld rows holds total → (found : Option HeldPair)
      → tree.get pair_cmp tally.pairs total.pair ≡ found → tree.get pair_cmp tally.pairs total.pair ≡ Some total
  is_found total held None is =
      let none : never_held total.pair ≡ pair_total rows holds total.pair =
      sym (ap (λ (f : Option HeldPair). unwrap_or f (never_held total.pair)) is) ∙ tallied.each total.pair in
      let never : total.admissions ≡ 0 = ap (λ (t : HeldPair). t.admissions) (held.total_is ∙ sym none) in
      let some = held.some in absurd (omega arith)
  is_found total held (Some other) is =
      is ∙ ap (λ (t : HeldPair). Some t) (found_is total.pair other is ∙ sym held.total_is)

  -- each pair that has held tasks is there
  pub has_each : (total : HeldPair) → HasHeld rows holds total → Contains (tree.values tally.pairs) total
  has_each total held =
      Contains-values_of tally.pairs.entries total.pair total
      ((btree_map_get_iff pairs_total exact_keys tally.pairs tallied.ordered total.pair total).0
      (is_found total held (tree.get pair_cmp tally.pairs total.pair) refl))
