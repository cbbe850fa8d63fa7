-- One hold more is counted.
use Rattle.std.proofs.Common.{◌≡◌, ◌∙◌, ◌+◌, ◌*◌, ◌<◌, ◌≤◌, ◌++◌, ◌∷◌, [], ℕ, Bool, true, false, List, Option, Some, refl, sym, ap, subst, arith}
use Rattle.std.specs.Prelude.{cond, count_by, sum_by, unwrap_or}
use Rattle.std.specs.BTreeMap as tree
use Rattle.std.proofs.lemmas.List.Sums.{sum_by_push}
use Rattle.std.proofs.lemmas.Map.Views.{tells_apart}
use Rattle.std.proofs.lemmas.Option.{same_Some}
use Rattle.machine_state.specs.declared.state.TaskRow.{TaskRow}
use Rattle.held_span.specs.Pairs.{pair_of}
use Rattle.held_span.specs.MostHeld.{counts_for, is_pair, time_for, pair_total}
use Rattle.held_span.specs.inner.Tallies.{HasMore, IsSmall, IsTally, counted_at, longest, never_held, pair_cmp, with_hold}
use Rattle.held_span.specs.declared.pair.EffectPair.{EffectPair}
use Rattle.held_span.specs.declared.pair.HeldPair.{HeldPair}
use Rattle.held_span.specs.declared.hold.Hold.{Hold}
use Rattle.held_span.specs.declared.tally.HoldTally.{HoldTally}
use Rattle.held_span.proofs.PairOrder.{exact_keys, is_itself, is_no_other}

module _ (rows : List TaskRow) (before : List Hold) (hold : Hold) where
  abbrev with_if : HeldPair → Bool → HeldPair
  with_if total counts = record {
    pair = total.pair;
    admissions = total.admissions + cond counts 1 0;
    time = total.time + cond counts hold.time 0;
  }

  -- the total of a pair over one hold more
  total_more : (p : EffectPair) (counts : Bool) → counts_for rows p hold ≡ counts
      → pair_total rows (before ++ hold ∷ []) p ≡ with_if (pair_total rows before p) counts
  total_more p counts is =
      ap (λ (n : ℕ). record { pair = p; admissions = n; time = sum_by (time_for rows p) (before ++ hold ∷ []) })
      (sum_by_push (λ (h : Hold). cond (counts_for rows p h) 1 0) before hold
      ∙ ap (λ (b : Bool). count_by (counts_for rows p) before + cond b 1 0) is)
      ∙ ap (λ (n : ℕ). record { pair = p; admissions = count_by (counts_for rows p) before + cond counts 1 0; time = n })
      (sum_by_push (time_for rows p) before hold
      ∙ ap (λ (b : Bool). sum_by (time_for rows p) before + cond b hold.time 0) is)

  nothing_more : (total : HeldPair) → with_if total false ≡ total
  nothing_more total =
      let often : total.admissions + 0 ≡ total.admissions = omega arith in
      let long : total.time + 0 ≡ total.time = omega arith in
      ap (λ (n : ℕ). record { pair = total.pair; admissions = n; time = total.time + 0 }) often
      ∙ ap (λ (n : ℕ). record { pair = total.pair; admissions = total.admissions; time = n }) long

  module _ (old new : HoldTally) (q : EffectPair) (its : pair_of rows hold ≡ Some q) (more : HasMore old new q hold.time)
      (tallied : IsTally rows before old) where
    -- the pair of the hold has one more
    counts_here : counted_at new q ≡ pair_total rows (before ++ hold ∷ []) q
    counts_here =
        ap (λ (found : Option HeldPair). unwrap_or found (never_held q)) more.added.1
        ∙ ap (λ (total : HeldPair). with_hold total hold.time) (tallied.each q)
        ∙ sym (total_more q true (ap (is_pair q) its ∙ is_itself q))

    -- each other pair has as many as before
    counts_there : (p : EffectPair) → tree.is_at (pair_cmp q) p ≡ false → counted_at new p ≡ pair_total rows (before ++ hold ∷ []) p
    counts_there p apart =
        ap (λ (found : Option HeldPair). unwrap_or found (never_held p)) (more.added.2 p apart)
        ∙ tallied.each p
        ∙ sym (nothing_more (pair_total rows before p))
        ∙ sym (total_more p false (ap (is_pair p) its ∙ is_no_other p q apart))

    each_by : (p : EffectPair) (b : Bool) → b ≡ tree.is_at (pair_cmp q) p → counted_at new p ≡ pair_total rows (before ++ hold ∷ []) p
    each_by p true is =
        subst (λ (x : EffectPair). counted_at new x ≡ pair_total rows (before ++ hold ∷ []) x) (tells_apart exact_keys q p (sym is)) counts_here
    each_by p false is = counts_there p (sym is)

    some_by : (p : EffectPair) (total : HeldPair) (b : Bool)
        → tree.get pair_cmp new.pairs p ≡ cond b (Some (with_hold (counted_at old q) hold.time)) (tree.get pair_cmp old.pairs p)
        → tree.get pair_cmp new.pairs p ≡ Some total → 0 < total.admissions
    some_by p total true is found =
        subst (λ (x : HeldPair). 0 < x.admissions) (same_Some (with_hold (counted_at old q) hold.time) total (sym is ∙ found)) (omega arith)
    some_by p total false is found = tallied.some p total (sym is ∙ found)

    -- one hold more is counted
    pub tallied_more : IsTally rows (before ++ hold ∷ []) new
    tallied_more = record {
      ordered = more.ordered;
      each = λ p. each_by p (tree.is_at (pair_cmp q) p) refl;
      some = λ p total. some_by p total (tree.is_at (pair_cmp q) p) (more.added.0 p);
    }

-- a hold that is no longer than a hold can be
module _ (old new : HoldTally) (q : EffectPair) (time : ℕ) (short : time ≤ longest) (more : HasMore old new q time) (n : ℕ)
    (small : IsSmall n old) where
  few_by : (p : EffectPair) (b : Bool)
      → tree.get pair_cmp new.pairs p ≡ cond b (Some (with_hold (counted_at old q) time)) (tree.get pair_cmp old.pairs p)
      → ((counted_at new p).admissions ≤ n + 1) × ((counted_at new p).time ≤ (n + 1) * longest)
  few_by p true is =
      let same : counted_at new p ≡ with_hold (counted_at old q) time = ap (λ (found : Option HeldPair). unwrap_or found (never_held p)) is in
      let few = small.few q in
      let short_before = small.short q in
      subst (λ (x : HeldPair). (x.admissions ≤ n + 1) × (x.time ≤ (n + 1) * longest)) (sym same) (omega arith, omega arith)
  few_by p false is =
      let same : counted_at new p ≡ counted_at old p = ap (λ (found : Option HeldPair). unwrap_or found (never_held p)) is in
      let few = small.few p in
      let short_before = small.short p in
      subst (λ (x : HeldPair). (x.admissions ≤ n + 1) × (x.time ≤ (n + 1) * longest)) (sym same) (omega arith, omega arith)

  pub small_more : IsSmall (n + 1) new
  small_more = record {
    few = λ p. (few_by p (tree.is_at (pair_cmp q) p) (more.added.0 p)).0;
    short = λ p. (few_by p (tree.is_at (pair_cmp q) p) (more.added.0 p)).1;
  }
