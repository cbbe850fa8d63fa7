-- The earliest times of nodes: each ends as soon as its heaviest chain allows.
use Rattle.std.proofs.Common.{◌≡◌, ◌<◌, ◌≤◌, ◌+◌, ◌⊎◌, inl, inr, ℕ, zero, suc, List, [], ◌∷◌, length, map, Option, None, Some, refl, sym, ap, ◌∙◌, subst, arith}
use Rattle.std.specs.Prelude.{slice_get, slice_index}
use Rattle.std.specs.Option.{option_map}
use Rattle.std.proofs.lemmas.List.{length-map}
use Rattle.std.proofs.lemmas.Option.{slice_get-map, slice_get_within}
use Rattle.schedules.specs.Timetables.{AreEarliest}
use Rattle.span_profile.specs.declared.heaviest_chain.top.Best.{Best}
use Rattle.span_profile.specs.declared.heaviest_chain.top.Top.{Top}
use Rattle.span_profile.specs.heaviest_chain.BestChains.{BestChains}
use Rattle.span_profile.specs.heaviest_chain.Built.{FrontHolds, IsBest}
use Rattle.span_profile.specs.heaviest_chain.Chains.{Leads, weight_at, weight_of_found}
use Rattle.span_profile.specs.heaviest_chain.LastBefore.{AreLastBefore, StartsAfter}
use Rattle.span_profile.specs.heaviest_chain.Nodes.{Node, SharesKey, weight_of}
use Rattle.span_profile.specs.heaviest_chain.inner.Tops.{IsHighest, IsNoHigher, IsTop, best_after, best_at, start_after, weight_before, weight_of_best}
use Rattle.span_profile.proofs.heaviest_chain.Back.{found_below, no_heavier, weight_after}

-- the end of a node that was found, and its start
end_at : (bests : List Best) (i : ℕ) → slice_index (map (λ (best : Best). best.weight) bests) i ≡ best_at bests i
end_at [] i = refl
end_at (best ∷ bests) zero = refl
end_at (best ∷ bests) (suc i) = end_at bests i

start_at : (all bests : List Best) (i : ℕ) (best : Best) → slice_get bests i ≡ Some best → slice_index (map (λ (b : Best). start_after all b.previous) bests) i ≡ start_after all best.previous
start_at all [] i best there = absurd (cc)
start_at all (first ∷ bests) zero best there = let same : first ≡ best = cc in ap (λ (b : Best). start_after all b.previous) same
start_at all (first ∷ bests) (suc i) best there = start_at all bests i best there

start_is : (bests : List Best) (P : ℕ → Type 0) (top : Option Top) (weight : ℕ) (best : Best) → IsTop bests P top → best ≡ best_after top weight → start_after bests best.previous ≡ weight_before top
start_is bests P None weight best none is = ap (λ (b : Best). start_after bests b.previous) is
start_is bests P (Some top) weight best is_top is = ap (λ (b : Best). start_after bests b.previous) is ∙ is_top.weight_is

module _ (nodes : List Node) (chains : BestChains) (h : FrontHolds nodes chains) where
  abbrev bests : List Best
  bests = chains.bests

  abbrev starts : List ℕ
  starts = map (λ (best : Best). start_after bests best.previous) bests

  abbrev ends : List ℕ
  ends = map (λ (best : Best). best.weight) bests

  best_of : (entry : ℕ) → entry < length nodes → (best : Best) × (slice_get bests entry ≡ Some best)
  best_of entry less = found_below bests entry (let count = h.count in omega (arith, less, count))

  -- the start of a node is the weight of the heaviest chain before it, and its end that and its own weight
  times_of : (entry : ℕ) (less : entry < length nodes) → (best : Best) × IsBest nodes bests entry best × (slice_get bests entry ≡ Some best)
  times_of entry less = let found = best_of entry less in (found.0, h.bests entry found.0 found.1, found.1)

  starts_at : (entry : ℕ) (less : entry < length nodes) → slice_index starts entry ≡ weight_before (times_of entry less).1.top
  starts_at entry less =
      let at = times_of entry less in
      start_at bests bests entry at.0 at.2
      ∙ start_is bests (λ before. Leads SharesKey nodes before entry) at.1.top at.1.node.weight at.0 at.1.is_top at.1.best_is

  ends_at : (entry : ℕ) (less : entry < length nodes) → slice_index ends entry ≡ weight_before (times_of entry less).1.top + (times_of entry less).1.node.weight
  ends_at entry less =
      let at = times_of entry less in
      end_at bests entry
      ∙ (ap (λ (b : Option Best). weight_of_best b) at.2
      ∙ (ap (λ (b : Best). b.weight) at.1.best_is ∙ weight_after at.1.top at.1.node.weight))

  weight_is : (entry : ℕ) (less : entry < length nodes) → weight_at weight_of nodes entry ≡ (times_of entry less).1.node.weight
  weight_is entry less = ap (λ (n : Option Node). weight_of_found weight_of n) (times_of entry less).1.there

  tight_by : (entry : ℕ) (top : Option Top) → IsTop bests (λ before. Leads SharesKey nodes before entry) top → (start : ℕ) → start ≡ weight_before top
      → (start ≡ 0) ⊎ ((before : ℕ) × (before < length nodes) × Leads SharesKey nodes before entry × (slice_index ends before ≡ start))
  tight_by entry None none start is = inl is
  tight_by entry (Some top) is_top start is =
      inr (top.node, slice_get_within nodes top.node is_top.has.first is_top.has.at_first, is_top.has, end_at bests top.node ∙ (is_top.weight_is ∙ sym is))

  reached_by : (top : Option Top) → IsHighest bests top → (weight_before top ≡ 0) ⊎ ((entry : ℕ) × (entry < length nodes) × (slice_index ends entry ≡ weight_before top))
  reached_by None none = inl refl
  reached_by (Some top) is =
      inr (top.node, (let has = is.has in let count = h.count in omega (arith, has, count)), end_at bests top.node ∙ is.weight_is)

  pub earliest : (top : Option Top) → IsHighest bests top → AreEarliest (Leads SharesKey nodes) (weight_at weight_of nodes) (length nodes) (weight_before top) starts ends
  earliest top highest = record {
    starts_count = length-map bests (λ (best : Best). start_after bests best.previous) ∙ h.count;
    ends_count = length-map bests (λ (best : Best). best.weight) ∙ h.count;
    takes = λ entry less.
        let end = ends_at entry less in
        let start = starts_at entry less in
        let weight = weight_is entry less in
        omega (arith, end, start, weight);
    some = λ entry less. (let some = (times_of entry less).1.some in let weight = weight_is entry less in omega (arith, some, weight));
    ordered = λ entry next less below leads.
        let at = times_of next below in
        let no_more = no_heavier bests (λ before. Leads SharesKey nodes before next) at.1.top entry at.1.is_top leads in
        let end = end_at bests entry in
        let start = starts_at next below in
        omega (arith, no_more, end, start);
    tight = λ entry less. (let at = times_of entry less in tight_by entry at.1.top at.1.is_top (slice_index starts entry) (starts_at entry less));
    within = λ entry less.
        let count = h.count in
        let no_more = no_heavier bests (λ node. node < length bests) top entry highest (omega (arith, less, count)) in
        let end = end_at bests entry in
        omega (arith, no_more, end);
    reached = reached_by top highest;
  }

  -- the same of the lists that were made
  pub earliest_found : (top : Option Top) → IsHighest bests top → (all : List Best) (some_starts some_ends : List ℕ) → all ≡ bests
      → some_starts ≡ map (λ (best : Best). start_after all best.previous) all → some_ends ≡ map (λ (best : Best). best.weight) all
      → AreEarliest (Leads SharesKey nodes) (weight_at weight_of nodes) (length nodes) (weight_before top) some_starts some_ends
  earliest_found top highest all some_starts some_ends same starts_are ends_are =
      subst (λ (s : List ℕ). AreEarliest (Leads SharesKey nodes) (weight_at weight_of nodes) (length nodes) (weight_before top) s some_ends)
      (sym (starts_are ∙ ap (λ (bs : List Best). map (λ (best : Best). start_after bs best.previous) bs) same))
      (subst (λ (e : List ℕ). AreEarliest (Leads SharesKey nodes) (weight_at weight_of nodes) (length nodes) (weight_before top) starts e)
      (sym (ends_are ∙ ap (λ (bs : List Best). map (λ (best : Best). best.weight) bs) same)) (earliest top highest))

  -- what each waits for the longest

  after_top : (entry : ℕ) (top : Option Top) → IsTop bests (λ before. Leads SharesKey nodes before entry) top → (weight : ℕ) → slice_index starts entry ≡ weight_before top
      → StartsAfter nodes starts ends entry (best_after top weight).previous
  after_top entry None none weight is = is
  after_top entry (Some top) is_top weight is = (is_top.has, end_at bests top.node ∙ (is_top.weight_is ∙ sym is))

  -- and none before the highest is as high
  no_lower : (node : ℕ) (top : Top) → IsNoHigher bests top node → best_at bests node ≡ top.weight → top.node ≤ node
  no_lower node top (inl lighter) same = absurd (omega (arith, lighter, same))
  no_lower node top (inr lower) same = lower.1

  first_top : (entry : ℕ) (top : Option Top) → IsTop bests (λ before. Leads SharesKey nodes before entry) top → (weight before : ℕ) → (best_after top weight).previous ≡ Some before
      → slice_index starts entry ≡ weight_before top → (other : ℕ) → Leads SharesKey nodes other entry → slice_index ends other ≡ slice_index starts entry → before ≤ other
  first_top entry None none weight before is start other leads end = absurd (cc (is))
  first_top entry (Some top) is_top weight before is start other leads end =
      let same : top.node ≡ before = cc (is) in
      let least = no_lower other top (is_top.highest other leads) (sym (end_at bests other) ∙ (end ∙ start)) in
      omega (arith, same, least)

  previous_at : (entry : ℕ) (before : Option ℕ) → slice_get (map (λ (best : Best). best.previous) bests) entry ≡ Some before
      → (best : Best) × (slice_get bests entry ≡ Some best) × (best.previous ≡ before)
  previous_at entry before is =
      let within = slice_get_within (map (λ (best : Best). best.previous) bests) entry before is in
      let same = length-map bests (λ (best : Best). best.previous) in
      let found = found_below bests entry (omega (arith, within, same)) in
      let mapped = slice_get-map (λ (best : Best). best.previous) bests entry ∙ ap (option_map (λ (best : Best). best.previous)) found.1 in
      (found.0, found.1, cc (mapped, is))

  last_before : AreLastBefore nodes starts ends (map (λ (best : Best). best.previous) bests)
  last_before = record {
    count = length-map bests (λ (best : Best). best.previous) ∙ h.count;
    each = λ entry before is.
        let at = previous_at entry before is in
        let best = h.bests entry at.0 at.1 in
        let less = slice_get_within nodes entry best.node best.there in
        let mine = times_of entry less in
        let one : at.0 ≡ mine.0 = cc (at.1, mine.2) in
        subst (StartsAfter nodes starts ends entry)
        (sym (ap (λ (b : Best). b.previous) mine.1.best_is) ∙ (ap (λ (b : Best). b.previous) (sym one) ∙ at.2))
        (after_top entry mine.1.top mine.1.is_top mine.1.node.weight (starts_at entry less));
    first = λ entry before other is leads end.
        let at = previous_at entry (Some before) is in
        let best = h.bests entry at.0 at.1 in
        let less = slice_get_within nodes entry best.node best.there in
        let mine = times_of entry less in
        let one : at.0 ≡ mine.0 = cc (at.1, mine.2) in
        first_top entry mine.1.top mine.1.is_top mine.1.node.weight before
        (sym (ap (λ (b : Best). b.previous) mine.1.best_is) ∙ (ap (λ (b : Best). b.previous) (sym one) ∙ at.2)) (starts_at entry less) other leads end;
  }

  -- the same of the lists that were made
  pub last_before_found : (all : List Best) (some_starts some_ends : List ℕ) (found : List (Option ℕ)) → all ≡ bests
      → some_starts ≡ map (λ (best : Best). start_after all best.previous) all → some_ends ≡ map (λ (best : Best). best.weight) all
      → found ≡ map (λ (best : Best). best.previous) all → AreLastBefore nodes some_starts some_ends found
  last_before_found all some_starts some_ends found same starts_are ends_are found_are =
      subst (λ (s : List ℕ). AreLastBefore nodes s some_ends found)
      (sym (starts_are ∙ ap (λ (bs : List Best). map (λ (best : Best). start_after bs best.previous) bs) same))
      (subst (λ (e : List ℕ). AreLastBefore nodes starts e found) (sym (ends_are ∙ ap (λ (bs : List Best). map (λ (best : Best). best.weight) bs) same))
      (subst (λ (f : List (Option ℕ)). AreLastBefore nodes starts ends f)
      (sym (found_are ∙ ap (λ (bs : List Best). map (λ (best : Best). best.previous) bs) same)) last_before))
