-- The widest needs make the least summaries.
use Rattle.std.proofs.Common.{◌≡◌, ◌<◌, ◌≤◌, ℕ, zero, suc, true, List, [], ◌∷◌, ◌++◌, map, length, Some, Result, Ok, Err, inl, inr, refl, sym, ap, ◌∙◌, subst, arith}
use Rattle.std.specs.Prelude.{slice_get, IfOk}
use Rattle.std.specs.List.{Contains}
use Rattle.std.proofs.lemmas.Bool.{cases_lt}
use Rattle.std.proofs.lemmas.List.{length-map}
use Rattle.std.proofs.lemmas.Option.{slice_get_within}
use Rattle.effect_sets.specs.declared.effects.Effect.{Effect}
use Rattle.effect_sets.specs.declared.effects.Summary.{Summary}
use Rattle.effect_sets.specs.Covers.{covers, effect_covers}
use Rattle.twe_base.specs.Language.{max_effects}
use Rattle.twe_program.specs.Program.{Program}
use Rattle.effect_infer.specs.declared.needs.need.Need.{Need}
use Rattle.effect_infer.specs.needs.Needs.{IsNeed, own, called, IsWidest, Widens, effect_of}
use Rattle.twe_program.specs.WellFormed.{IsWellFormed}
use Rattle.effect_infer.specs.needs.Choices.{with_summaries, NoMethodFails, NoRuleFails, CoversNeeds}
use Rattle.effect_infer.proofs.needs.Inside.{covers-trans}
use Rattle.effect_infer.proofs.needs.Soundness as sound
use Rattle.effect_infer.proofs.needs.Leastness as least
use Rattle.effect_infer.proofs.needs.Staying as staying
use Rattle.twe_base.proofs.Members.{IsIn, contains-in, in-contains, in-list_any}
use Rattle.effect_infer.specs.declared.found.FoundNeed.{FoundNeed}
use Rattle.effect_infer.specs.declared.fail.InferFail.{InferFail}
use Rattle.effect_infer.specs.declared.fail.InferFail.TheVariants.{TooMany, OutOfMemory}
use Rattle.effect_infer.specs.Rows.{row}
use Rattle.effect_infer.specs.Crowded.{CoversFixed, IsCrowded}
use Rattle.effect_infer.specs.Covered.{HasFoundAll}
use Rattle.effect_infer.specs.Kept.{method_rank, some_cover, most_kept, KeepsNeeds}
use Rattle.effect_infer.specs.Table.{AreFew, IsFirstLong, IsWidestTable}
use Rattle.effect_infer.specs.Inferred.{AreWidest, summary_of, IsLeast, AreLeast, AreCoveredByAll, InferHasCause}
use Rattle.effect_infer.proofs.Ranks.{rank-most, widens-same}
use Rattle.effect_infer.proofs.Crowding.{left-out, length-without, put-back, splits-in}
use Rattle.effect_infer.proofs.Keeping.{cover-found, cover-wider}

-- the table of the widest
module _ (p : Program) (all : List FoundNeed) (table : List (List Need)) (found : HasFoundAll p all) (keeps : KeepsNeeds (length p.methods) all table (λ f. Unit {0})) where
  -- what covers a need of the table, and is crowded out, is that need
  crowded-same : (m : ℕ) (need other : Need) → Contains (row table m) need → Widens other need → IsCrowded all (record { method = m; need = other }) → other ≡ need
  crowded-same m need other c h crowd = elim (cases_lt (method_rank need) (method_rank crowd.0)) [
    | inl above ↦
        let s = splits-in (row table m) need (contains-in (row table m) need c) in
        let covers : CoversFixed all m (method_rank crowd.0) (s.0 ++ s.1) = λ w found is fixed rank.
        let ahead = keeps.ahead m need w c found is (omega (arith, above, rank)) in
        elim (left-out s.0 need s.1 w.need (subst (λ (xs : List Need). some_cover xs w.need ≡ true) s.2 ahead)) [
          | inl wide ↦ let low = (rank-most need w.need wide).below in absurd (omega (arith, above, rank, low))
          | inr rest ↦ rest
        ] in
        let few : length (s.0 ++ s.1) ≤ max_effects =
        let long = length-without s.0 need s.1 in
        let same : length (row table m) ≡ length (s.0 ++ need ∷ s.1) = ap (λ (xs : List Need). length xs) s.2 in
        let most = keeps.few m in
        omega (arith, long, same, most) in
        let by = cover-found (row table m) crowd.0
        (subst (λ (xs : List Need). some_cover xs crowd.0 ≡ true) (sym s.2) (put-back s.0 need s.1 crowd.0 (crowd.3 (s.0 ++ s.1) few covers))) in
        let wider = covers-trans other (effect_of crowd.0) (effect_of by.0) crowd.2 by.2 in
        let same : by.0 ≡ need =
        keeps.widest m need (record { method = m; need = by.0 }) c (keeps.found m by.0 by.1) refl (covers-trans need (effect_of other) (effect_of by.0) h wider) in
        widens-same other need h (subst (λ n. Widens n other) same wider)
    | inr upto ↦
        let most = rank-most crowd.0 need (covers-trans need (effect_of other) (effect_of crowd.0) h crowd.2) in
        let same : crowd.0 ≡ need = most.same (let low = most.below in omega (arith, upto, low)) in
        widens-same other need h (subst (λ n. Widens n other) same crowd.2)
  ]

  only-widest : (m : ℕ) (need : Need) → Contains (row table m) need → IsWidest p m need
  only-widest m need c = record {
    needed = found.only (record { method = m; need = need }) (keeps.found m need c);
    widest = λ other needed h. elim (found.met (record { method = m; need = other }) needed) [
      | inl cover ↦
          let wider = covers-trans need (effect_of other) (effect_of cover.0.need) h cover.3 in
          let same : cover.0.need ≡ need = keeps.widest m need cover.0 c cover.1 cover.2 wider in
          widens-same other need h (subst (λ n. Widens n other) same cover.3)
      | inr crowd ↦ crowded-same m need other c h crowd
    ];
  }

  -- a method that needs something is there
  need-there : (m : ℕ) (need : Need) → IsNeed p m need → m < length p.methods
  need-there m need (own n decl step has) = slice_get_within p.methods n decl has.0
  need-there m need (called n decl callee args inner has needed) = slice_get_within p.methods n decl has.0

  -- what was found of a method is covered, if it has few needs in the table
  found-covered : (m : ℕ) (f : FoundNeed) → length (row table m) ≤ max_effects → m < length p.methods → Contains all f → f.method ≡ m → some_cover (row table m) f.need ≡ true
  found-covered m f few there c is = elim (keeps.all_done f c tt (subst (λ n. n < length p.methods) (sym is) there)) [
    | inl full ↦ absurd (let here = subst (λ n. length (row table n) ≡ most_kept) is full in omega (arith, here, few))
    | inr covered ↦ subst (λ n. some_cover (row table n) f.need ≡ true) is covered
  ]

  all-covered : (m : ℕ) (need : Need) → length (row table m) ≤ max_effects → IsNeed p m need → some_cover (row table m) need ≡ true
  all-covered m need few needed =
      let there : m < length p.methods = need-there m need needed in
      elim (found.met (record { method = m; need = need }) needed) [
        | inl cover ↦ cover-wider (row table m) need cover.0.need (found-covered m cover.0 few there cover.1 cover.2) cover.3
        | inr crowd ↦ cover-wider (row table m) need crowd.0 (crowd.3 (row table m) few (λ w c is fixed rank. found-covered m w few there c is)) crowd.2
      ]

  pub widest-table : IsWidestTable p table
  widest-table = record { long = keeps.long; only = only-widest; once = keeps.once; covered = all-covered }

-- the same lists, said otherwise
pub keeps-of : (m n : ℕ) (xs ys : List FoundNeed) (table : List (List Need)) (IsDone : FoundNeed → Type 0) → m ≡ n → xs ≡ ys → KeepsNeeds m xs table IsDone → KeepsNeeds n ys table IsDone
keeps-of m n xs ys table IsDone count same k =
    subst (λ i. KeepsNeeds i ys table IsDone) count (subst (λ (zs : List FoundNeed). KeepsNeeds m zs table IsDone) same k)

-- an element of a list that is mapped
mapped-at : (table : List (List Need)) (m : ℕ) (summary : Summary) → slice_get (map summary_of table) m ≡ Some summary → summary ≡ summary_of (row table m)
mapped-at [] m summary e = absurd (cc)
mapped-at (needs ∷ table) zero summary e = cc
mapped-at (needs ∷ table) (suc m) summary e = mapped-at table m summary e

effects-in : (needs : List Need) (effect : Effect) → IsIn effect (map effect_of needs) → (need : Need) × IsIn need needs × (effect ≡ effect_of need)
effects-in [] effect h = absurd h
effects-in (n ∷ needs) effect (inl e) = (n, inl refl, e)
effects-in (n ∷ needs) effect (inr h) = let found = effects-in needs effect h in (found.0, inr found.1, found.2)

in-effects : (needs : List Need) (need : Need) → IsIn need needs → IsIn (effect_of need) (map effect_of needs)
in-effects [] need h = absurd h
in-effects (n ∷ needs) need (inl e) = inl (ap effect_of e)
in-effects (n ∷ needs) need (inr h) = inr (in-effects needs need h)

module _ (p : Program) (table : List (List Need)) (wide : IsWidestTable p table) where
  all-there : (m : ℕ) (need : Need) → length (row table m) ≤ max_effects → IsWidest p m need → Contains (row table m) need
  all-there m need few widest =
      let by = cover-found (row table m) need (wide.covered m need few widest.needed) in
      let same : by.0 ≡ need = widest.widest by.0 (wide.only m by.0 by.1).needed by.2 in
      subst (Contains (row table m)) same by.1

  are-widest : (m : ℕ) → length (row table m) ≤ max_effects → AreWidest p m (row table m)
  are-widest m few = record { exact = λ need. (wide.only m need, all-there m need few); once = wide.once m }

  pub is-least : (m : ℕ) → length (row table m) ≤ max_effects → IsLeast p m (summary_of (row table m))
  is-least m few = (row table m, are-widest m few, few, refl)

  pub too-many : (fail : InferFail) → IsFirstLong table fail → InferHasCause p fail
  too-many (TooMany method) h =
      let long = wide.long in
      (omega (arith, long, h.0), (row table method, wide.once method, h.1, wide.only method), λ m below. (summary_of (row table m), is-least m (h.2 m below)))
  too-many (OutOfMemory memory) h = tt

  module _ (few : AreFew table) where
    pub are-least : AreLeast p (map summary_of table)
    are-least = record {
      one_each = length-map table summary_of ∙ wide.long;
      least = λ m summary e. subst (IsLeast p m) (sym (mapped-at table m summary e)) (is-least m (few m));
    }

    from-need : (m : ℕ) (summary : Summary) (effect : Effect) → slice_get (map summary_of table) m ≡ Some summary → Contains summary.effects effect
        → (need : Need) × IsNeed p m need × (effect ≡ effect_of need)
    from-need m summary effect e there =
        let is = mapped-at table m summary e in
        let found = effects-in (row table m) effect (subst (λ (s : Summary). IsIn effect s.effects) is (contains-in summary.effects effect there)) in
        (found.0, (wide.only m found.0 (in-contains (row table m) found.0 found.1)).needed, found.2)

    covers-needs : CoversNeeds p (map summary_of table)
    covers-needs m summary need e needed =
        let is = mapped-at table m summary e in
        let by = cover-found (row table m) need (wide.covered m need (few m) needed) in
        let there = in-effects (row table m) by.0 (contains-in (row table m) by.0 by.1) in
        subst (λ (s : Summary). covers s (effect_of need) ≡ true) (sym is)
        (in-list_any (λ d. effect_covers d (effect_of need)) (map effect_of (row table m)) (effect_of by.0) there by.2)

    pub accepted : NoMethodFails (with_summaries (map summary_of table) p)
    accepted = sound.accepted p (map summary_of table) (length-map table summary_of ∙ wide.long) from-need covers-needs

    pub stays : IsWellFormed p → NoRuleFails p → NoRuleFails (with_summaries (map summary_of table) p)
    stays well passes = staying.stays-accepted p (map summary_of table) well (length-map table summary_of ∙ wide.long) from-need covers-needs passes

    pub covered-by-all : AreCoveredByAll p (map summary_of table)
    covered-by-all chosen choice passes m mine summary effect at here there =
        let from = from-need m summary effect here there in
        subst (λ e. covers mine e ≡ true) (sym from.2) (least.covered p chosen choice passes m from.0 from.1 mine at)

-- what holds of the summaries that the table makes, if no method has too many needs
pub made-few : (P : List Summary → Type 0) (table : List (List Need)) (made : Result (List Summary) InferFail) → IfOk made (λ needs. needs ≡ map summary_of table)
    → IfOk made (λ needs. AreFew table) → (AreFew table → P (map summary_of table)) → IfOk made P
made-few P table (Ok needs) is few holds = subst P (sym is) (holds few)
made-few P table (Err fail) is few holds = tt
