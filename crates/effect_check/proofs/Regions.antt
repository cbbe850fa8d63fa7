-- Effects that do not meet the marks of the futures that may be out are free of them.
use Rattle.std.proofs.Common.{◌≡◌, ◌/◌, ℕ, Bool, true, false, not, ◌&&◌, ◌||◌, if◌then◌else◌, List, inl, inr, refl, sym, ap, ◌∙◌, subst}
use Rattle.std.specs.Prelude.{◌==◌, bit_and}
use Rattle.std.specs.List.{list_any}
use Rattle.std.proofs.lemmas.Bool.{false≢true, false_from_ne_true, and_cases, not-false, eqb-true}
use Rattle.region_paths.specs.Apart.{apart}
use Rattle.effect_sets.specs.declared.effects.Effect.{Effect}
use Rattle.effect_sets.specs.Interference.{statically_interferes}
use Rattle.cover_flow.specs.Flow.{may_at}
use Rattle.effect_check.specs.declared.futures.Spawn.{Spawn}
use Rattle.effect_check.specs.declared.futures.Futures.{Futures}
use Rattle.effect_check.specs.declared.marks.Marks.{Marks}
use Rattle.effect_check.specs.inner.Failures.{bars, free, HasMarks, others_of}
use Rattle.effect_check.specs.inner.Marks.{marks_of, marks_over, no_marks, meet}
use Rattle.twe_base.proofs.Members.{IsIn, in-list_all, list_any-in}
use Rattle.effect_check.proofs.Apart.{Within, over-has, all-has, different-names, different-indexes, none-shared}

none_of : (b c : Bool) → not (b && (c && false)) ≡ true
none_of true true = refl
none_of true false = refl
none_of false c = refl

-- marks that do not meet have no bit in common in one of the words
apart_word : (a b : ℕ) → not (bit_and a b == 0) ≡ false → bit_and a b ≡ 0
apart_word a b h = eqb-true (bit_and a b) 0 (not-false (bit_and a b == 0) h)

-- one of the words has no bit in common
data Apartness (a b : Marks) : Type 0 where
  In_near : bit_and a.near b.near ≡ 0 → Apartness a b
  In_far : bit_and a.far b.far ≡ 0 → Apartness a b
  In_index : bit_and a.index b.index ≡ 0 → Apartness a b
  In_far_index : bit_and a.far_index b.far_index ≡ 0 → Apartness a b

not_meeting : (a b : Marks) → meet a b ≡ false → Apartness a b
not_meeting a b h =
    elim (and_cases (not (bit_and a.near b.near == 0)) (not (bit_and a.far b.far == 0) && (not (bit_and a.index b.index == 0) && not (bit_and a.far_index b.far_index == 0))) h) [
      | inl near ↦ In_near (apart_word a.near b.near near)
      | inr rest ↦ elim (and_cases (not (bit_and a.far b.far == 0)) (not (bit_and a.index b.index == 0) && not (bit_and a.far_index b.far_index == 0)) rest) [
        | inl far ↦ In_far (apart_word a.far b.far far)
        | inr rest ↦ elim (and_cases (not (bit_and a.index b.index == 0)) (not (bit_and a.far_index b.far_index == 0)) rest) [
          | inl index ↦ In_index (apart_word a.index b.index index)
          | inr far_index ↦ In_far_index (apart_word a.far_index b.far_index far_index)
        ]
      ]
    ]

-- an effect whose marks do not meet those of all does not interfere with one whose marks are within those
harmless_by_word : (all : Marks) (e other : Effect) → Within (marks_of other) all → Apartness all (marks_of e) → statically_interferes e other ≡ false
harmless_by_word all e other within (In_near near) = different-names (λ n. n) e other (λ k below x y. none-shared all.near (marks_of e).near k near (within.near k y) x)
harmless_by_word all e other within (In_far far) = different-names (λ n. n / 128) e other (λ k below x y. none-shared all.far (marks_of e).far k far (within.far k y) x)
harmless_by_word all e other within (In_index index) = different-indexes (λ i. i) e other (λ k below x y. none-shared all.index (marks_of e).index k index (within.index k y) x)
harmless_by_word all e other within (In_far_index far_index) =
    different-indexes (λ i. i / 128) e other (λ k below x y. none-shared all.far_index (marks_of e).far_index k far_index (within.far_index k y) x)

harmless_if : (all : Marks) (e other : Effect) → Within (marks_of other) all → meet all (marks_of e) ≡ false → statically_interferes e other ≡ false
harmless_if all e other within h = harmless_by_word all e other within (not_meeting all (marks_of e) h)

counts-write : (b : Bool) → (b || not false) ≡ true
counts-write true = refl
counts-write false = refl

module _ (fs : Futures) (effect : Effect) (has : HasMarks fs) (s : Spawn) (i : IsIn s fs.spawns) (other : Effect) (j : IsIn other s.effects.effects) where
  -- by whether the effect writes, and whether the other does
  harmless_by : (b c : Bool) → effect.write ≡ b → other.write ≡ c → meet (if b then fs.all else fs.writes) (marks_of effect) ≡ false
      → statically_interferes effect other ≡ false
  harmless_by true c e h none =
      harmless_if fs.all effect other
      (subst (λ (m : Marks). Within (marks_of other) m) (sym has.all) (all-has false fs.spawns no_marks s i other j (counts-write other.write))) none
  harmless_by false true e h none =
      harmless_if fs.writes effect other
      (subst (λ (m : Marks). Within (marks_of other) m) (sym has.writes) (all-has true fs.spawns no_marks s i other j (ap (λ w. w || not true) h))) none
  harmless_by false false e h none =
      ap (λ w. (w || other.write) && not (apart effect.path other.path)) e ∙ ap (λ w. (false || w) && not (apart effect.path other.path)) h

-- if the effect does not meet the marks, nothing bars it
pub free-unmet : (fs : Futures) (point : ℕ) (effect : Effect) → HasMarks fs → meet (others_of fs effect) (marks_of effect) ≡ false → true ≡ free fs point effect
free-unmet fs point effect has none =
    sym (in-list_all (λ s. not (bars fs.points point effect (marks_of effect) s)) fs.spawns
    (λ s i. ap (λ b. not (may_at fs.points point s.future && (meet s.marks (marks_of effect) && b))) (harmless s i)
    ∙ none_of (may_at fs.points point s.future) (meet s.marks (marks_of effect)))) where
      harmless : (s : Spawn) → IsIn s fs.spawns → list_any (λ other. statically_interferes effect other) s.effects.effects ≡ false
      harmless s i =
          false_from_ne_true (list_any (λ other. statically_interferes effect other) s.effects.effects)
          (λ e. let found = list_any-in (λ other. statically_interferes effect other) s.effects.effects e in
          false≢true (sym (harmless_by fs effect has s i found.0 found.1 effect.write found.0.write refl refl none) ∙ found.2))

-- an effect that interferes with one of some effects meets their marks
pub own-meet : (effects : List Effect) (e other : Effect) → IsIn other effects → statically_interferes e other ≡ true
    → meet (marks_over false no_marks effects) (marks_of e) ≡ true
own-meet effects e other i h = by_test (meet (marks_over false no_marks effects) (marks_of e)) refl where
  by_test : (b : Bool) → meet (marks_over false no_marks effects) (marks_of e) ≡ b → b ≡ true
  by_test true k = refl
  by_test false k =
      absurd (false≢true (sym (harmless_if (marks_over false no_marks effects) e other (over-has false effects no_marks other i (counts-write other.write)) k) ∙ h))
