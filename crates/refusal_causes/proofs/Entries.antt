-- The map of the failures that were found: its order, what it is after one more, and that in the end it has all.
use Rattle.std.proofs.Common.{◌≡◌, ◌∙◌, ◌⊎◌, ◌<◌, ℕ, Bool, true, false, List, [], ◌∷◌, Option, None, Some, map, inl, inr, refl, sym, ap, subst}
use Rattle.std.specs.Prelude.{Contains, is_some, ◌==◌, if◌then◌else◌, cond}
use Rattle.std.specs.declared.cmp.Ordering.{Ordering}
use Rattle.std.specs.Ordering.{nat_cmp, ordering_then, MatchOrdering}
use Rattle.std.specs.declared.cmp.Ordering.TheVariants.{Less, Equal, Greater}
use Rattle.std.specs.Cmp.{IsTotalOrder}
use Rattle.std.specs.List.{All}
use Rattle.std.specs.List.Sorted.{IsStrictlySortedBy}
use Rattle.std.specs.Map.{keys_of, values_of}
use Rattle.std.specs.BTreeMap as tree
use Rattle.std.proofs.lemmas.Bool.{false≢true}
use Rattle.std.proofs.lemmas.Cmp.{nat_cmp_total, on_total, ranked, then_total}
use Rattle.std.proofs.lemmas.List.Elements.{All-cons, All-contains, All-contains_itself, All-from_recursion, All-head, All-map, All-nil, All-tail, All-weaker}
use Rattle.std.proofs.lemmas.Map.Lookups.{CmpEqualImpliesEq, exact_pairs, exact_unsigned}
use Rattle.std.proofs.lemmas.Map.Views.{All-found, btree_map_get_iff, tells_apart}
use Rattle.std.proofs.lemmas.Option.{none-some, same_Some}
use Rattle.twe_base.specs.declared.place.Place.{Place}
use Rattle.twe_program.specs.Program.{Program}
use Rattle.effect_check.specs.declared.rule.ERule.{ERule}
use Rattle.effect_check.specs.declared.rule.ERule.TheVariants.{E1, E2, E3, E4, E5, E6, E7, E8}
use Rattle.effect_check.specs.FailsEffect.{FailsEffect, effect_rule_number}
use Rattle.refusal_causes.specs.declared.found.CausedFailure.{CausedFailure}
use Rattle.refusal_causes.specs.declared.found.FailureKey.{FailureKey}
use Rattle.refusal_causes.specs.declared.found.FoundFailures.{FoundFailures}
use Rattle.refusal_causes.specs.Listing.{AreAllCauses, StandInOrder, StandsBefore, HasFailure, IsCausedFailure}
use Rattle.refusal_causes.specs.inner.Found.{Grows, IsEntry, IsSound, IsUnlisted, found_at, key_cmp, key_of}

pub keys_total : IsTotalOrder key_cmp
keys_total =
    then_total (on_total (λ (k : FailureKey). k.line) nat_cmp_total)
    (then_total (on_total (λ (k : FailureKey). k.col) nat_cmp_total) (on_total (λ (k : FailureKey). k.number) nat_cmp_total))

-- keys that compare alike are one
pub exact_keys : CmpEqualImpliesEq key_cmp
exact_keys a b h =
    ap (λ (p : ℕ × (ℕ × ℕ)). record { line = p.0; col = p.1.0; number = p.1.1 })
    (exact_pairs nat_cmp (λ (x y : ℕ × ℕ). ordering_then (nat_cmp x.0 y.0) (nat_cmp x.1 y.1)) exact_unsigned
    (exact_pairs nat_cmp nat_cmp exact_unsigned exact_unsigned) (a.line, (a.col, a.number)) (b.line, (b.col, b.number)) h)

-- nothing changes
pub grows_not : (p : Program) (found : FoundFailures) → Grows p found found
grows_not p found = record { keeps = λ rule place none. none; sound = λ sound. sound }

-- one change after another
pub grows_then : (p : Program) (a b c : FoundFailures) → Grows p a b → Grows p b c → Grows p a c
grows_then p a b c first second = record {
  keeps = λ rule place none. first.keeps rule place (second.keeps rule place none);
  sound = λ sound. second.sound (first.sound sound);
}

-- what was found is there
pub is_listed : {X : Type 0} (found : Option X) → is_some found ≡ true → ¬ (found ≡ None)
is_listed (Some failure) is none = none-some failure (sym none)
is_listed None is none = false≢true is

-- the empty map
pub empty_sound : (p : Program) (found : FoundFailures) → found.entries.entries ≡ [] → tree.IsOrdered key_cmp found.entries → IsSound p found
empty_sound p found empty ordered = record {
  entries = subst (λ (es : List (FailureKey × CausedFailure)). All (IsEntry p) es) (sym empty) (All-nil (IsEntry p));
  ordered = ordered;
}

none_before : {X : Type 0} (b : Bool) (x : X) (old : Option X) → cond b (Some x) old ≡ None → old ≡ None
none_before true x old none = absurd (none-some x (sym none))
none_before false x old none = none

module _ (p : Program) (before after : FoundFailures) (failure : CausedFailure)
    (updates : tree.Updates key_cmp before.entries after.entries (key_of failure.rule failure.place) (Some failure)) where
  -- it is there
  pub is_noted : ¬ IsUnlisted after failure.rule failure.place
  is_noted none = none-some failure (sym none ∙ updates.1)

  -- an entry of the new map is the failure, or was there
  entry_of : IsSound p before → IsCausedFailure p failure → (b : Bool) (e : FailureKey × CausedFailure)
      → b ≡ tree.is_at (key_cmp (key_of failure.rule failure.place)) e.0
      → cond b (Some failure) (tree.get key_cmp before.entries e.0) ≡ Some e.1 → IsEntry p e
  entry_of sound caused true e is there =
      let same : failure ≡ e.1 = same_Some failure e.1 there in
      let key : key_of failure.rule failure.place ≡ e.0 = tells_apart exact_keys (key_of failure.rule failure.place) e.0 (sym is) in
      (sym key ∙ ap (λ (f : CausedFailure). key_of f.rule f.place) same, subst (IsCausedFailure p) same caused)
  entry_of sound caused false e is there =
      All-contains (IsEntry p) before.entries.entries e sound.entries
      ((btree_map_get_iff keys_total exact_keys before.entries sound.ordered e.0 e.1).0 there)

  -- the map with one failure more
  pub grows_by : tree.IsOrdered key_cmp after.entries → IsCausedFailure p failure → Grows p before after
  grows_by ordered caused = record {
    keeps = λ rule place none.
        none_before (tree.is_at (key_cmp (key_of failure.rule failure.place)) (key_of rule place)) failure (found_at before rule place)
        (sym (updates.0 (key_of rule place)) ∙ none);
    sound = λ sound. record {
      entries = All-weaker (λ (e : FailureKey × CausedFailure). tree.get key_cmp after.entries e.0 ≡ Some e.1) (IsEntry p)
          (λ e there. entry_of sound caused (tree.is_at (key_cmp (key_of failure.rule failure.place)) e.0) e refl (sym (updates.0 e.0) ∙ there))
          after.entries.entries (All-found keys_total after.entries ordered);
      ordered = ordered;
    };
  }

-- ---- the list that is made of the map

-- the rule of a number
abbrev rule_of : ℕ → ERule
rule_of n =
    if n == 1 then E1 else if n == 2 then E2 else if n == 3 then E3 else if n == 4 then E4 else if n == 5 then E5
    else if n == 6 then E6 else if n == 7 then E7 else E8

of_number : (rule : ERule) → rule_of (effect_rule_number rule) ≡ rule
of_number E1 = refl
of_number E2 = refl
of_number E3 = refl
of_number E4 = refl
of_number E5 = refl
of_number E6 = refl
of_number E7 = refl
of_number E8 = refl

-- rules of one number are one
same_rule : (a b : ERule) → effect_rule_number a ≡ effect_rule_number b → a ≡ b
same_rule a b same = sym (of_number a) ∙ ap rule_of same ∙ of_number b

abbrev place_of_key : FailureKey → Place
place_of_key key = record { line = key.line; col = key.col }

is_less : (x y : ℕ) → nat_cmp x y ≡ Less → x < y
is_less x y less = subst (λ o. MatchOrdering o (x < y) (x ≡ y) (y < x)) less (ranked x y (nat_cmp x y) refl)

-- which part of two decides
less_by : (first second : Ordering) → ordering_then first second ≡ Less → (first ≡ Less) ⊎ ((first ≡ Equal) × (second ≡ Less))
less_by Less second less = inl refl
less_by Equal second less = inr (refl, less)
less_by Greater second less = inl less

-- the order of the keys is the order of the text
in_order : (a b : CausedFailure) → key_cmp (key_of a.rule a.place) (key_of b.rule b.place) ≡ Less → StandsBefore a b
in_order a b less = by_line (less_by (nat_cmp a.place.line b.place.line)
    (ordering_then (nat_cmp a.place.col b.place.col) (nat_cmp (effect_rule_number a.rule) (effect_rule_number b.rule))) less) where
      same_place : a.place.line ≡ b.place.line → a.place.col ≡ b.place.col → a.place ≡ b.place
      same_place line col =
          ap (λ (n : ℕ). record { line = n; col = a.place.col }) line ∙ ap (λ (n : ℕ). record { line = b.place.line; col = n }) col

      by_col : a.place.line ≡ b.place.line
          → (nat_cmp a.place.col b.place.col ≡ Less)
          ⊎ ((nat_cmp a.place.col b.place.col ≡ Equal) × (nat_cmp (effect_rule_number a.rule) (effect_rule_number b.rule) ≡ Less))
          → StandsBefore a b
      by_col line (inl col) = inl (inr (line, is_less a.place.col b.place.col col))
      by_col line (inr h) =
          inr (same_place line (exact_unsigned a.place.col b.place.col h.0), is_less (effect_rule_number a.rule) (effect_rule_number b.rule) h.1)

      by_line : (nat_cmp a.place.line b.place.line ≡ Less)
          ⊎ ((nat_cmp a.place.line b.place.line ≡ Equal)
          × (ordering_then (nat_cmp a.place.col b.place.col) (nat_cmp (effect_rule_number a.rule) (effect_rule_number b.rule)) ≡ Less))
          → StandsBefore a b
      by_line (inl line) = inl (inl (is_less a.place.line b.place.line line))
      by_line (inr h) =
          by_col (exact_unsigned a.place.line b.place.line h.0)
          (less_by (nat_cmp a.place.col b.place.col) (nat_cmp (effect_rule_number a.rule) (effect_rule_number b.rule)) h.1)

-- what holds of what is read of each
unmapped : {X Y : Type 0} (f : X → Y) (P : Y → Type 0) (xs : List X) → All P (map f xs) → All (λ x. P (f x)) xs
unmapped f P [] all = All-nil (λ x. P (f x))
unmapped f P (x ∷ xs) all =
    All-cons (λ y. P (f y)) x xs (All-head P (f x) (map f xs) all) (unmapped f P xs (All-tail P (f x) (map f xs) all))

module _ (p : Program) where
  -- an entry comes before those after it
  before_all : (e : FailureKey × CausedFailure) (es : List (FailureKey × CausedFailure)) → IsEntry p e → All (IsEntry p) es
      → All (λ (k : FailureKey). key_cmp e.0 k ≡ Less) (keys_of es) → All (StandsBefore e.1) (values_of es)
  before_all e [] is all less = All-nil (StandsBefore e.1)
  before_all e (f ∷ es) is all less =
      let other : IsEntry p f = All-head (IsEntry p) f es all in
      let first : key_cmp (key_of e.1.rule e.1.place) (key_of f.1.rule f.1.place) ≡ Less =
      subst (λ (k : FailureKey). key_cmp (key_of e.1.rule e.1.place) k ≡ Less) other.0
      (subst (λ (k : FailureKey). key_cmp k f.0 ≡ Less) is.0 (All-head (λ (k : FailureKey). key_cmp e.0 k ≡ Less) f.0 (keys_of es) less)) in
      All-cons (StandsBefore e.1) f.1 (values_of es) (in_order e.1 f.1 first)
      (before_all e es is (All-tail (IsEntry p) f es all) (All-tail (λ (k : FailureKey). key_cmp e.0 k ≡ Less) f.0 (keys_of es) less))

  sorted : (es : List (FailureKey × CausedFailure)) → All (IsEntry p) es → IsStrictlySortedBy key_cmp (keys_of es) → StandInOrder (values_of es)
  unfolding IsStrictlySortedBy
  sorted [] all ordered = tt
  sorted (e ∷ es) all ordered = (
    before_all e es (All-head (IsEntry p) e es all) (All-tail (IsEntry p) e es all)
        (All-from_recursion (λ (k : FailureKey). key_cmp e.0 k ≡ Less) (keys_of es) ordered.0),
    sorted es (All-tail (IsEntry p) e es all) ordered.1,
  )

  module _ (found : FoundFailures) (sound : IsSound p found) where
    -- an entry at the key of a rule and a place is their failure
    has_entry : (rule : ERule) (place : Place) (failure : CausedFailure) → Contains found.entries.entries (key_of rule place, failure)
        → HasFailure (values_of found.entries.entries) rule place
    has_entry rule place failure there =
        let entry = All-contains (IsEntry p) found.entries.entries (key_of rule place, failure) sound.entries there in
        let kept : All (λ (e : FailureKey × CausedFailure). Contains (values_of found.entries.entries) e.1) found.entries.entries =
        unmapped (λ (e : FailureKey × CausedFailure). e.1) (Contains (values_of found.entries.entries)) found.entries.entries
        (All-contains_itself (values_of found.entries.entries)) in (
          failure,
          All-contains (λ (e : FailureKey × CausedFailure). Contains (values_of found.entries.entries) e.1) found.entries.entries
              (key_of rule place, failure) kept there,
          same_rule failure.rule rule (sym (ap (λ (k : FailureKey). k.number) entry.0)),
          sym (ap place_of_key entry.0),
        )

    has_found : (rule : ERule) (place : Place) (there : Option CausedFailure) → there ≡ found_at found rule place → ¬ (there ≡ None)
        → HasFailure (values_of found.entries.entries) rule place
    has_found rule place None is some = absurd (some refl)
    has_found rule place (Some failure) is some =
        has_entry rule place failure
        ((btree_map_get_iff keys_total exact_keys found.entries sound.ordered (key_of rule place) failure).0 (sym is))

    -- a map that has each failure has all causes
    pub all_listed : ((rule : ERule) (place : Place) → FailsEffect p rule place → ¬ IsUnlisted found rule place)
        → AreAllCauses p (values_of found.entries.entries)
    all_listed complete = record {
      are = All-map (IsCausedFailure p) (λ (e : FailureKey × CausedFailure). e.1) found.entries.entries
          (All-weaker (IsEntry p) (λ (e : FailureKey × CausedFailure). IsCausedFailure p e.1) (λ e entry. entry.1) found.entries.entries sound.entries);
      all = λ rule place fails. has_found rule place (found_at found rule place) refl (complete rule place fails);
      ordered = sorted found.entries.entries sound.entries sound.ordered;
    }
