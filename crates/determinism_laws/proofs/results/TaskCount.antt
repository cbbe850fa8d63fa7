-- A list that has all numbers below a bound, each once, is as long as the bound. So the tasks that main spawned, directly or
-- not, are all tasks of a run but main.
use Rattle.std.proofs.Common.{◌≡◌, ◌≢◌, ◌≤◌, ◌<◌, ◌==◌, ◌||◌, ℕ, zero, suc, Bool, true, false, List, [], ◌∷◌, length, inl, inr, refl, sym, ap, ◌∙◌, subst, arith}
use Rattle.std.specs.Prelude.{if◌then◌else◌, slice_get}
use Rattle.std.specs.List.{list_any}
use Rattle.std.proofs.lemmas.Bool.{eq-eqb, eqb-true}
use Rattle.std.proofs.lemmas.Option.{slice_get_within}
use Rattle.effect_check.proofs.Members.{IsIn}
use Rattle.seg_journal.specs.declared.journal.End.TheVariants as entry_ends
use Rattle.seg_journal.specs.declared.journal.Entry.{Entry}
use Rattle.twe_base.specs.Limits.{Bounds}
use Rattle.twe_program.specs.Program.{Program}
use Rattle.seg_meaning.specs.Giving.{without}
use Rattle.machine_state.specs.Runs.{state_after}
use Rattle.machine_state.proofs.lists.Places.{got_one}
use Rattle.determinism_laws.specs.Orders.{SegmentAccesses}
use Rattle.determinism_laws.specs.Segments.{Spawns}
use Rattle.determinism_laws.specs.numbering.Numberings.{AllBelow, AllDiffer}
use Rattle.determinism_laws.proofs.numbering.Listed.{few_below}
use Rattle.determinism_laws.specs.theorem.Steps.{AreSpawned}

abbrev pub IsListed : ℕ → List ℕ → Type 0
IsListed n names = list_any (λ m. m == n) names ≡ true

-- A test of two parts.

first_true : (a b : Bool) → a ≡ true → (a || b) ≡ true
first_true true b e = refl
first_true false b e = absurd (cc (e))

second_true : (a b : Bool) → b ≡ true → (a || b) ≡ true
second_true true b e = refl
second_true false b e = e

second_if : (a b : Bool) → (a || b) ≡ true → a ≡ false → b ≡ true
second_if true b either is = absurd (cc (is))
second_if false b either is = either

pub listed_first : (n : ℕ) (names : List ℕ) → IsListed n (n ∷ names)
listed_first n names = first_true (n == n) (list_any (λ m. m == n) names) (eq-eqb n n refl)

pub listed_later : (n first : ℕ) (names : List ℕ) → IsListed n names → IsListed n (first ∷ names)
listed_later n first names there = second_true (first == n) (list_any (λ m. m == n) names) there

-- Without a number of it, a list is one shorter, and has the other numbers.

shorter_by : (n first : ℕ) (others : List ℕ) (is : Bool) → (list_any (λ m. m == n) others ≡ true → suc (length (without n others)) ≡ length others)
    → (is || list_any (λ m. m == n) others) ≡ true → suc (length (if is then others else (first ∷ without n others))) ≡ suc (length others)
shorter_by n first others true rest there = refl
shorter_by n first others false rest there = ap suc (rest there)

shorter : (n : ℕ) (names : List ℕ) → IsListed n names → suc (length (without n names)) ≡ length names
shorter n [] there = absurd (cc (there))
shorter n (first ∷ others) there = shorter_by n first others (first == n) (shorter n others) there

not_first : (k n first : ℕ) → k ≢ n → (is : Bool) → (first == k) ≡ is → first ≡ n → is ≡ false
not_first k n first differ true same is = absurd (differ (sym (eqb-true first k same) ∙ is))
not_first k n first differ false same is = refl

still_by : (k n first : ℕ) (others : List ℕ) → k ≢ n → (is : Bool) → (first == n) ≡ is → (IsListed k others → IsListed k (without n others))
    → ((first == k) || list_any (λ m. m == k) others) ≡ true → IsListed k (if is then others else (first ∷ without n others))
still_by k n first others differ true is rest there =
    second_if (first == k) (list_any (λ m. m == k) others) there (not_first k n first differ (first == k) refl (eqb-true first n is))
still_by k n first others differ false is rest there = either_way (first == k) refl
  where
    either_way : (here : Bool) → (first == k) ≡ here → ((first == k) || list_any (λ m. m == k) (without n others)) ≡ true
    either_way true here = first_true (first == k) (list_any (λ m. m == k) (without n others)) here
    either_way false here =
        second_true (first == k) (list_any (λ m. m == k) (without n others)) (rest (second_if (first == k) (list_any (λ m. m == k) others) there here))

still_listed : (k n : ℕ) (names : List ℕ) → k ≢ n → IsListed k names → IsListed k (without n names)
still_listed k n [] differ there = absurd (cc (there))
still_listed k n (first ∷ others) differ there = still_by k n first others differ (first == n) refl (still_listed k n others differ) there

-- so a list that has all numbers below a bound is at least as long
many_listed : (bound : ℕ) (names : List ℕ) → ((k : ℕ) → k < bound → IsListed k names) → bound ≤ length names
many_listed zero names all = omega arith
many_listed (suc bound) names all =
    let fewer = shorter bound names (all bound (omega arith)) in
    let rest = many_listed bound (without bound names) (λ k below. still_listed k bound names (apart k below) (all k (omega (arith, below)))) in
    omega (arith, fewer, rest)
  where
    apart : (k : ℕ) → k < bound → k ≢ bound
    apart k below same = omega (arith, below, same)

pub as_long : (bound : ℕ) (names : List ℕ) → AllDiffer names → AllBelow bound names → ((k : ℕ) → k < bound → IsListed k names) → length names ≡ bound
as_long bound names differ below all =
    let few = few_below bound names differ below in
    let many = many_listed bound names all in
    omega (arith, few, many)

module _ (p : Program) (lim : Bounds) (journal : List Entry) where
  -- a segment spawns one task
  one_child : (q r place a b : ℕ) → Spawns p lim journal q place a → Spawns p lim journal r place b → a ≡ b
  one_child q r place a b one two =
      let same : one.segment.entry ≡ two.segment.entry = got_one (slice_get journal place) one.segment.there two.segment.there in
      let both : entry_ends.Made a ≡ entry_ends.Made b = sym one.made ∙ (ap (λ (e : Entry). e.end) same ∙ two.made) in
      cc (both)

  -- each task that one of these segments spawned is listed
  pub spawned_listed : (segments : List SegmentAccesses) (children : List ℕ) → AreSpawned p lim journal segments children → (s : SegmentAccesses) → IsIn s segments → (q c : ℕ)
      → Spawns p lim journal q s.key c → IsListed c children
  spawned_listed [] children spawned s there q c spawn = absurd there
  spawned_listed (x ∷ segments) [] spawned s (inl here) q c spawn = absurd (spawned.0 q c (subst (λ (y : SegmentAccesses). Spawns p lim journal q y.key c) here spawn))
  spawned_listed (x ∷ segments) [] spawned s (inr later) q c spawn = spawned_listed segments [] spawned.1 s later q c spawn
  spawned_listed (x ∷ segments) (name ∷ names) (inl rest) s (inl here) q c spawn = absurd (rest.0 q c (subst (λ (y : SegmentAccesses). Spawns p lim journal q y.key c) here spawn))
  spawned_listed (x ∷ segments) (name ∷ names) (inl rest) s (inr later) q c spawn = spawned_listed segments (name ∷ names) rest.1 s later q c spawn
  spawned_listed (x ∷ segments) (name ∷ names) (inr own) s (inl here) q c spawn =
      let same = one_child own.0.0 q x.key name c own.0.1 (subst (λ (y : SegmentAccesses). Spawns p lim journal q y.key c) here spawn) in
      first_true (name == c) (list_any (λ m. m == c) names) (eq-eqb name c same)
  spawned_listed (x ∷ segments) (name ∷ names) (inr own) s (inr later) q c spawn =
      second_true (name == c) (list_any (λ m. m == c) names) (spawned_listed segments names own.1 s later q c spawn)

  -- and each listed task is there
  pub spawned_there : (segments : List SegmentAccesses) (children : List ℕ) → AreSpawned p lim journal segments children → AllBelow (length (state_after p lim journal).tasks) children
  spawned_there [] [] spawned = tt
  spawned_there [] (name ∷ names) spawned = absurd spawned
  spawned_there (s ∷ segments) [] spawned = tt
  spawned_there (s ∷ segments) (name ∷ names) (inl rest) = spawned_there segments (name ∷ names) rest.1
  spawned_there (s ∷ segments) (name ∷ names) (inr own) =
      (slice_get_within (state_after p lim journal).tasks name own.0.1.child own.0.1.there, spawned_there segments names own.1)
