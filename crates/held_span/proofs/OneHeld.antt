-- A list of moves has one held profile.
use Rattle.std.proofs.Common.{◌≡◌, ◌<◌, ◌+◌, inl, inr, ℕ, zero, suc, List, [], ◌∷◌, length, map, Some, refl, sym, ap, ◌∙◌, subst, arith}
use Rattle.std.specs.Prelude.{slice_get, slice_index}
use Rattle.std.specs.List.{Contains}
use Rattle.std.specs.List.Sorted.{IsStrictlyIncreasing}
use Rattle.std.proofs.lemmas.List.{length-map}
use Rattle.std.proofs.lemmas.List.Elements.{All-contains}
use Rattle.schedules.specs.Timetables.{AreEarliest}
use Rattle.seg_journal.specs.declared.journal.Entry.{Entry}
use Rattle.seg_journal.specs.declared.moves.Move.{Move}
use Rattle.twe_base.specs.Limits.{Bounds}
use Rattle.twe_program.specs.Program.{Program}
use Rattle.machine_state.specs.declared.state.State.{State}
use Rattle.machine_state.specs.declared.state.TaskRow.{TaskRow}
use Rattle.machine_state.specs.Moves.{start_of}
use Rattle.machine_state.specs.Runs.{Legal}
use Rattle.span_profile.specs.heaviest_chain.Chains.{Leads, weight_at}
use Rattle.span_profile.proofs.CountedParts.{counted_legal}
use Rattle.span_profile.proofs.Lists.{contains_cases, contains_first, contains_later, contains_none, map_contains}
use Rattle.span_profile.proofs.OneAdvice.{one_run}
use Rattle.span_profile.proofs.OneReason.{same_list}
use Rattle.span_profile.proofs.OneTimes.{one_earliest}
use Rattle.held_span.specs.Freed.{FollowsFreed, Frees, FreesFrom, RunEntry, stage_weight, stages}
use Rattle.held_span.specs.HeldSpans.{IsHeldProfile}
use Rattle.held_span.specs.Holds.{AreHolds, IsHold, MakesTask, held_entry}
use Rattle.held_span.specs.declared.hold.Hold.{Hold}
use Rattle.held_span.proofs.RisingNumbers.{one_maker}

-- Two lists of rising numbers with the same elements are one.

rest_rises : (x : ℕ) (xs : List ℕ) → IsStrictlyIncreasing (x ∷ xs) → IsStrictlyIncreasing xs
rest_rises x xs up k below =
    let more : suc k + 1 ≡ suc (k + 1) = omega arith in
    subst (λ (n : ℕ). slice_index (x ∷ xs) (suc k) < slice_index (x ∷ xs) n) more (up (suc k) (omega (arith, below)))

above_first : (x : ℕ) (xs : List ℕ) → IsStrictlyIncreasing (x ∷ xs) → (n : ℕ) → Contains xs n → x < n
above_first x [] up n has = absurd (contains_none n has)
above_first x (y ∷ ys) up n has =
    let less : x < y = up 0 (omega arith) in
    elim (contains_cases y n ys has) [
      | inl same ↦ omega (arith, less, same)
      | inr later ↦ (let more = above_first y ys (rest_rises x (y ∷ ys) up) n later in omega (arith, less, more))
    ]

one_first : (x y : ℕ) (xs ys : List ℕ) → IsStrictlyIncreasing (x ∷ xs) → IsStrictlyIncreasing (y ∷ ys) → Contains (y ∷ ys) x → Contains (x ∷ xs) y → x ≡ y
one_first x y xs ys up also there back = elim (contains_cases y x ys there) [
  | inl same ↦ sym same
  | inr later ↦
      let less = above_first y ys also x later in
      elim (contains_cases x y xs back) [
        | inl same ↦ same
        | inr more ↦ (let over = above_first x xs up y more in absurd (omega (arith, less, over)))
      ]
]

in_rest : (x y : ℕ) (xs ys : List ℕ) → IsStrictlyIncreasing (x ∷ xs) → x ≡ y → ((n : ℕ) → Contains (x ∷ xs) n → Contains (y ∷ ys) n) → (n : ℕ) → Contains xs n → Contains ys n
in_rest x y xs ys up same into n has = elim (contains_cases y n ys (into n (contains_later x n xs has))) [
  | inl first ↦ (let above = above_first x xs up n has in absurd (omega (arith, above, same, first)))
  | inr later ↦ later
]

one_rising : (xs ys : List ℕ) → IsStrictlyIncreasing xs → IsStrictlyIncreasing ys → ((n : ℕ) → Contains xs n → Contains ys n) → ((n : ℕ) → Contains ys n → Contains xs n) → xs ≡ ys
one_rising [] [] up also into back = refl
one_rising [] (y ∷ ys) up also into back = absurd (contains_none y (back y (contains_first y ys)))
one_rising (x ∷ xs) [] up also into back = absurd (contains_none x (into x (contains_first x xs)))
one_rising (x ∷ xs) (y ∷ ys) up also into back =
    let first = one_first x y xs ys up also (into x (contains_first x xs)) (back y (contains_first y ys)) in
    let rest = one_rising xs ys (rest_rises x xs up) (rest_rises y ys also) (in_rest x y xs ys up first into) (in_rest y x ys xs also (sym first) back) in
    λ i. first i ∷ rest i

-- One list of holds.
module _ (rows : List TaskRow) (stages : List RunEntry) (starts ends : List ℕ) (one_maker : (task m n : ℕ) → MakesTask stages m task → MakesTask stages n task → m ≡ n) where
  one_hold_at : (entry task holder freed time other_task other_holder other_freed other_time : ℕ)
      → IsHold rows stages starts ends (record { entry = entry; task = task; holder = holder; freed_by = freed; time = time })
      → IsHold rows stages starts ends (record { entry = entry; task = other_task; holder = other_holder; freed_by = other_freed; time = other_time })
      → (task ≡ other_task) × (holder ≡ other_holder) × (freed ≡ other_freed) × (time ≡ other_time)
  one_hold_at entry task holder freed time other_task other_holder other_freed other_time a b =
      let first = a.held.admits in
      let second = b.held.admits in
      let both : Some first.entry ≡ Some second.entry = sym first.there ∙ second.there in
      let same : first.entry ≡ second.entry = cc (both) in
      let tasks : task ≡ other_task = sym first.task_is ∙ (ap (λ (e : RunEntry). e.strand.task) same ∙ second.task_is) in
      let makers : a.held.maker ≡ b.held.maker = one_maker other_task a.held.maker b.held.maker (subst (MakesTask stages a.held.maker) tasks a.held.makes) b.held.makes in
      let ends_then : slice_index ends a.held.maker ≡ slice_index ends b.held.maker = ap (slice_index ends) makers in
      let time_is = a.held.time_is in
      let time_also = b.held.time_is in
      let from_b : Leads (Frees rows) stages other_freed entry =
      record { before = b.frees.before; first = b.frees.first; second = b.frees.second; at_first = b.frees.at_first; at_second = b.frees.at_second; leads = (other_holder, b.frees.leads) } in
      let from_a : Leads (Frees rows) stages freed entry =
      record { before = a.frees.before; first = a.frees.first; second = a.frees.second; at_first = a.frees.at_first; at_second = a.frees.at_second; leads = (holder, a.frees.leads) } in
      let least = a.first other_freed from_b b.until in
      let most = b.first freed from_a a.until in
      let freed_same : freed ≡ other_freed = omega (arith, least, most) in
      let low = a.lowest other_holder (subst (λ (n : ℕ). Leads (FreesFrom rows other_holder) stages n entry) (sym freed_same) b.frees) in
      let high = b.lowest holder (subst (λ (n : ℕ). Leads (FreesFrom rows holder) stages n entry) freed_same a.frees) in (
        tasks,
        omega (arith, low, high),
        freed_same,
        omega (arith, time_is, time_also, ends_then),
      )

  one_hold : (hold other : Hold) → hold.entry ≡ other.entry → IsHold rows stages starts ends hold → IsHold rows stages starts ends other → hold ≡ other
  one_hold hold other same a b =
      let moved : other ≡ record { entry = hold.entry; task = other.task; holder = other.holder; freed_by = other.freed_by; time = other.time } =
      λ i. record { entry = sym same i; task = other.task; holder = other.holder; freed_by = other.freed_by; time = other.time } in
      let all =
      one_hold_at hold.entry hold.task hold.holder hold.freed_by hold.time other.task other.holder other.freed_by other.time a (subst (IsHold rows stages starts ends) moved b) in
      λ i. record { entry = same i; task = all.0 i; holder = all.1 i; freed_by = all.2 i; time = all.3 i }

  held_there : (holds others : List Hold) → AreHolds rows stages starts ends holds → AreHolds rows stages starts ends others → (n : ℕ) → Contains (map held_entry holds) n → Contains (map held_entry others) n
  held_there holds others a b n has =
      let hold = map_contains held_entry holds n has in
      let is = All-contains (IsHold rows stages starts ends) holds hold.0 a.each hold.1 in
      subst (Contains (map held_entry others)) hold.2 (b.all hold.0.entry hold.0.task hold.0.time is.held)

  entry_at : (holds : List Hold) (k : ℕ) (hold : Hold) → slice_get holds k ≡ Some hold → slice_get (map held_entry holds) k ≡ Some hold.entry
  entry_at [] k hold at = absurd (cc (at))
  entry_at (first ∷ holds) zero hold at = let same : first ≡ hold = cc (at) in ap (λ (h : Hold). Some h.entry) same
  entry_at (first ∷ holds) (suc k) hold at = entry_at holds k hold at

  stands_in : (holds : List Hold) (k : ℕ) (hold : Hold) → slice_get holds k ≡ Some hold → Contains holds hold
  stands_in [] k hold at = absurd (cc (at))
  stands_in (first ∷ holds) zero hold at = let same : first ≡ hold = cc (at) in subst (λ (h : Hold). Contains (h ∷ holds) hold) (sym same) (contains_first hold holds)
  stands_in (first ∷ holds) (suc k) hold at = contains_later first hold holds (stands_in holds k hold at)

  one_holds : (holds others : List Hold) → AreHolds rows stages starts ends holds → AreHolds rows stages starts ends others → holds ≡ others
  one_holds holds others a b =
      let entries = one_rising (map held_entry holds) (map held_entry others) a.in_order b.in_order (held_there holds others a b) (held_there others holds b a) in
      let many = sym (length-map holds held_entry) ∙ (ap (λ (l : List ℕ). length l) entries ∙ length-map others held_entry) in
      same_list holds others many
      (λ k x y at also.
      let both : Some x.entry ≡ Some y.entry = sym (entry_at holds k x at) ∙ (ap (λ (l : List ℕ). slice_get l k) entries ∙ entry_at others k y also) in
      let same : x.entry ≡ y.entry = cc (both) in
      one_hold x y same (All-contains (IsHold rows stages starts ends) holds x a.each (stands_in holds k x at)) (All-contains (IsHold rows stages starts ends) others y b.each (stands_in others k y also)))

pub one_held : (p : Program) (lim : Bounds) (moves : List Move) (span other : ℕ) (starts ends firsts lasts : List ℕ) (holds others : List Hold) → IsHeldProfile p lim moves span starts ends holds
    → IsHeldProfile p lim moves other firsts lasts others → (span ≡ other) × (starts ≡ firsts) × (ends ≡ lasts) × (holds ≡ others)
one_held p lim moves span other starts ends firsts lasts holds others one two =
    let same = one_run p lim moves one.held.journal two.held.journal one.held.st two.held.st one.held.run two.held.run in
    let all = stages p lim two.held.journal in
    let rows = two.held.st.tasks in
    let run = two.held.run in
    let legal : Legal p lim two.held.journal = subst (Legal p lim) (sym run.journal_is) (counted_legal p lim (start_of p lim) run.whole run.legal) in
    let early = λ (j : List Entry) (st : State). AreEarliest (Leads (FollowsFreed st.tasks) (stages p lim j)) (weight_at stage_weight (stages p lim j)) (length (stages p lim j)) span starts ends in
    let times : AreEarliest (Leads (FollowsFreed rows) all) (weight_at stage_weight all) (length all) span starts ends =
    subst (λ (st : State). early two.held.journal st) same.1 (subst (λ (j : List Entry). early j one.held.st) same.0 one.times) in
    let equal = one_earliest (Leads (FollowsFreed rows) all) (λ i j leads. leads.before) (weight_at stage_weight all) (length all) span other starts ends firsts lasts times two.times in
    let these : AreHolds rows all starts ends holds =
    subst (λ (st : State). AreHolds st.tasks all starts ends holds) same.1 (subst (λ (j : List Entry). AreHolds one.held.st.tasks (stages p lim j) starts ends holds) same.0 one.holds_are) in
    let moved : AreHolds rows all firsts lasts holds =
    subst (λ (l : List ℕ). AreHolds rows all l lasts holds) equal.1 (subst (λ (l : List ℕ). AreHolds rows all starts l holds) equal.2 these) in
    (equal.0, equal.1, equal.2, one_holds rows all firsts lasts (one_maker p lim (start_of p lim) two.held.journal legal) holds others moved two.holds_are)
