-- Each segment of the tasks below a task has one rank, and each rank is that of one segment. Of two segments one comes first.
use Rattle.std.proofs.Common.{◌≡◌, ◌⊎◌, ◌≤◌, ◌<◌, ℕ, List, [], ◌∷◌, Some, inl, inr, refl, sym, ap, ◌∙◌, subst, arith}
use Rattle.std.specs.Prelude.{slice_get}
use Rattle.std.proofs.lemmas.Bool.{cases_order}
use Rattle.seg_journal.specs.declared.journal.Entry.{Entry}
use Rattle.twe_base.specs.Limits.{Bounds}
use Rattle.twe_program.specs.Program.{Program}
use Rattle.twe_program.specs.WellFormed.{IsWellFormed}
use Rattle.isolation_laws.specs.soundness.KeepsEffects.{KeepsEffects}
use Rattle.wait_graph.specs.Chain.{Chain, none, more}
use Rattle.wait_graph.proofs.ChainLemmas.{Chain-fork, Chain-push}
use Rattle.machine_state.specs.declared.state.State.{State}
use Rattle.machine_state.specs.declared.state.TaskRow.{TaskRow}
use Rattle.machine_state.specs.Runs.{IsReached, Legal, state_after}
use Rattle.machine_state.proofs.lists.Places.{got_one}
use Rattle.machine_state.proofs.standing.ReachedStands.{reached_stands}
use Rattle.machine_state.proofs.standing.Standing.{Stands}
use Rattle.determinism_laws.specs.Ranks.{AllHaveRanks, BelowTask, ComesBefore, HasParent, HasRank, IsBelow, OneRankEach, OneSegmentEach, SegmentsAreInOrder}
use Rattle.determinism_laws.specs.Segments.{IsSegmentOf, Spawns, number_of_segment}
use Rattle.determinism_laws.proofs.RankOrder.{same_child}
use Rattle.determinism_laws.proofs.SegmentNumbers.{numbers_grow}
use Rattle.determinism_laws.proofs.Spawners.{spawner}
use Rattle.determinism_laws.proofs.Trees.{one_segment, spawned_number, spawned_there}

-- of two lists one comes first, or they are the same
lists_in_order : (xs ys : List ℕ) → (xs ≡ ys) ⊎ (ComesBefore xs ys ⊎ ComesBefore ys xs)
lists_in_order [] [] = inl refl
lists_in_order [] (y ∷ ys) = inr (inl tt)
lists_in_order (x ∷ xs) [] = inr (inr tt)
lists_in_order (x ∷ xs) (y ∷ ys) =
    elim (cases_order x y) [
      | inl same ↦ elim (lists_in_order xs ys) [
        | inl e ↦ inl (λ i. same i ∷ e i)
        | inr one ↦ elim one [ inl before ↦ inr (inl (inr (same, before))) | inr after ↦ inr (inr (inr (sym same, after))) ]
      ]
      | inr differ ↦ elim differ [ inl below ↦ inr (inl (inl below)) | inr above ↦ inr (inr (inl above)) ]
    ]

-- two segments of one task have different numbers
pub one_place : (journal : List Entry) (t i j : ℕ) → IsSegmentOf journal t i → IsSegmentOf journal t j → number_of_segment journal t i ≡ number_of_segment journal t j → i ≡ j
one_place journal t i j a b same =
    elim (cases_order i j) [
      | inl e ↦ e
      | inr differ ↦ elim differ [
        | inl before ↦ let grow = numbers_grow journal t i j before b in absurd (omega (arith, grow, same))
        | inr after ↦ let grow = numbers_grow journal t j i after a in absurd (omega (arith, grow, same))
      ]
    ]

module _ (p : Program) (wf : IsWellFormed p) (keeps : KeepsEffects p) (lim : Bounds) (journal : List Entry) (legal : Legal p lim journal) where
  abbrev final : State
  final = state_after p lim journal

  pub final_reached : IsReached p lim final
  final_reached = record { journal = journal; legal = legal; same = refl }

  pub final_stands : Stands p lim final
  final_stands = reached_stands p lim final wf final_reached

  pub one_parent : (c q r : ℕ) → HasParent final c q → HasParent final c r → r ≡ q
  one_parent c q r a b =
      let same : a.0 ≡ b.0 = got_one (slice_get final.tasks c) a.1 b.1 in
      let both : Some q ≡ Some r = sym a.2 ∙ (ap (λ (x : TaskRow). x.parent) same ∙ b.2) in
      cc

  pub parent_below : (c q : ℕ) → HasParent final c q → q < c
  parent_below c q a = (final_stands.rows c a.0 a.1).parent q a.2

  chain_below : {c q : ℕ} → Chain (HasParent final) c q → q ≤ c
  chain_below none = omega arith
  chain_below {c} {q} (more {b = b} first chain) =
      let below = parent_below c b first in
      let others = chain_below chain in
      omega (arith, below, others)

  spawn_parent : (t n c : ℕ) → Spawns p lim journal t n c → HasParent final c t
  spawn_parent t n c spawn = (spawn.child, spawn.there, spawn.parent)

  -- the task of a segment below c has c as an ancestor
  pub ancestor : (rank : List ℕ) (c i u : ℕ) → HasRank p lim journal c i rank → IsSegmentOf journal u i → Chain (HasParent final) u c
  ancestor [] c i u has segment = absurd has
  ancestor (number ∷ []) c i u has segment = subst (λ (x : ℕ). Chain (HasParent final) u x) (one_segment journal u c i segment has.0) none
  ancestor (number ∷ next ∷ others) c i u has segment =
      Chain-push (ancestor (next ∷ others) has.1 i u has.4 segment) (spawn_parent c has.0 has.1 has.2)

  pub segment_at : (rank : List ℕ) (c i : ℕ) → HasRank p lim journal c i rank → (u : ℕ) × IsSegmentOf journal u i
  segment_at [] c i has = absurd has
  segment_at (number ∷ []) c i has = (c, has.0)
  segment_at (number ∷ next ∷ others) c i has = segment_at (next ∷ others) has.1 i has.4

  -- of two children of t, one descends from the other only if they are the same
  descent_of_child : (t c d : ℕ) → HasParent final c t → HasParent final d t → Chain (HasParent final) c d → c ≡ d
  descent_of_child t c d of_c of_d none = refl
  descent_of_child t c d of_c of_d (more {b = b} first chain) =
      let same = one_parent c t b of_c first in
      let below = chain_below chain in
      let above = parent_below d t of_d in
      absurd (omega (arith, same, below, above))

  -- a segment is below one child of t at most
  same_branch : (t c d i : ℕ) (first second : List ℕ) → HasParent final c t → HasParent final d t → HasRank p lim journal c i first → HasRank p lim journal d i second → c ≡ d
  same_branch t c d i first second of_c of_d has_c has_d =
      let runs = segment_at first c i has_c in
      elim (Chain-fork (λ x y z. one_parent x y z) (ancestor first c i runs.0 has_c runs.1) (ancestor second d i runs.0 has_d runs.1)) [
        | inl chain ↦ descent_of_child t c d of_c of_d chain
        | inr chain ↦ sym (descent_of_child t d c of_d of_c chain)
      ]

  -- a segment of t is not below a child of t
  not_below_child : (t c i : ℕ) (rank : List ℕ) → HasParent final c t → IsSegmentOf journal t i → ¬ HasRank p lim journal c i rank
  not_below_child t c i rank of segment has =
      let below = chain_below (ancestor rank c i t has segment) in
      let above = parent_below c t of in
      omega (arith, below, above)

  -- a task is spawned once
  one_spawn : (t n m c : ℕ) → Spawns p lim journal t n c → Spawns p lim journal t m c → n ≡ m
  one_spawn t n m c a b =
      let number_a = spawned_number p wf keeps lim journal legal t n c a in
      let number_b = spawned_number p wf keeps lim journal legal t m c b in
      elim (cases_order n m) [
        | inl same ↦ same
        | inr differ ↦ elim differ [
          | inl before ↦ let room = spawned_there p wf keeps lim journal legal t n c m a before in absurd (omega (arith, room, number_b))
          | inr after ↦ let room = spawned_there p wf keeps lim journal legal t m c n b after in absurd (omega (arith, room, number_a))
        ]
      ]

  pub one_rank : (first second : List ℕ) (t i : ℕ) → HasRank p lim journal t i first → HasRank p lim journal t i second → first ≡ second
  one_rank [] second t i a b = absurd a
  one_rank (n ∷ first) [] t i a b = absurd b
  one_rank (n ∷ []) (m ∷ []) t i a b = let same : n ≡ m = a.1 ∙ sym b.1 in λ k. same k ∷ []
  one_rank (n ∷ []) (m ∷ m2 ∷ ms) t i a b = absurd (not_below_child t b.1 i (m2 ∷ ms) (spawn_parent t b.0 b.1 b.2) a.0 b.4)
  one_rank (n ∷ n2 ∷ ns) (m ∷ []) t i a b = absurd (not_below_child t a.1 i (n2 ∷ ns) (spawn_parent t a.0 a.1 a.2) b.0 a.4)
  one_rank (n ∷ n2 ∷ ns) (m ∷ m2 ∷ ms) t i a b =
      let same = same_branch t a.1 b.1 i (n2 ∷ ns) (m2 ∷ ms) (spawn_parent t a.0 a.1 a.2) (spawn_parent t b.0 b.1 b.2) a.4 b.4 in
      let spawn = one_spawn t a.0 b.0 b.1 (subst (λ (c : ℕ). Spawns p lim journal t a.0 c) same a.2) b.2 in
      let head : n ≡ m = a.3 ∙ (ap (number_of_segment journal t) spawn ∙ sym b.3) in
      let tail : (n2 ∷ ns) ≡ (m2 ∷ ms) = one_rank (n2 ∷ ns) (m2 ∷ ms) b.1 i (subst (λ (c : ℕ). HasRank p lim journal c i (n2 ∷ ns)) same a.4) b.4 in
      λ k. head k ∷ tail k

  one_segment_each : (rank : List ℕ) (t i j : ℕ) → HasRank p lim journal t i rank → HasRank p lim journal t j rank → i ≡ j
  one_segment_each [] t i j a b = absurd a
  one_segment_each (n ∷ []) t i j a b = one_place journal t i j a.0 b.0 (sym a.1 ∙ b.1)
  one_segment_each (n ∷ n2 ∷ ns) t i j a b =
      let spawn = one_place journal t a.0 b.0 a.2.segment b.2.segment (sym a.3 ∙ b.3) in
      let same = same_child p wf keeps lim journal legal t b.0 a.1 b.1 (subst (λ (k : ℕ). Spawns p lim journal t k a.1) spawn a.2) b.2 in
      one_segment_each (n2 ∷ ns) b.1 i j (subst (λ (c : ℕ). HasRank p lim journal c i (n2 ∷ ns)) same a.4) b.4

  in_order : (t : ℕ) → SegmentsAreInOrder p lim journal t
  in_order t i j first second a b differ =
      elim (lists_in_order first second) [
        | inl same ↦ absurd (differ (one_segment_each second t i j (subst (HasRank p lim journal t i) same a) b))
        | inr one ↦ one
      ]

  -- a segment below a task is below each task that this one is below
  below_more : (t s i : ℕ) → BelowTask final t s → IsBelow p lim journal s i → IsBelow p lim journal t i
  below_more t s i none below = below
  below_more t s i (more first above) ([], has) = absurd has
  below_more t s i (more {b = parent} first above) (number ∷ others, has) =
      let spawn = spawner p wf lim journal legal parent s first.0 first.1 first.2 in
      below_more t parent i above (number_of_segment journal parent spawn.0 ∷ number ∷ others, (spawn.0, s, spawn.1, refl, has))

  pub all_have_ranks : (t : ℕ) → AllHaveRanks p lim journal t
  all_have_ranks t i s segment below = below_more t s i below (number_of_segment journal s i ∷ [], (segment, refl))

pub ranks_once : (p : Program) → IsWellFormed p → KeepsEffects p → (lim : Bounds) (journal : List Entry) → Legal p lim journal → (t : ℕ) → OneSegmentEach p lim journal t
ranks_once p wf keeps lim journal legal t i j rank a b = one_segment_each p wf keeps lim journal legal rank t i j a b

pub segments_once : (p : Program) → IsWellFormed p → KeepsEffects p → (lim : Bounds) (journal : List Entry) → Legal p lim journal → (t : ℕ) → OneRankEach p lim journal t
segments_once p wf keeps lim journal legal t i first second a b = one_rank p wf keeps lim journal legal first second t i a b

pub segments_ordered : (p : Program) → IsWellFormed p → KeepsEffects p → (lim : Bounds) (journal : List Entry) → Legal p lim journal → (t : ℕ) → SegmentsAreInOrder p lim journal t
segments_ordered p wf keeps lim journal legal t = in_order p wf keeps lim journal legal t

pub segments_ranked : (p : Program) → IsWellFormed p → KeepsEffects p → (lim : Bounds) (journal : List Entry) → Legal p lim journal → (t : ℕ) → AllHaveRanks p lim journal t
segments_ranked p wf keeps lim journal legal t = all_have_ranks p wf keeps lim journal legal t
