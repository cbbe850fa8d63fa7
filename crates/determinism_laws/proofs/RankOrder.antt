-- Conflicting accesses below a task are in the order of the ranks. Let the segment that comes later in the journal come
-- first by rank. Both ranks begin alike, up to a task and one of its spawns below which the later segment is. If the
-- earlier one is of that task itself, after the spawn, it spares the effects of the spawned child, or the child is done by
-- then. If it is below another child, spawned later, the two children are unjoined at once, so their effects do not
-- interfere, or the first child is done by then. No segment runs below a task that is done.
use Rattle.std.proofs.Common.{◌≡◌, ◌≢◌, ◌<◌, ℕ, false, List, [], ◌∷◌, Some, inl, inr, sym, ap, ◌∙◌, subst, arith}
use Rattle.std.specs.Prelude.{slice_get}
use Rattle.std.proofs.lemmas.Bool.{cases_Bool, cases_order}
use Rattle.effect_sets.specs.declared.effects.Effect.{Effect}
use Rattle.effect_sets.specs.declared.effects.Summary.{Summary}
use Rattle.effect_sets.specs.Access.{PathAccess as PathAccess, AccessInterferes, AccessInterferesWithSome, Conflict, CoversAccess, SomeCoversAccess}
use Rattle.effect_sets.proofs.Accesses.{access-conflicts, lists-apart}
use Rattle.seg_journal.specs.declared.journal.End.TheVariants as ends
use Rattle.seg_journal.specs.declared.journal.Entry.{Entry}
use Rattle.twe_base.specs.Limits.{Bounds}
use Rattle.twe_program.specs.Program.{Program}
use Rattle.twe_program.specs.WellFormed.{IsWellFormed}
use Rattle.seg_meaning.specs.Access.{Access}
use Rattle.isolation_laws.specs.soundness.DeclaredNow.{access_of}
use Rattle.isolation_laws.specs.soundness.KeepsEffects.{KeepsEffects}
use Rattle.wait_graph.specs.declared.tasks.Link.{Link}
use Rattle.wait_graph.specs.Waiting.{SpawnedBy}
use Rattle.machine_state.specs.declared.state.State.{State}
use Rattle.machine_state.specs.declared.state.TaskRow.{TaskRow}
use Rattle.machine_state.specs.declared.state.TaskStatus.TheVariants.{Done}
use Rattle.machine_state.specs.Rows.{HasStatus, IsRow}
use Rattle.machine_state.specs.Runs.{Legal}
use Rattle.machine_state.proofs.lists.Places.{got_one}
use Rattle.isolation_laws.proofs.effects.Interference.{any-in, in-any}
use Rattle.isolation_laws.proofs.journals.Journals.{children_apart}
use Rattle.isolation_laws.proofs.rows.LinksOfRows.{done_row, link_there}
use Rattle.isolation_laws.proofs.running.Covered.{spared}
use Rattle.determinism_laws.specs.ElisionOrder.{ConflictsKeepRanks}
use Rattle.determinism_laws.specs.Ranks.{ComesBefore, HasRank}
use Rattle.determinism_laws.specs.Segments.{IsSegmentOf, SegmentMakes, Spawns, number_of_segment, state_before}
use Rattle.determinism_laws.proofs.JournalPlaces.{done_at, later_at, reached_at, stands_at}
use Rattle.determinism_laws.proofs.SegmentNumbers.{numbers_grow}
use Rattle.determinism_laws.proofs.Trees.{Holds, holds_at, kept_at, one_segment, runner, spawned_before, spawned_number, spawned_row_at, spawned_there}

-- an access that conflicts with one that an effect covers interferes with the effect
pub meets_some : (es : List Effect) (x y : PathAccess) → SomeCoversAccess es y → Conflict x y → AccessInterferesWithSome x es
meets_some es x y covered conflict =
    let e = any-in (λ (e : Effect). CoversAccess e y) es covered in
    in-any (λ (e : Effect). AccessInterferes x e) es e.0 e.1 ((access-conflicts x e.0).1 (y, e.2, conflict))

module _ (p : Program) (wf : IsWellFormed p) (keeps : KeepsEffects p) (lim : Bounds) (journal : List Entry) (legal : Legal p lim journal) where
  abbrev st : ℕ → State
  st n = state_before p lim journal n

  -- a task below which a segment runs later is not done now
  not_done_yet : (c i j : ℕ) → i < j → Holds p wf keeps lim journal legal j c → ¬ HasStatus (st i) c Done
  not_done_yet c i j before holds done =
      let later = done_at p wf lim journal legal i j c (omega (arith, before)) done in
      let same : later.0 ≡ holds.row = got_one (slice_get (st j).tasks c) later.1 holds.there in
      holds.undone (sym (ap (λ (r : TaskRow). r.status) same) ∙ later.2)

  -- so its join has not been taken
  unjoined : (c i : ℕ) (row : TaskRow) → IsRow (st i) c row → ¬ HasStatus (st i) c Done → row.joined ≡ false
  unjoined c i row here undone =
      elim (cases_Bool row.joined) [
        | inl joined ↦ absurd (undone (row, here, ((stands_at p wf lim journal legal i).rows c row here).joined joined))
        | inr free ↦ free
      ]

  spawned_now : (c t i : ℕ) (row : TaskRow) → IsRow (st i) c row → row.parent ≡ Some t → row.joined ≡ false → SpawnedBy (st i).links c t
  spawned_now c t i row here of free =
      let link = link_there (st i) (stands_at p wf lim journal legal i).links c row here in
      record { parent = ap (λ (l : Link). l.parent) link ∙ of; unjoined = ap (λ (l : Link). l.joined) link ∙ free }

  -- what is covered later is covered by the effects now
  covers_now : (c i j : ℕ) (row : TaskRow) → i < j → IsRow (st i) c row → (holds : Holds p wf keeps lim journal legal j c)
      → (s : ℕ) (y : Access) → SegmentMakes p lim journal s j y → SomeCoversAccess row.effects.effects (access_of p y)
  covers_now c i j row before here holds s y makes =
      let kept = (later_at p wf lim journal legal i j (omega (arith, before))).kept c row here in
      let same : holds.row ≡ kept.now = got_one (slice_get (st j).tasks c) holds.there kept.there in
      let effects : holds.row.effects ≡ row.effects = ap (λ (r : TaskRow). r.effects) same ∙ kept.effects in
      subst (λ (x : Summary). SomeCoversAccess x.effects (access_of p y)) effects (holds.covers s y makes)

  -- a segment of t after the spawn of c, and a later one below c
  parent_spares : (t i spawn c j : ℕ) (rank : List ℕ) → IsSegmentOf journal t i → Spawns p lim journal t spawn c → spawn < i → i < j
      → HasRank p lim journal c j rank → (s u : ℕ) (x y : Access) → SegmentMakes p lim journal s i x → SegmentMakes p lim journal u j y
      → ¬ Conflict (access_of p x) (access_of p y)
  parent_spares t i spawn c j rank segment spawns after before has s u x y makes_x makes_y conflict =
      let child = spawned_row_at p wf keeps lim journal legal t spawn c i spawns after in
      let holds = holds_at p wf keeps lim journal legal rank c j has in
      let undone = not_done_yet c i j before holds in
      let by = spawned_now c t i child.0 child.1 child.2 (unjoined c i child.0 child.1 undone) in
      let same : s ≡ t = one_segment journal s t i makes_x.segment segment in
      let stands = stands_at p wf lim journal legal i in
      spared p wf keeps lim (st i) stands (kept_at p wf keeps lim journal legal i) t c makes_x.row child.0
      (subst (λ (n : ℕ). IsRow (st i) n makes_x.row) same makes_x.there) child.1 (runner p wf keeps lim journal legal t i segment) by
      (λ joins. undone (done_row (st i) stands.links c joins.1)) (st i).cells x makes_x.makes
      (meets_some child.0.effects.effects (access_of p x) (access_of p y) (covers_now c i j child.0 before child.1 holds u y makes_y) conflict)

  -- a segment below d, and a later one below c, which was spawned before d
  siblings_apart : (t i first d j second c : ℕ) (rank other : List ℕ) → Spawns p lim journal t first d → Spawns p lim journal t second c → second < first → i < j
      → HasRank p lim journal d i rank → HasRank p lim journal c j other → (s u : ℕ) (x y : Access) → SegmentMakes p lim journal s i x
      → SegmentMakes p lim journal u j y → ¬ Conflict (access_of p x) (access_of p y)
  siblings_apart t i first d j second c rank other spawns_d spawns_c earlier before has_d has_c s u x y makes_x makes_y conflict =
      let after = spawned_before p wf keeps lim journal legal rank t first d i spawns_d has_d in
      let child_d = spawned_row_at p wf keeps lim journal legal t first d i spawns_d after in
      let child_c = spawned_row_at p wf keeps lim journal legal t second c i spawns_c (omega (arith, earlier, after)) in
      let holds_d = holds_at p wf keeps lim journal legal rank d i has_d in
      let holds_c = holds_at p wf keeps lim journal legal other c j has_c in
      let same_d : holds_d.row ≡ child_d.0 = got_one (slice_get (st i).tasks d) holds_d.there child_d.1 in
      let undone_d : ¬ HasStatus (st i) d Done = λ done.
      let same : done.0 ≡ holds_d.row = got_one (slice_get (st i).tasks d) done.1 holds_d.there in
      holds_d.undone (sym (ap (λ (r : TaskRow). r.status) same) ∙ done.2) in
      let by_d = spawned_now d t i child_d.0 child_d.1 child_d.2 (unjoined d i child_d.0 child_d.1 undone_d) in
      let by_c = spawned_now c t i child_c.0 child_c.1 child_c.2 (unjoined c i child_c.0 child_c.1 (not_done_yet c i j before holds_c)) in
      let number_d = spawned_number p wf keeps lim journal legal t first d spawns_d in
      let number_c = spawned_number p wf keeps lim journal legal t second c spawns_c in
      let room = spawned_there p wf keeps lim journal legal t second c first spawns_c earlier in
      let differ : d ≢ c = λ e. omega (arith, e, number_d, number_c, room) in
      let free = children_apart p wf keeps lim (st i) (reached_at p wf lim journal legal i) d c t child_d.0 child_c.0 differ child_d.1 child_c.1 by_d by_c in
      let covers_x = subst (λ (r : TaskRow). SomeCoversAccess r.effects.effects (access_of p x)) same_d (holds_d.covers s x makes_x) in
      lists-apart child_d.0.effects.effects child_c.0.effects.effects free (access_of p x) (access_of p y) covers_x
      (covers_now c i j child_c.0 before child_c.1 holds_c u y makes_y) conflict

  -- one entry makes one task
  pub same_child : (t n c d : ℕ) → Spawns p lim journal t n c → Spawns p lim journal t n d → c ≡ d
  same_child t n c d a b =
      let same : a.segment.entry ≡ b.segment.entry = got_one (slice_get journal n) a.segment.there b.segment.there in
      let ends_same : ends.Made c ≡ ends.Made d = sym a.made ∙ (ap (λ (e : Entry). e.end) same ∙ b.made) in
      cc

  pub conflicts_ordered : (first second : List ℕ) (t i j s u : ℕ) → HasRank p lim journal t i first → HasRank p lim journal t j second → i < j
      → (x y : Access) → SegmentMakes p lim journal s i x → SegmentMakes p lim journal u j y → Conflict (access_of p x) (access_of p y) → ComesBefore first second
  conflicts_ordered [] second t i j s u has_i has_j before x y makes_x makes_y conflict = absurd has_i
  conflicts_ordered (n ∷ first) [] t i j s u has_i has_j before x y makes_x makes_y conflict = absurd has_j
  -- both are of t
  conflicts_ordered (n ∷ []) (m ∷ []) t i j s u has_i has_j before x y makes_x makes_y conflict =
      let grow = numbers_grow journal t i j before has_j.0 in
      inl (omega (arith, grow, has_i.1, has_j.1))
  -- the later one is below a child
  conflicts_ordered (n ∷ []) (m ∷ m2 ∷ ms) t i j s u has_i has_j before x y makes_x makes_y conflict =
      elim (cases_order i has_j.0) [
        | inl same ↦ inr (has_i.1 ∙ (ap (number_of_segment journal t) same ∙ sym has_j.3), tt)
        | inr differ ↦ elim differ [
          | inl earlier ↦ let grow = numbers_grow journal t i has_j.0 earlier has_j.2.segment in inl (omega (arith, grow, has_i.1, has_j.3))
          | inr later ↦ absurd (parent_spares t i has_j.0 has_j.1 j (m2 ∷ ms) has_i.0 has_j.2 later before has_j.4 s u x y makes_x makes_y conflict)
        ]
      ]
  -- the earlier one is below a child
  conflicts_ordered (n ∷ n2 ∷ ns) (m ∷ []) t i j s u has_i has_j before x y makes_x makes_y conflict =
      let after = spawned_before p wf keeps lim journal legal (n2 ∷ ns) t has_i.0 has_i.1 i has_i.2 has_i.4 in
      let grow = numbers_grow journal t has_i.0 j (omega (arith, after, before)) has_j.0 in
      inl (omega (arith, grow, has_i.3, has_j.1))
  -- each is below a child
  conflicts_ordered (n ∷ n2 ∷ ns) (m ∷ m2 ∷ ms) t i j s u has_i has_j before x y makes_x makes_y conflict =
      elim (cases_order has_i.0 has_j.0) [
        | inl same ↦
            let spawns = subst (λ (k : ℕ). Spawns p lim journal t k has_i.1) same has_i.2 in
            let child = same_child t has_j.0 has_i.1 has_j.1 spawns has_j.2 in
            inr (
              has_i.3 ∙ (ap (number_of_segment journal t) same ∙ sym has_j.3),
              conflicts_ordered (n2 ∷ ns) (m2 ∷ ms) has_j.1 i j s u (subst (λ (c : ℕ). HasRank p lim journal c i (n2 ∷ ns)) child has_i.4) has_j.4 before x y makes_x makes_y conflict,
            )
        | inr differ ↦ elim differ [
          | inl earlier ↦ let grow = numbers_grow journal t has_i.0 has_j.0 earlier has_j.2.segment in inl (omega (arith, grow, has_i.3, has_j.3))
          | inr later ↦ absurd (siblings_apart t i has_i.0 has_i.1 j has_j.0 has_j.1 (n2 ∷ ns) (m2 ∷ ms) has_i.2 has_j.2 later before has_i.4 has_j.4 s u x y makes_x makes_y conflict)
        ]
      ]

pub conflicts_keep_ranks : (p : Program) → IsWellFormed p → KeepsEffects p → (lim : Bounds) (journal : List Entry) → Legal p lim journal → (t : ℕ) → ConflictsKeepRanks p lim journal t
conflicts_keep_ranks p wf keeps lim journal legal t i j s u first second has_i has_j before x y makes_x makes_y conflict =
    conflicts_ordered p wf keeps lim journal legal first second t i j s u has_i has_j before x y makes_x makes_y conflict
