-- The segments below a deterministic task, executed in the order of their ranks, find the values that they found in the
-- journal: the order of the journal and that of the ranks agree on conflicts.
use Rattle.std.proofs.Common.{◌≡◌, ◌⊎◌, ◌≤◌, ◌<◌, ◌+◌, ℕ, zero, suc, pos, true, IsTrue, List, [], ◌∷◌, ◌++◌, Contains, inl, inr, refl, sym, ap, ◌∙◌, subst, arith, eqb-true}
use Rattle.std.specs.Prelude.{slice_get}
use Rattle.effect_sets.specs.declared.effects.Effect.{Effect}
use Rattle.effect_sets.specs.Access.{AccessInterferes, CoversAccess, SomeCoversAccess}
use Rattle.region_paths.specs.Concrete.{InSet}
use Rattle.effect_check.proofs.Members.{IsIn, contains-in, in-cases, in-contains, in-right, list_any-in}
use Rattle.seg_journal.specs.declared.journal.Entry.{Entry}
use Rattle.twe_base.specs.Limits.{Bounds}
use Rattle.twe_program.specs.Program.{Program}
use Rattle.twe_program.specs.WellFormed.{IsWellFormed}
use Rattle.seg_meaning.specs.Access.{Access, Prints, Reads, Writes}
use Rattle.isolation_laws.specs.soundness.CellPaths.{path_of_cell}
use Rattle.isolation_laws.specs.soundness.DeclaredNow.{access_of}
use Rattle.isolation_laws.specs.soundness.KeepsEffects.{KeepsEffects}
use Rattle.machine_state.specs.declared.state.TaskRow.{TaskRow}
use Rattle.machine_state.specs.Rows.{IsRow}
use Rattle.machine_state.specs.Runs.{Legal, state_after}
use Rattle.isolation_laws.proofs.effects.Interference.{any-in, in-any}
use Rattle.determinism_laws.specs.Deterministic.{IsDeterministic}
use Rattle.determinism_laws.specs.Orders.{AgreeOn, EachStandsOnce, PrecedesIn, SegmentAccesses, SegmentsConflict, accesses_cell, after_all, is_access_of}
use Rattle.determinism_laws.specs.Ranks.{ComesBefore, IsBelow}
use Rattle.determinism_laws.specs.Segments.{SegmentMakes, state_before}
use Rattle.determinism_laws.specs.Sequential.{AreSegmentsBelow, ExecuteAlike, ExecutesInRankOrder, IsEnabledThroughout, IsRankOrder, IsSegmentAt, IsUnder}
use Rattle.determinism_laws.proofs.LeftAlone.{stays_within}
use Rattle.determinism_laws.proofs.ListOrders.{first_in, second_in, some_order}
use Rattle.determinism_laws.proofs.OwnCells.{own_cells}
use Rattle.determinism_laws.proofs.RankOrder.{conflicts_keep_ranks}
use Rattle.determinism_laws.proofs.SameValues.{same_cells, same_prints, same_values}

-- a list at whose end an element is put
module _ {X : Type 0} where
  push_once : (xs : List X) (x : X) → EachStandsOnce xs → ¬ IsIn x xs → EachStandsOnce (xs ++ x ∷ [])
  push_once [] x once apart = ((λ c. contains-in [] x c), tt)
  push_once (y ∷ ys) x once apart = (
    (λ c. elim (in-cases y ys (x ∷ []) (contains-in (ys ++ x ∷ []) y c)) [
      | inl here ↦ once.0 (in-contains ys y here)
      | inr last ↦ elim last [ inl same ↦ apart (inl (sym same)) | inr none_left ↦ none_left ]
    ]),
    push_once ys x once.1 (λ h. apart (inr h)),
  )

  push_pairs : (xs : List X) (x a b : X) → PrecedesIn (xs ++ x ∷ []) a b → PrecedesIn xs a b ⊎ (IsIn a xs × (b ≡ x))
  push_pairs [] x a b (inl here) = absurd (contains-in [] b here.1)
  push_pairs [] x a b (inr later) = absurd later
  push_pairs (y ∷ ys) x a b (inl here) = elim (in-cases b ys (x ∷ []) (contains-in (ys ++ x ∷ []) b here.1)) [
    | inl among ↦ inl (inl (here.0, in-contains ys b among))
    | inr last ↦ elim last [ inl same ↦ inr (inl (sym here.0), same) | inr none_left ↦ absurd none_left ]
  ]
  push_pairs (y ∷ ys) x a b (inr later) = elim (push_pairs ys x a b later) [ inl h ↦ inl (inr h) | inr h ↦ inr (inr h.0, h.1) ]

-- no two ranks come before one another
pub never_both : (xs ys : List ℕ) → ComesBefore xs ys → ¬ ComesBefore ys xs
never_both [] [] a b = a
never_both [] (y ∷ ys) a b = b
never_both (x ∷ xs) [] a b = a
never_both (x ∷ xs) (y ∷ ys) (inl below) (inl above) = omega (arith, below, above)
never_both (x ∷ xs) (y ∷ ys) (inl below) (inr same) = omega (arith, below, same.0)
never_both (x ∷ xs) (y ∷ ys) (inr same) (inl above) = omega (arith, same.0, above)
never_both (x ∷ xs) (y ∷ ys) (inr a) (inr b) = never_both xs ys a.1 b.1

-- a cell that is accessed within the effects is under them
accessed_under : (p : Program) (row : TaskRow) (cell : ℕ) (x : Access) → is_access_of cell x ≡ true → SomeCoversAccess row.effects.effects (access_of p x) → IsUnder p row cell
accessed_under p row cell (Prints value) is covered = absurd (cc (is))
accessed_under p row cell (Reads other value) is covered =
    let e = any-in (λ (e : Effect). CoversAccess e (access_of p (Reads other value))) row.effects.effects covered in
    in-any (λ (e : Effect). AccessInterferes (access_of p (Writes cell (pos 0))) e) row.effects.effects e.0 e.1
    (refl, subst (λ (n : ℕ). InSet (e.0).path (path_of_cell p n)) (eqb-true other cell is) e.2.1)
accessed_under p row cell (Writes other value) is covered =
    let e = any-in (λ (e : Effect). CoversAccess e (access_of p (Writes other value))) row.effects.effects covered in
    in-any (λ (e : Effect). AccessInterferes (access_of p (Writes cell (pos 0))) e) row.effects.effects e.0 e.1
    (refl, subst (λ (n : ℕ). InSet (e.0).path (path_of_cell p n)) (eqb-true other cell is) e.2.1)

module _ (p : Program) (wf : IsWellFormed p) (keeps : KeepsEffects p) (lim : Bounds) (journal : List Entry) (legal : Legal p lim journal) (t : ℕ) where
  abbrev Listed : ℕ → ℕ → List SegmentAccesses → Type 0
  Listed from count segments = AreSegmentsBelow p lim journal t from count segments

  -- a listed segment is below t, and its place is among the entries
  pub record IsListed (from count : ℕ) (s : SegmentAccesses) : Type 0 where
    pub least : from ≤ s.key
    pub most : s.key < from + count
    pub below : IsBelow p lim journal t s.key
    pub at : IsSegmentAt p lim journal s.key s

  pub listed_at : (from count : ℕ) (segments : List SegmentAccesses) → Listed from count segments → (a : SegmentAccesses) → IsIn a segments → IsListed from count a
  listed_at from zero segments listed a here = absurd (subst (IsIn a) listed here)
  listed_at from (suc count) segments (inr outside) a here =
      let known = listed_at from count segments outside.1 a here in
      record { least = known.least; most = omega (arith, known.most); below = known.below; at = known.at }
  listed_at from (suc count) segments (inl last) a here =
      elim (in-cases a last.0 (last.1 ∷ []) (subst (IsIn a) last.5 here)) [
        | inl before ↦
            let known = listed_at from count last.0 last.2 a before in
            record { least = known.least; most = omega (arith, known.most); below = known.below; at = known.at }
        | inr pushed ↦ elim pushed [
          | inl same ↦ subst (IsListed from (suc count)) (sym same) (the_last from count last.1 last.3 last.4)
          | inr none_left ↦ absurd none_left
        ]
      ]
    where
      the_last : (first n : ℕ) (s : SegmentAccesses) → IsBelow p lim journal t (first + n) → IsSegmentAt p lim journal (first + n) s → IsListed first (suc n) s
      the_last first n s below at =
          let key = at.key in
          record {
            least = omega (arith, key);
            most = omega (arith, key);
            below = subst (λ (k : ℕ). IsBelow p lim journal t k) (sym key) below;
            at = subst (λ (k : ℕ). IsSegmentAt p lim journal k s) (sym key) at;
          }

  -- each is listed once, by the order of the places
  segments_once : (from count : ℕ) (segments : List SegmentAccesses) → Listed from count segments → EachStandsOnce segments
  segments_once from zero segments listed = subst EachStandsOnce (sym listed) tt
  segments_once from (suc count) segments (inr outside) = segments_once from count segments outside.1
  segments_once from (suc count) segments (inl last) =
      subst EachStandsOnce (sym last.5)
      (push_once last.0 last.1 (segments_once from count last.0 last.2)
      (λ here. let known = listed_at from count last.0 last.2 last.1 here in omega (arith, known.most, last.4.key)))

  segments_sorted : (from count : ℕ) (segments : List SegmentAccesses) → Listed from count segments → (a b : SegmentAccesses) → PrecedesIn segments a b → a.key < b.key
  segments_sorted from zero segments listed a b pair = absurd (subst (λ (xs : List SegmentAccesses). PrecedesIn xs a b) listed pair)
  segments_sorted from (suc count) segments (inr outside) a b pair = segments_sorted from count segments outside.1 a b pair
  segments_sorted from (suc count) segments (inl last) a b pair =
      elim (push_pairs last.0 last.1 a b (subst (λ (xs : List SegmentAccesses). PrecedesIn xs a b) last.5 pair)) [
        | inl before ↦ segments_sorted from count last.0 last.2 a b before
        | inr pushed ↦
            let known = listed_at from count last.0 last.2 a pushed.0 in
            let key : b.key ≡ from + count = ap (λ (s : SegmentAccesses). s.key) pushed.1 ∙ last.4.key in
            omega (arith, known.most, key)
      ]

  -- the segments before a listed one are those before its place
  record IsSplit (from : ℕ) (segments : List SegmentAccesses) (s : SegmentAccesses) : Type 0 where
    count : ℕ
    before : List SegmentAccesses
    later : List SegmentAccesses
    key : s.key ≡ from + count
    listed : Listed from count before
    split : segments ≡ before ++ s ∷ later

  append_push : (xs ys : List SegmentAccesses) (s x : SegmentAccesses) → (xs ++ s ∷ ys) ++ x ∷ [] ≡ xs ++ s ∷ (ys ++ x ∷ [])
  append_push [] ys s x = refl
  append_push (y ∷ xs) ys s x = ap (λ (zs : List SegmentAccesses). y ∷ zs) (append_push xs ys s x)

  split_at : (from count : ℕ) (segments : List SegmentAccesses) → Listed from count segments → (s : SegmentAccesses) → IsIn s segments → IsSplit from segments s
  split_at from zero segments listed s here = absurd (subst (IsIn s) listed here)
  split_at from (suc count) segments (inr outside) s here = split_at from count segments outside.1 s here
  split_at from (suc count) segments (inl last) s here =
      elim (in-cases s last.0 (last.1 ∷ []) (subst (IsIn s) last.5 here)) [
        | inl among ↦
            let known = split_at from count last.0 last.2 s among in
            record {
              count = known.count;
              before = known.before;
              later = known.later ++ last.1 ∷ [];
              key = known.key;
              listed = known.listed;
              split = last.5 ∙ (ap (λ (xs : List SegmentAccesses). xs ++ last.1 ∷ []) known.split ∙ append_push known.before known.later s last.1);
            }
        | inr pushed ↦ elim pushed [
          | inl same ↦ record {
            count = count;
            before = last.0;
            later = [];
            key = ap (λ (x : SegmentAccesses). x.key) same ∙ last.4.key;
            listed = last.2;
            split = last.5 ∙ ap (λ (x : SegmentAccesses). last.0 ++ x ∷ []) (sym same);
          }
          | inr none_left ↦ absurd none_left
        ]
      ]

  module _ (from count : ℕ) (segments ordered : List SegmentAccesses) (listed : Listed from count segments) (order : IsRankOrder p lim journal t segments ordered) where
    in_ordered : (a : SegmentAccesses) → IsIn a segments → IsIn a ordered
    in_ordered a h = contains-in ordered a ((order.members a).0 (in-contains segments a h))

    -- the orders agree on conflicts
    agree_pair : (a b : SegmentAccesses) → SegmentsConflict p a b → PrecedesIn segments a b → PrecedesIn ordered a b
    agree_pair a b conflict pair =
        let known_a = listed_at from count segments listed a (first_in segments a b pair) in
        let known_b = listed_at from count segments listed b (second_in segments a b pair) in
        let before = segments_sorted from count segments listed a b pair in
        let makes_a : SegmentMakes p lim journal known_a.at.task a.key conflict.0 = record {
          segment = known_a.at.segment;
          row = known_a.at.row;
          there = known_a.at.there;
          makes = subst (λ (xs : List Access). Contains xs conflict.0) known_a.at.accesses conflict.2;
        } in
        let makes_b : SegmentMakes p lim journal known_b.at.task b.key conflict.1 = record {
          segment = known_b.at.segment;
          row = known_b.at.row;
          there = known_b.at.there;
          makes = subst (λ (xs : List Access). Contains xs conflict.1) known_b.at.accesses conflict.3;
        } in
        let ranks = conflicts_keep_ranks p wf keeps lim journal legal t a.key b.key known_a.at.task known_b.at.task known_a.below.0 known_b.below.0
        known_a.below.1 known_b.below.1 before conflict.0 conflict.1 makes_a makes_b conflict.4 in
        elim (some_order ordered a b (in_ordered a (first_in segments a b pair)) (in_ordered b (second_in segments a b pair))) [
          | inl same ↦ let key = ap (λ (s : SegmentAccesses). s.key) same in absurd (omega (arith, before, key))
          | inr one ↦ elim one [
            | inl ab ↦ ab
            | inr ba ↦ absurd (never_both known_a.below.0 known_b.below.0 ranks (order.sorted b a known_b.below.0 known_a.below.0 ba known_b.below.1 known_a.below.1))
          ]
        ]

    pub orders_agree : AgreeOn (SegmentsConflict p) segments ordered
    orders_agree = record { first_once = segments_once from count segments listed; second_once = order.once; members = order.members; agree = agree_pair }

    module _ (row : TaskRow) (final : IsRow (state_after p lim journal) t row) (flag : IsDeterministic p row) (enabled : IsEnabledThroughout p lim journal t from count) where
      found_value : (s : SegmentAccesses) (before later : List SegmentAccesses) → ordered ≡ before ++ s ∷ later → (cell : ℕ) → IsTrue (accesses_cell cell s)
          → slice_get (after_all (state_before p lim journal from).cells before) cell ≡ slice_get (state_before p lim journal s.key).cells cell
      found_value s before later split cell accessed =
          let here : IsIn s segments = contains-in segments s ((order.members s).1 (in-contains ordered s (subst (IsIn s) (sym split) (in-right s before (s ∷ later) (inl refl))))) in
          let known = listed_at from count segments listed s here in
          let own = split_at from count segments listed s here in
          let x = list_any-in (is_access_of cell) s.accesses accessed in
          let makes : SegmentMakes p lim journal known.at.task s.key x.0 = record {
            segment = known.at.segment;
            row = known.at.row;
            there = known.at.there;
            makes = subst (λ (xs : List Access). Contains xs x.0) known.at.accesses (in-contains s.accesses x.0 x.1);
          } in
          let under = accessed_under p row cell x.0 x.2 (stays_within p wf keeps lim journal legal t row final s.key known.at.task known.below x.0 makes) in
          let key = own.key in
          let most = known.most in
          let cells = own_cells p wf keeps lim journal legal t row final flag cell under from own.count own.before (λ n least below. enabled n least (omega (arith, below, key, most))) own.listed in
          let same = same_values p segments ordered orders_agree (state_before p lim journal from).cells s own.before own.later before later own.split split cell accessed in
          sym same ∙ (sym cells ∙ ap (λ (n : ℕ). slice_get (state_before p lim journal n).cells cell) (sym key))

      execute_alike : ExecuteAlike p lim journal row from count segments ordered
      execute_alike = record {
        finds = found_value;
        leaves = λ cell under.
            sym (same_cells p segments ordered orders_agree (state_before p lim journal from).cells cell)
            ∙ sym (own_cells p wf keeps lim journal legal t row final flag cell under from count segments enabled listed);
        prints = same_prints p segments ordered orders_agree;
      }

pub executes_in_rank_order : (p : Program) → IsWellFormed p → KeepsEffects p → (lim : Bounds) (journal : List Entry) → Legal p lim journal
    → (t : ℕ) (row : TaskRow) → IsRow (state_after p lim journal) t row → IsDeterministic p row → ExecutesInRankOrder p lim journal t row
executes_in_rank_order p wf keeps lim journal legal t row final flag from count segments ordered enabled listed order =
    execute_alike p wf keeps lim journal legal t from count segments ordered listed order row final flag enabled
