-- An execution has all segments below its task, each once, in the order of their ranks.
use Rattle.std.proofs.Common.{◌≡◌, ◌⊎◌, ◌≤◌, ◌<◌, ◌+◌, ◌++◌, ℕ, zero, suc, ℤ, List, [], ◌∷◌, take, count_by, Contains, inl, inr, refl, sym, ap, ◌∙◌, subst, arith, ◌==◌, eq-eqb}
use Rattle.std.specs.Prelude.{get_or, slice_get}
use Rattle.std.proofs.lemmas.Bool.{and_from, cases_order}
use Rattle.std.proofs.lemmas.List.Sums.{count_by_more_yes}
use Rattle.std.proofs.lemmas.Option.{get_or_from_slice_get, slice_get_within}
use Rattle.effect_check.proofs.Members.{IsIn, contains-in, in-cases, in-contains, in-left, in-right}
use Rattle.seg_journal.specs.declared.journal.End.{End}
use Rattle.seg_journal.specs.declared.journal.End.TheVariants as entry_ends
use Rattle.seg_journal.specs.declared.journal.Entry.{Entry}
use Rattle.twe_base.specs.Limits.{Bounds}
use Rattle.twe_program.specs.Program.{Program}
use Rattle.twe_program.specs.WellFormed.{IsWellFormed}
use Rattle.isolation_laws.specs.soundness.KeepsEffects.{KeepsEffects}
use Rattle.machine_state.specs.declared.state.TaskRow.{TaskRow}
use Rattle.machine_state.specs.declared.state.TaskStatus.TheVariants.{Done, Enabled}
use Rattle.machine_state.specs.Changes.{next_segment}
use Rattle.machine_state.specs.Rows.{IsRow}
use Rattle.machine_state.specs.Runs.{Legal}
use Rattle.machine_state.proofs.lists.Places.{got_one}
use Rattle.determinism_laws.specs.Execution.{Execution, ExecutionsAreInRankOrder, IsNextSegment, ends, joins, spawns}
use Rattle.determinism_laws.specs.Orders.{EachStandsOnce, PrecedesIn, SegmentAccesses}
use Rattle.determinism_laws.specs.Ranks.{ComesBefore, HasRank, IsBelow}
use Rattle.determinism_laws.specs.Segments.{IsSegmentOf, Spawns, is_run, number_of_segment, state_before}
use Rattle.determinism_laws.specs.Sequential.{AreSegmentsBelow, IsRankOrder, IsSegmentAt}
use Rattle.determinism_laws.proofs.JournalPlaces.{done_at, later_at}
use Rattle.determinism_laws.proofs.ListOrders.{first_in, second_in}
use Rattle.determinism_laws.proofs.RankExecution.{listed_at, never_both}
use Rattle.determinism_laws.proofs.RankLaws.{one_place, one_rank}
use Rattle.determinism_laws.proofs.RankOrder.{same_child}
use Rattle.determinism_laws.proofs.SegmentNumbers.{numbers_grow}
use Rattle.determinism_laws.proofs.Statuses.{StatusAfter, is_own, next_number, none_before, status_after}
use Rattle.determinism_laws.proofs.Trees.{one_segment, own_after, runner}

module _ {X : Type 0} where
  -- who never precedes itself stands once
  once_if_apart : (xs : List X) → ((x : X) → ¬ PrecedesIn xs x x) → EachStandsOnce xs
  once_if_apart [] apart = tt
  once_if_apart (x ∷ xs) apart = ((λ c. apart x (inl (refl, c))), once_if_apart xs (λ y h. apart y (inr h)))

  -- pairs of two lists, one after the other
  pair_cases : (xs ys : List X) (a b : X) → PrecedesIn (xs ++ ys) a b → PrecedesIn xs a b ⊎ ((IsIn a xs × IsIn b ys) ⊎ PrecedesIn ys a b)
  pair_cases [] ys a b h = inr (inr h)
  pair_cases (x ∷ xs) ys a b (inl here) = elim (in-cases b xs ys (contains-in (xs ++ ys) b here.1)) [
    | inl front ↦ inl (inl (here.0, in-contains xs b front))
    | inr back ↦ inr (inl (inl (sym here.0), back))
  ]
  pair_cases (x ∷ xs) ys a b (inr later) = elim (pair_cases xs ys a b later) [
    | inl front ↦ inl (inr front)
    | inr other ↦ elim other [ inl both ↦ inr (inl (inr both.0, both.1)) | inr back ↦ inr (inr back) ]
  ]

module _ (p : Program) (wf : IsWellFormed p) (keeps : KeepsEffects p) (lim : Bounds) (journal : List Entry) (legal : Legal p lim journal) where
  abbrev Rank : ℕ → ℕ → List ℕ → Type 0
  Rank u n rank = HasRank p lim journal u n rank

  abbrev number : ℕ → ℕ → ℕ
  number u n = number_of_segment journal u n

  -- the next segment has the next number
  number_next : (u place next : ℕ) → IsNextSegment journal u (suc place) next → number u next ≡ number u place + 1
  number_next u place next is =
      let at : suc place ≡ place + 1 = omega arith in
      next_number p wf lim journal legal u (suc place) next is ∙ ap (λ (k : ℕ). count_by (is_own p wf lim journal legal u) (take k journal) + 1) at

  -- the first segment of a child has the number 1
  number_first : (u place child first : ℕ) → Spawns p lim journal u place child → IsNextSegment journal child (suc place) first → number child first ≡ 1
  number_first u place child first spawn is =
      next_number p wf lim journal legal child (suc place) first is
      ∙ ap (λ (k : ℕ). k + 1)
      (none_before p wf lim journal legal child (suc place)
      (λ n before segment. let after = own_after p wf keeps lim journal legal u place child n spawn segment in omega (arith, before, after)))

  -- each segment has a number of at least 1
  number_positive : (u n : ℕ) → IsSegmentOf journal u n → 0 < number u n
  number_positive u n segment =
      let within = slice_get_within journal n segment.entry segment.there in
      let read : get_or journal n segment.entry ≡ segment.entry = get_or_from_slice_get journal n segment.entry segment.entry segment.there in
      let own = and_from (is_run segment.entry.mv.kind) (segment.entry.mv.task == u) (ap is_run segment.runs) (eq-eqb segment.entry.mv.task u segment.task) in
      let more = count_by_more_yes (is_own p wf lim journal legal u) journal n segment.entry within (ap (is_own p wf lim journal legal u) read ∙ own) in
      omega arith

  -- The ranks of what is executed.

  -- the segment has a rank below u that begins with this number or a higher one, and its place is its key
  record IsRanked (u least : ℕ) (s : SegmentAccesses) : Type 0 where
    head : ℕ
    tail : List ℕ
    has : Rank u s.key (head ∷ tail)
    above : least ≤ head
    at : IsSegmentAt p lim journal s.key s

  abbrev own_ranked : (u place : ℕ) (s : SegmentAccesses) → IsSegmentOf journal u place → IsSegmentAt p lim journal place s → IsRanked u (number u place) s
  own_ranked u place s segment at = record {
    head = number u place;
    tail = [];
    has = subst (λ (n : ℕ). Rank u n (number u place ∷ [])) (sym at.key) (segment, refl);
    above = omega arith;
    at = subst (λ (n : ℕ). IsSegmentAt p lim journal n s) (sym at.key) at;
  }

  later_ranked : (u place next : ℕ) (s : SegmentAccesses) → IsNextSegment journal u (suc place) next → IsRanked u (number u next) s → IsRanked u (number u place + 1) s
  later_ranked u place next s is ranked =
      let higher = number_next u place next is in
      let above = ranked.above in
      record { head = ranked.head; tail = ranked.tail; has = ranked.has; above = omega (arith, above, higher); at = ranked.at }

  weaker : (u least : ℕ) (s : SegmentAccesses) → IsRanked u (least + 1) s → IsRanked u least s
  weaker u least s ranked =
      let above = ranked.above in
      record { head = ranked.head; tail = ranked.tail; has = ranked.has; above = omega (arith, above); at = ranked.at }

  abbrev below_ranked : (u place child least : ℕ) (s : SegmentAccesses) → Spawns p lim journal u place child → IsRanked child least s → IsRanked u (number u place) s
  below_ranked u place child least s spawn ranked = record {
    head = number u place;
    tail = ranked.head ∷ ranked.tail;
    has = (place, child, spawn, refl, ranked.has);
    above = omega arith;
    at = ranked.at;
  }

  all_ranked : (u place : ℕ) (xs : List SegmentAccesses) → Execution p lim journal u place xs → (a : SegmentAccesses) → IsIn a xs → IsRanked u (number u place) a
  all_ranked _ _ _ (ends u place s value segment at end) a (inl same) = subst (IsRanked u (number u place)) (sym same) (own_ranked u place s segment at)
  all_ranked _ _ _ (ends u place s value segment at end) a (inr none_left) = absurd none_left
  all_ranked _ _ _ (joins u place on next s others segment at end is rest) a (inl same) = subst (IsRanked u (number u place)) (sym same) (own_ranked u place s segment at)
  all_ranked _ _ _ (joins u place on next s others segment at end is rest) a (inr h) =
      weaker u (number u place) a (later_ranked u place next a is (all_ranked u next others rest a h))
  all_ranked _ _ _ (spawns u place child first next s below others spawn at is_first inner is rest) a (inl same) =
      subst (IsRanked u (number u place)) (sym same) (own_ranked u place s spawn.segment at)
  all_ranked _ _ _ (spawns u place child first next s below others spawn at is_first inner is rest) a (inr h) =
      elim (in-cases a below others h) [
        | inl front ↦ below_ranked u place child (number child first) a spawn (all_ranked child first below inner a front)
        | inr back ↦ weaker u (number u place) a (later_ranked u place next a is (all_ranked u next others rest a back))
      ]

  -- each pair is in the order of its ranks
  abbrev InOrder : ℕ → SegmentAccesses → SegmentAccesses → Type 0
  InOrder u a b = (first second : List ℕ) → Rank u a.key first → Rank u b.key second → ComesBefore first second

  in_order : (u : ℕ) (a b : SegmentAccesses) (ra rb : List ℕ) → Rank u a.key ra → Rank u b.key rb → ComesBefore ra rb → InOrder u a b
  in_order u a b ra rb has_a has_b before first second is_first is_second =
      subst (λ (r : List ℕ). ComesBefore r second) (one_rank p wf keeps lim journal legal ra first u a.key has_a is_first)
      (subst (λ (r : List ℕ). ComesBefore ra r) (one_rank p wf keeps lim journal legal rb second u b.key has_b is_second) before)

  -- a segment of this number or below its child comes before one with a higher number
  then_later : (u least : ℕ) (a b : SegmentAccesses) → (ra : IsRanked u least a) → ra.head ≡ least → IsRanked u (least + 1) b → InOrder u a b
  then_later u least a b ra same rb =
      let above = rb.above in
      in_order u a b (ra.head ∷ ra.tail) (rb.head ∷ rb.tail) ra.has rb.has (inl (omega (arith, same, above)))

  sorted : (u place : ℕ) (xs : List SegmentAccesses) → Execution p lim journal u place xs → (a b : SegmentAccesses) → PrecedesIn xs a b → InOrder u a b
  sorted _ _ _ (ends u place s value segment at end) a b (inl here) = absurd (contains-in [] b here.1)
  sorted _ _ _ (ends u place s value segment at end) a b (inr none_left) = absurd none_left
  sorted _ _ _ (joins u place on next s others segment at end is rest) a b (inl here) =
      let later = later_ranked u place next b is (all_ranked u next others rest b (contains-in others b here.1)) in
      subst (λ (x : SegmentAccesses). InOrder u x b) here.0 (then_later u (number u place) s b (own_ranked u place s segment at) refl later)
  sorted _ _ _ (joins u place on next s others segment at end is rest) a b (inr pair) = sorted u next others rest a b pair
  sorted _ _ _ (spawns u place child first next s below others spawn at is_first inner is rest) a b (inl here) =
      subst (λ (x : SegmentAccesses). InOrder u x b) here.0
      (elim (in-cases b below others (contains-in (below ++ others) b here.1)) [
        | inl front ↦
            let own = own_ranked u place s spawn.segment at in
            let rb = below_ranked u place child (number child first) b spawn (all_ranked child first below inner b front) in
            in_order u s b (own.head ∷ own.tail) (rb.head ∷ rb.tail) own.has rb.has (inr (refl, tt))
        | inr back ↦ then_later u (number u place) s b (own_ranked u place s spawn.segment at) refl (later_ranked u place next b is (all_ranked u next others rest b back))
      ])
  sorted _ _ _ (spawns u place child first next s below others spawn at is_first inner is rest) a b (inr pair) =
      elim (pair_cases below others a b pair) [
        | inl front ↦
            let ra = all_ranked child first below inner a (first_in below a b front) in
            let rb = all_ranked child first below inner b (second_in below a b front) in
            let before = sorted child first below inner a b front (ra.head ∷ ra.tail) (rb.head ∷ rb.tail) ra.has rb.has in
            let ua = below_ranked u place child (number child first) a spawn ra in
            let ub = below_ranked u place child (number child first) b spawn rb in
            in_order u a b (ua.head ∷ ua.tail) (ub.head ∷ ub.tail) ua.has ub.has (inr (refl, before))
        | inr other ↦ elim other [
          | inl both ↦
              then_later u (number u place) a b (below_ranked u place child (number child first) a spawn (all_ranked child first below inner a both.0)) refl
              (later_ranked u place next b is (all_ranked u next others rest b both.1))
          | inr back ↦ sorted u next others rest a b back
        ]
      ]

  once : (u place : ℕ) (xs : List SegmentAccesses) → Execution p lim journal u place xs → EachStandsOnce xs
  once u place xs execution =
      once_if_apart xs (λ a pair.
      let ra = all_ranked u place xs execution a (first_in xs a a pair) in
      let before = sorted u place xs execution a a pair (ra.head ∷ ra.tail) (ra.head ∷ ra.tail) ra.has ra.has in
      never_both (ra.head ∷ ra.tail) (ra.head ∷ ra.tail) before before)

  -- Nothing is left out.

  -- the segment of u to which a rank leads first
  own_place : (rank : List ℕ) (u i n : ℕ) → Rank u i (n ∷ rank) → (k : ℕ) × IsSegmentOf journal u k × (n ≡ number u k)
  own_place [] u i n has = (i, has.0, has.1)
  own_place (next ∷ others) u i n has = (has.0, has.2.segment, has.3)

  -- if the rank begins with the number of this segment, the segment is the one meant, or it spawned a child below which it is
  made_here : (u place i n m : ℕ) (others : List ℕ) → IsSegmentOf journal u place → n ≡ number u place → Rank u i (n ∷ m ∷ others)
      → (child : ℕ) × Spawns p lim journal u place child × Rank child i (m ∷ others)
  made_here u place i n m others segment same has =
      let at : has.0 ≡ place = one_place journal u has.0 place has.2.segment segment (sym has.3 ∙ same) in
      (has.1, subst (λ (k : ℕ). Spawns p lim journal u k has.1) at has.2, has.4)

  -- two ends of one entry
  one_end : (u place child : ℕ) (segment : IsSegmentOf journal u place) → (spawn : Spawns p lim journal u place child) → segment.entry.end ≡ entry_ends.Made child
  one_end u place child segment spawn =
      let same : segment.entry ≡ spawn.segment.entry = got_one (slice_get journal place) segment.there spawn.segment.there in
      ap (λ (e : Entry). e.end) same ∙ spawn.made

  -- what is executed at a place
  abbrev pub IsAmong : List SegmentAccesses → ℕ → Type 0
  IsAmong xs i = (s : SegmentAccesses) × IsIn s xs × IsSegmentAt p lim journal i s

  -- after the last segment of a task it has none
  nothing_later : (u place k : ℕ) (value : ℤ) (segment : IsSegmentOf journal u place) → segment.entry.end ≡ entry_ends.Done value → IsSegmentOf journal u k → ¬ (place < k)
  nothing_later u place k value segment end again later =
      let may = runner p wf keeps lim journal legal u place segment in
      let kept = (later_at p wf lim journal legal place (suc place) (omega arith)).kept u may.0.0 may.0.1 in
      let status : kept.now.status ≡ Done = subst (λ (e : End). StatusAfter may.0.0.status e kept.now.status) end
      (status_after p wf lim journal legal u place segment may.0.0 kept.now may.0.1 kept.there) in
      let done = done_at p wf lim journal legal (suc place) k u (omega (arith, later)) (kept.now, kept.there, status) in
      let again_may = runner p wf keeps lim journal legal u k again in
      let same : done.0 ≡ again_may.0.0 = got_one (slice_get (state_before p lim journal k).tasks u) done.1 again_may.0.1 in
      let both : Done ≡ Enabled = sym done.2 ∙ (ap (λ (r : TaskRow). r.status) same ∙ again_may.0.2) in
      cc (both)

  -- a higher number is that of a later segment
  later_place : (u place k : ℕ) → IsSegmentOf journal u place → number u place < number u k → place < k
  later_place u place k segment higher =
      elim (cases_order place k) [
        | inl same ↦ let equal = ap (number u) same in absurd (omega (arith, higher, equal))
        | inr differ ↦ elim differ [
          | inl before ↦ before
          | inr after ↦ let grow = numbers_grow journal u k place after segment in absurd (omega (arith, grow, higher))
        ]
      ]

  -- the one segment that is meant
  same_place : (u place i n : ℕ) (xs : List SegmentAccesses) (s : SegmentAccesses) → IsSegmentOf journal u place → IsSegmentAt p lim journal place s → IsIn s xs
      → n ≡ number u place → Rank u i (n ∷ []) → IsAmong xs i
  same_place u place i n xs s segment at here same has =
      let place_is : place ≡ i = one_place journal u place i segment has.0 (sym same ∙ has.1) in
      (s, here, subst (λ (k : ℕ). IsSegmentAt p lim journal k s) place_is at)

  among_more : (xs ys : List SegmentAccesses) (i : ℕ) → ((s : SegmentAccesses) → IsIn s xs → IsIn s ys) → IsAmong xs i → IsAmong ys i
  among_more xs ys i into found = (found.0, into found.0 found.1, found.2)

  all_executed : (u place : ℕ) (xs : List SegmentAccesses) → Execution p lim journal u place xs → (i n : ℕ) (others : List ℕ) → Rank u i (n ∷ others) → number u place ≤ n → IsAmong xs i
  all_executed _ _ _ (ends u place s value segment at end) i n rank has least =
      elim (cases_order (number u place) n) [
        | inl same ↦ last_one rank has (sym same)
        | inr differ ↦ elim differ [
          | inl below ↦
              let own = own_place rank u i n has in
              absurd (nothing_later u place own.0 value segment end own.1 (later_place u place own.0 segment (omega (arith, below, own.2))))
          | inr above ↦ absurd (omega (arith, above, least))
        ]
      ]
    where
      last_one : (others : List ℕ) → Rank u i (n ∷ others) → n ≡ number u place → IsAmong (s ∷ []) i
      last_one [] is same = same_place u place i n (s ∷ []) s segment at (inl refl) same is
      last_one (m ∷ others) is same =
          let made = made_here u place i n m others segment same is in
          let both : entry_ends.Made made.0 ≡ entry_ends.Done value = sym (one_end u place made.0 segment made.1) ∙ end in
          absurd (cc (both))
  all_executed _ _ _ (joins u place on next s later segment at end is rest) i n rank has least =
      elim (cases_order (number u place) n) [
        | inl same ↦ this_one rank has (sym same)
        | inr differ ↦ elim differ [
          | inl below ↦
              let higher = number_next u place next is in
              among_more later (s ∷ later) i (λ x h. inr h) (all_executed u next later rest i n rank has (omega (arith, below, higher)))
          | inr above ↦ absurd (omega (arith, above, least))
        ]
      ]
    where
      this_one : (others : List ℕ) → Rank u i (n ∷ others) → n ≡ number u place → IsAmong (s ∷ later) i
      this_one [] has_none same = same_place u place i n (s ∷ later) s segment at (inl refl) same has_none
      this_one (m ∷ others) has_more same =
          let made = made_here u place i n m others segment same has_more in
          let both : entry_ends.Made made.0 ≡ entry_ends.Joins on = sym (one_end u place made.0 segment made.1) ∙ end in
          absurd (cc (both))
  all_executed _ _ _ (spawns u place child first next s below later spawn at is_first inner is rest) i n rank has least =
      elim (cases_order (number u place) n) [
        | inl same ↦ this_one (λ j m rest_of inside low. all_executed child first below inner j m rest_of inside low) rank has (sym same)
        | inr differ ↦ elim differ [
          | inl lower ↦
              let higher = number_next u place next is in
              among_more later (s ∷ below ++ later) i (λ x h. inr (in-right x below later h)) (all_executed u next later rest i n rank has (omega (arith, lower, higher)))
          | inr above ↦ absurd (omega (arith, above, least))
        ]
      ]
    where
      this_one : ((j m : ℕ) (others : List ℕ) → Rank child j (m ∷ others) → number child first ≤ m → IsAmong below j)
          → (others : List ℕ) → Rank u i (n ∷ others) → n ≡ number u place → IsAmong (s ∷ below ++ later) i
      this_one go [] has_none same = same_place u place i n (s ∷ below ++ later) s spawn.segment at (inl refl) same has_none
      this_one go (m ∷ others) has_more same =
          let made = made_here u place i n m others spawn.segment same has_more in
          let child_is : made.0 ≡ child = same_child p wf keeps lim journal legal u place made.0 child made.1 spawn in
          let inside : Rank child i (m ∷ others) = subst (λ (c : ℕ). Rank c i (m ∷ others)) child_is made.2 in
          let own = own_place others child i m inside in
          let one = number_first u place child first spawn is_first in
          among_more below (s ∷ below ++ later) i (λ x h. inr (in-left x below later h))
          (go i m others inside (omega (arith, one, own.2, number_positive child own.0 own.1)))

  -- The list of the journal has the same segments.

  same_segment : (i : ℕ) (s r : SegmentAccesses) → IsSegmentAt p lim journal i s → IsSegmentAt p lim journal i r → s ≡ r
  same_segment i s r a b =
      let task : a.task ≡ b.task = one_segment journal a.task b.task i a.segment b.segment in
      let there : IsRow (state_before p lim journal i) b.task a.row = subst (λ (u : ℕ). IsRow (state_before p lim journal i) u a.row) task a.there in
      let row : a.row ≡ b.row = got_one (slice_get (state_before p lim journal i).tasks b.task) there b.there in
      let key : s.key ≡ r.key = a.key ∙ sym b.key in
      let accesses : s.accesses ≡ r.accesses = a.accesses ∙ (ap (λ (x : TaskRow). (next_segment p (state_before p lim journal i) x).accesses) row ∙ sym b.accesses) in
      λ k. record { key = key k; accesses = accesses k }

  pub all_listed : (t from count : ℕ) (segments : List SegmentAccesses) → AreSegmentsBelow p lim journal t from count segments → (i : ℕ) → from ≤ i → i < from + count
      → IsBelow p lim journal t i → IsAmong segments i
  all_listed t from zero segments listed i least most below = absurd (omega (arith, least, most))
  all_listed t from (suc count) segments (inr outside) i least most below =
      elim (cases_order i (from + count)) [
        | inl same ↦ absurd (outside.0 (subst (λ (k : ℕ). IsBelow p lim journal t k) same below))
        | inr differ ↦ elim differ [
          | inl earlier ↦ all_listed t from count segments outside.1 i least earlier below
          | inr later ↦ absurd (omega (arith, later, most))
        ]
      ]
  all_listed t from (suc count) segments (inl last) i least most below =
      let into : (s : SegmentAccesses) → IsIn s (last.0 ++ last.1 ∷ []) → IsIn s segments = λ s h. subst (IsIn s) (sym last.5) h in
      elim (cases_order i (from + count)) [
        | inl same ↦ (last.1, into last.1 (in-right last.1 last.0 (last.1 ∷ []) (inl refl)), subst (λ (k : ℕ). IsSegmentAt p lim journal k last.1) (sym same) last.4)
        | inr differ ↦ elim differ [
          | inl earlier ↦ among_more last.0 segments i (λ s h. into s (in-left s last.0 (last.1 ∷ []) h)) (all_listed t from count last.0 last.2 i least earlier below)
          | inr later ↦ absurd (omega (arith, later, most))
        ]
      ]

  module _ (t first from count : ℕ) (segments executed : List SegmentAccesses) (is_first : IsNextSegment journal t 0 first) (execution : Execution p lim journal t first executed)
      (listed : AreSegmentsBelow p lim journal t from count segments) (range : (i : ℕ) → IsBelow p lim journal t i → (from ≤ i) × (i < from + count)) where
    first_is_one : number t first ≡ 1
    first_is_one = next_number p wf lim journal legal t 0 first is_first

    executed_too : (rank : List ℕ) (i : ℕ) → Rank t i rank → IsAmong executed i
    executed_too [] i has = absurd has
    executed_too (n ∷ others) i has =
        let own = own_place others t i n has in
        all_executed t first executed execution i n others has (omega (arith, first_is_one, own.2, number_positive t own.0 own.1))

    into_executed : (s : SegmentAccesses) → Contains segments s → Contains executed s
    into_executed s here =
        let known = listed_at p wf keeps lim journal legal t from count segments listed s (contains-in segments s here) in
        let found = executed_too known.below.0 s.key known.below.1 in
        in-contains executed s (subst (λ (x : SegmentAccesses). IsIn x executed) (same_segment s.key found.0 s found.2 known.at) found.1)

    into_segments : (s : SegmentAccesses) → Contains executed s → Contains segments s
    into_segments s here =
        let ranked = all_ranked t first executed execution s (contains-in executed s here) in
        let below : IsBelow p lim journal t s.key = (ranked.head ∷ ranked.tail, ranked.has) in
        let bounds = range s.key below in
        let found = all_listed t from count segments listed s.key bounds.0 bounds.1 below in
        in-contains segments s (subst (λ (x : SegmentAccesses). IsIn x segments) (same_segment s.key found.0 s found.2 ranked.at) found.1)

    rank_order : IsRankOrder p lim journal t segments executed
    rank_order = record {
      once = once t first executed execution;
      members = λ s. (into_executed s, into_segments s);
      sorted = λ a b one two pair. sorted t first executed execution a b pair one two;
    }

pub executions_in_rank_order : (p : Program) → IsWellFormed p → KeepsEffects p → (lim : Bounds) (journal : List Entry) → Legal p lim journal → ExecutionsAreInRankOrder p lim journal
executions_in_rank_order p wf keeps lim journal legal t first from count segments executed is_first execution listed range =
    rank_order p wf keeps lim journal legal t first from count segments executed is_first execution listed range
