-- Splitting and joining seats keeps the rule of the table.
use Rattle.std.proofs.Common.{◌≡◌, ◌≢◌, ◌+◌, ◌++◌, ℕ, zero, suc, List, [], ◌∷◌, length, None, refl, sym, ap, subst, ◌∙◌, ⊎_elim}
use Rattle.std.specs.Prelude.{slice_set}
use Rattle.std.proofs.lemmas.Bool.{cases_eq}
use mathlib.Core.Option as core
use lib.ListN.{get_elem?}
use Rattle.atomic_table.specs.Table.{Joins, Splits}
use Rattle.twe_base.specs.Limits.{Bounds}
use Rattle.twe_program.specs.Program.{Program}
use Rattle.seg_journal.specs.declared.numbered.NumberedEntry.{NumberedEntry}
use Rattle.floor_laws.specs.declared.rule.view.DoneFact.{DoneFact}
use Rattle.floor_laws.specs.rule.Floors.{Floor, put}
use Rattle.floor_laws.specs.rule.Rule.{KeepsRule}
use Rattle.floor_laws.specs.rule.Steps.{HasNoTurn, MayJoin, after_join, after_split}
use Rattle.floor_laws.proofs.rule.Puts.{put_else, put_here}
use Rattle.floor_laws.proofs.rule.RuleSteps.{join, split}
use Rattle.floor_laws.specs.declared.table.view.SeatKind.TheVariants.{Main, Other}
use Rattle.floor_laws.specs.declared.table.view.View.{View}
use Rattle.floor_laws.specs.table.FloorOf.{Table, seat_facts_at, floor_of, part_at, segment_at, turn_in, turns_at, worker_at}
use Rattle.floor_laws.specs.table.Holds.{HasGivenAll, SeatsFit, TableKeeps, joined_view, left_view, right_view, spent_view}
use Rattle.floor_laws.proofs.table.Elements.{at_else}
use Rattle.floor_laws.proofs.table.Views.{seats_kept, seats_put}
use Rattle.floor_laws.proofs.table.SeatKinds.{seats_joined, seats_split}
use Rattle.floor_laws.proofs.table.Steps.{floor_is}

-- a list with one element more
added_here : (l : List View) (x : View) → get_elem? (l ++ x ∷ []) (length l) ≡ core.some x
added_here [] x = refl
added_here (y ∷ l) x = added_here l x

none_here : (l : List View) → get_elem? l (length l) ≡ core.none
none_here [] = refl
none_here (y ∷ l) = none_here l

added_else : (l : List View) (x : View) (j : ℕ) → j ≢ length l → get_elem? (l ++ x ∷ []) j ≡ get_elem? l j
added_else [] x zero other = absurd (other refl)
added_else [] x (suc j) other = refl
added_else (y ∷ l) x zero other = refl
added_else (y ∷ l) x (suc j) other = added_else l x j (λ same. other (ap suc same))

set_length : (l : List View) (i : ℕ) (x : View) → length (slice_set l i x) ≡ length l
set_length [] i x = refl
set_length (y ∷ l) zero x = refl
set_length (y ∷ l) (suc i) x = ap suc (set_length l i x)

module _ {X : Type 0} (part : core.Option View → X) (views : List View) (x : View) where
  abbrev was : ℕ → X
  was j = part (get_elem? views j)

  seat_added : (j : ℕ) → part (get_elem? (views ++ x ∷ []) j) ≡ put was (length views) (part (core.some x)) j
  seat_added j =
      ⊎_elim
      (λ (same : j ≡ length views).
      ap (λ (n : ℕ). part (get_elem? (views ++ x ∷ []) n)) same
      ∙ (ap part (added_here views x) ∙ (sym (put_here was (length views) (part (core.some x))) ∙ ap (put was (length views) (part (core.some x))) (sym same))))
      (λ (other : j ≢ length views). ap part (added_else views x j other) ∙ sym (put_else was (length views) j (part (core.some x)) other))
      (cases_eq j (length views))

  seats_added : ◌≡◌ {A = ℕ → X} (λ j. part (get_elem? (views ++ x ∷ []) j)) (put (λ (j : ℕ). part (get_elem? views j)) (length views) (part (core.some x)))
  seats_added = λ k j. seat_added j k

  seats_unchanged : part (core.some x) ≡ part core.none → ◌≡◌ {A = ℕ → X} (λ j. part (get_elem? (views ++ x ∷ []) j)) (λ j. part (get_elem? views j))
  seats_unchanged same = λ k j. (seat_added j ∙ stays j) k
    where
      stays : (j : ℕ) → put was (length views) (part (core.some x)) j ≡ was j
      stays j =
          ⊎_elim
          (λ (is : j ≡ length views).
          ap (put was (length views) (part (core.some x))) is ∙ (put_here was (length views) (part (core.some x)) ∙ (same ∙ (ap part (sym (none_here views)) ∙ ap was (sym is)))))
          (λ (other : j ≢ length views). put_else was (length views) j (part (core.some x)) other)
          (cases_eq j (length views))

module _ (p : Program) (lim : Bounds) (s : Table) (kept : TableKeeps p lim s) (id : ℕ) (v : View) (at : get_elem? s.views id ≡ core.some v) (main : v.kind ≡ Main) where
  abbrev f : Floor
  f = floor_of p s

  abbrev with_views : List View → Table
  with_views views = record { words = s.words; homes = s.homes; views = views }

  keeps_views : (views : List View) → SeatsFit views → KeepsRule p lim kept.log (floor_of p (with_views views)) → TableKeeps p lim (with_views views)
  keeps_views views seats rule = record {
    well = kept.well;
    keeps = kept.keeps;
    within = kept.within;
    words = kept.words;
    slots = kept.slots;
    cells = kept.cells;
    seats = seats;
    log = kept.log;
    rule = rule;
  }

  -- Splitting.
  abbrev left_views : List View
  left_views = slice_set s.views id (left_view v)

  left_tie : floor_of p (with_views left_views) ≡ f
  left_tie =
      let w = left_view v in
      floor_is (floor_of p (with_views left_views)) f refl refl refl refl refl refl (seats_kept worker_at s.views id v w at refl) (seats_kept part_at s.views id v w at refl) (seats_kept turns_at s.views id v w at refl)
      (seats_kept segment_at s.views id v w at refl)
      (seats_kept seat_facts_at s.views id v w at refl)

  split_tie : floor_of p (with_views (left_views ++ right_view v ∷ [])) ≡ after_split (floor_of p (with_views left_views)) (length left_views) (v.split + 1)
  split_tie =
      let x = right_view v in
      floor_is (floor_of p (with_views (left_views ++ right_view v ∷ []))) (after_split (floor_of p (with_views left_views)) (length left_views) (v.split + 1)) refl refl refl refl refl refl
      (seats_added worker_at left_views x)
      (seats_unchanged part_at left_views x refl)
      (seats_unchanged turns_at left_views x refl)
      (seats_unchanged segment_at left_views x refl)
      (seats_unchanged seat_facts_at left_views x refl)

  pub split_step : TableKeeps p lim (with_views (left_views ++ right_view v ∷ []))
  split_step =
      let left : KeepsRule p lim kept.log (floor_of p (with_views left_views)) = subst (KeepsRule p lim kept.log) (sym left_tie) kept.rule in
      let none : HasNoTurn (floor_of p (with_views left_views)) (length left_views) = λ t. ap (λ (o : core.Option View). turns_at o t) (none_here left_views) in
      keeps_views (left_views ++ right_view v ∷ []) (seats_split s.views kept.seats id v at main)
      (subst (KeepsRule p lim kept.log) (sym split_tie) (split p kept.well kept.keeps lim kept.log (floor_of p (with_views left_views)) left (length left_views) (v.split + 1) none))

  -- Joining.
  module _ (other : ℕ) (w : View) (differ : other ≢ id) (at_other : get_elem? s.views other ≡ core.some w) (is_one : w.kind ≡ Other) (given : HasGivenAll w) where
    abbrev both : View
    both = joined_view v w

    abbrev joined_views : List View
    joined_views = slice_set (slice_set s.views id both) other spent_view

    at_next : get_elem? (slice_set s.views id both) other ≡ core.some w
    at_next = at_else s.views id other both differ ∙ at_other

    abbrev middle : Floor
    middle = floor_of p (with_views (slice_set s.views id both))

    no_turn : HasNoTurn f other
    no_turn t = ap (λ (o : core.Option View). turns_at o t) at_other ∙ given.turns t

    closed : f.segments other ≡ None
    closed = ap segment_at at_other ∙ given.segment

    none_left : turn_in w.turns ≡ (λ (t : ℕ). None)
    none_left = λ k t. given.turns t k

    abbrev goal_floor : Floor
    goal_floor = after_split (after_join f id other) other 0

    join_tie : floor_of p (with_views joined_views) ≡ goal_floor
    join_tie =
        let one = slice_set s.views id both in
        let part_v : part_at (get_elem? s.views id) ≡ v.part = ap part_at at in
        let part_w : part_at (get_elem? s.views other) ≡ w.part = ap part_at at_other in
        let done_v : seat_facts_at (get_elem? s.views id) ≡ v.done = ap seat_facts_at at in
        let done_w : seat_facts_at (get_elem? s.views other) ≡ w.done = ap seat_facts_at at_other in
        floor_is (floor_of p (with_views joined_views)) goal_floor refl refl refl refl refl refl
        (seats_put worker_at one other w spent_view at_next 0 refl ∙ ap (λ (g : ℕ → ℕ). put g other 0) (seats_kept worker_at s.views id v both at refl))
        (seats_put part_at one other w spent_view at_next [] refl
        ∙ ap (λ (g : ℕ → List NumberedEntry). put g other []) (seats_put part_at s.views id v both at (f.parts id ++ f.parts other) (ap (λ (l : List NumberedEntry). l ++ w.part) (sym part_v) ∙ ap (λ (l : List NumberedEntry). f.parts id ++ l) (sym part_w))))
        (seats_kept turns_at one other w spent_view at_next (sym none_left) ∙ seats_kept turns_at s.views id v both at refl)
        (seats_kept segment_at one other w spent_view at_next (sym given.segment) ∙ seats_kept segment_at s.views id v both at refl)
        (seats_put seat_facts_at one other w spent_view at_next [] refl
        ∙ ap (λ (g : ℕ → List DoneFact). put g other []) (seats_put seat_facts_at s.views id v both at (f.facts id ++ f.facts other) (ap (λ (l : List DoneFact). l ++ w.done) (sym done_v) ∙ ap (λ (l : List DoneFact). f.facts id ++ l) (sym done_w))))

    pub join_step : TableKeeps p lim (with_views joined_views)
    join_step =
        let may : MayJoin f id other = record { other = differ; no_turn = no_turn; closed = closed } in
        let joined = join p kept.well kept.keeps lim kept.log f kept.rule id other may in
        keeps_views joined_views (seats_joined s.views kept.seats id other v w at main differ at_other is_one) (subst (KeepsRule p lim kept.log) (sym join_tie) (split p kept.well kept.keeps lim kept.log (after_join f id other) joined other 0 no_turn))

-- A seat for the next worker.
pub split_allowed : (p : Program) (lim : Bounds) (id : ℕ) (v : View) → v.kind ≡ Main → Splits (TableKeeps p lim) id v (left_view v) (right_view v)
split_allowed p lim id v main s kept at = split_step p lim s kept id v at main

-- Two seats become one.
pub join_allowed : (p : Program) (lim : Bounds) (id other : ℕ) (v w : View) → v.kind ≡ Main → w.kind ≡ Other → HasGivenAll w → Joins (TableKeeps p lim) id v other w (joined_view v w) spent_view
join_allowed p lim id other v w main is_one given s kept at differ at_next =
    let at_other : get_elem? s.views other ≡ core.some w = sym (at_else s.views id other (joined_view v w) differ) ∙ at_next in
    join_step p lim s kept id v at main other w differ at_other is_one given
