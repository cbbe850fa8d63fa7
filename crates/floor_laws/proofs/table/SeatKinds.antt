-- The kinds of seats after one of them has another view.
use Rattle.std.proofs.Common.{◌≡◌, ◌≢◌, ◌⊎◌, ◌+◌, ◌++◌, ℕ, zero, suc, Bool, true, false, cond, List, [], ◌∷◌, refl, sym, ap, subst, ◌∙◌, inl, inr, ⊎_elim, arith}
use Rattle.std.specs.Prelude.{slice_set, count_by}
use Rattle.std.proofs.lemmas.Bool.{cases_eq}
use Rattle.std.proofs.lemmas.List.Sums.{sum_by-append}
use mathlib.Core.Option as core
use mathlib.Core.Option.{some-injective, some-ne-none}
use lib.ListN.{get_elem?}
use Rattle.floor_laws.specs.declared.table.view.SeatKind.{SeatKind}
use Rattle.floor_laws.specs.declared.table.view.SeatKind.TheVariants.{Main, Other, Spent}
use Rattle.floor_laws.specs.declared.table.view.View.{View}
use Rattle.floor_laws.specs.table.Holds.{HasNothing, SeatsFit, is_other, is_other_kind, joined_view, left_view, right_view, spent_view}
use Rattle.atomic_table.proofs.Lists.{at_longer, at_snoc}
use Rattle.floor_laws.proofs.table.Elements.{at_else, at_here}

-- an element of a list of which one was set
at_was : (l : List View) (i j : ℕ) (x y w : View) → get_elem? l i ≡ core.some x → get_elem? (slice_set l i w) j ≡ core.some y → ((j ≡ i) × (w ≡ y)) ⊎ ((j ≢ i) × (get_elem? l j ≡ core.some y))
at_was l i j x y w at is =
    ⊎_elim
    (λ (same : j ≡ i).
    inl (same, some-injective w y (sym (at_here l i x w at) ∙ (ap (get_elem? (slice_set l i w)) (sym same) ∙ is))))
    (λ (other : j ≢ i). inr (other, sym (at_else l i j w other) ∙ is))
    (cases_eq j i)

-- How many seats are others.

count_front : (v : View) (views : List View) → count_by is_other (v ∷ views) ≡ cond {A = ℕ} (is_other v) 1 0 + count_by is_other views
count_front v views = sum_by-append (λ (x : View). cond {A = ℕ} (is_other x) 1 0) (v ∷ []) views ∙ ap (λ (n : ℕ). n + count_by is_other views) zero_left
  where
    zero_left : 0 + cond {A = ℕ} (is_other v) 1 0 ≡ cond {A = ℕ} (is_other v) 1 0
    zero_left = omega arith

count_last : (views : List View) (v : View) → count_by is_other (views ++ v ∷ []) ≡ count_by is_other views + cond {A = ℕ} (is_other v) 1 0
count_last views v = sum_by-append (λ (x : View). cond {A = ℕ} (is_other x) 1 0) views (v ∷ []) ∙ ap (λ (n : ℕ). count_by is_other views + n) zero_left
  where
    zero_left : 0 + cond {A = ℕ} (is_other v) 1 0 ≡ cond {A = ℕ} (is_other v) 1 0
    zero_left = omega arith

count_set : (views : List View) (i : ℕ) (v w : View) → get_elem? views i ≡ core.some v
    → count_by is_other (slice_set views i w) + cond {A = ℕ} (is_other v) 1 0 ≡ count_by is_other views + cond {A = ℕ} (is_other w) 1 0
count_set [] i v w at = absurd (some-ne-none v (sym at))
count_set (x ∷ views) zero v w at =
    let same : x ≡ v = some-injective x v at in
    let new = count_front w views in
    let old : count_by is_other (x ∷ views) ≡ cond {A = ℕ} (is_other v) 1 0 + count_by is_other views = count_front x views ∙ ap (λ (y : View). cond {A = ℕ} (is_other y) 1 0 + count_by is_other views) same in
    omega (arith, new, old)
count_set (x ∷ views) (suc i) v w at =
    let rest = count_set views i v w at in
    let new = count_front x (slice_set views i w) in
    let old = count_front x views in
    omega (arith, rest, new, old)

-- if none is counted, none is there
none_counted : (views : List View) (i : ℕ) (v : View) → count_by is_other views ≡ 0 → get_elem? views i ≡ core.some v → is_other v ≡ false
none_counted [] i v none at = absurd (some-ne-none v (sym at))
none_counted (x ∷ views) zero v none at =
    let same : x ≡ v = some-injective x v at in
    let front = count_front x views in
    let zero_of : cond {A = ℕ} (is_other x) 1 0 ≡ 0 = omega (arith, front, none) in
    ap (λ (y : View). is_other y) (sym same) ∙ false_by (is_other x) zero_of
  where
    false_by : (b : Bool) → cond {A = ℕ} b 1 0 ≡ 0 → b ≡ false
    false_by true is = absurd (omega (arith, is))
    false_by false is = refl
none_counted (x ∷ views) (suc i) v none at =
    let front = count_front x views in
    none_counted views i v (omega (arith, front, none)) at

true_false : true ≡ false → ⊥
true_false h = cc

main_spent : Main ≡ Spent → ⊥
main_spent h = cc

main_other : Main ≡ Other → ⊥
main_other h = cc

other_spent : Other ≡ Spent → ⊥
other_spent h = cc

-- a seat that is not spent has another view, and is for the same
pub seats_after : (views : List View) → SeatsFit views → (id : ℕ) (v w : View) → get_elem? views id ≡ core.some v → v.kind ≢ Spent → w.kind ≡ v.kind → w.out ≡ v.out → SeatsFit (slice_set views id w)
seats_after views fit id v w at live kind out =
    let main = main_after in
    record {
      seat = fit.seat;
      view = main.0;
      there = main.1;
      is_main = main.2 ∙ fit.is_main;
      one_main = λ i x there is.
          elim (at_was views id i v x w at there) [
            | inl own ↦ own.0 ∙ fit.one_main id v at (sym kind ∙ (ap (λ (y : View). y.kind) own.1 ∙ is))
            | inr old ↦ fit.one_main i x old.1 is
          ];
      others =
          let counted = count_set views id v w at in
          let same : cond {A = ℕ} (is_other w) 1 0 ≡ cond {A = ℕ} (is_other v) 1 0 = ap (λ (k : SeatKind). cond {A = ℕ} (is_other_kind k) 1 0) kind in
          let before = fit.others in
          let outs = main.3 in
          omega (arith, counted, same, before, outs);
      spent = λ i x there is.
          elim (at_was views id i v x w at there) [
            | inl own ↦ absurd (live (sym kind ∙ (ap (λ (y : View). y.kind) own.1 ∙ is)))
            | inr old ↦ fit.spent i x old.1 is
          ];
    }
  where
    main_after : (x : View) × (get_elem? (slice_set views id w) fit.seat ≡ core.some x) × (x.kind ≡ fit.view.kind) × (x.out ≡ fit.view.out)
    main_after =
        ⊎_elim
        (λ (same : fit.seat ≡ id).
        let one : v ≡ fit.view = some-injective v fit.view (sym at ∙ (ap (get_elem? views) (sym same) ∙ fit.there)) in
        (w, ap (get_elem? (slice_set views id w)) same ∙ at_here views id v w at, kind ∙ ap (λ (y : View). y.kind) one, out ∙ ap (λ (y : View). y.out) one))
        (λ (other : fit.seat ≢ id). (fit.view, at_else views id fit.seat w other ∙ fit.there, refl, refl))
        (cases_eq fit.seat id)

-- the main seat's view
main_view : (views : List View) (fit : SeatsFit views) (id : ℕ) (v : View) → get_elem? views id ≡ core.some v → v.kind ≡ Main → v ≡ fit.view
main_view views fit id v at main =
    let seat = fit.one_main id v at main in
    some-injective v fit.view (sym at ∙ (ap (get_elem? views) seat ∙ fit.there))

not_counted : (v : View) → v.kind ≡ Main → cond {A = ℕ} (is_other v) 1 0 ≡ 0
not_counted v main = ap (λ (k : SeatKind). cond {A = ℕ} (is_other_kind k) 1 0) main

counted_one : (v : View) → v.kind ≡ Other → cond {A = ℕ} (is_other v) 1 0 ≡ 1
counted_one v other = ap (λ (k : SeatKind). cond {A = ℕ} (is_other_kind k) 1 0) other

-- a seat is split off from the main one
pub seats_split : (views : List View) → SeatsFit views → (id : ℕ) (v : View) → get_elem? views id ≡ core.some v → v.kind ≡ Main → SeatsFit (slice_set views id (left_view v) ++ right_view v ∷ [])
seats_split views fit id v at main =
    let left = left_view v in
    let right = right_view v in
    let set = slice_set views id left in
    record {
      seat = id;
      view = left;
      there = at_longer set (right ∷ []) id left (at_here views id v left at);
      is_main = main;
      one_main = λ i x there is.
          elim (at_snoc set right x i there) [
            | inl old ↦ elim (at_was views id i v x left at old) [
              | inl own ↦ own.0
              | inr before ↦ fit.one_main i x before.1 is ∙ sym (fit.one_main id v at main)
            ]
            | inr last ↦ absurd (main_other (sym is ∙ ap (λ (y : View). y.kind) (sym last)))
          ];
      others =
          let last = count_last set right in
          let counted = count_set views id v left at in
          let none_v = not_counted v main in
          let none_left = not_counted left main in
          let before = fit.others in
          let out : v.out ≡ fit.view.out = ap (λ (y : View). y.out) (main_view views fit id v at main) in
          omega (arith, last, counted, none_v, none_left, before, out);
      spent = λ i x there is.
          elim (at_snoc set right x i there) [
            | inl old ↦ elim (at_was views id i v x left at old) [
              | inl own ↦ absurd (main_spent (sym main ∙ (ap (λ (y : View). y.kind) own.1 ∙ is)))
              | inr before ↦ fit.spent i x before.1 is
            ]
            | inr last ↦ absurd (other_spent (ap (λ (y : View). y.kind) last ∙ is))
          ];
    }

-- another seat is joined to the main one
pub seats_joined : (views : List View) → SeatsFit views → (id other : ℕ) (v w : View) → get_elem? views id ≡ core.some v → v.kind ≡ Main → other ≢ id → get_elem? views other ≡ core.some w → w.kind ≡ Other
    → SeatsFit (slice_set (slice_set views id (joined_view v w)) other spent_view)
seats_joined views fit id other v w at main differ at_other is_one =
    let both = joined_view v w in
    let set = slice_set views id both in
    let at_set : get_elem? set other ≡ core.some w = at_else views id other both differ ∙ at_other in
    record {
      seat = id;
      view = both;
      there = at_else set other id spent_view (λ same. differ (sym same)) ∙ at_here views id v both at;
      is_main = main;
      one_main = λ i x there is.
          elim (at_was set other i w x spent_view at_set there) [
            | inl own ↦ absurd (main_spent (sym is ∙ ap (λ (y : View). y.kind) (sym own.1)))
            | inr old ↦ elim (at_was views id i v x both at old.1) [
              | inl here ↦ here.0
              | inr before ↦ fit.one_main i x before.1 is ∙ sym (fit.one_main id v at main)
            ]
          ];
      others =
          let last = count_set set other w spent_view at_set in
          let counted = count_set views id v both at in
          let none_v = not_counted v main in
          let none_both = not_counted both main in
          let one_w = counted_one w is_one in
          let before = fit.others in
          let out : v.out ≡ fit.view.out = ap (λ (y : View). y.out) (main_view views fit id v at main) in
          omega (arith, last, counted, none_v, none_both, one_w, before, out);
      spent = λ i x there is.
          elim (at_was set other i w x spent_view at_set there) [
            | inl own ↦ subst HasNothing own.1 (record { given = record { turns = λ t. refl; segment = refl }; part = refl })
            | inr old ↦ elim (at_was views id i v x both at old.1) [
              | inl here ↦ absurd (main_spent (sym main ∙ (ap (λ (y : View). y.kind) here.1 ∙ is)))
              | inr before ↦ fit.spent i x before.1 is
            ]
          ];
    }

-- the first seat alone
pub seats_first : (v : View) → v.kind ≡ Main → v.out ≡ 0 → SeatsFit (v ∷ [])
seats_first v main none = record {
  seat = 0;
  view = v;
  there = refl;
  is_main = main;
  one_main = λ i x there is. first i x there;
  others = let front = count_front v [] in let not = not_counted v main in omega (arith, front, not, none);
  spent = λ i x there is. absurd (only i x there is);
}
  where
    first : (i : ℕ) (x : View) → get_elem? (v ∷ []) i ≡ core.some x → i ≡ 0
    first zero x there = refl
    first (suc i) x there = absurd (some-ne-none x (sym there))

    only : (i : ℕ) (x : View) → get_elem? (v ∷ []) i ≡ core.some x → x.kind ≡ Spent → ⊥
    only zero x there is = main_spent (sym main ∙ (ap (λ (y : View). y.kind) (some-injective v x there) ∙ is))
    only (suc i) x there is = absurd (some-ne-none x (sym there))

-- if no other seat is out, each seat but the main one has nothing left
pub others_have_nothing : (views : List View) (fit : SeatsFit views) (id : ℕ) (v : View) → get_elem? views id ≡ core.some v → v.kind ≡ Main → v.out ≡ 0
    → (i : ℕ) (x : View) → i ≢ id → get_elem? views i ≡ core.some x → HasNothing x
others_have_nothing views fit id v at main none i x differ there = by x.kind refl
  where
    by : (kind : SeatKind) → x.kind ≡ kind → HasNothing x
    by Main is = absurd (differ (fit.one_main i x there is ∙ sym (fit.one_main id v at main)))
    by Other is =
        let out : v.out ≡ fit.view.out = ap (λ (y : View). y.out) (main_view views fit id v at main) in
        let before = fit.others in
        let zero_others : count_by is_other views ≡ 0 = omega (arith, before, out, none) in
        let not = none_counted views i x zero_others there in
        let yes : is_other x ≡ true = ap (λ (k : SeatKind). is_other_kind k) is in
        absurd (true_false (sym yes ∙ not))
    by Spent is = fit.spent i x there is
