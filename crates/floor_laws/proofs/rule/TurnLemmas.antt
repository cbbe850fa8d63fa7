-- The turns of all seats after one of them was set.
use Rattle.std.proofs.Common.{◌≡◌, ◌≢◌, ◌⊎◌, ℕ, Option, Some, refl, sym, ap, subst, ◌∙◌, inl, inr, ⊎_elim}
use Rattle.std.proofs.lemmas.Bool.{cases_eq}
use Rattle.machine_state.specs.declared.state.State.{State}
use Rattle.floor_laws.specs.declared.rule.view.HeldTurn.{HeldTurn}
use Rattle.floor_laws.specs.declared.rule.view.Phase.{Phase}
use Rattle.floor_laws.specs.rule.Floors.{put, put_turn, TurnWord, Free, Taken, New}
use Rattle.floor_laws.specs.rule.Fitting.{IsFirstHeld, IsHeld, IsTakenBy, IsUnheld, OneHolder, PhasesAreKnown, RowIs, RowsAreKnown, TurnFits, Turns}
use Rattle.floor_laws.proofs.rule.Puts.{none_some, put_else, put_here, put_was, some_one}

module _ (held : Turns) (i t : ℕ) (x : Option HeldTurn) where
  pub turn_here : put_turn held i t x i t ≡ x
  turn_here = ap (λ (g : ℕ → Option HeldTurn). g t) (put_here held i (put (held i) t x)) ∙ put_here (held i) t x

  -- the turn of another task stays at each seat
  pub turn_of_other : (j u : ℕ) → u ≢ t → put_turn held i t x j u ≡ held j u
  turn_of_other j u other =
      ⊎_elim
      (λ (same : j ≡ i).
      ap (λ (n : ℕ). put_turn held i t x n u) same ∙ (ap (λ (g : ℕ → Option HeldTurn). g u) (put_here held i (put (held i) t x)) ∙ (put_else (held i) t u x other ∙ ap (λ (n : ℕ). held n u) (sym same))))
      (λ (differ : j ≢ i). ap (λ (g : ℕ → Option HeldTurn). g u) (put_else held i j (put (held i) t x) differ))
      (cases_eq j i)

  -- each turn of another seat stays
  pub turns_elsewhere : (j : ℕ) → j ≢ i → put_turn held i t x j ≡ held j
  turns_elsewhere j differ = put_else held i j (put (held i) t x) differ

  -- a turn is the one that was set, or was there before
  pub turn_was : (j u : ℕ) (y : HeldTurn) → put_turn held i t x j u ≡ Some y → ((j ≡ i) × (u ≡ t) × (x ≡ Some y)) ⊎ (((j ≡ i) → u ≢ t) × (held j u ≡ Some y))
  turn_was j u y h =
      ⊎_elim
      (λ (here : (j ≡ i) × (put (held i) t x ≡ put_turn held i t x j)).
      ⊎_elim
      (λ (own : (u ≡ t) × (x ≡ Some y)). inl (here.0, own.0, own.1))
      (λ (other : (u ≢ t) × (held i u ≡ Some y)). inr ((λ same. other.0), subst (λ (n : ℕ). held n u ≡ Some y) (sym here.0) other.1))
      (put_was (held i) t u x (Some y) (ap (λ (g : ℕ → Option HeldTurn). g u) here.1 ∙ h)))
      (λ (other : (j ≢ i) × (held j ≡ put_turn held i t x j)). inr ((λ same. absurd (other.0 same)), ap (λ (g : ℕ → Option HeldTurn). g u) other.1 ∙ h))
      (put_was held i j (put (held i) t x) (put_turn held i t x j) refl)

  -- Turns of other tasks are held as before.
  pub unheld_else : (u : ℕ) → u ≢ t → IsUnheld held u → IsUnheld (put_turn held i t x) u
  unheld_else u other none j = turn_of_other j u other ∙ none j

  abbrev pub held_else : (u : ℕ) → u ≢ t → IsHeld held u → IsHeld (put_turn held i t x) u
  held_else u other by = record { seat = by.seat; turn = by.turn; has = turn_of_other by.seat u other ∙ by.has }

  pub turn_fits_else : (st : State) (workers : ℕ → ℕ) (u : ℕ) (word : TurnWord) → u ≢ t → TurnFits st held workers u word → TurnFits st (put_turn held i t x) workers u word
  turn_fits_else st workers u Free other fits = (fits.0, unheld_else u other fits.1)
  turn_fits_else st workers u (Taken worker) other fits = record { by = held_else u other fits.by; taken = fits.taken; worker_is = fits.worker_is }
  turn_fits_else st workers u New other (inl new) = inl (new.0, unheld_else u other new.1)
  turn_fits_else st workers u New other (inr first) = inr (record { by = held_else u other first.by; first = first.first })

  -- each turn is still at one seat
  pub one_holder_put : OneHolder held → ((j : ℕ) (other : HeldTurn) → held j t ≡ Some other → j ≡ i) → OneHolder (put_turn held i t x)
  one_holder_put one only a b u turn other at_a at_b =
      elim (turn_was a u turn at_a) [
        | inl own ↦ elim (turn_was b u other at_b) [
          | inl own_b ↦ own.0 ∙ sym own_b.0
          | inr old_b ↦ own.0 ∙ sym (only b other (subst (λ (n : ℕ). held b n ≡ Some other) own.1 old_b.1))
        ]
        | inr old ↦ elim (turn_was b u other at_b) [
          | inl own_b ↦ only a turn (subst (λ (n : ℕ). held a n ≡ Some turn) own_b.1 old.1) ∙ sym own_b.0
          | inr old_b ↦ one a b u turn other old.1 old_b.1
        ]
      ]

  pub rows_put : (st : State) → RowsAreKnown st held → ((turn : HeldTurn) → x ≡ Some turn → RowIs st t turn.row) → RowsAreKnown st (put_turn held i t x)
  rows_put st rows own j u turn at =
      elim (turn_was j u turn at) [
        | inl here ↦ subst (λ (n : ℕ). RowIs st n turn.row) (sym here.1) (own turn here.2)
        | inr old ↦ rows j u turn old.1
      ]

  pub phases_put : (phases : ℕ → Phase) → PhasesAreKnown held phases → ((turn : HeldTurn) → x ≡ Some turn → phases t ≡ turn.phase) → PhasesAreKnown (put_turn held i t x) phases
  phases_put phases known own j u turn at =
      elim (turn_was j u turn at) [
        | inl here ↦ ap phases here.1 ∙ own turn here.2
        | inr old ↦ known j u turn old.1
      ]

-- The turn at seat i of task t was replaced by one that is a first one if it was.
module _ (held : Turns) (i t : ℕ) (old new : HeldTurn) (has : held i t ≡ Some old) (same : new.first ≡ old.first) (one : OneHolder held) where
  pub only_holder : (j : ℕ) (other : HeldTurn) → held j t ≡ Some other → j ≡ i
  only_holder j other at = one j i t other old at has

  -- who has it
  pub held_replaced : (u : ℕ) → (by : IsHeld held u) → (now : IsHeld (put_turn held i t (Some new)) u) × (now.seat ≡ by.seat) × (now.turn.first ≡ by.turn.first)
  held_replaced u by =
      elim (cases_eq u t) [
        | inl is ↦
            let at : held by.seat t ≡ Some by.turn = subst (λ (n : ℕ). held by.seat n ≡ Some by.turn) is by.has in
            let seat : by.seat ≡ i = only_holder by.seat by.turn at in
            let turn : old ≡ by.turn = some_one (sym has ∙ (ap (λ (n : ℕ). held n t) (sym seat) ∙ at)) in (
              record { seat = i; turn = new; has = ap (put_turn held i t (Some new) i) is ∙ turn_here held i t (Some new) },
              sym seat,
              same ∙ ap (λ (h : HeldTurn). h.first) turn,
            )
        | inr other ↦ (held_else held i t (Some new) u other by, refl, refl)
      ]

  pub unheld_replaced : (u : ℕ) → IsUnheld held u → IsUnheld (put_turn held i t (Some new)) u
  unheld_replaced u none =
      elim (cases_eq u t) [
        | inl is ↦ absurd (none_some (sym (none i) ∙ (ap (held i) is ∙ has)))
        | inr other ↦ unheld_else held i t (Some new) u other none
      ]

  pub taken_replaced : (workers : ℕ → ℕ) (worker u : ℕ) → IsTakenBy held workers worker u → IsTakenBy (put_turn held i t (Some new)) workers worker u
  taken_replaced workers worker u taken =
      let by = held_replaced u taken.by in
      record { by = by.0; taken = by.2 ∙ taken.taken; worker_is = ap workers by.1 ∙ taken.worker_is }

  pub first_replaced : (u : ℕ) → IsFirstHeld held u → IsFirstHeld (put_turn held i t (Some new)) u
  first_replaced u first =
      let by = held_replaced u first.by in
      record { by = by.0; first = by.2 ∙ first.first }

  pub turn_fits_replaced : (st : State) (workers : ℕ → ℕ) (u : ℕ) (word : TurnWord) → TurnFits st held workers u word → TurnFits st (put_turn held i t (Some new)) workers u word
  turn_fits_replaced st workers u Free fits = (fits.0, unheld_replaced u fits.1)
  turn_fits_replaced st workers u (Taken worker) fits = taken_replaced workers worker u fits
  turn_fits_replaced st workers u New (inl new_one) = inl (new_one.0, unheld_replaced u new_one.1)
  turn_fits_replaced st workers u New (inr first) = inr (first_replaced u first)
