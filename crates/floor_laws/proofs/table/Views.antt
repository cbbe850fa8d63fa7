-- What the seats of a table know after one of them has another view.
use Rattle.std.proofs.Common.{◌≡◌, ◌≢◌, ℕ, List, sym, ap, ◌∙◌, ⊎_elim}
use Rattle.std.specs.Prelude.{slice_set}
use Rattle.std.proofs.lemmas.Bool.{cases_eq}
use mathlib.Core.Option as core
use lib.ListN.{get_elem?}
use Rattle.floor_laws.specs.rule.Floors.{put}
use Rattle.floor_laws.proofs.rule.Puts.{put_else, put_here}
use Rattle.floor_laws.specs.declared.table.view.View.{View}
use Rattle.floor_laws.proofs.table.Elements.{at_else, at_here}

module _ {X : Type 0} (part : core.Option View → X) (views : List View) (id : ℕ) (v w : View) (at : get_elem? views id ≡ core.some v) where
  abbrev before : ℕ → X
  before j = part (get_elem? views j)

  seat_put : (j : ℕ) → part (get_elem? (slice_set views id w) j) ≡ put before id (part (core.some w)) j
  seat_put j =
      ⊎_elim
      (λ (same : j ≡ id).
      ap (λ (n : ℕ). part (get_elem? (slice_set views id w) n)) same
      ∙ (ap part (at_here views id v w at) ∙ (sym (put_here before id (part (core.some w))) ∙ ap (put before id (part (core.some w))) (sym same))))
      (λ (other : j ≢ id). ap part (at_else views id j w other) ∙ sym (put_else before id j (part (core.some w)) other))
      (cases_eq j id)

  -- a part that the new view changes
  pub seats_put : (new : X) → part (core.some w) ≡ new → ◌≡◌ {A = ℕ → X} (λ j. part (get_elem? (slice_set views id w) j)) (put (λ (j : ℕ). part (get_elem? views j)) id new)
  seats_put new is = λ k j. (seat_put j ∙ ap (λ (x : X). put before id x j) is) k

  -- a part that it doesn't change
  pub seats_kept : part (core.some w) ≡ part (core.some v) → ◌≡◌ {A = ℕ → X} (λ j. part (get_elem? (slice_set views id w) j)) (λ j. part (get_elem? views j))
  seats_kept same = λ k j. (seat_put j ∙ stays j) k
    where
      stays : (j : ℕ) → put before id (part (core.some w)) j ≡ before j
      stays j =
          ⊎_elim
          (λ (is : j ≡ id).
          ap (put before id (part (core.some w))) is ∙ (put_here before id (part (core.some w)) ∙ (same ∙ (ap part (sym at) ∙ ap before (sym is)))))
          (λ (other : j ≢ id). put_else before id j (part (core.some w)) other)
          (cases_eq j id)
