-- The words of the floor after one of them was set.
use Rattle.std.proofs.Common.{◌≡◌, ◌≢◌, ◌+◌, ◌*◌, ◌<◌, ℕ, zero, suc, List, ◌∷◌, length, refl, sym, ap, ◌∙◌, ⊎_elim, arith}
use Rattle.std.specs.Prelude.{slice_set}
use Rattle.std.proofs.lemmas.Bool.{cases_eq}
use mathlib.Core.Option as core
use lib.ListN.{get_elem?}
use Rattle.twe_program.specs.Program.{Program}
use Rattle.floor_laws.specs.declared.rule.view.Phase.{Phase}
use Rattle.floor_laws.specs.rule.Floors.{TurnWord, put}
use Rattle.floor_laws.specs.rule.Touches.{cell_at}
use Rattle.floor_laws.proofs.rule.Puts.{put_else, put_here}
use Rattle.floor_laws.specs.table.Layout.{cell_words_from, number_at, phase_word_at, phase_of_word, phase_place, turn_word_at, turn_of_word, turn_place, value_of_word}
use Rattle.floor_laws.proofs.table.Elements.{at_else, at_within}

-- Cells.

pub cells_else : (words : List ℕ) (place n i x : ℕ) → ((c : ℕ) → c < n → place + 8 * c ≢ i) → cell_words_from (slice_set words i x) place n ≡ cell_words_from words place n
cells_else words place zero i x other = refl
cells_else words place (suc n) i x other =
    let here : place ≢ i = λ same. other 0 (omega arith) (omega (arith, same)) in
    let first : value_of_word (number_at (get_elem? (slice_set words i x) place)) ≡ value_of_word (number_at (get_elem? words place)) =
    ap (λ (o : core.Option ℕ). value_of_word (number_at o)) (at_else words i place x here) in
    let rest = cells_else words (place + 8) n i x (λ c below same. other (c + 1) (omega (arith, below)) (omega (arith, same))) in
    λ k. first k ∷ rest k

pub cells_put : (words : List ℕ) (place n c i x : ℕ) → i ≡ place + 8 * c → c < n → i < length words
    → cell_words_from (slice_set words i x) place n ≡ slice_set (cell_words_from words place n) c (value_of_word x)
cells_put words place zero c i x is below within = absurd (omega (arith, below))
cells_put words place (suc n) zero i x is below within =
    let same : place ≡ i = omega (arith, is) in
    let first : value_of_word (number_at (get_elem? (slice_set words i x) place)) ≡ value_of_word x =
    ap (λ (j : ℕ). value_of_word (number_at (get_elem? (slice_set words i x) j))) same ∙ ap (λ (o : core.Option ℕ). value_of_word (number_at o)) (at_within words i x within) in
    let rest = cells_else words (place + 8) n i x (λ k low here. omega (arith, same, here)) in
    λ k. first k ∷ rest k
cells_put words place (suc n) (suc c) i x is below within =
    let here : place ≢ i = λ same. omega (arith, is, same) in
    let first : value_of_word (number_at (get_elem? (slice_set words i x) place)) ≡ value_of_word (number_at (get_elem? words place)) =
    ap (λ (o : core.Option ℕ). value_of_word (number_at o)) (at_else words i place x here) in
    let rest = cells_put words (place + 8) n c i x (omega (arith, is)) (omega (arith, below)) within in
    λ k. first k ∷ rest k

-- the value of a cell is that of its word
pub cells_at : (words : List ℕ) (place n c i : ℕ) → i ≡ place + 8 * c → c < n → cell_at (cell_words_from words place n) c ≡ value_of_word (number_at (get_elem? words i))
cells_at words place zero c i is below = absurd (omega (arith, below))
cells_at words place (suc n) zero i is below = let same : place ≡ i = omega (arith, is) in ap (λ (j : ℕ). value_of_word (number_at (get_elem? words j))) same
cells_at words place (suc n) (suc c) i is below = cells_at words (place + 8) n c i (omega (arith, is)) (omega (arith, below))

pub cells_length : (words : List ℕ) (place n : ℕ) → length (cell_words_from words place n) ≡ n
cells_length words place zero = refl
cells_length words place (suc n) = ap suc (cells_length words (place + 8) n)

-- Turn words and phase words.

module _ (p : Program) (words : List ℕ) (i x : ℕ) where
  abbrev turns_of : List ℕ → ℕ → TurnWord
  turns_of l = λ t. turn_word_at (get_elem? l (turn_place p t))

  abbrev phases_of : List ℕ → ℕ → Phase
  phases_of l = λ t. phase_word_at (get_elem? l (phase_place p t))

  pub turns_kept : ((t : ℕ) → turn_place p t ≢ i) → turns_of (slice_set words i x) ≡ turns_of words
  turns_kept other = λ k t. turn_word_at (at_else words i (turn_place p t) x (other t) k)

  pub phases_kept : ((t : ℕ) → phase_place p t ≢ i) → phases_of (slice_set words i x) ≡ phases_of words
  phases_kept other = λ k t. phase_word_at (at_else words i (phase_place p t) x (other t) k)

  pub turns_put : (t : ℕ) → i ≡ turn_place p t → i < length words → turns_of (slice_set words i x) ≡ put (turns_of words) t (turn_of_word x)
  turns_put t is within = λ k u. at u k
    where
      at : (u : ℕ) → turn_word_at (get_elem? (slice_set words i x) (turn_place p u)) ≡ put (turns_of words) t (turn_of_word x) u
      at u =
          ⊎_elim
          (λ (same : u ≡ t).
          let place : turn_place p u ≡ i = omega (arith, is, same) in
          ap (λ (j : ℕ). turn_word_at (get_elem? (slice_set words i x) j)) place
          ∙ (ap turn_word_at (at_within words i x within) ∙ (sym (put_here (turns_of words) t (turn_of_word x)) ∙ ap (put (turns_of words) t (turn_of_word x)) (sym same))))
          (λ (other : u ≢ t).
          let place : turn_place p u ≢ i = λ same. other (omega (arith, is, same)) in
          ap turn_word_at (at_else words i (turn_place p u) x place) ∙ sym (put_else (turns_of words) t u (turn_of_word x) other))
          (cases_eq u t)

  pub phases_put : (t : ℕ) → i ≡ phase_place p t → i < length words → phases_of (slice_set words i x) ≡ put (phases_of words) t (phase_of_word x)
  phases_put t is within = λ k u. at u k
    where
      at : (u : ℕ) → phase_word_at (get_elem? (slice_set words i x) (phase_place p u)) ≡ put (phases_of words) t (phase_of_word x) u
      at u =
          ⊎_elim
          (λ (same : u ≡ t).
          let place : phase_place p u ≡ i = omega (arith, is, same) in
          ap (λ (j : ℕ). phase_word_at (get_elem? (slice_set words i x) j)) place
          ∙ (ap phase_word_at (at_within words i x within) ∙ (sym (put_here (phases_of words) t (phase_of_word x)) ∙ ap (put (phases_of words) t (phase_of_word x)) (sym same))))
          (λ (other : u ≢ t).
          let place : phase_place p u ≢ i = λ same. other (omega (arith, is, same)) in
          ap phase_word_at (at_else words i (phase_place p u) x place) ∙ sym (put_else (phases_of words) t u (phase_of_word x) other))
          (cases_eq u t)
