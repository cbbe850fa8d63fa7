-- The moves before the first that is not legal.
use Rattle.std.proofs.Common.{◌≡◌, ◌<◌, ◌-◌, ◌++◌, ℕ, List, [], ◌∷◌, Some, length, map, take, slice_get, refl, sym, ap, ◌∙◌, subst, arith}
use Rattle.std.proofs.lemmas.List.{length-map}
use Rattle.seg_journal.specs.declared.journal.Entry.{Entry}
use Rattle.seg_journal.specs.declared.moves.Move.{Move}
use Rattle.seg_journal.specs.Spelling.{move_of}
use Rattle.twe_base.specs.Limits.{Bounds}
use Rattle.twe_program.specs.Program.{Program}
use Rattle.machine_state.specs.declared.why.Why.{Why}
use Rattle.machine_state.specs.Moves.{start_of}
use Rattle.machine_state.specs.Replays.{AreLegal, IsFirstIllegal}
use Rattle.machine_state.specs.Runs.{Legal}
use Rattle.machine_state.proofs.replays.Replayed.{one_from}

-- what stands before an element, and the element
taken : (xs ys : List Move) (mv : Move) (n : ℕ) → n ≡ length xs → take n (xs ++ mv ∷ ys) ≡ xs
taken [] ys mv n is = subst (λ (k : ℕ). take k (mv ∷ ys) ≡ []) (sym is) refl
taken (x ∷ xs) ys mv n is =
    subst (λ (k : ℕ). take k (x ∷ (xs ++ mv ∷ ys)) ≡ x ∷ xs) (sym is) (ap (λ (l : List Move). x ∷ l) (taken xs ys mv (length xs) refl))

got : (xs ys : List Move) (mv : Move) (n : ℕ) → n ≡ length xs → slice_get (xs ++ mv ∷ ys) n ≡ Some mv
got [] ys mv n is = subst (λ (k : ℕ). slice_get (mv ∷ ys) k ≡ Some mv) (sym is) refl
got (x ∷ xs) ys mv n is = subst (λ (k : ℕ). slice_get (x ∷ (xs ++ mv ∷ ys)) k ≡ Some mv) (sym is) (got xs ys mv (length xs) refl)

module _ (p : Program) (lim : Bounds) (moves : List Move) (n : ℕ) (why : Why) (first : IsFirstIllegal p lim moves n why) where
  -- its number is above 0
  pub counted_from : 0 < n
  counted_from = omega (arith, first.counted)

  place : n - 1 ≡ length (map move_of first.before)
  place = omega (arith, first.counted, length-map first.before move_of)

  -- those before it are the moves of the journal before it
  pub before_first : take (n - 1) moves ≡ map move_of first.before
  before_first =
      ap (take (n - 1)) first.split ∙ taken (map move_of first.before) first.after first.mv (n - 1) place

  -- and it comes next
  pub comes_next : slice_get moves (n - 1) ≡ Some first.mv
  comes_next = ap (λ (l : List Move). slice_get l (n - 1)) first.split ∙ got (map move_of first.before) first.after first.mv (n - 1) place

  -- they are legal
  pub before_legal : AreLegal p lim (take (n - 1) moves)
  before_legal = (first.before, first.legal, sym before_first)

  -- a replay of them has the journal before it
  pub same_before : (journal : List Entry) → Legal p lim journal → map move_of journal ≡ take (n - 1) moves → journal ≡ first.before
  same_before journal legal has = one_from p lim (start_of p lim) journal first.before legal first.legal (has ∙ before_first)
