-- The first read whose cell has another value, and making writes.
use Rattle.std.proofs.Common.{◌≡◌, ◌+◌, ◌<◌, ℕ, suc, ℤ, List, ◌∷◌, ◌++◌, length, get_or, take, drop, sym, ap, ◌∙◌, arith}
use Rattle.std.specs.List.{All}
use Rattle.std.specs.Prelude.{slice_set}
use Rattle.std.proofs.lemmas.List.{take-append-drop}
use Rattle.std.proofs.Math.Seq.{drop-cons}
use Rattle.opt_engine.specs.declared.judging.Change.{Change}
use Rattle.opt_engine.specs.declared.touch.CellValue.{CellValue}
use Rattle.opt_engine.specs.Drafts.{StandsIn}
use Rattle.opt_engine.specs.Touches.{with_writes}
use Rattle.opt_engine.specs.inner.Judging.{HasChanged, IsChange}

-- the first read that has changed, if those before it stand
pub change_found : (cells : List ℤ) (reads : List CellValue) (i : ℕ) (read : CellValue) (d : CellValue) (change : Change) → i < length reads → read ≡ get_or reads i d
    → All (StandsIn cells) (take i reads) → HasChanged cells read change → IsChange cells reads change
change_found cells reads i read d change lt is stand changed = record {
  before = take i reads;
  after = drop (suc i) reads;
  split =
      sym (take-append-drop i reads)
      ∙ (ap (λ (l : List CellValue). take i reads ++ l) (drop-cons reads i d lt)
      ∙ ap (λ (r : CellValue). take i reads ++ r ∷ drop (suc i) reads) (sym is ∙ (λ j. record { cell = sym changed.cell j; value = sym changed.was j })));
  stand = stand;
  is_now = changed.is_now;
  differs = changed.differs;
}

-- a write that is made is no longer to be made
pub write_made : (cells : List ℤ) (writes : List CellValue) (i : ℕ) (w d : CellValue) → i < length writes → w ≡ get_or writes i d
    → with_writes (slice_set cells w.cell w.value) (drop (i + 1) writes) ≡ with_writes cells (drop i writes)
write_made cells writes i w d lt is =
    let next : suc i ≡ i + 1 = omega arith in
    sym (ap (with_writes cells) (drop-cons writes i d lt ∙ (ap (λ (x : CellValue). x ∷ drop (suc i) writes) (sym is) ∙ ap (λ (n : ℕ). w ∷ drop n writes) next)))
