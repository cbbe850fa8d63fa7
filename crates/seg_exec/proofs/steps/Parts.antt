-- The variables of all active bodies as parts of one list.
use Rattle.std.proofs.Common.{◌≡◌, ◌+◌, ℕ, ℤ, List, drop, take, ap, sym, ◌∙◌, arith}
use Rattle.std.proofs.Math.Seq.{take-add}
use Rattle.std.proofs.lemmas.List.{drop-drop, drop-set-add, drop-take, take-set-le, take-take}
use Rattle.std.specs.Prelude.{slice_set}
use Rattle.seg_exec.specs.inner.steps.Bodies.{Bodies, called, with_active}

-- those of the active body begin here
abbrev pub bodies_at : ℕ → List ℤ → Bodies
bodies_at start values = record { callers = take start values; active = drop start values }

-- they begin further on
pub entered_at : (start count : ℕ) (values : List ℤ) (old : Bodies) → bodies_at start values ≡ old → bodies_at (start + count) values ≡ called count old
entered_at start count values old is =
    ap (λ (xs : List ℤ). record (bodies_at (start + count) values) { callers = xs }) (take-add start count values)
    ∙ ap (λ (xs : List ℤ). record (called count (bodies_at start values)) { active = xs }) (sym (drop-drop count start values))
    ∙ ap (called count) is

-- only the first of them are left
pub cut_at : (start count : ℕ) (values : List ℤ) (old : Bodies) → bodies_at start values ≡ old → bodies_at start (take (start + count) values) ≡ with_active (take count old.active) old
cut_at start count values old is =
    ap (λ (xs : List ℤ). record (bodies_at start (take (start + count) values)) { callers = xs }) (take-take start (start + count) values (omega arith))
    ∙ ap (λ (xs : List ℤ). with_active xs (bodies_at start values)) (drop-take start count values)
    ∙ ap (λ (b : Bodies). with_active (take count b.active) b) is

-- one of them is replaced
pub set_at : (start var : ℕ) (value : ℤ) (values : List ℤ) (old : Bodies) → bodies_at start values ≡ old → bodies_at start (slice_set values (start + var) value) ≡ with_active (slice_set old.active var value) old
set_at start var value values old is =
    ap (λ (xs : List ℤ). record (bodies_at start (slice_set values (start + var) value)) { callers = xs }) (take-set-le start values (start + var) value (omega arith))
    ∙ ap (λ (xs : List ℤ). with_active xs (bodies_at start values)) (drop-set-add start values var value)
    ∙ ap (λ (b : Bodies). with_active (slice_set b.active var value) b) is
