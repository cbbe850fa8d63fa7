-- Which marks a list of effects leaves, and which it sees.
use Rattle.std.specs.Prelude.{◌≡◌, ℕ, List, ◌∷◌, ◌⊎◌, length, map}
use Rattle.std.specs.List.{AllZip, Contains, flat_map}
use Rattle.held_span.specs.Rivals.{AreFilled, AreNumbersOf, AreRivals, EffectList}
use Rattle.held_span.specs.Tables.{IsListed, numbers_in}
use Rattle.held_span.specs.declared.marks.EffectMarks.{EffectMarks}
use Rattle.held_span.specs.declared.marks.EffectMark.{EffectMark}
use Rattle.held_span.specs.declared.marks.EffectMark.TheVariants.{Own, Rival}

-- the marks that lists with this effect leave: its own, and the rival marks of its rivals
abbrev pub left_marks : EffectMarks → ℕ → List EffectMark
left_marks marks effect = Own effect ∷ map (λ rival. Rival rival) (numbers_in marks.rivals effect)

-- the marks that lists with this effect see: its rival mark, and the own marks of its rivals
abbrev pub seen_marks : EffectMarks → ℕ → List EffectMark
seen_marks marks effect = Rival effect ∷ map (λ rival. Own rival) (numbers_in marks.rivals effect)

-- the marks that the list of this number leaves, by each of its effects
abbrev pub left_by : EffectMarks → ℕ → List EffectMark
left_by marks list = flat_map (left_marks marks) (numbers_in marks.lists list)

-- the marks that the list of this number sees, by each of its effects
abbrev pub seen_by : EffectMarks → ℕ → List EffectMark
seen_by marks list = flat_map (seen_marks marks) (numbers_in marks.lists list)

-- the second list sees a mark that the first leaves
abbrev pub SharesMark : EffectMarks → ℕ → ℕ → Type 0
SharesMark marks a b = (mark : EffectMark) × Contains (left_by marks a) mark × Contains (seen_by marks b) mark

-- The marks are for these lists of effects. Distinct effects are numbered, each has its rivals, and of two that interfere one is
-- a rival of the other.
pub record AreMarksOf (lists : List EffectList) (marks : EffectMarks) : Type 0 where
  pub effects : EffectList
  pub filled : AreFilled effects
  pub lists_are : AllZip (AreNumbersOf effects) marks.lists lists
  pub as_many : length marks.rivals ≡ length effects
  pub sound : (a b : ℕ) → IsListed marks.rivals a b → AreRivals effects a b
  pub complete : (a b : ℕ) → AreRivals effects a b → IsListed marks.rivals a b ⊎ IsListed marks.rivals b a
