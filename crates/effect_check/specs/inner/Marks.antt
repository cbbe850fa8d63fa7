-- A few bits for each effect, which effects that interfere have in common.
use Rattle.std.specs.Prelude.{ℕ, ◌/◌, ◌%◌, ◌^◌, ◌==◌, Bool, not, ◌&&◌, ◌||◌, if◌then◌else◌, List, [], ◌∷◌, Option, Some, slice_get, bit_and, bit_or, unsigned_abs}
use Rattle.region_paths.specs.declared.elements.Elem.{Elem}
use Rattle.region_paths.specs.declared.elements.Elem.TheVariants.{Name, Index}
use Rattle.effect_sets.specs.declared.effects.Effect.{Effect}
use Rattle.effect_check.specs.declared.futures.Spawn.{Spawn}
use Rattle.effect_check.specs.declared.marks.Marks.{Marks}

-- a word with all of its 128 bits
abbrev pub all_bits : ℕ
all_bits = 340282366920938463463374607431768211455

-- a bit for the number that is made of the region's
abbrev pub name_bits : (ℕ → ℕ) → Option Elem → ℕ
name_bits g (Some (Name n)) = 2 ^ (g n % 128)
name_bits g _ = all_bits

-- the same for a literal index
abbrev pub index_bits : (ℕ → ℕ) → Option Elem → ℕ
index_bits g (Some (Index i)) = 2 ^ (g (unsigned_abs i) % 128)
index_bits g _ = all_bits

-- The marks of an effect, of the first two elements of its path: of each the bit for a number modulo 128, and the bit for
-- its quotient by 128. An element of another kind, or none, has all bits.
abbrev pub marks_of : Effect → Marks
marks_of effect = record {
  near = name_bits (λ n. n) (slice_get effect.path.elems 0);
  far = name_bits (λ n. n / 128) (slice_get effect.path.elems 0);
  index = index_bits (λ i. i) (slice_get effect.path.elems 1);
  far_index = index_bits (λ i. i / 128) (slice_get effect.path.elems 1);
}

-- no bit at all
abbrev pub no_marks : Marks
no_marks = record { near = 0; far = 0; index = 0; far_index = 0 }

-- they have a bit in common in each word
abbrev pub meet : Marks → Marks → Bool
meet a b =
    not (bit_and a.near b.near == 0)
    && (not (bit_and a.far b.far == 0) && (not (bit_and a.index b.index == 0) && not (bit_and a.far_index b.far_index == 0)))

-- the bits of either
abbrev pub joined_marks : Marks → Marks → Marks
joined_marks a b = record {
  near = bit_or a.near b.near;
  far = bit_or a.far b.far;
  index = bit_or a.index b.index;
  far_index = bit_or a.far_index b.far_index;
}

-- these marks and those of the effects, or of those that write
abbrev pub marks_over : Bool → Marks → List Effect → Marks
marks_over only_writes marks [] = marks
marks_over only_writes marks (effect ∷ effects) =
    marks_over only_writes (if effect.write || not only_writes then joined_marks marks (marks_of effect) else marks) effects

-- these marks and those of the effects of the spawned tasks, or of those among them that write
abbrev pub marks_of_all : Bool → Marks → List Spawn → Marks
marks_of_all only_writes marks [] = marks
marks_of_all only_writes marks (spawn ∷ spawns) =
    marks_of_all only_writes (marks_over only_writes marks spawn.effects.effects) spawns
