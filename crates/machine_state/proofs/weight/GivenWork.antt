-- What the taking of an awaited value takes off the work of a task.
use Rattle.std.proofs.Common.{◌≡◌, ◌≤◌, ℕ, suc, Bool, List, [], ◌∷◌, length, true, false, refl, ap, ◌∙◌, arith}
use Rattle.std.specs.Prelude.{ℤ, ◌==◌, if◌then◌else◌}
use Rattle.std.proofs.lemmas.Bool.{eq-eqb}
use Rattle.seg_meaning.specs.declared.frame.Frame.{Frame}
use Rattle.seg_meaning.specs.declared.frame.Next.{Next}
use Rattle.seg_meaning.specs.declared.frame.Next.TheVariants.{Go, Get, Join, Closing, Ended}
use Rattle.seg_meaning.specs.Giving.{given, given_by, without}
use Rattle.machine_state.proofs.weight.Weight.{children_left}

-- a frame that waits to join a child at its end has that child as the first of those that are out
abbrev pub ClosesFirst : Frame → Type 0
ClosesFirst frame = (on : ℕ) → frame.next ≡ Closing on → (others : List ℕ) × (frame.out.items ≡ on ∷ others)

skipped_le : (child first : ℕ) (others : List ℕ) (is : Bool) → length (without child others) ≤ length others
    → length (if is then others else (first ∷ without child others)) ≤ suc (length others)
skipped_le child first others true le = omega arith
skipped_le child first others false le = omega arith

without_le : (child : ℕ) (out : List ℕ) → length (without child out) ≤ length out
without_le child [] = omega arith
without_le child (first ∷ others) = skipped_le child first others (first == child) (without_le child others)

without_first : (child : ℕ) (others : List ℕ) → without child (child ∷ others) ≡ others
without_first child others = ap (λ (b : Bool). if b then others else (child ∷ without child others)) (eq-eqb child child refl)

-- taking the awaited value takes no fuel, and takes the child out if it was to be joined
pub record Taken (frame after : Frame) : Type 0 where
  pub fuel : after.fuel ≡ frame.fuel
  pub out : length after.out.items ≤ children_left frame.next (length frame.out.items)

given_takes : (next : Next) (frame : Frame) (value : ℤ) → frame.next ≡ next → ClosesFirst frame → Taken frame (given_by next frame value)
given_takes Go frame value is closes = record { fuel = refl; out = rw is (omega arith) }
given_takes (Get on into) frame value is closes = record { fuel = refl; out = rw is (omega arith) }
given_takes (Join on into) frame value is closes = record { fuel = refl; out = rw is (without_le on frame.out.items) }
given_takes (Closing on) frame value is closes =
    let first = closes on is in
    let left : without on frame.out.items ≡ first.0 = ap (without on) first.1 ∙ without_first on first.0 in
    let count : length frame.out.items ≡ suc (length first.0) = ap length first.1 in
    record { fuel = refl; out = rw (is, left) (omega (arith, count)) }
given_takes Ended frame value is closes = record { fuel = refl; out = rw is (omega arith) }

pub taken : (frame : Frame) (value : ℤ) → ClosesFirst frame → Taken frame (given frame value)
taken frame value closes = given_takes frame.next frame value refl closes
