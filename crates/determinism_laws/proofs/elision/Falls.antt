-- How much an execution may still do: each segment leaves less of it.
use Rattle.std.proofs.Common.{◌≡◌, ◌+◌, ◌<◌, ◌≤◌, ◌*◌, ◌-◌, inl, inr, ℕ, zero, suc, ℤ, Bool, true, false, List, [], ◌∷◌, length, Option, refl, ap, ◌∙◌, arith, length-append}
use Rattle.std.specs.Prelude.{◌==◌, if◌then◌else◌}
use Rattle.std.proofs.lemmas.Bool.{eq-eqb}
use Rattle.effect_sets.specs.declared.effects.Summary.{Summary}
use Rattle.twe_base.specs.declared.place.Place.{Place}
use Rattle.twe_base.specs.Limits.{Bounds}
use Rattle.twe_program.specs.Program.{Program}
use Rattle.seg_meaning.specs.declared.frame.Frame.{Frame}
use Rattle.seg_meaning.specs.declared.frame.Next.{Next}
use Rattle.seg_meaning.specs.declared.frame.Next.TheVariants.{Join, Closing}
use Rattle.seg_meaning.specs.declared.stop.Stop.{Stop}
use Rattle.seg_meaning.specs.declared.stop.Stop.TheVariants.{Make, Joins}
use Rattle.seg_meaning.specs.Giving.{given, given_by, without}
use Rattle.seg_meaning.specs.Segment.{segment}
use Rattle.machine_state.specs.segment_laws.Keeps.{NextAfter, IsClosing}
use Rattle.machine_state.proofs.segment_laws.Following.{makes_follow}
use Rattle.machine_state.proofs.segment_laws.SegmentKept.{segment_keeps}
use Rattle.machine_state.specs.Moves.{frame_without_prints, making_frame}
use Rattle.determinism_laws.specs.declared.elision.progress.Progress.{Progress}
use Rattle.determinism_laws.specs.elision.Elision.{first_frame}

-- a task weighs as much as its fuel and its unjoined children allow
abbrev pub weight : Frame → ℕ
weight frame = 2 * frame.fuel + length frame.out.items + 1

-- and the tasks that may still be made after so many as much as all of their fuel
abbrev pub room : Bounds → ℕ → ℕ
room lim count = (lim.tasks - count) * (2 * lim.fuel + 1)

-- what the task with this frame may still do, with those that it may still make
abbrev pub size : Bounds → Frame → Progress → ℕ
size lim frame s = weight frame + room lim (length s.values)

-- what a segment that stopped so has taken off the frame
pub record Spends (before after : Frame) (stop : Stop) : Type 0 where
  pub out : length after.out.items ≡ length before.out.items
  pub fuel : after.fuel ≤ before.fuel
  pub made : (child : Frame) (args : List ℤ) (effects : Summary) (spawned : Bool) (future : ℕ) (place : Place)
      → stop ≡ Make child args effects spawned future place → (after.fuel < before.fuel) × (child.out.items ≡ [])
  pub joined : (on : ℕ) (into : Option ℕ) → after.next ≡ Join on into → after.fuel < before.fuel
  pub next : NextAfter stop after

pub segment_spends : (p : Program) (frame : Frame) (cells : List ℤ) → Spends frame (segment p frame cells).frame (segment p frame cells).stop
segment_spends p frame cells =
    let keeps = segment_keeps p frame cells in
    record {
      out = ap length keeps.out;
      fuel = keeps.fuel;
      made = λ child args effects spawned future place e.
          (keeps.made child args effects spawned future place e, ap (λ (f : Frame). f.out.items) (makes_follow p frame cells [] child args effects spawned future place e).child_is);
      joined = keeps.joined;
      next = keeps.next;
    }

-- fewer tasks may still be made once more were
room_of_more : (lim : Bounds) (left less : ℕ) → less ≤ left → less * (2 * lim.fuel + 1) ≤ left * (2 * lim.fuel + 1)
room_of_more lim left zero le = omega arith
room_of_more lim zero (suc less) le = absurd (omega (arith, le))
room_of_more lim (suc left) (suc less) le =
    let others = room_of_more lim left less (omega (arith, le)) in
    omega (arith, others)

pub room_falls : (lim : Bounds) (a b : ℕ) → a ≤ b → room lim b ≤ room lim a
room_falls lim a b le = room_of_more lim (lim.tasks - a) (lim.tasks - b) (omega (arith, le))

room_by : (lim : Bounds) (left : ℕ) → 0 < left → left * (2 * lim.fuel + 1) ≡ (left - 1) * (2 * lim.fuel + 1) + (2 * lim.fuel + 1)
room_by lim zero some = absurd (omega (arith, some))
room_by lim (suc left) some = let e : suc left - 1 ≡ left = omega arith in rw e (omega arith)

pub room_of_one : (lim : Bounds) (count : ℕ) → count < lim.tasks → room lim count ≡ room lim (count + 1) + (2 * lim.fuel + 1)
room_of_one lim count below =
    let e : lim.tasks - (count + 1) ≡ lim.tasks - count - 1 = omega (arith, below) in
    rw e (room_by lim (lim.tasks - count) (omega (arith, below)))

-- a spawn: the child and its parent weigh less than the parent did
pub spawn_falls : (lim : Bounds) (before after child : Frame) (future number count : ℕ) → after.fuel < before.fuel → length after.out.items ≡ length before.out.items
    → child.out.items ≡ [] → count < lim.tasks
    → weight (first_frame lim number child) + room lim (count + 1) + weight (making_frame future true number (frame_without_prints after)) < weight before + room lim count
spawn_falls lim before after child future number count fuel out none below =
    let one = room_of_one lim count below in
    let empty : length child.out.items ≡ 0 = ap length none in
    let more = length-append after.out.items (number ∷ []) in
    omega (arith, one, empty, more, out, fuel)

skipped_le : (child first : ℕ) (others : List ℕ) (is : Bool) → length (without child others) ≤ length others
    → length (if is then others else (first ∷ without child others)) ≤ suc (length others)
skipped_le child first others true le = omega arith
skipped_le child first others false le = omega (arith, le)

without_le : (child : ℕ) (out : List ℕ) → length (without child out) ≤ length out
without_le child [] = omega arith
without_le child (first ∷ others) = skipped_le child first others (first == child) (without_le child others)

without_first : (child : ℕ) (others : List ℕ) → without child (child ∷ others) ≡ others
without_first child others = ap (λ (b : Bool). if b then others else (child ∷ without child others)) (eq-eqb child child refl)

-- a written join, and a closing one
join_falls : (before after : Frame) (on : ℕ) (into : Option ℕ) (value : ℤ) → after.next ≡ Join on into → after.fuel < before.fuel → length after.out.items ≡ length before.out.items
    → weight (given (frame_without_prints after) value) < weight before
join_falls before after on into value is fuel out =
    let fewer = without_le on after.out.items in
    let same : given (frame_without_prints after) value ≡ given_by (Join on into) (frame_without_prints after) value = ap (λ (n : Next). given_by n (frame_without_prints after) value) is in
    rw same (omega (arith, fewer, fuel, out))

closing_falls : (before after : Frame) (on : ℕ) (value : ℤ) → IsClosing after on → after.fuel ≤ before.fuel → length after.out.items ≡ length before.out.items
    → weight (given (frame_without_prints after) value) < weight before
closing_falls before after on value closing fuel out =
    let left : without on after.out.items ≡ closing.others = ap (without on) closing.out ∙ without_first on closing.others in
    let count : length after.out.items ≡ suc (length closing.others) = ap length closing.out in
    let same : given (frame_without_prints after) value ≡ given_by (Closing on) (frame_without_prints after) value = ap (λ (n : Next). given_by n (frame_without_prints after) value) closing.next in
    rw (same, left) (omega (arith, count, fuel, out))

pub joined_falls : (before after : Frame) (on : ℕ) (value : ℤ) → Spends before after (Joins on) → weight (given (frame_without_prints after) value) < weight before
joined_falls before after on value spends =
    elim spends.next [
      | inl next ↦ join_falls before after on next.0 value next.1 (spends.joined on next.0 next.1) spends.out
      | inr closing ↦ closing_falls before after on value closing spends.fuel spends.out
    ]
