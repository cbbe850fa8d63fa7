-- Executions within bounds on their segments.
use Rattle.std.proofs.Common.{◌≡◌, ◌≢◌, ◌+◌, ◌<◌, ◌≤◌, ◌*◌, ◌-◌, ℕ, zero, suc, ℤ, Bool, true, false, List, [], ◌∷◌, length, refl, sym, ap, ◌∙◌, subst, arith, length-append, length-set}
use Rattle.std.specs.Prelude.{nat_lt, if◌then◌else◌, pos}
use Rattle.std.proofs.lemmas.Bool.{ltb-true}
use Rattle.twe_base.specs.declared.place.Place.{Place}
use Rattle.twe_base.specs.Limits.{Bounds}
use Rattle.twe_base.specs.declared.fault.FaultKind.TheVariants.{TaskLimit}
use Rattle.twe_program.specs.Program.{Program}
use Rattle.seg_meaning.specs.declared.frame.Frame.{Frame}
use Rattle.seg_meaning.specs.declared.stop.Stop.{Stop}
use Rattle.seg_meaning.specs.declared.stop.Stop.TheVariants.{Make, Waits, Joins, Done, Fault}
use Rattle.seg_meaning.specs.Giving.{given}
use Rattle.seg_meaning.specs.Segment.{segment}
use Rattle.machine_state.specs.Moves.{frame_without_prints, making_frame}
use Rattle.determinism_laws.specs.declared.elision.progress.Progress.{Progress}
use Rattle.determinism_laws.specs.elision.Elision.{Ending, ends, fails, strays, goes_on, Running, after_segment, after_stop, first_frame, frame_at_start, is_child, kept_value, most_segments, progress_at_start, run_within, then_go_on, with_segment, with_task}
use Rattle.determinism_laws.proofs.elision.Falls.{Spends, joined_falls, room, room_falls, segment_spends, size, spawn_falls, weight}

-- one segment more
pub one_more : (p : Program) (lim : Bounds) (n : ℕ) (frame : Frame) (s : Progress)
    → run_within p lim (suc n) frame s ≡ after_segment (run_within p lim n) lim s (segment p frame s.cells)
unfolding run_within
one_more p lim n frame s = refl

none_left : (p : Program) (lim : Bounds) (frame : Frame) (s : Progress) → run_within p lim zero frame s ≡ goes_on
unfolding run_within
none_left p lim frame s = refl

-- it has ended
abbrev pub IsOver : Ending → Type 0
IsOver (ends value s) = Unit {0}
IsOver (fails kind place) = Unit {0}
IsOver strays = Unit {0}
IsOver goes_on = ⊥

pub over_is : (e : Ending) → IsOver e → e ≢ goes_on
over_is (ends value s) over is = absurd (cc)
over_is (fails kind place) over is = absurd (cc)
over_is strays over is = absurd (cc)
over_is goes_on over is = over

pub is_over : (e : Ending) → e ≢ goes_on → IsOver e
is_over (ends value s) other = tt
is_over (fails kind place) other = tt
is_over strays other = tt
is_over goes_on other = other refl

-- What has ended ends in the same way under another meaning of the segments that follow, if each of these does.
abbrev pub Extends : Running → Running → Type 0
Extends rest more = (frame : Frame) (s : Progress) → IsOver (rest frame s) → more frame s ≡ rest frame s

after_child : (rest more : Running) → Extends rest more → (caller : Frame) (e other : Ending) → (IsOver e → other ≡ e)
    → IsOver (then_go_on e (λ s. rest caller s)) → then_go_on other (λ s. more caller s) ≡ then_go_on e (λ s. rest caller s)
after_child rest more extends caller (ends value s) other same over =
    ap (λ (x : Ending). then_go_on x (λ t. more caller t)) (same tt) ∙ extends caller s over
after_child rest more extends caller (fails kind place) other same over = ap (λ (x : Ending). then_go_on x (λ t. more caller t)) (same tt)
after_child rest more extends caller strays other same over = ap (λ (x : Ending). then_go_on x (λ t. more caller t)) (same tt)
after_child rest more extends caller goes_on other same over = absurd over

module _ (rest more : Running) (extends : Extends rest more) (lim : Bounds) where
  spawned_extends : (frame child : Frame) (future : ℕ) (place : Place) (s : Progress) (fits : Bool)
      → let number = length s.values in
      IsOver (if fits then then_go_on (rest (first_frame lim number child) (with_task s)) (λ after. rest (making_frame future true number frame) after) else fails TaskLimit place)
      → (if fits then then_go_on (more (first_frame lim number child) (with_task s)) (λ after. more (making_frame future true number frame) after) else fails TaskLimit place)
      ≡ (if fits then then_go_on (rest (first_frame lim number child) (with_task s)) (λ after. rest (making_frame future true number frame) after) else fails TaskLimit place)
  spawned_extends frame child future place s true over =
      let number = length s.values in
      after_child rest more extends (making_frame future true number frame) (rest (first_frame lim number child) (with_task s)) (more (first_frame lim number child) (with_task s))
      (extends (first_frame lim number child) (with_task s)) over
  spawned_extends frame child future place s false over = refl

  joined_extends : (frame : Frame) (s : Progress) (is : Bool) → IsOver (if is then rest frame s else strays)
      → (if is then more frame s else strays) ≡ (if is then rest frame s else strays)
  joined_extends frame s true over = extends frame s over
  joined_extends frame s false over = refl

  stop_extends : (frame : Frame) (stop : Stop) (s : Progress) → IsOver (after_stop rest lim frame stop s) → after_stop more lim frame stop s ≡ after_stop rest lim frame stop s
  stop_extends frame (Make child args effects true future place) s over = spawned_extends frame child future place s (nat_lt (length s.values) lim.tasks) over
  stop_extends frame (Make child args effects false future place) s over = refl
  stop_extends frame (Waits on) s over = refl
  stop_extends frame (Joins on) s over = joined_extends (given frame (kept_value s on)) s (is_child on frame) over
  stop_extends frame (Done value) s over = refl
  stop_extends frame (Fault kind place) s over = refl

-- one segment more gives the same
same_with_one_more : (p : Program) (lim : Bounds) (n : ℕ) → Extends (run_within p lim n) (run_within p lim (suc n))
same_with_one_more p lim zero frame s over = absurd (subst IsOver (none_left p lim frame s) over)
same_with_one_more p lim (suc n) frame s over =
    let after = segment p frame s.cells in
    let was = one_more p lim n frame s in
    let is = one_more p lim (suc n) frame s in
    is ∙ stop_extends (run_within p lim n) (run_within p lim (suc n)) (same_with_one_more p lim n) lim (frame_without_prints after.frame) after.stop (with_segment s after) (subst IsOver was over) ∙ sym was

-- and so do more
same_with_more : (p : Program) (lim : Bounds) (n k : ℕ) → Extends (run_within p lim n) (run_within p lim (k + n))
same_with_more p lim n zero frame s over = let e : zero + n ≡ n = omega arith in ap (λ (m : ℕ). run_within p lim m frame s) e
same_with_more p lim n (suc k) frame s over =
    let e : suc k + n ≡ suc (k + n) = omega arith in
    let before = same_with_more p lim n k frame s over in
    ap (λ (m : ℕ). run_within p lim m frame s) e ∙ same_with_one_more p lim (k + n) frame s (subst IsOver (sym before) over) ∙ before

pub same_within : (p : Program) (lim : Bounds) (n m : ℕ) (frame : Frame) (s : Progress) → n ≤ m → IsOver (run_within p lim n frame s) → run_within p lim m frame s ≡ run_within p lim n frame s
same_within p lim n m frame s le over =
    let e : m ≡ (m - n) + n = omega (arith, le) in
    ap (λ (k : ℕ). run_within p lim k frame s) e ∙ same_with_more p lim n (m - n) frame s over

-- No task is forgotten: an execution that has ended with a value has at least the tasks that it began with.
abbrev pub HasAtLeast : ℕ → Ending → Type 0
HasAtLeast count (ends value s) = count ≤ length s.values
HasAtLeast count (fails kind place) = Unit {0}
HasAtLeast count strays = Unit {0}
HasAtLeast count goes_on = Unit {0}

abbrev pub Grows : Running → Type 0
Grows rest = (frame : Frame) (s : Progress) → HasAtLeast (length s.values) (rest frame s)

fewer : (a b : ℕ) (e : Ending) → a ≤ b → HasAtLeast b e → HasAtLeast a e
fewer a b (ends value s) le has = omega (arith, le, has)
fewer a b (fails kind place) le has = tt
fewer a b strays le has = tt
fewer a b goes_on le has = tt

child_grows : (rest : Running) → Grows rest → (caller : Frame) (count : ℕ) (e : Ending) → HasAtLeast count e → HasAtLeast count (then_go_on e (λ s. rest caller s))
child_grows rest grows caller count (ends value s) has = fewer count (length s.values) (rest caller s) has (grows caller s)
child_grows rest grows caller count (fails kind place) has = tt
child_grows rest grows caller count strays has = tt
child_grows rest grows caller count goes_on has = tt

length_with_task : (s : Progress) → length (with_task s).values ≡ length s.values + 1
length_with_task s = length-append s.values (pos 0 ∷ [])

module _ (rest : Running) (grows : Grows rest) (lim : Bounds) where
  spawned_grows : (frame child : Frame) (future : ℕ) (place : Place) (s : Progress) (fits : Bool)
      → let number = length s.values in
      HasAtLeast number (if fits then then_go_on (rest (first_frame lim number child) (with_task s)) (λ after. rest (making_frame future true number frame) after) else fails TaskLimit place)
  spawned_grows frame child future place s true =
      let number = length s.values in
      let e = rest (first_frame lim number child) (with_task s) in
      child_grows rest grows (making_frame future true number frame) number e
      (fewer number (length (with_task s).values) e (omega (arith, length_with_task s)) (grows (first_frame lim number child) (with_task s)))
  spawned_grows frame child future place s false = tt

  joined_grows : (frame : Frame) (s : Progress) (is : Bool) → HasAtLeast (length s.values) (if is then rest frame s else strays)
  joined_grows frame s true = grows frame s
  joined_grows frame s false = tt

  stop_grows : (frame : Frame) (stop : Stop) (s : Progress) → HasAtLeast (length s.values) (after_stop rest lim frame stop s)
  stop_grows frame (Make child args effects true future place) s = spawned_grows frame child future place s (nat_lt (length s.values) lim.tasks)
  stop_grows frame (Make child args effects false future place) s = tt
  stop_grows frame (Waits on) s = tt
  stop_grows frame (Joins on) s = joined_grows (given frame (kept_value s on)) s (is_child on frame)
  stop_grows frame (Done value) s = omega (arith, length-set s.values frame.task value)
  stop_grows frame (Fault kind place) s = tt

pub run_grows : (p : Program) (lim : Bounds) (n : ℕ) → Grows (run_within p lim n)
run_grows p lim zero frame s = subst (HasAtLeast (length s.values)) (sym (none_left p lim frame s)) tt
run_grows p lim (suc n) frame s =
    let after = segment p frame s.cells in
    subst (HasAtLeast (length s.values)) (sym (one_more p lim n frame s))
    (stop_grows (run_within p lim n) (run_grows p lim n) lim (frame_without_prints after.frame) after.stop (with_segment s after))

-- A bound above what a task may still do is never reached.
abbrev pub EndsBelow : Bounds → ℕ → Running → Type 0
EndsBelow lim bound rest = (frame : Frame) (s : Progress) → size lim frame s < bound → IsOver (rest frame s)

child_ends : (lim : Bounds) (rest : Running) (bound count : ℕ) → EndsBelow lim bound rest → (caller : Frame) → weight caller + room lim count < bound
    → (e : Ending) → HasAtLeast count e → IsOver e → IsOver (then_go_on e (λ s. rest caller s))
child_ends lim rest bound count below caller less (ends value s) has over =
    let fall = room_falls lim count (length s.values) has in
    below caller s (omega (arith, fall, less))
child_ends lim rest bound count below caller less (fails kind place) has over = tt
child_ends lim rest bound count below caller less strays has over = tt
child_ends lim rest bound count below caller less goes_on has over = over

module _ (lim : Bounds) (rest : Running) (bound : ℕ) (below : EndsBelow lim bound rest) (grows : Grows rest) where
  spawned_ends : (before after child : Frame) (future : ℕ) (place : Place) (s : Progress) → after.fuel < before.fuel → length after.out.items ≡ length before.out.items → child.out.items ≡ []
      → size lim before s ≤ bound → (fits : Bool) → nat_lt (length s.values) lim.tasks ≡ fits
      → let number = length s.values in
      IsOver (if fits then then_go_on (rest (first_frame lim number child) (with_task s)) (λ t. rest (making_frame future true number (frame_without_prints after)) t) else fails TaskLimit place)
  spawned_ends before after child future place s fuel out none le true e =
      let number = length s.values in
      let falls = spawn_falls lim before after child future number number fuel out none (ltb-true number lim.tasks e) in
      let count = length_with_task s in
      let same : room lim (length (with_task s).values) ≡ room lim (number + 1) = ap (room lim) count in
      let has = grows (first_frame lim number child) (with_task s) in
      child_ends lim rest bound (length (with_task s).values) below (making_frame future true number (frame_without_prints after)) (omega (arith, falls, same, le))
      (rest (first_frame lim number child) (with_task s)) has (below (first_frame lim number child) (with_task s) (omega (arith, falls, same, le)))
  spawned_ends before after child future place s fuel out none le false e = tt

  joined_ends : (before frame : Frame) (s : Progress) → weight frame < weight before → size lim before s ≤ bound → (is : Bool) → IsOver (if is then rest frame s else strays)
  joined_ends before frame s falls le true = below frame s (omega (arith, falls, le))
  joined_ends before frame s falls le false = tt

  stop_ends : (before after : Frame) (stop : Stop) (s : Progress) → Spends before after stop → size lim before s ≤ bound → IsOver (after_stop rest lim (frame_without_prints after) stop s)
  stop_ends before after (Make child args effects true future place) s spends le =
      let spent = spends.made child args effects true future place refl in
      spawned_ends before after child future place s spent.0 spends.out spent.1 le (nat_lt (length s.values) lim.tasks) refl
  stop_ends before after (Make child args effects false future place) s spends le = tt
  stop_ends before after (Waits on) s spends le = tt
  stop_ends before after (Joins on) s spends le =
      joined_ends before (given (frame_without_prints after) (kept_value s on)) s (joined_falls before after on (kept_value s on) spends) le (is_child on (frame_without_prints after))
  stop_ends before after (Done value) s spends le = tt
  stop_ends before after (Fault kind place) s spends le = tt

pub run_ends : (p : Program) (lim : Bounds) (n : ℕ) → EndsBelow lim n (run_within p lim n)
run_ends p lim zero frame s less = absurd (omega (arith, less))
run_ends p lim (suc n) frame s less =
    let after = segment p frame s.cells in
    subst IsOver (sym (one_more p lim n frame s))
    (stop_ends lim (run_within p lim n) n (run_ends p lim n) (run_grows p lim n) frame after.frame after.stop (with_segment s after) (segment_spends p frame s.cells) (omega (arith, less)))

least : (lim : Bounds) (tasks : ℕ) → 1 ≤ tasks → 2 * lim.fuel + 1 + (tasks - 1) * (2 * lim.fuel + 1) < tasks * (2 * lim.fuel + 2)
least lim zero some = absurd (omega (arith, some))
least lim (suc others) some = let e : suc others - 1 ≡ others = omega arith in rw e (omega arith)

-- the bound of the definition is above what the first task may do
pub most_is_enough : (p : Program) (lim : Bounds) (task : ℕ) (args cells : List ℤ) → 1 ≤ lim.tasks
    → size lim (frame_at_start p lim task args) (progress_at_start cells) < most_segments lim
most_is_enough p lim task args cells some =
    let one = least lim lim.tasks some in
    omega (arith, one)
