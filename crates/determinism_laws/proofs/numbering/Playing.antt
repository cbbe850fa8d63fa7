-- What was played by frames with other numbers is the sequential execution.
use Rattle.std.proofs.Common.{◌≡◌, ◌≢◌, ◌<◌, ◌≤◌, ◌+◌, inl, inr, ℕ, ℤ, Bool, true, false, List, [], ◌∷◌, ◌++◌, length, refl, sym, ap, ◌∙◌, subst, arith, length-append, length-set, append_assoc}
use Rattle.std.specs.Prelude.{◌==◌, map, pos}
use Rattle.std.specs.List.{list_any}
use Rattle.twe_base.specs.declared.place.Place.{Place}
use Rattle.effect_sets.specs.declared.effects.Summary.{Summary}
use Rattle.twe_base.specs.Limits.{Bounds}
use Rattle.twe_program.specs.Program.{Program}
use Rattle.twe_program.specs.WellFormed.{IsWellFormed}
use Rattle.seg_meaning.specs.declared.frame.Frame.{Frame}
use Rattle.seg_meaning.specs.declared.frame.Next.{Next}
use Rattle.seg_meaning.specs.declared.frame.Next.TheVariants.{Go, Get, Join, Closing, Ended}
use Rattle.seg_meaning.specs.declared.stop.Stop.{Stop}
use Rattle.seg_meaning.specs.declared.stop.Stop.TheVariants.{Make, Joins, Done}
use Rattle.seg_meaning.specs.Access.{after}
use Rattle.seg_meaning.specs.Entry.{entry_frame}
use Rattle.seg_meaning.specs.Giving.{given, given_by}
use Rattle.seg_meaning.specs.Segment.{segment}
use Rattle.machine_state.specs.segment_laws.Ready.{IsReady}
use Rattle.machine_state.proofs.segment_laws.BeingReady.{entry_ready, ready_given, ready_later, ready_made, ready_same}
use Rattle.machine_state.proofs.segment_laws.Following.{makes_follow}
use Rattle.machine_state.proofs.segment_laws.SegmentKept.{segment_keeps}
use Rattle.machine_state.specs.Moves.{frame_without_prints, making_frame}
use Rattle.determinism_laws.specs.declared.elision.progress.Progress.{Progress}
use Rattle.determinism_laws.specs.elision.Building.{RunsTo, next_frame, next_progress}
use Rattle.determinism_laws.specs.elision.Elision.{first_frame, frame_at_start, is_child, kept_value, progress_at_start, with_task, with_value}
use Rattle.determinism_laws.proofs.elision.Building.{ends_at_done, goes_on_at_join, goes_on_at_spawn, runs_as_defined}
use Rattle.determinism_laws.specs.numbering.Renumbering.{Numbering, SameButNumbers, frame_renumbered}
use Rattle.determinism_laws.specs.numbering.SameAccesses.{DoesTheSame}
use Rattle.determinism_laws.specs.numbering.Played.{ChildrenAreKept, ElidesTo, FindTheSame, IsInjective, Played, ends, joins, spawns, PlayedStep, cells_after, played_prints, step_accesses, step_frame, step_prints}
use Rattle.determinism_laws.proofs.numbering.Alike.{does_the_same, done_before, join_before, make_before}
use Rattle.determinism_laws.proofs.numbering.BetweenSegments.{entry_renumbered, given_renumbered, made_renumbered}
use Rattle.determinism_laws.proofs.numbering.KeptValues.{any_renumbered, get_before, get_other, get_set, last_or_before, left_was_there}

-- steps one after another
cells_joined : (p : Program) (xs ys : List PlayedStep) (cells : List ℤ) → cells_after p (xs ++ ys) cells ≡ cells_after p ys (cells_after p xs cells)
cells_joined p [] ys cells = refl
cells_joined p (step ∷ xs) ys cells = cells_joined p xs ys (after cells (step_accesses p step))

prints_joined : (p : Program) (xs ys : List PlayedStep) → played_prints p (xs ++ ys) ≡ played_prints p xs ++ played_prints p ys
prints_joined p [] ys = refl
prints_joined p (step ∷ xs) ys = ap (λ (l : List ℤ). step_prints p step ++ l) (prints_joined p xs ys) ∙ sym (append_assoc (step_prints p step) (played_prints p xs) (played_prints p ys))

find_first : (p : Program) (xs ys : List PlayedStep) (cells : List ℤ) → FindTheSame p (xs ++ ys) cells → FindTheSame p xs cells
find_first p [] ys cells find = tt
find_first p (step ∷ xs) ys cells find = (find.0, find_first p xs ys (after cells (step_accesses p step)) find.1)

find_later : (p : Program) (xs ys : List PlayedStep) (cells : List ℤ) → FindTheSame p (xs ++ ys) cells → FindTheSame p ys (cells_after p xs cells)
find_later p [] ys cells find = find
find_later p (step ∷ xs) ys cells find = find_later p xs ys (after cells (step_accesses p step)) find.1

nothing_after : (xs : List ℤ) → xs ++ [] ≡ xs
nothing_after [] = refl
nothing_after (x ∷ xs) = ap (λ (l : List ℤ). x ∷ l) (nothing_after xs)

-- a child of a frame that has taken a value was a child before, and the task is the same
given_child : (next : Next) (frame : Frame) (value : ℤ) (child : ℕ) → is_child child (given_by next frame value) ≡ true → is_child child frame ≡ true
given_child Go frame value child e = e
given_child (Get on into) frame value child e = e
given_child (Join on into) frame value child e = left_was_there on child frame.out.items e
given_child (Closing on) frame value child e = left_was_there on child frame.out.items e
given_child Ended frame value child e = e

given_task : (next : Next) (frame : Frame) (value : ℤ) → (given_by next frame value).task ≡ frame.task
given_task Go frame value = refl
given_task (Get on into) frame value = refl
given_task (Join on into) frame value = refl
given_task (Closing on) frame value = refl
given_task Ended frame value = refl

not_made : (stop : Stop) (on : ℕ) (child : Frame) (args : List ℤ) (effects : Summary) (spawned : Bool) (future : ℕ) (place : Place)
    → stop ≡ Joins on → stop ≡ Make child args effects spawned future place → ⊥
not_made stop on child args effects spawned future place join make = let clash = sym join ∙ make in absurd (cc)

no_child : (child : ℕ) (frame : Frame) → frame.out.items ≡ [] → is_child child frame ≡ true → ⊥
no_child child frame none there =
    let clash : false ≡ true = sym (ap (λ (l : List ℕ). list_any (λ c. c == child) l) none) ∙ there in
    absurd (cc)

below_other : (c number : ℕ) → c < number → c ≡ number → ⊥
below_other c number less same = absurd (omega (arith, less, same))

four : (a b c d : List ℤ) → ((a ++ b) ++ c) ++ d ≡ a ++ (b ++ (c ++ d))
four a b c d = append_assoc (a ++ b) c d ∙ append_assoc a b (c ++ d)

-- no fewer tasks are made
pub played_grows : (p : Program) (lim : Bounds) (to : Numbering) (values : ℕ → ℤ) (u : ℕ) (frame : Frame) (steps : List PlayedStep) (count upto : ℕ)
    → Played p lim to values u frame steps count upto → count ≤ upto
played_grows p lim to values u frame steps count upto (ends _ step _ stop) = omega arith
played_grows p lim to values u frame steps count upto (joins _ step on others _ _ stop child later) =
    played_grows p lim to values u (given (step_frame p step) (values on)) others count upto later
played_grows p lim to values u frame steps count upto (spawns _ step child args effects future place below others _ between _ stop fits first later) =
    let a = played_grows p lim to values (to count) (first_frame lim (to count) child) below (count + 1) between first in
    let b = played_grows p lim to values u (making_frame future true (to count) (step_frame p step)) others between upto later in
    omega (arith, a, b)

-- what an execution gives
pub record IsElided (p : Program) (lim : Bounds) (frame : Frame) (s : Progress) (value : ℤ) (steps : List PlayedStep) (count upto : ℕ) : Type 0 where
  pub later : Progress
  pub runs : RunsTo p lim frame s value later
  pub made : length later.values ≡ upto
  pub own : kept_value later frame.task ≡ value
  pub kept : (k : ℕ) → k < count → k ≢ frame.task → kept_value later k ≡ kept_value s k
  pub cells : later.cells ≡ cells_after p steps s.cells
  pub prints : later.prints ≡ s.prints ++ played_prints p steps

module _ (p : Program) (lim : Bounds) (to : Numbering) (values : ℕ → ℤ) (well : IsWellFormed p) (apart : IsInjective to) where
  -- what is known of the frame with the new numbers
  record Meets (frame other : Frame) (s : Progress) (count : ℕ) : Type 0 where
    same : SameButNumbers to frame other
    ready : IsReady p frame
    counted : length s.values ≡ count
    task : frame.task < count
    kept : ChildrenAreKept to values frame s count

  module _ (frame : Frame) (s : Progress) (step : PlayedStep) (count : ℕ) (meets : Meets frame step.frame s count) where
    abbrev was : Frame
    was = step_frame p step

    abbrev is : Frame
    is = next_frame p frame s

    abbrev t : Progress
    t = next_progress p frame s

    alike : FindTheSame p (step ∷ []) s.cells → DoesTheSame p to frame step.frame step.cells s.cells
    alike find = does_the_same p to frame step.frame step.cells s.cells meets.ready meets.same find.0

    same_prints : DoesTheSame p to frame step.frame step.cells s.cells → t.prints ≡ s.prints ++ step_prints p step
    same_prints d = ap (λ (f : Frame). s.prints ++ f.prints) (sym d.frames)

    same_next : DoesTheSame p to frame step.frame step.cells s.cells → SameButNumbers to is was
    same_next d = ap frame_without_prints d.frames

    child_before : (child : ℕ) → is_child child is ≡ true → is_child child frame ≡ true
    child_before child e = sym (ap (λ (l : List ℕ). list_any (λ c. c == child) l) (segment_keeps p frame s.cells).out) ∙ e

    same_task : is.task ≡ frame.task
    same_task = (segment_keeps p frame s.cells).task

    -- it has ended
    ended : (u : ℕ) → DoesTheSame p to frame step.frame step.cells s.cells → (segment p step.frame step.cells).stop ≡ Done (values u)
        → IsElided p lim frame s (values u) (step ∷ []) count count
    ended u d stop =
        let below : is.task < length s.values = omega (arith, same_task, meets.task, meets.counted) in
        record {
          later = with_value is (values u) t;
          runs = ends_at_done p lim frame s (values u) (done_before to (segment p frame s.cells).stop (values u) (d.stops ∙ stop));
          made = length-set s.values is.task (values u) ∙ meets.counted;
          own = ap (λ (k : ℕ). kept_value (with_value is (values u) t) k) (sym same_task) ∙ get_set s.values is.task (values u) below;
          kept = λ k less other. get_other s.values is.task k (values u) (λ e. other (e ∙ same_task));
          cells = d.leaves;
          prints = same_prints d ∙ sym (ap (λ (l : List ℤ). s.prints ++ l) (nothing_after (step_prints p step)));
        }

    -- it goes on after a join
    joined : (u on upto : ℕ) (others : List PlayedStep) → DoesTheSame p to frame step.frame step.cells s.cells → (segment p step.frame step.cells).stop ≡ Joins on
        → is_child on was ≡ true
        → ((f : Frame) (x : Progress) → Meets f (given was (values on)) x count → FindTheSame p others x.cells → IsElided p lim f x (values u) others count upto)
        → FindTheSame p others (after s.cells (step_accesses p step)) → IsElided p lim frame s (values u) (step ∷ others) count upto
    joined u on upto others d stop child later find =
        let j = join_before to (segment p frame s.cells).stop on (d.stops ∙ stop) in
        let k = j.0 in
        let value = kept_value t k in
        let next = given is value in
        let mine : is_child k is ≡ true =
        sym (any_renumbered to apart k is.out.items) ∙ ap (λ (n : ℕ). list_any (λ c. c == n) (map to is.out.items)) j.2 ∙ ap (λ (f : Frame). is_child on f) (sym (same_next d)) ∙ child in
        let facts = meets.kept k (child_before k mine) in
        let value_is : value ≡ values on = facts.1 ∙ ap values j.2 in
        let same : SameButNumbers to next (given was (values on)) =
        ap (given was) (sym value_is) ∙ given_renumbered to is was value (λ on2 c e there eq. apart c on2 eq) (same_next d) in
        let ready : IsReady p next =
        ready_given p is value (ready_same p (segment p frame s.cells).frame is refl refl refl
        (ready_later p frame s.cells meets.ready (λ made args effects spawned future place e. not_made (segment p frame s.cells).stop k made args effects spawned future place j.1 e))) in
        let task : next.task ≡ frame.task = given_task is.next is value ∙ same_task in
        let m : Meets next (given was (values on)) t count = record {
          same = same;
          ready = ready;
          counted = meets.counted;
          task = omega (arith, task, meets.task);
          kept = λ c e. meets.kept c (child_before c (given_child is.next is value c e));
        } in
        let r = later next t m (subst (FindTheSame p others) (sym d.leaves) find) in
        record {
          later = r.later;
          runs = goes_on_at_join p lim frame s r.later k (values u) j.1 mine r.runs;
          made = r.made;
          own = ap (λ (n : ℕ). kept_value r.later n) (sym task) ∙ r.own;
          kept = λ n less other. r.kept n less (λ e. other (e ∙ task));
          cells = r.cells ∙ ap (cells_after p others) d.leaves;
          prints = r.prints ∙ ap (λ (l : List ℤ). l ++ played_prints p others) (same_prints d) ∙ append_assoc s.prints (step_prints p step) (played_prints p others);
        }

    -- it goes on after a spawn
    spawned : (u : ℕ) (child : Frame) (args : List ℤ) (effects : Summary) (future : ℕ) (place : Place) (below others : List PlayedStep) (between upto : ℕ)
        → DoesTheSame p to frame step.frame step.cells s.cells → (segment p step.frame step.cells).stop ≡ Make child args effects true future place → count < lim.tasks
        → count + 1 ≤ between
        → ((f : Frame) (x : Progress) → Meets f (first_frame lim (to count) child) x (count + 1) → FindTheSame p below x.cells → IsElided p lim f x (values (to count)) below (count + 1) between)
        → ((f : Frame) (x : Progress) → Meets f (making_frame future true (to count) was) x between → FindTheSame p others x.cells → IsElided p lim f x (values u) others between upto)
        → FindTheSame p (below ++ others) (after s.cells (step_accesses p step)) → IsElided p lim frame s (values u) (step ∷ below ++ others) count upto
    spawned u child args effects future place below others between upto d stop fits grows first later find =
        let number = length s.values in
        let e = make_before to (segment p frame s.cells).stop child args effects true future place (d.stops ∙ stop) in
        let made = makes_follow p frame s.cells [] child args effects true future place e in
        let to_number : to number ≡ to count = ap to meets.counted in
        let mine = first_frame lim number child in
        let entry = first_frame lim number (entry_frame p made.task args) in
        let mine_is : mine ≡ entry = ap (first_frame lim number) made.child_is in
        let x = with_task t in
        let count_x : length x.values ≡ count + 1 = length-append s.values (pos 0 ∷ []) ∙ ap (λ (n : ℕ). n + 1) meets.counted in
        let child_meets : Meets mine (first_frame lim (to count) child) x (count + 1) = record {
          same = ap (first_frame lim (to count)) made.child_is ∙ ap (λ (n : ℕ). first_frame lim n (entry_frame p made.task args)) (sym to_number)
              ∙ entry_renumbered to p made.task number lim.fuel args ∙ ap (frame_renumbered to) (sym mine_is);
          ready = subst (IsReady p) (sym mine_is) (ready_same p (entry_frame p made.task args) entry refl refl refl (entry_ready p well made.task args));
          counted = count_x;
          task = omega (arith, meets.counted);
          kept = λ c there. absurd (no_child c mine (ap (λ (f : Frame). f.out.items) made.child_is) there);
        } in
        let a = first mine x child_meets (subst (FindTheSame p below) (sym d.leaves) (find_first p below others (after s.cells (step_accesses p step)) find)) in
        let maker = making_frame future true number is in
        let cells_a : a.later.cells ≡ cells_after p below (after s.cells (step_accesses p step)) = a.cells ∙ ap (cells_after p below) d.leaves in
        let old_value : (c : ℕ) → c < count → kept_value a.later c ≡ kept_value s c =
        λ c less. a.kept c (omega (arith, less)) (λ same. below_other c number (omega (arith, less, meets.counted)) same) ∙ get_before s.values (pos 0) c (omega (arith, less, meets.counted)) in
        let maker_meets : Meets maker (making_frame future true (to count) was) a.later between = record {
          same = ap (λ (n : ℕ). making_frame future true n was) (sym to_number) ∙ made_renumbered to is was future number true (same_next d);
          ready = ready_same p (record (segment p frame s.cells).frame { futures = maker.futures; out = maker.out }) maker refl refl refl
              (ready_made p frame s.cells meets.ready child args effects true future place e number maker.out);
          counted = a.made;
          task = omega (arith, same_task, meets.task, grows);
          kept = λ c there. elim (last_or_before c number is.out.items there) [
            | inl last ↦ (omega (arith, sym last, meets.counted, grows), ap (kept_value a.later) (sym last) ∙ a.own ∙ ap values (sym to_number ∙ ap to last))
            | inr before ↦ let facts = meets.kept c (child_before c before) in (omega (arith, facts.0, grows), old_value c facts.0 ∙ facts.1)
          ];
        } in
        let b = later maker a.later maker_meets (subst (FindTheSame p others) (sym cells_a) (find_later p below others (after s.cells (step_accesses p step)) find)) in
        record {
          later = b.later;
          runs = goes_on_at_spawn p lim frame s child a.later b.later args effects future place (values (to count)) (values u) e (omega (arith, meets.counted, fits)) a.runs b.runs;
          made = b.made;
          own = ap (kept_value b.later) (sym same_task) ∙ b.own;
          kept = λ c less other. b.kept c (omega (arith, less, grows)) (λ same. other (same ∙ same_task)) ∙ old_value c less;
          cells = b.cells ∙ ap (cells_after p others) cells_a ∙ sym (cells_joined p below others (after s.cells (step_accesses p step)));
          prints = b.prints ∙ ap (λ (l : List ℤ). l ++ played_prints p others) (a.prints ∙ ap (λ (l : List ℤ). l ++ played_prints p below) (same_prints d))
              ∙ four s.prints (step_prints p step) (played_prints p below) (played_prints p others)
              ∙ ap (λ (l : List ℤ). s.prints ++ (step_prints p step ++ l)) (sym (prints_joined p below others));
        }

  -- by induction over what was played
  tied : (u : ℕ) (other : Frame) (steps : List PlayedStep) (count upto : ℕ) → Played p lim to values u other steps count upto
      → (frame : Frame) (s : Progress) → Meets frame other s count → FindTheSame p steps s.cells → IsElided p lim frame s (values u) steps count upto
  tied u other steps count upto (ends _ step _ stop) frame s meets find = ended frame s step count meets u (alike frame s step count meets (find.0, tt)) stop
  tied u other steps count upto (joins _ step on others _ _ stop child later) frame s meets find =
      joined frame s step count meets u on upto others (alike frame s step count meets (find.0, tt)) stop child
      (tied u (given (step_frame p step) (values on)) others count upto later) find.1
  tied u other steps count upto (spawns _ step child args effects future place below others _ between _ stop fits first later) frame s meets find =
      spawned frame s step count meets u child args effects future place below others between upto (alike frame s step count meets (find.0, tt)) stop fits
      (played_grows p lim to values (to count) (first_frame lim (to count) child) below (count + 1) between first)
      (tied (to count) (first_frame lim (to count) child) below (count + 1) between first)
      (tied u (making_frame future true (to count) (step_frame p step)) others between upto later) find.1

  -- from the first frame of a declaration on
  pub played_elides : (task : ℕ) (args cells : List ℤ) (steps : List PlayedStep) (upto : ℕ) → 1 ≤ lim.tasks
      → Played p lim to values (to 0) (first_frame lim (to 0) (entry_frame p task args)) steps 1 upto → FindTheSame p steps cells
      → ElidesTo p lim task args cells (values (to 0)) steps upto
  played_elides task args cells steps upto some played find =
      let frame = frame_at_start p lim task args in
      let s = progress_at_start cells in
      let m : Meets frame (first_frame lim (to 0) (entry_frame p task args)) s 1 = record {
        same = entry_renumbered to p task 0 lim.fuel args;
        ready = ready_same p (entry_frame p task args) frame refl refl refl (entry_ready p well task args);
        counted = refl;
        task = omega arith;
        kept = λ c there. absurd (no_child c frame refl there);
      } in
      let r = tied (to 0) (first_frame lim (to 0) (entry_frame p task args)) steps 1 upto played frame s m find in
      record {
        later = r.later;
        ends = runs_as_defined p lim task args cells (values (to 0)) r.later some r.runs;
        cells_are = r.cells;
        prints_are = r.prints;
        tasks_are = r.made;
      }
