-- Rows with other numbers for the tasks, and what the next segment makes of them.
use Rattle.std.proofs.Common.{◌≡◌, ◌<◌, ℕ, suc, ℤ, Bool, true, false, List, [], ◌∷◌, Option, None, Some, inl, inr, refl, sym, ap, ◌∙◌, arith}
use Rattle.std.specs.Prelude.{◌==◌, Contains, if◌then◌else◌, map, option_map}
use Rattle.std.specs.List.{list_any}
use Rattle.std.proofs.lemmas.Bool.{cases_eq}
use Rattle.twe_base.specs.declared.place.Place.{Place}
use Rattle.twe_base.specs.Limits.{Bounds}
use Rattle.effect_sets.specs.declared.effects.Summary.{Summary}
use Rattle.twe_program.specs.Program.{Program}
use Rattle.seg_meaning.specs.declared.frame.Frame.{Frame}
use Rattle.seg_meaning.specs.declared.frame.Next.{Next}
use Rattle.seg_meaning.specs.declared.frame.Next.TheVariants.{Go, Get, Join, Closing, Ended}
use Rattle.seg_meaning.specs.declared.stop.Stop.{Stop}
use Rattle.seg_meaning.specs.declared.stop.Stop.TheVariants as stops
use Rattle.seg_meaning.specs.Entry.{entry_frame}
use Rattle.machine_state.specs.declared.state.TaskRow.{TaskRow}
use Rattle.machine_state.specs.Changes.{asked_by}
use Rattle.machine_state.specs.Moves.{going_row, joined_child, making_frame, new_row, parent_of}
use Rattle.machine_state.specs.Rows.{row_awaited}
use Rattle.determinism_laws.specs.numbering.Played.{IsInjective}
use Rattle.determinism_laws.specs.numbering.Renumbering.{Numbering, SameNumbersIn, frame_renumbered, futures_renumbered, next_renumbered, stop_renumbered}
use Rattle.determinism_laws.proofs.numbering.BetweenSegments.{entry_renumbered, made_renumbered, numberings_agree}
use Rattle.determinism_laws.proofs.numbering.KeptValues.{any_renumbered}
use Rattle.determinism_laws.proofs.MovedRows.{child_joined, made_after, marked, marked_child, marked_other, own_after}
use Rattle.determinism_laws.proofs.NearFaults.{ends_in_fault}

-- the row with other numbers: of its frame, of its parent and of its unjoined children
abbrev pub row_renumbered : Numbering → TaskRow → TaskRow
row_renumbered to row = record row { frame = frame_renumbered to row.frame; parent = option_map to row.parent; out = map to row.out }

-- the child that a stop makes has the first frame of a declaration
abbrev pub MakesFirst : Program → Stop → Type 0
MakesFirst p stop =
    (child : Frame) (args : List ℤ) (effects : Summary) (spawned : Bool) (future : ℕ) (place : Place) → stop ≡ stops.Make child args effects spawned future place
    → (task : ℕ) × (child ≡ entry_frame p task args)

module _ (to : Numbering) where
  -- What a stop leaves does not depend on the number of the task that is waited for.

  pub own_of_stop : (stop : Stop) (number : ℕ) (row : TaskRow) (frame : Frame) → own_after (stop_renumbered to stop) number row frame ≡ own_after stop number row frame
  own_of_stop (stops.Make child args effects spawned future place) number row frame = refl
  own_of_stop (stops.Waits on) number row frame = refl
  own_of_stop (stops.Joins on) number row frame = refl
  own_of_stop (stops.Done value) number row frame = refl
  own_of_stop (stops.Fault kind place) number row frame = refl

  pub made_of_stop : (lim : Bounds) (t : ℕ) (stop : Stop) (number : ℕ) → made_after lim t (stop_renumbered to stop) number ≡ made_after lim t stop number
  made_of_stop lim t (stops.Make child args effects spawned future place) number = refl
  made_of_stop lim t (stops.Waits on) number = refl
  made_of_stop lim t (stops.Joins on) number = refl
  made_of_stop lim t (stops.Done value) number = refl
  made_of_stop lim t (stops.Fault kind place) number = refl

  pub asked_of_stop : (stop : Stop) → asked_by (stop_renumbered to stop) ≡ asked_by stop
  asked_of_stop (stops.Make child args effects spawned future place) = refl
  asked_of_stop (stops.Waits on) = refl
  asked_of_stop (stops.Joins on) = refl
  asked_of_stop (stops.Done value) = refl
  asked_of_stop (stops.Fault kind place) = refl

  pub fault_of_stop : (lim : Bounds) (asked : ℕ) (stop : Stop) → ends_in_fault lim asked (stop_renumbered to stop) ≡ ends_in_fault lim asked stop
  fault_of_stop lim asked (stops.Make child args effects spawned future place) = refl
  fault_of_stop lim asked (stops.Waits on) = refl
  fault_of_stop lim asked (stops.Joins on) = refl
  fault_of_stop lim asked (stops.Done value) = refl
  fault_of_stop lim asked (stops.Fault kind place) = refl

  pub awaited_renumbered : (next : Next) → row_awaited (next_renumbered to next) ≡ option_map to (row_awaited next)
  awaited_renumbered Go = refl
  awaited_renumbered (Get on into) = refl
  awaited_renumbered (Join on into) = refl
  awaited_renumbered (Closing on) = refl
  awaited_renumbered Ended = refl

  -- The task that ran.

  own_made : (row : TaskRow) (frame : Frame) (future number new : ℕ) (spawned : Bool) → to number ≡ new
      → going_row (row_renumbered to row) (making_frame future spawned new (frame_renumbered to frame)) ≡ row_renumbered to (going_row row (making_frame future spawned number frame))
  own_made row frame future number new spawned is =
      ap (λ (n : ℕ). going_row (row_renumbered to row) (making_frame future spawned n (frame_renumbered to frame))) (sym is)
      ∙ ap (going_row (row_renumbered to row)) (made_renumbered to frame (frame_renumbered to frame) future number spawned refl)

  pub own_renumbered : (stop : Stop) (number new : ℕ) (row : TaskRow) (frame : Frame) → to number ≡ new
      → own_after (stop_renumbered to stop) new (row_renumbered to row) (frame_renumbered to frame) ≡ row_renumbered to (own_after stop number row frame)
  own_renumbered (stops.Make child args effects spawned future place) number new row frame is = own_made row frame future number new spawned is
  own_renumbered (stops.Waits on) number new row frame is = refl
  own_renumbered (stops.Joins on) number new row frame is = refl
  own_renumbered (stops.Done value) number new row frame is = refl
  own_renumbered (stops.Fault kind place) number new row frame is = refl

  -- The task that it made.

  new_renumbered : (p : Program) (lim : Bounds) (t number new task : ℕ) (child : Frame) (args : List ℤ) (effects : Summary) (spawned : Bool) → to number ≡ new → child ≡ entry_frame p task args
      → new_row lim new (parent_of (to t) spawned) child args effects ≡ row_renumbered to (new_row lim number (parent_of t spawned) child args effects)
  new_renumbered p lim t number new task child args effects spawned is first =
      ap (λ (n : ℕ). new_row lim n (parent_of (to t) spawned) child args effects) (sym is)
      ∙ (ap (λ (f : Frame). new_row lim (to number) (parent_of (to t) spawned) f args effects) first
      ∙ (by_parent spawned ∙ ap (λ (f : Frame). row_renumbered to (new_row lim number (parent_of t spawned) f args effects)) (sym first)))
    where
      by_parent : (b : Bool) → new_row lim (to number) (parent_of (to t) b) (entry_frame p task args) args effects ≡ row_renumbered to (new_row lim number (parent_of t b) (entry_frame p task args) args effects)
      by_parent true = ap (λ (f : Frame). record (new_row lim (to number) (Some (to t)) (entry_frame p task args) args effects) { frame = f }) (entry_renumbered to p task number lim.fuel args)
      by_parent false = ap (λ (f : Frame). record (new_row lim (to number) None (entry_frame p task args) args effects) { frame = f }) (entry_renumbered to p task number lim.fuel args)

  pub made_after_renumbered : (p : Program) (lim : Bounds) (t number new : ℕ) (stop : Stop) → to number ≡ new → MakesFirst p stop → (r : TaskRow) → made_after lim t stop number ≡ Some r
      → made_after lim (to t) (stop_renumbered to stop) new ≡ Some (row_renumbered to r)
  made_after_renumbered p lim t number new (stops.Make child args effects spawned future place) is first r some =
      let entry = first child args effects spawned future place refl in
      let same : new_row lim number (parent_of t spawned) child args effects ≡ r = cc (some) in
      ap Some (new_renumbered p lim t number new entry.0 child args effects spawned is entry.1 ∙ ap (row_renumbered to) same)
  made_after_renumbered p lim t number new (stops.Waits on) is first r some = absurd (cc (some))
  made_after_renumbered p lim t number new (stops.Joins on) is first r some = absurd (cc (some))
  made_after_renumbered p lim t number new (stops.Done value) is first r some = absurd (cc (some))
  made_after_renumbered p lim t number new (stops.Fault kind place) is first r some = absurd (cc (some))

  -- The child that it joined.

  some_renumbered : (on : ℕ) (b : Bool) → (if b then Some (to on) else None) ≡ option_map to (if b then Some on else None)
  some_renumbered on true = refl
  some_renumbered on false = refl

  joined_child_renumbered : IsInjective to → (out : List ℕ) (waits : Option ℕ) → joined_child (map to out) (option_map to waits) ≡ option_map to (joined_child out waits)
  joined_child_renumbered apart out None = refl
  joined_child_renumbered apart out (Some on) =
      ap (λ (b : Bool). if b then Some (to on) else None) (any_renumbered to apart on out)
      ∙ some_renumbered on (list_any (λ c. c == on) out)

  pub child_joined_renumbered : IsInjective to → (row : TaskRow) → child_joined (row_renumbered to row) ≡ option_map to (child_joined row)
  child_joined_renumbered apart row = ap (joined_child (map to row.out)) (awaited_renumbered row.frame.next) ∙ joined_child_renumbered apart row.out (row_awaited row.frame.next)

  pub marked_renumbered : IsInjective to → (child : Option ℕ) (u : ℕ) (row : TaskRow) → marked (option_map to child) (to u) (row_renumbered to row) ≡ row_renumbered to (marked child u row)
  marked_renumbered apart None u row = refl
  marked_renumbered apart (Some c) u row = elim (cases_eq c u) [
    | inl same ↦ marked_child (to c) (to u) (row_renumbered to row) (ap to same) ∙ ap (row_renumbered to) (sym (marked_child c u row same))
    | inr differ ↦
        marked_other (Some (to c)) (to u) (row_renumbered to row) (λ is. let same : to c ≡ to u = cc (is) in differ (apart c u same))
        ∙ ap (row_renumbered to) (sym (marked_other (Some c) u row (λ is. let same : c ≡ u = cc (is) in differ same)))
  ]

-- A numbering that leaves all numbers of a row as they are leaves the row as it is.

same_futures : (futures : List (Option ℕ)) → futures ≡ futures_renumbered (λ k. k) futures
same_futures [] = refl
same_futures (None ∷ others) = ap (λ (l : List (Option ℕ)). None ∷ l) (same_futures others)
same_futures (Some task ∷ others) = ap (λ (l : List (Option ℕ)). Some task ∷ l) (same_futures others)

same_list : (xs : List ℕ) → xs ≡ map (λ k. k) xs
same_list [] = refl
same_list (x ∷ xs) = ap (λ (l : List ℕ). x ∷ l) (same_list xs)

same_next : (next : Next) → next ≡ next_renumbered (λ k. k) next
same_next Go = refl
same_next (Get on into) = refl
same_next (Join on into) = refl
same_next (Closing on) = refl
same_next Ended = refl

same_frame : (frame : Frame) → frame ≡ frame_renumbered (λ k. k) frame
same_frame frame = λ i. record frame { futures = same_futures frame.futures i; out = record frame.out { items = same_list frame.out.items i }; next = same_next frame.next i }

-- the numbers of the frame are those of tasks that are there
pub record NumbersBelow (n : ℕ) (frame : Frame) : Type 0 where
  pub task : frame.task < n
  pub futures : (child : ℕ) → Contains frame.futures (Some child) → child < n
  pub out : (child : ℕ) → Contains frame.out.items child → child < n
  pub next : (on : ℕ) → row_awaited frame.next ≡ Some on → on < n

module _ (to : Numbering) (n : ℕ) (fixed : (k : ℕ) → k < n → to k ≡ k) where
  pub frame_fixed : (frame : Frame) → NumbersBelow n frame → frame_renumbered to frame ≡ frame
  frame_fixed frame below =
      let agree : SameNumbersIn (λ k. k) to frame = record {
        task = fixed frame.task below.task;
        futures = λ child there. fixed child (below.futures child there);
        out = λ child there. fixed child (below.out child there);
        next = λ on is. fixed on (below.next on is);
      } in
      sym (numberings_agree (λ k. k) to frame frame agree (same_frame frame))

  list_fixed : (xs : List ℕ) → ((x : ℕ) → Contains xs x → x < n) → map to xs ≡ xs
  list_fixed [] below = refl
  list_fixed (x ∷ xs) below =
      ap (λ (y : ℕ). y ∷ map to xs) (fixed x (below x (0, omega arith, refl)))
      ∙ ap (λ (l : List ℕ). x ∷ l) (list_fixed xs (λ y there. below y (suc there.0, omega (arith, there.1), there.2)))

  parent_fixed : (parent : Option ℕ) → ((q : ℕ) → parent ≡ Some q → q < n) → option_map to parent ≡ parent
  parent_fixed None below = refl
  parent_fixed (Some q) below = ap Some (fixed q (below q refl))

  pub row_fixed : (row : TaskRow) → NumbersBelow n row.frame → ((q : ℕ) → row.parent ≡ Some q → q < n) → ((c : ℕ) → Contains row.out c → c < n) → row_renumbered to row ≡ row
  row_fixed row frame parent out = λ i. record row { frame = frame_fixed row.frame frame i; parent = parent_fixed row.parent parent i; out = list_fixed row.out out i }
