-- Renumbered frames between their segments.
use Rattle.std.proofs.Common.{◌≡◌, ℕ, zero, suc, ℤ, Bool, true, false, List, [], ◌∷◌, Option, None, Some, refl, sym, ap, ◌∙◌, arith}
use Rattle.std.specs.Prelude.{◌==◌, Contains, if◌then◌else◌, map, option_map, replicate, slice_get, slice_set}
use Rattle.std.proofs.lemmas.Bool.{eq-eqb, eqb-true}
use Rattle.std.proofs.lemmas.List.{map-append}
use Rattle.twe_program.specs.Program.{Program}
use Rattle.seg_meaning.specs.declared.frame.Frame.{Frame}
use Rattle.seg_meaning.specs.declared.frame.Next.{Next}
use Rattle.seg_meaning.specs.declared.frame.Next.TheVariants.{Go, Get, Join, Closing, Ended}
use Rattle.seg_meaning.specs.Entry.{entry_frame, future_count_of}
use Rattle.seg_meaning.specs.Giving.{given, given_by, without}
use Rattle.machine_state.specs.Moves.{making_frame, out_with}
use Rattle.machine_state.specs.Rows.{row_awaited}
use Rattle.determinism_laws.specs.numbering.Renumbering.{SameNumbersIn, Numbering, SameButNumbers, TellsApart, frame_renumbered, futures_renumbered, next_renumbered}

here_in : {X : Type 0} (x : X) (xs : List X) → Contains (x ∷ xs) x
here_in x xs = (0, omega arith, refl)

later_in : {X : Type 0} (x : X) (xs : List X) (y : X) → Contains xs y → Contains (x ∷ xs) y
later_in x xs y there = (suc there.0, omega (arith, there.1), there.2)

module _ (to : Numbering) where
  -- before the first segment: no future stands for a task
  none_renumbered : (n : ℕ) → futures_renumbered to (replicate n None) ≡ replicate n None
  none_renumbered zero = refl
  none_renumbered (suc n) = ap (λ (l : List (Option ℕ)). None ∷ l) (none_renumbered n)

  pub entry_renumbered : (p : Program) (task number fuel : ℕ) (args : List ℤ)
      → SameButNumbers to (record (entry_frame p task args) { task = number; fuel = fuel }) (record (entry_frame p task args) { task = to number; fuel = fuel })
  entry_renumbered p task number fuel args =
      let decl = slice_get p.tasks task in
      ap (λ (l : List (Option ℕ)). record (entry_frame p task args) { task = to number; fuel = fuel; futures = l }) (sym (none_renumbered (future_count_of decl)))

  -- a child that is taken out of the unjoined children
  without_by : (on first : ℕ) (others : List ℕ) (is same : Bool) → (first == on) ≡ is → (to first == to on) ≡ same → (to first ≡ to on → first ≡ on)
      → map to (without on others) ≡ without (to on) (map to others)
      → map to (if is then others else (first ∷ without on others)) ≡ (if same then map to others else (to first ∷ without (to on) (map to others)))
  without_by on first others true true e f apart rest = refl
  without_by on first others true false e f apart rest =
      let is : first ≡ on = eqb-true first on e in
      let clash : false ≡ true = sym f ∙ eq-eqb (to first) (to on) (ap to is) in
      absurd (cc)
  without_by on first others false true e f apart rest =
      let is : first ≡ on = apart (eqb-true (to first) (to on) f) in
      let clash : false ≡ true = sym e ∙ eq-eqb first on is in
      absurd (cc)
  without_by on first others false false e f apart rest = ap (λ (l : List ℕ). to first ∷ l) rest

  without_renumbered : (on : ℕ) (out : List ℕ) → ((child : ℕ) → Contains out child → to child ≡ to on → child ≡ on) → map to (without on out) ≡ without (to on) (map to out)
  without_renumbered on [] apart = refl
  without_renumbered on (first ∷ others) apart =
      without_by on first others (first == on) (to first == to on) refl refl (apart first (here_in first others)) (without_renumbered on others (λ child there. apart child (later_in _ others child there)))

  given_by_renumbered : (next : Next) (frame : Frame) (value : ℤ) → frame.next ≡ next → TellsApart to frame
      → given_by (next_renumbered to next) (frame_renumbered to frame) value ≡ frame_renumbered to (given_by next frame value)
  given_by_renumbered Go frame value is apart = refl
  given_by_renumbered (Get on into) frame value is apart = refl
  given_by_renumbered (Join on into) frame value is apart =
      ap (λ (l : List ℕ). let after = frame_renumbered to (given_by (Join on into) frame value) in record after { out = record after.out { items = l } })
      (sym (without_renumbered on frame.out.items (λ child. apart on child (ap row_awaited is))))
  given_by_renumbered (Closing on) frame value is apart =
      ap (λ (l : List ℕ). let after = frame_renumbered to (given_by (Closing on) frame value) in record after { out = record after.out { items = l } })
      (sym (without_renumbered on frame.out.items (λ child. apart on child (ap row_awaited is))))
  given_by_renumbered Ended frame value is apart = refl

  pub given_renumbered : (frame other : Frame) (value : ℤ) → TellsApart to frame → SameButNumbers to frame other → SameButNumbers to (given frame value) (given other value)
  given_renumbered frame other value apart same = ap (λ (f : Frame). given f value) same ∙ given_by_renumbered frame.next frame value refl apart

  -- a task that is made
  set_renumbered : (futures : List (Option ℕ)) (future child : ℕ) → slice_set (futures_renumbered to futures) future (Some (to child)) ≡ futures_renumbered to (slice_set futures future (Some child))
  set_renumbered [] future child = refl
  set_renumbered (x ∷ xs) zero child = refl
  set_renumbered (x ∷ xs) (suc future) child = ap (λ (l : List (Option ℕ)). option_map to x ∷ l) (set_renumbered xs future child)

  out_renumbered : (spawned : Bool) (child : ℕ) (out : List ℕ) → out_with spawned (to child) (map to out) ≡ map to (out_with spawned child out)
  out_renumbered true child out = sym (map-append to out (child ∷ []))
  out_renumbered false child out = refl

  pub made_renumbered : (frame other : Frame) (future child : ℕ) (spawned : Bool) → SameButNumbers to frame other
      → SameButNumbers to (making_frame future spawned child frame) (making_frame future spawned (to child) other)
  made_renumbered frame other future child spawned same =
      let after = frame_renumbered to (making_frame future spawned child frame) in
      ap (making_frame future spawned (to child)) same
      ∙ ap (λ (l : List (Option ℕ)). record after { futures = l; out = record after.out { items = out_with spawned (to child) (map to frame.out.items) } }) (set_renumbered frame.futures future child)
      ∙ ap (λ (l : List ℕ). record after { out = record after.out { items = l } }) (out_renumbered spawned child frame.out.items)

-- another numbering that agrees on the tasks of the frame
module _ (to other : Numbering) where
  futures_agree : (futures : List (Option ℕ)) → ((child : ℕ) → Contains futures (Some child) → other child ≡ to child) → futures_renumbered to futures ≡ futures_renumbered other futures
  futures_agree [] agree = refl
  futures_agree (None ∷ others) agree = ap (λ (l : List (Option ℕ)). None ∷ l) (futures_agree others (λ child there. agree child (later_in _ others (Some child) there)))
  futures_agree (Some task ∷ others) agree =
      ap (λ (t : ℕ). Some t ∷ futures_renumbered to others) (sym (agree task (here_in _ others)))
      ∙ ap (λ (l : List (Option ℕ)). Some (other task) ∷ l) (futures_agree others (λ child there. agree child (later_in _ others (Some child) there)))

  out_agree : (out : List ℕ) → ((child : ℕ) → Contains out child → other child ≡ to child) → map to out ≡ map other out
  out_agree [] agree = refl
  out_agree (task ∷ others) agree =
      ap (λ (t : ℕ). t ∷ map to others) (sym (agree task (here_in _ others)))
      ∙ ap (λ (l : List ℕ). other task ∷ l) (out_agree others (λ child there. agree child (later_in _ others child there)))

  next_agree : (next : Next) → ((on : ℕ) → row_awaited next ≡ Some on → other on ≡ to on) → next_renumbered to next ≡ next_renumbered other next
  next_agree Go agree = refl
  next_agree (Get on into) agree = ap (λ (t : ℕ). Get t into) (sym (agree on refl))
  next_agree (Join on into) agree = ap (λ (t : ℕ). Join t into) (sym (agree on refl))
  next_agree (Closing on) agree = ap Closing (sym (agree on refl))
  next_agree Ended agree = refl

  pub numberings_agree : (frame after : Frame) → SameNumbersIn to other frame → SameButNumbers to frame after → SameButNumbers other frame after
  numberings_agree frame after agree same =
      same
      ∙ ap (λ (t : ℕ). record (frame_renumbered to frame) { task = t }) (sym agree.task)
      ∙ ap (λ (l : List (Option ℕ)). record (frame_renumbered to frame) { task = other frame.task; futures = l }) (futures_agree frame.futures agree.futures)
      ∙ ap (λ (l : List ℕ). record (frame_renumbered to frame) { task = other frame.task; futures = futures_renumbered other frame.futures; out = record frame.out { items = l } }) (out_agree frame.out.items agree.out)
      ∙ ap (λ (n : Next). record (frame_renumbered other frame) { next = n }) (next_agree frame.next agree.next)
