-- The row of a task is the one that its slot, its phase and the slots of the others say.
use Rattle.std.proofs.Common.{◌≡◌, ◌≢◌, ◌⊎◌, ◌<◌, ◌==◌, ◌||◌, ℕ, zero, suc, ℤ, Bool, true, false, cond, List, [], ◌∷◌, map, Option, None, Some, refl, sym, ap, subst, ◌∙◌, inl, inr, arith}
use Rattle.std.specs.Prelude.{pos, slice_get}
use Rattle.std.specs.List.{list_any}
use Rattle.std.proofs.lemmas.Option.{slice_get_within}
use Rattle.twe_base.specs.Limits.{Bounds}
use Rattle.twe_program.specs.Program.{Program}
use Rattle.twe_program.specs.WellFormed.{IsWellFormed}
use Rattle.machine_state.specs.declared.state.State.{State}
use Rattle.machine_state.specs.declared.state.TaskRow.{TaskRow}
use Rattle.machine_state.specs.declared.state.TaskStatus.{TaskStatus}
use Rattle.machine_state.specs.declared.state.TaskStatus.TheVariants as status
use Rattle.machine_state.specs.Rows.{IsRow, row_awaited}
use Rattle.machine_state.specs.Runs.{IsReached}
use Rattle.machine_state.proofs.lists.Members.{IsIn, any_in, contains_in, in_contains, none_in}
use Rattle.machine_state.proofs.lists.Places.{below_there, got_one}
use Rattle.machine_state.proofs.standing.ReachedStands.{reached_stands}
use Rattle.machine_state.proofs.standing.Standing.{IsChild, Stands}
use Rattle.floor_laws.specs.rule.Rows.{phase_at, phase_of, slot_of}
use Rattle.floor_laws.specs.rule.Shown.{has_child, is_joined, is_unjoined, row_by, status_by, value_by}
use Rattle.floor_laws.proofs.rule.DoneValues.{reached_has}
use Rattle.floor_laws.proofs.rule.PlainRows.{reached_plain}

status_again : (s : TaskStatus) (on : Option ℕ) → status_by (phase_at s on) ≡ s
status_again status.Made on = refl
status_again status.Enabled None = refl
status_again status.Enabled (Some u) = refl
status_again status.Done on = refl
status_again status.Faulted on = refl

made_not_done : status.Made ≢ status.Done
made_not_done h = cc

enabled_not_done : status.Enabled ≢ status.Done
enabled_not_done h = cc

faulted_not_done : status.Faulted ≢ status.Done
faulted_not_done h = cc

value_again : (s : TaskStatus) (on : Option ℕ) (frame_value value : ℤ) → (s ≡ status.Done → frame_value ≡ value) → (s ≢ status.Done → value ≡ pos 0) → value_by (phase_at s on) frame_value ≡ value
value_again status.Made on frame_value value done other = sym (other made_not_done)
value_again status.Enabled None frame_value value done other = sym (other enabled_not_done)
value_again status.Enabled (Some u) frame_value value done other = sym (other enabled_not_done)
value_again status.Done on frame_value value done other = done refl
value_again status.Faulted on frame_value value done other = sym (other faulted_not_done)

-- Who is an unjoined child.

or_left : (a b : Bool) → a ≡ true → a || b ≡ true
or_left true b is = refl
or_left false b is = absurd (cc (is))

or_right : (a b : Bool) → b ≡ true → a || b ≡ true
or_right true b is = refl
or_right false b is = is

or_cases : (a b : Bool) → a || b ≡ true → (a ≡ true) ⊎ (b ≡ true)
or_cases true b is = inl refl
or_cases false b is = inr is

unjoined_of : (rows : List TaskRow) (t c : ℕ) (row : TaskRow) → slice_get rows t ≡ Some row → has_child c (slot_of row) ≡ true → is_unjoined c (map slot_of rows) ≡ true
unjoined_of [] t c row is has = absurd (cc (is))
unjoined_of (r ∷ rows) zero c row is has =
    let same : r ≡ row = cc in
    or_left (has_child c (slot_of r)) (is_unjoined c (map slot_of rows)) (ap (λ (x : TaskRow). has_child c (slot_of x)) same ∙ has)
unjoined_of (r ∷ rows) (suc t) c row is has = or_right (has_child c (slot_of r)) (is_unjoined c (map slot_of rows)) (unjoined_of rows t c row is has)

-- some task has it
pub record HasIt (rows : List TaskRow) (c : ℕ) : Type 0 where
  pub task : ℕ
  pub row : TaskRow
  pub there : slice_get rows task ≡ Some row
  pub has : has_child c (slot_of row) ≡ true

of_unjoined : (rows : List TaskRow) (c : ℕ) → is_unjoined c (map slot_of rows) ≡ true → HasIt rows c
of_unjoined [] c is = absurd (cc (is))
of_unjoined (r ∷ rows) c is =
    elim (or_cases (has_child c (slot_of r)) (is_unjoined c (map slot_of rows)) is) [
      | inl first ↦ record { task = 0; row = r; there = refl; has = first }
      | inr later ↦ let rest = of_unjoined rows c later in record { task = suc rest.task; row = rest.row; there = rest.there; has = rest.has }
    ]

child_in : (out : List ℕ) (c : ℕ) → IsIn c out → list_any (λ (k : ℕ). k == c) out ≡ true
child_in out c there = by (list_any (λ (k : ℕ). k == c) out) refl
  where
    by : (b : Bool) → list_any (λ (k : ℕ). k == c) out ≡ b → list_any (λ (k : ℕ). k == c) out ≡ true
    by true is = is
    by false is = absurd (none_in out c is there)

module _ (p : Program) (lim : Bounds) (well : IsWellFormed p) (st : State) (reached : IsReached p lim st) where
  stands : Stands p lim st
  stands = reached_stands p lim st well reached

  out_is : (t : ℕ) (row : TaskRow) → IsRow st t row → row.out ≡ row.frame.out.items
  out_is t row there = (stands.rows t row there).out

  -- an unjoined child of some task was not joined
  not_joined : (c : ℕ) (row : TaskRow) → IsRow st c row → is_unjoined c (map slot_of st.tasks) ≡ true → row.joined ≡ false
  not_joined c row there is =
      let by = of_unjoined st.tasks c is in
      let listed : IsIn c by.row.out = subst (IsIn c) (sym (out_is by.task by.row by.there)) (any_in by.row.frame.out.items c by.has) in
      let child : IsChild st.tasks by.task c = (stands.children by.task by.row by.there c).0 (in_contains by.row.out c listed) in
      ap (λ (x : TaskRow). x.joined) (got_one (slice_get st.tasks c) there child.there) ∙ child.unjoined

  -- a child that was not joined is an unjoined child of its parent
  unjoined : (c q : ℕ) (row : TaskRow) → IsRow st c row → row.parent ≡ Some q → row.joined ≡ false → is_unjoined c (map slot_of st.tasks) ≡ true
  unjoined c q row there parent not =
      let below : q < c = (stands.rows c row there).parent q parent in
      let within = slice_get_within st.tasks c row there in
      let by = below_there st.tasks q (omega (arith, below, within)) in
      let child : IsChild st.tasks q c = record { row = row; there = there; parent = parent; unjoined = not } in
      let listed : IsIn c by.0.frame.out.items = subst (IsIn c) (out_is q by.0 by.1) (contains_in by.0.out c ((stands.children q by.0 by.1 c).1 child)) in
      unjoined_of st.tasks q c by.0 by.1 (child_in by.0.frame.out.items c listed)

  joined_by : (c q : ℕ) (row : TaskRow) → IsRow st c row → row.parent ≡ Some q → (b mark : Bool) → is_unjoined c (map slot_of st.tasks) ≡ b → row.joined ≡ mark
      → mark ≡ cond {A = Bool} b false true
  joined_by c q row there parent true mark is has = sym has ∙ not_joined c row there is
  joined_by c q row there parent false true is has = refl
  joined_by c q row there parent false false is has = absurd (cc (unjoined c q row there parent has, is))

  pub joined_shown : (c : ℕ) (row : TaskRow) → IsRow st c row → row.joined ≡ is_joined c row.parent (map slot_of st.tasks)
  joined_shown c row there = by row.parent refl
    where
      by : (parent : Option ℕ) → row.parent ≡ parent → row.joined ≡ is_joined c parent (map slot_of st.tasks)
      by None is = (reached_plain p lim well st reached c row there).joined is
      by (Some q) is = joined_by c q row there is (is_unjoined c (map slot_of st.tasks)) row.joined refl refl

  pub row_shown : (t : ℕ) (row : TaskRow) → IsRow st t row → row ≡ row_by (slot_of row) (phase_of row) (is_joined t row.parent (map slot_of st.tasks))
  row_shown t row there =
      let joined = joined_shown t row there in
      let out = out_is t row there in
      let status_is = sym (status_again row.status (row_awaited row.frame.next)) in
      let value =
      sym (value_again row.status (row_awaited row.frame.next) row.frame.value row.value (λ done. reached_has p lim well st reached t row there done) (reached_plain p lim well st reached t row there).value) in
      λ i. record {
        decl = row.decl;
        args = row.args;
        effects = row.effects;
        frame = row.frame;
        parent = row.parent;
        joined = joined i;
        out = out i;
        status = status_is i;
        value = value i;
      }
