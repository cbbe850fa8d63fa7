-- How many tasks there are, were asked for and have met a fault, and the first fault.
use Rattle.std.proofs.Common.{◌≡◌, ◌≢◌, ◌≤◌, ◌<◌, ◌+◌, ℕ, Bool, false, cond, List, [], ◌∷◌, ◌++◌, length, Option, None, Some, inl, inr, refl, sym, ap, ◌∙◌, subst, arith, length-set, length-append}
use Rattle.std.specs.Prelude.{slice_get, slice_set}
use Rattle.std.specs.List.{count_by}
use Rattle.std.specs.Option.{ForSome}
use Rattle.twe_base.specs.declared.place.Place.{Place}
use Rattle.twe_base.specs.declared.fault.FaultKind.{FaultKind}
use Rattle.twe_base.specs.Limits.{Bounds}
use Rattle.machine_state.specs.declared.state.FirstFault.{FirstFault}
use Rattle.machine_state.specs.declared.state.TaskRow.{TaskRow}
use Rattle.machine_state.specs.declared.state.TaskStatus.{TaskStatus}
use Rattle.machine_state.specs.declared.state.TaskStatus.TheVariants.{Made, Enabled, Done, Faulted}
use Rattle.machine_state.specs.Moves.{first_fault_of}
use Rattle.machine_state.proofs.lists.Places.{got_one, set_same, set_other, set_cases, put_before, put_cases, count_set, count_put}
use Rattle.machine_state.proofs.standing.Standing.{is_faulted_status, is_faulted_row}

abbrev pub StatusAt : List TaskRow → ℕ → TaskStatus → Type 0
StatusAt rows t status = (row : TaskRow) × (slice_get rows t ≡ Some row) × (row.status ≡ status)

pub record Counts (lim : Bounds) (rows : List TaskRow) (asked : ℕ) (first : Option FirstFault) : Type 0 where
  pub some : 0 < length rows
  pub limit : 1 ≤ lim.tasks → length rows ≤ lim.tasks
  pub few : asked + 1 ≤ length rows + count_by is_faulted_row rows
  pub fault : ForSome first (λ fault. StatusAt rows fault.task Faulted)
  pub no_fault : first ≡ None → (t : ℕ) → ¬ StatusAt rows t Faulted

-- rows with the same statuses
pub same_counts : (lim : Bounds) (rows after : List TaskRow) (asked : ℕ) (first : Option FirstFault) → length after ≡ length rows
    → count_by is_faulted_row after ≡ count_by is_faulted_row rows
    → ((u : ℕ) (a : TaskRow) → slice_get after u ≡ Some a → (b : TaskRow) × (slice_get rows u ≡ Some b) × (a.status ≡ b.status))
    → ((u : ℕ) (b : TaskRow) → slice_get rows u ≡ Some b → (a : TaskRow) × (slice_get after u ≡ Some a) × (a.status ≡ b.status))
    → Counts lim rows asked first → Counts lim after asked first
same_counts lim rows after asked first as_many faulted status back counts = record {
  some = omega (arith, as_many, counts.some);
  limit = λ one. omega (arith, as_many, counts.limit one);
  few = omega (arith, as_many, faulted, counts.few);
  fault = λ fault is. let was = counts.fault fault is in let now = back fault.task was.0 was.1 in (now.0, now.1, now.2 ∙ was.2);
  no_fault = λ none t has. let was = status t has.0 has.1 in counts.no_fault none t (was.0, was.1, sym was.2 ∙ has.2);
}

not_faulted : (status : TaskStatus) → status ≢ Faulted → is_faulted_status status ≡ false
not_faulted Made ne = refl
not_faulted Enabled ne = refl
not_faulted Done ne = refl
not_faulted Faulted ne = absurd (ne refl)

module _ (lim : Bounds) (rows : List TaskRow) (asked : ℕ) (first : Option FirstFault) (counts : Counts lim rows asked first) where
  module _ (t : ℕ) (row new : TaskRow) (found : slice_get rows t ≡ Some row) (was : row.status ≢ Faulted) where
    old_count : cond {A = ℕ} (is_faulted_row row) 1 0 ≡ 0
    old_count = ap (λ (b : Bool). cond {A = ℕ} b 1 0) (not_faulted row.status was)

    -- who had met a fault has met one
    still : (u : ℕ) → StatusAt rows u Faulted → StatusAt (slice_set rows t new) u Faulted
    still u (r, here, is) =
        let ne : u ≢ t = λ same. was (ap (λ (x : TaskRow). x.status) (got_one (slice_get rows t) found (subst (λ (n : ℕ). slice_get rows n ≡ Some r) same here)) ∙ is) in
        (r, set_other rows t u new ne ∙ here, is)

    -- the row of a task that has met none is set to one of a task that has met none
    pub set_counts : new.status ≢ Faulted → Counts lim (slice_set rows t new) asked first
    set_counts is =
        let new_count : cond {A = ℕ} (is_faulted_row new) 1 0 ≡ 0 = ap (λ (b : Bool). cond {A = ℕ} b 1 0) (not_faulted new.status is) in
        record {
          some = omega (arith, length-set rows t new, counts.some);
          limit = λ one. omega (arith, length-set rows t new, counts.limit one);
          few = omega (arith, length-set rows t new, count_set is_faulted_row rows t row new found, old_count, new_count, counts.few);
          fault = λ fault some. still fault.task (counts.fault fault some);
          no_fault = λ none u has. elim (set_cases rows t u new has.0 has.1) [
            | inl own ↦ is (ap (λ (x : TaskRow). x.status) own.1 ∙ has.2)
            | inr other ↦ counts.no_fault none u (has.0, other.1, has.2)
          ];
        }

    first_is : (earlier : Option FirstFault) → earlier ≡ first → (kind : FaultKind) (place : Place) → new.status ≡ Faulted
        → ForSome (first_fault_of earlier t kind place) (λ fault. StatusAt (slice_set rows t new) fault.task Faulted)
    first_is (Some fault) e kind place is other some =
        let same : fault ≡ other = cc in still other.task (counts.fault other (sym e ∙ ap Some same))
    first_is None e kind place is other some =
        let task : t ≡ other.task = cc in subst (λ (n : ℕ). StatusAt (slice_set rows t new) n Faulted) task (new, set_same rows t row new found, is)

    noted : (earlier : Option FirstFault) (kind : FaultKind) (place : Place) → first_fault_of earlier t kind place ≢ None
    noted (Some fault) kind place none = cc
    noted None kind place none = cc

    -- the task meets a fault, and has asked for one more task at most
    pub fault_counts : new.status ≡ Faulted → (later : ℕ) → later ≤ asked + 1 → (kind : FaultKind) (place : Place)
        → Counts lim (slice_set rows t new) later (first_fault_of first t kind place)
    fault_counts is later one_more kind place =
        let new_count : cond {A = ℕ} (is_faulted_row new) 1 0 ≡ 1 = ap (λ (s : TaskStatus). cond {A = ℕ} (is_faulted_status s) 1 0) is in
        record {
          some = omega (arith, length-set rows t new, counts.some);
          limit = λ one. omega (arith, length-set rows t new, counts.limit one);
          few = omega (arith, length-set rows t new, count_set is_faulted_row rows t row new found, old_count, new_count, counts.few);
          fault = first_is first refl kind place is;
          no_fault = λ none. absurd (noted first kind place none);
        }

  -- one more task is made
  pub put_counts : (new : TaskRow) → new.status ≢ Faulted → length rows + 1 ≤ lim.tasks → Counts lim (rows ++ new ∷ []) (asked + 1) first
  put_counts new is room =
      let new_count : cond {A = ℕ} (is_faulted_row new) 1 0 ≡ 0 = ap (λ (b : Bool). cond {A = ℕ} b 1 0) (not_faulted new.status is) in
      record {
        some = omega (arith, length-append rows (new ∷ []));
        limit = λ one. omega (arith, length-append rows (new ∷ []));
        few = omega (arith, length-append rows (new ∷ []), count_put is_faulted_row rows new, new_count, counts.few);
        fault = λ fault some. let was = counts.fault fault some in (was.0, put_before rows new fault.task was.0 was.1, was.2);
        no_fault = λ none u has. elim (put_cases rows new u has.0 has.1) [
          | inl before ↦ counts.no_fault none u (has.0, before, has.2)
          | inr last ↦ is (ap (λ (x : TaskRow). x.status) last.1 ∙ has.2)
        ];
      }
