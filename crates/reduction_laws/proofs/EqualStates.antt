-- Two reached states with the same rows, cells, prints, count and first fault are one state.
use Rattle.std.proofs.Common.{◌≡◌, ℕ, suc, List, [], ◌∷◌, length, map, Some, refl, sym, ap, ◌∙◌, arith}
use Rattle.std.specs.Prelude.{slice_get}
use Rattle.twe_base.specs.Limits.{Bounds}
use Rattle.twe_program.specs.Program.{Program}
use Rattle.twe_program.specs.WellFormed.{IsWellFormed}
use Rattle.machine_state.specs.declared.state.State.{State}
use Rattle.machine_state.specs.declared.state.TaskRow.{TaskRow}
use Rattle.machine_state.specs.Rows.{IsRow, link_of_row}
use Rattle.machine_state.specs.Runs.{IsReached}
use Rattle.machine_state.proofs.standing.ReachedStands.{reached_stands}

none_first : {A : Type 0} (y : A) (ys : List A) (n : ℕ) → n ≡ 0 → n ≡ length (y ∷ ys) → ⊥
none_first y ys n none same = omega (arith, none, same)

pub same_rows : {A : Type 0} (xs ys : List A) → length xs ≡ length ys → ((u : ℕ) (r : A) → slice_get xs u ≡ Some r → slice_get ys u ≡ Some r) → xs ≡ ys
same_rows [] [] same rows = refl
same_rows [] (y ∷ ys) same rows = absurd (none_first y ys 0 refl same)
same_rows (x ∷ xs) [] same rows = absurd (none_first x xs 0 refl (sym same))
same_rows (x ∷ xs) (y ∷ ys) same rows =
    let head : Some y ≡ Some x = rows 0 x refl in
    let equal : x ≡ y = cc (head) in
    let rest : xs ≡ ys = same_rows xs ys (omega (arith, same)) (λ u r at. rows (suc u) r at) in
    λ i. equal i ∷ rest i

-- The rows of the second state are those of the first, and so are the results.
pub record HasSame (a b : State) : Type 0 where
  pub rows : (u : ℕ) (r : TaskRow) → IsRow a u r → IsRow b u r
  pub count : length a.tasks ≡ length b.tasks
  pub cells : a.cells ≡ b.cells
  pub prints : a.prints ≡ b.prints
  pub asked : a.asked ≡ b.asked
  pub first_fault : a.first_fault ≡ b.first_fault

pub same_state : (p : Program) → IsWellFormed p → (lim : Bounds) (a b : State) → IsReached p lim a → IsReached p lim b → HasSame a b → a ≡ b
same_state p wf lim a b reached_a reached_b same =
    let tasks : a.tasks ≡ b.tasks = same_rows a.tasks b.tasks same.count same.rows in
    let links : a.links ≡ b.links =
    (reached_stands p lim a wf reached_a).links ∙ (ap (λ (rows : List TaskRow). map link_of_row rows) tasks ∙ sym (reached_stands p lim b wf reached_b).links) in
    λ i. record {
      cells = same.cells i;
      tasks = tasks i;
      links = links i;
      prints = same.prints i;
      asked = same.asked i;
      first_fault = same.first_fault i;
    }
