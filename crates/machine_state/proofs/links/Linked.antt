-- In each state that a run of any program comes to the links are those that the rows say.
use Rattle.std.proofs.Common.{◌≡◌, ◌≢◌, ◌+◌, ◌<◌, ℕ, zero, suc, Bool, true, false, cond, List, [], ◌∷◌, length, map, Option, None, Some, inl, inr, refl, sym, ap, ◌∙◌, subst, length-set}
use Rattle.std.specs.Prelude.{slice_get, slice_set}
use Rattle.std.specs.List.{list_any}
use Rattle.twe_base.specs.Limits.{Bounds}
use Rattle.wait_graph.specs.declared.tasks.Link.{Link}
use Rattle.wait_graph.specs.Link.{link_of, new_link, with_wait, with_joined, with_done}
use Rattle.machine_state.specs.declared.state.State.{State}
use Rattle.machine_state.specs.declared.state.TaskRow.{TaskRow}
use Rattle.machine_state.specs.Moves.{state_after_join, joined_child, joined_row, joined_rows}
use Rattle.machine_state.specs.Rows.{link_of_row, LinksAgree}
use Rattle.machine_state.proofs.lists.Members.{IsIn, any_in}
use Rattle.machine_state.proofs.lists.Places.{set_other, set_cases, map_set, map_index}

-- the unjoined children of a row are those of its frame, and were made after its task
pub record OutUp (t : ℕ) (row : TaskRow) : Type 0 where
  pub same : row.out ≡ row.frame.out.items
  pub up : (c : ℕ) → IsIn c row.out → t < c

pub record Linked (lim : Bounds) (st : State) : Type 0 where
  pub links : LinksAgree st
  pub number : st.asked + 1 < lim.tasks → st.asked + 1 ≡ length st.tasks
  pub outs : (t : ℕ) (row : TaskRow) → slice_get st.tasks t ≡ Some row → OutUp t row

-- The links once a row was set.

pub link_at : (rows : List TaskRow) (t : ℕ) (row : TaskRow) → slice_get rows t ≡ Some row → link_of (map link_of_row rows) t ≡ link_of_row row
link_at rows t row found = map_index link_of_row rows t row (new_link None) found

set_past : {A B : Type 0} (f : A → B) (xs : List A) (t : ℕ) (y : B) → slice_get xs t ≡ None → slice_set (map f xs) t y ≡ map f xs
set_past f [] t y e = refl
set_past f (x ∷ xs) zero y e = absurd (cc)
set_past f (x ∷ xs) (suc t) y e = ap (λ zs. f x ∷ zs) (set_past f xs t y e)

pub set_twice : {A : Type 0} (xs : List A) (t : ℕ) (y z : A) → slice_set (slice_set xs t y) t z ≡ slice_set xs t z
set_twice [] t y z = refl
set_twice (x ∷ xs) zero y z = refl
set_twice (x ∷ xs) (suc t) y z = ap (λ ws. x ∷ ws) (set_twice xs t y z)

pub waiting_links : (rows : List TaskRow) (t : ℕ) (row new : TaskRow) (on : Option ℕ) → slice_get rows t ≡ Some row → link_of_row new ≡ record (link_of_row row) { waits = on }
    → with_wait (map link_of_row rows) t on ≡ map link_of_row (slice_set rows t new)
waiting_links rows t row new on found same =
    ap (λ (l : Link). slice_set (map link_of_row rows) t (record l { waits = on })) (link_at rows t row found)
    ∙ (ap (λ (l : Link). slice_set (map link_of_row rows) t l) (sym same) ∙ sym (map_set link_of_row rows t new))

pub done_links : (rows : List TaskRow) (t : ℕ) (row new : TaskRow) → slice_get rows t ≡ Some row → link_of_row new ≡ record (link_of_row row) { done = true }
    → with_done (map link_of_row rows) t ≡ map link_of_row (slice_set rows t new)
done_links rows t row new found same =
    ap (λ (l : Link). slice_set (map link_of_row rows) t (record l { done = true })) (link_at rows t row found)
    ∙ (ap (λ (l : Link). slice_set (map link_of_row rows) t l) (sym same) ∙ sym (map_set link_of_row rows t new))

joined_links : (rows : List TaskRow) (c : ℕ) (found : Option TaskRow) → slice_get rows c ≡ found → with_joined (map link_of_row rows) c ≡ map link_of_row (joined_rows rows c found)
joined_links rows c None e = set_past link_of_row rows c _ e
joined_links rows c (Some row) e =
    ap (λ (l : Link). slice_set (map link_of_row rows) c (record l { joined = true })) (link_at rows c row e) ∙ sym (map_set link_of_row rows c (joined_row row))

-- The taking of a join.

joined_outs : (rows : List TaskRow) (c : ℕ) (found : Option TaskRow) → slice_get rows c ≡ found → ((t : ℕ) (row : TaskRow) → slice_get rows t ≡ Some row → OutUp t row)
    → (t : ℕ) (row : TaskRow) → slice_get (joined_rows rows c found) t ≡ Some row → OutUp t row
joined_outs rows c None e outs t row here = outs t row here
joined_outs rows c (Some old) e outs t row here =
    elim (set_cases rows c t (joined_row old) row here) [
      | inl own ↦
          let was = outs c old e in
          let up : OutUp c (joined_row old) = record { same = was.same; up = was.up } in
          subst (λ (n : ℕ). OutUp n row) (sym own.0) (subst (OutUp c) own.1 up)
      | inr other ↦ outs t row other.1
    ]

length_joined : (rows : List TaskRow) (c : ℕ) (found : Option TaskRow) → length (joined_rows rows c found) ≡ length rows
length_joined rows c None = refl
length_joined rows c (Some row) = length-set rows c (joined_row row)

pub joined_linked : (lim : Bounds) (st : State) (child : Option ℕ) → Linked lim st → Linked lim (state_after_join st child)
joined_linked lim st None linked = linked
joined_linked lim st (Some c) linked = record {
  links = ap (λ (l : List Link). with_joined l c) linked.links ∙ joined_links st.tasks c (slice_get st.tasks c) refl;
  number = λ few. linked.number few ∙ sym (length_joined st.tasks c (slice_get st.tasks c));
  outs = joined_outs st.tasks c (slice_get st.tasks c) refl linked.outs;
}

pub joined_other : (rows : List TaskRow) (c t : ℕ) (found : Option TaskRow) → t ≢ c → slice_get (joined_rows rows c found) t ≡ slice_get rows t
joined_other rows c t None ne = refl
joined_other rows c t (Some row) ne = set_other rows c t (joined_row row) ne

child_in_by : (out : List ℕ) (on : ℕ) (b : Bool) → list_any (λ (k : ℕ). Rattle.std.specs.Prelude.nat_eq k on) out ≡ b → (c : ℕ) → cond b (Some on) None ≡ Some c → IsIn c out
child_in_by out on true is c e = let same : on ≡ c = cc in subst (λ (n : ℕ). IsIn n out) same (any_in out on is)
child_in_by out on false is c e = absurd (cc)

-- a child whose join is taken is an unjoined one
pub child_in : (out : List ℕ) (waits : Option ℕ) (c : ℕ) → joined_child out waits ≡ Some c → IsIn c out
child_in out None c e = absurd (cc)
child_in out (Some on) c e = child_in_by out on (list_any (λ (k : ℕ). Rattle.std.specs.Prelude.nat_eq k on) out) refl c e

-- and not the task itself, whose row stays
pub joined_keeps : (st : State) (t : ℕ) (row : TaskRow) (child : Option ℕ) → slice_get st.tasks t ≡ Some row → ((c : ℕ) → child ≡ Some c → t ≢ c) → slice_get (state_after_join st child).tasks t ≡ Some row
joined_keeps st t row None found ne = found
joined_keeps st t row (Some c) found ne = joined_other st.tasks c t (slice_get st.tasks c) (ne c refl) ∙ found
