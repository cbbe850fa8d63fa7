-- Rows in which the unjoined children of one task are still to be noted: a task is made, and the row of the one is set.
use Rattle.std.proofs.Common.{◌≡◌, ◌≢◌, ◌⊎◌, ◌<◌, ℕ, Bool, true, false, List, [], ◌∷◌, ◌++◌, length, Some, inl, inr, refl, sym, ap, ◌∙◌, subst, arith}
use Rattle.std.specs.Prelude.{slice_get, slice_set}
use Rattle.std.proofs.lemmas.Bool.{cases_eq}
use Rattle.std.proofs.lemmas.Option.{slice_get_within}
use Rattle.twe_base.specs.Limits.{Bounds}
use Rattle.twe_program.specs.Program.{Program}
use Rattle.machine_state.specs.declared.state.TaskRow.{TaskRow}
use Rattle.machine_state.specs.Moves.{parent_of, out_with}
use Rattle.machine_state.proofs.standing.Joining.{ChildrenAre}
use Rattle.machine_state.proofs.standing.Later.{AllStand, IsSameTask, set_stand, put_stand}
use Rattle.machine_state.proofs.lists.Members.{IsIn, in_put, put_in, put_in_cases}
use Rattle.machine_state.proofs.lists.Places.{got_one, set_same, set_other, set_cases, put_before, put_last, put_cases}
use Rattle.machine_state.proofs.standing.Standing.{IsChild, RowStands}

-- the rows stand, and but for t, whose unjoined children are these now, each lists its unjoined children
pub record Almost (p : Program) (lim : Bounds) (rows : List TaskRow) (t : ℕ) (row : TaskRow) (out : List ℕ) : Type 0 where
  pub stand : AllStand p lim rows
  pub own : slice_get rows t ≡ Some row
  pub children : (s : ℕ) (a : TaskRow) → s ≢ t → slice_get rows s ≡ Some a → ChildrenAre rows s a.out
  pub own_children : ChildrenAre rows t out

-- the rows stand, and each lists its unjoined children
pub record AllSettled (p : Program) (lim : Bounds) (rows : List TaskRow) : Type 0 where
  pub stand : AllStand p lim rows
  pub children : (s : ℕ) (a : TaskRow) → slice_get rows s ≡ Some a → ChildrenAre rows s a.out

-- The row of t is set.

module _ (rows : List TaskRow) (t : ℕ) (row new : TaskRow) (own : slice_get rows t ≡ Some row) (parent : new.parent ≡ row.parent) (joined : new.joined ≡ row.joined) where
  set_child : (s c : ℕ) → IsChild rows s c → IsChild (slice_set rows t new) s c
  set_child s c child =
      elim (cases_eq c t) [
        | inl is ↦
            let same : row ≡ child.row = got_one (slice_get rows t) own (subst (λ (n : ℕ). slice_get rows n ≡ Some child.row) is child.there) in
            record {
              row = new;
              there = subst (λ (n : ℕ). slice_get (slice_set rows t new) n ≡ Some new) (sym is) (set_same rows t row new own);
              parent = parent ∙ (ap (λ (r : TaskRow). r.parent) same ∙ child.parent);
              unjoined = joined ∙ (ap (λ (r : TaskRow). r.joined) same ∙ child.unjoined);
            }
        | inr ne ↦ record { row = child.row; there = set_other rows t c new ne ∙ child.there; parent = child.parent; unjoined = child.unjoined }
      ]

  set_child_back : (s c : ℕ) → IsChild (slice_set rows t new) s c → IsChild rows s c
  set_child_back s c child =
      elim (set_cases rows t c new child.row child.there) [
        | inl is ↦ record {
          row = row;
          there = subst (λ (n : ℕ). slice_get rows n ≡ Some row) (sym is.0) own;
          parent = sym parent ∙ (ap (λ (r : TaskRow). r.parent) is.1 ∙ child.parent);
          unjoined = sym joined ∙ (ap (λ (r : TaskRow). r.joined) is.1 ∙ child.unjoined);
        }
        | inr other ↦ record { row = child.row; there = other.1; parent = child.parent; unjoined = child.unjoined }
      ]

  set_children : (s : ℕ) (out : List ℕ) → ChildrenAre rows s out → ChildrenAre (slice_set rows t new) s out
  set_children s out are c = (λ h. set_child s c ((are c).0 h), λ child. (are c).1 (set_child_back s c child))

pub set_settled : (p : Program) (lim : Bounds) (rows : List TaskRow) (t : ℕ) (row new : TaskRow) (out : List ℕ) → Almost p lim rows t row out
    → IsSameTask row new → new.joined ≡ row.joined → new.out ≡ out → RowStands p lim rows t new → AllSettled p lim (slice_set rows t new)
set_settled p lim rows t row new out almost same joined lists stands = record {
  stand = set_stand p lim rows t row new almost.own same almost.stand stands;
  children = λ s a here. elim (set_cases rows t s new a here) [
    | inl is ↦
        let are : ChildrenAre rows t a.out = subst (ChildrenAre rows t) (sym lists ∙ ap (λ (r : TaskRow). r.out) is.1) almost.own_children in
        subst (λ (n : ℕ). ChildrenAre (slice_set rows t new) n a.out) (sym is.0) (set_children rows t row new almost.own same.parent joined t a.out are)
    | inr other ↦ set_children rows t row new almost.own same.parent joined s a.out (almost.children s a other.0 other.1)
  ];
}

-- A task is made by t.

module _ (p : Program) (lim : Bounds) (rows : List TaskRow) (t : ℕ) (row : TaskRow) (out : List ℕ) (almost : Almost p lim rows t row out)
    (new : TaskRow) (spawned : Bool) (parent : new.parent ≡ parent_of t spawned) (fresh : new.joined ≡ false) (none : new.out ≡ []) where
  put_child : (s c : ℕ) → IsChild rows s c → IsChild (rows ++ new ∷ []) s c
  put_child s c child = record { row = child.row; there = put_before rows new c child.row child.there; parent = child.parent; unjoined = child.unjoined }

  -- a child was one before, or is the new task
  put_child_back : (s c : ℕ) → IsChild (rows ++ new ∷ []) s c → IsChild rows s c ⊎ ((c ≡ length rows) × (new.parent ≡ Some s))
  put_child_back s c child =
      elim (put_cases rows new c child.row child.there) [
        | inl before ↦ inl (record { row = child.row; there = before; parent = child.parent; unjoined = child.unjoined })
        | inr last ↦ inr (last.0, ap (λ (r : TaskRow). r.parent) last.1 ∙ child.parent)
      ]

  -- it has no other parent than t
  only_parent : (b : Bool) (s : ℕ) → parent_of t b ≡ Some s → (b ≡ true) × (s ≡ t)
  only_parent true s e = (refl, cc)
  only_parent false s e = absurd (cc)

  parent_is : (s : ℕ) → new.parent ≡ Some s → (spawned ≡ true) × (s ≡ t)
  parent_is s e = only_parent spawned s (sym parent ∙ e)

  other_children : (s : ℕ) (a : TaskRow) → s ≢ t → slice_get (rows ++ new ∷ []) s ≡ Some a → ChildrenAre (rows ++ new ∷ []) s a.out
  other_children s a ne here c =
      elim (put_cases rows new s a here) [
        | inl before ↦ (
          λ h. put_child s c ((almost.children s a ne before c).0 h),
          λ child. elim (put_child_back s c child) [ inl old ↦ (almost.children s a ne before c).1 old | inr last ↦ absurd (ne (parent_is s last.1).1) ],
        )
        | inr last ↦
            let empty : a.out ≡ [] = ap (λ (r : TaskRow). r.out) (sym last.1) ∙ none in (
              λ h. absurd (subst (IsIn c) empty h),
              λ child. elim (put_child_back s c child) [
                | inl old ↦
                    let above : s < c = (almost.stand c old.row old.there).parent s old.parent in
                    let below : c < length rows = slice_get_within rows c old.row old.there in
                    let at : s ≡ length rows = last.0 in absurd (omega arith)
                | inr made ↦ absurd (ne (parent_is s made.1).1)
              ],
            )
      ]

  new_child : spawned ≡ true → IsChild (rows ++ new ∷ []) t (length rows)
  new_child is = record { row = new; there = put_last rows new (length rows) refl; parent = parent ∙ ap (parent_of t) is; unjoined = fresh }

  own_children_by : (b : Bool) → spawned ≡ b → ChildrenAre (rows ++ new ∷ []) t (out_with b (length rows) out)
  own_children_by true is c = (
    λ h. elim (put_in_cases out (length rows) c h) [
      | inl before ↦ put_child t c ((almost.own_children c).0 before)
      | inr last ↦ subst (IsChild (rows ++ new ∷ []) t) (sym last) (new_child is)
    ],
    λ child. elim (put_child_back t c child) [
      | inl old ↦ in_put out (length rows) c ((almost.own_children c).1 old)
      | inr last ↦ subst (λ (n : ℕ). IsIn n (out ++ length rows ∷ [])) (sym last.0) (put_in out (length rows))
    ],
  )
  own_children_by false is c = (
    λ h. put_child t c ((almost.own_children c).0 h),
    λ child. elim (put_child_back t c child) [
      | inl old ↦ (almost.own_children c).1 old
      | inr last ↦ absurd (cc (is, (parent_is t last.1).0))
    ],
  )

  pub put_almost : RowStands p lim (rows ++ new ∷ []) (length rows) new → Almost p lim (rows ++ new ∷ []) t row (out_with spawned (length rows) out)
  put_almost stands = record {
    stand = put_stand p lim rows new almost.stand stands;
    own = put_before rows new t row almost.own;
    children = other_children;
    own_children = own_children_by spawned refl;
  }
