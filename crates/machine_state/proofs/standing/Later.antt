-- Rows later in a run: a task keeps its declaration, its arguments, its effects and its parent, and what was said of the
-- rows holds of later ones.
use Rattle.std.proofs.Common.{◌≡◌, ◌≤◌, ℕ, List, [], ◌∷◌, ◌++◌, length, Option, None, Some, inl, inr, refl, sym, ap, ◌∙◌, subst, arith, length-set, length-append}
use Rattle.std.specs.Prelude.{slice_get, slice_set}
use Rattle.std.proofs.lemmas.Bool.{cases_eq}
use Rattle.twe_base.specs.Limits.{Bounds}
use Rattle.twe_program.specs.Program.{Program}
use Rattle.seg_meaning.specs.declared.frame.Frame.{Frame}
use Rattle.machine_state.specs.declared.state.TaskRow.{TaskRow}
use Rattle.machine_state.proofs.lists.Places.{got_one, set_same, set_other, set_cases, put_before, put_cases}
use Rattle.machine_state.proofs.standing.Standing.{IsMadeAfter, StandsFor, FrameStands, RowStands}

-- the row of a task is of the same declaration, with the same arguments, effects and parent, and stands at its number
pub record IsKept (rows : List TaskRow) (u : ℕ) (row : TaskRow) : Type 0 where
  pub now : TaskRow
  pub there : slice_get rows u ≡ Some now
  pub decl : now.decl ≡ row.decl
  pub args : now.args ≡ row.args
  pub effects : now.effects ≡ row.effects
  pub parent : now.parent ≡ row.parent

pub record Later (rows later : List TaskRow) : Type 0 where
  pub longer : length rows ≤ length later
  pub kept : (u : ℕ) (row : TaskRow) → slice_get rows u ≡ Some row → IsKept later u row

pub later_itself : (rows : List TaskRow) → Later rows rows
later_itself rows = record {
  longer = omega arith;
  kept = λ u row here. record { now = row; there = here; decl = refl; args = refl; effects = refl; parent = refl };
}

pub later_then : (rows between later : List TaskRow) → Later rows between → Later between later → Later rows later
later_then rows between later one two = record {
  longer = omega (arith, one.longer, two.longer);
  kept = λ u row here.
      let k = one.kept u row here in
      let l = two.kept u k.now k.there in
      record { now = l.now; there = l.there; decl = l.decl ∙ k.decl; args = l.args ∙ k.args; effects = l.effects ∙ k.effects; parent = l.parent ∙ k.parent };
}

-- the new row is of the same task
pub record IsSameTask (row new : TaskRow) : Type 0 where
  pub decl : new.decl ≡ row.decl
  pub args : new.args ≡ row.args
  pub effects : new.effects ≡ row.effects
  pub parent : new.parent ≡ row.parent

pub later_set : (rows : List TaskRow) (t : ℕ) (row new : TaskRow) → slice_get rows t ≡ Some row → IsSameTask row new → Later rows (slice_set rows t new)
later_set rows t row new found same = record {
  longer = omega (arith, length-set rows t new);
  kept = λ u old here. elim (cases_eq u t) [
    | inl is ↦
        let there : slice_get rows t ≡ Some old = subst (λ (n : ℕ). slice_get rows n ≡ Some old) is here in
        let one : row ≡ old = got_one (slice_get rows t) found there in
        record {
          now = new;
          there = subst (λ (n : ℕ). slice_get (slice_set rows t new) n ≡ Some new) (sym is) (set_same rows t row new found);
          decl = same.decl ∙ ap (λ (r : TaskRow). r.decl) one;
          args = same.args ∙ ap (λ (r : TaskRow). r.args) one;
          effects = same.effects ∙ ap (λ (r : TaskRow). r.effects) one;
          parent = same.parent ∙ ap (λ (r : TaskRow). r.parent) one;
        }
    | inr ne ↦ record { now = old; there = set_other rows t u new ne ∙ here; decl = refl; args = refl; effects = refl; parent = refl }
  ];
}

pub later_put : (rows : List TaskRow) (new : TaskRow) → Later rows (rows ++ new ∷ [])
later_put rows new = record {
  longer = omega (arith, length-append rows (new ∷ []));
  kept = λ u row here. record { now = row; there = put_before rows new u row here; decl = refl; args = refl; effects = refl; parent = refl };
}

-- What was said of rows holds of later ones.

abbrev pub made_later : (rows later : List TaskRow) (t : ℕ) (parent : Option ℕ) (u : ℕ) → Later rows later → IsMadeAfter rows t parent u → IsMadeAfter later t parent u
made_later rows later t parent u lt made =
    let k = lt.kept u made.row made.there in
    record { row = k.now; there = k.there; above = made.above; below = omega (arith, made.below, lt.longer); parent_is = k.parent ∙ made.parent_is }

pub stands_later : (p : Program) (rows later : List TaskRow) (t decl f u : ℕ) → Later rows later → StandsFor p rows t decl f u → StandsFor p later t decl f u
stands_later p rows later t decl f u lt stands = record {
  declared = stands.declared;
  found = stands.found;
  made = made_later rows later t _ u lt stands.made;
  task = (lt.kept u stands.made.row stands.made.there).decl ∙ stands.task;
}

pub frame_later : (p : Program) (lim : Bounds) (rows later : List TaskRow) (t : ℕ) (frame : Frame) → Later rows later → FrameStands p lim rows t frame → FrameStands p lim later t frame
frame_later p lim rows later t frame lt stands = record {
  number = stands.number;
  fuel = stands.fuel;
  futures = λ f u is. stands_later p rows later t frame.decl f u lt (stands.futures f u is);
  apart = stands.apart;
  once = stands.once;
  getting = λ on into is. made_later rows later t None on lt (stands.getting on into is);
  joining = λ on into is. made_later rows later t (Some t) on lt (stands.joining on into is);
  closing = stands.closing;
  awaited_child = λ on is. made_later rows later t (Some t) on lt (stands.awaited_child on is);
  ended = stands.ended;
}

pub row_later : (p : Program) (lim : Bounds) (rows later : List TaskRow) (t : ℕ) (row : TaskRow) → Later rows later → RowStands p lim rows t row → RowStands p lim later t row
row_later p lim rows later t row lt stands = record {
  frame = frame_later p lim rows later t row.frame lt stands.frame;
  ready = stands.ready;
  decl = stands.decl;
  out = stands.out;
  prints = stands.prints;
  count = stands.count;
  effects = stands.effects;
  parent = stands.parent;
  made = stands.made;
  over = stands.over;
  ended = stands.ended;
  done = stands.done;
  joined = stands.joined;
}

-- each row stands
abbrev pub AllStand : Program → Bounds → List TaskRow → Type 0
AllStand p lim rows = (t : ℕ) (row : TaskRow) → slice_get rows t ≡ Some row → RowStands p lim rows t row

pub set_stand : (p : Program) (lim : Bounds) (rows : List TaskRow) (t : ℕ) (row new : TaskRow) → slice_get rows t ≡ Some row → IsSameTask row new
    → AllStand p lim rows → RowStands p lim rows t new → AllStand p lim (slice_set rows t new)
set_stand p lim rows t row new found same all stands u old here =
    let lt = later_set rows t row new found same in
    row_later p lim rows (slice_set rows t new) u old lt (
    elim (set_cases rows t u new old here) [
      | inl own ↦ subst (λ (n : ℕ). RowStands p lim rows n old) (sym own.0) (subst (RowStands p lim rows t) own.1 stands)
      | inr other ↦ all u old other.1
    ]
    )

pub put_stand : (p : Program) (lim : Bounds) (rows : List TaskRow) (new : TaskRow) → AllStand p lim rows → RowStands p lim (rows ++ new ∷ []) (length rows) new
    → AllStand p lim (rows ++ new ∷ [])
put_stand p lim rows new all stands u row here =
    elim (put_cases rows new u row here) [
      | inl before ↦ row_later p lim rows (rows ++ new ∷ []) u row (later_put rows new) (all u row before)
      | inr last ↦ subst (λ (n : ℕ). RowStands p lim (rows ++ new ∷ []) n row) (sym last.0) (subst (RowStands p lim (rows ++ new ∷ []) (length rows)) last.1 stands)
    ]
