-- The start of a segment: where the task has waited for an unjoined child, the child is joined, and is none of its
-- unjoined children any more.
use Rattle.std.proofs.Common.{◌≡◌, ◌≢◌, ◌⊎◌, ◌↔◌, ◌<◌, ℕ, ℤ, Bool, true, false, cond, List, length, Option, None, Some, inl, inr, refl, sym, ap, ◌∙◌, subst, arith, length-set}
use Rattle.std.specs.Prelude.{slice_get, slice_set, nat_eq}
use Rattle.std.proofs.lemmas.Bool.{cases_eq}
use Rattle.std.specs.List.{list_any, count_by}
use Rattle.twe_base.specs.Limits.{Bounds}
use Rattle.twe_program.specs.Program.{Program}
use Rattle.seg_meaning.specs.declared.frame.Frame.{Frame}
use Rattle.seg_meaning.specs.declared.frame.Next.{Next}
use Rattle.seg_meaning.specs.declared.frame.Next.TheVariants.{Go, Get, Join, Closing, Ended}
use Rattle.seg_meaning.specs.Giving.{given_by, without}
use Rattle.machine_state.specs.declared.state.TaskRow.{TaskRow}
use Rattle.machine_state.specs.declared.state.TaskStatus.TheVariants.{Done}
use Rattle.machine_state.specs.Moves.{joined_child, joined_row, joined_rows}
use Rattle.machine_state.specs.Rows.{row_awaited}
use Rattle.machine_state.proofs.standing.Later.{Later, later_itself, later_set, IsSameTask, AllStand, set_stand}
use Rattle.machine_state.proofs.lists.Members.{IsIn, EachOnce, any_in, none_in, without_in, without_other, in_without, without_none}
use Rattle.machine_state.proofs.lists.Places.{got_one, set_same, set_other, set_cases, count_set}
use Rattle.machine_state.proofs.standing.Standing.{IsChild, FrameStands, RowStands, is_faulted_row}

-- these are the unjoined children of t
abbrev pub ChildrenAre : List TaskRow → ℕ → List ℕ → Type 0
ChildrenAre rows t out = (c : ℕ) → IsIn c out ↔ IsChild rows t c

-- Whose join is taken.

-- no join was taken
pub record NoJoin (out : List ℕ) (child : Option ℕ) (later : List ℕ) : Type 0 where
  pub none : child ≡ None
  pub same : later ≡ out

-- the join was taken of the child that was waited for
pub record JoinOf (waits : Option ℕ) (out : List ℕ) (child : Option ℕ) (later : List ℕ) : Type 0 where
  pub on : ℕ
  pub waited : waits ≡ Some on
  pub some : child ≡ Some on
  pub there : IsIn on out
  pub rest : later ≡ without on out

no_child_by : (out : List ℕ) (on : ℕ) (b : Bool) → list_any (λ k. nat_eq k on) out ≡ b → ¬ IsIn on out → cond b (Some on) None ≡ None
no_child_by out on true is gone = absurd (gone (any_in out on is))
no_child_by out on false is gone = refl

child_by : (out : List ℕ) (on : ℕ) (b : Bool) → list_any (λ k. nat_eq k on) out ≡ b
    → NoJoin out (cond b (Some on) None) (without on out) ⊎ JoinOf (Some on) out (cond b (Some on) None) (without on out)
child_by out on true is = inr (record { on = on; waited = refl; some = refl; there = any_in out on is; rest = refl })
child_by out on false is = inl (record { none = refl; same = without_none out on (none_in out on is) })

module _ (p : Program) (lim : Bounds) (rows : List TaskRow) (t : ℕ) (frame : Frame) (stands : FrameStands p lim rows t frame) (children : ChildrenAre rows t frame.out.items) where
  -- no child is waited for by a `get`
  not_got : (on : ℕ) (into : Option ℕ) → frame.next ≡ Get on into → ¬ IsIn on frame.out.items
  not_got on into is h =
      let made = stands.getting on into is in
      let child = (children on).0 h in
      let same : made.row ≡ child.row = got_one (slice_get rows on) made.there child.there in
      let parent : made.row.parent ≡ Some t = ap (λ (r : TaskRow). r.parent) same ∙ child.parent in
      cc (made.parent_is, parent)

  pub taking : (next : Next) → frame.next ≡ next → (value : ℤ)
      → NoJoin frame.out.items (joined_child frame.out.items (row_awaited next)) (given_by next frame value).out.items ⊎ JoinOf (row_awaited next) frame.out.items (joined_child frame.out.items (row_awaited next)) (given_by next frame value).out.items
  taking Go is value = inl (record { none = refl; same = refl })
  taking (Get on into) is value = inl (record { none = no_child_by frame.out.items on (list_any (λ k. nat_eq k on) frame.out.items) refl (not_got on into is); same = refl })
  taking (Join on into) is value = child_by frame.out.items on (list_any (λ k. nat_eq k on) frame.out.items) refl
  taking (Closing on) is value = child_by frame.out.items on (list_any (λ k. nat_eq k on) frame.out.items) refl
  taking Ended is value = inl (record { none = refl; same = refl })

-- The rows after it.

-- the rows once the join of a child, if there is one, was taken
abbrev pub rows_joined : List TaskRow → Option ℕ → List TaskRow
rows_joined rows None = rows
rows_joined rows (Some c) = joined_rows rows c (slice_get rows c)

child_other : (rows : List TaskRow) (s on c : ℕ) (new : TaskRow) → c ≢ on → IsChild rows s c → IsChild (slice_set rows on new) s c
child_other rows s on c new ne child = record { row = child.row; there = set_other rows on c new ne ∙ child.there; parent = child.parent; unjoined = child.unjoined }

child_back : (rows : List TaskRow) (s on c : ℕ) (row : TaskRow) → IsChild (slice_set rows on (joined_row row)) s c → (c ≢ on) × IsChild rows s c
child_back rows s on c row child =
    elim (set_cases rows on c (joined_row row) child.row child.there) [
      | inl own ↦ let clash : true ≡ false = ap (λ (r : TaskRow). r.joined) own.1 ∙ child.unjoined in absurd (cc)
      | inr other ↦ (other.0, record { row = child.row; there = other.1; parent = child.parent; unjoined = child.unjoined })
    ]

-- what holds of the rows once the join was taken, of which these are the task's unjoined children now
pub record AfterJoin (p : Program) (lim : Bounds) (rows after : List TaskRow) (t : ℕ) (row : TaskRow) (out : List ℕ) : Type 0 where
  pub later : Later rows after
  pub as_many : length after ≡ length rows
  pub stand : AllStand p lim after
  pub own : slice_get after t ≡ Some row
  pub children : (s : ℕ) (a : TaskRow) → s ≢ t → slice_get after s ≡ Some a → ChildrenAre after s a.out
  pub own_children : ChildrenAre after t out
  pub faulted : count_by is_faulted_row after ≡ count_by is_faulted_row rows
  pub status : (u : ℕ) (a : TaskRow) → slice_get after u ≡ Some a → (b : TaskRow) × (slice_get rows u ≡ Some b) × (a.status ≡ b.status)
  pub status_back : (u : ℕ) (b : TaskRow) → slice_get rows u ≡ Some b → (a : TaskRow) × (slice_get after u ≡ Some a) × (a.status ≡ b.status)

module _ (p : Program) (lim : Bounds) (rows : List TaskRow) (all : AllStand p lim rows) (each : (s : ℕ) (a : TaskRow) → slice_get rows s ≡ Some a → ChildrenAre rows s a.out)
    (t : ℕ) (row : TaskRow) (found : slice_get rows t ≡ Some row)
    (done : (on : ℕ) (b : TaskRow) → row_awaited row.frame.next ≡ Some on → slice_get rows on ≡ Some b → b.status ≡ Done) where
  none_joined : (child : Option ℕ) (out : List ℕ) → NoJoin row.out child out → AfterJoin p lim rows (rows_joined rows child) t row out
  none_joined (Some c) out same = absurd (cc (same.none))
  none_joined None out same = record {
    later = later_itself rows;
    as_many = refl;
    stand = all;
    own = found;
    children = λ s a ne here. each s a here;
    own_children = subst (ChildrenAre rows t) (sym same.same) (each t row found);
    faulted = refl;
    status = λ u a here. (a, here, refl);
    status_back = λ u b here. (b, here, refl);
  }

  -- the child's row, once it is joined
  joined_stands : (c : ℕ) (b : TaskRow) → b.parent ≡ Some t → b.status ≡ Done → RowStands p lim rows c b → RowStands p lim rows c (joined_row b)
  joined_stands c b parent is_done stands = record {
    frame = stands.frame;
    ready = stands.ready;
    decl = stands.decl;
    out = stands.out;
    prints = stands.prints;
    count = stands.count;
    effects = stands.effects;
    parent = stands.parent;
    made = λ is. let none : b.parent ≡ None = ap (λ (r : TaskRow). r.parent) (stands.made is) in absurd (cc (parent, none));
    over = stands.over;
    ended = stands.ended;
    done = stands.done;
    joined = λ is. is_done;
  }

  module _ (on : ℕ) (b : TaskRow) (there : slice_get rows on ≡ Some b) (parent : b.parent ≡ Some t) (is_done : b.status ≡ Done) where
    set_children : (s : ℕ) (a : TaskRow) → s ≢ t → slice_get (slice_set rows on (joined_row b)) s ≡ Some a → ChildrenAre (slice_set rows on (joined_row b)) s a.out
    set_children s a ne here c =
        let was : ChildrenAre rows s a.out =
        elim (set_cases rows on s (joined_row b) a here) [
          | inl own ↦ subst (λ (n : ℕ). ChildrenAre rows n a.out) (sym own.0) (subst (λ (r : TaskRow). ChildrenAre rows on r.out) own.1 (each on b there))
          | inr other ↦ each s a other.1
        ] in (
          λ h.
              let child = (was c).0 h in
              child_other rows s on c (joined_row b) (λ is.
              let same : child.row ≡ b = got_one (slice_get rows on) (subst (λ (n : ℕ). slice_get rows n ≡ Some child.row) is child.there) there in
              let mine : b.parent ≡ Some s = ap (λ (r : TaskRow). r.parent) (sym same) ∙ child.parent in
              let equal : s ≡ t = cc (mine, parent) in ne equal) child,
          λ child. (was c).1 (child_back rows s on c b child).1,
        )

    own_set : EachOnce row.out → ChildrenAre (slice_set rows on (joined_row b)) t (without on row.out)
    own_set once c = (
      λ h. child_other rows t on c (joined_row b) (without_other row.out on c once h) ((each t row found c).0 (without_in row.out on c h)),
      λ child. let back = child_back rows t on c b child in in_without row.out on c back.0 ((each t row found c).1 back.1),
    )

    set_status : (u : ℕ) (a : TaskRow) → slice_get (slice_set rows on (joined_row b)) u ≡ Some a → (r : TaskRow) × (slice_get rows u ≡ Some r) × (a.status ≡ r.status)
    set_status u a here =
        elim (set_cases rows on u (joined_row b) a here) [
          | inl own ↦ (b, subst (λ (n : ℕ). slice_get rows n ≡ Some b) (sym own.0) there, ap (λ (r : TaskRow). r.status) (sym own.1))
          | inr other ↦ (a, other.1, refl)
        ]

    set_status_back : (u : ℕ) (r : TaskRow) → slice_get rows u ≡ Some r → (a : TaskRow) × (slice_get (slice_set rows on (joined_row b)) u ≡ Some a) × (a.status ≡ r.status)
    set_status_back u r here =
        elim (cases_eq u on) [
          | inl is ↦
              let same : b ≡ r = got_one (slice_get rows on) there (subst (λ (n : ℕ). slice_get rows n ≡ Some r) is here) in (
                joined_row b,
                subst (λ (n : ℕ). slice_get (slice_set rows on (joined_row b)) n ≡ Some (joined_row b)) (sym is) (set_same rows on b (joined_row b) there),
                ap (λ (x : TaskRow). x.status) same,
              )
          | inr ne ↦ (r, set_other rows on u (joined_row b) ne ∙ here, refl)
        ]

    child_joined : t < on → EachOnce row.out → (out : List ℕ) → out ≡ without on row.out → AfterJoin p lim rows (slice_set rows on (joined_row b)) t row out
    child_joined above once out rest =
        let kept : IsSameTask b (joined_row b) = record { decl = refl; args = refl; effects = refl; parent = refl } in
        let apart : t ≢ on = λ is. omega arith in
        record {
          later = later_set rows on b (joined_row b) there kept;
          as_many = length-set rows on (joined_row b);
          stand = set_stand p lim rows on b (joined_row b) there kept all (joined_stands on b parent is_done (all on b there));
          own = set_other rows on t (joined_row b) apart ∙ found;
          children = set_children;
          own_children = subst (ChildrenAre (slice_set rows on (joined_row b)) t) (sym rest) (own_set once);
          faulted = omega (arith, count_set is_faulted_row rows on b (joined_row b) there);
          status = set_status;
          status_back = set_status_back;
        }

  -- the join is taken
  some_joined : (child : Option ℕ) (out : List ℕ) → EachOnce row.out → JoinOf (row_awaited row.frame.next) row.out child out → AfterJoin p lim rows (rows_joined rows child) t row out
  some_joined child out once join =
      let mine = (each t row found join.on).0 join.there in
      let is : rows_joined rows child ≡ slice_set rows join.on (joined_row mine.row) = ap (rows_joined rows) join.some ∙ ap (joined_rows rows join.on) mine.there in
      subst (λ (after : List TaskRow). AfterJoin p lim rows after t row out) (sym is)
      (child_joined join.on mine.row mine.there mine.parent (done join.on mine.row join.waited mine.there) ((all join.on mine.row mine.there).parent t mine.parent) once out join.rest)

  pub after_join : (value : ℤ) → let child = joined_child row.out (row_awaited row.frame.next) in let out = (given_by row.frame.next row.frame value).out.items in
      AfterJoin p lim rows (rows_joined rows child) t row out
  after_join value =
      let stands : RowStands p lim rows t row = all t row found in
      let children : ChildrenAre rows t row.frame.out.items = subst (ChildrenAre rows t) stands.out (each t row found) in
      let once : EachOnce row.out = subst EachOnce (sym stands.out) stands.frame.once in
      let out = (given_by row.frame.next row.frame value).out.items in
      let child = λ (ms : List ℕ). joined_child ms (row_awaited row.frame.next) in
      subst (λ (ms : List ℕ). AfterJoin p lim rows (rows_joined rows (child ms)) t row out) (sym stands.out) (
      elim (taking p lim rows t row.frame stands.frame children row.frame.next refl value) [
        | inl same ↦ none_joined (child row.frame.out.items) out (record { none = same.none; same = same.same ∙ sym stands.out })
        | inr join ↦ some_joined (child row.frame.out.items) out once (record {
          on = join.on;
          waited = join.waited;
          some = join.some;
          there = subst (IsIn join.on) (sym stands.out) join.there;
          rest = join.rest ∙ ap (without join.on) (sym stands.out);
        })
      ]
      )
