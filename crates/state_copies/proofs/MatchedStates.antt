-- States that runs without a fault have come to are alike where what is compared of them is the same.
use Rattle.std.proofs.Common.{◌≡◌, ℕ, suc, Bool, true, false, List, [], ◌∷◌, length, map, Some, None, refl, sym, ap, ◌∙◌, subst, arith}
use Rattle.std.specs.Prelude.{◌↔◌, IsTrue, slice_get}
use Rattle.std.specs.Option.{option_map}
use Rattle.std.proofs.lemmas.List.{length-map}
use Rattle.std.proofs.lemmas.Option.{slice_get-map}
use Rattle.twe_base.specs.Limits.{Bounds}
use Rattle.twe_program.specs.Program.{Program}
use Rattle.seg_meaning.specs.declared.frame.Frame.{Frame}
use Rattle.seg_meaning.specs.Entry.{effects_at}
use Rattle.machine_state.specs.declared.state.State.{State}
use Rattle.machine_state.specs.declared.state.TaskRow.{TaskRow}
use Rattle.machine_state.specs.declared.state.TaskStatus.{TaskStatus}
use Rattle.machine_state.specs.declared.state.TaskStatus.TheVariants.{Made, Enabled, Done, Faulted}
use Rattle.machine_state.specs.FramesOut.{without_frame}
use Rattle.machine_state.specs.Rows.{IsRow, is_done_row, is_done_status, link_of_row, row_awaited}
use Rattle.machine_state.proofs.lists.Places.{got_one}
use Rattle.machine_state.proofs.standing.ReachedStands.{reached_stands}
use Rattle.machine_state.proofs.standing.Standing.{IsOver, RowStands, Stands}
use Rattle.state_copies.specs.Frames.{unreserved}
use Rattle.state_copies.specs.Lasting.{AreAlike, IsFaultless, lasting_row}
use Rattle.state_copies.specs.inner.Rows.{HaveOneStanding, HaveOneTally, RowListsMatch, RowsMatch, unreserved_row}
use Rattle.state_copies.proofs.LastingRows.{done_lasts, row_if_done, row_if_not}
use Rattle.state_copies.proofs.Plain.{reached_plain}

-- One state.

is_done_is : (status : TaskStatus) → is_done_status status ≡ true → status ≡ Done
is_done_is Made is = absurd (cc (is))
is_done_is Enabled is = absurd (cc (is))
is_done_is Done is = refl
is_done_is Faulted is = absurd (cc (is))

pub faultless_stands : (p : Program) (lim : Bounds) (st : State) → IsFaultless p lim st → Stands p lim st
faultless_stands p lim st fine = reached_stands p lim st fine.well fine.reached

-- nothing is reserved in its frames
plain_row : (p : Program) (lim : Bounds) (st : State) (t : ℕ) (row : TaskRow) → IsFaultless p lim st → IsRow st t row → row.frame ≡ unreserved row.frame
plain_row p lim st t row fine there =
    let none = (faultless_stands p lim st fine).no_fault fine.no_fault t in
    let room : row.frame.out.room ≡ 0 = reached_plain p lim st fine.reached t row there (λ faulted. none (row, there, faulted)) in
    λ i. record row.frame { out = record row.frame.out { room = room i } }

copied_rows : (rows : List TaskRow) → ((t : ℕ) (row : TaskRow) → slice_get rows t ≡ Some row → row.frame ≡ unreserved row.frame) → map unreserved_row rows ≡ rows
copied_rows [] plain = refl
copied_rows (row ∷ rows) plain = λ i. record row { frame = sym (plain 0 row refl) i } ∷ copied_rows rows (λ t r there. plain (suc t) r there) i

-- so its rows are copied as they are
pub rows_copied : (p : Program) (lim : Bounds) (st : State) → IsFaultless p lim st → map unreserved_row st.tasks ≡ st.tasks
rows_copied p lim st fine = copied_rows st.tasks (λ t row there. plain_row p lim st t row fine there)

-- Two rows.

module _ (p : Program) (lim : Bounds) (rows others : List TaskRow) (t : ℕ) (a b : TaskRow) (stands : RowStands p lim rows t a) (also : RowStands p lim others t b)
    (match : RowsMatch a b) where
  abbrev standing : HaveOneStanding a b
  standing = match.standing

  effects_are : a.effects ≡ b.effects
  effects_are = stands.effects ∙ ((λ i. effects_at p (standing.decl i) (standing.args i)) ∙ sym also.effects)

  done_alike : is_done_row a ≡ true → lasting_row a ≡ lasting_row b
  done_alike done =
      let here : a.status ≡ Done = is_done_is a.status done in
      let there : b.status ≡ Done = sym standing.status ∙ here in
      let out : a.out ≡ b.out = stands.done here ∙ sym (also.done there) in
      let same : without_frame a ≡ without_frame b = λ i. record (without_frame a) {
        decl = standing.decl i;
        args = standing.args i;
        effects = effects_are i;
        parent = standing.parent i;
        joined = standing.joined i;
        out = out i;
        status = standing.status i;
        value = standing.value i;
      } in
      row_if_done a done ∙ (same ∙ sym (row_if_done b (ap is_done_status there)))

  undone_alike : a.frame ≡ unreserved a.frame → b.frame ≡ unreserved b.frame → is_done_row a ≡ false → lasting_row a ≡ lasting_row b
  undone_alike plain plain_too undone =
      let frame : a.frame ≡ b.frame = plain ∙ (match.frames undone ∙ sym plain_too) in
      let out : a.out ≡ b.out = stands.out ∙ (ap (λ (f : Frame). f.out.items) frame ∙ sym also.out) in
      let same : a ≡ b = λ i. record {
        decl = standing.decl i;
        args = standing.args i;
        effects = effects_are i;
        frame = frame i;
        parent = standing.parent i;
        joined = standing.joined i;
        out = out i;
        status = standing.status i;
        value = standing.value i;
      } in
      ap lasting_row same

  pub row_alike_by : (d : Bool) → is_done_row a ≡ d → a.frame ≡ unreserved a.frame → b.frame ≡ unreserved b.frame → lasting_row a ≡ lasting_row b
  row_alike_by true is plain plain_too = done_alike is
  row_alike_by false is plain plain_too = undone_alike plain plain_too is

standing_of : (a b : TaskRow) → without_frame a ≡ without_frame b → HaveOneStanding a b
standing_of a b same = record {
  decl = ap (λ (r : TaskRow). r.decl) same;
  parent = ap (λ (r : TaskRow). r.parent) same;
  joined = ap (λ (r : TaskRow). r.joined) same;
  status = ap (λ (r : TaskRow). r.status) same;
  value = ap (λ (r : TaskRow). r.value) same;
  args = ap (λ (r : TaskRow). r.args) same;
}

match_by : (a b : TaskRow) (d : Bool) → is_done_row a ≡ d → lasting_row a ≡ lasting_row b → RowsMatch a b
match_by a b true is alike =
    let also : is_done_row b ≡ true = sym (done_lasts b) ∙ (ap is_done_row (sym alike) ∙ (done_lasts a ∙ is)) in
    record {
      standing = standing_of a b (sym (row_if_done a is) ∙ (alike ∙ row_if_done b also));
      frames = λ undone. absurd (cc (is, undone));
    }
match_by a b false is alike =
    let also : is_done_row b ≡ false = sym (done_lasts b) ∙ (ap is_done_row (sym alike) ∙ (done_lasts a ∙ is)) in
    let same : a ≡ b = sym (row_if_not a is) ∙ (alike ∙ row_if_not b also) in
    record { standing = standing_of a b (ap without_frame same); frames = λ undone. ap (λ (r : TaskRow). unreserved r.frame) same }

-- Lists of rows.

same_map : (a b : List TaskRow) → length a ≡ length b → ((t : ℕ) (x y : TaskRow) → slice_get a t ≡ Some x → slice_get b t ≡ Some y → lasting_row x ≡ lasting_row y)
    → map lasting_row a ≡ map lasting_row b
same_map [] [] count each = refl
same_map [] (y ∷ b) count each = absurd (omega (arith, count))
same_map (x ∷ a) [] count each = absurd (omega (arith, count))
same_map (x ∷ a) (y ∷ b) count each =
    λ i. each 0 x y refl refl i ∷ same_map a b (omega (arith, count)) (λ t r s here there. each (suc t) r s here there) i

link_by : (row : TaskRow) (d : Bool) → is_done_row row ≡ d → (row.status ≡ Done → row_awaited row.frame.next ≡ None) → link_of_row row ≡ link_of_row (lasting_row row)
link_by row true is ended =
    let waits = ended (is_done_is row.status is) in
    (λ i. record (link_of_row row) { waits = waits i }) ∙ ap link_of_row (sym (row_if_done row is))
link_by row false is ended = ap link_of_row (sym (row_if_not row is))

links_last : (rows : List TaskRow) → ((t : ℕ) (row : TaskRow) → slice_get rows t ≡ Some row → row.status ≡ Done → row_awaited row.frame.next ≡ None)
    → map link_of_row rows ≡ map link_of_row (map lasting_row rows)
links_last [] ended = refl
links_last (row ∷ rows) ended =
    λ i. link_by row (is_done_row row) refl (ended 0 row refl) i ∷ links_last rows (λ t r there. ended (suc t) r there) i

-- the links follow from what lasts of the rows
links_follow : (p : Program) (lim : Bounds) (st : State) → IsFaultless p lim st → st.links ≡ map link_of_row (map lasting_row st.tasks)
links_follow p lim st fine =
    let stands = faultless_stands p lim st fine in
    stands.links
    ∙ links_last st.tasks (λ t row there done.
    ap row_awaited ((stands.rows t row there).over (subst IsOver (sym done) tt)))

-- Two states.

module _ (p : Program) (lim : Bounds) (a b : State) (fine : IsFaultless p lim a) (also : IsFaultless p lim b) where
  alike_if : HaveOneTally a b → RowListsMatch a.tasks b.tasks → AreAlike a b
  alike_if tally lists =
      let rows : map lasting_row a.tasks ≡ map lasting_row b.tasks =
      same_map a.tasks b.tasks lists.count (λ t x y here there.
      row_alike_by p lim a.tasks b.tasks t x y ((faultless_stands p lim a fine).rows t x here) ((faultless_stands p lim b also).rows t y there)
      (lists.each t x y here there) (is_done_row x) refl (plain_row p lim a t x fine here) (plain_row p lim b t y also there)) in
      let links : a.links ≡ b.links = links_follow p lim a fine ∙ (ap (map link_of_row) rows ∙ sym (links_follow p lim b also)) in
      λ i. record {
        cells = tally.cells i;
        tasks = rows i;
        links = links i;
        prints = tally.prints i;
        asked = tally.asked i;
        first_fault = (fine.no_fault ∙ sym also.no_fault) i;
      }

  tally_of : AreAlike a b → HaveOneTally a b
  tally_of alike = record {
    asked = ap (λ (s : State). s.asked) alike;
    cells = ap (λ (s : State). s.cells) alike;
    prints = ap (λ (s : State). s.prints) alike;
  }

  lists_of : AreAlike a b → RowListsMatch a.tasks b.tasks
  lists_of alike = record {
    count = sym (length-map a.tasks lasting_row) ∙ (ap (λ (s : State). length s.tasks) alike ∙ length-map b.tasks lasting_row);
    each = λ t x y here there.
        let left : slice_get (map lasting_row a.tasks) t ≡ Some (lasting_row x) = slice_get-map lasting_row a.tasks t ∙ ap (option_map lasting_row) here in
        let right : slice_get (map lasting_row b.tasks) t ≡ Some (lasting_row y) = slice_get-map lasting_row b.tasks t ∙ ap (option_map lasting_row) there in
        match_by x y (is_done_row x) refl (got_one (slice_get (map lasting_row b.tasks) t) (ap (λ (s : State). slice_get s.tasks t) (sym alike) ∙ left) right);
  }

  -- if the tallies are the same, the rows decide
  pub rows_decide : (result : Bool) → HaveOneTally a b → (IsTrue result ↔ RowListsMatch a.tasks b.tasks) → IsTrue result ↔ AreAlike a b
  rows_decide result tally says = (λ yes. alike_if tally (says.0 yes), λ alike. says.1 (lists_of alike))
