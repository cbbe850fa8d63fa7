-- A segment that makes a task keeps the invariant.
use Rattle.std.proofs.Common.{◌≡◌, ℕ, ℤ, Bool, true, false, List, [], ◌∷◌, length, Contains, Option, Some, inl, inr, sym, ap, ◌∙◌, subst, arith, Any}
use Rattle.std.proofs.lemmas.Bool.{cases_Bool}
use Rattle.std.proofs.lemmas.List.{length-map}
use Rattle.std.proofs.lemmas.Option.{slice_get_within}
use Rattle.twe_base.specs.declared.place.Place.{Place}
use Rattle.twe_base.specs.Limits.{Bounds}
use Rattle.effect_sets.specs.declared.effects.Summary.{Summary}
use Rattle.effect_sets.specs.Covers.{EffectWithin}
use Rattle.effect_sets.specs.Interference.{SomeInterfere}
use Rattle.twe_program.specs.Program.{Program}
use Rattle.twe_program.specs.WellFormed.{IsWellFormed}
use Rattle.seg_meaning.specs.declared.frame.Frame.{Frame}
use Rattle.seg_meaning.specs.Entry.{effects_at}
use Rattle.seg_meaning.specs.Giving.{given}
use Rattle.wait_graph.specs.declared.tasks.Link.{Link}
use Rattle.wait_graph.specs.Waiting.{IsDone, WaitsForNobody}
use Rattle.effect_check.proofs.Members.{IsIn, contains-in, in-cases}
use Rattle.isolation_laws.specs.soundness.KeepsEffects.{KeepsEffects}
use Rattle.isolation_laws.proofs.soundness.Given.{given_decl, given_runs}
use Rattle.isolation_laws.proofs.soundness.Segments.{segment_spawns}
use Rattle.machine_state.specs.declared.state.State.{State}
use Rattle.machine_state.specs.declared.state.TaskRow.{TaskRow}
use Rattle.machine_state.specs.declared.state.TaskStatus.TheVariants.{Enabled}
use Rattle.machine_state.specs.Legal.{Isolated}
use Rattle.machine_state.specs.Moves.{going_row, state_after_join, new_row, out_with, parent_of, status_at_start}
use Rattle.machine_state.specs.Rows.{HasStatus, IsRow, LinksAgree, row_awaited, link_of_row}
use Rattle.machine_state.proofs.standing.Standing.{Stands}
use Rattle.isolation_laws.specs.Within.{EffectsWithin, SpawnedWithin}
use Rattle.isolation_laws.proofs.rows.AddedTask.{ParentsAreThere, agree_before, before_length, isolated_made, siblings_made, with_row, within_made}
use Rattle.isolation_laws.proofs.frames.AfterSegment.{after, after_out}
use Rattle.isolation_laws.proofs.rows.RowsLater.{Continues, SiblingsApart, siblings_later, within_later}
use Rattle.isolation_laws.proofs.journals.EndsKeep.{going_became}
use Rattle.isolation_laws.proofs.rows.ListElements.{get_before_added, get_set_within}
use Rattle.isolation_laws.proofs.rows.FramePutBack.{continues_home, isolated_home, nobody_home}
use Rattle.isolation_laws.proofs.rows.JoinedChild.{DoneAreChildless}
use Rattle.isolation_laws.proofs.journals.Invariant.{Kept, parents_there}
use Rattle.isolation_laws.proofs.frames.AfterMake.{apart_from}
use Rattle.isolation_laws.proofs.journals.MakersRow.{StopsAtMake, goes_on, length_home, length_joined, maker, mid, runs_made}
use Rattle.isolation_laws.proofs.journals.MakeKeepsPaths.{declared_there, own_path, paths_made}
use Rattle.isolation_laws.proofs.rows.SpawnedTask.{isolated_spawned, siblings_spawned, within_spawned}

module _ (p : Program) (wf : IsWellFormed p) (keeps : KeepsEffects p) (lim : Bounds) (st : State) (stands : Stands p lim st) (kept : Kept p st)
    (o : Option ℕ) (done : (child : ℕ) → o ≡ Some child → IsDone st.links child) (childless : DoneAreChildless st.links)
    (t : ℕ) (row : TaskRow) (is_t : IsRow st t row) (enabled : row.status ≡ Enabled) (nobody : WaitsForNobody st.links t)
    (value : ℤ) (cells : List ℤ) (child : Frame) (args : List ℤ) (effects : Summary) (spawned : Bool) (future : ℕ) (place : Place)
    (stop : StopsAtMake p row value cells child args effects spawned future place) (number : ℕ) (counted : number ≡ length st.tasks) where
  abbrev frame : Frame
  frame = maker p row value cells spawned future number

  abbrev between : State
  between = mid st o t row frame

  abbrev added : TaskRow
  added = new_row lim number (parent_of t spawned) child args effects

  continues : Continues st between
  continues = continues_home st o t row is_t frame (going_row row frame) (going_became row frame)

  same_length : length between.tasks ≡ length st.tasks
  same_length = length_home st o t frame (going_row row frame)

  isolated_mid : Isolated between
  isolated_mid = isolated_home st o t row is_t stands.links childless done nobody frame (going_row row frame) (going_became row frame) (λ e. e) kept.isolated

  within_mid : SpawnedWithin between
  within_mid = within_later st between continues kept.within

  siblings_mid : SiblingsApart between
  siblings_mid = siblings_later st between continues kept.siblings

  parents_mid : ParentsAreThere between
  parents_mid c q a is parent =
      let b = continues c a is in
      let below = parents_there p lim st stands c q b.0 b.1 (sym b.2.parent ∙ parent) in
      omega (arith, same_length)

  pub own_row : IsRow between t (going_row row frame)
  own_row =
      let here = slice_get_within st.tasks t row is_t in
      get_set_within (state_after_join st o).tasks t (going_row row frame) (omega (arith, length_joined st o))

  nobody_mid : WaitsForNobody between.links t
  nobody_mid =
      nobody_home st o t row is_t stands.links childless done nobody frame (going_row row frame)
      (ap row_awaited (goes_on p wf keeps lim st kept o t row is_t value cells child args effects spawned future place stop number))

  -- the effects of a spawned task lie within those of its maker
  inside : spawned ≡ true → EffectsWithin added (going_row row frame)
  inside is_spawned e here =
      let known = stands.rows t row is_t in
      let runs = given_runs p row.args row.frame (kept.runs t row is_t) value in
      let spawn = subst (λ (b : Bool). StopsAtMake p row value cells child args effects b future place) is_spawned stop in
      let decl : (given row.frame value).decl ≡ row.decl = given_decl row.frame value ∙ known.decl in
      let same : effects_at p (given row.frame value).decl row.args ≡ row.effects = ap (λ (n : ℕ). effects_at p n row.args) decl ∙ sym known.effects in
      subst (λ (s : Summary). Any (λ d. EffectWithin d e) s.effects) same
      (segment_spawns p wf keeps row.args (given row.frame value) runs cells child args effects future place spawn e here)

  -- its effects do not interfere with those of a child that is out
  apart_from_out : spawned ≡ true → (d : ℕ) (b : TaskRow) → IsRow between d b → IsIn d (after p row.frame value cells).out.items → ¬ SomeInterfere effects.effects b.effects.effects
  apart_from_out is_spawned d b is here some =
      let a = continues d b is in
      let path = own_path p keeps lim st stands kept o t row is_t value cells child args effects spawned future place stop number counted in
      let decl = declared_there p keeps lim st stands kept o t row is_t value cells child args effects spawned future place stop number counted in
      let c = path.children d a.0 (subst (IsIn d) (after_out p row.frame value cells) here) a.1 in
      apart_from p keeps decl.0 st row.frame decl.1 value cells (stands.rows t row is_t).ready path child args effects spawned future place stop is_spawned d a.0.effects c
      (subst (λ (s : Summary). SomeInterfere effects.effects s.effects) a.2.effects some)

  module _ (agree : LinksAgree (with_row between added))
      (listed : (d : ℕ) (b : TaskRow) → IsRow (with_row between added) d b → b.parent ≡ Some t → b.joined ≡ false → Contains frame.out.items d) where
    agree_mid : LinksAgree between
    agree_mid = agree_before between added agree

    same_links : length between.links ≡ length between.tasks
    same_links = ap (λ (links : List Link). length links) agree_mid ∙ length-map between.tasks link_of_row

    -- nor with those of any other unjoined child
    apart : spawned ≡ true → (d : ℕ) (b : TaskRow) → IsRow between d b → b.parent ≡ Some t → b.joined ≡ false → ¬ SomeInterfere effects.effects b.effects.effects
    apart is_spawned d b is of free =
        let out = (after p row.frame value cells).out.items in
        let there = contains-in frame.out.items d (listed d b (get_before_added between.tasks (added ∷ []) d b is) of free) in
        let either = in-cases d out (number ∷ []) (subst (λ (s : Bool). IsIn d (out_with s number out)) is_spawned there) in
        elim either [
          | inl before ↦ apart_from_out is_spawned d b is before
          | inr last ↦ elim last [
            | inl same ↦ let below = before_length between b d b is in absurd (omega (arith, same, counted, same_length))
            | inr nothing ↦ absurd nothing
          ]
        ]

    of_t : spawned ≡ true → added.parent ≡ Some t
    of_t is_spawned = ap (parent_of t) is_spawned

    rest_spawned : spawned ≡ true → Isolated (with_row between added) × SpawnedWithin (with_row between added) × SiblingsApart (with_row between added)
    rest_spawned is_spawned =
        let may : HasStatus between t Enabled = (going_row row frame, own_row, enabled) in (
          isolated_spawned between agree_mid within_mid same_links t (going_row row frame) added own_row may nobody_mid (of_t is_spawned) (inside is_spawned) (apart is_spawned) isolated_mid,
          within_spawned between agree_mid within_mid same_links t (going_row row frame) added own_row may nobody_mid (of_t is_spawned) (inside is_spawned) (apart is_spawned) parents_mid,
          siblings_spawned between agree_mid within_mid same_links t (going_row row frame) added own_row may nobody_mid (of_t is_spawned) (inside is_spawned) (apart is_spawned) siblings_mid,
        )

    rest_made : spawned ≡ false → Isolated (with_row between added) × SpawnedWithin (with_row between added) × SiblingsApart (with_row between added)
    rest_made plain =
        let none = ap (parent_of t) plain in
        let made = ap (λ (s : Bool). status_at_start (parent_of t s)) plain in (
          isolated_made between added none made isolated_mid,
          within_made between added none made parents_mid within_mid,
          siblings_made between added none made siblings_mid,
        )

    pub kept_made : Kept p (with_row between added)
    kept_made =
        let rest : Isolated (with_row between added) × SpawnedWithin (with_row between added) × SiblingsApart (with_row between added)
        = elim (cases_Bool spawned) [ inl is_spawned ↦ rest_spawned is_spawned | inr plain ↦ rest_made plain ] in
        record {
          runs = runs_made p wf keeps lim st kept o t row is_t value cells child args effects spawned future place stop number;
          within = rest.1;
          siblings = rest.2;
          paths = paths_made p keeps lim st stands kept o t row is_t value cells child args effects spawned future place stop number counted;
          isolated = rest.0;
        }
