-- If the links of a state agree with its rows, each says what the other says.
use Rattle.std.proofs.Common.{◌≡◌, ℕ, zero, suc, true, false, List, [], ◌∷◌, Option, None, Some, refl, sym, ap, ◌∙◌}
use Rattle.std.specs.Prelude.{slice_get}
use Rattle.std.specs.Option.{option_map}
use Rattle.std.proofs.lemmas.Option.{get_or_from_slice_get, slice_get-map}
use Rattle.wait_graph.specs.declared.tasks.Link.{Link}
use Rattle.wait_graph.specs.Link.{link_of, new_link}
use Rattle.wait_graph.specs.Waiting.{IsDone, SpawnedBy}
use Rattle.machine_state.specs.declared.state.State.{State}
use Rattle.machine_state.specs.declared.state.TaskRow.{TaskRow}
use Rattle.machine_state.specs.declared.state.TaskStatus.{TaskStatus}
use Rattle.machine_state.specs.declared.state.TaskStatus.TheVariants.{Made, Enabled, Done, Faulted}
use Rattle.machine_state.specs.Rows.{HasStatus, IsRow, LinksAgree, is_done_status, link_of_row}

none_there : (links : List Link) (s : ℕ) → slice_get links s ≡ None → link_of links s ≡ new_link None
none_there [] s h = refl
none_there (x ∷ links) zero h = absurd (cc)
none_there (x ∷ links) (suc s) h = none_there links s h

is_done_is : (status : TaskStatus) → is_done_status status ≡ true → status ≡ Done
is_done_is Made h = absurd (cc)
is_done_is Enabled h = absurd (cc)
is_done_is Done h = refl
is_done_is Faulted h = absurd (cc)

-- the link of a task without a row
abbrev no_link : Link
no_link = new_link None

module _ (st : State) (agree : LinksAgree st) where
  link_at : (s : ℕ) → slice_get st.links s ≡ option_map link_of_row (slice_get st.tasks s)
  link_at s = ap (λ (links : List Link). slice_get links s) agree ∙ slice_get-map link_of_row st.tasks s

  pub link_there : (s : ℕ) (row : TaskRow) → IsRow st s row → link_of st.links s ≡ link_of_row row
  link_there s row is = get_or_from_slice_get st.links s (link_of_row row) no_link (link_at s ∙ ap (option_map link_of_row) is)

  pub link_not_there : (s : ℕ) → slice_get st.tasks s ≡ None → link_of st.links s ≡ no_link
  link_not_there s none = none_there st.links s (link_at s ∙ ap (option_map link_of_row) none)

  -- a spawned child has a row
  spawned_by : (c p : ℕ) (o : Option TaskRow) → slice_get st.tasks c ≡ o → SpawnedBy st.links c p
      → (row : TaskRow) × IsRow st c row × (row.parent ≡ Some p) × (row.joined ≡ false)
  spawned_by c p None none by = let no : None ≡ Some p = sym (ap (λ (l : Link). l.parent) (link_not_there c none)) ∙ by.parent in absurd (cc)
  spawned_by c p (Some row) is by =
      let same = link_there c row is in
      (row, is, sym (ap (λ (l : Link). l.parent) same) ∙ by.parent, sym (ap (λ (l : Link). l.joined) same) ∙ by.unjoined)

  pub spawned_row : (c p : ℕ) → SpawnedBy st.links c p → (row : TaskRow) × IsRow st c row × (row.parent ≡ Some p) × (row.joined ≡ false)
  spawned_row c p by = spawned_by c p (slice_get st.tasks c) refl by

  done_by : (c : ℕ) (o : Option TaskRow) → slice_get st.tasks c ≡ o → IsDone st.links c → (row : TaskRow) × IsRow st c row × (row.status ≡ Done)
  done_by c None none done = let no : false ≡ true = sym (ap (λ (l : Link). l.done) (link_not_there c none)) ∙ done in absurd (cc)
  done_by c (Some row) is done = (row, is, is_done_is row.status (sym (ap (λ (l : Link). l.done) (link_there c row is)) ∙ done))

  pub done_row : (c : ℕ) → IsDone st.links c → HasStatus st c Done
  done_row c done = done_by c (slice_get st.tasks c) refl done

  -- an enabled task is not done
  pub enabled_undone : (s : ℕ) → HasStatus st s Enabled → ¬ IsDone st.links s
  enabled_undone s may done =
      let d = done_row s done in
      let same : may.0 ≡ d.0 = cc (may.1, d.1) in
      let one : Enabled ≡ Done = sym may.2 ∙ (ap (λ (r : TaskRow). r.status) same ∙ d.2) in
      absurd (cc)
