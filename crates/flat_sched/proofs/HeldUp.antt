-- In a stuck state each task that isn't done is held up: it waits, or has a lowest bar.
use Rattle.std.proofs.Common.{◌≡◌, ◌≢◌, ◌<◌, ◌≤◌, ◌⊎◌, inl, inr, ℕ, zero, suc, List, [], ◌∷◌, length, map, Option, Some, None, true, false, refl, sym, ap, ◌∙◌, subst, ⊎_elim, arith}
use Rattle.std.specs.Prelude.{slice_get}
use Rattle.std.proofs.lemmas.Bool.{cases_Bool, cases_lt}
use Rattle.std.proofs.lemmas.List.{length-map}
use Rattle.std.proofs.lemmas.Option.{slice_get_within}
use Rattle.seg_journal.specs.declared.moves.Kind.TheVariants.{Admit, Run}
use Rattle.seg_journal.specs.declared.moves.Move.{Move}
use Rattle.wait_graph.specs.declared.tasks.Link.{Link}
use Rattle.wait_graph.specs.Link.{link_of}
use Rattle.wait_graph.specs.StuckCycle.{AllAreHeldUp, IsHeldUp, IsUndone, holder_of}
use Rattle.wait_graph.specs.Waiting.{WaitsFor, WaitsForNobody, YieldsTo}
use Rattle.machine_state.specs.declared.state.State.{State}
use Rattle.machine_state.specs.declared.state.TaskRow.{TaskRow}
use Rattle.machine_state.specs.declared.state.TaskStatus.{TaskStatus}
use Rattle.machine_state.specs.declared.state.TaskStatus.TheVariants.{Made, Enabled, Done, Faulted}
use Rattle.machine_state.specs.Legal.{Interfere, IsBar, MayAdmit, MayMove}
use Rattle.machine_state.specs.Rows.{HasStatus, LinksAgree, is_done_row, is_done_status, link_of_row}
use Rattle.machine_state.specs.Runs.{AllTasksDone}
use Rattle.machine_state.proofs.counts.Once.{not_past}
use Rattle.flat_sched.specs.Stuck.{AreHolders, IsHolder}

-- the links of a task say whether its row is done
link_at : (rows : List TaskRow) (t : ℕ) (row : TaskRow) → slice_get rows t ≡ Some row → link_of (map link_of_row rows) t ≡ link_of_row row
link_at [] t row found = absurd (cc)
link_at (r ∷ rows) zero row found = let same : r ≡ row = cc in ap (λ (x : TaskRow). link_of_row x) same
link_at (r ∷ rows) (suc t) row found = link_at rows t row found

done_link : (st : State) (t : ℕ) (row : TaskRow) → LinksAgree st → slice_get st.tasks t ≡ Some row → (link_of st.links t).done ≡ is_done_row row
done_link st t row agree found =
    ap (λ (links : List Link). (link_of links t).done) agree ∙ ap (λ (link : Link). link.done) (link_at st.tasks t row found)

-- there are as many links as rows
pub linked : (st : State) → LinksAgree st → length st.links ≡ length st.tasks
linked st agree = ap length agree ∙ length-map st.tasks link_of_row

undone_row : (st : State) (t : ℕ) (row : TaskRow) → LinksAgree st → slice_get st.tasks t ≡ Some row → is_done_row row ≡ false → IsUndone st.links t
undone_row st t row agree found undone = record {
  there = let within = slice_get_within st.tasks t row found in omega (arith, within, linked st agree);
  undone = done_link st t row agree found ∙ undone;
}

-- all rows are done, or some row isn't
done_status : (status : TaskStatus) → is_done_status status ≡ true → status ≡ Done
done_status Made e = absurd (cc)
done_status Enabled e = absurd (cc)
done_status Done e = refl
done_status Faulted e = absurd (cc)

abbrev AllDone : List TaskRow → Type 0
AllDone rows = (t : ℕ) (row : TaskRow) → slice_get rows t ≡ Some row → row.status ≡ Done

abbrev SomeUndone : List TaskRow → Type 0
SomeUndone rows = (t : ℕ) × (row : TaskRow) × (slice_get rows t ≡ Some row) × (is_done_row row ≡ false)

all_more : (r : TaskRow) (rows : List TaskRow) → r.status ≡ Done → AllDone rows → AllDone (r ∷ rows)
all_more r rows done all zero row found = let same : r ≡ row = cc in ap (λ (x : TaskRow). x.status) (sym same) ∙ done
all_more r rows done all (suc t) row found = all t row found

done_or_not : (rows : List TaskRow) → AllDone rows ⊎ SomeUndone rows
done_or_not [] = inl (λ t row found. absurd (cc))
done_or_not (r ∷ rows) =
    ⊎_elim
    (λ done. ⊎_elim
    (λ all. inl (all_more r rows (done_status r.status done) all))
    (λ some. inr (suc some.0, some.1, some.2, some.3))
    (done_or_not rows))
    (λ undone. inr (0, r, refl, undone))
    (cases_Bool (is_done_row r))

pub some_undone : (st : State) → LinksAgree st → ¬ AllTasksDone st → (t : ℕ) × IsUndone st.links t
some_undone st agree undone =
    ⊎_elim
    (λ all. absurd (undone all))
    (λ some. (some.0, undone_row st some.0 some.1 agree some.2 some.3))
    (done_or_not st.tasks)

-- a task waits for nobody, or for a task
waits_or_not_by : (links : List Link) (t : ℕ) (waits : Option ℕ) → (link_of links t).waits ≡ waits → WaitsForNobody links t ⊎ ((u : ℕ) × WaitsFor links t u)
waits_or_not_by links t None e = inl (λ u wait. let some = wait.waits in absurd (cc))
waits_or_not_by links t (Some u) e =
    ⊎_elim
    (λ done. inl (λ v wait.
    let some = wait.waits in
    let same : v ≡ u = cc in
    let open_one : (link_of links u).done ≡ false = subst (λ (w : ℕ). (link_of links w).done ≡ false) same wait.undone in
    absurd (cc)))
    (λ undone. inr (u, record { waits = e; undone = undone }))
    (cases_Bool (link_of links u).done)

pub waits_or_not : (links : List Link) (t : ℕ) → WaitsForNobody links t ⊎ ((u : ℕ) × WaitsFor links t u)
waits_or_not links t = waits_or_not_by links t (link_of links t).waits refl

-- if P cannot be refuted at any number below n, it cannot be refuted at all of them at once
none_fails : (n : ℕ) (P : ℕ → Type 0) → ((s : ℕ) → s < n → ¬ ¬ P s) → ¬ ¬ ((s : ℕ) → s < n → P s)
none_fails zero P each all = all (λ s below. absurd (omega arith))
none_fails (suc n) P each all =
    each n (omega arith) (λ last.
    none_fails n P (λ s below. each s (omega arith)) (λ first.
    all (λ s below. ⊎_elim (λ (lower : s < n). first s lower) (λ (upper : n ≤ s). let same : n ≡ s = omega arith in subst P same last) (cases_lt s n))))

-- s is no bar to t
abbrev Yields : State → ℕ → ℕ → Type 0
Yields st t s = s ≢ t → HasStatus st s Enabled → Interfere st s t → YieldsTo st.links s t

-- so if a task that was made may not be admitted, it has a bar
bar_or_admission : (st : State) (t : ℕ) → HasStatus st t Made → ¬ MayAdmit st t → ((s : ℕ) → ¬ IsBar st s t) → ⊥
bar_or_admission st t made held free =
    none_fails (length st.tasks) (Yields st t)
    (λ s below bar. bar (λ other enabled interfere. absurd (free s (other, enabled, interfere, λ yields. bar (λ o e i. yields)))))
    (λ all. held (made, λ s other enabled interfere. all s (slice_get_within st.tasks s enabled.0 enabled.1) other enabled interfere))

module _ (st : State) (held : List (Option ℕ)) (agree : LinksAgree st) (are : AreHolders st held) (stuck : (mv : Move) → ¬ MayMove st mv) (well : (t : ℕ) → ¬ HasStatus st t Faulted) where
  -- a task that was made has a holder
  made_held_up : (t : ℕ) (holder : Option ℕ) → HasStatus st t Made → holder_of held t ≡ holder → IsHolder st t holder → IsHeldUp st.links held t
  made_held_up t None made e is = absurd (bar_or_admission st t made (stuck (record { kind = Admit; task = t })) (is made))
  made_held_up t (Some s) made e is =
      let bar = is.1.bar.1 in
      inr (s, e, undone_row st s bar.0 agree bar.1 (ap is_done_status bar.2))

  -- and one that is enabled waits
  held_up_by : (t : ℕ) (row : TaskRow) (status : TaskStatus) → slice_get st.tasks t ≡ Some row → row.status ≡ status → is_done_row row ≡ false → IsHeldUp st.links held t
  held_up_by t row Made found e undone =
      made_held_up t (holder_of held t) (row, found, e) refl (are.each t (slice_get_within st.tasks t row found))
  held_up_by t row Enabled found e undone =
      ⊎_elim
      (λ nobody. absurd (stuck (record { kind = Run; task = t }) ((row, found, e), nobody)))
      (λ waits. inl waits)
      (waits_or_not st.links t)
  held_up_by t row Done found e undone = let done : is_done_row row ≡ true = ap is_done_status e in absurd (cc)
  held_up_by t row Faulted found e undone = absurd (well t (row, found, e))

  held_up_at : (t : ℕ) (found : Option TaskRow) → slice_get st.tasks t ≡ found → IsUndone st.links t → IsHeldUp st.links held t
  held_up_at t None e undone = absurd (not_past st.tasks t e (let below = undone.there in omega (arith, below, linked st agree)))
  held_up_at t (Some row) e undone = held_up_by t row row.status e refl (sym (done_link st t row agree e) ∙ undone.undone)

  pub all_held_up : AllAreHeldUp st.links held
  all_held_up t undone = held_up_at t (slice_get st.tasks t) refl undone
