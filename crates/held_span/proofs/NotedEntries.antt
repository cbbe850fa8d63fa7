-- What is noted of the entries of a run, over a legal move.
use Rattle.std.proofs.Common.{◌≡◌, ◌≢◌, ◌<◌, ◌≤◌, ◌+◌, ◌++◌, inl, inr, ℕ, Bool, true, false, List, [], ◌∷◌, length, length-append, Option, None, Some, IsTrue, refl, sym, ap, ◌∙◌, subst, arith}
use Rattle.std.specs.Prelude.{slice_get}
use Rattle.std.specs.List.{Contains}
use Rattle.std.proofs.lemmas.Bool.{cases_eq}
use Rattle.std.proofs.lemmas.Option.{slice_get_within}
use Rattle.effect_sets.specs.Access.{PathAccess}
use Rattle.seg_journal.specs.declared.journal.End.{End}
use Rattle.seg_journal.specs.declared.journal.End.TheVariants as ends
use Rattle.seg_journal.specs.declared.moves.Kind.{Kind}
use Rattle.seg_journal.specs.declared.moves.Kind.TheVariants.{Admit, Run}
use Rattle.seg_journal.specs.declared.moves.Move.{Move}
use Rattle.twe_base.specs.Limits.{Bounds}
use Rattle.twe_program.specs.Program.{Program}
use Rattle.twe_program.specs.WellFormed.{IsWellFormed}
use Rattle.machine_state.specs.declared.state.State.{State}
use Rattle.machine_state.specs.declared.state.TaskRow.{TaskRow}
use Rattle.machine_state.specs.declared.state.TaskStatus.TheVariants.{Done, Enabled, Made}
use Rattle.machine_state.specs.Changes.{LeavesAlone, made_by}
use Rattle.machine_state.specs.Legal.{MayMove, MayTake}
use Rattle.machine_state.specs.Moves.{move_result}
use Rattle.machine_state.specs.Rows.{HasStatus}
use Rattle.machine_state.specs.Runs.{is_done}
use Rattle.machine_state.proofs.lists.Places.{below_there}
use Rattle.machine_state.proofs.standing.Standing.{Stands}
use Rattle.machine_state.proofs.tasks.OtherTasks.{other}
use Rattle.held_span.proofs.Longer.{get-cases, get-kept, get-last}
use Rattle.span_profile.proofs.Lists.{contains_none}
use Rattle.span_profile.specs.LeadsTo.{LeadsTo, conflict, gives_value, makes, same_task}
use Rattle.span_profile.specs.Strands.{Strand, admission, made_task}
use Rattle.span_profile.specs.heaviest_chain.Nodes.{Node, SharesKey}
use Rattle.held_span.specs.Freed.{FreesFrom, IsBy, RunEntry}
use Rattle.held_span.specs.Holds.{MakesTask}
use Rattle.held_span.specs.Ways.{IsOnWay}
use Rattle.held_span.specs.declared.notes.EntryNotes.{EntryNotes}
use Rattle.held_span.specs.inner.Noting.{AreNoted, HasBegun, MakesOrFrees, TellHolders, TellLowest, TellMakers, holder_by, low_at, low_found, low_of, makers_after, noted}
use Rattle.held_span.proofs.Admissions.{waiter_enabled}
use Rattle.held_span.proofs.Ancestors.{first_step}
use Rattle.held_span.proofs.Further.{leads_cases}
use Rattle.held_span.proofs.SharedKeys.{LeadsOrFrees}
use Rattle.held_span.proofs.Statuses.{mover_after, one_status, status_after}

-- An entry whose task has begun.

module _ (p : Program) (lim : Bounds) (st : State) (stands : Stands p lim st) (strand : Strand) (begun : HasBegun st strand) where
  -- a task that has ended waits for nobody
  ended_waits : (w : ℕ) → IsTrue strand.done → IsBy strand w → ¬ HasStatus st w Enabled
  ended_waits w done (inl is) enabled =
      let both = one_status st w begun.status Enabled (subst (λ (t : ℕ). HasStatus st t begun.status) is begun.has) enabled in
      let over = (begun.over done).0 in
      cc (both, over)
  ended_waits w done (inr is) enabled = let none = (begun.over done).1 in cc (is, none)

  -- so an entry by a task on a way has done none
  pub never_done : (s t w : ℕ) → IsOnWay st.links s t w → IsBy strand w → strand.done ≡ false
  never_done s t w way by = by_test strand.done refl
    where
      by_test : (b : Bool) → strand.done ≡ b → b ≡ false
      by_test false is = refl
      by_test true is =
          let step = first_step way.waits way.other in
          absurd (ended_waits w is by (waiter_enabled p lim st stands w step.0 step.1))

  -- and no entry before the admission of a task is of that
  pub not_mine : (t : ℕ) → HasStatus st t Made → strand.task ≢ t
  not_mine t made same = begun.begun (one_status st t begun.status Made (subst (λ (u : ℕ). HasStatus st u begun.status) same begun.has) made)

-- What leads to an admission has made its task.
makes_admitted : (a b : Strand) (t : ℕ) → b ≡ admission t → a.task ≢ b.task → LeadsTo a b → a.made ≡ Some b.task
makes_admitted a b t is apart (same_task same) = absurd (apart same)
makes_admitted a b t is apart (makes made) = made
makes_admitted a b t is apart (gives_value done taken) = absurd (let none = ap (λ (s : Strand). s.taken) is in cc (taken, none))
makes_admitted a b t is apart (conflict x y first second meets) =
    absurd (contains_none y (subst (λ (l : List PathAccess). Contains l y) (ap (λ (s : Strand). s.accesses) is) second))

-- The makers of tasks, with one entry more.
module _ (stages : List RunEntry) (makers : List (Option ℕ)) (told : TellMakers stages makers) (b : RunEntry) where
  makes_still : (task number : ℕ) → MakesTask stages number task → MakesTask (stages ++ b ∷ []) number task
  makes_still task number m = record { entry = m.entry; there = get-kept stages b number m.entry m.there; made = m.made }

  makers_same : ((c : ℕ) → ¬ (b.strand.made ≡ Some c)) → TellMakers (stages ++ b ∷ []) makers
  makers_same none task number = (
    λ is. makes_still task number ((told task number).0 is),
    λ m. elim (get-cases stages b number m.entry m.there) [
      | inl old ↦ (told task number).1 (record { entry = m.entry; there = old; made = m.made })
      | inr new ↦ absurd (none task (subst (λ (e : RunEntry). e.strand.made ≡ Some task) new.1 m.made))
    ],
  )

  makers_put : (child : ℕ) → child ≡ length makers → b.strand.made ≡ Some child → (number : ℕ) → number ≡ length stages → TellMakers (stages ++ b ∷ []) (makers ++ Some number ∷ [])
  makers_put child last made number here task i = (
    λ is. elim (get-cases makers (Some number) task (Some i) is) [
      | inl old ↦ makes_still task i ((told task i).0 old)
      | inr new ↦
          let same = new.1 in
          let one : i ≡ number = cc (same) in
          let this : child ≡ task = last ∙ sym new.0 in
          record { entry = b; there = subst (λ (n : ℕ). slice_get (stages ++ b ∷ []) n ≡ Some b) (sym (one ∙ here)) (get-last stages b); made = made ∙ ap Some this }
    ],
    λ m. elim (get-cases stages b i m.entry m.there) [
      | inl old ↦ get-kept makers (Some number) task (Some i) ((told task i).1 (record { entry = m.entry; there = old; made = m.made }))
      | inr new ↦
          let mine = subst (λ (e : RunEntry). e.strand.made ≡ Some task) new.1 m.made in
          let this : task ≡ child = cc (mine, made) in
          let one : number ≡ i = here ∙ sym new.0 in
          subst (λ (n : ℕ). slice_get (makers ++ Some number ∷ []) n ≡ Some (Some i)) (sym (this ∙ last))
          (subst (λ (n : ℕ). slice_get (makers ++ Some number ∷ []) (length makers) ≡ Some (Some n)) one (get-last makers (Some number)))
    ],
  )

-- The holders of admissions, with one entry more.
module _ (rows : List TaskRow) (nodes : List Node) (stages : List RunEntry) (many : length nodes ≡ length stages) (lows : List (Option ℕ)) (as_many : length lows ≡ length stages)
    (told : TellHolders rows nodes stages lows) (y : Node) (b : RunEntry) (low : Option ℕ) where
  low_kept : (j : ℕ) → j < length stages → low_at (lows ++ low ∷ []) j ≡ low_at lows j
  low_kept j below =
      let there = below_there lows j (omega (arith, below, as_many)) in
      ap low_found (get-kept lows low j there.0 there.1) ∙ sym (ap low_found there.1)

  low_last : low_at (lows ++ low ∷ []) (length stages) ≡ low_of low
  low_last = subst (λ (n : ℕ). low_at (lows ++ low ∷ []) n ≡ low_of low) as_many (ap low_found (get-last lows low))

  -- what stands before the new one
  before_last : (i : ℕ) (a : RunEntry) → i < length stages → slice_get (stages ++ b ∷ []) i ≡ Some a → slice_get stages i ≡ Some a
  before_last i a below at = elim (get-cases stages b i a at) [ inl old ↦ old | inr new ↦ (let last = new.0 in absurd (omega (arith, below, last))) ]

  holders_more : ((i : ℕ) (x : Node) (a : RunEntry) → slice_get nodes i ≡ Some x → slice_get stages i ≡ Some a → SharesKey x y → b.kind ≡ Admit → MakesOrFrees rows (low_of low) a b)
      → TellHolders rows (nodes ++ y ∷ []) (stages ++ b ∷ []) (lows ++ low ∷ [])
  holders_more new i j a e leads at there kind = elim (leads_cases SharesKey nodes y i j leads) [
    | inl old ↦
        let below : j < length stages = (let within = slice_get_within nodes j old.second old.at_second in omega (arith, within, many)) in
        let first : i < length stages = (let before = old.before in omega (arith, before, below)) in
        subst (λ (l : ℕ). MakesOrFrees rows l a e) (sym (low_kept j below)) (told i j a e old (before_last i a first at) (before_last j e below there) kind)
    | inr last ↦
        let here : j ≡ length stages = last.0 ∙ many in
        let first : i < length stages = (let within = slice_get_within nodes i last.1.0 last.1.1 in omega (arith, within, many)) in
        elim (get-cases stages b j e there) [
          | inl old ↦ (let within = slice_get_within stages j e old in absurd (omega (arith, within, here)))
          | inr same ↦
              subst (λ (l : ℕ). MakesOrFrees rows l a e) (sym (ap (low_at (lows ++ low ∷ [])) here ∙ low_last))
              (subst (λ (s : RunEntry). MakesOrFrees rows (low_of low) a s) (sym same.1)
              (new i last.1.0 a last.1.1 (before_last i a first at) last.1.2 (subst (λ (s : RunEntry). s.kind ≡ Admit) same.1 kind)))
        ]
  ]

  lowest_more : TellLowest rows stages lows → ((i : ℕ) (a : RunEntry) → slice_get stages i ≡ Some a → (holder : ℕ) → FreesFrom rows holder a b → holder_by a (low_of low) ≤ holder)
      → TellLowest rows (stages ++ b ∷ []) (lows ++ low ∷ [])
  lowest_more before new i j a e less at there holder frees = elim (get-cases stages b j e there) [
    | inl old ↦
        let below : j < length stages = slice_get_within stages j e old in
        let first : i < length stages = omega (arith, less, below) in
        subst (λ (l : ℕ). holder_by a l ≤ holder) (sym (low_kept j below)) (before i j a e less (before_last i a first at) old holder frees)
    | inr same ↦
        let here : j ≡ length stages = same.0 in
        let first : i < length stages = omega (arith, less, here) in
        subst (λ (l : ℕ). holder_by a l ≤ holder) (sym (ap (low_at (lows ++ low ∷ [])) here ∙ low_last))
        (new i a (before_last i a first at) holder (subst (λ (s : RunEntry). FreesFrom rows holder a s) same.1 frees))
  ]

-- One entry more.
module _ (p : Program) (lim : Bounds) (well : IsWellFormed p) (rows : List TaskRow) (st : State) (stands : Stands p lim st) (mv : Move) (end : End) (may : MayMove st mv)
    (end_is : (move_result p lim st mv).1 ≡ end) (alone : LeavesAlone p st (move_result p lim st mv).0 mv end) (nodes : List Node) (stages : List RunEntry) (many : length nodes ≡ length stages)
    (notes : EntryNotes) (noted_before : AreNoted rows st nodes stages notes) (y : Node) (b : RunEntry) (b_kind : b.kind ≡ mv.kind) (admits : b.kind ≡ Admit → b.strand ≡ admission mv.task) (b_makes : b.strand.made ≡ made_task end)
    (b_done : b.strand.done ≡ is_done end) (b_task : b.strand.task ≡ mv.task) where
  abbrev after : State
  after = (move_result p lim st mv).0

  own : HasStatus after mv.task (status_after end)
  own = subst (λ (e : End). HasStatus after mv.task (status_after e)) end_is (mover_after p lim well st mv.kind mv.task may stands)

  begun_by : (e : End) → status_after e ≢ Made
  begun_by ends.Admitted is = cc (is)
  begun_by (ends.Made child) is = cc (is)
  begun_by (ends.Waits on) is = cc (is)
  begun_by (ends.Joins on) is = cc (is)
  begun_by (ends.Done value) is = cc (is)
  begun_by (ends.Fault kind place) is = cc (is)

  over_by : (e : End) → is_done e ≡ true → (status_after e ≡ Done) × (made_task e ≡ None)
  over_by ends.Admitted is = absurd (cc (is))
  over_by (ends.Made child) is = absurd (cc (is))
  over_by (ends.Waits on) is = absurd (cc (is))
  over_by (ends.Joins on) is = absurd (cc (is))
  over_by (ends.Done value) is = (refl, refl)
  over_by (ends.Fault kind place) is = absurd (cc (is))

  -- a task that moves is not done
  mover_goes : (kind : Kind) → MayTake st kind mv.task → ¬ HasStatus st mv.task Done
  mover_goes Admit m done = let both = one_status st mv.task Done Made done m.0 in cc (both)
  mover_goes Run m done = let both = one_status st mv.task Done Enabled done m.0 in cc (both)

  begun_new : HasBegun after b.strand
  begun_new = record {
    status = status_after end;
    has = subst (λ (t : ℕ). HasStatus after t (status_after end)) (sym b_task) own;
    begun = begun_by end;
    over = λ done. (let over = over_by end (sym b_done ∙ done) in (over.0, b_makes ∙ over.1));
  }

  begun_still : (a : Strand) → HasBegun st a → HasBegun after a
  begun_still a begun = elim (cases_eq a.task mv.task) [
    | inl same ↦ record {
      status = status_after end;
      has = subst (λ (t : ℕ). HasStatus after t (status_after end)) (sym same) own;
      begun = begun_by end;
      over = λ done.
          let over = begun.over done in
          absurd (mover_goes mv.kind may (subst (λ (t : ℕ). HasStatus st t Done) same (subst (HasStatus st a.task) over.0 begun.has)));
    }
    | inr apart ↦
        let kept = other p lim well st mv.kind mv.task may stands a.task begun.has.0 apart begun.has.1 in
        record { status = begun.status; has = (kept.now, kept.there, kept.status ∙ begun.has.2); begun = begun.begun; over = begun.over }
  ]

  begun_more : (number : ℕ) (stage : RunEntry) → slice_get (stages ++ b ∷ []) number ≡ Some stage → HasBegun after stage.strand
  begun_more number stage at = elim (get-cases stages b number stage at) [
    | inl old ↦ begun_still stage.strand (noted_before.begun number stage old)
    | inr new ↦ subst (λ (e : RunEntry). HasBegun after e.strand) (sym new.1) begun_new
  ]

  -- an admission follows what made its task, or what frees it
  admission_follows : (i : ℕ) (a : RunEntry) → slice_get stages i ≡ Some a → (low : ℕ) → LeadsOrFrees rows low a b → b.kind ≡ Admit → MakesOrFrees rows low a b
  admission_follows i a at low (inl leads) kind =
      let made = may_admit mv.kind may (sym b_kind ∙ kind) in
      let apart = not_mine p lim st stands a.strand (noted_before.begun i a at) mv.task made in
      inl (makes_admitted a.strand b.strand mv.task (admits kind) (λ same. apart (same ∙ b_task)) leads)
    where
      may_admit : (k : Kind) → MayTake st k mv.task → k ≡ Admit → HasStatus st mv.task Made
      may_admit Admit m is = m.0
      may_admit Run m is = absurd (cc (is))
  admission_follows i a at low (inr frees) kind = inr frees

  -- the makers after it
  counted_on : (e : End) → end ≡ e → made_task e ≡ None → made_by e ≡ 0 → (length notes.makers ≡ length after.tasks) × TellMakers (stages ++ b ∷ []) notes.makers
  counted_on e is none zero_more =
      let tasks = alone.tasks in
      let no_more = ap made_by is ∙ zero_more in
      let before = noted_before.makers_count in
      let nothing = b_makes ∙ (ap made_task is ∙ none) in
      (omega (arith, tasks, no_more, before), makers_same stages notes.makers noted_before.makers b (λ c made. cc (made, nothing)))

  counted : (e : End) → end ≡ e → (length (makers_after notes.makers (length notes.lows) e) ≡ length after.tasks) × TellMakers (stages ++ b ∷ []) (makers_after notes.makers (length notes.lows) e)
  counted ends.Admitted is = counted_on ends.Admitted is refl refl
  counted (ends.Made c) is =
      let tasks = alone.tasks in
      let one = ap made_by is in
      let before = noted_before.makers_count in
      let number = alone.made c is in
      let longer = length-append notes.makers (Some (length notes.lows) ∷ []) in (
        omega (arith, tasks, one, before, longer),
        makers_put stages notes.makers noted_before.makers b c (number ∙ sym before) (b_makes ∙ ap made_task is) (length notes.lows) noted_before.lows_count,
      )
  counted (ends.Waits on) is = counted_on (ends.Waits on) is refl refl
  counted (ends.Joins on) is = counted_on (ends.Joins on) is refl refl
  counted (ends.Done value) is = counted_on (ends.Done value) is refl refl
  counted (ends.Fault kind place) is = counted_on (ends.Fault kind place) is refl refl

  pub noted_more : (low : Option ℕ) → ((i : ℕ) (a : RunEntry) → slice_get stages i ≡ Some a → (holder : ℕ) → FreesFrom rows holder a b → holder_by a (low_of low) ≤ holder)
      → ((i : ℕ) (x : Node) (a : RunEntry) → slice_get nodes i ≡ Some x → slice_get stages i ≡ Some a → SharesKey x y → LeadsOrFrees rows (low_of low) a b)
      → AreNoted rows after (nodes ++ y ∷ []) (stages ++ b ∷ []) (noted notes end low)
  noted_more low least told = record {
    lows_count = length-append notes.lows (low ∷ []) ∙ (ap (λ (n : ℕ). n + 1) noted_before.lows_count ∙ sym (length-append stages (b ∷ [])));
    holders = holders_more rows nodes stages many notes.lows noted_before.lows_count noted_before.holders y b low
        (λ i x a at here shared kind. admission_follows i a here (low_of low) (told i x a at here shared) kind);
    lowest = lowest_more rows nodes stages many notes.lows noted_before.lows_count noted_before.holders y b low noted_before.lowest least;
    makers_count = (counted end refl).0;
    makers = (counted end refl).1;
    begun = begun_more;
  }
