-- What the node of an entry gives and asks for, once the entry was noted.
use Rattle.std.proofs.Common.{◌≡◌, ◌++◌, ◌↔◌, ◌⊎◌, inl, inr, ℕ, true, false, List, length, map, Option, refl, sym, ◌∙◌, subst}
use Rattle.std.specs.List.{Contains}
use Rattle.std.proofs.lemmas.Bool.{false≢true}
use Rattle.std.proofs.lemmas.List.Elements.{Contains-append_cases, Contains-append_left, Contains-append_right}
use Rattle.prefix_tree.specs.declared.part.Part.{Part}
use Rattle.seg_journal.specs.declared.journal.End.{End}
use Rattle.seg_journal.specs.declared.journal.End.TheVariants as ends
use Rattle.seg_journal.specs.declared.moves.Kind.TheVariants.{Admit}
use Rattle.machine_state.specs.declared.state.State.{State}
use Rattle.machine_state.specs.declared.state.TaskRow.{TaskRow}
use Rattle.machine_state.specs.Runs.{is_done}
use Rattle.held_span.specs.Marks.{left_by, seen_by}
use Rattle.held_span.specs.declared.marks.EffectMark.{EffectMark}
use Rattle.held_span.specs.declared.marks.EffectMarks.{EffectMarks}
use Rattle.span_profile.proofs.Lists.{contains_map, map_contains}
use Rattle.span_profile.specs.Recorders.{node_with}
use Rattle.span_profile.specs.declared.heaviest_chain.key.Key.{Key}
use Rattle.span_profile.specs.declared.heaviest_chain.key.Key.TheVariants.{Task}
use Rattle.span_profile.specs.declared.recording.EntryKeys.{EntryKeys}
use Rattle.span_profile.specs.inner.Shows.{Shows}
use Rattle.held_span.specs.Freed.{RunEntry}
use Rattle.held_span.specs.declared.freeing.Freeing.{Freeing}
use Rattle.held_span.specs.inner.Freeing.{IsNotedBy, mark_keys}
use Rattle.held_span.specs.inner.Keys.{mark_key}
use Rattle.held_span.specs.inner.Spanning.{GivesMark, IsBelow, ShowsStage}
use Rattle.held_span.proofs.SharedKeys.{AsksMark, AsksWay}

module _ (tree : List (List Part)) (marks : EffectMarks) (stage : RunEntry) (before after : EntryKeys) (shown : Shows tree (node_with before) stage.strand)
    (below : IsBelow (length marks.lists) stage.strand) (weight : after.weight ≡ before.weight) where
  abbrev shows_by : ((key : Key) → Contains after.gives key ↔ (Contains before.gives key ⊎ GivesMark marks stage key)) → ShowsStage tree marks (node_with after) stage
  shows_by gives = record { base = node_with before; shown = shown; weight = weight ∙ shown.weight; below = below; gives = gives }

  -- the node shows the stage, over what the entry did
  abbrev pub IsShown : Type 0
  IsShown = (s : ShowsStage tree marks (node_with after) stage) × (s.base ≡ node_with before)

  -- nothing is given beyond what it did
  shows_same : after.gives ≡ before.gives → stage.strand.done ≡ false → IsShown
  shows_same same undone = (
    shows_by (λ key. (
      λ has. inl (subst (λ (l : List Key). Contains l key) same has),
      λ has. elim has [
        | inl old ↦ subst (λ (l : List Key). Contains l key) (sym same) old
        | inr mark ↦ absurd (false≢true (sym undone ∙ mark.0))
      ],
    )),
    refl,
  )

  -- the marks of the task that is done are given, too
  shows_done : after.gives ≡ before.gives ++ mark_keys marks (left_by marks stage.strand.task) → stage.strand.done ≡ true → IsShown
  shows_done more done =
      let left = left_by marks stage.strand.task in (
        shows_by (λ key. (
          λ has. elim (Contains-append_cases before.gives (mark_keys marks left) key (subst (λ (l : List Key). Contains l key) more has)) [
            | inl old ↦ inl old
            | inr new ↦ (let mark = map_contains (mark_key (length marks.lists)) left key new in inr (done, (mark.0, mark.1, sym mark.2)))
          ],
          λ has. subst (λ (l : List Key). Contains l key) (sym more)
              (elim has [
                | inl old ↦ Contains-append_left before.gives (mark_keys marks left) key old
                | inr mark ↦
                    Contains-append_right before.gives (mark_keys marks left) key
                    (subst (λ (k : Key). Contains (mark_keys marks left) k) (sym mark.1.2) (contains_map (mark_key (length marks.lists)) left mark.1.0 mark.1.1))
              ]),
        )),
        refl,
      )

  pub shows_noted : (st : State) (t : ℕ) (low : Option ℕ) (old new : Freeing) (end : End) → stage.strand.task ≡ t → stage.strand.done ≡ is_done end → IsNotedBy marks st t low old new before after end → IsShown
  shows_noted st t low old new ends.Admitted task done noted = shows_same noted.1 done
  shows_noted st t low old new (ends.Made child) task done noted = shows_same noted.1 done
  shows_noted st t low old new (ends.Waits on) task done noted = shows_same noted.1 done
  shows_noted st t low old new (ends.Joins on) task done noted = shows_same noted.1 done
  shows_noted st t low old new (ends.Done value) task done noted =
      shows_done (subst (λ (u : ℕ). after.gives ≡ before.gives ++ mark_keys marks (left_by marks u)) (sym task) noted.1) done
  shows_noted st t low old new (ends.Fault kind place) task done noted = shows_same noted.1 done

-- What an entry asks for.

module _ (marks : EffectMarks) (stage : RunEntry) (before after : EntryKeys) (rows : List TaskRow) where
  -- nothing beyond what it did
  pub asked_same : (low : ℕ) → after.asks ≡ before.asks → (key : Key) → Contains after.asks key → Contains before.asks key ⊎ (AsksMark marks stage key ⊎ AsksWay rows (length marks.lists) low stage key)
  asked_same low same key has = inl (subst (λ (l : List Key). Contains l key) same has)

  module _ (walk : List ℕ) (t : ℕ) (task : stage.strand.task ≡ t) (kind : stage.kind ≡ Admit)
      (keys : after.asks ≡ (before.asks ++ mark_keys marks (seen_by marks t)) ++ map (λ w. Task w) walk) where
    abbrev tasks : List Key
    tasks = map (λ w. Task w) walk

    abbrev seen : List Key
    seen = mark_keys marks (seen_by marks t)

    seen_mark : (key : Key) → Contains seen key → AsksMark marks stage key
    seen_mark key has =
        let mark = map_contains (mark_key (length marks.lists)) (seen_by marks t) key has in
        (kind, (mark.0, subst (λ (u : ℕ). Contains (seen_by marks u) mark.0) (sym task) mark.1, sym mark.2))

    pub asked_freed : (low : ℕ) → ((w : ℕ) → Contains walk w → AsksWay rows (length marks.lists) low stage (Task w)) → (key : Key) → Contains after.asks key
        → Contains before.asks key ⊎ (AsksMark marks stage key ⊎ AsksWay rows (length marks.lists) low stage key)
    asked_freed low ways key has = elim (Contains-append_cases (before.asks ++ seen) tasks key (subst (λ (l : List Key). Contains l key) keys has)) [
      | inl first ↦ elim (Contains-append_cases before.asks seen key first) [ inl old ↦ inl old | inr mark ↦ inr (inl (seen_mark key mark)) ]
      | inr last ↦
          let w = map_contains (λ w. Task w) walk key last in
          inr (inr (subst (λ (k : Key). AsksWay rows (length marks.lists) low stage k) w.2 (ways w.0 w.1)))
    ]

    back : (key : Key) → Contains ((before.asks ++ seen) ++ tasks) key → Contains after.asks key
    back key has = subst (λ (l : List Key). Contains l key) (sym keys) has

    pub asks_base : (key : Key) → Contains before.asks key → Contains after.asks key
    asks_base key has = back key (Contains-append_left (before.asks ++ seen) tasks key (Contains-append_left before.asks seen key has))

    pub asks_mark : (mark : EffectMark) → Contains (seen_by marks stage.strand.task) mark → Contains after.asks (mark_key (length marks.lists) mark)
    asks_mark mark has =
        let here = subst (λ (u : ℕ). Contains (seen_by marks u) mark) task has in
        let key = mark_key (length marks.lists) mark in
        back key (Contains-append_left (before.asks ++ seen) tasks key (Contains-append_right before.asks seen key (contains_map (mark_key (length marks.lists)) (seen_by marks t) mark here)))

    pub asks_task : (w : ℕ) → Contains walk w → Contains after.asks (Task w)
    asks_task w has = back (Task w) (Contains-append_right (before.asks ++ seen) tasks (Task w) (contains_map (λ w. Task w) walk w has))
