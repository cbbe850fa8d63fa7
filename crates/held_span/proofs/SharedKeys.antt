-- A key that a node gives and a later one asks for says that the later entry follows the earlier one.
use Rattle.std.proofs.Common.{◌≡◌, ◌<◌, ◌⊎◌, inl, inr, ℕ, Bool, true, false, cond, List, length, Some, IsTrue, refl, sym, ap, ◌∙◌, subst, arith}
use Rattle.std.specs.Prelude.{slice_get}
use Rattle.std.specs.List.{Contains}
use Rattle.std.specs.Option.{option_map}
use Rattle.std.proofs.lemmas.Option.{slice_get-map}
use Rattle.prefix_tree.specs.declared.part.Part.{Part}
use Rattle.seg_journal.specs.declared.moves.Kind.TheVariants.{Admit}
use Rattle.machine_state.specs.declared.state.TaskRow.{TaskRow}
use Rattle.machine_state.proofs.lists.Places.{below_there}
use Rattle.held_span.proofs.Sharing.{shared-iff}
use Rattle.held_span.specs.Marks.{AreMarksOf, SharesMark, left_by, seen_by}
use Rattle.held_span.specs.declared.marks.EffectMark.{EffectMark}
use Rattle.held_span.specs.declared.marks.EffectMarks.{EffectMarks}
use Rattle.span_profile.specs.LeadsTo.{LeadsTo}
use Rattle.span_profile.specs.declared.heaviest_chain.key.Key.{Key}
use Rattle.span_profile.specs.declared.heaviest_chain.key.Key.TheVariants.{Task}
use Rattle.span_profile.specs.heaviest_chain.Nodes.{Node, SharesKey}
use Rattle.span_profile.proofs.Keyed.{leads_shared, shared_leads}
use Rattle.held_span.specs.Freed.{FreesFrom, IsBy, RunEntry, by_end, by_wait}
use Rattle.held_span.specs.Ways.{IsOnWay, RowsInterfere}
use Rattle.held_span.specs.inner.Keys.{mark_key}
use Rattle.held_span.specs.inner.Noting.{holder_by}
use Rattle.held_span.specs.inner.Spanning.{GivesMark, ShowsStage, effect_lists}
use Rattle.held_span.proofs.MarkKeys.{mark_no_task, mark_not_asked, mark_not_given, one_mark}

-- Marks that tasks share say that their effects interfere.
module _ (rows : List TaskRow) (marks : EffectMarks) (are : AreMarksOf (effect_lists rows) marks) where
  effects_at : (s : ℕ) (row : TaskRow) → slice_get rows s ≡ Some row → slice_get (effect_lists rows) s ≡ Some row.effects.effects
  effects_at s row is = slice_get-map (λ (r : TaskRow). r.effects.effects) rows s ∙ ap (option_map (λ (r : TaskRow). r.effects.effects)) is

  pub shared_interfere : (s t : ℕ) → s < length rows → t < length rows → SharesMark marks s t → RowsInterfere rows s t
  shared_interfere s t below_s below_t shared =
      let a = below_there rows s below_s in
      let b = below_there rows t below_t in
      record {
        first = a.0;
        second = b.0;
        at_first = a.1;
        at_second = b.1;
        interfere = (shared-iff (effect_lists rows) marks are s t a.0.effects.effects b.0.effects.effects (effects_at s a.0 a.1) (effects_at t b.0 b.1)).0 shared;
      }

  pub interfere_shared : (s t : ℕ) → RowsInterfere rows s t → SharesMark marks s t
  interfere_shared s t r =
      (shared-iff (effect_lists rows) marks are s t r.first.effects.effects r.second.effects.effects (effects_at s r.first r.at_first) (effects_at t r.second r.at_second)).1 r.interfere

-- What an admission asks for beyond what it did: the marks that its task sees, and the tasks on the ways to it.
abbrev pub AsksMark : EffectMarks → RunEntry → Key → Type 0
AsksMark marks stage key =
    (stage.kind ≡ Admit) × ((mark : EffectMark) × Contains (seen_by marks stage.strand.task) mark × (key ≡ mark_key (length marks.lists) mark))

pub record AsksWay (rows : List TaskRow) (count low : ℕ) (stage : RunEntry) (key : Key) : Type 0 where
  pub kind : stage.kind ≡ Admit
  pub w : ℕ
  pub key_is : key ≡ Task w
  pub below : w < count
  pub interfere : RowsInterfere rows low stage.strand.task
  pub way : IsOnWay stage.links low stage.strand.task w

-- the first entry leads to the second, or frees it from the holder that is known by the lowest one
abbrev pub LeadsOrFrees : List TaskRow → ℕ → RunEntry → RunEntry → Type 0
LeadsOrFrees rows low a b = LeadsTo a.strand b.strand ⊎ FreesFrom rows (holder_by a low) a b

-- an entry by a task on the way to the admitted one has done no task
abbrev pub IsUndone : ℕ → RunEntry → RunEntry → Type 0
IsUndone low a b = (w : ℕ) → IsOnWay b.links low b.strand.task w → IsBy a.strand w → a.strand.done ≡ false

module _ (rows : List TaskRow) (marks : EffectMarks) (are : AreMarksOf (effect_lists rows) marks) (many : length marks.lists ≡ length rows) (tree : List (List Part))
    (x y : Node) (a b : RunEntry) (first : ShowsStage tree marks x a) (second : ShowsStage tree marks y b) where
  abbrev count : ℕ
  count = length marks.lists

  module _ (low : ℕ) (undone : IsUndone low a b) where
    abbrev Asked : Key → Type 0
    Asked key = Contains second.base.asks key ⊎ (AsksMark marks b key ⊎ AsksWay rows count low b key)

    holder_is : (b : Bool) → a.strand.done ≡ b → holder_by a low ≡ cond b a.strand.task low
    holder_is b is = ap (λ (b : Bool). cond b a.strand.task low) is

    by_given : (key : Key) → Contains first.base.gives key → Asked key → LeadsOrFrees rows low a b
    by_given key gives (inl asks) = inl (shared_leads tree first.base second.base a.strand b.strand first.shown second.shown (key, gives, asks))
    by_given key gives (inr (inl mark)) = absurd (mark_not_given count tree first.base a.strand first.shown first.below mark.1.0 key mark.1.2 gives)
    by_given key gives (inr (inr way)) =
        let by = (first.shown.gives (Task way.w)).0 (subst (λ (k : Key). Contains first.base.gives k) way.key_is gives) in
        inr (subst (λ (h : ℕ). FreesFrom rows h a b) (sym (holder_is false (undone way.w way.way by))) (by_wait way.kind way.w way.interfere way.way by))

    by_mark : (key : Key) → GivesMark marks a key → Asked key → LeadsOrFrees rows low a b
    by_mark key gives (inl asks) = absurd (mark_not_asked count tree second.base b.strand second.shown second.below gives.1.0 key gives.1.2 asks)
    by_mark key gives (inr (inl mark)) =
        let same : gives.1.0 ≡ mark.1.0 = one_mark count gives.1.0 mark.1.0 (sym gives.1.2 ∙ mark.1.2) in
        let left : Contains (left_by marks a.strand.task) mark.1.0 = subst (λ (m : EffectMark). Contains (left_by marks a.strand.task) m) same gives.1.1 in
        let below_a = first.below.task in
        let below_b = second.below.task in
        let holder = sym (holder_is true gives.0) in
        inr (by_end mark.0 gives.0 holder (subst (λ (h : ℕ). RowsInterfere rows h b.strand.task) holder
        (shared_interfere rows marks are a.strand.task b.strand.task (omega (arith, below_a, many)) (omega (arith, below_b, many)) (mark.1.0, left, mark.1.1))))
    by_mark key gives (inr (inr way)) = absurd (mark_no_task count gives.1.0 way.w way.below (sym gives.1.2 ∙ way.key_is))

    pub shared_told : ((key : Key) → Contains y.asks key → Asked key) → SharesKey x y → LeadsOrFrees rows low a b
    shared_told asked shared = elim ((first.gives shared.0).0 shared.1) [
      | inl gives ↦ by_given shared.0 gives (asked shared.0 shared.2)
      | inr mark ↦ by_mark shared.0 mark (asked shared.0 shared.2)
    ]

  -- and each entry that the later one follows gives a key that this one asks for, or is on the way to its task
  pub leads_share : ((key : Key) → Contains second.base.asks key → Contains y.asks key) → LeadsTo a.strand b.strand → SharesKey x y
  leads_share asks leads =
      let shared = leads_shared tree first.base second.base a.strand b.strand first.shown second.shown leads in
      (shared.0, (first.gives shared.0).1 (inl shared.1), asks shared.0 shared.2)

  pub ended_share : ((mark : EffectMark) → Contains (seen_by marks b.strand.task) mark → Contains y.asks (mark_key count mark))
      → IsTrue a.strand.done → RowsInterfere rows a.strand.task b.strand.task → SharesKey x y
  ended_share asks done interfere =
      let shared = interfere_shared rows marks are a.strand.task b.strand.task interfere in
      (mark_key count shared.0, (first.gives (mark_key count shared.0)).1 (inr (done, (shared.0, shared.1, refl))), asks shared.0 shared.2)

  pub task_share : (w : ℕ) → IsBy a.strand w → Contains y.asks (Task w) → SharesKey x y
  task_share w by asks = (Task w, (first.gives (Task w)).1 (inl ((first.shown.gives (Task w)).1 by)), asks)
