-- One node more, for one entry more.
use Rattle.std.proofs.Common.{◌≡◌, ◌++◌, ◌⊎◌, inl, inr, ℕ, List, [], ◌∷◌, length, Some, sym, subst}
use Rattle.std.specs.Prelude.{slice_get}
use Rattle.std.specs.List.{Contains}
use Rattle.prefix_tree.specs.declared.part.Part.{Part}
use Rattle.seg_journal.specs.declared.moves.Kind.TheVariants.{Admit}
use Rattle.machine_state.specs.declared.state.TaskRow.{TaskRow}
use Rattle.held_span.specs.Marks.{AreMarksOf, seen_by}
use Rattle.held_span.specs.declared.marks.EffectMark.{EffectMark}
use Rattle.held_span.specs.declared.marks.EffectMarks.{EffectMarks}
use Rattle.span_profile.proofs.Lists.{zip_first, zip_length, zip_push, zip_second}
use Rattle.span_profile.specs.declared.heaviest_chain.key.Key.{Key}
use Rattle.span_profile.specs.heaviest_chain.Chains.{Leads}
use Rattle.span_profile.specs.heaviest_chain.Nodes.{Node, SharesKey}
use Rattle.held_span.specs.Freed.{FollowsFreed, FreesFrom, RunEntry, by_end, by_wait}
use Rattle.held_span.specs.Ways.{IsOnWay, RowsInterfere}
use Rattle.held_span.specs.inner.Keys.{mark_key}
use Rattle.held_span.specs.inner.Noting.{holder_by}
use Rattle.held_span.specs.inner.Paths.{IsPath}
use Rattle.held_span.specs.inner.Spanning.{AreSpanned, IsEntryBy, ShowsStage, effect_lists}
use Rattle.held_span.proofs.Further.{covers_more, leads_last, sound_more}
use Rattle.held_span.proofs.SharedKeys.{AsksMark, AsksWay, IsUndone, LeadsOrFrees, ended_share, leads_share, shared_told}

module _ (rows : List TaskRow) (marks : EffectMarks) (are : AreMarksOf (effect_lists rows) marks) (many : length marks.lists ≡ length rows) (tree : List (List Part))
    (nodes : List Node) (stages : List RunEntry) (spanned : AreSpanned rows tree marks nodes stages) (y : Node) (b : RunEntry) (shows : ShowsStage tree marks y b)
    (low : ℕ) (undone : (i : ℕ) (a : RunEntry) → slice_get stages i ≡ Some a → IsUndone low a b)
    (asked : (key : Key) → Contains y.asks key → Contains shows.base.asks key ⊎ (AsksMark marks b key ⊎ AsksWay rows (length marks.lists) low b key))
    (asks_base : (key : Key) → Contains shows.base.asks key → Contains y.asks key)
    (asks_mark : b.kind ≡ Admit → (mark : EffectMark) → Contains (seen_by marks b.strand.task) mark → Contains y.asks (mark_key (length marks.lists) mark))
    (ways : b.kind ≡ Admit → (s w : ℕ) → RowsInterfere rows s b.strand.task → IsOnWay b.links s b.strand.task w → (i : ℕ) → IsEntryBy stages i w
    → (between : List ℕ) × IsPath (Leads SharesKey (nodes ++ y ∷ [])) i between (length nodes)) where
  pub as_many : length nodes ≡ length stages
  as_many = zip_length (ShowsStage tree marks) nodes stages spanned.shows

  -- an entry whose node shares a key with the new one leads to its entry, or frees it
  pub told_new : (i : ℕ) (x : Node) (a : RunEntry) → slice_get nodes i ≡ Some x → slice_get stages i ≡ Some a → SharesKey x y → LeadsOrFrees rows low a b
  told_new i x a at here shared =
      let there = zip_second (ShowsStage tree marks) nodes stages i a spanned.shows here in
      let same : there.0 ≡ x = cc (there.1, at) in
      shared_told rows marks are many tree x y a b (subst (λ (n : Node). ShowsStage tree marks n a) same there.2) shows low (undone i a here) asked shared

  follows : (a : RunEntry) → LeadsOrFrees rows low a b → FollowsFreed rows a b
  follows a (inl leads) = inl leads
  follows a (inr frees) = inr (holder_by a low, frees)

  sound_new : (i : ℕ) (x : Node) → slice_get nodes i ≡ Some x → SharesKey x y → (a : RunEntry) × (slice_get stages i ≡ Some a) × FollowsFreed rows a b
  sound_new i x at shared =
      let there = zip_first (ShowsStage tree marks) nodes stages i x spanned.shows at in
      (there.0, there.1, follows there.0 (told_new i x there.0 at there.1 shared))

  by_reason : (i : ℕ) (x : Node) (a : RunEntry) → slice_get nodes i ≡ Some x → slice_get stages i ≡ Some a → ShowsStage tree marks x a → (holder : ℕ) → FreesFrom rows holder a b
      → (between : List ℕ) × IsPath (Leads SharesKey (nodes ++ y ∷ [])) i between (length nodes)
  by_reason i x a at here first holder (by_end kind done is interfere) =
      let from = subst (λ (h : ℕ). RowsInterfere rows h b.strand.task) (sym is) interfere in
      ([], leads_last SharesKey nodes y i x at (ended_share rows marks are many tree x y a b first shows (asks_mark kind) done from))
  by_reason i x a at here first holder (by_wait kind w interfere way by) = ways kind holder w interfere way i (a, here, by)

  covers_new : (i : ℕ) (a : RunEntry) → slice_get stages i ≡ Some a → FollowsFreed rows a b → (between : List ℕ) × IsPath (Leads SharesKey (nodes ++ y ∷ [])) i between (length nodes)
  covers_new i a at follows =
      let there = zip_second (ShowsStage tree marks) nodes stages i a spanned.shows at in
      elim follows [
        | inl leads ↦ ([], leads_last SharesKey nodes y i there.0 there.1 (leads_share rows marks are many tree there.0 y a b there.2 shows asks_base leads))
        | inr frees ↦ by_reason i there.0 a there.1 at there.2 frees.0 frees.1
      ]

  pub spanned_more : AreSpanned rows tree marks (nodes ++ y ∷ []) (stages ++ b ∷ [])
  spanned_more = record {
    shows = zip_push (ShowsStage tree marks) nodes stages y b spanned.shows shows;
    sound = sound_more SharesKey (FollowsFreed rows) nodes stages y b as_many spanned.sound sound_new;
    covers = covers_more SharesKey (FollowsFreed rows) nodes stages y b as_many spanned.covers covers_new;
  }
