-- A task leaves its marks as long as it is enabled.
use Rattle.std.proofs.Common.{◌≡◌, ◌↔◌, ◌⊎◌, inl, inr, ℕ, Option, None, Some, sym, subst}
use Rattle.std.specs.List.{Contains}
use Rattle.seg_journal.specs.declared.journal.End.{End}
use Rattle.seg_journal.specs.declared.journal.End.TheVariants as ends
use Rattle.wait_graph.specs.Link.{link_of}
use Rattle.machine_state.specs.declared.state.State.{State}
use Rattle.machine_state.specs.declared.state.TaskStatus.TheVariants.{Enabled}
use Rattle.machine_state.specs.Rows.{HasStatus}
use Rattle.held_span.specs.Marks.{left_by}
use Rattle.held_span.specs.declared.marks.EffectMark.{EffectMark}
use Rattle.held_span.specs.declared.marks.EffectMarks.{EffectMarks}
use Rattle.span_profile.specs.declared.recording.EntryKeys.{EntryKeys}
use Rattle.held_span.specs.declared.freeing.Freeing.{Freeing}
use Rattle.held_span.specs.declared.holders.Holders.{Holders}
use Rattle.held_span.specs.inner.Freeing.{EnteredIf, HaveEntered, HaveLeft, IsNotedBy}
use Rattle.held_span.specs.inner.Holding.{Holds}
use Rattle.held_span.proofs.Statuses.{EnabledBy, EnabledIf}

-- these are the tasks that hold by their marks
abbrev pub HoldEnabled : EffectMarks → State → Holders → Type 0
HoldEnabled marks st holders = (m : EffectMark) (u : ℕ) → Holds holders m u ↔ (HasStatus st u Enabled × Contains (left_by marks u) m)

module _ (marks : EffectMarks) (st new : State) (old later : Holders) (hold : HoldEnabled marks st old) where
  stay : ((u : ℕ) → HasStatus new u Enabled ↔ HasStatus st u Enabled) → later ≡ old → HoldEnabled marks new later
  stay same is m u =
      subst (λ (h : Holders). Holds h m u ↔ (HasStatus new u Enabled × Contains (left_by marks u) m)) (sym is)
      (λ h. let was = (hold m u).0 h in ((same u).1 was.0, was.1), λ h. (hold m u).1 ((same u).0 h.0, h.1))

  grow : (x : ℕ) → ((u : ℕ) → HasStatus new u Enabled ↔ (HasStatus st u Enabled ⊎ (u ≡ x))) → HaveEntered old later x (left_by marks x) → HoldEnabled marks new later
  grow x more entered m u = (
    λ h. elim ((entered m u).0 h) [
      | inl was ↦ (let had = (hold m u).0 was in ((more u).1 (inl had.0), had.1))
      | inr one ↦ ((more u).1 (inr one.0), subst (λ (n : ℕ). Contains (left_by marks n) m) (sym one.0) one.1)
    ],
    λ h. elim ((more u).0 h.0) [
      | inl was ↦ (entered m u).1 (inl ((hold m u).1 (was, h.1)))
      | inr same ↦ (entered m u).1 (inr (same, subst (λ (n : ℕ). Contains (left_by marks n) m) same h.1))
    ],
  )

  shrink : (x : ℕ) → ((u : ℕ) → HasStatus new u Enabled ↔ (HasStatus st u Enabled × ¬ (u ≡ x))) → HaveLeft old later x (left_by marks x) → HoldEnabled marks new later
  shrink x fewer left m u = (
    λ h.
        let was = (left m u).0 h in
        let had = (hold m u).0 was.0 in
        ((fewer u).1 (had.0, λ same. was.1 (same, subst (λ (n : ℕ). Contains (left_by marks n) m) same had.1)), had.1),
    λ h.
        let was = (fewer u).0 h.0 in
        (left m u).1 ((hold m u).1 (was.0, h.1), λ one. was.1 one.0),
  )

  by_parent : (c : ℕ) (parent : Option ℕ) → EnabledIf st new c parent → EnteredIf parent old later c (left_by marks c) → HoldEnabled marks new later
  by_parent c None same is = stay same is
  by_parent c (Some q) more entered = grow c more entered

pub held_after : (marks : EffectMarks) (st new : State) (t : ℕ) (low : Option ℕ) (old later : Freeing) (before after : EntryKeys) (end : End) → HoldEnabled marks st old.holders
    → EnabledBy st new t end → IsNotedBy marks new t low old later before after end → HoldEnabled marks new later.holders
held_after marks st new t low old later before after ends.Admitted hold by noted = grow marks st new old.holders later.holders hold t by noted.2
held_after marks st new t low old later before after (ends.Made c) hold by noted = by_parent marks st new old.holders later.holders hold c (link_of new.links c).parent by noted.3
held_after marks st new t low old later before after (ends.Waits on) hold by noted =
    stay marks st new old.holders later.holders hold by (λ i. (noted.2 i).holders)
held_after marks st new t low old later before after (ends.Joins on) hold by noted =
    stay marks st new old.holders later.holders hold by (λ i. (noted.2 i).holders)
held_after marks st new t low old later before after (ends.Done value) hold by noted = shrink marks st new old.holders later.holders hold t by noted.3
held_after marks st new t low old later before after (ends.Fault kind place) hold by noted = shrink marks st new old.holders later.holders hold t by noted.3
