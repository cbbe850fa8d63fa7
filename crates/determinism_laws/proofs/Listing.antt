-- The segments below a task can be listed, since one can follow the parents of each task.
use Rattle.std.proofs.Common.{◌≡◌, ◌≢◌, ◌⊎◌, ◌≤◌, ◌<◌, ◌+◌, ℕ, zero, suc, List, [], ◌∷◌, ◌++◌, Option, None, Some, inl, inr, refl, sym, ap, ◌∙◌, subst, arith}
use Rattle.std.specs.Prelude.{slice_get}
use Rattle.std.proofs.lemmas.Bool.{cases_eq}
use Rattle.seg_journal.specs.declared.journal.Entry.{Entry}
use Rattle.seg_journal.specs.declared.moves.Kind.{Kind}
use Rattle.seg_journal.specs.declared.moves.Kind.TheVariants.{Admit, Run}
use Rattle.twe_base.specs.Limits.{Bounds}
use Rattle.twe_program.specs.Program.{Program}
use Rattle.twe_program.specs.WellFormed.{IsWellFormed}
use Rattle.isolation_laws.specs.soundness.KeepsEffects.{KeepsEffects}
use Rattle.wait_graph.specs.Chain.{none, more}
use Rattle.wait_graph.proofs.ChainLemmas.{Chain-rest, Chain-stays}
use Rattle.machine_state.specs.declared.state.State.{State}
use Rattle.machine_state.specs.declared.state.TaskRow.{TaskRow}
use Rattle.machine_state.specs.Changes.{next_segment}
use Rattle.machine_state.specs.Runs.{Legal, state_after}
use Rattle.machine_state.proofs.lists.Places.{got_one}
use Rattle.determinism_laws.specs.Orders.{SegmentAccesses}
use Rattle.determinism_laws.specs.Ranks.{BelowTask, HasParent, IsBelow}
use Rattle.determinism_laws.specs.Segments.{IsSegmentOf, state_before}
use Rattle.determinism_laws.specs.Sequential.{IsSegmentAt, SegmentsCanBeListed}
use Rattle.determinism_laws.proofs.RankLaws.{all_have_ranks, ancestor, one_parent, parent_below, segment_at}
use Rattle.determinism_laws.proofs.Trees.{runner}

module _ (p : Program) (wf : IsWellFormed p) (keeps : KeepsEffects p) (lim : Bounds) (journal : List Entry) (legal : Legal p lim journal) (t : ℕ) where
  abbrev final : State
  final = state_after p lim journal

  -- it is decided whether task u is below t
  abbrev Decided : ℕ → Type 0
  Decided u = BelowTask final t u ⊎ ¬ BelowTask final t u

  -- a task other than t is below t exactly if its parent is
  by_parent : (u q : ℕ) → u ≢ t → HasParent final u q → Decided q → Decided u
  by_parent u q differ parent (inl above) = inl (more parent above)
  by_parent u q differ parent (inr outside) =
      inr (λ chain. outside (Chain-rest (λ other first. one_parent p wf keeps lim journal legal u q other parent first) differ chain))

  no_parent : (u : ℕ) → u ≢ t → ((q : ℕ) → ¬ HasParent final u q) → Decided u
  no_parent u differ alone = inr (λ chain. differ (Chain-stays alone chain))

  by_row : (u : ℕ) → u ≢ t → ((q : ℕ) → q < u → Decided q) → (row : TaskRow) → slice_get final.tasks u ≡ Some row → (parent : Option ℕ) → row.parent ≡ parent → Decided u
  by_row u differ earlier row there None of =
      no_parent u differ
      (λ q has.
      let same : row ≡ has.0 = got_one (slice_get final.tasks u) there has.1 in
      let both : None ≡ Some q = sym of ∙ (ap (λ (r : TaskRow). r.parent) same ∙ has.2) in
      cc (both))
  by_row u differ earlier row there (Some q) of =
      let parent : HasParent final u q = (row, there, of) in
      by_parent u q differ parent (earlier q (parent_below p wf keeps lim journal legal u q parent))

  by_found : (u : ℕ) → u ≢ t → ((q : ℕ) → q < u → Decided q) → (found : Option TaskRow) → slice_get final.tasks u ≡ found → Decided u
  by_found u differ earlier None gone = no_parent u differ (λ q has. let some = has.1 in cc (some, gone))
  by_found u differ earlier (Some row) there = by_row u differ earlier row there row.parent refl

  decided : (fuel u : ℕ) → u ≤ fuel → Decided u
  decided zero u le = elim (cases_eq u t) [
    | inl same ↦ inl (subst (λ (n : ℕ). BelowTask final t n) (sym same) none)
    | inr differ ↦ by_found u differ (λ q below. absurd (omega (arith, le, below))) (slice_get final.tasks u) refl
  ]
  decided (suc fuel) u le = elim (cases_eq u t) [
    | inl same ↦ inl (subst (λ (n : ℕ). BelowTask final t n) (sym same) none)
    | inr differ ↦ by_found u differ (λ q below. decided fuel q (omega (arith, le, below))) (slice_get final.tasks u) refl
  ]

  -- so it is decided whether the segment at a place is below t
  abbrev DecidedAt : ℕ → Type 0
  DecidedAt n = IsBelow p lim journal t n ⊎ ¬ IsBelow p lim journal t n

  at_kind : (n : ℕ) (entry : Entry) (kind : Kind) → slice_get journal n ≡ Some entry → entry.mv.kind ≡ kind → DecidedAt n
  at_kind n entry Admit there is =
      inr (λ below.
      let runs = segment_at p wf keeps lim journal legal below.0 t n below.1 in
      let same : entry ≡ runs.1.entry = got_one (slice_get journal n) there runs.1.there in
      let both : Admit ≡ Run = sym is ∙ (ap (λ (e : Entry). e.mv.kind) same ∙ runs.1.runs) in
      cc (both))
  at_kind n entry Run there is =
      let segment : IsSegmentOf journal entry.mv.task n = record { entry = entry; there = there; runs = is; task = refl } in
      elim (decided entry.mv.task entry.mv.task (omega arith)) [
        | inl below ↦ inl (all_have_ranks p wf keeps lim journal legal t n entry.mv.task segment below)
        | inr outside ↦ inr (λ below. outside (ancestor p wf keeps lim journal legal below.0 t n entry.mv.task below.1 segment))
      ]

  at_entry : (n : ℕ) (found : Option Entry) → slice_get journal n ≡ found → DecidedAt n
  at_entry n None gone =
      inr (λ below. let runs = segment_at p wf keeps lim journal legal below.0 t n below.1 in let some = runs.1.there in cc (some, gone))
  at_entry n (Some entry) there = at_kind n entry entry.mv.kind there refl

  -- what the segment at a place accesses
  segment_of : (n : ℕ) → IsBelow p lim journal t n → (s : SegmentAccesses) × IsSegmentAt p lim journal n s
  segment_of n below =
      let runs = segment_at p wf keeps lim journal legal below.0 t n below.1 in
      let may = runner p wf keeps lim journal legal runs.0 n runs.1 in (
        record { key = n; accesses = (next_segment p (state_before p lim journal n) may.0.0).accesses },
        record { task = runs.0; segment = runs.1; row = may.0.0; there = may.0.1; key = refl; accesses = refl },
      )

  can_be_listed : SegmentsCanBeListed p lim journal t
  can_be_listed from zero = ([], refl)
  can_be_listed from (suc count) =
      let before = can_be_listed from count in
      elim (at_entry (from + count) (slice_get journal (from + count)) refl) [
        | inl below ↦ let s = segment_of (from + count) below in (before.0 ++ s.0 ∷ [], inl (before.0, s.0, before.1, below, s.1, refl))
        | inr outside ↦ (before.0, inr (outside, before.1))
      ]

pub segments_can_be_listed : (p : Program) → IsWellFormed p → KeepsEffects p → (lim : Bounds) (journal : List Entry) → Legal p lim journal → (t : ℕ) → SegmentsCanBeListed p lim journal t
segments_can_be_listed p wf keeps lim journal legal t = can_be_listed p wf keeps lim journal legal t
