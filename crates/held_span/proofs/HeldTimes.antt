-- The earliest times of nodes are those of their entries: an entry that another one follows is covered by a path of nodes, each of
-- which ends before the next one starts.
use Rattle.std.proofs.Common.{◌≡◌, ◌<◌, ◌≤◌, inl, inr, ℕ, List, [], ◌∷◌, length, ◌∙◌, arith}
use Rattle.std.specs.Prelude.{slice_index}
use Rattle.std.proofs.lemmas.Option.{slice_get_within}
use Rattle.prefix_tree.specs.declared.part.Part.{Part}
use Rattle.schedules.specs.Timetables.{AreEarliest}
use Rattle.machine_state.specs.declared.state.TaskRow.{TaskRow}
use Rattle.held_span.specs.declared.marks.EffectMarks.{EffectMarks}
use Rattle.span_profile.proofs.Lists.{zip_length}
use Rattle.span_profile.specs.heaviest_chain.Chains.{Leads, weight_at}
use Rattle.span_profile.specs.heaviest_chain.Nodes.{Node, SharesKey, weight_of}
use Rattle.held_span.specs.Freed.{FollowsFreed, RunEntry, stage_weight}
use Rattle.held_span.specs.inner.Paths.{IsPath}
use Rattle.held_span.specs.inner.Spanning.{AreSpanned, ShowsStage}
use Rattle.held_span.specs.inner.Told.{ShareLast}
use Rattle.held_span.proofs.Spans.{weight_same}

module _ (rows : List TaskRow) (tree : List (List Part)) (marks : EffectMarks) (nodes : List Node) (stages : List RunEntry) (spanned : AreSpanned rows tree marks nodes stages)
    (span : ℕ) (starts ends : List ℕ) (early : AreEarliest (Leads SharesKey nodes) (weight_at weight_of nodes) (length nodes) span starts ends) where
  count : length nodes ≡ length stages
  count = zip_length (ShowsStage tree marks) nodes stages spanned.shows

  path_ends : (i : ℕ) (between : List ℕ) (j : ℕ) → j < length nodes → IsPath (Leads SharesKey nodes) i between j → slice_index ends i ≤ slice_index starts j
  path_ends i [] j below path = early.ordered i j (slice_get_within nodes i path.first path.at_first) below path
  path_ends i (k ∷ between) j below path =
      let here = slice_get_within nodes i path.0.first path.0.at_first in
      let next = slice_get_within nodes k path.0.second path.0.at_second in
      let first = early.ordered i k here next path.0 in
      let takes = early.takes k next in
      let rest = path_ends k between j below path.1 in
      omega (arith, first, takes, rest)

  -- who ends as the other starts leads there alone
  last_by : (i : ℕ) (between : List ℕ) (j : ℕ) → j < length nodes → IsPath (Leads SharesKey nodes) i between j → slice_index ends i ≡ slice_index starts j → Leads SharesKey nodes i j
  last_by i [] j below path until = path
  last_by i (k ∷ between) j below path until =
      let here = slice_get_within nodes i path.0.first path.0.at_first in
      let next = slice_get_within nodes k path.0.second path.0.at_second in
      let first = early.ordered i k here next path.0 in
      let takes = early.takes k next in
      let some = early.some k next in
      let rest = path_ends k between j below path.1 in
      absurd (omega (arith, first, takes, some, rest, until))

  pub shares_last : ShareLast rows nodes stages starts ends
  shares_last i j follows until =
      let path = spanned.covers i j follows in
      last_by i path.0 j (let there = slice_get_within stages j follows.second follows.at_second in let same = count in omega (arith, there, same)) path.1 until

  within : (entry : ℕ) → entry < length stages → entry < length nodes
  within entry less = let same = count in omega (arith, less, same)

  back : (entry : ℕ) → entry < length nodes → entry < length stages
  back entry less = let same = count in omega (arith, less, same)

  weighs : (entry : ℕ) → weight_at weight_of nodes entry ≡ weight_at stage_weight stages entry
  weighs entry = weight_same tree marks nodes stages spanned.shows entry

  pub earliest_held : AreEarliest (Leads (FollowsFreed rows) stages) (weight_at stage_weight stages) (length stages) span starts ends
  earliest_held = record {
    starts_count = early.starts_count ∙ count;
    ends_count = early.ends_count ∙ count;
    takes = λ entry less. (let takes = early.takes entry (within entry less) in let same = weighs entry in omega (arith, takes, same));
    some = λ entry less. (let some = early.some entry (within entry less) in let same = weighs entry in omega (arith, some, same));
    ordered = λ entry next less below follows. (let path = spanned.covers entry next follows in path_ends entry path.0 next (within next below) path.1);
    tight = λ entry less. elim (early.tight entry (within entry less)) [
      | inl first ↦ inl first
      | inr before ↦ inr (before.0, back before.0 before.1, spanned.sound before.0 entry before.2, before.3)
    ];
    within = λ entry less. early.within entry (within entry less);
    reached = elim early.reached [ inl none ↦ inl none | inr last ↦ inr (last.0, back last.0 last.1, last.2) ];
  }
