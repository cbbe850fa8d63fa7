-- The bars of a picture stand at the earliest times.
use Rattle.std.proofs.Common.{◌≡◌, ◌<◌, ◌≤◌, ◌+◌, inl, inr, ℕ, zero, suc, List, [], ◌∷◌, length, take, Some, refl, sym, ap, ◌∙◌, subst, arith}
use Rattle.std.specs.Prelude.{slice_get, slice_index}
use Rattle.std.specs.List.{sum_by}
use Rattle.std.proofs.lemmas.List.Sums.{sum_by-cons}
use Rattle.std.proofs.lemmas.Option.{slice_get-get_or, slice_get_within}
use Rattle.seg_journal.specs.declared.journal.Entry.{Entry}
use Rattle.seg_journal.specs.declared.moves.Move.{Move}
use Rattle.twe_base.specs.Limits.{Bounds}
use Rattle.twe_program.specs.Program.{Program}
use Rattle.machine_state.specs.declared.state.TaskRow.{TaskRow}
use Rattle.machine_state.specs.Moves.{start_of}
use Rattle.machine_state.specs.Runs.{counted}
use Rattle.machine_state.proofs.lists.Places.{below_there}
use Rattle.machine_state.proofs.replays.Replayed.{one_from}
use Rattle.schedules.specs.Timetables.{AreEarliest}
use Rattle.span_profile.specs.LeadsTo.{LeadsTo}
use Rattle.span_profile.specs.Strands.{Strand, strands, weight_of}
use Rattle.span_profile.specs.heaviest_chain.Chains.{Leads, weight_at}
use Rattle.span_profile.proofs.Counted.{counted_legal}
use Rattle.held_span.specs.Freed.{FollowsFreed, Frees, RunEntry, stage_weight, stages}
use Rattle.held_span.specs.Holds.{AreHolds}
use Rattle.held_span.specs.declared.hold.Hold.{Hold}
use Rattle.held_span.proofs.StrandStages.{leads_still, strand_count, weights_at}
use Rattle.twe_draw.specs.picture.Bars.{Shows, bar_length, end_of_bars, time_at, time_found}
use Rattle.twe_draw.specs.picture.Pictures.{IsPicture}
use Rattle.twe_draw.specs.declared.picture.bars.EntryBar.{EntryBar}
use Rattle.twe_draw.proofs.picture.Links.{giver_leads, previous_leads}
use Rattle.twe_draw.proofs.picture.Shown.{IsPlacedAt, as_many, placed, shown}

-- a time that is there
time_is : (times : List ℕ) (k : ℕ) → k < length times → time_at times k ≡ slice_index times k
time_is times k below = ap time_found (slice_get-get_or times k 0 below)

from_zero : (k : ℕ) → 0 + k ≡ k
from_zero k = omega arith

-- no bar ends after the last end, and that is an end if there is a bar
ends_within : (bars : List EntryBar) (most : ℕ) → ((k : ℕ) (bar : EntryBar) → slice_get bars k ≡ Some bar → bar.ends ≤ most) → end_of_bars bars ≤ most
ends_within [] most each = omega arith
ends_within (bar ∷ bars) most each =
    let first = each 0 bar refl in
    let rest = ends_within bars most (λ k b here. each (suc k) b here) in
    omega (arith, first, rest)

one_within : (bars : List EntryBar) (k : ℕ) (bar : EntryBar) → slice_get bars k ≡ Some bar → bar.ends ≤ end_of_bars bars
one_within [] k bar here = absurd (cc)
one_within (first ∷ bars) zero bar here =
    let is : first ≡ bar = cc in
    let same = ap (λ (b : EntryBar). b.ends) is in
    omega (arith, same)
one_within (first ∷ bars) (suc k) bar here = let rest = one_within bars k bar here in omega (arith, rest)

-- bars that are as long as strands weigh are as long together
sums_same : (number : ℕ) (all : List Strand) (bars : List EntryBar) → Shows number all bars → ((k : ℕ) (bar : EntryBar) → slice_get bars k ≡ Some bar → bar.ends ≡ bar.begins + weight_at weight_of all k)
    → sum_by bar_length bars ≡ sum_by weight_of all
sums_same number [] [] shows each = refl
sums_same number [] (bar ∷ bars) shows each = absurd shows
sums_same number (strand ∷ all) [] shows each = absurd shows
sums_same number (strand ∷ all) (bar ∷ bars) shows each =
    let first = each 0 bar refl in
    let rest = sums_same (suc number) all bars shows.1 (λ k b here. each (suc k) b here) in
    let left = sum_by-cons bar_length bar bars in
    let right = sum_by-cons weight_of strand all in
    omega (arith, first, rest, left, right)

module _ (p : Program) (lim : Bounds) (moves : List Move) (work span held : ℕ) (chain : List ℕ) (bars : List EntryBar) (tasks : List TaskRow) (holds : List Hold)
    (picture : IsPicture p lim moves work span held chain bars tasks holds) where
  abbrev pub journal : List Entry
  journal = counted picture.drawn.journal

  abbrev all : List Strand
  all = strands p lim journal

  abbrev pub staged : List RunEntry
  staged = stages p lim journal

  abbrev pub rows : List TaskRow
  rows = picture.times.held.st.tasks

  pub one_bar_each : Shows 0 all bars
  one_bar_each =
      subst (Shows 0 all) (sym picture.drawn.bars_are)
      (shown p lim picture.starts picture.ends (start_of p lim) [] journal (counted_legal p lim (start_of p lim) picture.drawn.journal picture.drawn.legal))

  as_long : length all ≡ length bars
  as_long = as_many 0 all bars one_bar_each

  as_staged : length all ≡ length staged
  as_staged = strand_count p lim (start_of p lim) journal

  -- the times are those of this journal
  same_journal : picture.times.held.journal ≡ journal
  same_journal =
      let run = picture.times.held.run in
      run.journal_is
      ∙ ap counted (one_from p lim (start_of p lim) run.whole picture.drawn.journal run.legal picture.drawn.legal (run.has ∙ sym picture.drawn.has))

  pub earliest : AreEarliest (Leads (FollowsFreed rows) staged) (weight_at stage_weight staged) (length staged) held picture.starts picture.ends
  earliest =
      subst (λ (j : List Entry). AreEarliest (Leads (FollowsFreed rows) (stages p lim j)) (weight_at stage_weight (stages p lim j)) (length (stages p lim j)) held picture.starts picture.ends)
      same_journal picture.times.times

  pub holds_are : AreHolds rows staged picture.starts picture.ends holds
  holds_are = subst (λ (j : List Entry). AreHolds rows (stages p lim j) picture.starts picture.ends holds) same_journal picture.times.holds_are

  work_is : work ≡ sum_by weight_of all
  work_is =
      let same : picture.profile.journal ≡ picture.drawn.journal =
      one_from p lim (start_of p lim) picture.profile.journal picture.drawn.journal picture.profile.legal picture.drawn.legal (picture.profile.has ∙ sym picture.drawn.has) in
      picture.profile.heaviest.work_is ∙ ap (λ (j : List Entry). sum_by weight_of (strands p lim (counted j))) same

  -- where a bar stands
  place : (k : ℕ) (bar : EntryBar) → slice_get bars k ≡ Some bar → IsPlacedAt p lim picture.starts picture.ends (take k bars) (0 + k) bar
  place k bar here =
      let are = picture.drawn.bars_are in
      subst (λ (l : List EntryBar). IsPlacedAt p lim picture.starts picture.ends (take k l) (0 + k) bar) (sym are)
      (placed p lim picture.starts picture.ends (start_of p lim) [] journal k bar (sym (ap (λ (l : List EntryBar). slice_get l k) are) ∙ here))

  below : (k : ℕ) (bar : EntryBar) → slice_get bars k ≡ Some bar → k < length staged
  below k bar here =
      let less = slice_get_within bars k bar here in
      let same = as_long in
      let other = as_staged in
      omega (arith, less, same, other)

  pub bar_there : (k : ℕ) → k < length staged → (bar : EntryBar) × (slice_get bars k ≡ Some bar)
  bar_there k less = let same = as_long in let other = as_staged in below_there bars k (omega (arith, less, same, other))

  pub begins_at : (k : ℕ) (bar : EntryBar) → slice_get bars k ≡ Some bar → bar.begins ≡ slice_index picture.starts k
  begins_at k bar here =
      let less = below k bar here in
      let many = earliest.starts_count in
      (place k bar here).begins_is ∙ (ap (time_at picture.starts) (from_zero k) ∙ time_is picture.starts k (omega (arith, less, many)))

  pub ends_at : (k : ℕ) (bar : EntryBar) → slice_get bars k ≡ Some bar → bar.ends ≡ slice_index picture.ends k
  ends_at k bar here =
      let less = below k bar here in
      let many = earliest.ends_count in
      (place k bar here).ends_is ∙ (ap (time_at picture.ends) (from_zero k) ∙ time_is picture.ends k (omega (arith, less, many)))

  pub weighs : (k : ℕ) (bar : EntryBar) → slice_get bars k ≡ Some bar → bar.ends ≡ bar.begins + weight_at weight_of all k
  weighs k bar here =
      let begin = begins_at k bar here in
      let end = ends_at k bar here in
      let takes = earliest.takes k (below k bar here) in
      let same = weights_at p lim (start_of p lim) journal k in
      omega (arith, begin, end, takes, same)

  ends_first : (i j : ℕ) (first second : EntryBar) → slice_get bars i ≡ Some first → slice_get bars j ≡ Some second → Leads (FollowsFreed rows) staged i j → first.ends ≤ second.begins
  ends_first i j first second here there leads =
      let end = ends_at i first here in
      let begin = begins_at j second there in
      let order = earliest.ordered i j (below i first here) (below j second there) leads in
      omega (arith, end, begin, order)

  pub leads_first : (i j : ℕ) (first second : EntryBar) → slice_get bars i ≡ Some first → slice_get bars j ≡ Some second → Leads LeadsTo all i j → first.ends ≤ second.begins
  leads_first i j first second here there leads = ends_first i j first second here there (leads_still p lim rows journal i j leads)

  pub frees_first : (i j : ℕ) (first second : EntryBar) → slice_get bars i ≡ Some first → slice_get bars j ≡ Some second → Leads (Frees rows) staged i j → first.ends ≤ second.begins
  frees_first i j first second here there frees =
      ends_first i j first second here there
      (record { before = frees.before; first = frees.first; second = frees.second; at_first = frees.at_first; at_second = frees.at_second; leads = inr frees.leads })

  within_span : end_of_bars bars ≤ held
  within_span = ends_within bars held (λ k bar here. let end = ends_at k bar here in let most = earliest.within k (below k bar here) in omega (arith, end, most))

  reaches_span : (entry : ℕ) → entry < length staged → slice_index picture.ends entry ≡ held → held ≤ end_of_bars bars
  reaches_span entry less is =
      let there = bar_there entry less in
      let end = ends_at entry there.0 there.1 in
      let most = one_within bars entry there.0 there.1 in
      omega (arith, is, end, most)

  pub ends_at_span : end_of_bars bars ≡ held
  ends_at_span = elim earliest.reached [
    | inl none ↦ (let most = within_span in omega (arith, none, most))
    | inr last ↦ (let most = within_span in let least = reaches_span last.0 last.1 last.2 in omega (arith, most, least))
  ]

  pub adds_up : sum_by bar_length bars ≡ work
  adds_up = sums_same 0 all bars one_bar_each weighs ∙ sym work_is

  pub previous_is_one : (number before : ℕ) (bar : EntryBar) → slice_get bars number ≡ Some bar → bar.previous ≡ Some before → Leads LeadsTo all before number
  previous_is_one number before bar here is = previous_leads all bars one_bar_each number before bar here (sym (place number bar here).previous_is ∙ is)

  pub giver_is_one : (number before : ℕ) (bar : EntryBar) → slice_get bars number ≡ Some bar → bar.giver ≡ Some before → Leads LeadsTo all before number
  giver_is_one number before bar here is = giver_leads all bars one_bar_each number before bar bar.taken refl here (sym (place number bar here).giver_is ∙ is)
