-- The held span of a list of moves: the span of their order, in which an admission also follows what freed it; and the times of
-- that order.
use Rattle.std.specs.Prelude.{◌≡◌, ◌≤◌, ℕ, List, length}
use Rattle.seg_journal.specs.declared.journal.Entry.{Entry}
use Rattle.seg_journal.specs.declared.moves.Move.{Move}
use Rattle.twe_base.specs.Limits.{Bounds}
use Rattle.twe_program.specs.Program.{Program}
use Rattle.machine_state.specs.declared.state.State.{State}
use Rattle.schedules.specs.Timetables.{AreEarliest}
use Rattle.span_profile.specs.heaviest_chain.Chains.{IsChainOf, Leads, chain_weight, weight_at}
use Rattle.span_profile.specs.Advice.{IsCountedRun}
use Rattle.held_span.specs.Freed.{FollowsFreed, stage_weight, stages}
use Rattle.held_span.specs.Holds.{AreHolds}
use Rattle.held_span.specs.declared.hold.Hold.{Hold}

-- Of the entries that count of the legal journal with these moves, the chain is one each of which the next one follows, where an
-- admission also follows what freed it. It weighs the span, and no chain is heavier.
pub record IsHeldSpan (p : Program) (lim : Bounds) (moves : List Move) (span : ℕ) : Type 0 where
  pub journal : List Entry
  pub st : State
  pub run : IsCountedRun p lim moves journal st
  pub chain : List ℕ
  pub chain_is : IsChainOf (FollowsFreed st.tasks) (stages p lim journal) chain
  pub weighs : chain_weight stage_weight (stages p lim journal) chain ≡ span
  pub heaviest : (other : List ℕ) → IsChainOf (FollowsFreed st.tasks) (stages p lim journal) other
      → chain_weight stage_weight (stages p lim journal) other ≤ span

-- The held span; the earliest times at which the entries that count can start and end, if what an entry follows has to end
-- before; and the admissions that were held then.
pub record IsHeldProfile (p : Program) (lim : Bounds) (moves : List Move) (span : ℕ) (starts ends : List ℕ)
    (holds : List Hold) : Type 0 where
  pub held : IsHeldSpan p lim moves span
  pub times : AreEarliest (Leads (FollowsFreed held.st.tasks) (stages p lim held.journal))
      (weight_at stage_weight (stages p lim held.journal)) (length (stages p lim held.journal)) span starts ends
  pub holds_are : AreHolds held.st.tasks (stages p lim held.journal) starts ends holds
