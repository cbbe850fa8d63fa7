-- The held profile of a run whose entries were all taken.
use Rattle.std.proofs.Common.{List, length}
use Rattle.schedules.specs.Timetables.{AreEarliest}
use Rattle.seg_journal.specs.declared.journal.Entry.{Entry}
use Rattle.seg_journal.specs.declared.moves.Move.{Move}
use Rattle.twe_base.specs.Limits.{Bounds}
use Rattle.twe_program.specs.Program.{Program}
use Rattle.machine_state.specs.declared.state.State.{State}
use Rattle.machine_state.specs.Moves.{start_of}
use Rattle.held_span.specs.declared.marks.EffectMarks.{EffectMarks}
use Rattle.span_profile.specs.Advice.{IsCountedRun}
use Rattle.span_profile.proofs.Lists.{zip_length}
use Rattle.span_profile.specs.declared.heaviest_chain.chains.Heaviest.{Heaviest}
use Rattle.span_profile.specs.heaviest_chain.Chains.{IsHeaviest, Leads, weight_at}
use Rattle.span_profile.specs.heaviest_chain.LastBefore.{AreLastBefore}
use Rattle.span_profile.specs.heaviest_chain.Nodes.{SharesKey, weight_of}
use Rattle.held_span.specs.Freed.{stages}
use Rattle.held_span.specs.HeldSpans.{IsHeldProfile}
use Rattle.held_span.specs.Holds.{AreHolds}
use Rattle.held_span.specs.declared.hold.Hold.{Hold}
use Rattle.held_span.specs.declared.spanning.Spanning.{Spanning}
use Rattle.held_span.specs.inner.Spanning.{IsSpanning, ShowsStage}
use Rattle.held_span.specs.inner.Told.{IsTold}
use Rattle.held_span.proofs.HeldTimes.{earliest_held, shares_last}
use Rattle.held_span.proofs.Spans.{held_of, legal_counted}
use Rattle.held_span.proofs.Told.{did_all}

module _ (p : Program) (lim : Bounds) (moves : List Move) (journal : List Entry) (st : State) (run : IsCountedRun p lim moves journal st) (marks : EffectMarks) (spanning : Spanning)
    (rest : List Entry) (s : IsSpanning p lim marks st.tasks journal rest spanning) (h : Heaviest) where
  pub told_of : AreEarliest (Leads SharesKey s.nodes) (weight_at weight_of s.nodes) (length s.nodes) h.span h.starts h.ends → AreLastBefore s.nodes h.starts h.ends h.before
      → IsTold st.tasks (stages p lim journal) journal spanning.notes h
  told_of early last = record {
    entries = did_all p lim (start_of p lim) journal (legal_counted p lim moves journal st run);
    nodes = s.nodes;
    count = zip_length (ShowsStage s.tree marks) s.nodes (stages p lim journal) s.spanned.shows;
    holders = s.noted.holders;
    lowest = s.noted.lowest;
    makers = s.noted.makers;
    shares = shares_last st.tasks s.tree marks s.nodes (stages p lim journal) s.spanned h.span h.starts h.ends early;
    last = last;
  }

  pub profile_of : IsHeaviest SharesKey weight_of s.nodes h.work h.span h.chain
      → AreEarliest (Leads SharesKey s.nodes) (weight_at weight_of s.nodes) (length s.nodes) h.span h.starts h.ends
      → (holds : List Hold) → AreHolds st.tasks (stages p lim journal) h.starts h.ends holds → IsHeldProfile p lim moves h.span h.starts h.ends holds
  profile_of heaviest early holds are = record {
    held = held_of p lim moves journal st run marks spanning rest s h.work h.span h.chain heaviest;
    times = earliest_held st.tasks s.tree marks s.nodes (stages p lim journal) s.spanned h.span h.starts h.ends early;
    holds_are = are;
  }
