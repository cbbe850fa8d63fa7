-- The start of a run.
use Rattle.std.proofs.Common.{◌≡◌, ℕ, zero, suc, List, [], ◌∷◌, length, None, Some, inl, refl, sym, ◌∙◌, subst, arith}
use Rattle.std.specs.Prelude.{slice_get}
use Rattle.seg_journal.specs.declared.journal.Entry.{Entry}
use Rattle.twe_base.specs.Limits.{Bounds}
use Rattle.twe_program.specs.Program.{Program}
use Rattle.wait_graph.specs.Chain.{none}
use Rattle.wait_graph.specs.Waiting.{WaitsOn}
use Rattle.machine_state.specs.declared.state.State.{State}
use Rattle.machine_state.specs.declared.state.TaskRow.{TaskRow}
use Rattle.machine_state.specs.declared.state.TaskStatus.TheVariants.{Enabled}
use Rattle.machine_state.specs.Moves.{start_of}
use Rattle.machine_state.specs.Rows.{HasStatus}
use Rattle.machine_state.proofs.tasks.MadeTasks.{none_enabled}
use Rattle.held_span.specs.declared.marks.EffectMark.{EffectMark}
use Rattle.held_span.specs.declared.marks.EffectMarks.{EffectMarks}
use Rattle.span_profile.specs.Recorders.{IsRecorder}
use Rattle.span_profile.specs.heaviest_chain.Built.{FrontHolds}
use Rattle.held_span.specs.declared.spanning.Spanning.{Spanning}
use Rattle.held_span.specs.declared.notes.EntryNotes.{EntryNotes}
use Rattle.held_span.specs.declared.ways.Ways.{Ways}
use Rattle.held_span.specs.inner.Holding.{HasRoomFor, Holds}
use Rattle.held_span.specs.inner.Noting.{AreNoted}
use Rattle.held_span.specs.inner.Spanning.{AreLed, IsPlan, IsSpanning}
use Rattle.held_span.specs.inner.Walking.{AreWays}

abbrev first_ways : Ways
first_ways = record { makers = 0 ∷ []; firsts = 0 ∷ [] }

only_first : (m first : ℕ) → slice_get (0 ∷ []) m ≡ Some first → (m ≡ 0) × (first ≡ 0)
only_first zero first is = (refl, cc (is))
only_first (suc m) first is = absurd (cc (is))

first_are : AreWays first_ways
first_are = record {
  as_many = refl;
  lower = λ t maker is some. (let only = (only_first t maker is).0 in absurd (omega (arith, only, some)));
  back = λ t first is. (let only = only_first t first is in let one = only.1 in omega (arith, one));
}

pub first_led : (p : Program) (lim : Bounds) → AreLed [] (start_of p lim) first_ways
first_led p lim = record {
  are = first_are;
  many = refl;
  makers = λ s u made. absurd (let there = made.there in cc (there));
  firsts = λ m first is.
      let only = only_first m first is in
      inl (subst (λ (n : ℕ). WaitsOn (start_of p lim).links n m) (only.0 ∙ sym only.1) none);
}

abbrev first_notes : EntryNotes
first_notes = record { lows = []; makers = None ∷ [] }

no_maker : (task number : ℕ) → ¬ (slice_get (None ∷ []) task ≡ Some (Some number))
no_maker zero number is = cc (is)
no_maker (suc task) number is = cc (is)

first_noted : (p : Program) (lim : Bounds) (rows : List TaskRow) → AreNoted rows (start_of p lim) [] [] first_notes
first_noted p lim rows = record {
  lows_count = refl;
  holders = λ i j a b leads at there kind. absurd (cc (at));
  lowest = λ i j a b before at there holder frees. absurd (cc (at));
  makers_count = refl;
  makers = λ task number. (λ is. absurd (no_maker task number is), λ m. absurd (let there = m.there in cc (there)));
  begun = λ number stage at. absurd (cc (at));
}

pub spans_first : (p : Program) (lim : Bounds) (marks : EffectMarks) (rows : List TaskRow) (journal : List Entry) → IsPlan p lim marks rows journal → (run : Spanning) → run.st ≡ start_of p lim
    → IsRecorder p run.recorder → HasRoomFor run.freeing.holders (length marks.rivals) → ((m : EffectMark) (t : ℕ) → ¬ Holds run.freeing.holders m t)
    → run.freeing.ways ≡ first_ways → run.notes ≡ first_notes → FrontHolds [] run.chains → IsSpanning p lim marks rows [] journal run
spans_first p lim marks rows journal plan run st_is recorder room nobody ways notes front = record {
  plan = plan;
  same = st_is;
  tree = recorder.0;
  records = recorder.1;
  held = record {
    room = room;
    holds = λ m u. (λ h. absurd (nobody m u h), λ h. absurd (none_enabled p lim u (subst (λ (x : State). HasStatus x u Enabled) st_is h.0)));
  };
  led = subst (λ (x : State). AreLed [] x run.freeing.ways) (sym st_is) (subst (AreLed [] (start_of p lim)) (sym ways) (first_led p lim));
  nodes = [];
  front = front;
  spanned = record {
    shows = tt;
    sound = λ i j l. absurd (let at = l.at_first in cc (at));
    covers = λ i j l. absurd (let at = l.at_first in cc (at));
  };
  noted = subst (λ (x : State). AreNoted rows x [] [] run.notes) (sym st_is) (subst (AreNoted rows (start_of p lim) [] []) (sym notes) (first_noted p lim rows));
  followed = λ m first is undone w down other above i by. absurd (let at = by.1 in cc (at));
}
