-- A picture goes on by one bar.
use Rattle.std.proofs.Common.{◌≡◌, ◌++◌, ℕ, Bool, true, false, List, [], ◌∷◌, sym, ap, ◌∙◌, subst, append_assoc}
use Rattle.std.specs.Prelude.{◌||◌}
use Rattle.std.proofs.lemmas.List.{append-nil}
use Rattle.seg_journal.specs.declared.journal.End.{End}
use Rattle.seg_journal.specs.declared.journal.Entry.{Entry}
use Rattle.seg_journal.specs.declared.moves.Move.{Move}
use Rattle.twe_base.specs.Limits.{Bounds}
use Rattle.twe_program.specs.Program.{Program}
use Rattle.machine_state.specs.declared.state.State.{State}
use Rattle.machine_state.specs.Legal.{MayMove}
use Rattle.twe_machine.specs.Listings.{IsListing}
use Rattle.machine_state.specs.Moves.{move_result, start_of}
use Rattle.machine_state.specs.Runs.{IsRun, counted, entry_of, is_fault, replayed}
use Rattle.machine_state.proofs.replays.Replayed.{run_more}
use Rattle.span_profile.specs.inner.Tracked.{has_fault}
use Rattle.span_profile.proofs.Counted.{all_counted, counted_more, counted_stays, has_fault_more}
use Rattle.twe_draw.specs.picture.Bars.{bar_in, bars_from}
use Rattle.twe_draw.specs.declared.picture.bars.Bars.{Bars}
use Rattle.twe_draw.specs.declared.picture.bars.EntryBar.{EntryBar}
use Rattle.twe_draw.specs.declared.picture.drawing.Drawing.{Drawing}
use Rattle.twe_draw.specs.picture.inner.Drawn.{IsDrawn}
use Rattle.twe_draw.specs.picture.inner.Known.{AreKnown}

module _ (p : Program) (lim : Bounds) (starts ends : List ℕ) where
  -- the bar of a further entry comes after those of all before it
  pub bars_more : (st : State) (before : List EntryBar) (journal : List Entry) (last : Entry)
      → bars_from p lim starts ends st before (journal ++ last ∷ [])
      ≡ bars_from p lim starts ends st before journal ++ bar_in p starts ends (replayed p lim st journal) (before ++ bars_from p lim starts ends st before journal) last ∷ []
  bars_more st before [] last = λ i. bar_in p starts ends st (none i) last ∷ []
    where
      none : before ≡ before ++ []
      none = sym (append-nil before)
  bars_more st before (entry ∷ entries) last =
      let next : State = (move_result p lim st entry.mv).0 in
      let bar = bar_in p starts ends st before entry in
      let rest = bars_from p lim starts ends next (before ++ bar ∷ []) entries in
      let split : (before ++ bar ∷ []) ++ rest ≡ before ++ bar ∷ rest = append_assoc before (bar ∷ []) rest in
      ap (λ (l : List EntryBar). bar ∷ l) (bars_more next (before ++ bar ∷ []) entries last)
      ∙ (λ i. bar ∷ rest ++ bar_in p starts ends (replayed p lim next entries) (split i) last ∷ [])

  pub drawn_start : (next : Drawing) → next.st ≡ start_of p lim → next.journal ≡ [] → next.over ≡ false → next.bars.marks ≡ [] → AreKnown next.bars
      → IsListing (start_of p lim) next.enabled → IsDrawn p lim starts ends next
  drawn_start next st_is journal_is over bars known listing = record {
    is_run = subst (λ (j : List Entry). IsRun p lim j next.st) (sym journal_is) (record { legal = tt; same = st_is });
    listing = subst (λ (st : State). IsListing st next.enabled) (sym st_is) listing;
    over = over ∙ sym (ap has_fault journal_is);
    bars = bars ∙ sym (ap (λ (j : List Entry). bars_from p lim starts ends (start_of p lim) [] (counted j)) journal_is);
    known = known;
  }

  module _ (run : Drawing) (t : IsDrawn p lim starts ends run) (mv : Move) (bar : EntryBar) (may : MayMove run.st mv) (after : State)
      (moved : (after, bar.end) ≡ move_result p lim run.st mv) (is : bar ≡ bar_in p starts ends run.st run.bars.marks (record { mv = mv; end = bar.end })) where
    abbrev entry : Entry
    entry = record { mv = mv; end = bar.end }

    abbrev all : List Entry
    all = run.journal ++ entry ∷ []

    -- the journal goes on
    runs_on : IsRun p lim all after
    runs_on =
        let end_is : bar.end ≡ (move_result p lim run.st mv).1 = ap (λ (x : State × End). x.1) moved in
        let entry_is : entry_of p lim run.st mv ≡ entry = ap (λ (e : End). record { mv = mv; end = e }) (sym end_is) in
        subst (λ (s : State). IsRun p lim all s) (sym (ap (λ (x : State × End). x.0) moved))
        (subst (λ (j : List Entry). IsRun p lim j (move_result p lim run.st mv).0) (ap (λ (e : Entry). run.journal ++ e ∷ []) entry_is) (run_more p lim run.journal run.st mv t.is_run may))

    module _ (going : run.over ≡ false) where
      no_fault : has_fault run.journal ≡ false
      no_fault = sym t.over ∙ going

      bars_are : run.bars.marks ≡ bars_from p lim starts ends (start_of p lim) [] run.journal
      bars_are = t.bars ∙ ap (bars_from p lim starts ends (start_of p lim) []) (all_counted run.journal no_fault)

      bars_next : run.bars.marks ++ bar ∷ [] ≡ bars_from p lim starts ends (start_of p lim) [] (counted all)
      bars_next =
          (λ i. bars_are i ++ (is ∙ (λ j. bar_in p starts ends (t.is_run.same j) (bars_are j) entry)) i ∷ [])
          ∙ (sym (bars_more (start_of p lim) [] run.journal entry) ∙ ap (bars_from p lim starts ends (start_of p lim) []) (sym (counted_more run.journal entry no_fault)))

    -- so is what is drawn: the entry has its bar
    pub drawn_on : run.over ≡ false → (next : Drawing) → next.st ≡ after → next.journal ≡ all → IsListing next.st next.enabled → next.over ≡ is_fault bar.end
        → next.bars.marks ≡ run.bars.marks ++ bar ∷ [] → AreKnown next.bars → IsDrawn p lim starts ends next
    drawn_on going next st_is journal_is listing over bars known = record {
      is_run = subst (λ (j : List Entry). IsRun p lim j next.st) (sym journal_is) (subst (IsRun p lim all) (sym st_is) runs_on);
      listing = listing;
      over = over ∙ (ap (λ (b : Bool). b || is_fault bar.end) (sym (no_fault going)) ∙ (sym (has_fault_more run.journal entry) ∙ ap has_fault (sym journal_is)));
      bars = bars ∙ (bars_next going ∙ ap (λ (j : List Entry). bars_from p lim starts ends (start_of p lim) [] (counted j)) (sym journal_is));
      known = known;
    }

    -- or it has none, since it doesn't count
    pub drawn_over : run.over ≡ true → (next : Drawing) → next.st ≡ after → next.journal ≡ all → IsListing next.st next.enabled → next.over ≡ run.over
        → next.bars ≡ run.bars → IsDrawn p lim starts ends next
    drawn_over ended next st_is journal_is listing over bars =
        let faulty : has_fault run.journal ≡ true = sym t.over ∙ ended in
        let same : counted all ≡ counted run.journal = counted_stays run.journal entry faulty in
        record {
          is_run = subst (λ (j : List Entry). IsRun p lim j next.st) (sym journal_is) (subst (IsRun p lim all) (sym st_is) runs_on);
          listing = listing;
          over = over ∙ (t.over ∙ (faulty ∙ (ap (λ (b : Bool). b || is_fault bar.end) (sym faulty) ∙ (sym (has_fault_more run.journal entry) ∙ ap has_fault (sym journal_is)))));
          bars =
              ap (λ (b : Bars). b.marks) bars
              ∙ (t.bars ∙ ap (bars_from p lim starts ends (start_of p lim) []) (sym same ∙ ap counted (sym journal_is)));
          known = subst AreKnown (sym bars) t.known;
        }
