-- A legal journal of the one program gives one of the other: its moves, with the ends that they have there.
use Rattle.std.proofs.Common.{◌≡◌, Bool, true, false, List, [], ◌∷◌, map, refl, sym, ap, ◌∙◌}
use Rattle.std.specs.Prelude.{if◌then◌else◌}
use Rattle.twe_base.specs.Limits.{Bounds}
use Rattle.twe_program.specs.Program.{Program}
use Rattle.seg_journal.specs.declared.journal.End.{End}
use Rattle.seg_journal.specs.declared.journal.End.TheVariants as ends
use Rattle.seg_journal.specs.declared.journal.Entry.{Entry}
use Rattle.seg_journal.specs.declared.moves.Move.{Move}
use Rattle.machine_state.specs.declared.state.State.{State}
use Rattle.machine_state.specs.LowestFirst.{LowestFirstFrom}
use Rattle.machine_state.specs.Moves.{move_result, start_of}
use Rattle.machine_state.specs.Runs.{Legal, LegalFrom, counted, entry_of, is_fault, replayed, state_after}
use Rattle.summary_texts.specs.paste_laws.places.Places.{SameButPlaces, bare_program}
use Rattle.place_laws.specs.Alike.{RunsAs, SameEntries, SameStates}
use Rattle.place_laws.specs.Bare.{bare_end, bare_entry, bare_state}
use Rattle.place_laws.proofs.Moves.{legal_alike, move_bare, moves_alike, starts_alike}
use Rattle.place_laws.proofs.Outcomes.{outcomes_alike, over_alike, unfinished_alike}

-- the moves of a journal in another program, with the ends that they have there
abbrev its_entries : Program → Bounds → State → List Entry → List Entry
its_entries q lim st [] = []
its_entries q lim st (entry ∷ entries) = entry_of q lim st entry.mv ∷ its_entries q lim (move_result q lim st entry.mv).0 entries

module _ (p q : Program) (same : SameButPlaces p q) (lim : Bounds) where
  moved_alike : (st other : State) (mv : Move) → SameStates st other → SameStates (move_result p lim st mv).0 (move_result q lim other mv).0
  moved_alike st other mv states = ap (λ (r : State × End). r.0) (moves_alike p q lim st other mv same states)

  ended_alike : (st other : State) (mv : Move) → SameStates st other → bare_end (move_result p lim st mv).1 ≡ bare_end (move_result q lim other mv).1
  ended_alike st other mv states = ap (λ (r : State × End). r.1) (moves_alike p q lim st other mv same states)

  legal_entries : (st other : State) (journal : List Entry) → SameStates st other → LegalFrom p lim st journal → LegalFrom q lim other (its_entries q lim other journal)
  legal_entries st other [] states legal = tt
  legal_entries st other (entry ∷ entries) states (may, end, rest) = (
    legal_alike st other entry.mv states may,
    refl,
    legal_entries (move_result p lim st entry.mv).0 (move_result q lim other entry.mv).0 entries (moved_alike st other entry.mv states) rest,
  )

  -- an entry with this end, and entries after it
  abbrev entry_then : Move → End → List Entry → List Entry
  entry_then mv end entries = record { mv = mv; end = end } ∷ entries

  same_entries : (st other : State) (journal : List Entry) → SameStates st other → LegalFrom p lim st journal → SameEntries (its_entries q lim other journal) journal
  same_entries st other [] states legal = refl
  same_entries st other (entry ∷ entries) states (may, end, rest) =
      let after = (move_result q lim other entry.mv).0 in
      ap (λ (e : End). entry_then entry.mv e (map bare_entry (its_entries q lim after entries))) (sym (ended_alike st other entry.mv states) ∙ ap bare_end end)
      ∙ ap (entry_then entry.mv (bare_end entry.end)) (same_entries (move_result p lim st entry.mv).0 after entries (moved_alike st other entry.mv states) rest)

  lowest_entries : (st other : State) (journal : List Entry) → SameStates st other → LowestFirstFrom p lim st journal
      → LowestFirstFrom q lim other (its_entries q lim other journal)
  lowest_entries st other [] states over = over_alike st other states over
  lowest_entries st other (entry ∷ entries) states (unfinished, lowest, end, rest) = (
    unfinished_alike st other states unfinished,
    record {
      legal = legal_alike st other entry.mv states lowest.legal;
      lowest = λ mv may. lowest.lowest mv (legal_alike other st mv (sym states) may);
    },
    refl,
    lowest_entries (move_result p lim st entry.mv).0 (move_result q lim other entry.mv).0 entries (moved_alike st other entry.mv states) rest,
  )

-- The state that a journal leads to.

replay_bare : (p : Program) (lim : Bounds) (st : State) (journal : List Entry)
    → replayed (bare_program p) lim (bare_state st) (map bare_entry journal) ≡ bare_state (replayed p lim st journal)
replay_bare p lim st [] = refl
replay_bare p lim st (entry ∷ entries) =
    ap (λ (r : State × End). replayed (bare_program p) lim r.0 (map bare_entry entries)) (move_bare p lim st entry.mv)
    ∙ replay_bare p lim (move_result p lim st entry.mv).0 entries

states_alike : (p q : Program) (lim : Bounds) (st other : State) (journal its : List Entry) → SameButPlaces p q → SameStates st other → SameEntries its journal
    → SameStates (replayed q lim other its) (replayed p lim st journal)
states_alike p q lim st other journal its same states entries =
    sym (replay_bare q lim other its) ∙ ap (λ (r : Program). replayed r lim (bare_state other) (map bare_entry its)) (sym same)
    ∙ ap (λ (s : State). replayed (bare_program p) lim s (map bare_entry its)) (sym states)
    ∙ ap (replayed (bare_program p) lim (bare_state st)) entries ∙ replay_bare p lim st journal

-- The part of a journal that counts.

fault_bare : (end : End) → is_fault (bare_end end) ≡ is_fault end
fault_bare ends.Admitted = refl
fault_bare (ends.Made child) = refl
fault_bare (ends.Waits on) = refl
fault_bare (ends.Joins on) = refl
fault_bare (ends.Done value) = refl
fault_bare (ends.Fault kind place) = refl

part_bare : (fault : Bool) (entries others : List Entry) → others ≡ map bare_entry entries
    → (if fault then [] else others) ≡ map bare_entry (if fault then [] else entries)
part_bare true entries others same = refl
part_bare false entries others same = same

counted_bare : (journal : List Entry) → counted (map bare_entry journal) ≡ map bare_entry (counted journal)
counted_bare [] = refl
counted_bare (entry ∷ entries) =
    ap (λ (b : Bool). bare_entry entry ∷ (if b then [] else counted (map bare_entry entries))) (fault_bare entry.end)
    ∙ ap (λ (list : List Entry). bare_entry entry ∷ list) (part_bare (is_fault entry.end) (counted entries) (counted (map bare_entry entries)) (counted_bare entries))

counted_alike : (journal its : List Entry) → SameEntries its journal → SameEntries (counted its) (counted journal)
counted_alike journal its same = sym (counted_bare its) ∙ ap counted same ∙ counted_bare journal

pub runs_as : (p q : Program) (lim : Bounds) (journal : List Entry) → SameButPlaces p q → Legal p lim journal → RunsAs p q lim journal
runs_as p q lim journal same legal =
    let its = its_entries q lim (start_of q lim) journal in
    let starts : SameStates (start_of p lim) (start_of q lim) = ap bare_state (starts_alike p q lim same) in
    let entries : SameEntries its journal = same_entries p q same lim (start_of p lim) (start_of q lim) journal starts legal in
    let states : SameStates (state_after q lim its) (state_after p lim journal) = states_alike p q lim (start_of p lim) (start_of q lim) journal its same starts entries in
    record {
      its = its;
      legal = legal_entries p q same lim (start_of p lim) (start_of q lim) journal starts legal;
      entries = entries;
      state = states;
      counted_state = states_alike p q lim (start_of p lim) (start_of q lim) (counted journal) (counted its) same starts (counted_alike journal its entries);
      outcome = λ outcome. outcomes_alike (state_after p lim journal) (state_after q lim its) outcome (sym states);
      lowest = lowest_entries p q same lim (start_of p lim) (start_of q lim) journal starts;
    }
