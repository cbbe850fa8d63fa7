-- The counted part of a journal, and what its entries did, after one entry more.
use Rattle.std.proofs.Common.{◌≡◌, Bool, true, false, List, [], ◌∷◌, ◌++◌, refl, ap, ◌∙◌}
use Rattle.std.specs.Prelude.{◌||◌, if◌then◌else◌}
use Rattle.std.proofs.lemmas.List.Folds.{list_any-append}
use Rattle.seg_journal.specs.declared.journal.Entry.{Entry}
use Rattle.twe_base.specs.Limits.{Bounds}
use Rattle.twe_program.specs.Program.{Program}
use Rattle.machine_state.specs.declared.state.State.{State}
use Rattle.machine_state.specs.Moves.{move_result}
use Rattle.machine_state.specs.Runs.{LegalFrom, counted, is_fault, replayed}
use Rattle.span_profile.specs.Strands.{Strand, strand_of, strands_from}
use Rattle.span_profile.specs.inner.Tracked.{has_fault}

-- without a fault all entries count
all_by : (entry : Entry) (entries : List Entry) (t : Bool) → (t || has_fault entries) ≡ false → counted entries ≡ entries → entry ∷ (if t then [] else counted entries) ≡ entry ∷ entries
all_by entry entries true none same = absurd (cc)
all_by entry entries false none same = ap (λ (l : List Entry). entry ∷ l) same

none_later : (t u : Bool) → (t || u) ≡ false → u ≡ false
none_later true u e = absurd (cc)
none_later false u e = e

pub all_counted : (journal : List Entry) → has_fault journal ≡ false → counted journal ≡ journal
all_counted [] none = refl
all_counted (entry ∷ entries) none = all_by entry entries (is_fault entry.end) none (all_counted entries (none_later (is_fault entry.end) (has_fault entries) none))

-- after a fault no further entry counts
stays_by : (entry last : Entry) (entries : List Entry) (t : Bool) → (t || has_fault entries) ≡ true → (has_fault entries ≡ true → counted (entries ++ last ∷ []) ≡ counted entries)
    → entry ∷ (if t then [] else counted (entries ++ last ∷ [])) ≡ entry ∷ (if t then [] else counted entries)
stays_by entry last entries true some later = refl
stays_by entry last entries false some later = ap (λ (l : List Entry). entry ∷ l) (later some)

pub counted_stays : (journal : List Entry) (last : Entry) → has_fault journal ≡ true → counted (journal ++ last ∷ []) ≡ counted journal
counted_stays [] last some = absurd (cc)
counted_stays (entry ∷ entries) last some = stays_by entry last entries (is_fault entry.end) some (λ later. counted_stays entries last later)

-- and before it each does
more_by : (entry last : Entry) (entries : List Entry) (t : Bool) → (t || has_fault entries) ≡ false → (has_fault entries ≡ false → counted (entries ++ last ∷ []) ≡ entries ++ last ∷ [])
    → entry ∷ (if t then [] else counted (entries ++ last ∷ [])) ≡ entry ∷ entries ++ last ∷ []
more_by entry last entries true none later = absurd (cc)
more_by entry last entries false none later = ap (λ (l : List Entry). entry ∷ l) (later none)

one_by : (last : Entry) (t : Bool) → last ∷ (if t then [] else []) ≡ last ∷ []
one_by last true = refl
one_by last false = refl

pub counted_more : (journal : List Entry) (last : Entry) → has_fault journal ≡ false → counted (journal ++ last ∷ []) ≡ journal ++ last ∷ []
counted_more [] last none = one_by last (is_fault last.end)
counted_more (entry ∷ entries) last none = more_by entry last entries (is_fault entry.end) none (λ later. counted_more entries last later)

or_false : (b : Bool) → (b || false) ≡ b
or_false true = refl
or_false false = refl

pub has_fault_more : (journal : List Entry) (last : Entry) → has_fault (journal ++ last ∷ []) ≡ (has_fault journal || is_fault last.end)
has_fault_more journal last =
    list_any-append (λ (entry : Entry). is_fault entry.end) journal (last ∷ []) ∙ ap (λ (b : Bool). has_fault journal || b) (or_false (is_fault last.end))

module _ (p : Program) (lim : Bounds) where
  -- what a further entry did is known from the state before it
  pub strands_more : (st : State) (journal : List Entry) (last : Entry) → strands_from p lim st (journal ++ last ∷ []) ≡ strands_from p lim st journal ++ strand_of p (replayed p lim st journal) last ∷ []
  strands_more st [] last = refl
  strands_more st (entry ∷ entries) last = ap (λ (l : List Strand). strand_of p st entry ∷ l) (strands_more (move_result p lim st entry.mv).0 entries last)

  -- the counted part of a legal journal is one
  legal_by : (st : State) (entries : List Entry) (t : Bool) → LegalFrom p lim st (counted entries) → LegalFrom p lim st (if t then [] else counted entries)
  legal_by st entries true legal = tt
  legal_by st entries false legal = legal

  pub counted_legal : (st : State) (journal : List Entry) → LegalFrom p lim st journal → LegalFrom p lim st (counted journal)
  counted_legal st [] legal = tt
  counted_legal st (entry ∷ entries) legal =
      (legal.0, legal.1, legal_by (move_result p lim st entry.mv).0 entries (is_fault entry.end) (counted_legal (move_result p lim st entry.mv).0 entries legal.2))
