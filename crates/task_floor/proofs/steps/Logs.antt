-- The entries with which a floor goes on: they are those of the journal, in order, and have printed what the run has printed.
use Rattle.std.proofs.Common.{◌≡◌, ◌+◌, ◌++◌, ℕ, zero, suc, ℤ, List, [], ◌∷◌, length, Some, refl, sym, ap, ◌∙◌, arith}
use Rattle.std.specs.Prelude.{slice_get}
use Rattle.std.proofs.lemmas.List.{append-nil}
use Rattle.seg_journal.specs.declared.journal.Entry.{Entry}
use Rattle.twe_base.specs.Limits.{Bounds}
use Rattle.twe_program.specs.Program.{Program}
use Rattle.machine_state.specs.declared.state.State.{State}
use Rattle.machine_state.specs.Runs.{IsRun}
use Rattle.seg_journal.specs.declared.numbered.NumberedEntry.{NumberedEntry}
use Rattle.seg_journal.specs.Merging.{journal_of, prints_of}
use Rattle.floor_laws.specs.rule.Rule.{AreInOrder}
use Rattle.floor_laws.proofs.rule.Puts.{none_some, some_one}
use Rattle.task_floor.specs.steps.Waking.{log_of, numbered_from, with_last_prints}

pub prints_last : (prints : List ℤ) (xs : List NumberedEntry) (e : NumberedEntry) → with_last_prints prints (xs ++ e ∷ []) ≡ xs ++ record { number = e.number; entry = e.entry; prints = prints } ∷ []
prints_last prints [] e = refl
prints_last prints (x ∷ []) e = refl
prints_last prints (x ∷ y ∷ xs) e = ap (λ (l : List NumberedEntry). x ∷ l) (prints_last prints (y ∷ xs) e)

same_journal : (prints : List ℤ) (log : List NumberedEntry) → journal_of (with_last_prints prints log) ≡ journal_of log
same_journal prints [] = refl
same_journal prints (e ∷ []) = refl
same_journal prints (e ∷ f ∷ log) = ap (λ (l : List Entry). e.entry ∷ l) (same_journal prints (f ∷ log))

numbered_journal : (n : ℕ) (journal : List Entry) → journal_of (numbered_from n journal) ≡ journal
numbered_journal n [] = refl
numbered_journal n (e ∷ journal) = ap (λ (l : List Entry). e ∷ l) (numbered_journal (n + 1) journal)

pub log_journal : (journal : List Entry) (prints : List ℤ) → journal_of (log_of journal prints) ≡ journal
log_journal journal prints = same_journal prints (numbered_from 0 journal) ∙ numbered_journal 0 journal

pub log_length : (journal : List Entry) (prints : List ℤ) → length (log_of journal prints) ≡ length journal
log_length journal prints = by_prints (numbered_from 0 journal) ∙ by_number 0 journal
  where
    by_prints : (log : List NumberedEntry) → length (with_last_prints prints log) ≡ length log
    by_prints [] = refl
    by_prints (e ∷ []) = refl
    by_prints (e ∷ f ∷ log) = ap suc (by_prints (f ∷ log))

    by_number : (n : ℕ) (entries : List Entry) → length (numbered_from n entries) ≡ length entries
    by_number n [] = refl
    by_number n (e ∷ entries) = ap suc (by_number (n + 1) entries)

-- the number of an entry is its place
number_at : (k : ℕ) (journal : List Entry) (n : ℕ) (e : NumberedEntry) → slice_get (numbered_from k journal) n ≡ Some e → e.number ≡ k + n
number_at k [] n e is = absurd (none_some is)
number_at k (x ∷ journal) zero e is = let same = ap (λ (y : NumberedEntry). y.number) (some_one is) in omega (arith, same)
number_at k (x ∷ journal) (suc n) e is = let later = number_at (k + 1) journal n e is in omega (arith, later)

-- the same entry before the prints were put beside the last one
record WasNumbered (log : List NumberedEntry) (n : ℕ) (e : NumberedEntry) : Type 0 where
  before : NumberedEntry
  there : slice_get log n ≡ Some before
  number : e.number ≡ before.number

was_numbered : (prints : List ℤ) (log : List NumberedEntry) (n : ℕ) (e : NumberedEntry) → slice_get (with_last_prints prints log) n ≡ Some e → WasNumbered log n e
was_numbered prints [] n e is = absurd (none_some is)
was_numbered prints (x ∷ []) zero e is = record { before = x; there = refl; number = ap (λ (y : NumberedEntry). y.number) (sym (some_one is)) }
was_numbered prints (x ∷ []) (suc n) e is = absurd (none_some is)
was_numbered prints (x ∷ y ∷ log) zero e is = record { before = x; there = refl; number = ap (λ (y : NumberedEntry). y.number) (sym (some_one is)) }
was_numbered prints (x ∷ y ∷ log) (suc n) e is = let later = was_numbered prints (y ∷ log) n e is in record { before = later.before; there = later.there; number = later.number }

pub log_order : (journal : List Entry) (prints : List ℤ) → AreInOrder (log_of journal prints)
log_order journal prints n e is =
    let was = was_numbered prints (numbered_from 0 journal) n e is in
    let number = was.number in
    let place = number_at 0 journal n was.before was.there in
    omega (arith, number, place)

last_prints : (n : ℕ) (e : Entry) (journal : List Entry) (prints : List ℤ) → prints_of (with_last_prints prints (numbered_from n (e ∷ journal))) ≡ prints
last_prints n e [] prints = append-nil prints
last_prints n e (f ∷ journal) prints = last_prints (n + 1) f journal prints

pub log_prints : (p : Program) (lim : Bounds) (journal : List Entry) (st : State) → IsRun p lim journal st → st.prints ≡ prints_of (log_of journal st.prints)
log_prints p lim [] st run = ap (λ (s : State). s.prints) run.same
log_prints p lim (e ∷ journal) st run = sym (last_prints 0 e journal st.prints)
