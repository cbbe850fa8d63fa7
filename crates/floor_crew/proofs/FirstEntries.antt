-- The journal of a round begins with the one from before it, since the entries of that one have the first numbers.
use Rattle.std.proofs.Common.{◌≡◌, ℕ, zero, suc, ℤ, List, [], ◌∷◌, Some, refl, sym, ap, ◌∙◌, subst}
use Rattle.std.specs.Prelude.{slice_get, Contains}
use Rattle.std.proofs.lemmas.List.{map-append}
use Rattle.std.proofs.lemmas.Option.{get_or_from_slice_get, slice_get_within}
use mathlib.Core.List.{IsPrefix}
use Rattle.seg_journal.specs.declared.journal.Entry.{Entry}
use Rattle.twe_base.specs.Limits.{Bounds}
use Rattle.twe_program.specs.Program.{Program}
use Rattle.seg_journal.specs.declared.numbered.NumberedEntry.{NumberedEntry}
use Rattle.seg_journal.specs.Merging.{IsMergeOf, journal_of}
use Rattle.seg_journal.proofs.Slots.{of_all}
use Rattle.floor_laws.proofs.rule.Puts.{none_some, some_one}
use Rattle.task_floor.specs.declared.steps.rest.Rest.{Rest}
use Rattle.task_floor.specs.steps.Resting.{IsRestOf}
use Rattle.task_floor.specs.steps.Waking.{log_of}
use Rattle.task_floor.proofs.steps.Logs.{log_journal, log_order}

-- a list begins with one that has the same items at its places
prefix_by_places : {A : Type 0} (xs ys : List A) → ((n : ℕ) (x : A) → slice_get xs n ≡ Some x → slice_get ys n ≡ Some x) → IsPrefix xs ys
prefix_by_places [] ys same = (ys, refl)
prefix_by_places (x ∷ xs) [] same = absurd (none_some (same zero x refl))
prefix_by_places (x ∷ xs) (y ∷ ys) same =
    let head : y ≡ x = some_one (same zero x refl) in
    let tail = prefix_by_places xs ys (λ n z is. same (suc n) z is) in
    (tail.0, λ i. sym head i ∷ tail.1 i)

item_within : (xs : List NumberedEntry) (n : ℕ) (e : NumberedEntry) → slice_get xs n ≡ Some e → Contains xs e
item_within xs n e is = (n, slice_get_within xs n e is, get_or_from_slice_get xs n e e is)

-- the first of the parts, whose entries have their places as numbers, stands at the beginning of the merge
first_part : (first : List NumberedEntry) (parts : List (List NumberedEntry)) (log : List NumberedEntry) → ((n : ℕ) (e : NumberedEntry) → slice_get first n ≡ Some e → e.number ≡ n)
    → IsPrefix (first ∷ []) parts → IsMergeOf parts log → IsPrefix first log
first_part first parts log order begins merge =
    let there : slice_get parts 0 ≡ Some first = ap (λ (l : List (List NumberedEntry)). slice_get l 0) (sym begins.1) in
    prefix_by_places first log (λ n e is.
    subst (λ (k : ℕ). slice_get log k ≡ Some e) (order n e is) (merge.entries e (of_all parts 0 first e there (item_within first n e is))))

journal_prefix : (first log : List NumberedEntry) → IsPrefix first log → IsPrefix (journal_of first) (journal_of log)
journal_prefix first log begins =
    (journal_of begins.0, sym (map-append (λ (e : NumberedEntry). e.entry) first begins.0) ∙ ap journal_of begins.1)

-- so the journal of a rest begins with the one that the floor was woken with
pub rest_begins : (p : Program) (lim : Bounds) (journal : List Entry) (prints : List ℤ) (parts : List (List NumberedEntry)) (rest : Rest)
    → IsPrefix (log_of journal prints ∷ []) parts → IsRestOf p lim parts rest → IsPrefix journal rest.journal
rest_begins p lim journal prints parts rest begins is =
    let first = log_of journal prints in
    let both = journal_prefix first is.log (first_part first parts is.log (log_order journal prints) begins is.merge) in
    subst (λ (l : List Entry). IsPrefix l rest.journal) (log_journal journal prints) (subst (IsPrefix (journal_of first)) (sym is.journal) both)
