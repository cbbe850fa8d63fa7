-- Of two segments of one task the later one has the higher number.
use Rattle.std.proofs.Common.{◌≡◌, ◌≤◌, ◌<◌, ◌+◌, ◌==◌, ◌&&◌, ℕ, Bool, true, cond, List, take, Some, ap, ◌∙◌, arith, eq-eqb}
use Rattle.std.specs.Prelude.{count_by, get_or, slice_get}
use Rattle.std.proofs.lemmas.Bool.{and_from}
use Rattle.std.proofs.lemmas.List.{take-take}
use Rattle.std.proofs.lemmas.List.Sums.{count_by_more_yes, sum_by-take-le}
use Rattle.std.proofs.lemmas.Option.{get_or_from_slice_get, slice_get_within}
use Rattle.seg_journal.specs.declared.journal.Entry.{Entry}
use Rattle.determinism_laws.specs.Segments.{IsSegmentOf, is_run, number_of_segment}

module _ {X : Type 0} (q : X → Bool) where
  -- more elements of a longer beginning pass a test, if the last one does
  count_grows : (xs : List X) (i j : ℕ) (y : X) → i < j → slice_get xs j ≡ Some y → q y ≡ true → count_by q (take (i + 1) xs) < count_by q (take (j + 1) xs)
  count_grows xs i j y before there passes =
      let within = slice_get_within xs j y there in
      let read : get_or xs j y ≡ y = get_or_from_slice_get xs j y y there in
      let more = count_by_more_yes q xs j y within (ap q read ∙ passes) in
      let part : count_by q (take (i + 1) (take j xs)) ≤ count_by q (take j xs) = sum_by-take-le (λ (x : X). cond (q x) 1 0) (take j xs) (i + 1) in
      let same : count_by q (take (i + 1) (take j xs)) ≡ count_by q (take (i + 1) xs) = ap (count_by q) (take-take (i + 1) j xs (omega (arith, before))) in
      omega arith

pub numbers_grow : (journal : List Entry) (t i j : ℕ) → i < j → IsSegmentOf journal t j → number_of_segment journal t i < number_of_segment journal t j
numbers_grow journal t i j before segment =
    count_grows (λ (entry : Entry). is_run entry.mv.kind && (entry.mv.task == t)) journal i j segment.entry before segment.there
    (and_from (is_run segment.entry.mv.kind) (segment.entry.mv.task == t) (ap is_run segment.runs) (eq-eqb segment.entry.mv.task t segment.task))
