-- One more result is put to those so far.
use Rattle.std.proofs.Common.{◌≡◌, ◌<◌, ◌+◌, ◌++◌, ℕ, List, [], ◌∷◌, drop, length, map, sym, ap, ◌∙◌}
use Rattle.std.proofs.lemmas.List.{append_assoc, drop_more, map-append}
use Rattle.std.proofs.Math.ListN.{get_or}
use Rattle.serde_json.specs.Data.{Data}
use Rattle.twe_base.specs.Limits.{Bounds}
use Rattle.flat_sched.specs.declared.ending.WholeRun.{WholeRun}
use Rattle.twe_io.specs.declared.answer.Answer.{Answer}
use Rattle.twe_report.specs.Texts.{journal_part_text}
use Rattle.twe_explore.specs.Json.{result_data, results_data}

-- what is left at a place begins with what stands there
left_at : {X : Type 0} (xs : List X) (at : ℕ) (x : X) → at < length xs → x ≡ get_or xs at x → drop at xs ≡ x ∷ drop (at + 1) xs
left_at xs at x below is = drop_more xs at x below ∙ (λ i. sym is i ∷ drop (at + 1) xs)

pub results_left : (lim : Bounds) (runs : List WholeRun) (answers : List Answer) (at : ℕ) (run : WholeRun) (answer : Answer) → at < length runs → at < length answers
    → run ≡ get_or runs at run → answer ≡ get_or answers at answer
    → results_data lim (drop at runs) (drop at answers)
    ≡ result_data answer (journal_part_text lim run.journal) ∷ results_data lim (drop (at + 1) runs) (drop (at + 1) answers)
results_left lim runs answers at run answer below also is too =
    λ i. results_data lim (left_at runs at run below is i) (left_at answers at answer also too i)

-- the first of those that are left is the last of those so far
pub moved_over : {X : Type 0} (f : X → Data) (values longer : List X) (value : X) (next : Data) (rest whole left : List Data) → longer ≡ values ++ value ∷ [] → f value ≡ next
    → left ≡ next ∷ rest → map f values ++ left ≡ whole → map f longer ++ rest ≡ whole
moved_over {X = X} f values longer value next rest whole left grown is first so_far =
    ap (λ (vs : List X). map f vs ++ rest) grown
    ∙ (ap (λ (ds : List Data). ds ++ rest) (map-append f values (value ∷ []))
    ∙ (append_assoc (map f values) (f value ∷ []) rest
    ∙ (ap (λ (d : Data). map f values ++ d ∷ rest) is ∙ (ap (λ (ds : List Data). map f values ++ ds) (sym first) ∙ so_far))))
