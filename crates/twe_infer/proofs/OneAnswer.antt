-- A text has one answer.
use Rattle.std.proofs.Common.{◌≡◌, ◌<◌, ℕ, zero, suc, Bool, true, false, List, [], ◌∷◌, ◌++◌, length, Some, inl, inr, refl, sym, ap, ◌∙◌, subst, arith}
use Rattle.std.specs.Prelude.{codes, slice_get}
use Rattle.std.specs.List.{AllZip}
use Rattle.std.proofs.lemmas.Bool.{cases_order}
use Rattle.std.proofs.lemmas.Option.{same_Some}
use Rattle.effect_sets.specs.declared.effects.Summary.{Summary}
use Rattle.twe_ast.specs.declared.item.Ast.{Ast}
use Rattle.twe_ast.specs.declared.item.Item.{Item}
use Rattle.twe_ast.specs.declared.item.Item.TheVariants.{Regions, Cell, Method, Task}
use Rattle.twe_program.specs.declared.program.Decl.{Decl}
use Rattle.twe_program.specs.Program.{Program}
use Rattle.twe_names.specs.Meaning.{program_of}
use Rattle.name_check.specs.FailsName as name_rules
use Rattle.twe_frontend.specs.declared.refusal.Refusal.{Refusal}
use Rattle.twe_frontend.specs.Accepted.{IsRefusal}
use Rattle.effect_infer.specs.declared.fail.InferFail.TheVariants as fails
use Rattle.effect_infer.specs.Inferred.{AreLeast, HasTooMany, InferHasCause, IsLeast}
use Rattle.twe_report.specs.Texts.{refusal_text}
use Rattle.twe_io.specs.declared.answer.Answer.{Answer}
use Rattle.twe_io.specs.Answers.{on_err, on_out}
use Rattle.twe_io.specs.declared.status.Status.TheVariants.{Done, Refused, TooMany}
use Rattle.twe_infer.specs.Answers.{InferDue}
use Rattle.twe_frontend.specs.meaning.Meaning.{IsRefusedBefore, TextMeans}
use Rattle.summary_texts.specs.Order.{summary_paths_of}
use Rattle.summary_texts.specs.Texts.{clauses_text}
use Rattle.twe_infer.specs.Texts.{summary_lines_of, too_many_text}
use Rattle.summary_texts.proofs.OneLine.{not-least, same-clause}
use Rattle.summary_texts.proofs.SameTree.{OneTree, same_tree}

-- The refusal, and the meaning of a text.

as-refusal : (text : List ℕ) (r : Refusal) → IsRefusedBefore text r → IsRefusal text r
as-refusal text r (IsRefusedBefore.of_text rule place first) = IsRefusal.of_text rule place first
as-refusal text r (IsRefusedBefore.of_names tree rule place parsed first) = IsRefusal.of_names tree rule place parsed first

never-both : OneTree → (text : List ℕ) (r : Refusal) (tree : Ast) (p : Program) → IsRefusedBefore text r → TextMeans text tree p → ⊥
never-both one text r tree p (IsRefusedBefore.of_text rule place first) means = means.parsed.keeps rule place first.fails
never-both one text r tree p (IsRefusedBefore.of_names other rule place parsed first) means =
    means.keeps rule place (subst (λ (t : Ast). name_rules.FailsName t rule place) (same_tree one text other tree parsed means.parsed) first.fails)

same-program : (text : List ℕ) (tree other : Ast) (p q : Program) → tree ≡ other → TextMeans text tree p → TextMeans text other q → p ≡ q
same-program text tree other p q same means also = means.meaning ∙ ap program_of same ∙ sym also.meaning

-- The lines of least summaries.

-- the same paths
abbrev pub SameClauses : Summary → Summary → Type 0
SameClauses one other = (write : Bool) → summary_paths_of write one.effects ≡ summary_paths_of write other.effects

all-same : (one other : List Summary) → length one ≡ length other
    → ((m : ℕ) (summary its : Summary) → slice_get one m ≡ Some summary → slice_get other m ≡ Some its → SameClauses summary its) → AllZip SameClauses one other
all-same [] [] long h = tt
all-same [] (its ∷ other) long h = absurd (omega (arith, long))
all-same (summary ∷ one) [] long h = absurd (omega (arith, long))
all-same (summary ∷ one) (its ∷ other) long h = (h 0 summary its refl refl, all-same one other (omega (arith, long)) (λ m s t e f. h (suc m) s t e f))

same-lines : (regions : List (List ℕ)) (one other : List Summary) (items : List Item) → AllZip SameClauses one other → summary_lines_of regions one items ≡ summary_lines_of regions other items
same-lines regions one other [] same = refl
same-lines regions one other (Regions names ∷ items) same = same-lines regions one other items same
same-lines regions one other (Cell cell ∷ items) same = same-lines regions one other items same
same-lines regions one other (Task deterministic decl ∷ items) same = same-lines regions one other items same
same-lines regions [] [] (Method decl ∷ items) same = refl
same-lines regions [] (its ∷ other) (Method decl ∷ items) same = absurd same
same-lines regions (summary ∷ one) [] (Method decl ∷ items) same = absurd same
same-lines regions (summary ∷ one) (its ∷ other) (Method decl ∷ items) same =
    let rest = same-lines regions one other items same.1 in
    λ i. (decl.name.text ++ (codes ": " ++ (clauses_text regions decl.params (same.0 false i) (same.0 true i) ++ 10 ∷ []))) ++ rest i

-- a list has at each place below its length an element
at-place : {X : Type 0} (xs : List X) (m : ℕ) → m < length xs → (x : X) × (slice_get xs m ≡ Some x)
at-place [] m below = absurd (omega (arith, below))
at-place (x ∷ xs) zero below = (x, refl)
at-place (x ∷ xs) (suc m) below = at-place xs m (omega (arith, below))

least-lines : (p : Program) (one other : List Summary) (regions : List (List ℕ)) (items : List Item) → AreLeast p one → AreLeast p other → summary_lines_of regions one items ≡ summary_lines_of regions other items
least-lines p one other regions items least also =
    same-lines regions one other items
    (all-same one other (least.one_each ∙ sym also.one_each) (λ m summary its e f write. same-clause p m summary its write (least.least m summary e) (also.least m its f)))

-- Too many effects.

-- there is one first method with too many
same-method : (p : Program) (m n : ℕ) → InferHasCause p (fails.TooMany m) → InferHasCause p (fails.TooMany n) → m ≡ n
same-method p m n one other = elim (cases_order m n) [
  | inl same ↦ same
  | inr (inl before) ↦ let its = other.2 m before in absurd (not-least p m its.0 one.1 its.1)
  | inr (inr after) ↦ let its = one.2 n after in absurd (not-least p n its.0 other.1 its.1)
]

not-inferred : {A : Type 0} (p : Program) (m : ℕ) (summaries : List Summary) → InferHasCause p (fails.TooMany m) → AreLeast p summaries → A
not-inferred p m summaries many least =
    let at = at-place summaries m (omega (arith, many.0, least.one_each)) in
    absurd (not-least p m at.0 many.1 (least.least m at.0 at.1))

-- The answer.
module _ (one-tree : OneTree) (one-refusal : (text : List ℕ) (r other : Refusal) → IsRefusal text r → IsRefusal text other → r ≡ other) (text : List ℕ) where
  pub one-answer : (a b : Answer) → InferDue text a → InferDue text b → a ≡ b
  one-answer a b (InferDue.refused r is) (InferDue.refused other also) =
      ap (λ (its : Refusal). on_err Refused (refusal_text its)) (one-refusal text r other (as-refusal text r is) (as-refusal text other also))
  one-answer a b (InferDue.refused r is) (InferDue.too_many tree p method decl means many at) = absurd (never-both one-tree text r tree p is means)
  one-answer a b (InferDue.refused r is) (InferDue.inferred tree p summaries means least) = absurd (never-both one-tree text r tree p is means)
  one-answer a b (InferDue.too_many tree p method decl means many at) (InferDue.refused r is) = absurd (never-both one-tree text r tree p is means)
  one-answer a b (InferDue.inferred tree p summaries means least) (InferDue.refused r is) = absurd (never-both one-tree text r tree p is means)
  one-answer a b (InferDue.too_many tree p method decl means many at) (InferDue.too_many other q its found also more there) =
      let same : p ≡ q = same-program text tree other p q (same_tree one-tree text tree other means.parsed also.parsed) means also in
      let here : InferHasCause q (fails.TooMany method) = subst (λ (r : Program). InferHasCause r (fails.TooMany method)) same many in
      let method_is : method ≡ its = same-method q method its here more in
      let both : Some decl ≡ Some found = sym at ∙ (λ i. slice_get (same i).methods (method_is i)) ∙ there in
      ap (λ (d : Decl). on_err TooMany (too_many_text d.name)) (same_Some decl found both)
  one-answer a b (InferDue.too_many tree p method decl means many at) (InferDue.inferred other q summaries also least) =
      let same : p ≡ q = same-program text tree other p q (same_tree one-tree text tree other means.parsed also.parsed) means also in
      not-inferred p method summaries many (subst (λ (r : Program). AreLeast r summaries) (sym same) least)
  one-answer a b (InferDue.inferred other q summaries also least) (InferDue.too_many tree p method decl means many at) =
      let same : p ≡ q = same-program text tree other p q (same_tree one-tree text tree other means.parsed also.parsed) means also in
      not-inferred p method summaries many (subst (λ (r : Program). AreLeast r summaries) (sym same) least)
  one-answer a b (InferDue.inferred tree p summaries means least) (InferDue.inferred other q others also more) =
      let trees = same_tree one-tree text tree other means.parsed also.parsed in
      let same : p ≡ q = same-program text tree other p q trees means also in
      (λ i. on_out Done (summary_lines_of (same i).regions summaries (trees i).items))
      ∙ ap (on_out Done) (least-lines q summaries others q.regions other.items (subst (λ (r : Program). AreLeast r summaries) same least) more)
