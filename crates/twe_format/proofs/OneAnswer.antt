-- A text has one answer.
use Rattle.std.proofs.Common.{◌≡◌, ◌<◌, ◌≤◌, ℕ, List, length, refl, sym, ap, ◌∙◌, arith}
use Rattle.twe_base.specs.declared.place.Place.{Place}
use Rattle.twe_ast.specs.declared.item.Ast.{Ast}
use Rattle.twe_io.specs.declared.answer.Answer.{Answer}
use Rattle.twe_io.specs.declared.status.Status.TheVariants.{Done, Refused}
use Rattle.twe_io.specs.Answers.{on_err, on_out}
use Rattle.twe_frontend.specs.declared.refusal.Refusal.{Refusal}
use Rattle.twe_frontend.specs.declared.refusal.RuleName.{RuleName}
use Rattle.twe_frontend.specs.declared.refusal.RuleName.TheVariants.{Text, Name, Effect}
use Rattle.twe_frontend.specs.Accepted.{IsRefusal, IsTreeOf}
use Rattle.twe_frontend.specs.Reads.{IsTextFailure}
use Rattle.twe_report.specs.Texts.{refusal_text}
use Rattle.layout_laws.proofs.OneCut.{one_layout}
use Rattle.twe_format.specs.declared.words.FormatRequest.{FormatRequest}
use Rattle.twe_format.specs.declared.words.FormatRequest.TheVariants.{Write, Check}
use Rattle.twe_format.specs.Answers.{FormatDue, HasLayout, check_answer}

as_refusal : (text : List ℕ) (rule : RuleName) (place : Place) → IsTextFailure text rule place → IsRefusal text (record { rule = rule; place = place })
as_refusal text (Text rule) place first = IsRefusal.of_text rule place first
as_refusal text (Name rule) place first = absurd first
as_refusal text (Effect rule) place first = absurd first

never : (text : List ℕ) (tree : Ast) (rule : RuleName) (place : Place) → IsTreeOf text tree → IsTextFailure text rule place → ⊥
never text tree (Text rule) place parsed first = parsed.keeps rule place first.fails
never text tree (Name rule) place parsed first = first
never text tree (Effect rule) place parsed first = first

two_requests : (request : FormatRequest) → request ≡ Write → request ≡ Check → ⊥
two_requests request one other = let clash : Write ≡ Check = sym one ∙ other in cc

module _ (one-refusal : (text : List ℕ) (r other : Refusal) → IsRefusal text r → IsRefusal text other → r ≡ other) (request : FormatRequest) (text : List ℕ) where
  same-layout : (tree other : Ast) (laid again : List ℕ) → HasLayout text tree laid → HasLayout text other again → laid ≡ again
  same-layout tree other laid again one two = one_layout text laid again one.laid_out two.laid_out

  never-long : {A : Type 0} (tree other : Ast) (laid again : List ℕ) → HasLayout text tree laid → HasLayout text other again → 1048576 < length laid → length again ≤ 1048576 → A
  never-long tree other laid again one two long short = let lengths = ap length (same-layout tree other laid again one two) in absurd (omega arith)

  pub one-answer : (a b : Answer) → FormatDue request text a → FormatDue request text b → a ≡ b
  one-answer a b (FormatDue.refused r is) (FormatDue.refused other also) =
      ap (λ (its : Refusal). on_err Refused (refusal_text its)) (one-refusal text r other (as_refusal text r.rule r.place is) (as_refusal text other.rule other.place also))
  one-answer a b (FormatDue.refused r is) (FormatDue.too_long tree laid has long) = absurd (never text tree r.rule r.place has.parsed is)
  one-answer a b (FormatDue.refused r is) (FormatDue.written tree laid asked has short) = absurd (never text tree r.rule r.place has.parsed is)
  one-answer a b (FormatDue.refused r is) (FormatDue.checked tree laid asked has short) = absurd (never text tree r.rule r.place has.parsed is)
  one-answer a b (FormatDue.too_long tree laid has long) (FormatDue.refused r is) = absurd (never text tree r.rule r.place has.parsed is)
  one-answer a b (FormatDue.written tree laid asked has short) (FormatDue.refused r is) = absurd (never text tree r.rule r.place has.parsed is)
  one-answer a b (FormatDue.checked tree laid asked has short) (FormatDue.refused r is) = absurd (never text tree r.rule r.place has.parsed is)
  one-answer a b (FormatDue.too_long tree laid has long) (FormatDue.too_long other again also more) = refl
  one-answer a b (FormatDue.too_long tree laid has long) (FormatDue.written other again asked also short) = never-long tree other laid again has also long short
  one-answer a b (FormatDue.too_long tree laid has long) (FormatDue.checked other again asked also short) = never-long tree other laid again has also long short
  one-answer a b (FormatDue.written other again asked also short) (FormatDue.too_long tree laid has long) = never-long tree other laid again has also long short
  one-answer a b (FormatDue.checked other again asked also short) (FormatDue.too_long tree laid has long) = never-long tree other laid again has also long short
  one-answer a b (FormatDue.written tree laid asked has short) (FormatDue.written other again wanted also small) = ap (on_out Done) (same-layout tree other laid again has also)
  one-answer a b (FormatDue.written tree laid asked has short) (FormatDue.checked other again wanted also small) = absurd (two_requests request asked wanted)
  one-answer a b (FormatDue.checked tree laid asked has short) (FormatDue.written other again wanted also small) = absurd (two_requests request wanted asked)
  one-answer a b (FormatDue.checked tree laid asked has short) (FormatDue.checked other again wanted also small) = ap (check_answer text) (same-layout tree other laid again has also)
