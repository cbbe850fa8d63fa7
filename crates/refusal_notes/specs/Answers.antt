-- What the program answers to a text.
use Rattle.std.specs.Prelude.{◌≡◌, ℕ, true, false, List}
use Rattle.twe_base.specs.declared.place.Place.{Place}
use Rattle.refusal_causes.specs.text_rules.Open.{AreOpenAt}
use Rattle.twe_ast.specs.declared.item.Ast.{Ast}
use Rattle.twe_ast.specs.declared.name.Name.{Name}
use Rattle.twe_program.specs.Program.{Program}
use Rattle.twe_frontend.specs.declared.refusal.Refusal.{Refusal}
use Rattle.twe_frontend.specs.Accepted.{Accepted, IsRefusal, IsTreeOf}
use Rattle.refusal_causes.specs.declared.cause.RuleCause.{RuleCause}
use Rattle.refusal_causes.specs.declared.next_tokens.NextToken.{NextToken}
use Rattle.name_causes.specs.declared.need.NameNeed.{NameNeed}
use Rattle.refusal_causes.specs.declared.text_rules.cause.TextCause.{TextCause}
use Rattle.refusal_causes.specs.Explained.{IsCausedBy, IsNameCauseOf, IsTextCauseOf, is_of_names, is_of_tokens}
use Rattle.refusal_causes.specs.NextTokens.{AreNextAt, is_of_end}
use Rattle.twe_report.specs.Texts.{accepted_text}
use Rattle.twe_io.specs.declared.answer.Answer.{Answer}
use Rattle.twe_io.specs.declared.status.Status.TheVariants.{Done, Refused}
use Rattle.twe_io.specs.Answers.{on_out}
use Rattle.refusal_notes.specs.Early.{early_explanation}
use Rattle.refusal_notes.specs.Explanation.{explanation_by, place_of_cause}
use Rattle.explain_pages.specs.declared.places.note.Explanation.{Explanation}
use Rattle.refusal_notes.specs.declared.mends.Mend.{Mend}
use Rattle.refusal_notes.specs.Meetings.{IsMeetingTold}
use Rattle.refusal_notes.specs.Mends.{AreMends, AreTried}
use Rattle.explain_pages.specs.names.Named.{named_explanation}
use Rattle.refusal_notes.specs.Tokens.{stray_explanation}
use Rattle.refusal_notes.specs.Unclosed.{unclosed_explanation}
use Rattle.explain_pages.specs.names.Variables.{variables_at}
use Rattle.explain_pages.specs.Page.{refused_text}
use Rattle.explain_pages.specs.declared.wanted.Wanted.{Wanted}

-- the names of the variables of the declaration that the cause speaks of, by their numbers
abbrev pub names_of : RuleCause → Ast → List Name
names_of cause tree = variables_at tree.items (place_of_cause cause)

-- what is said of a refusal with its cause, by the names that the text has
abbrev pub caused_explanation : Refusal → RuleCause → Ast → Program → Explanation
caused_explanation refusal cause tree p = explanation_by refusal cause p.regions (names_of cause tree)

-- these edits may mend a failure with this cause, by the names that the text has
abbrev pub AreMendsOf : List ℕ → Refusal → RuleCause → Ast → Program → List Mend → Type 0
AreMendsOf text refusal cause tree p mends = AreMends text refusal.place cause p.regions (names_of cause tree) mends

-- The answer to a text that was read. All of it is on out, and the status is that of `twe check`.
pub data ExplainDue (wanted : Wanted) (text : List ℕ) : Answer → Type 0 where
  -- the text is accepted, as `twe check` says
  accepted : (p : Program) → Accepted text p → ExplainDue wanted text (on_out Done accepted_text)
  -- the text is refused at a byte, a number, a bracket, an operator or a comment, and what is said of it is true of the text
  refused : (refusal : Refusal) (cause : TextCause) → IsRefusal text refusal → IsTextCauseOf text refusal.rule refusal.place cause
      → ExplainDue wanted text (on_out Refused (refused_text wanted text refusal (early_explanation refusal cause)))
  -- the text is refused at a token that may not stand at its place; what may stand there comes last
  stray : (refusal : Refusal) (tokens : List NextToken) → IsRefusal text refusal → is_of_tokens refusal.rule ≡ true
      → is_of_end refusal.rule ≡ false → AreNextAt text refusal.place tokens
      → ExplainDue wanted text (on_out Refused (refused_text wanted text refusal (stray_explanation refusal tokens)))
  -- the text is refused at its end, which comes too early, with the brackets that are open there: of all of them the innermost
  -- ones; what may stand there comes last
  ended : (refusal : Refusal) (tokens : List NextToken) (places : List Place) → IsRefusal text refusal
      → is_of_end refusal.rule ≡ true → AreNextAt text refusal.place tokens → AreOpenAt text refusal.place places
      → ExplainDue wanted text (on_out Refused (refused_text wanted text refusal (unclosed_explanation refusal tokens places)))
  -- The text is refused by a rule of names, and the cause is true of its tree: what is needed at the place, and what is there.
  -- The declaration of the name that stands there is shown, too, if it has one.
  named : (refusal : Refusal) (cause : NameNeed) (tree : Ast) → IsRefusal text refusal → is_of_names refusal.rule ≡ true
      → IsTreeOf text tree → IsNameCauseOf tree refusal.rule refusal.place cause
      → ExplainDue wanted text
      (on_out Refused (refused_text wanted text refusal (named_explanation text refusal cause tree.items)))
  -- The text is refused, and the cause is true of the program that it means; after the answer of `twe check` comes the cause, and
  -- then where its two effects meet, if it has two. Edits that may mend it are tried, and what is said of those after which it is
  -- accepted comes last.
  caused : (refusal : Refusal) (cause : RuleCause) (tree : Ast) (p : Program) (mends : List Mend) (told remarks : List (List ℕ))
      → IsCausedBy text refusal cause tree p
      → IsMeetingTold p (names_of cause tree) cause (caused_explanation refusal cause tree p).remarks told
      → AreMendsOf text refusal cause tree p mends → AreTried mends told remarks
      → ExplainDue wanted text (on_out Refused (refused_text wanted text refusal
      (record (caused_explanation refusal cause tree p) { remarks = remarks })))
