-- From what the parts of a call ensure to the answer to legal moves.
use Rattle.std.proofs.Common.{◌≡◌, ap, ℕ, List, sym, ◌∙◌, subst}
use Rattle.twe_base.specs.Limits.{Bounds}
use Rattle.seg_journal.specs.declared.moves.Move.{Move}
use Rattle.twe_ast.specs.declared.item.Item.{Item}
use Rattle.twe_program.specs.Program.{Program}
use Rattle.machine_state.specs.declared.state.TaskRow.{TaskRow}
use Rattle.twe_io.specs.declared.answer.Answer.{Answer}
use Rattle.twe_io.specs.declared.status.Status.TheVariants.{Done}
use Rattle.twe_io.specs.Answers.{on_out}
use Rattle.held_span.specs.MostHeld.{HeldMost}
use Rattle.held_span.specs.declared.pair.HeldPair.{HeldPair}
use Rattle.held_span.specs.HeldSpans.{IsHeldProfile}
use Rattle.held_span.specs.declared.hold.Hold.{Hold}
use Rattle.held_span.specs.declared.spanning.HeldProfile.{HeldProfile}
use Rattle.span_profile.specs.Advice.{AreMadeTasks, IsAdvice}
use Rattle.span_profile.specs.declared.advising.Advice.{Advice}
use Rattle.span_profile.specs.Profiles.{HasEarliest}
use Rattle.span_profile.specs.Reasons.{HasSteps}
use Rattle.twe_advise.specs.declared.paces.PacedTime.{PacedTime}
use Rattle.twe_advise.specs.Paces.{ArePaces, worker_counts}
use Rattle.twe_advise.specs.Answers.{AdviceGiven}
use Rattle.twe_advise.specs.declared.words.AdviceWords.{AdviceWords}
use Rattle.twe_advise.specs.Forms.{advice_text}
use Rattle.twe_advise.specs.inner.Given.{AdvisedBy}

-- the parts of an answer with advice
pub advised_by : (wanted : AdviceWords) (items : List Item) (p : Program) (advice : Advice) (held : HeldProfile) (pairs : List HeldPair) (shown : List Item) (counts asked : List ℕ)
    (paces slice : List PacedTime) (text : List ℕ) (answer : Answer)
    → shown ≡ items → counts ≡ asked → asked ≡ worker_counts wanted.workers
    → ArePaces advice.profile.starts advice.profile.ends held.starts held.ends counts paces → slice ≡ paces
    → text ≡ advice_text wanted.form p shown advice.profile.work advice.profile.span held.span held.holds pairs slice advice.works advice.tasks advice.profile.starts advice.steps → answer ≡ on_out Done text
    → AdvisedBy wanted items p advice held pairs answer
advised_by wanted items p advice held pairs shown counts asked paces slice text answer shown_are slice_is asked_are are same is answer_is =
    let written = λ (i : List Item) (l : List PacedTime).
    advice_text wanted.form p i advice.profile.work advice.profile.span held.span held.holds pairs l advice.works advice.tasks advice.profile.starts advice.steps in (
      paces,
      subst (λ (l : List ℕ). ArePaces advice.profile.starts advice.profile.ends held.starts held.ends l paces) (slice_is ∙ asked_are) are,
      answer_is ∙ ap (on_out Done) (is ∙ ap (λ (i : List Item). written i slice) shown_are ∙ ap (written items) same),
    )

-- an answer with the advice of these moves is the one that is due to them
pub advice_given : (wanted : AdviceWords) (items : List Item) (p : Program) (lim : Bounds) (moves : List Move) (advice : Advice) (held : HeldProfile)
    (pairs shown : List HeldPair) (tasks : List TaskRow) (holds : List Hold) (answer : Answer)
    → IsAdvice p lim moves advice.profile.work advice.profile.span advice.profile.chain advice.works → HasSteps p lim moves advice.profile.chain advice.steps
    → AreMadeTasks p lim moves advice.tasks → HasEarliest p lim moves advice.profile.span advice.profile.starts advice.profile.ends
    → IsHeldProfile p lim moves held.span held.starts held.ends held.holds → tasks ≡ advice.tasks → holds ≡ held.holds → HeldMost tasks holds pairs → shown ≡ pairs
    → AdvisedBy wanted items p advice held shown answer → AdviceGiven wanted items p lim moves answer
advice_given wanted items p lim moves advice held pairs shown tasks holds answer is steps made early profile tasks_are holds_are most shown_are advised =
    let h = advice.profile in
    let of_these = subst (λ (t : List TaskRow). HeldMost t held.holds shown) tasks_are
    (subst (λ (l : List Hold). HeldMost tasks l shown) holds_are (subst (HeldMost tasks holds) (sym shown_are) most)) in
    subst (AdviceGiven wanted items p lim moves) (sym advised.2)
    (AdviceGiven.advised h.work h.span held.span h.chain advice.works advice.steps advice.tasks h.starts h.ends held.starts held.ends held.holds shown advised.0
    is steps made early advised.1 profile of_these)
