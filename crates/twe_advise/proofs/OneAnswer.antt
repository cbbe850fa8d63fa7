-- The answer to an input is one.
use Rattle.std.proofs.Common.{◌≡◌, ℕ, List, refl, ap, subst}
use Rattle.seg_journal.specs.declared.moves.Move.{Move}
use Rattle.twe_base.specs.Limits.{Bounds}
use Rattle.twe_ast.specs.declared.item.Ast.{Ast}
use Rattle.twe_ast.specs.declared.item.Item.{Item}
use Rattle.twe_program.specs.Program.{Program}
use Rattle.twe_advise.proofs.SameTree.{OneTree, same_tree}
use Rattle.machine_state.specs.declared.state.TaskRow.{TaskRow}
use Rattle.machine_state.specs.declared.why.Why.{Why}
use Rattle.machine_state.specs.Replays.{IsFirstIllegal}
use Rattle.machine_state.proofs.replays.Replayed.{never_both}
use Rattle.span_profile.specs.Advice.{AreMadeTasks, AreWorks}
use Rattle.span_profile.specs.Profiles.{HasEarliest, IsProfile}
use Rattle.span_profile.specs.Reasons.{HasSteps}
use Rattle.span_profile.specs.declared.reasons.ChainStep.{ChainStep}
use Rattle.span_profile.specs.declared.totals.TaskWork.{TaskWork}
use Rattle.held_span.specs.HeldSpans.{IsHeldProfile}
use Rattle.held_span.specs.MostHeld.{HeldMost}
use Rattle.held_span.specs.declared.hold.Hold.{Hold}
use Rattle.twe_io.specs.declared.answer.Answer.{Answer}
use Rattle.twe_io.specs.Answers.{on_out}
use Rattle.twe_io.specs.declared.status.Status.TheVariants.{Done}
use Rattle.twe_advise.specs.Answers.{AdviceGiven}
use Rattle.twe_advise.specs.Forms.{advice_text}
use Rattle.twe_advise.specs.Paces.{ArePaces, worker_counts}
use Rattle.twe_advise.specs.Parameters.{AreDeclarations}
use Rattle.twe_advise.specs.declared.words.AdviceWords.{AdviceWords}
use Rattle.twe_advise.proofs.OneMost.{one_most}
use Rattle.twe_advise.proofs.OnePace.{one_paces}

-- a text has one list of declarations
pub one_declarations : OneTree → (text : List ℕ) (items others : List Item) → AreDeclarations text items → AreDeclarations text others → items ≡ others
one_declarations one text _ _ (AreDeclarations.of_tree tree is) (AreDeclarations.of_tree other also) = ap (λ (t : Ast). t.items) (same_tree one text tree other is also)
one_declarations one text _ _ (AreDeclarations.of_tree tree is) (AreDeclarations.of_none rule place first) = absurd (is.keeps rule place first.fails)
one_declarations one text _ _ (AreDeclarations.of_none rule place first) (AreDeclarations.of_tree tree is) = absurd (is.keeps rule place first.fails)
one_declarations one text _ _ (AreDeclarations.of_none rule place first) (AreDeclarations.of_none other there also) = refl

-- moves with advice are all legal
pub all_legal : (wanted : AdviceWords) (items : List Item) (p : Program) (lim : Bounds) (moves : List Move) (answer : Answer) (n : ℕ) (why : Why) → AdviceGiven wanted items p lim moves answer
    → ¬ IsFirstIllegal p lim moves n why
all_legal wanted items p lim moves answer n why (AdviceGiven.advised work span held chain works steps tasks starts ends held_starts held_ends holds pairs paces is told made early paced profile most) first =
    never_both p lim moves n why (is.profile.journal, is.profile.legal, is.profile.has) first

module _ (one_profile : (p : Program) (lim : Bounds) (moves : List Move) (work span : ℕ) (chain : List ℕ) (other_work other_span : ℕ) (other_chain : List ℕ)
    → IsProfile p lim moves work span chain → IsProfile p lim moves other_work other_span other_chain → (work ≡ other_work) × (span ≡ other_span) × (chain ≡ other_chain))
    (one_works : (p : Program) (lim : Bounds) (moves : List Move) (works others : List TaskWork) → AreWorks p lim moves works → AreWorks p lim moves others → works ≡ others)
    (one_tasks : (p : Program) (lim : Bounds) (moves : List Move) (tasks others : List TaskRow) → AreMadeTasks p lim moves tasks → AreMadeTasks p lim moves others → tasks ≡ others)
    (one_times : (p : Program) (lim : Bounds) (moves : List Move) (span other : ℕ) (starts ends firsts lasts : List ℕ) → HasEarliest p lim moves span starts ends → HasEarliest p lim moves other firsts lasts
    → (span ≡ other) × (starts ≡ firsts) × (ends ≡ lasts))
    (one_steps : (p : Program) (lim : Bounds) (moves : List Move) (chain : List ℕ) (steps others : List ChainStep) → HasSteps p lim moves chain steps → HasSteps p lim moves chain others → steps ≡ others)
    (one_held : (p : Program) (lim : Bounds) (moves : List Move) (span other : ℕ) (starts ends firsts lasts : List ℕ) (holds others : List Hold) → IsHeldProfile p lim moves span starts ends holds
    → IsHeldProfile p lim moves other firsts lasts others → (span ≡ other) × (starts ≡ firsts) × (ends ≡ lasts) × (holds ≡ others)) where
  -- moves have one advice
  pub one_given : (wanted : AdviceWords) (items : List Item) (p : Program) (lim : Bounds) (moves : List Move) (answer other : Answer) → AdviceGiven wanted items p lim moves answer
      → AdviceGiven wanted items p lim moves other → answer ≡ other
  one_given wanted items p lim moves answer other
      (AdviceGiven.advised work span held chain works steps tasks starts ends held_starts held_ends holds pairs paces is told made early paced profile most)
      (AdviceGiven.advised work_b span_b held_b chain_b works_b steps_b tasks_b starts_b ends_b held_starts_b held_ends_b holds_b pairs_b paces_b is_b told_b made_b early_b paced_b profile_b most_b) =
      let all = one_profile p lim moves work span chain work_b span_b chain_b is.profile is_b.profile in
      let same_works = one_works p lim moves works works_b is.tasks is_b.tasks in
      let same_steps = one_steps p lim moves chain_b steps steps_b (subst (λ (l : List ℕ). HasSteps p lim moves l steps) all.2 told) told_b in
      let same_tasks = one_tasks p lim moves tasks tasks_b made made_b in
      let times = one_times p lim moves span span_b starts ends starts_b ends_b early early_b in
      let holding = one_held p lim moves held held_b held_starts held_ends held_starts_b held_ends_b holds holds_b profile profile_b in
      let counts = worker_counts wanted.workers in
      let here : ArePaces starts_b ends_b held_starts_b held_ends_b counts paces =
      subst (λ (l : List ℕ). ArePaces l ends_b held_starts_b held_ends_b counts paces) times.1 (subst (λ (l : List ℕ). ArePaces starts l held_starts_b held_ends_b counts paces) times.2
      (subst (λ (l : List ℕ). ArePaces starts ends l held_ends_b counts paces) holding.1 (subst (λ (l : List ℕ). ArePaces starts ends held_starts l counts paces) holding.2 paced))) in
      let same_paces = one_paces starts_b ends_b held_starts_b held_ends_b counts paces paces_b here paced_b in
      let these : HeldMost tasks_b holds_b pairs =
      subst (λ (l : List TaskRow). HeldMost l holds_b pairs) same_tasks (subst (λ (l : List Hold). HeldMost tasks l pairs) holding.3 most) in
      let same_pairs = one_most tasks_b holds_b pairs pairs_b these most_b in
      λ i. on_out Done (advice_text wanted.form p items (all.0 i) (all.1 i) (holding.0 i) (holding.3 i) (same_pairs i) (same_paces i) (same_works i) (same_tasks i) (times.1 i) (same_steps i))
