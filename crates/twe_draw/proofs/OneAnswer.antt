-- The answer to legal moves is one.
use Rattle.std.proofs.Common.{◌≡◌, ◌++◌, ℕ, Bool, List, [], ◌∷◌, length, sym, ap, ◌∙◌, subst}
use Rattle.seg_journal.specs.declared.journal.Entry.{Entry}
use Rattle.seg_journal.specs.declared.moves.Move.{Move}
use Rattle.twe_base.specs.Limits.{Bounds}
use Rattle.twe_program.specs.Program.{Program}
use Rattle.machine_state.specs.declared.state.TaskRow.{TaskRow}
use Rattle.machine_state.specs.declared.why.Why.{Why}
use Rattle.machine_state.specs.Moves.{start_of}
use Rattle.machine_state.specs.Replays.{IsFirstIllegal}
use Rattle.machine_state.specs.Runs.{counted, state_after}
use Rattle.machine_state.proofs.replays.Replayed.{never_both, one_from}
use Rattle.span_profile.specs.Profiles.{IsProfile}
use Rattle.held_span.specs.HeldSpans.{IsHeldProfile}
use Rattle.held_span.specs.declared.hold.Hold.{Hold}
use Rattle.twe_io.specs.declared.answer.Answer.{Answer}
use Rattle.twe_io.specs.Answers.{on_out}
use Rattle.twe_io.specs.declared.status.Status.TheVariants.{Done}
use Rattle.twe_draw.specs.Answers.{PictureGiven}
use Rattle.twe_draw.specs.Pages.{IsDrawing, picture_text}
use Rattle.twe_draw.specs.Shown.{chain_flags, most_rows, works_of}
use Rattle.twe_draw.specs.picture.Bars.{bars_from}
use Rattle.twe_draw.specs.picture.Pictures.{AreBars, IsPicture}
use Rattle.twe_draw.specs.declared.picture.bars.EntryBar.{EntryBar}
use Rattle.twe_draw.specs.declared.words.Drawing.{Drawing}
use Rattle.twe_draw.specs.declared.words.Drawing.TheVariants.{Picture, Trace}
use Rattle.twe_draw.proofs.OneShown.{one_shown}

-- moves with a picture are all legal
pub all_legal : (drawing : Drawing) (p : Program) (lim : Bounds) (moves : List Move) (answer : Answer) (n : ℕ) (why : Why) → PictureGiven drawing p lim moves answer → ¬ IsFirstIllegal p lim moves n why
all_legal drawing p lim moves answer n why (PictureGiven.drawn work span held chain bars tasks holds text is drawn) first =
    never_both p lim moves n why (is.profile.journal, is.profile.legal, is.profile.has) first

-- the bars at these times are one list, and so are the tasks
one_bars : (p : Program) (lim : Bounds) (moves : List Move) (starts ends : List ℕ) (bars others : List EntryBar) (tasks rows : List TaskRow) → AreBars p lim moves starts ends bars tasks
    → AreBars p lim moves starts ends others rows → (bars ≡ others) × (tasks ≡ rows)
one_bars p lim moves starts ends bars others tasks rows one two =
    let same : one.journal ≡ two.journal = one_from p lim (start_of p lim) one.journal two.journal one.legal two.legal (one.has ∙ sym two.has) in (
      one.bars_are ∙ (ap (λ (j : List Entry). bars_from p lim starts ends (start_of p lim) [] (counted j)) same ∙ sym two.bars_are),
      one.tasks_are ∙ (ap (λ (j : List Entry). (state_after p lim j).tasks) same ∙ sym two.tasks_are),
    )

-- what is written of a run is one text
one_text : (drawing : Drawing) (p : Program) (work span held : ℕ) (chain : List ℕ) (bars : List EntryBar) (tasks : List TaskRow) (holds : List Hold) (text other : List ℕ)
    → IsDrawing drawing p work span held chain bars tasks holds text → IsDrawing drawing p work span held chain bars tasks holds other → text ≡ other
one_text (Picture kind) p work span held chain bars tasks holds text other one two =
    let same = one_shown most_rows (works_of (length tasks) bars) (chain_flags (length tasks) chain bars) one.shown two.shown one.shown_are two.shown_are in
    one.text_is ∙ (ap (λ (shown : List Bool). picture_text kind p shown work span held chain bars tasks holds) same ∙ sym two.text_is)
one_text Trace p work span held chain bars tasks holds text other one two =
    one.text_is ∙ (ap (λ (json : List ℕ). json ++ 10 ∷ []) (one.json_is ∙ sym two.json_is) ∙ sym two.text_is)

module _ (one_profile : (p : Program) (lim : Bounds) (moves : List Move) (work span : ℕ) (chain : List ℕ) (other_work other_span : ℕ) (other_chain : List ℕ)
    → IsProfile p lim moves work span chain → IsProfile p lim moves other_work other_span other_chain → (work ≡ other_work) × (span ≡ other_span) × (chain ≡ other_chain))
    (one_held : (p : Program) (lim : Bounds) (moves : List Move) (span other : ℕ) (starts ends firsts lasts : List ℕ) (holds others : List Hold) → IsHeldProfile p lim moves span starts ends holds
    → IsHeldProfile p lim moves other firsts lasts others → (span ≡ other) × (starts ≡ firsts) × (ends ≡ lasts) × (holds ≡ others)) where
  one_drawing : (drawing : Drawing) (p : Program) (lim : Bounds) (moves : List Move) (work span held other_work other_span other_held : ℕ) (chain other_chain : List ℕ) (bars other_bars : List EntryBar) (tasks other_tasks : List TaskRow) (holds other_holds : List Hold)
      (text other_text : List ℕ) → IsPicture p lim moves work span held chain bars tasks holds → IsPicture p lim moves other_work other_span other_held other_chain other_bars other_tasks other_holds
      → IsDrawing drawing p work span held chain bars tasks holds text → IsDrawing drawing p other_work other_span other_held other_chain other_bars other_tasks other_holds other_text → text ≡ other_text
  one_drawing drawing p lim moves work span held other_work other_span other_held chain other_chain bars other_bars tasks other_tasks holds other_holds text other_text one two drawn also =
      let profile = one_profile p lim moves work span chain other_work other_span other_chain one.profile two.profile in
      let times = one_held p lim moves held other_held one.starts one.ends two.starts two.ends holds other_holds one.times two.times in
      let moved : AreBars p lim moves two.starts two.ends bars tasks =
      subst (λ (l : List ℕ). AreBars p lim moves l two.ends bars tasks) times.1 (subst (λ (l : List ℕ). AreBars p lim moves one.starts l bars tasks) times.2 one.drawn) in
      let rows = one_bars p lim moves two.starts two.ends bars other_bars tasks other_tasks moved two.drawn in
      let here : IsDrawing drawing p other_work other_span other_held other_chain other_bars other_tasks other_holds text =
      subst (λ (n : ℕ). IsDrawing drawing p n other_span other_held other_chain other_bars other_tasks other_holds text) profile.0
      (subst (λ (n : ℕ). IsDrawing drawing p work n other_held other_chain other_bars other_tasks other_holds text) profile.1
      (subst (λ (n : ℕ). IsDrawing drawing p work span n other_chain other_bars other_tasks other_holds text) times.0
      (subst (λ (l : List ℕ). IsDrawing drawing p work span held l other_bars other_tasks other_holds text) profile.2
      (subst (λ (l : List EntryBar). IsDrawing drawing p work span held chain l other_tasks other_holds text) rows.0
      (subst (λ (l : List TaskRow). IsDrawing drawing p work span held chain bars l other_holds text) rows.1
      (subst (λ (l : List Hold). IsDrawing drawing p work span held chain bars tasks l text) times.3 drawn)))))) in
      one_text drawing p other_work other_span other_held other_chain other_bars other_tasks other_holds text other_text here also

  -- moves have one picture
  pub one_given : (drawing : Drawing) (p : Program) (lim : Bounds) (moves : List Move) (answer other : Answer) → PictureGiven drawing p lim moves answer → PictureGiven drawing p lim moves other → answer ≡ other
  one_given drawing p lim moves answer other (PictureGiven.drawn work span held chain bars tasks holds text is drawn) (PictureGiven.drawn other_work other_span other_held other_chain other_bars other_tasks other_holds other_text also also_drawn) =
      ap (λ (t : List ℕ). on_out Done t)
      (one_drawing drawing p lim moves work span held other_work other_span other_held chain other_chain bars other_bars tasks other_tasks holds other_holds text other_text is also drawn also_drawn)
