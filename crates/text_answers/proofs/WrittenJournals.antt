-- The journal that a run has written is read again, and its replay has the answer of the run.
use Rattle.std.proofs.Common.{◌≡◌, ◌++◌, ◌==◌, ℕ, Bool, true, false, cond, List, [], ◌∷◌, map, Option, Some, codes, inl, inr, refl, sym, ap, ◌∙◌, subst, arith}
use Rattle.std.specs.List.{AllByRecursion, flat_map, list_any}
use Rattle.std.proofs.lemmas.Bool.{cases_Bool}
use Rattle.seg_journal.specs.declared.journal.Entry.{Entry}
use Rattle.seg_journal.specs.Lines.{lines_of, with_byte}
use Rattle.seg_journal.specs.Spelling.{Spells, HasTask, head_line, move_line, move_of}
use Rattle.seg_journal.proofs.BadLines.{none_bad}
use Rattle.seg_journal.proofs.FirstLines.{joined-lines_of}
use Rattle.seg_journal.proofs.OneSpelling.{one_journal}
use Rattle.twe_base.specs.Limits.{Bounds, IsWithin}
use Rattle.twe_program.specs.Program.{Program}
use Rattle.twe_program.specs.WellFormed.{IsWellFormed}
use Rattle.twe_frontend.specs.declared.refusal.Refusal.{Refusal}
use Rattle.twe_frontend.specs.Accepted.{Accepted, IsRefusal}
use Rattle.machine_state.specs.declared.ending.Outcome.{Outcome}
use Rattle.machine_state.specs.declared.state.State.{State}
use Rattle.machine_state.specs.Moves.{move_result, start_of}
use Rattle.machine_state.specs.Runs.{IsOutcome, Legal, LegalFrom, counted, state_after}
use Rattle.machine_state.proofs.tasks.Movers.{mover_there}
use Rattle.machine_state.proofs.standing.ReachedStands.{start_stands, taken_stands}
use Rattle.machine_state.proofs.replays.Replayed.{never_both, one_from}
use Rattle.machine_state.proofs.standing.Standing.{Stands}
use Rattle.twe_report.specs.Texts as texts
use Rattle.command_line.specs.declared.command.Command.TheVariants.{Run, Replay}
use Rattle.twe_io.specs.declared.answer.Answer.{Answer}
use Rattle.text_answers.specs.declared.book.Book.{Book}
use Rattle.text_answers.specs.Answers.{AnswersReplay, AnswersRun, Due, limits_with, with_journal}
use Rattle.text_answers.specs.Input as input
use Rattle.text_answers.proofs.Cuts.{no_or}
use Rattle.text_answers.proofs.OneAnswer.{one_answer, one_outcome}
use Rattle.text_answers.specs.Input.{after_mark, before_mark, ends_line, is_mark, joined}

-- The lines of two texts, one after another.

with_byte-append : (byte : ℕ) (line : List ℕ) (lines others all : List (List ℕ)) → all ≡ line ∷ lines → with_byte byte (all ++ others) ≡ with_byte byte all ++ others
with_byte-append byte line lines others all is =
    ap (λ (ls : List (List ℕ)). with_byte byte (ls ++ others)) is ∙ sym (ap (λ (ls : List (List ℕ)). with_byte byte ls ++ others) is)

first_line : (byte : ℕ) (text : List ℕ) → (line : List ℕ) × (lines : List (List ℕ)) × (lines_of (byte ∷ text) ≡ line ∷ lines)
first_line byte text = by_end (byte == 10) (lines_of text)
  where
    by_end : (ends : Bool) (later : List (List ℕ)) → (line : List ℕ) × (lines : List (List ℕ)) × (cond ends ((byte ∷ []) ∷ later) (with_byte byte later) ≡ line ∷ lines)
    by_end true later = (byte ∷ [], later, refl)
    by_end false [] = (byte ∷ [], [], refl)
    by_end false (line ∷ lines) = (byte ∷ line, lines, refl)

lines_append : (text rest : List ℕ) → ends_line text ≡ true → lines_of (text ++ rest) ≡ lines_of text ++ lines_of rest
lines_append [] rest ends = refl
lines_append (byte ∷ []) rest ends = rw ends refl
lines_append (byte ∷ next ∷ text) rest ends =
    let more = lines_append (next ∷ text) rest ends in
    elim (cases_Bool (byte == 10)) [
      | inl end ↦ rw end (ap (λ (ls : List (List ℕ)). (byte ∷ []) ∷ ls) more)
      | inr goes_on ↦ rw goes_on (ap (with_byte byte) more ∙ (let first = first_line next text in with_byte-append byte first.0 first.1 (lines_of rest) (lines_of (next ∷ text)) first.2))
    ]

-- The cut at the first mark.

before_append : (lines others : List (List ℕ)) (line : List ℕ) → list_any is_mark lines ≡ false → is_mark line ≡ true → before_mark (lines ++ line ∷ others) ≡ lines
before_append [] others line none mark = rw mark refl
before_append (first ∷ lines) others line none mark =
    let no = no_or (is_mark first) (list_any is_mark lines) none in
    ap (λ (b : Bool). cond b [] (first ∷ before_mark (lines ++ line ∷ others))) no.0 ∙ ap (λ (ls : List (List ℕ)). first ∷ ls) (before_append lines others line no.1 mark)

after_append : (lines others : List (List ℕ)) (line : List ℕ) → list_any is_mark lines ≡ false → is_mark line ≡ true → after_mark (lines ++ line ∷ others) ≡ others
after_append [] others line none mark = rw mark refl
after_append (first ∷ lines) others line none mark =
    let no = no_or (is_mark first) (list_any is_mark lines) none in
    ap (λ (b : Bool). cond b (lines ++ line ∷ others) (after_mark (lines ++ line ∷ others))) no.0 ∙ after_append lines others line no.1 mark

abbrev mark : List ℕ
mark = codes "%%" ++ 10 ∷ []

marked_lines : (text rest : List ℕ) → ends_line text ≡ true → lines_of (text ++ (mark ++ rest)) ≡ lines_of text ++ mark ∷ lines_of rest
marked_lines text rest ends = lines_append text (mark ++ rest) ends

pub cut_program : (text rest : List ℕ) → ends_line text ≡ true → list_any is_mark (lines_of text) ≡ false → input.program_part (text ++ (mark ++ rest)) ≡ text
cut_program text rest ends none =
    ap (λ (ls : List (List ℕ)). joined (before_mark ls)) (marked_lines text rest ends)
    ∙ (ap joined (before_append (lines_of text) (lines_of rest) mark none refl) ∙ joined-lines_of text)

pub cut_journal : (text rest : List ℕ) → ends_line text ≡ true → list_any is_mark (lines_of text) ≡ false → input.journal_part (text ++ (mark ++ rest)) ≡ rest
cut_journal text rest ends none =
    ap (λ (ls : List (List ℕ)). joined (after_mark ls)) (marked_lines text rest ends)
    ∙ (ap joined (after_append (lines_of text) (lines_of rest) mark none refl) ∙ joined-lines_of rest)

-- The journal of a run spells its limits and its moves.

tasks_from : (p : Program) (lim : Bounds) (st : State) (entries : List Entry) → IsWellFormed p → IsWithin lim.fuel lim.tasks → Stands p lim st → LegalFrom p lim st entries
    → AllByRecursion HasTask (map move_of entries)
tasks_from p lim st [] well within stands legal = tt
tasks_from p lim st (entry ∷ entries) well within stands legal =
    let there = mover_there st entry.mv.kind entry.mv.task legal.0 in
    let few = stands.limit within.tasks_least in (
      omega (arith, there, few, within.tasks_most),
      tasks_from p lim (move_result p lim st entry.mv).0 entries well within (taken_stands p lim well st entry.mv.kind entry.mv.task legal.0 stands) legal.2,
    )

pub spells_run : (p : Program) (lim : Bounds) (journal : List Entry) → IsWellFormed p → IsWithin lim.fuel lim.tasks → Legal p lim journal
    → Spells (head_line lim ++ flat_map move_line (map move_of journal)) (Some lim) (map move_of journal)
spells_run p lim journal well within legal =
    record { lines = refl; limits = within; tasks = tasks_from p lim (start_of p lim) journal well within (start_stands p lim well) legal }

-- So the replay of what a run has written has the run's answer.

module _ (one_program : (text : List ℕ) (p other : Program) → Accepted text p → Accepted text other → p ≡ other)
    (not_refused : (text : List ℕ) (p : Program) (refusal : Refusal) → Accepted text p → ¬ IsRefusal text refusal) where
  -- what a run of an accepted text has for an answer
  pub record RunAnswer (p : Program) (lim : Bounds) (book : Book) (ran : Answer) : Type 0 where
    pub outcome : Outcome
    pub plain : Answer
    pub legal : Legal p lim book.journal
    pub ended : IsOutcome (state_after p lim book.journal) outcome
    pub answers : AnswersRun p (state_after p lim book.journal) (state_after p lim (counted book.journal)).prints outcome plain
    pub same : ran ≡ with_journal true lim book.journal plain

  pub run_answer : (text : List ℕ) (workers : ℕ) (lim : Bounds) (p : Program) (book : Book) (ran : Answer) → Accepted text p → Due (Run workers lim true) text book ran → RunAnswer p lim book ran
  run_answer text workers lim p book ran accepted (Due.refused r is has) = absurd (not_refused text p r accepted is)
  run_answer text workers lim p book ran accepted (Due.accepted other command is has) = absurd (cc (command))
  run_answer text workers lim p book ran accepted (Due.replayed other q command is answers) = absurd (cc (command))
  run_answer text workers lim p book ran accepted (Due.loaded crew n q outcome plain command is has answers) = absurd (cc (command))
  run_answer text workers lim p book ran accepted (Due.ran crew used asked q outcome plain command is has answers) =
      let limits : lim ≡ used = cc (command) in
      let flag : true ≡ asked = cc (command) in
      let program : q ≡ p = one_program text q p is accepted in
      subst (λ (r : Program). RunAnswer r lim book (with_journal asked used book.journal plain)) program
      (subst (λ (l : Bounds). RunAnswer q l book (with_journal asked used book.journal plain)) (sym limits)
      (record {
        outcome = outcome;
        plain = plain;
        legal = has.has.legal;
        ended = has.has.ended;
        answers = answers;
        same = ap (λ (b : Bool). with_journal b used book.journal plain) (sym flag);
      }))

  replay_answer : (p : Program) (lim other : Bounds) (book run : Book) (text : List ℕ) (ran answer : Answer) → Spells text (Some lim) (map move_of run.journal)
      → RunAnswer p lim run ran → AnswersReplay p other text book answer → ran ≡ with_journal true lim run.journal answer
  replay_answer p lim other book run text ran answer spells r (AnswersReplay.not_a_move n bad has) = absurd (none_bad text (Some lim) (map move_of run.journal) n spells bad)
  replay_answer p lim other book run text ran answer spells r (AnswersReplay.not_legal head moves n why spelled first has) =
      let same = one_journal head (Some lim) moves (map move_of run.journal) text spelled spells in
      absurd (never_both p (limits_with head other) moves n why
      (run.journal, subst (λ (h : Option Bounds). Legal p (limits_with h other) run.journal) (sym same.0) r.legal, sym same.1) first)
  replay_answer p lim other book run text ran answer spells r (AnswersReplay.replayed head moves outcome spelled has answers) =
      let same = one_journal head (Some lim) moves (map move_of run.journal) text spelled spells in
      let limits : limits_with head other ≡ lim = ap (λ (h : Option Bounds). limits_with h other) same.0 in
      let legal : Legal p lim book.journal = subst (λ (l : Bounds). Legal p l book.journal) limits has.has.legal in
      let journal : book.journal ≡ run.journal = one_from p lim (start_of p lim) book.journal run.journal legal r.legal (has.replays ∙ same.1) in
      let ended : IsOutcome (state_after p lim run.journal) outcome =
      subst (λ (es : List Entry). IsOutcome (state_after p lim es) outcome) journal (subst (λ (l : Bounds). IsOutcome (state_after p l book.journal) outcome) limits has.has.ended) in
      let ends : r.outcome ≡ outcome = one_outcome (state_after p lim run.journal) r.outcome outcome r.ended ended in
      let said : AnswersRun p (state_after p lim run.journal) (state_after p lim (counted run.journal)).prints outcome answer =
      subst (λ (es : List Entry). AnswersRun p (state_after p lim es) (state_after p lim (counted es)).prints outcome answer) journal
      (subst (λ (l : Bounds). AnswersRun p (state_after p l book.journal) (state_after p l (counted book.journal)).prints outcome answer) limits answers) in
      r.same ∙ ap (with_journal true lim run.journal)
      (one_answer p (state_after p lim run.journal) (state_after p lim (counted run.journal)).prints outcome r.plain answer
      (subst (λ (o : Outcome). AnswersRun p (state_after p lim run.journal) (state_after p lim (counted run.journal)).prints o r.plain) ends r.answers) said)

  -- the replay of an input with this program text and this journal text
  due_replay : (given : List ℕ) (p : Program) (other : Bounds) (book : Book) (answer : Answer) (text journal : List ℕ) → input.program_part given ≡ text → input.journal_part given ≡ journal
      → Accepted text p → Due (Replay other) given book answer → AnswersReplay p other journal book answer
  due_replay given p other book answer text journal program rest accepted (Due.refused r is has) = absurd (not_refused text p r accepted (subst (λ (t : List ℕ). IsRefusal t r) program is))
  due_replay given p other book answer text journal program rest accepted (Due.accepted q command is has) = absurd (cc (command))
  due_replay given p other book answer text journal program rest accepted (Due.ran crew used asked q outcome plain command is has answers) = absurd (cc (command))
  due_replay given p other book answer text journal program rest accepted (Due.loaded crew n q outcome plain command is has answers) = absurd (cc (command))
  due_replay given p other book answer text journal program rest accepted (Due.replayed used q command is answers) =
      let limits : other ≡ used = cc (command) in
      let same : q ≡ p = one_program text q p (subst (λ (t : List ℕ). Accepted t q) program is) accepted in
      subst (λ (t : List ℕ). AnswersReplay p other t book answer) rest
      (subst (λ (r : Program). AnswersReplay r other (input.journal_part given) book answer) same
      (subst (λ (l : Bounds). AnswersReplay q l (input.journal_part given) book answer) (sym limits) answers))

  pub written_replays : (text : List ℕ) (workers : ℕ) (lim other : Bounds) (p : Program) (run book : Book) (ran answer : Answer) → IsWellFormed p → IsWithin lim.fuel lim.tasks
      → ends_line text ≡ true → list_any is_mark (lines_of text) ≡ false → Accepted text p → Due (Run workers lim true) text run ran
      → Due (Replay other) (text ++ texts.journal_part_text lim run.journal) book answer → ran ≡ with_journal true lim run.journal answer
  written_replays text workers lim other p run book ran answer well within ends none accepted due replay =
      let r = run_answer text workers lim p run ran accepted due in
      let rest = head_line lim ++ flat_map move_line (map move_of run.journal) in
      replay_answer p lim other book run rest ran answer (spells_run p lim run.journal well within r.legal) r
      (due_replay (text ++ (mark ++ rest)) p other book answer text rest (cut_program text rest ends none) (cut_journal text rest ends none) accepted replay)
