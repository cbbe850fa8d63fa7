-- An input has one answer, if legal moves have one.
use Rattle.std.proofs.Common.{◌≡◌, ◌+◌, ℕ, true, List, Option, length, refl, sym, ap, ◌∙◌, subst}
use Rattle.std.proofs.lemmas.Bool.{true≢false}
use Rattle.seg_journal.specs.declared.moves.Move.{Move}
use Rattle.seg_journal.specs.Spelling.{Spells, head_lines}
use Rattle.seg_journal.proofs.BadLines.{none_bad, one_first_bad}
use Rattle.seg_journal.proofs.OneSpelling.{one_journal}
use Rattle.twe_base.specs.Limits.{Bounds}
use Rattle.twe_program.specs.Program.{Program}
use Rattle.twe_frontend.specs.declared.refusal.Refusal.{Refusal}
use Rattle.twe_frontend.specs.Accepted.{Accepted, IsRefusal}
use Rattle.machine_state.specs.declared.why.Why.{Why}
use Rattle.machine_state.specs.Replays.{IsFirstIllegal}
use Rattle.machine_state.proofs.replays.Replayed.{one_first}
use Rattle.twe_report.specs.Texts.{not_a_move_text, not_legal_text, refusal_text}
use Rattle.text_answers.specs.Answers.{default_limits, limits_with}
use Rattle.text_answers.specs.Input.{HasNoMark, has_mark, journal_part, program_part}
use Rattle.twe_io.specs.declared.answer.Answer.{Answer}
use Rattle.twe_io.specs.Answers.{on_err}
use Rattle.twe_io.specs.declared.status.Status.TheVariants.{BadJournal, Refused}
use Rattle.text_answers.specs.Due.{JournalDue}

-- the first move that is not legal, in what the same text spells
moved_illegal : (p : Program) (head others : Option Bounds) (moves more : List Move) (n : ℕ) (why : Why) → head ≡ others → moves ≡ more
    → IsFirstIllegal p (limits_with head default_limits) moves n why → IsFirstIllegal p (limits_with others default_limits) more n why
moved_illegal p head others moves more n why heads same first =
    subst (λ (h : Option Bounds). IsFirstIllegal p (limits_with h default_limits) more n why) heads
    (subst (λ (ms : List Move). IsFirstIllegal p (limits_with head default_limits) ms n why) same first)

module _ (one_program : (text : List ℕ) (p other : Program) → Accepted text p → Accepted text other → p ≡ other)
    (one_refusal : (text : List ℕ) (refusal other : Refusal) → IsRefusal text refusal → IsRefusal text other → refusal ≡ other)
    (not_refused : (text : List ℕ) (p : Program) (refusal : Refusal) → Accepted text p → ¬ IsRefusal text refusal)
    (Gives : Program → Bounds → List Move → Answer → Type 0)
    (all_legal : (p : Program) (lim : Bounds) (moves : List Move) (answer : Answer) (n : ℕ) (why : Why) → Gives p lim moves answer → ¬ IsFirstIllegal p lim moves n why)
    (one_given : (p : Program) (lim : Bounds) (moves : List Move) (answer other : Answer) → Gives p lim moves answer → Gives p lim moves other → answer ≡ other)
    (input : List ℕ) where
  -- an input has a line that is exactly `%%`, or has none
  marked_or_not : {A : Type 0} → has_mark input ≡ true → HasNoMark input → A
  marked_or_not marked none = absurd (true≢false (sym marked ∙ none))

  -- moves that are all legal have no first that is not
  never_both : {A : Type 0} (p q : Program) (head others : Option Bounds) (moves more : List Move) (n : ℕ) (why : Why) (answer : Answer) → Accepted (program_part input) p → Accepted (program_part input) q
      → Spells (journal_part input) head moves → Spells (journal_part input) others more
      → IsFirstIllegal p (limits_with head default_limits) moves n why → Gives q (limits_with others default_limits) more answer → A
  never_both p q head others moves more n why answer accepted also spells spelled first given =
      let same = one_journal head others moves more (journal_part input) spells spelled in
      let one = one_program (program_part input) p q accepted also in
      absurd (all_legal q (limits_with others default_limits) more answer n why given
      (subst (λ (r : Program). IsFirstIllegal r (limits_with others default_limits) more n why) one (moved_illegal p head others moves more n why same.0 same.1 first)))

  pub one_answer : (a b : Answer) → JournalDue Gives input a → JournalDue Gives input b → a ≡ b
  one_answer a b (JournalDue.refused r is) (JournalDue.refused other also) = ap (λ (its : Refusal). on_err Refused (refusal_text its)) (one_refusal (program_part input) r other is also)
  one_answer a b (JournalDue.refused r is) (JournalDue.not_a_move p n accepted marked bad) = absurd (not_refused (program_part input) p r accepted is)
  one_answer a b (JournalDue.refused r is) (JournalDue.not_legal p head moves n why accepted marked spells first) = absurd (not_refused (program_part input) p r accepted is)
  one_answer a b (JournalDue.refused r is) (JournalDue.given p head moves accepted marked spells given) = absurd (not_refused (program_part input) p r accepted is)
  one_answer a b (JournalDue.refused r is) (JournalDue.no_journal p accepted none) = absurd (not_refused (program_part input) p r accepted is)
  one_answer a b (JournalDue.no_journal p accepted none) (JournalDue.refused r is) = absurd (not_refused (program_part input) p r accepted is)
  one_answer a b (JournalDue.no_journal p accepted none) (JournalDue.no_journal q also neither) = refl
  one_answer a b (JournalDue.no_journal p accepted none) (JournalDue.not_a_move q m also marked bad) = marked_or_not marked none
  one_answer a b (JournalDue.no_journal p accepted none) (JournalDue.not_legal q head moves m why also marked spells first) = marked_or_not marked none
  one_answer a b (JournalDue.no_journal p accepted none) (JournalDue.given q head moves also marked spells given) = marked_or_not marked none
  one_answer a b (JournalDue.not_a_move p n accepted marked bad) (JournalDue.no_journal q also none) = marked_or_not marked none
  one_answer a b (JournalDue.not_legal p head moves n why accepted marked spells first) (JournalDue.no_journal q also none) = marked_or_not marked none
  one_answer a b (JournalDue.given p head moves accepted marked spells given) (JournalDue.no_journal q also none) = marked_or_not marked none
  one_answer a b (JournalDue.not_a_move p n accepted marked bad) (JournalDue.refused r is) = absurd (not_refused (program_part input) p r accepted is)
  one_answer a b (JournalDue.not_a_move p n accepted marked bad) (JournalDue.not_a_move q m also has_it other) =
      ap (λ (k : ℕ). on_err BadJournal (not_a_move_text k)) (one_first_bad (journal_part input) n m bad other)
  one_answer a b (JournalDue.not_a_move p n accepted marked bad) (JournalDue.not_legal q head moves m why also has_it spells first) = absurd (none_bad (journal_part input) head moves n spells bad)
  one_answer a b (JournalDue.not_a_move p n accepted marked bad) (JournalDue.given q head moves also has_it spells given) = absurd (none_bad (journal_part input) head moves n spells bad)
  one_answer a b (JournalDue.not_legal p head moves n why accepted marked spells first) (JournalDue.refused r is) = absurd (not_refused (program_part input) p r accepted is)
  one_answer a b (JournalDue.not_legal p head moves n why accepted marked spells first) (JournalDue.not_a_move q m also has_it bad) = absurd (none_bad (journal_part input) head moves m spells bad)
  one_answer a b (JournalDue.not_legal p head moves n why accepted marked spells first) (JournalDue.not_legal q others more m reason also has_it spelled second) =
      let same = one_journal head others moves more (journal_part input) spells spelled in
      let one = one_program (program_part input) p q accepted also in
      let moved = subst (λ (r : Program). IsFirstIllegal r (limits_with others default_limits) more n why) one (moved_illegal p head others moves more n why same.0 same.1 first) in
      let number : n ≡ m = (one_first q (limits_with others default_limits) more n m why reason moved second).0 in
      λ i. on_err BadJournal (not_legal_text (length (head_lines (same.0 i)) + number i))
  one_answer a b (JournalDue.not_legal p head moves n why accepted marked spells first) (JournalDue.given q others more also has_it spelled given) =
      never_both p q head others moves more n why b accepted also spells spelled first given
  one_answer a b (JournalDue.given p head moves accepted marked spells given) (JournalDue.refused r is) = absurd (not_refused (program_part input) p r accepted is)
  one_answer a b (JournalDue.given p head moves accepted marked spells given) (JournalDue.not_a_move q m also has_it bad) = absurd (none_bad (journal_part input) head moves m spells bad)
  one_answer a b (JournalDue.given p head moves accepted marked spells given) (JournalDue.not_legal q others more n why also has_it spelled first) =
      never_both q p others head more moves n why a also accepted spelled spells first given
  one_answer a b (JournalDue.given p head moves accepted marked spells given) (JournalDue.given q others more also has_it spelled other) =
      let same = one_journal head others moves more (journal_part input) spells spelled in
      let one = one_program (program_part input) p q accepted also in
      let here = subst (λ (r : Program). Gives r (limits_with others default_limits) more a) one
      (subst (λ (h : Option Bounds). Gives p (limits_with h default_limits) more a) same.0 (subst (λ (ms : List Move). Gives p (limits_with head default_limits) ms a) same.1 given)) in
      one_given q (limits_with others default_limits) more a b here other
