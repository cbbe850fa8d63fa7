-- Replays: a legal move is not forbidden, a forbidden move has one reason, and moves determine the journal.
use Rattle.std.proofs.Common.{◌≡◌, ◌<◌, ◌≤◌, ◌+◌, ◌++◌, ◌⊎◌, inl, inr, ℕ, suc, List, [], ◌∷◌, length, map, Result, Ok, Err, IfOk, IsErrOf, IsErrAnd, refl, sym, ap, ◌∙◌, subst, arith, take, drop, get_or, append_assoc}
use Rattle.std.specs.Prelude.{MatchResult}
use Rattle.std.proofs.lemmas.Option.{slice_get_within, same_Some}
use Rattle.std.proofs.lemmas.List.{take-append-drop, take_more}
use Rattle.seg_journal.specs.declared.journal.Entry.{Entry}
use Rattle.seg_journal.specs.declared.moves.Kind.{Kind}
use Rattle.seg_journal.specs.declared.moves.Kind.TheVariants.{Admit, Run}
use Rattle.seg_journal.specs.declared.moves.Move.{Move}
use Rattle.seg_journal.specs.Spelling.{move_of}
use Rattle.twe_base.specs.Limits.{Bounds}
use Rattle.twe_program.specs.Program.{Program}
use Rattle.machine_state.specs.declared.why.Why.{Why}
use Rattle.machine_state.specs.declared.why.Why.TheVariants.{NoTask, NotMade, HeldBy, NotEnabled, WaitsFor}
use Rattle.machine_state.specs.declared.replay_fail.ReplayFail.{ReplayFail}
use Rattle.machine_state.specs.declared.replay_fail.ReplayFail.TheVariants.{Illegal, OutOfMemory}
use Rattle.machine_state.specs.declared.state.State.{State}
use Rattle.machine_state.specs.declared.state.TaskStatus.{TaskStatus}
use Rattle.machine_state.specs.declared.state.TaskStatus.TheVariants.{Made, Enabled}
use Rattle.machine_state.specs.Legal.{Forbids, MayMove, MayTake}
use Rattle.machine_state.specs.Moves.{move_result, start_of}
use Rattle.machine_state.specs.Replays.{AreLegal, IsFirstIllegal, ReplayIsOutOfMemory, IsReplay}
use Rattle.machine_state.specs.Rows.{HasStatus}
use Rattle.machine_state.specs.Runs.{IsRun, LegalFrom, entry_of, replayed}

cons_head : {A : Type 0} {x y : A} {xs ys : List A} → x ∷ xs ≡ y ∷ ys → x ≡ y
cons_head e = cc

cons_tail : {A : Type 0} {x y : A} {xs ys : List A} → x ∷ xs ≡ y ∷ ys → xs ≡ ys
cons_tail e = cc

-- a task with a status is there
there : (st : State) (t : ℕ) (status : TaskStatus) → HasStatus st t status → t < length st.tasks
there st t status has = slice_get_within st.tasks t has.0 has.1

-- a legal move is not forbidden
pub forbids_not : (st : State) (kind : Kind) (t : ℕ) (why : Why) → Forbids st kind t why → ¬ MayTake st kind t
forbids_not st Admit t NoTask past may = let below = there st t Made may.0 in omega (arith, past, below)
forbids_not st Admit t NotMade not may = not.1 may.0
forbids_not st Admit t (HeldBy s) held may = held.1.3 (may.1 s held.1.0 held.1.1 held.1.2)
forbids_not st Admit t NotEnabled never may = never
forbids_not st Admit t (WaitsFor u) never may = never
forbids_not st Run t NoTask past may = let below = there st t Enabled may.0 in omega (arith, past, below)
forbids_not st Run t NotMade never may = never
forbids_not st Run t (HeldBy s) never may = never
forbids_not st Run t NotEnabled not may = not.1 may.0
forbids_not st Run t (WaitsFor u) waits may = may.1 u waits.1

-- a forbidden move has one reason
pub one_why : (st : State) (kind : Kind) (t : ℕ) (a b : Why) → Forbids st kind t a → Forbids st kind t b → a ≡ b
one_why st Admit t NoTask NoTask x y = refl
one_why st Admit t NoTask NotMade x y = absurd (omega (arith, x, y.0))
one_why st Admit t NoTask (HeldBy s) x y = let below = there st t Made y.0 in absurd (omega (arith, x, below))
one_why st Admit t NotMade NoTask x y = absurd (omega (arith, x.0, y))
one_why st Admit t NotMade NotMade x y = refl
one_why st Admit t NotMade (HeldBy s) x y = absurd (x.1 y.0)
one_why st Admit t (HeldBy s) NoTask x y = let below = there st t Made x.0 in absurd (omega (arith, y, below))
one_why st Admit t (HeldBy s) NotMade x y = absurd (y.1 x.0)
one_why st Admit t (HeldBy s) (HeldBy r) x y =
    let le : s ≤ r = not_less (λ less. x.2 r less y.1) in
    let ge : r ≤ s = not_less (λ less. y.2 s less x.1) in
    ap HeldBy (omega (arith, le, ge))
  where
    not_less : {m n : ℕ} → ¬ (m < n) → n ≤ m
    not_less not = omega (arith, not)
one_why st Admit t NoTask NotEnabled x y = absurd y
one_why st Admit t NoTask (WaitsFor u) x y = absurd y
one_why st Admit t NotMade NotEnabled x y = absurd y
one_why st Admit t NotMade (WaitsFor u) x y = absurd y
one_why st Admit t (HeldBy s) NotEnabled x y = absurd y
one_why st Admit t (HeldBy s) (WaitsFor u) x y = absurd y
one_why st Admit t NotEnabled b x y = absurd x
one_why st Admit t (WaitsFor u) b x y = absurd x
one_why st Run t NoTask NoTask x y = refl
one_why st Run t NoTask NotEnabled x y = absurd (omega (arith, x, y.0))
one_why st Run t NoTask (WaitsFor u) x y = let below = there st t Enabled y.0 in absurd (omega (arith, x, below))
one_why st Run t NotEnabled NoTask x y = absurd (omega (arith, x.0, y))
one_why st Run t NotEnabled NotEnabled x y = refl
one_why st Run t NotEnabled (WaitsFor u) x y = absurd (x.1 y.0)
one_why st Run t (WaitsFor u) NoTask x y = let below = there st t Enabled x.0 in absurd (omega (arith, y, below))
one_why st Run t (WaitsFor u) NotEnabled x y = absurd (y.1 x.0)
one_why st Run t (WaitsFor u) (WaitsFor v) x y = ap WaitsFor (same_Some u v (sym x.1.waits ∙ y.1.waits))
one_why st Run t NoTask NotMade x y = absurd y
one_why st Run t NoTask (HeldBy s) x y = absurd y
one_why st Run t NotEnabled NotMade x y = absurd y
one_why st Run t NotEnabled (HeldBy s) x y = absurd y
one_why st Run t (WaitsFor u) NotMade x y = absurd y
one_why st Run t (WaitsFor u) (HeldBy s) x y = absurd y
one_why st Run t NotMade b x y = absurd x
one_why st Run t (HeldBy s) b x y = absurd x

module _ (p : Program) (lim : Bounds) where
  -- a legal journal goes on by the same moves
  same_rest : (st : State) (mv other : Move) (entries : List Entry) → mv ≡ other → LegalFrom p lim (move_result p lim st mv).0 entries → LegalFrom p lim (move_result p lim st other).0 entries
  same_rest st mv other entries same = subst (λ (m : Move). LegalFrom p lim (move_result p lim st m).0 entries) same

  -- its moves determine it
  pub one_from : (st : State) (journal other : List Entry) → LegalFrom p lim st journal → LegalFrom p lim st other → map move_of journal ≡ map move_of other → journal ≡ other
  one_from st [] [] a b same = refl
  one_from st [] (y ∷ ys) a b same = absurd (cc)
  one_from st (x ∷ xs) [] a b same = absurd (cc)
  one_from st (x ∷ xs) (y ∷ ys) a b same =
      let move : x.mv ≡ y.mv = cons_head same in
      let end : x.end ≡ y.end = sym a.1 ∙ (ap (λ (mv : Move). (move_result p lim st mv).1) move ∙ b.1) in
      let entry : x ≡ y = λ i. record { mv = move i; end = end i } in
      let rest : xs ≡ ys = one_from (move_result p lim st y.mv).0 xs ys (same_rest st x.mv y.mv xs move a.2) b.2 (cons_tail same) in
      λ i. entry i ∷ rest i

  -- its moves have no forbidden one
  never_from : (st : State) (before : List Entry) (mv : Move) (after : List Move) (journal : List Entry) (why : Why) → Forbids (replayed p lim st before) mv.kind mv.task why
      → LegalFrom p lim st journal → map move_of journal ≡ map move_of before ++ mv ∷ after → ⊥
  never_from st [] mv after [] why forbids legal same = cc
  never_from st [] mv after (x ∷ xs) why forbids legal same =
      forbids_not st mv.kind mv.task why forbids (subst (MayMove st) (cons_head same) legal.0)
  never_from st (b ∷ bs) mv after [] why forbids legal same = cc
  never_from st (b ∷ bs) mv after (x ∷ xs) why forbids legal same =
      never_from (move_result p lim st b.mv).0 bs mv after xs why forbids (same_rest st x.mv b.mv xs (cons_head same) legal.2) (cons_tail same)

  -- the first forbidden move of a list is one
  first_from : (st : State) (before others : List Entry) (mv other : Move) (after rest : List Move) (why reason : Why)
      → LegalFrom p lim st before → LegalFrom p lim st others → Forbids (replayed p lim st before) mv.kind mv.task why → Forbids (replayed p lim st others) other.kind other.task reason
      → map move_of before ++ mv ∷ after ≡ map move_of others ++ other ∷ rest → (length before ≡ length others) × (why ≡ reason)
  first_from st [] [] mv other after rest why reason a b x y same =
      (refl, one_why st other.kind other.task why reason (subst (λ (m : Move). Forbids st m.kind m.task why) (cons_head same) x) y)
  first_from st [] (e ∷ es) mv other after rest why reason a b x y same =
      absurd (forbids_not st mv.kind mv.task why x (subst (MayMove st) (sym (cons_head same)) b.0))
  first_from st (e ∷ es) [] mv other after rest why reason a b x y same =
      absurd (forbids_not st other.kind other.task reason y (subst (MayMove st) (cons_head same) a.0))
  first_from st (e ∷ es) (f ∷ fs) mv other after rest why reason a b x y same =
      let move : e.mv ≡ f.mv = cons_head same in
      let forbids = subst (λ (m : Move). Forbids (replayed p lim (move_result p lim st m).0 es) mv.kind mv.task why) move x in
      let later = first_from (move_result p lim st f.mv).0 es fs mv other after rest why reason (same_rest st e.mv f.mv es move a.2) b.2 forbids y (cons_tail same) in
      (ap (λ (n : ℕ). suc n) later.0, later.1)

  pub never_both : (moves : List Move) (n : ℕ) (why : Why) → AreLegal p lim moves → ¬ IsFirstIllegal p lim moves n why
  never_both moves n why legal first =
      never_from (start_of p lim) first.before first.mv first.after legal.0 why first.forbids legal.1 (legal.2 ∙ first.split)

  pub one_first : (moves : List Move) (n m : ℕ) (why other : Why) → IsFirstIllegal p lim moves n why → IsFirstIllegal p lim moves m other → (n ≡ m) × (why ≡ other)
  one_first moves n m why other a b =
      let same = first_from (start_of p lim) a.before b.before a.mv b.mv a.after b.after why other a.legal b.legal a.forbids b.forbids (sym a.split ∙ b.split) in
      (a.counted ∙ (ap (λ (k : ℕ). k + 1) same.0 ∙ sym b.counted), same.1)

  -- so a replay of legal moves comes to a state, and a first illegal move is named
  module _ (moves : List Move) (result : Result State ReplayFail) (illegal : (n : ℕ) (why : Why) → IsErrOf result (Illegal n why) → IsFirstIllegal p lim moves n why) where
    pub only_legal : AreLegal p lim moves → MatchResult result (λ _. Unit {0}) ReplayIsOutOfMemory
    only_legal = by_result result illegal
      where
        by_result : (r : Result State ReplayFail) → ((n : ℕ) (why : Why) → IsErrOf r (Illegal n why) → IsFirstIllegal p lim moves n why)
            → AreLegal p lim moves → MatchResult r (λ _. Unit {0}) ReplayIsOutOfMemory
        by_result (Ok st) told legal = tt
        by_result (Err (Illegal n why)) told legal = absurd (never_both moves n why legal (told n why refl))
        by_result (Err (OutOfMemory memory)) told legal = tt

    pub first_illegal : IfOk result (λ st. (journal : List Entry) × IsReplay p lim moves journal st) → (n : ℕ) (why : Why) → IsFirstIllegal p lim moves n why
        → MatchResult result (λ _. ⊥) (λ fail. (fail ≡ Illegal n why) ⊎ ReplayIsOutOfMemory fail)
    first_illegal = by_result result illegal
      where
        by_result : (r : Result State ReplayFail) → ((n : ℕ) (why : Why) → IsErrOf r (Illegal n why) → IsFirstIllegal p lim moves n why)
            → IfOk r (λ st. (journal : List Entry) × IsReplay p lim moves journal st) → (n : ℕ) (why : Why) → IsFirstIllegal p lim moves n why
            → MatchResult r (λ _. ⊥) (λ fail. (fail ≡ Illegal n why) ⊎ ReplayIsOutOfMemory fail)
        by_result (Ok st) told ran n why first = never_both moves n why (ran.0, ran.1.run.legal, ran.1.has) first
        by_result (Err (Illegal m other)) told ran n why first =
            let same = one_first moves m n other why (told m other refl) first in inl (λ i. Illegal (same.0 i) (same.1 i))
        by_result (Err (OutOfMemory memory)) told ran n why first = inr tt

-- a run goes on by one move
replayed_more : (p : Program) (lim : Bounds) (st : State) (entries : List Entry) (last : Entry) → replayed p lim st (entries ++ last ∷ []) ≡ (move_result p lim (replayed p lim st entries) last.mv).0
replayed_more p lim st [] last = refl
replayed_more p lim st (entry ∷ entries) last = replayed_more p lim (move_result p lim st entry.mv).0 entries last

legal_more : (p : Program) (lim : Bounds) (st : State) (entries : List Entry) (last : Entry) → LegalFrom p lim st entries → MayMove (replayed p lim st entries) last.mv
    → (move_result p lim (replayed p lim st entries) last.mv).1 ≡ last.end → LegalFrom p lim st (entries ++ last ∷ [])
legal_more p lim st [] last legal may end = (may, end, tt)
legal_more p lim st (entry ∷ entries) last legal may end = (legal.0, legal.1, legal_more p lim (move_result p lim st entry.mv).0 entries last legal.2 may end)

pub run_more : (p : Program) (lim : Bounds) (journal : List Entry) (st : State) (mv : Move) → IsRun p lim journal st → MayMove st mv
    → IsRun p lim (journal ++ entry_of p lim st mv ∷ []) (move_result p lim st mv).0
run_more p lim journal st mv run may = record {
  legal = legal_more p lim (start_of p lim) journal (entry_of p lim st mv) run.legal (subst (λ (s : State). MayMove s mv) run.same may)
      (ap (λ (s : State). (move_result p lim s mv).1) (sym run.same));
  same = ap (λ (s : State). (move_result p lim s mv).0) run.same ∙ sym (replayed_more p lim (start_of p lim) journal (entry_of p lim st mv));
}

-- an error that is passed on stays the same
pub passed_on : {T : Type 0} (answer : Result T ReplayFail) (fail other : ReplayFail) → IsErrAnd answer (λ e. e ≡ fail) → IsErrOf answer other → fail ≡ other
passed_on (Ok x) fail other known e = absurd known
passed_on (Err x) fail other known e = let same : x ≡ other = cc in sym known ∙ same

-- the same failure of another call
pub same_fail : {T U : Type 0} (fail other : ReplayFail) → IsErrOf {T = T} (Err fail) other → IsErrOf {T = U} (Err fail) other
same_fail fail other e = let same : fail ≡ other = cc in ap Err same

-- a move that is forbidden after those before it, which were replayed
pub first_at : (p : Program) (lim : Bounds) (moves : List Move) (journal : List Entry) (st : State) (i : ℕ) (mv : Move) (n : ℕ) (why : Why) → IsRun p lim journal st
    → map move_of journal ≡ take i moves → length journal ≡ i → i < length moves → n ≡ i + 1 → Forbids st (get_or moves i mv).kind (get_or moves i mv).task why
    → IsFirstIllegal p lim moves n why
first_at p lim moves journal st i mv n why run has count below number forbids = record {
  before = journal;
  mv = get_or moves i mv;
  after = drop (i + 1) moves;
  split = sym (take-append-drop (i + 1) moves)
      ∙ (ap (λ (xs : List Move). xs ++ drop (i + 1) moves) (take_more moves i mv below)
      ∙ (append_assoc (take i moves) (get_or moves i mv ∷ []) (drop (i + 1) moves) ∙ ap (λ (xs : List Move). xs ++ get_or moves i mv ∷ drop (i + 1) moves) (sym has)));
  legal = run.legal;
  counted = number ∙ ap (λ (k : ℕ). k + 1) (sym count);
  forbids = subst (λ (s : State). Forbids s (get_or moves i mv).kind (get_or moves i mv).task why) run.same forbids;
}
