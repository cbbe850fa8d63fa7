-- What was found is known, and stays so.
use Rattle.std.proofs.Common.{◌≡◌, ◌<◌, ◌+◌, ◌++◌, ℕ, false, List, [], ◌∷◌, Some, Result, Ok, Err, length, inl, inr, refl, sym, ap, ◌∙◌, subst, arith}
use Rattle.std.specs.Prelude.{OnErr, OnOk, slice_get}
use Rattle.std.specs.Result.{is_err}
use Rattle.std.proofs.lemmas.Bool.{cases_lt}
use Rattle.std.proofs.lemmas.Option.{slice_get_within}
use Rattle.seg_journal.specs.declared.moves.Kind.{Kind}
use Rattle.seg_journal.specs.declared.moves.Kind.TheVariants.{Admit, Run}
use Rattle.seg_journal.specs.declared.moves.Move.{Move}
use Rattle.twe_base.specs.Limits.{Bounds}
use Rattle.twe_program.specs.Program.{Program}
use Rattle.machine_state.specs.declared.ending.Outcome.{Outcome}
use Rattle.machine_state.specs.declared.state.State.{State}
use Rattle.machine_state.specs.Legal.{MayMove, MayTake}
use Rattle.machine_state.specs.Moves.{move_result, result_by_kind}
use Rattle.machine_state.proofs.lists.Places.{below_there, got_one, put_before, put_cases, put_last}
use Rattle.flat_sched.specs.declared.ending.WholeRun.{WholeRun}
use Rattle.flat_sched.specs.RunEnds.{outcome_of}
use Rattle.all_runs.specs.declared.found.FoundRun.{FoundRun}
use Rattle.all_runs.specs.Explored.{AreFound, CanGoOn, EndsAs, HasEnded, HaveOneResult, IsClosedBelow, IsFoundEnd, IsKnown, IsSeen, IsTakenFrom}
use Rattle.reduction_laws.specs.declared.choice.Choice.TheVariants.{Admission, EachAdmission, Segment}
use Rattle.reduction_laws.specs.Enough.{IsEnough}
use Rattle.all_runs.specs.inner.Growing.{Grows}

-- what follows from a promise of a call that succeeds
pub if_ok : {T E P Q : Type 0} (r : Result T E) → (P → Q) → OnOk r P → OnOk r Q
if_ok (Ok x) follows holds = follows holds
if_ok (Err e) follows holds = holds

-- what follows from the promises of a call, whether it succeeds or not
pub either_way : {T E P Q : Type 0} (r : Result T E) (W : Type 0) → (P → W) → (Q → W) → OnOk r P → OnErr r Q → W
either_way (Ok x) W succeeds fails ok err = succeeds ok
either_way (Err e) W succeeds fails ok err = fails err

-- the promise of a call that has succeeded
pub if_no_error : {T E P : Type 0} (r : Result T E) → is_err r ≡ false → OnOk r P → P
if_no_error (Ok x) right holds = holds
if_no_error (Err e) right holds = absurd (cc (right))

-- Growing.

pub grows_by_none : (going : List FoundRun) (ended : List WholeRun) → Grows going ended going ended
grows_by_none going ended = record { going_stay = λ at run is. is; ended_stay = λ at run is. is }

pub grows_on : (a : List FoundRun) (x : List WholeRun) (b : List FoundRun) (y : List WholeRun) (c : List FoundRun) (z : List WholeRun) → Grows a x b y → Grows b y c z → Grows a x c z
grows_on a x b y c z first second = record {
  going_stay = λ at run is. second.going_stay at run (first.going_stay at run is);
  ended_stay = λ at run is. second.ended_stay at run (first.ended_stay at run is);
}

pub grows_by_going : (going : List FoundRun) (ended : List WholeRun) (next : FoundRun) → Grows going ended (going ++ next ∷ []) ended
grows_by_going going ended next = record { going_stay = λ at run is. put_before going next at run is; ended_stay = λ at run is. is }

pub grows_by_ended : (going : List FoundRun) (ended : List WholeRun) (next : WholeRun) → Grows going ended going (ended ++ next ∷ [])
grows_by_ended going ended next = record { going_stay = λ at run is. is; ended_stay = λ at run is. put_before ended next at run is }

pub known_stays : (a : List FoundRun) (x : List WholeRun) (b : List FoundRun) (y : List WholeRun) (st : State) → Grows a x b y → IsKnown a x st → IsKnown b y st
known_stays a x b y st grows (inl (at, run, is, alike)) = inl (at, run, grows.going_stay at run is, alike)
known_stays a x b y st grows (inr (outcome, of_it, (at, run, is, ends))) = inr (outcome, of_it, (at, run, grows.ended_stay at run is, ends))

-- One more.

pub last_seen : (going : List FoundRun) (next : FoundRun) → IsSeen (going ++ next ∷ []) next.state
last_seen going next = (length going, next, put_last going next (length going) refl, refl)

one_result_own : (st : State) → HaveOneResult st st
one_result_own st = record { prints = refl; cells = refl; tasks = refl }

pub last_ends : (ended : List WholeRun) (next : WholeRun) → IsFoundEnd (ended ++ next ∷ []) next.state (outcome_of next.end)
last_ends ended next =
    (length ended, next, put_last ended next (length ended) refl, record { ended_so = refl; result = λ all. one_result_own next.state })

module _ (p : Program) (lim : Bounds) (going : List FoundRun) (ended : List WholeRun) (found : AreFound p lim going ended) where
  pub found_with_going : (next : FoundRun) → CanGoOn p lim next → AreFound p lim (going ++ next ∷ []) ended
  found_with_going next can = record {
    going_runs = λ at run is.
        elim (put_cases going next at run is) [
          | inl before ↦ found.going_runs at run before
          | inr last ↦ subst (CanGoOn p lim) last.1 can
        ];
    ended_runs = found.ended_runs;
    apart = found.apart;
  }

  pub found_with_ended : (next : WholeRun) → HasEnded p lim next → ¬ IsFoundEnd ended next.state (outcome_of next.end) → AreFound p lim going (ended ++ next ∷ [])
  found_with_ended next over new = record {
    going_runs = found.going_runs;
    ended_runs = λ at run is.
        elim (put_cases ended next at run is) [
          | inl before ↦ found.ended_runs at run before
          | inr last ↦ subst (HasEnded p lim) last.1 over
        ];
    apart = apart_still;
  } where
    apart_still : (at later : ℕ) (run other : WholeRun) → at < later → slice_get (ended ++ next ∷ []) at ≡ Some run → slice_get (ended ++ next ∷ []) later ≡ Some other
        → ¬ EndsAs run other.state (outcome_of other.end)
    apart_still at later run other below is also =
        elim (put_cases ended next later other also) [
          | inl before ↦
              elim (put_cases ended next at run is) [
                | inl first ↦ found.apart at later run other below first before
                | inr last ↦
                    let within = slice_get_within ended later other before in
                    let end : at ≡ length ended = last.0 in
                    absurd (omega (arith, within, end, below))
              ]
          | inr last ↦
              elim (put_cases ended next at run is) [
                | inl first ↦ λ ends. new (subst (λ (x : WholeRun). IsFoundEnd ended x.state (outcome_of x.end)) (sym last.1) (at, run, first, ends))
                | inr same ↦
                    let end : at ≡ length ended = same.0 in
                    let also_end : later ≡ length ended = last.0 in
                    absurd (omega (arith, end, also_end, below))
              ]
        ]

-- Ends that were looked at.

-- none of the first ones ends so
abbrev pub NoneEndsSo : List WholeRun → ℕ → State → Outcome → Type 0
NoneEndsSo ended bound st outcome = (k : ℕ) (run : WholeRun) → k < bound → slice_get ended k ≡ Some run → ¬ EndsAs run st outcome

pub none_more : (ended : List WholeRun) (at : ℕ) (run : WholeRun) (st : State) (outcome : Outcome) → NoneEndsSo ended at st outcome → slice_get ended at ≡ Some run → ¬ EndsAs run st outcome
    → NoneEndsSo ended (at + 1) st outcome
none_more ended at run st outcome before is not k other below there =
    elim (cases_lt k at) [
      | inl less ↦ before k other less there
      | inr high ↦
          let same : k ≡ at = omega arith in
          let one : run ≡ other = got_one (slice_get ended at) is (ap (slice_get ended) (sym same) ∙ there) in
          λ ends. not (subst (λ (x : WholeRun). EndsAs x st outcome) (sym one) ends)
    ]

-- Moves that were taken.

-- each admission of the tasks before this one leads to a known state, if it is legal
abbrev pub AdmittedBelow : Program → Bounds → List FoundRun → List WholeRun → State → ℕ → Type 0
AdmittedBelow p lim going ended st bound = (t : ℕ) → t < bound → MayTake st Admit t → IsKnown going ended (result_by_kind p lim st Admit t).0

-- that of one more task was taken
pub admitted_more : (p : Program) (lim : Bounds) (a : List FoundRun) (x : List WholeRun) (b : List FoundRun) (y : List WholeRun) (st : State) (t : ℕ)
    → AdmittedBelow p lim a x st t → Grows a x b y → (MayTake st Admit t → IsKnown b y (result_by_kind p lim st Admit t).0) → AdmittedBelow p lim b y st (t + 1)
admitted_more p lim a x b y st t before grows now u below may =
    elim (cases_lt u t) [
      | inl less ↦ known_stays a x b y (result_by_kind p lim st Admit u).0 grows (before u less may)
      | inr high ↦
          let same : u ≡ t = omega arith in
          subst (λ (n : ℕ). IsKnown b y (result_by_kind p lim st Admit n).0) (sym same) (now (subst (MayTake st Admit) same may))
    ]

module _ (p : Program) (lim : Bounds) (going : List FoundRun) (ended : List WholeRun) (st : State) where
  -- a move of this kind of this task was taken
  one_taken : (kind : Kind) (t : ℕ) → (MayTake st kind t → IsKnown going ended (result_by_kind p lim st kind t).0)
      → (mv : Move) → mv.kind ≡ kind → mv.task ≡ t → MayMove st mv → IsKnown going ended (move_result p lim st mv).0
  one_taken kind t known mv kinds tasks may =
      let same : mv ≡ record { kind = kind; task = t } = λ i. record { kind = kinds i; task = tasks i } in
      let legal : MayTake st kind t = subst (λ (x : Move). MayTake st x.kind x.task) same may in
      subst (λ (x : State). IsKnown going ended x) (λ i. (result_by_kind p lim st (sym kinds i) (sym tasks i)).0) (known legal)

  pub taken_segment : (t : ℕ) → IsEnough p st (Segment t) → (MayTake st Run t → IsKnown going ended (result_by_kind p lim st Run t).0) → IsTakenFrom p lim going ended st
  taken_segment t enough known = record { choice = Segment t; enough = enough; taken = λ mv chosen may. one_taken Run t known mv chosen.0 chosen.1 may }

  pub taken_admission : (t : ℕ) → IsEnough p st (Admission t) → (MayTake st Admit t → IsKnown going ended (result_by_kind p lim st Admit t).0) → IsTakenFrom p lim going ended st
  taken_admission t enough known = record { choice = Admission t; enough = enough; taken = λ mv chosen may. one_taken Admit t known mv chosen.0 chosen.1 may }

  pub taken_admissions : IsEnough p st EachAdmission → ((t : ℕ) → MayTake st Admit t → IsKnown going ended (result_by_kind p lim st Admit t).0) → IsTakenFrom p lim going ended st
  taken_admissions enough known = record { choice = EachAdmission; enough = enough; taken = λ mv chosen may. one_taken Admit mv.task (known mv.task) mv chosen refl may }

-- what was taken stays so
taken_stays : (p : Program) (lim : Bounds) (a : List FoundRun) (x : List WholeRun) (b : List FoundRun) (y : List WholeRun) (st : State) → Grows a x b y → IsTakenFrom p lim a x st
    → IsTakenFrom p lim b y st
taken_stays p lim a x b y st grows from = record {
  choice = from.choice;
  enough = from.enough;
  taken = λ mv chosen may. known_stays a x b y (move_result p lim st mv).0 grows (from.taken mv chosen may);
}

-- the moves of one more run were taken
pub closed_more : (p : Program) (lim : Bounds) (a : List FoundRun) (x : List WholeRun) (b : List FoundRun) (y : List WholeRun) (at : ℕ)
    → at < length a → IsClosedBelow p lim a x at → Grows a x b y → ((run : FoundRun) → slice_get a at ≡ Some run → IsTakenFrom p lim b y run.state)
    → IsClosedBelow p lim b y (at + 1)
closed_more p lim a x b y at there closed grows taken k run below is =
    let within : k < length a = omega arith in
    let old = below_there a k within in
    let one : old.0 ≡ run = got_one (slice_get b k) (grows.going_stay k old.0 old.1) is in
    let was : slice_get a k ≡ Some run = old.1 ∙ ap Some one in
    elim (cases_lt k at) [
      | inl less ↦ taken_stays p lim a x b y run.state grows (closed k run less was)
      | inr high ↦ let same : k ≡ at = omega arith in taken run (ap (slice_get a) (sym same) ∙ was)
    ]
