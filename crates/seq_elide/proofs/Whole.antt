-- The loop of the execution: what it keeps, and what it returns.
use Rattle.std.proofs.Common.{◌≡◌, ◌<◌, ◌≤◌, ℕ, ℤ, List, [], length, refl, sym, ap, ◌∙◌, subst, arith}
use Rattle.std.specs.Prelude.{IfErr, IsErrAnd, Result, Ok, Err}
use Rattle.twe_base.specs.Limits.{Bounds}
use Rattle.twe_program.specs.Program.{Program, cell_count}
use Rattle.seg_meaning.specs.declared.frame.Frame.{Frame}
use Rattle.seg_meaning.specs.Segment.{segment}
use Rattle.seq_elide.specs.declared.execution.Elided.{Elided}
use Rattle.seq_elide.specs.declared.fail.ElideFail.{ElideFail}
use Rattle.seq_elide.specs.declared.fail.ElideFail.TheVariants as fail
use Rattle.determinism_laws.specs.declared.elision.progress.Progress.{Progress}
use Rattle.seq_elide.specs.Answers.{EndsWith, FailsWith, elided_with}
use Rattle.determinism_laws.specs.elision.Elision.{Ending, ends, Running, elided, frame_at_start, most_segments, progress_at_start, run_within}
use Rattle.seq_elide.specs.inner.Turns.{IsFailure, Turned, goes_to, ended, turn_after}
use Rattle.seq_elide.proofs.Turning.{LeavesLess, size_of_all, turn_keeps, turn_leaves_less, unwound, whole}
use Rattle.determinism_laws.proofs.elision.Within.{most_is_enough}

-- the definition's own meaning of the segments that follow
abbrev pub definition : Program → Bounds → Running
definition p lim = run_within p lim (most_segments lim)

-- The execution that was asked for has come so far: it ends as the whole does, and the bound of its definition is above what is
-- left of it.
pub record HasCome (p : Program) (lim : Bounds) (task : ℕ) (args cells : List ℤ) (callers : List Frame) (frame : Frame) (s : Progress) : Type 0 where
  pub same : unwound (definition p lim) callers (definition p lim frame s) ≡ elided p lim task args cells
  pub less : size_of_all lim callers frame s < most_segments lim
  pub count : length s.cells ≡ cell_count p

-- it begins
pub has_begun : (p : Program) (lim : Bounds) (task : ℕ) (args cells : List ℤ) (callers : List Frame) (frame : Frame) (s : Progress) → 1 ≤ lim.tasks
    → length cells ≡ cell_count p → callers ≡ [] → frame ≡ frame_at_start p lim task args → s ≡ progress_at_start cells
    → HasCome p lim task args cells callers frame s
has_begun p lim task args cells callers frame s some count none first new =
    let at_start : HasCome p lim task args cells [] (frame_at_start p lim task args) (progress_at_start cells) = record {
      same = refl;
      less = omega (arith, most_is_enough p lim task args cells some);
      count = count;
    } in
    subst (λ (t : Progress). HasCome p lim task args cells callers frame t) (sym new)
    (subst (λ (f : Frame). HasCome p lim task args cells callers f (progress_at_start cells)) (sym first)
    (subst (λ (l : List Frame). HasCome p lim task args cells l (frame_at_start p lim task args) (progress_at_start cells)) (sym none) at_start))

module _ (p : Program) (lim : Bounds) (task : ℕ) (args cells : List ℤ) (callers : List Frame) (frame : Frame) (s : Progress) (come : HasCome p lim task args cells callers frame s) where
  abbrev next : Turned
  next = turn_after lim callers s (segment p frame s.cells)

  -- the whole after the next turn is still the execution that was asked for
  next_whole : whole (definition p lim) next ≡ elided p lim task args cells
  next_whole = turn_keeps p lim (most_segments lim) callers frame s come.less ∙ come.same

  -- it goes on, and less is left of it
  pub goes_on_less : (later : List Frame) (after : Frame) (t : Progress) → next ≡ goes_to later after t → size_of_all lim later after t < size_of_all lim callers frame s
  goes_on_less later after t is =
      let less = subst (LeavesLess lim (length s.cells) (size_of_all lim callers frame s)) is (turn_leaves_less p lim callers frame s) in
      less.0

  pub has_gone_on : (later : List Frame) (after : Frame) (t : Progress) → next ≡ goes_to later after t → HasCome p lim task args cells later after t
  has_gone_on later after t is =
      let less = subst (LeavesLess lim (length s.cells) (size_of_all lim callers frame s)) is (turn_leaves_less p lim callers frame s) in
      record {
        same = sym (ap (whole (definition p lim)) is) ∙ next_whole;
        less = omega (arith, less.0, come.less);
        count = less.1 ∙ come.count;
      }

  -- it has ended with a value
  pub has_ended : (value : ℤ) (t : Progress) (result : Elided) → next ≡ ended value t → result ≡ elided_with value t → EndsWith (elided p lim task args cells) result
  has_ended value t result is gives =
      let same : ends value t ≡ elided p lim task args cells = sym (ap (whole (definition p lim)) is) ∙ next_whole in
      subst (λ (e : Ending). EndsWith e result) same gives

  -- it has failed
  pub has_failed : (why : ElideFail) → IsFailure next why → FailsWith (elided p lim task args cells) why
  has_failed (fail.Fault kind place) is = sym next_whole ∙ ap (whole (definition p lim)) is
  has_failed fail.NotForkJoin is = sym next_whole ∙ ap (whole (definition p lim)) is
  has_failed (fail.OutOfMemory memory) is = tt

-- a failure that is handed on
pub fails_alike : {T : Type 0} (answer : Result T ElideFail) (why : ElideFail) (ending : Ending) → IsErrAnd answer (λ e. e ≡ why) → FailsWith ending why
    → IfErr answer (λ e. FailsWith ending e)
fails_alike (Ok value) why ending known cause = absurd known
fails_alike (Err e) why ending known cause = subst (FailsWith ending) (sym known) cause
