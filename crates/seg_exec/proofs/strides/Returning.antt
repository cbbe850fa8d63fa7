-- The return from a body, as the steps that unwind it.
use Rattle.std.proofs.Common.{◌≡◌, ℤ, List, [], ◌∷◌, Option, refl, ap, sym, ◌∙◌, subst}
use Rattle.twe_program.specs.Program.{Program}
use Rattle.seg_exec.specs.declared.steps.request.Request.{Request}
use Rattle.seg_exec.specs.declared.steps.request.Ending.{Ending}
use Rattle.seg_meaning.specs.Access.{Ways}
use Rattle.seg_exec.specs.inner.steps.Continuations.{Config, Continuation, Unwind, to_do, top, with_operand, without_operand}
use Rattle.seg_exec.specs.inner.steps.Reached.{MayRequest, Served, Standing}
use Rattle.seg_exec.specs.inner.steps.Steps.{Step, Recovery, ToCaller, OfBlock, NoRecovery, recovered_from, returned, returned_past, unwound_past}
use Rattle.seg_exec.specs.inner.strides.Strides.{Carries, doing}
use Rattle.seg_exec.proofs.strides.Performing.{carries_silent, carries_step, placed}

-- the work of the configuration itself plays no part
pub returned_same : (work other : List Continuation) (c : Config) → returned work (record c { work = other }) ≡ returned work c
returned_same [] other c = refl
returned_same (next ∷ work) other c = ap (λ (others : Step). returned_past (recovered_from next) (record c { work = work }) others) (returned_same work other c)

-- it is the same with the latest value popped and pushed again
top_past : (r : Recovery) (c : Config) (others others' : Step) → others ≡ others' → returned_past r (with_operand (top c.operands) (without_operand c)) others ≡ returned_past r c others'
top_past (ToCaller vars) c others others' same = refl
top_past (OfBlock position) c others others' same = same
top_past NoRecovery c others others' same = same

pub returned_top : (work : List Continuation) (c : Config) → returned work (with_operand (top c.operands) (without_operand c)) ≡ returned work c
returned_top [] c = refl
returned_top (next ∷ work) c = top_past (recovered_from next) (record c { work = work }) (returned work (with_operand (top c.operands) (without_operand c))) (returned work c) (returned_top work c)

-- a frame is passed over
pub passed_over : (next : Continuation) (work : List Continuation) (c : Config) (r : Recovery) → recovered_from next ≡ r
    → returned_past r (record c { work = work }) (returned work c) ≡ returned work c → returned work (record c { work = work }) ≡ returned (next ∷ work) c
passed_over next work c r is past =
    returned_same work work c ∙ sym past ∙ ap (λ (x : Recovery). returned_past x (record c { work = work }) (returned work c)) (sym is)

module _ {C : Type 0} (p : Program) (ways : Ways C) where
  quiet_past : (r : Recovery) (c : Config) (others : Step) (cells : C) → MayRequest ways cells others.0 → MayRequest ways cells (returned_past r c others).0
  quiet_past (ToCaller vars) c others cells h = tt
  quiet_past (OfBlock position) c others cells h = h
  quiet_past NoRecovery c others cells h = h

  quiet : (work : List Continuation) (c : Config) (cells : C) → MayRequest ways cells (returned work c).0
  quiet [] c cells = tt
  quiet (next ∷ work) c cells = quiet_past (recovered_from next) (record c { work = work }) (returned work c) cells (quiet work c cells)

  pub may_return : (work : List Continuation) (old mid : Config) (cells : C) (request : Request) → (request, mid) ≡ returned work old → MayRequest ways cells request
  may_return work old mid cells request is = subst (λ (s : Step). MayRequest ways cells s.0) (sym is) (quiet work old cells)

  past : (r : Recovery) (next : Continuation) (work : List Continuation) (old mid : Config) (cells : C) (prints : List ℤ) (request : Request) (ending : Option Ending) (new : Standing C)
      → recovered_from next ≡ r → (request, mid) ≡ returned_past r (record old { work = work }) (returned work old) → Served ways request (placed mid cells prints) ending new
      → ((request, mid) ≡ returned work old → Carries p ways (doing Unwind (placed (record old { work = work }) cells prints)) ending new)
      → Carries p ways (doing Unwind (placed (record old { work = next ∷ work }) cells prints)) ending new
  past (ToCaller vars) next work old mid cells prints request ending new e is h others =
      carries_step p ways Unwind (record old { work = next ∷ work }) mid cells prints request ending new
      (is ∙ ap (λ (r : Recovery). unwound_past r (record old { work = work })) (sym e)) h
  past (OfBlock position) next work old mid cells prints request ending new e is h others =
      carries_silent p ways Unwind (record old { work = next ∷ work }) (to_do Unwind (record old { work = work })) cells prints ending new
      (ap (λ (r : Recovery). unwound_past r (record old { work = work })) e) (others is)
  past NoRecovery next work old mid cells prints request ending new e is h others =
      carries_silent p ways Unwind (record old { work = next ∷ work }) (to_do Unwind (record old { work = work })) cells prints ending new
      (ap (λ (r : Recovery). unwound_past r (record old { work = work })) e) (others is)

  pub carries_return : (work : List Continuation) (old mid : Config) (cells : C) (prints : List ℤ) (request : Request) (ending : Option Ending) (new : Standing C)
      → (request, mid) ≡ returned work old → Served ways request (placed mid cells prints) ending new → Carries p ways (doing Unwind (placed (record old { work = work }) cells prints)) ending new
  carries_return [] old mid cells prints request ending new is h = carries_step p ways Unwind (record old { work = [] }) mid cells prints request ending new is h
  carries_return (next ∷ work) old mid cells prints request ending new is h =
      past (recovered_from next) next work old mid cells prints request ending new refl is h
      (λ same. carries_return work old mid cells prints request ending new same h)
