-- A task has at most one legal move, so a state has at most one lowest-first journal.
use Rattle.std.proofs.Common.{◌≡◌, ℕ, List, [], ◌∷◌, refl, sym, ap, ◌∙◌, subst, arith}
use Rattle.seg_journal.specs.declared.journal.Entry.{Entry}
use Rattle.seg_journal.specs.declared.moves.Kind.{Kind}
use Rattle.seg_journal.specs.declared.moves.Kind.TheVariants.{Admit, Run}
use Rattle.seg_journal.specs.declared.moves.Move.{Move}
use Rattle.twe_base.specs.Limits.{Bounds}
use Rattle.twe_program.specs.Program.{Program}
use Rattle.machine_state.specs.declared.ending.Outcome.TheVariants.{Unfinished}
use Rattle.machine_state.specs.declared.state.State.{State}
use Rattle.machine_state.specs.declared.state.TaskRow.{TaskRow}
use Rattle.machine_state.specs.declared.state.TaskStatus.TheVariants.{Made, Enabled}
use Rattle.machine_state.specs.Legal.{MayTake}
use Rattle.machine_state.specs.LowestFirst.{IsLowest, LowestFirstFrom}
use Rattle.machine_state.specs.Moves.{move_result}
use Rattle.machine_state.specs.Rows.{HasStatus}

-- no task is both made and enabled
not_both : (st : State) (t : ℕ) → HasStatus st t Made → HasStatus st t Enabled → ⊥
not_both st t (row, found, made) (other, here, enabled) =
    let same : row ≡ other = cc in
    let status : row.status ≡ Enabled = ap (λ (r : TaskRow). r.status) same ∙ enabled in
    cc (made, status)

one_kind : (st : State) (t : ℕ) (k l : Kind) → MayTake st k t → MayTake st l t → k ≡ l
one_kind st t Admit Admit a b = refl
one_kind st t Run Run a b = refl
one_kind st t Admit Run a b = absurd (not_both st t a.0 b.0)
one_kind st t Run Admit a b = absurd (not_both st t b.0 a.0)

-- two lowest moves are one
one_move : (st : State) (a b : Move) → IsLowest st a → IsLowest st b → a ≡ b
one_move st a b x y =
    let task : a.task ≡ b.task = omega (arith, x.lowest b y.legal, y.lowest a x.legal) in
    let kind : a.kind ≡ b.kind = one_kind st b.task a.kind b.kind (subst (λ (t : ℕ). MayTake st a.kind t) task x.legal) y.legal in
    λ i. record { kind = kind i; task = task i }

pub one_from : (p : Program) (lim : Bounds) (st : State) (journal other : List Entry) → LowestFirstFrom p lim st journal → LowestFirstFrom p lim st other → journal ≡ other
one_from p lim st [] [] a b = refl
one_from p lim st [] (entry ∷ entries) a b = absurd (a Unfinished b.0 refl)
one_from p lim st (entry ∷ entries) [] a b = absurd (b Unfinished a.0 refl)
one_from p lim st (x ∷ xs) (y ∷ ys) a b =
    let move : x.mv ≡ y.mv = one_move st x.mv y.mv a.1 b.1 in
    let end : x.end ≡ y.end = sym a.2 ∙ (ap (λ (mv : Move). (move_result p lim st mv).1) move ∙ b.2) in
    let entry : x ≡ y = λ i. record { mv = move i; end = end i } in
    let rest : xs ≡ ys = one_from p lim (move_result p lim st y.mv).0 xs ys (subst (λ (mv : Move). LowestFirstFrom p lim (move_result p lim st mv).0 xs) move a.3) b.3 in
    λ i. entry i ∷ rest i
