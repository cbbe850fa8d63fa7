-- The steps in the form in which the calls of the table ask for them: what a step tells is said by its word and its operands.
use Rattle.std.proofs.Common.{◌≡◌, ◌≢◌, ◌<◌, ℕ, ℤ, List, [], ◌∷◌, Option, sym, ap, subst, ◌∙◌, arith}
use Rattle.std.specs.Prelude.{◌==◌, ◌^◌, slice_index}
use mathlib.Core.Option as core
use prog.Atomic.{either}
use Rattle.atomic_table.specs.Table.{Allows, State, step}
use Rattle.twe_base.specs.Limits.{Bounds}
use Rattle.twe_program.specs.Program.{Program, cell_count}
use Rattle.seg_meaning.specs.Access.{Reads, Writes}
use Rattle.floor_laws.specs.declared.rule.view.HeldTurn.{HeldTurn}
use Rattle.floor_laws.specs.declared.rule.view.Phase.{Phase}
use Rattle.floor_laws.specs.declared.rule.view.TaskSlot.{TaskSlot}
use Rattle.floor_laws.proofs.rule.Puts.{some_one}
use Rattle.floor_laws.specs.declared.table.view.SeatKind.TheVariants.{Spent}
use Rattle.floor_laws.specs.declared.table.view.View.{View}
use Rattle.floor_laws.specs.table.Holds.{TableKeeps}
use Rattle.floor_laws.specs.table.Layout.{cell_place, free_word, phase_of_word, phase_place, taken_word, turn_place, value_of_word, word_of_phase}
use Rattle.floor_laws.specs.table.Plays.{GivesTurn, LoadsCell, LoadsPhase, StoresCell, StoresPhase, TriesTurn}
use Rattle.floor_laws.specs.table.Tells.{FoundPhase, GaveTurn, IsLatest, MayGiveTurn, MayStore, MayTouchCell, ReadCell, Seat, StoredPhase, TriedTurn, WroteCell}
use Rattle.floor_laws.proofs.table.Steps.{give_allowed, load_allowed, load_phase_allowed, phase_again, store_allowed, store_phase_allowed, take_allowed}

-- a step may tell less, or the same in other words
told : (holds : State (Option TaskSlot) View → Type 0) (slots id : ℕ) (me : Seat) (i : ℕ) (f : ℕ → ℕ) (then other : ℕ → Seat → Type 0) → ((n : ℕ) (after : Seat) → then n after → other n after)
    → Allows holds slots id me i f then → Allows holds slots id me i f other
told holds slots id me i f then other more allowed s kept count at small =
    let result = allowed s kept count at small in
    (result.0, result.1, result.2, result.3, more (slice_index s.words i) _ result.4)

-- the latest slot is of one task
one_latest : (me : Seat) (t u : ℕ) → IsLatest me t → IsLatest me u → t ≡ u
one_latest me t u a b = heads (sym a.is ∙ b.is)
  where
    head_task : List (ℕ × Option TaskSlot) → ℕ
    head_task [] = 0
    head_task (z ∷ zs) = z.0

    heads : (t, a.slot) ∷ a.rest ≡ (u, b.slot) ∷ b.rest → t ≡ u
    heads same = ap head_task same

one_rest : (x : ℕ × Option TaskSlot) (y : ℕ × Option TaskSlot) (xs ys : List (ℕ × Option TaskSlot)) → x ∷ xs ≡ y ∷ ys → xs ≡ ys
one_rest x y xs ys same = ap tail_of same
  where
    tail_of : List (ℕ × Option TaskSlot) → List (ℕ × Option TaskSlot)
    tail_of [] = []
    tail_of (z ∷ zs) = zs

pub try_turn : (p : Program) (lim : Bounds) (id t : ℕ) (v : View) (mine : List (ℕ × Option TaskSlot)) → v.kind ≢ Spent → t < lim.tasks
    → Allows (TableKeeps p lim) lim.tasks id (v, mine) (turn_place p t) (λ n. either (n == free_word) (taken_word v.worker) n)
    (TriesTurn p (step lim.tasks (turn_place p t) free_word (taken_word v.worker) core.none) (v, mine))
try_turn p lim id t v mine live below =
    told (TableKeeps p lim) lim.tasks id (v, mine) (turn_place p t) (λ n. either (n == free_word) (taken_word v.worker) n) (TriedTurn (v, mine) t)
    (TriesTurn p (step lim.tasks (turn_place p t) free_word (taken_word v.worker) core.none) (v, mine))
    (λ n after tried u place. let same : t ≡ u = omega (arith, place) in subst (λ (k : ℕ). TriedTurn (v, mine) k n after) same tried)
    (take_allowed p lim id t v mine live below)

pub give_turn : (p : Program) (lim : Bounds) (id t : ℕ) (v : View) (mine rest : List (ℕ × Option TaskSlot)) (turn : HeldTurn) → v.kind ≢ Spent → t < lim.tasks → MayGiveTurn (v, mine) t turn rest
    → Allows (TableKeeps p lim) lim.tasks id (v, mine) (turn_place p t) (λ n. free_word) (λ n. GivesTurn p (step lim.tasks (turn_place p t) free_word 0 core.none) (v, mine) free_word)
give_turn p lim id t v mine rest turn live below may =
    told (TableKeeps p lim) lim.tasks id (v, mine) (turn_place p t) (λ n. free_word) (λ n. GaveTurn (v, mine) t turn rest) (λ n. GivesTurn p (step lim.tasks (turn_place p t) free_word 0 core.none) (v, mine) free_word)
    (λ n after gave u other other_rest place may_too.
    let same : t ≡ u = omega (arith, place) in
    let may_t : MayGiveTurn (v, mine) t other other_rest = subst (λ (k : ℕ). MayGiveTurn (v, mine) k other other_rest) (sym same) may_too in
    let turns : turn ≡ other = some_one (sym may.has ∙ may_t.has) in
    let rests : rest ≡ other_rest = one_rest _ _ rest other_rest (sym may.slot ∙ may_t.slot) in
    subst (λ (k : ℕ). GaveTurn (v, mine) k other other_rest after) same
    (subst (λ (h : HeldTurn). GaveTurn (v, mine) t h other_rest after) turns (subst (λ (r : List (ℕ × Option TaskSlot)). GaveTurn (v, mine) t turn r after) rests gave)))
    (give_allowed p lim id t v mine rest turn live below may)

pub put_phase : (p : Program) (lim : Bounds) (id t : ℕ) (v : View) (mine : List (ℕ × Option TaskSlot)) (turn : HeldTurn) (phase : Phase) → v.kind ≢ Spent → t < lim.tasks → MayStore (v, mine) t turn phase
    → Allows (TableKeeps p lim) lim.tasks id (v, mine) (phase_place p t) (λ n. word_of_phase phase)
    (λ n. StoresPhase p (step lim.tasks (phase_place p t) (word_of_phase phase) 0 core.none) (v, mine) (word_of_phase phase))
put_phase p lim id t v mine turn phase live below may =
    told (TableKeeps p lim) lim.tasks id (v, mine) (phase_place p t) (λ n. word_of_phase phase) (λ n. StoredPhase (v, mine) t turn phase)
    (λ n. StoresPhase p (step lim.tasks (phase_place p t) (word_of_phase phase) 0 core.none) (v, mine) (word_of_phase phase))
    (λ n after stored u other last place first may_too.
    let same : t ≡ u = omega (arith, place) in
    let may_t : MayStore (v, mine) t other last = subst (λ (k : ℕ). MayStore (v, mine) k other last) (sym same) may_too in
    let turns : turn ≡ other = some_one (sym may.has ∙ may_t.has) in
    let phases : phase ≡ last = sym (phase_again phase) ∙ (ap phase_of_word first ∙ phase_again last) in
    subst (λ (k : ℕ). StoredPhase (v, mine) k other last after) same
    (subst (λ (h : HeldTurn). StoredPhase (v, mine) t h last after) turns (subst (λ (x : Phase). StoredPhase (v, mine) t turn x after) phases stored)))
    (store_phase_allowed p lim id t v mine turn phase live below may)

pub get_phase : (p : Program) (lim : Bounds) (id t : ℕ) (v : View) (mine : List (ℕ × Option TaskSlot)) → v.kind ≢ Spent → t < lim.tasks
    → Allows (TableKeeps p lim) lim.tasks id (v, mine) (phase_place p t) (λ n. n) (LoadsPhase p lim (step lim.tasks (phase_place p t) 0 0 core.none) (v, mine))
get_phase p lim id t v mine live below =
    told (TableKeeps p lim) lim.tasks id (v, mine) (phase_place p t) (λ n. n) (FoundPhase lim (v, mine) t) (LoadsPhase p lim (step lim.tasks (phase_place p t) 0 0 core.none) (v, mine))
    (λ n after found u place. let same : t ≡ u = omega (arith, place) in subst (λ (k : ℕ). FoundPhase lim (v, mine) k n after) same found)
    (load_phase_allowed p lim id t v mine live below)

pub get_cell : (p : Program) (lim : Bounds) (id t c : ℕ) (v : View) (mine : List (ℕ × Option TaskSlot)) (any : ℤ) → v.kind ≢ Spent → c < cell_count p → IsLatest (v, mine) t
    → MayTouchCell p (v, mine) t (Reads c any)
    → Allows (TableKeeps p lim) lim.tasks id (v, mine) (cell_place c) (λ n. n) (LoadsCell (step lim.tasks (cell_place c) 0 0 core.none) (v, mine))
get_cell p lim id t c v mine any live below latest may =
    told (TableKeeps p lim) lim.tasks id (v, mine) (cell_place c) (λ n. n) (ReadCell (v, mine) t c) (LoadsCell (step lim.tasks (cell_place c) 0 0 core.none) (v, mine))
    (λ n after read u d place latest_too.
    let tasks : t ≡ u = one_latest (v, mine) t u latest latest_too in
    let cells : c ≡ d = omega (arith, place) in
    subst (λ (k : ℕ). ReadCell (v, mine) k d n after) tasks (subst (λ (k : ℕ). ReadCell (v, mine) t k n after) cells read))
    (load_allowed p lim id t c v mine any live below may)

pub put_cell : (p : Program) (lim : Bounds) (id t c : ℕ) (v : View) (mine : List (ℕ × Option TaskSlot)) (x : ℕ) (value : ℤ) → v.kind ≢ Spent → c < cell_count p → x < 2 ^ 32 → value_of_word x ≡ value
    → IsLatest (v, mine) t → MayTouchCell p (v, mine) t (Writes c value)
    → Allows (TableKeeps p lim) lim.tasks id (v, mine) (cell_place c) (λ n. x) (λ n. StoresCell (step lim.tasks (cell_place c) x 0 core.none) (v, mine) x)
put_cell p lim id t c v mine x value live below small is latest may =
    told (TableKeeps p lim) lim.tasks id (v, mine) (cell_place c) (λ n. x) (λ n. WroteCell (v, mine) t c value) (λ n. StoresCell (step lim.tasks (cell_place c) x 0 core.none) (v, mine) x)
    (λ n after wrote u d other place first latest_too.
    let tasks : t ≡ u = one_latest (v, mine) t u latest latest_too in
    let cells : c ≡ d = omega (arith, place) in
    let values : value ≡ other = sym is ∙ first in
    subst (λ (k : ℕ). WroteCell (v, mine) k d other after) tasks
    (subst (λ (k : ℕ). WroteCell (v, mine) t k other after) cells (subst (λ (y : ℤ). WroteCell (v, mine) t c y after) values wrote)))
    (store_allowed p lim id t c v mine x value live below small is may)
