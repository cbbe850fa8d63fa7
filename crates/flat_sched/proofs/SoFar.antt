-- A run on its way: what its journal and its state have been so far.
use Rattle.std.proofs.Common.{◌≡◌, Bool, List, [], ◌∷◌, ◌++◌, true, false, refl, ap, ◌∙◌}
use Rattle.std.specs.Prelude.{if◌then◌else◌}
use Rattle.seg_journal.specs.declared.journal.Entry.{Entry}
use Rattle.twe_base.specs.Limits.{Bounds}
use Rattle.twe_program.specs.Program.{Program}
use Rattle.machine_state.specs.declared.ending.Outcome.TheVariants.{Unfinished}
use Rattle.machine_state.specs.declared.state.State.{State}
use Rattle.machine_state.specs.Legal.{MayMove}
use Rattle.machine_state.specs.LowestFirst.{IsLowest, IsOver, LowestFirstFrom}
use Rattle.machine_state.specs.Moves.{move_result}
use Rattle.machine_state.specs.Runs.{counted, is_fault, replayed, LegalFrom, IsOutcome}
use Rattle.flat_sched.specs.SoFar.{LowestSoFarFrom}

-- a journal goes on by one move
pub replayed_more : (p : Program) (lim : Bounds) (st : State) (entries : List Entry) (last : Entry) → replayed p lim st (entries ++ last ∷ []) ≡ (move_result p lim (replayed p lim st entries) last.mv).0
replayed_more p lim st [] last = refl
replayed_more p lim st (entry ∷ entries) last = replayed_more p lim (move_result p lim st entry.mv).0 entries last

pub legal_more : (p : Program) (lim : Bounds) (st : State) (entries : List Entry) (last : Entry) → LegalFrom p lim st entries → MayMove (replayed p lim st entries) last.mv
    → (move_result p lim (replayed p lim st entries) last.mv).1 ≡ last.end → LegalFrom p lim st (entries ++ last ∷ [])
legal_more p lim st [] last legal may end = (may, end, tt)
legal_more p lim st (entry ∷ entries) last legal may end = (legal.0, legal.1, legal_more p lim (move_result p lim st entry.mv).0 entries last legal.2 may end)

-- the next move is the lowest one in a run that was unfinished
pub lowest_more : (p : Program) (lim : Bounds) (st : State) (entries : List Entry) (last : Entry) → LowestSoFarFrom p lim st entries
    → IsOutcome (replayed p lim st entries) Unfinished → IsLowest (replayed p lim st entries) last.mv → (move_result p lim (replayed p lim st entries) last.mv).1 ≡ last.end
    → LowestSoFarFrom p lim st (entries ++ last ∷ [])
lowest_more p lim st [] last before unfinished low end = (unfinished, low, end, tt)
lowest_more p lim st (entry ∷ entries) last before unfinished low end =
    (before.0, before.1, before.2, lowest_more p lim (move_result p lim st entry.mv).0 entries last before.3 unfinished low end)

-- at the end of the run that makes the lowest-first journal
pub lowest_whole : (p : Program) (lim : Bounds) (st : State) (entries : List Entry) → LowestSoFarFrom p lim st entries → IsOver (replayed p lim st entries) → LowestFirstFrom p lim st entries
lowest_whole p lim st [] before over = over
lowest_whole p lim st (entry ∷ entries) before over =
    (before.0, before.1, before.2, lowest_whole p lim (move_result p lim st entry.mv).0 entries before.3 over)

-- no entry ends in a fault
abbrev pub NoFaults : List Entry → Type 0
NoFaults [] = Unit {0}
NoFaults (entry ∷ entries) = (is_fault entry.end ≡ false) × NoFaults entries

pub none_more : (entries : List Entry) (last : Entry) → NoFaults entries → is_fault last.end ≡ false → NoFaults (entries ++ last ∷ [])
none_more [] last none well = (well, tt)
none_more (entry ∷ entries) last none well = (none.0, none_more entries last none.1 well)

last_counted : (last : Entry) (faults : Bool) → last ∷ (if faults then [] else []) ≡ last ∷ []
last_counted last true = refl
last_counted last false = refl

-- so all entries count, also with one more
pub counted_more : (entries : List Entry) (last : Entry) → NoFaults entries → counted (entries ++ last ∷ []) ≡ entries ++ last ∷ []
counted_more [] last none = last_counted last (is_fault last.end)
counted_more (entry ∷ entries) last none =
    ap (λ (b : Bool). entry ∷ (if b then [] else counted (entries ++ last ∷ []))) none.0
    ∙ ap (λ (es : List Entry). entry ∷ es) (counted_more entries last none.1)
