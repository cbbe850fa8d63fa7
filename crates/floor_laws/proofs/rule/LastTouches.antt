-- A cell that a segment has touched has the value of its last touch.
use Rattle.std.proofs.Common.{◌≡◌, ◌≢◌, ◌<◌, ℕ, zero, suc, ℤ, Bool, List, [], ◌∷◌, length, Option, Some, if◌then◌else◌, refl, sym, ap, subst, ◌∙◌, ⊎_elim, eq-eqb, ne_eqb, arith}
use Rattle.std.specs.Prelude.{nat_eq, slice_set}
use Rattle.std.proofs.lemmas.Bool.{cases_eq}
use Rattle.twe_base.specs.Limits.{Bounds}
use Rattle.twe_program.specs.Program.{Program}
use Rattle.twe_program.specs.WellFormed.{IsWellFormed}
use Rattle.isolation_laws.specs.soundness.KeepsEffects.{KeepsEffects}
use Rattle.seg_meaning.specs.Access.{Reads, Agrees, after}
use Rattle.machine_state.specs.declared.state.State.{State}
use Rattle.machine_state.specs.Rows.{LinksAgree}
use Rattle.machine_state.specs.Runs.{IsReached, state_after}
use Rattle.machine_state.proofs.standing.ReachedStands.{reached_stands}
use Rattle.isolation_laws.specs.Conflicts.{MoversApart}
use Rattle.isolation_laws.proofs.running.Movers.{movers_apart}
use Rattle.seg_journal.specs.declared.numbered.NumberedEntry.{NumberedEntry}
use Rattle.seg_journal.specs.Merging.{journal_of}
use Rattle.floor_laws.specs.declared.rule.view.Touch.{Touch}
use Rattle.floor_laws.specs.declared.rule.view.Touch.TheVariants.{Read, Write}
use Rattle.floor_laws.specs.rule.Floors.{Floor}
use Rattle.floor_laws.specs.rule.LastTouches.{last_touched}
use Rattle.floor_laws.specs.rule.Rule.{KeepsRule}
use Rattle.floor_laws.specs.rule.Steps.{MayTouch}
use Rattle.floor_laws.specs.rule.Touches.{accesses_of, cell_at, touches_of}
use Rattle.floor_laws.proofs.rule.Puts.{none_some, some_one}
use Rattle.floor_laws.proofs.rule.AccessLemmas.{after_length, set_else}
use Rattle.floor_laws.proofs.rule.SegmentLemmas.{hand_reads}
use Rattle.floor_laws.proofs.rule.RuleSteps.{load_finds}

last_here : (c k : ℕ) (value : ℤ) (earlier : Option ℤ) → c ≡ k → (if nat_eq c k then Some value else earlier) ≡ Some value
last_here c k value earlier same = ap (λ (b : Bool). if b then Some value else earlier) (eq-eqb c k same)

last_else : (c k : ℕ) (value : ℤ) (earlier : Option ℤ) → c ≢ k → (if nat_eq c k then Some value else earlier) ≡ earlier
last_else c k value earlier other = ap (λ (b : Bool). if b then Some value else earlier) (ne_eqb c k other)

pub set_here : (cells : List ℤ) (c : ℕ) (value : ℤ) → c < length cells → cell_at (slice_set cells c value) c ≡ value
set_here [] c value below = absurd (omega (arith, below))
set_here (x ∷ cells) zero value below = refl
set_here (x ∷ cells) (suc c) value below = set_here cells c value (omega (arith, below))

-- what the cell is after touches that hold over these cells
pub last_is : (cells : List ℤ) (touches : List Touch) (c : ℕ) (known : ℤ) → c < length cells → Agrees cells (accesses_of touches) → last_touched touches c ≡ Some known
    → cell_at (after cells (accesses_of touches)) c ≡ known
last_is cells [] c known below agrees is = absurd (none_some is)
last_is cells (Read k value ∷ earlier) c known below agrees is =
    ⊎_elim
    (λ (same : c ≡ k).
    ap (cell_at (after cells (accesses_of earlier))) same
    ∙ (agrees.1 ∙ some_one (sym (last_here c k value (last_touched earlier c) same) ∙ is)))
    (λ (other : c ≢ k). last_is cells earlier c known below agrees.0 (sym (last_else c k value (last_touched earlier c) other) ∙ is))
    (cases_eq c k)
last_is cells (Write k value ∷ earlier) c known below agrees is =
    let before = after cells (accesses_of earlier) in
    ⊎_elim
    (λ (same : c ≡ k).
    let room : c < length before = subst (λ (n : ℕ). c < n) (sym (after_length cells (accesses_of earlier))) below in
    subst (λ (n : ℕ). cell_at (slice_set before n value) c ≡ known) same
    (set_here before c value room ∙ some_one (sym (last_here c k value (last_touched earlier c) same) ∙ is)))
    (λ (other : c ≢ k).
    set_else before k c value other ∙ last_is cells earlier c known below agrees (sym (last_else c k value (last_touched earlier c) other) ∙ is))
    (cases_eq c k)

-- a load finds that value
pub load_last : (p : Program) → IsWellFormed p → KeepsEffects p → (lim : Bounds) (log : List NumberedEntry) (f : Floor) → KeepsRule p lim log f → (i t c : ℕ) (value known : ℤ)
    → c < length f.cells → value ≡ cell_at f.cells c → MayTouch p f i t (Reads c value) → last_touched (touches_of (f.segments i)) c ≡ Some known → value ≡ known
load_last p well keeps lim log f rule i t c value known below found may is =
    let st : State = state_after p lim (journal_of log) in
    let reached : IsReached p lim st = record { journal = journal_of log; legal = rule.legal; same = refl } in
    let agree : LinksAgree st = (reached_stands p lim st well reached).links in
    let apart : MoversApart p st = movers_apart p well keeps lim st reached in
    let reads : Agrees st.cells (accesses_of (touches_of (f.segments i))) = hand_reads p st f rule.fits agree apart i t may.turn may.ready may.has may.may may.own in
    let room : c < length st.cells = subst (λ (n : ℕ). c < n) rule.fits.size below in
    load_finds p well keeps lim log f rule i t c value found may ∙ last_is st.cells (touches_of (f.segments i)) c known room reads is
