-- A try to lock a node, or to pass by it, by what was found in the lock word.
use Rattle.std.proofs.Common.{◌≡◌, ◌≢◌, ℕ, true, false, sym, ◌∙◌, ⊎_elim, eqb-true, eq-eqb}
use Rattle.std.specs.Prelude.{◌==◌}
use Rattle.std.proofs.lemmas.Bool.{false≢true}
use Rattle.twe_base.specs.Limits.{Bounds}
use Rattle.floor_laws.specs.admission.admission_core.States.{Activity}
use Rattle.floor_laws.specs.table.nodes.Layout.{bare_lock}
use Rattle.floor_laws.specs.table.nodes.Seats.{PassedNode, TookNode, TreeSeat, TriedNode, passed_view}

pub took_is : (lim : Bounds) (before : TreeSeat) (n : ℕ) (next : Activity) (free found : ℕ) (after : TreeSeat) → (found == free) ≡ true
    → TriedNode lim before n next free found after → TookNode lim before n next after
took_is lim before n next free found after is tried =
    ⊎_elim (λ (took : (found ≡ free) × TookNode lim before n next after). took.1)
    (λ (missed : (found ≢ free) × (after ≡ before)). absurd (missed.0 (eqb-true found free is))) tried

pub missed_is : (lim : Bounds) (before : TreeSeat) (n : ℕ) (next : Activity) (free found : ℕ) (after : TreeSeat) → (found == free) ≡ false
    → TriedNode lim before n next free found after → after ≡ before
missed_is lim before n next free found after busy tried =
    ⊎_elim (λ (took : (found ≡ free) × TookNode lim before n next after). absurd (false≢true (sym busy ∙ eq-eqb found free took.0)))
    (λ (missed : (found ≢ free) × (after ≡ before)). missed.1) tried

pub passed_is : (before : TreeSeat) (next : Activity) (found : ℕ) (after : TreeSeat) → (found == 1) ≡ true → PassedNode before next found after → after ≡ (passed_view before.0 next, before.1)
passed_is before next found after is passed =
    ⊎_elim (λ (yes : (found ≡ bare_lock) × (after ≡ (passed_view before.0 next, before.1))). yes.1)
    (λ (no : (found ≢ bare_lock) × (after ≡ before)). absurd (no.0 (eqb-true found 1 is))) passed

pub kept_is : (before : TreeSeat) (next : Activity) (found : ℕ) (after : TreeSeat) → (found == 1) ≡ false → PassedNode before next found after → after ≡ before
kept_is before next found after other passed =
    ⊎_elim (λ (yes : (found ≡ bare_lock) × (after ≡ (passed_view before.0 next, before.1))). absurd (false≢true (sym other ∙ eq-eqb found 1 yes.0)))
    (λ (no : (found ≢ bare_lock) × (after ≡ before)). no.1) passed
