-- The parts of the seats determine the log.
use Rattle.std.proofs.Common.{◌≡◌, ◌+◌, ◌<◌, ℕ, suc, Bool, true, cond, List, [], ◌∷◌, length, Some, refl, sym, ap, subst, ◌∙◌, inl, inr, arith, eq-eqb, lt-ltb}
use Rattle.std.specs.Prelude.{◌&&◌, ◌==◌, slice_get}
use Rattle.seg_journal.specs.declared.numbered.NumberedEntry.{NumberedEntry}
use Rattle.seg_journal.proofs.Slots.{in_contains, occurs}
use Rattle.floor_laws.specs.rule.Rule.{AreInOrder, LiesInParts, times_drawn}
use Rattle.floor_laws.specs.admission.admission_core.States.{IsAmong}
use Rattle.floor_laws.proofs.table.Alone.{contains_among, same_entries}

module _ (a : List NumberedEntry) (parts : ℕ → List NumberedEntry) (lies : LiesInParts a parts) where
  drawn_one : (i n : ℕ) → n < length a → lies.owner n ≡ i → times_drawn a lies.owner i n ≡ 1
  drawn_one i n below is =
      ap (λ (b : Bool). cond {A = ℕ} (b && (lies.owner n == i)) 1 0) (lt-ltb n (length a) below)
      ∙ ap (λ (b : Bool). cond {A = ℕ} (true && b) 1 0) (eq-eqb (lies.owner n) i is)

  -- a log of the same length that has each entry of a part at its number is the same log
  pub one_log : (b : List NumberedEntry) → length a ≡ length b → ((i : ℕ) (e : NumberedEntry) → IsAmong e (parts i) → slice_get b e.number ≡ Some e) → a ≡ b
  one_log b size has =
      same_entries a b size (λ n below.
      let i : ℕ = lies.owner n in
      let e = occurs (parts i) n (lies.once i n ∙ drawn_one i n below refl) in
      let among : IsAmong e.0 (parts i) = contains_among (parts i) e.0 (in_contains (parts i) e.0 e.1) in
      subst (λ (k : ℕ). slice_get a k ≡ slice_get b k) e.2 (lies.entries i e.0 among ∙ sym (has i e.0 among)))

-- an entry of a log that is in order stands at its number
at_number : (log rest : List NumberedEntry) (k : ℕ) (e : NumberedEntry) → ((n : ℕ) (x : NumberedEntry) → slice_get rest n ≡ Some x → slice_get log (k + n) ≡ Some x) → IsAmong e rest
    → (n : ℕ) × (slice_get log n ≡ Some e)
at_number log [] k e stands among = absurd among
at_number log (x ∷ rest) k e stands (inl same) = (k + 0, stands 0 e (ap Some (sym same)))
at_number log (x ∷ rest) k e stands (inr among) =
    at_number log rest (k + 1) e (λ n y is. subst (λ (m : ℕ). slice_get log m ≡ Some y) (moved n) (stands (suc n) y is)) among
  where
    moved : (n : ℕ) → k + suc n ≡ k + 1 + n
    moved n = omega arith

pub in_order : (log : List NumberedEntry) → AreInOrder log → (e : NumberedEntry) → IsAmong e log → slice_get log e.number ≡ Some e
in_order log order e among =
    let at = at_number log log 0 e (λ n x is. subst (λ (m : ℕ). slice_get log m ≡ Some x) (zero_left n) is) among in
    subst (λ (m : ℕ). slice_get log m ≡ Some e) (sym (order at.0 e at.1)) at.1
  where
    zero_left : (n : ℕ) → n ≡ 0 + n
    zero_left n = omega arith
