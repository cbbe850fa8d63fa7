-- Why the entries of the heaviest chain follow one another, once all entries have come.
use Rattle.std.proofs.Common.{◌≡◌, ◌<◌, ◌≤◌, ℕ, zero, suc, List, [], ◌∷◌, length, map, Some, refl, sym, ap, ◌∙◌, subst, arith}
use Rattle.std.specs.Prelude.{slice_get}
use Rattle.seg_journal.specs.declared.journal.Entry.{Entry}
use Rattle.seg_journal.specs.declared.moves.Move.{Move}
use Rattle.seg_journal.specs.Spelling.{move_of}
use Rattle.twe_base.specs.Limits.{Bounds}
use Rattle.machine_state.specs.Moves.{start_of}
use Rattle.machine_state.specs.Runs.{counted}
use Rattle.machine_state.proofs.replays.Replayed.{one_from}
use Rattle.twe_program.specs.Program.{Program}
use Rattle.span_profile.specs.LeadsTo.{LeadsTo}
use Rattle.span_profile.specs.Profiles.{IsProfile}
use Rattle.span_profile.specs.Reasons.{AreChainSteps, HasSteps, IsStepAt}
use Rattle.span_profile.specs.Strands.{Strand, strands}
use Rattle.span_profile.specs.declared.profiling.Tracked.{Tracked}
use Rattle.span_profile.specs.declared.reasons.ChainStep.{ChainStep}
use Rattle.span_profile.specs.heaviest_chain.Chains.{IsChain, IsChainOf, Leads}
use Rattle.span_profile.specs.inner.Tracked.{IsTracked}
use Rattle.span_profile.specs.inner.Trails.{Ascends}
use Rattle.span_profile.proofs.TrailSteps.{found_below}

-- The numbers of a chain ascend, and each is below the count.
module _ (LeadsOn : ℕ → ℕ → Type 0) (up : (i j : ℕ) → LeadsOn i j → i < j) (count : ℕ) where
  first_least : (i : ℕ) (others : List ℕ) → IsChain LeadsOn count (i ∷ others) → (k n : ℕ) → slice_get others k ≡ Some n → i < n
  first_least i [] is k n at = absurd (cc)
  first_least i (j ∷ others) is zero n at = let same : j ≡ n = cc in let less = up i j is.0 in omega (arith, same, less)
  first_least i (j ∷ others) is (suc k) n at = let less = up i j is.0 in let rest = first_least j others is.1 k n at in omega (arith, less, rest)

  tail_chain : (i : ℕ) (others : List ℕ) → IsChain LeadsOn count (i ∷ others) → IsChain LeadsOn count others
  tail_chain i [] is = tt
  tail_chain i (j ∷ others) is = is.1

  chain_ascends : (chain : List ℕ) → IsChain LeadsOn count chain → Ascends chain
  chain_ascends [] is = λ i j m n less at_i at_j. absurd (let none = found_below [] i m at_i in omega (arith, none))
  chain_ascends (first ∷ others) is = λ i j m n less at_i at_j. by_places i j m n less at_i at_j (chain_ascends others (tail_chain first others is))
    where
      by_places : (i j m n : ℕ) → i < j → slice_get (first ∷ others) i ≡ Some m → slice_get (first ∷ others) j ≡ Some n → Ascends others → m < n
      by_places i zero m n less at_i at_j rest = absurd (omega (arith, less))
      by_places zero (suc j) m n less at_i at_j rest = let same : first ≡ m = cc in let l = first_least first others is j n at_j in omega (arith, same, l)
      by_places (suc i) (suc j) m n less at_i at_j rest = rest i j m n (omega (arith, less)) at_i at_j

  chain_below : (chain : List ℕ) → IsChain LeadsOn count chain → (k n : ℕ) → slice_get chain k ≡ Some n → n < count
  chain_below [] is k n at = absurd (let none = found_below [] k n at in omega (arith, none))
  chain_below (first ∷ []) is zero n at = let same : first ≡ n = cc in omega (arith, same, is)
  chain_below (first ∷ []) is (suc k) n at = absurd (let none = found_below [] k n at in omega (arith, none))
  chain_below (first ∷ second ∷ others) is zero n at =
      let same : first ≡ n = cc in
      let less = up first second is.0 in
      let rest = chain_below (second ∷ others) is.1 0 second refl in
      omega (arith, same, less, rest)
  chain_below (first ∷ second ∷ others) is (suc k) n at = chain_below (second ∷ others) is.1 k n at

found_at : {X : Type 0} (xs : List X) (i : ℕ) → i < length xs → (x : X) × (slice_get xs i ≡ Some x)
found_at [] i less = absurd (omega (arith, less))
found_at (x ∷ xs) zero less = (x, refl)
found_at (x ∷ xs) (suc i) less = found_at xs i (omega (arith, less))

-- a list of which each place is one of another is no longer
no_longer : {X Y : Type 0} (xs : List X) (ys : List Y) → ((i : ℕ) → i < length xs → i < length ys) → length xs ≤ length ys
no_longer [] ys each = omega arith
no_longer (x ∷ xs) ys each = let last = each (length xs) (omega arith) in omega (arith, last)

pub explained : (p : Program) (lim : Bounds) (moves : List Move) (chain : List ℕ) (run : Tracked) → IsTracked p lim run → map move_of run.journal ≡ moves → run.trail.chain ≡ chain → (work span : ℕ)
    → IsProfile p lim moves work span chain → HasSteps p lim moves chain run.trail.steps
explained p lim moves chain run t has chain_is work span profile = record {
  journal = run.journal;
  legal = t.is_run.legal;
  has = has;
  steps_are = subst (λ (c : List ℕ). AreChainSteps p (strands p lim (counted run.journal)) c run.trail.steps) chain_is (record {
    count = let fits = no_longer run.trail.steps run.trail.chain step_there in let all_fit = no_longer run.trail.chain run.trail.steps has_step in omega (arith, fits, all_fit);
    each = t.trail.each;
  });
} where
  same : profile.journal ≡ run.journal
  same = one_from p lim (start_of p lim) profile.journal run.journal profile.legal t.is_run.legal (profile.has ∙ sym has)

  is_chain : IsChainOf LeadsTo (strands p lim (counted run.journal)) run.trail.chain
  is_chain =
      subst (λ (c : List ℕ). IsChainOf LeadsTo (strands p lim (counted run.journal)) c) (sym chain_is)
      (subst (λ (j : List Entry). IsChainOf LeadsTo (strands p lim (counted j)) chain) same profile.heaviest.chain_is)

  has_step : (i : ℕ) → i < length run.trail.chain → i < length run.trail.steps
  has_step i less =
      let found = found_at run.trail.chain i less in
      let count = length (strands p lim (counted run.journal)) in
      t.trail.all (chain_ascends (Leads LeadsTo (strands p lim (counted run.journal))) (λ a b l. l.before) count run.trail.chain is_chain) i found.0 found.1
      (chain_below (Leads LeadsTo (strands p lim (counted run.journal))) (λ a b l. l.before) count run.trail.chain is_chain i found.0 found.1)

  step_there : (i : ℕ) → i < length run.trail.steps → i < length run.trail.chain
  step_there i less = let found = found_at run.trail.steps i less in found_below run.trail.chain i found.0.entry (t.trail.each i found.0 found.1).entry
