-- Each entry of the heaviest chain has a reason to come after the one before it.
use Rattle.std.proofs.Common.{◌≡◌, ◌<◌, ◌⊎◌, inl, inr, ℕ, zero, suc, Bool, true, false, List, [], ◌∷◌, map, Some, refl, sym, ap, ◌∙◌, subst}
use Rattle.std.specs.Prelude.{◌||◌, ◌≢◌, IsTrue, slice_get}
use Rattle.std.specs.List.{Contains}
use Rattle.effect_sets.specs.Access.{PathAccess, Conflict}
use Rattle.region_paths.specs.Concrete.{ConcretePath}
use Rattle.seg_journal.specs.declared.journal.Entry.{Entry}
use Rattle.seg_journal.specs.declared.moves.Move.{Move}
use Rattle.twe_base.specs.Limits.{Bounds}
use Rattle.machine_state.specs.Moves.{start_of}
use Rattle.machine_state.specs.Runs.{counted}
use Rattle.machine_state.proofs.replays.Replayed.{one_from}
use Rattle.twe_program.specs.Program.{Program}
use Rattle.span_profile.specs.LeadsTo.{LeadsTo, conflict, gives_value, makes, same_task}
use Rattle.span_profile.specs.Profiles.{IsProfile}
use Rattle.span_profile.specs.Reasons.{Accessed, HasSteps, IsReasonAt, IsReasonFor, IsStepAt, IsUntold, ReadsNone, Touched, WritesNone, goes_on, made, printed, read, took, unlinked, wrote}
use Rattle.span_profile.specs.Strands.{Strand, strands}
use Rattle.span_profile.specs.declared.reasons.ChainStep.{ChainStep}
use Rattle.span_profile.specs.declared.reasons.LinkReason.{LinkReason}
use Rattle.span_profile.specs.declared.reasons.LinkReason.TheVariants as reasons
use Rattle.span_profile.specs.heaviest_chain.Chains.{IsChain, IsChainOf, Leads}

-- an access of this kind to this path
as_accessed : (strand : Strand) (x : PathAccess) (write : Bool) (path : ConcretePath) → x.write ≡ write → x.path ≡ path → Contains strand.accesses x → Accessed strand write path
as_accessed strand x write path is at has =
    let this : x ≡ record { write = write; path = path } = λ i. record { write = is i; path = at i } in
    subst (λ (y : PathAccess). Contains strand.accesses y) this has

-- two entries whose accesses conflict access a path that makes a reason
never_apart : (a b : Strand) (x y : PathAccess) → Contains a.accesses x → Contains b.accesses y → Conflict x y → ReadsNone a b → WritesNone a b → ⊥
never_apart a b x y in_a in_b c quiet silent = by_kinds x.write y.write refl refl
  where
    touched : (t : Bool) → x.write ≡ t → Touched a y.path
    touched true is = inl (as_accessed a x true y.path is c.1 in_a)
    touched false is = inr (as_accessed a x false y.path is c.1 in_a)

    by_kinds : (t u : Bool) → x.write ≡ t → y.write ≡ u → ⊥
    by_kinds t true is also = silent y.path (as_accessed b y true y.path also refl in_b) (touched t is)
    by_kinds true false is also = quiet y.path (as_accessed b y false y.path also refl in_b) (as_accessed a x true y.path is c.1 in_a)
    by_kinds false false is also =
        let neither : x.write || y.write ≡ false = λ i. is i || also i in
        let never : true ≡ false = sym c.0 ∙ neither in
        absurd (cc)

never_unlinked : (a b : Strand) → LeadsTo a b → IsUntold a b → ReadsNone a b → WritesNone a b → ⊥
never_unlinked a b (same_task same) untold quiet silent = untold.other same
never_unlinked a b (makes child) untold quiet silent = untold.unmade child
never_unlinked a b (gives_value done taken) untold quiet silent = untold.untaken done taken
never_unlinked a b (conflict x y in_a in_b c) untold quiet silent = never_apart a b x y in_a in_b c quiet silent

linked : (p : Program) (a b : Strand) (reason : LinkReason) → LeadsTo a b → IsReasonFor p a b reason → reason ≢ reasons.Unlinked
linked p a b _ leads (goes_on same) is = absurd (cc)
linked p a b _ leads (made other child) is = absurd (cc)
linked p a b _ leads (took other unmade done taken) is = absurd (cc)
linked p a b _ leads (read cell untold first) is = absurd (cc)
linked p a b _ leads (printed flag untold quiet has touched says) is = absurd (cc)
linked p a b _ leads (wrote cell flag untold quiet silent first says) is = absurd (cc)
linked p a b _ leads (unlinked untold quiet silent) is = never_unlinked a b leads untold quiet silent

-- each number of a chain leads to the next
chain_leads : (LeadsOn : ℕ → ℕ → Type 0) (count : ℕ) (chain : List ℕ) (k i j : ℕ) → IsChain LeadsOn count chain → slice_get chain k ≡ Some i → slice_get chain (suc k) ≡ Some j → LeadsOn i j
chain_leads LeadsOn count [] k i j is at next = absurd (cc)
chain_leads LeadsOn count (x ∷ []) zero i j is at next = absurd (cc)
chain_leads LeadsOn count (x ∷ []) (suc k) i j is at next = absurd (cc)
chain_leads LeadsOn count (x ∷ y ∷ others) zero i j is at next =
    let one : x ≡ i = cc in
    let two : y ≡ j = cc in
    subst (λ (n : ℕ). LeadsOn n j) one (subst (λ (n : ℕ). LeadsOn x n) two is.0)
chain_leads LeadsOn count (x ∷ y ∷ others) (suc k) i j is at next = chain_leads LeadsOn count (y ∷ others) k i j is.1 at next

reason_at : (p : Program) (all : List Strand) (chain : List ℕ) (k j : ℕ) (b : Strand) (reason : LinkReason) → IsChainOf LeadsTo all chain → slice_get chain k ≡ Some j → slice_get all j ≡ Some b
    → IsReasonAt p all chain k b reason → reason ≢ reasons.Unlinked
reason_at p all chain zero j b reason is at there told = λ same. let never : reasons.First ≡ reasons.Unlinked = sym told ∙ same in absurd (cc)
reason_at p all chain (suc k) j b reason is at there told = linked p told.1 b reason leads told.4
  where
    link : Leads LeadsTo all told.0 j
    link = chain_leads (Leads LeadsTo all) _ chain k told.0 j is told.2 at

    leads : LeadsTo told.1 b
    leads =
        let one : link.first ≡ told.1 = let two : Some link.first ≡ Some told.1 = sym link.at_first ∙ told.3 in cc in
        let last : link.second ≡ b = let two : Some link.second ≡ Some b = sym link.at_second ∙ there in cc in
        subst (λ (x : Strand). LeadsTo x b) one (subst (λ (y : Strand). LeadsTo link.first y) last link.leads)

pub each_has_reason : (p : Program) (lim : Bounds) (moves : List Move) (work span : ℕ) (chain : List ℕ) (steps : List ChainStep) → IsProfile p lim moves work span chain → HasSteps p lim moves chain steps
    → (k : ℕ) (step : ChainStep) → slice_get steps k ≡ Some step → step.reason ≢ reasons.Unlinked
each_has_reason p lim moves work span chain steps profile has k step at =
    reason_at p (strands p lim (counted has.journal)) chain k step.entry this.strand step.reason is_chain this.entry this.there this.reason
  where
    this : IsStepAt p (strands p lim (counted has.journal)) chain k step
    this = has.steps_are.each k step at

    same : profile.journal ≡ has.journal
    same = one_from p lim (start_of p lim) profile.journal has.journal profile.legal has.legal (profile.has ∙ sym has.has)

    is_chain : IsChainOf LeadsTo (strands p lim (counted has.journal)) chain
    is_chain = subst (λ (j : List Entry). IsChainOf LeadsTo (strands p lim (counted j)) chain) same profile.heaviest.chain_is
