-- The held span of a run whose entries were all taken.
use Rattle.std.proofs.Common.{◌≡◌, ◌<◌, ◌≤◌, ◌+◌, ℕ, zero, suc, List, [], ◌∷◌, length, get_or, drop, refl, sym, ap, ◌∙◌, subst, arith}
use Rattle.std.specs.Prelude.{slice_get, sum_by}
use Rattle.std.specs.List.{AllZip}
use Rattle.std.proofs.lemmas.List.Sums.{sum_by-cons}
use Rattle.prefix_tree.specs.declared.part.Part.{Part}
use Rattle.seg_journal.specs.declared.journal.Entry.{Entry}
use Rattle.seg_journal.specs.declared.moves.Move.{Move}
use Rattle.twe_base.specs.Limits.{Bounds}
use Rattle.twe_program.specs.Program.{Program}
use Rattle.machine_state.specs.declared.state.State.{State}
use Rattle.machine_state.specs.declared.state.TaskRow.{TaskRow}
use Rattle.machine_state.specs.Moves.{start_of}
use Rattle.machine_state.specs.Runs.{IsReached, Legal}
use Rattle.held_span.specs.Marks.{AreMarksOf}
use Rattle.held_span.specs.declared.marks.EffectMarks.{EffectMarks}
use Rattle.span_profile.specs.Advice.{IsCountedRun}
use Rattle.span_profile.proofs.Counted.{counted_legal}
use Rattle.span_profile.proofs.Lists.{zip_length}
use Rattle.span_profile.specs.heaviest_chain.Chains.{IsChain, IsChainOf, IsHeaviest, Leads, chain_weight, weight_at, weight_of_found}
use Rattle.span_profile.specs.heaviest_chain.Nodes.{Node, SharesKey, weight_of}
use Rattle.held_span.specs.Freed.{FollowsFreed, RunEntry, stage_weight, stages}
use Rattle.held_span.specs.HeldSpans.{IsHeldSpan}
use Rattle.held_span.specs.declared.spanning.Spanning.{Spanning}
use Rattle.held_span.specs.inner.Freeing.{AreNumbered}
use Rattle.held_span.specs.inner.Spanning.{AreSpanned, IsPlan, IsSpanning, ShowsStage, effect_lists}
use Rattle.held_span.proofs.Covered.{kept-as-heavy}

-- the counted part of the moves is legal, and leads to a state
pub legal_counted : (p : Program) (lim : Bounds) (moves : List Move) (journal : List Entry) (st : State) → IsCountedRun p lim moves journal st → Legal p lim journal
legal_counted p lim moves journal st run = subst (Legal p lim) (sym run.journal_is) (counted_legal p lim (start_of p lim) run.whole run.legal)

pub counted_reached : (p : Program) (lim : Bounds) (moves : List Move) (journal : List Entry) (st : State) → IsCountedRun p lim moves journal st → IsReached p lim st
counted_reached p lim moves journal st run = record { journal = journal; legal = legal_counted p lim moves journal st run; same = run.state_is }

pub plan_of : (p : Program) (lim : Bounds) (moves : List Move) (journal : List Entry) (st : State) (marks : EffectMarks) → IsCountedRun p lim moves journal st → AreMarksOf (effect_lists st.tasks) marks
    → AreNumbered marks → IsPlan p lim marks st.tasks journal
plan_of p lim moves journal st marks run are numbered = record {
  legal = legal_counted p lim moves journal st run;
  rows_are = ap (λ (s : State). s.tasks) run.state_is;
  marks_are = are;
  numbered = numbered;
}

-- the rest of a list begins with its next element
pub rest_next : (xs : List Entry) (i : ℕ) (d : Entry) → i < length xs → drop i xs ≡ get_or xs i d ∷ drop (i + 1) xs
rest_next [] i d below = absurd (omega arith)
rest_next (x ∷ xs) zero d below = refl
rest_next (x ∷ xs) (suc i) d below =
    let more : suc i + 1 ≡ suc (i + 1) = omega arith in
    rest_next xs i d (omega (arith, below)) ∙ ap (λ (n : ℕ). get_or xs i d ∷ drop n (x ∷ xs)) (sym more)

pub rest_none : (xs : List Entry) (i : ℕ) → length xs ≤ i → drop i xs ≡ []
rest_none [] zero past = refl
rest_none [] (suc i) past = refl
rest_none (x ∷ xs) zero past = absurd (omega arith)
rest_none (x ∷ xs) (suc i) past = rest_none xs i (omega (arith, past))

-- a chain of some edges is one of others
chain_on : (A B : ℕ → ℕ → Type 0) → ((i j : ℕ) → A i j → B i j) → (count : ℕ) (chain : List ℕ) → IsChain A count chain → IsChain B count chain
chain_on A B f count [] is = tt
chain_on A B f count (i ∷ []) is = is
chain_on A B f count (i ∷ j ∷ others) is = (f i j is.0, chain_on A B f count (j ∷ others) is.1)

module _ (tree : List (List Part)) (marks : EffectMarks) where
  pub weight_same : (nodes : List Node) (stages : List RunEntry) → AllZip (ShowsStage tree marks) nodes stages → (i : ℕ) → weight_of_found weight_of (slice_get nodes i) ≡ weight_of_found stage_weight (slice_get stages i)
  weight_same [] [] all i = refl
  weight_same [] (b ∷ stages) all i = absurd all
  weight_same (y ∷ nodes) [] all i = absurd all
  weight_same (y ∷ nodes) (b ∷ stages) all zero = all.0.weight
  weight_same (y ∷ nodes) (b ∷ stages) all (suc i) = weight_same nodes stages all.1 i

  pub chain_weighs : (nodes : List Node) (stages : List RunEntry) → AllZip (ShowsStage tree marks) nodes stages → (chain : List ℕ) → chain_weight weight_of nodes chain ≡ chain_weight stage_weight stages chain
  chain_weighs nodes stages all [] = refl
  chain_weighs nodes stages all (i ∷ others) =
      let first = weight_same nodes stages all i in
      let rest = chain_weighs nodes stages all others in
      let one = sum_by-cons (weight_at weight_of nodes) i others in
      let other = sum_by-cons (weight_at stage_weight stages) i others in
      omega (arith, first, rest, one, other)

  module _ (rows : List TaskRow) (nodes : List Node) (stages : List RunEntry) (spanned : AreSpanned rows tree marks nodes stages) (work span : ℕ) (chain : List ℕ)
      (heaviest : IsHeaviest SharesKey weight_of nodes work span chain) where
    count : length nodes ≡ length stages
    count = zip_length (ShowsStage tree marks) nodes stages spanned.shows

    pub chain_follows : IsChainOf (FollowsFreed rows) stages chain
    chain_follows =
        chain_on (Leads SharesKey nodes) (Leads (FollowsFreed rows) stages) spanned.sound (length stages) chain
        (subst (λ (n : ℕ). IsChain (Leads SharesKey nodes) n chain) count heaviest.chain_is)

    kept_below : (other : List ℕ) → IsChain (Leads SharesKey nodes) (length stages) other → sum_by (weight_at stage_weight stages) other ≤ span
    kept_below other is =
        let most = heaviest.heaviest other (subst (λ (n : ℕ). IsChain (Leads SharesKey nodes) n other) (sym count) is) in
        let same = chain_weighs nodes stages spanned.shows other in
        omega (arith, most, same)

    pub all_below : (other : List ℕ) → IsChainOf (FollowsFreed rows) stages other → chain_weight stage_weight stages other ≤ span
    all_below other is =
        kept-as-heavy (Leads (FollowsFreed rows) stages) (Leads SharesKey nodes) spanned.covers (length stages) (weight_at stage_weight stages) span kept_below other is

abbrev pub held_of : (p : Program) (lim : Bounds) (moves : List Move) (journal : List Entry) (st : State) → IsCountedRun p lim moves journal st → (marks : EffectMarks) (run : Spanning) (rest : List Entry)
    → (s : IsSpanning p lim marks st.tasks journal rest run) → (work span : ℕ) (chain : List ℕ) → IsHeaviest SharesKey weight_of s.nodes work span chain → IsHeldSpan p lim moves span
held_of p lim moves journal st counted_run marks run rest s work span chain heaviest = record {
  journal = journal;
  st = st;
  run = counted_run;
  chain = chain;
  chain_is = chain_follows s.tree marks st.tasks s.nodes (stages p lim journal) s.spanned work span chain heaviest;
  weighs = sym (chain_weighs s.tree marks s.nodes (stages p lim journal) s.spanned.shows chain) ∙ heaviest.span_is;
  heaviest = all_below s.tree marks st.tasks s.nodes (stages p lim journal) s.spanned work span chain heaviest;
}
