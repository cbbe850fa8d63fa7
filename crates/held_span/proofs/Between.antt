-- The held span is between the span and the work.
use Rattle.std.proofs.Common.{◌≡◌, ◌≤◌, ◌+◌, ℕ, zero, suc, List, [], ◌∷◌, length, drop, refl, sym, ap, ◌∙◌, subst, arith}
use Rattle.std.specs.Prelude.{slice_get, sum_by}
use Rattle.std.proofs.lemmas.List.Sums.{sum_by-cons}
use Rattle.seg_journal.specs.declared.journal.Entry.{Entry}
use Rattle.seg_journal.specs.declared.moves.Move.{Move}
use Rattle.twe_base.specs.Limits.{Bounds}
use Rattle.twe_program.specs.Program.{Program}
use Rattle.machine_state.specs.declared.state.State.{State}
use Rattle.machine_state.specs.declared.state.TaskRow.{TaskRow}
use Rattle.machine_state.specs.Moves.{move_result, start_of}
use Rattle.machine_state.specs.Runs.{counted}
use Rattle.machine_state.proofs.replays.Replayed.{one_from}
use Rattle.span_profile.specs.heaviest_chain.Chains.{IsChain, IsChainOf, IsHeaviest, Leads, chain_weight, weight_at, weight_of_found}
use Rattle.span_profile.specs.LeadsTo.{LeadsTo}
use Rattle.span_profile.specs.Profiles.{IsProfile}
use Rattle.span_profile.specs.Strands.{strands, strands_from, weight_of}
use Rattle.held_span.specs.Freed.{FollowsFreed, stage_of, stage_weight, stages, stages_from}
use Rattle.held_span.specs.HeldSpans.{IsHeldSpan}
use Rattle.held_span.proofs.StrandStages.{leads_still, strand_count, weights_at}

-- a chain weighs no more than all elements
module _ {X : Type 0} (weight : X → ℕ) (LeadsTo : X → X → Type 0) (xs : List X) where
  rest_less : (i j : ℕ) → i ≤ j → sum_by weight (drop j xs) ≤ sum_by weight (drop i xs)
  rest_less i j before = fewer xs i j before
    where
      fewer : (ys : List X) (i j : ℕ) → i ≤ j → sum_by weight (drop j ys) ≤ sum_by weight (drop i ys)
      fewer [] zero zero before = omega arith
      fewer [] zero (suc j) before = omega arith
      fewer [] (suc i) zero before = omega arith
      fewer [] (suc i) (suc j) before = omega arith
      fewer (y ∷ ys) zero zero before = omega arith
      fewer (y ∷ ys) zero (suc j) before = let rest = fewer ys zero j (omega arith) in let sum = sum_by-cons weight y ys in omega (arith, rest, sum)
      fewer (y ∷ ys) (suc i) zero before = absurd (omega (arith, before))
      fewer (y ∷ ys) (suc i) (suc j) before = fewer ys i j (omega (arith, before))

  first_of : (ys : List X) (i : ℕ) → weight_of_found weight (slice_get ys i) + sum_by weight (drop (suc i) ys) ≤ sum_by weight (drop i ys)
  first_of [] zero = omega arith
  first_of [] (suc i) = omega arith
  first_of (y ∷ ys) zero = let sum = sum_by-cons weight y ys in omega (arith, sum)
  first_of (y ∷ ys) (suc i) = first_of ys i

  chain_fits : (i : ℕ) (others : List ℕ) → IsChain (Leads LeadsTo xs) (length xs) (i ∷ others) → chain_weight weight xs (i ∷ others) ≤ sum_by weight (drop i xs)
  chain_fits i [] is = let one = sum_by-cons (weight_at weight xs) i [] in let first = first_of xs i in omega (arith, one, first)
  chain_fits i (j ∷ others) is =
      let one = sum_by-cons (weight_at weight xs) i (j ∷ others) in
      let first = first_of xs i in
      let rest = chain_fits j others is.1 in
      let before = is.0.before in
      let later = rest_less (suc i) j (omega (arith, before)) in
      omega (arith, one, first, rest, later)

  pub chain_below : (chain : List ℕ) → IsChainOf LeadsTo xs chain → chain_weight weight xs chain ≤ sum_by weight xs
  chain_below [] is = omega arith
  chain_below (i ∷ others) is = let fits = chain_fits i others is in let all = rest_less zero i (omega arith) in omega (arith, fits, all)

-- a chain stays one if admissions also follow what freed them
module _ (p : Program) (lim : Bounds) (rows : List TaskRow) (journal : List Entry) where
  chain_still : (chain : List ℕ) → IsChainOf LeadsTo (strands p lim journal) chain → IsChainOf (FollowsFreed rows) (stages p lim journal) chain
  chain_still [] is = tt
  chain_still (i ∷ []) is = let same = strand_count p lim (start_of p lim) journal in omega (arith, is, same)
  chain_still (i ∷ j ∷ others) is = (leads_still p lim rows journal i j is.0, chain_still (j ∷ others) is.1)

  weighs_still : (chain : List ℕ) → chain_weight weight_of (strands p lim journal) chain ≡ chain_weight stage_weight (stages p lim journal) chain
  weighs_still [] = refl
  weighs_still (i ∷ others) =
      let first = weights_at p lim (start_of p lim) journal i in
      let rest = weighs_still others in
      let one = sum_by-cons (weight_at weight_of (strands p lim journal)) i others in
      let other = sum_by-cons (weight_at stage_weight (stages p lim journal)) i others in
      omega (arith, first, rest, one, other)

-- the work of the entries is the same
pub weights_from : (p : Program) (lim : Bounds) (st : State) (entries : List Entry) → sum_by weight_of (strands_from p lim st entries) ≡ sum_by stage_weight (stages_from p lim st entries)
weights_from p lim st [] = refl
weights_from p lim st (entry ∷ entries) =
    let next = (move_result p lim st entry.mv).0 in
    let rest = weights_from p lim next entries in
    let one = sum_by-cons weight_of (stage_of p st entry).strand (strands_from p lim next entries) in
    let other = sum_by-cons stage_weight (stage_of p st entry) (stages_from p lim next entries) in
    omega (arith, rest, one, other)

-- both are of one journal
same_journal : (p : Program) (lim : Bounds) (moves : List Move) (work span held : ℕ) (chain : List ℕ) (profile : IsProfile p lim moves work span chain) (is : IsHeldSpan p lim moves held)
    → counted profile.journal ≡ is.journal
same_journal p lim moves work span held chain profile is =
    ap counted (one_from p lim (start_of p lim) profile.journal is.run.whole profile.legal is.run.legal (profile.has ∙ sym is.run.has)) ∙ sym is.run.journal_is

heaviest_there : (p : Program) (lim : Bounds) (moves : List Move) (work span held : ℕ) (chain : List ℕ) (profile : IsProfile p lim moves work span chain) (is : IsHeldSpan p lim moves held)
    → IsHeaviest LeadsTo weight_of (strands p lim is.journal) work span chain
heaviest_there p lim moves work span held chain profile is =
    subst (λ (j : List Entry). IsHeaviest LeadsTo weight_of (strands p lim j) work span chain) (same_journal p lim moves work span held chain profile is) profile.heaviest

pub held_least : (p : Program) (lim : Bounds) (moves : List Move) (work span held : ℕ) (chain : List ℕ) → IsProfile p lim moves work span chain → IsHeldSpan p lim moves held → span ≤ held
held_least p lim moves work span held chain profile is =
    let one = heaviest_there p lim moves work span held chain profile is in
    let most = is.heaviest chain (chain_still p lim is.st.tasks is.journal chain one.chain_is) in
    let same = weighs_still p lim is.st.tasks is.journal chain in
    let span_is = one.span_is in
    omega (arith, most, same, span_is)

pub held_most : (p : Program) (lim : Bounds) (moves : List Move) (work span held : ℕ) (chain : List ℕ) → IsProfile p lim moves work span chain → IsHeldSpan p lim moves held → held ≤ work
held_most p lim moves work span held chain profile is =
    let one = heaviest_there p lim moves work span held chain profile is in
    let below = chain_below stage_weight (FollowsFreed is.st.tasks) (stages p lim is.journal) is.chain is.chain_is in
    let same = weights_from p lim (start_of p lim) is.journal in
    let weighs = is.weighs in
    let work_is = one.work_is in
    omega (arith, below, same, weighs, work_is)
