-- A list of moves has one profile.
use Rattle.std.proofs.Common.{◌≡◌, ◌⊎◌, ◌<◌, ◌≤◌, ◌++◌, ℕ, List, [], ◌∷◌, reverse, inl, inr, sym, ap, ◌∙◌, subst, append_assoc, arith}
use Rattle.std.proofs.lemmas.List.{reverse-append}
use Rattle.seg_journal.specs.declared.journal.Entry.{Entry}
use Rattle.seg_journal.specs.declared.moves.Move.{Move}
use Rattle.twe_base.specs.Limits.{Bounds}
use Rattle.twe_program.specs.Program.{Program}
use Rattle.machine_state.specs.Moves.{start_of}
use Rattle.machine_state.specs.Runs.{counted}
use Rattle.machine_state.proofs.replays.Replayed.{one_from}
use Rattle.span_profile.specs.heaviest_chain.Chains.{IsHeaviest, IsLowerFromEnd}
use Rattle.span_profile.specs.LeadsTo.{LeadsTo}
use Rattle.span_profile.specs.Profiles.{IsProfile}
use Rattle.span_profile.specs.Strands.{strands, weight_of}

-- two lists part only once
parts_once : (common others front back rest tail : List ℕ) (low high least most : ℕ) → low < high → least < most → common ++ low ∷ front ≡ others ++ most ∷ tail
    → common ++ high ∷ back ≡ others ++ least ∷ rest → ⊥
parts_once [] [] front back rest tail low high least most less lower one other =
    let first : low ≡ most = cc in
    let second : high ≡ least = cc in
    omega (arith, less, lower, first, second)
parts_once [] (x ∷ others) front back rest tail low high least most less lower one other =
    let first : low ≡ x = cc in
    let second : high ≡ x = cc in
    omega (arith, less, first, second)
parts_once (x ∷ common) [] front back rest tail low high least most less lower one other =
    let first : x ≡ most = cc in
    let second : x ≡ least = cc in
    omega (arith, lower, first, second)
parts_once (x ∷ common) (y ∷ others) front back rest tail low high least most less lower one other =
    let first : common ++ low ∷ front ≡ others ++ most ∷ tail = cc in
    let second : common ++ high ∷ back ≡ others ++ least ∷ rest = cc in
    parts_once common others front back rest tail low high least most less lower first second

-- a list from its end
turned : (front common : List ℕ) (x : ℕ) → reverse (front ++ x ∷ common) ≡ reverse common ++ x ∷ reverse front
turned front common x =
    reverse-append front (x ∷ common)
    ∙ (ap (λ (l : List ℕ). l ++ reverse front) (reverse-append (x ∷ []) common) ∙ append_assoc (reverse common) (x ∷ []) (reverse front))

-- of two lists at most one is lower from its end
never_both_lower : (chain other : List ℕ) → IsLowerFromEnd chain other → IsLowerFromEnd other chain → ⊥
never_both_lower chain other one two =
    let at_one = sym (turned one.front one.common one.lower) ∙ sym (ap (λ (l : List ℕ). reverse l) one.this_is) in
    let at_two = ap (λ (l : List ℕ). reverse l) two.other_is ∙ turned two.other_front two.common two.higher in
    let in_one = sym (turned one.other_front one.common one.higher) ∙ sym (ap (λ (l : List ℕ). reverse l) one.other_is) in
    let in_two = ap (λ (l : List ℕ). reverse l) two.this_is ∙ turned two.front two.common two.lower in
    parts_once (reverse one.common) (reverse two.common) (reverse one.front) (reverse one.other_front) (reverse two.front) (reverse two.other_front)
    one.lower one.higher two.lower two.higher one.less two.less (at_one ∙ at_two) (in_one ∙ in_two)

same_chain : (chain other : List ℕ) → (chain ≡ other) ⊎ IsLowerFromEnd chain other → (other ≡ chain) ⊎ IsLowerFromEnd other chain → chain ≡ other
same_chain chain other (inl same) back = same
same_chain chain other (inr lower) (inl same) = sym same
same_chain chain other (inr lower) (inr higher) = absurd (never_both_lower chain other lower higher)

-- a list has one heaviest chain of this kind
one_heaviest : {X : Type 0} (Leads : X → X → Type 0) (weight : X → ℕ) (xs : List X) (work span : ℕ) (chain : List ℕ) (other_work other_span : ℕ) (other_chain : List ℕ)
    → IsHeaviest Leads weight xs work span chain → IsHeaviest Leads weight xs other_work other_span other_chain → (work ≡ other_work) × (span ≡ other_span) × (chain ≡ other_chain)
one_heaviest Leads weight xs work span chain other_work other_span other_chain one other =
    let above = one.heaviest other_chain other.chain_is in
    let below = other.heaviest chain one.chain_is in
    let spans : span ≡ other_span = omega (arith, above, below, one.span_is, other.span_is) in (
      one.work_is ∙ sym other.work_is,
      spans,
      same_chain chain other_chain (one.lowest other_chain other.chain_is (other.span_is ∙ sym spans)) (other.lowest chain one.chain_is (one.span_is ∙ spans)),
    )

pub one_profile_of : (p : Program) (lim : Bounds) (moves : List Move) (work span : ℕ) (chain : List ℕ) (other_work other_span : ℕ) (other_chain : List ℕ)
    → IsProfile p lim moves work span chain → IsProfile p lim moves other_work other_span other_chain → (work ≡ other_work) × (span ≡ other_span) × (chain ≡ other_chain)
one_profile_of p lim moves work span chain other_work other_span other_chain one other =
    let journals : one.journal ≡ other.journal = one_from p lim (start_of p lim) one.journal other.journal one.legal other.legal (one.has ∙ sym other.has) in
    let moved = subst (λ (journal : List Entry). IsHeaviest LeadsTo weight_of (strands p lim (counted journal)) work span chain) journals one.heaviest in
    one_heaviest LeadsTo weight_of (strands p lim (counted other.journal)) work span chain other_work other_span other_chain moved other.heaviest
