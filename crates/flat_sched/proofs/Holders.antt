-- Holders of tasks: a state has one list of them, so it has one stuck cycle at most; and the edges of that cycle.
use Rattle.std.proofs.Common.{◌≡◌, ◌<◌, ℕ, Bool, List, length, Option, Some, None, true, false, refl, sym, ap, ◌∙◌, subst, ⊎_elim, arith}
use Rattle.std.specs.Prelude.{MatchBool, slice_index_or}
use Rattle.std.specs.List.{All}
use Rattle.std.proofs.lemmas.Bool.{cases_lt, cases_order}
use Rattle.std.proofs.lemmas.List.{ext_get_or, get_or_past}
use Rattle.wait_graph.specs.declared.stuck.Edge.{Edge}
use Rattle.wait_graph.specs.StuckCycle.{IsTrueEdge, holder_of, stuck_cycle}
use Rattle.wait_graph.specs.Waiting.{WaitsFor, WaitsForNobody}
use Rattle.machine_state.specs.declared.state.State.{State}
use Rattle.machine_state.specs.declared.state.TaskStatus.TheVariants.{Made}
use Rattle.machine_state.specs.Rows.{HasStatus}
use Rattle.flat_sched.specs.Stuck.{AreHolders, IsHolder, IsLowestBar, IsReason, IsStuckCycle}

-- a task has one lowest bar at most
one_bar : (st : State) (t r s : ℕ) → IsLowestBar st r t → IsLowestBar st s t → r ≡ s
one_bar st t r s a b =
    ⊎_elim (λ same. same)
    (λ other. ⊎_elim (λ below. absurd (b.lowest r below a.bar)) (λ above. absurd (a.lowest s above b.bar)) other)
    (cases_order r s)

-- and one holder at most
one_holder : (st : State) (t : ℕ) (a b : Option ℕ) → IsHolder st t a → IsHolder st t b → a ≡ b
one_holder st t None None x y = refl
one_holder st t None (Some s) x y = absurd (x y.0 s y.1.bar)
one_holder st t (Some r) None x y = absurd (y x.0 r x.1.bar)
one_holder st t (Some r) (Some s) x y = ap Some (one_bar st t r s x.1 y.1)

one_list : (st : State) (held other : List (Option ℕ)) → AreHolders st held → AreHolders st other → held ≡ other
one_list st held other a b =
    ext_get_or None held other (a.count ∙ sym b.count)
    (λ t below. one_holder st t (holder_of held t) (holder_of other t) (a.each t (omega (arith, a.count))) (b.each t (omega (arith, a.count))))

pub one_cycle : (st : State) (cycle other : List Edge) → IsStuckCycle st cycle → IsStuckCycle st other → cycle ≡ other
one_cycle st cycle other a b =
    a.same ∙ (ap (stuck_cycle st.links) (one_list st a.held b.held a.holders b.holders) ∙ sym b.same)

-- who has a holder is there
held_within : (held : List (Option ℕ)) (t s : ℕ) → holder_of held t ≡ Some s → t < length held
held_within held t s is =
    ⊎_elim (λ below. below) (λ past. let none = get_or_past held t None past in absurd (cc)) (cases_lt t (length held))

-- an edge to a holder leads to the lowest bar
edge_reason : (st : State) (held : List (Option ℕ)) (from to : ℕ) (b : Bool) → AreHolders st held
    → MatchBool b (WaitsForNobody st.links from × (holder_of held from ≡ Some to)) (WaitsFor st.links from to)
    → MatchBool b (HasStatus st from Made × IsLowestBar st to from) (WaitsFor st.links from to)
edge_reason st held from to true are edge =
    let below = held_within held from to edge.1 in
    subst (IsHolder st from) edge.1 (are.each from (omega (arith, below, are.count)))
edge_reason st held from to false are edge = edge

pub edge_reasons : (st : State) (held : List (Option ℕ)) (edges : List Edge) → AreHolders st held → All (IsTrueEdge st.links held) edges → All (IsReason st) edges
edge_reasons st held edges are all k d below =
    let e = slice_index_or edges k d in
    edge_reason st held e.from e.to e.held are (all k d below)
