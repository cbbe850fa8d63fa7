-- What is carried out leads along a control path to the task operation at which it stops.
use Rattle.std.proofs.Common.{◌≡◌, ◌+◌, ℕ, zero, suc, ℤ, Bool, true, false, List, ◌∷◌, Option, None, Some, inl, inr, refl, sym, ap, ◌∙◌, subst, add-one, arith}
use Rattle.twe_base.specs.declared.place.Place.{Place}
use Rattle.twe_program.specs.Program.{Program}
use Rattle.twe_program.specs.Expression.{Expression, Arguments}
use Rattle.twe_program.specs.Statement.{Statement, Block, Let, Set, SetCell, SetArray, SetGrid, If, While, Return, Print, Call, Make, Wait, Statements, no_more, statement, Arms, arm, otherwise, no_else}
use Rattle.cover_flow.specs.Steps.{followed_by, IsBranch}
use Rattle.seg_meaning.specs.declared.frame.Position.{Position}
use Rattle.seg_meaning.specs.declared.operation.Operation.{Operation}
use Rattle.seg_meaning.specs.declared.operation.Operation.TheVariants as operations
use Rattle.seg_meaning.specs.Arithmetic.{is_true}
use Rattle.seg_meaning.specs.Cells.{element_number, grid_element_number}
use Rattle.seg_meaning.specs.Store.{Store, Given, gives, faults, Flow, goes, returns, fails, stops, then_do, then_go, unit_taken}
use Rattle.seg_meaning.specs.declared.fault.FaultCause.{FaultCause}
use Rattle.seg_meaning.specs.declared.fault.FaultCause.TheVariants.{Index, GridIndex}
use Rattle.seg_meaning.specs.Meaning.{Below, element_written, value_of, values_of, called, turned, chosen, stopped_at, done_by, done_all, done_arms}
use Rattle.seg_meaning.specs.Remaining.{after_first, last_of_first, branch_of, block_of, block_at}
use Rattle.machine_state.specs.segment_laws.Left.{again, left_in}
use Rattle.machine_state.specs.segment_laws.Operations.{AllMayHave}
use Rattle.machine_state.proofs.segment_laws.ArgumentValues.{GivenIs, values_may}
use Rattle.machine_state.proofs.segment_laws.Quiet.{Leads, followed_assoc, leads_joined, leads_nowhere, leads_silently, leads_through}

-- the statement of an operation is come to, with `left` left after it
abbrev pub ComesTo : Statements → Operation → Statements → Type 0
ComesTo from (operations.Make future task values spawned place) left =
    (point : ℕ) × (given : Arguments) × (future_place : Place) × AllMayHave given values
    × Leads from (statement (Make point future task given spawned future_place place) left)
ComesTo from (operations.Wait future join into) left =
    (point : ℕ) × (place : Place) × Leads from (statement (Wait point future join into place) left)

-- what was carried out of `from` has led to `next`, by a return to the end, or to an operation; what is left after it is
-- by the positions
abbrev pub FlowLeads : Statements → Statements → (List Position → Statements) → Flow → Type 0
FlowLeads from next left (goes s) = Leads from next
FlowLeads from next left (returns value s) = Leads from no_more
FlowLeads from next left (fails kind place s) = Unit {0}
FlowLeads from next left (stops operation positions s) = ComesTo from operation (left positions)

comes_after : (from between : Statements) (operation : Operation) (left : Statements) → Leads from between → ComesTo between operation left → ComesTo from operation left
comes_after from between (operations.Make future task values spawned place) left a c =
    (c.0, c.1, c.2, c.3, leads_joined from between (statement (Make c.0 future task c.1 spawned c.2 place) left) a c.4)
comes_after from between (operations.Wait future join into) left a c =
    (c.0, c.1, leads_joined from between (statement (Wait c.0 future join into c.1) left) a c.2)

-- with more steps before
after_steps : (from between next : Statements) (left : List Position → Statements) (f : Flow) → Leads from between → FlowLeads between next left f → FlowLeads from next left f
after_steps from between next left (goes s) a h = leads_joined from between next a h
after_steps from between next left (returns value s) a h = leads_joined from between no_more a h
after_steps from between next left (fails kind place s) a h = tt
after_steps from between next left (stops operation positions s) a h = comes_after from between operation (left positions) a h

do_leads : {A : Type 0} (from next : Statements) (left : List Position → Statements) (g : Given A) (then : A → Store → Flow)
    → ((value : A) (s : Store) → FlowLeads from next left (then value s)) → FlowLeads from next left (then_do g then)
do_leads from next left (gives value s) then k = k value s
do_leads from next left (faults kind place s) then k = tt

pub go_leads : (from between next : Statements) (left : List Position → Statements) (f : Flow) (then : Store → Flow)
    → FlowLeads from between left f → ((s : Store) → FlowLeads between next left (then s)) → FlowLeads from next left (then_go f then)
go_leads from between next left (goes s) then h k = after_steps from between next left (then s) h (k s)
go_leads from between next left (returns value s) then h k = h
go_leads from between next left (fails kind place s) then h k = tt
go_leads from between next left (stops operation positions s) then h k = h

pub stopped_leads : (from next : Statements) (inner left : List Position → Statements) (block after : ℕ) (f : Flow)
    → ((positions : List Position) → left (record { block = block; after = after } ∷ positions) ≡ inner positions)
    → FlowLeads from next inner f → FlowLeads from next left (stopped_at block after f)
stopped_leads from next inner left block after (goes s) is h = h
stopped_leads from next inner left block after (returns value s) is h = h
stopped_leads from next inner left block after (fails kind place s) is h = tt
stopped_leads from next inner left block after (stops operation positions s) is h = subst (ComesTo from operation) (sym (is positions)) h

chosen_leads : (from next : Statements) (left : List Position → Statements) (yes : Bool) (first second : Flow) → FlowLeads from next left first → FlowLeads from next left second → FlowLeads from next left (chosen yes first second)
chosen_leads from next left true first second a b = a
chosen_leads from next left false first second a b = b

written_leads : (from next : Statements) (left : List Position → Statements) (number : Option ℕ) (missing : FaultCause) (value : ℤ) (place : Place) (s : Store) → Leads from next → FlowLeads from next left (element_written number missing value place s)
written_leads from next left None missing value place s h = tt
written_leads from next left (Some cell) missing value place s h = h

-- with what is known of the value
do_given : {A : Type 0} (Q : A → Type 0) (from next : Statements) (left : List Position → Statements) (g : Given A) (then : A → Store → Flow)
    → GivenIs Q g → ((value : A) (s : Store) → Q value → FlowLeads from next left (then value s)) → FlowLeads from next left (then_do g then)
do_given Q from next left (gives value s) then q k = k value s q
do_given Q from next left (faults kind place s) then q k = tt

-- what is left of a block once an operation inside one of its statements was come to
abbrev pub left_after : Option Statement → Statements → List Position → Statements
left_after stmt others positions = followed_by (again positions stmt (left_in (block_of (block_at positions) stmt) positions)) others

-- what is left of a block that begins with its first position in this block
abbrev pub LeftIn : ℕ → Statements → Statements → (List Position → Statements) → Type 0
LeftIn block whole others left = (after : ℕ) (inner : List Position)
    → left (record { block = block; after = after } ∷ inner) ≡ followed_by (left_in whole (record { block = block; after = after } ∷ inner)) others

-- the statements of a block from a place on
last_at : (n : ℕ) (whole : Statements) (first : Statement) (others : Statements) → after_first n whole ≡ statement first others → last_of_first (suc n) whole ≡ Some first
last_at zero no_more first others e = absurd (cc)
last_at zero (statement s more) first others e = cc
last_at (suc n) no_more first others e = absurd (cc)
last_at (suc n) (statement s more) first others e = last_at n more first others e

rest_at : (n : ℕ) (whole : Statements) (first : Statement) (others : Statements) → after_first n whole ≡ statement first others → after_first (suc n) whole ≡ others
rest_at zero no_more first others e = absurd (cc)
rest_at zero (statement s more) first others e = cc
rest_at (suc n) no_more first others e = absurd (cc)
rest_at (suc n) (statement s more) first others e = rest_at n more first others e

-- what is left after an operation inside the statement at a place
inside_is : (at : ℕ) (whole : Statements) (first : Statement) (more others : Statements) → after_first at whole ≡ statement first more → (block : ℕ) (positions : List Position)
    → followed_by (left_in whole (record { block = block; after = at + 1 } ∷ positions)) others ≡ left_after (Some first) (followed_by more others) positions
inside_is at whole first more others e block positions =
    ap (λ (n : ℕ). followed_by (left_in whole (record { block = block; after = n } ∷ positions)) others) (add-one at)
    ∙ followed_assoc (again positions (last_of_first (suc at) whole) (left_in (block_of (block_at positions) (last_of_first (suc at) whole)) positions)) (after_first (suc at) whole) others
    ∙ ap (λ (s : Option Statement). left_after s (followed_by (after_first (suc at) whole) others) positions) (last_at at whole first more e)
    ∙ ap (λ (rest : Statements). left_after (Some first) (followed_by rest others) positions) (rest_at at whole first more e)

-- each loop leads past it, or to an operation inside it
abbrev pub BelowLeads : Below → Type 0
BelowLeads below = (point : ℕ) (condition : Expression) (body : Statements) (place : Place) (others : Statements) (s : Store)
    → FlowLeads (statement (While point condition body place) others) others (left_after (Some (While point condition body place)) others) (below (While point condition body place) s)

module _ (p : Program) (below : Below) (leads : BelowLeads below) where
  turned_leads : (from next : Statements) (left : List Position → Statements) (yes : Bool) (place : Place) (body then : Store → Flow) (s : Store)
      → Leads from next → ((s1 : Store) → FlowLeads from from left (body s1)) → ((s1 : Store) → FlowLeads from next left (then s1)) → FlowLeads from next left (turned yes place body then s)
  turned_leads from next left false place body then s past b a = past
  turned_leads from next left true place body then s past b a =
      do_leads from next left (unit_taken place s) _ (λ unit s1. go_leads from from next left (body s1) then (b s1) a)

  -- a branch of an `if`, by its number
  branch_leads : (point : ℕ) (whole : Arms) (others : Statements) (block : ℕ) (body : Statements) → IsBranch whole body → branch_of (block + 0) whole ≡ body
      → (f : Flow) → ((left : List Position → Statements) → LeftIn block body others left → FlowLeads (followed_by body others) others left f)
      → FlowLeads (statement (If point whole) others) others (left_after (Some (If point whole)) others) f
  branch_leads point whole others block body taken is f inside =
      let from = statement (If point whole) others in
      let left = left_after (Some (If point whole)) others in
      let same : block ≡ block + 0 = omega arith in
      let number : branch_of block whole ≡ body = ap (λ (k : ℕ). branch_of k whole) same ∙ is in
      after_steps from (followed_by body others) others left f
      (leads_silently from (followed_by body others) (λ path. (body, taken, refl, refl)))
      (inside left (λ after inner. ap (λ (b : Statements). followed_by (left_in b (record { block = block; after = after } ∷ inner)) others) number))

  mutual
    pub statement_leads : (stmt : Statement) (others : Statements) (s : Store) → FlowLeads (statement stmt others) others (left_after (Some stmt) others) (done_by below p stmt s)
    statement_leads (Block point body) others s =
        let from = statement (Block point body) others in
        let left = left_after (Some (Block point body)) others in
        after_steps from (followed_by body others) others left (done_all below p 0 0 body s)
        (leads_silently from (followed_by body others) (λ path. (refl, refl)))
        (all_leads 0 body others left (λ after inner. refl) 0 body refl s)
    statement_leads (Let point var value) others s =
        do_leads _ others _ (value_of below p value s) _ (λ v s1. leads_through (Let point var value) others (λ o. o) (λ path. (refl, refl)))
    statement_leads (Set point var value) others s =
        do_leads _ others _ (value_of below p value s) _ (λ v s1. leads_through (Set point var value) others (λ o. o) (λ path. (refl, refl)))
    statement_leads (SetCell point cell value place) others s =
        do_leads _ others _ (value_of below p value s) _ (λ v s1. leads_through (SetCell point cell value place) others (λ o. o) (λ path. (refl, refl)))
    statement_leads (SetArray point array index value place) others s =
        let stmt = SetArray point array index value place in
        let left = left_after (Some stmt) others in
        do_leads (statement stmt others) others left (value_of below p index s) _ (λ i s1. do_leads (statement stmt others) others left (value_of below p value s1) _
        (λ v s2. written_leads (statement stmt others) others left (element_number p array i) (Index i) v place s2 (leads_through stmt others (λ o. o) (λ path. (refl, refl)))))
    statement_leads (SetGrid point array row column value place) others s =
        let stmt = SetGrid point array row column value place in
        let left = left_after (Some stmt) others in
        do_leads (statement stmt others) others left (value_of below p row s) _ (λ i s1. do_leads (statement stmt others) others left (value_of below p column s1) _
        (λ j s2. do_leads (statement stmt others) others left (value_of below p value s2) _
        (λ v s3. written_leads (statement stmt others) others left (grid_element_number p array i j) (GridIndex i j) v place s3 (leads_through stmt others (λ o. o) (λ path. (refl, refl))))))
    statement_leads (If point arms) others s =
        arms_leads point arms others 0 arms (λ n. let e : 0 + n ≡ n = omega arith in ap (λ (k : ℕ). branch_of k arms) e) (λ taken is. is) s
    statement_leads (While point condition body place) others s =
        let loop = While point condition body place in
        let from = statement loop others in
        let left = left_after (Some loop) others in
        do_leads from others left (value_of below p condition s) _
        (λ v s1. turned_leads from others left (is_true v) place (done_all below p 0 0 body) (below loop) s1
        (leads_silently from others (λ path. (inl refl, refl)))
        (λ s2. after_steps from (followed_by body from) from left (done_all below p 0 0 body s2)
        (leads_silently from (followed_by body from) (λ path. (inr refl, refl)))
        (all_leads 0 body from left
        (λ after inner. followed_assoc (left_in body (record { block = 0; after = after } ∷ inner)) (statement loop no_more) others) 0 body refl s2))
        (λ s2. leads point condition body place others s2))
    statement_leads (Return point None) others s = leads_silently (statement (Return point None) others) no_more (λ path. (refl, refl))
    statement_leads (Return point (Some value)) others s =
        do_leads _ others _ (value_of below p value s) _ (λ v s1. leads_silently (statement (Return point (Some value)) others) no_more (λ path. (refl, refl)))
    statement_leads (Print point value place) others s =
        let stmt = Print point value place in
        let left = left_after (Some stmt) others in
        do_leads (statement stmt others) others left (value_of below p value s) _ (λ v s1. do_leads (statement stmt others) others left (unit_taken place s1) _
        (λ unit s2. leads_through stmt others (λ o. o) (λ path. (refl, refl))))
    statement_leads (Call point method args place) others s =
        let stmt = Call point method args place in
        let left = left_after (Some stmt) others in
        do_leads (statement stmt others) others left (values_of below p args s) _ (λ vs s1. do_leads (statement stmt others) others left (called below p method vs place s1) _
        (λ v s2. leads_through stmt others (λ o. o) (λ path. (refl, refl))))
    statement_leads (Make point future task given spawned future_place place) others s =
        let from = statement (Make point future task given spawned future_place place) others in
        let left = left_after (Some (Make point future task given spawned future_place place)) others in
        do_given (AllMayHave given) from others left (values_of below p given s) _ (values_may p below given s)
        (λ values s1 may. do_leads from others left (unit_taken place s1) _ (λ unit s2. (point, given, future_place, may, leads_nowhere from)))
    statement_leads (Wait point future join into place) others s =
        let from = statement (Wait point future join into place) others in
        do_leads from others (left_after (Some (Wait point future join into place)) others) (unit_taken place s) _ (λ unit s1. (point, place, leads_nowhere from))

    pub all_leads : (block : ℕ) (whole others : Statements) (left : List Position → Statements) → LeftIn block whole others left
        → (at : ℕ) (stmts : Statements) → after_first at whole ≡ stmts → (s : Store) → FlowLeads (followed_by stmts others) others left (done_all below p block at stmts s)
    all_leads block whole others left is at no_more e s = leads_nowhere others
    all_leads block whole others left is at (statement first more) e s =
        let next = followed_by more others in
        go_leads (statement first next) next others left (stopped_at block (at + 1) (done_by below p first s)) _
        (stopped_leads (statement first next) next (left_after (Some first) next) left block (at + 1) (done_by below p first s)
        (λ positions. is (at + 1) positions ∙ inside_is at whole first more others e block positions)
        (statement_leads first next s))
        (λ s1. all_leads block whole others left is (at + 1) more (ap (λ (n : ℕ). after_first n whole) (add-one at) ∙ rest_at at whole first more e) s1)

    arms_leads : (point : ℕ) (whole : Arms) (others : Statements) (block : ℕ) (arms : Arms)
        → ((n : ℕ) → branch_of (block + n) whole ≡ branch_of n arms) → ((taken : Statements) → IsBranch arms taken → IsBranch whole taken)
        → (s : Store) → FlowLeads (statement (If point whole) others) others (left_after (Some (If point whole)) others) (done_arms below p block arms s)
    arms_leads point whole others block (arm condition body more) is among s =
        let from = statement (If point whole) others in
        let left = left_after (Some (If point whole)) others in
        do_leads from others left (value_of below p condition s) _
        (λ v s1. chosen_leads from others left (is_true v) (done_all below p block 0 body s1) (done_arms below p (block + 1) more s1)
        (branch_leads point whole others block body (among body (inl refl)) (is 0) (done_all below p block 0 body s1) (λ l li. all_leads block body others l li 0 body refl s1))
        (arms_leads point whole others (block + 1) more
        (λ n. let e : block + 1 + n ≡ block + suc n = omega arith in ap (λ (k : ℕ). branch_of k whole) e ∙ is (suc n)) (λ taken h. among taken (inr h)) s1))
    arms_leads point whole others block (otherwise body) is among s =
        branch_leads point whole others block body (among body refl) (is 0) (done_all below p block 0 body s) (λ l li. all_leads block body others l li 0 body refl s)
    arms_leads point whole others block no_else is among s =
        leads_silently (statement (If point whole) others) others (λ path. (no_more, among no_more refl, refl, refl))
