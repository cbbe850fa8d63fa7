-- The steps on locks in the form in which the calls of the table ask for them: what a step tells is said by its word.
use Rattle.std.proofs.Common.{◌≡◌, ◌≢◌, ℕ, Bool, List, [], ◌∷◌, Option, None, Some, sym, ap, subst, ◌∙◌, ⊎_elim, arith, if◌then◌else◌, eq-eqb, ne_eqb}
use Rattle.std.specs.Prelude.{◌==◌, slice_index}
use mathlib.Core.Option as core
use prog.Atomic.{either}
use Rattle.atomic_table.specs.Table.{Allows, State, step}
use Rattle.region_paths.specs.declared.elements.Elem.{Elem}
use Rattle.twe_base.specs.Limits.{Bounds}
use Rattle.twe_program.specs.Program.{Program}
use Rattle.floor_laws.specs.rule.nodes.Trees.{Unlocked}
use Rattle.floor_laws.proofs.rule.Puts.{some_one}
use Rattle.floor_laws.specs.admission.admission_core.States.{Activity, Descends, Leaves, Stage, Steps, Walks, held}
use Rattle.floor_laws.specs.admission.admission_core.Events.{HasCome}
use Rattle.floor_laws.specs.declared.table.nodes.slot.TreeSlot.{TreeSlot}
use Rattle.floor_laws.specs.declared.table.nodes.view.TreeView.{TreeView}
use Rattle.floor_laws.specs.table.nodes.Holds.{TreeKeeps}
use Rattle.floor_laws.specs.table.nodes.Layout.{left_lock, lock_of_word, lock_place, taken_lock, tree_slot_count}
use Rattle.floor_laws.specs.table.nodes.Plays.{SeatGoesOn, SeatStopsAt, TriesNode}
use Rattle.floor_laws.specs.table.nodes.Seats.{GaveNode, HasContent, MayGoOn, MayLock, MayStop, TreeSeat, TriedNode, enters, errand_of, gives_parent, goes_down, left_to_give, walks_down, walks_up}
use Rattle.floor_laws.proofs.table.nodes.Locks.{lock_allowed}
use Rattle.floor_laws.proofs.table.nodes.Unlocks.{go_on_allowed, stop_allowed}

-- a step may tell less, or the same in other words
pub told : (holds : State TreeSlot TreeView → Type 0) (slots id : ℕ) (me : TreeSeat) (i : ℕ) (f : ℕ → ℕ) (tells other : ℕ → TreeSeat → Type 0)
    → ((n : ℕ) (after : TreeSeat) → tells n after → other n after) → Allows holds slots id me i f tells → Allows holds slots id me i f other
told holds slots id me i f tells other more allowed s kept count at small =
    let result = allowed s kept count at small in
    (result.0, result.1, result.2, result.3, more (slice_index s.words i) _ result.4)

pub one_rest : (x y : ℕ × TreeSlot) (xs ys : List (ℕ × TreeSlot)) → x ∷ xs ≡ y ∷ ys → xs ≡ ys
one_rest x y xs ys same = ap tail_of same
  where
    tail_of : List (ℕ × TreeSlot) → List (ℕ × TreeSlot)
    tail_of [] = []
    tail_of (z ∷ zs) = zs

-- What a seat does next is determined by what it does, by what it announces and by the node.

abbrev next_down : Activity → Stage → ℕ → Option Activity
next_down a (Descends n) c = Some (record a { stage = Steps n c })
next_down a (Steps n m) c = None
next_down a (Walks stack done) c = Some (record a { stage = Walks (c ∷ stack) done })
next_down a (Leaves nodes) c = None

abbrev next_lock : Option Activity → Option Activity → ℕ → Option Activity
next_lock None errand c = errand
next_lock (Some a) errand c = next_down a a.stage c

lock_next : (nodes : List (List Elem)) (v : TreeView) (said : core.Option TreeSlot) (c : ℕ) (next : Activity) → MayLock nodes v said c next
    → next_lock v.activity (errand_of v said) c ≡ Some next
lock_next nodes v said c next (enters root known may) = ap (λ (o : Option Activity). next_lock o (errand_of v said) c) may.idle ∙ known
lock_next nodes v said c next (goes_down a n may goes) =
    ap (λ (o : Option Activity). next_lock o (errand_of v said) c) may.active ∙ (ap (λ (stage : Stage). next_down a stage c) may.stage ∙ ap Some (sym goes))
lock_next nodes v said c next (walks_down a t e n stack done may goes) =
    ap (λ (o : Option Activity). next_lock o (errand_of v said) c) may.active ∙ (ap (λ (stage : Stage). next_down a stage c) may.stage ∙ ap Some (sym goes))

abbrev come_to : ℕ → ℕ → Stage
come_to place n = if n == place then Walks (n ∷ []) [] else Descends n

come_is : (place n : ℕ) (stage : Stage) → HasCome place n stage → come_to place n ≡ stage
come_is place n stage =
    ⊎_elim
    (λ (above : (n ≢ place) × (stage ≡ Descends n)). ap (λ (b : Bool). if b then Walks (n ∷ []) [] else Descends n) (ne_eqb n place above.0) ∙ sym above.1)
    (λ (there : (n ≡ place) × (stage ≡ Walks (n ∷ []) [])). ap (λ (b : Bool). if b then Walks (n ∷ []) [] else Descends n) (eq-eqb n place there.0) ∙ sym there.1)

abbrev next_up : Activity → Stage → ℕ → Option Activity
next_up a (Descends m) n = None
next_up a (Steps m c) n = Some (record a { stage = come_to a.place c })
next_up a (Walks [] done) n = None
next_up a (Walks (m ∷ stack) done) n = Some (record a { stage = Walks stack (n ∷ done) })
next_up a (Leaves nodes) n = None

abbrev next_on : Option Activity → ℕ → Option Activity
next_on None n = None
next_on (Some a) n = next_up a a.stage n

on_next : (nodes : List (List Elem)) (v : TreeView) (n : ℕ) (next : Activity) → MayGoOn nodes v n next → next_on v.activity n ≡ Some next
on_next nodes v n next (gives_parent a c stage may goes) =
    ap (λ (o : Option Activity). next_on o n) may.active
    ∙ (ap (λ (st : Stage). next_up a st n) may.at ∙ (ap (λ (st : Stage). Some (record a { stage = st })) (come_is a.place c stage may.come) ∙ ap Some (sym goes)))
on_next nodes v n next (walks_up a m stack done may goes) =
    ap (λ (o : Option Activity). next_on o n) may.active ∙ (ap (λ (st : Stage). next_up a st n) may.stage ∙ ap Some (sym goes))

abbrev later : List ℕ → List ℕ
later [] = []
later (n ∷ others) = others

abbrev next_stop : Option Activity → Option Activity
next_stop None = None
next_stop (Some a) = left_to_give a (later (held a.stage))

stop_next : (v : TreeView) (n : ℕ) (next : Option Activity) → MayStop v n next → next_stop v.activity ≡ next
stop_next v n next may = ap next_stop may.active ∙ (ap (λ (l : List ℕ). left_to_give may.activity (later l)) may.holds ∙ sym may.goes)

-- The calls.

pub try_lock : (nodes : List (List Elem)) (p : Program) (lim : Bounds) (id n : ℕ) (v : TreeView) (mine : List (ℕ × TreeSlot)) (said : core.Option TreeSlot) (next : Activity) (free : ℕ) → lock_of_word free ≡ Unlocked
    → MayLock nodes v said n next
    → Allows (TreeKeeps nodes p lim) (tree_slot_count nodes lim) id (v, mine) (lock_place p lim n) (λ x. either (x == free) (taken_lock v.floor.worker) x)
    (TriesNode nodes p lim (step (tree_slot_count nodes lim) (lock_place p lim n) free (taken_lock v.floor.worker) said) (v, mine))
try_lock nodes p lim id n v mine said next free is_free may =
    told (TreeKeeps nodes p lim) (tree_slot_count nodes lim) id (v, mine) (lock_place p lim n) (λ x. either (x == free) (taken_lock v.floor.worker) x) (TriedNode lim (v, mine) n next free)
    (TriesNode nodes p lim (step (tree_slot_count nodes lim) (lock_place p lim n) free (taken_lock v.floor.worker) said) (v, mine))
    (λ found after tried m other place may_too.
    let same : n ≡ m = omega (arith, place) in
    let may_n : MayLock nodes v said n other = subst (λ (k : ℕ). MayLock nodes v said k other) (sym same) may_too in
    let one : next ≡ other = some_one (sym (lock_next nodes v said n next may) ∙ lock_next nodes v said n other may_n) in
    subst (λ (k : ℕ). TriedNode lim (v, mine) k other free found after) same (subst (λ (a : Activity). TriedNode lim (v, mine) n a free found after) one tried))
    (lock_allowed nodes p lim (tree_slot_count nodes lim) id n v mine said next free is_free may)

-- what was given is determined too
same_given : (lim : Bounds) (me : TreeSeat) (n m : ℕ) (next other : Option Activity) (rest left : List (ℕ × TreeSlot)) (after : TreeSeat) → n ≡ m → next ≡ other → HasContent lim me n rest → HasContent lim me m left
    → GaveNode me n next rest after → GaveNode me m other left after
same_given lim me n m next other rest left after same one has has_too gave =
    let rests : rest ≡ left = one_rest _ _ rest left (sym has.slot ∙ has_too.slot) in
    subst (λ (k : ℕ). GaveNode me k other left after) same
    (subst (λ (o : Option Activity). GaveNode me n o left after) one (subst (λ (r : List (ℕ × TreeSlot)). GaveNode me n next r after) rests gave))

pub go_on : (nodes : List (List Elem)) (p : Program) (lim : Bounds) (id n : ℕ) (v : TreeView) (mine rest : List (ℕ × TreeSlot)) (next : Activity) → MayGoOn nodes v n next → (has : HasContent lim (v, mine) n rest)
    → Allows (TreeKeeps nodes p lim) (tree_slot_count nodes lim) id (v, mine) (lock_place p lim n) (λ x. left_lock has.content)
    (λ x. SeatGoesOn nodes p lim (step (tree_slot_count nodes lim) (lock_place p lim n) (left_lock has.content) 0 core.none) (v, mine) (left_lock has.content))
go_on nodes p lim id n v mine rest next may has =
    told (TreeKeeps nodes p lim) (tree_slot_count nodes lim) id (v, mine) (lock_place p lim n) (λ x. left_lock has.content) (λ x. GaveNode (v, mine) n (Some next) rest)
    (λ x. SeatGoesOn nodes p lim (step (tree_slot_count nodes lim) (lock_place p lim n) (left_lock has.content) 0 core.none) (v, mine) (left_lock has.content))
    (λ found after gave m other left place may_too has_too.
    let same : n ≡ m = omega (arith, place) in
    let may_n : MayGoOn nodes v n other = subst (λ (k : ℕ). MayGoOn nodes v k other) (sym same) may_too in
    let one : next ≡ other = some_one (sym (on_next nodes v n next may) ∙ on_next nodes v n other may_n) in
    same_given lim (v, mine) n m (Some next) (Some other) rest left after same (ap Some one) has has_too gave)
    (go_on_allowed nodes p lim (tree_slot_count nodes lim) id n v mine rest next may has)

pub stop_at : (nodes : List (List Elem)) (p : Program) (lim : Bounds) (id n : ℕ) (v : TreeView) (mine rest : List (ℕ × TreeSlot)) (next : Option Activity) → MayStop v n next → (has : HasContent lim (v, mine) n rest)
    → Allows (TreeKeeps nodes p lim) (tree_slot_count nodes lim) id (v, mine) (lock_place p lim n) (λ x. left_lock has.content)
    (λ x. SeatStopsAt p lim (step (tree_slot_count nodes lim) (lock_place p lim n) (left_lock has.content) 0 core.none) (v, mine) (left_lock has.content))
stop_at nodes p lim id n v mine rest next may has =
    told (TreeKeeps nodes p lim) (tree_slot_count nodes lim) id (v, mine) (lock_place p lim n) (λ x. left_lock has.content) (λ x. GaveNode (v, mine) n next rest)
    (λ x. SeatStopsAt p lim (step (tree_slot_count nodes lim) (lock_place p lim n) (left_lock has.content) 0 core.none) (v, mine) (left_lock has.content))
    (λ found after gave m other left place may_too has_too.
    let same : n ≡ m = omega (arith, place) in
    same_given lim (v, mine) n m next other rest left after same (sym (stop_next v n next may) ∙ stop_next v m other may_too) has has_too gave)
    (stop_allowed nodes p lim (tree_slot_count nodes lim) id n v mine rest next may has)
