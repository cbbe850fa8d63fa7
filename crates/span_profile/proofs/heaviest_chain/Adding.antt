-- A node more: what the chains hold of the nodes before it, they hold of all.
use Rattle.std.proofs.Common.{◌≡◌, ◌<◌, ◌≤◌, ◌+◌, ◌⊎◌, inl, inr, ℕ, zero, suc, Bool, true, false, List, [], ◌∷◌, ◌++◌, length, Option, None, Some, fold, refl, sym, ap, ◌∙◌, subst, arith, length-append}
use Rattle.std.specs.Prelude.{slice_get}
use Rattle.std.specs.List.{Contains, list_any}
use Rattle.std.proofs.lemmas.Bool.{eqb-true, eq-eqb, or_cases, or_left, or_right, both_ways}
use Rattle.std.proofs.lemmas.List.Sums.{sum_by_push}
use Rattle.std.proofs.lemmas.Option.{slice_get_within}
use Rattle.span_profile.specs.declared.heaviest_chain.key.Key.{Key}
use Rattle.span_profile.specs.declared.heaviest_chain.key.Key.TheVariants.{Task, Value, Write, Access}
use Rattle.span_profile.specs.declared.heaviest_chain.top.Best.{Best}
use Rattle.span_profile.specs.declared.heaviest_chain.top.Top.{Top}
use Rattle.span_profile.specs.heaviest_chain.BestChains.{BestChains, Giver, giver_of, key_eq}
use Rattle.span_profile.specs.heaviest_chain.Built.{GivesKey, FrontHolds, IsBest}
use Rattle.span_profile.specs.heaviest_chain.Chains.{Leads}
use Rattle.span_profile.specs.heaviest_chain.Nodes.{Node, SharesKey, weight_of}
use Rattle.span_profile.specs.heaviest_chain.inner.Fronts.{front_after}
use Rattle.span_profile.specs.heaviest_chain.inner.Tops.{IsTop, best_after, higher, weight_before, weight_of_best}
use Rattle.span_profile.proofs.heaviest_chain.Tops.{best_last, get_below, get_last, top_both, top_more, top_one, top_same}
use Rattle.span_profile.proofs.heaviest_chain.Back.{found_below}

-- equal keys
key_same : (a b : Key) → key_eq a b ≡ true → a ≡ b
key_same (Task a) (Task b) e = ap Task (eqb-true a b e)
key_same (Value a) (Value b) e = ap Value (eqb-true a b e)
key_same (Write a) (Write b) e = ap Write (eqb-true a b e)
key_same (Access a) (Access b) e = ap Access (eqb-true a b e)
key_same (Task a) (Value b) e = absurd (cc)
key_same (Task a) (Write b) e = absurd (cc)
key_same (Task a) (Access b) e = absurd (cc)
key_same (Value a) (Task b) e = absurd (cc)
key_same (Value a) (Write b) e = absurd (cc)
key_same (Value a) (Access b) e = absurd (cc)
key_same (Write a) (Task b) e = absurd (cc)
key_same (Write a) (Value b) e = absurd (cc)
key_same (Write a) (Access b) e = absurd (cc)
key_same (Access a) (Task b) e = absurd (cc)
key_same (Access a) (Value b) e = absurd (cc)
key_same (Access a) (Write b) e = absurd (cc)

key_itself : (a : Key) → key_eq a a ≡ true
key_itself (Task a) = eq-eqb a a refl
key_itself (Value a) = eq-eqb a a refl
key_itself (Write a) = eq-eqb a a refl
key_itself (Access a) = eq-eqb a a refl

-- the elements of a list with one more at the front
contains_first : {X : Type 0} (x : X) (xs : List X) → Contains (x ∷ xs) x
contains_first x xs = (0, omega arith, refl)

contains_later : {X : Type 0} (x y : X) (xs : List X) → Contains xs y → Contains (x ∷ xs) y
contains_later x y xs has = (suc has.0, omega (arith, has.1), has.2)

contains_cases : {X : Type 0} (x y : X) (xs : List X) → Contains (x ∷ xs) y → (x ≡ y) ⊎ Contains xs y
contains_cases x y xs (zero, below, is) = inl is
contains_cases x y xs (suc n, below, is) = inr (n, omega (arith, below), is)

pub any_contains : (key : Key) (keys : List Key) → list_any (key_eq key) keys ≡ true → Contains keys key
any_contains key [] e = absurd (cc)
any_contains key (first ∷ others) e = elim (or_cases (key_eq key first) (list_any (key_eq key) others) e) [
  | inl this ↦ subst (Contains (first ∷ others)) (sym (key_same key first this)) (contains_first first others)
  | inr later ↦ contains_later first key others (any_contains key others later)
]

pub contains_any : (key : Key) (keys : List Key) → Contains keys key → list_any (key_eq key) keys ≡ true
contains_any key [] has = absurd (omega (arith, has.1))
contains_any key (first ∷ others) has = elim (contains_cases first key others has) [
  | inl same ↦ or_left (key_eq key first) (list_any (key_eq key) others) (subst (λ (k : Key). key_eq key k ≡ true) (sym same) (key_itself key))
  | inr later ↦ or_right (key_eq key first) (list_any (key_eq key) others) (contains_any key others later)
]

-- an element of a list with one more at the end
get_push_cases : {X : Type 0} (xs : List X) (x y : X) (n : ℕ) → slice_get (xs ++ x ∷ []) n ≡ Some y → ((slice_get xs n ≡ Some y) × (n < length xs)) ⊎ ((n ≡ length xs) × (x ≡ y))
get_push_cases [] x y zero e = inr (refl, cc)
get_push_cases [] x y (suc n) e = absurd (cc)
get_push_cases (z ∷ zs) x y zero e = inl (e, omega arith)
get_push_cases (z ∷ zs) x y (suc n) e = elim (get_push_cases zs x y n e) [
  | inl old ↦ inl (old.0, omega (arith, old.1))
  | inr new ↦ inr (omega (arith, new.0), new.1)
]

-- the highest of the nodes that gave one of some keys
module _ (nodes : List Node) (bests : List Best) (givers : List Giver) (each : (key : Key) → IsTop bests (GivesKey nodes key) (giver_of givers key)) where
  -- the node gives one of the keys
  abbrev pub GivesSome : List Key → ℕ → Type 0
  GivesSome keys number = (key : Key) × Contains keys key × GivesKey nodes key number

  from_start : (P : ℕ → Type 0) (start : Option Top) (keys : List Key) → IsTop bests P start
      → IsTop bests (λ number. P number ⊎ GivesSome keys number) (fold (λ (top : Option Top) (key : Key). higher top (giver_of givers key)) start keys)
  from_start P start [] is =
      top_same bests P (λ number. P number ⊎ GivesSome [] number) (λ number p. inl p) (λ number has. elim has [ inl p ↦ p | inr some ↦ absurd (omega (arith, some.1.1)) ]) start is
  from_start P start (key ∷ keys) is =
      let first = top_both bests P (GivesKey nodes key) start (giver_of givers key) is (each key) in
      let rest = from_start (λ number. P number ⊎ GivesKey nodes key number) (higher start (giver_of givers key)) keys first in
      top_same bests (λ number. (P number ⊎ GivesKey nodes key number) ⊎ GivesSome keys number) (λ number. P number ⊎ GivesSome (key ∷ keys) number) (λ number has. elim has [
        | inl before ↦ elim before [ inl p ↦ inl p | inr gives ↦ inr (key, contains_first key keys, gives) ]
        | inr some ↦ inr (some.0, contains_later key some.0 keys some.1, some.2)
      ])
      (λ number has. elim has [
        | inl p ↦ inl (inl p)
        | inr some ↦ elim (contains_cases key some.0 keys some.1) [
          | inl same ↦ inl (inr (subst (λ (k : Key). GivesKey nodes k number) (sym same) some.2))
          | inr later ↦ inr (some.0, later, some.2)
        ]
      ])
      (fold (λ (top : Option Top) (k : Key). higher top (giver_of givers k)) (higher start (giver_of givers key)) keys) rest

  pub asked_top : (keys : List Key) → IsTop bests (GivesSome keys) (fold (λ (top : Option Top) (key : Key). higher top (giver_of givers key)) None keys)
  asked_top keys =
      top_same bests (λ number. ⊥ ⊎ GivesSome keys number) (GivesSome keys) (λ number has. elim has [ inl never ↦ absurd never | inr some ↦ some ]) (λ number some. inr some)
      (fold (λ (top : Option Top) (key : Key). higher top (giver_of givers key)) None keys) (from_start (λ number. ⊥) None keys (λ number never. never))

module _ (nodes : List Node) (node : Node) where
  -- what leads to an earlier node is as before
  leads_more : (i j : ℕ) → Leads SharesKey nodes i j → Leads SharesKey (nodes ++ node ∷ []) i j
  leads_more i j l = record {
    before = l.before;
    first = l.first;
    second = l.second;
    at_first = get_below nodes node i (slice_get_within nodes i l.first l.at_first) ∙ l.at_first;
    at_second = get_below nodes node j (slice_get_within nodes j l.second l.at_second) ∙ l.at_second;
    leads = l.leads;
  }

  leads_less : (i j : ℕ) → j < length nodes → Leads SharesKey (nodes ++ node ∷ []) i j → Leads SharesKey nodes i j
  leads_less i j below l = record {
    before = l.before;
    first = l.first;
    second = l.second;
    at_first = sym (get_below nodes node i (let b = l.before in omega (arith, b, below))) ∙ l.at_first;
    at_second = sym (get_below nodes node j below) ∙ l.at_second;
    leads = l.leads;
  }

  -- and what leads to the new one gave a key that it asks for
  leads_new : (i : ℕ) → ((key : Key) × Contains node.asks key × GivesKey nodes key i) → Leads SharesKey (nodes ++ node ∷ []) i (length nodes)
  leads_new i some =
      let gives = some.2 in
      let below = slice_get_within nodes i gives.0 gives.1 in
      record {
        before = below;
        first = gives.0;
        second = node;
        at_first = get_below nodes node i below ∙ gives.1;
        at_second = get_last nodes node;
        leads = (some.0, gives.2, some.1);
      }

  new_leads : (i : ℕ) → Leads SharesKey (nodes ++ node ∷ []) i (length nodes) → (key : Key) × Contains node.asks key × GivesKey nodes key i
  new_leads i l =
      let below : i < length nodes = l.before in
      let last : Some l.second ≡ Some node = sym l.at_second ∙ get_last nodes node in
      let same : l.second ≡ node = cc in
      let shares = l.leads in
      (shares.0, subst (λ (n : Node). Contains n.asks shares.0) same shares.2, (l.first, sym (get_below nodes node i below) ∙ l.at_first, shares.1))

  -- what gave a key: the nodes before, and the new one if it gives it
  gives_more : (key : Key) (i : ℕ) → GivesKey nodes key i → GivesKey (nodes ++ node ∷ []) key i
  gives_more key i gives = (gives.0, get_below nodes node i (slice_get_within nodes i gives.0 gives.1) ∙ gives.1, gives.2)

  gives_cases : (key : Key) (i : ℕ) → GivesKey (nodes ++ node ∷ []) key i → GivesKey nodes key i ⊎ ((i ≡ length nodes) × Contains node.gives key)
  gives_cases key i gives = elim (get_push_cases nodes node gives.0 i gives.1) [
    | inl old ↦ inl (gives.0, old.0, gives.2)
    | inr new ↦ inr (new.0, subst (λ (n : Node). Contains n.gives key) (sym new.1) gives.2)
  ]

-- what is known of the chains after the node was added
pub record IsAdded (nodes : List Node) (node : Node) (before after : BestChains) (top : Option Top) : Type 0 where
  pub some : 0 < node.weight
  pub top_is : top ≡ fold (λ (t : Option Top) (key : Key). higher t (giver_of before.givers key)) None node.asks
  pub work : after.work ≡ before.work + node.weight
  pub bests : after.bests ≡ before.bests ++ best_after top node.weight ∷ []
  pub givers : (key : Key) → giver_of after.givers key
      ≡ front_after (list_any (key_eq key) node.gives) (giver_of before.givers key) (record { weight = (best_after top node.weight).weight; node = length before.bests })

-- no chain to a node that gives one of some keys is heavier than all nodes together
module _ (nodes : List Node) (before : BestChains) (h : FrontHolds nodes before) (asks : List Key) where
  abbrev pub IsAsked : ℕ → Type 0
  IsAsked = GivesSome nodes before.bests before.givers h.givers asks

  pub some_below : (number : ℕ) → IsAsked number → number < length before.bests
  some_below number some = let at = slice_get_within nodes number some.2.0 some.2.1 in omega (arith, at, h.count)

  pub weight_within : (t : Option Top) → IsTop before.bests IsAsked t → weight_before t ≤ before.work
  weight_within None is = omega arith
  weight_within (Some t) is =
      let got = found_below before.bests t.node (some_below t.node is.has) in
      let most = h.within t.node got.0 got.1 in
      let weighs : got.0.weight ≡ t.weight = sym (ap weight_of_best got.1) ∙ is.weight_is in
      omega (arith, most, weighs)

  pub asked_within : (top : Option Top) → top ≡ fold (λ (t : Option Top) (key : Key). higher t (giver_of before.givers key)) None asks → weight_before top ≤ before.work
  asked_within top is = weight_within top (subst (IsTop before.bests IsAsked) (sym is) (asked_top nodes before.bests before.givers h.givers asks))

module _ (nodes : List Node) (node : Node) (before after : BestChains) (h : FrontHolds nodes before) (top : Option Top) (a : IsAdded nodes node before after top) where
  abbrev best : Best
  best = best_after top node.weight

  abbrev now : List Best
  now = before.bests ++ best ∷ []

  abbrev all : List Node
  all = nodes ++ node ∷ []

  abbrev this : Top
  this = record { weight = best.weight; node = length before.bests }

  asked : IsTop before.bests (IsAsked nodes before h node.asks) top
  asked = subst (IsTop before.bests (IsAsked nodes before h node.asks)) (sym a.top_is) (asked_top nodes before.bests before.givers h.givers node.asks)

  weight_after : (t : Option Top) (weight : ℕ) → (best_after t weight).weight ≡ weight_before t + weight
  weight_after None weight = omega arith
  weight_after (Some t) weight = refl

  -- the best of the nodes before
  old_best : (number : ℕ) (b : Best) → number < length before.bests → IsBest nodes before.bests number b → IsBest all now number b
  old_best number b below is =
      let here : number < length nodes = omega (arith, below, h.count) in
      let below_here : (i : ℕ) → Leads SharesKey nodes i number → i < length before.bests = λ i l. (let at = slice_get_within nodes i l.first l.at_first in omega (arith, at, h.count)) in
      record {
        node = is.node;
        there = get_below nodes node number here ∙ is.there;
        some = is.some;
        top = is.top;
        is_top =
            top_same now (λ i. Leads SharesKey nodes i number) (λ i. Leads SharesKey all i number) (λ i l. leads_more nodes node i number l) (λ i l. leads_less nodes node i number here l) is.top
            (top_more before.bests best (λ i. Leads SharesKey nodes i number) below_here is.top is.is_top);
        best_is = is.best_is;
      }

  -- and of the new one
  new_best : IsBest all now (length before.bests) best
  new_best = record {
    node = node;
    there = ap (slice_get all) h.count ∙ get_last nodes node;
    some = a.some;
    top = top;
    is_top = subst (λ (n : ℕ). IsTop now (λ i. Leads SharesKey all i n) top) (sym h.count)
        (top_same now (IsAsked nodes before h node.asks) (λ i. Leads SharesKey all i (length nodes)) (λ i some. leads_new nodes node i some) (λ i l. new_leads nodes node i l) top (top_more before.bests best (IsAsked nodes before h node.asks) (some_below nodes before h node.asks) top asked));
    best_is = refl;
  }

  each_best : (number : ℕ) (b : Best) → slice_get now number ≡ Some b → IsBest all now number b
  each_best number b found = elim (get_push_cases before.bests best b number found) [
    | inl old ↦ old_best number b old.1 (h.bests number b old.0)
    | inr new ↦ subst (λ (n : ℕ). IsBest all now n b) (sym new.0) (subst (IsBest all now (length before.bests)) new.1 new_best)
  ]

  all_within : (number : ℕ) (b : Best) → slice_get now number ≡ Some b → b.weight ≤ after.work
  all_within number b found = elim (get_push_cases before.bests best b number found) [
    | inl old ↦ (let most = h.within number b old.0 in omega (arith, most, a.work))
    | inr new ↦ (let w = ap (λ (x : Best). x.weight) new.1 in omega (arith, w, weight_after top node.weight, weight_within nodes before h node.asks top asked, a.work))
  ]

  gives_below : (key : Key) (number : ℕ) → GivesKey nodes key number → number < length before.bests
  gives_below key number gives = let at = slice_get_within nodes number gives.0 gives.1 in omega (arith, at, h.count)

  each_front : (key : Key) (given : Bool) → list_any (key_eq key) node.gives ≡ given → IsTop now (GivesKey all key) (front_after given (giver_of before.givers key) this)
  each_front key true e =
      top_same now (λ i. GivesKey nodes key i ⊎ (i ≡ length before.bests)) (GivesKey all key)
      (λ i has. elim has [
        | inl old ↦ gives_more nodes node key i old
        | inr new ↦ (node, ap (slice_get all) (new ∙ h.count) ∙ get_last nodes node, any_contains key node.gives e)
      ])
      (λ i gives. elim (gives_cases nodes node key i gives) [ inl old ↦ inl old | inr new ↦ inr (new.0 ∙ sym h.count) ])
      (higher (giver_of before.givers key) (Some this))
      (top_both now (GivesKey nodes key) (λ i. i ≡ length before.bests) (giver_of before.givers key) (Some this) (top_more before.bests best (GivesKey nodes key) (gives_below key) (giver_of before.givers key) (h.givers key)) (top_one now this (best_last before.bests best)))
  each_front key false e =
      top_same now (GivesKey nodes key) (GivesKey all key) (λ i old. gives_more nodes node key i old)
      (λ i gives. elim (gives_cases nodes node key i gives) [ inl old ↦ old | inr new ↦ absurd (both_ways (list_any (key_eq key) node.gives) e (contains_any key node.gives new.1)) ])
      (giver_of before.givers key) (top_more before.bests best (GivesKey nodes key) (gives_below key) (giver_of before.givers key) (h.givers key))

  pub added : FrontHolds (nodes ++ node ∷ []) after
  added = record {
    work = let sum = sum_by_push weight_of nodes node in omega (arith, sum, a.work, h.work);
    count = ap (λ (l : List Best). length l) a.bests ∙ (length-append before.bests (best ∷ []) ∙ (ap (λ (n : ℕ). n + 1) h.count ∙ sym (length-append nodes (node ∷ []))));
    bests = λ number b found. subst (λ (l : List Best). IsBest all l number b) (sym a.bests) (each_best number b (ap (λ (l : List Best). slice_get l number) (sym a.bests) ∙ found));
    within = λ number b found. all_within number b (ap (λ (l : List Best). slice_get l number) (sym a.bests) ∙ found);
    givers = λ key. subst (λ (l : List Best). IsTop l (GivesKey all key) (giver_of after.givers key)) (sym a.bests)
        (subst (IsTop now (GivesKey all key)) (sym (a.givers key)) (each_front key (list_any (key_eq key) node.gives) refl));
  }
