-- What was found is what is needed.
use Rattle.std.proofs.Common.{◌≡◌, ◌<◌, ◌≤◌, ℕ, zero, suc, ◌+◌, true, List, [], ◌∷◌, ◌++◌, length, take, get_or, None, Some, append_assoc, append-nil, inl, inr, refl, sym, ap, ◌∙◌, subst, arith}
use Rattle.std.specs.Prelude.{slice_get}
use Rattle.std.specs.List.{Contains}
use Rattle.std.proofs.lemmas.Option.{same_Some, slice_get_within, slice_get-get_or, get_or_from_slice_get}
use Rattle.std.proofs.lemmas.Bool.{cases_lt}
use Rattle.std.proofs.lemmas.List.{length-append, take_all}
use Rattle.std.proofs.lemmas.List.Elements.{Contains-append_left, Contains-push, Contains-push_cases}
use Rattle.region_paths.specs.declared.elements.Elem.{Elem}
use Rattle.region_paths.specs.Filled.{fill_elem}
use Rattle.twe_program.specs.declared.program.CellDecl.{CellDecl}
use Rattle.twe_program.specs.declared.program.Decl.{Decl}
use Rattle.twe_program.specs.Program.{Program}
use Rattle.effect_infer.specs.declared.needs.need.Need.{Need}
use Rattle.effect_infer.specs.declared.needs.need.BodyStep.TheVariants.{Call}
use Rattle.effect_infer.specs.needs.Steps.{steps_in_all}
use Rattle.effect_infer.specs.needs.Needs.{IsNeed, own, called, HasStep, Widens, effect_of, settled, settled_elem, filled_need}
use Rattle.effect_infer.proofs.needs.Within.{settled-keeps, fill-keeps}
use Rattle.effect_infer.proofs.needs.Inside.{covers-map, covers-trans}
use Rattle.effect_infer.proofs.needs.Relation.{arguments-indexes}
use Rattle.effect_infer.specs.declared.found.FoundNeed.{FoundNeed}
use Rattle.effect_infer.specs.declared.found.CallSite.{CallSite}
use Rattle.effect_infer.specs.Gathered.{in_all, starts_in, calls_in, handed}
use Rattle.effect_infer.specs.Rows.{row, ListsCalls}
use Rattle.effect_infer.specs.Kept.{method_rank}
use Rattle.effect_infer.specs.Crowded.{is_constant_need, IsCrowded}
use Rattle.effect_infer.specs.Covered.{IsMet, SummaryGrows, IsHandedBy, MethodIsReached, start, further, ComesFrom, HandsOnBefore, HandsOnAll, Spreads, HasSpread, HasFoundAll}
use Rattle.effect_infer.proofs.Growth.{met-grown, none-taken, taken-cases}
use Rattle.effect_infer.proofs.Ranks.{rank-most}
use Rattle.effect_infer.proofs.Keeping.{cover-wider}
use Rattle.effect_infer.proofs.Constants.{same-need, wider-constant}
use Rattle.effect_infer.proofs.Gathering.{starts-are, start-is, calls-are, call-is}

-- what is reached when the needs up to this place were handed on
pub record SpreadsTo (methods : ℕ) (calls : List CallSite) (old : List FoundNeed) (at : ℕ) (new : List FoundNeed) : Type 0 where
  pub longer : (more : List FoundNeed) × (new ≡ old ++ more)
  pub only : ComesFrom old calls new
  pub within : at ≤ length new
  pub closed : HandsOnBefore methods calls at new

pub spread-start : (methods : ℕ) (calls : List CallSite) (old : List FoundNeed) (from : ℕ) → from ≤ length old → HandsOnBefore methods calls from old
    → SpreadsTo methods calls old from old
spread-start methods calls old from inside before = record {
  longer = ([], sym (append-nil old));
  only = λ need there. start need there;
  within = inside;
  closed = before;
}

-- an element at a number is the same in a longer list
get-longer : (xs more : List FoundNeed) (k : ℕ) (x : FoundNeed) → k < length xs → slice_get (xs ++ more) k ≡ Some x → slice_get xs k ≡ Some x
get-longer [] more k x below h = absurd (omega (arith, below))
get-longer (y ∷ xs) more zero x below h = h
get-longer (y ∷ xs) more (suc k) x below h = get-longer xs more k x (omega (arith, below)) h

-- past the end there is none
pub get-none : (xs : List FoundNeed) (k : ℕ) → slice_get xs k ≡ None → length xs ≤ k
get-none [] k e = omega arith
get-none (x ∷ xs) zero e = absurd (cc)
get-none (x ∷ xs) (suc k) e = let later = get-none xs k e in omega (arith, later)

-- an element of a list stands at a number
contains-at : {X : Type 0} (xs : List X) (x : X) → Contains xs x → (k : ℕ) × (slice_get xs k ≡ Some x)
contains-at xs x c = (c.0, slice_get-get_or xs c.0 x c.1 ∙ ap Some c.2)

at-contains : {X : Type 0} (xs : List X) (k : ℕ) (x : X) → slice_get xs k ≡ Some x → Contains xs x
at-contains xs k x e = (k, slice_get_within xs k x e, get_or_from_slice_get xs k x x e)

-- one need more was handed on
pub spread-more : (methods : ℕ) (calls : List CallSite) (callers : List (List ℕ)) (old mid new : List FoundNeed) (at : ℕ) (found : FoundNeed)
    → ListsCalls methods calls callers → SpreadsTo methods calls old at mid → slice_get mid at ≡ Some found
    → SummaryGrows mid new (IsHandedBy calls (row callers found.method) found.method found.need) → SpreadsTo methods calls old (at + 1) new
spread-more methods calls callers old mid new at found lists so_far here grows = record {
  longer = (
    so_far.longer.0 ++ grows.longer.0,
    grows.longer.1 ∙ ap (λ (xs : List FoundNeed). xs ++ grows.longer.0) so_far.longer.1 ∙ append_assoc old so_far.longer.0 grows.longer.0,
  );
  only = λ need there. elim (grows.only need there) [
    | inl before ↦ so_far.only need before
    | inr h ↦
        let call = h.1 in
        let from = so_far.only found (at-contains mid at found here) in
        subst (MethodIsReached old calls) (sym h.4.1) (further found call from (at-contains calls h.0 call h.3) h.4.0)
  ];
  within =
      let below = slice_get_within mid at found here in
      let long : length new ≡ length mid + length grows.longer.0 = ap length grows.longer.1 ∙ length-append mid grows.longer.0 in
      omega (arith, below, long);
  closed = λ k need call below is there same within. elim (cases_lt k at) [
    | inl before ↦
        let longer = subst (λ xs. slice_get xs k ≡ Some need) grows.longer.1 is in
        let short : k < length mid = let w = so_far.within in omega (arith, before, w) in
        met-grown mid new grows.longer.0 grows.longer.1 (handed call need.need)
        (so_far.closed k need call before (get-longer mid grows.longer.0 k need short longer) there same within)
    | inr later ↦
        let now : k ≡ at = omega (arith, below, later) in
        let longer = subst (λ xs. slice_get xs k ≡ Some need) grows.longer.1 is in
        let inside = slice_get_within mid at found here in
        let short : k < length mid = omega (arith, now, inside) in
        let was = get-longer mid grows.longer.0 k need short longer in
        let one : need ≡ found = same_Some need found (sym was ∙ ap (slice_get mid) now ∙ here) in
        let place = contains-at calls call there in
        let listed = lists.all place.0 call place.1 within in
        let method : call.callee ≡ found.method = same ∙ ap (λ (f : FoundNeed). f.method) one in
        grows.all (handed call need.need)
        (listed.0, call, subst (λ m. Contains (row callers m) listed.0) method listed.2, listed.1, (method, ap (λ (f : FoundNeed). handed call f.need) one))
  ];
}

pub spread-end : (methods : ℕ) (calls : List CallSite) (old new : List FoundNeed) (at : ℕ) → length new ≤ at → SpreadsTo methods calls old at new → Spreads methods calls old old new
spread-end methods calls old new at enough s = record {
  longer = s.longer;
  only = s.only;
  all = λ need call here there same within.
      let place = contains-at new need here in
      let below = slice_get_within new place.0 need place.1 in
      s.closed place.0 need call (omega (arith, below, enough)) place.1 there same within;
}

-- what is reached from needs that are reached themselves
reached-from : (starts mid : List FoundNeed) (calls : List CallSite) → ComesFrom starts calls mid → (f : FoundNeed) → MethodIsReached mid calls f → MethodIsReached starts calls f
reached-from starts mid calls from f (start need there) = from need there
reached-from starts mid calls from f (further need call before there same) = further need call (reached-from starts mid calls from need before) there same

-- all is handed on, and then so is what comes before the end of the list that has grown
pub before-grown : (methods : ℕ) (calls : List CallSite) (old new more : List FoundNeed) → new ≡ old ++ more → HandsOnAll methods calls old → HandsOnBefore methods calls (length old) new
before-grown methods calls old new more is all k need call below at there same within =
    let was = get-longer old more k need below (subst (λ (xs : List FoundNeed). slice_get xs k ≡ Some need) is at) in
    met-grown old new more is (handed call need.need) (all need call (at-contains old k need was) there same within)

-- one need was added to a list of which all is handed on, and was handed on then
module _ (methods : ℕ) (calls : List CallSite) (old mid new : List FoundNeed) (found : FoundNeed) (grows : SummaryGrows old mid (λ f. f ≡ found))
    (spreads : Spreads methods calls mid mid new) where
  mid-from : ComesFrom (old ++ found ∷ []) calls mid
  mid-from f there = elim (grows.only f there) [
    | inl before ↦ start f (Contains-append_left old (found ∷ []) f before)
    | inr e ↦ start f (subst (Contains (old ++ found ∷ [])) (sym e) (Contains-push old found))
  ]

  pub start-spreads : Spreads methods calls (old ++ found ∷ []) old new
  start-spreads = record {
    longer = (
      grows.longer.0 ++ spreads.longer.0,
      spreads.longer.1 ∙ ap (λ (xs : List FoundNeed). xs ++ spreads.longer.0) grows.longer.1 ∙ append_assoc old grows.longer.0 spreads.longer.0,
    );
    only = λ f there. reached-from (old ++ found ∷ []) mid calls mid-from f (spreads.only f there);
    all = spreads.all;
  }

  pub start-met : IsMet new found
  start-met = met-grown mid new spreads.longer.0 spreads.longer.1 found (grows.all found refl)

-- the needs at the start so far
pub record StartsTo (methods : ℕ) (calls : List CallSite) (starts : List FoundNeed) (least i : ℕ) (all : List FoundNeed) : Type 0 where
  pub only : ComesFrom starts calls all
  pub handed_on : HandsOnAll methods calls all
  pub met : (f : FoundNeed) → Contains (take i starts) f → least ≤ method_rank f.need → IsMet all f

pub starts-none : (methods : ℕ) (calls : List CallSite) (starts all : List FoundNeed) (least : ℕ) → ComesFrom starts calls all → HandsOnAll methods calls all
    → StartsTo methods calls starts least 0 all
starts-none methods calls starts all least from handed_on = record {
  only = from;
  handed_on = handed_on;
  met = λ f there rank. absurd (none-taken starts f there);
}

module _ (methods : ℕ) (calls : List CallSite) (starts : List FoundNeed) (least i : ℕ) (old : List FoundNeed) (found : FoundNeed)
    (so_far : StartsTo methods calls starts least i old) (below : i < length starts) (is : get_or starts i found ≡ found) where
  pub starts-more : (new : List FoundNeed) → Spreads methods calls (old ++ found ∷ []) old new → IsMet new found → StartsTo methods calls starts least (i + 1) new
  starts-more new spreads here = record {
    only = λ f there. reached-from starts (old ++ found ∷ []) calls all-from f (spreads.only f there);
    handed_on = spreads.all;
    met = λ f there rank. elim (taken-cases starts i found f below is there) [
      | inl before ↦ met-grown old new spreads.longer.0 spreads.longer.1 f (so_far.met f before rank)
      | inr e ↦ subst (IsMet new) e here
    ];
  } where
    all-from : ComesFrom starts calls (old ++ found ∷ [])
    all-from f there = elim (Contains-push_cases old found f there) [
      | inl before ↦ so_far.only f before
      | inr e ↦ start f (subst (Contains starts) e (i, below, is))
    ]

  -- a need of a lower rank is left for later
  pub starts-skip : method_rank found.need < least → StartsTo methods calls starts least (i + 1) old
  starts-skip low = record {
    only = so_far.only;
    handed_on = so_far.handed_on;
    met = λ f there rank. elim (taken-cases starts i found f below is there) [
      | inl before ↦ so_far.met f before rank
      | inr e ↦ absurd (let same : method_rank found.need ≡ method_rank f.need = ap (λ (g : FoundNeed). method_rank g.need) e in omega (arith, low, rank, same))
    ];
  }

pub starts-end : (methods : ℕ) (calls : List CallSite) (starts : List FoundNeed) (least i : ℕ) (all : List FoundNeed) → length starts ≤ i
    → StartsTo methods calls starts least i all → HasSpread methods calls starts least all
starts-end methods calls starts least i all enough s = record {
  only = s.only;
  handed_on = s.handed_on;
  met = λ f there rank. s.met f (subst (λ (xs : List FoundNeed). Contains xs f) (sym (take_all i starts enough)) there) rank;
}

-- the same lists, said otherwise
pub has-spread-of : (m n : ℕ) (xs ys : List CallSite) (fs gs : List FoundNeed) (all : List FoundNeed) → m ≡ n → xs ≡ ys → fs ≡ gs → HasSpread m xs fs 0 all → HasSpread n ys gs 0 all
has-spread-of m n xs ys fs gs all count same first s =
    subst (λ k. HasSpread k ys gs 0 all) count (subst (λ (zs : List CallSite). HasSpread m zs gs 0 all) same (subst (λ (hs : List FoundNeed). HasSpread m xs hs 0 all) first s))

-- what two lists of methods give that are equal
pub gives-same : {X : Type 0} (g : List CellDecl → ℕ → Decl → List X) (cells cells' : List CellDecl) (methods methods' : List Decl) → cells ≡ cells' → methods ≡ methods'
    → in_all (g cells) 0 methods ≡ in_all (g cells') 0 methods'
gives-same g cells cells' methods methods' e f =
    ap (λ (cs : List CellDecl). in_all (g cs) 0 methods) e ∙ ap (λ (ds : List Decl). in_all (g cells') 0 ds) f

-- a wider need that is met
met-narrow : (all : List FoundNeed) (m : ℕ) (wide need : Need) → Widens wide need → IsMet all (record { method = m; need = wide }) → IsMet all (record { method = m; need = need })
met-narrow all m wide need h met = elim met [
  | inl by ↦ inl (by.0, by.1, by.2, covers-trans need (effect_of wide) (effect_of by.0.need) h by.3)
  | inr by ↦ inr (by.0, by.1, covers-trans need (effect_of wide) (effect_of by.0) h by.2, by.3)
]

-- from a program's own needs and calls to all that it needs
module _ (p : Program) (all : List FoundNeed) (spreads : HasSpread (length p.methods) (in_all (calls_in p.cells) 0 p.methods) (in_all (starts_in p.cells) 0 p.methods) 0 all) where
  reached-needed : (f : FoundNeed) → MethodIsReached (in_all (starts_in p.cells) 0 p.methods) (in_all (calls_in p.cells) 0 p.methods) f → IsNeed p f.method f.need
  reached-needed f (start g there) =
      let from = starts-are p g there in
      subst (IsNeed p g.method) (sym from.3) (own g.method from.0 from.1 from.2)
  reached-needed f (further g call before there same) =
      let is = calls-are p call there in
      let inner : IsNeed p call.callee g.need = subst (λ m. IsNeed p m g.need) (sym same) (reached-needed g before) in
      subst (λ n. IsNeed p call.caller (settled n (filled_need call.args g.need))) (sym is.2) (called call.caller is.0 call.callee call.args g.need is.1 inner)

  -- a method that is called and needs something is there
  need-there : (m : ℕ) (need : Need) → IsNeed p m need → m < length p.methods
  need-there m need (own n decl step has) = slice_get_within p.methods n decl has.0
  need-there m need (called n decl callee args inner has needed) = slice_get_within p.methods n decl has.0

  -- a wider need of a called method gives a wider need of the caller
  handed-widens : (decl : Decl) (callee : ℕ) (args : List Elem) (wide need : Need) → Contains (steps_in_all p.cells decl.body.block) (Call callee args) → Widens wide need
      → Widens (settled decl.params (filled_need args wide)) (settled decl.params (filled_need args need))
  handed-widens decl callee args wide need step h =
      covers-map (settled_elem decl.params) (settled-keeps decl.params) (filled_need args need) (effect_of (filled_need args wide))
      (covers-map (fill_elem args) (fill-keeps args (arguments-indexes p decl callee args step)) need (effect_of wide) h)

  -- what is crowded out of the called method is so of the caller
  module _ (m : ℕ) (decl : Decl) (callee : ℕ) (args : List Elem) (has : HasStep p m decl (Call callee args)) (there : callee < length p.methods) where
    caller-met : (w : FoundNeed) → Contains all w → w.method ≡ callee → is_constant_need w.need ≡ true → IsMet all (record { method = m; need = w.need })
    caller-met w found is fixed =
        let call : CallSite = record { callee = callee; caller = m; params = decl.params; args = args } in
        subst (λ (need : Need). IsMet all (record { method = m; need = need })) (same-need decl.params args w.need fixed)
        (spreads.handed_on w call found (call-is p m decl callee args has) (sym is) there)

    crowded-caller : (need : Need) → IsCrowded all (record { method = callee; need = need }) → IsCrowded all (record { method = m; need = settled decl.params (filled_need args need) })
    crowded-caller need c = (
      c.0,
      c.1,
      subst (λ wide. Widens wide (settled decl.params (filled_need args need))) (same-need decl.params args c.0 c.1) (handed-widens decl callee args c.0 need has.1 c.2),
      λ cover few covers. c.3 cover few (λ w found is fixed rank. elim (caller-met w found is fixed) [
        | inl by ↦
            let most = rank-most by.0.need w.need by.3 in
            cover-wider cover w.need by.0.need
            (covers by.0 by.1 by.2 (wider-constant by.0.need w.need fixed by.3) (let above = most.below in omega (arith, rank, above))) by.3
        | inr by ↦
            let most = rank-most by.0 w.need by.2 in
            cover-wider cover w.need by.0 (by.3 cover few (λ o found' is' fixed' rank'.
            covers o found' is' fixed' (let above = most.below in omega (arith, rank, above, rank')))) by.2
      ]),
    )

  needed-met : (m : ℕ) (need : Need) → IsNeed p m need → IsMet all (record { method = m; need = need })
  needed-met m need (own n decl step has) = spreads.met (record { method = n; need = settled decl.params step }) (start-is p n decl step has) (omega arith)
  needed-met m need (called n decl callee args inner has needed) = elim (needed-met callee inner needed) [
    | inl wide ↦
        let call : CallSite = record { callee = callee; caller = n; params = decl.params; args = args } in
        met-narrow all n (settled decl.params (filled_need args wide.0.need)) (settled decl.params (filled_need args inner))
        (handed-widens decl callee args wide.0.need inner has.1 wide.3)
        (spreads.handed_on wide.0 call wide.1 (call-is p n decl callee args has) (sym wide.2) (need-there callee inner needed))
    | inr crowded ↦ inr (crowded-caller n decl callee args has (need-there callee inner needed) inner crowded)
  ]

  pub found-all : HasFoundAll p all
  found-all = record {
    only = λ f there. reached-needed f (spreads.only f there);
    met = λ f needed. needed-met f.method f.need needed;
  }
