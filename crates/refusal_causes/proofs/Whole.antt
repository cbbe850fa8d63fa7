-- The ways found in a body: each is that along the trail of a control path, and where there is none, no path has such.
use Rattle.std.proofs.Common.{◌≡◌, ◌≤◌, ℕ, min, Bool, true, false, [], length, inl, inr, refl, sym, ap, ◌∙◌, subst, arith}
use Rattle.std.specs.Prelude.{Option, None, Some, is_some, IfSome, IfNone}
use Rattle.std.proofs.lemmas.Bool.{false≢true}
use Rattle.std.proofs.lemmas.Option.{none-some, same_Some}
use Rattle.twe_program.specs.declared.program.Body.{Body}
use Rattle.cover_flow.specs.ControlPath.{Path, ControlPath, end_of}
use Rattle.cover_flow.specs.Out.{out_after}
use Rattle.cover_flow.proofs.FactLaws.{has}
use Rattle.cover_flow.proofs.AfterLaws.{through_all-after}
use Rattle.refusal_causes.specs.declared.way.ControlWay.{ControlWay}
use Rattle.refusal_causes.specs.declared.ways.OutWays.{OutWays}
use Rattle.refusal_causes.specs.Places.{max_counted}
use Rattle.refusal_causes.specs.Trail.{ControlTrail}
use Rattle.refusal_causes.specs.Ways.{places_since, way_along, IsWay, IsOnNone}
use Rattle.refusal_causes.specs.inner.Traced.{nowhere, start, traced_all}
use Rattle.refusal_causes.specs.inner.Reached.{reached_all, found_in}
use Rattle.refusal_causes.proofs.Fewest.{AtMost, Shown, noted_shown, noted_stays, reaches_all-shown, traced_all-shown}
use Rattle.refusal_causes.proofs.TracedLaws.{get, nowhere-none, Shows, traced_all-goes}
use Rattle.refusal_causes.proofs.TracedFacts.{seen, traced_all-seen}
use Rattle.refusal_causes.proofs.ReachedLaws.{noted-from, reached_all-goes}
use Rattle.refusal_causes.proofs.ReachedFacts.{noted_keeps, noted_here, comes_all-reached}

-- a way at the start is that along the empty trail
start-shows : (f : ℕ) (b : Bool) (was : ControlWay) → get b start ≡ Some was → Shows f b was []
start-shows f true was h = absurd (none-some was h)
start-shows f false was h = (refl, sym (same_Some (way_along 0 []) was h))

trail-found : (body : Body) (f to : ℕ) (trail : Path) → ControlTrail body to trail → Shown f trail (found_in body f to)
trail-found body f to trail comes =
    let end = end_of body in
    let inner : OutWays = reached_all f to end body.block start nowhere in
    let last : OutWays = traced_all f body.block start in
    let empty : Shown f [] start = omega (arith) in
    elim comes [
      | inl within ↦ noted_stays f to end end (out_after f trail) (length (places_since f trail)) last inner (reaches_all-shown f to end body.block [] trail within start nowhere empty)
      | inr through ↦ noted_shown f to end end trail trail (through.0, refl) last inner (traced_all-shown f body.block [] trail through.1 start empty)
    ]

-- none has fewer places
few_places : (f : ℕ) (trail other : Path) (o : Option ControlWay) (w : ControlWay) → o ≡ Some w → w ≡ way_along f trail → AtMost o (length (places_since f other))
    → min (length (places_since f trail)) max_counted ≤ length (places_since f other)
few_places f trail other o w is along h =
    subst (λ (x : ControlWay). x.places.count ≤ length (places_since f other)) along
    (subst (λ (x : Option ControlWay). AtMost x (length (places_since f other))) is h)

shortest-way : (body : Body) (f to : ℕ) (c : Bool) (w : ControlWay) (trail : Path) → get c (found_in body f to) ≡ Some w → w ≡ way_along f trail
    → (other : Path) → ControlTrail body to other → out_after f other ≡ c → min (length (places_since f trail)) max_counted ≤ length (places_since f other)
shortest-way body f to c w trail is along other comes state =
    few_places f trail other (get c (found_in body f to)) w is along
    (subst (λ (b : Bool). AtMost (get b (found_in body f to)) (length (places_since f other))) state (trail-found body f to other comes))

pub found-way : (body : Body) (f to : ℕ) (c : Bool) (w : ControlWay) → get c (found_in body f to) ≡ Some w → IsWay body to f c w
found-way body f to c w h =
    let end = end_of body in
    let inner : OutWays = reached_all f to end body.block start nowhere in
    let last : OutWays = traced_all f body.block start in
    elim (noted-from to end last inner c w h) [
      | inl was ↦ elim (reached_all-goes f to end body.block start nowhere c w was) [
        | inl none ↦ absurd (nowhere-none c w none)
        | inr from ↦
            let go = from.3 [] (start-shows f from.0 from.1 from.2) in
            record { trail = go.0; comes = inl go.1; state = go.2.0; shows = go.2.1; shortest = shortest-way body f to c w go.0 h go.2.1 }
      ]
      | inr new ↦
          let from = traced_all-goes f body.block start c w new.1 in
          let go = from.3 [] (start-shows f from.0 from.1 from.2) in
          record { trail = go.0; comes = inr (new.0, go.1); state = go.2.0; shows = go.2.1; shortest = shortest-way body f to c w go.0 h go.2.1 }
    ]

path-found : (body : Body) (f to : ℕ) (path : Path) → ControlPath body to path → has (out_after f path) (seen (found_in body f to)) ≡ true
path-found body f to path comes =
    let end = end_of body in
    let inner : OutWays = reached_all f to end body.block start nowhere in
    let last : OutWays = traced_all f body.block start in
    elim comes [
      | inl within ↦ noted_keeps to end (out_after f path) last inner (comes_all-reached f to end body.block [] path within start nowhere refl)
      | inr through ↦
          let shown : has (out_after f path) (seen last) ≡ true =
          ap (has (out_after f path)) (traced_all-seen f body.block start) ∙ through_all-after f body.block [] path through.1 (seen start) refl in
          noted_here to end (out_after f path) last inner through.0 shown
    ]

none-seen : (c : Bool) (ways : OutWays) → get c ways ≡ None → has c (seen ways) ≡ true → ⊥
none-seen true ways none h = false≢true (sym (ap is_some none) ∙ h)
none-seen false ways none h = false≢true (sym (ap is_some none) ∙ h)

pub found-none : (body : Body) (f to : ℕ) (c : Bool) → get c (found_in body f to) ≡ None → IsOnNone body to f c
found-none body f to c none path comes state =
    none-seen c (found_in body f to) none (sym (ap (λ b. has b (seen (found_in body f to))) state) ∙ path-found body f to path comes)

if_some : (o : Option ControlWay) (P : ControlWay → Type 0) → ((w : ControlWay) → o ≡ Some w → P w) → IfSome o P
if_some None P f = tt
if_some (Some w) P f = f w refl

if_none : (o : Option ControlWay) (P : Type 0) → (o ≡ None → P) → IfNone o P
if_none None P f = f refl
if_none (Some w) P f = tt

-- the ways found answer both
module _ (body : Body) (f to : ℕ) (ways : OutWays) (found : ways ≡ found_in body f to) where
  pub answer-some : (c : Bool) → IfSome (get c ways) (IsWay body to f c)
  answer-some c = if_some (get c ways) (IsWay body to f c) (λ w e. found-way body f to c w (sym (ap (get c) found) ∙ e))

  pub answer-none : (c : Bool) → IfNone (get c ways) (IsOnNone body to f c)
  answer-none c = if_none (get c ways) (IsOnNone body to f c) (λ e. found-none body f to c (sym (ap (get c) found) ∙ e))
