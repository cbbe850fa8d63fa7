-- A way after statements is that along a trail which goes on through them from the trail of a way before them.
use Rattle.std.proofs.Common.{◌≡◌, ℕ, Bool, true, false, not, ◌&&◌, ◌||◌, ◌⊎◌, ◌∷◌, inl, inr, refl, sym, ap, ◌∙◌, if◌then◌else◌}
use Rattle.std.specs.Prelude.{Option, None, Some, nat_lt, option_map}
use Rattle.std.proofs.lemmas.Option.{none-some, same_Some}
use Rattle.twe_program.specs.Statement.{Statement, Block, If, While, Return, Statements, no_more, statement, Arms, arm, otherwise, no_else}
use Rattle.cover_flow.specs.ControlPath.{Path}
use Rattle.cover_flow.specs.Out.{puts_out, takes_in, out_after}
use Rattle.refusal_causes.specs.declared.way.ControlWay.{ControlWay}
use Rattle.refusal_causes.specs.declared.ways.OutWays.{OutWays}
use Rattle.refusal_causes.specs.Trail.{Goes, GoesAll, GoesOne}
use Rattle.refusal_causes.specs.Ways.{way_along}
use Rattle.refusal_causes.specs.inner.Traced.{nowhere, shorter, either, carried, stepped, traced, traced_all, traced_one}
use Rattle.refusal_causes.proofs.KeptLaws.{carried-along}

-- the way on which the future is out, or is not
abbrev pub get : Bool → OutWays → Option ControlWay
get true ways = ways.out
get false ways = ways.not_out

pub nowhere-none : (c : Bool) (w : ControlWay) → get c nowhere ≡ Some w → ⊥
nowhere-none true w h = none-some w h
nowhere-none false w h = none-some w h

shorter_by : (less : Bool) (x y w : ControlWay) → (if less then Some y else Some x) ≡ Some w → (Some x ≡ Some w) ⊎ (Some y ≡ Some w)
shorter_by true x y w h = inr h
shorter_by false x y w h = inl h

or-from : (a b : Option ControlWay) (w : ControlWay) → shorter a b ≡ Some w → (a ≡ Some w) ⊎ (b ≡ Some w)
or-from None b w h = inr h
or-from (Some x) None w h = inl h
or-from (Some x) (Some y) w h = shorter_by (nat_lt y.places.count x.places.count) x y w h

pub either-from : (c : Bool) (a b : OutWays) (w : ControlWay) → get c (either a b) ≡ Some w → (get c a ≡ Some w) ⊎ (get c b ≡ Some w)
either-from true a b w h = or-from a.out b.out w h
either-from false a b w h = or-from a.not_out b.not_out w h

map-from : (g : ControlWay → ControlWay) (o : Option ControlWay) (w : ControlWay) → option_map g o ≡ Some w → (was : ControlWay) × (o ≡ Some was) × (w ≡ g was)
map-from g None w h = absurd (none-some w h)
map-from g (Some x) w h = (x, refl, sym (same_Some (g x) w h))

-- whether it is out after a statement that spawns into it or joins it
abbrev pub step : Bool → Bool → Bool → Bool
step puts takes b = puts || (not takes && b)

-- the way comes from this one before, after which it is out, or is not
abbrev Before : (ControlWay → ControlWay) → Bool → Bool → OutWays → Bool → ControlWay → Type 0
Before g puts takes ways c w = (b : Bool) × (was : ControlWay) × (get b ways ≡ Some was) × (w ≡ g was) × (step puts takes b ≡ c)

map-either : (g : ControlWay → ControlWay) (ways : OutWays) (w : ControlWay) → shorter (option_map g ways.out) (option_map g ways.not_out) ≡ Some w
    → (b : Bool) × (was : ControlWay) × (get b ways ≡ Some was) × (w ≡ g was)
map-either g ways w h =
    elim (or-from (option_map g ways.out) (option_map g ways.not_out) w h) [
      | inl out ↦ let from = map-from g ways.out w out in (true, from.0, from.1, from.2)
      | inr not_out ↦ let from = map-from g ways.not_out w not_out in (false, from.0, from.1, from.2)
    ]

abbrev pub after : (ControlWay → ControlWay) → Bool → Bool → OutWays → OutWays
after g puts takes ways =
    if puts then record { out = shorter (option_map g ways.out) (option_map g ways.not_out); not_out = None }
    else (if takes then record { out = None; not_out = shorter (option_map g ways.out) (option_map g ways.not_out) }
    else record { out = option_map g ways.out; not_out = option_map g ways.not_out })

after-from : (g : ControlWay → ControlWay) (puts takes : Bool) (ways : OutWays) (c : Bool) (w : ControlWay) → get c (after g puts takes ways) ≡ Some w → Before g puts takes ways c w
after-from g true takes ways true w h = let from = map-either g ways w h in (from.0, from.1, from.2, from.3, refl)
after-from g true takes ways false w h = absurd (none-some w h)
after-from g false true ways true w h = absurd (none-some w h)
after-from g false true ways false w h = let from = map-either g ways w h in (from.0, from.1, from.2, from.3, refl)
after-from g false false ways true w h = let from = map-from g ways.out w h in (true, from.0, from.1, from.2, refl)
after-from g false false ways false w h = let from = map-from g ways.not_out w h in (false, from.0, from.1, from.2, refl)

-- after the trail the future is out, or is not, and the way is that along the trail
abbrev pub Shows : ℕ → Bool → ControlWay → Path → Type 0
Shows f b way trail = (out_after f trail ≡ b) × (way ≡ way_along f trail)

-- from each trail of one way, so on, to a trail of the other
abbrev pub Leads : ℕ → (Path → Path → Type 0) → Bool → ControlWay → Bool → ControlWay → Type 0
Leads f Go b was c w = (trail : Path) → Shows f b was trail → (later : Path) × Go trail later × Shows f c w later

-- the way comes from one before, whose trails go on so
abbrev pub Source : ℕ → (Path → Path → Type 0) → OutWays → Bool → ControlWay → Type 0
Source f Go ways c w = (b : Bool) × (was : ControlWay) × (get b ways ≡ Some was) × Leads f Go b was c w

-- the same, of trails that go on by one statement
abbrev pub StepSource : ℕ → Statement → OutWays → Bool → ControlWay → Type 0
StepSource f s ways c w = (b : Bool) × (was : ControlWay) × (get b ways ≡ Some was) × ((trail : Path) → Shows f b was trail → Shows f c w (s ∷ trail))

pub stepped-goes : (f : ℕ) (s : Statement) (ways : OutWays) (c : Bool) (w : ControlWay) → get c (stepped f s ways) ≡ Some w → StepSource f s ways c w
stepped-goes f s ways c w h =
    let from = after-from (carried f s) (puts_out f s) (takes_in f s) ways c w h in (
      from.0,
      from.1,
      from.2,
      λ trail shows. (
        ap (step (puts_out f s) (takes_in f s)) shows.0 ∙ from.4,
        from.3 ∙ ap (carried f s) shows.1 ∙ carried-along f s trail,
      ),
    )

simple-goes : (f : ℕ) (s : Statement) (ways : OutWays) (c : Bool) (w : ControlWay) → ((trail : Path) → Goes s trail (s ∷ trail)) → get c (stepped f s ways) ≡ Some w → Source f (Goes s) ways c w
simple-goes f s ways c w goes h =
    let from = stepped-goes f s ways c w h in (from.0, from.1, from.2, λ trail shows. (s ∷ trail, goes trail, from.3 trail shows))

mutual
  pub traced-goes : (f : ℕ) (s : Statement) (ways : OutWays) (c : Bool) (w : ControlWay) → get c (traced f s ways) ≡ Some w → Source f (Goes s) ways c w
  traced-goes f (Block point body) ways c w h = traced_all-goes f body ways c w h
  traced-goes f (If point arms) ways c w h =
      elim (traced_one-goes f nowhere arms ways c w h) [ inl none ↦ absurd (nowhere-none c w none) | inr from ↦ from ]
  traced-goes f (While point condition body place) ways c w h =
      let s : Statement = While point condition body place in
      elim (either-from c ways (traced_all f body (stepped f s ways)) w h) [
        | inl here ↦ (c, w, here, λ trail shows. (trail, (0, refl), shows))
        | inr turned ↦
            let last = traced_all-goes f body (stepped f s ways) c w turned in
            let from = stepped-goes f s ways last.0 last.1 last.2 in (
              from.0,
              from.1,
              from.2,
              λ trail shows. let to = last.3 (s ∷ trail) (from.3 trail shows) in (to.0, (1, (to.0, to.1, refl)), to.2),
            )
      ]
  traced-goes f (Return point value) ways c w h = absurd (nowhere-none c w h)
  traced-goes f s ways c w h = simple-goes f s ways c w (λ trail. refl) h

  pub traced_all-goes : (f : ℕ) (body : Statements) (ways : OutWays) (c : Bool) (w : ControlWay) → get c (traced_all f body ways) ≡ Some w → Source f (GoesAll body) ways c w
  traced_all-goes f no_more ways c w h = (c, w, h, λ trail shows. (trail, refl, shows))
  traced_all-goes f (statement first others) ways c w h =
      let last = traced_all-goes f others (traced f first ways) c w h in
      let from = traced-goes f first ways last.0 last.1 last.2 in (
        from.0,
        from.1,
        from.2,
        λ trail shows.
            let between = from.3 trail shows in
            let to = last.3 between.0 between.2 in
            (to.0, (between.0, between.1, to.1), to.2),
      )

  -- or it was there before these branches
  pub traced_one-goes : (f : ℕ) (before : OutWays) (arms : Arms) (ways : OutWays) (c : Bool) (w : ControlWay) → get c (traced_one f before arms ways) ≡ Some w
      → (get c before ≡ Some w) ⊎ Source f (GoesOne arms) ways c w
  traced_one-goes f before (arm condition body others) ways c w h =
      elim (traced_one-goes f (either before (traced_all f body ways)) others ways c w h) [
        | inl was ↦ elim (either-from c before (traced_all f body ways) w was) [
          | inl already ↦ inl already
          | inr here ↦
              let from = traced_all-goes f body ways c w here in
              inr (from.0, from.1, from.2, λ trail shows. let to = from.3 trail shows in (to.0, inl to.1, to.2))
        ]
        | inr from ↦ inr (from.0, from.1, from.2, λ trail shows. let to = from.3 trail shows in (to.0, inr to.1, to.2))
      ]
  traced_one-goes f before (otherwise body) ways c w h =
      elim (either-from c before (traced_all f body ways) w h) [ inl already ↦ inl already | inr here ↦ inr (traced_all-goes f body ways c w here) ]
  traced_one-goes f before no_else ways c w h =
      elim (either-from c before ways w h) [ inl already ↦ inl already | inr here ↦ inr (c, w, here, λ trail shows. (trail, refl, shows)) ]
