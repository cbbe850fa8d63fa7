-- A way to a point is that along a trail which comes there from the trail of a way before.
use Rattle.std.proofs.Common.{◌≡◌, ℕ, Bool, true, false, ◌⊎◌, ◌∷◌, inl, inr, refl, if◌then◌else◌}
use Rattle.std.specs.Prelude.{◌==◌, Some}
use Rattle.std.proofs.lemmas.Bool.Decides.{Decides-eqb}
use Rattle.twe_program.specs.Statement.{Statement, Block, If, While, Return, Statements, no_more, statement, Arms, arm, otherwise, no_else}
use Rattle.cover_flow.specs.ControlPath.{Path, IsAt, point_of}
use Rattle.refusal_causes.specs.declared.way.ControlWay.{ControlWay}
use Rattle.refusal_causes.specs.declared.ways.OutWays.{OutWays}
use Rattle.refusal_causes.specs.Trail.{Reaches, ReachesAll, ReachesOne}
use Rattle.refusal_causes.specs.inner.Traced.{either, stepped, traced}
use Rattle.refusal_causes.specs.inner.Reached.{noted, reached, reached_all, reached_one}
use Rattle.refusal_causes.proofs.TracedLaws.{get, either-from, Source, stepped-goes, traced-goes}

noted_by : (same : Bool) (ways found : OutWays) (c : Bool) (w : ControlWay) → get c (if same then either found ways else found) ≡ Some w
    → (get c found ≡ Some w) ⊎ ((same ≡ true) × (get c ways ≡ Some w))
noted_by true ways found c w h = elim (either-from c found ways w h) [ inl already ↦ inl already | inr new ↦ inr (refl, new) ]
noted_by false ways found c w h = inl h

pub noted-from : (to at : ℕ) (ways found : OutWays) (c : Bool) (w : ControlWay) → get c (noted to at ways found) ≡ Some w
    → (get c found ≡ Some w) ⊎ ((at ≡ to) × (get c ways ≡ Some w))
noted-from to at ways found c w h =
    elim (noted_by (at == to) ways found c w h) [ inl already ↦ inl already | inr new ↦ inr ((Decides-eqb at to).0 new.0, new.1) ]

module _ (f to end : ℕ) where
  -- it was found already, or comes from a way before
  abbrev pub Found : (Path → Path → Type 0) → OutWays → OutWays → Bool → ControlWay → Type 0
  Found Go ways found c w = (get c found ≡ Some w) ⊎ Source f Go ways c w

  -- by a course that is also one of the others
  led : (Go Other : Path → Path → Type 0) → ((trail later : Path) → Go trail later → Other trail later) → (ways found : OutWays) (c : Bool) (w : ControlWay) → Found Go ways found c w → Found Other ways found c w
  led Go Other on ways found c w source =
      elim source [
        | inl already ↦ inl already
        | inr new ↦ inr (new.0, new.1, new.2, λ trail shows. let go = new.3 trail shows in (go.0, on trail go.0 go.1, go.2))
      ]

  -- before something was noted at a point
  unnoted : (Go : Path → Path → Type 0) (at : ℕ) (ways found : OutWays) (c : Bool) (w : ControlWay) → ((trail later : Path) → IsAt at to trail later → Go trail later)
      → Found Go ways (noted to at ways found) c w → Found Go ways found c w
  unnoted Go at ways found c w there source =
      elim source [
        | inl noticed ↦ elim (noted-from to at ways found c w noticed) [
          | inl already ↦ inl already
          | inr new ↦ inr (c, w, new.1, λ trail shows. (trail, there trail trail (new.0, refl), shows))
        ]
        | inr new ↦ inr new
      ]

  mutual
    pub reached-goes : (s : Statement) (ways found : OutWays) (c : Bool) (w : ControlWay) → get c (reached f to end s ways found) ≡ Some w → Found (Reaches end s to) ways found c w
    reached-goes (Block point body) ways found c w h =
        let Go : Path → Path → Type 0 = Reaches end (Block point body) to in
        let deeper = reached_all-goes body ways (noted to point ways found) c w h in
        unnoted Go point ways found c w (λ trail later at. inl at) (led (ReachesAll end body to) Go (λ trail later go. inr go) ways (noted to point ways found) c w deeper)
    reached-goes (If point arms) ways found c w h =
        let Go : Path → Path → Type 0 = Reaches end (If point arms) to in
        let deeper = reached_one-goes arms ways (noted to point ways found) c w h in
        unnoted Go point ways found c w (λ trail later at. inl at) (led (ReachesOne end arms to) Go (λ trail later go. inr go) ways (noted to point ways found) c w deeper)
    reached-goes (While point condition body place) ways found c w h =
        let s : Statement = While point condition body place in
        let head : OutWays = traced f s ways in
        let Turn : Path → Path → Type 0 = λ turned later. IsAt point to turned later ⊎ ReachesAll end body to (s ∷ turned) later in
        let deeper = reached_all-goes body (stepped f s head) (noted to point head found) c w h in
        let led_on : Found Turn head (noted to point head found) c w = elim deeper [
          | inl already ↦ inl already
          | inr new ↦
              let from = stepped-goes f s head new.0 new.1 new.2 in
              inr (from.0, from.1, from.2, λ trail shows. let go = new.3 (s ∷ trail) (from.3 trail shows) in (go.0, inr go.1, go.2))
        ] in
        elim (unnoted Turn point head found c w (λ trail later at. inl at) led_on) [
          | inl already ↦ inl already
          | inr new ↦
              let from = traced-goes f s ways new.0 new.1 new.2 in
              inr (
                from.0,
                from.1,
                from.2,
                λ trail shows.
                    let turned = from.3 trail shows in
                    let go = new.3 turned.0 turned.2 in
                    (go.0, (turned.0, turned.1, go.1), go.2),
              )
        ]
    reached-goes (Return point value) ways found c w h =
        let Go : Path → Path → Type 0 = Reaches end (Return point value) to in
        let at_end = unnoted Go end ways (noted to point ways found) c w (λ trail later at. inr at) (inl h) in
        unnoted Go point ways found c w (λ trail later at. inl at) at_end
    reached-goes s ways found c w h = unnoted (IsAt (point_of s) to) (point_of s) ways found c w (λ trail later at. at) (inl h)

    pub reached_all-goes : (body : Statements) (ways found : OutWays) (c : Bool) (w : ControlWay) → get c (reached_all f to end body ways found) ≡ Some w → Found (ReachesAll end body to) ways found c w
    reached_all-goes no_more ways found c w h = inl h
    reached_all-goes (statement first others) ways found c w h =
        let Go : Path → Path → Type 0 = ReachesAll end (statement first others) to in
        elim (reached_all-goes others (traced f first ways) (reached f to end first ways found) c w h) [
          | inl was ↦ led (Reaches end first to) Go (λ trail later go. inl go) ways found c w (reached-goes first ways found c w was)
          | inr new ↦
              let from = traced-goes f first ways new.0 new.1 new.2 in
              inr (
                from.0,
                from.1,
                from.2,
                λ trail shows.
                    let between = from.3 trail shows in
                    let go = new.3 between.0 between.2 in
                    (go.0, inr (between.0, between.1, go.1), go.2),
              )
        ]

    pub reached_one-goes : (arms : Arms) (ways found : OutWays) (c : Bool) (w : ControlWay) → get c (reached_one f to end arms ways found) ≡ Some w → Found (ReachesOne end arms to) ways found c w
    reached_one-goes (arm condition body others) ways found c w h =
        let Go : Path → Path → Type 0 = ReachesOne end (arm condition body others) to in
        elim (reached_one-goes others ways (reached_all f to end body ways found) c w h) [
          | inl was ↦ led (ReachesAll end body to) Go (λ trail later go. inl go) ways found c w (reached_all-goes body ways found c w was)
          | inr new ↦ inr (new.0, new.1, new.2, λ trail shows. let go = new.3 trail shows in (go.0, inr go.1, go.2))
        ]
    reached_one-goes (otherwise body) ways found c w h = reached_all-goes body ways found c w h
    reached_one-goes no_else ways found c w h = inl h
