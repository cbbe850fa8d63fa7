-- Each trail to a point shows in the ways found: there is one after which the future is as after the trail, with no more places.
use Rattle.std.proofs.Common.{◌≡◌, ◌≤◌, ◌==◌, ℕ, zero, suc, Bool, true, false, not, ◌&&◌, ◌||◌, List, [], ◌∷◌, ◌++◌, length, inl, inr, refl, sym, subst, if◌then◌else◌, arith}
use Rattle.std.specs.Prelude.{Option, None, Some, nat_lt, option_map, option_to_list}
use Rattle.std.proofs.lemmas.Bool.{cases_Bool, eq-eqb}
use Rattle.std.proofs.lemmas.Bool.Decides.{nat_tests}
use Rattle.twe_base.specs.declared.place.Place.{Place}
use Rattle.twe_program.specs.Statement.{Statement, Block, If, While, Return, Statements, no_more, statement, Arms, arm, otherwise, no_else}
use Rattle.cover_flow.specs.ControlPath.{Path, Repeated, IsAt, point_of}
use Rattle.cover_flow.specs.Out.{puts_out, takes_in, out_after}
use Rattle.refusal_causes.specs.declared.places.KeptPlaces.{KeptPlaces}
use Rattle.refusal_causes.specs.declared.way.Begins.{Begins}
use Rattle.refusal_causes.specs.declared.way.Begins.TheVariants.{Spawn, Join}
use Rattle.refusal_causes.specs.declared.way.ControlWay.{ControlWay}
use Rattle.refusal_causes.specs.declared.ways.OutWays.{OutWays}
use Rattle.refusal_causes.specs.Places.{kept}
use Rattle.refusal_causes.specs.Trail.{Goes, GoesAll, GoesOne, Reaches, ReachesAll, ReachesOne}
use Rattle.refusal_causes.specs.Ways.{places_since, shown_at}
use Rattle.refusal_causes.specs.inner.KeptPlaces.{one_more}
use Rattle.refusal_causes.specs.inner.Reached.{noted, reached, reached_all, reached_one}
use Rattle.refusal_causes.specs.inner.Traced.{carried, either, nowhere, shorter, stepped, traced, traced_all, traced_one, with_place}
use Rattle.refusal_causes.proofs.Settled.{goes_all-adds, none-after, same-after, some_settles}
use Rattle.refusal_causes.proofs.TracedLaws.{after, get}

-- there is a way, which has at most so many places
abbrev pub AtMost : Option ControlWay → ℕ → Type 0
AtMost None n = ⊥
AtMost (Some way) n = way.places.count ≤ n

more : (way : Option ControlWay) (m n : ℕ) → AtMost way m → m ≤ n → AtMost way n
more None m n h le = h
more (Some way) m n h le = omega (arith, h, le)

left_by : (less : Bool) (x y : ControlWay) (n : ℕ) → nat_lt y.places.count x.places.count ≡ less → x.places.count ≤ n → AtMost (if less then Some y else Some x) n
left_by true x y n e h = grind (arith, nat_tests, e, h)
left_by false x y n e h = h

right_by : (less : Bool) (x y : ControlWay) (n : ℕ) → nat_lt y.places.count x.places.count ≡ less → y.places.count ≤ n → AtMost (if less then Some y else Some x) n
right_by true x y n e h = h
right_by false x y n e h = grind (arith, nat_tests, e, h)

shorter-left : (a b : Option ControlWay) (n : ℕ) → AtMost a n → AtMost (shorter a b) n
shorter-left None b n h = absurd h
shorter-left (Some x) None n h = h
shorter-left (Some x) (Some y) n h = left_by (nat_lt y.places.count x.places.count) x y n refl h

shorter-right : (a b : Option ControlWay) (n : ℕ) → AtMost b n → AtMost (shorter a b) n
shorter-right None b n h = h
shorter-right (Some x) None n h = absurd h
shorter-right (Some x) (Some y) n h = right_by (nat_lt y.places.count x.places.count) x y n refl h

either-left : (c : Bool) (a b : OutWays) (n : ℕ) → AtMost (get c a) n → AtMost (get c (either a b)) n
either-left true a b n h = shorter-left a.out b.out n h
either-left false a b n h = shorter-left a.not_out b.not_out n h

either-right : (c : Bool) (a b : OutWays) (n : ℕ) → AtMost (get c b) n → AtMost (get c (either a b)) n
either-right true a b n h = shorter-right a.out b.out n h
either-right false a b n h = shorter-right a.not_out b.not_out n h

mapped : (g : ControlWay → ControlWay) (way : Option ControlWay) (m n : ℕ) → AtMost way m → ((w : ControlWay) → w.places.count ≤ m → (g w).places.count ≤ n)
    → AtMost (option_map g way) n
mapped g None m n h few = h
mapped g (Some way) m n h few = few way h

-- a statement adds at most the place at which it shows
more_few : (count n : ℕ) → count ≤ n → one_more count ≤ suc n
more_few count n h = grind (arith, nat_tests, h)

with_few : (place : Option Place) (places : KeptPlaces) (xs : List Place) → places.count ≤ length xs → (with_place place places).count ≤ length (option_to_list place ++ xs)
with_few None places xs h = h
with_few (Some place) places xs h = more_few places.count (length xs) h

abbrev way : Begins → KeptPlaces → ControlWay
way begins places = record { begins = begins; places = places }

carried_few : (puts takes : Bool) (place : Option Place) (begins : Begins) (places : KeptPlaces) (xs : List Place) → places.count ≤ length xs
    → (if puts then way Spawn (with_place place (kept [])) else (if takes then way Join (with_place place (kept [])) else way begins (with_place place places))).places.count
    ≤ length (option_to_list place ++ (if puts || takes then [] else xs))
carried_few true takes place begins places xs h = with_few place (kept []) [] (omega (arith))
carried_few false true place begins places xs h = with_few place (kept []) [] (omega (arith))
carried_few false false place begins places xs h = with_few place places xs h

-- from one of both ways
settled_few : (c : Bool) (g : ControlWay → ControlWay) (ways : OutWays) (m n : ℕ) → AtMost (get c ways) m → ((w : ControlWay) → w.places.count ≤ m → (g w).places.count ≤ n)
    → AtMost (shorter (option_map g ways.out) (option_map g ways.not_out)) n
settled_few true g ways m n h few = shorter-left (option_map g ways.out) (option_map g ways.not_out) n (mapped g ways.out m n h few)
settled_few false g ways m n h few = shorter-right (option_map g ways.out) (option_map g ways.not_out) n (mapped g ways.not_out m n h few)

after_few : (puts takes c : Bool) (g : ControlWay → ControlWay) (ways : OutWays) (m n : ℕ) → AtMost (get c ways) m → ((w : ControlWay) → w.places.count ≤ m → (g w).places.count ≤ n)
    → AtMost (get (puts || (not takes && c)) (after g puts takes ways)) n
after_few true takes c g ways m n h few = settled_few c g ways m n h few
after_few false true c g ways m n h few = settled_few c g ways m n h few
after_few false false true g ways m n h few = mapped g ways.out m n h few
after_few false false false g ways m n h few = mapped g ways.not_out m n h few

repeated-keeps : (Step : Path → Path → Type 0) (Holds : Path → Type 0) → ((before later : Path) → Step before later → Holds before → Holds later)
    → (n : ℕ) (before later : Path) → Repeated Step n before later → Holds before → Holds later
repeated-keeps Step Holds one zero before later r h = subst Holds (sym r) h
repeated-keeps Step Holds one (suc n) before later r h = repeated-keeps Step Holds one n r.0 later r.2 (one before r.0 r.1 h)

module _ (f : ℕ) where
  -- the ways show the trail
  abbrev pub Shown : Path → OutWays → Type 0
  Shown trail ways = AtMost (get (out_after f trail) ways) (length (places_since f trail))

  same-shown : (trail other : Path) (ways : OutWays) → out_after f trail ≡ out_after f other → places_since f trail ≡ places_since f other → Shown trail ways → Shown other ways
  same-shown trail other ways out places h =
      subst (λ (c : Bool). AtMost (get c ways) (length (places_since f other))) out
      (subst (λ (ps : List Place). AtMost (get (out_after f trail) ways) (length ps)) places h)

  pub stepped-shown : (s : Statement) (trail : Path) (ways : OutWays) → Shown trail ways → Shown (s ∷ trail) (stepped f s ways)
  stepped-shown s trail ways h =
      after_few (puts_out f s) (takes_in f s) (out_after f trail) (carried f s) ways (length (places_since f trail)) (length (places_since f (s ∷ trail))) h
      (λ w few. carried_few (puts_out f s) (takes_in f s) (shown_at s) w.begins w.places (places_since f trail) few)

  one_keeps : (c : Bool) (n : ℕ) (before : OutWays) (arms : Arms) (ways : OutWays) → AtMost (get c before) n → AtMost (get c (traced_one f before arms ways)) n
  one_keeps c n before (arm condition body others) ways h =
      one_keeps c n (either before (traced_all f body ways)) others ways (either-left c before (traced_all f body ways) n h)
  one_keeps c n before (otherwise body) ways h = either-left c before (traced_all f body ways) n h
  one_keeps c n before no_else ways h = either-left c before ways n h

  mutual
    pub traced-shown : (s : Statement) (trail later : Path) → Goes s trail later → (ways : OutWays) → Shown trail ways → Shown later (traced f s ways)
    traced-shown (Block point body) trail later g ways h = traced_all-shown body trail later g ways h
    traced-shown (If point arms) trail later g ways h = traced_one-shown nowhere arms trail later g ways h
    traced-shown (While point condition body place) trail later g ways h =
        let s : Statement = While point condition body place in
        let turned : OutWays = traced_all f body (stepped f s ways) in
        let both : OutWays = either ways turned in
        repeated-keeps (λ before. GoesAll body (s ∷ before)) (λ now. Shown now both) (λ before now go shown.
        let adds = goes_all-adds body (s ∷ before) now go in
        let end : Path = adds.0 ++ s ∷ trail in
        subst (λ (t : Path). Shown t both) (sym adds.1) (elim (cases_Bool (some_settles f adds.0)) [
          | inl some ↦
              let again = traced_all-shown body (s ∷ trail) end (adds.2 (s ∷ trail)) (stepped f s ways) (stepped-shown s trail ways h) in
              let same = same-after f adds.0 (s ∷ trail) (s ∷ before) some in
              same-shown end (adds.0 ++ s ∷ before) both same.0 same.1 (either-right (out_after f end) ways turned (length (places_since f end)) again)
          | inr none ↦
              let on = none-after f adds.0 (s ∷ before) none in
              let longer = on.1 in
              subst (λ (c : Bool). AtMost (get c both) (length (places_since f (adds.0 ++ s ∷ before)))) (sym on.0)
              (more (get (out_after f before) both) (length (places_since f before)) (length (places_since f (adds.0 ++ s ∷ before))) shown (omega (arith, longer)))
        ])) g.0 trail later g.1 (either-left (out_after f trail) ways turned (length (places_since f trail)) h)
    traced-shown (Return point value) trail later g ways h = absurd g
    traced-shown s trail later g ways h = subst (λ (t : Path). Shown t (stepped f s ways)) (sym g) (stepped-shown s trail ways h)

    pub traced_all-shown : (body : Statements) (trail later : Path) → GoesAll body trail later → (ways : OutWays) → Shown trail ways → Shown later (traced_all f body ways)
    traced_all-shown no_more trail later g ways h = subst (λ (t : Path). Shown t ways) (sym g) h
    traced_all-shown (statement first others) trail later g ways h =
        traced_all-shown others g.0 later g.2 (traced f first ways) (traced-shown first trail g.0 g.1 ways h)

    traced_one-shown : (before : OutWays) (arms : Arms) (trail later : Path) → GoesOne arms trail later → (ways : OutWays) → Shown trail ways → Shown later (traced_one f before arms ways)
    traced_one-shown before (arm condition body others) trail later g ways h =
        let here : OutWays = traced_all f body ways in
        elim g [
          | inl go ↦ one_keeps (out_after f later) (length (places_since f later)) (either before here) others ways
              (either-right (out_after f later) before here (length (places_since f later)) (traced_all-shown body trail later go ways h))
          | inr go ↦ traced_one-shown (either before here) others trail later go ways h
        ]
    traced_one-shown before (otherwise body) trail later g ways h =
        either-right (out_after f later) before (traced_all f body ways) (length (places_since f later)) (traced_all-shown body trail later g ways h)
    traced_one-shown before no_else trail later g ways h =
        subst (λ (t : Path). Shown t (either before ways)) (sym g) (either-right (out_after f trail) before ways (length (places_since f trail)) h)

noted_by : (same c : Bool) (n : ℕ) (ways found : OutWays) → AtMost (get c found) n → AtMost (get c (if same then either found ways else found)) n
noted_by true c n ways found h = either-left c found ways n h
noted_by false c n ways found h = h

module _ (f to end : ℕ) where
  pub noted_stays : (at : ℕ) (c : Bool) (n : ℕ) (ways found : OutWays) → AtMost (get c found) n → AtMost (get c (noted to at ways found)) n
  noted_stays at c n ways found h = noted_by (at == to) c n ways found h

  pub noted_shown : (at : ℕ) (trail later : Path) → IsAt at to trail later → (ways found : OutWays) → Shown f trail ways → Shown f later (noted to at ways found)
  noted_shown at trail later there ways found h =
      subst (λ (t : Path). Shown f t (noted to at ways found)) (sym there.1)
      (subst (λ (same : Bool). Shown f trail (if same then either found ways else found)) (sym (eq-eqb at to there.0))
      (either-right (out_after f trail) found ways (length (places_since f trail)) h))

  mutual
    reached_stays : (s : Statement) (c : Bool) (n : ℕ) (ways found : OutWays) → AtMost (get c found) n → AtMost (get c (reached f to end s ways found)) n
    reached_stays (Block point body) c n ways found h = reached_all_stays body c n ways (noted to point ways found) (noted_stays point c n ways found h)
    reached_stays (If point arms) c n ways found h = reached_one_stays arms c n ways (noted to point ways found) (noted_stays point c n ways found h)
    reached_stays (While point condition body place) c n ways found h =
        let s : Statement = While point condition body place in
        let head : OutWays = traced f s ways in
        reached_all_stays body c n (stepped f s head) (noted to point head found) (noted_stays point c n head found h)
    reached_stays (Return point value) c n ways found h = noted_stays end c n ways (noted to point ways found) (noted_stays point c n ways found h)
    reached_stays s c n ways found h = noted_stays (point_of s) c n ways found h

    reached_all_stays : (body : Statements) (c : Bool) (n : ℕ) (ways found : OutWays) → AtMost (get c found) n → AtMost (get c (reached_all f to end body ways found)) n
    reached_all_stays no_more c n ways found h = h
    reached_all_stays (statement first others) c n ways found h =
        reached_all_stays others c n (traced f first ways) (reached f to end first ways found) (reached_stays first c n ways found h)

    reached_one_stays : (arms : Arms) (c : Bool) (n : ℕ) (ways found : OutWays) → AtMost (get c found) n → AtMost (get c (reached_one f to end arms ways found)) n
    reached_one_stays (arm condition body others) c n ways found h =
        reached_one_stays others c n ways (reached_all f to end body ways found) (reached_all_stays body c n ways found h)
    reached_one_stays (otherwise body) c n ways found h = reached_all_stays body c n ways found h
    reached_one_stays no_else c n ways found h = h

  -- what was found is still found
  found_stays : (body : Statements) (later : Path) (ways found : OutWays) → Shown f later found → Shown f later (reached_all f to end body ways found)
  found_stays body later ways found h = reached_all_stays body (out_after f later) (length (places_since f later)) ways found h

  mutual
    reaches-shown : (s : Statement) (trail later : Path) → Reaches end s to trail later → (ways found : OutWays) → Shown f trail ways → Shown f later (reached f to end s ways found)
    reaches-shown (Block point body) trail later r ways found h = elim r [
      | inl at ↦ found_stays body later ways (noted to point ways found) (noted_shown point trail later at ways found h)
      | inr deeper ↦ reaches_all-shown body trail later deeper ways (noted to point ways found) h
    ]
    reaches-shown (If point arms) trail later r ways found h = elim r [
      | inl at ↦ reached_one_stays arms (out_after f later) (length (places_since f later)) ways (noted to point ways found) (noted_shown point trail later at ways found h)
      | inr deeper ↦ reaches_one-shown arms trail later deeper ways (noted to point ways found) h
    ]
    reaches-shown (While point condition body place) trail later r ways found h =
        let s : Statement = While point condition body place in
        let head : OutWays = traced f s ways in
        let shown : Shown f r.0 head = traced-shown f s trail r.0 r.1 ways h in
        elim r.2 [
          | inl at ↦ found_stays body later (stepped f s head) (noted to point head found) (noted_shown point r.0 later at head found shown)
          | inr deeper ↦ reaches_all-shown body (s ∷ r.0) later deeper (stepped f s head) (noted to point head found) (stepped-shown f s r.0 head shown)
        ]
    reaches-shown (Return point value) trail later r ways found h = elim r [
      | inl at ↦ noted_stays end (out_after f later) (length (places_since f later)) ways (noted to point ways found) (noted_shown point trail later at ways found h)
      | inr at ↦ noted_shown end trail later at ways (noted to point ways found) h
    ]
    reaches-shown s trail later r ways found h = noted_shown (point_of s) trail later r ways found h

    pub reaches_all-shown : (body : Statements) (trail later : Path) → ReachesAll end body to trail later → (ways found : OutWays) → Shown f trail ways → Shown f later (reached_all f to end body ways found)
    reaches_all-shown no_more trail later r ways found h = absurd r
    reaches_all-shown (statement first others) trail later r ways found h = elim r [
      | inl here ↦ found_stays others later (traced f first ways) (reached f to end first ways found) (reaches-shown first trail later here ways found h)
      | inr further ↦
          reaches_all-shown others further.0 later further.2 (traced f first ways) (reached f to end first ways found) (traced-shown f first trail further.0 further.1 ways h)
    ]

    reaches_one-shown : (arms : Arms) (trail later : Path) → ReachesOne end arms to trail later → (ways found : OutWays) → Shown f trail ways → Shown f later (reached_one f to end arms ways found)
    reaches_one-shown (arm condition body others) trail later r ways found h = elim r [
      | inl here ↦ reached_one_stays others (out_after f later) (length (places_since f later)) ways (reached_all f to end body ways found)
          (reaches_all-shown body trail later here ways found h)
      | inr other ↦ reaches_one-shown others trail later other ways (reached_all f to end body ways found) h
    ]
    reaches_one-shown (otherwise body) trail later r ways found h = reaches_all-shown body trail later r ways found h
    reaches_one-shown no_else trail later r ways found h = absurd r
