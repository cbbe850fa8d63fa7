-- Each control path to a point shows in the ways found: there is one after which the future is as after the path.
use Rattle.std.proofs.Common.{◌≡◌, ℕ, Bool, true, false, inl, inr, ap, ◌∙◌, if◌then◌else◌}
use Rattle.std.specs.Prelude.{◌==◌}
use Rattle.std.proofs.lemmas.Bool.{eq-eqb}
use Rattle.twe_program.specs.Statement.{Statement, Block, If, While, Return, Statements, no_more, statement, Arms, arm, otherwise, no_else}
use Rattle.cover_flow.specs.ControlPath.{Path, Through, IsAt, Comes, ComesAll, ComesOne, point_of}
use Rattle.cover_flow.specs.Out.{out_after}
use Rattle.cover_flow.proofs.FactLaws.{has, joined_left, joined_right}
use Rattle.cover_flow.proofs.AfterLaws.{through-after}
use Rattle.refusal_causes.specs.declared.ways.OutWays.{OutWays}
use Rattle.refusal_causes.specs.inner.Traced.{either, stepped, traced}
use Rattle.refusal_causes.specs.inner.Reached.{noted, reached, reached_all, reached_one}
use Rattle.refusal_causes.proofs.TracedFacts.{seen, either-seen, stepped-seen, traced-seen}

noted_keeps_by : (same b : Bool) (ways found : OutWays) → has b (seen found) ≡ true → has b (seen (if same then either found ways else found)) ≡ true
noted_keeps_by true b ways found h = ap (has b) (either-seen found ways) ∙ joined_left b (seen found) (seen ways) h
noted_keeps_by false b ways found h = h

pub noted_keeps : (to at : ℕ) (b : Bool) (ways found : OutWays) → has b (seen found) ≡ true → has b (seen (noted to at ways found)) ≡ true
noted_keeps to at b ways found h = noted_keeps_by (at == to) b ways found h

pub noted_here : (to at : ℕ) (b : Bool) (ways found : OutWays) → at ≡ to → has b (seen ways) ≡ true → has b (seen (noted to at ways found)) ≡ true
noted_here to at b ways found here h =
    ap (λ same. has b (seen (if same then either found ways else found))) (eq-eqb at to here)
    ∙ ap (has b) (either-seen found ways)
    ∙ joined_right b (seen found) (seen ways) h

module _ (f to end : ℕ) where
  mutual
    reached_keeps : (s : Statement) (b : Bool) (ways found : OutWays) → has b (seen found) ≡ true → has b (seen (reached f to end s ways found)) ≡ true
    reached_keeps (Block point body) b ways found h = reached_all_keeps body b ways (noted to point ways found) (noted_keeps to point b ways found h)
    reached_keeps (If point arms) b ways found h = reached_one_keeps arms b ways (noted to point ways found) (noted_keeps to point b ways found h)
    reached_keeps (While point condition body place) b ways found h =
        let s : Statement = While point condition body place in
        let head : OutWays = traced f s ways in
        reached_all_keeps body b (stepped f s head) (noted to point head found) (noted_keeps to point b head found h)
    reached_keeps (Return point value) b ways found h = noted_keeps to end b ways (noted to point ways found) (noted_keeps to point b ways found h)
    reached_keeps s b ways found h = noted_keeps to (point_of s) b ways found h

    reached_all_keeps : (body : Statements) (b : Bool) (ways found : OutWays) → has b (seen found) ≡ true → has b (seen (reached_all f to end body ways found)) ≡ true
    reached_all_keeps no_more b ways found h = h
    reached_all_keeps (statement first others) b ways found h =
        reached_all_keeps others b (traced f first ways) (reached f to end first ways found) (reached_keeps first b ways found h)

    reached_one_keeps : (arms : Arms) (b : Bool) (ways found : OutWays) → has b (seen found) ≡ true → has b (seen (reached_one f to end arms ways found)) ≡ true
    reached_one_keeps (arm condition body others) b ways found h =
        reached_one_keeps others b ways (reached_all f to end body ways found) (reached_all_keeps body b ways found h)
    reached_one_keeps (otherwise body) b ways found h = reached_all_keeps body b ways found h
    reached_one_keeps no_else b ways found h = h

  -- the ways show the path
  abbrev Shown : Path → OutWays → Type 0
  Shown path ways = has (out_after f path) (seen ways) ≡ true

  noted_at : (at : ℕ) (path later : Path) → IsAt at to path later → (ways found : OutWays) → Shown path ways → Shown later (noted to at ways found)
  noted_at at path later there ways found h =
      ap (λ p. has (out_after f p) (seen (noted to at ways found))) there.1 ∙ noted_here to at (out_after f path) ways found there.0 h

  traced-shows : (s : Statement) (path later : Path) → Through s path later → (ways : OutWays) → Shown path ways → Shown later (traced f s ways)
  traced-shows s path later t ways h = ap (has (out_after f later)) (traced-seen f s ways) ∙ through-after f s path later t (seen ways) h

  mutual
    comes-reached : (s : Statement) (path later : Path) → Comes end s to path later → (ways found : OutWays) → Shown path ways → Shown later (reached f to end s ways found)
    comes-reached (Block point body) path later c ways found h =
        elim c [
          | inl at ↦ reached_all_keeps body (out_after f later) ways (noted to point ways found) (noted_at point path later at ways found h)
          | inr deeper ↦ comes_all-reached body path later deeper ways (noted to point ways found) h
        ]
    comes-reached (If point arms) path later c ways found h =
        elim c [
          | inl at ↦ reached_one_keeps arms (out_after f later) ways (noted to point ways found) (noted_at point path later at ways found h)
          | inr deeper ↦ comes_one-reached arms path later deeper ways (noted to point ways found) h
        ]
    comes-reached (While point condition body place) path later c ways found h =
        let s : Statement = While point condition body place in
        let head : OutWays = traced f s ways in
        let shown : Shown c.0 head = traced-shows s path c.0 c.1 ways h in
        elim c.2 [
          | inl at ↦ reached_all_keeps body (out_after f later) (stepped f s head) (noted to point head found) (noted_at point c.0 later at head found shown)
          | inr deeper ↦
              comes_all-reached body c.0 later deeper (stepped f s head) (noted to point head found) (ap (has (out_after f c.0)) (stepped-seen f s head) ∙ shown)
        ]
    comes-reached (Return point value) path later c ways found h =
        elim c [
          | inl at ↦ noted_keeps to end (out_after f later) ways (noted to point ways found) (noted_at point path later at ways found h)
          | inr at ↦ noted_at end path later at ways (noted to point ways found) h
        ]
    comes-reached s path later c ways found h = noted_at (point_of s) path later c ways found h

    pub comes_all-reached : (body : Statements) (path later : Path) → ComesAll end body to path later → (ways found : OutWays) → Shown path ways → Shown later (reached_all f to end body ways found)
    comes_all-reached no_more path later c ways found h = absurd c
    comes_all-reached (statement first others) path later c ways found h =
        elim c [
          | inl here ↦ reached_all_keeps others (out_after f later) (traced f first ways) (reached f to end first ways found) (comes-reached first path later here ways found h)
          | inr further ↦
              comes_all-reached others further.0 later further.2 (traced f first ways) (reached f to end first ways found) (traced-shows first path further.0 further.1 ways h)
        ]

    comes_one-reached : (arms : Arms) (path later : Path) → ComesOne end arms to path later → (ways found : OutWays) → Shown path ways → Shown later (reached_one f to end arms ways found)
    comes_one-reached (arm condition body others) path later c ways found h =
        elim c [
          | inl here ↦ reached_one_keeps others (out_after f later) ways (reached_all f to end body ways found) (comes_all-reached body path later here ways found h)
          | inr other ↦ comes_one-reached others path later other ways (reached_all f to end body ways found) h
        ]
    comes_one-reached (otherwise body) path later c ways found h = comes_all-reached body path later c ways found h
    comes_one-reached no_else path later c ways found h = absurd c
