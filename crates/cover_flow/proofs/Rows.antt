-- A row of the body says exactly what control paths from its start come to each point.
use Rattle.std.proofs.Common.{◌≡◌, ◌<◌, ℕ, Bool, true, false, List, [], length, replicate, inl, inr, refl, sym, ap, ◌∙◌, subst, arith}
use Rattle.std.proofs.lemmas.List.{get_or-replicate, length-replicate}
use Rattle.twe_program.specs.declared.program.Body.{Body}
use Rattle.cover_flow.specs.declared.facts.Fact.{Fact}
use Rattle.cover_flow.specs.ControlPath.{Path, end_of, ControlPath}
use Rattle.cover_flow.specs.Out.{out_after}
use Rattle.cover_flow.specs.inner.After.{nowhere, at_start, after_all}
use Rattle.cover_flow.specs.inner.Marked.{noted, marked_all, row_of}
use Rattle.cover_flow.proofs.FactLaws.{has, nowhere-has}
use Rattle.cover_flow.proofs.AfterLaws.{after_all-goes, through_all-after}
use Rattle.cover_flow.proofs.Notes.{has_at, noted_here, noted_keeps, noted_from}
use Rattle.cover_flow.proofs.MarkedLaws.{length-marked_all, comes_all-marked, marked_all-goes}

-- some control path comes to the point with the future out, or not
abbrev pub SomePath : Body → ℕ → ℕ → Bool → Type 0
SomePath body point f b = (path : Path) × ControlPath body point path × (out_after f path ≡ b)

start_is : (b : Bool) → has b at_start ≡ true → false ≡ b
start_is true h = h
start_is false h = refl

pub row-path : (body : Body) (f point : ℕ) (b : Bool) → point < body.points → has_at b (row_of body f) point ≡ true → SomePath body point f b
row-path body f point b there h =
    let end = end_of body in
    let empty : List Fact = replicate body.points nowhere in
    let inner : List Fact = marked_all f end body.block at_start empty in
    let long : point < length empty = omega (arith, length-replicate body.points nowhere) in
    let inside : point < length inner = omega (arith, length-marked_all f end body.block at_start empty) in
    elim (noted_from b inner point end (after_all f body.block at_start) inside h) [
      | inl was ↦ elim (marked_all-goes f end body.block at_start empty point b long was) [
        | inl before ↦ absurd (nowhere-has b (sym (ap (has b) (get_or-replicate body.points point nowhere nowhere there)) ∙ before))
        | inr found ↦ let go = found.2 [] (start_is found.0 found.1) in (go.0, inl go.1, go.2)
      ]
      | inr new ↦
          let from = after_all-goes f body.block at_start b new.1 in
          let go = from.2 [] (start_is from.0 from.1) in
          (go.0, inr (new.0, go.1), go.2)
    ]

pub path-row : (body : Body) (f point : ℕ) (b : Bool) → point < body.points → SomePath body point f b → has_at b (row_of body f) point ≡ true
path-row body f point b there some =
    let end = end_of body in
    let path = some.0 in
    let empty : List Fact = replicate body.points nowhere in
    let inner : List Fact = marked_all f end body.block at_start empty in
    let last : Fact = after_all f body.block at_start in
    let long : point < length empty = omega (arith, length-replicate body.points nowhere) in
    let inside : point < length inner = omega (arith, length-marked_all f end body.block at_start empty) in
    let shown : has_at (out_after f path) (noted inner end last) point ≡ true = elim some.1 [
      | inl comes ↦ noted_keeps (out_after f path) inner point end last inside (comes_all-marked f end body.block point [] path comes at_start refl empty long)
      | inr through ↦
          let P : ℕ → Type 0 = λ q. q < length inner → has_at (out_after f path) (noted inner end last) q ≡ true in
          let shows : has (out_after f path) last ≡ true = through_all-after f body.block [] path through.1 at_start refl in
          subst P through.0 (λ here. noted_here (out_after f path) inner end last here shows) inside
    ] in
    subst (λ x. has_at x (row_of body f) point ≡ true) some.2 shown
