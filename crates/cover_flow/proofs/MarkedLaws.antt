-- What is marked at a point is what control paths to it make of what is seen at the start.
use Rattle.std.proofs.Common.{◌≡◌, ◌<◌, ℕ, Bool, true, List, length, ◌⊎◌, inl, inr, refl, ap, ◌∙◌, subst, arith}
use Rattle.twe_program.specs.Statement.{Statement, Block, If, While, Return, Statements, no_more, statement, Arms, arm, otherwise, no_else}
use Rattle.cover_flow.specs.declared.facts.Fact.{Fact}
use Rattle.cover_flow.specs.ControlPath.{Path, IsAt, point_of, Comes, ComesAll, ComesOne}
use Rattle.cover_flow.specs.Out.{out_after}
use Rattle.cover_flow.specs.inner.After.{joined, after, after_all}
use Rattle.cover_flow.specs.inner.Marked.{noted, marked, marked_all, marked_one}
use Rattle.cover_flow.proofs.FactLaws.{has}
use Rattle.cover_flow.proofs.AfterLaws.{Goes, after-goes, through-after}
use Rattle.cover_flow.proofs.Notes.{has_at, length-noted, noted_here, noted_keeps, noted_from}

module _ (f end : ℕ) where
  mutual
    pub length-marked : (s : Statement) (seen : Fact) (row : List Fact) → length (marked f end s seen row) ≡ length row
    length-marked (Block point body) seen row = length-marked_all body seen (noted row point seen) ∙ length-noted row point seen
    length-marked (If point arms) seen row = length-marked_one arms seen (noted row point seen) ∙ length-noted row point seen
    length-marked (While point condition body place) seen row =
        let head = joined seen (after_all f body seen) in
        length-marked_all body head (noted row point head) ∙ length-noted row point head
    length-marked (Return point value) seen row = length-noted (noted row point seen) end seen ∙ length-noted row point seen
    length-marked s seen row = length-noted row (point_of s) seen

    pub length-marked_all : (body : Statements) (seen : Fact) (row : List Fact) → length (marked_all f end body seen row) ≡ length row
    length-marked_all no_more seen row = refl
    length-marked_all (statement first others) seen row =
        length-marked_all others (after f first seen) (marked f end first seen row) ∙ length-marked first seen row

    pub length-marked_one : (arms : Arms) (seen : Fact) (row : List Fact) → length (marked_one f end arms seen row) ≡ length row
    length-marked_one (arm condition body others) seen row =
        length-marked_one others seen (marked_all f end body seen row) ∙ length-marked_all body seen row
    length-marked_one (otherwise body) seen row = length-marked_all body seen row
    length-marked_one no_else seen row = refl

  -- the point is one of the row's
  abbrev Within : ℕ → List Fact → Type 0
  Within to row = to < length row

  noted_within : (row : List Fact) (to point : ℕ) (seen : Fact) → Within to row → Within to (noted row point seen)
  noted_within row to point seen w = omega (arith, length-noted row point seen)

  -- what is there stays
  mutual
    marked_keeps : (s : Statement) (seen : Fact) (row : List Fact) (to : ℕ) (b : Bool) → Within to row → has_at b row to ≡ true → has_at b (marked f end s seen row) to ≡ true
    marked_keeps (Block point body) seen row to b w h =
        marked_all_keeps body seen (noted row point seen) to b (noted_within row to point seen w) (noted_keeps b row to point seen w h)
    marked_keeps (If point arms) seen row to b w h =
        marked_one_keeps arms seen (noted row point seen) to b (noted_within row to point seen w) (noted_keeps b row to point seen w h)
    marked_keeps (While point condition body place) seen row to b w h =
        let head = joined seen (after_all f body seen) in
        marked_all_keeps body head (noted row point head) to b (noted_within row to point head w) (noted_keeps b row to point head w h)
    marked_keeps (Return point value) seen row to b w h =
        noted_keeps b (noted row point seen) to end seen (noted_within row to point seen w) (noted_keeps b row to point seen w h)
    marked_keeps s seen row to b w h = noted_keeps b row to (point_of s) seen w h

    marked_all_keeps : (body : Statements) (seen : Fact) (row : List Fact) (to : ℕ) (b : Bool) → Within to row → has_at b row to ≡ true → has_at b (marked_all f end body seen row) to ≡ true
    marked_all_keeps no_more seen row to b w h = h
    marked_all_keeps (statement first others) seen row to b w h =
        marked_all_keeps others (after f first seen) (marked f end first seen row) to b (omega (arith, length-marked first seen row)) (marked_keeps first seen row to b w h)

    marked_one_keeps : (arms : Arms) (seen : Fact) (row : List Fact) (to : ℕ) (b : Bool) → Within to row → has_at b row to ≡ true → has_at b (marked_one f end arms seen row) to ≡ true
    marked_one_keeps (arm condition body others) seen row to b w h =
        marked_one_keeps others seen (marked_all f end body seen row) to b (omega (arith, length-marked_all body seen row)) (marked_all_keeps body seen row to b w h)
    marked_one_keeps (otherwise body) seen row to b w h = marked_all_keeps body seen row to b w h
    marked_one_keeps no_else seen row to b w h = h

  -- a path that is at the point shows there
  noted_at : (row : List Fact) (point to : ℕ) (path later : Path) → IsAt point to path later → (seen : Fact) → has (out_after f path) seen ≡ true → Within to row → has_at (out_after f later) (noted row point seen) to ≡ true
  noted_at row point to path later at seen h w =
      let P : ℕ → Type 0 = λ q. Within q row → has_at (out_after f path) (noted row point seen) q ≡ true in
      ap (λ p. has_at (out_after f p) (noted row point seen) to) at.1 ∙ subst P at.0 (λ here. noted_here (out_after f path) row point seen here h) w

  -- each control path to a point shows there
  mutual
    pub comes-marked : (s : Statement) (to : ℕ) (path later : Path) → Comes end s to path later → (seen : Fact) → has (out_after f path) seen ≡ true → (row : List Fact) → Within to row → has_at (out_after f later) (marked f end s seen row) to ≡ true
    comes-marked (Block point body) to path later c seen h row w =
        let inside = noted_within row to point seen w in
        elim c [
          | inl at ↦ marked_all_keeps body seen (noted row point seen) to (out_after f later) inside (noted_at row point to path later at seen h w)
          | inr deeper ↦ comes_all-marked body to path later deeper seen h (noted row point seen) inside
        ]
    comes-marked (If point arms) to path later c seen h row w =
        let inside = noted_within row to point seen w in
        elim c [
          | inl at ↦ marked_one_keeps arms seen (noted row point seen) to (out_after f later) inside (noted_at row point to path later at seen h w)
          | inr deeper ↦ comes_one-marked arms to path later deeper seen h (noted row point seen) inside
        ]
    comes-marked (While point condition body place) to path later c seen h row w =
        let head = joined seen (after_all f body seen) in
        let inside = noted_within row to point head w in
        let shown : has (out_after f c.0) head ≡ true = through-after f (While point condition body place) path c.0 c.1 seen h in
        elim c.2 [
          | inl at ↦ marked_all_keeps body head (noted row point head) to (out_after f later) inside (noted_at row point to c.0 later at head shown w)
          | inr deeper ↦ comes_all-marked body to c.0 later deeper head shown (noted row point head) inside
        ]
    comes-marked (Return point value) to path later c seen h row w =
        let inside = noted_within row to point seen w in
        elim c [
          | inl at ↦ noted_keeps (out_after f later) (noted row point seen) to end seen inside (noted_at row point to path later at seen h w)
          | inr at ↦ noted_at (noted row point seen) end to path later at seen h inside
        ]
    comes-marked s to path later c seen h row w = noted_at row (point_of s) to path later c seen h w

    pub comes_all-marked : (body : Statements) (to : ℕ) (path later : Path) → ComesAll end body to path later → (seen : Fact) → has (out_after f path) seen ≡ true → (row : List Fact) → Within to row → has_at (out_after f later) (marked_all f end body seen row) to ≡ true
    comes_all-marked no_more to path later c seen h row w = absurd c
    comes_all-marked (statement first others) to path later c seen h row w =
        let inside : Within to (marked f end first seen row) = omega (arith, length-marked first seen row) in
        elim c [
          | inl here ↦ marked_all_keeps others (after f first seen) (marked f end first seen row) to (out_after f later) inside (comes-marked first to path later here seen h row w)
          | inr further ↦
              comes_all-marked others to further.0 later further.2 (after f first seen) (through-after f first path further.0 further.1 seen h) (marked f end first seen row) inside
        ]

    pub comes_one-marked : (arms : Arms) (to : ℕ) (path later : Path) → ComesOne end arms to path later → (seen : Fact) → has (out_after f path) seen ≡ true → (row : List Fact) → Within to row → has_at (out_after f later) (marked_one f end arms seen row) to ≡ true
    comes_one-marked (arm condition body others) to path later c seen h row w =
        let inside : Within to (marked_all f end body seen row) = omega (arith, length-marked_all body seen row) in
        elim c [
          | inl here ↦ marked_one_keeps others seen (marked_all f end body seen row) to (out_after f later) inside (comes_all-marked body to path later here seen h row w)
          | inr other ↦ comes_one-marked others to path later other seen h (marked_all f end body seen row) inside
        ]
    comes_one-marked (otherwise body) to path later c seen h row w = comes_all-marked body to path later c seen h row w
    comes_one-marked no_else to path later c seen h row w = absurd c

  -- it was in the row before, or comes from something seen at the start, by that way
  abbrev pub Source : (Path → Path → Type 0) → Fact → List Fact → ℕ → Bool → Type 0
  Source Way seen row to c = (has_at c row to ≡ true) ⊎ ((b : Bool) × (has b seen ≡ true) × Goes f Way b c)

  -- by a way that leads on by the second one too
  led : (Way Other : Path → Path → Type 0) → ((path later : Path) → Way path later → Other path later) → (seen : Fact) (row : List Fact) (to : ℕ) (c : Bool) → Source Way seen row to c → Source Other seen row to c
  led Way Other on seen row to c source =
      elim source [
        | inl already ↦ inl already
        | inr found ↦ inr (found.0, found.1, λ path e. let go = found.2 path e in (go.0, on path go.0 go.1, go.2))
      ]

  -- from the row before something was noted at a point
  unnoted : (Way : Path → Path → Type 0) (point : ℕ) (seen : Fact) (row : List Fact) (to : ℕ) (c : Bool) → Within to row → ((path later : Path) → IsAt point to path later → Way path later) → Source Way seen (noted row point seen) to c → Source Way seen row to c
  unnoted Way point seen row to c w at source =
      elim source [
        | inl noted ↦ elim (noted_from c row to point seen w noted) [
          | inl already ↦ inl already
          | inr new ↦ inr (c, new.1, λ path e. (path, at path path (new.0, refl), e))
        ]
        | inr found ↦ inr found
      ]

  mutual
    pub marked-goes : (s : Statement) (seen : Fact) (row : List Fact) (to : ℕ) (c : Bool) → Within to row → has_at c (marked f end s seen row) to ≡ true → Source (Comes end s to) seen row to c
    marked-goes (Block point body) seen row to c w h =
        let Way : Path → Path → Type 0 = Comes end (Block point body) to in
        let deeper = marked_all-goes body seen (noted row point seen) to c (noted_within row to point seen w) h in
        unnoted Way point seen row to c w (λ path later at. inl at) (led (ComesAll end body to) Way (λ path later go. inr go) seen (noted row point seen) to c deeper)
    marked-goes (If point arms) seen row to c w h =
        let Way : Path → Path → Type 0 = Comes end (If point arms) to in
        let deeper = marked_one-goes arms seen (noted row point seen) to c (noted_within row to point seen w) h in
        unnoted Way point seen row to c w (λ path later at. inl at) (led (ComesOne end arms to) Way (λ path later go. inr go) seen (noted row point seen) to c deeper)
    marked-goes (While point condition body place) seen row to c w h =
        let s : Statement = While point condition body place in
        let head = joined seen (after_all f body seen) in
        let Turn : Path → Path → Type 0 = λ turned later. IsAt point to turned later ⊎ ComesAll end body to turned later in
        let deeper = marked_all-goes body head (noted row point head) to c (noted_within row to point head w) h in
        let led_on = led (ComesAll end body to) Turn (λ path later go. inr go) head (noted row point head) to c deeper in
        elim (unnoted Turn point head row to c w (λ path later at. inl at) led_on) [
          | inl already ↦ inl already
          | inr found ↦
              let from = after-goes f s seen found.0 found.1 in
              inr (
                from.0,
                from.1,
                λ path e.
                    let turned = from.2 path e in
                    let go = found.2 turned.0 turned.2 in
                    (go.0, (turned.0, turned.1, go.1), go.2),
              )
        ]
    marked-goes (Return point value) seen row to c w h =
        let Way : Path → Path → Type 0 = Comes end (Return point value) to in
        let at_end = unnoted Way end seen (noted row point seen) to c (noted_within row to point seen w) (λ path later at. inr at) (inl h) in
        unnoted Way point seen row to c w (λ path later at. inl at) at_end
    marked-goes s seen row to c w h = unnoted (IsAt (point_of s) to) (point_of s) seen row to c w (λ path later at. at) (inl h)

    pub marked_all-goes : (body : Statements) (seen : Fact) (row : List Fact) (to : ℕ) (c : Bool) → Within to row → has_at c (marked_all f end body seen row) to ≡ true → Source (ComesAll end body to) seen row to c
    marked_all-goes no_more seen row to c w h = inl h
    marked_all-goes (statement first others) seen row to c w h =
        let Way : Path → Path → Type 0 = ComesAll end (statement first others) to in
        elim (marked_all-goes others (after f first seen) (marked f end first seen row) to c (omega (arith, length-marked first seen row)) h) [
          | inl was ↦ led (Comes end first to) Way (λ path later go. inl go) seen row to c (marked-goes first seen row to c w was)
          | inr found ↦
              let from = after-goes f first seen found.0 found.1 in
              inr (
                from.0,
                from.1,
                λ path e.
                    let between = from.2 path e in
                    let go = found.2 between.0 between.2 in
                    (go.0, inr (between.0, between.1, go.1), go.2),
              )
        ]

    pub marked_one-goes : (arms : Arms) (seen : Fact) (row : List Fact) (to : ℕ) (c : Bool) → Within to row → has_at c (marked_one f end arms seen row) to ≡ true → Source (ComesOne end arms to) seen row to c
    marked_one-goes (arm condition body others) seen row to c w h =
        let Way : Path → Path → Type 0 = ComesOne end (arm condition body others) to in
        elim (marked_one-goes others seen (marked_all f end body seen row) to c (omega (arith, length-marked_all body seen row)) h) [
          | inl was ↦ led (ComesAll end body to) Way (λ path later go. inl go) seen row to c (marked_all-goes body seen row to c w was)
          | inr found ↦ inr (found.0, found.1, λ path e. let go = found.2 path e in (go.0, inr go.1, go.2))
        ]
    marked_one-goes (otherwise body) seen row to c w h = marked_all-goes body seen row to c w h
    marked_one-goes no_else seen row to c w h = inl h
