-- What is seen after a statement is what control paths through it make of what is seen before it.
use Rattle.std.proofs.Common.{◌≡◌, ℕ, zero, suc, Bool, true, not, ◌&&◌, ◌||◌, ◌∷◌, inl, inr, refl, ap, ◌∙◌}
use Rattle.twe_program.specs.Statement.{Statement, Block, If, While, Return, Statements, no_more, statement, Arms, arm, otherwise, no_else}
use Rattle.cover_flow.specs.declared.facts.Fact.{Fact}
use Rattle.cover_flow.specs.ControlPath.{Path, Repeated, Through, ThroughAll, ThroughOne}
use Rattle.cover_flow.specs.Out.{puts_out, takes_in, out_after}
use Rattle.cover_flow.specs.inner.After.{nowhere, joined, after_simple, after, after_all, after_one}
use Rattle.cover_flow.proofs.FactLaws.{has, nowhere-has, joined_left, joined_right, joined_from, stepped-has, stepped-from, turn_again}

-- each path that comes with the future out, or not, goes on to one with it out, or not
abbrev pub Goes : ℕ → (Path → Path → Type 0) → Bool → Bool → Type 0
Goes f Way b c = (path : Path) → out_after f path ≡ b → (later : Path) × Way path later × (out_after f later ≡ c)

-- what is seen comes from something seen before, by that way
abbrev pub Source : ℕ → (Path → Path → Type 0) → Fact → Bool → Type 0
Source f Way seen c = (b : Bool) × (has b seen ≡ true) × Goes f Way b c

simple-goes : (f : ℕ) (s : Statement) (seen : Fact) (c : Bool) → ((path : Path) → Through s path (s ∷ path)) → has c (after_simple f s seen) ≡ true → Source f (Through s) seen c
simple-goes f s seen c through h =
    let was = stepped-from (puts_out f s) (takes_in f s) c seen h in (
      was.0,
      was.1,
      λ path e. (s ∷ path, through path, ap (λ b. puts_out f s || (not (takes_in f s) && b)) e ∙ was.2),
    )

mutual
  pub after-goes : (f : ℕ) (s : Statement) (seen : Fact) (c : Bool) → has c (after f s seen) ≡ true → Source f (Through s) seen c
  after-goes f (Block point body) seen c h = after_all-goes f body seen c h
  after-goes f (If point arms) seen c h = after_one-goes f arms seen c h
  after-goes f (While point condition body place) seen c h =
      elim (joined_from c seen (after_all f body seen) h) [
        | inl here ↦ (c, here, λ path e. (path, (0, refl), e))
        | inr turned ↦ let from = after_all-goes f body seen c turned in (from.0, from.1, λ path e. let to = from.2 path e in (to.0, (1, (to.0, to.1, refl)), to.2))
      ]
  after-goes f (Return point value) seen c h = absurd (nowhere-has c h)
  after-goes f s seen c h = simple-goes f s seen c (λ path. refl) h

  pub after_all-goes : (f : ℕ) (body : Statements) (seen : Fact) (c : Bool) → has c (after_all f body seen) ≡ true → Source f (ThroughAll body) seen c
  after_all-goes f no_more seen c h = (c, h, λ path e. (path, refl, e))
  after_all-goes f (statement first others) seen c h =
      let last = after_all-goes f others (after f first seen) c h in
      let from = after-goes f first seen last.0 last.1 in (
        from.0,
        from.1,
        λ path e.
            let between = from.2 path e in
            let to = last.2 between.0 between.2 in
            (to.0, (between.0, between.1, to.1), to.2),
      )

  pub after_one-goes : (f : ℕ) (arms : Arms) (seen : Fact) (c : Bool) → has c (after_one f arms seen) ≡ true → Source f (ThroughOne arms) seen c
  after_one-goes f (arm condition body others) seen c h =
      elim (joined_from c (after_all f body seen) (after_one f others seen) h) [
        | inl here ↦ let from = after_all-goes f body seen c here in (from.0, from.1, λ path e. let to = from.2 path e in (to.0, inl to.1, to.2))
        | inr later ↦ let from = after_one-goes f others seen c later in (from.0, from.1, λ path e. let to = from.2 path e in (to.0, inr to.1, to.2))
      ]
  after_one-goes f (otherwise body) seen c h = after_all-goes f body seen c h
  after_one-goes f no_else seen c h = (c, h, λ path e. (path, refl, e))

-- where nothing is seen, nothing is seen after statements
after_all-nowhere : (f : ℕ) (body : Statements) (c : Bool) → has c (after_all f body nowhere) ≡ true → ⊥
after_all-nowhere f body c h = let from = after_all-goes f body nowhere c h in nowhere-has from.0 from.1

-- steps that show nothing new show nothing new together
repeated-closed : (f : ℕ) (Step : Path → Path → Type 0) (seen : Fact) → ((path later : Path) → Step path later → has (out_after f path) seen ≡ true → has (out_after f later) seen ≡ true) → (n : ℕ) (path later : Path) → Repeated Step n path later → has (out_after f path) seen ≡ true → has (out_after f later) seen ≡ true
repeated-closed f Step seen closed zero path later r h = ap (λ p. has (out_after f p) seen) r ∙ h
repeated-closed f Step seen closed (suc n) path later r h =
    repeated-closed f Step seen closed n r.0 later r.2 (closed path r.0 r.1 h)

simple-after : (f : ℕ) (s : Statement) (path later : Path) → later ≡ s ∷ path → (seen : Fact) → has (out_after f path) seen ≡ true → has (out_after f later) (after_simple f s seen) ≡ true
simple-after f s path later e seen h =
    ap (λ p. has (out_after f p) (after_simple f s seen)) e ∙ stepped-has (puts_out f s) (takes_in f s) (out_after f path) seen h

mutual
  pub through-after : (f : ℕ) (s : Statement) (path later : Path) → Through s path later → (seen : Fact) → has (out_after f path) seen ≡ true → has (out_after f later) (after f s seen) ≡ true
  through-after f (Block point body) path later t seen h = through_all-after f body path later t seen h
  through-after f (If point arms) path later t seen h = through_one-after f arms path later t seen h
  through-after f (While point condition body place) path later t seen h =
      let g : Fact → Fact = after_all f body in
      repeated-closed f (ThroughAll body) (joined seen (g seen))
      (λ before next turn shown. turn_again g (after_all-nowhere f body) seen (out_after f next) (through_all-after f body before next turn (joined seen (g seen)) shown))
      t.0 path later t.1 (joined_left (out_after f path) seen (g seen) h)
  through-after f (Return point value) path later t seen h = absurd t
  through-after f s path later t seen h = simple-after f s path later t seen h

  pub through_all-after : (f : ℕ) (body : Statements) (path later : Path) → ThroughAll body path later → (seen : Fact) → has (out_after f path) seen ≡ true → has (out_after f later) (after_all f body seen) ≡ true
  through_all-after f no_more path later t seen h = ap (λ p. has (out_after f p) seen) t ∙ h
  through_all-after f (statement first others) path later t seen h =
      through_all-after f others t.0 later t.2 (after f first seen) (through-after f first path t.0 t.1 seen h)

  pub through_one-after : (f : ℕ) (arms : Arms) (path later : Path) → ThroughOne arms path later → (seen : Fact) → has (out_after f path) seen ≡ true → has (out_after f later) (after_one f arms seen) ≡ true
  through_one-after f (arm condition body others) path later t seen h =
      elim t [
        | inl here ↦ joined_left (out_after f later) (after_all f body seen) (after_one f others seen) (through_all-after f body path later here seen h)
        | inr other ↦ joined_right (out_after f later) (after_all f body seen) (after_one f others seen) (through_one-after f others path later other seen h)
      ]
  through_one-after f (otherwise body) path later t seen h = through_all-after f body path later t seen h
  through_one-after f no_else path later t seen h = ap (λ p. has (out_after f p) seen) t ∙ h
