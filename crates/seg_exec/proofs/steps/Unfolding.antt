-- What remains of a body is put onto the work, one position after another.
use Rattle.std.proofs.Common.{◌≡◌, ℕ, List, [], ◌∷◌, drop, Option, None, Some, refl, sym, ap, ◌∙◌}
use Rattle.std.specs.Prelude.{slice_get}
use Rattle.twe_program.specs.Statement.{Statement, Statements, statements_of}
use Rattle.seg_meaning.specs.declared.frame.Position.{Position}
use Rattle.seg_meaning.specs.Remaining.{block_at, block_of, last_of_first}
use Rattle.seg_exec.specs.inner.steps.Continuations.{Config, Rest, to_do}
use Rattle.seg_exec.specs.inner.steps.Unfolded.{again_in, with_unfolded}
use Rattle.seg_meaning.proofs.Remains.{after_is}

-- a position is put onto the work
pub unfold_step : (stmts next : List Statement) (positions inner : List Position) (position : Position) (stmt : Option Statement) (block : ℕ) (c1 c2 c3 : Config)
    → slice_get positions 0 ≡ Some position
    → inner ≡ drop 1 positions
    → c2 ≡ to_do (Rest position.block position.after (statements_of (drop position.after stmts))) c1
    → stmt ≡ last_of_first position.after (statements_of stmts)
    → c3 ≡ again_in inner stmt c2
    → block ≡ block_at inner
    → statements_of next ≡ block_of block stmt
    → with_unfolded (statements_of next) inner c3 ≡ with_unfolded (statements_of stmts) positions c1
unfold_step stmts next [] inner position stmt block c1 c2 c3 first ei e2 es e3 eb en = absurd (cc)
unfold_step stmts next (p ∷ others) inner position stmt block c1 c2 c3 first ei e2 es e3 eb en =
    let same : position ≡ p = cc in
    let last = last_of_first position.after (statements_of stmts) in
    ap (λ (x : Statements). with_unfolded x inner c3) en
    ∙ ap (λ (n : ℕ). with_unfolded (block_of n stmt) inner c3) eb
    ∙ ap (λ (c : Config). with_unfolded (block_of (block_at inner) stmt) inner c) e3
    ∙ ap (λ (s : Option Statement). with_unfolded (block_of (block_at inner) s) inner (again_in inner s c2)) es
    ∙ ap (λ (c : Config). with_unfolded (block_of (block_at inner) last) inner (again_in inner last c)) e2
    ∙ ap (λ (x : Statements). with_unfolded (block_of (block_at inner) last) inner (again_in inner last (to_do (Rest position.block position.after x) c1))) (sym (after_is position.after stmts))
    ∙ ap (λ (rest : List Position). with_unfolded (statements_of stmts) (position ∷ rest) c1) ei
    ∙ ap (λ (q : Position). with_unfolded (statements_of stmts) (q ∷ others) c1) same

pub unfold_end : (stmts : Statements) (positions : List Position) (c : Config) → slice_get positions 0 ≡ None → with_unfolded stmts positions c ≡ c
unfold_end stmts [] c none = refl
unfold_end stmts (position ∷ inner) c none = absurd (cc)

pub none_left : {A : Type 0} (o : Option A) → ((x : A) → o ≡ Some x → ⊥) → o ≡ None
none_left None not = refl
none_left (Some x) not = absurd (not x refl)
