-- Blocks and branches by their numbers.
use Rattle.std.proofs.Common.{◌≡◌, ◌-◌, ℕ, zero, suc, List, [], ◌∷◌, drop, Option, None, Some, refl, ap, ◌∙◌, arith}
use Rattle.std.specs.Prelude.{slice_get}
use Rattle.twe_program.specs.declared.stmt.Arm.{Arm}
use Rattle.twe_program.specs.Statement.{Statement, Statements, no_more, statements_of}
use Rattle.twe_program.specs.inner.StatementView.{arms_of}
use Rattle.seg_meaning.specs.Remaining.{after_first, branch_of, last_of_first}

last_is_suc : (n : ℕ) (stmts : List Statement) → last_of_first (suc n) (statements_of stmts) ≡ slice_get stmts n
last_is_suc n [] = refl
last_is_suc zero (first ∷ others) = refl
last_is_suc (suc n) (first ∷ others) = last_is_suc n others

pub last_is : (n : ℕ) (stmts : List Statement) → (n ≡ 0 → ⊥) → last_of_first n (statements_of stmts) ≡ slice_get stmts (n - 1)
last_is zero stmts some = absurd (some refl)
last_is (suc n) stmts some =
    let same : n ≡ suc n - 1 = omega arith in
    last_is_suc n stmts ∙ ap (slice_get stmts) same

pub after_is : (n : ℕ) (stmts : List Statement) → after_first n (statements_of stmts) ≡ statements_of (drop n stmts)
after_is zero stmts = refl
after_is (suc n) [] = refl
after_is (suc n) (first ∷ others) = after_is n others

pub branch_is : (n : ℕ) (arms : List Arm) (last : Option Statements) (arm : Arm) → slice_get arms n ≡ Some arm → branch_of n (arms_of arms last) ≡ arm.body
branch_is n [] last arm found = absurd (cc)
branch_is zero (first ∷ others) last arm found = let same : first ≡ arm = cc in ap (λ (a : Arm). a.body) same
branch_is (suc n) (first ∷ others) last arm found = branch_is n others last arm found

pub branch_past : (n : ℕ) (arms : List Arm) (last : Option Statements) (body : Statements) → slice_get arms n ≡ None → last ≡ Some body → branch_of n (arms_of arms last) ≡ body
branch_past n [] None body past is = absurd (cc)
branch_past n [] (Some last) body past is = cc
branch_past zero (first ∷ others) last body past is = absurd (cc)
branch_past (suc n) (first ∷ others) last body past is = branch_past n others last body past is

pub no_branch : (n : ℕ) (arms : List Arm) (last : Option Statements) → slice_get arms n ≡ None → last ≡ None → branch_of n (arms_of arms last) ≡ no_more
no_branch n [] None past is = refl
no_branch n [] (Some last) past is = absurd (cc)
no_branch zero (first ∷ others) last past is = absurd (cc)
no_branch (suc n) (first ∷ others) last past is = no_branch n others last past is
