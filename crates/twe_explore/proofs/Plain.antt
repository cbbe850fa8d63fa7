-- The data of the results has no number with a point, and nests little.
use Rattle.std.proofs.Common.{◌≡◌, ◌≤◌, ◌||◌, ℕ, zero, suc, Bool, max, false, List, [], ◌∷◌, refl, sym, ap, ◌∙◌, subst, arith}
use Rattle.std.proofs.Math.Nat.{max-eq_left}
use Rattle.serde_json.specs.Data.{Data, depth, items_depth}
use Rattle.serde_json.specs.Read.{max_depth}
use Rattle.serde_json.specs.View.{items_of}
use Rattle.serde_json.specs.Written.{has_float, items_have_float}
use Rattle.twe_base.specs.Limits.{Bounds}
use Rattle.flat_sched.specs.declared.ending.WholeRun.{WholeRun}
use Rattle.twe_io.specs.declared.answer.Answer.{Answer}
use Rattle.twe_explore.specs.Json.{explored_data, results_data}

pub results_are_plain : (lim : Bounds) (runs : List WholeRun) (answers : List Answer)
    → items_have_float (items_of (results_data lim runs answers)) ≡ false
results_are_plain lim [] answers = refl
results_are_plain lim (run ∷ runs) [] = refl
results_are_plain lim (run ∷ runs) (answer ∷ answers) = results_are_plain lim runs answers

-- what nests no deeper than 1, with one value more that does
one_more : (n : ℕ) → n ≤ 1 → max 1 n ≤ 1
one_more n small = let one : 1 ≤ 1 = omega arith in subst (λ (m : ℕ). m ≤ 1) (sym (max-eq_left small)) one

pub results_nest : (lim : Bounds) (runs : List WholeRun) (answers : List Answer) → items_depth (items_of (results_data lim runs answers)) ≤ 1
results_nest lim [] answers = omega arith
results_nest lim (run ∷ runs) [] = omega arith
results_nest lim (run ∷ runs) (answer ∷ answers) =
    one_more (items_depth (items_of (results_data lim runs answers))) (results_nest lim runs answers)

plain_with : (b : Bool) → b ≡ false → (b || false) ≡ false
plain_with b is = ap (λ (x : Bool). x || false) is

pub explored_is_plain : (whole : Bool) (results : List Data) (states : ℕ) → items_have_float (items_of results) ≡ false
    → has_float (explored_data whole results states) ≡ false
explored_is_plain whole results states plain = plain_with (items_have_float (items_of results)) plain

-- what an object nests, if it has an array of what nests no deeper than 1
nests_little : (n : ℕ) → n ≤ 1 → suc (max 0 (max (suc n) (max 0 0))) ≤ max_depth
nests_little zero small = omega arith
nests_little (suc zero) small = omega arith
nests_little (suc (suc n)) small = absurd (omega (arith, small))

pub explored_is_shallow : (whole : Bool) (results : List Data) (states : ℕ) → items_depth (items_of results) ≤ 1
    → depth (explored_data whole results states) ≤ max_depth
explored_is_shallow whole results states small = nests_little (items_depth (items_of results)) small
