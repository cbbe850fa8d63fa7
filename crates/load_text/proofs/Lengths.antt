-- The text is no longer than a program text may be.
use Rattle.std.proofs.Common.{◌≡◌, ℕ, ◌+◌, ◌*◌, ◌%◌, ◌^◌, ◌<◌, ◌≤◌, zero, suc, List, ◌++◌, length, length-append, arith}
use Rattle.std.specs.Prelude.{decimal}
use Rattle.std.proofs.lemmas.Fmt.{length-decimal-le}
use Rattle.load_text.specs.Text.{load_cell_line, child_line, parent_line, cell_lines, start_line, each_below, load_text_of}

-- a number has at most four digits
digits_most : (n : ℕ) → n < 10000 → length (decimal n) ≤ 4
digits_most n small = length-decimal-le 4 n (omega arith) (omega arith) (omega arith)

cell_most : (i : ℕ) → i < 2000 → length (load_cell_line i) ≤ 31
cell_most i small =
    let digits = digits_most i (omega arith) in
    let value = digits_most ((7 * i) % 1000) (omega arith) in
    simp length-append (omega arith)

child_most : (i : ℕ) → i < 2000 → length (child_line i) ≤ 90
child_most i small = let digits = digits_most i (omega arith) in simp length-append (omega arith)

parent_most : (i : ℕ) → i < 2000 → length (parent_line i) ≤ 100
parent_most i small = let digits = digits_most i (omega arith) in simp length-append (omega arith)

lines_most : (i : ℕ) → i < 2000 → length (cell_lines i) ≤ 221
lines_most i small =
    let cell = cell_most i small in
    let child = child_most i small in
    let parent = parent_most i small in
    omega (arith, length-append (load_cell_line i) (child_line i ++ parent_line i), length-append (child_line i) (parent_line i))

start_most : (i : ℕ) → i < 2000 → length (start_line i) ≤ 40
start_most i small = let digits = digits_most i (omega arith) in simp length-append (omega arith)

each_most : (text : ℕ → List ℕ) (most : ℕ) → ((i : ℕ) → i < 2000 → length (text i) ≤ most) → (n : ℕ) → n ≤ 2000 → length (each_below text n) ≤ most * n
each_most text most each zero small = omega arith
each_most text most each (suc n) small =
    let before = each_most text most each n (omega arith) in
    let here = each n (omega arith) in
    omega (arith, length-append (each_below text n) (text n))

-- the whole text
pub text_fits : (n : ℕ) → n ≤ 2000 → length (load_text_of n) ≤ 1048576
text_fits n small =
    let cells = each_most cell_lines 221 lines_most n small in
    let starts = each_most start_line 40 start_most n small in
    simp length-append (omega arith)
