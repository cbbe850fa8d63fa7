-- The text of the load generator: n cells, each with a task that changes it and a task that adds it to the cell `s`, and a
-- task `main` that starts all of the latter. Numbers are decimal without leading zeros, and each line ends with the byte 10.
use Rattle.std.specs.Prelude.{◌+◌, ◌*◌, ◌%◌, ℕ, zero, suc, List, [], ◌++◌, codes, decimal}

-- a word and a number after it
abbrev pub numbered : List ℕ → ℕ → List ℕ
numbered word number = word ++ decimal number

-- `int c7 in R:[7] = 49;`
abbrev pub load_cell_line : ℕ → List ℕ
load_cell_line i =
    numbered (codes "int c") i ++ (numbered (codes " in R:[") i ++ (numbered (codes "] = ") ((7 * i) % 1000) ++ codes ";\n"))

-- `] { c7 = c7 * 3 + 7; }`
abbrev pub change_part : ℕ → List ℕ
change_part i = numbered (codes "] { c") i ++ (numbered (codes " = c") i ++ (numbered (codes " * 3 + ") i ++ codes "; }\n"))

-- `deterministic task void u7() writes R:[7] { c7 = c7 * 3 + 7; }`
abbrev pub child_line : ℕ → List ℕ
child_line i = numbered (codes "deterministic task void u") i ++ (numbered (codes "() writes R:[") i ++ change_part i)

-- `task void t7() writes R:[7], S { future f = u7.spawn(); f.join(); s = s + c7; }`
abbrev pub parent_line : ℕ → List ℕ
parent_line i =
    numbered (codes "task void t") i ++ (numbered (codes "() writes R:[") i ++ (numbered (codes "], S { future f = u") i
    ++ (numbered (codes ".spawn(); f.join(); s = s + c") i ++ codes "; }\n")))

-- the lines of a cell and of its two tasks
abbrev pub cell_lines : ℕ → List ℕ
cell_lines i = load_cell_line i ++ (child_line i ++ parent_line i)

-- `future f7 = t7.executeLater();`
abbrev pub start_line : ℕ → List ℕ
start_line i = numbered (codes "future f") i ++ (numbered (codes " = t") i ++ codes ".executeLater();\n")

-- the text of each number below n, in order
abbrev pub each_below : (ℕ → List ℕ) → ℕ → List ℕ
each_below text zero = []
each_below text (suc n) = each_below text n ++ text n

-- the text of the load generator for n cells
abbrev pub load_text_of : ℕ → List ℕ
load_text_of n =
    codes "region R, S;\nint s in S;\n" ++ (each_below cell_lines n
    ++ (codes "task void main() pure {\n" ++ (each_below start_line n ++ codes "}\n")))
