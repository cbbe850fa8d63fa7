-- The limits of the language, and those of a run, as numbers.
use Rattle.std.specs.Prelude.{ℕ}

-- the largest numbers that the language allows: of bytes in a program text
abbrev pub max_text_bytes : ℕ
max_text_bytes = 1048576

-- of an integer literal; the number after it may stand only directly after a unary minus
abbrev pub max_literal : ℕ
max_literal = 2147483647

-- of brackets that are open at once
abbrev pub max_open_brackets : ℕ
max_open_brackets = 200

-- of operators in a statement
abbrev pub max_operators : ℕ
max_operators = 200

-- of cells in a program, including the elements of arrays and grids
abbrev pub max_cells : ℕ
max_cells = 65536

-- of nodes of the tree of regions
abbrev pub max_nodes : ℕ
max_nodes = 131072

-- of elements of a written path, including `*`
abbrev pub max_path_elements : ℕ
max_path_elements = 32

-- of effects in a declaration
abbrev pub max_effects : ℕ
max_effects = 8

-- of parameters of a declaration
abbrev pub max_parameters : ℕ
max_parameters = 4

-- of method calls that are active in one task at once
abbrev pub max_active_calls : ℕ
max_active_calls = 1000

-- the most fuel that a command line may give a task
abbrev pub max_fuel : ℕ
max_fuel = 100000000

-- the fuel of a task if the command line gives none
abbrev pub default_fuel : ℕ
default_fuel = 1000000

-- the most tasks that a command line may allow a run to make
abbrev pub max_tasks : ℕ
max_tasks = 100000

-- how many tasks a run may make if the command line gives no limit
abbrev pub default_tasks : ℕ
default_tasks = 10000
