-- Paths of numbers.
use Rattle.std.proofs.Common.{ℕ, List, [], ◌∷◌, ◌++◌}
use Rattle.held_span.specs.inner.Paths.{IsPath}

-- a path goes on by one edge
pub path-more : (Kept : ℕ → ℕ → Type 0) (i : ℕ) (between : List ℕ) (j k : ℕ) → IsPath Kept i between j → Kept j k → IsPath Kept i (between ++ j ∷ []) k
path-more Kept i [] j k path last = (path, last)
path-more Kept i (n ∷ between) j k path last = (path.0, path-more Kept n between j k path.1 last)

-- a path of edges that are also others
pub path-map : (Kept Other : ℕ → ℕ → Type 0) → ((i j : ℕ) → Kept i j → Other i j) → (i : ℕ) (between : List ℕ) (j : ℕ) → IsPath Kept i between j → IsPath Other i between j
path-map Kept Other f i [] j path = f i j path
path-map Kept Other f i (n ∷ between) j path = (f i n path.0, path-map Kept Other f n between j path.1)
