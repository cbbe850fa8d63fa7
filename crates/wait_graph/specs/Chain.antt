-- Steps of a relation, one after another.
use Rattle.std.specs.Prelude.{ℕ}

-- from one number to another by any number of steps, none included, each step beginning where the one before it ends
pub data Chain (Step : ℕ → ℕ → Type 0) : ℕ → ℕ → Type 0 where
  none : {a : ℕ} → Chain Step a a
  more : {a b c : ℕ} → Step a b → Chain Step b c → Chain Step a c
