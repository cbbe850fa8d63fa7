-- Two logs that lie in the same parts are one.
use Rattle.std.proofs.Common.{◌≡◌, ◌<◌, ◌≤◌, ℕ, Bool, true, false, cond, List, length, refl, sym, ap, ◌∙◌, ⊎_elim, arith, eq-eqb, lt-ltb, ltb-true, nat_lt}
use Rattle.std.specs.Prelude.{◌&&◌, ◌==◌}
use Rattle.seg_journal.specs.declared.numbered.NumberedEntry.{NumberedEntry}
use Rattle.floor_laws.specs.rule.Rule.{LiesInParts, times_drawn}
use Rattle.floor_laws.proofs.table.nodes.Elements.{below_or}
use Rattle.floor_laws.proofs.table.nodes.OneLog.{one_log}

zero_one : ◌≡◌ {A = ℕ} 0 1 → ⊥
zero_one is = omega (arith, is)

-- an entry of a log is drawn once, by its owner
drawn_once : (log : List NumberedEntry) (owner : ℕ → ℕ) (n : ℕ) → n < length log → times_drawn log owner (owner n) n ≡ 1
drawn_once log owner n below =
    ap (λ (b : Bool). cond {A = ℕ} (b && (owner n == owner n)) 1 0) (lt-ltb n (length log) below)
    ∙ ap (λ (b : Bool). cond {A = ℕ} (true && b) 1 0) (eq-eqb (owner n) (owner n) refl)

-- a number that was drawn is one of the log
drawn_within : (log : List NumberedEntry) (owner : ℕ → ℕ) (i n : ℕ) → times_drawn log owner i n ≡ 1 → n < length log
drawn_within log owner i n one = by (nat_lt n (length log)) refl
  where
    by : (test : Bool) → nat_lt n (length log) ≡ test → n < length log
    by true is = ltb-true n (length log) is
    by false is = absurd (zero_one (ap (λ (b : Bool). cond {A = ℕ} (b && (owner n == i)) 1 0) (sym is) ∙ one))

-- the numbers of one log are numbers of the other
numbers_within : (a b : List NumberedEntry) (parts : ℕ → List NumberedEntry) → LiesInParts a parts → LiesInParts b parts → (n : ℕ) → n < length a → n < length b
numbers_within a b parts in_a in_b n below =
    drawn_within b in_b.owner (in_a.owner n) n (sym (in_b.once (in_a.owner n) n) ∙ (in_a.once (in_a.owner n) n ∙ drawn_once a in_a.owner n below))

no_longer : (m n : ℕ) → ((k : ℕ) → k < m → k < n) → m ≤ n
no_longer m n within = ⊎_elim (λ (longer : n < m). let self = within n longer in absurd (omega (arith, self))) (λ (short : m ≤ n). short) (below_or n m)

pub same_parts : (a b : List NumberedEntry) (parts : ℕ → List NumberedEntry) → LiesInParts a parts → LiesInParts b parts → a ≡ b
same_parts a b parts in_a in_b =
    let short = no_longer (length a) (length b) (numbers_within a b parts in_a in_b) in
    let long = no_longer (length b) (length a) (numbers_within b a parts in_b in_a) in
    one_log a parts in_a b (omega (arith, short, long)) in_b.entries
