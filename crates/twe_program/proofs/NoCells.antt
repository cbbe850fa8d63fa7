-- A program without cells has two nodes: the root and that of `Console`.
use Rattle.std.proofs.Common.{◌≡◌, ◌⊎◌, ◌≤◌, ℕ, List, [], ◌∷◌, ◌++◌, length, Contains, AllPairs, inl, inr, refl, sym, ap, ◌∙◌, arith}
use Rattle.region_paths.specs.declared.elements.Elem.{Elem}
use Rattle.twe_program.specs.declared.program.CellDecl.{CellDecl}
use Rattle.twe_program.specs.Program.{Program}
use Rattle.twe_program.specs.Nodes.{console, PathBeginsWith, IsNodePath, HasNodesAtMost}

of-console : (path rest : List Elem) → console ≡ path ++ rest → (path ≡ []) ⊎ (path ≡ console)
of-console [] rest e = inl refl
of-console (x ∷ []) rest e = inr (cc)
of-console (x ∷ y ∷ more) rest e = absurd (cc)

node-cases : (p : Program) → p.cells ≡ [] → (path : List Elem) → IsNodePath p path → (path ≡ []) ⊎ (path ≡ console)
node-cases p none path (inl begins) = of-console path begins.0 begins.1
node-cases p none path (inr declared) =
    let there = declared.2 in
    let empty = ap (λ (cells : List CellDecl). length cells) none in
    absurd (omega arith)

-- of three things, each of which is one of two, some are the same
of-three : {X : Type 0} (x y a b c : X) → (a ≡ x) ⊎ (a ≡ y) → (b ≡ x) ⊎ (b ≡ y) → (c ≡ x) ⊎ (c ≡ y) → ¬ (a ≡ b) → ¬ (a ≡ c) → ¬ (b ≡ c) → ⊥
of-three x y a b c (inl e) (inl f) g ab ac bc = ab (e ∙ sym f)
of-three x y a b c (inr e) (inr f) g ab ac bc = ab (e ∙ sym f)
of-three x y a b c (inl e) (inr f) (inl g) ab ac bc = ac (e ∙ sym g)
of-three x y a b c (inl e) (inr f) (inr g) ab ac bc = bc (f ∙ sym g)
of-three x y a b c (inr e) (inl f) (inl g) ab ac bc = bc (f ∙ sym g)
of-three x y a b c (inr e) (inl f) (inr g) ab ac bc = ac (e ∙ sym g)

two-nodes : (p : Program) → p.cells ≡ [] → (nodes : List (List Elem)) → AllPairs (λ one other. ¬ (one ≡ other)) nodes
    → ((path : List Elem) → Contains nodes path → IsNodePath p path) → length nodes ≤ 2
two-nodes p none [] distinct each = omega arith
two-nodes p none (a ∷ []) distinct each = omega arith
two-nodes p none (a ∷ b ∷ []) distinct each = omega arith
two-nodes p none (a ∷ b ∷ c ∷ more) distinct each =
    absurd
    (of-three [] console a b c
    (node-cases p none a (each a (0, omega arith, refl))) (node-cases p none b (each b (1, omega arith, refl))) (node-cases p none c (each c (2, omega arith, refl)))
    (distinct 0 1 a (omega arith) (omega arith)) (distinct 0 2 a (omega arith) (omega arith)) (distinct 1 2 a (omega arith) (omega arith)))

pub few-without-cells : (p : Program) → p.cells ≡ [] → (most : ℕ) → 2 ≤ most → HasNodesAtMost p most
few-without-cells p none most enough nodes distinct each = let two = two-nodes p none nodes distinct each in omega arith
