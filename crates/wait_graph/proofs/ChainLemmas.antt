-- What holds of every chain of steps, and of chains whose steps leave no choice.
use Rattle.std.proofs.Common.{◌≡◌, ◌≢◌, ℕ, refl, sym, subst, ◌⊎◌, inl, inr}
use Rattle.wait_graph.specs.Chain.{Chain, none, more}

-- a chain goes on by a step
pub Chain-push : {Step : ℕ → ℕ → Type 0} {a b c : ℕ} → Chain Step a b → Step b c → Chain Step a c
Chain-push none s = more s none
Chain-push (more r chain) s = more r (Chain-push chain s)

-- a chain goes on by a chain
pub Chain-append : {Step : ℕ → ℕ → Type 0} {a b c : ℕ} → Chain Step a b → Chain Step b c → Chain Step a c
Chain-append none others = others
Chain-append (more r chain) others = more r (Chain-append chain others)

-- from where no step leads on, a chain goes nowhere
pub Chain-stays : {Step : ℕ → ℕ → Type 0} {a b : ℕ} → ((c : ℕ) → ¬ Step a c) → Chain Step a b → a ≡ b
Chain-stays stop none = refl
Chain-stays stop (more {b = c} r chain) = absurd (stop c r)

-- to where no step leads, a chain comes from nowhere
pub Chain-arrives : {Step : ℕ → ℕ → Type 0} {a b : ℕ} → ((c : ℕ) → ¬ Step c b) → Chain Step a b → a ≡ b
Chain-arrives free none = refl
Chain-arrives {Step} {a} free (more {b = c} r chain) =
    absurd (free a (subst (λ (x : ℕ). Step a x) (Chain-arrives free chain) r))

-- from where only one step leads on, a chain to another place goes by that step
pub Chain-rest : {Step : ℕ → ℕ → Type 0} {a b d : ℕ} → ((c : ℕ) → Step a c → c ≡ b) → a ≢ d → Chain Step a d → Chain Step b d
Chain-rest only away none = absurd (away refl)
Chain-rest {Step} {a} {b} {d} only away (more {b = c} r chain) =
    subst (λ (x : ℕ). Chain Step x d) (only c r) chain

-- if no place has two steps, then of two places that chains lead to one comes after the other
pub Chain-fork : {Step : ℕ → ℕ → Type 0} {a b c : ℕ} → ((x y z : ℕ) → Step x y → Step x z → z ≡ y) → Chain Step a b → Chain Step a c → Chain Step b c ⊎ Chain Step c b
Chain-fork one none other = inl other
Chain-fork one (more r chain) none = inr (more r chain)
Chain-fork {Step} {a} {b} {c} one (more {b = x} r chain) (more {b = y} q other) =
    Chain-fork one chain (subst (λ (z : ℕ). Chain Step z c) (one a x y r q) other)

-- steps of one kind for steps of another
pub Chain-map : {Step Other : ℕ → ℕ → Type 0} {a b : ℕ} → ((x y : ℕ) → Step x y → Other x y) → Chain Step a b → Chain Other a b
Chain-map f none = none
Chain-map {a = a} f (more {b = x} r chain) = more (f a x r) (Chain-map f chain)

-- if no step leads on from t, a chain to another place doesn't come to t
pub Chain-around : {Step Other : ℕ → ℕ → Type 0} {a b t : ℕ} → ((c : ℕ) → ¬ Step t c) → ((x y : ℕ) → y ≢ t → Step x y → Other x y) → b ≢ t → Chain Step a b → Chain Other a b
Chain-around stop f away none = none
Chain-around {Step} {a = a} {b = b} stop f away (more {b = x} r chain) =
    more (f a x (λ e. away (sym (Chain-stays stop (subst (λ (z : ℕ). Chain Step z b) e chain)))) r) (Chain-around stop f away chain)

-- from where no chain leads to t, a chain makes no step from t
pub Chain-apart : {Step Other : ℕ → ℕ → Type 0} {a b t : ℕ} → ((x y : ℕ) → x ≢ t → Step x y → Other x y) → ¬ Chain Step a t → Chain Step a b → Chain Other a b
Chain-apart f apart none = none
Chain-apart {Step} {a = a} f apart (more {b = x} r chain) =
    more (f a x (λ e. apart (subst (λ (z : ℕ). Chain Step a z) e none)) r) (Chain-apart f (λ d. apart (more r d)) chain)
