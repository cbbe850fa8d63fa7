-- One element more of which something holds, and all of them.
use Rattle.std.proofs.Common.{◌≡◌, ◌<◌, ◌≤◌, ℕ, ◌+◌, List, Option, None, Some, length, get_or, take, sym, subst}
use Rattle.std.specs.Prelude.{IfNone, false, is_some}
use Rattle.std.specs.List.{All}
use Rattle.std.proofs.lemmas.Bool.{false≢true}
use Rattle.std.proofs.lemmas.List.{take_all}
use Rattle.std.proofs.lemmas.List.Elements.{All-more}

pub one_more : {X : Type 0} (P : X → Type 0) (xs : List X) (i : ℕ) (x : X) → i < length xs → x ≡ get_or xs i x
    → All P (take i xs) → P x → All P (take (i + 1) xs)
one_more P xs i x below is all here = All-more P xs i x below all (subst P is here)

pub whole : {X : Type 0} (P : X → Type 0) (xs : List X) (i : ℕ) → length xs ≤ i → All P (take i xs) → All P xs
whole P xs i past all = subst (All P) (take_all i xs past) all

-- what holds if nothing is found, where nothing is
pub not_found : {X : Type 0} (P : Type 0) (found : Option X) → found ≡ None → IfNone found P → P
not_found P found is h = subst (λ o. IfNone o P) is h

pub not_some : {X : Type 0} (P : Type 0) (found : Option X) → is_some found ≡ false → IfNone found P → P
not_some P None is h = h
not_some P (Some x) is h = absurd (false≢true (sym is))

-- what follows from that
pub if_none : {X : Type 0} (found : Option X) (P Q : Type 0) → (P → Q) → IfNone found P → IfNone found Q
if_none None P Q f h = f h
if_none (Some x) P Q f h = tt

-- what holds of all, at the one that comes now
pub at_item : {X : Type 0} (P : X → Type 0) (xs : List X) (i : ℕ) (x : X) → i < length xs → x ≡ get_or xs i x → All P xs → P x
at_item P xs i x below is all = subst P (sym is) (all i x below)
