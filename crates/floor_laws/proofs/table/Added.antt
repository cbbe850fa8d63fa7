-- Lists that grow at their front.
use Rattle.std.proofs.Common.{◌≡◌, ◌++◌, List, [], ◌∷◌, refl, sym, ap, ◌∙◌, inl, inr, append_assoc}
use Rattle.floor_laws.specs.table.Added.{HasGrown, IsAdded}
use Rattle.floor_laws.specs.admission.admission_core.States.{IsAmong}

module _ {X : Type 0} where
  among_first : (x : X) (l m : List X) → IsAmong x l → IsAmong x (l ++ m)
  among_first x [] m among = absurd among
  among_first x (y ∷ l) m (inl here) = inl here
  among_first x (y ∷ l) m (inr later) = inr (among_first x l m later)

  among_second : (x : X) (l m : List X) → IsAmong x m → IsAmong x (l ++ m)
  among_second x [] m among = among
  among_second x (y ∷ l) m among = inr (among_second x l m among)

  pub grown_is : (l m : List X) → m ≡ l → HasGrown l m
  grown_is l m same = ([], same)

  pub grown_same : (l : List X) → HasGrown l l
  grown_same l = ([], refl)

  pub grown_by : (x : X) (l m : List X) → m ≡ x ∷ l → HasGrown l m
  grown_by x l m is = (x ∷ [], is)

  pub grown_then : (a b c : List X) → HasGrown a b → HasGrown b c → HasGrown a c
  grown_then a b c (x, b_is) (y, c_is) = (y ++ x, c_is ∙ (ap (λ (l : List X). y ++ l) b_is ∙ sym (append_assoc y x a)))

  pub added_at : (x : X) (l m : List X) → m ≡ x ∷ l → IsAdded x l m
  added_at x l m is = (x ∷ [], is, inl refl)

  -- what was added is so still when more is
  pub added_then : (x : X) (a b c : List X) → IsAdded x a b → HasGrown b c → IsAdded x a c
  added_then x a b c (new, b_is, among) (y, c_is) =
      (y ++ new, c_is ∙ (ap (λ (l : List X). y ++ l) b_is ∙ sym (append_assoc y new a)), among_second x y new among)

  -- and was added since any time before
  pub added_before : (x : X) (a b c : List X) → HasGrown a b → IsAdded x b c → IsAdded x a c
  added_before x a b c (old, b_is) (new, c_is, among) =
      (new ++ old, c_is ∙ (ap (λ (l : List X). new ++ l) b_is ∙ sym (append_assoc new old a)), among_first x new old among)
