-- Lists as orders of their elements: two orders that agree on each pair of some elements have these in one order.
use Rattle.std.proofs.Common.{◌≡◌, ◌⊎◌, Bool, true, false, cond, List, [], ◌∷◌, ◌++◌, filter, Contains, inl, inr, refl, sym, ap, ◌∙◌, subst}
use Rattle.effect_check.proofs.Members.{IsIn, contains-in, in-contains, in-left, in-right}
use Rattle.determinism_laws.specs.Orders.{AgreeOn, EachStandsOnce, PrecedesIn}

module _ {X : Type 0} where
  -- who comes first or second in a pair stands in the list
  pub first_in : (xs : List X) (a b : X) → PrecedesIn xs a b → IsIn a xs
  first_in [] a b h = absurd h
  first_in (x ∷ xs) a b (inl here) = inl (sym here.0)
  first_in (x ∷ xs) a b (inr later) = inr (first_in xs a b later)

  pub second_in : (xs : List X) (a b : X) → PrecedesIn xs a b → IsIn b xs
  second_in [] a b h = absurd h
  second_in (x ∷ xs) a b (inl here) = inr (contains-in xs b here.1)
  second_in (x ∷ xs) a b (inr later) = inr (second_in xs a b later)

  -- an element that stands once is not in the rest
  pub not_again : (x : X) (xs : List X) (a : X) → EachStandsOnce (x ∷ xs) → x ≡ a → ¬ IsIn a xs
  not_again x xs a once same h = once.0 (in-contains xs x (subst (λ (y : X). IsIn y xs) (sym same) h))

  pub one_order : (xs ys : List X) → EachStandsOnce xs → EachStandsOnce ys → ((x : X) → IsIn x xs → IsIn x ys) → ((x : X) → IsIn x ys → IsIn x xs)
      → ((a b : X) → PrecedesIn xs a b → PrecedesIn ys a b) → xs ≡ ys
  one_order [] [] once_x once_y forth back keeps = refl
  one_order [] (y ∷ ys) once_x once_y forth back keeps = absurd (back y (inl refl))
  one_order (x ∷ xs) [] once_x once_y forth back keeps = absurd (forth x (inl refl))
  one_order (x ∷ xs) (y ∷ ys) once_x once_y forth back keeps =
      let head : x ≡ y = elim (back y (inl refl)) [
        | inl e ↦ sym e
        | inr there ↦ elim (keeps x y (inl (refl, in-contains xs y there))) [
          | inl same ↦ sym same.0
          | inr deeper ↦ absurd (not_again y ys y once_y refl (second_in ys x y deeper))
        ]
      ] in
      let tail : xs ≡ ys = one_order xs ys once_x.1 once_y.1
      (λ a h. elim (forth a (inr h)) [ inl e ↦ absurd (not_again x xs a once_x (head ∙ sym e) h) | inr k ↦ k ])
      (λ a h. elim (back a (inr h)) [ inl e ↦ absurd (not_again y ys a once_y (sym head ∙ sym e) h) | inr k ↦ k ])
      (λ a b h. elim (keeps a b (inr h)) [ inl here ↦ absurd (not_again x xs a once_x (head ∙ here.0) (first_in xs a b h)) | inr k ↦ k ]) in
      λ i. head i ∷ tail i

  -- of two elements one comes first, if they differ
  pub some_order : (xs : List X) (a b : X) → IsIn a xs → IsIn b xs → (a ≡ b) ⊎ (PrecedesIn xs a b ⊎ PrecedesIn xs b a)
  some_order [] a b in_a in_b = absurd in_a
  some_order (x ∷ xs) a b (inl e) (inl k) = inl (e ∙ sym k)
  some_order (x ∷ xs) a b (inl e) (inr h) = inr (inl (inl (sym e, in-contains xs b h)))
  some_order (x ∷ xs) a b (inr h) (inl k) = inr (inr (inl (sym k, in-contains xs a h)))
  some_order (x ∷ xs) a b (inr h) (inr k) = elim (some_order xs a b h k) [
    | inl same ↦ inl same
    | inr one ↦ elim one [ inl ab ↦ inr (inl (inr ab)) | inr ba ↦ inr (inr (inr ba)) ]
  ]

  -- and not the other
  pub not_both : (xs : List X) (a b : X) → EachStandsOnce xs → PrecedesIn xs a b → ¬ PrecedesIn xs b a
  not_both [] a b once ab ba = absurd ab
  not_both (x ∷ xs) a b once (inl here) (inl there) = not_again x xs b once there.0 (contains-in xs b here.1)
  not_both (x ∷ xs) a b once (inl here) (inr ba) = not_again x xs a once here.0 (second_in xs b a ba)
  not_both (x ∷ xs) a b once (inr ab) (inl there) = not_again x xs b once there.0 (second_in xs a b ab)
  not_both (x ∷ xs) a b once (inr ab) (inr ba) = not_both xs a b once.1 ab ba

  -- The first part of a list.

  pub once_front : (xs ys : List X) → EachStandsOnce (xs ++ ys) → EachStandsOnce xs
  once_front [] ys once = tt
  once_front (x ∷ xs) ys once = (λ c. once.0 (in-contains (xs ++ ys) x (in-left x xs ys (contains-in xs x c))), once_front xs ys once.1)

  pub precedes_front : (xs ys : List X) (a b : X) → PrecedesIn xs a b → PrecedesIn (xs ++ ys) a b
  precedes_front [] ys a b h = absurd h
  precedes_front (x ∷ xs) ys a b (inl here) = inl (here.0, in-contains (xs ++ ys) b (in-left b xs ys (contains-in xs b here.1)))
  precedes_front (x ∷ xs) ys a b (inr later) = inr (precedes_front xs ys a b later)

  -- an element of the first part comes before the one that follows this part
  pub front_precedes : (xs : List X) (s : X) (ys : List X) (a : X) → IsIn a xs → PrecedesIn (xs ++ s ∷ ys) a s
  front_precedes [] s ys a h = absurd h
  front_precedes (x ∷ xs) s ys a (inl e) = inl (sym e, in-contains (xs ++ s ∷ ys) s (in-right s xs (s ∷ ys) (inl refl)))
  front_precedes (x ∷ xs) s ys a (inr h) = inr (front_precedes xs s ys a h)

  -- and what comes before that one is of the first part
  pub precedes_in_front : (xs : List X) (s : X) (ys : List X) (a : X) → EachStandsOnce (xs ++ s ∷ ys) → PrecedesIn (xs ++ s ∷ ys) a s → IsIn a xs
  precedes_in_front [] s ys a once (inl here) = absurd (once.0 here.1)
  precedes_in_front [] s ys a once (inr later) = absurd (not_again s ys s once refl (second_in ys a s later))
  precedes_in_front (x ∷ xs) s ys a once (inl here) = inl (sym here.0)
  precedes_in_front (x ∷ xs) s ys a once (inr later) = inr (precedes_in_front xs s ys a once.1 later)

  pub precedes_of_front : (xs ys : List X) (a b : X) → EachStandsOnce (xs ++ ys) → IsIn b xs → PrecedesIn (xs ++ ys) a b → PrecedesIn xs a b
  precedes_of_front [] ys a b once in_b h = absurd in_b
  precedes_of_front (x ∷ xs) ys a b once (inl e) (inl here) = absurd (not_again x (xs ++ ys) b once (sym e) (contains-in (xs ++ ys) b here.1))
  precedes_of_front (x ∷ xs) ys a b once (inl e) (inr later) = absurd (not_again x (xs ++ ys) b once (sym e) (second_in (xs ++ ys) a b later))
  precedes_of_front (x ∷ xs) ys a b once (inr h) (inl here) = inl (here.0, in-contains xs b h)
  precedes_of_front (x ∷ xs) ys a b once (inr h) (inr later) = inr (precedes_of_front xs ys a b once.1 h later)

  -- The elements that pass a test.

  module _ (q : X → Bool) where
    in_filter_by : (y : X) (ys : List X) (x : X) (b : Bool) → q y ≡ b → ((h : IsIn x (filter q ys)) → IsIn x ys × (q x ≡ true))
        → IsIn x (cond b (y ∷ filter q ys) (filter q ys)) → IsIn x (y ∷ ys) × (q x ≡ true)
    in_filter_by y ys x true e rest (inl same) = (inl same, ap q same ∙ e)
    in_filter_by y ys x true e rest (inr h) = let found = rest h in (inr found.0, found.1)
    in_filter_by y ys x false e rest h = let found = rest h in (inr found.0, found.1)

    pub in_filter : (xs : List X) (x : X) → IsIn x (filter q xs) → IsIn x xs × (q x ≡ true)
    in_filter [] x h = absurd h
    in_filter (y ∷ ys) x h = in_filter_by y ys x (q y) refl (in_filter ys x) h

    filter_in_by : (y : X) (ys : List X) (x : X) (b : Bool) → q y ≡ b → IsIn x (filter q ys) ⊎ (x ≡ y) → q x ≡ true → IsIn x (cond b (y ∷ filter q ys) (filter q ys))
    filter_in_by y ys x true e (inl h) passes = inr h
    filter_in_by y ys x true e (inr same) passes = inl same
    filter_in_by y ys x false e (inl h) passes = h
    filter_in_by y ys x false e (inr same) passes = let both : true ≡ false = sym passes ∙ (ap q same ∙ e) in absurd (cc)

    pub filter_in : (xs : List X) (x : X) → IsIn x xs → q x ≡ true → IsIn x (filter q xs)
    filter_in [] x h passes = absurd h
    filter_in (y ∷ ys) x (inl same) passes = filter_in_by y ys x (q y) refl (inr same) passes
    filter_in (y ∷ ys) x (inr h) passes = filter_in_by y ys x (q y) refl (inl (filter_in ys x h passes)) passes

    once_by : (y : X) (ys : List X) (b : Bool) → (¬ Contains ys y) → EachStandsOnce (filter q ys) → EachStandsOnce (cond b (y ∷ filter q ys) (filter q ys))
    once_by y ys true apart once = (λ c. apart (in-contains ys y (in_filter ys y (contains-in (filter q ys) y c)).0), once)
    once_by y ys false apart once = once

    pub once_filter : (xs : List X) → EachStandsOnce xs → EachStandsOnce (filter q xs)
    once_filter [] once = tt
    once_filter (y ∷ ys) once = once_by y ys (q y) once.0 (once_filter ys once.1)

    -- pairs of elements that pass, in the list and among those that pass
    out_by : (y : X) (ys : List X) (a b : X) (t : Bool) → (PrecedesIn (filter q ys) a b → PrecedesIn ys a b) → PrecedesIn (cond t (y ∷ filter q ys) (filter q ys)) a b → PrecedesIn (y ∷ ys) a b
    out_by y ys a b true rest (inl here) = inl (here.0, in-contains ys b (in_filter ys b (contains-in (filter q ys) b here.1)).0)
    out_by y ys a b true rest (inr later) = inr (rest later)
    out_by y ys a b false rest h = inr (rest h)

    pub precedes_out : (xs : List X) (a b : X) → PrecedesIn (filter q xs) a b → PrecedesIn xs a b
    precedes_out [] a b h = absurd h
    precedes_out (y ∷ ys) a b h = out_by y ys a b (q y) (precedes_out ys a b) h

    into_by : (y : X) (ys : List X) (a b : X) (t : Bool) → q y ≡ t → q a ≡ true → ((y ≡ a) × IsIn b (filter q ys)) ⊎ PrecedesIn (filter q ys) a b
        → PrecedesIn (cond t (y ∷ filter q ys) (filter q ys)) a b
    into_by y ys a b true e passes (inl here) = inl (here.0, in-contains (filter q ys) b here.1)
    into_by y ys a b true e passes (inr later) = inr later
    into_by y ys a b false e passes (inl here) = let both : true ≡ false = sym passes ∙ (ap q (sym here.0) ∙ e) in absurd (cc)
    into_by y ys a b false e passes (inr later) = later

    pub precedes_into : (xs : List X) (a b : X) → q a ≡ true → q b ≡ true → PrecedesIn xs a b → PrecedesIn (filter q xs) a b
    precedes_into [] a b pass_a pass_b h = absurd h
    precedes_into (y ∷ ys) a b pass_a pass_b (inl here) = into_by y ys a b (q y) refl pass_a (inl (here.0, filter_in ys b (contains-in ys b here.1) pass_b))
    precedes_into (y ∷ ys) a b pass_a pass_b (inr later) = into_by y ys a b (q y) refl pass_a (inr (precedes_into ys a b pass_a pass_b later))

    -- if the two orders agree on the elements that pass, these are in one order
    pub same_filtered : (xs ys : List X) → EachStandsOnce xs → EachStandsOnce ys
        → ((x : X) → IsIn x xs → q x ≡ true → IsIn x ys) → ((x : X) → IsIn x ys → q x ≡ true → IsIn x xs)
        → ((a b : X) → q a ≡ true → q b ≡ true → PrecedesIn xs a b → PrecedesIn ys a b) → filter q xs ≡ filter q ys
    same_filtered xs ys once_x once_y forth back keeps =
        one_order (filter q xs) (filter q ys) (once_filter xs once_x) (once_filter ys once_y)
        (λ x h. let k = in_filter xs x h in filter_in ys x (forth x k.0 k.1) k.1)
        (λ x h. let k = in_filter ys x h in filter_in xs x (back x k.0 k.1) k.1)
        (λ a b h.
        let pass_a = (in_filter xs a (first_in (filter q xs) a b h)).1 in
        let pass_b = (in_filter xs b (second_in (filter q xs) a b h)).1 in
        precedes_into ys a b pass_a pass_b (keeps a b pass_a pass_b (precedes_out xs a b h)))

  -- If the relation is mutual, the orders agree both ways.

  module _ (Connects : X → X → Type 0) (is_mutual : (a b : X) → Connects a b → Connects b a) where
    pub agree_back : (xs ys : List X) → AgreeOn Connects xs ys → (a b : X) → Connects a b → PrecedesIn ys a b → PrecedesIn xs a b
    agree_back xs ys agree a b connects later =
        let in_a = contains-in xs a ((agree.members a).1 (in-contains ys a (first_in ys a b later))) in
        let in_b = contains-in xs b ((agree.members b).1 (in-contains ys b (second_in ys a b later))) in
        elim (some_order xs a b in_a in_b) [
          | inl same ↦ absurd (not_both ys a b agree.second_once later (subst (λ (x : X). PrecedesIn ys x a) same (subst (λ (x : X). PrecedesIn ys a x) (sym same) later)))
          | inr one ↦ elim one [
            | inl ab ↦ ab
            | inr ba ↦ absurd (not_both ys a b agree.second_once later (agree.agree b a (is_mutual a b connects) ba))
          ]
        ]

    pub agreed_back : (xs ys : List X) → AgreeOn Connects xs ys → AgreeOn Connects ys xs
    agreed_back xs ys agree = record {
      first_once = agree.second_once;
      second_once = agree.first_once;
      members = λ x. ((agree.members x).1, (agree.members x).0);
      agree = agree_back xs ys agree;
    }
