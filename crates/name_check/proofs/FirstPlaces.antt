-- Where names stand first in a list, after one name more or less.
use Rattle.std.proofs.Common.{◌≡◌, ℕ, zero, suc, ◌≤◌, ◌<◌, nat_lt, take, Bool, true, false, cond, List, [], ◌∷◌, ◌++◌, length, get_or, Option, None, Some, String, BTreeMap, refl, sym, ap, subst, ◌∙◌, arith}
use Rattle.std.specs.List.{position, position_or_len, find, slice_get, list_any}
use Rattle.std.specs.Option.{option_map}
use Rattle.std.specs.Str.{bytes_eq}
use Rattle.std.specs.BTreeMap.{get_by_text}
use Rattle.std.specs.Map.{update}
use Rattle.std.specs.Cmp.Lexicographic.{bytes_decides, nat_list_eq_equiv}
use Rattle.std.proofs.lemmas.List.{length_push}
use Rattle.std.proofs.lemmas.List.Folds.{position_or_len_push, find_at}
use Rattle.std.proofs.lemmas.List.Sums.{prefix_len-le-length}
use Rattle.std.proofs.lemmas.Option.{slice_get_past, slice_get-get_or}
use Rattle.std.proofs.lemmas.List.Quantifiers.{position-Some}
use Rattle.std.proofs.lemmas.Bool.Decides.{nat_tests}
use Rattle.name_check.specs.declared.names.GlobalName.{GlobalName}
use Rattle.name_check.specs.declared.scope.LocalName.{LocalName}
use Rattle.name_check.specs.Names.{first_global, first_local}
use Rattle.name_check.specs.inner.Firsts.{AreFirsts, AddsFirst, DropsFirst, first_with, first_without}

position_or_len-le : {X : Type 0} (p : X → Bool) (xs : List X) → position_or_len p xs ≤ length xs
position_or_len-le p xs = prefix_len-le-length _ xs

module _ {X : Type 0} (p : X → Bool) (xs : List X) (y : X) where
  pub position_push : (passes : Bool) → p y ≡ passes → position p (xs ++ y ∷ []) ≡ first_with (position p xs) passes (length xs)
  position_push true e =
      let le = position_or_len-le p xs in
      let at = position_or_len_push p xs y in
      let long = length_push xs y in
      rw (at, long, e) (grind (arith, nat_tests))
  position_push false e =
      let le = position_or_len-le p xs in
      let at = position_or_len_push p xs y in
      let long = length_push xs y in
      rw (at, long, e) (grind (arith, nat_tests))

  pub position_pop : (passes : Bool) → p y ≡ passes → position p xs ≡ first_without (position p (xs ++ y ∷ [])) passes (length xs)
  position_pop true e =
      let le = position_or_len-le p xs in
      let at = position_or_len_push p xs y in
      let long = length_push xs y in
      rw (at, long, e) (grind (arith, nat_tests))
  position_pop false e =
      let le = position_or_len-le p xs in
      let at = position_or_len_push p xs y in
      let long = length_push xs y in
      rw (at, long, e) (grind (arith, nat_tests))

module _ {X : Type 0} (p : X → Bool) (xs : List X) where
  pub find_none : position p xs ≡ None → find p xs ≡ None
  find_none none =
      let le = position_or_len-le p xs in
      let past = slice_get_past xs (position_or_len p xs) in
      find_at p xs ∙ past (grind (arith, nat_tests))

  pub place_below : (n : ℕ) → position p xs ≡ Some n → n < length xs
  place_below n some =
      let le = position_or_len-le p xs in
      grind (arith, nat_tests)

  pub find_some : (n : ℕ) (x : X) → position p xs ≡ Some n → get_or xs n x ≡ x → find p xs ≡ Some x
  find_some n x some is =
      let below = (position-Some p xs n x some).0 in
      let at : position_or_len p xs ≡ n = grind (arith, nat_tests) in
      find_at p xs ∙ (ap (slice_get xs) at ∙ (slice_get-get_or xs n x below ∙ ap (λ y. Some y) is))

pub first_global_is : (text : List ℕ) (xs : List GlobalName) → first_global text xs ≡ option_map (λ (e : GlobalName). e.global) (find (λ (e : GlobalName). bytes_eq text e.text) xs)
first_global_is text [] = refl
first_global_is text (x ∷ xs) = by (first_global_is text xs) (bytes_eq text x.text) refl where
  by : first_global text xs ≡ option_map (λ (e : GlobalName). e.global) (find (λ (e : GlobalName). bytes_eq text e.text) xs)
      → (b : Bool) → bytes_eq text x.text ≡ b → first_global text (x ∷ xs) ≡ option_map (λ (e : GlobalName). e.global) (find (λ (e : GlobalName). bytes_eq text e.text) (x ∷ xs))
  by others true e = rw e refl
  by others false e = rw e others

pub first_local_is : (text : List ℕ) (xs : List LocalName) → first_local text xs ≡ option_map (λ (e : LocalName). e.local) (find (λ (e : LocalName). bytes_eq text e.text) xs)
first_local_is text [] = refl
first_local_is text (x ∷ xs) = by (first_local_is text xs) (bytes_eq text x.text) refl where
  by : first_local text xs ≡ option_map (λ (e : LocalName). e.local) (find (λ (e : LocalName). bytes_eq text e.text) xs)
      → (b : Bool) → bytes_eq text x.text ≡ b → first_local text (x ∷ xs) ≡ option_map (λ (e : LocalName). e.local) (find (λ (e : LocalName). bytes_eq text e.text) (x ∷ xs))
  by others true e = rw e refl
  by others false e = rw e others

pub first_global_none : (text : List ℕ) (xs : List GlobalName) → position (λ (e : GlobalName). bytes_eq text e.text) xs ≡ None → first_global text xs ≡ None
first_global_none text xs none = first_global_is text xs ∙ ap (option_map (λ (e : GlobalName). e.global)) (find_none (λ (e : GlobalName). bytes_eq text e.text) xs none)

pub first_global_some : (text : List ℕ) (xs : List GlobalName) (n : ℕ) (x : GlobalName) → position (λ (e : GlobalName). bytes_eq text e.text) xs ≡ Some n → get_or xs n x ≡ x → first_global text xs ≡ Some x.global
first_global_some text xs n x some is = first_global_is text xs ∙ ap (option_map (λ (e : GlobalName). e.global)) (find_some (λ (e : GlobalName). bytes_eq text e.text) xs n x some is)

pub first_local_none : (text : List ℕ) (xs : List LocalName) → position (λ (e : LocalName). bytes_eq text e.text) xs ≡ None → first_local text xs ≡ None
first_local_none text xs none = first_local_is text xs ∙ ap (option_map (λ (e : LocalName). e.local)) (find_none (λ (e : LocalName). bytes_eq text e.text) xs none)

pub first_local_some : (text : List ℕ) (xs : List LocalName) (n : ℕ) (x : LocalName) → position (λ (e : LocalName). bytes_eq text e.text) xs ≡ Some n → get_or xs n x ≡ x → first_local text xs ≡ Some x.local
first_local_some text xs n x some is = first_local_is text xs ∙ ap (option_map (λ (e : LocalName). e.local)) (find_some (λ (e : LocalName). bytes_eq text e.text) xs n x some is)

module _ {A Entry : Type 0} (text_of : Entry → List ℕ) (entries : List Entry) (entry : Entry) (old new : BTreeMap (String A) ℕ) where
  -- one name more
  pub firsts_push : (text : List ℕ) (place : ℕ) → text ≡ text_of entry → place ≡ length entries
      → AreFirsts text_of entries old → AddsFirst text place old new → AreFirsts text_of (entries ++ entry ∷ []) new
  firsts_push text place same count was adds q =
      adds q ∙ (ap (λ o. first_with o (bytes_eq q text) place) (was q)
      ∙ (ap (λ t. first_with (position (λ e. bytes_eq q (text_of e)) entries) (bytes_eq q t) place) same
      ∙ (ap (λ n. first_with (position (λ e. bytes_eq q (text_of e)) entries) (bytes_eq q (text_of entry)) n) count
      ∙ sym (position_push (λ e. bytes_eq q (text_of e)) entries entry (bytes_eq q (text_of entry)) refl))))

  -- one name less
  pub firsts_pop : (text : List ℕ) (place : ℕ) → text ≡ text_of entry → place ≡ length entries
      → AreFirsts text_of (entries ++ entry ∷ []) old → DropsFirst text place old new → AreFirsts text_of entries new
  firsts_pop text place same count was drops q =
      drops q ∙ (ap (λ o. first_without o (bytes_eq q text) place) (was q)
      ∙ (ap (λ t. first_without (position (λ e. bytes_eq q (text_of e)) (entries ++ entry ∷ [])) (bytes_eq q t) place) same
      ∙ (ap (λ n. first_without (position (λ e. bytes_eq q (text_of e)) (entries ++ entry ∷ [])) (bytes_eq q (text_of entry)) n) count
      ∙ sym (position_pop (λ e. bytes_eq q (text_of e)) entries entry (bytes_eq q (text_of entry)) refl))))

-- after one change of the map
module _ {A : Type 0} (text : List ℕ) (place : ℕ) (old new : BTreeMap (String A) ℕ) where
  with_none : (b : Bool) (o : Option ℕ) → o ≡ None → Some place ≡ first_with o true place
  with_none b o e = rw e refl

  with_other : (o : Option ℕ) → o ≡ first_with o false place
  with_other None = refl
  with_other (Some first) = refl

  without_here : (o : Option ℕ) → o ≡ Some place → ◌≡◌ {A = Option ℕ} None (first_without o true place)
  without_here o e = rw e (grind (arith, nat_tests))

  without_other : (o : Option ℕ) → o ≡ first_without o false place
  without_other None = refl
  without_other (Some first) = refl

  pub updated_adds : get_by_text old text ≡ None → ((q : List ℕ) → get_by_text new q ≡ update bytes_eq (get_by_text old) text (Some place) q) → AddsFirst text place old new
  updated_adds none sets q = sets q ∙ by (bytes_eq text q) refl
    where
      by : (b : Bool) → bytes_eq text q ≡ b → cond (bytes_eq text q) (Some place) (get_by_text old q) ≡ first_with (get_by_text old q) (bytes_eq q text) place
      by true same =
          let equal : text ≡ q = (bytes_decides text q).0 same in
          rw (same, nat_list_eq_equiv.symm q text ∙ same) (with_none true (get_by_text old q) (subst (λ t. get_by_text old t ≡ None) equal none))
      by false differs = rw (differs, nat_list_eq_equiv.symm q text ∙ differs) (with_other (get_by_text old q))

  pub updated_drops : get_by_text old text ≡ Some place → ((q : List ℕ) → get_by_text new q ≡ update bytes_eq (get_by_text old) text None q) → DropsFirst text place old new
  updated_drops some sets q = sets q ∙ by (bytes_eq text q) refl
    where
      by : (b : Bool) → bytes_eq text q ≡ b → cond (bytes_eq text q) None (get_by_text old q) ≡ first_without (get_by_text old q) (bytes_eq q text) place
      by true same =
          let equal : text ≡ q = (bytes_decides text q).0 same in
          rw (same, nat_list_eq_equiv.symm q text ∙ same) (without_here (get_by_text old q) (subst (λ t. get_by_text old t ≡ Some place) equal some))
      by false differs = rw (differs, nat_list_eq_equiv.symm q text ∙ differs) (without_other (get_by_text old q))

-- whether the first elements have one that passes
any_before : {X : Type 0} (p : X → Bool) (xs : List X) (i : ℕ) → i ≤ length xs → list_any p (take i xs) ≡ nat_lt (position_or_len p xs) i
any_before p [] i h = let none : i ≡ 0 = omega arith in rw none refl
any_before p (x ∷ xs) zero h = grind (arith, nat_tests)
any_before p (x ∷ xs) (suc i) h = by (p x) refl (any_before p xs i (omega arith)) where
  by : (b : Bool) → p x ≡ b → list_any p (take i xs) ≡ nat_lt (position_or_len p xs) i → list_any p (take (suc i) (x ∷ xs)) ≡ nat_lt (position_or_len p (x ∷ xs)) (suc i)
  by true e rest = rw e (grind (arith, nat_tests))
  by false e rest = rw e (rest ∙ grind (arith, nat_tests))

pub any_before_some : {X : Type 0} (p : X → Bool) (xs : List X) (i n : ℕ) → i ≤ length xs → position p xs ≡ Some n → nat_lt n i ≡ list_any p (take i xs)
any_before_some p xs i n h some =
    let at : position_or_len p xs ≡ n = grind (arith, nat_tests) in
    ap (λ m. nat_lt m i) (sym at) ∙ sym (any_before p xs i h)

pub any_before_none : {X : Type 0} (p : X → Bool) (xs : List X) (i : ℕ) → i ≤ length xs → position p xs ≡ None → false ≡ list_any p (take i xs)
any_before_none p xs i h none =
    let le = position_or_len-le p xs in
    let at : length xs ≤ position_or_len p xs = grind (arith, nat_tests) in
    let past : false ≡ nat_lt (position_or_len p xs) i = grind (arith, nat_tests) in
    past ∙ sym (any_before p xs i h)
