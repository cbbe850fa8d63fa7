-- The tables hold for each key what the list of the keys that were given has for it.
use Rattle.std.proofs.Common.{◌≡◌, ◌<◌, ◌+◌, ℕ, zero, suc, Bool, true, false, List, [], ◌∷◌, ◌++◌, Option, None, Some, fold, refl, sym, ap, ◌∙◌, arith}
use Rattle.std.specs.Prelude.{◌==◌, if◌then◌else◌}
use Rattle.std.proofs.lemmas.Bool.{eq-eqb, ne_eqb}
use Rattle.span_profile.specs.declared.heaviest_chain.fronts.Fronts.{Fronts}
use Rattle.span_profile.specs.declared.heaviest_chain.key.Key.{Key}
use Rattle.span_profile.specs.declared.heaviest_chain.key.Key.TheVariants.{Task, Value, Write, Access}
use Rattle.span_profile.specs.declared.heaviest_chain.top.Top.{Top}
use Rattle.span_profile.specs.heaviest_chain.BestChains.{Giver, giver_of, key_eq}
use Rattle.span_profile.specs.heaviest_chain.inner.Fronts.{front_at, givers_from, givers_in, top_in}
use Rattle.span_profile.specs.heaviest_chain.inner.Tops.{higher}

-- the first that is there
abbrev either : Option Top → Option Top → Option Top
either None second = second
either (Some top) second = Some top

-- a key in two lists, one after the other
by_test : (test : Bool) (top : Top) (rest first second : Option Top) → rest ≡ either first second → (if test then Some top else rest) ≡ either (if test then Some top else first) second
by_test true top rest first second is = refl
by_test false top rest first second is = is

in_both : (first second : List Giver) (key : Key) → giver_of (first ++ second) key ≡ either (giver_of first key) (giver_of second key)
in_both [] second key = refl
in_both (giver ∷ first) second key =
    by_test (key_eq key giver.key) giver.top (giver_of (first ++ second) key) (giver_of first key) (giver_of second key) (in_both first second key)

-- a key of another kind is not in the table
of_other_kind : (kind : ℕ → Key) (key : Key) → ((n : ℕ) → key_eq key (kind n) ≡ false) → (n : ℕ) (tops : List (Option Top)) → giver_of (givers_from kind n tops) key ≡ None
of_other_kind kind key differ n [] = refl
of_other_kind kind key differ n (None ∷ tops) = of_other_kind kind key differ (suc n) tops
of_other_kind kind key differ n (Some top ∷ tops) =
    ap (λ (same : Bool). if same then Some top else giver_of (givers_from kind (suc n) tops) key) (differ n) ∙ of_other_kind kind key differ (suc n) tops

module _ (kind : ℕ → Key) (tests : (n m : ℕ) → key_eq (kind n) (kind m) ≡ (n == m)) where
  same : (n m : ℕ) → n ≡ m → key_eq (kind n) (kind m) ≡ true
  same n m is = tests n m ∙ eq-eqb n m is

  differ : (n m : ℕ) → m < n → key_eq (kind m) (kind n) ≡ false
  differ n m less = tests m n ∙ ne_eqb m n (λ is. omega (arith, is, less))

  -- a number below the first of the table
  below : (n m : ℕ) (tops : List (Option Top)) → m < n → giver_of (givers_from kind n tops) (kind m) ≡ None
  below n m [] less = refl
  below n m (None ∷ tops) less = below (suc n) m tops (omega (arith, less))
  below n m (Some top ∷ tops) less =
      ap (λ (is : Bool). if is then Some top else giver_of (givers_from kind (suc n) tops) (kind m)) (differ n m less)
      ∙ below (suc n) m tops (omega (arith, less))

  -- a number of the table
  from : (n m t : ℕ) (tops : List (Option Top)) → m ≡ n + t → giver_of (givers_from kind n tops) (kind m) ≡ top_in tops t
  from n m zero [] is = refl
  from n m (suc t) [] is = refl
  from n m zero (None ∷ tops) is = below (suc n) m tops (omega (arith, is))
  from n m zero (Some top ∷ tops) is =
      ap (λ (here : Bool). if here then Some top else giver_of (givers_from kind (suc n) tops) (kind m)) (same m n (omega (arith, is)))
  from n m (suc t) (None ∷ tops) is = from (suc n) m t tops (omega (arith, is))
  from n m (suc t) (Some top ∷ tops) is =
      ap (λ (here : Bool). if here then Some top else giver_of (givers_from kind (suc n) tops) (kind m))
      (tests m n ∙ ne_eqb m n (λ (eq : m ≡ n). omega (arith, is, eq)))
      ∙ from (suc n) m t tops (omega (arith, is))

-- the four tables
module _ (fronts : Fronts) where
  in_four : (key : Key) (a b c d : Option Top) → giver_of (givers_from Task 0 fronts.tasks) key ≡ a → giver_of (givers_from Value 0 fronts.values) key ≡ b
      → giver_of (givers_from Write 0 fronts.writes) key ≡ c → giver_of (givers_from Access 0 fronts.accesses) key ≡ d
      → giver_of (givers_in fronts) key ≡ either (either a b) (either c d)
  in_four key a b c d at_a at_b at_c at_d =
      in_both (givers_from Task 0 fronts.tasks ++ givers_from Value 0 fronts.values) (givers_from Write 0 fronts.writes ++ givers_from Access 0 fronts.accesses) key
      ∙ ((λ i. either (in_both (givers_from Task 0 fronts.tasks) (givers_from Value 0 fronts.values) key i) (in_both (givers_from Write 0 fronts.writes) (givers_from Access 0 fronts.accesses) key i))
      ∙ (λ i. either (either (at_a i) (at_b i)) (either (at_c i) (at_d i))))

  last : (t : Option Top) → either t None ≡ t
  last None = refl
  last (Some top) = refl

  pub giver_is : (key : Key) → giver_of (givers_in fronts) key ≡ front_at fronts key
  giver_is (Task t) =
      in_four (Task t) (top_in fronts.tasks t) None None None (from Task (λ n m. refl) 0 t t fronts.tasks (omega arith)) (of_other_kind Value (Task t) (λ n. refl) 0 fronts.values)
      (of_other_kind Write (Task t) (λ n. refl) 0 fronts.writes) (of_other_kind Access (Task t) (λ n. refl) 0 fronts.accesses)
      ∙ (last (either (top_in fronts.tasks t) None) ∙ last (top_in fronts.tasks t))
  giver_is (Value t) =
      in_four (Value t) None (top_in fronts.values t) None None (of_other_kind Task (Value t) (λ n. refl) 0 fronts.tasks) (from Value (λ n m. refl) 0 t t fronts.values (omega arith))
      (of_other_kind Write (Value t) (λ n. refl) 0 fronts.writes) (of_other_kind Access (Value t) (λ n. refl) 0 fronts.accesses)
      ∙ last (top_in fronts.values t)
  giver_is (Write t) =
      in_four (Write t) None None (top_in fronts.writes t) None (of_other_kind Task (Write t) (λ n. refl) 0 fronts.tasks) (of_other_kind Value (Write t) (λ n. refl) 0 fronts.values)
      (from Write (λ n m. refl) 0 t t fronts.writes (omega arith)) (of_other_kind Access (Write t) (λ n. refl) 0 fronts.accesses)
      ∙ last (top_in fronts.writes t)
  giver_is (Access t) =
      in_four (Access t) None None None (top_in fronts.accesses t) (of_other_kind Task (Access t) (λ n. refl) 0 fronts.tasks) (of_other_kind Value (Access t) (λ n. refl) 0 fronts.values)
      (of_other_kind Write (Access t) (λ n. refl) 0 fronts.writes) (from Access (λ n m. refl) 0 t t fronts.accesses (omega arith))

  -- the highest of the nodes that gave one of some keys
  pub highest_is : (asks : List Key)
      → fold (λ (t : Option Top) (key : Key). higher t (front_at fronts key)) None asks ≡ fold (λ (t : Option Top) (key : Key). higher t (giver_of (givers_in fronts) key)) None asks
  highest_is asks = λ i. fold (λ (t : Option Top) (key : Key). higher t (sym (giver_is key) i)) None asks
