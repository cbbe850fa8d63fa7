-- Effects whose marks have no bit in common in one of the words do not interfere.
use Rattle.std.proofs.Common.{◌≡◌, ◌<◌, ℕ, ℤ, ◌+◌, ◌%◌, ◌^◌, Bool, true, false, not, ◌&&◌, ◌||◌, if◌then◌else◌, List, [], ◌∷◌, slice_get, inl, inr, refl, sym, ap, ◌∙◌, subst, arith}
use Rattle.std.specs.Prelude.{◌==◌, nat_lt, length, bit_and, bit_or, unsigned_abs}
use Rattle.std.specs.Ordering.{int_eq}
use Rattle.std.specs.Int.{bit_at}
use Rattle.std.proofs.lemmas.Bool.{ne_eqb, false_from_ne_true, false≢true}
use Rattle.std.proofs.lemmas.Bool.Decides.{Decides-int_eq}
use Rattle.std.proofs.lemmas.Nat.Bits.{bit_at_and, bit_at_or, bit_at-lt, bit_at-zero, bit_at_ones, bit_at-pow_same}
use Rattle.region_paths.specs.declared.elements.Elem.{Elem}
use Rattle.region_paths.specs.declared.elements.Elem.TheVariants.{Name, Index, Var, AnyIndex}
use Rattle.region_paths.specs.Apart.{apart, clash, clash_from_front, clash_from_end, apart_from_ends}
use Rattle.region_paths.specs.Written.{WrittenPath}
use Rattle.effect_sets.specs.declared.effects.Effect.{Effect}
use Rattle.effect_sets.specs.Interference.{statically_interferes, one_writes}
use Rattle.effect_check.specs.declared.futures.Spawn.{Spawn}
use Rattle.effect_check.specs.declared.marks.Marks.{Marks}
use Rattle.effect_check.specs.inner.Marks.{all_bits, name_bits, index_bits, marks_of, joined_marks, marks_over, marks_of_all}
use Rattle.twe_base.proofs.Members.{IsIn}

-- the word has the bit
abbrev pub Has : ℕ → ℕ → Type 0
Has word k = bit_at word k ≡ 1

has-left : (a b k : ℕ) → Has a k → Has (bit_or a b) k
has-left a b k h = omega (arith, bit_at_or a b k, bit_at-lt b k)

has-right : (a b k : ℕ) → Has b k → Has (bit_or a b) k
has-right a b k h = omega (arith, bit_at_or a b k, bit_at-lt a k)

-- each bit of the first marks is one of the second
pub record Within (a b : Marks) : Type 0 where
  pub near : (k : ℕ) → Has a.near k → Has b.near k
  pub far : (k : ℕ) → Has a.far k → Has b.far k
  pub index : (k : ℕ) → Has a.index k → Has b.index k
  pub far_index : (k : ℕ) → Has a.far_index k → Has b.far_index k

within-same : (a : Marks) → Within a a
within-same a = record { near = λ k h. h; far = λ k h. h; index = λ k h. h; far_index = λ k h. h }

within-more : (a b c : Marks) → Within a b → Within b c → Within a c
within-more a b c x y = record {
  near = λ k h. y.near k (x.near k h);
  far = λ k h. y.far k (x.far k h);
  index = λ k h. y.index k (x.index k h);
  far_index = λ k h. y.far_index k (x.far_index k h);
}

within-left : (a b : Marks) → Within a (joined_marks a b)
within-left a b = record {
  near = λ k h. has-left a.near b.near k h;
  far = λ k h. has-left a.far b.far k h;
  index = λ k h. has-left a.index b.index k h;
  far_index = λ k h. has-left a.far_index b.far_index k h;
}

within-right : (a b : Marks) → Within b (joined_marks a b)
within-right a b = record {
  near = λ k h. has-right a.near b.near k h;
  far = λ k h. has-right a.far b.far k h;
  index = λ k h. has-right a.index b.index k h;
  far_index = λ k h. has-right a.far_index b.far_index k h;
}

-- the marks of each effect that counts are within those of all
taken-keeps : (b : Bool) (marks more : Marks) → Within marks (if b then joined_marks marks more else marks)
taken-keeps true marks more = within-left marks more
taken-keeps false marks more = within-same marks

taken-has : (b : Bool) (marks more : Marks) → b ≡ true → Within more (if b then joined_marks marks more else marks)
taken-has true marks more e = within-right marks more
taken-has false marks more e = absurd (false≢true e)

over-keeps : (only : Bool) (effects : List Effect) (marks : Marks) → Within marks (marks_over only marks effects)
over-keeps only [] marks = within-same marks
over-keeps only (e ∷ effects) marks =
    let next = if e.write || not only then joined_marks marks (marks_of e) else marks in
    within-more marks next (marks_over only next effects) (taken-keeps (e.write || not only) marks (marks_of e)) (over-keeps only effects next)

pub over-has : (only : Bool) (effects : List Effect) (marks : Marks) (e : Effect) → IsIn e effects → (e.write || not only) ≡ true
    → Within (marks_of e) (marks_over only marks effects)
over-has only [] marks e i counts = absurd i
over-has only (d ∷ effects) marks e (inl same) counts =
    let next = if d.write || not only then joined_marks marks (marks_of d) else marks in
    let now : (d.write || not only) ≡ true = ap (λ (x : Effect). x.write || not only) (sym same) ∙ counts in
    within-more (marks_of e) next (marks_over only next effects)
    (subst (λ (x : Effect). Within (marks_of x) next) (sym same) (taken-has (d.write || not only) marks (marks_of d) now)) (over-keeps only effects next)
over-has only (d ∷ effects) marks e (inr later) counts =
    over-has only effects (if d.write || not only then joined_marks marks (marks_of d) else marks) e later counts

all-keeps : (only : Bool) (spawns : List Spawn) (marks : Marks) → Within marks (marks_of_all only marks spawns)
all-keeps only [] marks = within-same marks
all-keeps only (s ∷ spawns) marks =
    let next = marks_over only marks s.effects.effects in
    within-more marks next (marks_of_all only next spawns) (over-keeps only s.effects.effects marks) (all-keeps only spawns next)

pub all-has : (only : Bool) (spawns : List Spawn) (marks : Marks) (s : Spawn) → IsIn s spawns → (e : Effect) → IsIn e s.effects.effects
    → (e.write || not only) ≡ true → Within (marks_of e) (marks_of_all only marks spawns)
all-has only [] marks s i e j counts = absurd i
all-has only (t ∷ spawns) marks s (inl same) e j counts =
    let next = marks_over only marks t.effects.effects in
    within-more (marks_of e) next (marks_of_all only next spawns)
    (over-has only t.effects.effects marks e (subst (λ (x : Spawn). IsIn e x.effects.effects) same j) counts) (all-keeps only spawns next)
all-has only (t ∷ spawns) marks s (inr later) e j counts = all-has only spawns (marks_over only marks t.effects.effects) s later e j counts

-- paths that clash in front are apart
or_front : (a b : Bool) → a ≡ true → (a || b) ≡ true
or_front a b e = ap (λ x. x || b) e

or_mid : (a b c : Bool) → b ≡ true → (a || (b || c)) ≡ true
or_mid true b c e = refl
or_mid false b c e = or_front b c e

or_last : (a b : Bool) → b ≡ true → (a || b) ≡ true
or_last true b e = refl
or_last false b e = e

apart_by : (p q : WrittenPath) → clash_from_front p.elems q.elems ≡ true → clash_from_front q.elems p.elems ≡ true → (b c : Bool) → p.star ≡ b → q.star ≡ c → apart p q ≡ true
apart_by p q e h b c ps qs =
    ap (λ (x : Bool). if x
    then (if q.star then clash_from_front p.elems q.elems || clash_from_end p.tail q.tail else apart_from_ends q.elems p.elems p.tail)
    else (if q.star then apart_from_ends p.elems q.elems q.tail else not (length p.elems == length q.elems) || clash_from_front p.elems q.elems)) ps
    ∙ chosen b c qs where
      chosen : (b c : Bool) → q.star ≡ c
          → (if b
          then (if q.star then clash_from_front p.elems q.elems || clash_from_end p.tail q.tail else apart_from_ends q.elems p.elems p.tail)
          else (if q.star then apart_from_ends p.elems q.elems q.tail else not (length p.elems == length q.elems) || clash_from_front p.elems q.elems)) ≡ true
      chosen true true qs =
          ap (λ (x : Bool). if x then clash_from_front p.elems q.elems || clash_from_end p.tail q.tail else apart_from_ends q.elems p.elems p.tail) qs
          ∙ or_front (clash_from_front p.elems q.elems) (clash_from_end p.tail q.tail) e
      chosen true false qs =
          ap (λ (x : Bool). if x then clash_from_front p.elems q.elems || clash_from_end p.tail q.tail else apart_from_ends q.elems p.elems p.tail) qs
          ∙ or_mid (nat_lt (length q.elems) (length p.elems + length p.tail)) (clash_from_front q.elems p.elems) (clash_from_end q.elems p.tail) h
      chosen false true qs =
          ap (λ (x : Bool). if x then apart_from_ends p.elems q.elems q.tail else not (length p.elems == length q.elems) || clash_from_front p.elems q.elems) qs
          ∙ or_mid (nat_lt (length p.elems) (length q.elems + length q.tail)) (clash_from_front p.elems q.elems) (clash_from_end p.elems q.tail) e
      chosen false false qs =
          ap (λ (x : Bool). if x then apart_from_ends p.elems q.elems q.tail else not (length p.elems == length q.elems) || clash_from_front p.elems q.elems) qs
          ∙ or_last (not (length p.elems == length q.elems)) (clash_from_front p.elems q.elems) e

-- the words have no bit in common
abbrev NoneShared : ℕ → ℕ → Type 0
NoneShared a b = (k : ℕ) → k < 128 → Has a k → Has b k → ⊥

-- some bit is in the word
abbrev SomeBit : ℕ → Type 0
SomeBit a = (k : ℕ) × (k < 128) × Has a k

full : (k : ℕ) → k < 128 → Has all_bits k
full k within = bit_at_ones 128 k within

some_full : SomeBit all_bits
some_full = (0, omega arith, full 0 (omega arith))

some_of : (n : ℕ) → SomeBit (2 ^ (n % 128))
some_of n = (n % 128, omega arith, bit_at-pow_same (n % 128))

-- all bits share one with each word that has one
full_left : (b : ℕ) → SomeBit b → NoneShared all_bits b → ⊥
full_left b some none = none some.0 some.1 (full some.0 some.1) some.2

full_right : (a : ℕ) → SomeBit a → NoneShared a all_bits → ⊥
full_right a some none = none some.0 some.1 some.2 (full some.0 some.1)

differ : (n m : ℕ) → NoneShared (2 ^ (n % 128)) (2 ^ (m % 128)) → n ≡ m → ⊥
differ n m none same =
    let here : Has (2 ^ (n % 128)) (n % 128) = bit_at-pow_same (n % 128) in
    none (n % 128) (omega arith) here (subst (λ x. Has (2 ^ (x % 128)) (n % 128)) same here)

some_name : (g : ℕ → ℕ) (ys : List Elem) → SomeBit (name_bits g (slice_get ys 0))
some_name g [] = some_full
some_name g (Name m ∷ ys) = some_of (g m)
some_name g (Index j ∷ ys) = some_full
some_name g (Var j ∷ ys) = some_full
some_name g (AnyIndex ∷ ys) = some_full

clash_names : (n m : ℕ) (xs ys : List Elem) → (n ≡ m → ⊥) → clash_from_front (Name n ∷ xs) (Name m ∷ ys) ≡ true
clash_names n m xs ys differs = ap (λ b. not b || clash_from_front xs ys) (ne_eqb n m differs)

-- paths that begin with different regions clash
names-clash : (g : ℕ → ℕ) (xs ys : List Elem) → NoneShared (name_bits g (slice_get xs 0)) (name_bits g (slice_get ys 0)) → clash_from_front xs ys ≡ true
names-clash g [] ys none = absurd (full_left (name_bits g (slice_get ys 0)) (some_name g ys) none)
names-clash g (Index i ∷ xs) ys none = absurd (full_left (name_bits g (slice_get ys 0)) (some_name g ys) none)
names-clash g (Var i ∷ xs) ys none = absurd (full_left (name_bits g (slice_get ys 0)) (some_name g ys) none)
names-clash g (AnyIndex ∷ xs) ys none = absurd (full_left (name_bits g (slice_get ys 0)) (some_name g ys) none)
names-clash g (Name n ∷ xs) [] none = absurd (full_right (2 ^ (g n % 128)) (some_of (g n)) none)
names-clash g (Name n ∷ xs) (Index j ∷ ys) none = absurd (full_right (2 ^ (g n % 128)) (some_of (g n)) none)
names-clash g (Name n ∷ xs) (Var j ∷ ys) none = absurd (full_right (2 ^ (g n % 128)) (some_of (g n)) none)
names-clash g (Name n ∷ xs) (AnyIndex ∷ ys) none = absurd (full_right (2 ^ (g n % 128)) (some_of (g n)) none)
names-clash g (Name n ∷ xs) (Name m ∷ ys) none = clash_names n m xs ys (λ same. differ (g n) (g m) none (ap g same))

abbrev index_number : (ℕ → ℕ) → ℤ → ℕ
index_number g i = g (unsigned_abs i)

some_index : (g : ℕ → ℕ) (ys : List Elem) → SomeBit (index_bits g (slice_get ys 1))
some_index g [] = some_full
some_index g (y ∷ []) = some_full
some_index g (y ∷ (Name m ∷ ys)) = some_full
some_index g (y ∷ (Index j ∷ ys)) = some_of (index_number g j)
some_index g (y ∷ (Var j ∷ ys)) = some_full
some_index g (y ∷ (AnyIndex ∷ ys)) = some_full

clash_indexes : (x y : Elem) (i j : ℤ) (xs ys : List Elem) → (i ≡ j → ⊥) → clash_from_front (x ∷ (Index i ∷ xs)) (y ∷ (Index j ∷ ys)) ≡ true
clash_indexes x y i j xs ys differs =
    let unequal : int_eq i j ≡ false = false_from_ne_true (int_eq i j) (λ e. differs ((Decides-int_eq i j).0 e)) in
    or_last (clash x y) (not (int_eq i j) || clash_from_front xs ys) (ap (λ b. not b || clash_from_front xs ys) unequal)

-- paths whose second elements are different literals clash
indexes-clash : (g : ℕ → ℕ) (xs ys : List Elem) → NoneShared (index_bits g (slice_get xs 1)) (index_bits g (slice_get ys 1)) → clash_from_front xs ys ≡ true
indexes-clash g [] ys none = absurd (full_left (index_bits g (slice_get ys 1)) (some_index g ys) none)
indexes-clash g (x ∷ []) ys none = absurd (full_left (index_bits g (slice_get ys 1)) (some_index g ys) none)
indexes-clash g (x ∷ (Name n ∷ xs)) ys none = absurd (full_left (index_bits g (slice_get ys 1)) (some_index g ys) none)
indexes-clash g (x ∷ (Var n ∷ xs)) ys none = absurd (full_left (index_bits g (slice_get ys 1)) (some_index g ys) none)
indexes-clash g (x ∷ (AnyIndex ∷ xs)) ys none = absurd (full_left (index_bits g (slice_get ys 1)) (some_index g ys) none)
indexes-clash g (x ∷ (Index i ∷ xs)) [] none = absurd (full_right (2 ^ (index_number g i % 128)) (some_of (index_number g i)) none)
indexes-clash g (x ∷ (Index i ∷ xs)) (y ∷ []) none = absurd (full_right (2 ^ (index_number g i % 128)) (some_of (index_number g i)) none)
indexes-clash g (x ∷ (Index i ∷ xs)) (y ∷ (Name m ∷ ys)) none = absurd (full_right (2 ^ (index_number g i % 128)) (some_of (index_number g i)) none)
indexes-clash g (x ∷ (Index i ∷ xs)) (y ∷ (Var m ∷ ys)) none = absurd (full_right (2 ^ (index_number g i % 128)) (some_of (index_number g i)) none)
indexes-clash g (x ∷ (Index i ∷ xs)) (y ∷ (AnyIndex ∷ ys)) none = absurd (full_right (2 ^ (index_number g i % 128)) (some_of (index_number g i)) none)
indexes-clash g (x ∷ (Index i ∷ xs)) (y ∷ (Index j ∷ ys)) none = clash_indexes x y i j xs ys (λ same. differ (index_number g i) (index_number g j) none (ap (index_number g) same))

no_interference : (a b : Bool) → b ≡ true → (a && not b) ≡ false
no_interference true b e = ap not e
no_interference false b e = refl

clashing : (d e : Effect) → clash_from_front d.path.elems e.path.elems ≡ true → clash_from_front e.path.elems d.path.elems ≡ true → statically_interferes d e ≡ false
clashing d e x y =
    no_interference (one_writes d e) (apart d.path e.path) (apart_by d.path e.path x y d.path.star e.path.star refl refl)

swapped : (a b : ℕ) → NoneShared a b → NoneShared b a
swapped a b none k within x y = none k within y x

-- effects whose marks do not meet do not interfere
pub different-names : (g : ℕ → ℕ) (d e : Effect) → NoneShared (name_bits g (slice_get d.path.elems 0)) (name_bits g (slice_get e.path.elems 0)) → statically_interferes d e ≡ false
different-names g d e none =
    clashing d e (names-clash g d.path.elems e.path.elems none)
    (names-clash g e.path.elems d.path.elems (swapped (name_bits g (slice_get d.path.elems 0)) (name_bits g (slice_get e.path.elems 0)) none))

pub different-indexes : (g : ℕ → ℕ) (d e : Effect) → NoneShared (index_bits g (slice_get d.path.elems 1)) (index_bits g (slice_get e.path.elems 1)) → statically_interferes d e ≡ false
different-indexes g d e none =
    clashing d e (indexes-clash g d.path.elems e.path.elems none)
    (indexes-clash g e.path.elems d.path.elems (swapped (index_bits g (slice_get d.path.elems 1)) (index_bits g (slice_get e.path.elems 1)) none))

-- two words without a bit in common
pub none-shared : (a b k : ℕ) → bit_and a b ≡ 0 → Has a k → Has b k → ⊥
none-shared a b k e x y =
    let zero_bit : bit_at (bit_and a b) k ≡ 0 = ap (λ w. bit_at w k) e ∙ bit_at-zero k in
    absurd (omega (arith, bit_at_and a b k))
