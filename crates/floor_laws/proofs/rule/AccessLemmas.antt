-- Lists of accesses alone: what they leave in a cell, and over which cells they hold.
use Rattle.std.proofs.Common.{◌≡◌, ◌≢◌, ℕ, zero, suc, ℤ, Bool, true, false, List, [], ◌∷◌, length, if◌then◌else◌, refl, sym, ap, subst, ◌∙◌, inl, inr, ⊎_elim, eq-eqb, ne_eqb, arith}
use Rattle.std.specs.Prelude.{◌==◌, slice_set}
use Rattle.std.proofs.lemmas.Bool.{cases_eq}
use Rattle.seg_meaning.specs.Access.{Access, Reads, Writes, Prints, Agrees, after, value_in}
use Rattle.isolation_laws.proofs.rows.ListElements.{get_set_other, length_set}
use Rattle.floor_laws.specs.admission.admission_core.States.{IsAmong}
use Rattle.floor_laws.specs.rule.Touches.{cell_at, is_written}

-- a cell that is set has the same value in each two lists of one length
pub set_at : (a b : List ℤ) (c : ℕ) (value : ℤ) → length a ≡ length b → cell_at (slice_set a c value) c ≡ cell_at (slice_set b c value) c
set_at [] [] c value same = refl
set_at [] (y ∷ b) c value same = absurd (omega (arith, same))
set_at (x ∷ a) [] c value same = absurd (omega (arith, same))
set_at (x ∷ a) (y ∷ b) zero value same = refl
set_at (x ∷ a) (y ∷ b) (suc c) value same = set_at a b c value (omega (arith, same))

pub set_else : (a : List ℤ) (c k : ℕ) (value : ℤ) → k ≢ c → cell_at (slice_set a c value) k ≡ cell_at a k
set_else a c k value other = ap value_in (get_set_other a c k value other)

pub after_length : (cells : List ℤ) (accesses : List Access) → length (after cells accesses) ≡ length cells
after_length cells [] = refl
after_length cells (Reads c value ∷ earlier) = after_length cells earlier
after_length cells (Writes c value ∷ earlier) = length_set (after cells earlier) c value ∙ after_length cells earlier
after_length cells (Prints value ∷ earlier) = after_length cells earlier

-- A write of a cell, or of another one.
written_here : (k c : ℕ) (rest : Bool) → k ≡ c → (if k == c then true else rest) ≡ true
written_here k c rest same = ap (λ (b : Bool). if b then true else rest) (eq-eqb k c same)

written_else : (k c : ℕ) (rest : Bool) → k ≢ c → (if k == c then true else rest) ≡ rest
written_else k c rest other = ap (λ (b : Bool). if b then true else rest) (ne_eqb k c other)

true_false : true ≡ false → ⊥
true_false h = cc

-- a cell that isn't written keeps its value
pub after_unwritten : (cells : List ℤ) (accesses : List Access) (c : ℕ) → is_written c accesses ≡ false → cell_at (after cells accesses) c ≡ cell_at cells c
after_unwritten cells [] c none = refl
after_unwritten cells (Reads k value ∷ earlier) c none = after_unwritten cells earlier c none
after_unwritten cells (Writes k value ∷ earlier) c none =
    ⊎_elim
    (λ (same : k ≡ c). absurd (true_false (sym (written_here k c (is_written c earlier) same) ∙ none)))
    (λ (other : k ≢ c).
    set_else (after cells earlier) k c value (λ e. other (sym e))
    ∙ after_unwritten cells earlier c (sym (written_else k c (is_written c earlier) other) ∙ none))
    (cases_eq k c)
after_unwritten cells (Prints value ∷ earlier) c none = after_unwritten cells earlier c none

-- a cell that is written has the value that was written last, whatever it was before
pub after_written : (a b : List ℤ) (accesses : List Access) (c : ℕ) → length a ≡ length b → is_written c accesses ≡ true
    → cell_at (after a accesses) c ≡ cell_at (after b accesses) c
after_written a b [] c same is = absurd (true_false (sym is))
after_written a b (Reads k value ∷ earlier) c same is = after_written a b earlier c same is
after_written a b (Writes k value ∷ earlier) c same is =
    ⊎_elim
    (λ (here : k ≡ c).
    subst (λ (n : ℕ). cell_at (slice_set (after a earlier) k value) n ≡ cell_at (slice_set (after b earlier) k value) n) here
    (set_at (after a earlier) (after b earlier) k value (after_length a earlier ∙ (same ∙ sym (after_length b earlier)))))
    (λ (other : k ≢ c).
    set_else (after a earlier) k c value (λ e. other (sym e))
    ∙ (after_written a b earlier c same (sym (written_else k c (is_written c earlier) other) ∙ is) ∙ sym (set_else (after b earlier) k c value (λ e. other (sym e)))))
    (cases_eq k c)
after_written a b (Prints value ∷ earlier) c same is = after_written a b earlier c same is

-- a cell that is written was written by one of the accesses
pub writer_of : (accesses : List Access) (c : ℕ) → is_written c accesses ≡ true → (value : ℤ) × IsAmong (Writes c value) accesses
writer_of [] c is = absurd (true_false (sym is))
writer_of (Reads k value ∷ earlier) c is = let found = writer_of earlier c is in (found.0, inr found.1)
writer_of (Writes k value ∷ earlier) c is =
    ⊎_elim
    (λ (here : k ≡ c). (value, inl (ap (λ (n : ℕ). Writes n value) (sym here))))
    (λ (other : k ≢ c). let found = writer_of earlier c (sym (written_else k c (is_written c earlier) other) ∙ is) in (found.0, inr found.1))
    (cases_eq k c)
writer_of (Prints value ∷ earlier) c is = let found = writer_of earlier c is in (found.0, inr found.1)

-- the last access of a list that writes the cell
pub own_write : (c : ℕ) (value : ℤ) (earlier : List Access) → is_written c (Writes c value ∷ earlier) ≡ true
own_write c value earlier = written_here c c (is_written c earlier) refl

pub other_write : (k c : ℕ) (value : ℤ) (earlier : List Access) → k ≢ c → is_written c (Writes k value ∷ earlier) ≡ is_written c earlier
other_write k c value earlier other = written_else k c (is_written c earlier) other

-- accesses hold over other cells too that have the same values where they read
value_over : (a b : List ℤ) (earlier : List Access) (c : ℕ) (value : ℤ) (written : Bool) → is_written c earlier ≡ written → length a ≡ length b → cell_at a c ≡ cell_at b c
    → cell_at (after a earlier) c ≡ value → cell_at (after b earlier) c ≡ value
value_over a b earlier c value true is same values found = sym (after_written a b earlier c same is) ∙ found
value_over a b earlier c value false is same values found = after_unwritten b earlier c is ∙ (sym values ∙ (sym (after_unwritten a earlier c is) ∙ found))

pub agrees_over : (a b : List ℤ) (accesses : List Access) → length a ≡ length b → ((c : ℕ) (value : ℤ) → IsAmong (Reads c value) accesses → cell_at a c ≡ cell_at b c)
    → Agrees a accesses → Agrees b accesses
agrees_over a b [] same values agrees = tt
agrees_over a b (Reads c value ∷ earlier) same values agrees =
    (agrees_over a b earlier same (λ k v among. values k v (inr among)) agrees.0, value_over a b earlier c value (is_written c earlier) refl same (values c value (inl refl)) agrees.1)
agrees_over a b (Writes c value ∷ earlier) same values agrees = agrees_over a b earlier same (λ k v among. values k v (inr among)) agrees
agrees_over a b (Prints value ∷ earlier) same values agrees = agrees_over a b earlier same (λ k v among. values k v (inr among)) agrees
