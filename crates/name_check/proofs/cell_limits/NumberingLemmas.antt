-- One more name in a numbering.
use Rattle.std.proofs.Common.{◌≡◌, ℕ, Bool, true, false, cond, List, [], ◌∷◌, ◌++◌, length, None, Some, String, BTreeMap, refl, sym, ◌∙◌, subst}
use Rattle.std.specs.List.{position}
use Rattle.std.specs.Str.{bytes_eq}
use Rattle.std.specs.Map.{update}
use Rattle.std.specs.BTreeMap.{get_by_text}
use Rattle.std.specs.Cmp.Lexicographic.{bytes_decides, nat_list_eq_equiv}
use Rattle.name_check.specs.cell_limits.inner.Numbering.{IsNumbering}
use Rattle.name_check.proofs.cell_limits.Positions.{position_push_first, position_push_other}

module _ {A : Type 0} (old new : BTreeMap (String A) ℕ) where
  pub numbering_push : (names after : List (List ℕ)) (name key : List ℕ) (number : ℕ) → after ≡ names ++ name ∷ [] → key ≡ name → number ≡ length names → position (bytes_eq name) names ≡ None → IsNumbering names old
      → ((q : List ℕ) → get_by_text new q ≡ update bytes_eq (get_by_text old) key (Some number) q) → IsNumbering after new
  numbering_push names after name key number end same count fresh was sets q = rw (sets q, end, same, count) (by (bytes_eq name q) refl)
    where
      by : (b : Bool) → bytes_eq name q ≡ b → cond (bytes_eq name q) (Some (length names)) (get_by_text old q) ≡ position (bytes_eq q) (names ++ name ∷ [])
      by true same =
          let equal : name ≡ q = (bytes_decides name q).0 same in
          rw same (sym (position_push_first (bytes_eq q) names name (nat_list_eq_equiv.symm q name ∙ same) (subst (λ n. position (bytes_eq n) names ≡ None) equal fresh)))
      by false differs = rw differs (was q ∙ sym (position_push_other (bytes_eq q) names name (nat_list_eq_equiv.symm q name ∙ differs)))
