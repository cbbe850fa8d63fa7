-- Numbers that are exchanged twice are those that they were.
use Rattle.std.proofs.Common.{◌≡◌, ℕ, List, [], ◌∷◌, Option, None, Some, refl, ap}
use Rattle.std.specs.Prelude.{map, option_map}
use Rattle.seg_meaning.specs.declared.frame.Frame.{Frame}
use Rattle.seg_meaning.specs.declared.frame.Next.{Next}
use Rattle.seg_meaning.specs.declared.frame.Next.TheVariants.{Go, Get, Join, Closing, Ended}
use Rattle.machine_state.specs.declared.state.TaskRow.{TaskRow}
use Rattle.determinism_laws.specs.numbering.Renumbering.{Numbering, frame_renumbered, futures_renumbered, next_renumbered}
use Rattle.determinism_laws.proofs.RenumberedRows.{row_renumbered}

module _ (to : Numbering) (back : (k : ℕ) → to (to k) ≡ k) where
  list_twice : (xs : List ℕ) → map to (map to xs) ≡ xs
  list_twice [] = refl
  list_twice (x ∷ xs) = λ i. back x i ∷ list_twice xs i

  option_twice : (o : Option ℕ) → option_map to (option_map to o) ≡ o
  option_twice None = refl
  option_twice (Some x) = ap Some (back x)

  futures_twice : (futures : List (Option ℕ)) → futures_renumbered to (futures_renumbered to futures) ≡ futures
  futures_twice [] = refl
  futures_twice (x ∷ xs) = λ i. option_twice x i ∷ futures_twice xs i

  next_twice : (next : Next) → next_renumbered to (next_renumbered to next) ≡ next
  next_twice Go = refl
  next_twice (Get on into) = λ i. Get (back on i) into
  next_twice (Join on into) = λ i. Join (back on i) into
  next_twice (Closing on) = λ i. Closing (back on i)
  next_twice Ended = refl

  frame_twice : (frame : Frame) → frame_renumbered to (frame_renumbered to frame) ≡ frame
  frame_twice frame =
      λ i. record frame {
        task = back frame.task i;
        futures = futures_twice frame.futures i;
        out = record frame.out { items = list_twice frame.out.items i };
        next = next_twice frame.next i;
      }

  pub row_twice : (row : TaskRow) → row_renumbered to (row_renumbered to row) ≡ row
  row_twice row = λ i. record row { frame = frame_twice row.frame i; parent = option_twice row.parent i; out = list_twice row.out i }
