-- Frames with the same parts are the same, but for memory that is reserved.
use Rattle.std.proofs.Common.{◌≡◌, Bool, false, ap}
use Rattle.std.specs.Prelude.{◌↔◌, IsTrue}
use Rattle.seg_meaning.specs.declared.frame.Frame.{Frame}
use Rattle.state_copies.specs.Frames.{unreserved}
use Rattle.state_copies.specs.inner.Frames.{SameContents, SameProgress}

pub same_parts : (a b : Frame) → SameProgress a b → SameContents a b → unreserved a ≡ unreserved b
same_parts a b progress contents = λ i. record {
  task = progress.task i;
  decl = progress.decl i;
  body = contents.body i;
  fuel = progress.fuel i;
  futures = contents.futures i;
  out = record { items = contents.out i; room = 0 };
  next = progress.next i;
  value = progress.value i;
  prints = contents.prints i;
}

same_progress : (a b : Frame) → unreserved a ≡ unreserved b → SameProgress a b
same_progress a b e = record {
  task = ap (λ (f : Frame). f.task) e;
  decl = ap (λ (f : Frame). f.decl) e;
  fuel = ap (λ (f : Frame). f.fuel) e;
  value = ap (λ (f : Frame). f.value) e;
  next = ap (λ (f : Frame). f.next) e;
}

same_contents : (a b : Frame) → unreserved a ≡ unreserved b → SameContents a b
same_contents a b e = record {
  body = ap (λ (f : Frame). f.body) e;
  futures = ap (λ (f : Frame). f.futures) e;
  out = ap (λ (f : Frame). f.out.items) e;
  prints = ap (λ (f : Frame). f.prints) e;
}

-- if they have come equally far, the rest decides
pub same_all : (a b : Frame) (result : Bool) → SameProgress a b → (IsTrue result ↔ SameContents a b) → IsTrue result ↔ (unreserved a ≡ unreserved b)
same_all a b result progress says = (λ yes. same_parts a b progress (says.0 yes), λ e. says.1 (same_contents a b e))

-- and otherwise they differ
pub differs : (a b : Frame) (result : Bool) → result ≡ false → (IsTrue result ↔ SameProgress a b) → IsTrue result ↔ (unreserved a ≡ unreserved b)
differs a b result is says = (λ yes. absurd (cc (yes, is)), λ e. says.1 (same_progress a b e))
