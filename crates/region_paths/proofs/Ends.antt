-- A concrete path in a set, as its length and what stands against its front and, counted backwards, its end.
use Rattle.std.proofs.Common.{◌≡◌, ◌+◌, ◌-◌, ◌≤◌, true, List, [], ◌++◌, length, take, drop, reverse, sym, ap, ◌∙◌, arith, length-drop, take-append-drop, append-nil}
use Rattle.std.proofs.lemmas.List.{reverse-append, reverse-reverse, length-reverse}
use Rattle.std.proofs.lemmas.Bool.{and_parts, and_from, leb-true, le-leb}
use Rattle.region_paths.specs.declared.elements.Elem.{Elem}
use Rattle.region_paths.specs.Concrete.{ConcretePath, each_stands, both_ends_stand}
use Rattle.region_paths.proofs.Standing.{front_stands, each_stands-take, front_stands-each, each_stands-length, each_stands-reverse}

-- the concrete path has room for both lists, and they stand against its front and its end
pub record Around (elems tail : List Elem) (c : ConcretePath) : Type 0 where
  pub room : length elems + length tail ≤ length c
  pub front : front_stands elems c ≡ true
  pub back : front_stands (reverse tail) (reverse c) ≡ true

-- the concrete path is as long as the list, which stands against it from the front and from the end
pub record Along (elems : List Elem) (c : ConcretePath) : Type 0 where
  pub long : length elems ≡ length c
  pub front : front_stands elems c ≡ true
  pub back : front_stands (reverse elems) (reverse c) ≡ true

-- the front of a list counted backwards is its end
back_is : (tail : List Elem) (c : ConcretePath) → length tail ≤ length c → front_stands (reverse tail) (reverse c) ≡ each_stands (reverse tail) (reverse (drop (length c - length tail) c))
back_is tail c fits =
    let cut = length c - length tail in
    let split : reverse c ≡ reverse (drop cut c) ++ reverse (take cut c) = ap reverse (sym (take-append-drop cut c)) ∙ reverse-append (take cut c) (drop cut c) in
    ap (front_stands (reverse tail)) split
    ∙ front_stands-each (reverse tail) (reverse (drop cut c)) (reverse (take cut c)) (omega (arith, length-reverse tail, length-reverse (drop cut c), length-drop cut c))

pub around_from : (elems tail : List Elem) (c : ConcretePath) → both_ends_stand elems tail c ≡ true → Around elems tail c
around_from elems tail c h =
    let parts = and_parts _ _ h in
    let ends = and_parts _ _ parts.1 in
    let room : length elems + length tail ≤ length c = leb-true _ _ parts.0 in
    record {
      room = room;
      front = sym (each_stands-take elems c) ∙ ends.0;
      back = back_is tail c (omega arith) ∙ each_stands-reverse tail _ ends.1;
    }

pub around_to : (elems tail : List Elem) (c : ConcretePath) → Around elems tail c → both_ends_stand elems tail c ≡ true
around_to elems tail c a =
    let fits : length tail ≤ length c = omega (arith, a.room) in
    let last = drop (length c - length tail) c in
    let turned : each_stands (reverse (reverse tail)) (reverse (reverse last)) ≡ true = each_stands-reverse (reverse tail) (reverse last) (sym (back_is tail c fits) ∙ a.back) in
    let straight : each_stands tail last ≡ true = rw (reverse-reverse tail, reverse-reverse last) at turned in
    and_from _ _ (le-leb _ _ a.room) (and_from _ _ (each_stands-take elems c ∙ a.front) straight)

each_is : (elems : List Elem) (c : ConcretePath) → length elems ≡ length c → front_stands elems c ≡ each_stands elems c
each_is elems c long = ap (front_stands elems) (sym (append-nil c)) ∙ front_stands-each elems c [] long

pub along_from : (elems : List Elem) (c : ConcretePath) → each_stands elems c ≡ true → Along elems c
along_from elems c h =
    let long = each_stands-length elems c h in
    record {
      long = long;
      front = each_is elems c long ∙ h;
      back = each_is (reverse elems) (reverse c) (omega (arith, length-reverse elems, length-reverse c)) ∙ each_stands-reverse elems c h;
    }

pub along_to : (elems : List Elem) (c : ConcretePath) → length elems ≡ length c → front_stands elems c ≡ true → each_stands elems c ≡ true
along_to elems c long front = sym (each_is elems c long) ∙ front
