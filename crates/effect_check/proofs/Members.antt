-- Elements of a list, by recursion on it.
pub use Rattle.twe_base.proofs.Members.{IsIn, in-left, in-right, in-cases, contains-in, in-contains, both-true, true-both, list_all-in, in-list_all, list_any-in, in-list_any, all-in, all-append, all-front, all-back}
