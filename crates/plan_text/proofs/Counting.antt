-- The numbers of sets beside the answer: what is true of them, passed on from `sets_by_size`.
pub use Rattle.sets_by_size.proofs.Counting.{counts-length, counts_at}
