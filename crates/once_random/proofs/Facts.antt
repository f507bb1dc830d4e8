-- What callers cite of live rows, cuts, and what is provable.

-- lists of rows, and the sides of nodes
pub use Rattle.once_random.proofs.LiveRows.{has-++, has-append, has-append_left, has-append_right}
pub use Rattle.once_random.proofs.Chains.{latest_first}
pub use Rattle.once_random.proofs.Sides.{has_first, has_later, has_left, has_right, node_read}
-- numbers below a number that pass a test
pub use Rattle.once_random.proofs.Alone.{all_below-at, all_below-from, count_none, count_some, same_tests}
pub use Rattle.once_random.proofs.Counting.{count_below-le, count_below-same}
pub use Rattle.once_random.proofs.LeastChain.{count_mono}
-- what is live: the roots, the sides of what is live and not cut, nothing else; no more with one more cut, and the
-- same where the row that is cut is not live
pub use Rattle.once_random.proofs.LiveRows.{live-root, live-side, live-from, live-below, live-fewer, live-same, live-least}
-- the least chain, and cuts after which no live row may be cut
pub use Rattle.once_random.proofs.LeastChain.{least_is_chain, least_is_saturated}
pub use Rattle.once_random.proofs.Saturated.{least_live}
pub use Rattle.once_random.proofs.Provable.{saturated_live, saturated_within, saturated_decides, least_decides, least_chain_decides}
-- some of the roots, and the same roots in another order
pub use Rattle.once_random.proofs.Subsets.{live-among, allowed-among, chain-among, live-same_rows, may_be_cut-same_rows, least_chain-same_rows}
pub use Rattle.once_random.proofs.Provable.{within-among, provable-among, provable-same_rows}
-- groups and tuples
pub use Rattle.once_random.proofs.Leaves.{inputs_within, leaves_by_number}
pub use Rattle.once_random.proofs.Provable.{within_is_each, within_is_each_group, roots_are_rows, roots_among, proved_is_provable}
