use Rattle.std.proofs.Common.{rules, ltb}
use Rattle.std.proofs.lemmas.List.Sorted.{IsPartitionPoint-from_clause}
use Rattle.cc_capture.proofs.SparseWords.{place_is, IsPartitionedBy-sparse}
use Rattle.cc_capture.proofs.words.place.Goals as goal

pub returns : goal.returns
returns c =
    let ordered = IsPartitionedBy-sparse c.args.at c.args.items.now c.requires in
    let point =
    IsPartitionPoint-from_clause (λ w. ltb w.at c.args.at) c.args.items.now _ c.partition_point.ensures.partitioned
    ordered (λ a r f called. search rules) in
    place_is _ _ _ c.partition_point.ensures.bound point
