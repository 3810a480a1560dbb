use Rattle.std.proofs.Common.{◌≡◌, ◌≤◌, ◌+◌, ◌-◌, vec_len}
use Rattle.std.specs.Io.KnownBytes.{Consumes}
use Rattle.cc_io.proofs.whole.read_all.Given as goal

-- The bytes so far are what was consumed, within the limit, and no read failed. Each read so far gave a byte or more.
abbrev pub invariant-loop-read : goal.invariant-loop-read
invariant-loop-read g l = record {
  in_limit : vec_len l.bytes ≤ l.limit;
  consumed : Consumes (g.S.Source.left l.initial.source) (g.S.Source.left l.source) l.bytes.items;
  no_fault : g.S.Source.faults l.source ≡ g.S.Source.faults l.initial.source;
  few_reads : g.S.Source.read_count l.source ≤ g.S.Source.read_count l.initial.source + vec_len l.bytes;
}

abbrev pub decreases-loop-read : goal.decreases-loop-read
decreases-loop-read g l = l.limit + 1 - vec_len l.bytes
