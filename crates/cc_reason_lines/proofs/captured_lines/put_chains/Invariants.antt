use Rattle.std.proofs.Common.{◌≡◌, ◌++◌, map, take}
use Rattle.cc_labels.specs.LabelledLines.{line_of}
use Rattle.cc_reason_lines.specs.LabelledChains.{labelled_chains}
use Rattle.cc_reason_lines.proofs.captured_lines.put_chains.Given as goal

abbrev pub invariant-loop-chain : goal.invariant-loop-chain
invariant-loop-chain l =
    map line_of l.lines.items
    ≡ map line_of l.fn.lines.items ++ labelled_chains l.labels.value (map (λ chain. chain.items) (take l.chain-index l.chains))
