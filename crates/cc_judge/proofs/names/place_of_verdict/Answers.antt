use Rattle.std.proofs.Common.{rules}
use Rattle.std.proofs.lemmas.Fn.{always_returns_same}
use Rattle.std.specs.Map.{keys_of}
use Rattle.cc_base.specs.Names.{compare_names}
use Rattle.cc_judge.proofs.Entries.{found_key, found_or_absent}
use Rattle.cc_judge.proofs.names.place_of_verdict.Goals as goal

pub returns : goal.returns
returns c =
    let found = c.binary_search_by.ensures.position (λ m. compare_names m.0 c.args.name.now)
    (always_returns_same _ _ _ (λ a r f' k. search rules)) in
    rw c.ok.ensures.value
    (found_or_absent (keys_of c.args.verdicts.now) c.args.name.now c.binary_search_by.result
    (found_key c.args.verdicts.now c.requires c.args.name.now c.binary_search_by.result
    c.binary_search_by.ensures.bound found))
