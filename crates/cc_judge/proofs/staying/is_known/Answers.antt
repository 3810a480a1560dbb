use Rattle.std.proofs.Common.{◌<◌, length, arith, sym, ◌∙◌}
use Rattle.std.proofs.lemmas.List.{get_or_read}
use Rattle.std.specs.Prelude.{None}
use Rattle.cc_judge.specs.Kept.{judgements_of}
use Rattle.cc_judge.proofs.StillFound.{kept_found, known_found}
use Rattle.cc_judge.proofs.staying.is_known.Goals as goal

pub returns-then-keeps : goal.returns-then-keeps
returns-then-keeps c =
    λ yes.
    let (at, is) = c.keeps.ensures c.if-keeps.true in
    let within : c.args.at < length c.args.plans.now = omega (arith, c.requires.count, c.requires.within) in
    kept_found c.args.devices.now c.args.texts.now c.args.last.now.verdicts.items c.args.last.now.grounds.items
    c.requires.kept.names c.requires.kept.one_each c.args.plans.now c.requires.plans c.args.at at c.requires.within
    (sym (get_or_read c.args.plans.now c.args.at c.index-plans-at.result within c.index-plans-at.is None) ∙ is)
    c.args.name.now

pub returns-else-keeps : goal.returns-else-keeps
returns-else-keeps c =
    λ yes.
    known_found c.args.devices.now c.args.texts.now (judgements_of c.args.last.now) c.args.known.now c.requires.known
    c.args.at c.requires.within c.index-known-at.result c.index-known-at.is c.args.name.now
    (sym c.contains.ensures ∙ yes)
