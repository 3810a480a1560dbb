use Rattle.std.proofs.Common.{ℕ, List, sym, subst, ◌∙◌}
use Rattle.cc_module.specs.Findings.{finding_of}
use Rattle.cc_parse.specs.Trees.{import_syntax}
use Rattle.cc_judge.specs.Kept.{judgements_of}
use Rattle.cc_judge.specs.Settled.{IsStillFound}
use Rattle.cc_judge.proofs.FindingTests.{finding_decides}
use Rattle.cc_judge.proofs.RightPlans.{plans_counted}
use Rattle.cc_judge.proofs.StillFound.{one_if_last, still_last, last_still}
use Rattle.cc_judge.proofs.TextPlaces.{place_of_key}
use Rattle.cc_judge.proofs.staying.stays_at.Goals as goal

pub is_known-sure-requires-clause-count : goal.is_known-sure-requires-clause-count
is_known-sure-requires-clause-count c =
    plans_counted c.args.devices.now c.args.texts.now (judgements_of c.args.last.now) c.args.plans.now
    c.requires.differ c.requires.present c.requires.plans

pub is_known-sure-requires-clause-within : goal.is_known-sure-requires-clause-within
is_known-sure-requires-clause-within c =
    (place_of_key c.args.texts.now c.args.at c.args.import.now.module c.requires.source).0

pub same_as_known-same-requires : goal.same_as_known-same-requires
same_as_known-same-requires c =
    λ yes.
    let last = judgements_of c.args.last.now in
    let one = import_syntax c.args.import.now in
    let at_source = (place_of_key c.args.texts.now c.args.at c.args.import.now.module c.requires.source).1 in
    let P : List ℕ → Type 0 = λ n. IsStillFound c.args.devices.now c.args.texts.now last n c.args.import.now.def in
    one_if_last last one (finding_of c.args.old.now) (finding_of c.args.new.now) c.requires.old
    (still_last c.args.devices.now c.args.texts.now last c.requires.differ c.requires.present c.args.name.now one
    (finding_of c.args.new.now) (subst P at_source (c.is_known-sure.ensures yes)) c.requires.new)

pub know-requires-clause-within : goal.know-requires-clause-within
know-requires-clause-within c =
    (place_of_key c.args.texts.now c.args.at c.args.import.now.module c.requires.source).0

pub know-requires-clause-found : goal.know-requires-clause-found
know-requires-clause-found c =
    let last = judgements_of c.args.last.now in
    let one = import_syntax c.args.import.now in
    let at_source = (place_of_key c.args.texts.now c.args.at c.args.import.now.module c.requires.source).1 in
    let P : List ℕ → Type 0 = λ n. IsStillFound c.args.devices.now c.args.texts.now last n c.args.import.now.def in
    subst P (sym at_source)
    (last_still c.args.devices.now c.args.texts.now last c.args.name.now one (finding_of c.args.old.now)
    (finding_of c.args.new.now) c.requires.old
    ((finding_decides (finding_of c.args.old.now) (finding_of c.args.new.now)).0
    (sym c.same_as_known-same.ensures ∙ c.if-same.true))
    (sym c.is_found.ensures ∙ c.if-is_found.true) c.requires.new)
