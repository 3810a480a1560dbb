use Rattle.std.proofs.Common.{subst, sym}
use Rattle.std.specs.Option.{option_map}
use Rattle.cc_module.specs.declared.judgement.Judgement.{Judgement}
use Rattle.cc_module.specs.Judgements.{checked_definition_of, judgement_of, FindsDefinition}
use Rattle.cc_module.proofs.NamedDefinitions.{first_seen}
use Rattle.cc_module.proofs.judgement.ModuleVerdict.definition.Goals as goal

pub returns-in-Accepted-clause-ok : goal.returns-in-Accepted-clause-ok
returns-in-Accepted-clause-ok c =
    let P : Judgement → Type 0 = λ j. FindsDefinition (judgement_of j) c.args.name.now
    (option_map (λ d. checked_definition_of d.now) c.named.result) in
    subst P (sym c.in-Accepted.is)
    (first_seen (λ d. d.now) c.named.result c.args.name.now c.in-Accepted.definitions.defs.items c.named.ensures)
