use Rattle.std.proofs.Common.{map, refl, ap, ◌∙◌}
use Rattle.cc_verdicts.specs.StandingDefinitions.{context_behind, names_behind}
use Rattle.cc_module.specs.Findings.{finding_of}
use Rattle.cc_module.specs.Judgements.{checked_definition_of}
use Rattle.cc_session.proofs.standing.standing_behind.Goals as goal

pub returns : goal.returns
returns c =
    let before = map checked_definition_of c.args.before.now in
    let one = checked_definition_of c.args.def.now in
    record {
      definition = refl;
      context =
          c.in_ok-ctx.ensures
          ∙ ap (λ found. context_behind c.args.devices.now (map finding_of found) before one)
          c.as_slice-findings.ensures;
      names =
          c.in_ok-names.ensures
          ∙ ap (λ imports. names_behind c.args.devices.now imports before one)
          c.imports_in-imports.ensures;
    }
