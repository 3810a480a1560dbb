use Rattle.std.proofs.Common.{◌≡◌, ap, sym, ◌∙◌, true, false, ◌∷◌, [], List, ℕ}
use Rattle.std.specs.Option.{is_some, option_map}
use Rattle.cc_parse.specs.Trees.{imports_syntax}
use Rattle.cc_entry_laws.specs.PresentEntries.{definitions_of}
use Rattle.cc_judge.proofs.Entries.{lookup_absent}
use Rattle.cc_module.specs.declared.judgement.ModuleVerdict.{ModuleVerdict}
use Rattle.cc_module.specs.Judgements.{module_verdict_of}
use Rattle.cc_session.proofs.PresentModules.{made_module}
use Rattle.cc_session.proofs.present_entries.present_module.Goals as goal

pub unreachable-requires : goal.unreachable-requires
unreachable-requires c =
    let clash : true ≡ false = sym c.requires.named
    ∙ ap is_some (lookup_absent c.args.texts.now c.args.name.now c.in-None.ensures) in cc

pub returns : goal.returns
returns c =
    λ all have.
    ap (λ one. one ∷ [])
    (made_module c.args.texts.now c.requires.present c.args.readings.now c.requires.read c.args.verdicts.now all have
    c.in-Some.at c.args.name.now c.in-Some.ensures c.index-readings-at.result c.index-readings-at.is
    (option_map imports_syntax c.imports.result.now) c.imports.ensures
    c.index-verdicts-at.result c.index-verdicts-at.is
    (record {
      name = c.in_ok-name-in-Some.name;
      imports = c.in_ok-imports-in-Some.imports;
      defs = c.in_ok-defs-in-Some.defs;
    })
    c.in_ok-name-in-Some.ensures.cases c.in_ok-imports-in-Some.ensures
    (c.in_ok-defs-in-Some.ensures
    ∙ ap (λ (v : List ℕ × ModuleVerdict). definitions_of (module_verdict_of v.1)) (sym c.index-verdicts-at.is)))
