use Rattle.std.proofs.Common.{◌≡◌, List, ◌++◌, length, map, sym, ap, subst, ◌∙◌}
use Rattle.cc_base.specs.declared.literal.Import.{Import}
use Rattle.cc_core.proofs.Lookups.{length_map}
use Rattle.cc_core.specs.Contexts.{Context}
use Rattle.cc_core.specs.TermViews.{bind_of, context_of}
use Rattle.cc_definition_reasoning.specs.Reasons.{reason_of}
use Rattle.cc_labels.specs.LabelledLines.{line_of}
use Rattle.cc_mnf.specs.CoreModules.{definition_of}
use Rattle.cc_mnf.specs.ElaboratedModules.{import_names, device_names}
use Rattle.cc_mnf.specs.Scopes.{Name}
use Rattle.cc_module.specs.Findings.{finding_of}
use Rattle.cc_module_reasoning.specs.RefusedDefinitions.{names_inside_at}
use Rattle.cc_parse.specs.Trees.{import_syntax}
use Rattle.cc_reasons.specs.ReasonTexts.{AreLines}
use Rattle.cc_verdicts.proofs.GlobalContexts.{count_devices}
use Rattle.cc_verdicts.specs.ModuleVerdicts.{declared_context, with_findings}
use Rattle.cc_why.specs.declared.why.ReasonLines.TheVariants.{Labelled}
use Rattle.cc_why.proofs.FoundDefinitions.{first_found, can_be_told, first_told}
use Rattle.cc_why.proofs.definitions.definition_lines.Goals as goal

pub reason_lines-requires : goal.reason_lines-requires
reason_lines-requires c =
    let devices = c.args.devices.now in
    let findings = map finding_of c.args.findings.now in
    let trees = c.args.tree.now.defs.items in
    let context : Context = with_findings (declared_context devices) findings in
    let outer : List Name = device_names devices ++ import_names (map import_syntax c.args.tree.now.imports.items) in
    let counts : c.len-count.result ≡ length devices = c.len-count.ensures ∙ sym (length_map bind_of c.in_ok-declared.declared) ∙ ap length c.in_ok-declared.ensures ∙ count_devices devices in
    let same : context_of c.in_ok-globals.globals ≡ context = c.in_ok-globals.ensures ∙ ap (λ x. with_findings x findings) c.in_ok-declared.ensures in
    record {
      told = can_be_told (length devices) context outer c.args.defs.now trees c.in-Some.found c.requires.ready
          (first_found (length devices) context outer c.args.defs.now trees c.len-count.result (context_of c.in_ok-globals.globals) c.deref.result.now
          c.in_ok-found.field-0 c.in-Some.found counts same c.deref.ensures.value c.in-Some.is c.in_ok-found.ensures);
    }

pub returns-in_ok-lines-in-Some : goal.returns-in_ok-lines-in-Some
returns-in_ok-lines-in-Some c =
    let devices = c.args.devices.now in
    let findings = map finding_of c.args.findings.now in
    let defs = c.args.defs.now in
    let found = c.in-Some.found in
    let trees = c.args.tree.now.defs.items in
    let context : Context = with_findings (declared_context devices) findings in
    let named = λ (imports : List Import). device_names devices ++ import_names (map import_syntax imports) in
    let outer = named c.args.tree.now.imports.items in
    let counts : c.len-count.result ≡ length devices = c.len-count.ensures ∙ sym (length_map bind_of c.in_ok-declared.declared) ∙ ap length c.in_ok-declared.ensures ∙ count_devices devices in
    let same : context_of c.in_ok-globals.globals ≡ context = c.in_ok-globals.ensures ∙ ap (λ x. with_findings x findings) c.in_ok-declared.ensures in
    let inside : c.deref-in-Some-2.result.now ≡ names_inside_at outer (map definition_of defs) found.before =
    c.deref-in-Some-2.ensures.value ∙ c.in_ok-names-in-Some.ensures
    ∙ ap (λ (imports : List Import). names_inside_at (named imports) (map definition_of defs) found.before) c.deref-in-Some.ensures.value in
    first_told (length devices) context outer defs trees found
    (first_found (length devices) context outer defs trees c.len-count.result (context_of c.in_ok-globals.globals) c.deref.result.now
    c.in_ok-found.field-0 found counts same c.deref.ensures.value c.in-Some.is c.in_ok-found.ensures)
    c.len-count.result c.deref-in-Some-2.result.now (Labelled c.in_ok-lines-in-Some.lines) counts inside c.in_ok-lines-in-Some.ensures
