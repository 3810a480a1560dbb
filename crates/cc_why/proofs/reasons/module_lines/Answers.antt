use Rattle.std.proofs.Common.{◌≡◌, ℕ, List, map, sym, subst}
use Rattle.std.proofs.lemmas.Result.{IfOk-weaker}
use Rattle.cc_module.specs.Findings.{finding_of}
use Rattle.cc_verdicts.proofs.PresentLaws.{present_findings_fit}
use Rattle.cc_verdicts.specs.ModuleLaws.{AreFit}
use Rattle.cc_verdicts.specs.ModuleVerdicts.{Finding}
use Rattle.cc_why.proofs.FoundReasons.{text_told}
use Rattle.cc_why.proofs.FoundTrees.{tree_read, none_read, fits_tree}
use Rattle.cc_why.proofs.SessionFacts.{findings_are, findings_there}
use Rattle.cc_why.proofs.reasons.module_lines.Goals as goal

pub returns-in-NoModule : goal.returns-in-NoModule
returns-in-NoModule c =
    let session = c.args.session.now in
    let text = c.args.text.now in
    let diag = c.in-NoModule.field-0 in
    let read = none_read text c.in_ok-read.field-0 diag c.in-NoModule.is c.in_ok-read.ensures in
    IfOk-weaker c.text_lines.result _ _
    (λ told it all current. text_told session.devices session.present all c.args.name.now text diag.code diag.place read told it) c.text_lines.ensures

pub tree_lines-requires-clause-one_each : goal.tree_lines-requires-clause-one_each
tree_lines-requires-clause-one_each c =
    let session = c.args.session.now in
    let name = c.args.name.now in
    let text = c.args.text.now in
    let found = c.in-Ok.findings.now in
    let (all, are, current) = c.in-Ok.ensures.current in
    let same = findings_are session.present all session.last name text (map finding_of found) current c.requires.text c.in-Ok.ensures.answer in
    let fit = subst (AreFit session.devices text) (sym same)
    (present_findings_fit session.devices session.present all c.requires.differ c.requires.present are name text c.requires.text) in
    (fits_tree session.devices text c.in-Tree.tree found (tree_read text c.in_ok-read.field-0 c.in-Tree.tree c.in-Tree.is c.in_ok-read.ensures) fit).0

pub tree_lines-requires-clause-over_devices : goal.tree_lines-requires-clause-over_devices
tree_lines-requires-clause-over_devices c =
    let session = c.args.session.now in
    let name = c.args.name.now in
    let text = c.args.text.now in
    let found = c.in-Ok.findings.now in
    let (all, are, current) = c.in-Ok.ensures.current in
    let same = findings_are session.present all session.last name text (map finding_of found) current c.requires.text c.in-Ok.ensures.answer in
    let fit = subst (AreFit session.devices text) (sym same)
    (present_findings_fit session.devices session.present all c.requires.differ c.requires.present are name text c.requires.text) in
    (fits_tree session.devices text c.in-Tree.tree found (tree_read text c.in_ok-read.field-0 c.in-Tree.tree c.in-Tree.is c.in_ok-read.ensures) fit).1

pub returns-in-Ok : goal.returns-in-Ok
returns-in-Ok c =
    let session = c.args.session.now in
    let name = c.args.name.now in
    let text = c.args.text.now in
    let reads = tree_read text c.in_ok-read.field-0 c.in-Tree.tree c.in-Tree.is c.in_ok-read.ensures in
    IfOk-weaker c.tree_lines.result _ _
    (λ told it all current.
    it all text current c.requires.text reads
    (findings_are session.present all session.last name text (map finding_of c.in-Ok.findings.now) current c.requires.text c.in-Ok.ensures.answer))
    c.tree_lines.ensures

pub returns : goal.returns
returns c = λ all current reason at it.
    let session = c.args.session.now in
    findings_there session.present all session.last c.args.name.now c.args.text.now current c.requires.text c.in-Err.ensures.answer
