use Rattle.std.proofs.Common.{arith, ap, sym, ◌∙◌, length}
use Rattle.std.proofs.lemmas.List.{length-map}
use Rattle.cc_labels.specs.LabelTexts.{label_of}
use Rattle.cc_causes.specs.Views.{locals_of}
use Rattle.cc_cause_texts.proofs.SceneLabels.{labels_joined}
use Rattle.cc_cause_texts.proofs.scene_labels.labels_there.Goals as goal

pub returns-clause-labels : goal.returns-clause-labels
returns-clause-labels c =
    labels_joined label_of c.in_ok-labels.labels.items c.in_ok-others.others.items c.append.new.self.items c.args.names.now
    (locals_of c.args.locals.now) c.in_ok-append.ensures.items c.in_ok-labels.ensures c.in_ok-others.ensures

pub returns-clause-locals : goal.returns-clause-locals
returns-clause-locals c =
    let all = labels_joined label_of c.in_ok-labels.labels.items c.in_ok-others.others.items c.append.new.self.items c.args.names.now
    (locals_of c.args.locals.now) c.in_ok-append.ensures.items c.in_ok-labels.ensures c.in_ok-others.ensures in
    let count = ap length (sym all) ∙ length-map c.append.new.self.items label_of in
    omega (arith, c.saturating_sub-locals.ensures, c.len-count.ensures, c.append.new.self.ok.0, c.entries.ensures, count)
