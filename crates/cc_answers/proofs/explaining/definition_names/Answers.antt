use Rattle.std.proofs.Common.{◌++◌, ◌∷◌, [], List, map, take, sym, ap, ◌∙◌}
use Rattle.std.proofs.lemmas.List.{take_more}
use Rattle.cc_session.specs.Modules.{module_of}
use Rattle.cc_session.specs.declared.modules.EntryModule.{EntryModule}
use Rattle.cc_module.specs.declared.judgement.CheckedDef.{CheckedDef}
use Rattle.cc_replies.specs.Explanations.{names_of}
use Rattle.cc_answers.specs.Explaining as plain
use Rattle.cc_answers.proofs.ExplainingFacts.{names_more}
use Rattle.cc_answers.proofs.explaining.definition_names.Goals as goal

pub loop-module-preserved : goal.loop-module-preserved
loop-module-preserved c =
    let modules = c.args.modules.now in
    let item = c.module-item.result in
    let more = c.in_ok-add_names.ensures
    ∙ ap (λ ds. map names_of c.loop-module.names.items ++ map (λ (def : CheckedDef). (item.name, def.name)) ds) c.as_slice.ensures.value in
    names_more (take c.loop-module.module-index modules) item (map names_of c.loop-module.names.items) (map names_of c.add_names.new.names.items)
    c.loop-module.invariant more
    ∙ ap (λ (ms : List EntryModule). plain.definition_names (map module_of ms))
    (sym (take_more modules c.loop-module.module-index item c.loop-module-test.true
    ∙ ap (λ x. take c.loop-module.module-index modules ++ x ∷ []) (sym c.module-item.is)))
