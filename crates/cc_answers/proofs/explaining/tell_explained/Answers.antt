use Rattle.std.proofs.Common.{◌≡◌, ℕ, List, map, ap, ◌∙◌, subst}
use Rattle.cc_io.specs.Wholes.{WritesWhole}
use Rattle.cc_session.specs.Modules.{module_of}
use Rattle.cc_session.specs.declared.modules.EntryModule.{EntryModule}
use Rattle.cc_replies.specs.Explanations.{explanation_named, names_of}
use Rattle.cc_replies.specs.ReplyTexts.{Explained as TellsExplained, reply_text}
use Rattle.cc_replies.specs.declared.chains.FoundChain.{FoundChain}
use Rattle.cc_answers.specs.Explaining.{definition_names}
use Rattle.cc_answers.proofs.explaining.tell_explained.Goals as goal

pub returns-in-Ok-clause-written : goal.returns-in-Ok-clause-written
returns-in-Ok-clause-written g c =
    let old = g.K.Sink.written c.args.sink.now in
    let new = g.K.Sink.written c.write_explanation.new.sink in
    let text : List (List ℕ × List ℕ) → List FoundChain → List ℕ = λ definitions found.
    reply_text c.args.names.now.names.items (TellsExplained c.args.«module».now c.args.def.now (map (explanation_named definitions) found)) in
    let definitions : map names_of c.deref.result.now ≡ definition_names (map module_of c.args.it.now.modules.items) =
    ap (map names_of) c.deref.ensures.value ∙ c.in-Ok.ensures ∙ ap (λ (ms : List EntryModule). definition_names (map module_of ms)) c.as_slice.ensures.value in
    c.told.ensures.written old new (text (definition_names (map module_of c.args.it.now.modules.items)) c.args.it.now.found.items)
    (subst (WritesWhole old new c.write_explanation.result) (λ i. text (definitions i) (c.as_slice-in-Ok.ensures.value i)) c.write_explanation.ensures.written)

pub returns-in-Ok-clause-cause : goal.returns-in-Ok-clause-cause
returns-in-Ok-clause-cause g c =
    c.told.ensures.cause (g.K.Sink.faults c.args.sink.now) (g.K.Sink.faults c.write_explanation.new.sink) c.write_explanation.ensures.cause
