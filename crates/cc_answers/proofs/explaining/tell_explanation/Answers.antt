use Rattle.std.proofs.Common.{false, map, refl, sym, subst}
use Rattle.cc_io.specs.Wholes.{WritesWhole}
use Rattle.cc_replies.specs.Explanations.{explanation_named}
use Rattle.cc_replies.specs.ReplyTexts.{Explained as TellsExplained, reply_text}
use Rattle.cc_replies.specs.Requests.{ExplainDefinition, Ask, holding_under}
use Rattle.cc_session.specs.Modules.{module_of}
use Rattle.cc_answers.specs.Explaining.{definition_names, TellsExplanations}
use Rattle.cc_answers.specs.KeptEntries.{IsExplainedFor}
use Rattle.cc_answers.specs.declared.explanation.Explained.{Explained}
use Rattle.cc_answers.proofs.CommandFacts.{replied_nothing}
use Rattle.cc_answers.proofs.Explained.{explanations_told}
use Rattle.cc_answers.proofs.QuestionReplies.{explain_shown}
use Rattle.cc_answers.proofs.explaining.tell_explanation.Goals as goal

pub returns-in-Ok-clause-replied : goal.returns-in-Ok-clause-replied
returns-in-Ok-clause-replied g c = λ rules verdicts are it stands set_is.
    let session = c.args.session.now in
    let name = c.args.«module».now in
    let def = c.args.def.now in
    let set = c.args.set.now in
    let names = c.args.names.now.names.items in
    let explained = c.deref.result.now in
    let is : IsExplainedFor session.devices session.present name def set.list explained =
    subst (λ (e : Explained). IsExplainedFor session.devices session.present name def set.list e) (sym c.deref.ensures) c.in-Ok.ensures.explained in
    let modules = map module_of explained.modules.items in
    let text = reply_text names (TellsExplained name def (map (explanation_named (definition_names modules)) explained.found.items)) in
    let told : TellsExplanations session.devices session.present verdicts names name def set.list text =
    explanations_told session.devices session.present c.requires.differ c.requires.present name def modules is.linked
    set names explained.found.items is.finds verdicts are it stands set_is in
    explain_shown session.devices rules session.present verdicts are (g.K.Sink.written c.args.sink.now) (g.K.Sink.written c.tell_explained.new.sink)
    c.tell_explained.result text false
    (λ t same. subst (WritesWhole (g.K.Sink.written c.args.sink.now) (g.K.Sink.written c.tell_explained.new.sink) c.tell_explained.result) same
    c.tell_explained.ensures.written)
    c.tell_explained.ensures.refused name def it stands names c.requires.names
    (subst (λ s. TellsExplanations session.devices session.present verdicts names name def s.list text) set_is told) refl

pub returns-in-Err-clause-replied : goal.returns-in-Err-clause-replied
returns-in-Err-clause-replied g c = λ rules verdicts are it stands set_is.
    replied_nothing c.args.session.now.devices (holding_under rules c.args.session.now.present) (Ask (ExplainDefinition c.args.«module».now c.args.def.now))
    c.requires.differ c.requires.present (g.K.Sink.written c.args.sink.now)
