use Rattle.std.proofs.Common.{false, Ok, Err, refl, sym, ◌∙◌, subst}
use Rattle.cc_conversation.proofs.HearingOn.{awaits_end, awaits_command, awaits_aside, awaits_stop}
use Rattle.cc_conversation.proofs.Turning.{talks_blank, talks_device, device_lost}
use Rattle.cc_conversation.proofs.conversing.hear_next.Goals as goal
use Rattle.cc_conversation.specs.Turns.{Talks, opening}
use Rattle.cc_item_reading.specs.ItemReading.{HearsNextItem}
use Rattle.cc_item_reading.specs.declared.reading.Heard.TheVariants as heard
use Rattle.cc_item_reading.specs.declared.reading.NotHeard.TheVariants as errors

pub returns-in-Ok-End-clause-turns : goal.returns-in-Ok-End-clause-turns
returns-in-Ok-End-clause-turns g c = λ start left before written talks.
    awaits_end (opening c.args.devices.now.items) start c.args.reader.now c.hear.new.reader left (g.S.Source.left c.args.source.now) (g.S.Source.left c.hear.new.source) before written c.args.lines.now c.hear.new.lines false talks (subst (λ ds. HearsNextItem ds false c.args.reader.now c.hear.new.reader (g.S.Source.left c.args.source.now) (g.S.Source.left c.hear.new.source) c.args.lines.now c.hear.new.lines (Ok heard.End)) c.as_slice.ensures.value (subst (λ t. HearsNextItem c.as_slice.result.now false c.args.reader.now c.hear.new.reader (g.S.Source.left c.args.source.now) (g.S.Source.left c.hear.new.source) c.args.lines.now c.hear.new.lines (Ok t)) c.in-Ok-End.field-0-is c.in-Ok-End.ensures.heard))

pub returns-in-Ok-Empty-clause-turns : goal.returns-in-Ok-Empty-clause-turns
returns-in-Ok-Empty-clause-turns g c = λ start left before written talks.
    talks_blank c.args.devices.now.items false start c.args.reader.now c.hear.new.reader left (g.S.Source.left c.args.source.now) (g.S.Source.left c.hear.new.source) before written c.args.lines.now c.hear.new.lines false (opening c.args.devices.now.items) talks (subst (λ ds. HearsNextItem ds false c.args.reader.now c.hear.new.reader (g.S.Source.left c.args.source.now) (g.S.Source.left c.hear.new.source) c.args.lines.now c.hear.new.lines (Ok heard.Empty)) c.as_slice.ensures.value (subst (λ t. HearsNextItem c.as_slice.result.now false c.args.reader.now c.hear.new.reader (g.S.Source.left c.args.source.now) (g.S.Source.left c.hear.new.source) c.args.lines.now c.hear.new.lines (Ok t)) c.in-Ok-Empty.field-0-is c.in-Ok-Empty.ensures.heard))

pub returns-in_default-clause-turns : goal.returns-in_default-clause-turns
returns-in_default-clause-turns g c = λ start left before written talks.
    subst (λ ds. Talks start c.hear.new.reader left (g.S.Source.left c.hear.new.source) before written c.hear.new.lines false (opening ds)) (sym c.in_default.ensures.items)
    (talks_device c.args.devices.now.items c.in-Ok-Device.device start c.args.reader.now c.hear.new.reader left (g.S.Source.left c.args.source.now) (g.S.Source.left c.hear.new.source) before written c.args.lines.now c.hear.new.lines talks (subst (λ ds. HearsNextItem ds false c.args.reader.now c.hear.new.reader (g.S.Source.left c.args.source.now) (g.S.Source.left c.hear.new.source) c.args.lines.now c.hear.new.lines (Ok (heard.Device c.in-Ok-Device.device))) c.as_slice.ensures.value (subst (λ t. HearsNextItem c.as_slice.result.now false c.args.reader.now c.hear.new.reader (g.S.Source.left c.args.source.now) (g.S.Source.left c.hear.new.source) c.args.lines.now c.hear.new.lines (Ok t)) c.in-Ok-Device.field-0-is c.in-Ok-Device.ensures.heard)))

pub returns-in-Err-push-clause-turns : goal.returns-in-Err-push-clause-turns
returns-in-Err-push-clause-turns g c = λ start left before written talks.
    awaits_stop (opening c.args.devices.now.items) errors.NoMemory start c.args.reader.now c.hear.new.reader left (g.S.Source.left c.args.source.now) (g.S.Source.left c.hear.new.source) before written c.args.lines.now c.hear.new.lines false talks
    (device_lost c.args.devices.now.items c.in-Ok-Device.device c.args.reader.now c.hear.new.reader (g.S.Source.left c.args.source.now) (g.S.Source.left c.hear.new.source) c.args.lines.now c.hear.new.lines (subst (λ ds. HearsNextItem ds false c.args.reader.now c.hear.new.reader (g.S.Source.left c.args.source.now) (g.S.Source.left c.hear.new.source) c.args.lines.now c.hear.new.lines (Ok (heard.Device c.in-Ok-Device.device))) c.as_slice.ensures.value (subst (λ t. HearsNextItem c.as_slice.result.now false c.args.reader.now c.hear.new.reader (g.S.Source.left c.args.source.now) (g.S.Source.left c.hear.new.source) c.args.lines.now c.hear.new.lines (Ok t)) c.in-Ok-Device.field-0-is c.in-Ok-Device.ensures.heard)))

pub returns-in-Ok-Command-clause-turns : goal.returns-in-Ok-Command-clause-turns
returns-in-Ok-Command-clause-turns g c = λ start left before written talks.
    awaits_command (opening c.args.devices.now.items) c.in-Ok-Command.command start c.args.reader.now c.hear.new.reader left (g.S.Source.left c.args.source.now) (g.S.Source.left c.hear.new.source) before written c.args.lines.now c.hear.new.lines false talks (subst (λ ds. HearsNextItem ds false c.args.reader.now c.hear.new.reader (g.S.Source.left c.args.source.now) (g.S.Source.left c.hear.new.source) c.args.lines.now c.hear.new.lines (Ok (heard.Command c.in-Ok-Command.command))) c.as_slice.ensures.value (subst (λ t. HearsNextItem c.as_slice.result.now false c.args.reader.now c.hear.new.reader (g.S.Source.left c.args.source.now) (g.S.Source.left c.hear.new.source) c.args.lines.now c.hear.new.lines (Ok t)) c.in-Ok-Command.field-0-is c.in-Ok-Command.ensures.heard))

pub returns-in-Ok-Aside-clause-turns : goal.returns-in-Ok-Aside-clause-turns
returns-in-Ok-Aside-clause-turns g c = λ start left before written talks.
    awaits_aside (opening c.args.devices.now.items) c.in-Ok-Aside.aside start c.args.reader.now c.hear.new.reader left (g.S.Source.left c.args.source.now) (g.S.Source.left c.hear.new.source) before written c.args.lines.now c.hear.new.lines false talks (subst (λ ds. HearsNextItem ds false c.args.reader.now c.hear.new.reader (g.S.Source.left c.args.source.now) (g.S.Source.left c.hear.new.source) c.args.lines.now c.hear.new.lines (Ok (heard.Aside c.in-Ok-Aside.aside))) c.as_slice.ensures.value (subst (λ t. HearsNextItem c.as_slice.result.now false c.args.reader.now c.hear.new.reader (g.S.Source.left c.args.source.now) (g.S.Source.left c.hear.new.source) c.args.lines.now c.hear.new.lines (Ok t)) c.in-Ok-Aside.field-0-is c.in-Ok-Aside.ensures.heard))

pub returns-in-Err-clause-turns : goal.returns-in-Err-clause-turns
returns-in-Err-clause-turns g c = λ start left before written talks.
    awaits_stop (opening c.args.devices.now.items) c.in-Err.error start c.args.reader.now c.hear.new.reader left (g.S.Source.left c.args.source.now) (g.S.Source.left c.hear.new.source) before written c.args.lines.now c.hear.new.lines false talks (subst (λ ds. HearsNextItem ds false c.args.reader.now c.hear.new.reader (g.S.Source.left c.args.source.now) (g.S.Source.left c.hear.new.source) c.args.lines.now c.hear.new.lines (Err c.in-Err.error)) c.as_slice.ensures.value c.in-Err.ensures.heard)
