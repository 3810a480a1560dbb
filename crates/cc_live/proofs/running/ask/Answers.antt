use Rattle.std.proofs.Common.{Ok, Err, subst}
use Rattle.std.specs.String.{string_bytes}
use Rattle.cc_live.proofs.AskedTurns.{told_no_further, told_without_memory, read_no_further, read_too_long, read_without_memory, was_broken, was_stopped, went_on, heard_without_memory}
use Rattle.cc_live.proofs.running.ask.Goals as goal
use Rattle.cc_live.specs.LiveTurns.{HearsLine, SaysOf}
use Rattle.cc_live.specs.declared.running.Said.TheVariants as said
use Rattle.cc_machine.specs.Asking.{question_of}
use Rattle.cc_machine.specs.Machines.{held_by}

pub returns-in-Err-WriteFault-clause-takes : goal.returns-in-Err-WriteFault-clause-takes
returns-in-Err-WriteFault-clause-takes g c =
    told_no_further c.args.names.now.names.items c.args.steps (held_by c.args.machine.now) (question_of c.args.wanted) c.requires.asked c.args.reader.now
    (g.S.Source.left c.args.source.now) c.args.lines.now (g.K.Sink.written c.args.sink.now) (g.K.Sink.written c.tell_question.new.sink) (string_bytes c.args.waiting.now)
    (string_bytes c.tell_question.new.waiting) c.in-Err-WriteFault.ensures.streams

pub returns-in-Err-NoMemory-clause-takes : goal.returns-in-Err-NoMemory-clause-takes
returns-in-Err-NoMemory-clause-takes g c =
    told_without_memory c.args.names.now.names.items c.args.steps (held_by c.args.machine.now) (question_of c.args.wanted) c.requires.asked c.args.reader.now
    (g.S.Source.left c.args.source.now) c.args.lines.now (g.K.Sink.written c.args.sink.now) (g.K.Sink.written c.tell_question.new.sink) (string_bytes c.args.waiting.now)
    (string_bytes c.tell_question.new.waiting) c.in-Err-NoMemory.ensures.streams

pub returns-in-Err-ReadFault-clause-takes : goal.returns-in-Err-ReadFault-clause-takes
returns-in-Err-ReadFault-clause-takes g c =
    read_no_further c.args.names.now.names.items c.args.steps (held_by c.args.machine.now) (question_of c.args.wanted) c.requires.asked c.args.reader.now
    (g.S.Source.left c.args.source.now) c.args.lines.now (g.K.Sink.written c.args.sink.now) (g.K.Sink.written c.tell_question.new.sink) (string_bytes c.args.waiting.now)
    (string_bytes c.tell_question.new.waiting) c.in-Ok.ensures.streams c.in-Ok.ensures.empty c.hear.new.reader (g.S.Source.left c.hear.new.source) c.hear.new.lines
    c.hear.new.line.items
    (subst (λ e. HearsLine c.args.reader.now c.hear.new.reader (g.S.Source.left c.args.source.now) (g.S.Source.left c.hear.new.source) c.args.lines.now c.hear.new.lines
    c.hear.new.line.items (Err e)) c.in-Err-ReadFault.field-0-is c.in-Err-ReadFault.ensures.hears)

pub returns-in-Err-TooLong-clause-takes : goal.returns-in-Err-TooLong-clause-takes
returns-in-Err-TooLong-clause-takes g c =
    read_too_long c.args.names.now.names.items c.args.steps (held_by c.args.machine.now) (question_of c.args.wanted) c.requires.asked c.args.reader.now
    (g.S.Source.left c.args.source.now) c.args.lines.now (g.K.Sink.written c.args.sink.now) (g.K.Sink.written c.tell_question.new.sink) (string_bytes c.args.waiting.now)
    (string_bytes c.tell_question.new.waiting) c.in-Ok.ensures.streams c.in-Ok.ensures.empty c.hear.new.reader (g.S.Source.left c.hear.new.source) c.hear.new.lines
    c.hear.new.line.items
    (subst (λ e. HearsLine c.args.reader.now c.hear.new.reader (g.S.Source.left c.args.source.now) (g.S.Source.left c.hear.new.source) c.args.lines.now c.hear.new.lines
    c.hear.new.line.items (Err e)) c.in-Err-TooLong.field-0-is c.in-Err-TooLong.ensures.hears)

pub returns-in-Err-NoMemory-hear-clause-takes : goal.returns-in-Err-NoMemory-hear-clause-takes
returns-in-Err-NoMemory-hear-clause-takes g c =
    read_without_memory c.args.names.now.names.items c.args.steps (held_by c.args.machine.now) (question_of c.args.wanted) c.requires.asked c.args.reader.now
    (g.S.Source.left c.args.source.now) c.args.lines.now (g.K.Sink.written c.args.sink.now) (g.K.Sink.written c.tell_question.new.sink) (string_bytes c.args.waiting.now)
    (string_bytes c.tell_question.new.waiting) c.in-Ok.ensures.streams c.in-Ok.ensures.empty c.hear.new.reader (g.S.Source.left c.hear.new.source) c.hear.new.lines
    c.hear.new.line.items
    (subst (λ e. HearsLine c.args.reader.now c.hear.new.reader (g.S.Source.left c.args.source.now) (g.S.Source.left c.hear.new.source) c.args.lines.now c.hear.new.lines
    c.hear.new.line.items (Err e)) c.in-Err-NoMemory-hear.field-0-is c.in-Err-NoMemory-hear.ensures.hears)

pub returns-in-Ok-Answer-clause-takes : goal.returns-in-Ok-Answer-clause-takes
returns-in-Ok-Answer-clause-takes g c =
    went_on c.args.names.now.names.items c.args.steps (held_by c.args.machine.now) (question_of c.args.wanted) c.requires.asked c.args.reader.now
    (g.S.Source.left c.args.source.now) c.args.lines.now (g.K.Sink.written c.args.sink.now) (g.K.Sink.written c.tell_question.new.sink) (string_bytes c.args.waiting.now)
    (string_bytes c.tell_question.new.waiting) c.in-Ok.ensures.streams c.in-Ok.ensures.empty c.hear.new.reader (g.S.Source.left c.hear.new.source) c.hear.new.lines
    c.hear.new.line.items
    (subst (λ t. HearsLine c.args.reader.now c.hear.new.reader (g.S.Source.left c.args.source.now) (g.S.Source.left c.hear.new.source) c.args.lines.now c.hear.new.lines
    c.hear.new.line.items (Ok t)) c.in-Ok-true.field-0-test c.in-Ok-true.ensures.hears)
    (held_by c.go_on_with.new.machine) (string_bytes c.go_on_with.new.waiting)
    (subst (λ l. SaysOf c.args.names.now.names.items c.args.steps (held_by c.args.machine.now) (question_of c.args.wanted) l (held_by c.go_on_with.new.machine)
    (string_bytes c.tell_question.new.waiting) (string_bytes c.go_on_with.new.waiting) said.Answer) c.as_slice.ensures.value
    (subst (λ s. SaysOf c.args.names.now.names.items c.args.steps (held_by c.args.machine.now) (question_of c.args.wanted) c.as_slice.result.now (held_by c.go_on_with.new.machine)
    (string_bytes c.tell_question.new.waiting) (string_bytes c.go_on_with.new.waiting) s) c.in-Ok-Answer.field-0-is (c.in-Ok-Answer.ensures.says c.args.names.now.names.items)))

pub returns-in-Ok-Stop-clause-takes : goal.returns-in-Ok-Stop-clause-takes
returns-in-Ok-Stop-clause-takes g c =
    was_stopped c.args.names.now.names.items c.args.steps (held_by c.args.machine.now) (question_of c.args.wanted) c.requires.asked c.args.reader.now
    (g.S.Source.left c.args.source.now) c.args.lines.now (g.K.Sink.written c.args.sink.now) (g.K.Sink.written c.tell_question.new.sink) (string_bytes c.args.waiting.now)
    (string_bytes c.tell_question.new.waiting) c.in-Ok.ensures.streams c.in-Ok.ensures.empty c.hear.new.reader (g.S.Source.left c.hear.new.source) c.hear.new.lines
    c.hear.new.line.items
    (subst (λ t. HearsLine c.args.reader.now c.hear.new.reader (g.S.Source.left c.args.source.now) (g.S.Source.left c.hear.new.source) c.args.lines.now c.hear.new.lines
    c.hear.new.line.items (Ok t)) c.in-Ok-true.field-0-test c.in-Ok-true.ensures.hears)
    (held_by c.go_on_with.new.machine) (string_bytes c.go_on_with.new.waiting)
    (subst (λ l. SaysOf c.args.names.now.names.items c.args.steps (held_by c.args.machine.now) (question_of c.args.wanted) l (held_by c.go_on_with.new.machine)
    (string_bytes c.tell_question.new.waiting) (string_bytes c.go_on_with.new.waiting) said.Stop) c.as_slice.ensures.value
    (subst (λ s. SaysOf c.args.names.now.names.items c.args.steps (held_by c.args.machine.now) (question_of c.args.wanted) c.as_slice.result.now (held_by c.go_on_with.new.machine)
    (string_bytes c.tell_question.new.waiting) (string_bytes c.go_on_with.new.waiting) s) c.in-Ok-Stop.field-0-is (c.in-Ok-Stop.ensures.says c.args.names.now.names.items)))

pub returns-in-Ok-Other-clause-takes : goal.returns-in-Ok-Other-clause-takes
returns-in-Ok-Other-clause-takes g c =
    was_broken c.args.names.now.names.items c.args.steps (held_by c.args.machine.now) (question_of c.args.wanted) c.requires.asked c.args.reader.now
    (g.S.Source.left c.args.source.now) c.args.lines.now (g.K.Sink.written c.args.sink.now) (g.K.Sink.written c.tell_question.new.sink) (string_bytes c.args.waiting.now)
    (string_bytes c.tell_question.new.waiting) c.in-Ok.ensures.streams c.in-Ok.ensures.empty c.hear.new.reader (g.S.Source.left c.hear.new.source) c.hear.new.lines
    c.hear.new.line.items
    (subst (λ t. HearsLine c.args.reader.now c.hear.new.reader (g.S.Source.left c.args.source.now) (g.S.Source.left c.hear.new.source) c.args.lines.now c.hear.new.lines
    c.hear.new.line.items (Ok t)) c.in-Ok-true.field-0-test c.in-Ok-true.ensures.hears)
    (held_by c.go_on_with.new.machine) (string_bytes c.go_on_with.new.waiting)
    (subst (λ l. SaysOf c.args.names.now.names.items c.args.steps (held_by c.args.machine.now) (question_of c.args.wanted) l (held_by c.go_on_with.new.machine)
    (string_bytes c.tell_question.new.waiting) (string_bytes c.go_on_with.new.waiting) said.Other) c.as_slice.ensures.value
    (subst (λ s. SaysOf c.args.names.now.names.items c.args.steps (held_by c.args.machine.now) (question_of c.args.wanted) c.as_slice.result.now (held_by c.go_on_with.new.machine)
    (string_bytes c.tell_question.new.waiting) (string_bytes c.go_on_with.new.waiting) s) c.in-Ok-Other.field-0-is (c.in-Ok-Other.ensures.says c.args.names.now.names.items)))

pub returns-in-Err-clause-takes : goal.returns-in-Err-clause-takes
returns-in-Err-clause-takes g c =
    heard_without_memory c.args.names.now.names.items c.args.steps (held_by c.args.machine.now) (question_of c.args.wanted) c.requires.asked c.args.reader.now
    (g.S.Source.left c.args.source.now) c.args.lines.now (g.K.Sink.written c.args.sink.now) (g.K.Sink.written c.tell_question.new.sink) (string_bytes c.args.waiting.now)
    (string_bytes c.tell_question.new.waiting) c.in-Ok.ensures.streams c.in-Ok.ensures.empty c.hear.new.reader (g.S.Source.left c.hear.new.source) c.hear.new.lines
    c.hear.new.line.items
    (subst (λ t. HearsLine c.args.reader.now c.hear.new.reader (g.S.Source.left c.args.source.now) (g.S.Source.left c.hear.new.source) c.args.lines.now c.hear.new.lines
    c.hear.new.line.items (Ok t)) c.in-Ok-true.field-0-test c.in-Ok-true.ensures.hears)
    (held_by c.go_on_with.new.machine) (string_bytes c.go_on_with.new.waiting)
