use Rattle.std.proofs.Common.{◌||◌, sym, subst}
use Rattle.cc_conversation.proofs.Turning.{talks_said, talks_aside}
use Rattle.cc_conversation.proofs.conversing.carry_out.Goals as goal
use Rattle.cc_conversation.specs.Turns.{Talks, HearsOrder, behind_order, moment_of}

pub returns-in-Ok-clause-carries : goal.returns-in-Ok-clause-carries
returns-in-Ok-clause-carries g c = λ start left before refused moment alike hears.
    subst (λ o. Talks start c.args.reader.now left (g.S.Source.left c.args.source.now) before (g.K.Sink.written c.say.new.sink) c.args.lines.now (refused || c.in-Ok.refused) (behind_order moment o))
    (sym c.in-Command.is)
    (talks_said start c.args.reader.now left (g.S.Source.left c.args.source.now) before (g.K.Sink.written c.args.sink.now) (g.K.Sink.written c.say.new.sink) c.args.lines.now refused c.in-Ok.refused moment
    (moment_of c.args.conversation.now) c.in-Command.command (subst (λ o. HearsOrder start c.args.reader.now left (g.S.Source.left c.args.source.now) before (g.K.Sink.written c.args.sink.now) c.args.lines.now refused moment o) c.in-Command.is hears) alike c.in-Ok.ensures.said)

pub returns-in-Err-clause-carries : goal.returns-in-Err-clause-carries
returns-in-Err-clause-carries g c = λ start left before refused moment alike hears. (
  (g.K.Sink.written c.args.sink.now),
  c.args.lines.now,
  refused,
  moment,
  (moment_of c.args.conversation.now),
  c.in-Command.command,
  (subst (λ o. HearsOrder start c.args.reader.now left (g.S.Source.left c.args.source.now) before (g.K.Sink.written c.args.sink.now) c.args.lines.now refused moment o) c.in-Command.is hears),
  alike,
  c.in-Err.ensures.said,
)

pub returns-in-Ok-tell-clause-carries : goal.returns-in-Ok-tell-clause-carries
returns-in-Ok-tell-clause-carries g c = λ start left before refused moment alike hears.
    subst (λ o. Talks start c.tell.new.reader left (g.S.Source.left c.tell.new.source) before (g.K.Sink.written c.tell.new.sink) c.tell.new.lines
    (refused || c.in-Ok-tell.refused) (behind_order moment o)) (sym c.in-Aside.is)
    (talks_aside start c.tell.new.reader left (g.S.Source.left c.tell.new.source) before (g.K.Sink.written c.args.sink.now) (g.K.Sink.written c.tell.new.sink) c.args.lines.now c.tell.new.lines
    refused c.in-Ok-tell.refused moment (moment_of c.args.conversation.now) c.in-Aside.aside c.args.reader.now (g.S.Source.left c.args.source.now)
    (subst (λ o. HearsOrder start c.args.reader.now left (g.S.Source.left c.args.source.now) before (g.K.Sink.written c.args.sink.now) c.args.lines.now refused moment o) c.in-Aside.is hears) alike c.in-Ok-tell.ensures.told)

pub returns-in-Err-tell-clause-carries : goal.returns-in-Err-tell-clause-carries
returns-in-Err-tell-clause-carries g c = λ start left before refused moment alike hears. record {
  now = c.args.reader.now;
  there = (g.S.Source.left c.args.source.now);
  written = (g.K.Sink.written c.args.sink.now);
  number = c.args.lines.now;
  refused = refused;
  moment = moment;
  other = (moment_of c.args.conversation.now);
  it = c.in-Aside.aside;
  hears = (subst (λ o. HearsOrder start c.args.reader.now left (g.S.Source.left c.args.source.now) before (g.K.Sink.written c.args.sink.now) c.args.lines.now refused moment o) c.in-Aside.is hears);
  alike = alike;
  tells = c.in-Err-tell.ensures.told;
}
