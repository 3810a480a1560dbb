use Rattle.cc_conversation.proofs.OrderTurns.{explained, explained_front, explained_without_feed, under_way_still}
use Rattle.cc_conversation.proofs.saying.Conversation.explain.Goals as goal
use Rattle.cc_conversation.specs.Turns.{moment_of}

pub returns-in-Err-clause-explained : goal.returns-in-Err-clause-explained
returns-in-Err-clause-explained g c =
    explained_front (moment_of c.args.self.now) c.args.name.now (g.K.Sink.written c.args.sink.now) (g.K.Sink.written c.args.sink.now)
    (g.K.Sink.written c.tell_why-told.new.sink) c.in-Err.error c.in-Err.ensures.tells

pub returns-in-Ok-write_all-clause-explained : goal.returns-in-Ok-write_all-clause-explained
returns-in-Ok-write_all-clause-explained g c =
    explained (moment_of c.args.self.now) c.args.name.now (g.K.Sink.written c.args.sink.now) (g.K.Sink.written c.tell_why-told.new.sink)
    (g.K.Sink.written c.write_all.new.sink) c.in-Ok.refused c.in-Ok.ensures.tells c.in-Ok-write_all.ensures.written

pub returns-in-Ok-write_all-clause-under_way : goal.returns-in-Ok-write_all-clause-under_way
returns-in-Ok-write_all-clause-under_way g c =
    under_way_still c.args.self.now c.tell_why-told.new.session c.requires.under_way c.in-Ok.ensures.texts.0 c.in-Ok.ensures.texts.1

pub returns-in-Err-write_all-clause-explained : goal.returns-in-Err-write_all-clause-explained
returns-in-Err-write_all-clause-explained g c =
    explained_without_feed (moment_of c.args.self.now) c.args.name.now (g.K.Sink.written c.args.sink.now) (g.K.Sink.written c.tell_why-told.new.sink)
    (g.K.Sink.written c.write_all.new.sink) c.in-Ok.refused c.in-Err-write_all.error c.in-Ok.ensures.tells c.in-Err-write_all.ensures.written
