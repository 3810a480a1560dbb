use Rattle.std.proofs.Common.{refl, sym, ap, ◌∙◌}
use Rattle.cc_answers.specs.Requests.{request_of}
use Rattle.cc_conversation.proofs.OrderTurns.{said_whole, said_front, said_without_feed, under_way_behind}
use Rattle.cc_conversation.proofs.saying.Conversation.say.Goals as goal
use Rattle.cc_conversation.specs.Turns.{moment_of}
use Rattle.cc_replies.specs.Requests.{holding_under}

pub returns-in-Err-clause-said : goal.returns-in-Err-clause-said
returns-in-Err-clause-said g c =
    said_front (moment_of c.args.self.now) c.args.command (g.K.Sink.written c.args.sink.now) (g.K.Sink.written c.args.sink.now)
    (g.K.Sink.written c.answer-answered.new.sink) c.in-Err.error c.in-Err.ensures.replied

pub returns-in-Ok-write_all-clause-said : goal.returns-in-Ok-write_all-clause-said
returns-in-Ok-write_all-clause-said g c =
    said_whole (moment_of c.args.self.now) c.args.command (g.K.Sink.written c.args.sink.now) (g.K.Sink.written c.answer-answered.new.sink)
    (g.K.Sink.written c.write_all.new.sink) c.in-Ok.refused c.in-Ok.ensures.replied c.in-Ok-write_all.ensures.written

pub returns-in-Ok-write_all-clause-under_way : goal.returns-in-Ok-write_all-clause-under_way
returns-in-Ok-write_all-clause-under_way g c =
    under_way_behind c.args.self.now c.obey.new.self c.answer-answered.new.session c.answer-answered.new.kept
    (holding_under c.args.self.now.policy c.args.self.now.session.present) (request_of c.args.command) c.requires.under_way refl
    c.in-Ok.ensures.changes.devices c.in-Ok.ensures.changes.present c.in-Ok.ensures.kept c.obey.ensures.session c.obey.ensures.kept c.obey.ensures.names

pub returns-in-Err-write_all-clause-said : goal.returns-in-Err-write_all-clause-said
returns-in-Err-write_all-clause-said g c =
    said_without_feed (moment_of c.args.self.now) c.args.command (g.K.Sink.written c.args.sink.now) (g.K.Sink.written c.answer-answered.new.sink)
    (g.K.Sink.written c.write_all.new.sink) c.in-Ok.refused c.in-Err-write_all.error c.in-Ok.ensures.replied c.in-Err-write_all.ensures.written
