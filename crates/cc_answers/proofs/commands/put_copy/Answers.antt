use Rattle.std.proofs.Common.{◌≡◌, ℕ, List, ap, subst}
use Rattle.std.specs.BTreeMap.{insert_entry}
use Rattle.cc_base.specs.Names.{compare_names}
use Rattle.cc_replies.specs.ReplyTexts.{PutDone}
use Rattle.cc_session.specs.Sessions.{SessionState}
use Rattle.cc_answers.proofs.CommandFacts.{put_changes}
use Rattle.cc_answers.proofs.SessionReplies.{put_done, not_refused}
use Rattle.cc_answers.proofs.StayingTexts.{not_refused_changes, refused_stay}
use Rattle.cc_answers.proofs.commands.put_copy.Goals as goal

pub returns-in-Ok-clause-changes : goal.returns-in-Ok-clause-changes
returns-in-Ok-clause-changes g c =
    let old = c.args.session.now in
    let name = c.args.name.now in
    let text = c.args.text.items in
    let P : List ℕ → Type 0 = λ n. c.put.new.self.present ≡ insert_entry compare_names old.present n text in
    put_changes old c.put.new.self c.in-Ok.ensures.ok.0 name text (PutDone name)
    (put_done old.present name text c.args.key c.requires.key (λ long. not_refused _ _ (c.in-Ok.ensures.too_long.1 long))
    (λ low full. not_refused _ _ (c.in-Ok.ensures.too_many.1 (low, full))))
    (subst P c.requires.key c.in-Ok.ensures.ok.1) c.write_reply.result

pub returns-in-Ok-clause-stay : goal.returns-in-Ok-clause-stay
returns-in-Ok-clause-stay g c =
    not_refused_changes c.write_reply.result c.args.session.now.present c.put.new.self.present c.write_reply.ensures.refused

pub returns-in-Err-TooLong-clause-stay : goal.returns-in-Err-TooLong-clause-stay
returns-in-Err-TooLong-clause-stay g c =
    refused_stay c.write_reply-in-Err-TooLong.result c.args.session.now.present c.put.new.self.present
    (ap (λ (s : SessionState). s.present) c.in-Err-TooLong.ensures.err)

pub returns-in-Err-TooMany-clause-stay : goal.returns-in-Err-TooMany-clause-stay
returns-in-Err-TooMany-clause-stay g c =
    refused_stay c.write_reply-in-Err-TooMany.result c.args.session.now.present c.put.new.self.present
    (ap (λ (s : SessionState). s.present) c.in-Err-TooMany.ensures.err)
