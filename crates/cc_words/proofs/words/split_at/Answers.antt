use Rattle.cc_words.proofs.Steps.{cut_shorter}
use Rattle.cc_words.proofs.Splits.{split_turn, split_end}
use Rattle.cc_words.proofs.words.split_at.Goals as goal

pub loop-word-smaller : goal.loop-word-smaller
loop-word-smaller c = cut_shorter c.args.separator c.loop-word.rest.now c.in-Some.word.now c.in-Some.behind.now c.in-Some.ensures

pub loop-word-preserved : goal.loop-word-preserved
loop-word-preserved c =
    split_turn (λ word. word.now) c.args.separator c.loop-word.words.items c.push.new.self.items c.in-Some.word c.loop-word.rest.now c.in-Some.behind.now c.args.bytes.now
    c.in_ok-push.ensures.items c.in-Some.ensures c.loop-word.invariant

pub returns : goal.returns
returns c =
    split_end (λ word. word.now) c.args.separator c.loop-word.words.items c.push-2.new.self.items c.loop-word.rest c.args.bytes.now
    c.in_ok-push-2.ensures.items c.in_default.ensures c.loop-word.invariant
