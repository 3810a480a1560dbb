use Rattle.std.proofs.Common.{length, sym, ap, ◌∙◌}
use Rattle.cc_core.specs.Reading.{read_set}
use Rattle.cc_core.specs.TermViews.{context_of}
use Rattle.cc_checking.specs.Comparison.{demanded}
use Rattle.cc_subty.specs.Demands.{asked_of}
use Rattle.cc_known.specs.EndsAgain.{comes_again}
use Rattle.cc_known.proofs.EndedLists.{base_formed}
use Rattle.cc_known.proofs.KnownSets.{stands_same}
use Rattle.cc_type.proofs.RememberedLater.{however}
use Rattle.cc_type.proofs.walking.keep_read_sets.Goals as goal

pub learn_ends-requires : goal.learn_ends-requires
learn_ends-requires c =
    let base = context_of c.keep_below.new.log.known.base in
    base_formed base (context_of c.args.ctx.now)
    (stands_same (context_of c.args.log.now.known.base) base (context_of c.args.ctx.now)
    (ap context_of c.keep_below.ensures.base) c.requires.base)
    c.requires.context

pub learn_ends-requires-in-Once : goal.learn_ends-requires-in-Once
learn_ends-requires-in-Once c =
    let base = context_of c.keep_below.new.log.known.base in
    base_formed base (context_of c.args.ctx.now)
    (stands_same (context_of c.args.log.now.known.base) base (context_of c.args.ctx.now)
    (ap context_of c.keep_below.ensures.base) c.requires.base)
    c.requires.context

pub returns-in-Again-clause-settled : goal.returns-in-Again-clause-settled
returns-in-Again-clause-settled c =
    let g = context_of c.args.ctx.now in
    let oldest = length (context_of c.args.log.now.known.base) in
    let left = c.chosen-one.ensures ∙ c.in_ok-left_read.ensures ∙ ap (λ n. read_set n c.args.left.now) c.entries.ensures in
    let right = c.chosen-other.ensures ∙ c.in_ok-right_read.ensures ∙ ap (λ n. read_set n c.args.right.now) c.entries-2.ensures in
    however c.learn_ends.result _
    (λ said. (λ i. comes_again oldest (asked_of (c.learn_ends.ensures.demands i)) (demanded g (sym left i) (sym right i)))
    ∙ c.in_ok-keep_below.ensures.again c.in-Again.is)
