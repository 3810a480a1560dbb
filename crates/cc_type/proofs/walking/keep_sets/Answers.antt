use Rattle.std.proofs.Common.{length, sym, ◌∙◌}
use Rattle.cc_capture.proofs.Equality.{same_set-decides}
use Rattle.cc_core.specs.TermViews.{context_of}
use Rattle.cc_subty.specs.Demands.{asked_of}
use Rattle.cc_checking.specs.Comparison.{demanded}
use Rattle.cc_core.specs.Reading.{read_set}
use Rattle.cc_known.proofs.EndedLists.{again_goes}
use Rattle.cc_type.proofs.RememberedLater.{again_comes}
use Rattle.cc_known.proofs.KeptWalks.{one_read, one_goes}
use Rattle.cc_known.proofs.NeedlessLater.{settled_comes}
use Rattle.cc_known.proofs.KnownSets.{known_settled, known_goes}
use Rattle.cc_type.proofs.walking.keep_sets.Goals as goal

pub returns-then-eq-clause-kept : goal.returns-then-eq-clause-kept
returns-then-eq-clause-kept c =
    let g = context_of c.args.ctx.now in
    one_goes c.args.at g (length g) c.args.left.now c.args.right.now (asked_of c.args.log.now.demands)
    ((same_set-decides c.args.left.now c.args.right.now).0 (sym c.eq.ensures ∙ c.if-eq.true))

pub returns-then-eq-clause-settled : goal.returns-then-eq-clause-settled
returns-then-eq-clause-settled c =
    let g = context_of c.args.ctx.now in
    λ said. settled_comes (length (context_of c.args.log.now.known.base)) (asked_of c.args.log.now.demands)
    (demanded g (read_set (length g) c.args.left.now) (read_set (length g) c.args.right.now)) (one_read g (length g) c.args.left.now c.args.right.now
    ((same_set-decides c.args.left.now c.args.right.now).0 (sym c.eq.ensures ∙ c.if-eq.true)))

pub returns-then-has-clause-kept : goal.returns-then-has-clause-kept
returns-then-has-clause-kept c =
    let g = context_of c.args.ctx.now in
    known_goes c.args.at (length g) (context_of c.args.log.now.known.base) g c.args.left.now c.args.right.now
    (asked_of c.args.log.now.demands) c.requires.base (c.has.ensures c.if-has.true)

pub returns-then-has-clause-settled : goal.returns-then-has-clause-settled
returns-then-has-clause-settled c =
    let g = context_of c.args.ctx.now in
    λ said. settled_comes (length (context_of c.args.log.now.known.base)) (asked_of c.args.log.now.demands)
    (demanded g (read_set (length g) c.args.left.now) (read_set (length g) c.args.right.now))
    (known_settled (length g) (context_of c.args.log.now.known.base) g c.args.left.now c.args.right.now
    c.requires.base (c.has.ensures c.if-has.true))

pub returns-then-is_known_again-clause-kept : goal.returns-then-is_known_again-clause-kept
returns-then-is_known_again-clause-kept c =
    let g = context_of c.args.ctx.now in
    again_goes c.args.at (length g) (context_of c.args.log.now.known.base) g c.args.left.now c.args.right.now
    (asked_of c.args.log.now.demands) c.requires.base (c.is_known_again.ensures c.if-is_known_again.true)

pub returns-then-is_known_again-clause-settled : goal.returns-then-is_known_again-clause-settled
returns-then-is_known_again-clause-settled c =
    let g = context_of c.args.ctx.now in
    λ said. again_comes (length g) (context_of c.args.log.now.known.base) g c.args.left.now c.args.right.now
    (asked_of c.args.log.now.demands) c.requires.base (c.is_known_again.ensures c.if-is_known_again.true)
