use Rattle.std.proofs.Common.{sym, ◌∙◌}
use Rattle.cc_solve.proofs.Additions.{joins, joins_there, some_apart}
use Rattle.cc_solve.proofs.lists.join.Goals as goal

pub returns-then-is_subset-clause-adds : goal.returns-then-is_subset-clause-adds
returns-then-is_subset-clause-adds c =
    joins_there c.args.sets.now c.args.from c.args.to c.index-sets-from.result c.index-sets-to.result c.requires.from c.requires.to c.index-sets-from.is c.index-sets-to.is
    (sym c.is_subset.ensures ∙ c.if-is_subset.true)

pub returns-clause-adds : goal.returns-clause-adds
returns-clause-adds c =
    joins c.args.sets.now c.args.from c.args.to c.index-sets-from.result c.index-sets-to.result c.in_ok-joined.joined c.requires.from c.requires.to c.index-sets-from.is c.index-sets-to.is
    c.in_ok-joined.ensures

pub returns-clause-grown : goal.returns-clause-grown
returns-clause-grown c =
    some_apart c.args.sets.now c.args.from c.args.to c.index-sets-from.result c.index-sets-to.result c.requires.from c.requires.to c.index-sets-from.is c.index-sets-to.is
    (sym c.is_subset.ensures ∙ c.if-is_subset.false)
