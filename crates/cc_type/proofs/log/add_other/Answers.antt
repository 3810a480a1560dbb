use Rattle.cc_core.specs.TermViews.{context_of}
use Rattle.cc_type.proofs.RememberedLater.{remembered_added, keyed_added, compared_added, those_kept}
use Rattle.cc_type.proofs.log.add_other.Goals as goal

pub invariant_of-log-2-clause-remembered : goal.invariant_of-log-2-clause-remembered
invariant_of-log-2-clause-remembered c =
    let log = c.args.log.now in
    remembered_added log.demands c.push.new.self c.args.demand (context_of log.known.base) log.known.pairs.items
    c.in_ok-push.ensures.ok log.remembered

pub invariant_of-log-2-clause-matched : goal.invariant_of-log-2-clause-matched
invariant_of-log-2-clause-matched c =
    let log = c.args.log.now in
    keyed_added log.demands c.push.new.self c.args.demand (context_of log.known.base) log.known.keyed.items
    c.in_ok-push.ensures.ok log.matched

pub invariant_of-log-2-clause-noted : goal.invariant_of-log-2-clause-noted
invariant_of-log-2-clause-noted c =
    let log = c.args.log.now in
    those_kept log.ended.keys log.demands c.push.new.self c.args.demand c.in_ok-push.ensures.ok c.requires.ends log.noted

pub invariant_of-log-2-clause-kept : goal.invariant_of-log-2-clause-kept
invariant_of-log-2-clause-kept c =
    let log = c.args.log.now in
    compared_added log.demands c.push.new.self c.args.demand log.compared.pairs.items c.in_ok-push.ensures.ok log.kept
