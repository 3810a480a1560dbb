use Rattle.std.proofs.Common.{◌∙◌, not, ◌&&◌, sym, ap}
use Rattle.cc_binding.proofs.NamedBits.{held_names}
use Rattle.cc_replies.specs.PolicyReplies.{decision_for}
use Rattle.cc_session.specs.Modules.{module_of}
use Rattle.cc_binding.proofs.beyond.is_beyond.Goals as goal

pub returns-then-not-is_set-clause-beyond : goal.returns-then-not-is_set-clause-beyond
returns-then-not-is_set-clause-beyond c =
    let current = module_of c.args.«module».now in
    let allow = (decision_for c.args.names.now.names.items c.args.policy.now current.name c.args.device).allow in
    sym (ap (λ named. named && not allow) (held_names c.args.device current c.args.word c.requires ∙ sym c.is_set.ensures ∙ c.if-not-is_set.true))

pub returns-clause-beyond : goal.returns-clause-beyond
returns-clause-beyond c =
    let current = module_of c.args.«module».now in
    let allow = (decision_for c.args.names.now.names.items c.args.policy.now current.name c.args.device).allow in
    ap not c.is_allowed.ensures
    ∙ sym (ap (λ named. named && not allow) (held_names c.args.device current c.args.word c.requires ∙ sym c.is_set.ensures ∙ c.if-not-is_set.false))
