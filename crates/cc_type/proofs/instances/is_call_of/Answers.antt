use Rattle.std.proofs.Common.{sym, ◌∙◌}
use Rattle.cc_type.proofs.RememberedInstances.{remembered_call_is}
use Rattle.cc_type.proofs.instances.is_call_of.Goals as goal

pub returns : goal.returns
returns c = λ holds.
    let own = c.args.call.now in
    remembered_call_is own.ty own.gives.value c.args.gives.now.value c.deref.result.now c.deref-2.result.now own.by c.args.by
    own.is (sym c.same_var.ensures ∙ c.if-not-same_var.false) c.deref.ensures c.deref-2.ensures
    (sym c.same_type.ensures ∙ holds)
