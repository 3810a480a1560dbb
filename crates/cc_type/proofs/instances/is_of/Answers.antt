use Rattle.std.proofs.Common.{sym, ◌∙◌}
use Rattle.cc_type.proofs.RememberedInstances.{remembered_is}
use Rattle.cc_type.proofs.instances.is_of.Goals as goal

pub returns : goal.returns
returns c = λ holds.
    let own = c.args.instance.now in
    remembered_is own.ty own.gives.value c.args.gives.now.value c.deref-3.result.now c.deref-4.result.now own.by.value
    c.args.by.now.value c.deref.result.now c.deref-2.result.now own.is c.deref.ensures c.deref-2.ensures
    (sym c.same_shape.ensures ∙ c.if-not-same_shape.false) c.deref-3.ensures c.deref-4.ensures
    (sym c.same_type.ensures ∙ holds)
