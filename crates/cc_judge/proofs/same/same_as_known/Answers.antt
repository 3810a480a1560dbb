use Rattle.std.proofs.Common.{ap, ◌∙◌, nat_eq}
use Rattle.cc_module.specs.Findings.{finding_of}
use Rattle.cc_judge.proofs.StillFound.{kinds_decide}
use Rattle.cc_judge.specs.SameFindings as plain
use Rattle.cc_judge.proofs.same.same_as_known.Goals as goal

pub returns-then-known : goal.returns-then-known
returns-then-known c =
    ap (λ k. nat_eq k c.kind_of-other.result) c.kind_of-kind.ensures
    ∙ ap (nat_eq (plain.kind_of (finding_of c.args.left.now))) c.kind_of-other.ensures
    ∙ kinds_decide (finding_of c.args.left.now) (finding_of c.args.right.now) (c.requires c.if-known.true)
