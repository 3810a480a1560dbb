use Rattle.std.proofs.Common.{length, map}
use Rattle.cc_derivation.specs.DerivationViews.{der_of}
use Rattle.cc_certificate_reading.specs.CertificateViews.{node_of}
use Rattle.cc_certificate_judging.specs.PassViews.{kinds_in, plain_read}
use Rattle.cc_certificate_judging.proofs.JudgedAnswers.{first_pass, second_pass, passes_answer}
use Rattle.cc_certificate_judging.proofs.judging.derivation_of.Goals as goal

pub read_nodes-requires : goal.read_nodes-requires
read_nodes-requires c = first_pass (length c.args.ctx.now) (kinds_in c.args.ctx.now) (map node_of c.args.nodes.now) c.requires

pub build-requires : goal.build-requires
build-requires c =
    second_pass (length c.args.ctx.now) (kinds_in c.args.ctx.now) (map node_of c.args.nodes.now) (map plain_read c.in_ok-reads.reads.items) c.requires c.in_ok-reads.ensures

pub returns : goal.returns
returns c =
    passes_answer (λ d. der_of d.value) c.build.result (length c.args.ctx.now) (kinds_in c.args.ctx.now) (map node_of c.args.nodes.now) (map plain_read c.in_ok-reads.reads.items)
    c.in_ok-reads.ensures c.build.ensures
