use Rattle.std.proofs.Common.{Some, sym, subst, map, Err}
use Rattle.cc_core.specs.TermViews.{term_of}
use Rattle.cc_certificate_reading.specs.CertificateViews.{node_of}
use Rattle.cc_certificate_judging.specs.JudgedResults.{OnJudgement}
use Rattle.cc_certificate_judging.specs.Judging.{binds_of, IsJudged}
use Rattle.cc_vouching.specs.ClaimedOutcomes.{Broken, IsClaimedAs}
use Rattle.cc_vouch.proofs.ClaimedBytes.{proven_claimed, broken_claimed}
use Rattle.cc_vouch.proofs.claims.judged.Goals as goal

pub returns-in-Ok : goal.returns-in-Ok
returns-in-Ok c = λ bytes is. proven_claimed c.args.cert c.in-Ok.ty c.in-Ok.ensures.judged bytes is

pub returns-in-Err-BadNode : goal.returns-in-Err-BadNode
returns-in-Err-BadNode c =
    λ bytes is.
    subst (λ number. IsClaimedAs (Some bytes) (Broken number)) (sym c.in-Err-BadNode.number-is)
    (broken_claimed c.args.cert c.in-Err-BadNode.number
    (subst (λ e. OnJudgement (IsJudged (binds_of c.args.cert) (term_of c.args.cert.term.value)
    (map node_of c.args.cert.nodes.items)) (Err e)) c.in-Err-BadNode.field-0-is c.in-Err-BadNode.ensures.judged) bytes is)
