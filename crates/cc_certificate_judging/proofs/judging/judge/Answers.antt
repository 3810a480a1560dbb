use Rattle.std.proofs.Common.{[], length, map, ap, sym, ◌∙◌, refl}
use Rattle.std.proofs.lemmas.List.{length-map}
use Rattle.cc_core.specs.TermViews.{term_of, context_of, bind_of}
use Rattle.cc_derivation.specs.DerivationViews.{der_of}
use Rattle.cc_certificate_reading.specs.CertificateViews.{node_of}
use Rattle.cc_certificate_judging.specs.Judging.{binds_of, bind_type, with_binds, IsJudged}
use Rattle.cc_certificate_judging.specs.PassViews.{kinds_in}
use Rattle.cc_certificate_judging.proofs.FormedAnswers.{has_type}
use Rattle.cc_certificate_judging.proofs.JudgedAnswers.{cert_tree, cert_nodes, few_in_tree, no_memory, answered}
use Rattle.cc_certificate_judging.proofs.judging.judge.Goals as goal

pub derivation_of-requires : goal.derivation_of-requires
derivation_of-requires c =
    let t = cert_tree c.args.cert.now c.requires.fit c.requires.whole in
    (t.0, t.1 ∙ ap (map node_of) (sym c.as_slice-2.ensures.value))

pub returns-in_err-ctx-clause-judged : goal.returns-in_err-ctx-clause-judged
returns-in_err-ctx-clause-judged c =
    no_memory (IsJudged (binds_of c.args.cert.now) (term_of c.args.cert.now.term.value) (map node_of c.args.cert.now.nodes.items))
    c.from_residual.result c.from_residual.ensures.1

pub returns-in_err-der-clause-judged : goal.returns-in_err-der-clause-judged
returns-in_err-der-clause-judged c =
    no_memory (IsJudged (binds_of c.args.cert.now) (term_of c.args.cert.now.term.value) (map node_of c.args.cert.now.nodes.items))
    c.from_residual-in_err-der.result c.from_residual-in_err-der.ensures.1

pub answer_for-requires : goal.answer_for-requires
answer_for-requires c =
    let t = cert_tree c.args.cert.now c.requires.fit c.requires.whole in
    few_in_tree (length c.in_ok-ctx.ctx) (kinds_in c.in_ok-ctx.ctx) t.0 (map node_of c.args.cert.now.nodes.items) (der_of c.in_ok-der.der.value) t.1
    (c.in_ok-der.ensures t.0 (t.1 ∙ ap (map node_of) (sym c.as_slice-2.ensures.value)))
    (cert_nodes c.args.cert.now c.requires.fit)

pub returns-clause-judged : goal.returns-clause-judged
returns-clause-judged c =
    answered (binds_of c.args.cert.now) (context_of c.in_ok-ctx.ctx) (term_of c.args.cert.now.term.value) (map node_of c.args.cert.now.nodes.items) c.answer_for.result
    (length c.in_ok-ctx.ctx) (kinds_in c.in_ok-ctx.ctx) (der_of c.in_ok-der.der.value)
    (cert_tree c.args.cert.now c.requires.fit c.requires.whole)
    (c.in_ok-ctx.ensures ∙ ap (λ l. with_binds [] (map bind_type l)) c.as_slice.ensures.value)
    (sym (length-map c.in_ok-ctx.ctx bind_of)) refl
    (λ tree whole. c.in_ok-der.ensures tree (whole ∙ ap (map node_of) (sym c.as_slice-2.ensures.value)))
    c.answer_for.ensures

pub returns-clause-typed : goal.returns-clause-typed
returns-clause-typed c =
    let judged = answered (binds_of c.args.cert.now) (context_of c.in_ok-ctx.ctx) (term_of c.args.cert.now.term.value) (map node_of c.args.cert.now.nodes.items) c.answer_for.result
    (length c.in_ok-ctx.ctx) (kinds_in c.in_ok-ctx.ctx) (der_of c.in_ok-der.der.value)
    (cert_tree c.args.cert.now c.requires.fit c.requires.whole)
    (c.in_ok-ctx.ensures ∙ ap (λ l. with_binds [] (map bind_type l)) c.as_slice.ensures.value)
    (sym (length-map c.in_ok-ctx.ctx bind_of)) refl
    (λ tree whole. c.in_ok-der.ensures tree (whole ∙ ap (map node_of) (sym c.as_slice-2.ensures.value)))
    c.answer_for.ensures in
    has_type c.args.cert.now c.answer_for.result c.requires.fit judged
