use Rattle.std.proofs.Common.{◌∙◌, sym, subst}
use Rattle.std.proofs.lemmas.List.{length-map}
use Rattle.cc_core.specs.Places.{places_of}
use Rattle.cc_core.specs.TermViews.{bind_of, term_of, context_of}
use Rattle.cc_checking.specs.Inference.{inferred}
use Rattle.cc_subty.specs.Demands.{asked_of}
use Rattle.cc_known.specs.Logs.{Meets, after}
use Rattle.cc_known.specs.Parts.{found_of}
use Rattle.cc_type.specs.Rows.{ways}
use Rattle.cc_check.proofs.StandingDefinitions.{stands_itself}
use Rattle.cc_check.proofs.plain.infer_right.Goals as goal

pub infer_known-requires-clause-term : goal.infer_known-requires-clause-term
infer_known-requires-clause-term c =
    stands_itself c.len.result (context_of c.args.ctx.now) (term_of c.args.node.now.value)
    (c.len.ensures ∙ sym (length-map c.args.ctx.now bind_of)) c.requires.term

pub returns-clause-exact : goal.returns-clause-exact
returns-clause-exact c =
    subst (λ root. Meets found_of c.infer_known.result (asked_of c.infer_known.new.log.demands)
    (after (asked_of c.args.log.now.demands)
    (inferred ways root (context_of c.args.ctx.now) (term_of c.args.node.now.value) (places_of c.args.node.now.value))))
    (c.len.ensures ∙ sym (length-map c.args.ctx.now bind_of)) c.infer_known.ensures.exact
