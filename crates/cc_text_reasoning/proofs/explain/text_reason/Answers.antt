use Rattle.std.proofs.lemmas.Result.{IfOk-weaker}
use Rattle.cc_text_reasoning.proofs.AnswerLaws.{lexed_rise, lexed}
use Rattle.cc_text_reasoning.proofs.explain.text_reason.Goals as goal

pub token_reason-requires : goal.token_reason-requires
token_reason-requires c = lexed_rise c.args.text.now c.in-Ok.tokens c.in-Ok.ensures

pub returns-in-Ok : goal.returns-in-Ok
returns-in-Ok c =
    IfOk-weaker c.token_reason.result _ _ (λ answer it. lexed c.args.text.now c.in-Ok.tokens answer c.in-Ok.ensures it) c.token_reason.ensures
