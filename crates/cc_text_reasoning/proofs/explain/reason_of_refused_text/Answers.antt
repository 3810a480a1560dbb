use Rattle.std.proofs.Common.{◌∙◌, ap}
use Rattle.std.specs.Str.{chars}
use Rattle.cc_lex.specs.Lexical.{start}
use Rattle.cc_text_reasoning.specs.Places.{from_place}
use Rattle.cc_text_reasoning.proofs.AnswerLaws.{broken, not_utf8}
use Rattle.cc_text_reasoning.proofs.explain.reason_of_refused_text.Goals as goal

pub returns-in_ok-rest-in-Ok : goal.returns-in_ok-rest-in-Ok
returns-in_ok-rest-in-Ok c =
    broken c.args.text.now c.args.refusal (chars c.in_ok-rest-in-Ok.rest.now) _ c.requires c.in-Ok.ensures.cases.1
    (c.in_ok-rest-in-Ok.ensures ∙ ap (λ text. from_place c.args.refusal.place start (chars text)) c.in-Ok.ensures.cases.0)
    c.first_break.ensures

pub returns-in-Err : goal.returns-in-Err
returns-in-Err c =
    not_utf8 c.args.text.now c.args.refusal _ c.requires c.in-Err.ensures.cases.0 (c.valid_up_to.ensures ∙ c.in-Err.ensures.valid_len)
