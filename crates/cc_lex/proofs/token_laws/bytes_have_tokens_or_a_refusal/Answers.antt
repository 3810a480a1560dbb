use Rattle.cc_lex.proofs.AnswerLaws.{tokens_or_refusal}
use Rattle.cc_lex.proofs.token_laws.bytes_have_tokens_or_a_refusal.Goals as goal

pub returns : goal.returns
returns c = tokens_or_refusal
