use Rattle.cc_worked_module_reasons.proofs.WorkedUnwantedTokens.{unwanted_tokens}
use Rattle.cc_worked_module_reasons.proofs.text_reason_rows.unwanted_tokens.Goals as goal

pub returns : goal.returns
returns c = unwanted_tokens
