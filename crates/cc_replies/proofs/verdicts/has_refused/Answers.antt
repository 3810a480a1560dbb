use Rattle.std.proofs.Common.{◌∙◌}
use Rattle.cc_replies.specs.ReplyTexts.{is_refused}
use Rattle.cc_judge.specs.Kept.{named_verdict}
use Rattle.cc_replies.proofs.Mapped.{any_mapped}
use Rattle.cc_replies.proofs.verdicts.has_refused.Goals as goal

pub returns : goal.returns
returns c = c.any_refused.ensures ∙ any_mapped (λ one. is_refused one.1) named_verdict c.args.verdicts.now
