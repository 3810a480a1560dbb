use Rattle.std.proofs.Common.{ap, ◌∙◌}
use Rattle.std.specs.List.{list_any}
use Rattle.cc_replies.specs.ReplyTexts.{is_unfinished}
use Rattle.cc_tasks.specs.Reports.{told_end}
use Rattle.cc_replies.proofs.Mapped.{any_mapped}
use Rattle.cc_replies.proofs.tasks.tasks_cut_short.Goals as goal

pub returns : goal.returns
returns c = λ authorities. c.any_cut_short.ensures ∙ ap (list_any (λ one. is_unfinished (told_end one).0)) c.deref.ensures.value
    ∙ any_mapped (λ it. is_unfinished it.0) told_end c.args.report.now.ends.items
