use Rattle.std.proofs.Common.{sym, ap, ◌∙◌}
use Rattle.cc_core.specs.Reading.{read_set}
use Rattle.cc_core.specs.TermViews.{term_of}
use Rattle.std.proofs.lemmas.Result.{IfOk-weaker}
use Rattle.cc_validity.proofs.ReadCaptures.{captured_variables-read}
use Rattle.cc_validity.proofs.typings.captured.Goals as goal

pub returns : goal.returns
returns c =
    IfOk-weaker c.read_set.result _ _
    (λ s h. h ∙ ap (read_set c.args.entries) c.in_ok-captured.ensures ∙ sym (captured_variables-read c.args.entries (term_of c.args.term.now.node.value)))
    c.read_set.ensures
