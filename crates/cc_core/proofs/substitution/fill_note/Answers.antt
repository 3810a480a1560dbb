use Rattle.std.proofs.Common.{sym, ◌∙◌}
use Rattle.std.proofs.lemmas.Result.{MatchResult-weaker}
use Rattle.cc_core.specs.TermViews.{note_of}
use Rattle.cc_core.proofs.NothingFilled.{filled_note-nothing}
use Rattle.cc_core.proofs.substitution.fill_note.Goals as goal

pub returns-then-is_empty : goal.returns-then-is_empty
returns-then-is_empty c =
    let stays = filled_note-nothing c.args.filling.now (note_of c.args.note.now) (sym c.is_empty.ensures ∙ c.if-is_empty.true) in
    MatchResult-weaker c.clone.result c.clone.ensures.cases (λ copy same. same ∙ sym stays) (λ error no. tt)
