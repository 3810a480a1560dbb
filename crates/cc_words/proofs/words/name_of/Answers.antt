use Rattle.std.proofs.Common.{ap, sym, subst, ◌∙◌, Some}
use Rattle.std.specs.Str.{chars}
use Rattle.cc_base.specs.Names.{IsName}
use Rattle.cc_words.proofs.Steps.{name_of-none, name_of-text}
use Rattle.cc_words.proofs.words.name_of.Goals as goal

pub returns-in_default : goal.returns-in_default
returns-in_default c = sym (name_of-none c.args.word.now c.in_default.ensures.cases.0)

pub returns-in-Ok-read : goal.returns-in-Ok-read
returns-in-Ok-read c =
    let word = c.args.word.now in
    let text = c.in-Ok.ensures.cases in
    let read = c.in-Ok-read.ensures in
    ap Some (read.ok ∙ ap chars text.0) ∙ sym (name_of-text word text.1 (subst (λ bs. IsName (chars bs)) text.0 read.named))
