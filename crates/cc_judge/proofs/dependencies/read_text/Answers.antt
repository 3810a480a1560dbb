use Rattle.std.proofs.Common.{ℕ, Option, subst, ◌∙◌}
use Rattle.std.proofs.lemmas.Result.{IfOk-weaker}
use Rattle.cc_judge.specs.Dependencies.{IsJudgedBefore}
use Rattle.cc_judge.specs.Kept.{judgements_of}
use Rattle.cc_judge.proofs.JudgedBefore.{grounds_there, its_text}
use Rattle.cc_judge.proofs.dependencies.read_text.Goals as goal

pub returns-in-Some-get : goal.returns-in-Some-get
returns-in-Some-get c =
    let last = c.args.last.now in
    let at = c.in-Some.at in
    let (name, before) = c.requires in
    let P : Option ℕ → Type 0 = λ o. IsJudgedBefore (judgements_of last) name c.args.text.now o in
    let found = c.in-Some-get.ensures.lookup in
    IfOk-weaker c.share.result _ _
    (λ text same.
    same
    ∙ its_text last.verdicts.items last.grounds.items at c.in-Some-get.grounds.now name c.args.text.now
    (subst P c.in-Some.is before)
    (grounds_there last.grounds.items c.deref.result.now at c.in-Some-get.grounds.now c.deref.ensures.value found.0
    found.1)) c.share.ensures
