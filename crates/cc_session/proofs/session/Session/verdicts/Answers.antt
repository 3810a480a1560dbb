use Rattle.std.proofs.Common.{◌≡◌, List, ℕ, subst, sym}
use Rattle.cc_judge.specs.Judgements.{verdicts_of}
use Rattle.cc_judge.specs.Kept.{named_verdicts}
use Rattle.cc_module.specs.declared.judgement.ModuleVerdict.{ModuleVerdict}
use Rattle.cc_session.specs.Sessions.{SessionState}
use Rattle.cc_session.proofs.SessionFacts.{verdicts_shown}
use Rattle.cc_session.proofs.session.Session.verdicts.Goals as goal

pub returns-clause-answer : goal.returns-clause-answer
returns-clause-answer c =
    let last = c.self.inside.last in
    let V : List (List ℕ × ModuleVerdict) → Type 0 = λ vs. named_verdicts vs ≡ verdicts_of c.args.self.now.last in
    let P : SessionState → Type 0 = λ s. named_verdicts last.verdicts.items ≡ verdicts_of s.last in
    subst V (sym c.as_slice.ensures.value)
    (subst P c.self.view_is (verdicts_shown last.verdicts.items last.grounds.items c.self.invariant.kept.one_each))
