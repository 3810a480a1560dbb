use Rattle.std.proofs.Common.{◌≡◌, ◌∷◌, length, sym, ap, ◌∙◌, arith}
use Rattle.cc_capture.specs.Words.{elements}
use Rattle.cc_capture.proofs.WordElements.{elements-next, elements-skip}
use Rattle.cc_capture.proofs.set.ElemsIterator.next.Goals as goal
use Rattle.cc_capture.proofs.set.ElemsIterator.next.Goals.{then-self-eq0+in_ok-first, else-self-eq0}

-- what was left is the element and what is left now
steps : (c : goal.After-element_at)
    → c.args.self.now ≡ c.element_at.result ∷ elements
    (c.split_lowest-number.result.1 ∷ c.if-self-eq0.self-inside.words.now)
steps c =
    let before : c.args.self.now ≡ elements (c.if-self-eq0.self-inside.word ∷ c.if-self-eq0.self-inside.words.now) =
    elim c.if-self-eq0.branch [
      | then-self-eq0+in_ok-first w ↦
          sym c.self.view_is
          ∙ elements-skip c.self.inside.word c.self.inside.words.now w.if-self-eq0.true
          ∙ ap elements w.in_ok-first.ensures.cases.0
          ∙ ap (λ v. elements (v.word ∷ v.words.now)) (sym w.self-inside-is)
      | else-self-eq0 w ↦ sym c.self.view_is ∙ ap (λ v. elements (v.word ∷ v.words.now)) (sym w.self-inside-is)
    ] in
    before
    ∙ elements-next c.if-self-eq0.self-inside.word c.split_lowest-number.result.1 c.split_lowest-number.result.0
    c.if-self-eq0.self-inside.words.now c.split_lowest-number.ensures.numbers
    ∙ ap (λ e. e ∷ elements (c.split_lowest-number.result.1 ∷ c.if-self-eq0.self-inside.words.now))
    (sym c.element_at.ensures)

pub returns-clause-steps : goal.returns-clause-steps
returns-clause-steps c = steps c

pub returns-clause-goes : goal.returns-clause-goes
returns-clause-goes c =
    let long = ap length (steps c) in
    record { on = λ _. (tt, tt, omega (arith, long)); keeps = tt; rests = λ _. tt }
