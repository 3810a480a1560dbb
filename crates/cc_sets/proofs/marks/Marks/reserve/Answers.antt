use Rattle.std.proofs.Common.{length, arith, ap, refl, ◌∙◌}
use Rattle.cc_sets.proofs.MarkedWords.{length-marks_of, wider_marks}
use Rattle.cc_sets.specs.Marked.{is_marked}
use Rattle.cc_sets.proofs.marks.Marks.reserve.Goals as goal

pub returns-in_ok-resize-clause-room : goal.returns-in_ok-resize-clause-room
returns-in_ok-resize-clause-room c =
    omega (arith, length-marks_of c.resize.new.self.items, c.in_ok-resize.ensures.len, c.resize.new.self.ok.0, c.words_for-count.ensures.enough)

pub returns-in_ok-resize-clause-wider : goal.returns-in_ok-resize-clause-wider
returns-in_ok-resize-clause-wider c =
    omega (arith, length-marks_of c.resize.new.self.items, length-marks_of c.self.inside.words.items, ap length c.self.view_is, c.in_ok-resize.ensures.len, c.resize.new.self.ok.0, c.len.ensures, c.self.inside.words.ok.0, c.if-count-len.true)

pub returns-in_ok-resize-clause-kept : goal.returns-in_ok-resize-clause-kept
returns-in_ok-resize-clause-kept c = λ p.
    let at = c.in_ok-resize.ensures.by_index in
    wider_marks c.self.inside.words.items c.resize.new.self.items (omega (arith, c.in_ok-resize.ensures.len, c.resize.new.self.ok.0, c.len.ensures, c.self.inside.words.ok.0, c.if-count-len.true))
    (λ k low. at.0 k 0 (omega (arith, c.in_ok-resize.ensures.len, c.resize.new.self.ok.0, c.len.ensures, c.self.inside.words.ok.0, c.if-count-len.true)) (omega (arith, low, c.self.inside.words.ok.0)))
    (λ k from low. at.1 k 0 refl (omega (arith, from, c.self.inside.words.ok.0)) (omega (arith, c.in_ok-resize.ensures.len, c.resize.new.self.ok.0))) p
    ∙ ap (is_marked p) c.self.view_is

pub returns-else-count-len-clause-room : goal.returns-else-count-len-clause-room
returns-else-count-len-clause-room c =
    omega (arith, length-marks_of c.self.inside.words.items, ap length c.self.view_is, c.len.ensures, c.self.inside.words.ok.0, c.if-count-len.false, c.words_for-count.ensures.enough)
