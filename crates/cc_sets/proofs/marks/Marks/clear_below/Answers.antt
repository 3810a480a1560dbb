use Rattle.std.proofs.Common.{◌≡◌, length, sym, ap, ◌*◌, ◌∙◌}
use Rattle.std.proofs.lemmas.List.{with_items_is}
use Rattle.cc_sets.proofs.MarkedWords.{length-marks_of, up_to_words}
use Rattle.cc_sets.proofs.marks.Marks.clear_below.Goals as goal

pub clear_words-requires-clause-within : goal.clear_words-requires-clause-within
clear_words-requires-clause-within c = up_to_words c.args.self.now c.as_mut_slice.result.now c.self.inside.words.items c.args.limit (sym c.self.view_is) c.as_mut_slice.ensures.value c.requires.within

pub returns-clause-room : goal.returns-clause-room
returns-clause-room c =
    let sized : length c.clear_words.new.words ≡ length c.self.inside.words.items = c.clear_words.auto.words ∙ ap length c.as_mut_slice.ensures.value in
    rw (with_items_is c.self.inside.words c.clear_words.new.words (sized ∙ sym c.self.inside.words.ok.0))
    (length-marks_of c.clear_words.new.words ∙ ap (λ n. 64 * n) sized ∙ sym (length-marks_of c.self.inside.words.items) ∙ ap length c.self.view_is)
