use Rattle.std.proofs.Common.{ap, ◌∙◌, sym, map, Some, take, length, ◌<◌, ◌∷◌, [], ◌++◌, arith}
use Rattle.std.proofs.lemmas.List.{map_push, length-take-le}
use Rattle.cc_judge.specs.Kept.{judged_on, judgements_from, judgements_of}
use Rattle.cc_judge.proofs.CarryLemmas.{cut_at, judgements_take}
use Rattle.cc_judge.proofs.JudgedBefore.{judgement_at}
use Rattle.cc_judge.proofs.carrying.keep.Goals as goal

pub returns-clause-count : goal.returns-clause-count
returns-clause-count c =
    let verdicts = c.args.old.now.verdicts.items in
    let cut = cut_at verdicts c.truncate.new.self.items c.take_last-entry.new.self.items c.args.at c.take_last-entry.result
    c.requires.within c.truncate.ensures.items c.take_last-entry.ensures.items in
    ap length cut.0 ∙ length-take-le c.args.at verdicts (omega (arith, c.requires.within))

pub returns-clause-left : goal.returns-clause-left
returns-clause-left c =
    let verdicts = c.args.old.now.verdicts.items in
    let grounds = c.args.old.now.grounds.items in
    let inside : c.args.at < length grounds = omega (arith, c.requires.within, c.requires.old_each) in
    let first = cut_at verdicts c.truncate.new.self.items c.take_last-entry.new.self.items c.args.at c.take_last-entry.result
    c.requires.within c.truncate.ensures.items c.take_last-entry.ensures.items in
    let second = cut_at grounds c.truncate-2.new.self.items c.take_last-grounds.new.self.items c.args.at c.take_last-grounds.result
    inside c.truncate-2.ensures.items c.take_last-grounds.ensures.items in
    ap (λ vs. judgements_from vs c.take_last-grounds.new.self.items) first.0
    ∙ ap (judgements_from (take c.args.at verdicts)) second.0
    ∙ judgements_take verdicts grounds c.args.at

pub returns-clause-judged : goal.returns-clause-judged
returns-clause-judged c =
    let verdicts = c.args.old.now.verdicts.items in
    let grounds = c.args.old.now.grounds.items in
    let inside : c.args.at < length grounds = omega (arith, c.requires.within, c.requires.old_each) in
    let first = cut_at verdicts c.truncate.new.self.items c.take_last-entry.new.self.items c.args.at c.take_last-entry.result
    c.requires.within c.truncate.ensures.items c.take_last-entry.ensures.items in
    let second = cut_at grounds c.truncate-2.new.self.items c.take_last-grounds.new.self.items c.args.at c.take_last-grounds.result
    inside c.truncate-2.ensures.items c.take_last-grounds.ensures.items in
    ap (map Some) c.put.ensures.judged
    ∙ map_push Some (judgements_of c.args.new.now) (judged_on c.take_last-entry.result c.take_last-grounds.result)
    ∙ ap (λ j. map Some (judgements_of c.args.new.now) ++ j ∷ []) (sym
    (judgement_at verdicts grounds c.args.at c.take_last-entry.result c.take_last-grounds.result first.1 second.1))
