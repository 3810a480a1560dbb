use Rattle.std.proofs.Common.{◌≡◌, ◌+◌, ◌≤◌, [], ◌∷◌, ◌++◌, length, Some, sym, ap, subst, ◌∙◌, arith}
use Rattle.cc_line_reading.proofs.LineFronts.{between, front_cut, put_failed}
use Rattle.cc_line_reading.specs.LineReading.{Held}
use Rattle.cc_words.specs.Words.{cut_at}
use Rattle.cc_line_reading.proofs.lines.LineReader.take_front.Goals as goal

pub invariant_of-self : goal.invariant_of-self
invariant_of-self c =
    let cut = front_cut c.self.inside.piece.items c.self.inside.from c.self.inside.to c.in-Some.front.now c.in-Some.field-0-1.now c.self.invariant.0
    (subst (λ it. cut_at 10 (between c.self.inside.from c.self.inside.to it) ≡ Some (c.in-Some.front.now, c.in-Some.field-0-1.now)) c.deref.ensures.value (sym c.in-Some.ensures)) in
    (cut.within, c.self.invariant.1, c.self.invariant.2)

pub returns-in-Err-clause-put : goal.returns-in-Err-clause-put
returns-in-Err-clause-put c =
    let cut = front_cut c.self.inside.piece.items c.self.inside.from c.self.inside.to c.in-Some.front.now c.in-Some.field-0-1.now c.self.invariant.0
    (subst (λ it. cut_at 10 (between c.self.inside.from c.self.inside.to it) ≡ Some (c.in-Some.front.now, c.in-Some.field-0-1.now)) c.deref.ensures.value (sym c.in-Some.ensures)) in
    put_failed c.args.self.now c.args.line.now.items c.put_front.new.line.items c.in-Some.front.now
    (10 ∷ between (c.self.inside.from + (length c.in-Some.front.now + 1)) c.self.inside.to c.self.inside.piece.items) c.args.limit c.in-Err.error cut.no_feed
    (ap (λ (it : Held). it.bytes) (sym c.self.view_is) ∙ cut.split) c.in-Err.ensures

pub returns-in_default-put_feed-clause-put : goal.returns-in_default-put_feed-clause-put
returns-in_default-put_feed-clause-put c =
    let cut = front_cut c.self.inside.piece.items c.self.inside.from c.self.inside.to c.in-Some.front.now c.in-Some.field-0-1.now c.self.invariant.0
    (subst (λ it. cut_at 10 (between c.self.inside.from c.self.inside.to it) ≡ Some (c.in-Some.front.now, c.in-Some.field-0-1.now)) c.deref.ensures.value (sym c.in-Some.ensures)) in (
      c.in-Some.front.now,
      cut.no_feed,
      ap (λ (it : Held). it.bytes) (sym c.self.view_is) ∙ cut.split,
      c.in_default-put_feed.ensures.put ∙ ap (λ it. it ++ 10 ∷ []) c.in_default.ensures.0,
      c.in_default.ensures.1,
    )
