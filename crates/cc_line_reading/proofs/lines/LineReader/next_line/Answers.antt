use Rattle.std.proofs.Common.{IsTrue, refl, ◌∙◌, subst, arith}
use Rattle.cc_line_reading.proofs.LineTurns.{begins, front_taken, more_came, none_came, more_failed, front_failed, front_whole, last_line}
use Rattle.cc_line_reading.proofs.lines.LineReader.next_line.Goals as goal

pub loop-error-init : goal.loop-error-init
loop-error-init g c = record {
  turning = begins c.args.self.now (g.S.Source.left c.args.source.now) c.args.line.now.items c.args.limit c.requires.short;
  known = c.requires.known;
  no_fault = refl;
}

pub returns-in-Err-clause-heard : goal.returns-in-Err-clause-heard
returns-in-Err-clause-heard g c =
    (more_failed _ _ _ _ _ _ _ _ _ c.in-Err.error c.loop-error.invariant.turning c.in-Err.ensures.more).0

pub returns-in-Err-clause-needed : goal.returns-in-Err-clause-needed
returns-in-Err-clause-needed g c =
    (more_failed _ _ _ _ _ _ _ _ _ c.in-Err.error c.loop-error.invariant.turning c.in-Err.ensures.more).1

pub returns-in-Ok-true-take_front-clause-heard : goal.returns-in-Ok-true-take_front-clause-heard
returns-in-Ok-true-take_front-clause-heard g c =
    front_whole _ _ _ _ _ _ _ _ _ _
    (more_came _ _ _ _ _ _ _ _ _ _ c.loop-error.invariant.turning c.in-Ok-true.field-0-test c.in-Ok-true.ensures.more)
    c.in-Ok-true-take_front.field-0-test c.in-Ok-true-take_front.ensures.put c.in-Ok-true-take_front.ensures.ended

pub returns-in-Ok-true-take_front-clause-needed : goal.returns-in-Ok-true-take_front-clause-needed
returns-in-Ok-true-take_front-clause-needed g c =
    (more_came _ _ _ _ _ _ _ _ _ _ c.loop-error.invariant.turning c.in-Ok-true.field-0-test c.in-Ok-true.ensures.more).needed

pub loop-error-preserved : goal.loop-error-preserved
loop-error-preserved g c =
    let ended = c.in-Ok-false-take_front.ensures.ended in
    record {
      turning = front_taken _ _ _ _ _ _ _ _ _ _
          (more_came _ _ _ _ _ _ _ _ _ _ c.loop-error.invariant.turning c.in-Ok-true.field-0-test c.in-Ok-true.ensures.more)
          c.in-Ok-false-take_front.field-0-test c.in-Ok-false-take_front.ensures.put ended;
      known = λ h. c.in-Ok-true.ensures.known (subst IsTrue ended h);
      no_fault = c.in-Ok-true.ensures.cause ∙ c.loop-error.invariant.no_fault;
    }

pub returns-in-Err-take_front-clause-heard : goal.returns-in-Err-take_front-clause-heard
returns-in-Err-take_front-clause-heard g c =
    front_failed _ _ _ _ _ c.args.line.now.items c.loop-error.line.items c.take_front.new.line.items _ c.in-Err-take_front.error
    (more_came _ _ _ _ _ _ _ _ _ _ c.loop-error.invariant.turning c.in-Ok-true.field-0-test c.in-Ok-true.ensures.more)
    c.in-Err-take_front.ensures.put

pub returns-in-Err-take_front-clause-needed : goal.returns-in-Err-take_front-clause-needed
returns-in-Err-take_front-clause-needed g c =
    (more_came _ _ _ _ _ _ _ _ _ _ c.loop-error.invariant.turning c.in-Ok-true.field-0-test c.in-Ok-true.ensures.more).needed

pub returns-in-Ok-clause-heard : goal.returns-in-Ok-clause-heard
returns-in-Ok-clause-heard g c =
    last_line _ _ _ _ _ _ _ _
    (none_came _ _ _ _ _ _ _ _ _ _ c.loop-error.invariant.turning c.in-Ok-false.field-0-test c.in-Ok-false.ensures.more)
    (λ same. c.if-len-before.false (omega (arith, c.len.ensures, c.len-before.ensures, same, c.loop-error.line.ok.0, c.args.line.now.ok.0)))
    c.in-Ok.ensures.put
