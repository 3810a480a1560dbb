use Rattle.std.proofs.Common.{◌∷◌, map, get_or, refl, ◌∙◌}
use Rattle.std.proofs.lemmas.List.{get_or_default}
use Rattle.std.proofs.lemmas.Result.{err_from_is_err_and}
use Rattle.std.specs.String.{string_bytes}
use Rattle.cc_explain.specs.declared.target.Target.TheVariants.{Definition}
use Rattle.cc_io.proofs.PassedPieces.{passed_nothing, passed_more, passed_whole, stopped_at}
use Rattle.cc_replies.specs.Explanations.{names_of, target_named}
use Rattle.cc_replies.specs.ReplyTexts.{target_text}
use Rattle.cc_replies.proofs.explanations.write_others.Goals as goal

pub loop-target-init : goal.loop-target-init
loop-target-init g c = record {
  passed = passed_nothing (g.K.Sink.written c.args.sink.now) (string_bytes c.args.waiting.now);
  no_fault = refl;
}

pub returns-in_err-write_other-clause-streams : goal.returns-in_err-write_other-clause-streams
returns-in_err-write_other-clause-streams g c =
    let error = err_from_is_err_and c.from_residual.result c.from_residual.ensures.1 in
    let loop = c.loop-target in
    let others = c.args.others.now in
    let target = get_or others loop.target-index (Definition 0) in
    rw error.1
    (stopped_at (λ target. 32 ∷ target_text c.args.names.now.names.items (target_named (map names_of c.args.definitions.now) target)) others
    loop.target-index target c.loop-target-test.true (get_or_default others loop.target-index (Definition 0) target c.loop-target-test.true)
    (g.K.Sink.written c.args.sink.now) (g.K.Sink.written loop.sink) (g.K.Sink.written c.write_other.new.sink) (string_bytes c.args.waiting.now)
    (string_bytes loop.waiting) (string_bytes c.write_other.new.waiting) loop.invariant.passed c.in_err-write_other.ensures.streams)

pub loop-target-preserved : goal.loop-target-preserved
loop-target-preserved g c =
    let loop = c.loop-target in
    let others = c.args.others.now in
    let target = get_or others loop.target-index (Definition 0) in
    record {
      passed = passed_more (λ target. 32 ∷ target_text c.args.names.now.names.items (target_named (map names_of c.args.definitions.now) target)) others
          loop.target-index target c.loop-target-test.true (get_or_default others loop.target-index (Definition 0) target c.loop-target-test.true)
          (g.K.Sink.written c.args.sink.now) (g.K.Sink.written loop.sink) (g.K.Sink.written c.write_other.new.sink) (string_bytes c.args.waiting.now)
          (string_bytes loop.waiting) (string_bytes c.write_other.new.waiting) loop.invariant.passed c.in_ok-write_other.ensures.streams;
      no_fault = c.in_ok-write_other.ensures.cause ∙ loop.invariant.no_fault;
    }

pub returns-clause-streams : goal.returns-clause-streams
returns-clause-streams g c =
    let loop = c.loop-target in
    passed_whole (λ target. 32 ∷ target_text c.args.names.now.names.items (target_named (map names_of c.args.definitions.now) target)) c.args.others.now
    loop.target-index c.loop-target-test.false (g.K.Sink.written c.args.sink.now) (g.K.Sink.written loop.sink) (string_bytes c.args.waiting.now)
    (string_bytes loop.waiting) loop.invariant.passed
