use Rattle.std.proofs.Common.{ap, map}
use Rattle.cc_lex.specs.Lexical.{spanned_of}
use Rattle.cc_lex.proofs.CuttingSteps.{begins, step, smaller, behind-more, gives-end, ends-there, gives-error}
use Rattle.cc_lex.proofs.lexer.cut.Goals as goal

pub loop-first-init : goal.loop-first-init
loop-first-init c = begins c.args.text.now _ c.utf8.text (ap (map spanned_of) c.in_ok-tokens.ensures.items)

pub returns-in-Err-clause-found : goal.returns-in-Err-clause-found
returns-in-Err-clause-found c =
    gives-error c.args.text.now c.loop-first.rest.now c.in-Some.after.now (map spanned_of c.loop-first.tokens.items) (map spanned_of c.find_front.new.tokens.items) c.loop-first.place c.loop-first.offset c.in-Some.first c.in-Err.error
    c.loop-first.invariant c.in-Some.ensures c.in-Err.ensures

pub range_from-rest-requires : goal.range_from-rest-requires
range_from-rest-requires c l =
    (behind-more c.loop-first.rest.now c.in-Some.after.now c.in-Some.first c.in-Ok.more c.loop-first.invariant.text_left c.in-Some.ensures c.in-Ok.ensures.0).boundary

pub loop-first-smaller : goal.loop-first-smaller
loop-first-smaller c = rw c.range_from-rest.ensures.value (smaller c.loop-first.rest.now c.in-Some.after.now c.in-Some.first c.in-Ok.more.bytes c.in-Some.ensures)

pub loop-first-preserved : goal.loop-first-preserved
loop-first-preserved c =
    rw c.range_from-rest.ensures.value
    (step c.args.text.now (map spanned_of c.loop-first.tokens.items) (map spanned_of c.find_front.new.tokens.items) c.loop-first.place c.in_ok-place.place c.loop-first.offset c.in_ok-offset.offset c.in-Some.first c.loop-first.rest.now c.in-Some.after.now c.in-Ok.more
    c.loop-first.invariant c.in-Some.ensures c.in-Ok.ensures c.in_ok-place.ensures c.in_ok-offset.ensures)

pub returns-clause-found : goal.returns-clause-found
returns-clause-found c = gives-end c.args.text.now c.loop-first.rest.now c.loop-first.place c.loop-first.offset (map spanned_of c.loop-first.tokens.items) c.loop-first.invariant c.in_default.ensures

pub returns-clause-end : goal.returns-clause-end
returns-clause-end c = ends-there c.args.text.now c.loop-first.rest.now (map spanned_of c.loop-first.tokens.items) c.loop-first.place c.loop-first.offset c.loop-first.invariant c.in_default.ensures
