use Rattle.std.proofs.Common.{refl, arith}
use Rattle.cc_lex.proofs.Sizes.{read-none, read-more, read-smaller, read-room, read-all}
use Rattle.cc_lex.proofs.size.size_in.Goals as goal

pub loop-behind-init : goal.loop-behind-init
loop-behind-init c = read-none c.args.class c.args.text.now c.utf8.text

pub loop-behind-preserved : goal.loop-behind-preserved
loop-behind-preserved c = read-more c.args.class c.args.text.now c.loop-behind.rest.now c.in-Some.behind.now c.loop-behind.characters c.loop-behind.invariant c.in-Some.ensures

pub loop-behind-smaller : goal.loop-behind-smaller
loop-behind-smaller c = read-smaller c.args.class c.loop-behind.rest.now c.in-Some.behind.now c.in-Some.ensures

pub overflow_add-characters : goal.overflow_add-characters
overflow_add-characters c = omega (arith, read-room c.args.class c.args.text.now c.loop-behind.rest.now c.in-Some.behind.now c.loop-behind.characters c.loop-behind.invariant c.in-Some.ensures)

pub returns : goal.returns
returns c = read-all c.args.class c.args.text.now c.loop-behind.rest.now c.loop-behind.characters _ c.loop-behind.invariant c.in_default.ensures refl
