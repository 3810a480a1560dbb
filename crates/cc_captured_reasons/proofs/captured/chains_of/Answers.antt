use Rattle.std.proofs.Common.{◌+◌, [], ◌∷◌, map, sym, ap, subst, ◌∙◌}
use Rattle.std.specs.Prelude.{slice_index_or}
use Rattle.std.proofs.lemmas.List.{get_or_default, map-append}
use Rattle.cc_capture.specs.declared.var.Var.TheVariants.{Bound}
use Rattle.cc_capture.specs.declared.var.Elem.{Elem}
use Rattle.cc_capture.specs.declared.var.Elem.TheVariants.{Var as Variable}
use Rattle.cc_core.specs.TermViews.{context_of}
use Rattle.cc_captured_reasons.proofs.ToldChains.{Reaches, reaches_more, reaches_all, captured_stands}
use Rattle.cc_captured_reasons.proofs.captured.chains_of.Goals as goal

pub chain_to_end-requires-clause-from : goal.chain_to_end-requires-clause-from
chain_to_end-requires-clause-from c =
    let e : Elem = slice_index_or c.args.captured.now c.loop-elem.elem-index (Variable (Bound 0)) in
    (captured_stands (context_of c.args.ctx.now) c.args.left.now c.args.right.now c.args.captured.now c.loop-elem.elem-index e c.requires.left c.requires.closed_left c.requires.captured
    c.loop-elem-test.true (get_or_default c.args.captured.now c.loop-elem.elem-index (Variable (Bound 0)) e c.loop-elem-test.true)).0

pub chain_to_end-requires-clause-beyond : goal.chain_to_end-requires-clause-beyond
chain_to_end-requires-clause-beyond c =
    let e : Elem = slice_index_or c.args.captured.now c.loop-elem.elem-index (Variable (Bound 0)) in
    (captured_stands (context_of c.args.ctx.now) c.args.left.now c.args.right.now c.args.captured.now c.loop-elem.elem-index e c.requires.left c.requires.closed_left c.requires.captured
    c.loop-elem-test.true (get_or_default c.args.captured.now c.loop-elem.elem-index (Variable (Bound 0)) e c.loop-elem-test.true)).1

pub loop-elem-preserved : goal.loop-elem-preserved
loop-elem-preserved c =
    let e : Elem = slice_index_or c.args.captured.now c.loop-elem.elem-index (Variable (Bound 0)) in
    subst (λ list. Reaches c.args.devices (context_of c.args.ctx.now) c.args.right.now c.args.captured.now list (c.loop-elem.elem-index + 1))
    (sym (ap (map (λ chain. chain.items)) c.in_ok-push.ensures.items ∙ map-append (λ chain. chain.items) c.loop-elem.chains.items (c.in_ok-chain.chain ∷ [])))
    (reaches_more c.args.devices (context_of c.args.ctx.now) c.args.right.now c.args.captured.now (map (λ chain. chain.items) c.loop-elem.chains.items) c.loop-elem.elem-index e
    c.in_ok-chain.chain.items c.loop-elem.invariant c.loop-elem-test.true
    (get_or_default c.args.captured.now c.loop-elem.elem-index (Variable (Bound 0)) e c.loop-elem-test.true) c.in_ok-chain.ensures)

pub returns : goal.returns
returns c =
    reaches_all c.args.devices (context_of c.args.ctx.now) c.args.right.now c.args.captured.now (map (λ chain. chain.items) c.loop-elem.chains.items) c.loop-elem.elem-index
    c.loop-elem-test.false c.loop-elem.invariant
