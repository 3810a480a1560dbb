use Rattle.std.proofs.Common.{◌≡◌, ℕ, suc, ◌-◌, ◌<◌, [], ◌∷◌, ◌++◌, length, sym, ap, subst, ◌∙◌, arith}
use Rattle.std.specs.Option.{is_some}
use Rattle.std.proofs.lemmas.List.{length-map}
use Rattle.cc_core.specs.TermViews.{bind_of, context_of}
use Rattle.cc_captured_reasons.specs.Tellings.{telling}
use Rattle.cc_captured_reasons.proofs.ChainSteps.{IsThere, tells_there, next_found, Goes, goes_first, goes_more, goes_last}
use Rattle.cc_captured_reasons.proofs.NearEnds.{stands_in, told_number}
use Rattle.cc_captured_reasons.proofs.captured.chain_to_end.Goals as goal

one_more : (n : ℕ) → 0 < n → n ≡ suc (n - 1)
one_more n above = omega arith

pub unwrap-number-requires : goal.unwrap-number-requires
unwrap-number-requires c =
    let g = context_of c.args.ctx.now in
    let long : length c.args.told.now ≡ length g = c.requires.count ∙ sym (length-map c.args.ctx.now bind_of) in
    let it = stands_in g c.args.from c.requires.from in
    ap is_some c.telling.ensures
    ∙ told_number c.args.devices g c.args.right.now c.args.from (telling c.args.told.now c.args.right.now c.args.from)
    (tells_there c.args.devices g c.args.right.now c.args.told.now c.requires.context c.requires.closed long c.requires.told c.args.from it.0 it.1) c.requires.beyond

pub unwrap-next-requires : goal.unwrap-next-requires
unwrap-next-requires c =
    let g = context_of c.args.ctx.now in
    let long : length c.args.told.now ≡ length g = c.requires.count ∙ sym (length-map c.args.ctx.now bind_of) in
    let n = c.loop-number.number - 1 in
    let there : IsThere c.args.devices g c.args.right.now c.args.told.now c.loop-number.current (suc n) =
    subst (IsThere c.args.devices g c.args.right.now c.args.told.now c.loop-number.current) (one_more c.loop-number.number c.loop-number-test.true) c.loop-number.invariant.there in
    let found = next_found c.args.devices g c.args.right.now c.args.told.now c.requires.context c.requires.closed long c.requires.told c.loop-number.current n there in
    ap is_some (c.first_of.ensures ∙ found.1)

pub loop-number-init : goal.loop-number-init
loop-number-init c =
    let g = context_of c.args.ctx.now in
    let it = stands_in g c.args.from c.requires.from in
    subst (λ list. Goes c.args.devices g c.args.right.now c.args.told.now c.args.from c.args.from list c.unwrap-number.result)
    (sym (c.in_ok-push.ensures.items ∙ ap (λ list. list ++ c.args.from ∷ []) c.new-chain.ensures.items))
    (goes_first c.args.devices g c.args.right.now c.args.told.now c.args.from c.unwrap-number.result
    (record { number = sym c.telling.ensures ∙ c.unwrap-number.ensures; stands = it.0; within = it.1 }))

pub loop-number-preserved : goal.loop-number-preserved
loop-number-preserved c =
    let g = context_of c.args.ctx.now in
    let long : length c.args.told.now ≡ length g = c.requires.count ∙ sym (length-map c.args.ctx.now bind_of) in
    let n = c.loop-number.number - 1 in
    let goes : Goes c.args.devices g c.args.right.now c.args.told.now c.args.from c.loop-number.current c.loop-number.chain.items (suc n) =
    subst (Goes c.args.devices g c.args.right.now c.args.told.now c.args.from c.loop-number.current c.loop-number.chain.items)
    (one_more c.loop-number.number c.loop-number-test.true) c.loop-number.invariant in
    subst (λ list. Goes c.args.devices g c.args.right.now c.args.told.now c.args.from c.unwrap-next.result list n) (sym c.in_ok-push-2.ensures.items)
    (goes_more c.args.devices g c.args.right.now c.args.told.now c.requires.context c.requires.closed long c.requires.told c.args.from c.loop-number.current c.unwrap-next.result
    c.loop-number.chain.items n goes (sym c.first_of.ensures ∙ c.unwrap-next.ensures))

pub returns : goal.returns
returns c =
    let g = context_of c.args.ctx.now in
    let long : length c.args.told.now ≡ length g = c.requires.count ∙ sym (length-map c.args.ctx.now bind_of) in
    let last : c.loop-number.number ≡ 0 = omega (arith, c.loop-number-test.false) in
    goes_last c.args.devices g c.args.right.now c.args.told.now c.requires.context c.requires.closed long c.requires.told c.args.from c.loop-number.current c.loop-number.chain.items
    (subst (Goes c.args.devices g c.args.right.now c.args.told.now c.args.from c.loop-number.current c.loop-number.chain.items) last c.loop-number.invariant)
