use Rattle.std.proofs.Common.{◌≡◌, ◌+◌, [], ◌∷◌, ◌++◌, length, length-append, sym, ap, subst, ◌∙◌, arith}
use Rattle.cc_core.specs.Contexts.{lookup}
use Rattle.cc_core.specs.TermViews.{context_of}
use Rattle.cc_captured_reasons.specs.Nearness.{AreTold}
use Rattle.cc_captured_reasons.specs.Tellings.{number_at, AreLow}
use Rattle.cc_captured_reasons.proofs.NearEnds.{one_told}
use Rattle.cc_captured_reasons.proofs.ToldNumbers.{all_higher, low_more}
use Rattle.cc_captured_reasons.proofs.nearness.nearness.Goals as goal

pub number_at-number-requires : goal.number_at-number-requires
number_at-number-requires c =
    subst (λ told. AreLow told 4294967295) (sym c.as_slice.ensures.value)
    (all_higher c.loop-position.told.items (c.loop-position.position + 1) 4294967295 (omega (arith, c.loop-position-test.true)) c.loop-position.invariant.low)

pub loop-position-preserved : goal.loop-position-preserved
loop-position-preserved c =
    let g = context_of c.args.ctx.now in
    let items : c.push.new.self.items ≡ c.loop-position.told.items ++ c.number_at-number.result ∷ [] = c.in_ok-push.ensures.items in
    let count : length c.loop-position.told.items ≡ c.loop-position.position = c.loop-position.invariant.count in
    let number : c.number_at-number.result ≡ number_at c.args.devices c.args.right.now c.loop-position.told.items c.loop-position.position (lookup g c.loop-position.position) =
    c.number_at-number.ensures ∙ (λ i. number_at c.args.devices c.args.right.now (c.as_slice.ensures.value i) c.loop-position.position (c.get.ensures i)) in
    record {
      count = ap length items ∙ length-append c.loop-position.told.items (c.number_at-number.result ∷ []) ∙ ap (λ n. n + 1) count;
      told = subst (AreTold c.args.devices g c.args.right.now) (sym items)
          (one_told c.args.devices g c.args.right.now c.loop-position.told.items c.loop-position.position c.number_at-number.result c.requires.context c.requires.closed
          c.loop-position.invariant.told count number);
      low = subst (λ told. AreLow told (c.loop-position.position + 1 + 1)) (sym items)
          (low_more c.args.devices c.args.right.now c.loop-position.told.items c.loop-position.position c.number_at-number.result (lookup g c.loop-position.position) count number
          c.loop-position.invariant.low);
    }
