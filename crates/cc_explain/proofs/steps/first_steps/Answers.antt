use Rattle.std.proofs.Common.{◌≡◌, ◌+◌, ◌≤◌, length, None, [], ◌∷◌, ◌++◌, sym, ap, subst, ◌∙◌, length-append, arith}
use Rattle.std.specs.List.{All}
use Rattle.cc_explain.proofs.FirstSteps.{first_step_is, within_steps, low_lengths, one_step_more}
use Rattle.cc_explain.specs.Steps.{AreFirstSteps, IsFirstStep, nearest_from, length_from}
use Rattle.cc_explain.specs.Targets.{rank}
use Rattle.cc_explain.specs.declared.target.Target.TheVariants.{Definition}
use Rattle.cc_explain.proofs.steps.first_steps.Goals as goal

pub nearest-step-requires-clause-within : goal.nearest-step-requires-clause-within
nearest-step-requires-clause-within c =
    let same : c.loop-number.number ≡ length c.as_slice.result.now =
    sym (ap length c.as_slice.ensures.value ∙ c.loop-number.invariant.count) in
    subst (λ n. All (λ target. rank target ≤ n) c.entry.result.now) same
    (within_steps c.loop-number.number c.entry.result.now c.entry.ensures.earlier)

pub nearest-step-requires-clause-low : goal.nearest-step-requires-clause-low
nearest-step-requires-clause-low c =
    let count : length c.loop-number.steps.items ≡ c.loop-number.number = c.loop-number.invariant.count in
    let below = c.loop-number-test.true in
    low_lengths c.args.links.now c.args.to c.as_slice.result.now
    (subst (AreFirstSteps c.args.links.now c.args.to) (sym c.as_slice.ensures.value) c.loop-number.invariant.steps)
    (omega (arith, ap length c.as_slice.ensures.value, c.ranges.from))

pub loop-number-preserved : goal.loop-number-preserved
loop-number-preserved c =
    let items : c.push.new.self.items ≡ c.loop-number.steps.items ++ c.nearest-step.result ∷ [] = c.in_ok-push.ensures.items in
    let count : length c.loop-number.steps.items ≡ c.loop-number.number = c.loop-number.invariant.count in
    let are : AreFirstSteps c.args.links.now c.args.to c.loop-number.steps.items = c.loop-number.invariant.steps in
    let is : IsFirstStep c.args.links.now (Definition c.loop-number.number) c.args.to (nearest_from (length_from c.loop-number.steps.items c.args.to) None c.entry.result.now) =
    first_step_is c.args.links.now c.args.to c.loop-number.steps.items c.loop-number.number c.entry.result.now count
    c.requires.to are c.entry.ensures.targets c.entry.ensures.earlier in
    let step : c.nearest-step.result ≡ nearest_from (length_from c.loop-number.steps.items c.args.to) None c.entry.result.now =
    c.nearest-step.ensures
    ∙ ap (λ steps. nearest_from (length_from steps c.args.to) None c.entry.result.now) c.as_slice.ensures.value in
    record {
      count = ap length items ∙ length-append c.loop-number.steps.items (c.nearest-step.result ∷ [])
          ∙ ap (λ n. n + 1) count;
      steps = subst (AreFirstSteps c.args.links.now c.args.to) (sym items)
          (one_step_more c.args.links.now c.args.to c.loop-number.steps.items c.loop-number.number c.nearest-step.result
          count are (subst (IsFirstStep c.args.links.now (Definition c.loop-number.number) c.args.to) (sym step) is));
    }
