use Rattle.std.proofs.Common.{◌≡◌, List, [], map, Err, sym, ap, subst}
use Rattle.cc_core.specs.TermViews.{context_of}
use Rattle.cc_subty.specs.declared.demands.Demand.{Demand as DeclaredDemand}
use Rattle.cc_subty.specs.Demands.{asked_of}
use Rattle.cc_check.specs.Definitions.{definition_of}
use Rattle.cc_causes.specs.Views.{locals_of, binder_names_of}
use Rattle.cc_reasons.specs.Causes.{Local}
use Rattle.cc_reasoning.specs.LocatedLogs.{Got, Meets, beside}
use Rattle.cc_definition_reasoning.specs.ExplainedDefinitions.{checking_of, definition_log}
use Rattle.cc_definition_reasoning.specs.Keeping.{Keeps}
use Rattle.cc_definition_reasoning.proofs.AnsweredReasons.{keeps_from, halted_reason}
use Rattle.cc_definition_reasoning.proofs.definition.definition_reason.Goals as goal

-- nothing stands beside nothing
nothing_beside : (demands : List DeclaredDemand) (locals : List (List Local)) → demands ≡ []
    → beside (asked_of demands) locals ≡ []
nothing_beside demands locals none = ap (λ ds. beside (asked_of ds) locals) none

pub reason_of_found-requires-clause-keeps : goal.reason_of_found-requires-clause-keeps
reason_of_found-requires-clause-keeps c =
    let g = context_of c.args.ctx.now in
    let d = definition_of c.args.def.now in
    let names = binder_names_of c.args.binders.now in
    subst (λ ds. Keeps c.args.devices g d names (checking_of c.in-Ok.found) (asked_of ds)
    (map (λ l. locals_of l.value) c.as_slice.result.now)) (sym c.demands.ensures)
    (subst (λ ls. Keeps c.args.devices g d names (checking_of c.in-Ok.found) (asked_of c.explain_definition.new.log.demands)
    (map (λ l. locals_of l.value) ls)) (sym c.as_slice.ensures.value)
    (keeps_from c.args.devices g d names (checking_of c.in-Ok.found) (asked_of c.explain_definition.new.log.demands)
    (map (λ l. locals_of l.value) c.explain_definition.new.known.items)
    (subst (λ before. definition_log c.args.devices g d names before
    ≡ Got (checking_of c.in-Ok.found) (beside (asked_of c.explain_definition.new.log.demands)
    (map (λ l. locals_of l.value) c.explain_definition.new.known.items)))
    (nothing_beside c.new-log.result.demands (map (λ l. locals_of l.value) c.new-known.result.items) c.new-log.ensures)
    c.in-Ok.ensures.exact)))

pub returns : goal.returns
returns c =
    let log = beside (asked_of c.explain_definition.new.log.demands)
    (map (λ l. locals_of l.value) c.explain_definition.new.known.items) in
    halted_reason c.args.devices (context_of c.args.ctx.now) (definition_of c.args.def.now)
    (binder_names_of c.args.binders.now) c.in-Err.halt log c.refusal_of.result
    (subst (λ before. Meets checking_of (Err c.in-Err.halt) log
    (definition_log c.args.devices (context_of c.args.ctx.now) (definition_of c.args.def.now)
    (binder_names_of c.args.binders.now) before))
    (nothing_beside c.new-log.result.demands (map (λ l. locals_of l.value) c.new-known.result.items) c.new-log.ensures)
    c.in-Err.ensures.exact) c.refusal_of.ensures
