use Rattle.std.proofs.Common.{map, sym, ap, ◌∙◌, subst}
use Rattle.cc_core.specs.declared.terms.Node.{Node}
use Rattle.cc_core.specs.Places.{spots_at, places_around, places_of}
use Rattle.cc_core.specs.Reading.{read_shape}
use Rattle.cc_core.specs.TermViews.{shape_of, note_of, form_of, term_of, context_of}
use Rattle.cc_core.specs.WellFormed.{IsWellFormedShape, IsWellFormedType}
use Rattle.cc_checking.specs.Inference.{exit_entry}
use Rattle.cc_subty.specs.Demands.{asked_of}
use Rattle.cc_known.specs.Parts.{found_of}
use Rattle.cc_known.proofs.FormedParts.{shape_with_entry, pure_well_formed}
use Rattle.cc_type.proofs.StandingTerms.{boundary_shape}
use Rattle.cc_reasoning.specs.ExplainedLogs.{test, explained_log}
use Rattle.cc_reasoning.specs.LocatedLogs.{after, beside}
use Rattle.cc_causes.specs.Views.{locals_of, scene_of, binder_names_of}
use Rattle.cc_reasoning.proofs.ExplainedRuns.{explained_formed, choice_steps}
use Rattle.cc_reasoning.proofs.explain.+explain.Goals as goal

pub explain-returns-clause-formed : goal.explain-returns-clause-formed
explain-returns-clause-formed t c =
    explained_formed c.args.root (scene_of c.args.scene.now) (term_of c.args.node.now.value)
    (places_of c.args.node.now.value) (binder_names_of c.args.binders.now) _ _ (found_of c.in_ok-found.found)
    c.requires.context c.requires.term c.in_ok-found.ensures.exact

pub explain_form-bounded-requires-clause-right : goal.explain_form-bounded-requires-clause-right
explain_form-bounded-requires-clause-right t c =
    let g = context_of c.args.scene.now.ctx in
    let is = ap term_of (sym c.deref.ensures) ∙ ap form_of c.in-Boundary.is in
    let read = boundary_shape c.args.root g (term_of c.args.node.now.value) (shape_of c.in-Boundary.gives.value)
    (term_of c.in-Boundary.body.value) is c.requires.term in
    let shape = shape_of c.in_ok-read-in-Boundary.read.value in
    let same = c.in_ok-read-in-Boundary.ensures
    ∙ ap (λ n. read_shape n (shape_of c.in-Boundary.gives.value)) c.entries-in-Boundary.ensures in
    let formed = subst (IsWellFormedShape g) (sym same) read in
    let inner = context_of c.in_ok-inner-in-Boundary.inner.ctx in
    let there = subst (λ h. IsWellFormedShape h shape) (sym c.in_ok-inner-in-Boundary.ensures.context)
    (shape_with_entry g (exit_entry shape) shape formed) in
    subst (IsWellFormedType inner) (sym c.pure_type-whole.ensures) (pure_well_formed inner shape there)

pub explain_form-returns-in_ok-found-in-If-clause-exact : goal.explain_form-returns-in_ok-found-in-If-clause-exact
explain_form-returns-in_ok-found-in-If-clause-exact t c =
    let node = c.args.node.now.value in
    let root = c.args.root in
    let scene = scene_of c.args.scene.now in
    let names = binder_names_of c.args.binders.now in
    let own = spots_at node.at node.first node.second in
    let note = note_of c.in-If.note in
    let v = c.in-If.variable in
    let log = beside (asked_of c.args.log.now.demands) (map (λ l. locals_of l.value) c.args.known.now.items) in
    let log1 = beside (asked_of c.test.new.log.demands) (map (λ l. locals_of l.value) c.test.new.known.items) in
    let log2 = beside (asked_of c.explain-in-If.new.log.demands) (map (λ l. locals_of l.value) c.explain-in-If.new.known.items) in
    let log3 = beside (asked_of c.branch_below.new.log.demands) (map (λ l. locals_of l.value) c.branch_below.new.known.items) in
    let log4 = beside (asked_of c.explain-in-If-2.new.log.demands) (map (λ l. locals_of l.value) c.explain-in-If-2.new.known.items) in
    let is = ap (λ (m : Node). m.form) (sym c.deref.ensures) ∙ c.in-If.is in
    let start = ap (λ f. explained_log root scene (form_of f) (places_around own f) names log) is in
    let tested = ap (λ (m : Node). after log (test (spots_at m.at m.first m.second) scene note v))
    (sym c.deref-in-If.ensures) ∙ c.in_ok-test-in-If.ensures.is in
    let steps = choice_steps root scene note v (term_of c.in-If.positive.value) (term_of c.in-If.negative.value) own
    (places_of c.in-If.positive.value) (places_of c.in-If.negative.value) names
    (binder_names_of c.first-first-in-If.result.now) (binder_names_of c.second-second-in-If.result.now)
    log log1 log2 log3 log4 (found_of c.in_ok-one-in-If.one) (found_of c.in_ok-two-in-If.two)
    c.in_ok-test-in-If.field-0 c.in_ok-branch_below-in-If.field-0 c.place_of.result c.place_of-in-If.result
    tested c.in_ok-one-in-If.ensures.exact c.first-first-in-If.ensures c.place_of.ensures
    c.in_ok-branch_below-in-If.ensures.is c.in_ok-two-in-If.ensures.exact c.second-second-in-If.ensures
    c.place_of-in-If.ensures in
    start ∙ steps ∙ c.in_ok-found-in-If.ensures.exact
