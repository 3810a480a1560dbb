use Rattle.std.proofs.Common.{sym, ap, ◌∙◌, subst}
use Rattle.cc_core.specs.declared.terms.Node.{Node}
use Rattle.cc_core.specs.Places.{spots_at, places_around, places_of}
use Rattle.cc_core.specs.Reading.{read_shape}
use Rattle.cc_core.specs.TermViews.{shape_of, note_of, form_of, term_of, context_of}
use Rattle.cc_core.specs.WellFormed.{IsWellFormedShape}
use Rattle.cc_checking.specs.Inference.{exit_entry}
use Rattle.cc_subty.specs.Demands.{asked_of}
use Rattle.cc_known.specs.Logs.{Meets}
use Rattle.cc_known.specs.Parts.{found_of, named_of}
use Rattle.cc_type.specs.Rows.{let_end, inferred_log}
use Rattle.cc_known.proofs.FormedParts.{shape_with_entry}
use Rattle.cc_type.proofs.StandingTerms.{type_of_found, let_body, boundary_shape, let_found, ends_met}
use Rattle.cc_infer.proofs.infer.+infer.Goals as goal

pub infer-returns-clause-formed : goal.infer-returns-clause-formed
infer-returns-clause-formed t c =
    type_of_found c.args.root (context_of c.args.ctx.now) (term_of c.args.node.now.value)
    (places_of c.args.node.now.value) _ _ (found_of c.in_ok-found.found)
    c.requires.context c.requires.term c.in_ok-found.ensures.exact

pub infer_form-body_context-requires-clause-body : goal.infer_form-body_context-requires-clause-body
infer_form-body_context-requires-clause-body t c =
    let is = ap term_of (sym c.deref.ensures) ∙ ap form_of c.in-Let.is in
    let_body c.args.root (context_of c.args.ctx.now) (term_of c.args.node.now.value) _ _
    (term_of c.in-Let.body.value) is c.requires.term

pub infer_form-bounded-requires-clause-gives : goal.infer_form-bounded-requires-clause-gives
infer_form-bounded-requires-clause-gives t c =
    let g = context_of c.args.ctx.now in
    let is = ap term_of (sym c.deref.ensures) ∙ ap form_of c.in-Boundary.is in
    let read = boundary_shape c.args.root g (term_of c.args.node.now.value) (shape_of c.in-Boundary.gives.value)
    (term_of c.in-Boundary.body.value) is c.requires.term in
    let shape = shape_of c.in_ok-read-in-Boundary.read.value in
    let same = c.in_ok-read-in-Boundary.ensures
    ∙ ap (λ n. read_shape n (shape_of c.in-Boundary.gives.value)) c.entries-in-Boundary.ensures in
    let formed = subst (IsWellFormedShape g) (sym same) read in
    subst (λ h. IsWellFormedShape h shape) (sym c.in_ok-inner-in-Boundary.ensures.is)
    (shape_with_entry g (exit_entry shape) shape formed)

pub infer_form-returns-in_ok-two-in-Let-clause-exact : goal.infer_form-returns-in_ok-two-in-Let-clause-exact
infer_form-returns-in_ok-two-in-Let-clause-exact t c =
    let node = c.args.node.now.value in
    let g = context_of c.args.ctx.now in
    let own = spots_at node.at node.first node.second in
    let log = asked_of c.args.log.now.demands in
    let last = asked_of c.infer-in-Let-2.new.log.demands in
    let is = ap (λ (m : Node). m.form) (sym c.deref.ensures) ∙ c.in-Let.is in
    let start = ap (λ f. inferred_log c.args.root g (form_of f) (places_around own f) log) is in
    let steps = let_found c.args.root g (context_of c.in_ok-inner-in-Let.inner) (note_of c.in-Let.note)
    (term_of c.in-Let.right.value) (term_of c.in-Let.body.value) own
    (places_of c.in-Let.right.value) (places_of c.in-Let.body.value) log (asked_of c.infer-in-Let.new.log.demands)
    (asked_of c.name.new.log.demands) last
    (found_of c.in_ok-one-in-Let.one) (found_of c.in_ok-two-in-Let.two)
    (named_of c.in_ok-named-in-Let.named) c.place_of-at.result
    c.in_ok-one-in-Let.ensures.exact c.place_of-at.ensures c.in_ok-named-in-Let.ensures.is
    c.in_ok-inner-in-Let.ensures.is c.in_ok-two-in-Let.ensures.exact in
    let end = let_end g node.at node.first (named_of c.in_ok-named-in-Let.named)
    (found_of c.in_ok-one-in-Let.one) (found_of c.in_ok-two-in-Let.two) in
    let met = ends_met found_of c.let_end.result end last c.let_end.ensures.exact in
    subst (Meets found_of c.let_end.result last) (sym (start ∙ steps)) met
