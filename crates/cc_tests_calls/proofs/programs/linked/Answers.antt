use Rattle.std.proofs.Common.{◌≡◌, ◌<◌, ◌+◌, ◌∙◌, true, length, Some, arith, refl, subst, sym, ap}
use Rattle.std.specs.Prelude.{slice_get}
use Rattle.std.proofs.lemmas.Option.{slice_get_read}
use Rattle.cc_capture.specs.declared.var.Var.TheVariants.{Free}
use Rattle.cc_core.specs.Terms.{Application}
use Rattle.cc_core.specs.TermViews.{term_of, type_of}
use Rattle.cc_machine.specs.Starts.{IsTyped, program_store}
use Rattle.cc_tests_calls.specs.Linked.{takes_unit}
use Rattle.cc_tests_calls.proofs.Linking.{few_cells, linked_program, of_condition}
use Rattle.cc_tests_calls.proofs.programs.linked.Goals as goal

pub new-requires-clause-typed : goal.new-requires-clause-typed
new-requires-clause-typed c =
    let decls = c.args.decls.now in
    let defs = c.args.defs.now in
    let last = c.in_ok-last.last in
    let item = c.index-defs-last.result in
    let is_last = c.in_ok-last.ensures in
    let counted : last + 1 ≡ length defs = omega (arith, is_last.0, is_last.1) in
    let at : slice_get defs last ≡ Some item = slice_get_read defs (length defs) last item refl (omega (arith, counted)) c.index-defs-last.is in
    let takes : takes_unit (type_of item.checked.sig).shape ≡ true =
    ap (λ d. takes_unit (type_of d.checked.sig).shape) c.index-defs-last.is ∙ sym c.if-not-takes_unit.ensures in
    let first = of_condition c.try_from.result _ c.saturating_add.result c.in_ok-function.function c.try_from.ensures c.in_ok-function.ensures.value in
    let second = of_condition c.try_from-2.result _ c.saturating_add-2.result c.in_ok-unit.unit c.try_from-2.ensures c.in_ok-unit.ensures.value in
    let function : c.in_ok-function.function ≡ length decls + last = omega (arith, first.0, first.1, c.saturating_add.ensures) in
    let unit : c.in_ok-unit.unit ≡ length decls + length defs = omega (arith, second.0, second.1, c.saturating_add-2.ensures) in
    let term : term_of c.in_ok-term.term.value ≡ Application (Free (length decls + last)) (Free (length decls + length defs)) =
    c.in_ok-term.ensures ∙ (λ j. Application (Free (function j)) (Free (unit j))) in
    subst (λ shapes. ∥ IsTyped shapes c.in_ok-values.values.items c.in_ok-term.term.value ∥₁) (sym c.in_ok-shapes.ensures)
    ∣ linked_program decls defs c.in_ok-values.values.items last item c.in_ok-term.term.value c.requires c.in_ok-values.ensures counted at takes term ∣₁

pub new-requires-clause-positions : goal.new-requires-clause-positions
new-requires-clause-positions c =
    let decls = c.args.decls.now in
    let defs = c.args.defs.now in
    let second = of_condition c.try_from-2.result _ c.saturating_add-2.result c.in_ok-unit.unit c.try_from-2.ensures c.in_ok-unit.ensures.value in
    let unit : c.in_ok-unit.unit ≡ length decls + length defs = omega (arith, second.0, second.1, c.saturating_add-2.ensures) in
    subst (λ shapes. length (program_store shapes c.in_ok-values.values.items) < 4294967296) (sym c.in_ok-shapes.ensures)
    (few_cells decls defs c.in_ok-values.values.items c.in_ok-unit.unit c.in_ok-values.ensures unit c.if-not-has_next.ensures)
