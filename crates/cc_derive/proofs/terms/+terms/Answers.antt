use Rattle.std.proofs.Common.{Option, sym, ap, ◌∙◌, subst}
use Rattle.std.proofs.lemmas.Result.{IfOk-weaker}
use Rattle.cc_base.specs.declared.literal.Base.TheVariants as bases
use Rattle.cc_capture.specs.declared.var.Var.{Var}
use Rattle.cc_capture.specs.Sets.{Set, empty}
use Rattle.cc_core.specs.declared.terms.Node.{Node as DeclaredNode}
use Rattle.cc_core.specs.Captured.{captured_variables, variable_set}
use Rattle.cc_core.specs.Derivations.{t-box, t-prim, t-repeat, OfType, Node, one, two}
use Rattle.cc_core.specs.Shapes.{Shape, BaseShape, FunctionShape, BoxShape, CapturingType, capturing}
use Rattle.cc_core.specs.Terms.{Term}
use Rattle.cc_core.specs.Typing as typing
use Rattle.cc_core.specs.TermViews.{shape_of, type_of, note_of, form_of, term_of, context_of}
use Rattle.cc_checking.specs.CanonicalDerivations as plain
use Rattle.cc_checking.specs.Exposing.{exposed}
use Rattle.cc_core.specs.Captured.{optional_set}
use Rattle.cc_checking.specs.Inference.{base_type, in_context, set_in, shape_in, type_in}
use Rattle.cc_derive.specs.Typings.{IsTyping}
use Rattle.cc_derive.proofs.MadeTerms.{function_term, type_function_term, let_term, boundary_term}
use Rattle.cc_derive.proofs.terms.+terms.Goals as goal

pub derive_form-returns-in-Var : goal.derive_form-returns-in-Var
derive_form-returns-in-Var t c =
    let g = context_of c.args.ctx.now in
    let is = ap term_of (sym c.deref.ensures) ∙ ap form_of c.in-Var.is in
    IfOk-weaker c.variable.result _ _
    (λ x h. λ m le.
    let derive = plain.shape_derived m in
    subst (λ (z : Term). IsTyping c.args.build x (plain.term_derived derive g z)) (sym is)
    (subst (λ (v : Var). IsTyping c.args.build x (plain.variable_derived g v)) c.in_context-seen.ensures
    (h)))
    c.variable.ensures

pub derive_form-returns-in-Lit : goal.derive_form-returns-in-Lit
derive_form-returns-in-Lit t c =
    let g = context_of c.args.ctx.now in
    let is = ap term_of (sym c.deref.ensures) ∙ ap form_of c.in-Lit.is in
    IfOk-weaker c.literal.result _ _
    (λ x h. λ m le.
    let derive = plain.shape_derived m in
    subst (λ (z : Term). IsTyping c.args.build x (plain.term_derived derive g z)) (sym is)
    (h))
    c.literal.ensures

pub derive_form-returns-in_ok-captured-in-Fun : goal.derive_form-returns-in_ok-captured-in-Fun
derive_form-returns-in_ok-captured-in-Fun t c =
    let g = context_of c.args.ctx.now in
    let is = ap term_of (sym c.deref.ensures) ∙ ap form_of c.in-Fun.is in
    IfOk-weaker c.function_end.result _ _
    (λ x h. λ m le.
    let derive = plain.shape_derived m in
    subst (λ (z : Term). IsTyping c.args.build x (plain.term_derived derive g z)) (sym is)
    (function_term c.args.build derive x c.in_ok-part-in-Fun.part g (context_of c.in_ok-inner-in-Fun.inner) (type_of c.in-Fun.takes.value) (type_of c.in_ok-read-in-Fun.read) (term_of c.in-Fun.body.value) c.in_ok-captured-in-Fun.captured
    c.in_ok-inner-in-Fun.ensures c.in_ok-read-in-Fun.ensures
    (c.in_ok-captured-in-Fun.ensures ∙ ap (λ (n : DeclaredNode). captured_variables (term_of n)) c.deref-in-Fun.ensures ∙ ap captured_variables is)
    (c.in_ok-part-in-Fun.ensures m le) h))
    c.function_end.ensures

pub derive_form-returns-in_ok-captured-in-TFun : goal.derive_form-returns-in_ok-captured-in-TFun
derive_form-returns-in_ok-captured-in-TFun t c =
    let g = context_of c.args.ctx.now in
    let is = ap term_of (sym c.deref.ensures) ∙ ap form_of c.in-TFun.is in
    IfOk-weaker c.type_function_end.result _ _
    (λ x h. λ m le.
    let derive = plain.shape_derived m in
    subst (λ (z : Term). IsTyping c.args.build x (plain.term_derived derive g z)) (sym is)
    (type_function_term c.args.build derive x c.in_ok-part-in-TFun.part g (context_of c.in_ok-inner-in-TFun.inner) (shape_of c.in-TFun.bound.value) (shape_of c.in_ok-read-in-TFun.read.value) (term_of c.in-TFun.body.value) c.in_ok-captured-in-TFun.captured
    c.in_ok-inner-in-TFun.ensures c.in_ok-read-in-TFun.ensures
    (c.in_ok-captured-in-TFun.ensures ∙ ap (λ (n : DeclaredNode). captured_variables (term_of n)) c.deref-in-TFun.ensures ∙ ap captured_variables is)
    (c.in_ok-part-in-TFun.ensures m le) h))
    c.type_function_end.ensures

pub derive_form-returns-in-Boxed : goal.derive_form-returns-in-Boxed
derive_form-returns-in-Boxed t c =
    let g = context_of c.args.ctx.now in
    let is = ap term_of (sym c.deref.ensures) ∙ ap form_of c.in-Boxed.is in
    IfOk-weaker c.boxed.result _ _
    (λ x h. λ m le.
    let derive = plain.shape_derived m in
    subst (λ (z : Term). IsTyping c.args.build x (plain.term_derived derive g z)) (sym is)
    (subst (λ (v : Var). IsTyping c.args.build x (Node t-box (one (plain.variable_derived g v)) (OfType (capturing (BoxShape (plain.shape_at g v) (variable_set v)) empty)))) c.in_context-inside.ensures
    (h)))
    c.boxed.ensures

pub derive_form-returns-in-App : goal.derive_form-returns-in-App
derive_form-returns-in-App t c =
    let g = context_of c.args.ctx.now in
    let is = ap term_of (sym c.deref.ensures) ∙ ap form_of c.in-App.is in
    IfOk-weaker c.application.result _ _
    (λ x h. λ m le.
    let derive = plain.shape_derived m in
    subst (λ (z : Term). IsTyping c.args.build x (plain.term_derived derive g z)) (sym is)
    (subst (λ (v : Var). IsTyping c.args.build x (plain.application_derived derive g v (in_context g c.in-App.argument) (exposed g (plain.shape_at g v)))) c.in_context-applied.ensures
    (subst (λ (w : Var). IsTyping c.args.build x (plain.application_derived derive g c.in_context-applied.result w (exposed g (plain.shape_at g c.in_context-applied.result)))) c.in_context-given.ensures
    (h m le))))
    c.application.ensures

pub derive_form-returns-in_ok-read-in-TApp : goal.derive_form-returns-in_ok-read-in-TApp
derive_form-returns-in_ok-read-in-TApp t c =
    let g = context_of c.args.ctx.now in
    let is = ap term_of (sym c.deref.ensures) ∙ ap form_of c.in-TApp.is in
    IfOk-weaker c.type_application.result _ _
    (λ x h. λ m le.
    let derive = plain.shape_derived m in
    subst (λ (z : Term). IsTyping c.args.build x (plain.term_derived derive g z)) (sym is)
    (subst (λ (v : Var). IsTyping c.args.build x (plain.type_application_derived derive g v (shape_in g (shape_of c.in-TApp.argument.value)) (exposed g (plain.shape_at g v)))) c.in_context-head.ensures
    (subst (λ (s : Shape). IsTyping c.args.build x (plain.type_application_derived derive g c.in_context-head.result s (exposed g (plain.shape_at g c.in_context-head.result)))) c.in_ok-read-in-TApp.ensures (h m le))))
    c.type_application.ensures

pub derive_form-returns-in_ok-under-in-Unbox : goal.derive_form-returns-in_ok-under-in-Unbox
derive_form-returns-in_ok-under-in-Unbox t c =
    let g = context_of c.args.ctx.now in
    let is = ap term_of (sym c.deref.ensures) ∙ ap form_of c.in-Unbox.is in
    IfOk-weaker c.unboxing.result _ _
    (λ x h. λ m le.
    let derive = plain.shape_derived m in
    subst (λ (z : Term). IsTyping c.args.build x (plain.term_derived derive g z)) (sym is)
    (subst (λ (v : Var). IsTyping c.args.build x (plain.unboxing_derived derive g (set_in g (optional_set c.in-Unbox.set)) v (exposed g (plain.shape_at g v)))) c.in_context-opened.ensures
    (subst (λ (s : Set). IsTyping c.args.build x (plain.unboxing_derived derive g s c.in_context-opened.result (exposed g (plain.shape_at g c.in_context-opened.result)))) c.in_ok-under-in-Unbox.ensures (h m le))))
    c.unboxing.ensures

pub derive_form-returns-in_ok-part-in-Let : goal.derive_form-returns-in_ok-part-in-Let
derive_form-returns-in_ok-part-in-Let t c =
    let g = context_of c.args.ctx.now in
    let is = ap term_of (sym c.deref.ensures) ∙ ap form_of c.in-Let.is in
    IfOk-weaker c.let_end.result _ _
    (λ x h. λ m le.
    let derive = plain.shape_derived m in
    subst (λ (z : Term). IsTyping c.args.build x (plain.term_derived derive g z)) (sym is)
    (let_term c.args.build derive x c.in_ok-found-in-Let.found c.in_ok-named-in-Let.named c.in_ok-part-in-Let.part g (context_of c.in_ok-inner-in-Let.inner) (note_of c.in-Let.note) (term_of c.in-Let.right.value) (term_of c.in-Let.body.value)
    (c.in_ok-found-in-Let.ensures m le) (c.in_ok-named-in-Let.ensures m le) c.in_ok-inner-in-Let.ensures (c.in_ok-part-in-Let.ensures m le) (h m le)))
    c.let_end.ensures

pub derive_form-returns-in-Prim : goal.derive_form-returns-in-Prim
derive_form-returns-in-Prim t c =
    let g = context_of c.args.ctx.now in
    let is = ap term_of (sym c.deref.ensures) ∙ ap form_of c.in-Prim.is in
    IfOk-weaker c.primitive.result _ _
    (λ x h. λ m le.
    let derive = plain.shape_derived m in
    subst (λ (z : Term). IsTyping c.args.build x (plain.term_derived derive g z)) (sym is)
    (subst (λ (v : Var). IsTyping c.args.build x (Node t-prim (two (plain.operand_derived derive g v (BaseShape bases.Int)) (plain.operand_derived derive g (in_context g c.in-Prim.right) (BaseShape bases.Int))) (OfType (base_type (typing.base_given c.in-Prim.operator))))) c.in_context-one.ensures
    (subst (λ (w : Var). IsTyping c.args.build x (Node t-prim (two (plain.operand_derived derive g c.in_context-one.result (BaseShape bases.Int)) (plain.operand_derived derive g w (BaseShape bases.Int))) (OfType (base_type (typing.base_given c.in-Prim.operator))))) c.in_context-other.ensures
    (h m le))))
    c.primitive.ensures

pub derive_form-returns-in_ok-second-in-If : goal.derive_form-returns-in_ok-second-in-If
derive_form-returns-in_ok-second-in-If t c =
    let g = context_of c.args.ctx.now in
    let is = ap term_of (sym c.deref.ensures) ∙ ap form_of c.in-If.is in
    IfOk-weaker c.choice.result _ _
    (λ x h. λ m le.
    let derive = plain.shape_derived m in
    subst (λ (z : Term). IsTyping c.args.build x (plain.term_derived derive g z)) (sym is)
    (subst (λ (v : Var). IsTyping c.args.build x (plain.choice_derived derive g (note_of c.in-If.note) v (plain.term_derived derive g (term_of c.in-If.positive.value)) (plain.term_derived derive g (term_of c.in-If.negative.value)))) c.in_context-tested.ensures
    (h m le (plain.term_derived derive g (term_of c.in-If.positive.value)) (plain.term_derived derive g (term_of c.in-If.negative.value)) (c.in_ok-first-in-If.ensures m le) (c.in_ok-second-in-If.ensures m le))))
    c.choice.ensures

pub derive_form-returns-in-Repeat : goal.derive_form-returns-in-Repeat
derive_form-returns-in-Repeat t c =
    let g = context_of c.args.ctx.now in
    let is = ap term_of (sym c.deref.ensures) ∙ ap form_of c.in-Repeat.is in
    IfOk-weaker c.repetition.result _ _
    (λ x h. λ m le.
    let derive = plain.shape_derived m in
    subst (λ (z : Term). IsTyping c.args.build x (plain.term_derived derive g z)) (sym is)
    (subst (λ (v : Var). IsTyping c.args.build x (Node t-repeat (two (plain.operand_derived derive g v (BaseShape bases.Int)) (plain.operand_derived derive g (in_context g c.in-Repeat.function) (FunctionShape (BaseShape bases.Int) empty (BaseShape bases.Unit) empty))) (OfType (base_type bases.Unit)))) c.in_context-times.ensures
    (subst (λ (w : Var). IsTyping c.args.build x (Node t-repeat (two (plain.operand_derived derive g c.in_context-times.result (BaseShape bases.Int)) (plain.operand_derived derive g w (FunctionShape (BaseShape bases.Int) empty (BaseShape bases.Unit) empty))) (OfType (base_type bases.Unit)))) c.in_context-repeated.ensures
    (h m le))))
    c.repetition.ensures

pub derive_form-returns-in-Operate : goal.derive_form-returns-in-Operate
derive_form-returns-in-Operate t c =
    let g = context_of c.args.ctx.now in
    let is = ap term_of (sym c.deref.ensures) ∙ ap form_of c.in-Operate.is in
    IfOk-weaker c.operation.result _ _
    (λ x h. λ m le.
    let derive = plain.shape_derived m in
    subst (λ (z : Term). IsTyping c.args.build x (plain.term_derived derive g z)) (sym is)
    (subst (λ (v : Var). IsTyping c.args.build x (plain.operation_derived derive g c.in-Operate.operation v (plain.argument_in g c.in-Operate.argument) (typing.base_taken c.in-Operate.operation))) c.in_context-receiver.ensures
    (subst (λ (o : Option Var). IsTyping c.args.build x (plain.operation_derived derive g c.in-Operate.operation c.in_context-receiver.result o (typing.base_taken c.in-Operate.operation))) c.argument_in-taken.ensures (h m le))))
    c.operation.ensures

pub derive_form-returns-in_ok-part-in-Boundary : goal.derive_form-returns-in_ok-part-in-Boundary
derive_form-returns-in_ok-part-in-Boundary t c =
    let g = context_of c.args.ctx.now in
    let is = ap term_of (sym c.deref.ensures) ∙ ap form_of c.in-Boundary.is in
    IfOk-weaker c.boundary_end.result _ _
    (λ x h. λ m le.
    let derive = plain.shape_derived m in
    subst (λ (z : Term). IsTyping c.args.build x (plain.term_derived derive g z)) (sym is)
    (boundary_term c.args.build derive x c.in_ok-part-in-Boundary.part g (context_of c.in_ok-inner-in-Boundary.inner) (shape_of c.in-Boundary.gives.value) (shape_of c.in_ok-read-in-Boundary.read.value) (term_of c.in-Boundary.body.value)
    c.in_ok-inner-in-Boundary.ensures c.in_ok-read-in-Boundary.ensures (c.in_ok-part-in-Boundary.ensures m le) (h m le)))
    c.boundary_end.ensures

pub derive_form-returns-in_ok-read-in-Leave : goal.derive_form-returns-in_ok-read-in-Leave
derive_form-returns-in_ok-read-in-Leave t c =
    let g = context_of c.args.ctx.now in
    let is = ap term_of (sym c.deref.ensures) ∙ ap form_of c.in-Leave.is in
    IfOk-weaker c.leave.result _ _
    (λ x h. λ m le.
    let derive = plain.shape_derived m in
    subst (λ (z : Term). IsTyping c.args.build x (plain.term_derived derive g z)) (sym is)
    (subst (λ (v : Var). IsTyping c.args.build x (plain.exit_derived derive g (type_in g (type_of c.in-Leave.gives.value)) v (in_context g c.in-Leave.value) (exposed g (plain.shape_at g v)))) c.in_context-left.ensures
    (subst (λ (w : Var). IsTyping c.args.build x (plain.exit_derived derive g (type_in g (type_of c.in-Leave.gives.value)) c.in_context-left.result w (exposed g (plain.shape_at g c.in_context-left.result)))) c.in_context-handed.ensures
    (subst (λ (z : CapturingType). IsTyping c.args.build x (plain.exit_derived derive g z c.in_context-left.result c.in_context-handed.result (exposed g (plain.shape_at g c.in_context-left.result)))) c.in_ok-read-in-Leave.ensures (h m le)))))
    c.leave.ensures
