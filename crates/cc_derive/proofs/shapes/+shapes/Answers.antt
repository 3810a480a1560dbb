use Rattle.std.proofs.Common.{Option, [], ◌∷◌, length, sym, ap, ◌∙◌, subst}
use Rattle.std.proofs.lemmas.Result.{IfOk-weaker}
use Rattle.cc_core.specs.Contexts.{TypeEntry, entry_of}
use Rattle.cc_core.specs.Derivations.{ByTypeVariable, ShapeBelow, Derivation, Node, NoPremise}
use Rattle.cc_core.specs.Shapes.{Shape, FunctionShape, TypeFunctionShape}
use Rattle.cc_core.specs.Substitution.{opened_type}
use Rattle.cc_core.specs.declared.types.Ty.{Ty}
use Rattle.cc_core.specs.TermViews.{shape_of, type_of, context_of}
use Rattle.cc_checking.specs.CanonicalDerivations as plain
use Rattle.cc_derive.specs.Trees.{IsMade}
use Rattle.cc_derive.proofs.MadeShapes.{functions_node, type_functions_node, variable_node, level_entered}
use Rattle.cc_derive.proofs.shapes.+shapes.Goals as goal

pub function_below-returns-in_ok-parts-in-Fun : goal.function_below-returns-in_ok-parts-in-Fun
function_below-returns-in_ok-parts-in-Fun t c =
    let g = context_of c.args.ctx.now in
    let takes = type_of c.args.takes.now in
    let gives = type_of c.args.gives.now in
    let others = type_of c.deref-in-Fun.result.now in
    let other_gives = type_of c.deref-in-Fun-3.result.now in
    let e = sym c.deref-in-Fun.ensures in
    let f = sym c.deref-in-Fun-3.ensures in
    let is = ap shape_of (sym c.deref.ensures) ∙ ap shape_of c.in-Fun.is
    ∙ (λ i. FunctionShape (type_of (e i)).shape (type_of (e i)).set (type_of (f i)).shape (type_of (f i)).set) in
    IfOk-weaker c.shape_node.result _ _
    (λ x h. λ m le.
    let derive = plain.shape_derived m in
    let first = plain.type_derived derive g others takes in
    let second = plain.type_derived derive (entry_of others ∷ g) (opened_type (length g) gives) (opened_type (length g) other_gives) in
    let given : IsMade c.args.build c.in_ok-given-in-Fun.given second =
    subst (λ (o : Ty). IsMade c.args.build c.in_ok-given-in-Fun.given (plain.type_derived derive (entry_of (type_of o) ∷ g) (opened_type (length g) gives) (opened_type (length g) other_gives)))
    (c.deref-in-Fun-2.ensures ∙ sym c.deref-in-Fun.ensures) (c.in_ok-given-in-Fun.ensures m le) in
    subst (λ (d : Derivation). IsMade c.args.build x d) (functions_node derive g takes gives others other_gives (shape_of c.args.left.now.value) (shape_of c.args.right.now.value) c.requires is)
    (h c.args.build (first ∷ second ∷ []) (c.in_ok-parts-in-Fun.ensures first second (c.in_ok-taken-in-Fun.ensures m le) given)))
    c.shape_node.ensures

pub shapes_below-returns : goal.shapes_below-returns
shapes_below-returns t c =
    IfOk-weaker c.step_below.result _ _
    (λ x h. λ m le. level_entered c.args.build x c.args.steps m (context_of c.args.ctx.now) (shape_of c.args.left.now.value) (shape_of c.args.right.now.value) c.if-steps-eq0.false le h)
    c.step_below.ensures

pub type_function_below-returns-in_ok-parts-in-TFun :
    goal.type_function_below-returns-in_ok-parts-in-TFun
type_function_below-returns-in_ok-parts-in-TFun t c =
    let g = context_of c.args.ctx.now in
    let bound = shape_of c.args.bound.now.value in
    let gives = type_of c.args.gives.now in
    let other = shape_of c.in-TFun.other.value in
    let other_gives = type_of c.deref-in-TFun.result.now in
    let f = sym c.deref-in-TFun.ensures in
    let is = ap shape_of (sym c.deref.ensures) ∙ ap shape_of c.in-TFun.is
    ∙ (λ i. TypeFunctionShape other (type_of (f i)).shape (type_of (f i)).set) in
    IfOk-weaker c.shape_node.result _ _
    (λ x h. λ m le.
    let derive = plain.shape_derived m in
    let first = plain.alike_derived bound other in
    let second = plain.type_derived derive (TypeEntry bound ∷ g) (opened_type (length g) gives) (opened_type (length g) other_gives) in
    subst (λ (d : Derivation). IsMade c.args.build x d) (type_functions_node derive g bound other gives other_gives (shape_of c.args.left.now.value) (shape_of c.args.right.now.value) c.requires is)
    (h c.args.build (first ∷ second ∷ []) (c.in_ok-parts-in-TFun.ensures first second c.in_ok-bounds-in-TFun.ensures (c.in_ok-given-in-TFun.ensures m le))))
    c.shape_node.ensures

pub types_below-returns : goal.types_below-returns
types_below-returns t c =
    let g = context_of c.args.ctx.now in
    let l = type_of c.args.left.now in
    let r = type_of c.args.right.now in
    IfOk-weaker c.type_node.result _ _
    (λ x h. λ m le. h c.args.build (plain.set_derived g l.set r.set ∷ plain.shape_derived m g l.shape r.shape ∷ [])
    (c.in_ok-parts.ensures (plain.set_derived g l.set r.set) (plain.shape_derived m g l.shape r.shape) c.in_ok-sets.ensures (c.in_ok-shapes.ensures m le)))
    c.type_node.ensures

pub variable_below-returns-in_ok-parts-in-Some : goal.variable_below-returns-in_ok-parts-in-Some
variable_below-returns-in_ok-parts-in-Some t c =
    let g = context_of c.args.ctx.now in
    let l = shape_of c.args.left.now.value in
    let r = shape_of c.args.right.now.value in
    let bound = shape_of c.in-Some.bound.now.value in
    IfOk-weaker c.shape_node.result _ _
    (λ x h. λ m le.
    let derive = plain.shape_derived m in
    let first = Node ByTypeVariable NoPremise (ShapeBelow l bound) in
    let rest = derive g bound r in
    subst (λ (o : Option Shape). IsMade c.args.build x (plain.bound_derived derive g c.args.variable o r)) c.in-Some.ensures
    (subst (λ (d : Derivation). IsMade c.args.build x d) (variable_node derive g c.args.variable bound l r c.requires)
    (h c.args.build (first ∷ rest ∷ []) (c.in_ok-parts-in-Some.ensures first rest c.in_ok-first-in-Some.ensures (c.in_ok-rest-in-Some.ensures m le)))))
    c.shape_node.ensures
