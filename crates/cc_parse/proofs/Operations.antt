-- An operation is an expression of one level and one place, whether it has an argument or not.
use Rattle.std.proofs.Common.{◌≡◌, Option, Some, None, refl}
use Rattle.cc_base.specs.declared.place.Place.{Place}
use Rattle.cc_base.specs.declared.literal.Op.{Op}
use Rattle.cc_grammar.specs.Syntax.{ExprSyntax}
use Rattle.cc_grammar.specs.Grammar.{level}
use Rattle.cc_grammar.specs.Reading.{expr_place}
use Rattle.cc_parse.specs.declared.tree.ExprForm.{ExprForm}
use Rattle.cc_parse.specs.declared.tree.ExprForm.TheVariants as exprs
use Rattle.cc_parse.specs.Trees.{operation_syntax, argument_syntax, expr_form_syntax}

pub level-operation : (at : Place) (operation : Op) (receiver : ExprSyntax) (argument : Option ExprSyntax) → level (operation_syntax at operation receiver argument) ≡ 5
level-operation at operation receiver None = refl
level-operation at operation receiver (Some argument) = refl

pub place-operation : (at : Place) (operation : Op) (receiver : ExprSyntax) (argument : Option ExprSyntax) → expr_place (operation_syntax at operation receiver argument) ≡ at
place-operation at operation receiver None = refl
place-operation at operation receiver (Some argument) = refl

-- an expression stands at its place
pub place-form : (at : Place) (form : ExprForm) → expr_place (expr_form_syntax at form) ≡ at
place-form at (exprs.Val' x t p a b q c d) = refl
place-form at (exprs.Fun' x t p a b) = refl
place-form at (exprs.TFun' x s p a b) = refl
place-form at (exprs.If' t p a b q c d r e f) = refl
place-form at (exprs.Boundary' s x p a b) = refl
place-form at (exprs.Prim' o p a b q c d) = refl
place-form at (exprs.Boxed' p a b) = refl
place-form at (exprs.Unbox' s p a b) = refl
place-form at (exprs.App' p a b q c d) = refl
place-form at (exprs.TApp' p a b s) = refl
place-form at (exprs.Operate' o p a b e) = place-operation at o (expr_form_syntax a b) (argument_syntax e)
place-form at (exprs.Name x) = refl
place-form at (exprs.Lit l) = refl
place-form at (exprs.Paren' p a b) = refl
place-form at (exprs.Leave' t p a b q c d) = refl
place-form at (exprs.Repeat' p a b q c d) = refl

pub ruleset operations = (level-operation, place-operation)

pub ruleset places = (place-form, level-operation)
