-- Operands. One that is a name is that variable. Any other gets a name: the construct becomes a `let` of the operand in
-- the construct, and the operands are named from left to right, so that the first is the outermost `let`. Each part of
-- a construct is elaborated in the scope in which it will stand.
use Rattle.std.specs.Prelude.{suc, Option, Some, None}
use Rattle.cc_base.specs.declared.code.Code.TheVariants.{E10}
use Rattle.cc_base.specs.declared.place.Place.{Place}
use Rattle.cc_capture.specs.declared.var.Var.{Var}
use Rattle.cc_capture.specs.declared.var.Var.TheVariants.{Bound, Free}
use Rattle.cc_core.specs.Places.{Spots, Places, Alone, Around, Between, spots_at}
use Rattle.cc_core.specs.Terms.{Absent, Term, Let}
use Rattle.cc_grammar.specs.Syntax.{ExprSyntax, NameExpr, LiteralExpr, ParenthesizedExpr, ValExpr, FunExpr}
use Rattle.cc_grammar.specs.Syntax.{TypeFunExpr, IfExpr, BoundaryExpr, OperatorExpr, BoxExpr, UnboxExpr, CallExpr}
use Rattle.cc_grammar.specs.Syntax.{TypeCallExpr, AskExpr, TellExpr, ExitExpr, RepeatExpr}
use Rattle.cc_mnf.specs.Scopes.{Name, Scope, Unnamed, under, term_variable}
use Rattle.cc_mnf.specs.Steps.{Step, ◌>>=◌, gives, or_refused}

-- a term with its places
pub record PlacedTerm : Type 0 where
  pub term : Term
  pub places : Places

-- the term at the places
abbrev pub placed : Term → Places → PlacedTerm
placed term places = record { term = term; places = places }

-- a term that has no part and no operand, at the place
abbrev pub leaf : Place → Term → PlacedTerm
leaf at term = placed term (Alone (spots_at at at at))

-- where an expression starts: at its first token, an opening parenthesis included
abbrev pub start : ExprSyntax → Place
start (NameExpr at name) = at
start (LiteralExpr at literal) = at
start (ParenthesizedExpr at inner) = at
start (ValExpr at name written right body) = at
start (FunExpr at parameter takes body) = at
start (TypeFunExpr at parameter bound body) = at
start (IfExpr at type test positive negative) = at
start (BoundaryExpr at type exit body) = at
start (OperatorExpr at operator left right) = at
start (BoxExpr at content) = at
start (UnboxExpr at captures content) = at
start (CallExpr at function argument) = at
start (TypeCallExpr at function argument) = at
start (AskExpr at operation receiver) = at
start (TellExpr at operation receiver argument) = at
start (ExitExpr at type exit value) = at
start (RepeatExpr at count function) = at

-- a name at its place
pub record NameAt : Type 0 where
  pub at : Place
  pub name : Name

-- the name that an expression is, perhaps in parentheses
abbrev pub name_of : ExprSyntax → Option NameAt
name_of (NameExpr at name) = Some (record { at = at; name = name })
name_of (ParenthesizedExpr at inner) = name_of inner
name_of _ = None

-- an operand: a variable, or a term that will be named, with the place where it starts
pub data Operand : Type 0 where
  IsVariable : (variable : Var) → Operand
  IsNamed : (term : PlacedTerm) (at : Place) → Operand

-- The scope of what stands behind an operand in its construct: if the operand is no name, then under its `let`, whose
-- binder no name finds.
abbrev pub behind : Option NameAt → Scope → Scope
behind (Some name) scope = scope
behind None scope = under Unnamed scope

-- the operand that the name is, or else that the step makes of the expression
abbrev pub operand_of : Scope → ExprSyntax → Option NameAt → Step PlacedTerm → Step Operand
operand_of scope operand (Some name) elaboration = do
  variable ← or_refused E10 name.at (term_variable scope name.name)
  gives (IsVariable variable)
operand_of scope operand None elaboration = do
  term ← elaboration
  gives (IsNamed term (start operand))

-- a variable as it stands under one binder more
abbrev pub under_binder : Var → Var
under_binder (Bound index) = Bound (suc index)
under_binder (Free position) = Free position

-- the variable that stands for the operand in its construct
abbrev pub variable_of : Operand → Var
variable_of (IsVariable variable) = variable
variable_of (IsNamed term at) = Bound 0

-- the variable of an operand before, where this operand follows it
abbrev pub past : Operand → Var → Var
past (IsVariable variable) before = before
past (IsNamed term at) before = under_binder before

-- A construct that starts at the place, under the `let` of its operand, if that is to be named. The `let` starts where
-- the construct does.
abbrev pub named : Place → Operand → PlacedTerm → PlacedTerm
named at (IsVariable variable) construct = construct
named at (IsNamed term from) construct =
    placed (Let Absent term.term construct.term) (Between (spots_at at from at) term.places construct.places)

-- a construct of one operand
abbrev pub with_operand : Operand → (Var → Term) → Spots → PlacedTerm
with_operand only construct spots = named spots.at only (placed (construct (variable_of only)) (Alone spots))

-- a construct of two operands, in this order
abbrev pub with_operands : Operand → Operand → (Var → Var → Term) → Spots → PlacedTerm
with_operands first second construct spots =
    named spots.at first
    (named spots.at second
    (placed (construct (past second (variable_of first)) (variable_of second)) (Alone spots)))
