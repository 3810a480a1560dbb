-- Texts without their layout: without redundant parentheses, and with all places the same.
use Rattle.std.specs.Prelude.{◌≡◌, List, map}
use Rattle.std.specs.Option.{option_map}
use Rattle.cc_base.specs.declared.place.Place.{Place}
use Rattle.cc_core.specs.Places.{Alone, spots_at}
use Rattle.cc_grammar.specs.Syntax.{ElementSyntax, SetSyntax, AbsentSet, OmittedSet, WrittenSet, TypeSyntax}
use Rattle.cc_grammar.specs.Syntax.{CapturingType}
use Rattle.cc_grammar.specs.Syntax.{ShapeSyntax, BaseShape, AnyShape, NamedShape, ExitShape, BoxShape}
use Rattle.cc_grammar.specs.Syntax.{ParenthesizedShape, FunctionShape, TypeFunctionShape}
use Rattle.cc_grammar.specs.Syntax.{ExprSyntax, NameExpr, LiteralExpr, ParenthesizedExpr, ValExpr, FunExpr}
use Rattle.cc_grammar.specs.Syntax.{TypeFunExpr, IfExpr, BoundaryExpr, OperatorExpr, BoxExpr, UnboxExpr, CallExpr}
use Rattle.cc_grammar.specs.Syntax.{TypeCallExpr, AskExpr, TellExpr, ExitExpr, RepeatExpr}
use Rattle.cc_grammar.specs.Syntax.{ImportSyntax, DefSyntax, ModuleSyntax}
use Rattle.cc_mnf.specs.ElaboratedModules.{CoreDefinition, Elaboration, IsElaborated, IsRefused, elaboration}
use Rattle.cc_mnf.specs.Scopes.{Name}

-- the one place
abbrev pub here : Place
here = record { line = 1; col = 1 }

-- an element at the one place
abbrev pub bare_element : ElementSyntax → ElementSyntax
bare_element element = record { at = here; name = element.name }

-- a set without its layout
abbrev pub bare_set : SetSyntax → SetSyntax
bare_set AbsentSet = AbsentSet
bare_set (OmittedSet at) = OmittedSet here
bare_set (WrittenSet elements) = WrittenSet (map bare_element elements)

abbrev mutual
  -- a type without its layout
  pub bare_type : TypeSyntax → TypeSyntax
  bare_type (CapturingType at shape set) = CapturingType here (bare_shape shape) (bare_set set)

  -- a shape without its layout
  pub bare_shape : ShapeSyntax → ShapeSyntax
  bare_shape (BaseShape at base) = BaseShape here base
  bare_shape (AnyShape at) = AnyShape here
  bare_shape (NamedShape at name) = NamedShape here name
  bare_shape (ExitShape at gives) = ExitShape here (bare_shape gives)
  bare_shape (BoxShape at content) = BoxShape here (bare_type content)
  bare_shape (ParenthesizedShape at inner) = bare_shape inner
  bare_shape (FunctionShape at parameter takes gives) =
      FunctionShape here parameter (bare_type takes) (bare_type gives)
  bare_shape (TypeFunctionShape at parameter bound gives) =
      TypeFunctionShape here parameter (bare_shape bound) (bare_type gives)

-- an expression without its layout
abbrev pub bare_expression : ExprSyntax → ExprSyntax
bare_expression (NameExpr at name) = NameExpr here name
bare_expression (LiteralExpr at literal) = LiteralExpr here literal
bare_expression (ParenthesizedExpr at inner) = bare_expression inner
bare_expression (ValExpr at name written right body) =
    ValExpr here name (option_map bare_type written) (bare_expression right) (bare_expression body)
bare_expression (FunExpr at parameter takes body) = FunExpr here parameter (bare_type takes) (bare_expression body)
bare_expression (TypeFunExpr at parameter bound body) =
    TypeFunExpr here parameter (bare_shape bound) (bare_expression body)
bare_expression (IfExpr at gives test positive negative) =
    IfExpr here (bare_type gives) (bare_expression test) (bare_expression positive) (bare_expression negative)
bare_expression (BoundaryExpr at gives exit body) = BoundaryExpr here (bare_shape gives) exit (bare_expression body)
bare_expression (OperatorExpr at operator left right) =
    OperatorExpr here operator (bare_expression left) (bare_expression right)
bare_expression (BoxExpr at content) = BoxExpr here (bare_expression content)
bare_expression (UnboxExpr at captures content) =
    UnboxExpr here (option_map (map bare_element) captures) (bare_expression content)
bare_expression (CallExpr at function argument) = CallExpr here (bare_expression function) (bare_expression argument)
bare_expression (TypeCallExpr at function argument) =
    TypeCallExpr here (bare_expression function) (bare_shape argument)
bare_expression (AskExpr at operation receiver) = AskExpr here operation (bare_expression receiver)
bare_expression (TellExpr at operation receiver argument) =
    TellExpr here operation (bare_expression receiver) (bare_expression argument)
bare_expression (ExitExpr at gives exit value) =
    ExitExpr here (bare_type gives) (bare_expression exit) (bare_expression value)
bare_expression (RepeatExpr at count function) = RepeatExpr here (bare_expression count) (bare_expression function)

-- an import at the one place
abbrev pub bare_import : ImportSyntax → ImportSyntax
bare_import one = record { source = one.source; at = here; name = one.name; name_at = here }

-- a definition without its layout
abbrev pub bare_definition : DefSyntax → DefSyntax
bare_definition one = record {
  own = one.own;
  name = one.name;
  name_at = here;
  written = option_map bare_type one.written;
  right = bare_expression one.right;
}

-- a text without its layout
abbrev pub bare_text : ModuleSyntax → ModuleSyntax
bare_text text = record { imports = map bare_import text.imports; defs = map bare_definition text.defs }

-- an elaborated definition without its places
abbrev pub unplaced_definition : CoreDefinition → CoreDefinition
unplaced_definition one = record {
  name = one.name;
  name_at = here;
  note = one.note;
  recursive = one.recursive;
  right = one.right;
  places = Alone (spots_at here here here);
}

-- what a text comes to, without places
abbrev pub unplaced : Elaboration → Elaboration
unplaced (IsElaborated elaborated) =
    IsElaborated (record {
      imports = map bare_import elaborated.imports;
      definitions = map unplaced_definition elaborated.definitions;
    })
unplaced (IsRefused code at) = IsRefused code here

-- Layout does not matter: texts that are alike without it are both refused with the same code, or both become the same
-- module but for places.
abbrev pub LayoutDoesNotMatter : Type 0
LayoutDoesNotMatter =
    (devices : List Name) (one other : ModuleSyntax) → bare_text one ≡ bare_text other
    → unplaced (elaboration devices one) ≡ unplaced (elaboration devices other)
