-- How what a text was read as is stored: each tree has a code of its own. It serves proofs alone.
use Rattle.std.specs.Prelude.{◌≡◌, ℕ, Bool, List, Option, refl}
use Rattle.std.specs.Coded.{Coded, code_by, coded×, coded_ℕ, coded_bool, coded_list, coded_option}
use Rattle.std.proofs.Common.{ap}
use base.Stored.{Gv, gnil, gnum, gcons}
use Rattle.cc_base.specs.declared.code.Code.{Code}
use Rattle.cc_base.specs.declared.literal.Base.{Base}
use Rattle.cc_base.specs.declared.literal.Op.{Op}
use Rattle.cc_base.specs.declared.literal.Operator.{Operator}
use Rattle.cc_base.specs.declared.place.Place.{Place}
use Rattle.cc_grammar.specs.Syntax.{ElementSyntax, SetSyntax, AbsentSet, OmittedSet, WrittenSet, TypeSyntax, CapturingType}
use Rattle.cc_grammar.specs.Syntax.{ShapeSyntax, BaseShape, AnyShape, NamedShape, ExitShape, BoxShape, ParenthesizedShape}
use Rattle.cc_grammar.specs.Syntax.{FunctionShape, TypeFunctionShape, ExprSyntax, NameExpr, LiteralExpr, ParenthesizedExpr}
use Rattle.cc_grammar.specs.Syntax.{ValExpr, FunExpr, TypeFunExpr, IfExpr, BoundaryExpr, OperatorExpr, BoxExpr, UnboxExpr}
use Rattle.cc_grammar.specs.Syntax.{CallExpr, TypeCallExpr, AskExpr, TellExpr, ExitExpr, RepeatExpr}
use Rattle.cc_grammar.specs.Syntax.{ImportSyntax, DefSyntax, ModuleSyntax}
use Rattle.cc_verdicts.specs.Readings.{TextReading, IsTree, IsNoModule}
use Rattle.cc_judge.specs.StoredTrees.{front, back, tag, apart, literal_tree, one_literal}

-- the codes of what is not made of other trees
pub record LeafCodes : Type 0 where
  pub base : Coded Base
  pub operator : Coded Operator
  pub operation : Coded Op
  pub code : Coded Code
  pub place : Coded Place

module _ (leaf : LeafCodes) where
  abbrev name_code : Coded (List ℕ)
  name_code = coded_list coded_ℕ

  abbrev element_code : Coded ElementSyntax
  element_code =
      code_by (Place × Option (List ℕ)) (coded× leaf.place (coded_option name_code)) (λ it. (it.at, it.name))
      (λ parts. record { at = parts.0; name = parts.1 }) (λ _. refl)

  abbrev elements_code : Coded (List ElementSyntax)
  elements_code = coded_list element_code

  abbrev captures_code : Coded (Option (List ElementSyntax))
  captures_code = coded_option elements_code

  abbrev set_tree : SetSyntax → Gv
  set_tree AbsentSet = gcons (gnum 0) gnil
  set_tree (OmittedSet at) = gcons (gnum 1) (leaf.place.code at)
  set_tree (WrittenSet elements) = gcons (gnum 2) (elements_code.code elements)

  pub one_set : (x y : SetSyntax) → set_tree x ≡ set_tree y → x ≡ y
  one_set AbsentSet AbsentSet e = refl
  one_set (OmittedSet at) (OmittedSet at') e =
      let same_at = leaf.place.inj at at' (ap (λ g. back g) e) in
      λ i. OmittedSet (same_at i)
  one_set (WrittenSet elements) (WrittenSet elements') e =
      let same_elements = elements_code.inj elements elements' (ap (λ g. back g) e) in
      λ i. WrittenSet (same_elements i)
  one_set x y e = absurd (apart (tag (set_tree x)) (tag (set_tree y)) refl (ap tag e))

  abbrev mutual
    type_tree : TypeSyntax → Gv
    type_tree (CapturingType at shape set) = gcons (gnum 0) (gcons (leaf.place.code at) (gcons (shape_tree shape) (set_tree set)))

    shape_tree : ShapeSyntax → Gv
    shape_tree (BaseShape at base) = gcons (gnum 0) (gcons (leaf.place.code at) (leaf.base.code base))
    shape_tree (AnyShape at) = gcons (gnum 1) (leaf.place.code at)
    shape_tree (NamedShape at name) = gcons (gnum 2) (gcons (leaf.place.code at) (name_code.code name))
    shape_tree (ExitShape at gives) = gcons (gnum 3) (gcons (leaf.place.code at) (shape_tree gives))
    shape_tree (BoxShape at content) = gcons (gnum 4) (gcons (leaf.place.code at) (type_tree content))
    shape_tree (ParenthesizedShape at inner) = gcons (gnum 5) (gcons (leaf.place.code at) (shape_tree inner))
    shape_tree (FunctionShape at parameter takes gives) = gcons (gnum 6) (gcons (leaf.place.code at) (gcons (name_code.code parameter) (gcons (type_tree takes) (type_tree gives))))
    shape_tree (TypeFunctionShape at parameter bound gives) = gcons (gnum 7) (gcons (leaf.place.code at) (gcons (name_code.code parameter) (gcons (shape_tree bound) (type_tree gives))))

  mutual
    pub one_type : (x y : TypeSyntax) → type_tree x ≡ type_tree y → x ≡ y
    one_type (CapturingType at shape set) (CapturingType at' shape' set') e =
        let same_at = leaf.place.inj at at' (ap (λ g. front (back g)) e) in
        let same_shape = one_shape shape shape' (ap (λ g. front (back (back g))) e) in
        let same_set = one_set set set' (ap (λ g. back (back (back g))) e) in
        λ i. CapturingType (same_at i) (same_shape i) (same_set i)

    pub one_shape : (x y : ShapeSyntax) → shape_tree x ≡ shape_tree y → x ≡ y
    one_shape (BaseShape at base) (BaseShape at' base') e =
        let same_at = leaf.place.inj at at' (ap (λ g. front (back g)) e) in
        let same_base = leaf.base.inj base base' (ap (λ g. back (back g)) e) in
        λ i. BaseShape (same_at i) (same_base i)
    one_shape (AnyShape at) (AnyShape at') e =
        let same_at = leaf.place.inj at at' (ap (λ g. back g) e) in
        λ i. AnyShape (same_at i)
    one_shape (NamedShape at name) (NamedShape at' name') e =
        let same_at = leaf.place.inj at at' (ap (λ g. front (back g)) e) in
        let same_name = name_code.inj name name' (ap (λ g. back (back g)) e) in
        λ i. NamedShape (same_at i) (same_name i)
    one_shape (ExitShape at gives) (ExitShape at' gives') e =
        let same_at = leaf.place.inj at at' (ap (λ g. front (back g)) e) in
        let same_gives = one_shape gives gives' (ap (λ g. back (back g)) e) in
        λ i. ExitShape (same_at i) (same_gives i)
    one_shape (BoxShape at content) (BoxShape at' content') e =
        let same_at = leaf.place.inj at at' (ap (λ g. front (back g)) e) in
        let same_content = one_type content content' (ap (λ g. back (back g)) e) in
        λ i. BoxShape (same_at i) (same_content i)
    one_shape (ParenthesizedShape at inner) (ParenthesizedShape at' inner') e =
        let same_at = leaf.place.inj at at' (ap (λ g. front (back g)) e) in
        let same_inner = one_shape inner inner' (ap (λ g. back (back g)) e) in
        λ i. ParenthesizedShape (same_at i) (same_inner i)
    one_shape (FunctionShape at parameter takes gives) (FunctionShape at' parameter' takes' gives') e =
        let same_at = leaf.place.inj at at' (ap (λ g. front (back g)) e) in
        let same_parameter = name_code.inj parameter parameter' (ap (λ g. front (back (back g))) e) in
        let same_takes = one_type takes takes' (ap (λ g. front (back (back (back g)))) e) in
        let same_gives = one_type gives gives' (ap (λ g. back (back (back (back g)))) e) in
        λ i. FunctionShape (same_at i) (same_parameter i) (same_takes i) (same_gives i)
    one_shape (TypeFunctionShape at parameter bound gives) (TypeFunctionShape at' parameter' bound' gives') e =
        let same_at = leaf.place.inj at at' (ap (λ g. front (back g)) e) in
        let same_parameter = name_code.inj parameter parameter' (ap (λ g. front (back (back g))) e) in
        let same_bound = one_shape bound bound' (ap (λ g. front (back (back (back g)))) e) in
        let same_gives = one_type gives gives' (ap (λ g. back (back (back (back g)))) e) in
        λ i. TypeFunctionShape (same_at i) (same_parameter i) (same_bound i) (same_gives i)
    one_shape x y e = absurd (apart (tag (shape_tree x)) (tag (shape_tree y)) refl (ap tag e))

  abbrev type_code : Coded TypeSyntax
  type_code = record { code = type_tree; inj = one_type }

  abbrev written_code : Coded (Option TypeSyntax)
  written_code = coded_option type_code

  abbrev expr_tree : ExprSyntax → Gv
  expr_tree (NameExpr at name) = gcons (gnum 0) (gcons (leaf.place.code at) (name_code.code name))
  expr_tree (LiteralExpr at literal) = gcons (gnum 1) (gcons (leaf.place.code at) (literal_tree literal))
  expr_tree (ParenthesizedExpr at inner) = gcons (gnum 2) (gcons (leaf.place.code at) (expr_tree inner))
  expr_tree (ValExpr at name written right body) = gcons (gnum 3) (gcons (leaf.place.code at) (gcons (name_code.code name) (gcons (written_code.code written) (gcons (expr_tree right) (expr_tree body)))))
  expr_tree (FunExpr at parameter takes body) = gcons (gnum 4) (gcons (leaf.place.code at) (gcons (name_code.code parameter) (gcons (type_tree takes) (expr_tree body))))
  expr_tree (TypeFunExpr at parameter bound body) = gcons (gnum 5) (gcons (leaf.place.code at) (gcons (name_code.code parameter) (gcons (shape_tree bound) (expr_tree body))))
  expr_tree (IfExpr at gives test positive negative) = gcons (gnum 6) (gcons (leaf.place.code at) (gcons (type_tree gives) (gcons (expr_tree test) (gcons (expr_tree positive) (expr_tree negative)))))
  expr_tree (BoundaryExpr at gives exit body) = gcons (gnum 7) (gcons (leaf.place.code at) (gcons (shape_tree gives) (gcons (name_code.code exit) (expr_tree body))))
  expr_tree (OperatorExpr at operator left right) = gcons (gnum 8) (gcons (leaf.place.code at) (gcons (leaf.operator.code operator) (gcons (expr_tree left) (expr_tree right))))
  expr_tree (BoxExpr at content) = gcons (gnum 9) (gcons (leaf.place.code at) (expr_tree content))
  expr_tree (UnboxExpr at captures content) = gcons (gnum 10) (gcons (leaf.place.code at) (gcons (captures_code.code captures) (expr_tree content)))
  expr_tree (CallExpr at function argument) = gcons (gnum 11) (gcons (leaf.place.code at) (gcons (expr_tree function) (expr_tree argument)))
  expr_tree (TypeCallExpr at function argument) = gcons (gnum 12) (gcons (leaf.place.code at) (gcons (expr_tree function) (shape_tree argument)))
  expr_tree (AskExpr at operation receiver) = gcons (gnum 13) (gcons (leaf.place.code at) (gcons (leaf.operation.code operation) (expr_tree receiver)))
  expr_tree (TellExpr at operation receiver argument) = gcons (gnum 14) (gcons (leaf.place.code at) (gcons (leaf.operation.code operation) (gcons (expr_tree receiver) (expr_tree argument))))
  expr_tree (ExitExpr at gives exit value) = gcons (gnum 15) (gcons (leaf.place.code at) (gcons (type_tree gives) (gcons (expr_tree exit) (expr_tree value))))
  expr_tree (RepeatExpr at count function) = gcons (gnum 16) (gcons (leaf.place.code at) (gcons (expr_tree count) (expr_tree function)))

  pub one_expr : (x y : ExprSyntax) → expr_tree x ≡ expr_tree y → x ≡ y
  one_expr (NameExpr at name) (NameExpr at' name') e =
      let same_at = leaf.place.inj at at' (ap (λ g. front (back g)) e) in
      let same_name = name_code.inj name name' (ap (λ g. back (back g)) e) in
      λ i. NameExpr (same_at i) (same_name i)
  one_expr (LiteralExpr at literal) (LiteralExpr at' literal') e =
      let same_at = leaf.place.inj at at' (ap (λ g. front (back g)) e) in
      let same_literal = one_literal literal literal' (ap (λ g. back (back g)) e) in
      λ i. LiteralExpr (same_at i) (same_literal i)
  one_expr (ParenthesizedExpr at inner) (ParenthesizedExpr at' inner') e =
      let same_at = leaf.place.inj at at' (ap (λ g. front (back g)) e) in
      let same_inner = one_expr inner inner' (ap (λ g. back (back g)) e) in
      λ i. ParenthesizedExpr (same_at i) (same_inner i)
  one_expr (ValExpr at name written right body) (ValExpr at' name' written' right' body') e =
      let same_at = leaf.place.inj at at' (ap (λ g. front (back g)) e) in
      let same_name = name_code.inj name name' (ap (λ g. front (back (back g))) e) in
      let same_written = written_code.inj written written' (ap (λ g. front (back (back (back g)))) e) in
      let same_right = one_expr right right' (ap (λ g. front (back (back (back (back g))))) e) in
      let same_body = one_expr body body' (ap (λ g. back (back (back (back (back g))))) e) in
      λ i. ValExpr (same_at i) (same_name i) (same_written i) (same_right i) (same_body i)
  one_expr (FunExpr at parameter takes body) (FunExpr at' parameter' takes' body') e =
      let same_at = leaf.place.inj at at' (ap (λ g. front (back g)) e) in
      let same_parameter = name_code.inj parameter parameter' (ap (λ g. front (back (back g))) e) in
      let same_takes = one_type takes takes' (ap (λ g. front (back (back (back g)))) e) in
      let same_body = one_expr body body' (ap (λ g. back (back (back (back g)))) e) in
      λ i. FunExpr (same_at i) (same_parameter i) (same_takes i) (same_body i)
  one_expr (TypeFunExpr at parameter bound body) (TypeFunExpr at' parameter' bound' body') e =
      let same_at = leaf.place.inj at at' (ap (λ g. front (back g)) e) in
      let same_parameter = name_code.inj parameter parameter' (ap (λ g. front (back (back g))) e) in
      let same_bound = one_shape bound bound' (ap (λ g. front (back (back (back g)))) e) in
      let same_body = one_expr body body' (ap (λ g. back (back (back (back g)))) e) in
      λ i. TypeFunExpr (same_at i) (same_parameter i) (same_bound i) (same_body i)
  one_expr (IfExpr at gives test positive negative) (IfExpr at' gives' test' positive' negative') e =
      let same_at = leaf.place.inj at at' (ap (λ g. front (back g)) e) in
      let same_gives = one_type gives gives' (ap (λ g. front (back (back g))) e) in
      let same_test = one_expr test test' (ap (λ g. front (back (back (back g)))) e) in
      let same_positive = one_expr positive positive' (ap (λ g. front (back (back (back (back g))))) e) in
      let same_negative = one_expr negative negative' (ap (λ g. back (back (back (back (back g))))) e) in
      λ i. IfExpr (same_at i) (same_gives i) (same_test i) (same_positive i) (same_negative i)
  one_expr (BoundaryExpr at gives exit body) (BoundaryExpr at' gives' exit' body') e =
      let same_at = leaf.place.inj at at' (ap (λ g. front (back g)) e) in
      let same_gives = one_shape gives gives' (ap (λ g. front (back (back g))) e) in
      let same_exit = name_code.inj exit exit' (ap (λ g. front (back (back (back g)))) e) in
      let same_body = one_expr body body' (ap (λ g. back (back (back (back g)))) e) in
      λ i. BoundaryExpr (same_at i) (same_gives i) (same_exit i) (same_body i)
  one_expr (OperatorExpr at operator left right) (OperatorExpr at' operator' left' right') e =
      let same_at = leaf.place.inj at at' (ap (λ g. front (back g)) e) in
      let same_operator = leaf.operator.inj operator operator' (ap (λ g. front (back (back g))) e) in
      let same_left = one_expr left left' (ap (λ g. front (back (back (back g)))) e) in
      let same_right = one_expr right right' (ap (λ g. back (back (back (back g)))) e) in
      λ i. OperatorExpr (same_at i) (same_operator i) (same_left i) (same_right i)
  one_expr (BoxExpr at content) (BoxExpr at' content') e =
      let same_at = leaf.place.inj at at' (ap (λ g. front (back g)) e) in
      let same_content = one_expr content content' (ap (λ g. back (back g)) e) in
      λ i. BoxExpr (same_at i) (same_content i)
  one_expr (UnboxExpr at captures content) (UnboxExpr at' captures' content') e =
      let same_at = leaf.place.inj at at' (ap (λ g. front (back g)) e) in
      let same_captures = captures_code.inj captures captures' (ap (λ g. front (back (back g))) e) in
      let same_content = one_expr content content' (ap (λ g. back (back (back g))) e) in
      λ i. UnboxExpr (same_at i) (same_captures i) (same_content i)
  one_expr (CallExpr at function argument) (CallExpr at' function' argument') e =
      let same_at = leaf.place.inj at at' (ap (λ g. front (back g)) e) in
      let same_function = one_expr function function' (ap (λ g. front (back (back g))) e) in
      let same_argument = one_expr argument argument' (ap (λ g. back (back (back g))) e) in
      λ i. CallExpr (same_at i) (same_function i) (same_argument i)
  one_expr (TypeCallExpr at function argument) (TypeCallExpr at' function' argument') e =
      let same_at = leaf.place.inj at at' (ap (λ g. front (back g)) e) in
      let same_function = one_expr function function' (ap (λ g. front (back (back g))) e) in
      let same_argument = one_shape argument argument' (ap (λ g. back (back (back g))) e) in
      λ i. TypeCallExpr (same_at i) (same_function i) (same_argument i)
  one_expr (AskExpr at operation receiver) (AskExpr at' operation' receiver') e =
      let same_at = leaf.place.inj at at' (ap (λ g. front (back g)) e) in
      let same_operation = leaf.operation.inj operation operation' (ap (λ g. front (back (back g))) e) in
      let same_receiver = one_expr receiver receiver' (ap (λ g. back (back (back g))) e) in
      λ i. AskExpr (same_at i) (same_operation i) (same_receiver i)
  one_expr (TellExpr at operation receiver argument) (TellExpr at' operation' receiver' argument') e =
      let same_at = leaf.place.inj at at' (ap (λ g. front (back g)) e) in
      let same_operation = leaf.operation.inj operation operation' (ap (λ g. front (back (back g))) e) in
      let same_receiver = one_expr receiver receiver' (ap (λ g. front (back (back (back g)))) e) in
      let same_argument = one_expr argument argument' (ap (λ g. back (back (back (back g)))) e) in
      λ i. TellExpr (same_at i) (same_operation i) (same_receiver i) (same_argument i)
  one_expr (ExitExpr at gives exit value) (ExitExpr at' gives' exit' value') e =
      let same_at = leaf.place.inj at at' (ap (λ g. front (back g)) e) in
      let same_gives = one_type gives gives' (ap (λ g. front (back (back g))) e) in
      let same_exit = one_expr exit exit' (ap (λ g. front (back (back (back g)))) e) in
      let same_value = one_expr value value' (ap (λ g. back (back (back (back g)))) e) in
      λ i. ExitExpr (same_at i) (same_gives i) (same_exit i) (same_value i)
  one_expr (RepeatExpr at count function) (RepeatExpr at' count' function') e =
      let same_at = leaf.place.inj at at' (ap (λ g. front (back g)) e) in
      let same_count = one_expr count count' (ap (λ g. front (back (back g))) e) in
      let same_function = one_expr function function' (ap (λ g. back (back (back g))) e) in
      λ i. RepeatExpr (same_at i) (same_count i) (same_function i)
  one_expr x y e = absurd (apart (tag (expr_tree x)) (tag (expr_tree y)) refl (ap tag e))

  abbrev expr_code : Coded ExprSyntax
  expr_code = record { code = expr_tree; inj = one_expr }

  abbrev import_code : Coded ImportSyntax
  import_code =
      code_by ((List ℕ × Place) × (List ℕ × Place)) (coded× (coded× name_code leaf.place) (coded× name_code leaf.place))
      (λ it. ((it.source, it.at), (it.name, it.name_at)))
      (λ parts. record { source = parts.0.0; at = parts.0.1; name = parts.1.0; name_at = parts.1.1 })
      (λ _. refl)

  abbrev def_code : Coded DefSyntax
  def_code =
      code_by ((Bool × (List ℕ × Place)) × (Option TypeSyntax × ExprSyntax))
      (coded× (coded× coded_bool (coded× name_code leaf.place)) (coded× written_code expr_code))
      (λ it. ((it.own, (it.name, it.name_at)), (it.written, it.right)))
      (λ parts. record { own = parts.0.0; name = parts.0.1.0; name_at = parts.0.1.1; written = parts.1.0; right = parts.1.1 })
      (λ _. refl)

  abbrev module_code : Coded ModuleSyntax
  module_code =
      code_by (List ImportSyntax × List DefSyntax) (coded× (coded_list import_code) (coded_list def_code))
      (λ it. (it.imports, it.defs))
      (λ parts. record { imports = parts.0; defs = parts.1 }) (λ _. refl)

  abbrev reading_tree : TextReading → Gv
  reading_tree (IsTree tree) = gcons (gnum 0) (module_code.code tree)
  reading_tree (IsNoModule code at) = gcons (gnum 1) (gcons (leaf.code.code code) (leaf.place.code at))

  pub one_reading : (x y : TextReading) → reading_tree x ≡ reading_tree y → x ≡ y
  one_reading (IsTree a) (IsTree b) e = ap IsTree (module_code.inj a b (ap back e))
  one_reading (IsNoModule code at) (IsNoModule other there) e =
      let same = leaf.code.inj code other (ap (λ g. front (back g)) e) in
      let place = leaf.place.inj at there (ap (λ g. back (back g)) e) in
      λ i. IsNoModule (same i) (place i)
  one_reading x y e = absurd (apart (tag (reading_tree x)) (tag (reading_tree y)) refl (ap tag e))

  -- how what a text was read as is stored
  abbrev pub reading_code : Coded TextReading
  reading_code = record { code = reading_tree; inj = one_reading }
