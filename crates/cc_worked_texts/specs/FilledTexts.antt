-- What omitted sets are filled with, in the right sides that run, by texts.
use Rattle.std.specs.Prelude.{◌≡◌, ℕ, pos, codes, List, [], ◌∷◌, map, Some}
use Rattle.cc_base.specs.Literals.{NumberLiteral}
use Rattle.cc_base.specs.declared.literal.Base.TheVariants as bases
use Rattle.cc_base.specs.declared.literal.Operator.TheVariants as operators
use Rattle.cc_capture.specs.declared.var.Var.TheVariants.{Bound, Free}
use Rattle.cc_capture.specs.declared.var.Elem.TheVariants.{Var as Variable, Cap}
use Rattle.cc_capture.specs.Sets.{Set, empty, insert}
use Rattle.cc_core.specs.Shapes.{Shape, BaseShape, AnyShape, BoxShape}
use Rattle.cc_core.specs.Substitution.{single}
use Rattle.cc_core.specs.Terms.{Absent, Written, Term, VariableTerm, LiteralTerm, FunctionTerm, TypeFunctionTerm}
use Rattle.cc_core.specs.Terms.{Application, Unboxing, Let, Primitive, Conditional, Boundary, Leave}
use Rattle.cc_verdicts.specs.ModuleVerdicts.{CheckedDefinition, HasModuleVerdict, IsAccepted}
use Rattle.cc_worked_texts.specs.TextVerdicts.{devices, lines, Accepts}

-- the text, which imports nothing, is accepted, and these are the filled right sides of its definitions
abbrev pub FillsTo : List ℕ → List Term → Type 0
FillsTo text filled =
    (definitions : List CheckedDefinition)
    × HasModuleVerdict devices text [] (IsAccepted definitions)
    × (map (λ it. it.accepted.filled) definitions ≡ filled)

-- numbers and truths
abbrev pub integer : Shape
integer = BaseShape bases.Int

abbrev pub truth : Shape
truth = BaseShape bases.Bool

-- the set of the index, and of two
abbrev pub one_of : ℕ → Set
one_of index = single (Variable (Bound index))

abbrev pub two_of : ℕ → ℕ → Set
two_of index other = insert (Variable (Bound index)) (one_of other)

abbrev pub one : Term
one = LiteralTerm (NumberLiteral (pos 1))

-- Each omitted set is filled where it was written, in the variables of that place.
pub record FilledForms : Type 0 where
  pub val : FillsTo
      (codes "def a = fun (x: Int) => val y: Int^? = x; y")
      (FunctionTerm integer empty (Let (Written integer (one_of 0)) (VariableTerm (Bound 0)) (VariableTerm (Bound 0))) ∷ [])
  pub val_of_a_term : FillsTo
      (codes "def a = fun (x: Int) => fun (y: Int) => val z: Any^? = (val w = y; x); z")
      (FunctionTerm integer empty
      (FunctionTerm integer empty
      (Let (Written AnyShape (one_of 1))
      (Let Absent (VariableTerm (Bound 0)) (VariableTerm (Bound 2)))
      (VariableTerm (Bound 0)))) ∷ [])
  pub choice : FillsTo
      (codes "def a = fun (x: Int) => fun (y: Int) => fun (t: Bool) => if [Int^?] t then x else y")
      (FunctionTerm integer empty
      (FunctionTerm integer empty
      (FunctionTerm truth empty
      (Conditional (Written integer (two_of 2 1)) (Bound 0) (VariableTerm (Bound 2)) (VariableTerm (Bound 1))))) ∷ [])
  pub choice_of_the_first : FillsTo
      (codes "def a = fun (x: Int) => fun (t: Bool) => if [Int^?] t then x else 1")
      (FunctionTerm integer empty
      (FunctionTerm truth empty
      (Conditional (Written integer (one_of 1)) (Bound 0) (VariableTerm (Bound 1)) one)) ∷ [])
  pub choice_of_the_second : FillsTo
      (codes "def a = fun (x: Int) => fun (t: Bool) => if [Int^?] t then 1 else x")
      (FunctionTerm integer empty
      (FunctionTerm truth empty
      (Conditional (Written integer (one_of 1)) (Bound 0) one (VariableTerm (Bound 1)))) ∷ [])
  pub written_choice : FillsTo
      (codes "def a = fun (x: Int) => fun (t: Bool) => if [Int^{t, x}] t then x else 1")
      (FunctionTerm integer empty
      (FunctionTerm truth empty
      (Conditional (Written integer (two_of 1 0)) (Bound 0) (VariableTerm (Bound 1)) one)) ∷ [])
  pub unboxing : FillsTo
      (codes "def a = fun (x: Int) => fun (b: Box[Int^{x}]) => unbox b")
      (FunctionTerm integer empty
      (FunctionTerm (BoxShape integer (one_of 0)) empty (Unboxing (Some (one_of 1)) (Bound 0))) ∷ [])
  pub unboxing_of_nothing : FillsTo
      (codes "def a = fun (b: Box[Int]) => unbox b")
      (FunctionTerm (BoxShape integer empty) empty (Unboxing (Some empty) (Bound 0)) ∷ [])
  pub parameter : FillsTo
      (codes "def a = fun (x: Int^{cap}) => val f = fun (y: Int^?) => y; f(x)")
      (FunctionTerm integer (single Cap)
      (Let Absent (FunctionTerm integer (single Cap) (VariableTerm (Bound 0))) (Application (Bound 0) (Bound 1))) ∷ [])
  pub parameter_to_which_nothing_flows : FillsTo
      (codes "def a = fun (y: Int^?) => y") (FunctionTerm integer empty (VariableTerm (Bound 0)) ∷ [])
  pub exit : FillsTo
      (codes "def a = fun (x: Int) => boundary [Int] z => exit [Int^{x}] (z, 1)")
      (FunctionTerm integer empty
      (Boundary integer (Let Absent one (Leave integer (one_of 2) (Bound 1) (Bound 0)))) ∷ [])
  pub in_a_type_function : FillsTo
      (codes "def a = fun [X <: Any] => fun (x: Int) => val y: Int^? = x; y")
      (TypeFunctionTerm AnyShape
      (FunctionTerm integer empty (Let (Written integer (one_of 0)) (VariableTerm (Bound 0)) (VariableTerm (Bound 0)))) ∷ [])
  pub behind_another_definition : FillsTo
      (lines (codes "def a = 1" ∷ codes "def b = fun (x: Int) => fun (f: Int^?) => x + a" ∷ []))
      (one ∷ FunctionTerm integer empty (FunctionTerm integer empty (Primitive operators.Add (Bound 1) (Free 2))) ∷ [])

-- Omitted sets of one definition are filled each by what flows into it, however many there are.
pub record SetsApart : Type 0 where
  pub first : Accepts
      (lines (codes "def main = fun (u: Unit) =>"
      ∷ codes "  val a = fun (h: Console^?) => 1; val b = fun (h: Counter^?) => 1; val d = fun (h: Counter^?) => 1;"
      ∷ codes "  val p = a(out); val q = b(hits); a" ∷ []))
      (codes "main: ((_0: Unit) -> (_1: Console^{out}) -> Int)^{out, hits}" ∷ [])
  pub second : Accepts
      (lines (codes "def main = fun (u: Unit) =>"
      ∷ codes "  val a = fun (h: Console^?) => 1; val b = fun (h: Counter^?) => 1; val d = fun (h: Counter^?) => 1;"
      ∷ codes "  val p = a(out); val q = b(hits); b" ∷ []))
      (codes "main: ((_0: Unit) -> (_1: Counter^{hits}) -> Int)^{out, hits}" ∷ [])
  pub third : Accepts
      (lines (codes "def main = fun (u: Unit) =>"
      ∷ codes "  val a = fun (h: Console^?) => 1; val b = fun (h: Counter^?) => 1; val d = fun (h: Counter^?) => 1;"
      ∷ codes "  val p = a(out); val q = b(hits); d" ∷ []))
      (codes "main: ((_0: Unit) -> (_1: Counter) -> Int)^{out, hits}" ∷ [])
