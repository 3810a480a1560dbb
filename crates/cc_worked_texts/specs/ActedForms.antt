-- What an action does to each form of shapes, notes and terms, by example; and what opening, closing, renaming, filling,
-- reading and writing do to a variable or an element.
use Rattle.std.specs.Prelude.{◌≡◌, ℕ, suc, ◌+◌, ◌*◌, pos, Some, None}
use Rattle.cc_base.specs.Literals.{NumberLiteral}
use Rattle.cc_base.specs.declared.literal.Base.TheVariants as bases
use Rattle.cc_base.specs.declared.literal.Op.TheVariants as operations
use Rattle.cc_base.specs.declared.literal.Operator.TheVariants as operators
use Rattle.cc_capture.specs.declared.var.Var.{Var}
use Rattle.cc_capture.specs.declared.var.Var.TheVariants.{Bound, Free}
use Rattle.cc_capture.specs.declared.var.Elem.TheVariants.{Var as Variable, Cap, Hole}
use Rattle.cc_capture.specs.Sets.{Set, empty, insert}
use Rattle.cc_core.specs.Reading.{read_variable, written_variable}
use Rattle.cc_core.specs.Shapes.{Shape, BaseShape, AnyShape, TypeVariable, FunctionShape, TypeFunctionShape, BoxShape}
use Rattle.cc_core.specs.Shapes.{ExitShape, capturing}
use Rattle.cc_core.specs.Substitution.{single, moved_element, moving, put_variable, closed_variable, renamed_variable}
use Rattle.cc_core.specs.Substitution.{put_shape, free_shape, filled_element}
use Rattle.cc_core.specs.Terms.{Note, Absent, Written, Own, Term, VariableTerm, LiteralTerm, FunctionTerm}
use Rattle.cc_core.specs.Terms.{TypeFunctionTerm, BoxTerm, Application, TypeApplication, Unboxing, Let, Primitive}
use Rattle.cc_core.specs.Terms.{Conditional, Repetition, Operation, Boundary, Leave}
use Rattle.cc_core.specs.Traversal.{Action, act, act_set, act_type, act_note, act_term}

-- the variable, ten further on for each binder that it stands under, and ten more
abbrev pub marked_variable : ℕ → Var → Var
marked_variable depth (Bound index) = Bound (10 * suc depth + index)
marked_variable depth (Free position) = Free (10 * suc depth + position)

-- the action that shows how many binders each variable stands under
abbrev pub marking : Action
marking = moving marked_variable

-- the type variable at a position, and the set of one
abbrev pub at : ℕ → Shape
at position = TypeVariable (Free position)

abbrev pub one_of : ℕ → Set
one_of position = single (Variable (Free position))

-- under no binder each part becomes the part; sets are the same where their lists are
abbrev pub MarksSet : Set → Set → Type 0
MarksSet set marked = (act_set marking 0 set).list ≡ marked.list

abbrev pub MarksShape : Shape → Shape → Type 0
MarksShape shape marked = act marking 0 shape ≡ marked

abbrev pub MarksNote : Note → Note → Type 0
MarksNote note marked = act_note marking 0 note ≡ marked

abbrev pub MarksTerm : Term → Term → Type 0
MarksTerm term marked = act_term marking 0 term ≡ marked

-- Every element of a set is acted on; `cap` and holes are no variables.
pub record ActedSets : Type 0 where
  pub nothing : MarksSet empty empty
  pub variable : MarksSet (one_of 1) (one_of 11)
  pub index : MarksSet (single (Variable (Bound 1))) (single (Variable (Bound 11)))
  pub cap : MarksSet (single Cap) (single Cap)
  pub hole : MarksSet (single (Hole 1)) (single (Hole 1))
  pub two : MarksSet (insert (Variable (Free 2)) (one_of 1)) (insert (Variable (Free 12)) (one_of 11))
  pub with_cap : MarksSet (insert Cap (one_of 1)) (insert Cap (one_of 11))
  pub under_two_binders : act_set marking 2 (one_of 1) ≡ one_of 31

-- What functions and type functions give stands under one binder more, and no other part does.
pub record ActedShapes : Type 0 where
  pub base : MarksShape (BaseShape bases.Int) (BaseShape bases.Int)
  pub any : MarksShape AnyShape AnyShape
  pub variable : MarksShape (at 1) (at 11)
  pub index : MarksShape (TypeVariable (Bound 1)) (TypeVariable (Bound 11))
  pub function : MarksShape (FunctionShape (at 1) (one_of 2) (at 3) (one_of 4)) (FunctionShape (at 11) (one_of 12) (at 23) (one_of 24))
  pub type_function : MarksShape (TypeFunctionShape (at 1) (at 2) (one_of 3)) (TypeFunctionShape (at 11) (at 22) (one_of 23))
  pub box : MarksShape (BoxShape (at 1) (one_of 2)) (BoxShape (at 11) (one_of 12))
  pub exit : MarksShape (ExitShape (at 1)) (ExitShape (at 11))
  pub function_in_a_result : MarksShape
      (FunctionShape AnyShape empty (FunctionShape (at 1) (one_of 2) (at 3) (one_of 4)) empty)
      (FunctionShape AnyShape empty (FunctionShape (at 21) (one_of 22) (at 33) (one_of 34)) empty)
  pub function_in_a_parameter : MarksShape
      (FunctionShape (FunctionShape (at 1) (one_of 2) (at 3) (one_of 4)) empty AnyShape empty)
      (FunctionShape (FunctionShape (at 11) (one_of 12) (at 23) (one_of 24)) empty AnyShape empty)
  pub under_two_binders : act marking 2 (at 1) ≡ at 31
  -- a type is acted on in its shape and in its set
  pub type : act_type marking 0 (capturing (at 1) (one_of 2)) ≡ capturing (at 11) (one_of 12)

-- What is written for a type is acted on where it stands.
pub record ActedNotes : Type 0 where
  pub absent : MarksNote Absent Absent
  pub written : MarksNote (Written (at 1) (one_of 2)) (Written (at 11) (one_of 12))
  pub own : MarksNote (Own (at 1)) (Own (at 11))

-- The bodies of functions, type functions, lets and boundaries stand under one binder more, and no other part does.
pub record ActedTerms : Type 0 where
  pub variable : MarksTerm (VariableTerm (Free 1)) (VariableTerm (Free 11))
  pub index : MarksTerm (VariableTerm (Bound 1)) (VariableTerm (Bound 11))
  pub literal : MarksTerm (LiteralTerm (NumberLiteral (pos 1))) (LiteralTerm (NumberLiteral (pos 1)))
  pub function : MarksTerm
      (FunctionTerm (at 1) (one_of 2) (VariableTerm (Free 3))) (FunctionTerm (at 11) (one_of 12) (VariableTerm (Free 23)))
  pub type_function : MarksTerm
      (TypeFunctionTerm (at 1) (VariableTerm (Free 2))) (TypeFunctionTerm (at 11) (VariableTerm (Free 22)))
  pub box : MarksTerm (BoxTerm (Free 1)) (BoxTerm (Free 11))
  pub application : MarksTerm (Application (Free 1) (Free 2)) (Application (Free 11) (Free 12))
  pub type_application : MarksTerm (TypeApplication (Free 1) (at 2)) (TypeApplication (Free 11) (at 12))
  pub unboxing : MarksTerm (Unboxing (Some (one_of 1)) (Free 2)) (Unboxing (Some (one_of 11)) (Free 12))
  pub unboxing_without_a_set : MarksTerm (Unboxing None (Free 2)) (Unboxing None (Free 12))
  pub binding : MarksTerm
      (Let (Written (at 1) (one_of 2)) (VariableTerm (Free 3)) (VariableTerm (Free 4)))
      (Let (Written (at 11) (one_of 12)) (VariableTerm (Free 13)) (VariableTerm (Free 24)))
  pub primitive : MarksTerm (Primitive operators.Sub (Free 1) (Free 2)) (Primitive operators.Sub (Free 11) (Free 12))
  pub choice : MarksTerm
      (Conditional (Own (at 1)) (Free 2) (VariableTerm (Free 3)) (VariableTerm (Free 4)))
      (Conditional (Own (at 11)) (Free 12) (VariableTerm (Free 13)) (VariableTerm (Free 14)))
  pub repetition : MarksTerm (Repetition (Free 1) (Free 2)) (Repetition (Free 11) (Free 12))
  pub operation : MarksTerm
      (Operation operations.Print (Free 1) (Some (Free 2))) (Operation operations.Print (Free 11) (Some (Free 12)))
  pub operation_without_an_argument : MarksTerm
      (Operation operations.Read (Free 1) None) (Operation operations.Read (Free 11) None)
  pub boundary : MarksTerm (Boundary (at 1) (VariableTerm (Free 2))) (Boundary (at 11) (VariableTerm (Free 22)))
  pub leave : MarksTerm (Leave (at 1) (one_of 2) (Free 3) (Free 4)) (Leave (at 11) (one_of 12) (Free 13) (Free 14))
  pub function_in_a_function : MarksTerm
      (FunctionTerm AnyShape empty (FunctionTerm (at 1) (one_of 2) (VariableTerm (Free 3))))
      (FunctionTerm AnyShape empty (FunctionTerm (at 21) (one_of 22) (VariableTerm (Free 33))))
  pub binding_in_a_right_side : MarksTerm
      (Let Absent (Let Absent (VariableTerm (Free 1)) (VariableTerm (Free 2))) (VariableTerm (Free 3)))
      (Let Absent (Let Absent (VariableTerm (Free 11)) (VariableTerm (Free 22))) (VariableTerm (Free 23)))
  pub binding_in_a_branch : MarksTerm
      (Conditional Absent (Free 1) (VariableTerm (Free 2)) (Let Absent (VariableTerm (Free 3)) (VariableTerm (Free 4))))
      (Conditional Absent (Free 11) (VariableTerm (Free 12))
      (Let Absent (VariableTerm (Free 13)) (VariableTerm (Free 24))))

-- Opening puts a variable, or a shape, for the index that counts the binders above alone; closing makes one position
-- that index; renaming and filling touch positions alone, and holes alone.
pub record ActedVariables : Type 0 where
  pub put : put_variable (Free 9) 2 (Bound 2) ≡ Free 9
  pub put_for_no_inner_index : put_variable (Free 9) 2 (Bound 1) ≡ Bound 1
  pub put_for_no_outer_index : put_variable (Free 9) 2 (Bound 3) ≡ Bound 3
  pub put_for_no_position : put_variable (Free 9) 2 (Free 2) ≡ Free 2
  pub put_shape_at : put_shape (at 9) 2 (Bound 2) ≡ at 9
  pub put_shape_for_no_inner_index : put_shape (at 9) 2 (Bound 1) ≡ TypeVariable (Bound 1)
  pub put_shape_for_no_outer_index : put_shape (at 9) 2 (Bound 3) ≡ TypeVariable (Bound 3)
  pub put_shape_for_no_position : put_shape (at 9) 2 (Free 2) ≡ at 2
  pub closed : closed_variable 5 2 (Free 5) ≡ Bound 2
  pub closed_at_no_lower_position : closed_variable 5 2 (Free 4) ≡ Free 4
  pub closed_at_no_higher_position : closed_variable 5 2 (Free 6) ≡ Free 6
  pub closed_at_no_index : closed_variable 5 2 (Bound 5) ≡ Bound 5
  pub renamed : renamed_variable (λ position. position + 7) (Free 1) ≡ Free 8
  pub renamed_at_no_index : renamed_variable (λ position. position + 7) (Bound 1) ≡ Bound 1
  pub shape_for_a_position : free_shape (λ position. at (position + 7)) (Free 1) ≡ at 8
  pub shape_for_no_index : free_shape (λ position. at (position + 7)) (Bound 1) ≡ TypeVariable (Bound 1)
  pub moved : moved_element (marked_variable 0) (Variable (Free 1)) ≡ Variable (Free 11)
  pub moved_cap : moved_element (marked_variable 0) Cap ≡ Cap
  pub moved_hole : moved_element (marked_variable 0) (Hole 1) ≡ Hole 1
  pub filled : filled_element (λ hole. one_of (hole + 7)) (Hole 1) ≡ one_of 8
  pub filled_variable : filled_element (λ hole. one_of (hole + 7)) (Variable (Free 1)) ≡ one_of 1
  pub filled_cap : filled_element (λ hole. one_of (hole + 7)) Cap ≡ single Cap

-- Among five entries, under two binders: the indices that count the entries are those from 2 to 6, the newest entry first.
pub record ReadVariables : Type 0 where
  pub newest : read_variable 5 2 (Bound 2) ≡ Free 4
  pub second : read_variable 5 2 (Bound 3) ≡ Free 3
  pub oldest : read_variable 5 2 (Bound 6) ≡ Free 0
  pub none_older : read_variable 5 2 (Bound 7) ≡ Bound 7
  pub inner : read_variable 5 2 (Bound 1) ≡ Bound 1
  pub position : read_variable 5 2 (Free 3) ≡ Free 3
  -- the other way, where the entries from position 2 on have binders
  pub written_newest : written_variable 2 5 2 (Free 4) ≡ Bound 2
  pub written_oldest : written_variable 2 5 2 (Free 2) ≡ Bound 4
  pub written_below_the_root : written_variable 2 5 2 (Free 1) ≡ Free 1
  pub written_behind_the_entries : written_variable 2 5 2 (Free 5) ≡ Free 5
  pub written_index : written_variable 2 5 2 (Bound 3) ≡ Bound 3
