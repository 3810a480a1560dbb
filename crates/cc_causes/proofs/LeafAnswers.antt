-- The causes of forms without parts, as the program has what their variables are.
use Rattle.std.proofs.Common.{◌≡◌, inl, inr, Option, Some, refl, sym, ap, subst, ◌∙◌}
use Rattle.cc_base.specs.declared.code.Code.{Code}
use Rattle.cc_base.specs.declared.code.Code.TheVariants.{E13, E14}
use Rattle.cc_base.specs.declared.literal.Base.{Base}
use Rattle.cc_base.specs.declared.literal.Base.TheVariants as bases
use Rattle.cc_base.specs.declared.literal.Operator.{Operator}
use Rattle.cc_base.specs.declared.literal.Op.{Op}
use Rattle.cc_base.specs.declared.place.Place.{Place}
use Rattle.cc_capture.specs.declared.var.Var.{Var}
use Rattle.cc_capture.specs.Sets.{Set, empty}
use Rattle.cc_core.specs.Shapes.{Shape, BaseShape, CapturingType, capturing}
use Rattle.cc_core.specs.Terms.{Term, Application, TypeApplication, Unboxing, Primitive, Repetition, Operation, Leave}
use Rattle.cc_core.specs.Typing.{base_given, base_operated, base_taken, base_answered}
use Rattle.cc_core.specs.Substitution.{replaced_type, replaced_type_by_shape}
use Rattle.cc_checking.specs.Exposing.{exposed}
use Rattle.cc_checking.specs.Outcomes as plain
use Rattle.cc_checking.specs.Outcomes.{Outcome}
use Rattle.cc_checking.specs.Inference.{in_context, shape_in, type_in, base_type, variable_type, Function, TypeFunction}
use Rattle.cc_checking.specs.Inference.{function_head, type_function_head, box_head, exit_head}
use Rattle.cc_reasons.specs.Causes.{Scene, Cause, WrongHead, WrongType, WrongShape, NothingThere, TooLarge}
use Rattle.cc_reasons.specs.Causes.{AFunction, ATypeFunction, ABox, AnExit, ABase}
use Rattle.cc_causes.specs.LeafReasons.{IsCauseIn, IsExposedAs, IsMisplaced, IsOfOperands, opened_under}
use Rattle.cc_causes.proofs.LeafCauses as causes

-- the same with another code and another cause, which are those
so : (code known : Code) (scene : Scene) (term : Term) (cause other : Cause) → code ≡ known → cause ≡ other
    → IsCauseIn known scene term other → IsCauseIn code scene term cause
so code known scene term cause other code_is is told =
    subst (λ k. IsCauseIn k scene term cause) (sym code_is) (subst (IsCauseIn known scene term) (sym is) told)

module _ (scene : Scene) where
  -- a head of one more form, where that is known of what the shape exposes to
  head_there : {A : Type 0} (head : Place → Shape → Outcome A) (s : CapturingType) (e : Shape) (found : A)
      → e ≡ exposed scene.context s.shape → ((at : Place) → head at e ≡ plain.finds found)
      → (at : Place) → head at (exposed scene.context s.shape) ≡ plain.finds found
  head_there head s e found same known at = ap (head at) (sym same) ∙ known at

  module _ (f : Var) (e : Shape) (x : IsExposedAs scene.context f e) (code : Code) (cause : Cause) where
    pub application_head : (a : Var) → code ≡ E13 → cause ≡ WrongHead scene e AFunction
        → IsCauseIn code scene (Application f a) cause
    application_head a code_is is =
        so code E13 scene (Application f a) cause _ code_is (is ∙ ap (λ y. WrongHead scene y AFunction) x.is)
        (causes.application_head scene f a x.type x.found)

    pub application_mismatch : (a : Var) (head : Function) (t : CapturingType)
        → ((at : Place) → function_head at e ≡ plain.finds head)
        → variable_type scene.context (in_context scene.context a) ≡ plain.finds t
        → code ≡ E14 → cause ≡ WrongType scene t head.takes → IsCauseIn code scene (Application f a) cause
    application_mismatch a head t known given code_is is =
        so code E14 scene (Application f a) cause _ code_is is
        (causes.application_mismatch scene f a x.type x.found head (head_there function_head x.type e head x.is known) t given)

    pub application_large : (a : Var) (head : Function)
        → ((at : Place) → function_head at e ≡ plain.finds head)
        → (code ≡ E13 → ⊥) → (code ≡ E14 → ⊥)
        → cause ≡ TooLarge scene (replaced_type (in_context scene.context a) head.gives)
        → IsCauseIn code scene (Application f a) cause
    application_large a head known no_head no_mismatch is =
        so code code scene (Application f a) cause _ refl is
        (causes.application_large scene f a x.type x.found head (head_there function_head x.type e head x.is known) code
        (λ c. no_head (sym c)) (λ c. no_mismatch (sym c)))

    pub type_application_head : (a : Shape) → code ≡ E13 → cause ≡ WrongHead scene e ATypeFunction
        → IsCauseIn code scene (TypeApplication f a) cause
    type_application_head a code_is is =
        so code E13 scene (TypeApplication f a) cause _ code_is (is ∙ ap (λ y. WrongHead scene y ATypeFunction) x.is)
        (causes.type_application_head scene f a x.type x.found)

    pub type_application_mismatch : (a : Shape) (head : TypeFunction)
        → ((at : Place) → type_function_head at e ≡ plain.finds head)
        → code ≡ E14 → cause ≡ WrongShape scene (shape_in scene.context a) head.bound
        → IsCauseIn code scene (TypeApplication f a) cause
    type_application_mismatch a head known code_is is =
        so code E14 scene (TypeApplication f a) cause _ code_is is
        (causes.type_application_mismatch scene f a x.type x.found head (head_there type_function_head x.type e head x.is known))

    pub type_application_large : (a : Shape) (head : TypeFunction)
        → ((at : Place) → type_function_head at e ≡ plain.finds head)
        → (code ≡ E13 → ⊥) → (code ≡ E14 → ⊥)
        → cause ≡ TooLarge scene (replaced_type_by_shape (shape_in scene.context a) head.gives)
        → IsCauseIn code scene (TypeApplication f a) cause
    type_application_large a head known no_head no_mismatch is =
        so code code scene (TypeApplication f a) cause _ refl is
        (causes.type_application_large scene f a x.type x.found head (head_there type_function_head x.type e head x.is known) code
        (λ c. no_head (sym c)) (λ c. no_mismatch (sym c)))

    pub unboxing_head : (set : Option Set) → code ≡ E13 → cause ≡ WrongHead scene e ABox
        → IsCauseIn code scene (Unboxing set f) cause
    unboxing_head set code_is is =
        so code E13 scene (Unboxing set f) cause _ code_is (is ∙ ap (λ y. WrongHead scene y ABox) x.is)
        (causes.unboxing_head scene set f x.type x.found)

    pub unboxing_large : (set : Option Set) (content : CapturingType)
        → ((at : Place) → box_head at e ≡ plain.finds content)
        → (code ≡ E13 → ⊥)
        → cause ≡ TooLarge scene (capturing content.shape (opened_under scene.context content.set set))
        → IsCauseIn code scene (Unboxing set f) cause
    unboxing_large set content known no_head is =
        so code code scene (Unboxing set f) cause _ refl is
        (causes.unboxing_large scene set f x.type x.found content (head_there box_head x.type e content x.is known) code
        (λ c. no_head (sym c)))

    pub operation_head : (operation : Op) (argument : Option Var) → code ≡ E13
        → cause ≡ WrongHead scene e (ABase (base_operated operation))
        → IsCauseIn code scene (Operation operation f argument) cause
    operation_head operation argument code_is is =
        so code E13 scene (Operation operation f argument) cause _ code_is
        (is ∙ ap (λ y. WrongHead scene y (ABase (base_operated operation))) x.is)
        (causes.operation_head scene operation f argument x.type x.found)

    pub operation_misplaced : (operation : Op) (argument : Option Var)
        → IsMisplaced (base_taken operation) argument → code ≡ E14 → cause ≡ NothingThere
        → IsCauseIn code scene (Operation operation f argument) cause
    operation_misplaced operation argument misplaced code_is is =
        so code E14 scene (Operation operation f argument) cause _ code_is is
        (causes.operation_misplaced scene operation f argument x.type x.found misplaced)

    pub operation_mismatch : (operation : Op) (argument : Option Var) (base : Base) (v : Var) (t : CapturingType)
        → base_taken operation ≡ Some base → argument ≡ Some v
        → variable_type scene.context (in_context scene.context v) ≡ plain.finds t
        → code ≡ E14 → cause ≡ WrongShape scene t.shape (BaseShape base)
        → IsCauseIn code scene (Operation operation f argument) cause
    operation_mismatch operation argument base v t taken there given code_is is =
        so code E14 scene (Operation operation f argument) cause _ code_is is
        (causes.operation_mismatch scene operation f argument x.type x.found base v t taken there given)

    pub operation_large : (operation : Op) (argument : Option Var) → (code ≡ E13 → ⊥) → (code ≡ E14 → ⊥)
        → cause ≡ TooLarge scene (base_type (base_answered operation))
        → IsCauseIn code scene (Operation operation f argument) cause
    operation_large operation argument no_head no_mismatch is =
        so code code scene (Operation operation f argument) cause _ refl is
        (causes.operation_large scene operation f argument x.type x.found code (λ c. no_head (sym c)) (λ c. no_mismatch (sym c)))

    pub leave_head : (gives : Shape) (set : Set) (value : Var) → code ≡ E13 → cause ≡ WrongHead scene e AnExit
        → IsCauseIn code scene (Leave gives set f value) cause
    leave_head gives set value code_is is =
        so code E13 scene (Leave gives set f value) cause _ code_is (is ∙ ap (λ y. WrongHead scene y AnExit) x.is)
        (causes.leave_head scene gives set f value x.type x.found)

    pub leave_mismatch : (gives : Shape) (set : Set) (value : Var) (takes : Shape) (t : CapturingType)
        → ((at : Place) → exit_head at e ≡ plain.finds takes)
        → variable_type scene.context (in_context scene.context value) ≡ plain.finds t
        → code ≡ E14 → cause ≡ WrongType scene t (capturing takes empty)
        → IsCauseIn code scene (Leave gives set f value) cause
    leave_mismatch gives set value takes t known given code_is is =
        so code E14 scene (Leave gives set f value) cause _ code_is is
        (causes.leave_mismatch scene gives set f value x.type x.found takes t (head_there exit_head x.type e takes x.is known) given)

    pub leave_large : (gives : Shape) (set : Set) (value : Var) → (code ≡ E13 → ⊥) → (code ≡ E14 → ⊥)
        → cause ≡ TooLarge scene (type_in scene.context (capturing gives set))
        → IsCauseIn code scene (Leave gives set f value) cause
    leave_large gives set value no_head no_mismatch is =
        so code code scene (Leave gives set f value) cause _ refl is
        (causes.leave_large scene gives set f value x.type x.found code (λ c. no_head (sym c)) (λ c. no_mismatch (sym c)))

  module _ (v w : Var) (code : Code) (cause : Cause) where
    pub primitive_mismatch : (operator : Operator)
        → IsOfOperands scene v w (BaseShape bases.Int) (BaseShape bases.Int) cause → code ≡ E14
        → IsCauseIn code scene (Primitive operator v w) cause
    primitive_mismatch operator (inl (s, found, apart, is)) code_is =
        so code E14 scene (Primitive operator v w) cause _ code_is is
        (causes.primitive_left scene operator v w s found apart)
    primitive_mismatch operator (inr (s, t, found, match, other, is)) code_is =
        so code E14 scene (Primitive operator v w) cause _ code_is is
        (causes.primitive_right scene operator v w s t match.0 found match.1 other)

    pub primitive_large : (operator : Operator) → (code ≡ E14 → ⊥)
        → cause ≡ TooLarge scene (base_type (base_given operator))
        → IsCauseIn code scene (Primitive operator v w) cause
    primitive_large operator no_mismatch is =
        so code code scene (Primitive operator v w) cause _ refl is
        (causes.primitive_large scene operator v w code (λ c. no_mismatch (sym c)))

    pub repetition_mismatch : IsOfOperands scene v w (BaseShape bases.Int) (causes.repeated scene) cause → code ≡ E14
        → IsCauseIn code scene (Repetition v w) cause
    repetition_mismatch (inl (s, found, apart, is)) code_is =
        so code E14 scene (Repetition v w) cause _ code_is is (causes.repetition_left scene v w s found apart)
    repetition_mismatch (inr (s, t, found, match, other, is)) code_is =
        so code E14 scene (Repetition v w) cause _ code_is is
        (causes.repetition_right scene v w s t match.0 found match.1 other)

    pub repetition_large : (code ≡ E14 → ⊥) → cause ≡ TooLarge scene (base_type bases.Unit)
        → IsCauseIn code scene (Repetition v w) cause
    repetition_large no_mismatch is =
        so code code scene (Repetition v w) cause _ refl is
        (causes.repetition_large scene v w code (λ c. no_mismatch (sym c)))
