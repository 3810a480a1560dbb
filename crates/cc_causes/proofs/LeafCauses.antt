-- Which cause a form without parts is refused for, by the code and by what its variables are.
use Rattle.std.proofs.Common.{◌≡◌, ℕ, List, Option, Some, None}
use Rattle.std.proofs.Common.{refl, sym, ap, subst, ◌∙◌}
use Rattle.cc_base.specs.declared.code.Code.{Code}
use Rattle.cc_base.specs.declared.code.Code.TheVariants.{E13, E14, E18}
use Rattle.cc_base.specs.declared.literal.Base.{Base}
use Rattle.cc_base.specs.declared.literal.Base.TheVariants as bases
use Rattle.cc_base.specs.declared.literal.Operator.{Operator}
use Rattle.cc_base.specs.declared.literal.Op.{Op}
use Rattle.cc_base.specs.declared.place.Place.{Place}
use Rattle.cc_base.specs.Literals.{Literal}
use Rattle.cc_capture.specs.declared.var.Var.{Var}
use Rattle.cc_capture.specs.Sets.{Set, empty}
use Rattle.cc_core.specs.Shapes.{Shape, BaseShape, FunctionShape, TypeFunctionShape, BoxShape, ExitShape, CapturingType, capturing}
use Rattle.cc_core.specs.Terms.{VariableTerm, LiteralTerm, BoxTerm, Application, TypeApplication, Unboxing, Primitive}
use Rattle.cc_core.specs.Terms.{Repetition, Operation, Leave}
use Rattle.cc_core.specs.Typing.{base_of, base_given, base_operated, base_taken, base_answered}
use Rattle.cc_core.specs.Places.{Places, spots}
use Rattle.cc_core.specs.Substitution.{replaced_type, replaced_type_by_shape}
use Rattle.cc_checking.specs.Comparison.{Demand, Comparison, Mismatch, Matches}
use Rattle.cc_checking.specs.Exposing.{exposed}
use Rattle.cc_checking.specs.Outcomes as plain
use Rattle.cc_checking.specs.Outcomes.{Outcome}
use Rattle.cc_checking.specs.Inference.{Result, result, in_context, shape_in, type_in, base_type, variable_type, Function}
use Rattle.cc_checking.specs.Inference.{TypeFunction, function_head, type_function_head, box_head, exit_head, device_head}
use Rattle.cc_checking.specs.Inference.{compared_at, opening_set, capless}
use Rattle.cc_type.specs.Rows.{comparing, ways}
use Rattle.cc_reasons.specs.Causes.{Local, Scene, Cause, code_of, WrongHead, WrongType, WrongShape, NothingThere, TooLarge}
use Rattle.cc_reasons.specs.Causes.{AFunction, ATypeFunction, ABox, AnExit, ABase, Located, Explained, NoAnswer, Refused}
use Rattle.cc_reasons.specs.Causes.{Found, finds, outcome_of, asked_before, ◌>>=◌, because, unrefused}
use Rattle.cc_reasons.specs.ExplainedInference.{BinderNames, typed, explained_operand}
use Rattle.cc_reasons.specs.ExplainedInference.{explained_argument, explained_size, explained}
use Rattle.cc_causes.specs.LeafReasons.{IsCauseIn, opened_under, IsMisplaced}

-- what is true of a cause, where steps are refused, and of their value, where they are not
abbrev pub Comes : {A : Type 0} → (Cause → Type 0) → (A → Type 0) → Explained A → Type 0
Comes P Q NoAnswer = Unit {0}
Comes P Q (Refused cause at) = P cause
Comes P Q (Found value asked) = Q value

-- nothing is said
abbrev pub Any : {A : Type 0} → A → Type 0
Any value = Unit {0}

before_comes : {A : Type 0} (P : Cause → Type 0) (Q : A → Type 0) (asked : List Located) (o : Explained A)
    → Comes P Q o → Comes P Q (asked_before asked o)
before_comes P Q asked NoAnswer h = tt
before_comes P Q asked (Refused cause at) h = h
before_comes P Q asked (Found value more) h = h

pub then_comes : {A B : Type 0} (P : Cause → Type 0) (Q : A → Type 0) (R : B → Type 0) (o : Explained A)
    (f : A → Explained B)
    → Comes P Q o → ((v : A) → Q v → Comes P R (f v)) → Comes P R (◌>>=◌ o f)
unfolding ◌>>=◌
then_comes P Q R NoAnswer f h k = tt
then_comes P Q R (Refused cause at) f h k = h
then_comes P Q R (Found value asked) f h k = before_comes P R asked (f value) (k value h)

pub because_comes : {A : Type 0} (P : Cause → Type 0) (cause : Cause) (locals : List Local) (o : Outcome A) → P cause
    → Comes P Any (because cause locals o)
because_comes P cause locals plain.NoAnswer h = tt
because_comes P cause locals (plain.Refused code at) h = h
because_comes P cause locals (plain.Found value asked) h = tt

known_comes : {A : Type 0} (P : Cause → Type 0) (cause : Cause) (locals : List Local) (o : Outcome A) (a : A)
    → o ≡ plain.finds a → Comes P (λ v. v ≡ a) (because cause locals o)
known_comes P cause locals o a e =
    subst (λ x. Comes P (λ v. v ≡ a) (because cause locals x)) (sym e) refl

size_comes : (P : Cause → Type 0) (Q : Result → Type 0) (places : Places) (scene : Scene) (row : Explained Result)
    → Comes P Q row → ((r : Result) → Q r → P (TooLarge scene r.type))
    → Comes P Any (explained_size ways places scene row)
size_comes P Q places scene row h k =
    then_comes P Q Any row _ h (λ r q. because_comes P (TooLarge scene r.type) scene.locals _ (k r q))

-- where the code is this, the cause is that
abbrev IsOnly : Code → Cause → Cause → Type 0
IsOnly code cause other = code_of other ≡ code → other ≡ cause

other_code : (code : Code) (cause other : Cause) → (code_of other ≡ code → ⊥) → IsOnly code cause other
other_code code cause other apart e = absurd (apart e)

told : {A : Type 0} (code : Code) (cause : Cause) (o : Explained A) (at : Place) → Comes (IsOnly code cause) Any o
    → outcome_of o ≡ plain.Refused code at → o ≡ Refused cause at
told code cause NoAnswer at h e = absurd (cc)
told code cause (Found value asked) at h e = absurd (cc)
told code cause (Refused other place) at h e =
    let codes : code_of other ≡ code = cc in
    let places : place ≡ at = cc in
    ap (λ c. Refused c place) (h codes) ∙ ap (Refused cause) places

head_is_no_mismatch : E13 ≡ E14 → ⊥
head_is_no_mismatch e = cc

mismatch_is_no_head : E14 ≡ E13 → ⊥
mismatch_is_no_head e = cc

size_is_no_head : E18 ≡ E13 → ⊥
size_is_no_head e = cc

size_is_no_mismatch : E18 ≡ E14 → ⊥
size_is_no_mismatch e = cc

-- the head does not depend on the place
pub function_anywhere : (s : Shape) (at place : Place) (head : Function) → function_head at s ≡ plain.finds head
    → function_head place s ≡ plain.finds head
function_anywhere (FunctionShape t c u e) at place head is = is
function_anywhere _ at place head is = absurd (cc)

pub type_function_anywhere : (s : Shape) (at place : Place) (head : TypeFunction)
    → type_function_head at s ≡ plain.finds head → type_function_head place s ≡ plain.finds head
type_function_anywhere (TypeFunctionShape b t c) at place head is = is
type_function_anywhere _ at place head is = absurd (cc)

pub box_anywhere : (s : Shape) (at place : Place) (head : CapturingType) → box_head at s ≡ plain.finds head
    → box_head place s ≡ plain.finds head
box_anywhere (BoxShape t c) at place head is = is
box_anywhere _ at place head is = absurd (cc)

pub exit_anywhere : (s : Shape) (at place : Place) (head : Shape) → exit_head at s ≡ plain.finds head
    → exit_head place s ≡ plain.finds head
exit_anywhere (ExitShape t) at place head is = is
exit_anywhere _ at place head is = absurd (cc)

-- what is compared where shapes match
compared_found : (at : Place) (c : Comparison) (demands : List Demand) → c ≡ Matches demands
    → (P : Cause → Type 0) (cause : Cause) (locals : List Local) → Comes P Any (because cause locals (compared_at at c))
compared_found at c demands is P cause locals =
    subst (λ x. Comes P Any (because cause locals (compared_at at x))) (sym is) tt

compared_stopped : (at : Place) (c : Comparison) → c ≡ Mismatch
    → (P : Cause → Type 0) (cause : Cause) (locals : List Local) → P cause
    → Comes P (λ v. ⊥) (because cause locals (compared_at at c))
compared_stopped at c is P cause locals h =
    subst (λ x. Comes P (λ v. ⊥) (because cause locals (compared_at at x))) (sym is) h

module _ (scene : Scene) where
  -- the type of a variable that is known
  typed_comes : (P : Cause → Type 0) (v : Var) (s : CapturingType)
      → variable_type scene.context (in_context scene.context v) ≡ plain.finds s
      → Comes P (λ t. t ≡ s) (typed scene v)
  typed_comes P v s e = known_comes P NothingThere scene.locals _ s e

  any_typed : (P : Cause → Type 0) (v : Var) → P NothingThere → Comes P Any (typed scene v)
  any_typed P v h = because_comes P NothingThere scene.locals _ h

  -- a variable and a box of one
  pub variable_large : (code : Code) (v : Var) (s : CapturingType)
      → variable_type scene.context (in_context scene.context v) ≡ plain.finds s
      → IsCauseIn code scene (VariableTerm v) (TooLarge scene s)
  variable_large code v s e = record {
    told = λ root places names at refused.
        let P : Cause → Type 0 = IsOnly code (TooLarge scene s) in
        told code (TooLarge scene s) _ at
        (size_comes P (λ r. r.type ≡ s) places scene _
        (then_comes P (λ t. t ≡ s) (λ r. r.type ≡ s) (typed scene v) _ (typed_comes P v s e) (λ t is. is))
        (λ r is c. ap (TooLarge scene) is)) refused;
  }

  pub literal_large : (code : Code) (l : Literal)
      → IsCauseIn code scene (LiteralTerm l) (TooLarge scene (base_type (base_of l)))
  literal_large code l = record {
    told = λ root places names at refused.
        let type : CapturingType = base_type (base_of l) in
        told code (TooLarge scene type) _ at
        (size_comes (IsOnly code (TooLarge scene type)) (λ r. r.type ≡ type) places scene (finds (result type (LiteralTerm l)))
        refl (λ r is c. ap (TooLarge scene) is)) refused;
  }

  pub box_large : (code : Code) (v : Var) (s : CapturingType)
      → variable_type scene.context (in_context scene.context v) ≡ plain.finds s
      → IsCauseIn code scene (BoxTerm v) (TooLarge scene (capturing (BoxShape s.shape s.set) empty))
  box_large code v s e = record {
    told = λ root places names at refused.
        let type : CapturingType → CapturingType = λ t. capturing (BoxShape t.shape t.set) empty in
        let P : Cause → Type 0 = IsOnly code (TooLarge scene (type s)) in
        told code (TooLarge scene (type s)) _ at
        (size_comes P (λ r. r.type ≡ type s) places scene _
        (then_comes P (λ t. t ≡ s) (λ r. r.type ≡ type s) (typed scene v) _ (typed_comes P v s e) (λ t is. ap type is))
        (λ r is c. ap (TooLarge scene) is)) refused;
  }

  -- applications
  module _ (f a : Var) (s : CapturingType)
      (found : variable_type scene.context (in_context scene.context f) ≡ plain.finds s) where
    pub application_head : IsCauseIn E13 scene (Application f a) (WrongHead scene (exposed scene.context s.shape) AFunction)
    application_head = record {
      told = λ root places names at refused.
          let cause : CapturingType → Cause = λ t. WrongHead scene (exposed scene.context t.shape) AFunction in
          let P : Cause → Type 0 = IsOnly E13 (cause s) in
          told E13 (cause s) _ at
          (size_comes P Any places scene _
          (then_comes P (λ t. t ≡ s) Any (typed scene f) _ (typed_comes P f s found)
          (λ applied is. then_comes P Any Any _ _ (because_comes P (cause applied) scene.locals _ (λ c. ap cause is))
          (λ head h. then_comes P Any Any _ _ (any_typed P a (other_code E13 (cause s) NothingThere mismatch_is_no_head))
          (λ given g. then_comes P Any Any _ _
          (because_comes P (WrongType scene given head.takes) scene.locals _
          (other_code E13 (cause s) (WrongType scene given head.takes) mismatch_is_no_head)) (λ u q. tt)))))
          (λ r q. other_code E13 (cause s) (TooLarge scene r.type) size_is_no_head)) refused;
    }

    module _ (head : Function)
        (known : (at : Place) → function_head at (exposed scene.context s.shape) ≡ plain.finds head) where
      pub application_mismatch : (t : CapturingType)
          → variable_type scene.context (in_context scene.context a) ≡ plain.finds t
          → IsCauseIn E14 scene (Application f a) (WrongType scene t head.takes)
      application_mismatch t given = record {
        told = λ root places names at refused.
            let cause : Cause = WrongType scene t head.takes in
            let P : Cause → Type 0 = IsOnly E14 cause in
            let heads : CapturingType → Outcome Function =
            λ x. function_head (spots places).first (exposed scene.context x.shape) in
            told E14 cause _ at
            (size_comes P Any places scene _
            (then_comes P (λ x. x ≡ s) Any (typed scene f) _ (typed_comes P f s found)
            (λ applied is. then_comes P (λ h. h ≡ head) Any _ _
            (known_comes P _ scene.locals (heads applied) head (ap heads is ∙ known (spots places).first))
            (λ h same. then_comes P (λ x. x ≡ t) Any _ _ (typed_comes P a t given)
            (λ x here. then_comes P Any Any _ _
            (because_comes P (WrongType scene x h.takes) scene.locals _
            (λ c. ap (λ y. WrongType scene y h.takes) here ∙ ap (λ (y : Function). WrongType scene t y.takes) same))
            (λ u q. tt)))))
            (λ r q. other_code E14 cause (TooLarge scene r.type) size_is_no_mismatch)) refused;
      }

      pub application_large : (code : Code) → (E13 ≡ code → ⊥) → (E14 ≡ code → ⊥)
          → IsCauseIn code scene (Application f a)
          (TooLarge scene (replaced_type (in_context scene.context a) head.gives))
      application_large code no_head no_mismatch = record {
        told = λ root places names at refused.
            let type : Function → CapturingType = λ h. replaced_type (in_context scene.context a) h.gives in
            let cause : Cause = TooLarge scene (type head) in
            let P : Cause → Type 0 = IsOnly code cause in
            let heads : CapturingType → Outcome Function =
            λ x. function_head (spots places).first (exposed scene.context x.shape) in
            told code cause _ at
            (size_comes P (λ r. r.type ≡ type head) places scene _
            (then_comes P (λ x. x ≡ s) (λ r. r.type ≡ type head) (typed scene f) _ (typed_comes P f s found)
            (λ applied is. then_comes P (λ h. h ≡ head) (λ r. r.type ≡ type head) _ _
            (known_comes P _ scene.locals (heads applied) head (ap heads is ∙ known (spots places).first))
            (λ h same. then_comes P Any (λ r. r.type ≡ type head) _ _
            (any_typed P a (other_code code cause NothingThere no_mismatch))
            (λ x here. then_comes P Any (λ r. r.type ≡ type head) _ _
            (because_comes P (WrongType scene x h.takes) scene.locals _
            (other_code code cause (WrongType scene x h.takes) no_mismatch))
            (λ u q. ap type same)))))
            (λ r is c. ap (TooLarge scene) is)) refused;
      }

  -- operands
  pub operand_comes : (P : Cause → Type 0) (at : Place) (v : Var) (s : CapturingType) (shape : Shape)
      → variable_type scene.context (in_context scene.context v) ≡ plain.finds s → P (WrongShape scene s.shape shape)
      → Comes P Any (explained_operand ways at scene v shape)
  operand_comes P at v s shape e h =
      then_comes P (λ t. t ≡ s) Any (typed scene v) _ (typed_comes P v s e)
      (λ t is. because_comes P (WrongShape scene t.shape shape) scene.locals _
      (subst (λ (x : CapturingType). P (WrongShape scene x.shape shape)) (sym is) h))

  operand_found : (P : Cause → Type 0) (at : Place) (v : Var) (s : CapturingType) (shape : Shape) (demands : List Demand)
      → variable_type scene.context (in_context scene.context v) ≡ plain.finds s
      → comparing scene.context s.shape shape ≡ Matches demands → Comes P Any (explained_operand ways at scene v shape)
  operand_found P at v s shape demands e m =
      then_comes P (λ t. t ≡ s) Any (typed scene v) _ (typed_comes P v s e)
      (λ t is. compared_found at (comparing scene.context t.shape shape) demands
      (ap (λ (x : CapturingType). comparing scene.context x.shape shape) is ∙ m) P (WrongShape scene t.shape shape)
      scene.locals)

  operand_stopped : (P : Cause → Type 0) (at : Place) (v : Var) (s : CapturingType) (shape : Shape)
      → variable_type scene.context (in_context scene.context v) ≡ plain.finds s
      → comparing scene.context s.shape shape ≡ Mismatch → P (WrongShape scene s.shape shape)
      → Comes P (λ u. ⊥) (explained_operand ways at scene v shape)
  operand_stopped P at v s shape e m h =
      then_comes P (λ t. t ≡ s) (λ u. ⊥) (typed scene v) _ (typed_comes P v s e)
      (λ t is. compared_stopped at (comparing scene.context t.shape shape)
      (ap (λ (x : CapturingType). comparing scene.context x.shape shape) is ∙ m) P (WrongShape scene t.shape shape)
      scene.locals (subst (λ (x : CapturingType). P (WrongShape scene x.shape shape)) (sym is) h))

  any_operand : (P : Cause → Type 0) (at : Place) (v : Var) (shape : Shape) → P NothingThere
      → ((s : Shape) → P (WrongShape scene s shape)) → Comes P Any (explained_operand ways at scene v shape)
  any_operand P at v shape h k =
      then_comes P Any Any (typed scene v) _ (any_typed P v h)
      (λ t u. because_comes P (WrongShape scene t.shape shape) scene.locals _ (k t.shape))

  -- applications of type functions
  module _ (f : Var) (argument : Shape) (s : CapturingType)
      (found : variable_type scene.context (in_context scene.context f) ≡ plain.finds s) where
    pub type_application_head :
        IsCauseIn E13 scene (TypeApplication f argument) (WrongHead scene (exposed scene.context s.shape) ATypeFunction)
    type_application_head = record {
      told = λ root places names at refused.
          let cause : CapturingType → Cause = λ t. WrongHead scene (exposed scene.context t.shape) ATypeFunction in
          let P : Cause → Type 0 = IsOnly E13 (cause s) in
          told E13 (cause s) _ at
          (size_comes P Any places scene _
          (then_comes P (λ t. t ≡ s) Any (typed scene f) _ (typed_comes P f s found)
          (λ applied is. then_comes P Any Any _ _ (because_comes P (cause applied) scene.locals _ (λ c. ap cause is))
          (λ head h. then_comes P Any Any _ _
          (because_comes P (WrongShape scene (shape_in scene.context argument) head.bound) scene.locals _
          (other_code E13 (cause s) (WrongShape scene (shape_in scene.context argument) head.bound) mismatch_is_no_head))
          (λ u q. tt))))
          (λ r q. other_code E13 (cause s) (TooLarge scene r.type) size_is_no_head)) refused;
    }

    module _ (head : TypeFunction)
        (known : (at : Place) → type_function_head at (exposed scene.context s.shape) ≡ plain.finds head) where
      pub type_application_mismatch :
          IsCauseIn E14 scene (TypeApplication f argument)
          (WrongShape scene (shape_in scene.context argument) head.bound)
      type_application_mismatch = record {
        told = λ root places names at refused.
            let cause : TypeFunction → Cause = λ h. WrongShape scene (shape_in scene.context argument) h.bound in
            let P : Cause → Type 0 = IsOnly E14 (cause head) in
            let heads : CapturingType → Outcome TypeFunction =
            λ x. type_function_head (spots places).first (exposed scene.context x.shape) in
            told E14 (cause head) _ at
            (size_comes P Any places scene _
            (then_comes P (λ x. x ≡ s) Any (typed scene f) _ (typed_comes P f s found)
            (λ applied is. then_comes P (λ h. h ≡ head) Any _ _
            (known_comes P _ scene.locals (heads applied) head (ap heads is ∙ known (spots places).first))
            (λ h same. then_comes P Any Any _ _ (because_comes P (cause h) scene.locals _ (λ c. ap cause same))
            (λ u q. tt))))
            (λ r q. other_code E14 (cause head) (TooLarge scene r.type) size_is_no_mismatch)) refused;
      }

      pub type_application_large : (code : Code) → (E13 ≡ code → ⊥) → (E14 ≡ code → ⊥)
          → IsCauseIn code scene (TypeApplication f argument)
          (TooLarge scene (replaced_type_by_shape (shape_in scene.context argument) head.gives))
      type_application_large code no_head no_mismatch = record {
        told = λ root places names at refused.
            let type : TypeFunction → CapturingType =
            λ h. replaced_type_by_shape (shape_in scene.context argument) h.gives in
            let cause : Cause = TooLarge scene (type head) in
            let P : Cause → Type 0 = IsOnly code cause in
            let heads : CapturingType → Outcome TypeFunction =
            λ x. type_function_head (spots places).first (exposed scene.context x.shape) in
            told code cause _ at
            (size_comes P (λ r. r.type ≡ type head) places scene _
            (then_comes P (λ x. x ≡ s) (λ r. r.type ≡ type head) (typed scene f) _ (typed_comes P f s found)
            (λ applied is. then_comes P (λ h. h ≡ head) (λ r. r.type ≡ type head) _ _
            (known_comes P _ scene.locals (heads applied) head (ap heads is ∙ known (spots places).first))
            (λ h same. then_comes P Any (λ r. r.type ≡ type head) _ _
            (because_comes P (WrongShape scene (shape_in scene.context argument) h.bound) scene.locals _
            (other_code code cause (WrongShape scene (shape_in scene.context argument) h.bound) no_mismatch))
            (λ u q. ap type same))))
            (λ r is c. ap (TooLarge scene) is)) refused;
      }

  -- boxes that are opened
  opening_comes : (P : Cause → Type 0) (at : Place) (content : Set) (set : Option Set)
      → Comes P (λ u. u ≡ opened_under scene.context content set)
      (unrefused scene.locals (opening_set at scene.context content set))
  opening_comes P at content (Some set) = refl
  opening_comes P at content None = refl

  module _ (set : Option Set) (b : Var) (s : CapturingType)
      (found : variable_type scene.context (in_context scene.context b) ≡ plain.finds s) where
    pub unboxing_head : IsCauseIn E13 scene (Unboxing set b) (WrongHead scene (exposed scene.context s.shape) ABox)
    unboxing_head = record {
      told = λ root places names at refused.
          let cause : CapturingType → Cause = λ t. WrongHead scene (exposed scene.context t.shape) ABox in
          let P : Cause → Type 0 = IsOnly E13 (cause s) in
          told E13 (cause s) _ at
          (size_comes P Any places scene _
          (then_comes P (λ t. t ≡ s) Any (typed scene b) _ (typed_comes P b s found)
          (λ opened is. then_comes P Any Any _ _ (because_comes P (cause opened) scene.locals _ (λ c. ap cause is))
          (λ content h. then_comes P _ Any _ _ (opening_comes P (spots places).first content.set set)
          (λ inside g. then_comes P Any Any (unrefused scene.locals (capless (spots places).second inside)) _ tt
          (λ u q. tt)))))
          (λ r q. other_code E13 (cause s) (TooLarge scene r.type) size_is_no_head)) refused;
    }

    pub unboxing_large : (content : CapturingType)
        → ((at : Place) → box_head at (exposed scene.context s.shape) ≡ plain.finds content)
        → (code : Code) → (E13 ≡ code → ⊥)
        → IsCauseIn code scene (Unboxing set b)
        (TooLarge scene (capturing content.shape (opened_under scene.context content.set set)))
    unboxing_large content known code no_head = record {
      told = λ root places names at refused.
          let type : CapturingType → CapturingType =
          λ c. capturing c.shape (opened_under scene.context c.set set) in
          let cause : Cause = TooLarge scene (type content) in
          let P : Cause → Type 0 = IsOnly code cause in
          let heads : CapturingType → Outcome CapturingType =
          λ x. box_head (spots places).first (exposed scene.context x.shape) in
          told code cause _ at
          (size_comes P (λ r. r.type ≡ type content) places scene _
          (then_comes P (λ x. x ≡ s) (λ r. r.type ≡ type content) (typed scene b) _ (typed_comes P b s found)
          (λ opened is. then_comes P (λ h. h ≡ content) (λ r. r.type ≡ type content) _ _
          (known_comes P _ scene.locals (heads opened) content (ap heads is ∙ known (spots places).first))
          (λ h same. then_comes P _ (λ r. r.type ≡ type content) _ _ (opening_comes P (spots places).first h.set set)
          (λ inside g. then_comes P Any (λ r. r.type ≡ type content)
          (unrefused scene.locals (capless (spots places).second inside)) _ tt
          (λ u q. ap (capturing h.shape) g ∙ ap type same)))))
          (λ r is c. ap (TooLarge scene) is)) refused;
    }

  -- two operands, and a type that is always found
  module _ (v w : Var) (one two : Shape) (whole : Result) where
    abbrev both : Places → Explained Result
    both places = explained_size ways places scene
        (◌>>=◌ (explained_operand ways (spots places).first scene v one)
        (λ u. ◌>>=◌ (explained_operand ways (spots places).second scene w two) (λ q. finds whole)))

    both_left : (places : Places) (at : Place) (s : CapturingType)
        → variable_type scene.context (in_context scene.context v) ≡ plain.finds s
        → comparing scene.context s.shape one ≡ Mismatch
        → outcome_of (both places) ≡ plain.Refused E14 at → both places ≡ Refused (WrongShape scene s.shape one) at
    both_left places at s found apart refused =
        let cause : Cause = WrongShape scene s.shape one in
        let P : Cause → Type 0 = IsOnly E14 cause in
        told E14 cause _ at
        (size_comes P (λ r. ⊥) places scene _
        (then_comes P (λ u. ⊥) (λ r. ⊥) _ _
        (operand_stopped P (spots places).first v s one found apart (λ c. refl)) (λ u q. absurd q))
        (λ r q. absurd q)) refused

    both_right : (places : Places) (at : Place) (s t : CapturingType) (demands : List Demand)
        → variable_type scene.context (in_context scene.context v) ≡ plain.finds s
        → comparing scene.context s.shape one ≡ Matches demands
        → variable_type scene.context (in_context scene.context w) ≡ plain.finds t
        → outcome_of (both places) ≡ plain.Refused E14 at → both places ≡ Refused (WrongShape scene t.shape two) at
    both_right places at s t demands found match other refused =
        let cause : Cause = WrongShape scene t.shape two in
        let P : Cause → Type 0 = IsOnly E14 cause in
        told E14 cause _ at
        (size_comes P Any places scene _
        (then_comes P Any Any _ _ (operand_found P (spots places).first v s one demands found match)
        (λ u q. then_comes P Any Any _ _ (operand_comes P (spots places).second w t two other (λ c. refl)) (λ x y. tt)))
        (λ r q. other_code E14 cause (TooLarge scene r.type) size_is_no_mismatch)) refused

    both_large : (places : Places) (at : Place) (code : Code) → (E14 ≡ code → ⊥)
        → outcome_of (both places) ≡ plain.Refused code at → both places ≡ Refused (TooLarge scene whole.type) at
    both_large places at code no_mismatch refused =
        let cause : Cause = TooLarge scene whole.type in
        let P : Cause → Type 0 = IsOnly code cause in
        told code cause _ at
        (size_comes P (λ r. r ≡ whole) places scene _
        (then_comes P Any (λ r. r ≡ whole) _ _
        (any_operand P (spots places).first v one (other_code code cause NothingThere no_mismatch)
        (λ x. other_code code cause (WrongShape scene x one) no_mismatch))
        (λ u q. then_comes P Any (λ r. r ≡ whole) _ _
        (any_operand P (spots places).second w two (other_code code cause NothingThere no_mismatch)
        (λ x. other_code code cause (WrongShape scene x two) no_mismatch))
        (λ x y. refl)))
        (λ r is c. ap (λ (x : Result). TooLarge scene x.type) is)) refused

  -- operators and repetitions
  pub primitive_left : (operator : Operator) (v w : Var) (s : CapturingType)
      → variable_type scene.context (in_context scene.context v) ≡ plain.finds s
      → comparing scene.context s.shape (BaseShape bases.Int) ≡ Mismatch
      → IsCauseIn E14 scene (Primitive operator v w) (WrongShape scene s.shape (BaseShape bases.Int))
  primitive_left operator v w s found apart = record {
    told = λ root places names at refused.
        both_left v w (BaseShape bases.Int) (BaseShape bases.Int)
        (result (base_type (base_given operator)) (Primitive operator v w)) places at s found apart refused;
  }

  pub primitive_right : (operator : Operator) (v w : Var) (s t : CapturingType) (demands : List Demand)
      → variable_type scene.context (in_context scene.context v) ≡ plain.finds s
      → comparing scene.context s.shape (BaseShape bases.Int) ≡ Matches demands
      → variable_type scene.context (in_context scene.context w) ≡ plain.finds t
      → IsCauseIn E14 scene (Primitive operator v w) (WrongShape scene t.shape (BaseShape bases.Int))
  primitive_right operator v w s t demands found match other = record {
    told = λ root places names at refused.
        both_right v w (BaseShape bases.Int) (BaseShape bases.Int)
        (result (base_type (base_given operator)) (Primitive operator v w)) places at s t demands found match other refused;
  }

  pub primitive_large : (operator : Operator) (v w : Var) (code : Code) → (E14 ≡ code → ⊥)
      → IsCauseIn code scene (Primitive operator v w) (TooLarge scene (base_type (base_given operator)))
  primitive_large operator v w code no_mismatch = record {
    told = λ root places names at refused.
        both_large v w (BaseShape bases.Int) (BaseShape bases.Int)
        (result (base_type (base_given operator)) (Primitive operator v w)) places at code no_mismatch refused;
  }

  abbrev pub repeated : Shape
  repeated = FunctionShape (BaseShape bases.Int) empty (BaseShape bases.Unit) empty

  pub repetition_left : (v w : Var) (s : CapturingType)
      → variable_type scene.context (in_context scene.context v) ≡ plain.finds s
      → comparing scene.context s.shape (BaseShape bases.Int) ≡ Mismatch
      → IsCauseIn E14 scene (Repetition v w) (WrongShape scene s.shape (BaseShape bases.Int))
  repetition_left v w s found apart = record {
    told = λ root places names at refused.
        both_left v w (BaseShape bases.Int) repeated (result (base_type bases.Unit) (Repetition v w)) places at s found
        apart refused;
  }

  pub repetition_right : (v w : Var) (s t : CapturingType) (demands : List Demand)
      → variable_type scene.context (in_context scene.context v) ≡ plain.finds s
      → comparing scene.context s.shape (BaseShape bases.Int) ≡ Matches demands
      → variable_type scene.context (in_context scene.context w) ≡ plain.finds t
      → IsCauseIn E14 scene (Repetition v w) (WrongShape scene t.shape repeated)
  repetition_right v w s t demands found match other = record {
    told = λ root places names at refused.
        both_right v w (BaseShape bases.Int) repeated (result (base_type bases.Unit) (Repetition v w)) places at s t
        demands found match other refused;
  }

  pub repetition_large : (v w : Var) (code : Code) → (E14 ≡ code → ⊥)
      → IsCauseIn code scene (Repetition v w) (TooLarge scene (base_type bases.Unit))
  repetition_large v w code no_mismatch = record {
    told = λ root places names at refused.
        both_large v w (BaseShape bases.Int) repeated (result (base_type bases.Unit) (Repetition v w)) places at code
        no_mismatch refused;
  }

  -- operations of devices
  misplaced_comes : (P : Cause → Type 0) (at : Place) (taken : Option Base) (argument : Option Var)
      → IsMisplaced taken argument → P NothingThere → Comes P Any (explained_argument ways at scene taken argument)
  misplaced_comes P at (Some base) (Some v) misplaced h = absurd misplaced
  misplaced_comes P at (Some base) None misplaced h = h
  misplaced_comes P at None (Some v) misplaced h = h
  misplaced_comes P at None None misplaced h = tt

  any_argument : (P : Cause → Type 0) (at : Place) (taken : Option Base) (argument : Option Var) → P NothingThere
      → ((s other : Shape) → P (WrongShape scene s other)) → Comes P Any (explained_argument ways at scene taken argument)
  any_argument P at (Some base) (Some v) h k =
      any_operand P at v (BaseShape base) h (λ s. k s (BaseShape base))
  any_argument P at (Some base) None h k = h
  any_argument P at None (Some v) h k = h
  any_argument P at None None h k = tt

  module _ (operation : Op) (receiver : Var) (argument : Option Var) (s : CapturingType)
      (found : variable_type scene.context (in_context scene.context receiver) ≡ plain.finds s) where
    operation_steps : (P : Cause → Type 0) (R : Result → Type 0) (places : Places)
        → P (WrongHead scene (exposed scene.context s.shape) (ABase (base_operated operation)))
        → Comes P Any (explained_argument ways (spots places).second scene (base_taken operation) argument)
        → R (result (base_type (base_answered operation)) (Operation operation receiver argument))
        → ((r : Result) → R r → P (TooLarge scene r.type)) → (root : ℕ) (names : BinderNames)
        → Comes P Any (explained ways root scene (Operation operation receiver argument) places names)
    operation_steps P R places head step end large root names =
        let cause : CapturingType → Cause =
        λ t. WrongHead scene (exposed scene.context t.shape) (ABase (base_operated operation)) in
        size_comes P R places scene _
        (then_comes P (λ t. t ≡ s) R (typed scene receiver) _ (typed_comes P receiver s found)
        (λ device is. then_comes P Any R _ _
        (because_comes P (cause device) scene.locals
        (device_head (spots places).first (base_operated operation) (exposed scene.context device.shape))
        (subst (λ x. P (cause x)) (sym is) head))
        (λ u q. then_comes P Any R _ _ step (λ x y. end))))
        large

    pub operation_head :
        IsCauseIn E13 scene (Operation operation receiver argument)
        (WrongHead scene (exposed scene.context s.shape) (ABase (base_operated operation)))
    operation_head = record {
      told = λ root places names at refused.
          let cause : Cause = WrongHead scene (exposed scene.context s.shape) (ABase (base_operated operation)) in
          let P : Cause → Type 0 = IsOnly E13 cause in
          told E13 cause _ at
          (operation_steps P Any places (λ c. refl)
          (any_argument P (spots places).second (base_taken operation) argument
          (other_code E13 cause NothingThere mismatch_is_no_head)
          (λ x y. other_code E13 cause (WrongShape scene x y) mismatch_is_no_head)) tt
          (λ r q. other_code E13 cause (TooLarge scene r.type) size_is_no_head) root names) refused;
    }

    pub operation_misplaced : IsMisplaced (base_taken operation) argument
        → IsCauseIn E14 scene (Operation operation receiver argument) NothingThere
    operation_misplaced misplaced = record {
      told = λ root places names at refused.
          let P : Cause → Type 0 = IsOnly E14 NothingThere in
          let head : Cause = WrongHead scene (exposed scene.context s.shape) (ABase (base_operated operation)) in
          told E14 NothingThere _ at
          (operation_steps P Any places (other_code E14 NothingThere head head_is_no_mismatch)
          (misplaced_comes P (spots places).second (base_taken operation) argument misplaced (λ c. refl)) tt
          (λ r q. other_code E14 NothingThere (TooLarge scene r.type) size_is_no_mismatch) root names) refused;
    }

    pub operation_mismatch : (base : Base) (v : Var) (t : CapturingType)
        → base_taken operation ≡ Some base → argument ≡ Some v
        → variable_type scene.context (in_context scene.context v) ≡ plain.finds t
        → IsCauseIn E14 scene (Operation operation receiver argument) (WrongShape scene t.shape (BaseShape base))
    operation_mismatch base v t taken there given = record {
      told = λ root places names at refused.
          let cause : Cause = WrongShape scene t.shape (BaseShape base) in
          let P : Cause → Type 0 = IsOnly E14 cause in
          let head : Cause = WrongHead scene (exposed scene.context s.shape) (ABase (base_operated operation)) in
          let step : Comes P Any (explained_argument ways (spots places).second scene (Some base) (Some v)) =
          operand_comes P (spots places).second v t (BaseShape base) given (λ c. refl) in
          told E14 cause _ at
          (operation_steps P Any places (other_code E14 cause head head_is_no_mismatch)
          (subst (λ x. Comes P Any (explained_argument ways (spots places).second scene (base_taken operation) x))
          (sym there)
          (subst (λ x. Comes P Any (explained_argument ways (spots places).second scene x (Some v))) (sym taken) step)) tt
          (λ r q. other_code E14 cause (TooLarge scene r.type) size_is_no_mismatch) root names) refused;
    }

    pub operation_large : (code : Code) → (E13 ≡ code → ⊥) → (E14 ≡ code → ⊥)
        → IsCauseIn code scene (Operation operation receiver argument)
        (TooLarge scene (base_type (base_answered operation)))
    operation_large code no_head no_mismatch = record {
      told = λ root places names at refused.
          let cause : Cause = TooLarge scene (base_type (base_answered operation)) in
          let P : Cause → Type 0 = IsOnly code cause in
          let head : Cause = WrongHead scene (exposed scene.context s.shape) (ABase (base_operated operation)) in
          told code cause _ at
          (operation_steps P (λ r. r.type ≡ base_type (base_answered operation)) places
          (other_code code cause head no_head)
          (any_argument P (spots places).second (base_taken operation) argument
          (other_code code cause NothingThere no_mismatch)
          (λ x y. other_code code cause (WrongShape scene x y) no_mismatch)) refl
          (λ r is c. ap (TooLarge scene) is) root names) refused;
    }

  -- exits
  module _ (gives : Shape) (c : Set) (exit value : Var) (s : CapturingType)
      (found : variable_type scene.context (in_context scene.context exit) ≡ plain.finds s) where
    pub leave_head : IsCauseIn E13 scene (Leave gives c exit value) (WrongHead scene (exposed scene.context s.shape) AnExit)
    leave_head = record {
      told = λ root places names at refused.
          let cause : CapturingType → Cause = λ t. WrongHead scene (exposed scene.context t.shape) AnExit in
          let P : Cause → Type 0 = IsOnly E13 (cause s) in
          told E13 (cause s) _ at
          (size_comes P Any places scene _
          (then_comes P (λ t. t ≡ s) Any (typed scene exit) _ (typed_comes P exit s found)
          (λ left is. then_comes P Any Any _ _ (because_comes P (cause left) scene.locals _ (λ e. ap cause is))
          (λ takes h. then_comes P Any Any _ _ (any_typed P value (other_code E13 (cause s) NothingThere mismatch_is_no_head))
          (λ given g. then_comes P Any Any _ _
          (because_comes P (WrongType scene given (capturing takes empty)) scene.locals _
          (other_code E13 (cause s) (WrongType scene given (capturing takes empty)) mismatch_is_no_head)) (λ u q. tt)))))
          (λ r q. other_code E13 (cause s) (TooLarge scene r.type) size_is_no_head)) refused;
    }

    pub leave_mismatch : (takes : Shape) (t : CapturingType)
        → ((at : Place) → exit_head at (exposed scene.context s.shape) ≡ plain.finds takes)
        → variable_type scene.context (in_context scene.context value) ≡ plain.finds t
        → IsCauseIn E14 scene (Leave gives c exit value) (WrongType scene t (capturing takes empty))
    leave_mismatch takes t known given = record {
      told = λ root places names at refused.
          let cause : Cause = WrongType scene t (capturing takes empty) in
          let P : Cause → Type 0 = IsOnly E14 cause in
          let heads : CapturingType → Outcome Shape =
          λ x. exit_head (spots places).first (exposed scene.context x.shape) in
          told E14 cause _ at
          (size_comes P Any places scene _
          (then_comes P (λ x. x ≡ s) Any (typed scene exit) _ (typed_comes P exit s found)
          (λ left is. then_comes P (λ h. h ≡ takes) Any _ _
          (known_comes P _ scene.locals (heads left) takes (ap heads is ∙ known (spots places).first))
          (λ h same. then_comes P (λ x. x ≡ t) Any _ _ (typed_comes P value t given)
          (λ x here. then_comes P Any Any _ _
          (because_comes P (WrongType scene x (capturing h empty)) scene.locals _
          (λ e. ap (λ y. WrongType scene y (capturing h empty)) here
          ∙ ap (λ y. WrongType scene t (capturing y empty)) same))
          (λ u q. tt)))))
          (λ r q. other_code E14 cause (TooLarge scene r.type) size_is_no_mismatch)) refused;
    }

    pub leave_large : (code : Code) → (E13 ≡ code → ⊥) → (E14 ≡ code → ⊥)
        → IsCauseIn code scene (Leave gives c exit value) (TooLarge scene (type_in scene.context (capturing gives c)))
    leave_large code no_head no_mismatch = record {
      told = λ root places names at refused.
          let type : CapturingType = type_in scene.context (capturing gives c) in
          let cause : Cause = TooLarge scene type in
          let P : Cause → Type 0 = IsOnly code cause in
          told code cause _ at
          (size_comes P (λ r. r.type ≡ type) places scene _
          (then_comes P (λ x. x ≡ s) (λ r. r.type ≡ type) (typed scene exit) _ (typed_comes P exit s found)
          (λ left is. then_comes P Any (λ r. r.type ≡ type) _ _
          (because_comes P (WrongHead scene (exposed scene.context left.shape) AnExit) scene.locals _
          (other_code code cause (WrongHead scene (exposed scene.context left.shape) AnExit) no_head))
          (λ h same. then_comes P Any (λ r. r.type ≡ type) _ _
          (any_typed P value (other_code code cause NothingThere no_mismatch))
          (λ x here. then_comes P Any (λ r. r.type ≡ type) _ _
          (because_comes P (WrongType scene x (capturing h empty)) scene.locals _
          (other_code code cause (WrongType scene x (capturing h empty)) no_mismatch))
          (λ u q. refl)))))
          (λ r is e. ap (TooLarge scene) is)) refused;
    }
