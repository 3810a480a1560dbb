-- Where a step is refused since two shapes do not match, the steps are enough to see that.
use Rattle.std.proofs.Common.{◌≡◌, ℕ, suc, Bool, true, false, cond, List, [], ◌∷◌, length, Option, Some, None, refl, subst}
use Rattle.cc_base.specs.declared.code.Code.{Code}
use Rattle.cc_base.specs.declared.code.Code.TheVariants.{E17}
use Rattle.cc_base.specs.declared.literal.Base.{Base}
use Rattle.cc_base.specs.declared.place.Place.{Place}
use Rattle.cc_capture.specs.declared.var.Var.{Var}
use Rattle.cc_core.specs.Shapes.{Shape, CapturingType, capturing}
use Rattle.cc_core.specs.Terms.{Note, Absent, Written, Own, Term, VariableTerm, LiteralTerm, FunctionTerm, TypeFunctionTerm, BoxTerm, Application, TypeApplication, Unboxing, Let, Primitive, Conditional, Repetition, Operation, Boundary, Leave}
use Rattle.cc_core.specs.Contexts.{Context, entry_of}
use Rattle.cc_core.specs.Places.{Places, first_part, second_part, spots}
use Rattle.cc_checking.specs.Avoidance.{Positive, avoided_type}
use Rattle.cc_checking.specs.Comparison.{Demand, demanded, Comparison, Unfinished, Mismatch, Matches, and_then, comparison}
use Rattle.cc_checking.specs.Inference.{Result, compared_at, limited, below, against, capless}
use Rattle.cc_checking.specs.Outcomes as plain
use Rattle.cc_checking.specs.Outcomes.{Outcome, found_or}
use Rattle.cc_checking.specs.Verdicts.{Definition, Checking, declared_set, signature_of}
use Rattle.cc_reasons.specs.Causes.{Local, Scene, Cause, WrongHead, WrongType, WrongShape, NothingThere, Unavoidable, TooLarge, Located, Explained, NoAnswer, Refused, Found, asked_before, ◌>>=◌, because}
use Rattle.cc_reasons.specs.DefinitionReasons.{outermost, none_or, unsigned_among, unsigned_cause, explained_plain, explained_recursion, explained_recursive, explained_definition}
use Rattle.cc_reasons.specs.ExplainedInference.{BinderNames, explained, explained_below, explained_against, explained_operand, explained_argument, explained_note, explained_part_below, explained_part_against, explained_size, typed, first_names, second_names}
use Rattle.cc_reasons.specs.ReasonTexts.{IsCompared}

-- where the steps are refused, the comparison of the cause is at its end in so many steps
abbrev pub Compares : {A : Type 0} → ℕ → Explained A → Type 0
Compares n NoAnswer = Unit {0}
Compares n (Refused cause at) = IsCompared n cause
Compares n (Found value asked) = Unit {0}

compares_asked : {A : Type 0} (n : ℕ) (asked : List Located) (o : Explained A) → Compares n o → Compares n (asked_before asked o)
compares_asked n asked NoAnswer c = tt
compares_asked n asked (Refused cause at) c = c
compares_asked n asked (Found value more) c = tt

compares_then : {A B : Type 0} (n : ℕ) (o : Explained A) (next : A → Explained B) → Compares n o → ((a : A) → Compares n (next a)) → Compares n (◌>>=◌ o next)
unfolding ◌>>=◌
compares_then n NoAnswer next c k = tt
compares_then n (Refused cause at) next c k = c
compares_then n (Found a asked) next c k = compares_asked n asked (next a) (k a)

compares_because : {A : Type 0} (n : ℕ) (cause : Cause) (locals : List Local) (o : Outcome A) → ((code : Code) (at : Place) → o ≡ plain.Refused code at → IsCompared n cause)
    → Compares n (because cause locals o)
compares_because n cause locals plain.NoAnswer c = tt
compares_because n cause locals (plain.Refused code at) c = c code at refl
compares_because n cause locals (plain.Found value asked) c = tt

-- a cause that needs no comparison
free : {A : Type 0} (n : ℕ) (cause : Cause) (locals : List Local) (o : Outcome A) → IsCompared n cause → Compares n (because cause locals o)
free n cause locals o is = compares_because n cause locals o (λ code at e. is)

behind_demands : (demands : List Demand) (c : Comparison) (code : Code) (at place : Place) → compared_at place (and_then (Matches demands) c) ≡ plain.Refused code at → c ≡ Mismatch
behind_demands demands Unfinished code at place e = cc
behind_demands demands Mismatch code at place e = refl
behind_demands demands (Matches more) code at place e = cc

at_mismatch : (c : Comparison) (code : Code) (at place : Place) → compared_at place c ≡ plain.Refused code at → c ≡ Mismatch
at_mismatch Unfinished code at place e = cc
at_mismatch Mismatch code at place e = refl
at_mismatch (Matches more) code at place e = cc

module _ (n : ℕ) where
  compares_below : (at : Place) (scene : Scene) (left right : CapturingType) → Compares n (explained_below (limited n) at scene left right)
  compares_below at scene left right =
      compares_because n (WrongType scene left right) scene.locals (below (comparison n) at scene.context left right)
      (λ code place e. behind_demands (demanded scene.context left.set right.set ∷ []) (comparison n scene.context left.shape right.shape) code place at e)

  compares_against : (at : Place) (scene : Scene) (left right : Shape) → Compares n (explained_against (limited n) at scene left right)
  compares_against at scene left right =
      compares_because n (WrongShape scene left right) scene.locals (against (comparison n) at scene.context left right)
      (λ code place e. at_mismatch (comparison n scene.context left right) code place at e)

  compares_typed : (scene : Scene) (v : Var) → Compares n (typed scene v)
  compares_typed scene v = free n NothingThere scene.locals _ tt

  compares_operand : (at : Place) (scene : Scene) (v : Var) (s : Shape) → Compares n (explained_operand (limited n) at scene v s)
  compares_operand at scene v s = compares_then n (typed scene v) _ (compares_typed scene v) (λ t. compares_against at scene t.shape s)

  compares_argument : (at : Place) (scene : Scene) (base : Option Base) (v : Option Var) → Compares n (explained_argument (limited n) at scene base v)
  compares_argument at scene (Some base) (Some v) = compares_operand at scene v _
  compares_argument at scene (Some base) None = tt
  compares_argument at scene None (Some v) = tt
  compares_argument at scene None None = tt

  compares_note : (root : ℕ) (at : Place) (scene : Scene) (note : Note) (t : CapturingType) → Compares n (explained_note (limited n) root at scene note t)
  compares_note root at scene Absent t = tt
  compares_note root at scene (Written s c) t = compares_then n _ _ (compares_below at scene t _) (λ _. tt)
  compares_note root at scene (Own s) t = compares_then n _ _ (compares_against at scene t.shape _) (λ _. tt)

  compares_part_below : (at : Place) (scene : Scene) (t : CapturingType) (o : Explained Result) → Compares n o → Compares n (explained_part_below (limited n) at scene t o)
  compares_part_below at scene t o c = compares_then n o _ c (λ p. compares_then n _ _ (compares_below at scene p.type t) (λ _. tt))

  compares_part_against : (at : Place) (scene : Scene) (x : Shape) (o : Explained Result) → Compares n o → Compares n (explained_part_against (limited n) at scene x o)
  compares_part_against at scene x o c = compares_then n o _ c (λ p. compares_then n _ _ (compares_against at scene p.type.shape x) (λ _. tt))

  compares_size : (places : Places) (scene : Scene) (o : Explained Result) → Compares n o → Compares n (explained_size (limited n) places scene o)
  compares_size places scene o c = compares_then n o _ c (λ r. free n (TooLarge scene r.type) scene.locals _ tt)

  compares_term : (t : Term) (root : ℕ) (scene : Scene) (places : Places) (names : BinderNames) → Compares n (explained (limited n) root scene t places names)
  compares_term (VariableTerm v) root scene places names = compares_size places scene _ (compares_then n _ _ (compares_typed scene v) (λ r. tt))
  compares_term (LiteralTerm l) root scene places names = compares_size places scene _ tt
  compares_term (FunctionTerm takes c body) root scene places names =
      compares_size places scene _ (compares_then n _ _ (compares_term body root _ (first_part places) (first_names names)) (λ r. tt))
  compares_term (TypeFunctionTerm bound body) root scene places names =
      compares_size places scene _ (compares_then n _ _ (compares_term body root _ (first_part places) (first_names names)) (λ r. tt))
  compares_term (BoxTerm v) root scene places names = compares_size places scene _ (compares_then n _ _ (compares_typed scene v) (λ r. tt))
  compares_term (Application v w) root scene places names =
      compares_size places scene _
      (compares_then n _ _ (compares_typed scene v) (λ f. compares_then n _ _ (free n (WrongHead scene _ _) scene.locals _ tt) (λ h. compares_then n _ _ (compares_typed scene w) (λ a. compares_then n _ _ (compares_below _ scene _ _) (λ _. tt)))))
  compares_term (TypeApplication v s) root scene places names =
      compares_size places scene _
      (compares_then n _ _ (compares_typed scene v) (λ f. compares_then n _ _ (free n (WrongHead scene _ _) scene.locals _ tt) (λ h. compares_then n _ _ (compares_against _ scene _ _) (λ _. tt))))
  compares_term (Unboxing set v) root scene places names =
      compares_size places scene _
      (compares_then n _ _ (compares_typed scene v) (λ f. compares_then n _ _ (free n (WrongHead scene _ _) scene.locals _ tt) (λ h. compares_then n _ _ (free n NothingThere scene.locals _ tt) (λ a. compares_then n _ _ (free {A = Unit {0}} n NothingThere scene.locals (capless (spots places).second a) tt) (λ _. tt)))))
  compares_term (Let note s t) root scene places names =
      compares_size places scene _
      (compares_then n _ _ (compares_term s root scene (first_part places) (first_names names)) (λ r. compares_then n _ _ (compares_note root _ scene note _) (λ m. compares_then n _ _ (compares_term t root _ (second_part places) (second_names names)) (λ r'. compares_then n _ _ (free n (Unavoidable _ _ _) scene.locals _ tt) (λ _. tt)))))
  compares_term (Primitive o v w) root scene places names =
      compares_size places scene _ (compares_then n _ _ (compares_operand _ scene v _) (λ _. compares_then n _ _ (compares_operand _ scene w _) (λ _. tt)))
  compares_term (Conditional Absent v s t) root scene places names = tt
  compares_term (Conditional (Written x c) v s t) root scene places names =
      compares_size places scene _
      (compares_then n _ _ (compares_operand _ scene v _) (λ _. compares_then n _ _ (compares_part_below _ scene _ _ (compares_term s root scene (first_part places) (first_names names))) (λ r. compares_then n _ _ (compares_part_below _ scene _ _ (compares_term t root scene (second_part places) (second_names names))) (λ r'. tt))))
  compares_term (Conditional (Own x) v s t) root scene places names =
      compares_size places scene _
      (compares_then n _ _ (compares_operand _ scene v _) (λ _. compares_then n _ _ (compares_part_against _ scene _ _ (compares_term s root scene (first_part places) (first_names names))) (λ r. compares_then n _ _ (compares_part_against _ scene _ _ (compares_term t root scene (second_part places) (second_names names))) (λ r'. tt))))
  compares_term (Repetition v w) root scene places names =
      compares_size places scene _ (compares_then n _ _ (compares_operand _ scene v _) (λ _. compares_then n _ _ (compares_operand _ scene w _) (λ _. tt)))
  compares_term (Operation o v w) root scene places names =
      compares_size places scene _
      (compares_then n _ _ (compares_typed scene v) (λ d. compares_then n _ _ (free n (WrongHead scene _ _) scene.locals _ tt) (λ _. compares_then n _ _ (compares_argument _ scene _ w) (λ _. tt))))
  compares_term (Boundary s t) root scene places names =
      compares_size places scene _ (compares_then n _ _ (compares_part_below _ _ _ _ (compares_term t root _ (first_part places) (first_names names))) (λ r. tt))
  compares_term (Leave s c v w) root scene places names =
      compares_size places scene _
      (compares_then n _ _ (compares_typed scene v) (λ l. compares_then n _ _ (free n (WrongHead scene _ _) scene.locals _ tt) (λ h. compares_then n _ _ (compares_typed scene w) (λ a. compares_then n _ _ (compares_below _ scene _ _) (λ _. tt)))))

-- why a type has no signature needs no comparison
unsigned_among_compared : (n : ℕ) (globals these : Context) (type : CapturingType) → IsCompared n (unsigned_among globals these type)
unsigned_among_compared n globals [] type = tt
unsigned_among_compared n globals (newest ∷ older) type =
    by (avoided_type Positive (length older) (declared_set newest) type) (λ rest. unsigned_among_compared n globals older rest)
  where
    by : (o : Option CapturingType) → ((rest : CapturingType) → IsCompared n (unsigned_among globals older rest))
        → IsCompared n (none_or o (Unavoidable (outermost globals) (length older) type) (λ rest. unsigned_among globals older rest))
    by (Some rest) later = later rest
    by None later = tt

pub unsigned_compared : (n : ℕ) (globals : Context) (type : CapturingType) → IsCompared n (unsigned_cause globals type)
unsigned_compared n globals type = unsigned_among_compared n globals globals type

module _ (n devices : ℕ) (globals : Context) (definition : Definition) (names : BinderNames) where
  compares_plain : Compares n (explained_plain (limited n) globals definition names)
  compares_plain =
      compares_then n _ _ (compares_term n definition.right (length globals) (outermost globals) definition.places names)
      (λ r. compares_then n _ _ (compares_note n (length globals) (spots definition.places).at (outermost globals) definition.note r.type) (λ m. tt))

  compares_recursion : (signature : CapturingType) → Compares n (explained_recursion (limited n) globals definition names signature)
  compares_recursion signature =
      compares_then n _ _ (compares_term n definition.right (suc (length globals)) (outermost (entry_of signature ∷ globals)) definition.places names)
      (λ r. compares_then n _ _ (compares_below n (spots definition.places).at (outermost (entry_of signature ∷ globals)) r.type signature) (λ _. tt))

  compares_recursive : (note : Note) → Compares n (explained_recursive (limited n) devices globals definition names note)
  compares_recursive (Written s c) =
      compares_then n _ _ (free n (unsigned_cause globals (capturing s c)) [] (found_or E17 definition.name_at (signature_of devices globals (capturing s c))) (unsigned_compared n globals (capturing s c)))
      (λ signature. compares_recursion signature)
  compares_recursive Absent = tt
  compares_recursive (Own s) = tt

  pub compares_definition : Compares n (explained_definition (limited n) devices globals definition names)
  compares_definition = by definition.recursive
    where
      by : (b : Bool)
          → Compares n (cond b (explained_recursive (limited n) devices globals definition names definition.note) (explained_plain (limited n) globals definition names))
      by true = compares_recursive definition.note
      by false = compares_plain

-- what a definition is refused for by a step is compared in those steps
pub refused_compares : (n : ℕ) (o : Explained Checking) (cause : Cause) (at : Place) → Compares n o → o ≡ Refused cause at → IsCompared n cause
refused_compares n o cause at compares is = subst (Compares n) is compares
