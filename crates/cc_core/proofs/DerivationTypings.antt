-- Derivations of typing are the judgements.
use Rattle.std.proofs.Common.{◌≡◌, ◌↔◌, zero, ◌∷◌, length, refl, sym, subst}
use Rattle.cc_base.specs.declared.literal.Base.TheVariants as bases
use Rattle.cc_capture.specs.declared.var.Var.TheVariants.{Free}
use Rattle.cc_capture.specs.declared.var.Elem.TheVariants.{Cap}
use Rattle.cc_capture.specs.Sets.{Set, empty}
use Rattle.cc_core.specs.Shapes.{Shape, BaseShape, FunctionShape, TypeFunctionShape, BoxShape, ExitShape, CapturingType, capturing}
use Rattle.cc_core.specs.Terms.{Term, VariableTerm, FunctionTerm, TypeFunctionTerm}
use Rattle.cc_core.specs.Contexts.{TermEntry, TypeEntry, Context}
use Rattle.cc_core.specs.Traversal.{act, act_set}
use Rattle.cc_core.specs.Substitution.{single, putting, putting_shape, opened_term, closed, closed_set}
use Rattle.cc_core.specs.WellFormed.{IsWellFormedContext, IsWellFormedTerm, IsWellFormedType}
use Rattle.cc_core.specs.Captured.{captured_variables, variable_set}
use Rattle.cc_core.specs.Typing as typing
use Rattle.cc_core.specs.Typing.{HasTyping, HasType, base_of, base_given, base_answered}
use Rattle.cc_core.specs.Derivations.{t-var, t-lit, t-abs, t-tabs, t-app, t-tapp, t-box, t-unbox, t-let, t-prim, t-if, t-repeat, t-op, t-boundary, t-exit, t-sub, Claim, OfType, Derivation, Node, NoPremise, one, two, three, conclusion, IsValidTyping}
use Rattle.cc_core.specs.DerivationLaws.{HasDerivation}
use Rattle.cc_core.proofs.DerivationComparisons.{comparison_holds, held, shape_comparison, both_below}

-- what a claim says of a term
abbrev HoldsOf : Context → Term → Claim → Type 0
HoldsOf context term (OfType type) = HasTyping context term type.shape type.set
HoldsOf context term _ = ⊥

concluded : (context : Context) {term term' : Term} {claim claim' : Claim} → term ≡ term' → claim ≡ claim' → HoldsOf context term' claim'
    → HoldsOf context term claim
concluded context {term = term} {term' = term'} {claim = claim} {claim' = claim'} same same' holds =
    subst (λ t. HoldsOf context t claim) (sym same) (subst (λ c. HoldsOf context term' c) (sym same') holds)

typed : (context : Context) (term : Term) {claim claim' : Claim} → claim ≡ claim' → HoldsOf context term claim → HoldsOf context term claim'
typed context term same holds = subst (HoldsOf context term) same holds

typing_holds : (derivation : Derivation) (context : Context) (term : Term) → IsValidTyping context term derivation → HoldsOf context term (conclusion derivation)
typing_holds (Node t-var NoPremise claim) context term h = concluded context h.3 h.5 (typing.t-var h.4)
typing_holds (Node t-lit NoPremise claim) context term h = concluded context h.1 h.2 (typing.t-lit {literal = h.0})
typing_holds (Node t-abs (one p) claim) context term h =
    let inner : Context = TermEntry h.0 h.1 ∷ context in
    let body : Term = opened_term (length context) h.4 in
    let body_typed : HasTyping inner body h.2 h.3 = typed inner body h.8 (typing_holds p inner body h.7) in
    concluded context h.5 h.9 (typing.t-abs h.6 body_typed)
typing_holds (Node t-tabs (one p) claim) context term h =
    let inner : Context = TypeEntry h.0 ∷ context in
    let body : Term = opened_term (length context) h.3 in
    let body_typed : HasTyping inner body h.1 h.2 = typed inner body h.7 (typing_holds p inner body h.6) in
    concluded context h.4 h.8 (typing.t-tabs h.5 body_typed)
typing_holds (Node t-app (two p q) claim) context term h =
    let head : HasTyping context (VariableTerm h.0) (FunctionShape h.2 h.3 h.4 h.5) h.6 = typed context (VariableTerm h.0) h.9 (typing_holds p context (VariableTerm h.0) h.8) in
    let argument : HasTyping context (VariableTerm h.1) h.2 h.3 = typed context (VariableTerm h.1) h.11 (typing_holds q context (VariableTerm h.1) h.10) in
    concluded context h.7 h.12 (typing.t-app head argument)
typing_holds (Node t-tapp (two p q) claim) context term h =
    let head : HasTyping context (VariableTerm h.0) (TypeFunctionShape h.2 h.3 h.4) h.5 = typed context (VariableTerm h.0) h.8 (typing_holds p context (VariableTerm h.0) h.7) in
    let below = held context h.10 (comparison_holds q context h.9) in
    concluded context h.6 h.12 (typing.t-tapp head below h.11)
typing_holds (Node t-box (one p) claim) context term h =
    let content : HasTyping context (VariableTerm h.0) h.1 h.2 = typed context (VariableTerm h.0) h.5 (typing_holds p context (VariableTerm h.0) h.4) in
    concluded context h.3 h.7 (typing.t-box content h.6)
typing_holds (Node t-unbox (one p) claim) context term h =
    let box : HasTyping context (VariableTerm h.0) (BoxShape h.1 h.2) h.3 = typed context (VariableTerm h.0) h.6 (typing_holds p context (VariableTerm h.0) h.5) in
    concluded context h.4 h.9 (typing.t-unbox box h.7 h.8)
typing_holds (Node t-let (two p q) claim) context term h =
    let right : HasTyping context h.1 h.3 h.4 = typed context h.1 h.9 (typing_holds p context h.1 h.8) in
    let inner : Context = TermEntry h.3 h.4 ∷ context in
    let body : Term = opened_term (length context) h.2 in
    let body_typed : HasTyping inner body h.5 h.6 = typed inner body h.12 (typing_holds q inner body h.11) in
    concluded context h.7 h.15 (typing.t-let right h.10 body_typed h.13 h.14)
typing_holds (Node t-prim (two p q) claim) context term h =
    let left : HasTyping context (VariableTerm h.1) (BaseShape bases.Int) h.3 = typed context (VariableTerm h.1) h.7 (typing_holds p context (VariableTerm h.1) h.6) in
    let right : HasTyping context (VariableTerm h.2) (BaseShape bases.Int) h.4 = typed context (VariableTerm h.2) h.9 (typing_holds q context (VariableTerm h.2) h.8) in
    concluded context h.5 h.10 (typing.t-prim {operator = h.0} left right)
typing_holds (Node t-if (three p q r) claim) context term h =
    let test : HasTyping context (VariableTerm h.0) (BaseShape bases.Bool) h.5 = typed context (VariableTerm h.0) h.8 (typing_holds p context (VariableTerm h.0) h.7) in
    let positive : HasTyping context h.1 h.3 h.4 = typed context h.1 h.10 (typing_holds q context h.1 h.9) in
    let negative : HasTyping context h.2 h.3 h.4 = typed context h.2 h.12 (typing_holds r context h.2 h.11) in
    concluded context h.6 h.13 (typing.t-if test positive negative)
typing_holds (Node t-repeat (two p q) claim) context term h =
    let count : HasTyping context (VariableTerm h.0) (BaseShape bases.Int) h.2 = typed context (VariableTerm h.0) h.6 (typing_holds p context (VariableTerm h.0) h.5) in
    let repeated : HasTyping context (VariableTerm h.1) (FunctionShape (BaseShape bases.Int) empty (BaseShape bases.Unit) empty) h.3 =
    typed context (VariableTerm h.1) h.8 (typing_holds q context (VariableTerm h.1) h.7) in
    concluded context h.4 h.9 (typing.t-repeat count repeated)
typing_holds (Node t-op (two p q) claim) context term h =
    let receiver = typed context (VariableTerm h.1) h.8 (typing_holds p context (VariableTerm h.1) h.7) in
    let argument : HasTyping context (VariableTerm h.2) (BaseShape h.3) h.5 = typed context (VariableTerm h.2) h.11 (typing_holds q context (VariableTerm h.2) h.10) in
    concluded context h.6 h.12 (typing.t-op {operation = h.0} receiver h.9 argument)
typing_holds (Node t-op (one p) claim) context term h =
    let receiver = typed context (VariableTerm h.1) h.5 (typing_holds p context (VariableTerm h.1) h.4) in
    concluded context h.3 h.7 (typing.t-op-alone {operation = h.0} receiver h.6)
typing_holds (Node t-boundary (one p) claim) context term h =
    let inner : Context = TermEntry (ExitShape h.0) (single Cap) ∷ context in
    let body : Term = opened_term (length context) h.1 in
    let body_typed : HasTyping inner body h.0 empty = typed inner body h.5 (typing_holds p inner body h.4) in
    concluded context h.2 h.6 (typing.t-boundary h.3 body_typed)
typing_holds (Node t-exit (two p q) claim) context term h =
    let exit : HasTyping context (VariableTerm h.2) (ExitShape h.4) h.5 = typed context (VariableTerm h.2) h.8 (typing_holds p context (VariableTerm h.2) h.7) in
    let value : HasTyping context (VariableTerm h.3) h.4 empty = typed context (VariableTerm h.3) h.10 (typing_holds q context (VariableTerm h.3) h.9) in
    concluded context h.6 h.12 (typing.t-exit exit value h.11)
typing_holds (Node t-sub (two p q) claim) context term h =
    let inner : HasTyping context term h.0 h.1 = typed context term h.5 (typing_holds p context term h.4) in
    let below = held context h.7 (comparison_holds q context h.6) in
    concluded context {term = term} refl h.9 (typing.t-sub inner below.0 below.1 h.8)
typing_holds _ context term h = absurd h

derivation_of : {context : Context} {term : Term} {shape : Shape} {set : Set} → HasTyping context term shape set → HasDerivation context term (capturing shape set)
derivation_of (typing.t-var {position = position} {shape = shape} {declared = declared} there) =
    (Node t-var NoPremise (OfType (capturing shape (variable_set (Free position)))), (position, shape, declared, refl, there, refl), refl)
derivation_of (typing.t-lit {literal = literal}) =
    (Node t-lit NoPremise (OfType (capturing (BaseShape (base_of literal)) empty)), (literal, refl, refl), refl)
derivation_of (typing.t-abs {context = context} {takes = takes} {gives = gives} {c = c} {e = e} {body = body} formed inner) =
    let p = derivation_of inner in (
      Node t-abs (one p.0) (OfType (capturing (FunctionShape takes c (closed (length context) gives) (closed_set (length context) e)) (captured_variables (FunctionTerm takes c body)))),
      (takes, c, gives, e, body, refl, formed, p.1, p.2, refl),
      refl,
    )
derivation_of (typing.t-tabs {context = context} {bound = bound} {gives = gives} {e = e} {body = body} formed inner) =
    let p = derivation_of inner in (
      Node t-tabs (one p.0) (OfType (capturing (TypeFunctionShape bound (closed (length context) gives) (closed_set (length context) e)) (captured_variables (TypeFunctionTerm bound body)))),
      (bound, gives, e, body, refl, formed, p.1, p.2, refl),
      refl,
    )
derivation_of (typing.t-app {function = function} {argument = argument} {takes = takes} {gives = gives} {c = c} {d = d} {e = e} head operand) =
    let p = derivation_of head in
    let q = derivation_of operand in (
      Node t-app (two p.0 q.0) (OfType (capturing (act (putting argument) zero gives) (act_set (putting argument) zero e))),
      (function, argument, takes, c, gives, e, d, refl, p.1, p.2, q.1, q.2, refl),
      refl,
    )
derivation_of (typing.t-tapp {function = function} {bound = bound} {gives = gives} {argument = argument} {d = d} {e = e} head below formed) =
    let p = derivation_of head in
    let q = shape_comparison below in (
      Node t-tapp (two p.0 q.0) (OfType (capturing (act (putting_shape argument) zero gives) (act_set (putting_shape argument) zero e))),
      (function, argument, bound, gives, e, d, refl, p.1, p.2, q.1, q.2, formed, refl),
      refl,
    )
derivation_of (typing.t-box {content = content} {shape = shape} {c = c} inner no_cap) =
    let p = derivation_of inner in
    (Node t-box (one p.0) (OfType (capturing (BoxShape shape c) empty)), (content, shape, c, refl, p.1, p.2, no_cap, refl), refl)
derivation_of (typing.t-unbox {box = box} {shape = shape} {c = c} {d = d} inner formed no_cap) =
    let p = derivation_of inner in
    (Node t-unbox (one p.0) (OfType (capturing shape c)), (box, shape, c, d, refl, p.1, p.2, formed, no_cap, refl), refl)
derivation_of (typing.t-let {note = note} {right = right} {body = body} {bound = bound} {shape = shape} {c = c} {e = e} first noted second apart apart_set) =
    let p = derivation_of first in
    let q = derivation_of second in (
      Node t-let (two p.0 q.0) (OfType (capturing shape e)),
      (note, right, body, bound, c, shape, e, refl, p.1, p.2, noted, q.1, q.2, apart, apart_set, refl),
      refl,
    )
derivation_of (typing.t-prim {operator = operator} {left = left} {right = right} {d = d} {d' = d'} first second) =
    let p = derivation_of first in
    let q = derivation_of second in (
      Node t-prim (two p.0 q.0) (OfType (capturing (BaseShape (base_given operator)) empty)),
      (operator, left, right, d, d', refl, p.1, p.2, q.1, q.2, refl),
      refl,
    )
derivation_of (typing.t-if {test = test} {positive = positive} {negative = negative} {shape = shape} {c = c} {d = d} tested first second) =
    let p = derivation_of tested in
    let q = derivation_of first in
    let r = derivation_of second in (
      Node t-if (three p.0 q.0 r.0) (OfType (capturing shape c)),
      (test, positive, negative, shape, c, d, refl, p.1, p.2, q.1, q.2, r.1, r.2, refl),
      refl,
    )
derivation_of (typing.t-repeat {count = count} {function = function} {d = d} {d' = d'} first second) =
    let p = derivation_of first in
    let q = derivation_of second in (
      Node t-repeat (two p.0 q.0) (OfType (capturing (BaseShape bases.Unit) empty)),
      (count, function, d, d', refl, p.1, p.2, q.1, q.2, refl),
      refl,
    )
derivation_of (typing.t-op {operation = operation} {receiver = receiver} {argument = argument} {taken = taken} {d = d} {d' = d'} first takes second) =
    let p = derivation_of first in
    let q = derivation_of second in (
      Node t-op (two p.0 q.0) (OfType (capturing (BaseShape (base_answered operation)) empty)),
      (operation, receiver, argument, taken, d, d', refl, p.1, p.2, takes, q.1, q.2, refl),
      refl,
    )
derivation_of (typing.t-op-alone {operation = operation} {receiver = receiver} {d = d} first takes) =
    let p = derivation_of first in (
      Node t-op (one p.0) (OfType (capturing (BaseShape (base_answered operation)) empty)),
      (operation, receiver, d, refl, p.1, p.2, takes, refl),
      refl,
    )
derivation_of (typing.t-boundary {gives = gives} {body = body} formed inner) =
    let p = derivation_of inner in
    (Node t-boundary (one p.0) (OfType (capturing gives empty)), (gives, body, refl, formed, p.1, p.2, refl), refl)
derivation_of (typing.t-exit {exit = exit} {value = value} {gives = gives} {shape = shape} {c = c} {d = d} first second formed) =
    let p = derivation_of first in
    let q = derivation_of second in (
      Node t-exit (two p.0 q.0) (OfType (capturing gives c)),
      (gives, c, exit, value, shape, d, refl, p.1, p.2, q.1, q.2, formed, refl),
      refl,
    )
derivation_of (typing.t-sub {context = context} {term = term} {shape = shape} {shape' = shape'} {c = c} {c' = c'} inner sets shapes formed) =
    let p = derivation_of inner in
    let q = both_below context shape shape' c c' sets (shape_comparison shapes) in (
      Node t-sub (two p.0 q.0) (OfType (capturing shape' c')),
      (shape, c, shape', c', p.1, p.2, q.1, q.2, formed, refl),
      refl,
    )

typing_of : (context : Context) (term : Term) (type : CapturingType) → HasDerivation context term type → HasTyping context term type.shape type.set
typing_of context term type derived = typed context term derived.2 (typing_holds derived.0 context term derived.1)

pub typing_derivations : (context : Context) (term : Term) (shape : Shape) (set : Set)
    → HasTyping context term shape set ↔ HasDerivation context term (capturing shape set)
typing_derivations context term shape set = (derivation_of, typing_of context term (capturing shape set))

pub type_has_derivations : (context : Context) (term : Term) (type : CapturingType)
    → HasType context term type
    ↔ (IsWellFormedContext context × IsWellFormedTerm context term × IsWellFormedType context type × HasDerivation context term type)
type_has_derivations context term type = (
  λ has. (has.context_formed, has.term_formed, has.type_formed, derivation_of has.typing),
  λ parts. record { context_formed = parts.0; term_formed = parts.1; type_formed = parts.2; typing = typing_of context term type parts.3 },
)
