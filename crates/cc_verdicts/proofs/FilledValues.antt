-- What is filled in leaves a right side what it is: a value, and a function.
use Rattle.std.proofs.Common.{◌≡◌, ℕ, suc, Bool, true, false, cond, List, ◌∷◌, length, refl, ap, ◌∙◌}
use Rattle.cc_core.specs.Contexts.{Context, entry_of}
use Rattle.cc_core.specs.Shapes.{CapturingType}
use Rattle.cc_core.specs.Substitution.{filled_term}
use Rattle.cc_core.specs.Terms.{Note, Absent, Written, Own, Term, VariableTerm, LiteralTerm, FunctionTerm, TypeFunctionTerm, BoxTerm, Application, TypeApplication, Unboxing, Let, Primitive, Conditional, Repetition, Operation, Boundary, Leave}
use Rattle.cc_checking.specs.Fillings.{Filling}
use Rattle.cc_checking.specs.Inference.{Result, limited}
use Rattle.cc_checking.specs.Outcomes.{Asked, Placed, Found}
use Rattle.cc_checking.specs.Verdicts.{Definition, Checking, plain_checked, recursive_checked, Accepted, IsAccepted, HasVerdict}
use Rattle.cc_checking_laws.proofs.CheckedDefinitions.{accepted_parts}
use Rattle.cc_checking_laws.proofs.Findings.{Finds, finds-variable, finds-literal, finds-function, finds-type_function, finds-box, finds-application, finds-type_application, finds-unboxing, finds-unboxing_own, finds-let, finds-primitive, finds-choice, finds-choice_own, finds-repetition, finds-operation, finds-operation_alone, finds-boundary, finds-exit}
use Rattle.cc_checking_laws.proofs.FoundFindings.{asked_of, Came, then_came, finds_came, found_finds}
use Rattle.cc_mnf.specs.ElaboratedModules.{is_right_side}

-- what is found for a term is of the term's form
found_right : (b : Bool) {root : ℕ} {g : Context} {t : Term} {r : Result} {qs : List Asked} → Finds root g t r qs
    → is_right_side b r.completed ≡ is_right_side b t
found_right b (finds-variable h) = refl
found_right b finds-literal = refl
found_right b (finds-function f) = refl
found_right b (finds-type_function f) = refl
found_right b (finds-box h) = refl
found_right b (finds-application h e k d) = refl
found_right b (finds-type_application h e d) = refl
found_right b (finds-unboxing h e) = refl
found_right b (finds-unboxing_own h e) = refl
found_right b (finds-let f n k e) = refl
found_right b (finds-primitive o p) = refl
found_right b (finds-choice o f d k e) = refl
found_right b (finds-choice_own o f d k e) = refl
found_right b (finds-repetition o p) = refl
found_right b (finds-operation h e t o) = refl
found_right b (finds-operation_alone h e t) = refl
found_right b (finds-boundary f d) = refl
found_right b (finds-exit h e k d) = refl

-- a filled term is of the term's form
filled_right : (b : Bool) (f : Filling) (t : Term) → is_right_side b (filled_term f t) ≡ is_right_side b t
filled_right b f (VariableTerm v) = refl
filled_right b f (LiteralTerm l) = refl
filled_right b f (FunctionTerm takes c body) = refl
filled_right b f (TypeFunctionTerm bound body) = refl
filled_right b f (BoxTerm v) = refl
filled_right b f (Application v w) = refl
filled_right b f (TypeApplication v s) = refl
filled_right b f (Unboxing o v) = refl
filled_right b f (Let n s t) = refl
filled_right b f (Primitive o v w) = refl
filled_right b f (Conditional n v s t) = refl
filled_right b f (Repetition v w) = refl
filled_right b f (Operation o v w) = refl
filled_right b f (Boundary s t) = refl
filled_right b f (Leave s c v w) = refl

plain_right : (b : Bool) (n : ℕ) (g : Context) (d : Definition) (found : Checking) (qs : List Asked)
    → Came (plain_checked (limited n) g d) found qs → is_right_side b found.completed ≡ is_right_side b d.right
plain_right b n g d found qs came =
    let k = then_came came in
    let k2 = then_came k.rest in
    let fin = finds_came k2.rest in
    ap (λ (x : Checking). is_right_side b x.completed) fin.0
    ∙ found_right b (found_finds n (length g) (limited n).passes d.right g d.places k.came)

recursive_right : (b : Bool) (n devices : ℕ) (g : Context) (d : Definition) (note : Note) (found : Checking) (qs : List Asked)
    → Came (recursive_checked (limited n) devices g d note) found qs
    → is_right_side b found.completed ≡ is_right_side b d.right
recursive_right b n devices g d Absent found qs (list, e, q) = cc
recursive_right b n devices g d (Own s) found qs (list, e, q) = cc
recursive_right b n devices g d (Written s c) found qs came =
    let k = then_came came in
    let k2 = then_came k.rest in
    let k3 = then_came k2.rest in
    let fin = finds_came k3.rest in
    let sig : CapturingType = k.value in
    ap (λ (x : Checking). is_right_side b x.completed) fin.0
    ∙ found_right b (found_finds n (suc (length g)) (limited n).passes d.right (entry_of sig ∷ g) d.places k2.came)

right_by : (b recursive : Bool) (n devices : ℕ) (g : Context) (d : Definition) (found : Checking) (list : List Placed)
    → cond recursive (recursive_checked (limited n) devices g d d.note) (plain_checked (limited n) g d) ≡ Found found list
    → is_right_side b found.completed ≡ is_right_side b d.right
right_by b true n devices g d found list is = recursive_right b n devices g d d.note found (asked_of list) (list, is, refl)
right_by b false n devices g d found list is = plain_right b n g d found (asked_of list) (list, is, refl)

-- the filled right side of an accepted definition is of the form of its right side
pub accepted_right : (b : Bool) (devices : ℕ) (g : Context) (d : Definition) (accepted : Accepted)
    → HasVerdict devices g d (IsAccepted accepted) → is_right_side b accepted.filled ≡ is_right_side b d.right
accepted_right b devices g d accepted has =
    let p = accepted_parts devices g d accepted has in
    ap (λ (x : Accepted). is_right_side b x.filled) p.accepts
    ∙ filled_right b p.filling p.found.completed
    ∙ right_by b d.recursive p.steps devices g d p.found p.asked p.is
