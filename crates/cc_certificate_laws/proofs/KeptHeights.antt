-- The completed and filled right side of a definition has the height and the literals of what was checked.
use Rattle.std.proofs.Common.{◌≡◌, ℕ, suc, List, refl, ap}
use Rattle.std.specs.Prelude.{max}
use Rattle.cc_core.specs.Shapes.{Shape, CapturingType}
use Rattle.cc_core.specs.Terms.{Note, Absent, Written, Own, Term, VariableTerm, LiteralTerm, FunctionTerm, TypeFunctionTerm, BoxTerm, Application, TypeApplication, Unboxing, Let, Primitive, Conditional, Repetition, Operation, Boundary, Leave}
use Rattle.cc_core.specs.Contexts.{Context}
use Rattle.cc_core.specs.Traversal.{act, act_note, act_term}
use Rattle.cc_core.specs.Substitution.{filling_in}
use Rattle.cc_checking.specs.Fillings.{Filling}
use Rattle.cc_checking.specs.Inference.{Result, Named}
use Rattle.cc_checking.specs.Outcomes.{Asked}
use Rattle.cc_checking_laws.proofs.Findings.{Notes, notes-absent, notes-written, notes-own, Finds, finds-variable, finds-literal, finds-function, finds-type_function, finds-box, finds-application, finds-type_application, finds-unboxing, finds-unboxing_own, finds-let, finds-primitive, finds-choice, finds-choice_own, finds-repetition, finds-operation, finds-operation_alone, finds-boundary, finds-exit}
use Rattle.cc_certificate_text.specs.Heights.{shape_height, note_height, term_height}
use Rattle.cc_certificate_laws.specs.DefinitionLaws.{HasWrittenLiterals}
use Rattle.cc_certificate_laws.proofs.BareShapes.{same_height, filled_alike}

-- completing
pub note_height-noted : {root : ℕ} {g : Context} {note : Note} {t : CapturingType} {m : Named} {ps : List Asked}
    → Notes root g note t m ps
    → note_height m.note ≡ note_height note
note_height-noted notes-absent = refl
note_height-noted (notes-written b) = refl
note_height-noted (notes-own b) = refl

pub term_height-completed : {root : ℕ} {g : Context} {t : Term} {r : Result} {qs : List Asked} → Finds root g t r qs
    → term_height r.completed ≡ term_height t
term_height-completed (finds-variable h) = refl
term_height-completed finds-literal = refl
term_height-completed (finds-function {takes = takes} b) =
    ap (λ n. suc (max (shape_height takes) n)) (term_height-completed b)
term_height-completed (finds-type_function {bound = bound} b) =
    ap (λ n. suc (max (shape_height bound) n)) (term_height-completed b)
term_height-completed (finds-box h) = refl
term_height-completed (finds-application h e k d) = refl
term_height-completed (finds-type_application h e d) = refl
term_height-completed (finds-unboxing h e) = refl
term_height-completed (finds-unboxing_own h e) = refl
term_height-completed (finds-let a notes b avoids) =
    let m = note_height-noted notes in
    let p = term_height-completed a in
    let q = term_height-completed b in
    λ i. suc (max (m i) (max (p i) (q i)))
term_height-completed (finds-primitive a b) = refl
term_height-completed (finds-choice {x = x} o a p b q) =
    let one = term_height-completed a in
    let two = term_height-completed b in
    λ i. suc (max (shape_height x) (max (one i) (two i)))
term_height-completed (finds-choice_own {x = x} o a p b q) =
    let one = term_height-completed a in
    let two = term_height-completed b in
    λ i. suc (max (shape_height x) (max (one i) (two i)))
term_height-completed (finds-repetition a b) = refl
term_height-completed (finds-operation h e t o) = refl
term_height-completed (finds-operation_alone h e t) = refl
term_height-completed (finds-boundary {x = x} a b) = ap (λ n. suc (max (shape_height x) n)) (term_height-completed a)
term_height-completed (finds-exit h e k d) = refl

pub literals_completed : {root : ℕ} {g : Context} {t : Term} {r : Result} {qs : List Asked} → Finds root g t r qs
    → HasWrittenLiterals t → HasWrittenLiterals r.completed
literals_completed (finds-variable h) k = k
literals_completed finds-literal k = k
literals_completed (finds-function b) k = literals_completed b k
literals_completed (finds-type_function b) k = literals_completed b k
literals_completed (finds-box h) k = k
literals_completed (finds-application h e x d) k = k
literals_completed (finds-type_application h e d) k = k
literals_completed (finds-unboxing h e) k = k
literals_completed (finds-unboxing_own h e) k = k
literals_completed (finds-let a notes b avoids) k = (literals_completed a k.0, literals_completed b k.1)
literals_completed (finds-primitive a b) k = k
literals_completed (finds-choice o a p b q) k = (literals_completed a k.0, literals_completed b k.1)
literals_completed (finds-choice_own o a p b q) k = (literals_completed a k.0, literals_completed b k.1)
literals_completed (finds-repetition a b) k = k
literals_completed (finds-operation h e t o) k = k
literals_completed (finds-operation_alone h e t) k = k
literals_completed (finds-boundary a b) k = literals_completed a k
literals_completed (finds-exit h e x d) k = k

-- filling
pub shape_height-filled : (f : Filling) (d : ℕ) (s : Shape) → shape_height (act (filling_in f) d s) ≡ shape_height s
shape_height-filled f d s = same_height (act (filling_in f) d s) s (filled_alike f d s)

pub note_height-filled : (f : Filling) (d : ℕ) (n : Note) → note_height (act_note (filling_in f) d n) ≡ note_height n
note_height-filled f d Absent = refl
note_height-filled f d (Written s c) = shape_height-filled f d s
note_height-filled f d (Own s) = shape_height-filled f d s

pub term_height-filled : (f : Filling) (d : ℕ) (t : Term) → term_height (act_term (filling_in f) d t) ≡ term_height t
term_height-filled f d (VariableTerm v) = refl
term_height-filled f d (LiteralTerm l) = refl
term_height-filled f d (FunctionTerm s c t) =
    λ i. suc (max (shape_height-filled f d s i) (term_height-filled f (suc d) t i))
term_height-filled f d (TypeFunctionTerm s t) =
    λ i. suc (max (shape_height-filled f d s i) (term_height-filled f (suc d) t i))
term_height-filled f d (BoxTerm v) = refl
term_height-filled f d (Application v w) = refl
term_height-filled f d (TypeApplication v s) = λ i. suc (shape_height-filled f d s i)
term_height-filled f d (Unboxing o v) = refl
term_height-filled f d (Let n s t) =
    λ i. suc (max (note_height-filled f d n i) (max (term_height-filled f d s i) (term_height-filled f (suc d) t i)))
term_height-filled f d (Primitive o v w) = refl
term_height-filled f d (Conditional n v s t) =
    λ i. suc (max (note_height-filled f d n i) (max (term_height-filled f d s i) (term_height-filled f d t i)))
term_height-filled f d (Repetition v w) = refl
term_height-filled f d (Operation o v w) = refl
term_height-filled f d (Boundary s t) = λ i. suc (max (shape_height-filled f d s i) (term_height-filled f (suc d) t i))
term_height-filled f d (Leave s c v w) = λ i. suc (shape_height-filled f d s i)

pub literals_filled : (f : Filling) (d : ℕ) (t : Term) → HasWrittenLiterals t
    → HasWrittenLiterals (act_term (filling_in f) d t)
literals_filled f d (VariableTerm v) k = k
literals_filled f d (LiteralTerm l) k = k
literals_filled f d (FunctionTerm s c t) k = literals_filled f (suc d) t k
literals_filled f d (TypeFunctionTerm s t) k = literals_filled f (suc d) t k
literals_filled f d (BoxTerm v) k = k
literals_filled f d (Application v w) k = k
literals_filled f d (TypeApplication v s) k = k
literals_filled f d (Unboxing o v) k = k
literals_filled f d (Let n s t) k = (literals_filled f d s k.0, literals_filled f (suc d) t k.1)
literals_filled f d (Primitive o v w) k = k
literals_filled f d (Conditional n v s t) k = (literals_filled f d s k.0, literals_filled f d t k.1)
literals_filled f d (Repetition v w) k = k
literals_filled f d (Operation o v w) k = k
literals_filled f d (Boundary s t) k = literals_filled f (suc d) t k
literals_filled f d (Leave s c v w) k = k
