-- The right side of an accepted definition is filled in.
use Rattle.std.proofs.Common.{◌≡◌, ℕ, suc, Bool, true, false, cond, List, ◌∷◌, length, Some, refl, sym, ap, subst, inl, inr}
use Rattle.cc_capture.specs.declared.var.Elem.TheVariants.{Hole}
use Rattle.cc_capture.specs.Sets.{Set, Member}
use Rattle.cc_core.specs.Contexts.{Context, entry_of}
use Rattle.cc_core.specs.Holes.{HasHoleAloneOrNone, NoteHasNoHole, HolesAreOfParameters}
use Rattle.cc_core.specs.Occurrences.{Meets, without_holes, HasNoHole, HasNoHoleInSet}
use Rattle.cc_core.specs.Shapes.{Shape, BaseShape, AnyShape, TypeVariable, FunctionShape, TypeFunctionShape, BoxShape, ExitShape, CapturingType}
use Rattle.cc_core.specs.Substitution.{filling_in, filled_term}
use Rattle.cc_core.specs.Terms.{Note, Absent, Written, Own, Term, FunctionTerm, TypeFunctionTerm, TypeApplication, Boundary, Leave}
use Rattle.cc_core.specs.Traversal.{act, act_set, act_note, act_term}
use Rattle.cc_core.proofs.Moving.{Member-single_itself}
use Rattle.cc_core.proofs.Sorts.{SetSort, ShapeSort}
use Rattle.cc_filled.specs.FilledTerms.{FillsSet, FillsNote, IsFilledAs, fills-variable, fills-literal, fills-function, fills-type_function, fills-box, fills-application, fills-type_application, fills-unboxing, fills-let, fills-primitive, fills-choice, fills-repetition, fills-operation, fills-boundary, fills-exit}
use Rattle.cc_checking.specs.Fillings.{Filling}
use Rattle.cc_checking.specs.Inference.{Result, Named, limited}
use Rattle.cc_checking.specs.Outcomes.{Asked, Placed, Found}
use Rattle.cc_checking.specs.Verdicts.{Definition, Checking, plain_checked, recursive_checked, Accepted, IsAccepted, HasVerdict}
use Rattle.cc_checking_laws.proofs.CheckedDefinitions.{accepted_parts}
use Rattle.cc_checking_laws.proofs.Findings.{Notes, notes-absent, notes-written, notes-own, Finds, finds-variable, finds-literal, finds-function, finds-type_function, finds-box, finds-application, finds-type_application, finds-unboxing, finds-unboxing_own, finds-let, finds-primitive, finds-choice, finds-choice_own, finds-repetition, finds-operation, finds-operation_alone, finds-boundary, finds-exit}
use Rattle.cc_checking_laws.proofs.FoundFindings.{asked_of, Came, then_came, finds_came, found_finds}
use Rattle.cc_checking_laws.proofs.LeastFillings.{filled-still}

-- PARTS

-- a shape without holes has none under whatever binders
none_at : (d e : ℕ) (s : Shape) → Meets without_holes d s → Meets without_holes e s
none_at d e (BaseShape b) h = tt
none_at d e AnyShape h = tt
none_at d e (TypeVariable v) h = tt
none_at d e (FunctionShape t c u x) h =
    (none_at d e t h.0, h.1, none_at (suc d) (suc e) u h.2, h.3)
none_at d e (TypeFunctionShape b u x) h = (none_at d e b h.0, none_at (suc d) (suc e) u h.1, h.2)
none_at d e (BoxShape t c) h = (none_at d e t h.0, h.1)
none_at d e (ExitShape t) h = none_at d e t h

shape_stays : (f : Filling) (d : ℕ) (s : Shape) → HasNoHole s → act (filling_in f) d s ≡ s
shape_stays f d s h = filled-still ShapeSort f d s (none_at 0 d s h)

set_stays : (f : Filling) (d : ℕ) (c : Set) → HasNoHoleInSet c → act_set (filling_in f) d c ≡ c
set_stays f d c h = filled-still SetSort f d c h

set_fills : (f : Filling) (d : ℕ) (c : Set) → HasHoleAloneOrNone c → FillsSet c (act_set (filling_in f) d c)
set_fills f d c (inl none) = inr (sym (set_stays f d c none))
set_fills f d c (inr alone) =
    inl (alone.0, subst (Member (Hole alone.0)) (sym alone.1) (Member-single_itself (Hole alone.0)))

written_fills : (f : Filling) (d : ℕ) (s : Shape) (c : Set) → HasNoHole s → HasNoHoleInSet c
    → FillsNote (Written s c) (act_note (filling_in f) d (Written s c))
written_fills f d s c h k =
    let p = shape_stays f d s h in
    let q = set_stays f d c k in
    λ i. Written (p i) (q i)

own_fills : (f : Filling) (d : ℕ) (s : Shape) (c : Set) → HasNoHole s
    → FillsNote (Own s) (act_note (filling_in f) d (Written s c))
own_fills f d s c h =
    (act_set (filling_in f) d c, ap (λ x. Written x (act_set (filling_in f) d c)) (shape_stays f d s h))

noted_fills : {root : ℕ} {g : Context} {note : Note} {t : CapturingType} {m : Named} {ps : List Asked}
    → Notes root g note t m ps → NoteHasNoHole note → (f : Filling) (d : ℕ)
    → FillsNote note (act_note (filling_in f) d m.note)
noted_fills notes-absent h f d = refl
noted_fills (notes-written {s = s} {c = c} b) h f d = written_fills f d s c h.0 h.1
noted_fills (notes-own {s = s} b) h f d = own_fills f d s _ h

-- TERMS

-- what is found for a term, filled, is the term filled in
pub found_fills : {root : ℕ} {g : Context} {t : Term} {r : Result} {qs : List Asked} → Finds root g t r qs
    → HolesAreOfParameters t → (f : Filling) (d : ℕ) → IsFilledAs t (act_term (filling_in f) d r.completed)
found_fills (finds-variable h) k f d = fills-variable
found_fills finds-literal k f d = fills-literal
found_fills (finds-function {takes = takes} {c = c} {body = body} {r = r} b) k f d =
    subst (λ s. IsFilledAs (FunctionTerm takes c body)
    (FunctionTerm s (act_set (filling_in f) d c) (act_term (filling_in f) (suc d) r.completed)))
    (sym (shape_stays f d takes k.0))
    (fills-function (set_fills f d c k.1) (found_fills b k.2 f (suc d)))
found_fills (finds-type_function {bound = bound} {body = body} {r = r} b) k f d =
    subst (λ s. IsFilledAs (TypeFunctionTerm bound body)
    (TypeFunctionTerm s (act_term (filling_in f) (suc d) r.completed)))
    (sym (shape_stays f d bound k.0))
    (fills-type_function (found_fills b k.1 f (suc d)))
found_fills (finds-box h) k f d = fills-box
found_fills (finds-application h e o q) k f d = fills-application
found_fills (finds-type_application {v = v} {x = x} h e q) k f d =
    subst (λ s. IsFilledAs (TypeApplication v x) (TypeApplication v s)) (sym (shape_stays f d x k)) fills-type_application
found_fills (finds-unboxing {set = set} h e) k f d = fills-unboxing (ap (λ c. Some c) (set_stays f d set k))
found_fills (finds-unboxing_own h e) k f d = fills-unboxing (_, refl)
found_fills (finds-let a notes b avoids) k f d =
    fills-let (noted_fills notes k.0 f d) (found_fills a k.1 f d) (found_fills b k.2 f (suc d))
found_fills (finds-primitive a b) k f d = fills-primitive
found_fills (finds-choice {x = x} {c = c} o a p b q) k f d =
    fills-choice (written_fills f d x c k.0.0 k.0.1) (found_fills a k.1 f d) (found_fills b k.2 f d)
found_fills (finds-choice_own {x = x} o a p b q) k f d =
    fills-choice (own_fills f d x _ k.0) (found_fills a k.1 f d) (found_fills b k.2 f d)
found_fills (finds-repetition a b) k f d = fills-repetition
found_fills (finds-operation h e t o) k f d = fills-operation
found_fills (finds-operation_alone h e t) k f d = fills-operation
found_fills (finds-boundary {x = x} {body = body} {r = r} a b) k f d =
    subst (λ s. IsFilledAs (Boundary x body) (Boundary s (act_term (filling_in f) (suc d) r.completed)))
    (sym (shape_stays f d x k.0))
    (fills-boundary (found_fills a k.1 f (suc d)))
found_fills (finds-exit {x = x} {c = c} {v = v} {w = w} h e o q) k f d =
    let p = shape_stays f d x k.0 in
    let s = set_stays f d c k.1 in
    subst (λ z. IsFilledAs (Leave x c v w) z) (λ i. Leave (sym p i) (sym s i) v w) fills-exit

-- DEFINITIONS

plain_fills : (n : ℕ) (g : Context) (d : Definition) (found : Checking) (qs : List Asked) (f : Filling)
    → HolesAreOfParameters d.right → Came (plain_checked (limited n) g d) found qs
    → IsFilledAs d.right (filled_term f found.completed)
plain_fills n g d found qs f k came =
    let a = then_came came in
    let b = then_came a.rest in
    let fin = finds_came b.rest in
    subst (λ (x : Checking). IsFilledAs d.right (filled_term f x.completed)) (sym fin.0)
    (found_fills (found_finds n (length g) (limited n).passes d.right g d.places a.came) k f 0)

recursive_fills : (n devices : ℕ) (g : Context) (d : Definition) (note : Note) (found : Checking) (qs : List Asked)
    (f : Filling) → HolesAreOfParameters d.right → Came (recursive_checked (limited n) devices g d note) found qs
    → IsFilledAs d.right (filled_term f found.completed)
recursive_fills n devices g d Absent found qs f k (list, e, q) = cc
recursive_fills n devices g d (Own s) found qs f k (list, e, q) = cc
recursive_fills n devices g d (Written s c) found qs f k came =
    let a = then_came came in
    let b = then_came a.rest in
    let x = then_came b.rest in
    let fin = finds_came x.rest in
    let sig : CapturingType = a.value in
    subst (λ (y : Checking). IsFilledAs d.right (filled_term f y.completed)) (sym fin.0)
    (found_fills (found_finds n (suc (length g)) (limited n).passes d.right (entry_of sig ∷ g) d.places b.came) k f 0)

fills_by : (recursive : Bool) (n devices : ℕ) (g : Context) (d : Definition) (found : Checking) (list : List Placed)
    (f : Filling) → HolesAreOfParameters d.right
    → cond recursive (recursive_checked (limited n) devices g d d.note) (plain_checked (limited n) g d) ≡ Found found list
    → IsFilledAs d.right (filled_term f found.completed)
fills_by true n devices g d found list f k is =
    recursive_fills n devices g d d.note found (asked_of list) f k (list, is, refl)
fills_by false n devices g d found list f k is = plain_fills n g d found (asked_of list) f k (list, is, refl)

-- the term of an accepted definition is its right side, filled in
pub accepted_fills : (devices : ℕ) (g : Context) (d : Definition) (accepted : Accepted) → HolesAreOfParameters d.right
    → HasVerdict devices g d (IsAccepted accepted) → IsFilledAs d.right accepted.filled
accepted_fills devices g d accepted k has =
    let p = accepted_parts devices g d accepted has in
    subst (λ (x : Accepted). IsFilledAs d.right x.filled) (sym p.accepts)
    (fills_by d.recursive p.steps devices g d p.found p.asked p.filling k p.is)
