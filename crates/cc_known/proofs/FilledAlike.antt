-- Fillings that agree fill alike; the holes of a term are counted.
use Rattle.std.proofs.Common.{◌≡◌, ℕ, zero, suc, ◌<◌, ◌≤◌, true, List, [], ◌∷◌, length, Option, Some, None, refl, sym}
use Rattle.std.proofs.Common.{subst, inl, inr, arith}
use Rattle.std.specs.Prelude.{slice_index_or}
use Rattle.std.proofs.Math.Nat.{le-max_left, le-max_right}
use Rattle.std.proofs.lemmas.Bool.{or_cases}
use Rattle.cc_capture.specs.declared.var.Elem.{Elem}
use Rattle.cc_capture.specs.declared.var.Elem.TheVariants.{Var as Variable, Cap, Hole}
use Rattle.cc_capture.specs.Elements.{same_element}
use Rattle.cc_capture.specs.ElementOrder.{same_element-true}
use Rattle.cc_capture.specs.Rising.{is_listed}
use Rattle.cc_capture.specs.Sets.{Set, contains, empty}
use Rattle.cc_core.specs.Shapes.{Shape}
use Rattle.cc_core.specs.Terms.{Note, Absent, Written, Own, Term, VariableTerm, LiteralTerm, FunctionTerm}
use Rattle.cc_core.specs.Terms.{TypeFunctionTerm, BoxTerm, Application, TypeApplication, Unboxing, Let, Primitive}
use Rattle.cc_core.specs.Terms.{Conditional, Repetition, Operation, Boundary, Leave}
use Rattle.cc_core.specs.Actions.{filled_by}
use Rattle.cc_core.specs.Substitution.{single, filled_element, filling_in}
use Rattle.cc_core.specs.Occurrences.{MeetsInSet, Meets, MeetsInNote, MeetsInOptionalSet, MeetsAtOptional, MeetsInTerm}
use Rattle.cc_core.specs.Occurrences.{IsNoHole, without_holes, agreement}
use Rattle.cc_core.proofs.Conditions.{Gives, Meets-along, MeetsInTerm-along, GivesHere}
use Rattle.cc_core.proofs.Sorts.{Sort, SetSort, ShapeSort, TypeSort, NoteSort, TermSort, Syntax, MeetsIn, MeetsIn-here}
use Rattle.cc_core.proofs.Sorts.{acted, acted-congruent}
use Rattle.cc_checking.specs.Fillings.{Filling}
use Rattle.cc_core.specs.Holes.{NoteHasNoHole, OptionalSetHasNoHole, HolesAreOfParameters}
use Rattle.cc_known.specs.FilledHoles.{IsHoleBelow, holes_below, holes_of_element, holes_listed, holes_of_set, holes_of}
use Rattle.cc_solve.specs.Solutions.{filling_of}
use Rattle.cc_known.specs.FilledHoles.{HolesAreCounted, AgreeingFillingsFillAlike, ListsFillAlike}

-- fillings that agree
module _ (first second : Filling) (n : ℕ) (agree : (hole : ℕ) → hole < n → first hole ≡ second hole) where
  element_alike : (e : Elem) → IsHoleBelow n e → filled_element first e ≡ filled_element second e
  element_alike (Variable v) m = refl
  element_alike Cap m = refl
  element_alike (Hole h) m = agree h m

  below_agrees : GivesHere (holes_below n) (agreement (filling_in first) (filling_in second))
  below_agrees =
      record { element = λ d e m. element_alike e m; shape = λ d v m. refl; variable = λ d v m. refl }

  filled_alike : (sort : Sort) (x : Syntax sort) → MeetsIn sort (holes_below n) 0 x
      → acted sort (filling_in first) 0 x ≡ acted sort (filling_in second) 0 x
  filled_alike sort x m =
      acted-congruent sort (filling_in first) (filling_in second) 0 x
      (MeetsIn-here sort (holes_below n) (agreement (filling_in first) (filling_in second)) below_agrees 0 x m)

pub agreeing_fillings_fill_alike : AgreeingFillingsFillAlike
agreeing_fillings_fill_alike first second n agree =
    record {
      sets = filled_alike first second n agree SetSort;
      shapes = filled_alike first second n agree ShapeSort;
      types = filled_alike first second n agree TypeSort;
      notes = filled_alike first second n agree NoteSort;
      terms = filled_alike first second n agree TermSort;
    }

-- below the length of a list the default does not count
within : (sets : List Set) (h : ℕ) (a b : Set) → h < length sets → slice_index_or sets h a ≡ slice_index_or sets h b
within [] h a b below = absurd (omega arith)
within (s ∷ sets) zero a b below = refl
within (s ∷ sets) (suc h) a b below = within sets h a b (omega arith)

pub lists_fill_alike : ListsFillAlike
lists_fill_alike sets =
    agreeing_fillings_fill_alike (filling_of sets) (filled_by sets) (length sets)
    (λ h below. within sets h empty (single (Hole h)) below)

-- a greater number will do
more_element : (n m : ℕ) → n ≤ m → (e : Elem) → IsHoleBelow n e → IsHoleBelow m e
more_element n m le (Variable v) b = tt
more_element n m le Cap b = tt
more_element n m le (Hole h) b = let below : h < n = b in omega arith

more_holes : (n m : ℕ) → n ≤ m → GivesHere (holes_below n) (holes_below m)
more_holes n m le =
    record { element = λ d e b. more_element n m le e b; shape = λ d v b. tt; variable = λ d v b. tt }

pub below_more : (sort : Sort) (n m : ℕ) → n ≤ m → (x : Syntax sort) → MeetsIn sort (holes_below n) 0 x
    → MeetsIn sort (holes_below m) 0 x
below_more sort n m le x b = MeetsIn-here sort (holes_below n) (holes_below m) (more_holes n m le) 0 x b

-- where there is no hole, each is below
none_below : (n : ℕ) (e : Elem) → IsNoHole e → IsHoleBelow n e
none_below n (Variable v) k = tt
none_below n Cap k = tt
none_below n (Hole h) k = absurd k

no_holes : (n : ℕ) → GivesHere without_holes (holes_below n)
no_holes n = record { element = λ d e k. none_below n e k; shape = λ d v k. tt; variable = λ d v k. tt }

pub closed_below : (sort : Sort) (n : ℕ) (x : Syntax sort) → MeetsIn sort without_holes 0 x
    → MeetsIn sort (holes_below n) 0 x
closed_below sort n x k = MeetsIn-here sort without_holes (holes_below n) (no_holes n) 0 x k

-- under how many binders does not count
anywhere : (n : ℕ) → Gives (λ d e. Unit {0}) (holes_below n) (holes_below n)
anywhere n =
    record {
      deeper = λ d e r. tt;
      element = λ d e r x m. m;
      shape = λ d e r v m. tt;
      variable = λ d e r v m. tt;
    }

pub shape_anywhere : (n d e : ℕ) (s : Shape) → Meets (holes_below n) d s → Meets (holes_below n) e s
shape_anywhere n d e s m = Meets-along (λ d e. Unit {0}) (holes_below n) (holes_below n) (anywhere n) d e s tt m

pub term_anywhere : (n d e : ℕ) (t : Term) → MeetsInTerm (holes_below n) d t → MeetsInTerm (holes_below n) e t
term_anywhere n d e t m = MeetsInTerm-along (λ d e. Unit {0}) (holes_below n) (holes_below n) (anywhere n) d e t tt m

-- the holes of a set are counted
element_counted : (e : Elem) → IsHoleBelow (holes_of_element e) e
element_counted (Variable v) = tt
element_counted Cap = tt
element_counted (Hole h) = omega arith

listed_counted : (xs : List Elem) (e : Elem) → is_listed e xs ≡ true → IsHoleBelow (holes_listed xs) e
listed_counted [] e m = cc
listed_counted (x ∷ xs) e m =
    elim (or_cases (same_element e x) (is_listed e xs) m) as (λ _. IsHoleBelow (holes_listed (x ∷ xs)) e) [
      | inl here ↦
          let same : e ≡ x = same_element-true e x here in
          more_element (holes_of_element x) (holes_listed (x ∷ xs))
          (le-max_left (holes_of_element x) (holes_listed xs)) e
          (subst (IsHoleBelow (holes_of_element x)) (sym same) (element_counted x))
      | inr later ↦
          more_element (holes_listed xs) (holes_listed (x ∷ xs)) (le-max_right (holes_of_element x) (holes_listed xs)) e
          (listed_counted xs e later)
    ]

set_counted : (c : Set) → MeetsInSet (holes_below (holes_of_set c)) 0 c
unfolding contains
set_counted c e m = listed_counted c.list e m

note_none : (n : ℕ) (x : Note) → NoteHasNoHole x → MeetsInNote (holes_below n) 0 x
note_none n Absent k = tt
note_none n (Written s c) k = (closed_below ShapeSort n s k.0, closed_below SetSort n c k.1)
note_none n (Own s) k = closed_below ShapeSort n s k

optional_none : (n : ℕ) (o : Option Set) → OptionalSetHasNoHole o → MeetsInOptionalSet (holes_below n) 0 o
optional_none n None k = tt
optional_none n (Some c) k = closed_below SetSort n c k

optional_at : (n : ℕ) (o : Option _) → MeetsAtOptional (holes_below n) 0 o
optional_at n None = tt
optional_at n (Some v) = tt

counted_within : (n : ℕ) (t : Term) → holes_of t ≤ n → HolesAreOfParameters t → MeetsInTerm (holes_below n) 0 t
counted_within n (VariableTerm v) le k = tt
counted_within n (LiteralTerm l) le k = tt
counted_within n (FunctionTerm s c t) le k =
    let one = le-max_left (holes_of_set c) (holes_of t) in
    let other = le-max_right (holes_of_set c) (holes_of t) in (
      closed_below ShapeSort n s k.0,
      below_more SetSort (holes_of_set c) n (omega arith) c (set_counted c),
      term_anywhere n 0 1 t (counted_within n t (omega arith) k.2),
    )
counted_within n (TypeFunctionTerm s t) le k =
    (closed_below ShapeSort n s k.0, term_anywhere n 0 1 t (counted_within n t le k.1))
counted_within n (BoxTerm v) le k = tt
counted_within n (Application v w) le k = (tt, tt)
counted_within n (TypeApplication v s) le k = (tt, closed_below ShapeSort n s k)
counted_within n (Unboxing o v) le k = (optional_none n o k, tt)
counted_within n (Let x s t) le k =
    let one = le-max_left (holes_of s) (holes_of t) in
    let other = le-max_right (holes_of s) (holes_of t) in (
      note_none n x k.0,
      counted_within n s (omega arith) k.1,
      term_anywhere n 0 1 t (counted_within n t (omega arith) k.2),
    )
counted_within n (Primitive o v w) le k = (tt, tt)
counted_within n (Conditional x v s t) le k =
    let one = le-max_left (holes_of s) (holes_of t) in
    let other = le-max_right (holes_of s) (holes_of t) in (
      note_none n x k.0,
      tt,
      counted_within n s (omega arith) k.1,
      counted_within n t (omega arith) k.2,
    )
counted_within n (Repetition v w) le k = (tt, tt)
counted_within n (Operation o v w) le k = (tt, optional_at n w)
counted_within n (Boundary s t) le k =
    (closed_below ShapeSort n s k.0, term_anywhere n 0 1 t (counted_within n t le k.1))
counted_within n (Leave s c v w) le k = (closed_below ShapeSort n s k.0, closed_below SetSort n c k.1, tt, tt)

pub holes_are_counted : HolesAreCounted
holes_are_counted t k = counted_within (holes_of t) t (omega arith) k
