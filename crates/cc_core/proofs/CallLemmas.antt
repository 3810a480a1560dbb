-- What the calls need of actions, and of walks over sets by index.
use Rattle.std.proofs.Common.{◌≡◌, ℕ, zero, suc, ◌-◌, ◌<◌, nat_eq, nat_lt, Bool, true, false, ◌&&◌, ◌||◌, get_or, cond, Option, Some, option_map, map, Result, Ok, Err, IfOk, OnOk, List, [], ◌∷◌, ◌++◌, length, refl, ap, sym, ◌∙◌, arith}
use Rattle.std.specs.List.{list_all, list_any}
use Rattle.std.proofs.lemmas.List.Folds.{list_all_at, list_all-append, list_any_at, list_any-append}
use Rattle.std.proofs.lemmas.Bool.{ltb-false}
use Rattle.std.proofs.lemmas.List.{length-map, map-id, get_or_past}
use denote.Bor.{Bor}
use Rattle.cc_capture.specs.declared.var.Var.{Var}
use Rattle.cc_capture.specs.declared.var.Var.TheVariants.{Bound}
use Rattle.cc_capture.specs.declared.var.Elem.{Elem}
use Rattle.cc_capture.specs.declared.var.Elem.TheVariants.{Var as Variable, Cap, Hole}
use Rattle.cc_capture.specs.Sets.{Set, empty, insert, union, from_list, flat_image}
use Rattle.cc_capture.proofs.Unions.{union-insert, empty-union, union-empty}
use Rattle.cc_capture.proofs.Images.{flat_image-empty}
use Rattle.cc_capture.proofs.Walks.{from_list-push, flat_image-push}
use Rattle.cc_capture.proofs.Equality.{same_variable-decides}
use Rattle.cc_capture.specs.Variables.{same_variable}
use Rattle.cc_capture.proofs.SetLists.{from_list-is}
use Rattle.cc_core.specs.declared.acting.Action.{Action as DeclaredAction}
use Rattle.cc_core.specs.declared.acting.Action.TheVariants as actions
use Rattle.cc_core.specs.Substitution.{single}
use Rattle.cc_core.specs.Captured.{outside}
use Rattle.cc_core.specs.Contexts.{lookup}
use Rattle.cc_core.specs.Actions.{action_of, filled_by}

-- one element joined to a set
pub insert-union : (e : Elem) (s : Set) → insert e s ≡ union (single e) s
insert-union e s = ap (insert e) (sym (empty-union s)) ∙ sym (union-insert e empty s)

pub element-variable : (a : DeclaredAction) (depth : ℕ) (v : Var) → single (Variable ((action_of a).variable depth v)) ≡ (action_of a).element depth (Variable v)
element-variable (actions.Put by) depth v = refl
element-variable (actions.PutShape by) depth v = refl
element-variable (actions.Rename to) depth v = refl
element-variable (actions.Close position) depth v = refl
element-variable (actions.Fill sets) depth v = refl
element-variable (actions.Read entries) depth v = refl
element-variable (actions.Write root entries) depth v = refl

-- the universal capability stays
pub element-cap : (a : DeclaredAction) (depth : ℕ) → single Cap ≡ (action_of a).element depth Cap
element-cap (actions.Put by) depth = refl
element-cap (actions.PutShape by) depth = refl
element-cap (actions.Rename to) depth = refl
element-cap (actions.Close position) depth = refl
element-cap (actions.Fill sets) depth = refl
element-cap (actions.Read entries) depth = refl
element-cap (actions.Write root entries) depth = refl

-- a hole past the list of fillings stays
pub hole-past : (sets : List Set) (hole : ℕ) → false ≡ nat_lt hole (length sets) → single (Hole hole) ≡ filled_by sets hole
hole-past sets hole past = sym (get_or_past sets hole (single (Hole hole)) (ltb-false hole (length sets) (sym past)))

-- a hole that no action fills stays
pub element-hole : (a : DeclaredAction) (depth hole : ℕ) → ((sets : Bor (List Set)) → a ≡ actions.Fill sets → ⊥) → single (Hole hole) ≡ (action_of a).element depth (Hole hole)
element-hole (actions.Put by) depth hole other = refl
element-hole (actions.PutShape by) depth hole other = refl
element-hole (actions.Rename to) depth hole other = refl
element-hole (actions.Close position) depth hole other = refl
element-hole (actions.Fill sets) depth hole other = absurd (other sets refl)
element-hole (actions.Read entries) depth hole other = refl
element-hole (actions.Write root entries) depth hole other = refl

-- what becomes of a hole of a list of fillings
pub element-filled : (a : DeclaredAction) (sets : Bor (List Set)) (depth hole : ℕ) (set : Set) → a ≡ actions.Fill sets → set ≡ filled_by sets.now hole → set ≡ (action_of a).element depth (Hole hole)
element-filled a sets depth hole set is e = e ∙ ap (λ x. (action_of x).element depth (Hole hole)) (sym is)

-- an insertion that joins what an element becomes
pub joined : {T E : Type 0} (r : Result T E) (e : Elem) (new old set : Set) → single e ≡ set → OnOk r (new ≡ insert e old) → OnOk r (new ≡ union set old)
joined (Ok x) e new old set is h = h ∙ insert-union e old ∙ ap (λ s. union s old) is
joined (Err x) e new old set is h = h

from_list-none : from_list [] ≡ empty
unfolding from_list
from_list-none = refl

-- a walk over the elements begins with none
pub walk-begin : (f : Elem → Set) → empty ≡ flat_image f (from_list [])
walk-begin f = sym (flat_image-empty f) ∙ ap (flat_image f) (sym from_list-none)

-- the walk goes on to one element more
pub walk-more : (f : Elem → Set) (xs : List Elem) (x : Elem) (old new : Set) → old ≡ flat_image f (from_list xs) → new ≡ union (f x) old → new ≡ flat_image f (from_list (xs ++ x ∷ []))
walk-more f xs x old new was is = is ∙ ap (union (f x)) was ∙ sym (flat_image-push f xs x)

-- at the end it went over the set
pub walk-end : (f : Elem → Set) (s : Set) (xs : List Elem) (all : Set) → map (λ x. x) xs ≡ s.list → all ≡ flat_image f (from_list xs) → all ≡ flat_image f s
walk-end f s xs all e is = is ∙ ap (flat_image f) (from_list-is xs s (sym (map-id xs) ∙ e))

-- a walk over elements that stay as they are
pub stays-begin : (f : Elem → Set) → from_list [] ≡ flat_image f (from_list [])
stays-begin f = from_list-none ∙ walk-begin f

pub stays-more : (f : Elem → Set) (xs : List Elem) (x : Elem) → from_list xs ≡ flat_image f (from_list xs) → f x ≡ single x → from_list (xs ++ x ∷ []) ≡ flat_image f (from_list (xs ++ x ∷ []))
stays-more f xs x was one =
    walk-more f xs x (from_list xs) (from_list (xs ++ x ∷ [])) was
    (from_list-push xs x ∙ insert-union x (from_list xs) ∙ ap (λ s. union s (from_list xs)) (sym one))

pub stays-end : (f : Elem → Set) (s : Set) (xs : List Elem) → map (λ x. x) xs ≡ s.list → from_list xs ≡ flat_image f (from_list xs) → flat_image f s ≡ s
stays-end f s xs e is =
    let same : from_list xs ≡ s = from_list-is xs s (sym (map-id xs) ∙ e) in
    ap (flat_image f) (sym same) ∙ sym is ∙ same

-- a variable that a test finds to stay
pub variable-stays : (acted variable becomes : Var) (same : Bool) → same ≡ same_variable acted variable → acted ≡ becomes → same ≡ true → becomes ≡ variable
variable-stays acted variable becomes same test is holds =
    sym is ∙ (same_variable-decides acted variable).0 (sym test ∙ holds)

lookup-chosen : {A B : Type 0} (f : A → B) (test : Bool) (x : A) (o : Option A) (p : Option B) → p ≡ option_map f o → cond test (Some (f x)) p ≡ option_map f (cond test (Some x) o)
lookup-chosen f true x o p e = refl
lookup-chosen f false x o p e = e

-- what stands at a position, seen through a function
pub lookup-map : {A B : Type 0} (f : A → B) (xs : List A) (position : ℕ) → lookup (map f xs) position ≡ option_map f (lookup xs position)
lookup-map f [] position = refl
lookup-map f (x ∷ xs) position =
    ap (λ n. cond (nat_eq position n) (Some (f x)) (lookup (map f xs) position)) (length-map xs f)
    ∙ lookup-chosen f (nat_eq position (length xs)) x (lookup xs position) (lookup (map f xs) position) (lookup-map f xs position)

-- what becomes of an index under one binder less
pub outside-bound : (index : ℕ) → (index ≡ 0 → ⊥) → single (Variable (Bound (index - 1))) ≡ outside (Variable (Bound index))
outside-bound zero positive = absurd (positive refl)
outside-bound (suc n) positive =
    let e : suc n - 1 ≡ n = omega arith in
    ap (λ k. single (Variable (Bound k))) e

-- the index 0 adds nothing
pub outside-none : (e : Elem) (index : ℕ) (s : Set) → e ≡ Variable (Bound index) → index ≡ 0 → s ≡ union (outside e) s
outside-none e index s is none = sym (empty-union s) ∙ ap (λ x. union (outside x) s) (sym (is ∙ ap (λ k. Variable (Bound k)) none))

-- a result that is a set, as a union of the set with the empty one
pub union-nothing : {E : Type 0} (r : Result Set E) (s : Set) → IfOk r (λ found. found ≡ s) → IfOk r (λ found. found ≡ union s empty)
union-nothing (Ok found) s e = e ∙ sym (union-empty s)
union-nothing (Err x) s e = e

-- an element of a list that fails a test
pub all-fails : {T : Type 0} (test : T → Bool) (xs : List T) (i : ℕ) (x : T) → (i < length xs) × (x ≡ get_or xs i x) → test x ≡ false → false ≡ list_all test xs
all-fails test xs i x at fails = sym (list_all_at test xs i x at.0 (ap test (sym at.1) ∙ fails))

-- one element more that passes a test, at the end
pub all-push : {T : Type 0} (test : T → Bool) (xs : List T) (x : T) → list_all test xs ≡ true → test x ≡ true → list_all test (xs ++ x ∷ []) ≡ true
all-push test xs x before passes = list_all-append test xs (x ∷ []) ∙ ap (λ b. b && (test x && true)) before ∙ ap (λ b. b && true) passes

-- at the end the test holds of all
pub all-gone : {T : Type 0} (test : T → Bool) (xs all : List T) → map (λ x. x) xs ≡ all → list_all test xs ≡ true → true ≡ list_all test all
all-gone test xs all e holds = sym (ap (list_all test) (sym (sym (map-id xs) ∙ e)) ∙ holds)

-- an element of a list that passes a test
pub any-at : {T : Type 0} (test : T → Bool) (xs : List T) (i : ℕ) (x : T) → (i < length xs) × (x ≡ get_or xs i x) → test x ≡ true → true ≡ list_any test xs
any-at test xs i x at passes = sym (list_any_at test xs i x at.0 (ap test (sym at.1) ∙ passes))

-- one element more that fails a test, at the end
pub any-push : {T : Type 0} (test : T → Bool) (xs : List T) (x : T) → list_any test xs ≡ false → test x ≡ false → list_any test (xs ++ x ∷ []) ≡ false
any-push test xs x before fails = list_any-append test xs (x ∷ []) ∙ ap (λ b. b || (test x || false)) before ∙ ap (λ b. b || false) fails

-- at the end the test fails at all
pub any-gone : {T : Type 0} (test : T → Bool) (xs all : List T) → map (λ x. x) xs ≡ all → list_any test xs ≡ false → false ≡ list_any test all
any-gone test xs all e fails = sym (ap (list_any test) (sym (sym (map-id xs) ∙ e)) ∙ fails)
