-- The bits of what a module names say what it names.
use Rattle.std.proofs.Common.{◌≡◌, ◌<◌, ◌≤◌, ◌+◌, ◌-◌, ◌*◌, ◌%◌, ◌^◌, arith, ℕ, Bool, true, false, cond, ◌||◌, List, [], ◌∷◌, fold, Option, Some, None, bit_or, inl, inr, refl, sym, ap, ◌∙◌, subst}
use Rattle.std.specs.Prelude.{nat_eq}
use Rattle.std.specs.List.{list_any}
use Rattle.std.proofs.lemmas.Bool.{cases_eq, cases_lt, eq-eqb, ne_eqb, lt-ltb, le-ltb}
use Rattle.cc_capture.specs.declared.var.Var.{Var}
use Rattle.cc_capture.specs.declared.var.Var.TheVariants.{Bound, Free}
use Rattle.cc_capture.specs.declared.var.Elem.{Elem}
use Rattle.cc_capture.specs.declared.var.Elem.TheVariants.{Var as Variable, Cap, Hole}
use Rattle.cc_capture.specs.Elements.{same_element}
use Rattle.cc_capture.specs.ElementOrder.{same_element-true, same_element-itself}
use Rattle.cc_capture.specs.Sets.{Set, contains}
use Rattle.cc_capture.specs.Variables.{same_variable}
use Rattle.cc_capture.specs.Words.{has_bit}
use Rattle.cc_capture.proofs.Bits.{has_bit-or, has_bit-zero, has_bit-one_bit}
use Rattle.cc_core.specs.Terms.{Term, VariableTerm, LiteralTerm, FunctionTerm, TypeFunctionTerm, BoxTerm, Application, TypeApplication, Unboxing, Let, Primitive, Conditional, Repetition, Operation, Boundary, Leave}
use Rattle.cc_binding.specs.NamedBits.{place_bit, position_bit, variable_bit, argument_bit, element_bit, optional_set_bits, named_bits, module_bits, HasModuleBits}
use Rattle.cc_binding.specs.NamedDevices.{is_position, is_argument, is_in_optional_set, names_position, module_names}
use Rattle.cc_entry_laws.specs.PresentEntries.{CheckedModule}
use Rattle.cc_verdicts.specs.ModuleVerdicts.{in_program}

module _ (first k : ℕ) (below : k < 64) where
  -- the bit of a position, and of a variable
  place_has : (place : ℕ) → has_bit (place_bit place) k ≡ nat_eq k place
  place_has place =
      elim (cases_lt place 64) as (λ _. has_bit (place_bit place) k ≡ nat_eq k place) [
        | inl less ↦ ap (λ b. has_bit (cond b (1 * 2 ^ place % 2 ^ 64) 0) k) (lt-ltb place 64 less) ∙ has_bit-one_bit place k less
        | inr more ↦ ap (λ b. has_bit (cond b (1 * 2 ^ place % 2 ^ 64) 0) k) (le-ltb place 64 more) ∙ has_bit-zero k ∙ sym (ne_eqb k place (λ e. omega arith))
      ]

  same_place : (position : ℕ) → first ≤ position → nat_eq k (position - first) ≡ nat_eq (first + k) position
  same_place position above =
      elim (cases_eq k (position - first)) as (λ _. nat_eq k (position - first) ≡ nat_eq (first + k) position) [
        | inl same ↦ eq-eqb k (position - first) same ∙ sym (eq-eqb (first + k) position (omega arith))
        | inr other ↦ ne_eqb k (position - first) other ∙ sym (ne_eqb (first + k) position (λ e. other (omega arith)))
      ]

  position_has : (position : ℕ) → has_bit (position_bit first position) k ≡ nat_eq (first + k) position
  position_has position =
      elim (cases_lt position first) as (λ _. has_bit (position_bit first position) k ≡ nat_eq (first + k) position) [
        | inl less ↦
            ap (λ b. has_bit (cond b 0 (place_bit (position - first))) k) (lt-ltb position first less) ∙ has_bit-zero k
            ∙ sym (ne_eqb (first + k) position (λ e. omega arith))
        | inr more ↦
            ap (λ b. has_bit (cond b 0 (place_bit (position - first))) k) (le-ltb position first more) ∙ place_has (position - first) ∙ same_place position more
      ]

  variable_has : (v : Var) → has_bit (variable_bit first v) k ≡ is_position (first + k) v
  unfolding same_variable
  variable_has (Free position) = position_has position
  variable_has (Bound index) = has_bit-zero k

  argument_has : (o : Option Var) → has_bit (argument_bit first o) k ≡ is_argument (first + k) o
  argument_has (Some v) = variable_has v
  argument_has None = has_bit-zero k

  -- what is united
  union_has : (a b : ℕ) (x y : Bool) → has_bit a k ≡ x → has_bit b k ≡ y → has_bit (bit_or a b) k ≡ (x || y)
  union_has a b x y p q = has_bit-or a b k ∙ (λ i. p i || q i)

  variables_have : (v w : Var) → has_bit (bit_or (variable_bit first v) (variable_bit first w)) k ≡ (is_position (first + k) v || is_position (first + k) w)
  variables_have v w = union_has (variable_bit first v) (variable_bit first w) (is_position (first + k) v) (is_position (first + k) w) (variable_has v) (variable_has w)

  -- the elements of a list, where each has its bit
  listed_have : {A : Type 0} (bit : A → ℕ) (test : A → Bool) → ((x : A) → has_bit (bit x) k ≡ test x) → (start : ℕ) (xs : List A)
      → has_bit (fold (λ bits x. bit_or bits (bit x)) start xs) k ≡ (has_bit start k || list_any test xs)
  listed_have bit test each start [] = sym (nothing_more (has_bit start k))
    where
      nothing_more : (b : Bool) → (b || false) ≡ b
      nothing_more true = refl
      nothing_more false = refl
  listed_have bit test each start (x ∷ xs) =
      listed_have bit test each (bit_or start (bit x)) xs
      ∙ ap (λ b. b || list_any test xs) (has_bit-or start (bit x) k ∙ ap (λ b. has_bit start k || b) (each x))
      ∙ regrouped (has_bit start k) (test x) (list_any test xs)
    where
      regrouped : (a b c : Bool) → ((a || b) || c) ≡ (a || (b || c))
      regrouped true b c = refl
      regrouped false b c = refl

  all_have : {A : Type 0} (bit : A → ℕ) (test : A → Bool) → ((x : A) → has_bit (bit x) k ≡ test x) → (xs : List A)
      → has_bit (fold (λ bits x. bit_or bits (bit x)) 0 xs) k ≡ list_any test xs
  all_have bit test each xs = listed_have bit test each 0 xs ∙ ap (λ b. b || list_any test xs) (has_bit-zero k)

  other_element : (x : Elem) → (Variable (Free (first + k)) ≡ x → ⊥) → same_element (Variable (Free (first + k))) x ≡ false
  other_element x other = by_test (same_element (Variable (Free (first + k))) x) refl
    where
      by_test : (b : Bool) → same_element (Variable (Free (first + k))) x ≡ b → same_element (Variable (Free (first + k))) x ≡ false
      by_test true is = absurd (other (same_element-true (Variable (Free (first + k))) x is))
      by_test false is = is

  element_has : (x : Elem) → has_bit (element_bit first x) k ≡ same_element (Variable (Free (first + k))) x
  element_has (Variable (Free position)) =
      elim (cases_eq (first + k) position) as (λ _. has_bit (position_bit first position) k ≡ same_element (Variable (Free (first + k))) (Variable (Free position))) [
        | inl same ↦
            position_has position ∙ eq-eqb (first + k) position same
            ∙ sym (subst (λ p. same_element (Variable (Free (first + k))) (Variable (Free p)) ≡ true) same (same_element-itself (Variable (Free (first + k)))))
        | inr other ↦
            position_has position ∙ ne_eqb (first + k) position other
            ∙ sym (other_element (Variable (Free position)) (λ e. other (let is : first + k ≡ position = cc in is)))
      ]
  element_has (Variable (Bound index)) = has_bit-zero k ∙ sym (other_element (Variable (Bound index)) (λ e. let none : ⊥ = cc in none))
  element_has Cap = has_bit-zero k ∙ sym (other_element Cap (λ e. let none : ⊥ = cc in none))
  element_has (Hole number) = has_bit-zero k ∙ sym (other_element (Hole number) (λ e. let none : ⊥ = cc in none))

  optional_set_has : (o : Option Set) → has_bit (optional_set_bits first o) k ≡ is_in_optional_set (first + k) o
  unfolding contains
  optional_set_has (Some c) = all_have (element_bit first) (same_element (Variable (Free (first + k)))) element_has c.list
  optional_set_has None = has_bit-zero k

  named_have : (t : Term) → has_bit (named_bits first t) k ≡ names_position (first + k) t
  named_have (VariableTerm v) = variable_has v
  named_have (LiteralTerm l) = has_bit-zero k
  named_have (FunctionTerm s c t) = named_have t
  named_have (TypeFunctionTerm s t) = named_have t
  named_have (BoxTerm v) = variable_has v
  named_have (Application v w) = variables_have v w
  named_have (TypeApplication v s) = variable_has v
  named_have (Unboxing o v) = union_has (optional_set_bits first o) (variable_bit first v) (is_in_optional_set (first + k) o) (is_position (first + k) v) (optional_set_has o) (variable_has v)
  named_have (Let n s t) = union_has (named_bits first s) (named_bits first t) (names_position (first + k) s) (names_position (first + k) t) (named_have s) (named_have t)
  named_have (Primitive o v w) = variables_have v w
  named_have (Conditional n v s t) =
      union_has (variable_bit first v) (bit_or (named_bits first s) (named_bits first t)) (is_position (first + k) v) (names_position (first + k) s || names_position (first + k) t) (variable_has v)
      (union_has (named_bits first s) (named_bits first t) (names_position (first + k) s) (names_position (first + k) t) (named_have s) (named_have t))
  named_have (Repetition v w) = variables_have v w
  named_have (Operation p v o) = union_has (variable_bit first v) (argument_bit first o) (is_position (first + k) v) (is_argument (first + k) o) (variable_has v) (argument_has o)
  named_have (Boundary s t) = named_have t
  named_have (Leave s c v w) = variables_have v w

  pub module_has : (current : CheckedModule) → has_bit (module_bits first current) k ≡ module_names (first + k) current
  module_has current =
      all_have (λ definition. named_bits first (in_program definition).value) (λ definition. names_position (first + k) (in_program definition).value)
      (λ definition. named_have (in_program definition).value) current.definitions

-- so the word in which a position has its bit says whether it is named
pub held_names : (position : ℕ) (current : CheckedModule) (word : ℕ) → HasModuleBits (position - position % 64) current word
    → module_names position current ≡ has_bit word (position % 64)
held_names position current word holds =
    let same : position - position % 64 + position % 64 ≡ position = omega arith in
    ap (λ p. module_names p current) (sym same) ∙ sym (module_has (position - position % 64) (position % 64) (omega arith) current)
    ∙ ap (λ w. has_bit w (position % 64)) (sym holds.bits)
