-- What is known of the shapes of entries, in contexts that grow.
use Rattle.std.proofs.Common.{◌≡◌, ℕ, ◌+◌, ◌-◌, ◌≤◌, ◌<◌, true, false, cond, List, [], ◌∷◌, ◌++◌, length, Option, Some, None}
use Rattle.std.proofs.Common.{refl, sym, ap, ◌∙◌, subst, inl, inr, arith}
use Rattle.std.specs.Prelude.{nat_lt, slice_get}
use Rattle.std.specs.Option.{option_map}
use Rattle.std.proofs.lemmas.Bool.{ltb-true, ltb-false}
use Rattle.std.proofs.lemmas.Option.{slice_get_past}
use Rattle.cc_capture.specs.declared.var.Var.{Var}
use Rattle.cc_capture.specs.declared.var.Var.TheVariants.{Bound, Free}
use Rattle.cc_capture.specs.Sets.{Set}
use Rattle.cc_capture.proofs.WordElements.{slice_get-left}
use Rattle.cc_core.specs.Shapes.{Shape, CapturingType, capturing}
use Rattle.cc_core.specs.Contexts.{Bind, TermEntry, TypeEntry, Context, lookup}
use Rattle.cc_core.specs.Captured.{variable_set}
use Rattle.cc_core.proofs.Lookups.{slice_get-last}
use Rattle.cc_checking.specs.Inference.{entry_type, variable_type}
use Rattle.cc_checking.specs.Outcomes.{finds}
use Rattle.cc_typing_laws.proofs.FreeMaps.{lookup_cases}
use Rattle.cc_known.specs.Measures.{IsSize, IsMeasuredBy, whole_measure, measured_at, measure_at, measure_of, AreMeasuresOf, AreAllMeasuresOf}
use Rattle.cc_known.specs.Signatures.{greatest_in}
use Rattle.cc_known.specs.declared.measures.Measures.{Measures}

-- nothing is known of a position past the sizes
measured_none : (first before : ℕ) (sizes : List ℕ) (p : ℕ) → (before ≤ p → length sizes ≤ p - before)
    → measured_at first before sizes p ≡ None
measured_none first before sizes p past =
    elim (nat_lt p before) as (λ t. nat_lt p before ≡ t
    → cond t None (option_map (whole_measure first) (slice_get sizes (p - before))) ≡ None) [
      | true ↦ λ is. refl
      | false ↦ λ is. ap (option_map (whole_measure first))
          (slice_get_past sizes (p - before) (past (ltb-false p before is)))
    ] refl

-- the last size is that of the next position
measured_last : (first before : ℕ) (sizes : List ℕ) (size p : ℕ) → p ≡ before + length sizes
    → measured_at first before (sizes ++ size ∷ []) p ≡ Some (whole_measure first size)
measured_last first before sizes size p at =
    elim (nat_lt p before) as (λ t. nat_lt p before ≡ t
    → cond t None (option_map (whole_measure first) (slice_get (sizes ++ size ∷ []) (p - before)))
    ≡ Some (whole_measure first size)) [
      | true ↦ λ is. let less : p < before = ltb-true p before is in absurd (omega arith)
      | false ↦ λ is.
          let there : p - before ≡ length sizes = omega arith in
          ap (λ i. option_map (whole_measure first) (slice_get (sizes ++ size ∷ []) i)) there
          ∙ ap (option_map (whole_measure first)) (slice_get-last sizes size)
    ] refl

-- the others stay
measured_earlier : (first before : ℕ) (sizes : List ℕ) (size p : ℕ) → p < before + length sizes
    → measured_at first before (sizes ++ size ∷ []) p ≡ measured_at first before sizes p
measured_earlier first before sizes size p within =
    elim (nat_lt p before) as (λ t. nat_lt p before ≡ t
    → cond t None (option_map (whole_measure first) (slice_get (sizes ++ size ∷ []) (p - before)))
    ≡ cond t None (option_map (whole_measure first) (slice_get sizes (p - before)))) [
      | true ↦ λ is. refl
      | false ↦ λ is.
          let from : before ≤ p = ltb-false p before is in
          let inside : p - before < length sizes = omega arith in
          ap (option_map (whole_measure first)) (slice_get-left sizes (size ∷ []) (p - before) inside)
    ] refl

-- where no size is kept
pub nothing_measured : (m : Measures) (g : Context) → m.sizes.items ≡ [] → m.before ≤ length g → AreMeasuresOf m g
nothing_measured m g empty fits =
    let none : length m.sizes.items ≡ 0 = ap length empty in
    record {
      fit = omega arith;
      each = λ p shape set is.
          subst (λ o. IsMeasuredBy o shape)
          (sym (measured_none m.first m.before m.sizes.items p (λ from. omega arith))) tt;
    }

-- the same in a context with one entry more
pub more_measured : (m : Measures) (e : Bind) (g : Context) → AreMeasuresOf m g → AreMeasuresOf m (e ∷ g)
more_measured m e g are =
    let fits = are.fit in
    record {
      fit = omega arith;
      each = λ p shape set is.
          elim (lookup_cases e g p (TermEntry shape set) is) [
            | inl (at, same) ↦
                subst (λ o. IsMeasuredBy o shape)
                (sym (measured_none m.first m.before m.sizes.items p (λ from. omega arith))) tt
            | inr (less, there) ↦ are.each p shape set there
          ];
    }

entry_found : (v : Var) (o : Option Bind) (t : CapturingType) → entry_type v o ≡ finds t
    → (set : Set) × (o ≡ Some (TermEntry t.shape set))
entry_found v (Some (TermEntry shape set)) t e =
    let same : capturing shape (variable_set v) ≡ t = cc in
    (set, ap (λ (r : CapturingType). Some (TermEntry r.shape set)) same)
entry_found v (Some (TypeEntry bound)) t e = cc
entry_found v None t e = cc

-- the type of a variable has a shape of which this is known
pub measured_variable : (m : Measures) (g : Context) (v : Var) (t : CapturingType) → AreMeasuresOf m g
    → variable_type g v ≡ finds t → IsMeasuredBy (measure_of m v) t.shape
measured_variable m g (Free p) t are found =
    let (set, is) = entry_found (Free p) (lookup g p) t found in
    are.each p t.shape set is
measured_variable m g (Bound i) t are found = tt

-- one size more is kept
pub kept_measure : (devices : ℕ) (m n : Measures) (g : Context) (size : ℕ) (shape : Shape) (set : Set)
    → AreAllMeasuresOf devices m g
    → n.first ≡ m.first → n.before ≡ m.before → n.sizes.items ≡ m.sizes.items ++ size ∷ []
    → greatest_in devices shape ≡ None → IsSize size shape
    → AreAllMeasuresOf devices n (TermEntry shape set ∷ g)
kept_measure devices m n g size shape set are first before sizes clear sized =
    let up : m.before + length m.sizes.items ≡ length g = are.up_to_newest in
    let more : length n.sizes.items ≡ length (m.sizes.items ++ size ∷ []) = ap length sizes in
    let count = counted m.sizes.items size in
    let known : (p : ℕ) → measure_at n p ≡ measured_at m.first m.before (m.sizes.items ++ size ∷ []) p =
    λ p j. measured_at (first j) (before j) (sizes j) p in
    record {
      measures_fit = record {
        fit = omega (arith, before, more, count, up);
        each = λ p s c is.
            elim (lookup_cases (TermEntry shape set) g p (TermEntry s c) is) [
              | inl (at, same) ↦
                  let here : p ≡ m.before + length m.sizes.items = at ∙ sym up in
                  let shapes : s ≡ shape = cc in
                  subst (λ o. IsMeasuredBy o s)
                  (sym (known p ∙ measured_last m.first m.before m.sizes.items size p here)) (
                    subst (λ s. greatest_in m.first s ≡ None) (sym shapes)
                        (subst (λ f. greatest_in f shape ≡ None) (sym are.from_devices) clear),
                    subst (IsSize size) (sym shapes) sized,
                  )
              | inr (less, there) ↦
                  let earlier : p < m.before + length m.sizes.items = subst (λ n. p < n) (sym up) less in
                  subst (λ o. IsMeasuredBy o s)
                  (sym (known p ∙ measured_earlier m.first m.before m.sizes.items size p earlier))
                  (are.measures_fit.each p s c there)
            ];
      };
      from_devices = first ∙ are.from_devices;
      up_to_newest = omega (arith, before, more, count, up);
    }
  where
    counted : (xs : List ℕ) (x : ℕ) → length (xs ++ x ∷ []) ≡ length xs + 1
    counted [] x = refl
    counted (y ∷ xs) x = let rest = counted xs x in omega arith

-- where no size is kept and nothing is known of any entry
pub all_unmeasured : (devices : ℕ) (m : Measures) (g : Context) → m.sizes.items ≡ [] → m.first ≡ devices
    → m.before ≡ length g → AreAllMeasuresOf devices m g
all_unmeasured devices m g empty first before =
    let none : length m.sizes.items ≡ 0 = ap length empty in
    record {
      measures_fit = nothing_measured m g empty (omega (arith, before));
      from_devices = first;
      up_to_newest = omega (arith, none, before);
    }
