-- The canonical derivation of what was inferred, with its sets filled, is low: each type that was inferred passed the
-- test of its size, and filling changes sets alone.
use Rattle.std.proofs.Common.{◌≡◌, ℕ, zero, suc, ◌≤◌, Bool, true, false, cond, List, [], ◌∷◌, length, Option, Some, None, refl, sym, ap, ◌∙◌, subst, arith}
use Rattle.std.specs.Prelude.{max, nat_eq}
use Rattle.std.proofs.lemmas.Bool.{leb-true}
use Rattle.cc_base.specs.declared.literal.Base.{Base}
use Rattle.cc_base.specs.declared.literal.Base.TheVariants as bases
use Rattle.cc_base.specs.declared.literal.Op.{Op}
use Rattle.cc_base.specs.declared.place.Place.{Place}
use Rattle.cc_capture.specs.declared.var.Var.{Var}
use Rattle.cc_capture.specs.declared.var.Var.TheVariants.{Bound, Free}
use Rattle.cc_capture.specs.Sets.{Set, empty}
use Rattle.cc_core.specs.Shapes.{Shape, BaseShape, AnyShape, TypeVariable, FunctionShape, TypeFunctionShape, BoxShape, ExitShape, CapturingType, capturing}
use Rattle.cc_core.specs.Terms.{Note, Absent, Written, Own, Term, VariableTerm, LiteralTerm, FunctionTerm, TypeFunctionTerm, BoxTerm, Application, TypeApplication, Unboxing, Let, Primitive, Conditional, Repetition, Operation, Boundary, Leave}
use Rattle.cc_core.specs.Contexts.{Bind, TermEntry, TypeEntry, Context, lookup, entry_of}
use Rattle.cc_core.specs.Equality.{same_type}
use Rattle.cc_core.specs.Traversal.{act, act_set, act_note, act_term}
use Rattle.cc_core.specs.Substitution.{filling_in, put_variable, putting, putting_shape, closing, closed, replaced_type, replaced_type_by_shape}
use Rattle.cc_core.specs.Reading.{read_variable, reading}
use Rattle.cc_core.specs.Sizes.{type_size}
use Rattle.cc_core.specs.Typing.{base_taken, base_answered}
use Rattle.cc_core.specs.Places.{Places, first_part, second_part}
use Rattle.cc_core.specs.Derivations.{SetBelow, ShapeBelow, TypeBelow, OfType, Derivation, Node}
use Rattle.cc_checking.specs.Avoidance.{Positive, avoided_type}
use Rattle.cc_checking.specs.CanonicalDerivations.{canonical_shapes, typed, raised, raised_if, shape_of_entry, shape_at, variable_derived, head_derived, operand_derived, given_derived, application_derived, type_application_derived, unboxing_derived, operation_derived, exit_derived, noted_derived, left_derived, function_node, type_function_node, term_derived}
use Rattle.cc_checking.specs.Comparison.{comparison}
use Rattle.cc_checking.specs.Exposing.{followed, exposed}
use Rattle.cc_checking.specs.Fillings.{Filling}
use Rattle.cc_checking.specs.Inference.{Result, result, in_context, shape_in, type_in, Named, function_found, type_function_found, exit_entry, part_below, part_against, inferred, greatest_size, limited}
use Rattle.cc_checking.specs.Outcomes.{Asked}
use Rattle.cc_checking_laws.proofs.Findings.{Has, Notes, notes-absent, notes-written, notes-own, Finds, finds-variable, finds-literal, finds-function, finds-type_function, finds-box, finds-application, finds-type_application, finds-unboxing, finds-unboxing_own, finds-let, finds-primitive, finds-choice, finds-choice_own, finds-repetition, finds-operation, finds-operation_alone, finds-boundary, finds-exit}
use Rattle.cc_checking_laws.proofs.FoundFindings.{Came, then_came, finds_came, sized_came, noted_came, avoided_came, found_finds}
use Rattle.cc_checking_laws.proofs.InferredSizes.{not_too_large}
use Rattle.cc_certificate_text.specs.Heights.{shape_height, note_height, term_height}
use Rattle.cc_certificate_laws.specs.DefinitionLaws.{IsLow, IsLowEntry}
use Rattle.cc_certificate_laws.proofs.BareShapes.{bare, AlikeTypes, AlikeContexts, same_height, act_alike, filled_alike, height-moving, put_alike, height_at_most_size, avoided_type_alike, avoided_or_alike, same_length, shape_at_alike, exposed_alike, one_more, shape_there}
use Rattle.cc_certificate_laws.proofs.LowComparisons.{Low, LowContext, low_entry, either, gives_low, takes_low, bound_low, content_low, exit_low, type_low, canonical_low}

-- the derivation is low, and gives a type that is alike
pub record Lowly (d : Derivation) (t : CapturingType) : Type 0 where
  pub low : IsLow d
  pub alike : AlikeTypes (typed d) t

pub as_low : (s t : Shape) → bare s ≡ bare t → Low t → Low s
as_low s t e h = let same = same_height s t e in omega arith

pub typed_low : (d : Derivation) → IsLow d → Low (typed d).shape
typed_low (Node rule premises (OfType type)) h = h.0
typed_low (Node rule premises (SetBelow left right)) h = omega arith
typed_low (Node rule premises (ShapeBelow left right)) h = omega arith
typed_low (Node rule premises (TypeBelow left right)) h = omega arith

-- what is widened
pub raised_low : (g : Context) (part : Derivation) (type : CapturingType) → LowContext g → IsLow part → Low type.shape
    → IsLow (raised canonical_shapes g part type)
raised_low g part type low h k =
    (k, (h, (type_low canonical_shapes canonical_low g (typed part) type low (typed_low part h) k, tt)))

pub raised_if_low : (g : Context) (part : Derivation) (type : CapturingType) → LowContext g → IsLow part
    → Low type.shape
    → IsLow (raised_if canonical_shapes g part type)
raised_if_low g part type low h k =
    either (same_type (typed part) type) part (raised canonical_shapes g part type) h (raised_low g part type low h k)

raised_if_alike : (g : Context) (part : Derivation) (type t : CapturingType) → AlikeTypes (typed part) t
    → AlikeTypes type t
    → AlikeTypes (typed (raised_if canonical_shapes g part type)) t
raised_if_alike g part type t one two = by_test (same_type (typed part) type)
  where
    by_test : (b : Bool) → AlikeTypes (typed (cond b part (raised canonical_shapes g part type))) t
    by_test true = one
    by_test false = two

-- variables
shape_at_low : (g : Context) (v : Var) → LowContext g → Low (shape_at g v)
shape_at_low g (Bound i) low = omega arith
shape_at_low g (Free p) low = from (lookup g p) refl
  where
    from : (o : Option Bind) → lookup g p ≡ o → Low (shape_of_entry o)
    from (Some (TermEntry s c)) found = low_entry g p (TermEntry s c) low found
    from (Some (TypeEntry b)) found = omega arith
    from None found = omega arith

followed_low : (b : Bind) (n : ℕ) (s : Shape) → IsLowEntry b → Low s → Low (followed b n s)
followed_low (TermEntry x c) n s t k = k
followed_low (TypeEntry b) n (TypeVariable (Free q)) t k = by_test (nat_eq q n)
  where
    by_test : (x : Bool) → Low (cond x b (TypeVariable (Free q)))
    by_test true = t
    by_test false = omega arith
followed_low (TypeEntry b) n (TypeVariable (Bound i)) t k = k
followed_low (TypeEntry b) n (BaseShape x) t k = k
followed_low (TypeEntry b) n AnyShape t k = k
followed_low (TypeEntry b) n (FunctionShape x c u e) t k = k
followed_low (TypeEntry b) n (TypeFunctionShape x u e) t k = k
followed_low (TypeEntry b) n (BoxShape x c) t k = k
followed_low (TypeEntry b) n (ExitShape x) t k = k

exposed_low : (g : Context) (s : Shape) → LowContext g → Low s → Low (exposed g s)
exposed_low [] s t k = k
exposed_low (b ∷ g) s t k = exposed_low g (followed b (length g) s) t.1 (followed_low b (length g) s t.0 k)

variable_low : (g : Context) (v : Var) → LowContext g → IsLow (variable_derived g v)
variable_low g v low = (shape_at_low g v low, tt)

exposed_at : (g : Context) (v : Var) → LowContext g → Low (exposed g (shape_at g v))
exposed_at g v low = exposed_low g (shape_at g v) low (shape_at_low g v low)

head_low : (g : Context) (v : Var) → LowContext g → IsLow (head_derived canonical_shapes g v)
head_low g v low = raised_if_low g (variable_derived g v) _ low (variable_low g v low) (exposed_at g v low)

given_low : (g : Context) (v : Var) (t : CapturingType) → LowContext g → Low t.shape
    → IsLow (given_derived canonical_shapes g v t)
given_low g v t low k = raised_low g (variable_derived g v) t low (variable_low g v low) k

operand_low : (g : Context) (v : Var) (s : Shape) → LowContext g → Low s
    → IsLow (operand_derived canonical_shapes g v s)
operand_low g v s low k = raised_low g (variable_derived g v) _ low (variable_low g v low) k

-- an application, by what its head is exposed to
applied : (h : Context) (a b w : Var) (x takes gives : Shape) (c e : Set) → LowContext h → Low x
    → bare x ≡ FunctionShape (bare takes) empty (bare gives) empty → b ≡ w
    → Lowly (application_derived canonical_shapes h a b x) (replaced_type w (capturing gives e))
applied h a b w (FunctionShape t c' u e') takes gives c e low k same is =
    let results : bare u ≡ bare gives = cc in
    let height = height-moving (put_variable b) 0 u in
    let parts : Low u = gives_low t u c' e' k in
    record {
      low = (omega arith, (head_low h a low, (given_low h b (capturing t c') low (takes_low t u c' e' k), tt)));
      alike = act_alike (putting b) 0 u gives results ∙ ap (λ v. bare (act (putting v) 0 gives)) is;
    }
applied h a b w (BaseShape base) takes gives c e low k same is = cc
applied h a b w AnyShape takes gives c e low k same is = cc
applied h a b w (TypeVariable v) takes gives c e low k same is = cc
applied h a b w (TypeFunctionShape y u e') takes gives c e low k same is = cc
applied h a b w (BoxShape t c') takes gives c e low k same is = cc
applied h a b w (ExitShape t) takes gives c e low k same is = cc

type_applied : (h : Context) (a : Var) (y z x bound gives : Shape) (e : Set) → LowContext h → Low y → Low x
    → bare y ≡ bare z → bare x ≡ TypeFunctionShape (bare bound) (bare gives) empty
    → Low (replaced_type_by_shape z (capturing gives e)).shape
    → Lowly (type_application_derived canonical_shapes h a y x) (replaced_type_by_shape z (capturing gives e))
type_applied h a y z (TypeFunctionShape b u e') bound gives e low ky k put same tested =
    let results : bare u ≡ bare gives = cc in
    let alike = act_alike (putting_shape y) 0 u gives results ∙ put_alike y z put 0 gives in
    record {
      low = (as_low _ _ alike tested, (head_low h a low, (canonical_low h y b low ky (bound_low b u e' k), tt)));
      alike = alike;
    }
type_applied h a y z (BaseShape base) bound gives e low ky k put same tested = cc
type_applied h a y z AnyShape bound gives e low ky k put same tested = cc
type_applied h a y z (TypeVariable v) bound gives e low ky k put same tested = cc
type_applied h a y z (FunctionShape t c u e') bound gives e low ky k put same tested = cc
type_applied h a y z (BoxShape t c') bound gives e low ky k put same tested = cc
type_applied h a y z (ExitShape t) bound gives e low ky k put same tested = cc

unboxed : (h : Context) (set : Set) (a : Var) (x content : Shape) (under : Set) → LowContext h → Low x
    → bare x ≡ BoxShape (bare content) empty
    → Lowly (unboxing_derived canonical_shapes h set a x) (capturing content under)
unboxed h set a (BoxShape t c) content under low k same =
    record { low = (content_low t c k, (given_low h a (capturing (BoxShape t set) _) low k, tt)); alike = cc }
unboxed h set a (BaseShape base) content under low k same = cc
unboxed h set a AnyShape content under low k same = cc
unboxed h set a (TypeVariable v) content under low k same = cc
unboxed h set a (FunctionShape t c u e') content under low k same = cc
unboxed h set a (TypeFunctionShape b u e') content under low k same = cc
unboxed h set a (ExitShape t) content under low k same = cc

left_by : (h : Context) (gives type : CapturingType) (a b : Var) (x takes : Shape) → LowContext h → Low gives.shape
    → Low x
    → bare x ≡ ExitShape (bare takes) → AlikeTypes gives type
    → Lowly (exit_derived canonical_shapes h gives a b x) type
left_by h gives type a b (ExitShape t) takes low kg k same alike =
    record { low = (kg, (head_low h a low, (given_low h b (capturing t empty) low (exit_low t k), tt))); alike = alike }
left_by h gives type a b (BaseShape base) takes low kg k same alike = cc
left_by h gives type a b AnyShape takes low kg k same alike = cc
left_by h gives type a b (TypeVariable v) takes low kg k same alike = cc
left_by h gives type a b (FunctionShape t c u e') takes low kg k same alike = cc
left_by h gives type a b (TypeFunctionShape y u e') takes low kg k same alike = cc
left_by h gives type a b (BoxShape t c') takes low kg k same alike = cc

operated : (h : Context) (o : Op) (a b : Var) (base : Base) (taken : Option Base) → LowContext h → taken ≡ Some base
    → Lowly (operation_derived canonical_shapes h o a (Some b) taken) (capturing (BaseShape (base_answered o)) empty)
operated h o a b base (Some y) low e =
    record {
      low = (omega arith, (head_low h a low, (operand_low h b (BaseShape y) low (omega arith), tt)));
      alike =
          refl;
    }
operated h o a b base None low e = cc

operated_alone : (h : Context) (o : Op) (a : Var) (taken : Option Base) → LowContext h → taken ≡ None
    → Lowly (operation_derived canonical_shapes h o a None taken) (capturing (BaseShape (base_answered o)) empty)
operated_alone h o a None low e = record { low = (omega arith, (head_low h a low, tt)); alike = refl }
operated_alone h o a (Some y) low e = cc

-- what goes out of scope
left_low : (h : Context) (named : CapturingType) (part : Derivation) → LowContext h → Low named.shape → IsLow part
    → IsLow (left_derived canonical_shapes h named part)
left_low h named part low k p =
    raised_if_low (entry_of named ∷ h) part _ (k, low) p
    (as_low _ _ (avoided_or_alike (length h) named.set (typed part)) (typed_low part p))

left_alike : (h : Context) (named : CapturingType) (part : Derivation)
    → AlikeTypes (typed (left_derived canonical_shapes h named part)) (typed part)
left_alike h named part =
    raised_if_alike (entry_of named ∷ h) part _ (typed part) refl (avoided_or_alike (length h) named.set (typed part))

-- what stands in a term, in contexts that are alike
module _ (h g : Context) (e : AlikeContexts h g) where
  there_alike : (v : Var) (s : Shape) (d : Set) → Has g (in_context g v) s d
      → bare (shape_at h (in_context h v)) ≡ bare s
  there_alike v s d has =
      ap (λ n. bare (shape_at h (read_variable n zero v))) (same_length h g e)
      ∙ shape_at_alike h g (in_context g v) e ∙ ap bare (shape_there g (in_context g v) s d has)

  head_alike : (v : Var) (s x : Shape) (d : Set) → Has g (in_context g v) s d → exposed g s ≡ x
      → bare (exposed h (shape_at h (in_context h v))) ≡ bare x
  head_alike v s x d has is =
      exposed_alike h g (shape_at h (in_context h v)) s e (there_alike v s d has) ∙ ap bare is

  read_alike : (f : Filling) (d : ℕ) (s : Shape) → bare (shape_in h (act (filling_in f) d s)) ≡ bare (shape_in g s)
  read_alike f d s =
      act_alike (reading (length h)) 0 (act (filling_in f) d s) s (filled_alike f d s)
      ∙ ap (λ n. bare (act (reading n) 0 s)) (same_length h g e)

  closed_alike : (s t : Shape) → bare s ≡ bare t → bare (closed (length h) s) ≡ bare (closed (length g) t)
  closed_alike s t same =
      act_alike (closing (length h)) 0 s t same ∙ ap (λ n. bare (act (closing n) 0 t)) (same_length h g e)

pub read_low : (h : Context) (s : Shape) → Low s → Low (shape_in h s)
read_low h s k = let same = height-moving (read_variable (length h)) 0 s in omega arith

-- the parts of a height
first_below : (m n k : ℕ) → suc (max m n) ≤ k → m ≤ k
first_below m n k h = omega arith

second_below : (m n k : ℕ) → suc (max m n) ≤ k → n ≤ k
second_below m n k h = omega arith

-- a term that has no term in it
abbrev IsLeaf : Term → Type 0
IsLeaf (FunctionTerm takes c body) = ⊥
IsLeaf (TypeFunctionTerm bound body) = ⊥
IsLeaf (Let note right body) = ⊥
IsLeaf (Conditional note test positive negative) = ⊥
IsLeaf (Boundary gives body) = ⊥
IsLeaf _ = Unit {0}

module _ (f : Filling) where
  -- The canonical derivation of the filled term is low, in each low context that is alike, if the term is.
  abbrev pub DerivedLow : Context → Result → Type 0
  DerivedLow g r =
      (h : Context) → AlikeContexts h g → LowContext h → (d : ℕ)
      → term_height (act_term (filling_in f) d r.completed) ≤ 5000
      → Lowly (term_derived canonical_shapes h (act_term (filling_in f) d r.completed)) r.type

  leaf_low : {root : ℕ} {g : Context} {t : Term} {r : Result} {qs : List Asked} → Finds root g t r qs → IsLeaf t
      → Low r.type.shape
      → DerivedLow g r
  leaf_low (finds-variable {g = g} {v = v} {s = s} {d = c} has) leaf tested h e low d k =
      record { low = variable_low h (in_context h v) low; alike = there_alike h g e v s c has }
  leaf_low finds-literal leaf tested h e low d k = record { low = (omega arith, tt); alike = refl }
  leaf_low (finds-box {g = g} {v = v} {s = s} {d = c} has) leaf tested h e low d k =
      let alike : BoxShape (bare (shape_at h (in_context h v))) empty ≡ BoxShape (bare s) empty =
      ap (λ x. BoxShape x empty) (there_alike h g e v s c has) in
      record {
        low = (
          as_low (BoxShape (shape_at h (in_context h v)) empty) (BoxShape s empty) alike tested,
          (variable_low h (in_context h v) low, tt),
        );
        alike = alike;
      }
  leaf_low (finds-application {g = g} {v = v} {w = w} {s = s} {s' = s'} {takes = takes} {gives = gives} {d = c0}
      {d' = d'} {c = c} {e = x} has is has' b) leaf tested h e low d k =
      applied h (in_context h v) (in_context h w) (in_context g w)
      (exposed h (shape_at h (in_context h v))) takes gives c x low
      (exposed_at h (in_context h v) low) (head_alike h g e v s (FunctionShape takes c gives x) c0 has is)
      (ap (λ n. read_variable n zero w) (same_length h g e))
  leaf_low (finds-type_application {g = g} {v = v} {x = y} {s = s} {bound = bound} {gives = gives} {d = c0} {e = x} has
      is b) leaf tested h e low d k =
      type_applied h (in_context h v) (shape_in h (act (filling_in f) d y)) (shape_in g y)
      (exposed h (shape_at h (in_context h v))) bound gives x low
      (read_low h (act (filling_in f) d y) (let ky : suc (shape_height (act (filling_in f) d y)) ≤ 5000 = k in omega
      arith))
      (exposed_at h (in_context h v) low) (read_alike h g e f d y)
      (head_alike h g e v s (TypeFunctionShape bound gives x) c0 has is) tested
  leaf_low (finds-unboxing {g = g} {v = v} {s = s} {content = content} {d = c0} {c = c} {set = set} has is) leaf tested
      h e low d k =
      unboxed h _ (in_context h v) (exposed h (shape_at h (in_context h v))) content _ low
      (exposed_at h (in_context h v) low)
      (head_alike h g e v s (BoxShape content c) c0 has is)
  leaf_low (finds-unboxing_own {g = g} {v = v} {s = s} {content = content} {d = c0} {c = c} has is) leaf tested h e low
      d k =
      unboxed h _ (in_context h v) (exposed h (shape_at h (in_context h v))) content _ low
      (exposed_at h (in_context h v) low)
      (head_alike h g e v s (BoxShape content c) c0 has is)
  leaf_low (finds-primitive {v = v} {w = w} a b) leaf tested h e low d k =
      record {
        low = (
          omega arith,
          (
            operand_low h (in_context h v) (BaseShape bases.Int) low (omega arith),
            (operand_low h (in_context h w) (BaseShape bases.Int) low (omega arith), tt),
          ),
        );
        alike = refl;
      }
  leaf_low (finds-repetition {v = v} {w = w} a b) leaf tested h e low d k =
      record {
        low = (
          omega arith,
          (
            operand_low h (in_context h v) (BaseShape bases.Int) low (omega arith),
            (
              operand_low h (in_context h w) (FunctionShape (BaseShape bases.Int) empty (BaseShape bases.Unit) empty)
                  low
                  (omega arith),
              tt,
            ),
          ),
        );
        alike = refl;
      }
  leaf_low (finds-operation {o = o} {v = v} {w = w} {base = base} has is taken a) leaf tested h e low d k =
      operated h o (in_context h v) (in_context h w) base (base_taken o) low taken
  leaf_low (finds-operation_alone {o = o} {v = v} has is taken) leaf tested h e low d k =
      operated_alone h o (in_context h v) (base_taken o) low taken
  leaf_low (finds-exit {g = g} {x = x} {c = c} {v = v} {w = w} {s = s} {takes = takes} {d = c0} has is has' b) leaf
      tested h e low d k =
      left_by h (type_in h (capturing (act (filling_in f) d x) (act_set (filling_in f) d c)))
      (type_in g (capturing x c)) (in_context h v) (in_context h w)
      (exposed h (shape_at h (in_context h v))) takes low
      (read_low h (act (filling_in f) d x) (let kx : suc (shape_height (act (filling_in f) d x)) ≤ 5000 = k in omega
      arith))
      (exposed_at h (in_context h v) low) (head_alike h g e v s (ExitShape takes) c0 has is) (read_alike h g e f d x)
  leaf_low (finds-function b) leaf tested h e low d k = absurd leaf
  leaf_low (finds-type_function b) leaf tested h e low d k = absurd leaf
  leaf_low (finds-let a nt b av) leaf tested h e low d k = absurd leaf
  leaf_low (finds-choice o a p b q) leaf tested h e low d k = absurd leaf
  leaf_low (finds-choice_own o a p b q) leaf tested h e low d k = absurd leaf
  leaf_low (finds-boundary a b) leaf tested h e low d k = absurd leaf

  -- functions
  function_low : (g : Context) (takes : Shape) (c : Set) (part : Result)
      → Low (function_found g takes c part).type.shape
      → DerivedLow (entry_of (type_in g (capturing takes c)) ∷ g) part → DerivedLow g (function_found g takes c part)
  function_low g takes c part tested inner h e low d k =
      let takes' : Shape = act (filling_in f) d takes in
      let c' : Set = act_set (filling_in f) d c in
      let body' : Term = act_term (filling_in f) (suc d) part.completed in
      let entry : Bind = entry_of (type_in h (capturing takes' c')) in
      let kt : Low takes' = first_below (shape_height takes') (term_height body') 5000 k in
      let kb : term_height body' ≤ 5000 = second_below (shape_height takes') (term_height body') 5000 k in
      let read = read_alike h g e f d takes in
      let p = inner (entry ∷ h) (one_more entry (entry_of (type_in g (capturing takes c))) h g
      (ap (λ x. TermEntry x empty) read) e)
      (read_low h takes' kt, low) (suc d) kb in
      let body = closed_alike h g e (typed (term_derived canonical_shapes (entry ∷ h) body')).shape part.type.shape
      p.alike in
      let alike : FunctionShape (bare (shape_in h takes')) empty
      (bare (closed (length h) (typed (term_derived canonical_shapes (entry ∷ h) body')).shape)) empty
      ≡ FunctionShape (bare (shape_in g takes)) empty (bare (closed (length g) part.type.shape)) empty =
      λ i. FunctionShape (read i) empty (body i) empty in
      record {
        low = (
          as_low (typed (function_node h takes' c' body'
              (term_derived canonical_shapes (entry ∷ h) body'))).shape
              (function_found g takes c part).type.shape alike tested,
          (p.low, tt),
        );
        alike = alike;
      }

  type_function_low : (g : Context) (bound : Shape) (part : Result) → Low (type_function_found g bound part).type.shape
      → DerivedLow (TypeEntry (shape_in g bound) ∷ g) part → DerivedLow g (type_function_found g bound part)
  type_function_low g bound part tested inner h e low d k =
      let bound' : Shape = act (filling_in f) d bound in
      let body' : Term = act_term (filling_in f) (suc d) part.completed in
      let entry : Bind = TypeEntry (shape_in h bound') in
      let kt : Low bound' = first_below (shape_height bound') (term_height body') 5000 k in
      let kb : term_height body' ≤ 5000 = second_below (shape_height bound') (term_height body') 5000 k in
      let read = read_alike h g e f d bound in
      let p = inner (entry ∷ h) (one_more entry (TypeEntry (shape_in g bound)) h g (ap TypeEntry read) e)
      (read_low h bound' kt, low) (suc d) kb in
      let body = closed_alike h g e (typed (term_derived canonical_shapes (entry ∷ h) body')).shape part.type.shape
      p.alike in
      let alike : TypeFunctionShape (bare (shape_in h bound'))
      (bare (closed (length h) (typed (term_derived canonical_shapes (entry ∷ h) body')).shape)) empty
      ≡ TypeFunctionShape (bare (shape_in g bound)) (bare (closed (length g) part.type.shape)) empty =
      λ i. TypeFunctionShape (read i) (body i) empty in
      record {
        low = (
          as_low (typed (type_function_node h bound' body'
              (term_derived canonical_shapes (entry ∷ h) body'))).shape
              (type_function_found g bound part).type.shape alike tested,
          (p.low, tt),
        );
        alike = alike;
      }

  -- what is written for a type
  pub noted_low : {root : ℕ} {g : Context} {note : Note} {t : CapturingType} {m : Named} {ps : List Asked}
      → Notes root g note t m ps
      → (h : Context) → AlikeContexts h g → LowContext h → (d : ℕ)
      → note_height (act_note (filling_in f) d m.note) ≤ 5000
      → (part : Derivation) → Lowly part t
      → Lowly (noted_derived canonical_shapes h (act_note (filling_in f) d m.note) part) m.type
  noted_low notes-absent h e low d k part p = p
  noted_low {g = g} (notes-written {s = s} {c = c} b) h e low d k part p =
      record {
        low = raised_low h part _ low p.low (read_low h (act (filling_in f) d s) k);
        alike = read_alike h g e f d s;
      }
  noted_low {g = g} (notes-own {s = s} b) h e low d k part p =
      record {
        low = raised_low h part _ low p.low (read_low h (act (filling_in f) d s) k);
        alike = read_alike h g e f d s;
      }

  let_low : (root : ℕ) (g : Context) (note : Note) (one two : Result) (named : Named) (type : CapturingType)
      (ps : List Asked)
      → Notes root g note one.type named ps → avoided_type Positive (length g) named.type.set two.type ≡ Some type
      → DerivedLow g one → DerivedLow (entry_of named.type ∷ g) two
      → DerivedLow g (result type (Let named.note one.completed two.completed))
  let_low root g note one two named type ps notes avoids first second h e low d k =
      let note' : Note = act_note (filling_in f) d named.note in
      let right' : Term = act_term (filling_in f) d one.completed in
      let body' : Term = act_term (filling_in f) (suc d) two.completed in
      let kn : note_height note' ≤ 5000 = first_below (note_height note')
      (max (term_height right') (term_height body')) 5000 k in
      let ks : max (term_height right') (term_height body') ≤ 5000 = second_below (note_height note')
      (max (term_height right') (term_height body')) 5000 k in
      let kr : term_height right' ≤ 5000 = omega arith in
      let kb : term_height body' ≤ 5000 = omega arith in
      let p = first h e low d kr in
      let q = noted_low notes h e low d kn (term_derived canonical_shapes h right') p in
      let part : Derivation = noted_derived canonical_shapes h note' (term_derived canonical_shapes h right') in
      let entry : Bind = entry_of (typed part) in
      let b = second (entry ∷ h) (one_more entry (entry_of named.type) h g (ap (λ x. TermEntry x empty) q.alike) e)
      (typed_low part q.low, low) (suc d) kb in
      let body : Derivation = term_derived canonical_shapes (entry ∷ h) body' in
      let left = left_low h (typed part) body low (typed_low part q.low) b.low in
      record {
        low = (typed_low (left_derived canonical_shapes h (typed part) body) left, (q.low, (left, tt)));
        alike = left_alike h (typed part) body ∙ b.alike ∙ sym
            (avoided_type_alike Positive (length g) named.type.set two.type type avoids);
      }

  choice_low : (g : Context) (s : Shape) (c set : Set) (v : Var) (one two : Result) → DerivedLow g one
      → DerivedLow g two
      → DerivedLow g (result (capturing (shape_in g s) set) (Conditional (Written s c) v one.completed two.completed))
  choice_low g s c set v one two first second h e low d k =
      let s' : Shape = act (filling_in f) d s in
      let one' : Term = act_term (filling_in f) d one.completed in
      let two' : Term = act_term (filling_in f) d two.completed in
      let kn : Low s' = first_below (shape_height s') (max (term_height one') (term_height two')) 5000 k in
      let ks : max (term_height one') (term_height two') ≤ 5000 = second_below (shape_height s')
      (max (term_height one') (term_height two')) 5000 k in
      let k1 : term_height one' ≤ 5000 = omega arith in
      let k2 : term_height two' ≤ 5000 = omega arith in
      let p = first h e low d k1 in
      let q = second h e low d k2 in
      let kr = read_low h s' kn in
      record {
        low = (
          kr,
          (
            operand_low h (in_context h v) (BaseShape bases.Bool) low (omega arith),
            (
              raised_low h (term_derived canonical_shapes h one')
                  (type_in h (capturing s' (act_set (filling_in f) d c))) low p.low kr,
              (
                raised_low h (term_derived canonical_shapes h two')
                    (type_in h (capturing s' (act_set (filling_in f) d c))) low q.low kr,
                tt,
              ),
            ),
          ),
        );
        alike = read_alike h g e f d s;
      }

  boundary_low : (g : Context) (x : Shape) (part : Result) → DerivedLow (exit_entry (shape_in g x) ∷ g) part
      → DerivedLow g (result (capturing (shape_in g x) empty) (Boundary x part.completed))
  boundary_low g x part inner h e low d k =
      let x' : Shape = act (filling_in f) d x in
      let body' : Term = act_term (filling_in f) (suc d) part.completed in
      let kx : Low x' = first_below (shape_height x') (term_height body') 5000 k in
      let kb : term_height body' ≤ 5000 = second_below (shape_height x') (term_height body') 5000 k in
      let read = read_alike h g e f d x in
      let entry : Bind = exit_entry (shape_in h x') in
      let kr = read_low h x' kx in
      let same = height-moving (read_variable (length h)) 0 x' in
      let ke : Low (ExitShape (shape_in h x')) = omega arith in
      let p = inner (entry ∷ h) (one_more entry (exit_entry (shape_in g x)) h g
      (ap (λ y. TermEntry (ExitShape y) empty) read) e) (ke, low) (suc d) kb in
      record {
        low = (
          kr,
          (
            raised_low (entry ∷ h) (term_derived canonical_shapes (entry ∷ h) body')
                (capturing (shape_in h x') empty) (ke, low) p.low kr,
            tt,
          ),
        );
        alike = read;
      }

  module _ (n root : ℕ) where
    -- the same holds of a part
    abbrev Again : Term → Type 0
    Again t = (g : Context) (places : Places) (r : Result) (qs : List Asked)
        → Came (inferred (limited n) root g t places) r qs → DerivedLow g r

    pub tested_height : (t : Term) (g : Context) (places : Places) (r : Result) (qs : List Asked)
        → Came (inferred (limited n) root g t places) r qs
        → shape_height r.type.shape ≤ 4096
    tested_height t g places r qs came =
        let size : type_size r.type ≤ 4096 = leb-true (type_size r.type) greatest_size
        (not_too_large root g t places r came.0 (n, came.1, λ e. cc)) in
        let height = height_at_most_size r.type.shape in
        omega arith

    tested : (t : Term) (g : Context) (places : Places) (r : Result) (qs : List Asked)
        → Came (inferred (limited n) root g t places) r qs → Low r.type.shape
    tested t g places r qs came = let height = tested_height t g places r qs came in omega arith

    leaf : (t : Term) → IsLeaf t → Again t
    leaf t is g places r qs came =
        leaf_low (found_finds n root (limited n).passes t g places came) is (tested t g places r qs came)

    row_function : (takes : Shape) (c : Set) (body : Term) → Again body → Again (FunctionTerm takes c body)
    row_function takes c body again g places r qs came =
        let k = then_came (sized_came (limited n) places came) in
        let end = finds_came k.rest in
        subst (DerivedLow g) (sym end.0)
        (function_low g takes c k.value (subst (λ (x : Result). Low x.type.shape) end.0
        (tested (FunctionTerm takes c body) g places r qs came))
        (again (entry_of (type_in g (capturing takes c)) ∷ g) (first_part places) k.value k.first k.came))

    row_type_function : (bound : Shape) (body : Term) → Again body → Again (TypeFunctionTerm bound body)
    row_type_function bound body again g places r qs came =
        let k = then_came (sized_came (limited n) places came) in
        let end = finds_came k.rest in
        subst (DerivedLow g) (sym end.0)
        (type_function_low g bound k.value (subst (λ (x : Result). Low x.type.shape) end.0
        (tested (TypeFunctionTerm bound body) g places r qs came))
        (again (TypeEntry (shape_in g bound) ∷ g) (first_part places) k.value k.first k.came))

    row_let : (note : Note) (right body : Term) → Again right → Again body → Again (Let note right body)
    row_let note right body again again' g places r qs came =
        let k = then_came (sized_came (limited n) places came) in
        let k2 = then_came k.rest in
        let k3 = then_came k2.rest in
        let k4 = then_came k3.rest in
        let end = finds_came k4.rest in
        let avoids = avoided_came _ _ k4.came in
        let notes = noted_came n root _ g note k.value.type k2.came in
        subst (DerivedLow g) (sym end.0)
        (let_low root g note k.value k3.value k2.value k4.value k2.first notes avoids.0
        (again g (first_part places) k.value k.first k.came)
        (again' (entry_of k2.value.type ∷ g) (second_part places) k3.value k3.first k3.came))

    -- a branch with its comparison
    branch : (at : Place) (g : Context) (t : Term) (places : Places) (type : CapturingType) (r : Result)
        (qs : List Asked) (h : Context) → Again t
        → Came (part_below (comparison n) at h type (inferred (limited n) root g t places)) r qs → DerivedLow g r
    branch at g t places type r qs h again came =
        let k = then_came came in
        let k2 = then_came k.rest in
        subst (DerivedLow g) (sym (finds_came k2.rest).0) (again g places k.value k.first k.came)

    branch_of_shape : (at : Place) (g : Context) (t : Term) (places : Places) (shape : Shape) (r : Result)
        (qs : List Asked) → Again t
        → Came (part_against (comparison n) at g shape (inferred (limited n) root g t places)) r qs → DerivedLow g r
    branch_of_shape at g t places shape r qs again came =
        let k = then_came came in
        let k2 = then_came k.rest in
        subst (DerivedLow g) (sym (finds_came k2.rest).0) (again g places k.value k.first k.came)

    no_choice : (v : Var) (one two : Term) → Again (Conditional Absent v one two)
    no_choice v one two g places r qs (list, e, q) = cc

    row_choice : (s : Shape) (c : Set) (v : Var) (one two : Term) → Again one → Again two
        → Again (Conditional (Written s c) v one two)
    row_choice s c v one two again again' g places r qs came =
        let k = then_came (sized_came (limited n) places came) in
        let k2 = then_came k.rest in
        let k3 = then_came k2.rest in
        let end = finds_came k3.rest in
        subst (DerivedLow g) (sym end.0)
        (choice_low g s c _ v k2.value k3.value (branch _ g one (first_part places) _ k2.value k2.first g again k2.came)
        (branch _ g two (second_part places) _ k3.value k3.first g again' k3.came))

    row_choice_own : (s : Shape) (v : Var) (one two : Term) → Again one → Again two
        → Again (Conditional (Own s) v one two)
    row_choice_own s v one two again again' g places r qs came =
        let k = then_came (sized_came (limited n) places came) in
        let k2 = then_came k.rest in
        let k3 = then_came k2.rest in
        let end = finds_came k3.rest in
        subst (DerivedLow g) (sym end.0)
        (choice_low g s _ _ v k2.value k3.value (branch_of_shape _ g one
        (first_part places) _ k2.value k2.first again k2.came)
        (branch_of_shape _ g two (second_part places) _ k3.value k3.first again' k3.came))

    row_boundary : (x : Shape) (body : Term) → Again body → Again (Boundary x body)
    row_boundary x body again g places r qs came =
        let k = then_came (sized_came (limited n) places came) in
        let end = finds_came k.rest in
        subst (DerivedLow g) (sym end.0)
        (boundary_low g x k.value
        (branch _ (exit_entry (shape_in g x) ∷ g) body (first_part places) _ k.value k.first
        (exit_entry (shape_in g x) ∷ g) again k.came))

    pub inferred_low : (t : Term) → Again t
    inferred_low (VariableTerm v) = leaf (VariableTerm v) tt
    inferred_low (LiteralTerm l) = leaf (LiteralTerm l) tt
    inferred_low (FunctionTerm takes c body) = row_function takes c body (inferred_low body)
    inferred_low (TypeFunctionTerm bound body) = row_type_function bound body (inferred_low body)
    inferred_low (BoxTerm v) = leaf (BoxTerm v) tt
    inferred_low (Application v w) = leaf (Application v w) tt
    inferred_low (TypeApplication v s) = leaf (TypeApplication v s) tt
    inferred_low (Unboxing o v) = leaf (Unboxing o v) tt
    inferred_low (Let note right body) = row_let note right body (inferred_low right) (inferred_low body)
    inferred_low (Primitive o v w) = leaf (Primitive o v w) tt
    inferred_low (Conditional Absent v one two) = λ g places r qs came. no_choice v one two g places r qs came
    inferred_low (Conditional (Written s c) v one two) = row_choice s c v one two (inferred_low one) (inferred_low two)
    inferred_low (Conditional (Own s) v one two) = row_choice_own s v one two (inferred_low one) (inferred_low two)
    inferred_low (Repetition v w) = leaf (Repetition v w) tt
    inferred_low (Operation o v w) = leaf (Operation o v w) tt
    inferred_low (Boundary x body) = row_boundary x body (inferred_low body)
    inferred_low (Leave x c v w) = leaf (Leave x c v w) tt
