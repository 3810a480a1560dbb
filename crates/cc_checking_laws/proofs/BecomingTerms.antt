-- With enough steps for each comparison, the derivation of a term that is found is the canonical one.
use Rattle.std.proofs.Common.{◌≡◌, ℕ, suc, ◌+◌, ◌≤◌, cond, List, [], ◌∷◌, ◌++◌, length, Some, None, refl, sym, ap, ◌∙◌, subst, arith}
use Rattle.cc_base.specs.declared.literal.Base.TheVariants as bases
use Rattle.cc_base.specs.declared.literal.Base.{Base}
use Rattle.cc_base.specs.declared.literal.Op.{Op}
use Rattle.cc_capture.specs.declared.var.Var.{Var}
use Rattle.cc_capture.specs.declared.var.Elem.TheVariants.{Cap}
use Rattle.cc_capture.specs.Sets.{Set, empty}
use Rattle.cc_core.specs.Shapes.{Shape, BaseShape, FunctionShape, TypeFunctionShape, BoxShape, ExitShape, CapturingType, capturing}
use Rattle.cc_core.specs.Terms.{Note, Absent, Written, Own, Term}
use Rattle.cc_core.specs.Contexts.{Bind, TypeEntry, Context, entry_of, lookup}
use Rattle.cc_core.specs.Captured.{variable_set}
use Rattle.cc_core.specs.Equality.{same_type}
use Rattle.cc_core.specs.Reading.{read_term}
use Rattle.cc_core.specs.Subtyping.{Subtypes, transitive, box, reflexive}
use Rattle.cc_core.specs.Substitution.{replaced_type, replaced_type_by_shape}
use Rattle.cc_core.specs.Typing.{base_operated, base_taken, base_given, base_answered}
use Rattle.cc_core.specs.WellFormed.{Kind, TermKind, kinds_of}
use Rattle.cc_core.specs.Derivations.{t-sub, t-app, t-tapp, t-unbox, t-prim, t-if, t-repeat, t-op, t-boundary, t-exit, ByCapturing, OfType, TypeBelow, Derivation, Node, one, two, three}
use Rattle.cc_core.proofs.CapturedKinds.{empty_kinded}
use Rattle.cc_core.proofs.KindFacts.{IsKinded, IsKindedSet, IsKindedType, IsKindedTerm}
use Rattle.cc_core.proofs.KindRespecting.{single_kinded}
use Rattle.cc_core.proofs.Lookups.{lookup-newest}
use Rattle.cc_core.proofs.Sorts.{SetSort, ShapeSort, TypeSort}
use Rattle.cc_core.proofs.SubcapturingContexts.{IsKindedContext, IsKinded-added, IsKindedSet-added}
use Rattle.cc_checking.specs.Comparison.{Demand, Matches, comparison, HasDemands, TypesHaveDemands}
use Rattle.cc_checking.specs.Avoidance.{Positive, avoided_type}
use Rattle.cc_checking.specs.Exposing.{exposed}
use Rattle.cc_checking.specs.Outcomes.{Asked}
use Rattle.cc_checking.specs.Inference.{Result, in_context, set_in, shape_in, type_in, base_type, Named, exit_entry}
use Rattle.cc_checking.specs.CanonicalDerivations.{set_derived, type_derived, shape_derived, canonical_shapes, typed, raised, raised_if, shape_at, variable_derived, head_derived, operand_derived, given_derived, application_derived, type_application_derived, unboxing_derived, operation_derived, exit_derived, avoided_or, noted_derived, left_derived, let_node, let_derived, function_node, type_function_node, choice_derived, boundary_node, term_derived}
use Rattle.cc_typing_laws.proofs.Avoiding.{positive_above}
use Rattle.cc_typing_laws.proofs.ComparisonLemmas.{then_parts, subtyping_compares}
use Rattle.cc_typing_laws.proofs.ExposingShapes.{exposed_above}
use Rattle.cc_typing_laws.proofs.InternalConversions.{closed_in_set}
use Rattle.cc_checking_laws.proofs.DerivedDefinitions.{canonical_derives}
use Rattle.cc_checking_laws.proofs.DerivedRows.{each_holds-parts, gives, shape_there}
use Rattle.cc_checking_laws.proofs.DerivedTerms.{finds_derived, function_part, type_function_part, boundary_part, let_parts, choice_parts}
use Rattle.cc_checking_laws.proofs.FilledComparisons.{EachHolds}
use Rattle.cc_checking_laws.proofs.Findings.{Has, Operand, below_all, Notes, notes-absent, notes-written, notes-own, Finds, finds-variable, finds-literal, finds-function, finds-type_function, finds-box, finds-application, finds-type_application, finds-unboxing, finds-unboxing_own, finds-let, finds-primitive, finds-choice, finds-choice_own, finds-repetition, finds-operation, finds-operation_alone, finds-boundary, finds-exit}
use Rattle.cc_checking_laws.proofs.FoundTypes.{has_kinded, has_exposed, notes_kinded, left_kinded, regular}
use Rattle.cc_checking_laws.proofs.ReadingKinds.{Inside, deeper, read_kinded}
use Rattle.cc_checking_laws.proofs.Staying.{settled}

-- from some number on it is the same
pub record Becomes {A : Type 0} (f : ℕ → A) (a : A) : Type 0 where
  pub from : ℕ
  pub is : (m : ℕ) → from ≤ m → f m ≡ a

pub still : {A : Type 0} (a : A) → Becomes (λ m. a) a
still a = record { from = 0; is = λ m h. refl }

pub through : {A B : Type 0} (h : A → B) (f : ℕ → A) (a : A) → Becomes f a → Becomes (λ m. h (f m)) (h a)
through h f a p = record { from = p.from; is = λ m l. ap h (p.is m l) }

through_two : {A B C : Type 0} (h : A → B → C) (f : ℕ → A) (a : A) (k : ℕ → B) (b : B) → Becomes f a → Becomes k b
    → Becomes (λ m. h (f m) (k m)) (h a b)
through_two h f a k b p q = record {
  from = p.from + q.from;
  is = λ m l.
      let x = p.is m (omega arith) in
      let y = q.is m (omega arith) in
      λ i. h (x i) (y i);
}

through_three : {A B C D : Type 0} (h : A → B → C → D) (f : ℕ → A) (a : A) (k : ℕ → B) (b : B) (n : ℕ → C) (c : C)
    → Becomes f a → Becomes k b → Becomes n c → Becomes (λ m. h (f m) (k m) (n m)) (h a b c)
through_three h f a k b n c p q r = record {
  from = p.from + (q.from + r.from);
  is = λ m l.
      let x = p.is m (omega arith) in
      let y = q.is m (omega arith) in
      let z = r.is m (omega arith) in
      λ i. h (x i) (y i) (z i);
}

module _ (g : Context) (formed : IsKindedContext g) where
  shapes_become : (l r : Shape) (ds : List Demand) → IsKinded (kinds_of g) [] l → IsKinded (kinds_of g) [] r → HasDemands g l r ds
      → Becomes (λ m. shape_derived m g l r) (canonical_shapes g l r)
  shapes_become l r ds kl kr h = record { from = h.0; is = λ m le. settled g l r ds formed kl kr h m le }

  pub below_become : (l r : Shape) → IsKinded (kinds_of g) [] l → IsKinded (kinds_of g) [] r → Subtypes g l r
      → Becomes (λ m. shape_derived m g l r) (canonical_shapes g l r)
  below_become l r kl kr below =
      let found = (subtyping_compares g l r).0 below in shapes_become l r found.0 kl kr found.1

  types_become : (l r : CapturingType) (ds : List Demand) → IsKinded (kinds_of g) [] l.shape → IsKinded (kinds_of g) [] r.shape
      → TypesHaveDemands g l r ds
      → Becomes (λ m. shape_derived m g l.shape r.shape) (canonical_shapes g l.shape r.shape)
  types_become l r ds kl kr h =
      let own : List Demand = record { context = g; left = l.set; right = r.set } ∷ [] in
      let parts = then_parts (Matches own) (comparison h.0 g l.shape r.shape) ds h.1 in
      shapes_become l.shape r.shape parts.1 kl kr (h.0, parts.3)

  -- a type that is widened
  pub raised_becomes : (f : ℕ → Derivation) (d : Derivation) (l r : CapturingType) → Becomes f d → typed d ≡ l
      → Becomes (λ m. shape_derived m g l.shape r.shape) (canonical_shapes g l.shape r.shape)
      → Becomes (λ m. raised (shape_derived m) g (f m) r) (raised canonical_shapes g d r)
  raised_becomes f d l r p e q = record {
    from = p.from + q.from;
    is = λ m le.
        let x = p.is m (omega arith) in
        let y = subst (λ (s : CapturingType). shape_derived m g s.shape r.shape ≡ canonical_shapes g s.shape r.shape) (sym e) (q.is m (omega arith)) in
        ap (λ (z : Derivation). raised (shape_derived m) g z r) x
        ∙ ap (λ (z : Derivation). Node t-sub (two d (Node ByCapturing (two (set_derived g (typed d).set r.set) z) (TypeBelow (typed d) r))) (OfType r)) y;
  }

  pub raised_if_becomes : (f : ℕ → Derivation) (d : Derivation) (l r : CapturingType) → Becomes f d → typed d ≡ l
      → Becomes (λ m. shape_derived m g l.shape r.shape) (canonical_shapes g l.shape r.shape)
      → Becomes (λ m. raised_if (shape_derived m) g (f m) r) (raised_if canonical_shapes g d r)
  raised_if_becomes f d l r p e q = record {
    from = p.from + q.from;
    is = λ m le.
        let x = p.is m (omega arith) in
        let y = subst (λ (s : CapturingType). shape_derived m g s.shape r.shape ≡ canonical_shapes g s.shape r.shape) (sym e) (q.is m (omega arith)) in
        ap (λ (z : Derivation). raised_if (shape_derived m) g z r) x
        ∙ ap (λ (z : Derivation). cond (same_type (typed d) r) d (Node t-sub (two d (Node ByCapturing (two (set_derived g (typed d).set r.set) z) (TypeBelow (typed d) r))) (OfType r))) y;
  }

  variable_gives : {v : Var} {s : Shape} {d : Set} → Has g v s d → typed (variable_derived g v) ≡ capturing s (variable_set v)
  variable_gives {v} h = ap (λ x. capturing x (variable_set v)) (shape_there canonical_shapes canonical_derives g formed h)

  given_becomes : {v : Var} {s : Shape} {d : Set} → Has g v s d → (t : CapturingType)
      → Becomes (λ m. shape_derived m g s t.shape) (canonical_shapes g s t.shape)
      → Becomes (λ m. given_derived (shape_derived m) g v t) (given_derived canonical_shapes g v t)
  given_becomes {v} {s} h t q =
      raised_becomes (λ m. variable_derived g v) (variable_derived g v) (capturing s (variable_set v)) t (still (variable_derived g v)) (variable_gives h) q

  head_becomes : {v : Var} {s : Shape} {d : Set} → Has g v s d
      → Becomes (λ m. head_derived (shape_derived m) g v) (head_derived canonical_shapes g v)
  head_becomes {v} {s} h =
      let there = shape_there canonical_shapes canonical_derives g formed h in
      let x : Shape = exposed g s in
      let q = below_become s x (has_kinded formed h).0 (has_exposed formed h refl) (exposed_above g s) in
      subst (λ (y : Shape). Becomes (λ m. raised_if (shape_derived m) g (variable_derived g v) (capturing (exposed g y) (variable_set v))) (raised_if canonical_shapes g (variable_derived g v) (capturing (exposed g y) (variable_set v)))) (sym there)
      (raised_if_becomes (λ m. variable_derived g v) (variable_derived g v) (capturing s (variable_set v)) (capturing x (variable_set v)) (still (variable_derived g v)) (variable_gives h) q)

  operand_becomes : (v : Var) (x : Shape) (ds : List Demand) → Operand g v x ds → IsKinded (kinds_of g) [] x
      → Becomes (λ m. operand_derived (shape_derived m) g (in_context g v) x) (operand_derived canonical_shapes g (in_context g v) x)
  operand_becomes v x ds o k =
      given_becomes o.has (capturing x (variable_set (in_context g v))) (shapes_become o.shape x ds (has_kinded formed o.has).0 k o.demands)

  -- what depends on the exposed shape
  at_head : {v : Var} {s x : Shape} {d : Set} → Has g v s d → exposed g s ≡ x → (f : ℕ → Shape → Derivation) (tree : Shape → Derivation)
      → Becomes (λ m. f m x) (tree x) → Becomes (λ m. f m (exposed g (shape_at g v))) (tree (exposed g (shape_at g v)))
  at_head h e f tree p =
      subst (λ (y : Shape). Becomes (λ m. f m y) (tree y)) (sym (ap (exposed g) (shape_there canonical_shapes canonical_derives g formed h) ∙ e)) p

-- a let, whose body's tree is given for each entry
let_becomes : (g : Context) → IsKindedContext g → (f : ℕ → Derivation) (d : Derivation) (k : ℕ → Bind → Derivation) (e : Bind → Derivation)
    (t u v : CapturingType) → IsKindedType (kinds_of g) [] t → IsKindedType (kinds_of (entry_of t ∷ g)) [] u
    → avoided_type Positive (length g) t.set u ≡ Some v
    → Becomes f d → typed d ≡ t → Becomes (λ m. k m (entry_of t)) (e (entry_of t)) → typed (e (entry_of t)) ≡ u
    → Becomes (λ m. let_derived (shape_derived m) g (f m) (k m)) (let_derived canonical_shapes g d e)
let_becomes g formed f d k e t u v kt ku av p gp q gq =
    let n : ℕ = length g in
    let under : Context = entry_of t ∷ g in
    let above = positive_above under n t.shape t.set u v (lookup-newest (entry_of t) g) (closed_in_set g t.set kt.1) av in
    let kv = left_kinded g t u v kt.1 ku av in
    let tree : Derivation = e (entry_of t) in
    let is_v : avoided_or (typed tree) (avoided_type Positive n t.set (typed tree)) ≡ v =
    ap (λ (y : CapturingType). avoided_or y (avoided_type Positive n t.set y)) gq ∙ ap (avoided_or u) av in
    let shapes = below_become under (kt, formed) u.shape v.shape ku.0 (IsKinded-added TermKind (kinds_of g) [] v.shape kv.0) above.1 in
    record {
      from = p.from + (q.from + shapes.from);
      is = λ m le.
          let x = p.is m (omega arith) in
          let y = q.is m (omega arith) in
          let z = shapes.is m (omega arith) in
          let z' : raised (shape_derived m) under tree v ≡ raised canonical_shapes under tree v =
          ap (λ (w : Derivation). Node t-sub (two tree (Node ByCapturing (two (set_derived under (typed tree).set v.set) w) (TypeBelow (typed tree) v))) (OfType v))
          (subst (λ (s : CapturingType). shape_derived m under s.shape v.shape ≡ canonical_shapes under s.shape v.shape) (sym gq) z) in
          let left : left_derived (shape_derived m) g t tree ≡ left_derived canonical_shapes g t tree =
          ap (λ (w : CapturingType). raised_if (shape_derived m) under tree w) is_v
          ∙ ap (λ (w : Derivation). cond (same_type (typed tree) v) tree w) z'
          ∙ ap (λ (w : CapturingType). raised_if canonical_shapes under tree w) (sym is_v) in
          ap (λ (w : Derivation). let_derived (shape_derived m) g w (k m)) x
          ∙ ap (λ (w : CapturingType). let_node d (left_derived (shape_derived m) g w (k m (entry_of w)))) gp
          ∙ ap (λ (w : Derivation). let_node d (left_derived (shape_derived m) g t w)) y
          ∙ ap (λ (w : Derivation). let_node d w) left
          ∙ ap (λ (w : CapturingType). let_node d (left_derived canonical_shapes g w (e (entry_of w)))) (sym gp);
    }

-- what is written for a type
noted_becomes : {root : ℕ} {g : Context} {note : Note} {t : CapturingType} {m : Named} {ps : List Asked}
    → Notes root g note t m ps → m.note ≡ note → IsKindedContext g
    → IsKindedType (kinds_of g) [] t → IsKindedType (kinds_of g) [] m.type
    → (f : ℕ → Derivation) (d : Derivation) → Becomes f d → typed d ≡ t
    → Becomes (λ n. noted_derived (shape_derived n) g note (f n)) (noted_derived canonical_shapes g note d)
    × (typed (noted_derived canonical_shapes g note d) ≡ m.type)
noted_becomes notes-absent e k kt km f d p gp = (p, gp)
noted_becomes (notes-written {t = t} {s = s} {c = c} {ds = ds} b) e k kt km f d p gp =
    (raised_becomes _ k f d t (type_in _ (capturing s c)) p gp (types_become _ k t (type_in _ (capturing s c)) ds kt.0 km.0 b), refl)
noted_becomes (notes-own b) e k kt km f d p gp = cc

module _ (base : Context) where
  found_type : {g : Context} {passed : List Kind} {t : Term} {r : Result} {qs : List Asked}
      → Finds (length base) g t r qs → r.completed ≡ t
      → Inside base g passed → IsKindedContext g → IsKindedTerm (kinds_of base) passed t → EachHolds qs
      → typed (term_derived canonical_shapes g t) ≡ r.type
  found_type f e i k kt holds = gives (finds_derived canonical_shapes canonical_derives base f e i k kt holds)

  pub term_becomes : {g : Context} {passed : List Kind} {t : Term} {r : Result} {qs : List Asked}
      → Finds (length base) g t r qs → r.completed ≡ t
      → Inside base g passed → IsKindedContext g → IsKindedTerm (kinds_of base) passed t → EachHolds qs
      → Becomes (λ m. term_derived (shape_derived m) g t) (term_derived canonical_shapes g t)
  term_becomes (finds-variable {g = g} {v = v} h) e i k kt holds = still (variable_derived g (in_context g v))
  term_becomes (finds-literal {g = g} {l = l}) e i k kt holds = still _
  term_becomes (finds-function {g = g} {takes = takes} {c = c} {body = body} {r = r} {qs = qs} b) e i k kt holds =
      let p = read_kinded i TypeSort (capturing takes c) (kt.0, kt.1) in
      let under : Context = entry_of (type_in g (capturing takes c)) ∷ g in
      through (function_node g takes c body) (λ m. term_derived (shape_derived m) under body) (term_derived canonical_shapes under body)
      (term_becomes b (function_part e) (deeper (entry_of (type_in g (capturing takes c))) i) (p, k) kt.2 (each_holds-parts qs [] holds).0)
  term_becomes (finds-type_function {g = g} {bound = bound} {body = body} {r = r} {qs = qs} b) e i k kt holds =
      let p = read_kinded i ShapeSort bound kt.0 in
      let under : Context = TypeEntry (shape_in g bound) ∷ g in
      through (type_function_node g bound body) (λ m. term_derived (shape_derived m) under body) (term_derived canonical_shapes under body)
      (term_becomes b (type_function_part e) (deeper (TypeEntry (shape_in g bound)) i) (p, k) kt.1 (each_holds-parts qs [] holds).0)
  term_becomes (finds-box {g = g} {v = v} h) e i k kt holds = still _
  term_becomes (finds-application {g = g} {v = v} {w = w} {s' = s'} {takes = takes} {gives = give} {c = c} {e = x} {ds = ds} h is h' b) e i k kt holds =
      let v' : Var = in_context g v in
      let w' : Var = in_context g w in
      let kx = has_exposed k h is in
      at_head g k h is (λ m y. application_derived (shape_derived m) g v' w' y) (application_derived canonical_shapes g v' w')
      (through_two (λ a b. Node t-app (two a b) (OfType (replaced_type w' (capturing give x))))
      (λ m. head_derived (shape_derived m) g v') (head_derived canonical_shapes g v')
      (λ m. given_derived (shape_derived m) g w' (capturing takes c)) (given_derived canonical_shapes g w' (capturing takes c))
      (head_becomes g k h)
      (given_becomes g k h' (capturing takes c) (types_become g k (capturing s' (variable_set w')) (capturing takes c) ds (has_kinded k h').0 kx.0 b)))
  term_becomes (finds-type_application {g = g} {v = v} {x = y} {bound = bound} {gives = give} {e = x} {ds = ds} h is b) e i k kt holds =
      let v' : Var = in_context g v in
      let kx = has_exposed k h is in
      at_head g k h is (λ m z. type_application_derived (shape_derived m) g v' (shape_in g y) z) (type_application_derived canonical_shapes g v' (shape_in g y))
      (through_two (λ a b. Node t-tapp (two a b) (OfType (replaced_type_by_shape (shape_in g y) (capturing give x))))
      (λ m. head_derived (shape_derived m) g v') (head_derived canonical_shapes g v')
      (λ m. shape_derived m g (shape_in g y) bound) (canonical_shapes g (shape_in g y) bound)
      (head_becomes g k h) (shapes_become g k (shape_in g y) bound ds (read_kinded i ShapeSort y kt.1) kx.0 b))
  term_becomes (finds-unboxing {g = g} {v = v} {s = s} {content = content} {c = c} {set = set} h is) e i k kt holds =
      let v' : Var = in_context g v in
      let kx = has_exposed k h is in
      let whole : Shape = BoxShape content (set_in g set) in
      let below : Subtypes g s whole = transitive (subst (Subtypes g s) is (exposed_above g s)) (box holds.0 reflexive) in
      at_head g k h is (λ m z. unboxing_derived (shape_derived m) g (set_in g set) v' z) (unboxing_derived canonical_shapes g (set_in g set) v')
      (through (λ a. Node t-unbox (one a) (OfType (capturing content (set_in g set))))
      (λ m. given_derived (shape_derived m) g v' (capturing whole (variable_set v'))) (given_derived canonical_shapes g v' (capturing whole (variable_set v')))
      (given_becomes g k h (capturing whole (variable_set v'))
      (below_become g k s whole (has_kinded k h).0 (kx.0, read_kinded i SetSort set kt.0) below)))
  term_becomes (finds-unboxing_own h is) e i k kt holds = cc
  term_becomes (finds-let {g = g} {note = note} {right = right} {body = body} {r = r} {r' = r'} {named = named} {type = type} {qs = qs} {ps = ps} {qs' = qs'} a nt b av) e i k kt holds =
      let same = let_parts e in
      let h = each_holds-parts qs (ps ++ (qs' ++ [])) holds in
      let h' = each_holds-parts ps (qs' ++ []) h.1 in
      let h2 = each_holds-parts qs' [] h'.1 in
      let x = regular base a i k kt.1 in
      let y = notes_kinded base nt i kt.0 x.0 in
      let inner = deeper (entry_of named.type) i in
      let z = regular base b inner (y.0, k) kt.2 in
      let p = noted_becomes nt same.0 k x.0 y.0 (λ m. term_derived (shape_derived m) g right) (term_derived canonical_shapes g right)
      (term_becomes a same.1 i k kt.1 h.0) (found_type a same.1 i k kt.1 h.0) in
      let_becomes g k (λ m. noted_derived (shape_derived m) g note (term_derived (shape_derived m) g right)) (noted_derived canonical_shapes g note (term_derived canonical_shapes g right))
      (λ m entry. term_derived (shape_derived m) (entry ∷ g) body) (λ entry. term_derived canonical_shapes (entry ∷ g) body)
      named.type r'.type type y.0 z.0 av p.0 p.1
      (term_becomes b same.2 inner (y.0, k) kt.2 h2.0) (found_type b same.2 inner (y.0, k) kt.2 h2.0)
  term_becomes (finds-primitive {g = g} {o = o} {v = v} {w = w} {ds = ds} {es = es} a b) e i k kt holds =
      through_two (λ x y. Node t-prim (two x y) (OfType (base_type (base_given o))))
      (λ m. operand_derived (shape_derived m) g (in_context g v) (BaseShape bases.Int)) (operand_derived canonical_shapes g (in_context g v) (BaseShape bases.Int))
      (λ m. operand_derived (shape_derived m) g (in_context g w) (BaseShape bases.Int)) (operand_derived canonical_shapes g (in_context g w) (BaseShape bases.Int))
      (operand_becomes g k v (BaseShape bases.Int) ds a tt) (operand_becomes g k w (BaseShape bases.Int) es b tt)
  term_becomes (finds-choice {g = g} {x = x} {c = c} {v = v} {t = t} {u = u} {r = r} {r' = r'} {ds = ds} {es = es} {es' = es'} {qs = qs} {qs' = qs'} o a p b q) e i k kt holds =
      let same = choice_parts e in
      let s = each_holds-parts (below_all ds) ((qs ++ (below_all es ++ [])) ++ ((qs' ++ (below_all es' ++ [])) ++ [])) holds in
      let s1 = each_holds-parts (qs ++ (below_all es ++ [])) ((qs' ++ (below_all es' ++ [])) ++ []) s.1 in
      let s2 = each_holds-parts qs (below_all es ++ []) s1.0 in
      let s3 = each_holds-parts (qs' ++ (below_all es' ++ [])) [] s1.1 in
      let s4 = each_holds-parts qs' (below_all es' ++ []) s3.0 in
      let kx = read_kinded i TypeSort (capturing x c) kt.0 in
      let y = regular base a i k kt.2 in
      let z = regular base b i k kt.3 in
      let type : CapturingType = type_in g (capturing x c) in
      through_three (λ a b c. Node t-if (three a b c) (OfType type))
      (λ m. operand_derived (shape_derived m) g (in_context g v) (BaseShape bases.Bool)) (operand_derived canonical_shapes g (in_context g v) (BaseShape bases.Bool))
      (λ m. raised (shape_derived m) g (term_derived (shape_derived m) g t) type) (raised canonical_shapes g (term_derived canonical_shapes g t) type)
      (λ m. raised (shape_derived m) g (term_derived (shape_derived m) g u) type) (raised canonical_shapes g (term_derived canonical_shapes g u) type)
      (operand_becomes g k v (BaseShape bases.Bool) ds o tt)
      (raised_becomes g k (λ m. term_derived (shape_derived m) g t) (term_derived canonical_shapes g t) r.type type
      (term_becomes a same.1 i k kt.2 s2.0) (found_type a same.1 i k kt.2 s2.0) (types_become g k r.type type es y.0.0 kx.0 p))
      (raised_becomes g k (λ m. term_derived (shape_derived m) g u) (term_derived canonical_shapes g u) r'.type type
      (term_becomes b same.2 i k kt.3 s4.0) (found_type b same.2 i k kt.3 s4.0) (types_become g k r'.type type es' z.0.0 kx.0 q))
  term_becomes (finds-choice_own o a p b q) e i k kt holds = cc
  term_becomes (finds-repetition {g = g} {v = v} {w = w} {ds = ds} {es = es} a b) e i k kt holds =
      let numbers : Shape = FunctionShape (BaseShape bases.Int) empty (BaseShape bases.Unit) empty in
      through_two (λ x y. Node t-repeat (two x y) (OfType (base_type bases.Unit)))
      (λ m. operand_derived (shape_derived m) g (in_context g v) (BaseShape bases.Int)) (operand_derived canonical_shapes g (in_context g v) (BaseShape bases.Int))
      (λ m. operand_derived (shape_derived m) g (in_context g w) numbers) (operand_derived canonical_shapes g (in_context g w) numbers)
      (operand_becomes g k v (BaseShape bases.Int) ds a tt)
      (operand_becomes g k w numbers es b (tt, empty_kinded (kinds_of g) [], tt, empty_kinded (kinds_of g) (TermKind ∷ [])))
  term_becomes (finds-operation {g = g} {o = o} {v = v} {w = w} {base = taken} {ds = ds} h is t a) e i k kt holds =
      subst (λ y. Becomes (λ m. operation_derived (shape_derived m) g o (in_context g v) (Some (in_context g w)) y) (operation_derived canonical_shapes g o (in_context g v) (Some (in_context g w)) y)) (sym t)
      (through_two (λ x y. Node t-op (two x y) (OfType (base_type (base_answered o))))
      (λ m. head_derived (shape_derived m) g (in_context g v)) (head_derived canonical_shapes g (in_context g v))
      (λ m. operand_derived (shape_derived m) g (in_context g w) (BaseShape taken)) (operand_derived canonical_shapes g (in_context g w) (BaseShape taken))
      (head_becomes g k h) (operand_becomes g k w (BaseShape taken) ds a tt))
  term_becomes (finds-operation_alone {g = g} {o = o} {v = v} h is t) e i k kt holds =
      subst (λ y. Becomes (λ m. operation_derived (shape_derived m) g o (in_context g v) None y) (operation_derived canonical_shapes g o (in_context g v) None y)) (sym t)
      (through (λ x. Node t-op (one x) (OfType (base_type (base_answered o))))
      (λ m. head_derived (shape_derived m) g (in_context g v)) (head_derived canonical_shapes g (in_context g v)) (head_becomes g k h))
  term_becomes (finds-boundary {g = g} {x = x} {body = body} {r = r} {qs = qs} {ds = ds} a b) e i k kt holds =
      let same = boundary_part e in
      let h = each_holds-parts (qs ++ (below_all ds ++ [])) [] holds in
      let h' = each_holds-parts qs (below_all ds ++ []) h.0 in
      let kx = read_kinded i ShapeSort x kt.0 in
      let ke = single_kinded (kinds_of g) [] Cap tt in
      let under : Context = exit_entry (shape_in g x) ∷ g in
      let inner = deeper (exit_entry (shape_in g x)) i in
      let y = regular base a inner ((kx, ke), k) kt.1 in
      let whole : CapturingType = capturing (shape_in g x) empty in
      through (λ z. Node t-boundary (one z) (OfType whole))
      (λ m. raised (shape_derived m) under (term_derived (shape_derived m) under body) whole) (raised canonical_shapes under (term_derived canonical_shapes under body) whole)
      (raised_becomes under ((kx, ke), k) (λ m. term_derived (shape_derived m) under body) (term_derived canonical_shapes under body) r.type whole
      (term_becomes a same inner ((kx, ke), k) kt.1 h'.0) (found_type a same inner ((kx, ke), k) kt.1 h'.0)
      (types_become under ((kx, ke), k) r.type whole ds y.0.0 (IsKinded-added TermKind (kinds_of g) [] (shape_in g x) kx) b))
  term_becomes (finds-exit {g = g} {x = x} {c = c} {v = v} {w = w} {s' = s'} {takes = takes} {ds = ds} h is h' b) e i k kt holds =
      let v' : Var = in_context g v in
      let w' : Var = in_context g w in
      let type : CapturingType = type_in g (capturing x c) in
      at_head g k h is (λ m y. exit_derived (shape_derived m) g type v' w' y) (exit_derived canonical_shapes g type v' w')
      (through_two (λ a b. Node t-exit (two a b) (OfType type))
      (λ m. head_derived (shape_derived m) g v') (head_derived canonical_shapes g v')
      (λ m. given_derived (shape_derived m) g w' (capturing takes empty)) (given_derived canonical_shapes g w' (capturing takes empty))
      (head_becomes g k h)
      (given_becomes g k h' (capturing takes empty) (types_become g k (capturing s' (variable_set w')) (capturing takes empty) ds (has_kinded k h').0 (has_exposed k h is) b)))
