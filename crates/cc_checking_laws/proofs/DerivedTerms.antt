-- Where all that is asked holds as it stands, the canonical derivation of a completed term is valid and concludes the type that
-- was found.
use Rattle.std.proofs.Common.{◌≡◌, ℕ, suc, List, [], ◌∷◌, ◌++◌, length, Some, refl, sym, ap, ◌∙◌, subst}
use Rattle.cc_capture.specs.declared.var.Elem.TheVariants.{Cap}
use Rattle.cc_capture.specs.Sets.{Set, empty}
use Rattle.cc_core.specs.Shapes.{Shape, CapturingType, capturing}
use Rattle.cc_core.specs.Terms.{Note, Term, FunctionTerm, TypeFunctionTerm, Let, Conditional, Boundary}
use Rattle.cc_core.specs.Contexts.{Bind, TypeEntry, Context, entry_of}
use Rattle.cc_core.specs.Traversal.{act_note, act_term}
use Rattle.cc_core.specs.Reading.{reading, read_term}
use Rattle.cc_core.specs.WellFormed.{Kind, TermKind, kinds_of}
use Rattle.cc_core.specs.Typing.{IsNoteOf}
use Rattle.cc_core.specs.Derivations.{Derivation, OfType}
use Rattle.cc_core.proofs.CapturedKinds.{empty_kinded}
use Rattle.cc_core.proofs.KindFacts.{IsKindedType, IsKindedTerm}
use Rattle.cc_core.proofs.KindRespecting.{single_kinded}
use Rattle.cc_core.proofs.Lookups.{lookup-newest}
use Rattle.cc_core.proofs.ReadingAndWriting.{opened_term-read}
use Rattle.cc_core.proofs.Sorts.{SetSort, ShapeSort, TypeSort}
use Rattle.cc_core.proofs.SubcapturingContexts.{IsKindedContext, IsKinded-added, IsKindedSet-added}
use Rattle.cc_checking.specs.Comparison.{Demand, TypesHaveDemands}
use Rattle.cc_checking.specs.Avoidance.{Positive, avoided_type}
use Rattle.cc_checking.specs.Outcomes.{Asked}
use Rattle.cc_checking.specs.Inference.{Result, set_in, shape_in, type_in, Named, exit_entry}
use Rattle.cc_checking.specs.CanonicalDerivations.{Deriving, typed, raised, raised_if, avoided_or, noted_derived, left_derived, let_node, let_derived, term_derived}
use Rattle.cc_typing_laws.proofs.Avoiding.{positive_above}
use Rattle.cc_typing_laws.proofs.InternalConversions.{fresh_in, fresh_in_set, closed_in_set}
use Rattle.cc_checking_laws.proofs.Findings.{below_all, Notes, notes-absent, notes-written, notes-own, Finds, finds-variable, finds-literal, finds-function, finds-type_function, finds-box, finds-application, finds-type_application, finds-unboxing, finds-unboxing_own, finds-let, finds-primitive, finds-choice, finds-choice_own, finds-repetition, finds-operation, finds-operation_alone, finds-boundary, finds-exit}
use Rattle.cc_checking_laws.proofs.FilledComparisons.{EachHolds}
use Rattle.cc_checking_laws.proofs.ReadingKinds.{Inside, deeper, read_kinded}
use Rattle.cc_checking_laws.proofs.FoundTypes.{notes_kinded, left_kinded, regular}
use Rattle.cc_checking_laws.proofs.DerivedRows.{each_holds-parts, types_hold, Derives, gives, DerivesAll, of_term, raised_valid, raised_if_valid, variable_valid, row_box, row_application, row_type_application, row_unboxing, row_operation, row_operation_alone, row_exit, row_primitive, row_repetition, row_function, row_type_function, row_boundary, row_choice}

-- parts of equal terms
pub function_part : {x y : Shape} {c d : Set} {t u : Term} → FunctionTerm x c t ≡ FunctionTerm y d u → t ≡ u
function_part e = cc

pub type_function_part : {x y : Shape} {t u : Term} → TypeFunctionTerm x t ≡ TypeFunctionTerm y u → t ≡ u
type_function_part e = cc

pub boundary_part : {x y : Shape} {t u : Term} → Boundary x t ≡ Boundary y u → t ≡ u
boundary_part e = cc

pub let_parts : {m n : Note} {t t' u u' : Term} → Let m t t' ≡ Let n u u' → (m ≡ n) × (t ≡ u) × (t' ≡ u')
let_parts e = (cc, cc, cc)

pub choice_parts : {m n : Note} {v w : _} {t t' u u' : Term} → Conditional m v t t' ≡ Conditional n w u u'
    → (m ≡ n) × (t ≡ u) × (t' ≡ u')
choice_parts e = (cc, cc, cc)

module _ (derive : Deriving) (derives : DerivesAll derive) where
  -- what is widened to what is written
  compared_valid : (g : Context) → IsKindedContext g
      → (t : Term) (d : Derivation) (l r : CapturingType) (ds : List Demand) → IsKindedType (kinds_of g) [] l
      → IsKindedType (kinds_of g) [] r
      → TypesHaveDemands g l r ds → EachHolds (below_all ds) → Derives g t d l → Derives g t (raised derive g d r) r
  compared_valid g f t d l r ds kl kr b h p = raised_valid derive derives g f t d l r kl kr (types_hold g l r ds b h) p

  -- with what is written for the type
  pub noted_valid : {root : ℕ} {g : Context} {note : Note} {t : CapturingType} {m : Named} {ps : List Asked}
      → Notes root g note t m ps → m.note ≡ note → IsKindedContext g
      → IsKindedType (kinds_of g) [] t → IsKindedType (kinds_of g) [] m.type → EachHolds ps
      → (x : Term) (d : Derivation) → Derives g x d t
      → Derives g x (noted_derived derive g note d) m.type × IsNoteOf (act_note (reading (length g)) 0 note) m.type.shape m.type.set
  noted_valid notes-absent e f k km h x d p = (p, tt)
  noted_valid (notes-written {t = t} {s = s} {c = c} {ds = ds} b) e f k km h x d p =
      (compared_valid _ f x d t (type_in _ (capturing s c)) ds k km b (each_holds-parts (below_all ds) [] h).0 p, (refl, refl))
  noted_valid (notes-own b) e f k km h x d p = cc

  -- a let, whose body's tree is given for each entry
  row_let : (g : Context) (formed : IsKindedContext g) (note : Note) (x body : Term) (right : Derivation) (tree : Bind → Derivation) (t u v : CapturingType)
      → IsKindedType (kinds_of g) [] t → IsKindedType (kinds_of (entry_of t ∷ g)) [] u
      → avoided_type Positive (length g) t.set u ≡ Some v
      → Derives g x right t → IsNoteOf note t.shape t.set
      → Derives (entry_of t ∷ g) (read_term (suc (length g)) body) (tree (entry_of t)) u
      → Derives g (Let note x (act_term (reading (length g)) 1 body)) (let_derived derive g right tree) v
  row_let g formed note x body right tree t u v kt ku e p is q =
      let n : ℕ = length g in
      let above = positive_above (entry_of t ∷ g) n t.shape t.set u v (lookup-newest (entry_of t) g) (closed_in_set g t.set kt.1) e in
      let kv = left_kinded g t u v kt.1 ku e in
      let kv' : IsKindedType (kinds_of (entry_of t ∷ g)) [] v = (IsKinded-added TermKind (kinds_of g) [] v.shape kv.0, IsKindedSet-added TermKind (kinds_of g) [] v.set kv.1) in
      let part : Derivation = tree (entry_of t) in
      let is_v : avoided_or (typed part) (avoided_type Positive n t.set (typed part)) ≡ v =
      ap (λ (y : CapturingType). avoided_or y (avoided_type Positive n t.set y)) (gives q) ∙ ap (avoided_or u) e in
      let wide : Derives (entry_of t ∷ g) (read_term (suc n) body) (left_derived derive g t part) v =
      subst (λ (y : CapturingType). Derives (entry_of t ∷ g) (read_term (suc n) body) (raised_if derive (entry_of t ∷ g) part y) v) (sym is_v)
      (raised_if_valid derive derives (entry_of t ∷ g) (kt, formed) (read_term (suc n) body) part u v ku kv' above q) in
      let inner = of_term (sym (opened_term-read n body)) wide in
      let claim = ap OfType (gives wide) in
      subst (λ (y : CapturingType). Derives g (Let note x (act_term (reading n) 1 body)) (let_node right (left_derived derive g y (tree (entry_of y)))) v) (sym (gives p))
      (record {
        valid = (
          note,
          x,
          act_term (reading n) 1 body,
          t.shape,
          t.set,
          v.shape,
          v.set,
          refl,
          p.valid,
          p.concludes,
          is,
          inner.valid,
          inner.concludes,
          fresh_in g [] v.shape kv.0,
          fresh_in_set g [] v.set kv.1,
          claim,
        );
        concludes = claim;
      })

  module _ (base : Context) where
    pub finds_derived : {g : Context} {passed : List Kind} {t : Term} {r : Result} {qs : List Asked}
        → Finds (length base) g t r qs → r.completed ≡ t
        → Inside base g passed → IsKindedContext g → IsKindedTerm (kinds_of base) passed t → EachHolds qs
        → Derives g (read_term (length g) t) (term_derived derive g t) r.type
    finds_derived (finds-variable {g = g} h) e i k kt holds = variable_valid derive derives g k h
    finds_derived (finds-literal {l = l}) e i k kt holds = record { valid = (l, refl, refl); concludes = refl }
    finds_derived (finds-function {g = g} {takes = takes} {c = c} {body = body} {r = r} {qs = qs} b) e i k kt holds =
        let p = read_kinded i TypeSort (capturing takes c) (kt.0, kt.1) in
        let same = function_part e in
        row_function derive derives g k takes c body r _ same p
        (finds_derived b same (deeper (entry_of (type_in g (capturing takes c))) i) (p, k) kt.2 (each_holds-parts qs [] holds).0)
    finds_derived (finds-type_function {g = g} {bound = bound} {body = body} {r = r} {qs = qs} b) e i k kt holds =
        let p = read_kinded i ShapeSort bound kt.0 in
        let same = type_function_part e in
        row_type_function derive derives g k bound body r _ same p
        (finds_derived b same (deeper (TypeEntry (shape_in g bound)) i) (p, k) kt.1 (each_holds-parts qs [] holds).0)
    finds_derived (finds-box {g = g} h) e i k kt holds = row_box derive derives g k h
    finds_derived (finds-application {g = g} {takes = takes} {gives = give} {c = c} {e = x} {ds = ds} h is h' b) e i k kt holds =
        row_application derive derives g k takes give c x ds h is h' b (each_holds-parts (below_all ds) [] holds).0
    finds_derived (finds-type_application {g = g} {x = y} {bound = bound} {gives = give} {e = x} {ds = ds} h is b) e i k kt holds =
        row_type_application derive derives g k (shape_in g y) bound give x ds h is b (each_holds-parts (below_all ds) [] holds).0 (read_kinded i ShapeSort y kt.1)
    finds_derived (finds-unboxing {g = g} {content = content} {c = c} {set = set} h is) e i k kt holds =
        row_unboxing derive derives g k content c (set_in g set) h is holds.0 holds.1.0 (read_kinded i SetSort set kt.0)
    finds_derived (finds-unboxing_own h is) e i k kt holds = cc
    finds_derived (finds-let {g = g} {note = note} {right = right} {body = body} {r = r} {r' = r'} {named = named} {type = type} {qs = qs} {ps = ps} {qs' = qs'} a nt b av) e i k kt holds =
        let same = let_parts e in
        let h = each_holds-parts qs (ps ++ (qs' ++ [])) holds in
        let h' = each_holds-parts ps (qs' ++ []) h.1 in
        let h2 = each_holds-parts qs' [] h'.1 in
        let x = regular base a i k kt.1 in
        let y = notes_kinded base nt i kt.0 x.0 in
        let z = regular base b (deeper (entry_of named.type) i) (y.0, k) kt.2 in
        let p = noted_valid nt same.0 k x.0 y.0 h'.0 (read_term (length g) right) (term_derived derive g right) (finds_derived a same.1 i k kt.1 h.0) in
        row_let g k (act_note (reading (length g)) 0 note) (read_term (length g) right) body (noted_derived derive g note (term_derived derive g right))
        (λ (entry : Bind). term_derived derive (entry ∷ g) body) named.type r'.type type y.0 z.0 av p.0 p.1
        (finds_derived b same.2 (deeper (entry_of named.type) i) (y.0, k) kt.2 h2.0)
    finds_derived (finds-primitive {g = g} {o = o} {v = v} {w = w} {ds = ds} {es = es} a b) e i k kt holds =
        let h = each_holds-parts (below_all ds) (below_all es ++ []) holds in
        row_primitive derive derives g k o v w ds es a b h.0 (each_holds-parts (below_all es) [] h.1).0
    finds_derived (finds-choice {g = g} {x = x} {c = c} {v = v} {t = t} {u = u} {r = r} {r' = r'} {ds = ds} {es = es} {es' = es'} {qs = qs} {qs' = qs'} o a p b q) e i k kt holds =
        let same = choice_parts e in
        let s = each_holds-parts (below_all ds) ((qs ++ (below_all es ++ [])) ++ ((qs' ++ (below_all es' ++ [])) ++ [])) holds in
        let s1 = each_holds-parts (qs ++ (below_all es ++ [])) ((qs' ++ (below_all es' ++ [])) ++ []) s.1 in
        let s2 = each_holds-parts qs (below_all es ++ []) s1.0 in
        let s3 = each_holds-parts (qs' ++ (below_all es' ++ [])) [] s1.1 in
        let s4 = each_holds-parts qs' (below_all es' ++ []) s3.0 in
        let kx = read_kinded i TypeSort (capturing x c) kt.0 in
        let y = regular base a i k kt.2 in
        let z = regular base b i k kt.3 in
        let type : CapturingType = type_in g (capturing x c) in
        row_choice derive derives g k v type (read_term (length g) t) (read_term (length g) u) (term_derived derive g t) (term_derived derive g u) ds o s.0
        (compared_valid g k (read_term (length g) t) (term_derived derive g t) r.type type es y.0 kx p (each_holds-parts (below_all es) [] s2.1).0 (finds_derived a same.1 i k kt.2 s2.0))
        (compared_valid g k (read_term (length g) u) (term_derived derive g u) r'.type type es' z.0 kx q (each_holds-parts (below_all es') [] s4.1).0 (finds_derived b same.2 i k kt.3 s4.0))
    finds_derived (finds-choice_own o a p b q) e i k kt holds = cc
    finds_derived (finds-repetition {g = g} {v = v} {w = w} {ds = ds} {es = es} a b) e i k kt holds =
        let h = each_holds-parts (below_all ds) (below_all es ++ []) holds in
        row_repetition derive derives g k v w ds es a b h.0 (each_holds-parts (below_all es) [] h.1).0
    finds_derived (finds-operation {g = g} {o = o} {w = w} {base = taken} {ds = ds} h is t a) e i k kt holds =
        row_operation derive derives g k o w taken ds h is t a (each_holds-parts (below_all ds) [] holds).0
    finds_derived (finds-operation_alone {g = g} {o = o} h is t) e i k kt holds = row_operation_alone derive derives g k o h is t
    finds_derived (finds-boundary {g = g} {x = x} {body = body} {r = r} {qs = qs} {ds = ds} a b) e i k kt holds =
        let same = boundary_part e in
        let h = each_holds-parts (qs ++ (below_all ds ++ [])) [] holds in
        let h' = each_holds-parts qs (below_all ds ++ []) h.0 in
        let kx = read_kinded i ShapeSort x kt.0 in
        let ke = single_kinded (kinds_of g) [] Cap tt in
        let under : Context = exit_entry (shape_in g x) ∷ g in
        let inner = deeper (exit_entry (shape_in g x)) i in
        let y = regular base a inner ((kx, ke), k) kt.1 in
        row_boundary derive derives g k (shape_in g x) body (term_derived derive under body) kx
        (compared_valid under ((kx, ke), k) (read_term (suc (length g)) body) (term_derived derive under body) r.type (capturing (shape_in g x) empty) ds y.0
        (IsKinded-added TermKind (kinds_of g) [] (shape_in g x) kx, empty_kinded (TermKind ∷ kinds_of g) []) b (each_holds-parts (below_all ds) [] h'.1).0
        (finds_derived a same inner ((kx, ke), k) kt.1 h'.0))
    finds_derived (finds-exit {g = g} {x = x} {c = c} {takes = takes} {ds = ds} h is h' b) e i k kt holds =
        row_exit derive derives g k (type_in g (capturing x c)) takes ds h is h' b (each_holds-parts (below_all ds) [] holds).0 (read_kinded i TypeSort (capturing x c) (kt.0, kt.1))
