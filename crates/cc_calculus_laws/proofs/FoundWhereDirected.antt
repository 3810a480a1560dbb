-- A directed type is found by inference, and the filling serves all that it asks.
use Rattle.std.proofs.Common.{◌≡◌, ℕ, zero, ◌+◌, ◌≤◌, Bool, true, false, cond, List, [], ◌∷◌, ◌++◌, length, Some, None, refl, sym, ap, ◌∙◌, subst, inl, inr, arith}
use Rattle.std.specs.Prelude.{map, nat_eq, nat_le}
use Rattle.std.proofs.lemmas.Bool.Decides.{nat_tests}
use Rattle.cc_base.specs.declared.code.Code.TheVariants.{E17, E18}
use Rattle.cc_base.specs.declared.literal.Base.TheVariants as bases
use Rattle.cc_base.specs.declared.place.Place.{Place}
use Rattle.cc_capture.specs.declared.var.Var.{Var}
use Rattle.cc_capture.specs.declared.var.Var.TheVariants.{Bound, Free}
use Rattle.cc_capture.specs.declared.var.Elem.TheVariants.{Cap}
use Rattle.cc_capture.specs.Sets.{Set, empty}
use Rattle.cc_capture.proofs.Membership.{Member-empty}
use Rattle.cc_core.specs.Shapes.{Shape, BaseShape, AnyShape, TypeVariable, FunctionShape, TypeFunctionShape, BoxShape, ExitShape, CapturingType, capturing}
use Rattle.cc_core.specs.Terms.{Note, Written, Own, Term, VariableTerm, LiteralTerm, FunctionTerm, TypeFunctionTerm, BoxTerm, Application, TypeApplication, Unboxing, Let, Primitive, Conditional, Repetition, Operation, Boundary, Leave}
use Rattle.cc_core.specs.Contexts.{Bind, TermEntry, TypeEntry, Context, entry_of}
use Rattle.cc_core.specs.Substitution.{single, moving}
use Rattle.cc_core.specs.Reading.{read_variable}
use Rattle.cc_core.specs.Sizes.{type_size}
use Rattle.cc_core.specs.Captured.{variable_set}
use Rattle.cc_core.specs.Places.{Places, spots, first_part, second_part}
use Rattle.cc_core.specs.Occurrences.{IsNoHole, HasNoHole, HasNoHoleInSet}
use Rattle.cc_core.specs.Holes.{HasHoleAloneOrNone, NoteHasNoHole, HolesAreOfParameters}
use Rattle.cc_core.specs.WellFormed.{Kind, TermKind, kinds_of}
use Rattle.cc_core.proofs.CapturedKinds.{empty_kinded}
use Rattle.cc_core.proofs.KindFacts.{IsKinded, IsKindedType, IsKindedNote, IsKindedTerm}
use Rattle.cc_core.proofs.KindRespecting.{single_kinded}
use Rattle.cc_core.proofs.Moving.{Member-single}
use Rattle.cc_core.proofs.Sorts.{ShapeSort, TypeSort}
use Rattle.cc_core.proofs.SubcapturingContexts.{IsKindedContext, IsKinded-added}
use Rattle.cc_checking.specs.Comparison.{Demand, demanded, Comparison, Matches, comparison, type_comparison, HasDemands, TypesHaveDemands}
use Rattle.cc_checking.specs.Exposing.{followed, exposed}
use Rattle.cc_checking.specs.Avoidance.{Positive, avoided_type}
use Rattle.cc_checking.specs.Outcomes.{Asked, Outcome, Refused, Found, finds, found_or}
use Rattle.cc_checking.specs.Fillings.{Filling, IsOverGlobals}
use Rattle.cc_checking.specs.Inference.{Result, result, in_context, set_in, shape_in, type_in, compared_at, operand, Named, named_by, noted, part_below, part_against, sized, function_found, type_function_found, choice_found, exit_entry, inferred, unlimited, limited, demand_at, variable_type, entry_type}
use Rattle.cc_typing_laws.proofs.ComparisonLemmas.{Keeps, keeps_then, comparison_keeps}
use Rattle.cc_checking_laws.proofs.Findings.{Has, its_type, below_all, Operand, Notes, notes-absent, notes-written, notes-own, Finds, finds-variable, finds-literal, finds-box, finds-application, finds-type_application, finds-unboxing, finds-unboxing_own, finds-primitive, finds-repetition, finds-operation, finds-operation_alone, finds-exit}
use Rattle.cc_checking_laws.proofs.FoundFindings.{asked_of-demands, Came, sized_came, append_none, found_finds}
use Rattle.cc_checking_laws.proofs.ReachedFindings.{then_reaches, reaches}
use Rattle.cc_checking_laws.proofs.ReadingKinds.{Inside, deeper, read_kinded}
use Rattle.cc_checking_laws.proofs.FoundTypes.{has_exposed, has_kinded, variable_set_kinded, notes_kinded, regular}
use Rattle.cc_checking_laws.proofs.FilledSubtyping.{Serves}
use Rattle.cc_checking_laws.proofs.Tameness.{Closed, Tame, closed_tame, closed_from, LeavesHoles-moving, act_set_alone, act_closed, TameEntry, TameContext, tame_entry}
use Rattle.cc_checking_laws.proofs.TameFindings.{notes_tame, tame}
use Rattle.cc_calculus_laws.specs.DirectedTypes.{TypeIsBelow, HasShape, own_type, IsOfShape, IsNamedWith, nothing_written, type_written, set_omitted, HasDirectedType, by_form, HasTypeByForm, of_variable, of_literal, of_function, of_type_function, of_box, of_application, of_type_application, of_unboxing, of_unboxing_alone, of_let, of_primitive, of_choice, of_choice_alone, of_repetition, of_operation, of_operation_alone, of_boundary, of_exit}
use Rattle.cc_calculus_laws.proofs.FilledMatches.{shapes_match, types_match}
use Rattle.cc_calculus_laws.proofs.FoundDirected.{IsLeaf}

-- steps that are reached
pub finds_reached : {A : Type 0} (a : A) → Came (finds a) a []
finds_reached a = ([], refl, refl)

pub compared_reached : (at : Place) (c : Comparison) (ds : List Demand) → c ≡ Matches ds → Came (compared_at at c) tt (below_all ds)
compared_reached at c ds e = (map (demand_at at) ds, ap (compared_at at) e, asked_of-demands at ds)

kept_answer : (a b : Comparison) (ds : List Demand) → Keeps a b → a ≡ Matches ds → b ≡ Matches ds
kept_answer a b ds (inl e) is = cc
kept_answer a b ds (inr e) is = sym e ∙ is

shapes_later : (g : Context) (l r : Shape) {ds : List Demand} → HasDemands g l r ds → (n : ℕ) × ((m : ℕ) → n ≤ m → comparison m g l r ≡ Matches ds)
shapes_later g l r {ds} (n, e) = (n, λ m h. kept_answer (comparison n g l r) (comparison m g l r) ds (comparison_keeps n m h g l r) e)

pub types_later : (g : Context) (l r : CapturingType) {ds : List Demand} → TypesHaveDemands g l r ds → (n : ℕ) × ((m : ℕ) → n ≤ m → type_comparison m g l r ≡ Matches ds)
types_later g l r {ds} (n, e) =
    (n, λ m h. kept_answer (type_comparison n g l r) (type_comparison m g l r) ds (keeps_then (Matches (demanded g l.set r.set ∷ [])) _ _ (comparison_keeps n m h g l.shape r.shape)) e)

pub notes_later : {root : ℕ} {g : Context} {note : Note} {t : CapturingType} {named : Named} {ps : List Asked} → Notes root g note t named ps
    → (n : ℕ) × ((m : ℕ) → n ≤ m → (at : Place) → Came (noted (comparison m) root at g note t) named ps)
notes_later notes-absent = (zero, λ m h at. finds_reached _)
notes_later (notes-written {ds = ds} b) = let k = types_later _ _ _ b in (k.0, λ m h at. then_reaches _ (compared_reached at _ ds (k.1 m h)) (finds_reached _) refl)
notes_later (notes-own {ds = ds} b) = let k = shapes_later _ _ _ b in (k.0, λ m h at. then_reaches _ (compared_reached at _ ds (k.1 m h)) (finds_reached _) refl)

variable_reached : (g : Context) (v : Var) {s : Shape} {d : Set} → Has g v s d → Came (variable_type g v) (capturing s (variable_set v)) []
variable_reached g v {s} {d} h =
    ([], subst (λ w. variable_type g w ≡ Found (capturing s (variable_set w)) []) (sym h.is) (ap (entry_type (Free h.position)) h.there), refl)

operand_later : {g : Context} {v : Var} {s : Shape} {ds : List Demand} → Operand g v s ds
    → (n : ℕ) × ((m : ℕ) → n ≤ m → (at : Place) → Came (operand (comparison m) at g v s) tt (below_all ds))
operand_later {g} {v} {s} {ds} o =
    let k = shapes_later g o.shape s o.demands in
    (k.0, λ m h at. then_reaches _ (variable_reached g (in_context g v) o.has) (compared_reached at (comparison m g o.shape s) ds (k.1 m h)) refl)

part_below_reached : (m : ℕ) (at : Place) (g : Context) (type : CapturingType) {row : Outcome Result} {r : Result} {qs : List Asked} (ds : List Demand) → Came row r qs → type_comparison m g r.type type ≡ Matches ds
    → Came (part_below (comparison m) at g type row) r (qs ++ (below_all ds ++ []))
part_below_reached m at g type {r = r} ds c e = then_reaches _ c (then_reaches _ (compared_reached at (type_comparison m g r.type type) ds e) (finds_reached r) refl) refl

part_against_reached : (m : ℕ) (at : Place) (g : Context) (shape : Shape) {row : Outcome Result} {r : Result} {qs : List Asked} (ds : List Demand) → Came row r qs → comparison m g r.type.shape shape ≡ Matches ds
    → Came (part_against (comparison m) at g shape row) r (qs ++ (below_all ds ++ []))
part_against_reached m at g shape {r = r} ds c e = then_reaches _ c (then_reaches _ (compared_reached at (comparison m g r.type.shape shape) ds e) (finds_reached r) refl) refl

-- the test of the size passes
small_passes : (size : ℕ) → size ≤ 4096 → nat_le size 4096 ≡ true
small_passes size h = grind (arith, nat_tests, h)

sized_again : (m : ℕ) (places : Places) {o : Outcome Result} {r : Result} {qs : List Asked} → Came o r qs → type_size r.type ≤ 4096 → Came (sized (limited m) places o) r qs
sized_again m places {r = r} {qs = qs} c small =
    then_reaches _ c ([], ap (λ b. cond b (finds r) (Refused E18 (spots places).at)) (small_passes (type_size r.type) small), refl) (sym (append_none qs))

limited_leaf : (t : Term) → IsLeaf t → (m root : ℕ) (g : Context) (places : Places) {r : Result} {qs : List Asked} → Came (inferred (unlimited m) root g t places) r qs → type_size r.type ≤ 4096
    → Came (inferred (limited m) root g t places) r qs
limited_leaf (VariableTerm v) l m root g places c small = sized_again m places (sized_came (unlimited m) places c) small
limited_leaf (LiteralTerm x) l m root g places c small = sized_again m places (sized_came (unlimited m) places c) small
limited_leaf (FunctionTerm x y t) l m root g places c small = absurd l
limited_leaf (TypeFunctionTerm x t) l m root g places c small = absurd l
limited_leaf (BoxTerm v) l m root g places c small = sized_again m places (sized_came (unlimited m) places c) small
limited_leaf (Application v w) l m root g places c small = sized_again m places (sized_came (unlimited m) places c) small
limited_leaf (TypeApplication v x) l m root g places c small = sized_again m places (sized_came (unlimited m) places c) small
limited_leaf (Unboxing o v) l m root g places c small = sized_again m places (sized_came (unlimited m) places c) small
limited_leaf (Let note t u) l m root g places c small = absurd l
limited_leaf (Primitive o v w) l m root g places c small = sized_again m places (sized_came (unlimited m) places c) small
limited_leaf (Conditional note v t u) l m root g places c small = absurd l
limited_leaf (Repetition v w) l m root g places c small = sized_again m places (sized_came (unlimited m) places c) small
limited_leaf (Operation o v w) l m root g places c small = sized_again m places (sized_came (unlimited m) places c) small
limited_leaf (Boundary x t) l m root g places c small = absurd l
limited_leaf (Leave x y v w) l m root g places c small = sized_again m places (sized_came (unlimited m) places c) small

-- exposing keeps shapes tame
followed_tame : (b : Bind) (n : ℕ) (s : Shape) → TameEntry b → Tame s → Tame (followed b n s)
followed_tame (TermEntry x c) n s t k = k
followed_tame (TypeEntry b) n (TypeVariable (Free q)) t k = by_test (nat_eq q n)
  where
    by_test : (x : Bool) → Tame (cond x b (TypeVariable (Free q)))
    by_test true = closed_tame b t
    by_test false = tt
followed_tame (TypeEntry b) n (TypeVariable (Bound i)) t k = k
followed_tame (TypeEntry b) n (BaseShape x) t k = k
followed_tame (TypeEntry b) n AnyShape t k = k
followed_tame (TypeEntry b) n (FunctionShape x c u e) t k = k
followed_tame (TypeEntry b) n (TypeFunctionShape x u e) t k = k
followed_tame (TypeEntry b) n (BoxShape x c) t k = k
followed_tame (TypeEntry b) n (ExitShape x) t k = k

exposed_tame : (g : Context) (s : Shape) → TameContext g → Tame s → Tame (exposed g s)
exposed_tame [] s t k = k
exposed_tame (b ∷ g) s t k = exposed_tame g (followed b (length g) s) t.1 (followed_tame b (length g) s t.0 k)

-- a variable of a shape
has_from : {g : Context} {v : Var} {s : Shape} (h : HasShape g v s) → Has g (in_context g v) s h.declared
has_from h = record { position = h.position; is = h.is; there = h.there }

shape_tame : {g : Context} {v : Var} {s : Shape} → TameContext g → HasShape g v s → Tame s
shape_tame {g} {v} {s} t h = (tame_entry g h.position (TermEntry s h.declared) t h.there).0

head_tame : {g : Context} {v : Var} {s : Shape} (x : Shape) → TameContext g → HasShape g v s → exposed g s ≡ x → Tame x
head_tame {g} {v} {s} x t h e = subst Tame e (exposed_tame g s t (shape_tame t h))

read_closed : (g : Context) (s : Shape) → HasNoHole s → Closed (shape_in g s)
read_closed g s k = act_closed (moving (read_variable (length g))) (LeavesHoles-moving (read_variable (length g))) 0 s (closed_from 0 s k)

read_set_alone : (g : Context) (c : Set) → HasHoleAloneOrNone c → HasHoleAloneOrNone (set_in g c)
read_set_alone g c k = act_set_alone (moving (read_variable (length g))) (LeavesHoles-moving (read_variable (length g))) 0 c k

no_hole_empty : HasNoHoleInSet empty
no_hole_empty x m = absurd (Member-empty x m)

-- what is served
serves_both : (f : Filling) (a b : List Asked) → Serves f a → Serves f b → Serves f (a ++ b)
serves_both f [] b p q = q
serves_both f (x ∷ a) b p q = (p.0, serves_both f a b p.1 q)

pub serves_alone : (f : Filling) (a : List Asked) → Serves f a → Serves f (a ++ [])
serves_alone f a p = serves_both f a [] p tt

serves_two : (f : Filling) (a b : List Asked) → Serves f a → Serves f b → Serves f (a ++ (b ++ []))
serves_two f a b p q = serves_both f a (b ++ []) p (serves_alone f b q)

module _ (base : Context) (count : ℕ) (f : Filling) (over : IsOverGlobals count f) where
  -- with so many steps or more it is found, and what is asked is served
  pub record Comes (g : Context) (t : Term) (places : Places) (r : Result) : Type 0 where
    pub asked : List Asked
    pub serves : Serves f asked
    pub steps : ℕ
    pub came : (m : ℕ) → steps ≤ m → Came (inferred (limited m) (length base) g t places) r asked

  pub finding : {g : Context} {t : Term} {places : Places} {r : Result} (c : Comes g t places r) → Finds (length base) g t r c.asked
  finding {g} {t} {places} c = found_finds c.steps (length base) (limited c.steps).passes t g places (c.came c.steps (omega arith))

  leaf_comes : (t : Term) → IsLeaf t → (g : Context) (places : Places) (r : Result) (qs : List Asked) → Finds (length base) g t r qs → Serves f qs → type_size r.type ≤ 4096 → Comes g t places r
  leaf_comes t l g places r qs found s small =
      let k = reaches (length base) found places in
      record { asked = qs; serves = s; steps = k.0; came = λ m h. limited_leaf t l m (length base) g places (k.1 m h) small }

  -- an operand
  record Served (g : Context) (v : Var) (s : Shape) : Type 0 where
    demands : List Demand
    operand : Operand g v s demands
    serves : Serves f (below_all demands)

  served : (g : Context) (v : Var) (s : Shape) → IsKindedContext g → TameContext g → IsKinded (kinds_of g) [] s → Tame s → IsOfShape f g v s → Served g v s
  served g v s k tg ks ts o =
      let m = shapes_match count f over g o.0 s k tg (has_kinded k (has_from o.1)).0 ks (shape_tame tg o.1) ts o.2 in
      record { demands = m.0; operand = record { shape = o.0; declared = o.1.declared; has = has_from o.1; demands = m.1 }; serves = m.2 }

  -- a value that is handed over
  given : (g : Context) (v : Var) (s : Shape) (t : CapturingType) → IsKindedContext g → TameContext g → IsKindedType (kinds_of g) [] t → Tame t.shape → HasShape g v s → TypeIsBelow f g (own_type g v s) t
      → (ds : List Demand) × TypesHaveDemands g (its_type g v s) t ds × Serves f (below_all ds)
  given g v s t k tg kt tt' h below = types_match count f over g (own_type g v s) t k tg ((has_kinded k (has_from h)).0, variable_set_kinded (has_from h)) kt (shape_tame tg h) tt' below

  -- the type that is named
  pub named_notes : {g : Context} {passed : List Kind} {t : CapturingType} {note note' : Note} {named : CapturingType} → Inside base g passed → IsKindedContext g → TameContext g → IsKindedType (kinds_of g) [] t
      → IsKindedNote (kinds_of base) passed note → NoteHasNoHole note → Tame t.shape → IsNamedWith f (length base) g t note note' named
      → (ps : List Asked) × Notes (length base) g note t (named_by named note') ps × Serves f ps
  named_notes i k tg kt kn h ts nothing_written = ([], notes-absent, tt)
  named_notes {g} {t = t} i k tg kt kn h ts (type_written {shape = s} {set = c} below) =
      let m = types_match count f over g t (type_in g (capturing s c)) k tg kt (read_kinded i TypeSort (capturing s c) kn) ts (closed_tame (shape_in g s) (read_closed g s h.0)) below in
      (below_all m.0 ++ [], notes-written m.1, serves_alone f (below_all m.0) m.2)
  named_notes {g} {t = t} i k tg kt kn h ts (set_omitted {shape = s} below) =
      let m = shapes_match count f over g t.shape (shape_in g s) k tg kt.0 (read_kinded i ShapeSort s kn) ts (closed_tame (shape_in g s) (read_closed g s h)) below in
      (below_all m.0 ++ [], notes-own m.1, serves_alone f (below_all m.0) m.2)

  -- forms with parts
  row_function : (g : Context) (takes : Shape) (c : Set) (body : Term) (places : Places) (r : Result) → Comes (entry_of (type_in g (capturing takes c)) ∷ g) body (first_part places) r
      → type_size (function_found g takes c r).type ≤ 4096 → Comes g (FunctionTerm takes c body) places (function_found g takes c r)
  row_function g takes c body places r b small =
      record { asked = b.asked ++ []; serves = serves_alone f b.asked b.serves; steps = b.steps; came = λ m h. sized_again m places (then_reaches _ (b.came m h) (finds_reached _) refl) small }

  row_type_function : (g : Context) (bound : Shape) (body : Term) (places : Places) (r : Result) → Comes (TypeEntry (shape_in g bound) ∷ g) body (first_part places) r
      → type_size (type_function_found g bound r).type ≤ 4096 → Comes g (TypeFunctionTerm bound body) places (type_function_found g bound r)
  row_type_function g bound body places r b small =
      record { asked = b.asked ++ []; serves = serves_alone f b.asked b.serves; steps = b.steps; came = λ m h. sized_again m places (then_reaches _ (b.came m h) (finds_reached _) refl) small }

  row_let : (g : Context) (note : Note) (right body : Term) (places : Places) (r r' : Result) (named : Named) (type : CapturingType) → Comes g right (first_part places) r
      → (ps : List Asked) → Notes (length base) g note r.type named ps → Serves f ps
      → Comes (entry_of named.type ∷ g) body (second_part places) r' → avoided_type Positive (length g) named.type.set r'.type ≡ Some type → type_size type ≤ 4096
      → Comes g (Let note right body) places (result type (Let named.note r.completed r'.completed))
  row_let g note right body places r r' named type a ps nt s b e small =
      let k = notes_later nt in
      record {
        asked = a.asked ++ (ps ++ (b.asked ++ []));
        serves = serves_both f a.asked (ps ++ (b.asked ++ [])) a.serves (serves_two f ps b.asked s b.serves);
        steps = a.steps + (k.0 + b.steps);
        came = λ m h. let la : a.steps ≤ m = omega arith in let lk : k.0 ≤ m = omega arith in let lb : b.steps ≤ m = omega arith in
            sized_again m places
            (then_reaches _ (a.came m la)
            (then_reaches _ (k.1 m lk (spots (first_part places)).at)
            (then_reaches _ (b.came m lb)
            (then_reaches _ ([], ap (found_or E17 (spots places).first) e, refl) (finds_reached _) refl) refl) refl) refl) small;
      }

  row_choice : (g : Context) (x : Shape) (c : Set) (v : Var) (t u : Term) (places : Places) (r r' : Result) → Served g v (BaseShape bases.Bool)
      → Comes g t (first_part places) r → (ds : List Demand) → TypesHaveDemands g r.type (type_in g (capturing x c)) ds → Serves f (below_all ds)
      → Comes g u (second_part places) r' → (es : List Demand) → TypesHaveDemands g r'.type (type_in g (capturing x c)) es → Serves f (below_all es)
      → type_size (type_in g (capturing x c)) ≤ 4096
      → Comes g (Conditional (Written x c) v t u) places (result (type_in g (capturing x c)) (Conditional (Written x c) v r.completed r'.completed))
  row_choice g x c v t u places r r' o a ds p s b es q s' small =
      let k = operand_later o.operand in
      let l = types_later _ _ _ p in
      let l' = types_later _ _ _ q in
      record {
        asked = below_all o.demands ++ ((a.asked ++ (below_all ds ++ [])) ++ ((b.asked ++ (below_all es ++ [])) ++ []));
        serves = serves_both f (below_all o.demands) _ o.serves
            (serves_two f (a.asked ++ (below_all ds ++ [])) (b.asked ++ (below_all es ++ [])) (serves_two f a.asked (below_all ds) a.serves s) (serves_two f b.asked (below_all es) b.serves s'));
        steps = k.0 + (a.steps + (l.0 + (b.steps + l'.0)));
        came = λ m h. let lk : k.0 ≤ m = omega arith in let la : a.steps ≤ m = omega arith in let ll : l.0 ≤ m = omega arith in let lb : b.steps ≤ m = omega arith in let ll' : l'.0 ≤ m = omega arith in
            sized_again m places
            (then_reaches _ (k.1 m lk (spots places).first)
            (then_reaches _ (part_below_reached m (spots (first_part places)).at g (type_in g (capturing x c)) ds (a.came m la) (l.1 m ll))
            (then_reaches _ (part_below_reached m (spots (second_part places)).at g (type_in g (capturing x c)) es (b.came m lb) (l'.1 m ll')) (finds_reached _) refl) refl) refl) small;
      }

  row_choice_alone : (g : Context) (x : Shape) (v : Var) (t u : Term) (places : Places) (r r' : Result) → Served g v (BaseShape bases.Bool)
      → Comes g t (first_part places) r → (ds : List Demand) → HasDemands g r.type.shape (shape_in g x) ds → Serves f (below_all ds)
      → Comes g u (second_part places) r' → (es : List Demand) → HasDemands g r'.type.shape (shape_in g x) es → Serves f (below_all es)
      → type_size (choice_found (length base) g x v r r').type ≤ 4096
      → Comes g (Conditional (Own x) v t u) places (choice_found (length base) g x v r r')
  row_choice_alone g x v t u places r r' o a ds p s b es q s' small =
      let k = operand_later o.operand in
      let l = shapes_later _ _ _ p in
      let l' = shapes_later _ _ _ q in
      record {
        asked = below_all o.demands ++ ((a.asked ++ (below_all ds ++ [])) ++ ((b.asked ++ (below_all es ++ [])) ++ []));
        serves = serves_both f (below_all o.demands) _ o.serves
            (serves_two f (a.asked ++ (below_all ds ++ [])) (b.asked ++ (below_all es ++ [])) (serves_two f a.asked (below_all ds) a.serves s) (serves_two f b.asked (below_all es) b.serves s'));
        steps = k.0 + (a.steps + (l.0 + (b.steps + l'.0)));
        came = λ m h. let lk : k.0 ≤ m = omega arith in let la : a.steps ≤ m = omega arith in let ll : l.0 ≤ m = omega arith in let lb : b.steps ≤ m = omega arith in let ll' : l'.0 ≤ m = omega arith in
            sized_again m places
            (then_reaches _ (k.1 m lk (spots places).first)
            (then_reaches _ (part_against_reached m (spots (first_part places)).at g (shape_in g x) ds (a.came m la) (l.1 m ll))
            (then_reaches _ (part_against_reached m (spots (second_part places)).at g (shape_in g x) es (b.came m lb) (l'.1 m ll')) (finds_reached _) refl) refl) refl) small;
      }

  row_boundary : (g : Context) (x : Shape) (body : Term) (places : Places) (r : Result) → Comes (exit_entry (shape_in g x) ∷ g) body (first_part places) r
      → (ds : List Demand) → TypesHaveDemands (exit_entry (shape_in g x) ∷ g) r.type (capturing (shape_in g x) empty) ds → Serves f (below_all ds)
      → type_size (capturing (shape_in g x) empty) ≤ 4096
      → Comes g (Boundary x body) places (result (capturing (shape_in g x) empty) (Boundary x r.completed))
  row_boundary g x body places r a ds p s small =
      let l = types_later _ _ _ p in
      record {
        asked = (a.asked ++ (below_all ds ++ [])) ++ [];
        serves = serves_alone f (a.asked ++ (below_all ds ++ [])) (serves_two f a.asked (below_all ds) a.serves s);
        steps = a.steps + l.0;
        came = λ m h. let la : a.steps ≤ m = omega arith in let ll : l.0 ≤ m = omega arith in
            sized_again m places
            (then_reaches _ (part_below_reached m (spots (first_part places)).at (exit_entry (shape_in g x) ∷ g) (capturing (shape_in g x) empty) ds (a.came m la) (l.1 m ll)) (finds_reached _) refl) small;
      }

  -- what is known of a part's type
  record Part (g : Context) (t : CapturingType) : Type 0 where
    kinded : IsKindedType (kinds_of g) [] t
    shape : Tame t.shape
    set : HasNoHoleInSet t.set

  part : {g : Context} {passed : List Kind} {t : Term} {places : Places} {r : Result} → Inside base g passed → IsKindedContext g → TameContext g → IsKindedTerm (kinds_of base) passed t → HolesAreOfParameters t
      → Comes g t places r → Part g r.type
  part i k tg kt ht c =
      let found = finding c in
      let x = tame base found i k kt tg ht in
      record { kinded = (regular base found i k kt).0; shape = x.shape; set = x.set }

  cap_alone : HasHoleAloneOrNone (single Cap)
  cap_alone = inl (λ y m. subst IsNoHole (sym (Member-single y Cap m)) tt)

  mutual
    pub comes : {g : Context} {passed : List Kind} {t t' : Term} {type : CapturingType} → HasDirectedType f (length base) g t t' type → Inside base g passed → IsKindedContext g → TameContext g
        → IsKindedTerm (kinds_of base) passed t → HolesAreOfParameters t → (places : Places) → Comes g t places (result type t')
    comes (by_form h small) i k tg kt ht places = comes_by_form h small i k tg kt ht places

    comes_by_form : {g : Context} {passed : List Kind} {t t' : Term} {type : CapturingType} → HasTypeByForm f (length base) g t t' type → type_size type ≤ 4096 → Inside base g passed → IsKindedContext g → TameContext g
        → IsKindedTerm (kinds_of base) passed t → HolesAreOfParameters t → (places : Places) → Comes g t places (result type t')
    comes_by_form {g} (of_variable {variable = v} h) small i k tg kt ht places = leaf_comes (VariableTerm v) tt g places _ [] (finds-variable (has_from h)) tt small
    comes_by_form {g} (of_literal {literal = l}) small i k tg kt ht places = leaf_comes (LiteralTerm l) tt g places _ [] finds-literal tt small
    comes_by_form {g} (of_function {takes = x} {c = c} {body = t} {body' = t'} {gives = u} b) small i k tg kt ht places =
        row_function g x c t places (result u t')
        (comes b (deeper (entry_of (type_in g (capturing x c))) i) (read_kinded i TypeSort (capturing x c) (kt.0, kt.1), k) ((closed_tame (shape_in g x) (read_closed g x ht.0), read_set_alone g c ht.1), tg) kt.2 ht.2 (first_part places))
        small
    comes_by_form {g} (of_type_function {bound = x} {body = t} {body' = t'} {gives = u} b) small i k tg kt ht places =
        row_type_function g x t places (result u t')
        (comes b (deeper (TypeEntry (shape_in g x)) i) (read_kinded i ShapeSort x kt.0, k) (read_closed g x ht.0, tg) kt.1 ht.1 (first_part places))
        small
    comes_by_form {g} (of_box {content = v} h) small i k tg kt ht places = leaf_comes (BoxTerm v) tt g places _ [] (finds-box (has_from h)) tt small
    comes_by_form {g} (of_application {function = v} {argument = w} {takes = x} {gives = u} {c = c} {e = e} h a) small i k tg kt ht places =
        let ks = has_exposed k (has_from h.1) h.2 in
        let ts = head_tame (FunctionShape x c u e) tg h.1 h.2 in
        let m = given g w a.0 (capturing x c) k tg (ks.0, ks.1) (closed_tame x ts.0) a.1 a.2 in
        leaf_comes (Application v w) tt g places _ (below_all m.0 ++ []) (finds-application (has_from h.1) h.2 (has_from a.1) m.1) (serves_alone f (below_all m.0) m.2) small
    comes_by_form {g} (of_type_application {function = v} {argument = y} {bound = x} {gives = u} {e = e} h below) small i k tg kt ht places =
        let ks = has_exposed k (has_from h.1) h.2 in
        let ts = head_tame (TypeFunctionShape x u e) tg h.1 h.2 in
        let m = shapes_match count f over g (shape_in g y) x k tg (read_kinded i ShapeSort y kt.1) ks.0 (closed_tame (shape_in g y) (read_closed g y ht)) (closed_tame x ts.0) below in
        leaf_comes (TypeApplication v y) tt g places _ (below_all m.0 ++ []) (finds-type_application (has_from h.1) h.2 m.1) (serves_alone f (below_all m.0) m.2) small
    comes_by_form {g} (of_unboxing {box = v} {set = c} h below capless) small i k tg kt ht places =
        leaf_comes (Unboxing (Some c) v) tt g places _ _ (finds-unboxing (has_from h.1) h.2) (below, (capless, tt)) small
    comes_by_form {g} (of_unboxing_alone {box = v} h capless) small i k tg kt ht places =
        leaf_comes (Unboxing None v) tt g places _ _ (finds-unboxing_own (has_from h.1) h.2) (capless, tt) small
    comes_by_form {g} (of_let {note = n} {note' = n'} {right = t} {right' = t'} {body = u} {body' = u'} {found = found} {named = named} {gives = gives} {outside = type} a nm b e) small i k tg kt ht places =
        let ca = comes a i k tg kt.1 ht.1 (first_part places) in
        let pa = part i k tg kt.1 ht.1 ca in
        let nt = named_notes i k tg pa.kinded kt.0 ht.0 pa.shape nm in
        let kn = (notes_kinded base nt.1 i kt.0 pa.kinded).0 in
        let tn = (notes_tame base nt.1 i k tg pa.kinded kt.0 ht.0 pa.shape pa.set).0 in
        let cb = comes b (deeper (entry_of named) i) (kn, k) ((tn.0, inl tn.1), tg) kt.2 ht.2 (second_part places) in
        row_let g n t u places (result found t') (result gives u') (named_by named n') type ca nt.0 nt.1 nt.2 cb e small
    comes_by_form {g} (of_primitive {operator = o} {left = v} {right = w} a b) small i k tg kt ht places =
        let sa = served g v (BaseShape bases.Int) k tg tt tt a in
        let sb = served g w (BaseShape bases.Int) k tg tt tt b in
        leaf_comes (Primitive o v w) tt g places _ _ (finds-primitive sa.operand sb.operand) (serves_two f (below_all sa.demands) (below_all sb.demands) sa.serves sb.serves) small
    comes_by_form {g} (of_choice {test = v} {shape = x} {set = c} {positive = t} {positive' = t'} {negative = u} {negative' = u'} {one = one} {two = two} o a p b q) small i k tg kt ht places =
        let so = served g v (BaseShape bases.Bool) k tg tt tt o in
        let ca = comes a i k tg kt.2 ht.1 (first_part places) in
        let pa = part i k tg kt.2 ht.1 ca in
        let cb = comes b i k tg kt.3 ht.2 (second_part places) in
        let pb = part i k tg kt.3 ht.2 cb in
        let kx = read_kinded i TypeSort (capturing x c) kt.0 in
        let tx = closed_tame (shape_in g x) (read_closed g x ht.0.0) in
        let ma = types_match count f over g one (type_in g (capturing x c)) k tg pa.kinded kx pa.shape tx p in
        let mb = types_match count f over g two (type_in g (capturing x c)) k tg pb.kinded kx pb.shape tx q in
        row_choice g x c v t u places (result one t') (result two u') so ca ma.0 ma.1 ma.2 cb mb.0 mb.1 mb.2 small
    comes_by_form {g} (of_choice_alone {test = v} {shape = x} {positive = t} {positive' = t'} {negative = u} {negative' = u'} {one = one} {two = two} o a p b q) small i k tg kt ht places =
        let so = served g v (BaseShape bases.Bool) k tg tt tt o in
        let ca = comes a i k tg kt.2 ht.1 (first_part places) in
        let pa = part i k tg kt.2 ht.1 ca in
        let cb = comes b i k tg kt.3 ht.2 (second_part places) in
        let pb = part i k tg kt.3 ht.2 cb in
        let kx = read_kinded i ShapeSort x kt.0 in
        let tx = closed_tame (shape_in g x) (read_closed g x ht.0) in
        let ma = shapes_match count f over g one.shape (shape_in g x) k tg pa.kinded.0 kx pa.shape tx p in
        let mb = shapes_match count f over g two.shape (shape_in g x) k tg pb.kinded.0 kx pb.shape tx q in
        row_choice_alone g x v t u places (result one t') (result two u') so ca ma.0 ma.1 ma.2 cb mb.0 mb.1 mb.2 small
    comes_by_form {g} (of_repetition {count = v} {function = w} a b) small i k tg kt ht places =
        let each : Shape = FunctionShape (BaseShape bases.Int) empty (BaseShape bases.Unit) empty in
        let sa = served g v (BaseShape bases.Int) k tg tt tt a in
        let sb = served g w each k tg (tt, empty_kinded (kinds_of g) [], tt, empty_kinded (kinds_of g) (TermKind ∷ [])) (tt, inl no_hole_empty, tt, no_hole_empty) b in
        leaf_comes (Repetition v w) tt g places _ _ (finds-repetition sa.operand sb.operand) (serves_two f (below_all sa.demands) (below_all sb.demands) sa.serves sb.serves) small
    comes_by_form {g} (of_operation {operation = o} {receiver = v} {argument = w} {taken = taken} h e a) small i k tg kt ht places =
        let sa = served g w (BaseShape taken) k tg tt tt a in
        leaf_comes (Operation o v (Some w)) tt g places _ _ (finds-operation (has_from h.1) h.2 e sa.operand) (serves_alone f (below_all sa.demands) sa.serves) small
    comes_by_form {g} (of_operation_alone {operation = o} {receiver = v} h e) small i k tg kt ht places =
        leaf_comes (Operation o v None) tt g places _ [] (finds-operation_alone (has_from h.1) h.2 e) tt small
    comes_by_form {g} (of_boundary {gives = x} {body = t} {body' = t'} {found = found} a p) small i k tg kt ht places =
        let kx = read_kinded i ShapeSort x kt.0 in
        let cx = closed_tame (shape_in g x) (read_closed g x ht.0) in
        let inner = deeper (exit_entry (shape_in g x)) i in
        let k' : IsKindedContext (exit_entry (shape_in g x) ∷ g) = ((kx, single_kinded (kinds_of g) [] Cap tt), k) in
        let tg' : TameContext (exit_entry (shape_in g x) ∷ g) = ((read_closed g x ht.0, cap_alone), tg) in
        let ca = comes a inner k' tg' kt.1 ht.1 (first_part places) in
        let pa = part inner k' tg' kt.1 ht.1 ca in
        let m = types_match count f over (exit_entry (shape_in g x) ∷ g) found (capturing (shape_in g x) empty) k' tg' pa.kinded
        (IsKinded-added TermKind (kinds_of g) [] (shape_in g x) kx, empty_kinded (TermKind ∷ kinds_of g) []) pa.shape cx p in
        row_boundary g x t places (result found t') ca m.0 m.1 m.2 small
    comes_by_form {g} (of_exit {gives = x} {takes = takes} {c = c} {exit = v} {value = w} h a) small i k tg kt ht places =
        let ks = has_exposed k (has_from h.1) h.2 in
        let ts = head_tame (ExitShape takes) tg h.1 h.2 in
        let m = given g w a.0 (capturing takes empty) k tg (ks, empty_kinded (kinds_of g) []) (closed_tame takes ts) a.1 a.2 in
        leaf_comes (Leave x c v w) tt g places _ (below_all m.0 ++ []) (finds-exit (has_from h.1) h.2 (has_from a.1) m.1) (serves_alone f (below_all m.0) m.2) small
