-- What inference finds and asks has no other holes than the term and the context.
use Rattle.std.proofs.Common.{◌≡◌, ℕ, List, [], ◌∷◌, ◌++◌, length, subst}
use Rattle.cc_base.specs.declared.literal.Base.TheVariants as bases
use Rattle.cc_capture.specs.declared.var.Var.{Var}
use Rattle.cc_capture.specs.declared.var.Elem.TheVariants.{Cap}
use Rattle.cc_capture.specs.Sets.{Set, empty, union}
use Rattle.cc_core.specs.Shapes.{Shape, BaseShape, FunctionShape, TypeFunctionShape, BoxShape, ExitShape, CapturingType}
use Rattle.cc_core.specs.Shapes.{capturing}
use Rattle.cc_core.specs.Terms.{Note, Term, FunctionTerm, TypeFunctionTerm}
use Rattle.cc_core.specs.Contexts.{TermEntry, Context}
use Rattle.cc_core.specs.Captured.{captured_variables, variable_set}
use Rattle.cc_core.specs.Reading.{read_variable, written_variable}
use Rattle.cc_core.specs.Substitution.{moving, put_variable, closed_variable}
use Rattle.cc_core.specs.Traversal.{act}
use Rattle.cc_core.specs.Occurrences.{MeetsInNote, MeetsInTerm}
use Rattle.cc_checking.specs.Comparison.{Demand, TypesHaveDemands}
use Rattle.cc_checking.specs.Exposing.{exposed}
use Rattle.cc_checking.specs.Outcomes.{Asked}
use Rattle.cc_checking.specs.Inference.{Result, in_context, set_in, shape_in, type_in, written_in, Named, exit_entry}
use Rattle.cc_checking_laws.proofs.Findings.{Has, below_all, Operand, Notes, notes-absent, notes-written, notes-own}
use Rattle.cc_checking_laws.proofs.Findings.{Finds, finds-variable, finds-literal, finds-function, finds-type_function}
use Rattle.cc_checking_laws.proofs.Findings.{finds-box, finds-application, finds-type_application, finds-unboxing}
use Rattle.cc_checking_laws.proofs.Findings.{finds-unboxing_own, finds-let, finds-primitive, finds-choice}
use Rattle.cc_checking_laws.proofs.Findings.{finds-choice_own, finds-repetition, finds-operation, finds-operation_alone}
use Rattle.cc_checking_laws.proofs.Findings.{finds-boundary, finds-exit}
use Rattle.cc_known.specs.FilledHoles.{holes_below, HasContextHolesBelow, HasAskedHolesBelow}
use Rattle.cc_known.proofs.FilledAlike.{shape_anywhere, term_anywhere}
use Rattle.cc_known.proofs.HolesBelow.{InSet, InShape, InType, InDemands, in_single, in_empty, in_union, in_variable}
use Rattle.cc_known.proofs.HolesBelow.{in_captured, set_moved, shape_moved, set_put, shape_put, outermost_shape}
use Rattle.cc_known.proofs.HolesBelow.{in_entry, in_exposed, avoided_type_in, shapes_in, types_in}

module _ (n : ℕ) where
  abbrev pub AllIn : List Asked → Type 0
  AllIn [] = Unit {0}
  AllIn (q ∷ qs) = HasAskedHolesBelow n q × AllIn qs

  pub all_both : (a b : List Asked) → AllIn a → AllIn b → AllIn (a ++ b)
  all_both [] b p q = q
  all_both (x ∷ a) b p q = (p.0, all_both a b p.1 q)

  pub demands_then : (ds : List Demand) (qs : List Asked) → InDemands n ds → AllIn qs → AllIn (below_all ds ++ qs)
  demands_then [] qs p q = q
  demands_then (d ∷ ds) qs p q = (p.0, demands_then ds qs p.1 q)

  pub record Few (r : Result) (qs : List Asked) : Type 0 where
    pub shape : InShape n r.type.shape
    pub set : InSet n r.type.set
    pub completed : MeetsInTerm (holes_below n) 0 r.completed
    pub asks : AllIn qs

  -- reading, writing and closing
  pub read_shape_in : (g : Context) (s : Shape) → InShape n s → InShape n (shape_in g s)
  read_shape_in g s k = shape_moved n (read_variable (length g)) s k

  pub read_set_in : (g : Context) (c : Set) → InSet n c → InSet n (set_in g c)
  read_set_in g c k = set_moved n (read_variable (length g)) c k

  pub written_set_in : (root : ℕ) (g : Context) (c : Set) → InSet n c → InSet n (written_in root g c)
  written_set_in root g c k = set_moved n (written_variable root (length g)) c k

  has_in : {g : Context} {v : Var} {s : Shape} {d : Set} → HasContextHolesBelow n g → Has g v s d → InShape n s
  has_in {g} {v} {s} {d} k h = (in_entry n g h.position (TermEntry s d) k h.there).0

  head_in : {g : Context} {v : Var} {s : Shape} {d : Set} (x : Shape) → HasContextHolesBelow n g → Has g v s d
      → exposed g s ≡ x → InShape n x
  head_in {g} {v} {s} x k h e = subst (InShape n) e (in_exposed n g s k (has_in k h))

  pub notes_in : {root : ℕ} {g : Context} {note : Note} {t : CapturingType} {m : Named} {ps : List Asked}
      → Notes root g note t m ps → HasContextHolesBelow n g → MeetsInNote (holes_below n) 0 note → InType n t
      → InType n m.type × (MeetsInNote (holes_below n) 0 m.note × AllIn ps)
  notes_in notes-absent k h t = (t, (tt, tt))
  notes_in {g = g} (notes-written {t = t} {s = s} {c = c} {ds = ds} b) k h kt =
      let type : InType n (type_in g (capturing s c)) = (read_shape_in g s h.0, read_set_in g c h.1) in
      (type, (h, demands_then ds [] (types_in n b.0 g t (type_in g (capturing s c)) ds b.1 k kt type) tt))
  notes_in {root} {g} (notes-own {t = t} {s = s} {ds = ds} b) k h kt =
      let shape = read_shape_in g s h in (
        (shape, kt.1),
        (
          (h, written_set_in root g t.set kt.1),
          demands_then ds []
              (shapes_in n b.0 g t.shape (shape_in g s) ds b.1 k kt.0 shape) tt,
        ),
      )

  operand_in : {g : Context} → HasContextHolesBelow n g → (v : Var) (s : Shape) (ds : List Demand) → Operand g v s ds
      → InShape n s → InDemands n ds
  operand_in {g} k v s ds o ks = shapes_in n o.demands.0 g o.shape s ds o.demands.1 k (has_in k o.has) ks

  given_in : {g : Context} {v : Var} {s : Shape} {d : Set} → HasContextHolesBelow n g → Has g v s d
      → (t : CapturingType) (ds : List Demand) → TypesHaveDemands g (capturing s (variable_set v)) t ds
      → InType n t → InDemands n ds
  given_in {g} {v} {s} k h t ds b kt =
      types_in n b.0 g (capturing s (variable_set v)) t ds b.1 k (has_in k h, in_variable n v) kt

  pub few : {root : ℕ} {g : Context} {t : Term} {r : Result} {qs : List Asked} → Finds root g t r qs
      → HasContextHolesBelow n g → MeetsInTerm (holes_below n) 0 t → Few r qs
  few (finds-variable {g = g} {v = v} h) k ht =
      record { shape = has_in k h; set = in_variable n (in_context g v); completed = tt; asks = tt }
  few finds-literal k ht = record { shape = tt; set = in_empty n; completed = tt; asks = tt }
  few (finds-function {g = g} {takes = takes} {c = c} {body = body} {r = r} {qs = qs} b) k ht =
      let takes_in = read_shape_in g takes ht.0 in
      let c_in = read_set_in g c ht.1 in
      let x = few b ((takes_in, c_in), k) (term_anywhere n 1 0 body ht.2) in
      let whole : MeetsInTerm (holes_below n) 0 (FunctionTerm takes c r.completed) =
      (ht.0, ht.1, term_anywhere n 0 1 r.completed x.completed) in
      record {
        shape = (
          takes_in,
          c_in,
          shape_anywhere n 0 1 (act (moving (closed_variable (length g))) 0 r.type.shape)
              (shape_moved n (closed_variable (length g)) r.type.shape x.shape),
          set_moved n (closed_variable (length g)) r.type.set x.set,
        );
        set = read_set_in g (captured_variables (FunctionTerm takes c r.completed))
            (in_captured n 0 (FunctionTerm takes c r.completed) whole);
        completed = whole;
        asks = all_both qs [] x.asks tt;
      }
  few (finds-type_function {g = g} {bound = bound} {body = body} {r = r} {qs = qs} b) k ht =
      let bound_in = read_shape_in g bound ht.0 in
      let x = few b (bound_in, k) (term_anywhere n 1 0 body ht.1) in
      let whole : MeetsInTerm (holes_below n) 0 (TypeFunctionTerm bound r.completed) =
      (ht.0, term_anywhere n 0 1 r.completed x.completed) in
      record {
        shape = (
          bound_in,
          shape_anywhere n 0 1 (act (moving (closed_variable (length g))) 0 r.type.shape)
              (shape_moved n (closed_variable (length g)) r.type.shape x.shape),
          set_moved n (closed_variable (length g)) r.type.set x.set,
        );
        set = read_set_in g (captured_variables (TypeFunctionTerm bound r.completed))
            (in_captured n 0 (TypeFunctionTerm bound r.completed) whole);
        completed = whole;
        asks = all_both qs [] x.asks tt;
      }
  few (finds-box {g = g} {v = v} h) k ht =
      record { shape = (has_in k h, in_variable n (in_context g v)); set = in_empty n; completed = tt; asks = tt }
  few (finds-application {g = g} {w = w} {takes = takes} {gives = gives} {c = c} {e = e} {ds = ds} h x h' b) k ht =
      let s = head_in (FunctionShape takes c gives e) k h x in
      record {
        shape = shape_moved n (put_variable (in_context g w)) gives (outermost_shape n 1 gives s.2);
        set = set_moved n (put_variable (in_context g w)) e s.3;
        completed = ht;
        asks = demands_then ds [] (given_in k h' (capturing takes c) ds b (s.0, s.1)) tt;
      }
  few (finds-type_application {g = g} {x = y} {bound = bound} {gives = gives} {e = e} {ds = ds} h x b) k ht =
      let s = head_in (TypeFunctionShape bound gives e) k h x in
      let by = read_shape_in g y ht.1 in
      record {
        shape = shape_put n (shape_in g y) by gives (outermost_shape n 1 gives s.1);
        set = set_put n (shape_in g y) by e s.2;
        completed = ht;
        asks = demands_then ds [] (shapes_in n b.0 g (shape_in g y) bound ds b.1 k by s.0) tt;
      }
  few (finds-unboxing {g = g} {content = content} {c = c} {set = set} h x) k ht =
      let s = head_in (BoxShape content c) k h x in
      let under = read_set_in g set ht.0 in
      record { shape = s.0; set = under; completed = ht; asks = ((k, s.1, under), (under, tt)) }
  few {root} (finds-unboxing_own {g = g} {content = content} {c = c} h x) k ht =
      let s = head_in (BoxShape content c) k h x in
      record { shape = s.0; set = s.1; completed = (written_set_in root g c s.1, tt); asks = (s.1, tt) }
  few (finds-let {g = g} {body = body} {r = r} {r' = r'} {named = named} {type = type} {qs = qs} {ps = ps} {qs' = qs'}
      a nt b e) k ht =
      let x = few a k ht.1 in
      let y = notes_in nt k ht.0 (x.shape, x.set) in
      let z = few b (y.0, k) (term_anywhere n 1 0 body ht.2) in
      let out = avoided_type_in n (length g) named.type.set r'.type type y.0.1 (z.shape, z.set) e in
      record {
        shape = out.0;
        set = out.1;
        completed = (y.1.0, x.completed, term_anywhere n 0 1 r'.completed z.completed);
        asks = all_both qs (ps ++ (qs' ++ [])) x.asks (all_both ps (qs' ++ []) y.1.1 (all_both qs' [] z.asks tt));
      }
  few (finds-primitive {v = v} {w = w} {ds = ds} {es = es} a b) k ht =
      record {
        shape = tt;
        set = in_empty n;
        completed = ht;
        asks = demands_then ds _ (operand_in k v (BaseShape bases.Int) ds a tt)
            (demands_then es [] (operand_in k w (BaseShape bases.Int) es b tt) tt);
      }
  few (finds-choice {g = g} {x = x} {c = c} {v = v} {r = r} {r' = r'} {ds = ds} {es = es} {es' = es'} {qs = qs}
      {qs' = qs'} o a p b q) k ht =
      let y = few a k ht.2 in
      let z = few b k ht.3 in
      let type : InType n (type_in g (capturing x c)) = (read_shape_in g x ht.0.0, read_set_in g c ht.0.1) in
      record {
        shape = type.0;
        set = type.1;
        completed = (ht.0, tt, y.completed, z.completed);
        asks =
            demands_then ds _ (operand_in k v (BaseShape bases.Bool) ds o tt)
            (all_both (qs ++ (below_all es ++ [])) _
            (all_both qs (below_all es ++ []) y.asks
            (demands_then es [] (types_in n p.0 g r.type (type_in g (capturing x c)) es p.1 k (y.shape, y.set)
            type) tt))
            (all_both (qs' ++ (below_all es' ++ [])) []
            (all_both qs' (below_all es' ++ []) z.asks
            (demands_then es' [] (types_in n q.0 g r'.type (type_in g (capturing x c)) es' q.1 k (z.shape, z.set)
            type) tt))
            tt));
      }
  few {root} (finds-choice_own {g = g} {x = x} {v = v} {r = r} {r' = r'} {ds = ds} {es = es} {es' = es'} {qs = qs}
      {qs' = qs'} o a p b q) k ht =
      let y = few a k ht.2 in
      let z = few b k ht.3 in
      let shape = read_shape_in g x ht.0 in
      let both = in_union n r.type.set r'.type.set y.set z.set in
      record {
        shape = shape;
        set = both;
        completed = ((ht.0, written_set_in root g (union r.type.set r'.type.set) both), tt, y.completed, z.completed);
        asks =
            demands_then ds _ (operand_in k v (BaseShape bases.Bool) ds o tt)
            (all_both (qs ++ (below_all es ++ [])) _
            (all_both qs (below_all es ++ []) y.asks
            (demands_then es [] (shapes_in n p.0 g r.type.shape (shape_in g x) es p.1 k y.shape shape) tt))
            (all_both (qs' ++ (below_all es' ++ [])) []
            (all_both qs' (below_all es' ++ []) z.asks
            (demands_then es' [] (shapes_in n q.0 g r'.type.shape (shape_in g x) es' q.1 k z.shape shape) tt))
            tt));
      }
  few (finds-repetition {g = g} {v = v} {w = w} {ds = ds} {es = es} a b) k ht =
      record {
        shape = tt;
        set = in_empty n;
        completed = ht;
        asks = demands_then ds _ (operand_in k v (BaseShape bases.Int) ds a tt)
            (demands_then es [] (operand_in k w (FunctionShape (BaseShape bases.Int) empty (BaseShape bases.Unit)
            empty) es b (tt, in_empty n, tt, in_empty n)) tt);
      }
  few (finds-operation {w = w} {base = taken} {ds = ds} h x e a) k ht =
      record {
        shape = tt;
        set = in_empty n;
        completed = ht;
        asks =
            demands_then ds [] (operand_in k w (BaseShape taken) ds a tt) tt;
      }
  few (finds-operation_alone h x e) k ht = record { shape = tt; set = in_empty n; completed = ht; asks = tt }
  few (finds-boundary {g = g} {x = x} {body = body} {r = r} {qs = qs} {ds = ds} a p) k ht =
      let shape = read_shape_in g x ht.0 in
      let under : HasContextHolesBelow n (exit_entry (shape_in g x) ∷ g) = ((shape, in_single n Cap tt), k) in
      let y = few a under (term_anywhere n 1 0 body ht.1) in
      record {
        shape = shape;
        set = in_empty n;
        completed = (ht.0, term_anywhere n 0 1 r.completed y.completed);
        asks = all_both (qs ++ (below_all ds ++ [])) []
            (all_both qs (below_all ds ++ []) y.asks
            (demands_then ds [] (types_in n p.0 (exit_entry (shape_in g x) ∷ g) r.type
            (capturing (shape_in g x) empty) ds p.1 under (y.shape, y.set) (shape, in_empty n)) tt)) tt;
      }
  few (finds-exit {g = g} {x = x} {c = c} {takes = takes} {ds = ds} h e h' b) k ht =
      let s = head_in (ExitShape takes) k h e in
      record {
        shape = read_shape_in g x ht.0;
        set = read_set_in g c ht.1;
        completed = ht;
        asks = demands_then ds [] (given_in k h' (capturing takes empty) ds b (s, in_empty n)) tt;
      }
