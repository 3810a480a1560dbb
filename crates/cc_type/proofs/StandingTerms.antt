-- A well-formed term stands well, and what is found for it is well formed.
use Rattle.std.proofs.Common.{◌≡◌, ℕ, List, [], ◌∷◌, ◌++◌, length, refl, sym, ap, ◌∙◌, subst}
use Rattle.std.specs.declared.result.Result.{Result as Answer}
use Rattle.std.specs.declared.result.Result.TheVariants.{Ok, Err}
use Rattle.cc_capture.specs.Sets.{Set}
use Rattle.cc_core.specs.Shapes.{Shape, CapturingType, capturing}
use Rattle.cc_core.specs.Terms.{Note, Absent, Written, Own, Term, VariableTerm, LiteralTerm, FunctionTerm}
use Rattle.cc_core.specs.Terms.{TypeFunctionTerm, BoxTerm, Application, TypeApplication, Unboxing, Let, Primitive}
use Rattle.cc_core.specs.Terms.{Conditional, Repetition, Operation, Boundary, Leave}
use Rattle.cc_core.specs.Contexts.{TypeEntry, Context, entry_of}
use Rattle.cc_core.specs.declared.terms.Form.{Form}
use Rattle.cc_core.specs.declared.terms.Form.TheVariants as forms
use Rattle.cc_core.specs.Places.{Spots, Places, Between, spots, places_around}
use Rattle.cc_core.specs.WellFormed.{kinds_of, IsWellFormedContext, IsWellFormedShape, IsWellFormedType}
use Rattle.cc_core.proofs.KindFacts.{IsKinded, IsKindedType, IsKindedNote, IsKindedTerm, IsKindedTerm-from}
use Rattle.cc_core.proofs.KindFacts.{IsKindedTerm-test, IsKinded-test, IsKindedType-test}
use Rattle.cc_core.proofs.Sorts.{ShapeSort, TypeSort}
use Rattle.cc_core.proofs.SubcapturingContexts.{IsKindedContext-from}
use Rattle.cc_checking.specs.Outcomes.{Placed, Outcome, NoAnswer, Refused, Found}
use Rattle.cc_checking.specs.Inference.{Result, Named, named_by, type_in, shape_in, below, exit_entry, inferred}
use Rattle.cc_type.specs.Comparing.{most_steps}
use Rattle.cc_base.specs.declared.place.Place.{Place}
use Rattle.cc_checking_laws.proofs.Findings.{Finds}
use Rattle.cc_checking_laws.proofs.FoundFindings.{asked_of, found_finds}
use Rattle.cc_checking_laws.proofs.FoundTypes.{regular}
use Rattle.cc_checking_laws.proofs.ReadingKinds.{Inside, outermost, deeper, read_kinded}
use Rattle.cc_known.specs.declared.stop.Stop.{Stop}
use Rattle.cc_known.specs.declared.stop.Stop.TheVariants as stops
use Rattle.cc_known.specs.Logs.{Logged, Lost, Stopped, Got, after, followed, Answers, Meets}
use Rattle.cc_type.specs.Rows.{comparing, ways, ends, let_end, written_log, own_log, own_named, noted_log, inferred_log}
use Rattle.cc_type.specs.Standing.{StandsIn, NoteReadsWell, StandsWell}
use Rattle.cc_known.proofs.FormedParts.{with_set_well_formed}
use Rattle.cc_type.proofs.InferredLogs.{inferred_logs}

inside_of : (base passed : Context) → Inside base (passed ++ base) (kinds_of passed)
inside_of base [] = outermost
inside_of base (b ∷ passed) = deeper b (inside_of base passed)

module _ (base : Context) where
  note_reads : (passed : Context) (n : Note) → IsKindedNote (kinds_of base) (kinds_of passed) n
      → NoteReadsWell (passed ++ base) n
  note_reads passed Absent k = tt
  note_reads passed (Written s c) k =
      let g : Context = passed ++ base in
      IsKindedType-test (kinds_of g) [] (type_in g (capturing s c))
      (read_kinded (inside_of base passed) TypeSort (capturing s c) k)
  note_reads passed (Own s) k =
      let g : Context = passed ++ base in
      IsKinded-test (kinds_of g) [] (shape_in g s) (read_kinded (inside_of base passed) ShapeSort s k)

  type_reads : (passed : Context) (s : Shape) (c : Set)
      → IsKindedType (kinds_of base) (kinds_of passed) (capturing s c)
      → IsWellFormedType (passed ++ base) (type_in (passed ++ base) (capturing s c))
  type_reads passed s c k =
      let g : Context = passed ++ base in
      IsKindedType-test (kinds_of g) [] (type_in g (capturing s c))
      (read_kinded (inside_of base passed) TypeSort (capturing s c) k)

  shape_reads : (passed : Context) (s : Shape) → IsKinded (kinds_of base) (kinds_of passed) s
      → IsWellFormedShape (passed ++ base) (shape_in (passed ++ base) s)
  shape_reads passed s k =
      let g : Context = passed ++ base in
      IsKinded-test (kinds_of g) [] (shape_in g s) (read_kinded (inside_of base passed) ShapeSort s k)

  here : (passed : Context) (t : Term) → IsKindedTerm (kinds_of base) (kinds_of passed) t
      → StandsIn (length base) (passed ++ base) t
  here passed t k = record {
    base = base;
    passed = passed;
    is = refl;
    root_is = refl;
    formed = IsKindedTerm-test (kinds_of base)
        (kinds_of passed) t k;
  }

  stands : (t : Term) (passed : Context) → IsKindedTerm (kinds_of base) (kinds_of passed) t
      → StandsWell (length base) (passed ++ base) t
  stands (VariableTerm v) passed k = here passed (VariableTerm v) k
  stands (LiteralTerm l) passed k = here passed (LiteralTerm l) k
  stands (FunctionTerm s c t) passed k =
      let g : Context = passed ++ base in (
        here passed (FunctionTerm s c t) k,
        type_reads passed s c (k.0, k.1),
        stands t
            (entry_of (type_in g (capturing s c)) ∷ passed) k.2,
      )
  stands (TypeFunctionTerm s t) passed k =
      let g : Context = passed ++ base in
      (here passed (TypeFunctionTerm s t) k, shape_reads passed s k.0, stands t (TypeEntry (shape_in g s) ∷ passed) k.1)
  stands (BoxTerm v) passed k = here passed (BoxTerm v) k
  stands (Application v w) passed k = here passed (Application v w) k
  stands (TypeApplication v s) passed k = (here passed (TypeApplication v s) k, shape_reads passed s k.1)
  stands (Unboxing o v) passed k = here passed (Unboxing o v) k
  stands (Let n t u) passed k = (
    here passed (Let n t u) k,
    note_reads passed n k.0,
    stands t passed k.1,
    λ named w. stands u
        (entry_of named ∷ passed) k.2,
  )
  stands (Primitive o v w) passed k = here passed (Primitive o v w) k
  stands (Conditional n v t u) passed k =
      (here passed (Conditional n v t u) k, note_reads passed n k.0, stands t passed k.2, stands u passed k.3)
  stands (Repetition v w) passed k = here passed (Repetition v w) k
  stands (Operation o v w) passed k = here passed (Operation o v w) k
  stands (Boundary s t) passed k =
      let g : Context = passed ++ base in
      (here passed (Boundary s t) k, shape_reads passed s k.0, stands t (exit_entry (shape_in g s) ∷ passed) k.1)
  stands (Leave s c v w) passed k = (here passed (Leave s c v w) k, type_reads passed s c (k.0, k.1))

-- a term that stands so stands well
pub stands_well : (root : ℕ) (g : Context) (t : Term) → StandsIn root g t → StandsWell root g t
stands_well root g t i =
    subst (λ n. StandsWell n g t) i.root_is
    (subst (λ x. StandsWell (length i.base) x t) (sym i.is)
    (stands i.base t i.passed (IsKindedTerm-from (kinds_of i.base) (kinds_of i.passed) t i.formed)))

stands_here : (root : ℕ) (g : Context) (t : Term) → StandsWell root g t → StandsIn root g t
stands_here root g (VariableTerm v) w = w
stands_here root g (LiteralTerm l) w = w
stands_here root g (FunctionTerm s c t) w = w.0
stands_here root g (TypeFunctionTerm s t) w = w.0
stands_here root g (BoxTerm v) w = w
stands_here root g (Application v x) w = w
stands_here root g (TypeApplication v s) w = w.0
stands_here root g (Unboxing o v) w = w
stands_here root g (Let n t u) w = w.0
stands_here root g (Primitive o v x) w = w
stands_here root g (Conditional n v t u) w = w.0
stands_here root g (Repetition v x) w = w
stands_here root g (Operation o v x) w = w
stands_here root g (Boundary s t) w = w.0
stands_here root g (Leave s c v x) w = w.0

-- what was found, from the log after it
pub record Came {A : Type 0} (log : List Placed) (o : Outcome A) (a : A) (log' : List Placed) : Type 0 where
  pub asked : List Placed
  pub found : o ≡ Found a asked

pub came_from : {A : Type 0} (log : List Placed) (o : Outcome A) (a : A) (log' : List Placed)
    → after log o ≡ Got a log' → Came log o a log'
came_from log NoAnswer a log' e = cc
came_from log (Refused code at) a log' e = cc
came_from log
    (Found b asked) a log' e = let same : b ≡ a = cc in record { asked = asked; found = ap (λ x. Found x asked) same }

pub found_well_formed : (root : ℕ) (g : Context) (t : Term) (places : Places) (log log' : List Placed) (r : Result)
    → IsWellFormedContext g → StandsIn root g t
    → inferred_log root g t places log ≡ Got r log' → IsWellFormedType g r.type
found_well_formed root g t places log log' r f i e =
    let k = came_from log (inferred ways root g t places) r log' (sym (inferred_logs root t g places log) ∙ e) in
    let finding = found_finds most_steps root ways.passes t g places (k.asked, k.found, refl) in
    let inside : Inside i.base g (kinds_of i.passed) = subst (λ x. Inside i.base x (kinds_of i.passed)) (sym i.is)
    (inside_of i.base i.passed) in
    let again = subst (λ n. Finds n g t r (asked_of k.asked)) (sym i.root_is) finding in
    IsKindedType-test (kinds_of g) [] r.type
    (regular i.base again inside (IsKindedContext-from g f)
    (IsKindedTerm-from (kinds_of i.base) (kinds_of i.passed) t i.formed)).0

pub type_of_found : (root : ℕ) (g : Context) (t : Term) (places : Places) (log log' : List Placed) (r : Result)
    → IsWellFormedContext g → StandsWell root g t
    → inferred_log root g t places log ≡ Got r log' → IsWellFormedType g r.type
type_of_found root g t places log log' r f w e = found_well_formed root g t places log log' r f
    (stands_here root g t w) e

-- what is named
then_got : {A B : Type 0} (s : Logged A) (h : A → List Placed → Logged B) (b : B) (l : List Placed)
    → followed s h ≡ Got b l
    → (a : A) × (k : List Placed) × (s ≡ Got a k) × (h a k ≡ Got b l)
then_got Lost h b l e = cc
then_got (Stopped code at) h b l e = cc
then_got (Got a k) h b l e = (a, k, refl, e)

got_value : {A : Type 0} (a b : A) (l k : List Placed) → Got a l ≡ Got b k → a ≡ b
got_value a b l k e = cc

pub noted_well_formed : (root : ℕ) (at : Place) (g : Context) (n : Note) (t : CapturingType) (log log' : List Placed)
    (m : Named) → IsWellFormedType g t → NoteReadsWell g n
    → noted_log root at g n t log ≡ Got m log' → IsWellFormedType g m.type
noted_well_formed root at g Absent t log log' m w r e =
    subst (λ (x : Named). IsWellFormedType g x.type) (got_value (named_by t Absent) m log log' e) w
noted_well_formed root at g (Written s c) t log log' m w r e =
    let one = then_got (written_log at g (capturing s c) t log) _ m log' e in
    let two = then_got (after log (below comparing at g t (type_in g (capturing s c)))) _ one.0 one.1 one.2 in
    let read : type_in g (capturing s c) ≡ one.0 = got_value (type_in g (capturing s c)) one.0 two.1 one.1 two.3 in
    subst (λ (x : Named). IsWellFormedType g x.type) (got_value (named_by one.0 (Written s c)) m one.1 log' one.3)
    (subst (IsWellFormedType g) read r)
noted_well_formed root at g (Own s) t log log' m w r e =
    let one = then_got (own_log at g s t log) _ m log' e in
    subst (λ (x : Named). IsWellFormedType g x.type) (got_value (own_named root g s t) m one.1 log' one.3)
    (with_set_well_formed g (shape_in g s) t r w)

-- the place where a term starts
pub spots_around : (own : Spots) (form : Form) → spots (places_around own form) ≡ own
spots_around own (forms.Var v) = refl
spots_around own (forms.Lit l) = refl
spots_around own (forms.Fun' takes p body at first second) = refl
spots_around own (forms.TFun' bound p body at first second) = refl
spots_around own (forms.Boxed v) = refl
spots_around own (forms.App v w) = refl
spots_around own (forms.TApp v s) = refl
spots_around own (forms.Unbox o v) = refl
spots_around own (forms.Let' note p right at first second q body at' first' second') = refl
spots_around own (forms.Prim o v w) = refl
spots_around own (forms.If' note v p positive at first second q negative at' first' second') = refl
spots_around own (forms.Repeat v w) = refl
spots_around own (forms.Operate o v w) = refl
spots_around own (forms.Boundary' gives p body at first second) = refl
spots_around own (forms.Leave gives v w) = refl

-- the body of a let, in the context with what is named
pub let_body : (root : ℕ) (g : Context) (t : Term) (n : Note) (right body : Term) → t ≡ Let n right body
    → StandsWell root g t
    → (named : CapturingType) → IsWellFormedType g named → StandsWell root (entry_of named ∷ g) body
let_body root g t n right body e w = let parts : StandsWell root g (Let n right body) = subst
    (StandsWell root g) e w in parts.3

-- the shape of a boundary
pub boundary_shape : (root : ℕ) (g : Context) (t : Term) (s : Shape) (body : Term) → t ≡ Boundary s body
    → StandsWell root g t → IsWellFormedShape g (shape_in g s)
boundary_shape root g t s body e w = let parts : StandsWell root g (Boundary s body) = subst
    (StandsWell root g) e w in parts.1

-- the steps of a let, one by one
pub let_found : (root : ℕ) (g inner : Context) (n : Note) (right body : Term) (own : Spots) (p q : Places)
    (log log1 log2 log3 : List Placed) (one two : Result) (named : Named) (at : Place)
    → inferred_log root g right p log ≡ Got one log1 → at ≡ (spots p).at
    → noted_log root at g n one.type log1 ≡ Got named log2
    → inner ≡ entry_of named.type ∷ g → inferred_log root inner body q log2 ≡ Got two log3
    → inferred_log root g (Let n right body) (Between own p q) log ≡ ends
    (let_end g own.at own.first named one two) log3
let_found root g inner n right body own p q log log1 log2 log3 one two named at e1 here e2 i e3 =
    let after_body : Named → Result → Result → List Placed
    → Logged Result = λ m x y l. ends (let_end g own.at own.first m x y) l in
    let after_name : Result → Named → List Placed
    → Logged Result = λ x m l. followed (inferred_log root (entry_of m.type ∷ g) body q l) (after_body m x) in
    let after_right : Result → List Placed
    → Logged Result = λ x l. followed (noted_log root (spots p).at g n x.type l) (after_name x) in
    ap (λ s. followed s after_right) e1
    ∙ ap (λ s. followed s (after_name one)) (ap (λ x. noted_log root x g n one.type log1) (sym here) ∙ e2)
    ∙ ap (λ s. followed s (after_body named one)) (ap (λ h. inferred_log root h body q log2) (sym i) ∙ e3)

-- the last steps, answered
pub ends_met : {A B : Type 0} (view : A → B) (r : Answer A Stop) (o : Outcome B) (log : List Placed) → Answers view r o
    → Meets view r log (ends o log)
ends_met view (Ok v) o log e = ap (λ x. ends x log) e
ends_met view (Err (stops.Refused diag)) o log e = ap (λ x. ends x log) e
ends_met view (Err stops.NoMemory) o log e = tt
