-- Shapes without their sets: filling and avoiding leave those of a type as they are, and its height with them.
use Rattle.std.proofs.Common.{◌≡◌, ℕ, suc, ◌≤◌, Bool, true, false, cond, [], ◌∷◌, length, map, Option, Some, None, refl, sym, ap, ◌∙◌, arith}
use Rattle.std.specs.Prelude.{max, nat_eq, nat_lt}
use Rattle.std.specs.Option.{option_map, option_and_then}
use Rattle.cc_capture.specs.declared.var.Var.{Var}
use Rattle.cc_capture.specs.declared.var.Var.TheVariants.{Bound, Free}
use Rattle.cc_capture.specs.Sets.{Set, empty}
use Rattle.cc_core.specs.Shapes.{Shape, BaseShape, AnyShape, TypeVariable, FunctionShape, TypeFunctionShape, BoxShape, ExitShape, CapturingType}
use Rattle.cc_core.specs.Sizes.{shape_size}
use Rattle.cc_core.specs.Contexts.{Bind, TermEntry, TypeEntry, Context, lookup}
use Rattle.cc_core.specs.Traversal.{Action, act}
use Rattle.cc_core.specs.Substitution.{moving, filling_in, putting_shape}
use Rattle.cc_core.proofs.Lookups.{length_map, lookup-map}
use Rattle.cc_checking.specs.Avoidance.{Sign, Positive, opposite, avoided, avoided_set, avoided_type, is_free_in}
use Rattle.cc_checking.specs.CanonicalDerivations.{shape_of_entry, shape_at, avoided_or}
use Rattle.cc_checking.specs.Exposing.{followed, exposed}
use Rattle.cc_checking.specs.Fillings.{Filling}
use Rattle.cc_checking.specs.Verdicts.{declared_set, signature_of}
use Rattle.cc_typing_laws.proofs.Avoiding.{both_some, map_some, unless_some, avoided_type_parts}
use Rattle.cc_checking_laws.proofs.Findings.{Has}
use Rattle.cc_checking_laws.proofs.Signatures.{and_then_parts}
use Rattle.cc_certificate_text.specs.Heights.{shape_height}

-- the shape with the empty set in the place of each of its sets
abbrev pub bare : Shape → Shape
bare (BaseShape base) = BaseShape base
bare AnyShape = AnyShape
bare (TypeVariable variable) = TypeVariable variable
bare (FunctionShape takes c gives e) = FunctionShape (bare takes) empty (bare gives) empty
bare (TypeFunctionShape bound gives e) = TypeFunctionShape (bare bound) (bare gives) empty
bare (BoxShape content c) = BoxShape (bare content) empty
bare (ExitShape gives) = ExitShape (bare gives)

abbrev pub bare_entry : Bind → Bind
bare_entry (TermEntry shape set) = TermEntry (bare shape) empty
bare_entry (TypeEntry bound) = TypeEntry (bare bound)

-- the types are alike but for their sets
abbrev pub AlikeTypes : CapturingType → CapturingType → Type 0
AlikeTypes t u = bare t.shape ≡ bare u.shape

-- so are the contexts, entry by entry
abbrev pub AlikeContexts : Context → Context → Type 0
AlikeContexts g h = map bare_entry g ≡ map bare_entry h

-- the height is that of the bare shape
pub height-bare : (s : Shape) → shape_height (bare s) ≡ shape_height s
height-bare (BaseShape base) = refl
height-bare AnyShape = refl
height-bare (TypeVariable v) = refl
height-bare (FunctionShape t c u e) = λ i. suc (max (height-bare t i) (height-bare u i))
height-bare (TypeFunctionShape b u e) = λ i. suc (max (height-bare b i) (height-bare u i))
height-bare (BoxShape t c) = λ i. suc (height-bare t i)
height-bare (ExitShape u) = λ i. suc (height-bare u i)

pub same_height : (s t : Shape) → bare s ≡ bare t → shape_height s ≡ shape_height t
same_height s t e = sym (height-bare s) ∙ ap shape_height e ∙ height-bare t

-- an action does not look at sets
bare-act : (a : Action) (d : ℕ) (s : Shape) → bare (act a d s) ≡ bare (act a d (bare s))
bare-act a d (BaseShape base) = refl
bare-act a d AnyShape = refl
bare-act a d (TypeVariable v) = refl
bare-act a d (FunctionShape t c u e) = λ i. FunctionShape (bare-act a d t i) empty (bare-act a (suc d) u i) empty
bare-act a d (TypeFunctionShape b u e) = λ i. TypeFunctionShape (bare-act a d b i) (bare-act a (suc d) u i) empty
bare-act a d (BoxShape t c) = λ i. BoxShape (bare-act a d t i) empty
bare-act a d (ExitShape u) = λ i. ExitShape (bare-act a d u i)

pub act_alike : (a : Action) (d : ℕ) (s t : Shape) → bare s ≡ bare t → bare (act a d s) ≡ bare (act a d t)
act_alike a d s t e = bare-act a d s ∙ ap (λ x. bare (act a d x)) e ∙ sym (bare-act a d t)

-- filling changes sets alone
pub filled_alike : (f : Filling) (d : ℕ) (s : Shape) → bare (act (filling_in f) d s) ≡ bare s
filled_alike f d (BaseShape base) = refl
filled_alike f d AnyShape = refl
filled_alike f d (TypeVariable v) = refl
filled_alike f d (FunctionShape t c u e) =
    λ i. FunctionShape (filled_alike f d t i) empty (filled_alike f (suc d) u i) empty
filled_alike f d (TypeFunctionShape b u e) =
    λ i. TypeFunctionShape (filled_alike f d b i) (filled_alike f (suc d) u i) empty
filled_alike f d (BoxShape t c) = λ i. BoxShape (filled_alike f d t i) empty
filled_alike f d (ExitShape u) = λ i. ExitShape (filled_alike f d u i)

-- moving variables leaves the height as it is
pub height-moving : (move : ℕ → Var → Var) (d : ℕ) (s : Shape) → shape_height (act (moving move) d s) ≡ shape_height s
height-moving move d (BaseShape base) = refl
height-moving move d AnyShape = refl
height-moving move d (TypeVariable v) = refl
height-moving move d (FunctionShape t c u e) =
    λ i. suc (max (height-moving move d t i) (height-moving move (suc d) u i))
height-moving move d (TypeFunctionShape b u e) =
    λ i. suc (max (height-moving move d b i) (height-moving move (suc d) u i))
height-moving move d (BoxShape t c) = λ i. suc (height-moving move d t i)
height-moving move d (ExitShape u) = λ i. suc (height-moving move d u i)

-- shapes that are alike are put alike
put_by : (x y other : Shape) (b : Bool) → bare x ≡ bare y → bare (cond b x other) ≡ bare (cond b y other)
put_by x y other true e = e
put_by x y other false e = refl

pub put_alike : (x y : Shape) → bare x ≡ bare y → (d : ℕ) (s : Shape)
    → bare (act (putting_shape x) d s) ≡ bare (act (putting_shape y) d s)
put_alike x y e d (BaseShape base) = refl
put_alike x y e d AnyShape = refl
put_alike x y e d (TypeVariable (Bound index)) = put_by x y (TypeVariable (Bound index)) (nat_eq index d) e
put_alike x y e d (TypeVariable (Free position)) = refl
put_alike x y e d (FunctionShape t c u z) =
    λ i. FunctionShape (put_alike x y e d t i) empty (put_alike x y e (suc d) u i) empty
put_alike x y e d (TypeFunctionShape b u z) =
    λ i. TypeFunctionShape (put_alike x y e d b i) (put_alike x y e (suc d) u i) empty
put_alike x y e d (BoxShape t c) = λ i. BoxShape (put_alike x y e d t i) empty
put_alike x y e d (ExitShape u) = λ i. ExitShape (put_alike x y e d u i)

-- no shape is higher than its size
pub height_at_most_size : (s : Shape) → shape_height s ≤ shape_size s
height_at_most_size (BaseShape base) = omega arith
height_at_most_size AnyShape = omega arith
height_at_most_size (TypeVariable v) = omega arith
height_at_most_size (FunctionShape t c u e) =
    let one = height_at_most_size t in
    let two = height_at_most_size u in
    omega arith
height_at_most_size (TypeFunctionShape b u e) =
    let one = height_at_most_size b in
    let two = height_at_most_size u in
    omega arith
height_at_most_size (BoxShape t c) = let one = height_at_most_size t in omega arith
height_at_most_size (ExitShape u) = let one = height_at_most_size u in omega arith

-- avoiding changes sets alone
pub avoided_alike : (sign : Sign) (p : ℕ) (d : Set) (s r : Shape) → avoided sign p d s ≡ Some r → bare r ≡ bare s
avoided_alike sign p d (BaseShape base) r e = let is : BaseShape base ≡ r = cc in ap bare (sym is)
avoided_alike sign p d AnyShape r e = let is : AnyShape ≡ r = cc in ap bare (sym is)
avoided_alike sign p d (TypeVariable v) r e = let is : TypeVariable v ≡ r = cc in ap bare (sym is)
avoided_alike sign p d (FunctionShape t c u x) r e =
    let parts = both_some (avoided (opposite sign) p d t) (avoided sign p d u)
    (λ t' u'. FunctionShape t' (avoided_set (opposite sign) p d c) u' (avoided_set sign p d x)) r e in
    let one = avoided_alike (opposite sign) p d t parts.0 parts.2 in
    let two = avoided_alike sign p d u parts.1 parts.3 in
    ap bare parts.4 ∙ (λ i. FunctionShape (one i) empty (two i) empty)
avoided_alike sign p d (TypeFunctionShape b u x) r e =
    let unfree = unless_some (is_free_in p b) (option_map (λ u'. TypeFunctionShape b u' (avoided_set sign p d x))
    (avoided sign p d u)) r e in
    let parts = map_some (avoided sign p d u) (λ u'. TypeFunctionShape b u' (avoided_set sign p d x)) r unfree.1 in
    let two = avoided_alike sign p d u parts.0 parts.1 in
    ap bare parts.2 ∙ (λ i. TypeFunctionShape (bare b) (two i) empty)
avoided_alike sign p d (BoxShape t c) r e =
    let parts = map_some (avoided sign p d t) (λ t'. BoxShape t' (avoided_set sign p d c)) r e in
    let one = avoided_alike sign p d t parts.0 parts.1 in
    ap bare parts.2 ∙ (λ i. BoxShape (one i) empty)
avoided_alike sign p d (ExitShape u) r e =
    let unfree = unless_some (is_free_in p u) (Some (ExitShape u)) r e in
    let is : ExitShape u ≡ r = cc in
    ap bare (sym is)

pub avoided_type_alike : (sign : Sign) (p : ℕ) (d : Set) (t r : CapturingType) → avoided_type sign p d t ≡ Some r
    → AlikeTypes r t
avoided_type_alike sign p d t r e = avoided_alike sign p d t.shape r.shape (avoided_type_parts sign p d t r e).0

pub avoided_or_alike : (p : ℕ) (d : Set) (t : CapturingType) → AlikeTypes (avoided_or t (avoided_type Positive p d t)) t
avoided_or_alike p d t = from (avoided_type Positive p d t) refl
  where
    from : (o : Option CapturingType) → avoided_type Positive p d t ≡ o → AlikeTypes (avoided_or t o) t
    from (Some r) is = avoided_type_alike Positive p d t r is
    from None is = refl

-- so does the type that others see
pub signature_alike : (devices : ℕ) (g : Context) (t signature : CapturingType)
    → signature_of devices g t ≡ Some signature → AlikeTypes signature t
signature_alike devices [] t signature e = let is : t ≡ signature =
    cc in ap (λ (x : CapturingType). bare x.shape) (sym is)
signature_alike devices (newest ∷ older) t signature e =
    by_test (λ x is. signature_alike devices older x signature is) (nat_lt (length older) devices) e
  where
    by_test : ((x : CapturingType) → signature_of devices older x ≡ Some signature → AlikeTypes signature x)
        → (b : Bool)
        → cond b (Some t) (option_and_then (signature_of devices older)
        (avoided_type Positive (length older) (declared_set newest) t)) ≡ Some signature
        → AlikeTypes signature t
    by_test again true found = let is : t ≡ signature = cc in ap (λ (x : CapturingType). bare x.shape) (sym is)
    by_test again false found =
        let parts = and_then_parts (signature_of devices older)
        (avoided_type Positive (length older) (declared_set newest) t) signature found in
        again parts.0 parts.2 ∙ avoided_type_alike Positive (length older) (declared_set newest) t parts.0 parts.1

-- lookup, and what shapes are exposed to
followed-bare : (b : Bind) (n : ℕ) (s : Shape) → bare (followed b n s) ≡ followed (bare_entry b) n (bare s)
followed-bare (TermEntry x c) n s = refl
followed-bare (TypeEntry b) n (TypeVariable (Free q)) = by_test (nat_eq q n)
  where
    by_test : (x : Bool) → bare (cond x b (TypeVariable (Free q))) ≡ cond x (bare b) (TypeVariable (Free q))
    by_test true = refl
    by_test false = refl
followed-bare (TypeEntry b) n (TypeVariable (Bound i)) = refl
followed-bare (TypeEntry b) n (BaseShape x) = refl
followed-bare (TypeEntry b) n AnyShape = refl
followed-bare (TypeEntry b) n (FunctionShape x c u e) = refl
followed-bare (TypeEntry b) n (TypeFunctionShape x u e) = refl
followed-bare (TypeEntry b) n (BoxShape x c) = refl
followed-bare (TypeEntry b) n (ExitShape x) = refl

exposed-bare : (g : Context) (s : Shape) → bare (exposed g s) ≡ exposed (map bare_entry g) (bare s)
exposed-bare [] s = refl
exposed-bare (b ∷ g) s =
    exposed-bare g (followed b (length g) s)
    ∙ ap (exposed (map bare_entry g)) (followed-bare b (length g) s
    ∙ ap (λ n. followed (bare_entry b) n (bare s)) (sym (length_map bare_entry g)))

shape_of_entry-bare : (o : Option Bind) → bare (shape_of_entry o) ≡ shape_of_entry (option_map bare_entry o)
shape_of_entry-bare (Some (TermEntry s c)) = refl
shape_of_entry-bare (Some (TypeEntry b)) = refl
shape_of_entry-bare None = refl

shape_at-bare : (g : Context) (v : Var) → bare (shape_at g v) ≡ shape_at (map bare_entry g) v
shape_at-bare g (Free p) = shape_of_entry-bare (lookup g p) ∙ ap shape_of_entry (sym (lookup-map bare_entry g p))
shape_at-bare g (Bound i) = refl

-- in contexts that are alike
pub same_length : (g h : Context) → AlikeContexts g h → length g ≡ length h
same_length g h e = sym (length_map bare_entry g) ∙ ap length e ∙ length_map bare_entry h

pub shape_at_alike : (g h : Context) (v : Var) → AlikeContexts g h → bare (shape_at g v) ≡ bare (shape_at h v)
shape_at_alike g h v e = shape_at-bare g v ∙ ap (λ x. shape_at x v) e ∙ sym (shape_at-bare h v)

pub exposed_alike : (g h : Context) (s t : Shape) → AlikeContexts g h → bare s ≡ bare t
    → bare (exposed g s) ≡ bare (exposed h t)
exposed_alike g h s t e same = exposed-bare g s ∙ (λ i. exposed (e i) (same i)) ∙ sym (exposed-bare h t)

pub one_more : (b c : Bind) (g h : Context) → bare_entry b ≡ bare_entry c → AlikeContexts g h
    → AlikeContexts (b ∷ g) (c ∷ h)
one_more b c g h same e = λ i. same i ∷ e i

-- the shape of a variable that is there
pub shape_there : (g : Context) (v : Var) (s : Shape) (d : Set) → Has g v s d → shape_at g v ≡ s
shape_there g v s d h = ap (shape_at g) h.is ∙ ap shape_of_entry h.there
