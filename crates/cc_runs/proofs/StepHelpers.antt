-- Steps that keep the store and the stack, steps that put a new cell into the store, and what answers reach.
use Rattle.std.proofs.Common.{◌≡◌, ℕ, zero, suc, ◌<◌, Bool, true, false, cond, not, ◌&&◌, [], ◌∷◌, length, Option, Some, None, inl, inr, ◌⊎◌, refl, sym, ap, ◌∙◌, subst, arith}
use Rattle.cc_base.specs.declared.literal.Base.{Base}
use Rattle.cc_capture.specs.declared.var.Var.{Var}
use Rattle.cc_capture.specs.declared.var.Var.TheVariants.{Bound, Free}
use Rattle.cc_capture.specs.declared.var.Elem.{Elem}
use Rattle.cc_capture.specs.declared.var.Elem.TheVariants.{Var as Variable}
use Rattle.cc_capture.specs.Sets.{Set, Member, contains, empty, union}
use Rattle.cc_capture.proofs.Membership.{Member-union}
use Rattle.cc_core.specs.Shapes.{Shape, BaseShape, FunctionShape}
use Rattle.cc_base.specs.Literals.{Literal}
use Rattle.cc_core.specs.Terms.{Note, Term, LiteralTerm, Let}
use Rattle.cc_core.specs.Contexts.{TermEntry, Context, lookup}
use Rattle.cc_core.specs.Traversal.{act_term}
use Rattle.cc_core.specs.Substitution.{putting, opened, opened_set, opened_term}
use Rattle.cc_core.specs.WellFormed.{TermKind, kinds_of}
use Rattle.cc_core.specs.Captured.{is_value, is_unused_value, captured_variables, without_binder, variable_set}
use Rattle.cc_core.specs.Subcapturing.{SubcapturesSet}
use Rattle.cc_core.specs.Typing.{base_of}
use Rattle.cc_core.specs.Stores.{Cell, ValueCell, DeviceCell, LabelCell, Store}
use Rattle.cc_core.proofs.Lookups.{lookup-newest}
use Rattle.cc_core.proofs.SubcapturingLemmas.{subcaptures_reflexive}
use Rattle.cc_core.proofs.Moving.{Member-single_itself}
use Rattle.cc_core.proofs.KindFacts.{IsKindedSet, IsKindedTerm}
use Rattle.cc_device.specs.Events.{Event}
use Rattle.cc_runs.specs.Machine.{Stack, configured}
use Rattle.cc_runs.specs.Reach.{IsEnd, Reaches, here, through, SetReaches, captured_by_stack}
use Rattle.cc_runs.specs.Soundness.{labels_in, countdown, IsFalling, FramesReachScopes, FitsScopes, OperatesNoDevice}
use Rattle.cc_runs.specs.SafeRuns.{scopes_of, IsListed}
use Rattle.cc_typing_laws.proofs.DirectSubtyping.{SubtypesDirectly, alike, under_any, through_bound, functions, type_functions, boxes}
use Rattle.cc_runs.proofs.PutCaptures.{captured_when_put}
use Rattle.cc_typing_laws.proofs.FreeMaps.{lookup_cases}
use Rattle.cc_typing_laws.proofs.InternalTyping.{HasVariable, exact_literal, Typed, widened, captured_kinded, kinded_without_binder}
use Rattle.cc_runs.proofs.StoreTyping.{StoreTyped, store_length}
use Rattle.cc_runs.proofs.ReachLemmas.{kinded_within, set_reaches-older, reaches-older, set_reaches-left, set_reaches-right, set_reaches-either}
use Rattle.cc_runs.proofs.Invariant.{StackTyped, nothing_kinded, Around, Went}

-- a literal has its base shape
pub literal_typed : (g : Context) (l : Literal) → Typed g (LiteralTerm l) (BaseShape (base_of l)) empty
literal_typed g l = widened tt exact_literal (subcaptures_reflexive g empty) alike tt (nothing_kinded (kinds_of g) [])

-- a step that keeps the store and the stack
pub stays : (st : Store) (stack : Stack) (made : ℕ) (t t' : Term) (g : Context) (s : Shape) (c : Set) → Around st stack made t g s c → Typed g t' s c
    → ((x : Cell) → SetReaches st (captured_variables t') x → SetReaches st (captured_variables t) x)
    → Went (configured st stack made t) None (configured st stack made t')
stays st stack made t t' g s c around typed less = record {
  ok = record {
    context = g;
    shape = s;
    set = c;
    typed = typed;
    around = record {
      stored = around.stored;
      stacked = around.stacked;
      counted = around.counted;
      rise = around.rise;
      term_reach = λ k r. around.term_reach k (less (LabelCell k) r);
      frames_reach = around.frames_reach;
    };
  };
  devices = λ n b r.
      elim (set_reaches-either (captured_variables t') (captured_by_stack stack) r) as (λ _. SetReaches st (union (captured_variables t) (captured_by_stack stack)) (DeviceCell n b)) [
        | inl q ↦ set_reaches-left (captured_variables t) (captured_by_stack stack) (less (DeviceCell n b) q)
        | inr q ↦ set_reaches-right (captured_variables t) (captured_by_stack stack) q
      ];
  device_cells = λ p n b there. there;
  scopes = refl;
  operates_none = tt;
}

-- a step to a term that captures nothing, with the store kept and the stack another
pub leaves : (st : Store) (stack rest : Stack) (made : ℕ) (t t' : Term) (g : Context) (s s' : Shape) (c c' : Set) (event : Option Event) → Around st stack made t g s c → Typed g t' s' c'
    → StackTyped st g rest s' c' → IsFalling (scopes_of rest) → FramesReachScopes st rest → FitsScopes (scopes_of stack) event (scopes_of rest) → OperatesNoDevice event
    → ((x : Cell) → SetReaches st (captured_by_stack rest) x → SetReaches st (captured_by_stack stack) x)
    → ((x : Cell) → SetReaches st (captured_variables t') x → ⊥)
    → Went (configured st stack made t) event (configured st rest made t')
leaves st stack rest made t t' g s s' c c' event around typed stacked rise frames fits silent less nothing = record {
  ok = record {
    context = g;
    shape = s';
    set = c';
    typed = typed;
    around = record {
      stored = around.stored;
      stacked = stacked;
      counted = around.counted;
      rise = rise;
      term_reach = λ k r. absurd (nothing (LabelCell k) r);
      frames_reach = frames;
    };
  };
  devices = λ n b r.
      elim (set_reaches-either (captured_variables t') (captured_by_stack rest) r) as (λ _. SetReaches st (union (captured_variables t) (captured_by_stack stack)) (DeviceCell n b)) [
        | inl q ↦ absurd (nothing (DeviceCell n b) q)
        | inr q ↦ set_reaches-right (captured_variables t) (captured_by_stack stack) (less (DeviceCell n b) q)
      ];
  device_cells = λ p n b there. there;
  scopes = fits;
  operates_none = silent;
}

-- what a body captures with a variable in it
pub put_captures : {g : Context} {v : Var} {s : Shape} {c : Set} → (has : HasVariable g v s c) → (body : Term) (q : ℕ) → Member (Variable (Free q)) (captured_variables (act_term (putting v) 0 body))
    → Member (Variable (Free q)) (variable_set v) ⊎ Member (Variable (Free q)) (without_binder (captured_variables body))
put_captures {v = v} has body q m =
    elim (captured_when_put has.position q body (subst (λ w. Member (Variable (Free q)) (captured_variables (act_term (putting w) 0 body))) has.is m)) as (λ _. Member (Variable (Free q)) (variable_set v) ⊎ Member (Variable (Free q)) (without_binder (captured_variables body))) [
      | inl new ↦ inl (subst (λ w. Member (Variable (Free q)) (variable_set w)) (sym has.is) (subst (λ p. Member (Variable (Free q)) (variable_set (Free p))) new.0 (Member-single_itself (Variable (Free q)))))
      | inr old ↦ inr old
    ]

pub put_reaches : {st : Store} {g : Context} {v : Var} {s : Shape} {c : Set} → (has : HasVariable g v s c) → (body : Term) (x : Cell) → SetReaches st (captured_variables (act_term (putting v) 0 body)) x
    → SetReaches st (variable_set v) x ⊎ SetReaches st (without_binder (captured_variables body)) x
put_reaches {st = st} {v = v} has body x r =
    elim (put_captures has body r.0 r.1) as (λ _. SetReaches st (variable_set v) x ⊎ SetReaches st (without_binder (captured_variables body)) x) [
      | inl m ↦ inl (r.0, m, r.2)
      | inr m ↦ inr (r.0, m, r.2)
    ]

-- what a body captures with a new cell in it
pub new_reaches : {st : Store} {g : Context} → StoreTyped st g → (y : Cell) (body : Term) → IsKindedTerm (kinds_of g) (TermKind ∷ []) body → (x : Cell) → SetReaches (y ∷ st) (captured_variables (opened_term (length st) body)) x
    → (Member (Variable (Bound zero)) (captured_variables body) × Reaches (y ∷ st) (length st) x) ⊎ SetReaches st (without_binder (captured_variables body)) x
new_reaches {st = st} {g = g} stored y body kb x r =
    elim (captured_when_put (length st) r.0 body r.1) as (λ _. (Member (Variable (Bound zero)) (captured_variables body) × Reaches (y ∷ st) (length st) x) ⊎ SetReaches st (without_binder (captured_variables body)) x) [
      | inl new ↦ inl (new.1, subst (λ p. Reaches (y ∷ st) p x) new.0 r.2)
      | inr old ↦
          inr (set_reaches-older stored y (without_binder (captured_variables body)) (kinded_without_binder (kinds_of g) [] TermKind (captured_variables body) (captured_kinded (kinds_of g) (TermKind ∷ []) body kb)) (r.0, old, r.2))
    ]

some_cell : (a b : Cell) → Some a ≡ Some b → a ≡ b
some_cell a b e = cc

no_end : (v : Term) (x : Cell) → ValueCell v ≡ x → IsEnd x → ⊥
no_end v (ValueCell w) e end = end
no_end v (DeviceCell n b) e end = cc
no_end v (LabelCell n) e end = cc

value_in : (v w : Term) → ValueCell v ≡ ValueCell w → v ≡ w
value_in v w e = cc

-- a new value reaches what it captures
pub new_value_reaches : {st : Store} {g : Context} → StoreTyped st g → (v : Term) → IsKindedSet (kinds_of g) [] (captured_variables v) → {p : ℕ} {x : Cell} → Reaches (ValueCell v ∷ st) p x → p ≡ length st → SetReaches st (captured_variables v) x
new_value_reaches {st = st} stored v k (here {position = p} {cell = x} there end) same =
    absurd (no_end v x (some_cell (ValueCell v) x (sym (ap (lookup (ValueCell v ∷ st)) same ∙ lookup-newest (ValueCell v) st) ∙ there)) end)
new_value_reaches {st = st} {g = g} stored v k (through {position = p} {next = q} {value = w} there m rest) same =
    let is = value_in v w (some_cell (ValueCell v) (ValueCell w) (sym (ap (lookup (ValueCell v ∷ st)) same ∙ lookup-newest (ValueCell v) st) ∙ there)) in
    let m' : Member (Variable (Free q)) (captured_variables v) = subst (λ t. Member (Variable (Free q)) (captured_variables t)) (sym is) m in
    let within = kinded_within g q (captured_variables v) k m' in
    let len = store_length stored in
    (q, m', reaches-older stored (ValueCell v) rest (omega arith))

-- a new cell with no device leaves the cells of devices
abbrev pub HoldsNoDevice : Cell → Type 0
HoldsNoDevice (ValueCell v) = Unit {0}
HoldsNoDevice (LabelCell k) = Unit {0}
HoldsNoDevice (DeviceCell n b) = ⊥

pub no_new_device : (y : Cell) (st : Store) (p n : ℕ) (b : Base) → lookup (y ∷ st) p ≡ Some (DeviceCell n b) → HoldsNoDevice y → lookup st p ≡ Some (DeviceCell n b)
no_new_device y st p n b there none =
    elim (lookup_cases y st p (DeviceCell n b) there) as (λ _. lookup st p ≡ Some (DeviceCell n b)) [
      | inl new ↦ absurd (subst HoldsNoDevice (sym new.1) none)
      | inr old ↦ old.1
    ]

-- a step that puts a value into a new cell, and goes on with a body
pub binds : (st : Store) (stack rest : Stack) (made : ℕ) (t v body : Term) (g : Context) (s takes gives : Shape) (c d e : Set) → Around st stack made t g s c
    → StoreTyped (ValueCell v ∷ st) (TermEntry takes d ∷ g) → IsKindedSet (kinds_of g) [] (captured_variables v) → IsKindedTerm (kinds_of g) (TermKind ∷ []) body
    → Typed (TermEntry takes d ∷ g) (opened_term (length g) body) gives e → StackTyped (ValueCell v ∷ st) (TermEntry takes d ∷ g) rest gives e
    → IsKindedSet (kinds_of g) [] (captured_by_stack rest)
    → IsFalling (scopes_of rest) → FramesReachScopes (ValueCell v ∷ st) rest → scopes_of stack ≡ scopes_of rest
    → ((n : ℕ) (b : Base) → SetReaches st (captured_by_stack rest) (DeviceCell n b) → SetReaches st (union (captured_variables t) (captured_by_stack stack)) (DeviceCell n b))
    → ((k : ℕ) → SetReaches st (without_binder (captured_variables body)) (LabelCell k) → IsListed k (scopes_of rest))
    → ((k : ℕ) → Member (Variable (Bound zero)) (captured_variables body) → SetReaches st (captured_variables v) (LabelCell k) → IsListed k (scopes_of rest))
    → ((n : ℕ) (b : Base) → SetReaches st (without_binder (captured_variables body)) (DeviceCell n b) → SetReaches st (union (captured_variables t) (captured_by_stack stack)) (DeviceCell n b))
    → ((n : ℕ) (b : Base) → Member (Variable (Bound zero)) (captured_variables body) → SetReaches st (captured_variables v) (DeviceCell n b) → SetReaches st (union (captured_variables t) (captured_by_stack stack)) (DeviceCell n b))
    → Went (configured st stack made t) None (configured (ValueCell v ∷ st) rest made (opened_term (length st) body))
binds st stack rest made t v body g s takes gives c d e around stored kv kb typed stacked kr rise frames same less body_labels value_labels body_devices value_devices = record {
  ok = record {
    context = TermEntry takes d ∷ g;
    shape = gives;
    set = e;
    typed = subst (λ n. Typed (TermEntry takes d ∷ g) (opened_term n body) gives e) (sym (store_length around.stored)) typed;
    around = record {
      stored = stored;
      stacked = stacked;
      counted = around.counted;
      rise = rise;
      term_reach = λ k r.
          elim (new_reaches around.stored (ValueCell v) body kb (LabelCell k) r) as (λ _. IsListed k (scopes_of rest)) [
            | inl new ↦ value_labels k new.0 (new_value_reaches around.stored v kv new.1 refl)
            | inr old ↦ body_labels k old
          ];
      frames_reach = frames;
    };
  };
  devices = λ n b r.
      elim (set_reaches-either (captured_variables (opened_term (length st) body)) (captured_by_stack rest) r) as (λ _. SetReaches st (union (captured_variables t) (captured_by_stack stack)) (DeviceCell n b)) [
        | inl q ↦
            elim (new_reaches around.stored (ValueCell v) body kb (DeviceCell n b) q) as (λ _. SetReaches st (union (captured_variables t) (captured_by_stack stack)) (DeviceCell n b)) [
              | inl new ↦ value_devices n b new.0 (new_value_reaches around.stored v kv new.1 refl)
              | inr old ↦ body_devices n b old
            ]
        | inr q ↦ less n b (set_reaches-older around.stored (ValueCell v) (captured_by_stack rest) kr q)
      ];
  device_cells = λ p n b there. no_new_device (ValueCell v) st p n b there tt;
  scopes = same;
  operates_none = tt;
}

-- what the parts of a let capture, the let captures too
let_members : (r body : Term) (u : Bool) (x : Elem) → Member x (without_binder (captured_variables body)) → Member x (cond u (without_binder (captured_variables body)) (union (captured_variables r) (without_binder (captured_variables body))))
let_members r body true x m = m
let_members r body false x m = (Member-union x (captured_variables r) (without_binder (captured_variables body))).1 (inr m)

pub let_body_reaches : {st : Store} (n : Note) (r body : Term) (x : Cell) → SetReaches st (without_binder (captured_variables body)) x → SetReaches st (captured_variables (Let n r body)) x
let_body_reaches n r body x reach = (reach.0, let_members r body (is_unused_value r (captured_variables body)) (Variable (Free reach.0)) reach.1, reach.2)

used : (r body : Term) → (is_value r ≡ false) ⊎ Member (Variable (Bound zero)) (captured_variables body) → is_unused_value r (captured_variables body) ≡ false
used r body (inl e) = ap (λ b. b && not (contains (Variable (Bound zero)) (captured_variables body))) e
used r body (inr m) = ap (λ b. is_value r && not b) m ∙ and_false (is_value r)
  where
    and_false : (b : Bool) → (b && false) ≡ false
    and_false true = refl
    and_false false = refl

pub let_right_reaches : {st : Store} (n : Note) (r body : Term) (x : Cell) → (is_value r ≡ false) ⊎ Member (Variable (Bound zero)) (captured_variables body) → SetReaches st (captured_variables r) x → SetReaches st (captured_variables (Let n r body)) x
let_right_reaches n r body x why reach = (
  reach.0,
  subst (λ u. Member (Variable (Free reach.0)) (cond u (without_binder (captured_variables body)) (union (captured_variables r) (without_binder (captured_variables body))))) (sym (used r body why))
      ((Member-union (Variable (Free reach.0)) (captured_variables r) (without_binder (captured_variables body))).1 (inl reach.1)),
  reach.2,
)

-- functions compare by what they take and give
pub record FunctionsCompare (g : Context) (takes takes' gives gives' : Shape) (c c' e e' : Set) : Type 0 where
  pub captures : SubcapturesSet g c' c
  pub takes_below : SubtypesDirectly g takes' takes
  pub results : SubcapturesSet (TermEntry takes' c' ∷ g) (opened_set (length g) e) (opened_set (length g) e')
  pub below : SubtypesDirectly (TermEntry takes' c' ∷ g) (opened (length g) gives) (opened (length g) gives')

same_function : (t t' u u' : Shape) (c c' e e' : Set) → FunctionShape t c u e ≡ FunctionShape t' c' u' e' → (t ≡ t') × (c ≡ c') × (u ≡ u') × (e ≡ e')
same_function t t' u u' c c' e e' same = (cc, cc, cc, cc)

compare_is : {g : Context} {t0 t1 t t' u0 u1 u u' : Shape} {c0 c1 c c' e0 e1 e e' : Set} → FunctionShape t0 c0 u0 e0 ≡ FunctionShape t c u e → FunctionShape t1 c1 u1 e1 ≡ FunctionShape t' c' u' e'
    → FunctionsCompare g t0 t1 u0 u1 c0 c1 e0 e1 → FunctionsCompare g t t' u u' c c' e e'
compare_is {g = g} {t0} {t1} {t} {t'} {u0} {u1} {u} {u'} {c0} {c1} {c} {c'} {e0} {e1} {e} {e'} same same' compared =
    let a = same_function t0 t u0 u c0 c e0 e same in
    let b = same_function t1 t' u1 u' c1 c' e1 e' same' in
    subst (λ z. FunctionsCompare g t t' u u' c c' e z) b.3 (subst (λ z. FunctionsCompare g t t' u u' c c' z e1) a.3
    (subst (λ z. FunctionsCompare g t t' u u' c z e0 e1) b.1 (subst (λ z. FunctionsCompare g t t' u u' z c1 e0 e1) a.1
    (subst (λ z. FunctionsCompare g t t' u z c0 c1 e0 e1) b.2 (subst (λ z. FunctionsCompare g t t' z u1 c0 c1 e0 e1) a.2
    (subst (λ z. FunctionsCompare g t z u0 u1 c0 c1 e0 e1) b.0 (subst (λ z. FunctionsCompare g z t1 u0 u1 c0 c1 e0 e1) a.0 compared)))))))

pub functions_compare : {g : Context} {x y : Shape} → SubtypesDirectly g x y → (t t' u u' : Shape) (c c' e e' : Set) → x ≡ FunctionShape t c u e → y ≡ FunctionShape t' c' u' e' → FunctionsCompare g t t' u u' c c' e e'
functions_compare (alike {context = g} {shape = x}) t t' u u' c c' e e' ex ey =
    compare_is refl (sym ex ∙ ey)
    (record { captures = subcaptures_reflexive g c; takes_below = alike; results = subcaptures_reflexive (TermEntry t c ∷ g) (opened_set (length g) e); below = alike })
functions_compare under_any t t' u u' c c' e e' ex ey = cc
functions_compare (through_bound there rest) t t' u u' c c' e e' ex ey = cc
functions_compare (functions sets takes results body) t t' u u' c c' e e' ex ey =
    compare_is ex ey (record { captures = sets; takes_below = takes; results = results; below = body })
functions_compare (type_functions results body) t t' u u' c c' e e' ex ey = cc
functions_compare (boxes sets body) t t' u u' c c' e e' ex ey = cc

-- labels
pub listed_label : (st : Store) (p k : ℕ) → lookup st p ≡ Some (LabelCell k) → IsListed k (labels_in st)
listed_label [] p k e = cc
listed_label (y ∷ st) p k e = at y (listed_label st p k) (lookup_cases y st p (LabelCell k) e)
  where
    older : (z : Cell) → IsListed k (labels_in st) → IsListed k (labels_in (z ∷ st))
    older (ValueCell v) h = h
    older (DeviceCell n b) h = h
    older (LabelCell n) h = inr h

    newest : (z : Cell) → LabelCell k ≡ z → IsListed k (labels_in (z ∷ st))
    newest (ValueCell v) same = cc
    newest (DeviceCell n b) same = cc
    newest (LabelCell n) same = inl cc

    at : (z : Cell) → (lookup st p ≡ Some (LabelCell k) → IsListed k (labels_in st)) → ((p ≡ length st) × (LabelCell k ≡ z)) ⊎ ((p < length st) × (lookup st p ≡ Some (LabelCell k))) → IsListed k (labels_in (z ∷ st))
    at z rest (inl new) = newest z new.1
    at z rest (inr old) = older z (rest old.1)

pub countdown_below : (n k : ℕ) → IsListed k (countdown n) → k < n
countdown_below zero k h = absurd h
countdown_below (suc n) k (inl e) = omega arith
countdown_below (suc n) k (inr h) = let less = countdown_below n k h in omega arith
