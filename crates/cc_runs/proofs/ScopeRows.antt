-- Steps of operations, boundaries and exits.
use Rattle.cc_core.proofs.SubcapturingContexts.{IsKinded-added}
use Rattle.std.proofs.Common.{◌≡◌, ℕ, zero, suc, ◌<◌, Bool, true, false, ◌&&◌, List, [], ◌∷◌, ◌++◌, length, Option, Some, None, inl, inr, ◌⊎◌, refl, sym, ap, ◌∙◌, subst, arith}
use Rattle.std.specs.Prelude.{nat_eq}
use Rattle.std.specs.Option.{option_map}
use Rattle.std.proofs.lemmas.Bool.{cases_eq, cond-true, cond-false, eq-eqb, ne_eqb}
use Rattle.cc_base.specs.declared.literal.Base.{Base}
use Rattle.cc_base.specs.declared.literal.Base.TheVariants as bases
use Rattle.cc_base.specs.declared.literal.Op.{Op}
use Rattle.cc_base.specs.declared.literal.Op.TheVariants as operations
use Rattle.cc_capture.specs.declared.var.Var.{Var}
use Rattle.cc_capture.specs.declared.var.Elem.TheVariants.{Cap}
use Rattle.cc_capture.specs.Sets.{Set, empty, union}
use Rattle.cc_core.specs.Shapes.{Shape, BaseShape, ExitShape}
use Rattle.cc_base.specs.Literals.{Literal}
use Rattle.cc_core.specs.Terms.{Term, VariableTerm, LiteralTerm, Operation, Boundary, Leave}
use Rattle.cc_core.specs.Contexts.{TermEntry, Context, lookup}
use Rattle.cc_core.specs.Substitution.{single, opened_term}
use Rattle.cc_core.specs.WellFormed.{TermKind, kinds_of}
use Rattle.cc_core.specs.Captured.{captured_variables, without_binder, variable_set, optional_variable_set}
use Rattle.cc_core.specs.Subcapturing.{SubcapturesSet}
use Rattle.cc_core.specs.Typing.{base_of, base_operated, base_taken, base_answered}
use Rattle.cc_core.specs.Equality.{base_number}
use Rattle.cc_core.specs.Stores.{Cell, ValueCell, DeviceCell, LabelCell, Store, cell_at, is_device_base}
use Rattle.cc_core.proofs.Lookups.{lookup-newest}
use Rattle.cc_core.proofs.KindFacts.{IsKindedSet, IsKinded}
use Rattle.cc_device.specs.Events.{Exited, entered, exited}
use Rattle.cc_runs.specs.Machine.{Frame, LetFrame, ScopeFrame, RepetitionFrame, Stack, Configuration, configured, Ask, Stuck, same_base, is_taken, argument_at, operation_step, below_scope, exit_to, exit_step, boundary_step}
use Rattle.cc_runs.specs.Reach.{IsEnd, Reaches, here, through, SetReaches, captured_by_frame, captured_by_stack}
use Rattle.cc_runs.specs.Soundness.{labels_in, countdown, IsFalling, FramesReachScopes}
use Rattle.cc_runs.specs.SafeRuns.{scopes_of, IsListed}
use Rattle.cc_typing_laws.proofs.DirectSubtyping.{SubtypesDirectly}
use Rattle.cc_typing_laws.proofs.FormedContexts.{some_is}
use Rattle.cc_typing_laws.proofs.FreeMaps.{as_is, more, lookup_cases, subtypes-kept}
use Rattle.cc_typing_laws.proofs.InternalTyping.{HasVariable, exact_operation, exact_operation_alone, exact_boundary, exact_leave, Typed, widened, kinded_without_binder, captured_kinded}
use Rattle.cc_typing_laws.proofs.TypingMaps.{typed_is, typed_wider}
use Rattle.cc_typing_laws.proofs.TypingLemmas.{has_variable_typed, variable_captures}
use Rattle.cc_runs.proofs.StoreTyping.{label_cell, store_formed, store_length}
use Rattle.cc_runs.proofs.CanonicalForms.{literal_at, device_at, exit_at}
use Rattle.cc_runs.proofs.ReachLemmas.{set_reaches-left, set_reaches-right, set_reaches-either, set_reaches-none, set_reaches-older, reaches_nothing, position_reaches}
use Rattle.cc_runs.proofs.Invariant.{StackTyped, bottom, let_on, scope_on, repetition_on, stack_takes_kinded, stack_longer, stack_kinded, frames_added, nothing_captures, Around, OkOutcome}
use Rattle.cc_runs.proofs.StepHelpers.{literal_typed, stays, leaves, new_reaches, listed_label, countdown_below, no_new_device}

-- Operations.
same_base-itself : (b : Base) → same_base b b ≡ true
same_base-itself b = eq-eqb (base_number b) (base_number b) refl

no_device_taken : (op : Op) (b : Base) → base_taken op ≡ Some b → is_device_base b ≡ false
no_device_taken operations.Print b e = ap is_device_base (sym (let same : bases.Int ≡ b = cc in same))
no_device_taken operations.Say b e = ap is_device_base (sym (let same : bases.Str ≡ b = cc in same))
no_device_taken operations.Read b e = cc
no_device_taken operations.Write b e = ap is_device_base (sym (let same : bases.Int ≡ b = cc in same))
no_device_taken operations.Tick b e = cc

-- a device that fits is asked
asks : (st : Store) (stack : Stack) (made : ℕ) (op : Op) (r : Var) (o : Option Var) (g : Context) (s : Shape) (c : Set) → Around st stack made (Operation op r o) g s c
    → ((answer : Literal) → base_of answer ≡ base_answered op → Typed g (LiteralTerm answer) s c)
    → (n : ℕ) → SetReaches st (variable_set r) (DeviceCell n (base_operated op)) → (argument : Option Literal) → is_taken (base_taken op) argument ≡ true
    → OkOutcome (configured st stack made (Operation op r o)) (operation_step st stack made op (Some (DeviceCell n (base_operated op))) (Some argument))
asks st stack made op r o g s c around typed n reached argument fits =
    subst (OkOutcome (configured st stack made (Operation op r o)))
    (sym (cond-true (same_base (base_operated op) (base_operated op) && is_taken (base_taken op) argument)
    (Ask n op argument (λ answer. configured st stack made (LiteralTerm answer))) Stuck (both (same_base-itself (base_operated op)) fits)))
    (record {
      reached = set_reaches-left (variable_set r) (optional_variable_set o) reached;
      taken = fits;
      answered = λ answer is. stays st stack made (Operation op r o) (LiteralTerm answer) g s c around (typed answer is) (λ z q. absurd (set_reaches-none q));
    })
  where
    both : {a b : Bool} → a ≡ true → b ≡ true → (a && b) ≡ true
    both {a} {b} e f = ap (λ x. x && b) e ∙ f

-- a cell that ends a chain is reached from its variable
pub end_reached : {st : Store} {g : Context} {v : Var} {s : Shape} {c : Set} → (has : HasVariable g v s c) → (x : Cell) → cell_at st v ≡ Some x → IsEnd x → SetReaches st (variable_set v) x
end_reached {st = st} has x at end =
    let there : lookup st has.position ≡ Some x = subst (λ w. cell_at st w ≡ Some x) has.is at in
    subst (λ w. SetReaches st (variable_set w) x) (sym has.is) (position_reaches (here there end))

answer_typed : (g : Context) (op : Op) (s : Shape) (c : Set) → SubcapturesSet g empty c → SubtypesDirectly g (BaseShape (base_answered op)) s → IsKinded (kinds_of g) [] s → IsKindedSet (kinds_of g) [] c
    → (answer : Literal) → base_of answer ≡ base_answered op → Typed g (LiteralTerm answer) s c
answer_typed g op s c captures below ks kc answer is = typed_wider (typed_is refl (ap BaseShape is) refl (literal_typed g answer)) captures below ks kc

pub operation_row : (st : Store) (stack : Stack) (made : ℕ) (op : Op) (r : Var) (o : Option Var) (g : Context) (s : Shape) (c : Set) → Around st stack made (Operation op r o) g s c → Typed g (Operation op r o) s c
    → OkOutcome (configured st stack made (Operation op r o)) (operation_step st stack made op (cell_at st r) (argument_at st o))
operation_row st stack made op r o g s c around (widened kt (exact_operation {argument = a} {taken = taken} receiver takes argument) captures below ks kc) =
    let device = device_at around.stored op receiver in
    let found = literal_at around.stored argument (no_device_taken op taken takes) in
    let before : Configuration = configured st stack made (Operation op r (Some a)) in
    let fits : is_taken (base_taken op) (Some found.0) ≡ true = ap (λ b. is_taken b (Some found.0)) takes ∙ ap (same_base taken) found.2 ∙ same_base-itself taken in
    subst (λ x. OkOutcome before (operation_step st stack made op x (argument_at st (Some a)))) (sym device.1)
    (subst (λ x. OkOutcome before (operation_step st stack made op (Some (DeviceCell device.0 (base_operated op))) (option_map (λ l. Some l) x))) (sym found.1)
    (asks st stack made op r (Some a) g s c around (answer_typed g op s c captures below ks kc) device.0 (end_reached receiver (DeviceCell device.0 (base_operated op)) device.1 tt) (Some found.0) fits))
operation_row st stack made op r o g s c around (widened kt (exact_operation_alone receiver takes) captures below ks kc) =
    let device = device_at around.stored op receiver in
    let before : Configuration = configured st stack made (Operation op r None) in
    let fits : is_taken (base_taken op) None ≡ true = ap (λ b. is_taken b None) takes in
    subst (λ x. OkOutcome before (operation_step st stack made op x (Some None))) (sym device.1)
    (asks st stack made op r None g s c around (answer_typed g op s c captures below ks kc) device.0 (end_reached receiver (DeviceCell device.0 (base_operated op)) device.1 tt) None fits)

-- the labels of scopes are labels of cells, so they are below the number made
scopes_made : {st : Store} {g : Context} {stack : Stack} {s : Shape} {c : Set} → StackTyped st g stack s c → (made : ℕ) → labels_in st ≡ countdown made → (k : ℕ) → IsListed k (scopes_of stack) → k < made
scopes_made (bottom ks kc) made counted k h = absurd h
scopes_made (let_on kb kt kc typed rest) made counted k h = scopes_made rest made counted k h
scopes_made {st = st} (scope_on p {k = j} at entry ks less rest) made counted k (inl e) =
    let below = countdown_below made j (subst (IsListed j) counted (listed_label st p j at)) in omega arith
scopes_made (scope_on p at entry ks less rest) made counted k (inr h) = scopes_made rest made counted k h
scopes_made (repetition_on has one most less rest) made counted k h = scopes_made rest made counted k h

-- a new label reaches itself alone
new_label_reaches : {st : Store} {k p : ℕ} {x : Cell} → Reaches (LabelCell k ∷ st) p x → p ≡ length st → x ≡ LabelCell k
new_label_reaches {st = st} {k = k} (here {position = p} {cell = x} there end) same = some_is x (LabelCell k) (sym there ∙ ap (lookup (LabelCell k ∷ st)) same ∙ lookup-newest (LabelCell k) st)
new_label_reaches {st = st} {k = k} (through {position = p} {value = v} there m rest) same =
    let clash : Some (ValueCell v) ≡ Some (LabelCell k) = sym there ∙ ap (lookup (LabelCell k ∷ st)) same ∙ lookup-newest (LabelCell k) st in cc

label_is : (j k : ℕ) → LabelCell j ≡ LabelCell k → j ≡ k
label_is j k e = cc

no_device_label : (n k : ℕ) (b : Base) → DeviceCell n b ≡ LabelCell k → ⊥
no_device_label n k b e = cc

-- Boundaries.
pub boundary_row : (st : Store) (stack : Stack) (made : ℕ) (gives : Shape) (body : Term) (g : Context) (s : Shape) (c : Set) → Around st stack made (Boundary gives body) g s c → Typed g (Boundary gives body) s c
    → OkOutcome (configured st stack made (Boundary gives body)) (boundary_step st stack made body)
boundary_row st stack made gives body g s c around (widened kt (exact_boundary typed) captures below ks kc) =
    let formed = store_formed around.stored in
    let len = store_length around.stored in
    let y : Cell = LabelCell made in
    let outer : Set = without_binder (captured_variables body) in
    let ko : IsKindedSet (kinds_of g) [] outer = kinded_without_binder (kinds_of g) [] TermKind (captured_variables body) (captured_kinded (kinds_of g) (TermKind ∷ []) body kt.1) in
    let top = stack_takes_kinded around.stacked in
    record {
      ok = record {
        context = TermEntry (ExitShape gives) (single Cap) ∷ g;
        shape = gives;
        set = empty;
        typed = subst (λ n. Typed (TermEntry (ExitShape gives) (single Cap) ∷ g) (opened_term n body) gives empty) (sym len) typed;
        around = record {
          stored = label_cell around.stored kt.0;
          stacked = scope_on (length g) (subst (λ n. lookup (y ∷ st) n ≡ Some y) len (lookup-newest y st)) (lookup-newest (TermEntry (ExitShape gives) (single Cap)) g)
              (IsKinded-added TermKind (kinds_of g) [] gives kt.0) (subtypes-kept (more (TermEntry (ExitShape gives) (single Cap)) as_is) formed gives s kt.0 top.0 below)
              (stack_longer around.stacked formed y (ExitShape gives) (single Cap));
          counted = ap (λ ls. made ∷ ls) around.counted;
          rise = (scopes_made around.stacked made around.counted, around.rise);
          term_reach = λ k r.
              elim (new_reaches around.stored y body kt.1 (LabelCell k) r) as (λ _. IsListed k (made ∷ scopes_of stack)) [
                | inl new ↦ inl (label_is k made (new_label_reaches new.1 refl))
                | inr old ↦ inr (around.term_reach k old)
              ];
          frames_reach = (λ k r. absurd (set_reaches-none r), frames_added around.stacked around.stored y around.frames_reach);
        };
      };
      devices = λ n b r.
          elim (set_reaches-either (captured_variables (opened_term (length st) body)) (union empty (captured_by_stack stack)) r) as (λ _. SetReaches st (union outer (captured_by_stack stack)) (DeviceCell n b)) [
            | inl q ↦
                elim (new_reaches around.stored y body kt.1 (DeviceCell n b) q) as (λ _. SetReaches st (union outer (captured_by_stack stack)) (DeviceCell n b)) [
                  | inl new ↦ absurd (no_device_label n made b (new_label_reaches new.1 refl))
                  | inr old ↦ set_reaches-left outer (captured_by_stack stack) old
                ]
            | inr q ↦
                elim (set_reaches-either empty (captured_by_stack stack) q) as (λ _. SetReaches st (union outer (captured_by_stack stack)) (DeviceCell n b)) [
                  | inl z ↦ absurd (set_reaches-none z)
                  | inr z ↦ set_reaches-right outer (captured_by_stack stack) (set_reaches-older around.stored y (captured_by_stack stack) (stack_kinded around.stacked) z)
                ]
          ];
      device_cells = λ p n b there. no_new_device y st p n b there tt;
      scopes = entered;
      operates_none = tt;
    }

-- Exits.
-- the stack below a scope
record Below (st : Store) (g : Context) (stack : Stack) (n : ℕ) : Type 0 where
  rest : Stack
  popped : below_scope n stack ≡ Some rest
  inner : List ℕ
  scopes : scopes_of stack ≡ inner ++ n ∷ scopes_of rest
  p : ℕ
  at : lookup st p ≡ Some (LabelCell n)
  gives : Shape
  entry : lookup g p ≡ Some (TermEntry (ExitShape gives) (single Cap))
  takes : Shape
  set : Set
  less : SubtypesDirectly g gives takes
  stacked : StackTyped st g rest takes set
  rise : IsFalling (scopes_of rest)
  frames : FramesReachScopes st rest
  within : (x : Cell) → SetReaches st (captured_by_stack rest) x → SetReaches st (captured_by_stack stack) x

below_through : {st : Store} {g : Context} (frame : Frame) (stack : Stack) (n : ℕ) → below_scope n (frame ∷ stack) ≡ below_scope n stack → scopes_of (frame ∷ stack) ≡ scopes_of stack → Below st g stack n → Below st g (frame ∷ stack) n
below_through frame stack n pops scopes b = record {
  rest = b.rest;
  popped = pops ∙ b.popped;
  inner = b.inner;
  scopes = scopes ∙ b.scopes;
  p = b.p;
  at = b.at;
  gives = b.gives;
  entry = b.entry;
  takes = b.takes;
  set = b.set;
  less = b.less;
  stacked = b.stacked;
  rise = b.rise;
  frames = b.frames;
  within = λ x r. set_reaches-right (captured_by_frame frame) (captured_by_stack stack) (b.within x r);
}

below_at : {st : Store} {g : Context} {stack : Stack} {s : Shape} {c : Set} → StackTyped st g stack s c → (n : ℕ) → IsListed n (scopes_of stack) → IsFalling (scopes_of stack) → FramesReachScopes st stack → Below st g stack n
below_at (bottom ks kc) n listed rise frames = absurd listed
below_at (let_on {stack = stack} {body = body} kb kt kc typed rest) n listed rise frames = below_through (LetFrame body) stack n refl refl (below_at rest n listed rise frames.1)
below_at (repetition_on {stack = stack} {f = f} {begun = begun} {wanted = wanted} has one most less rest) n listed rise frames =
    below_through (RepetitionFrame f begun wanted) stack n refl refl (below_at rest n listed rise frames.1)
below_at {st = st} {g = g} (scope_on p {stack = stack} {k = k} {s = s} {below = below} {e = e} at entry ks less rest) n listed rise frames =
    elim (cases_eq k n) as (λ _. Below st g (ScopeFrame k ∷ stack) n) [
      | inl same ↦ record {
        rest = stack;
        popped = cond-true (nat_eq k n) (Some stack) (below_scope n stack) (eq-eqb k n same);
        inner = [];
        scopes = ap (λ j. j ∷ scopes_of stack) same;
        p = p;
        at = at ∙ ap (λ j. Some (LabelCell j)) same;
        gives = s;
        entry = entry;
        takes = below;
        set = e;
        less = less;
        stacked = rest;
        rise = rise.1;
        frames = frames.1;
        within = λ x r. set_reaches-right empty (captured_by_stack stack) r;
      }
      | inr other ↦
          let listed' : IsListed n (scopes_of stack) = elim listed as (λ _. IsListed n (scopes_of stack)) [ inl e ↦ absurd (other (sym e)) | inr h ↦ h ] in
          let b = below_at rest n listed' rise.1 frames.1 in
          record {
            rest = b.rest;
            popped = cond-false (nat_eq k n) (Some stack) (below_scope n stack) (ne_eqb k n other) ∙ b.popped;
            inner = k ∷ b.inner;
            scopes = ap (λ js. k ∷ js) b.scopes;
            p = b.p;
            at = b.at;
            gives = b.gives;
            entry = b.entry;
            takes = b.takes;
            set = b.set;
            less = b.less;
            stacked = b.stacked;
            rise = b.rise;
            frames = b.frames;
            within = λ x r. set_reaches-right empty (captured_by_stack stack) (b.within x r);
          }
    ]

-- a label stands in one cell alone
first_is : (j : ℕ) (js : List ℕ) (m : ℕ) → j ∷ js ≡ countdown m → (n : ℕ) × (m ≡ suc n) × (j ≡ n) × (js ≡ countdown n)
first_is j js zero e = cc
first_is j js (suc n) e = (n, refl, cc, cc)

label_unique : (st : Store) (made : ℕ) → labels_in st ≡ countdown made → (p q k : ℕ) → lookup st p ≡ Some (LabelCell k) → lookup st q ≡ Some (LabelCell k) → p ≡ q
label_unique [] made counted p q k ep eq = cc
label_unique (ValueCell v ∷ st) made counted p q k ep eq =
    label_unique st made counted p q k (old (lookup_cases (ValueCell v) st p (LabelCell k) ep)) (old (lookup_cases (ValueCell v) st q (LabelCell k) eq))
  where
    old : {r : ℕ} → ((r ≡ length st) × (LabelCell k ≡ ValueCell v)) ⊎ ((r < length st) × (lookup st r ≡ Some (LabelCell k))) → lookup st r ≡ Some (LabelCell k)
    old (inl h) = cc
    old (inr h) = h.1
label_unique (DeviceCell n b ∷ st) made counted p q k ep eq =
    label_unique st made counted p q k (old (lookup_cases (DeviceCell n b) st p (LabelCell k) ep)) (old (lookup_cases (DeviceCell n b) st q (LabelCell k) eq))
  where
    old : {r : ℕ} → ((r ≡ length st) × (LabelCell k ≡ DeviceCell n b)) ⊎ ((r < length st) × (lookup st r ≡ Some (LabelCell k))) → lookup st r ≡ Some (LabelCell k)
    old (inl h) = cc
    old (inr h) = h.1
label_unique (LabelCell j ∷ st) made counted p q k ep eq =
    let first = first_is j (labels_in st) made counted in
    both first (label_unique st first.0 first.3 p q k) (lookup_cases (LabelCell j) st p (LabelCell k) ep) (lookup_cases (LabelCell j) st q (LabelCell k) eq)
  where
    clash : (n r : ℕ) → labels_in st ≡ countdown n → lookup st r ≡ Some (LabelCell k) → k ≡ n → ⊥
    clash n r is there same = let below = countdown_below n k (subst (IsListed k) is (listed_label st r k there)) in omega arith

    both : (first : (n : ℕ) × (made ≡ suc n) × (j ≡ n) × (labels_in st ≡ countdown n)) → (lookup st p ≡ Some (LabelCell k) → lookup st q ≡ Some (LabelCell k) → p ≡ q)
        → ((p ≡ length st) × (LabelCell k ≡ LabelCell j)) ⊎ ((p < length st) × (lookup st p ≡ Some (LabelCell k)))
        → ((q ≡ length st) × (LabelCell k ≡ LabelCell j)) ⊎ ((q < length st) × (lookup st q ≡ Some (LabelCell k))) → p ≡ q
    both first rest (inl a) (inl b) = a.0 ∙ sym b.0
    both first rest (inl a) (inr b) = absurd (clash first.0 q first.3 b.1 (label_is k j a.1 ∙ first.2))
    both first rest (inr a) (inl b) = absurd (clash first.0 p first.3 a.1 (label_is k j b.1 ∙ first.2))
    both first rest (inr a) (inr b) = rest a.1 b.1

exit_shapes : {s s' : Shape} {c c' : Set} → Some (TermEntry (ExitShape s) c) ≡ Some (TermEntry (ExitShape s') c') → s ≡ s'
exit_shapes e = cc

pub leave_row : (st : Store) (stack : Stack) (made : ℕ) (t : Shape) (d : Set) (x v : Var) (g : Context) (s : Shape) (c : Set) → Around st stack made (Leave t d x v) g s c → Typed g (Leave t d x v) s c
    → OkOutcome (configured st stack made (Leave t d x v)) (exit_step st stack made v (cell_at st x))
leave_row st stack made t d x v g s c around (widened kt (exact_leave {s = s0} exit content) captures below ks kc) =
    let found = exit_at around.stored exit in
    let n = found.0 in
    let before : Configuration = configured st stack made (Leave t d x v) in
    let reached = end_reached exit (LabelCell n) found.1 tt in
    let listed = around.term_reach n (set_reaches-left (variable_set x) (variable_set v) reached) in
    let b = below_at around.stacked n listed around.rise around.frames_reach in
    let there : lookup st exit.position ≡ Some (LabelCell n) = subst (λ w. cell_at st w ≡ Some (LabelCell n)) exit.is found.1 in
    let same_cell : exit.position ≡ b.p = label_unique st made around.counted exit.position b.p n there b.at in
    let declared : lookup g b.p ≡ Some (TermEntry (ExitShape s0) exit.set) =
    subst (λ q. lookup g q ≡ Some (TermEntry (ExitShape s0) exit.set)) same_cell (exit.there ∙ ap (λ z. Some (TermEntry z exit.set)) found.2) in
    let same : s0 ≡ b.gives = exit_shapes (sym declared ∙ b.entry) in
    let top = stack_takes_kinded b.stacked in
    subst (λ o. OkOutcome before (exit_step st stack made v o)) (sym found.1)
    (subst (λ o. OkOutcome before (exit_to st made v n o)) (sym b.popped)
    (leaves st stack b.rest made (Leave t d x v) (VariableTerm v) g s b.takes c b.set (Some (Exited n)) around
    (typed_wider (has_variable_typed content) (nothing_captures g b.set) (subst (λ z. SubtypesDirectly g z b.takes) (sym same) b.less) top.0 top.1)
    b.stacked b.rise b.frames (exited b.inner b.scopes) tt b.within
    (λ z r. reaches_nothing around.stored (variable_set v) (variable_captures content) z r)))
