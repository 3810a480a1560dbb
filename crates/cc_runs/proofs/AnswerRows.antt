-- Steps of answers: what a variable or a value does to the top frame.
use Rattle.cc_core.proofs.SubcapturingContexts.{IsKinded-added, IsKindedContext, IsKindedSet-added}
use Rattle.std.proofs.Common.{◌≡◌, ℕ, zero, suc, ◌≤◌, true, [], ◌∷◌, length, Some, None, inl, inr, ◌⊎◌, refl, sym, subst, arith}
use Rattle.std.specs.Prelude.{nat_eq, pos}
use Rattle.std.proofs.lemmas.Bool.{cases_eq, cond-true, cond-false, eq-eqb, ne_eqb}
use Rattle.cc_base.specs.declared.literal.Base.{Base}
use Rattle.cc_base.specs.declared.literal.Base.TheVariants as bases
use Rattle.cc_capture.specs.declared.var.Var.{Var}
use Rattle.cc_capture.specs.declared.var.Var.TheVariants.{Bound, Free}
use Rattle.cc_capture.specs.declared.var.Elem.{Elem}
use Rattle.cc_capture.specs.declared.var.Elem.TheVariants.{Var as Variable}
use Rattle.cc_capture.specs.Sets.{Set, Member, empty, union}
use Rattle.cc_capture.proofs.Membership.{Member-empty, Member-union, Member-flat_image}
use Rattle.cc_capture.proofs.Images.{flat_image-empty}
use Rattle.cc_core.specs.Shapes.{Shape, BaseShape}
use Rattle.cc_base.specs.Literals.{UnitLiteral, NumberLiteral}
use Rattle.cc_core.specs.Terms.{Term, VariableTerm, LiteralTerm, Application}
use Rattle.cc_core.specs.Contexts.{TermEntry, Context}
use Rattle.cc_core.specs.Traversal.{act_set}
use Rattle.cc_core.specs.Substitution.{putting, opened_term}
use Rattle.cc_core.specs.WellFormed.{TermKind, kinds_of}
use Rattle.cc_core.specs.Captured.{is_value, captured_variables, outside, without_binder, variable_set}
use Rattle.cc_core.specs.Subcapturing.{SubcapturesSet}
use Rattle.cc_core.specs.Stores.{ValueCell, DeviceCell, LabelCell, Store}
use Rattle.cc_core.proofs.Moving.{Member-single}
use Rattle.cc_device.specs.Events.{Ended, ended}
use Rattle.cc_runs.specs.Machine.{LetFrame, ScopeFrame, RepetitionFrame, Stack, Configuration, configured, going, put_in, call_with_number, repeat_step, variable_step, value_step}
use Rattle.cc_runs.specs.Reach.{SetReaches, captured_by_stack}
use Rattle.cc_runs.specs.Soundness.{repeated, IsFalling, ReachesOnlyScopes, FramesReachScopes}
use Rattle.cc_runs.specs.SafeRuns.{scopes_of, IsListed}
use Rattle.cc_typing_laws.proofs.DirectSubtyping.{SubtypesDirectly}
use Rattle.cc_typing_laws.proofs.FreeMaps.{as_is, more}
use Rattle.cc_typing_laws.proofs.InternalTyping.{HasVariable, TypedExactly, exact_application, Typed, captured_kinded}
use Rattle.cc_typing_laws.proofs.TypingMaps.{typed_is, typed_kinded_term, typed_wider, typed_exactly}
use Rattle.cc_typing_laws.proofs.TypingLemmas.{has_variable_longer, variable_typed, let_body_typed, newest_has, answer_captures, variable_captures}
use Rattle.cc_runs.proofs.StoreTyping.{value_cell, store_formed}
use Rattle.cc_runs.proofs.ReachLemmas.{set_reaches-left, set_reaches-right, set_reaches-either, set_reaches-none, set_reaches-within, reaches_nothing}
use Rattle.cc_runs.proofs.Invariant.{StackTyped, let_on, scope_on, repetition_on, stack_takes_kinded, stack_longer, has_variable_kind, stack_kinded, frames_added, nothing_kinded, nothing_captures, Around, Went, OkOutcome}
use Rattle.cc_runs.proofs.StepHelpers.{literal_typed, leaves, put_reaches, binds}

-- a variable goes into the body of a let
variable_let : (st : Store) (stack : Stack) (body : Term) (made : ℕ) (y : Var) (g : Context) (s : Shape) (c : Set) → StackTyped st g (LetFrame body ∷ stack) s c
    → Around st (LetFrame body ∷ stack) made (VariableTerm y) g s c → Typed g (VariableTerm y) s c
    → Went (configured st (LetFrame body ∷ stack) made (VariableTerm y)) None (configured st stack made (put_in y body))
variable_let st stack body made y g s c (let_on {gives = gives} {e = e} kb ks kc typed_body rest) around typed =
    let has = variable_typed typed in
    let top = stack_takes_kinded rest in
    let old : Set = union (variable_set y) (union (without_binder (captured_variables body)) (captured_by_stack stack)) in
    let inner : Set = union (without_binder (captured_variables body)) (captured_by_stack stack) in
    record {
      ok = record {
        context = g;
        shape = gives;
        set = e;
        typed = let_body_typed g (store_formed around.stored) s c y has body gives e kb top.0 top.1 typed_body;
        around = record {
          stored = around.stored;
          stacked = rest;
          counted = around.counted;
          rise = around.rise;
          term_reach = λ k r.
              elim (put_reaches has body (LabelCell k) r) as (λ _. IsListed k (scopes_of stack)) [
                | inl q ↦ around.term_reach k q
                | inr q ↦ around.frames_reach.0 k q
              ];
          frames_reach = around.frames_reach.1;
        };
      };
      devices = λ n b r.
          elim (set_reaches-either (captured_variables (put_in y body)) (captured_by_stack stack) r) as (λ _. SetReaches st old (DeviceCell n b)) [
            | inl q ↦
                elim (put_reaches has body (DeviceCell n b) q) as (λ _. SetReaches st old (DeviceCell n b)) [
                  | inl z ↦ set_reaches-left (variable_set y) inner z
                  | inr z ↦ set_reaches-right (variable_set y) inner (set_reaches-left (without_binder (captured_variables body)) (captured_by_stack stack) z)
                ]
            | inr q ↦ set_reaches-right (variable_set y) inner (set_reaches-right (without_binder (captured_variables body)) (captured_by_stack stack) q)
          ];
      device_cells = λ p n b there. there;
      scopes = refl;
      operates_none = tt;
    }

-- a value goes into a new cell, and its position into the body of a let
value_let : (st : Store) (stack : Stack) (body : Term) (made : ℕ) (v : Term) (g : Context) (s : Shape) (c : Set) → is_value v ≡ true → StackTyped st g (LetFrame body ∷ stack) s c
    → Around st (LetFrame body ∷ stack) made v g s c → Typed g v s c
    → Went (configured st (LetFrame body ∷ stack) made v) None (configured (ValueCell v ∷ st) stack made (opened_term (length st) body))
value_let st stack body made v g s c isv (let_on {gives = gives} {e = e} kb ks kc typed_body rest) around typed =
    let formed = store_formed around.stored in
    let inner : Set = union (without_binder (captured_variables body)) (captured_by_stack stack) in
    binds st (LetFrame body ∷ stack) stack made v v body g s s gives c c e around
    (value_cell around.stored isv typed) (captured_kinded (kinds_of g) [] v (typed_kinded_term typed)) kb typed_body (stack_longer rest formed (ValueCell v) s c)
    (stack_kinded rest) around.rise (frames_added rest around.stored (ValueCell v) around.frames_reach.1) refl
    (λ n b r. set_reaches-right (captured_variables v) inner (set_reaches-right (without_binder (captured_variables body)) (captured_by_stack stack) r))
    (λ k r. around.frames_reach.0 k r)
    (λ k used r. around.term_reach k r)
    (λ n b r. set_reaches-right (captured_variables v) inner (set_reaches-left (without_binder (captured_variables body)) (captured_by_stack stack) r))
    (λ n b used r. set_reaches-left (captured_variables v) inner r)

-- an answer ends a scope: it captures nothing, so it reaches no label
scope_ends : (st : Store) (stack : Stack) (k made : ℕ) (a : Term) (g : Context) (s : Shape) (c : Set) → StackTyped st g (ScopeFrame k ∷ stack) s c
    → Around st (ScopeFrame k ∷ stack) made a g s c → Typed g a s c → SubcapturesSet g (captured_variables a) c
    → Went (configured st (ScopeFrame k ∷ stack) made a) (Some (Ended k)) (configured st stack made a)
scope_ends st stack k made a g s c (scope_on p {below = below} {e = e} at entry ks less rest) around typed captures =
    let top = stack_takes_kinded rest in
    leaves st (ScopeFrame k ∷ stack) stack made a a g s below empty e (Some (Ended k)) around
    (typed_wider typed (nothing_captures g e) less top.0 top.1) rest around.rise.1 around.frames_reach.1 ended tt
    (λ x r. set_reaches-right empty (captured_by_stack stack) r)
    (λ x r. reaches_nothing around.stored (captured_variables a) captures x r)

-- the body of a call with a number
number_call_outside : (p q : ℕ) → Member (Variable (Free q)) (without_binder (captured_variables (Application (Free p) (Bound zero)))) → Member (Variable (Free q)) (variable_set (Free p))
number_call_outside p q m =
    let from = (Member-flat_image outside (Variable (Free q)) (captured_variables (Application (Free p) (Bound zero)))).0 m in
    at from.0 ((Member-union from.0 (variable_set (Free p)) (variable_set (Bound zero))).0 from.1) from.2
  where
    at : (x : Elem) → Member x (variable_set (Free p)) ⊎ Member x (variable_set (Bound zero)) → Member (Variable (Free q)) (outside x) → Member (Variable (Free q)) (variable_set (Free p))
    at x (inl h) n =
        let is = Member-single x (Variable (Free p)) h in
        subst (λ y. Member (Variable (Free q)) (outside y)) is n
    at x (inr h) n =
        let is = Member-single x (Variable (Bound zero)) h in
        absurd (Member-empty (Variable (Free q)) (subst (λ y. Member (Variable (Free q)) (outside y)) is n))

module _ (st : Store) (stack rest : Stack) (made : ℕ) (t : Term) (g : Context) (s below : Shape) (c d e : Set) (around : Around st stack made t g s c)
    (begun wanted number : ℕ) (one : 1 ≤ begun) (most : begun ≤ wanted) (less : SubtypesDirectly g (BaseShape bases.Unit) below) (stacked : StackTyped st g rest below e)
    (rise : IsFalling (scopes_of rest)) (frames : FramesReachScopes st rest) (same : scopes_of stack ≡ scopes_of rest) (within : (n : ℕ) (b : Base) → SetReaches st (captured_by_stack rest) (DeviceCell n b) → SetReaches st (union (captured_variables t) (captured_by_stack stack)) (DeviceCell n b)) where
  literal : Term
  literal = LiteralTerm (NumberLiteral (pos number))

  calls_at : (p : ℕ) → HasVariable g (Free p) repeated d → ReachesOnlyScopes st (variable_set (Free p)) rest
      → ((n : ℕ) (b : Base) → SetReaches st (variable_set (Free p)) (DeviceCell n b) → SetReaches st (union (captured_variables t) (captured_by_stack stack)) (DeviceCell n b))
      → Went (configured st stack made t) None
      (configured (ValueCell (LiteralTerm (NumberLiteral (pos number))) ∷ st) (RepetitionFrame (Free p) begun wanted ∷ rest) made (Application (Free p) (Free (length st))))
  unfolding literal
  calls_at p has labels devices =
      let formed = store_formed around.stored in
      let g' : Context = TermEntry (BaseShape bases.Int) empty ∷ g in
      let formed' : IsKindedContext g' = ((tt, nothing_kinded (kinds_of g) []), formed) in
      let has' = has_variable_longer (more (TermEntry (BaseShape bases.Int) empty) as_is) formed has (IsKinded-added TermKind (kinds_of g) [] repeated has.kinded) (IsKindedSet-added TermKind (kinds_of g) [] d has.kinded_set) in
      let newest = newest_has g (BaseShape bases.Int) empty tt (nothing_kinded (kinds_of g) []) in
      let exact : TypedExactly g' (Application (Free p) (Free (length g))) (BaseShape bases.Unit) (act_set (putting (Free (length g))) 0 empty) = exact_application has' newest in
      let typed' : Typed g' (Application (Free p) (Free (length g))) (BaseShape bases.Unit) empty =
      typed_is refl refl (flat_image-empty ((putting (Free (length g))).element 0)) (typed_exactly formed' (has_variable_kind has', has_variable_kind newest) exact) in
      let frame : StackTyped st g (RepetitionFrame (Free p) begun wanted ∷ rest) (BaseShape bases.Unit) empty = repetition_on has one most less stacked in
      binds st stack (RepetitionFrame (Free p) begun wanted ∷ rest) made t literal (Application (Free p) (Bound zero)) g s (BaseShape bases.Int) (BaseShape bases.Unit) c empty empty around
      (value_cell around.stored refl (literal_typed g (NumberLiteral (pos number)))) (nothing_kinded (kinds_of g) []) (has_variable_kind has, refl)
      typed' (stack_longer frame formed (ValueCell literal) (BaseShape bases.Int) empty) (stack_kinded frame) rise
      (frames_added frame around.stored (ValueCell literal) (labels, frames)) same
      (λ n b r. elim (set_reaches-either (variable_set (Free p)) (captured_by_stack rest) r) as (λ _. SetReaches st (union (captured_variables t) (captured_by_stack stack)) (DeviceCell n b)) [ inl q ↦ devices n b q | inr q ↦ within n b q ])
      (λ k r. labels k (set_reaches-within (without_binder (captured_variables (Application (Free p) (Bound zero)))) (variable_set (Free p)) (number_call_outside p) r))
      (λ k used r. absurd (set_reaches-none r))
      (λ n b r. devices n b (set_reaches-within (without_binder (captured_variables (Application (Free p) (Bound zero)))) (variable_set (Free p)) (number_call_outside p) r))
      (λ n b used r. absurd (set_reaches-none r))

  pub calls : (f : Var) → HasVariable g f repeated d → ReachesOnlyScopes st (variable_set f) rest
      → ((n : ℕ) (b : Base) → SetReaches st (variable_set f) (DeviceCell n b) → SetReaches st (union (captured_variables t) (captured_by_stack stack)) (DeviceCell n b))
      → Went (configured st stack made t) None
      (configured (ValueCell (LiteralTerm (NumberLiteral (pos number))) ∷ st) (RepetitionFrame f begun wanted ∷ rest) made (Application f (Free (length st))))
  calls f has labels devices =
      subst (λ w. Went (configured st stack made t) None (configured (ValueCell (LiteralTerm (NumberLiteral (pos number))) ∷ st) (RepetitionFrame w begun wanted ∷ rest) made (Application w (Free (length st))))) (sym has.is)
      (calls_at has.position (subst (λ w. HasVariable g w repeated d) has.is has)
      (subst (λ w. ReachesOnlyScopes st (variable_set w) rest) has.is labels)
      (subst (λ w. (n : ℕ) (b : Base) → SetReaches st (variable_set w) (DeviceCell n b) → SetReaches st (union (captured_variables t) (captured_by_stack stack)) (DeviceCell n b)) has.is devices))

-- an answer of a call: the next call, or the end of the repetition
call_answered : (st : Store) (stack : Stack) (f : Var) (begun wanted made : ℕ) (a : Term) (g : Context) (s : Shape) (c : Set) → StackTyped st g (RepetitionFrame f begun wanted ∷ stack) s c
    → Around st (RepetitionFrame f begun wanted ∷ stack) made a g s c
    → OkOutcome (configured st (RepetitionFrame f begun wanted ∷ stack) made a) (repeat_step st stack made f begun wanted)
call_answered st stack f begun wanted made a g s c (repetition_on {below = below} {d = d} {e = e} has one most less rest) around =
    let top = stack_takes_kinded rest in
    let before : Configuration = configured st (RepetitionFrame f begun wanted ∷ stack) made a in
    let inner : Set = union (variable_set f) (captured_by_stack stack) in
    elim (cases_eq begun wanted) as (λ _. OkOutcome before (repeat_step st stack made f begun wanted)) [
      | inl same ↦
          subst (OkOutcome before) (sym (cond-true (nat_eq begun wanted) (going st stack made (LiteralTerm UnitLiteral)) (call_with_number st stack made f (suc begun) wanted begun) (eq-eqb begun wanted same)))
          (leaves st (RepetitionFrame f begun wanted ∷ stack) stack made a (LiteralTerm UnitLiteral) g s below c e None around
          (typed_wider (literal_typed g UnitLiteral) (nothing_captures g e) less top.0 top.1) rest around.rise around.frames_reach.1 refl tt
          (λ x r. set_reaches-right (variable_set f) (captured_by_stack stack) r)
          (λ x r. set_reaches-none r))
      | inr other ↦
          subst (OkOutcome before) (sym (cond-false (nat_eq begun wanted) (going st stack made (LiteralTerm UnitLiteral)) (call_with_number st stack made f (suc begun) wanted begun) (ne_eqb begun wanted other)))
          (calls st (RepetitionFrame f begun wanted ∷ stack) stack made a g s below c d e around (suc begun) wanted begun (let l : 1 ≤ suc begun = omega arith in l) (let l : suc begun ≤ wanted = omega arith in l) less rest around.rise around.frames_reach.1 refl
          (λ n b r. set_reaches-right (captured_variables a) inner (set_reaches-right (variable_set f) (captured_by_stack stack) r))
          f has around.frames_reach.0
          (λ n b r. set_reaches-right (captured_variables a) inner (set_reaches-left (variable_set f) (captured_by_stack stack) r)))
    ]

-- each variable that is an answer
pub variable_row : (st : Store) (stack : Stack) (made : ℕ) (y : Var) (g : Context) (s : Shape) (c : Set) → Around st stack made (VariableTerm y) g s c → Typed g (VariableTerm y) s c
    → OkOutcome (configured st stack made (VariableTerm y)) (variable_step st stack made y)
variable_row st [] made y g s c around typed = tt
variable_row st (LetFrame body ∷ stack) made y g s c around typed = variable_let st stack body made y g s c around.stacked around typed
variable_row st (ScopeFrame k ∷ stack) made y g s c around typed = scope_ends st stack k made (VariableTerm y) g s c around.stacked around typed (variable_captures (variable_typed typed))
variable_row st (RepetitionFrame f begun wanted ∷ stack) made y g s c around typed = call_answered st stack f begun wanted made (VariableTerm y) g s c around.stacked around

-- each value that is one
pub value_row : (st : Store) (stack : Stack) (made : ℕ) (v : Term) (g : Context) (s : Shape) (c : Set) → is_value v ≡ true → Around st stack made v g s c → Typed g v s c
    → OkOutcome (configured st stack made v) (value_step st stack made v)
value_row st [] made v g s c isv around typed = tt
value_row st (LetFrame body ∷ stack) made v g s c isv around typed = value_let st stack body made v g s c isv around.stacked around typed
value_row st (ScopeFrame k ∷ stack) made v g s c isv around typed = scope_ends st stack k made v g s c around.stacked around typed (answer_captures typed isv)
value_row st (RepetitionFrame f begun wanted ∷ stack) made v g s c isv around typed = call_answered st stack f begun wanted made v g s c around.stacked around
