-- With comparisons of more steps inference comes to the same, once it is at its end. So a term has one outcome.
use Rattle.std.proofs.Common.{◌≡◌, ◌⊎◌, ℕ, ◌+◌, ◌≤◌, [], ◌∷◌, Bool, Option, Some, None, refl, sym, ap, ◌∙◌, subst, inl, inr, arith}
use Rattle.cc_base.specs.declared.place.Place.{Place}
use Rattle.cc_base.specs.declared.literal.Base.{Base}
use Rattle.cc_capture.specs.declared.var.Var.{Var}
use Rattle.cc_core.specs.Shapes.{Shape, CapturingType}
use Rattle.cc_core.specs.Terms.{Note, Absent, Written, Own, Term, VariableTerm, LiteralTerm, FunctionTerm, TypeFunctionTerm, BoxTerm, Application, TypeApplication, Unboxing, Let, Primitive, Conditional, Repetition, Operation, Boundary, Leave}
use Rattle.cc_core.specs.Contexts.{Context}
use Rattle.cc_core.specs.Places.{Places, first_part, second_part}
use Rattle.cc_checking.specs.Comparison.{demanded, Comparison, Matches, Comparing, comparison}
use Rattle.cc_checking.specs.Outcomes.{Outcome, NoAnswer, Refused, Found, asked_before, ◌>>=◌}
use Rattle.cc_checking.specs.Inference.{Result, Ways, compared_at, below, against, operand, operation_argument, noted, part_below, part_against, sized, inferred, limited, Infers}
use Rattle.cc_typing_laws.proofs.ComparisonLemmas.{Keeps, keeps_then, comparison_keeps}

-- the second outcome is the first one, where there is an answer
abbrev pub Stays : {A : Type 0} → Outcome A → Outcome A → Type 0
Stays first second = (first ≡ NoAnswer) ⊎ (first ≡ second)

stays_asked : {A B : Type 0} {next next' : A → Outcome B} (o : Outcome A) → ((a : A) → Stays (next a) (next' a))
    → Stays (◌>>=◌ o next) (◌>>=◌ o next')
unfolding ◌>>=◌
stays_asked NoAnswer k = inl refl
stays_asked (Refused code at) k = inr refl
stays_asked (Found a asked) k = behind asked (k a)
  where
    behind : {B : Type 0} (asked : _) {o o' : Outcome B} → Stays o o' → Stays (asked_before asked o) (asked_before asked o')
    behind asked (inl e) = inl (ap (asked_before asked) e)
    behind asked (inr e) = inr (ap (asked_before asked) e)

pub stays_then : {A B : Type 0} {o o' : Outcome A} {next next' : A → Outcome B} → Stays o o'
    → ((a : A) → Stays (next a) (next' a)) → Stays (◌>>=◌ o next) (◌>>=◌ o' next')
unfolding ◌>>=◌
stays_then {next = next} (inl e) k = inl (ap (λ x. ◌>>=◌ x next) e)
stays_then {o = o} {next = next} {next' = next'} (inr e) k =
    subst (λ x. Stays (◌>>=◌ o next) (◌>>=◌ x next')) e (stays_asked o k)

stays_compared : (at : Place) (a b : Comparison) → Keeps a b → Stays (compared_at at a) (compared_at at b)
stays_compared at a b (inl e) = inl (ap (compared_at at) e)
stays_compared at a b (inr e) = inr (ap (compared_at at) e)

-- comparisons that keep their answers
abbrev pub KeepAnswers : Comparing → Comparing → Type 0
KeepAnswers one other = (context : Context) (left right : Shape) → Keeps (one context left right) (other context left right)

module _ (one other : Comparing) (keep : KeepAnswers one other) where
  pub stays_below : (at : Place) (g : Context) (left right : CapturingType) → Stays (below one at g left right) (below other at g left right)
  stays_below at g left right =
      stays_compared at _ _ (keeps_then (Matches (demanded g left.set right.set ∷ [])) _ _ (keep g left.shape right.shape))

  stays_against : (at : Place) (g : Context) (left right : Shape) → Stays (against one at g left right) (against other at g left right)
  stays_against at g left right = stays_compared at _ _ (keep g left right)

  stays_operand : (at : Place) (g : Context) (v : Var) (s : Shape) → Stays (operand one at g v s) (operand other at g v s)
  stays_operand at g v s = stays_then (inr refl) (λ t. stays_against at g t.shape s)

  stays_argument : (at : Place) (g : Context) (base : Option Base) (v : Option Var) → Stays (operation_argument one at g base v) (operation_argument other at g base v)
  stays_argument at g (Some base) (Some v) = stays_operand at g v _
  stays_argument at g (Some base) None = inr refl
  stays_argument at g None (Some v) = inr refl
  stays_argument at g None None = inr refl

  pub stays_noted : (root : ℕ) (at : Place) (g : Context) (note : Note) (t : CapturingType) → Stays (noted one root at g note t) (noted other root at g note t)
  stays_noted root at g Absent t = inr refl
  stays_noted root at g (Written s c) t = stays_then (stays_below at g t _) (λ _. inr refl)
  stays_noted root at g (Own s) t = stays_then (stays_against at g t.shape _) (λ _. inr refl)

  stays_part_below : (at : Place) (g : Context) (t : CapturingType) (o o' : Outcome Result) → Stays o o' → Stays (part_below one at g t o) (part_below other at g t o')
  stays_part_below at g t o o' s = stays_then s (λ p. stays_then (stays_below at g p.type t) (λ _. inr refl))

  stays_part_against : (at : Place) (g : Context) (x : Shape) (o o' : Outcome Result) → Stays o o' → Stays (part_against one at g x o) (part_against other at g x o')
  stays_part_against at g x o o' s = stays_then s (λ p. stays_then (stays_against at g p.type.shape x) (λ _. inr refl))

-- the ways with the comparison
abbrev pub by : (CapturingType → Bool) → Comparing → Ways
by passes compare = record { compare = compare; passes = passes }

module _ (one other : Comparing) (keep : KeepAnswers one other) (passes : CapturingType → Bool) where
  stays_sized : (places : Places) (o o' : Outcome Result) → Stays o o'
      → Stays (sized (by passes one) places o) (sized (by passes other) places o')
  stays_sized places o o' s = stays_then s (λ r. inr refl)

  pub inferred_stays : (t : Term) (root : ℕ) (g : Context) (places : Places)
      → Stays (inferred (by passes one) root g t places) (inferred (by passes other) root g t places)
  inferred_stays (VariableTerm v) root g places = inr refl
  inferred_stays (LiteralTerm l) root g places = inr refl
  inferred_stays (FunctionTerm takes c body) root g places =
      stays_sized places _ _ (stays_then (inferred_stays body root _ (first_part places)) (λ r. inr refl))
  inferred_stays (TypeFunctionTerm bound body) root g places =
      stays_sized places _ _ (stays_then (inferred_stays body root _ (first_part places)) (λ r. inr refl))
  inferred_stays (BoxTerm v) root g places = inr refl
  inferred_stays (Application v w) root g places =
      stays_sized places _ _ (stays_then (inr refl) (λ f. stays_then (inr refl) (λ h. stays_then (inr refl) (λ a. stays_then (stays_below one other keep _ g _ _) (λ _. inr refl)))))
  inferred_stays (TypeApplication v s) root g places =
      stays_sized places _ _ (stays_then (inr refl) (λ f. stays_then (inr refl) (λ h. stays_then (stays_against one other keep _ g _ _) (λ _. inr refl))))
  inferred_stays (Unboxing set v) root g places = inr refl
  inferred_stays (Let note s t) root g places =
      stays_sized places _ _ (stays_then (inferred_stays s root g (first_part places)) (λ r. stays_then (stays_noted one other keep root _ g note _) (λ n. stays_then (inferred_stays t root _ (second_part places)) (λ r'. inr refl))))
  inferred_stays (Primitive o v w) root g places =
      stays_sized places _ _ (stays_then (stays_operand one other keep _ g v _) (λ _. stays_then (stays_operand one other keep _ g w _) (λ _. inr refl)))
  inferred_stays (Conditional Absent v s t) root g places = inr refl
  inferred_stays (Conditional (Written x c) v s t) root g places =
      stays_sized places _ _ (stays_then (stays_operand one other keep _ g v _) (λ _. stays_then (stays_part_below one other keep _ g _ _ _ (inferred_stays s root g (first_part places))) (λ r. stays_then (stays_part_below one other keep _ g _ _ _ (inferred_stays t root g (second_part places))) (λ r'. inr refl))))
  inferred_stays (Conditional (Own x) v s t) root g places =
      stays_sized places _ _ (stays_then (stays_operand one other keep _ g v _) (λ _. stays_then (stays_part_against one other keep _ g _ _ _ (inferred_stays s root g (first_part places))) (λ r. stays_then (stays_part_against one other keep _ g _ _ _ (inferred_stays t root g (second_part places))) (λ r'. inr refl))))
  inferred_stays (Repetition v w) root g places =
      stays_sized places _ _ (stays_then (stays_operand one other keep _ g v _) (λ _. stays_then (stays_operand one other keep _ g w _) (λ _. inr refl)))
  inferred_stays (Operation o v w) root g places =
      stays_sized places _ _ (stays_then (inr refl) (λ d. stays_then (inr refl) (λ _. stays_then (stays_argument one other keep _ g _ w) (λ _. inr refl))))
  inferred_stays (Boundary s t) root g places =
      stays_sized places _ _ (stays_then (stays_part_below one other keep _ _ _ _ _ (inferred_stays t root _ (first_part places))) (λ r. inr refl))
  inferred_stays (Leave s c v w) root g places =
      stays_sized places _ _ (stays_then (inr refl) (λ l. stays_then (inr refl) (λ h. stays_then (inr refl) (λ a. stays_then (stays_below one other keep _ g _ _) (λ _. inr refl)))))

-- two answers of one term that are at their ends
pub same_once : {A : Type 0} {a b : Outcome A} (at : ℕ → Outcome A) (n m : ℕ) → Stays (at n) (at (n + m)) → Stays (at m) (at (n + m))
    → at n ≡ a → at m ≡ b → (a ≡ NoAnswer → ⊥) → (b ≡ NoAnswer → ⊥) → a ≡ b
same_once at n m (inl e) s p q done done' = absurd (done (sym p ∙ e))
same_once at n m (inr e) (inl e') p q done done' = absurd (done' (sym q ∙ e'))
same_once at n m (inr e) (inr e') p q done done' = sym p ∙ e ∙ sym e' ∙ q

pub inferred_more : (root : ℕ) (g : Context) (t : Term) (places : Places) (few many : ℕ) → few ≤ many
    → Stays (inferred (limited few) root g t places) (inferred (limited many) root g t places)
inferred_more root g t places few many h =
    inferred_stays (comparison few) (comparison many) (comparison_keeps few many h) (limited few).passes t root g places

pub one_outcome : (root : ℕ) (g : Context) (t : Term) (places : Places) (a b : Outcome Result)
    → Infers root g t places a → Infers root g t places b → a ≡ b
one_outcome root g t places a b (n, p, done) (m, q, done') =
    same_once (λ k. inferred (limited k) root g t places) n m
    (inferred_more root g t places n (n + m) (omega arith)) (inferred_more root g t places m (n + m) (omega arith)) p q done done'
