-- What is remembered of a pair with the entries that it goes by holds wherever these stand.
use Rattle.std.proofs.Common.{◌≡◌, ℕ, zero, suc, ◌+◌, ◌≤◌, ◌<◌, Bool, true, false, ◌&&◌, List, [], ◌∷◌, ◌++◌, length}
use Rattle.std.proofs.Common.{length-append, Some, inl, inr, refl, sym, ap, ◌∙◌, subst, arith}
use Rattle.std.specs.Prelude.{get_or}
use Rattle.std.specs.List.{list_all}
use Rattle.std.specs.Option.{option_map}
use Rattle.std.proofs.lemmas.Bool.{and_from, and_parts, cases_eq}
use Rattle.cc_base.specs.declared.place.Place.{Place}
use Rattle.cc_capture.specs.declared.var.Var.{Var}
use Rattle.cc_core.specs.Contexts.{Context, lookup}
use Rattle.cc_core.specs.Reading.{read_shape}
use Rattle.cc_core.specs.Shapes.{Shape, TypeVariable}
use Rattle.cc_core.specs.Substitution.{renamed, renamed_variable}
use Rattle.cc_core.specs.TermViews.{shape_of, context_of}
use Rattle.cc_core.specs.WellFormed.{kinds_of, is_well_formed_context, is_well_formed_shape}
use Rattle.cc_core.specs.WellFormed.{IsWellFormedContext, IsWellFormedShape}
use Rattle.cc_core.proofs.KindFacts.{IsKinded-from}
use Rattle.cc_core.proofs.Lookups.{lookup-more, lookup-newest, lookup-other, lookup-within}
use Rattle.cc_core.proofs.SubcapturingContexts.{IsKindedContext, IsKindedContext-from}
use Rattle.cc_checking.specs.Comparison.{bound_of, bound_compared, comparison}
use Rattle.cc_checking.specs.Outcomes.{Placed}
use Rattle.cc_known.specs.ComparedAgain.{told, renamed_entry, seen, Embeds}
use Rattle.cc_known.specs.Keeping.{has_lost}
use Rattle.cc_known.specs.KeptWalks.{Keeps, StandsOn, goes, is_told, is_matched, is_remembered_as, is_keyed}
use Rattle.cc_known.specs.declared.keys.KeyedPair.{KeyedPair}
use Rattle.cc_known.proofs.ComparedAgain.{lookup-past, still_entry, older_members, told_bound_embedded}
use Rattle.cc_known.proofs.RememberedPairs.{goes_again, older_formed, remembered_as_later, remembered_more, told_keeps, settled_told, lost_told}
use Rattle.cc_known.proofs.WalkedParts.{bound_read}

-- The positions below a number stand in a context, at places below another number.
pub record StandsBelow (small g : Context) (to : ℕ → ℕ) (n next : ℕ) : Type 0 where
  pub apart : (p q : ℕ) → p < n → q < n → to p ≡ to q → p ≡ q
  pub below : (p : ℕ) → p < n → to p < next
  pub entries : (p : ℕ) → p < n
      → option_map seen (lookup g (to p)) ≡ option_map (λ entry. renamed_entry to (seen entry)) (lookup small p)

base_kinded : (base g : Context) → IsWellFormedContext g → StandsOn base g → IsKindedContext base
base_kinded base g formed on =
    IsKindedContext-from base (older_formed on.passed base (subst IsWellFormedContext on.is formed))

-- those of the base do
pub stands_first : (base own g : Context) (to : ℕ → ℕ) → IsWellFormedContext g → StandsOn base g
    → ((p : ℕ) → p < length base → to p ≡ p) → StandsBelow (own ++ base) g to (length base) (length base)
stands_first base own g to formed on stays = record {
  apart = λ p q h h' e. sym (stays p h) ∙ e ∙ stays q h';
  below = λ p h. subst (λ x. x < length base) (sym (stays p h)) h;
  entries = λ p h.
      let there = lookup-within base p h in
      (λ i. option_map seen (lookup (on.is i) (stays p h i)))
      ∙ ap (option_map seen) (lookup-more on.passed base p there.0 there.1)
      ∙ ap Some (sym (still_entry base to stays (base_kinded base g formed on) p there.0 there.1))
      ∙ ap (option_map (λ entry. renamed_entry to (seen entry))) (sym (lookup-more own base p there.0 there.1));
}

-- one more does
pub stands_next : (small g : Context) (to : ℕ → ℕ) (n next more after : ℕ) → StandsBelow small g to n next → next ≤ to n
    → more ≡ n + 1 → after ≡ to n + 1
    → option_map seen (lookup g (to n)) ≡ option_map (λ entry. renamed_entry to (seen entry)) (lookup small n)
    → StandsBelow small g to more after
stands_next small g to n next more after s high is then entry = record {
  apart = λ p q h h' e.
      elim (cases_eq p n) as (λ _. p ≡ q) [
        | inl one ↦
            elim (cases_eq q n) as (λ _. p ≡ q) [
              | inl other ↦ one ∙ sym other
              | inr other ↦
                  let low = s.below q (omega (arith, h', is, other)) in
                  let same = sym (ap to one) ∙ e in
                  absurd (omega (arith, low, same, high))
            ]
        | inr one ↦
            elim (cases_eq q n) as (λ _. p ≡ q) [
              | inl other ↦
                  let low = s.below p (omega (arith, h, is, one)) in
                  let same = e ∙ ap to other in
                  absurd (omega (arith, low, same, high))
              | inr other ↦ s.apart p q (omega (arith, h, is, one)) (omega (arith, h', is, other)) e
            ]
      ];
  below = λ p h.
      elim (cases_eq p n) as (λ _. to p < after) [
        | inl one ↦ let same = ap to one in omega (arith, same, then)
        | inr one ↦ let low = s.below p (omega (arith, h, is, one)) in omega (arith, low, high, then)
      ];
  entries = λ p h.
      elim (cases_eq p n) as (λ _. option_map seen (lookup g (to p)) ≡ option_map (λ entry. renamed_entry to (seen entry)) (lookup small p)) [
        | inl one ↦
            subst (λ q. option_map seen (lookup g (to q)) ≡ option_map (λ entry. renamed_entry to (seen entry)) (lookup small q)) (sym one) entry
        | inr one ↦ s.entries p (omega (arith, h, is, one))
      ];
}

-- an entry on top of the base
pub lookup-beyond : (own base : Context) (i : ℕ) → lookup (own ++ base) (length base + i) ≡ lookup own i
lookup-beyond [] base i = lookup-past base (length base + i) (omega arith)
lookup-beyond (b ∷ own) base i =
    let long = length-append own base in
    elim (cases_eq i (length own)) as (λ _. lookup (b ∷ own ++ base) (length base + i) ≡ lookup (b ∷ own) i) [
      | inl same ↦
          let at : length base + i ≡ length (own ++ base) = omega (arith, same, long) in
          ap (lookup (b ∷ own ++ base)) at ∙ lookup-newest b (own ++ base)
          ∙ sym (ap (lookup (b ∷ own)) same ∙ lookup-newest b own)
      | inr other ↦
          lookup-other b (own ++ base) (length base + i) (λ e. other (omega (arith, e, long)))
          ∙ lookup-beyond own base i ∙ sym (lookup-other b own i other)
    ]

pub stands_more : (base own g : Context) (to : ℕ → ℕ) (index next position at after : ℕ)
    → StandsBelow (own ++ base) g to (length base + index) next
    → position ≡ length base + index → at ≡ to position → next ≤ at → after ≡ at + 1
    → option_map seen (lookup g at) ≡ option_map (λ entry. renamed_entry to (seen entry)) (lookup own index)
    → StandsBelow (own ++ base) g to (length base + (index + 1)) after
stands_more base own g to index next position at after s is there high then entry =
    let here : at ≡ to (length base + index) = there ∙ ap to is in
    stands_next (own ++ base) g to (length base + index) next (length base + (index + 1)) after s
    (subst (λ q. next ≤ q) here high) (omega arith) (then ∙ ap (λ q. q + 1) here)
    (ap (λ q. option_map seen (lookup g q)) (sym here) ∙ entry
    ∙ ap (option_map (λ entry. renamed_entry to (seen entry))) (sym (lookup-beyond own base index)))

pub stands_at_first : (base own g : Context) (to : ℕ → ℕ) (n next : ℕ) → IsWellFormedContext g → StandsOn base g
    → ((p : ℕ) → p < length base → to p ≡ p) → n ≡ length base → next ≡ length base → StandsBelow (own ++ base) g to n next
stands_at_first base own g to n next formed on stays is same =
    subst (λ m. StandsBelow (own ++ base) g to m next) (sym is)
    (subst (λ m. StandsBelow (own ++ base) g to (length base) m) (sym same) (stands_first base own g to formed on stays))

told_keyed : (oldest : ℕ) (log : List Placed) (lost : Bool) (small g : Context) (to : ℕ → ℕ) (name v : Var) (key right : Shape) (steps : ℕ)
    → oldest ≤ length small → ((p : ℕ) → p < oldest → to p ≡ p) → IsWellFormedContext small → IsWellFormedContext g → Embeds small g to
    → IsWellFormedShape small (TypeVariable name) → IsWellFormedShape small key
    → v ≡ renamed_variable to name → right ≡ renamed to key
    → told (goes oldest log lost) (bound_compared (comparison steps) g (bound_of g v) right)
    ≡ told (goes oldest log lost) (bound_compared (comparison steps) small (bound_of small name) key)
told_keyed oldest log lost small g to name v key right steps within stays formed larger embeds named shape a is =
    (λ i. told (goes oldest log lost) (bound_compared (comparison steps) g (bound_of g (a i)) (is i)))
    ∙ told_bound_embedded small g to (IsKindedContext-from small formed)
    (λ p h. older_members g (IsKindedContext-from g larger) (to p)) embeds oldest within stays
    (goes oldest log lost) (goes_again oldest log lost) steps name key
    (IsKinded-from (kinds_of small) [] (TypeVariable name) named) (IsKinded-from (kinds_of small) [] key shape)

-- a pair that is remembered matches where its entries stand
pub met_matches : (log : List Placed) (base g : Context) (pair : KeyedPair) (to : ℕ → ℕ) (v : Var) (right : Shape) (steps : ℕ) (lost : Bool)
    → ((p : ℕ) → p < length base → to p ≡ p)
    → IsWellFormedContext g → v ≡ renamed_variable to pair.variable → pair.steps ≤ steps → pair.lost ≡ lost
    → right ≡ renamed to (shape_of pair.right.value) → Embeds (context_of pair.entries ++ base) g to
    → is_keyed log base pair ≡ true → is_matched (length base) log g lost steps v right ≡ true
met_matches log base g pair to v right steps lost stays larger a h l is embeds k =
    let long = length-append (context_of pair.entries) base in
    let small : Context = context_of pair.entries ++ base in
    let name : Var = pair.variable in
    let key : Shape = shape_of pair.right.value in
    let parts = and_parts (is_well_formed_context small) (is_remembered_as (length base) log small pair.lost pair.steps name key) k in
    let here = remembered_more (length base) log lost small name key pair.steps steps h
    (subst (λ x. x ≡ true) (λ i. is_remembered_as (length base) log small (l i) pair.steps name key) parts.1) in
    let both = and_parts (is_well_formed_shape (kinds_of small) [] (TypeVariable name) && is_well_formed_shape (kinds_of small) [] key)
    (is_matched (length base) log small lost steps name key) here in
    let names = and_parts (is_well_formed_shape (kinds_of small) [] (TypeVariable name)) (is_well_formed_shape (kinds_of small) [] key) both.0 in
    subst (λ o. is_told o ≡ true)
    (sym (told_keyed (length base) log lost small g to name v key right steps (omega (arith, long)) stays parts.0 larger embeds names.0 names.1 a is)) both.1

-- what matches is remembered with the entries that it goes by
pub matches_keyed : (oldest : ℕ) (log : List Placed) (small g : Context) (to : ℕ → ℕ) (name v : Var) (key right : Shape) (steps : ℕ) (lost : Bool)
    → oldest ≤ length small → ((p : ℕ) → p < oldest → to p ≡ p) → IsWellFormedContext small → IsWellFormedContext g → Embeds small g to
    → IsWellFormedShape small (TypeVariable name) → IsWellFormedShape small key
    → v ≡ renamed_variable to name → right ≡ renamed to key → is_matched oldest log g lost steps v right ≡ true
    → (is_well_formed_context small && is_remembered_as oldest log small lost steps name key) ≡ true
matches_keyed oldest log small g to name v key right steps lost within stays formed larger embeds named shape a is k =
    and_from (is_well_formed_context small) (is_remembered_as oldest log small lost steps name key) formed
    (and_from (is_well_formed_shape (kinds_of small) [] (TypeVariable name) && is_well_formed_shape (kinds_of small) [] key)
    (is_matched oldest log small lost steps name key)
    (and_from (is_well_formed_shape (kinds_of small) [] (TypeVariable name)) (is_well_formed_shape (kinds_of small) [] key) named shape)
    (subst (λ o. is_told o ≡ true)
    (told_keyed oldest log lost small g to name v key right steps within stays formed larger embeds named shape a is) k))

compared : (g : Context) (v : Var) (bound right read : Shape) (steps : ℕ)
    → IsWellFormedContext g → bound_of g v ≡ Some bound → read ≡ read_shape (length g) right
    → bound_compared (comparison steps) g (bound_of g v) read
    ≡ comparison steps g (read_shape (length g) bound) (read_shape (length g) right)
compared g v bound right read steps formed there same =
    (λ i. bound_compared (comparison steps) g (there i) (same i))
    ∙ ap (λ b. comparison steps g b (read_shape (length g) right)) (sym (bound_read g v bound formed there))

-- what matches so need not be gone through
pub matched_keeps : (oldest : ℕ) (lost : Bool) (at : Place) (g : Context) (v : Var) (bound right read : Shape) (steps : ℕ)
    (was is : Bool) (log : List Placed)
    → IsWellFormedContext g → bound_of g v ≡ Some bound → read ≡ read_shape (length g) right
    → (lost ≡ true → has_lost log ≡ true) → (is ≡ true → (was ≡ true) × (lost ≡ false))
    → is_matched oldest log g lost steps v read ≡ true
    → Keeps oldest false at (comparison steps g (read_shape (length g) bound) (read_shape (length g) right)) true was is log log
matched_keeps oldest lost at g v bound right read steps was is log formed there same l w h =
    told_keeps oldest lost at (comparison steps g (read_shape (length g) bound) (read_shape (length g) right)) was is log l w
    (subst (λ x. is_told (told (goes oldest log lost) x) ≡ true) (compared g v bound right read steps formed there same) h)

pub settled_matched : (oldest : ℕ) (at : Place) (g : Context) (v : Var) (bound right read : Shape) (steps : ℕ) (was is : Bool)
    (before after : List Placed)
    → IsWellFormedContext g → bound_of g v ≡ Some bound → read ≡ read_shape (length g) right → is ≡ true
    → Keeps oldest false at (comparison steps g (read_shape (length g) bound) (read_shape (length g) right)) true was is before after
    → is_matched oldest after g false steps v read ≡ true
settled_matched oldest at g v bound right read steps was is before after formed there same e k =
    subst (λ x. is_told (told (goes oldest after false) x) ≡ true) (sym (compared g v bound right read steps formed there same))
    (settled_told oldest at (comparison steps g (read_shape (length g) bound) (read_shape (length g) right)) was is before after e k)

pub lost_matched : (oldest : ℕ) (at : Place) (g : Context) (v : Var) (bound right read : Shape) (steps : ℕ) (was is : Bool)
    (before after : List Placed)
    → IsWellFormedContext g → bound_of g v ≡ Some bound → read ≡ read_shape (length g) right
    → length after ≡ length before
    → Keeps oldest false at (comparison steps g (read_shape (length g) bound) (read_shape (length g) right)) true was is before after
    → is_matched oldest after g true steps v read ≡ true
lost_matched oldest at g v bound right read steps was is before after formed there same e k =
    subst (λ x. is_told (told (goes oldest after true) x) ≡ true) (sym (compared g v bound right read steps formed there same))
    (lost_told oldest at (comparison steps g (read_shape (length g) bound) (read_shape (length g) right)) was is before after e k)

-- one of the pairs that are remembered
pub among_keyed : (log : List Placed) (base : Context) (pairs : List KeyedPair) (i : ℕ) (pair : KeyedPair) → i < length pairs
    → pair ≡ get_or pairs i pair → list_all (is_keyed log base) pairs ≡ true → is_keyed log base pair ≡ true
among_keyed log base [] i pair below is k = absurd (omega arith)
among_keyed log base (x ∷ pairs) zero pair below is k =
    ap (is_keyed log base) is ∙ (and_parts (is_keyed log base x) (list_all (is_keyed log base) pairs) k).0
among_keyed log base (x ∷ pairs) (suc i) pair below is k =
    among_keyed log base pairs i pair (omega arith) is (and_parts (is_keyed log base x) (list_all (is_keyed log base) pairs) k).1

-- nothing is remembered at first
pub none_keyed : (log : List Placed) (base : Context) (pairs : List KeyedPair) → pairs ≡ [] → list_all (is_keyed log base) pairs ≡ true
none_keyed log base pairs e = ap (list_all (is_keyed log base)) e

-- What is remembered behind a log is so behind a longer one.
pub keyed_later : (log : List Placed) (p : Placed) (base : Context) (pairs : List KeyedPair) → list_all (is_keyed log base) pairs ≡ true
    → list_all (is_keyed (log ++ p ∷ []) base) pairs ≡ true
keyed_later log p base [] h = refl
keyed_later log p base (x ∷ pairs) h =
    let both = and_parts (is_keyed log base x) (list_all (is_keyed log base) pairs) h in
    let small : Context = context_of x.entries ++ base in
    let parts = and_parts (is_well_formed_context small) (is_remembered_as (length base) log small x.lost x.steps x.variable (shape_of x.right.value)) both.0 in
    and_from (is_keyed (log ++ p ∷ []) base x) (list_all (is_keyed (log ++ p ∷ []) base) pairs)
    (and_from (is_well_formed_context small) (is_remembered_as (length base) (log ++ p ∷ []) small x.lost x.steps x.variable (shape_of x.right.value)) parts.0
    (remembered_as_later (length base) log p small x.lost x.steps x.variable (shape_of x.right.value) parts.1))
    (keyed_later log p base pairs both.1)
