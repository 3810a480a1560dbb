-- What stands between two look-ups of the walk along declared sets.
use Rattle.std.proofs.Common.{◌≡◌, ◌≢◌, ◌↔◌, ◌⊎◌, ℕ, ◌<◌, ◌≤◌, Bool, true, false, List, [], length, set, Option, Some}
use Rattle.std.proofs.Common.{None, refl, sym, ap, ◌∙◌, subst, inl, inr, arith}
use Rattle.std.proofs.lemmas.Bool.{cases_eq, false_from_ne_true}
use Rattle.std.proofs.lemmas.List.{get_or-set_other, length-set}
use Rattle.cc_capture.specs.declared.var.Var.TheVariants.{Free}
use Rattle.cc_capture.specs.declared.var.Elem.{Elem}
use Rattle.cc_capture.specs.declared.var.Elem.TheVariants.{Var as Variable}
use Rattle.cc_capture.specs.Sets.{Set, Member, empty}
use Rattle.cc_capture.proofs.Membership.{Member-empty}
use Rattle.cc_core.specs.Shapes.{Shape}
use Rattle.cc_core.specs.Contexts.{Bind, TermEntry, TypeEntry, Context, lookup}
use Rattle.cc_core.specs.WellFormed.{IsWellFormedSet}
use Rattle.cc_sets.specs.Marked.{is_marked, IsClear, IsLastMarked}
use Rattle.cc_sets.proofs.SubcapturingSearch.{IsLower, set_lower, others_marked, lower_marked, true_not_false}
use Rattle.cc_solve.specs.Ends.{IsEnd, Leads, ends, through, LeadsFrom, Puts, PutsEntry}

-- The ends have nothing but what the set leads to, and so has what is marked; and what the set leads to is among the
-- ends, or what is marked leads there.
pub record Follows (root : ℕ) (context : Context) (start : Set) (marks : List Bool) (found : Set) : Type 0 where
  pub local : (p : ℕ) → is_marked p marks ≡ true → root ≤ p
  pub found_only : (e : Elem) → Member e found → LeadsFrom root context start e
  pub marked_only : (p : ℕ) → is_marked p marks ≡ true → (e : Elem) → Leads root context (Variable (Free p)) e → LeadsFrom root context start e
  pub all : (e : Elem) → LeadsFrom root context start e
      → Member e found ⊎ ((p : ℕ) × (is_marked p marks ≡ true) × Leads root context (Variable (Free p)) e)

-- a member of a set that was put leads to an end, or to what is then marked
member_leads : (root : ℕ) (context : Context) (declared : Set) (old new : List Bool) (before after : Set) → Puts root (λ e. Member e declared) old new before after
    → {from e : Elem} → Leads root context from e → Member from declared
    → Member e after ⊎ ((p : ℕ) × (is_marked p new ≡ true) × Leads root context (Variable (Free p)) e)
member_leads root context declared old new before after put (ends {e = e} end) m = inl (put.all e m end)
member_leads root context declared old new before after put (through {position = p} from there' m' k) m = inr (p, put.marks_all p m from, through from there' m' k)

pub follows_first : (root : ℕ) (context : Context) (start : Set) (old new : List Bool) (before after : Set) → IsClear old → before ≡ empty
    → Puts root (λ e. Member e start) old new before after → Follows root context start new after
follows_first root context start old new before after clear none put = record {
  local = λ p m.
      elim (put.marks_only p m) as (λ _. root ≤ p) [ inl was ↦ true_not_false was (clear p) | inr fact ↦ fact.1 ];
  found_only = λ e m.
      elim (put.only e m) as (λ _. LeadsFrom root context start e) [
        | inl was ↦ absurd (Member-empty e (subst (Member e) none was))
        | inr fact ↦ (e, fact.0, ends fact.1)
      ];
  marked_only = λ p m e k.
      elim (put.marks_only p m) as (λ _. LeadsFrom root context start e) [
        | inl was ↦ true_not_false was (clear p)
        | inr fact ↦ (Variable (Free p), fact.0, k)
      ];
  all = λ e lead. member_leads root context start old new before after put lead.2 lead.1;
}

same_declared : {s s' : Shape} {d d' : Set} → Some (TermEntry s d) ≡ Some (TermEntry s' d') → d ≡ d'
same_declared same = cc

-- a local variable leads where a member of its declared set does
local_leads : {root : ℕ} {context : Context} {x e : Elem} → Leads root context x e → (p : ℕ) → x ≡ Variable (Free p) → root ≤ p → (shape : Shape) (declared : Set)
    → lookup context p ≡ Some (TermEntry shape declared) → (from : Elem) × Member from declared × Leads root context from e
local_leads {root} (ends end) p same from shape declared there' =
    let below : p < root = subst (IsEnd root) same end in absurd (omega (arith, below, from))
local_leads {context = context} (through {position = q} {declared = d} {from = x} from' there'' m k) p same from shape declared there' =
    let is : q ≡ p = cc in
    let own : d ≡ declared = same_declared (sym there'' ∙ ap (lookup context) is ∙ there') in
    (x, subst (Member x) own m, k)

local_nowhere : {root : ℕ} {context : Context} {x e : Elem} → Leads root context x e → (p : ℕ) → x ≡ Variable (Free p) → root ≤ p
    → ((shape : Shape) (declared : Set) → lookup context p ≡ Some (TermEntry shape declared) → ⊥) → ⊥
local_nowhere {root} (ends end) p same from none =
    let below : p < root = subst (IsEnd root) same end in omega (arith, below, from)
local_nowhere {context = context} (through {position = q} {shape = s} {declared = d} from' there'' m k) p same from none =
    let is : q ≡ p = cc in none s d (sym (ap (lookup context) is) ∙ there'')

module _ (root : ℕ) (context : Context) (start : Set) (marks : List Bool) (found : Set) (p : ℕ) (old : Follows root context start marks found) (last : IsLastMarked p marks) where
  -- what is marked beside the position that is looked up
  others : (q : ℕ) → is_marked q (set marks p false) ≡ true → is_marked q marks ≡ true
  others q m = (others_marked marks p q m).1

  stays : (q : ℕ) → q ≢ p → is_marked q marks ≡ true → is_marked q (set marks p false) ≡ true
  stays q apart m = get_or-set_other marks p q false false apart ∙ m

  followed : (shape : Shape) (declared : Set) (new : List Bool) (after : Set) → lookup context p ≡ Some (TermEntry shape declared)
      → Puts root (λ e. Member e declared) (set marks p false) new found after → Follows root context start new after
  followed shape declared new after there' put = record {
    local = λ q m. elim (put.marks_only q m) as (λ _. root ≤ q) [ inl was ↦ old.local q (others q was) | inr fact ↦ fact.1 ];
    found_only = λ e m.
        elim (put.only e m) as (λ _. LeadsFrom root context start e) [
          | inl was ↦ old.found_only e was
          | inr fact ↦ old.marked_only p last.0 e (through (old.local p last.0) there' fact.0 (ends fact.1))
        ];
    marked_only = λ q m e k.
        elim (put.marks_only q m) as (λ _. LeadsFrom root context start e) [
          | inl was ↦ old.marked_only q (others q was) e k
          | inr fact ↦ old.marked_only p last.0 e (through (old.local p last.0) there' fact.0 k)
        ];
    all = λ e lead.
        elim (old.all e lead) as (λ _. Member e after ⊎ ((q : ℕ) × (is_marked q new ≡ true) × Leads root context (Variable (Free q)) e)) [
          | inl was ↦ inl (put.kept e was)
          | inr (q, m, k) ↦
              elim (cases_eq q p) as (λ _. Member e after ⊎ ((q' : ℕ) × (is_marked q' new ≡ true) × Leads root context (Variable (Free q')) e)) [
                | inl is ↦
                    let more = local_leads k p (ap (λ n. Variable (Free n)) is) (old.local p last.0) shape declared there' in
                    member_leads root context declared (set marks p false) new found after put more.2 more.1
                | inr apart ↦ inr (q, put.marks_kept q (stays q apart m), k)
              ]
        ];
  }

  skipped : (new : List Bool) (after : Set) → ((shape : Shape) (declared : Set) → lookup context p ≡ Some (TermEntry shape declared) → ⊥)
      → new ≡ set marks p false → after ≡ found → Follows root context start new after
  skipped new after none is same = record {
    local = λ q m. old.local q (others q (subst (λ l. is_marked q l ≡ true) is m));
    found_only = λ e m. old.found_only e (subst (Member e) same m);
    marked_only = λ q m e k. old.marked_only q (others q (subst (λ l. is_marked q l ≡ true) is m)) e k;
    all = λ e lead.
        elim (old.all e lead) as (λ _. Member e after ⊎ ((q : ℕ) × (is_marked q new ≡ true) × Leads root context (Variable (Free q)) e)) [
          | inl was ↦ inl (subst (Member e) (sym same) was)
          | inr (q, m, k) ↦
              elim (cases_eq q p) as (λ _. Member e after ⊎ ((q' : ℕ) × (is_marked q' new ≡ true) × Leads root context (Variable (Free q')) e)) [
                | inl is' ↦ absurd (local_nowhere k p (ap (λ n. Variable (Free n)) is') (old.local p last.0) none)
                | inr apart ↦ inr (q, subst (λ l. is_marked q l ≡ true) (sym is) (stays q apart m), k)
              ]
        ];
  }

  by_entry : (entry : Option Bind) (new : List Bool) (after : Set) → lookup context p ≡ entry → PutsEntry root entry (set marks p false) new found after
      → Follows root context start new after
  by_entry (Some (TermEntry shape declared)) new after there' put = followed shape declared new after there' put
  by_entry (Some (TypeEntry bound)) new after there' put = skipped new after (λ s d e. type_no_term (sym there' ∙ e)) put.0 put.1
    where
      type_no_term : {b : Shape} {s : Shape} {d : Set} → Some (TypeEntry b) ≡ Some (TermEntry s d) → ⊥
      type_no_term same = cc
  by_entry None new after there' put = skipped new after (λ s d e. none_no_term (sym there' ∙ e)) put.0 put.1
    where
      none_no_term : {s : Shape} {d : Set} → None ≡ Some (TermEntry s d) → ⊥
      none_no_term same = cc

  pub follows_more : (new : List Bool) (after : Set) → PutsEntry root (lookup context p) (set marks p false) new found after → Follows root context start new after
  follows_more new after put = by_entry (lookup context p) new after refl put

pub follows_last : (root : ℕ) (context : Context) (start : Set) (marks : List Bool) (found : Set) → Follows root context start marks found → IsClear marks
    → (e : Elem) → Member e found ↔ LeadsFrom root context start e
follows_last root context start marks found old clear e = (
  old.found_only e,
  λ lead. elim (old.all e lead) as (λ _. Member e found) [ inl here ↦ here | inr (p, m, k) ↦ true_not_false m (clear p) ],
)

-- where marks may stand
pub puts_room : (root : ℕ) (entry : Option Bind) (marks new : List Bool) (p : ℕ) (before after : Set) → PutsEntry root entry (set marks p false) new before after
    → length new ≡ length marks
puts_room root (Some (TermEntry shape declared)) marks new p before after put = put.room ∙ length-set marks p false
puts_room root (Some (TypeEntry bound)) marks new p before after put = ap length put.0 ∙ length-set marks p false
puts_room root None marks new p before after put = ap length put.0 ∙ length-set marks p false

puts_lower : (root : ℕ) (entry : Option Bind) (marks new : List Bool) (p : ℕ) (before after : Set) → IsLastMarked p marks → IsLower p entry
    → PutsEntry root entry (set marks p false) new before after → (q : ℕ) → is_marked q new ≡ true → q < p
puts_lower root (Some (TermEntry shape declared)) marks new p before after last lower put q m =
    elim (put.marks_only q m) as (λ _. q < p) [ inl was ↦ lower_marked marks p q last was | inr fact ↦ lower q fact.0 ]
puts_lower root (Some (TypeEntry bound)) marks new p before after last lower put q m = lower_marked marks p q last (subst (λ l. is_marked q l ≡ true) put.0 m)
puts_lower root None marks new p before after last lower put q m = lower_marked marks p q last (subst (λ l. is_marked q l ≡ true) put.0 m)

pub puts_above : (root : ℕ) (entry : Option Bind) (marks new : List Bool) (p : ℕ) (before after : Set) → IsLastMarked p marks → IsLower p entry
    → PutsEntry root entry (set marks p false) new before after → (q : ℕ) → p ≤ q → is_marked q new ≡ false
puts_above root entry marks new p before after last lower put q from =
    false_from_ne_true _ (λ m. let low = puts_lower root entry marks new p before after last lower put q m in omega (arith, low, from))

pub first_puts_above : (root : ℕ) (context : Context) (start : Set) (old new : List Bool) (before after : Set) (n : ℕ) → IsWellFormedSet context start → length context ≡ n
    → IsClear old → Puts root (λ e. Member e start) old new before after → (q : ℕ) → n ≤ q → is_marked q new ≡ false
first_puts_above root context start old new before after n formed size clear put q from =
    false_from_ne_true _
    (λ m.
    elim (put.marks_only q m) as (λ _. ⊥) [
      | inl was ↦ true_not_false was (clear q)
      | inr fact ↦ let low = set_lower context start formed q fact.0 in omega (arith, low, size, from)
    ])

-- no marks
pub clear_none : (marks : List Bool) → marks ≡ [] → IsClear marks
clear_none marks none p = ap (is_marked p) none
